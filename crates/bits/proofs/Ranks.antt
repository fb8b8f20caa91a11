-- How many bits below a place are set. Assumes nothing.
use Rattle.std.proofs.Common.{◌≡◌, refl, ap, ap₂, ◌∙◌, Bool, true, false, cond, ℕ, zero, suc, ◌+◌, ◌-◌, ◌*◌, ◌/◌, ◌%◌, ◌^◌, ◌<◌, bit_and, mod-lt, pow_pos, arith}
use native.Mathlib.Nat.{mod-one}
use lib.Count.{ones}
use Rattle.std.proofs.lemmas.Nat.{and_mask, mod-pow-add, ones_cat, one_shl}
use Rattle.meaning.specs.Below.{count_below}
use Rattle.bits.specs.Bit.{digit, bit}
use Rattle.bits.proofs.Laws.{bit-shift}

-- one digit more
split-top : (p w : ℕ) → w % 2 ^ suc p ≡ (w / 2 ^ p % 2) * 2 ^ p + w % 2 ^ p
split-top p w = let e : suc p ≡ 1 + p = omega arith in ap (λ (x : ℕ). w % 2 ^ x) e ∙ mod-pow-add w 1 p

one-digit : (d : ℕ) → d < 2 → ones d ≡ cond (digit d) 1 0
unfolding ones
one-digit zero h = refl
one-digit (suc zero) h = refl
one-digit (suc (suc d)) h = absurd (omega arith)

turned : (a b : Bool) (n : ℕ) → b ≡ a → cond a 1 0 + n ≡ n + cond b 1 0
turned true b n e = rw e (omega arith)
turned false b n e = rw e (omega arith)

pub ones-below : (p w : ℕ) → ones (w % 2 ^ p) ≡ count_below p (λ q. bit q w)
unfolding count_below ones bit
ones-below zero w = ap ones (mod-one w)
ones-below (suc p) w =
    ap ones (split-top p w) ∙ ones_cat p (w / 2 ^ p % 2) (w % 2 ^ p) (mod-lt w (pow_pos p))
    ∙ ap₂ (λ (x y : ℕ). x + y) (one-digit (w / 2 ^ p % 2) (mod-lt (w / 2 ^ p) (omega arith))) (ones-below p w)
    ∙ turned (digit (w / 2 ^ p % 2)) (bit p w) (count_below p (λ q. bit q w)) (bit-shift p w)

-- `(w & ((1 << p) - 1)).count_ones()`
pub rank : (p w : ℕ) → p < 64 → ones (bit_and w (1 * 2 ^ p % 2 ^ 64 - 1)) ≡ count_below p (λ q. bit q w)
rank p w h = ap (λ (x : ℕ). ones (bit_and w (x - 1))) (one_shl p 64 h) ∙ ap ones (and_mask w p) ∙ ones-below p w
