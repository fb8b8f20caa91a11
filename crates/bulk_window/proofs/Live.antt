-- The live word of a window, and its cut at the number of documents. Assumes nothing.
use Rattle.std.proofs.Common.{◌≡◌, refl, sym, ap, ◌∙◌, Bool, true, false, ◌&&◌, List, ℕ, ◌+◌, ◌-◌, ◌/◌, ◌%◌, ◌≤◌, ◌<◌, eqb, ltb, length, get_or, arith, lt-ltb, le-ltb}
use Rattle.meaning.specs.Live.{is_live}
use Rattle.index.specs.Slices.{live_only}
use Rattle.meaning.proofs.Tests.{cmp}
use mathlib.Core.Logic.{⊎_elim}
use Rattle.bits.specs.Bit.{bit}
use Rattle.bits.proofs.Laws.{bit-tested}

pub all-live : (live : List ℕ) (d : ℕ) → eqb (length live) 0 ≡ true → is_live (live_only live) d ≡ true
unfolding is_live
all-live live d e = rw e refl

pub word-live : (live : List ℕ) (base p : ℕ) → base % 64 ≡ 0 → p < 64 → eqb (length live) 0 ≡ false → bit p (get_or live (base / 64) 0) ≡ is_live (live_only live) (base + p)
unfolding is_live
word-live live base p e h z =
    let q : (base + p) / 64 ≡ base / 64 = omega arith in
    let r : (base + p) % 64 ≡ p = omega arith in
    rw (z, q, r) (sym (bit-tested p (get_or live (base / 64) 0)))

and-turned : (a b : Bool) → a && b ≡ b && a
and-turned true true = refl
and-turned true false = refl
and-turned false true = refl
and-turned false false = refl

ltb-moved : (base p n : ℕ) → base < n → ltb p (n - base) ≡ ltb (base + p) n
ltb-moved base p n l = ⊎_elim (λ (h : base + p < n). lt-ltb p (n - base) (omega arith) ∙ sym (lt-ltb (base + p) n h)) (λ (h : n ≤ base + p). le-ltb p (n - base) (omega arith) ∙ sym (le-ltb (base + p) n h)) (cmp (base + p) n)

-- cut at the number of documents
pub cut-live : (base p n : ℕ) (w r : ℕ) (l : Bool) → base < n → bit p w ≡ l → bit p r ≡ bit p w && ltb p (n - base) → bit p r ≡ ltb (base + p) n && l
cut-live base p n w r l h e f = f ∙ ap (λ (b : Bool). b && ltb p (n - base)) e ∙ and-turned l (ltb p (n - base)) ∙ ap (λ (b : Bool). b && l) (ltb-moved base p n h)

-- nothing to cut
pub whole-live : (base p n : ℕ) (w : ℕ) (l : Bool) → p < 64 → 64 ≤ n - base → bit p w ≡ l → bit p w ≡ ltb (base + p) n && l
whole-live base p n w l h m e = e ∙ ap (λ (b : Bool). b && l) (sym (lt-ltb (base + p) n (omega arith)))
