-- The arithmetic of codes: sortable bits, the join of two 32-bit halves in one i64, and the way back. Assumes nothing.
use mathlib.Core.Path.{◌≡◌, refl, sym, ap, ◌∙◌}
use mathlib.Core.Logic.{◌⊎◌, inl, inr}
use mathlib.Core.Bool.{Bool, cond}
use Prim.Native.Nat.{ℕ, suc, ◌+◌, ◌-◌, ◌*◌, ◌/◌, ◌%◌, ◌^◌, ◌≤◌, ◌<◌}
use native.Mathlib.Decide.{dec_lt}
use native.Mathlib.Omega.{arith}
use borrow.Author.Tests.{le-leb, lt-leb, lt-ltb}
use lib.Bits.{bit_and, bit_or, bit_xor, xor_zero_r, and_comm, and_mask, xor_add_and, xor_comm, xor_block, or_shifted}
use lib.IntN.{ℤ, pos, negsuc, neg_ℤ, ◌+ℤ◌, ◌*ℤ◌}
use lib.Signed.{shr_z}
use mir.Syntax.{w32, w64}
use mir.Val.{SFits, of_z, to_z}
use mir.ValLaws.{to_z_pos, to_z-neg}
use Rattle.meaning.specs.Ieee754.{sortable_int, sortable_bits}
use Rattle.meaning.specs.Hits.{low_word}
use Rattle.collector.specs.Flipped.{flipped}

abbrev half : ℕ
half = 2147483648

abbrev full : ℕ
full = 4294967296

-- ---- all ones turn a number over
xor_ones : (k a m : ℕ) → a ≡ 2 ^ k - 1 → m < 2 ^ k → m % 2 ^ k ≡ m → bit_xor a m ≡ a - m
xor_ones k a m e h r = sums (bit_xor a m) (bit_and a m) a m (and_comm a m ∙ ap (bit_and m) e ∙ and_mask m k ∙ r) (xor_add_and a m)
  where
    sums : (x y a m : ℕ) → y ≡ m → x + y * 2 ≡ a + m → x ≡ a - m
    sums x y a m p q = omega arith

-- ---- sortable bits of a pattern
pub sortable-clear : (b : ℕ) → b < 2 ^ 31 → sortable_int b ≡ pos b
unfolding sortable_int
sortable-clear b h = ap (λ (t : Bool). cond t (negsuc (b % 2 ^ 31)) (pos b)) (lt-leb (2 ^ 31) b h)

pub sortable-set : (b : ℕ) → 2 ^ 31 ≤ b → sortable_int b ≡ negsuc (b % 2 ^ 31)
unfolding sortable_int
sortable-set b h = ap (λ (t : Bool). cond t (negsuc (b % 2 ^ 31)) (pos b)) (le-leb (2 ^ 31) b h)

pub clear-or-set : (b : ℕ) → (b < 2 ^ 31) ⊎ (2 ^ 31 ≤ b)
clear-or-set b = elim (dec_lt b (2 ^ 31)) [
  | yes h ↦ inl h
  | no h ↦ inr (omega (arith, h))
]

sign_clear : (b : ℕ) → b < 2 ^ 31 → b / half ≡ 0
sign_clear b h = omega arith

-- ---- an int whose 31 lower bits are inverted where it is negative

over : (n : ℕ) → n < 2 ^ 31 → bit_xor (full - suc n) 2147483647 ≡ full - suc (half - 1 - n)
over n h =
    let whole : full - suc n ≡ 1 * 2 ^ 31 + (half - suc n) = omega arith in
    let low : bit_xor (half - suc n) 2147483647 ≡ 2147483647 - (half - suc n) =
    xor_comm (half - suc n) 2147483647 ∙ xor_ones 31 2147483647 (half - suc n) refl (omega arith) (omega arith) in
    ap (λ (m : ℕ). bit_xor m 2147483647) whole
    ∙ xor_block 31 1 0 (half - suc n) 2147483647 (omega arith) (omega arith)
    ∙ omega (arith, low, xor_zero_r 1)

-- what the code of `float_to_sortable_int` and `sortable_bits` computes
pub turned : (i : ℤ) → SFits w32 i → to_z w32 (bit_xor (of_z w32 i) (bit_and (of_z w32 (shr_z (to_z w32 (of_z w32 i)) half)) 2147483647)) ≡ flipped i
turned (pos n) f =
    ap (λ (z : ℤ). to_z w32 (bit_xor n (bit_and (of_z w32 (shr_z z half)) 2147483647))) (to_z_pos w32 n f.sfits)
    ∙ ap (λ (s : ℕ). to_z w32 (bit_xor n (bit_and s 2147483647))) (sign_clear n f.sfits)
    ∙ ap (λ (m : ℕ). to_z w32 (bit_xor n m)) (and_mask 0 31) ∙ ap (to_z w32) (xor_zero_r n) ∙ to_z_pos w32 n f.sfits
turned (negsuc n) f =
    ap (λ (z : ℤ). to_z w32 (bit_xor (full - suc n) (bit_and (of_z w32 (shr_z z half)) 2147483647))) (to_z-neg w32 n f.sfits)
    ∙ ap (λ (s : ℕ). to_z w32 (bit_xor (full - suc n) (bit_and (full - suc s) 2147483647))) (sign_clear n f.sfits)
    ∙ ap (λ (m : ℕ). to_z w32 (bit_xor (full - suc n) m)) (and_mask 4294967295 31)
    ∙ ap (to_z w32) (over n f.sfits) ∙ to_z-neg w32 (half - 1 - n) (omega arith)

pub flipped-int : (b : ℕ) → b < 2 ^ 32 → flipped (to_z w32 b) ≡ sortable_int b
flipped-int b k = elim (clear-or-set b) [
  | inl h ↦ ap flipped (to_z_pos w32 b h) ∙ sym (sortable-clear b h)
  | inr h ↦
      let whole : b ≡ full - suc (full - 1 - b) = omega arith in
      let low : half - 1 - (full - 1 - b) ≡ b % 2 ^ 31 = omega arith in
      ap (λ (m : ℕ). flipped (to_z w32 m)) whole ∙ ap flipped (to_z-neg w32 (full - 1 - b) (omega arith)) ∙ ap negsuc low ∙ sym (sortable-set b h)
]

pub flipped-bits : (i : ℤ) → SFits w32 i → of_z w32 (flipped i) ≡ sortable_bits i
unfolding sortable_bits
flipped-bits (pos n) f = refl
flipped-bits (negsuc n) f = whole n f.sfits
  where
    whole : (n : ℕ) → n < 2 ^ 31 → full - suc (half - 1 - n) ≡ 2 ^ 31 + n
    whole n h = omega arith

-- ---- the join of the two halves
pub code-negative : (m low : ℕ) → low < 2 ^ 32 → negsuc m *ℤ pos (2 ^ 32) +ℤ pos low ≡ negsuc (m * full + (4294967295 - low))
code-negative m low h =
    ap (λ (k : ℕ). neg_ℤ (pos k) +ℤ pos low) (all m)
    ∙ ap (λ (t : Bool). cond t (negsuc (suc (m * full + 4294967295) - suc low)) (pos (low - suc (m * full + 4294967295)))) (lt-ltb low (suc (m * full + 4294967295)) (below m low h))
    ∙ ap negsuc (left m low h)
  where
    all : (m : ℕ) → suc m * full ≡ suc (m * full + 4294967295)
    all m = omega arith

    below : (m low : ℕ) → low < 2 ^ 32 → low < suc (m * full + 4294967295)
    below m low h = omega arith

    left : (m low : ℕ) → low < 2 ^ 32 → suc (m * full + 4294967295) - suc low ≡ m * full + (4294967295 - low)
    left m low h = omega arith

pub joined : (s : ℤ) (low : ℕ) → SFits w32 s → low < 2 ^ 31 → to_z w64 (bit_or (of_z w64 s * full % 2 ^ 64) low) ≡ s *ℤ pos (2 ^ 32) +ℤ pos low
joined (pos n) low f h =
    ap (λ (k : ℕ). to_z w64 (bit_or k low)) (whole n f.sfits) ∙ ap (to_z w64) (or_shifted n 32 low (omega arith)) ∙ to_z_pos w64 (n * full + low) (room n low f.sfits h)
  where
    whole : (n : ℕ) → n < 2 ^ 31 → n * full % 2 ^ 64 ≡ n * full
    whole n h = omega arith

    room : (n low : ℕ) → n < 2 ^ 31 → low < 2 ^ 31 → n * full + low < 2 ^ 63
    room n low h k = omega arith
joined (negsuc m) low f h =
    ap (λ (k : ℕ). to_z w64 (bit_or k low)) (whole m f.sfits)
    ∙ ap (to_z w64) (or_shifted (full - suc m) 32 low (omega arith) ∙ wrapped m low f.sfits h)
    ∙ to_z-neg w64 (m * full + (4294967295 - low)) (room m low f.sfits h) ∙ sym (code-negative m low (omega arith))
  where
    whole : (m : ℕ) → m < 2 ^ 31 → (18446744073709551616 - suc m) * full % 18446744073709551616 ≡ (full - suc m) * full
    whole m h = omega arith

    wrapped : (m low : ℕ) → m < 2 ^ 31 → low < 2 ^ 31 → (full - suc m) * full + low ≡ 18446744073709551616 - suc (m * full + (4294967295 - low))
    wrapped m low h k = omega arith

    room : (m low : ℕ) → m < 2 ^ 31 → low < 2 ^ 31 → m * full + (4294967295 - low) < 2 ^ 63
    room m low h k = omega arith

-- ---- taken apart again
pub low-joined : (s : ℤ) (low : ℕ) → low < 2 ^ 32 → low_word (s *ℤ pos (2 ^ 32) +ℤ pos low) ≡ low
low-joined (pos n) low h = go n low h
  where
    go : (n low : ℕ) → low < 2 ^ 32 → (n * full + low) % full ≡ low
    go n low h = omega arith
low-joined (negsuc m) low h = ap low_word (code-negative m low h) ∙ go m low h
  where
    go : (m low : ℕ) → low < 2 ^ 32 → full - 1 - (m * full + (4294967295 - low)) % full ≡ low
    go m low h = omega arith

pub high-joined : (s : ℤ) (low : ℕ) → low < 2 ^ 32 → shr_z (s *ℤ pos (2 ^ 32) +ℤ pos low) (2 ^ 32) ≡ s
high-joined (pos n) low h = ap pos (go n low h)
  where
    go : (n low : ℕ) → low < 2 ^ 32 → (n * full + low) / full ≡ n
    go n low h = omega arith
high-joined (negsuc m) low h = ap (λ (z : ℤ). shr_z z (2 ^ 32)) (code-negative m low h) ∙ ap negsuc (go m low h)
  where
    go : (m low : ℕ) → low < 2 ^ 32 → (m * full + (4294967295 - low)) / full ≡ m
    go m low h = omega arith

-- ---- what the code of `to_doc` and `to_score` computes
pub low-is : (c : ℤ) → SFits w64 c → to_z w64 (bit_and (of_z w64 c) 4294967295) ≡ pos (low_word c)
low-is (pos n) f = ap (to_z w64) (and_mask n 32) ∙ to_z_pos w64 (n % full) (omega arith)
low-is (negsuc n) f = ap (to_z w64) (and_mask (18446744073709551616 - suc n) 32 ∙ go n f.sfits) ∙ to_z_pos w64 (full - 1 - n % full) (omega arith)
  where
    go : (n : ℕ) → n < 2 ^ 63 → (18446744073709551616 - suc n) % full ≡ full - 1 - n % full
    go n h = omega arith
