-- A range asked for a window: the bits of its bitmap from the window on, and its record with what is stored. Assumes nothing.
use Rattle.std.proofs.Common.{◌≡◌, sym, ap, ◌∙◌, Bool, false, ⊎_elim, List, ℕ, ◌+◌, ◌-◌, ◌*◌, ◌/◌, ◌%◌, ◌^◌, ◌≤◌, ◌<◌, pow-add, length, get_or, arith}
use native.Mathlib.Nat.{div-div-eq-div-mul}
use Rattle.std.proofs.lemmas.List.{get_or_past}
use Rattle.meaning.specs.Lent.{Index}
use Rattle.meaning.specs.Range.{NumericRange}
use Rattle.meaning.proofs.Tests.{cmp}
use Rattle.tree_weight.specs.State.{State}
use Rattle.tree_weight.specs.Held.{RangeIs}
use Rattle.bits.specs.Bit.{bit, Bitmap}
use Rattle.bits.proofs.Laws.{bit-zero, bit-low, bit-shift}
use Rattle.scorer_leaf.proofs.Bitmaps.{slice, slice-bitmap, slice-over}
use Rattle.window_leaf.specs.Runs.{run_answered, PartOf}

-- a word of a bitmap; behind its last word there are no bits
pub part-at : (bitmap : List ℕ) (at : ℕ) {w : ℕ} → w ≡ get_or bitmap at 0 → PartOf bitmap (32 * at) w
part-at bitmap at e P B over p l =
    let z : at ≡ 0 + at = omega arith in
    ap (bit p) e
    ∙ ⊎_elim
    (λ h. ap (λ (i : ℕ). bit p (get_or bitmap i 0)) z ∙ B at p h l)
    (λ h. ap (bit p) (get_or_past bitmap at 0 h) ∙ bit-zero p ∙ sym (over (32 * at + p) (omega arith)))
    (cmp at (length bitmap))

-- ---- 32 bits from any place on
-- `(w >> skip) % 2^32`
shifted : (w skip p : ℕ) → p < 32 → bit p (w / 2 ^ skip % 4294967296) ≡ bit (skip + p) w
shifted w skip p h =
    sym (bit-low 32 p (w / 2 ^ skip / 4294967296) (w / 2 ^ skip % 4294967296) h) ∙ ap (bit p) (whole (w / 2 ^ skip))
    ∙ bit-shift p (w / 2 ^ skip)
    ∙ ap (bit 0) (div-div-eq-div-mul w (2 ^ skip) (2 ^ p) ∙ ap (λ (x : ℕ). w / x) (sym (pow-add 2 skip p)))
    ∙ sym (bit-shift (skip + p) w)
  where
    whole : (x : ℕ) → x / 4294967296 * 2 ^ 32 + x % 4294967296 ≡ x
    whole x = omega arith

module _ (bitmap : List ℕ) (at low : ℕ) (low-part : PartOf bitmap (32 * (at / 32)) low) where
  pub part-even : at % 32 ≡ 0 → PartOf bitmap at low
  part-even e P B over p h = low-part P B over p h ∙ ap P (omega arith)

  pub part-across : (high w r : ℕ) → PartOf bitmap (32 * (at / 32 + 1)) high → ((q : ℕ) → q < 32 → bit q w ≡ bit q low) → ((q : ℕ) → 32 ≤ q → bit q w ≡ bit (q - 32) high) → r ≡ w / 2 ^ (at % 32) % 4294967296 → PartOf bitmap at r
  part-across high w r high-part lows highs e P B over p h =
      ap (bit p) e ∙ shifted w (at % 32) p h
      ∙ ⊎_elim
      (λ (l : at % 32 + p < 32). lows (at % 32 + p) l ∙ low-part P B over (at % 32 + p) l ∙ ap P (omega arith))
      (λ (g : 32 ≤ at % 32 + p). highs (at % 32 + p) g ∙ high-part P B over ((at % 32 + p) - 32) (omega arith) ∙ ap P (omega arith))
      (cmp (at % 32 + p) 32)

-- ---- the window's 64
pub window-part : (words : List ℕ) (first number base low high w : ℕ) → first + number ≤ length words → PartOf (slice words first number) base low → PartOf (slice words first number) (base + 32) high → ((q : ℕ) → q < 32 → bit q w ≡ bit q low) → ((q : ℕ) → 32 ≤ q → bit q w ≡ bit (q - 32) high) → (P : ℕ → Bool) → Bitmap P words first number → ((d : ℕ) → 32 * number ≤ d → P d ≡ false) → (p : ℕ) → p < 64 → bit p w ≡ P (base + p)
window-part words first number base low high w there lp hp lows highs P B over p h =
    let own = slice-bitmap words first number there P B in
    let past = slice-over words first number there P over in
    ⊎_elim (λ l. lows p l ∙ lp P own past p l) (λ g. highs p g ∙ hp P own past (p - 32) (omega arith) ∙ ap P (omega arith)) (cmp p 32)

-- ---- the record, with an answer stored
pub range-answered : (ix : Index) (R : List ℕ) (r : NumericRange) (s : State) (bits next : ℕ) → RangeIs ix R r s → RangeIs ix R r (run_answered s bits next)
range-answered ix R r s bits next p = record { kind-is = p.kind-is; size_is = p.size_is; number_is = p.number_is; there = p.there; bits = p.bits }
