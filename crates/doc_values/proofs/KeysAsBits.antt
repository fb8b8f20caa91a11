-- Bits lie in an interval of bits exactly where their key is one of a range's. Assumes nothing.
use Rattle.std.proofs.Common.{◌≡◌, refl, sym, ap, ◌∙◌, Bool, true, false, ◌&&◌, ◌⊎◌, inl, inr, ⊎_elim, ℕ, ◌+◌, ◌-◌, ◌%◌, ◌^◌, ◌≤◌, ◌<◌, leb, arith}
use mathlib.Core.Bool.{false≢true}
use denote.Enum.Bare.{sameb}
use Rattle.std.proofs.lemmas.Bool.{le-leb, lt-leb}
use Rattle.meaning.proofs.Tests.{cmp}
use Rattle.ieee754.specs.TotalOrder.{total_key}
use Rattle.ieee754.proofs.TotalOrder.{key-clear, key_set}
use Rattle.column_keys.specs.Keys.{i64_key, between, value_key, type_number}
use Rattle.column_keys.specs.contracts.column_type.ColumnType.{the_type}
use Rattle.column_keys.specs.declared.column_type.ColumnType.{ColumnType}
use Rattle.column_keys.specs.declared.column_type.ColumnType.TheVariants.{I64, F64}
use Rattle.column_keys.proofs.Tests.{leb-as-leb}
use Rattle.column_keys.proofs.KeyOrder.{i64_key-small, i64_key-large, value_key-i64, value_key-f64}

-- the interval begins at the lowest key with its sign bit inverted, and is as long as that of the keys
module _ (from to low x : ℕ) (order : from ≤ to) (fits : to < 2 ^ 64) (is : low ≡ (from + (2 ^ 64 - 2 ^ 63)) % 2 ^ 64) (small : x < 2 ^ 64) where
  -- how far the bits x lie from its first ones on
  abbrev ahead : ℕ
  ahead = (x + (2 ^ 64 - low)) % 2 ^ 64

  -- bits further on than its length, with a key below the range's
  beyond : (k : ℕ) → k < from → to - from < ahead → leb ahead (to - from) ≡ between from to k
  beyond k l h = lt-leb ahead (to - from) h ∙ sym (ap (λ (b : Bool). b && leb k to) (lt-leb from k l))

  -- bits whose key is themselves with the sign bit inverted
  turned : (k : ℕ) → k < 2 ^ 64 → x ≡ (k + 2 ^ 63) % 2 ^ 64 → leb ahead (to - from) ≡ between from to k
  turned k f t = ⊎_elim (λ l. beyond k l (omega (arith, is, t))) within (cmp k from)
    where
      within : from ≤ k → leb ahead (to - from) ≡ between from to k
      within g =
          let by : ahead ≡ k - from = omega (arith, is, t) in
          leb-as-leb ahead (to - from) k to (λ h. omega arith) (λ h. omega arith) ∙ sym (ap (λ (b : Bool). b && leb k to) (le-leb from k g))

  -- i64
  i64-bits : leb ahead (to - from) ≡ between from to (i64_key x)
  i64-bits = ⊎_elim (λ h. turned (i64_key x) (omega (arith, i64_key-small x h)) (omega (arith, i64_key-small x h))) (λ h. turned (i64_key x) (omega (arith, i64_key-large x h)) (omega (arith, i64_key-large x h))) (cmp x (2 ^ 63))

  -- f64, where each of the keys is that of a clear sign
  f64-bits : 2 ^ 63 ≤ from → leb ahead (to - from) ≡ between from to (total_key x)
  f64-bits g = ⊎_elim (λ h. turned (total_key x) (omega (arith, key-clear x h)) (omega (arith, key-clear x h))) (λ h. beyond (total_key x) (omega (arith, key_set x h)) (omega (arith, is))) (cmp x (2 ^ 63))

  -- either type, as the code tells them apart
  pub keys-as-bits : (type : ColumnType) (f64 : Bool) → f64 ≡ sameb the_type type F64 → (f64 ≡ true × 2 ^ 63 ≤ from) ⊎ (f64 ≡ false) → leb ahead (to - from) ≡ between from to (value_key (type_number type) x)
  keys-as-bits I64 f64 e either = i64-bits ∙ ap (between from to) (sym (value_key-i64 0 refl x))
  keys-as-bits F64 f64 e (inl clear) = f64-bits clear.1 ∙ ap (between from to) (sym (value_key-f64 1 (λ e. omega arith) x))
  keys-as-bits F64 f64 e (inr other) = absurd (false≢true (sym other ∙ e))
