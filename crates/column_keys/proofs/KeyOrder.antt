-- Keys lie in the order of the values, the ends of a range become an interval of keys, and a value is tested against
-- it. Assumes nothing.
use mathlib.Core.Path.{◌≡◌, refl, sym, ap, ◌∙◌}
use mathlib.Core.Logic.{⊎_elim}
use mathlib.Core.Bool.{Bool, true, false, not, cond, ◌&&◌, ◌||◌, and-true, false≢true}
use mathlib.Core.List.{List}
use Prim.Native.Nat.{ℕ, ◌+◌, ◌-◌, ◌*◌, ◌/◌, ◌%◌, ◌^◌, ◌≤◌, ◌<◌}
use native.Mathlib.Omega.{arith}
use native.Mathlib.Nat.{add_comm}
use lib.Dec.{eqb, leb, ltb}
use lib.Bits.{bit_xor, xor_comm, xor_shifted, xor_block, xor_self, xor_zero_r}
use lib.Ieee.{binary64, nan_bits}
use lib.Ieee.Bits.{nan_bits_above}
use lib.ListN.{get_or}
use lib.IntN.{pos, negsuc}
use lib.Signed.{lt_z}
use borrow.Author.Tests.{eq-eqb, ne_eqb, lt-ltb, le-ltb, le-leb, lt-leb}
use Rattle.meaning.specs.Lent.{joined}
use Rattle.meaning.specs.Range.{i64_of, value_below, at_lower, at_upper, failed, end_good}
use Rattle.meaning.specs.Ieee754.{total_below}
use Rattle.ieee754.specs.TotalOrder.{total_key}
use Rattle.ieee754.proofs.TotalOrder.{total-key, total-key-lt, key-clear, key_set}
use Rattle.std.specs.declared.ops.Bound.{Bound}
use Rattle.std.specs.declared.ops.Bound.TheVariants.{Included, Excluded, Unbounded}
use Rattle.std.specs.Range.Bound.{bound_map}
use Rattle.column_keys.specs.declared.column_type.ColumnType.TheVariants.{I64, F64}
use Rattle.column_keys.specs.Keys.{i64_key, value_key, between, key_at_lower, key_at_upper, number_key, range_key, value_in, type_number, type_of, end_kind, end_value, end_of}
use Rattle.meaning.proofs.Tests.{cmp, ltb-as-ltb}
use Rattle.column_keys.proofs.Tests.{leb-as-ltb, leb-as-leb, not-ltb}

-- ---- i64: a pattern without the sign bit, and one with it
i64_of-small : (a : ℕ) → a < 2 ^ 63 → i64_of a ≡ pos a
unfolding i64_of
i64_of-small a h = rw (lt-ltb a (2 ^ 63) h)

i64_of-large : (a : ℕ) → 2 ^ 63 ≤ a → i64_of a ≡ negsuc (2 ^ 64 - 1 - a)
unfolding i64_of
i64_of-large a h = rw (le-ltb a (2 ^ 63) h)

pub i64_key-small : (a : ℕ) → a < 2 ^ 63 → i64_key a ≡ a + 2 ^ 63
unfolding i64_key
i64_key-small a h = rw (lt-ltb a (2 ^ 63) h)

pub i64_key-large : (a : ℕ) → 2 ^ 63 ≤ a → i64_key a ≡ a - 2 ^ 63
unfolding i64_key
i64_key-large a h = rw (le-ltb a (2 ^ 63) h)

-- the sign bit inverted
pub xor-sign : (a : ℕ) → a < 2 ^ 64 → bit_xor a (2 ^ 63) ≡ i64_key a
xor-sign a f =
    ⊎_elim
    (λ h. xor_comm a (2 ^ 63) ∙ xor_shifted 1 63 a h ∙ sym (i64_key-small a h ∙ add_comm a (2 ^ 63)))
    (λ h.
    let r : 1 * 2 ^ 63 + (a - 2 ^ 63) ≡ a = omega arith in
    let turned : bit_xor 1 1 * 2 ^ 63 + bit_xor (a - 2 ^ 63) 0 ≡ i64_key a = omega (arith, xor_self 1, xor_zero_r (a - 2 ^ 63), i64_key-large a h) in
    ap (λ (n : ℕ). bit_xor n (2 ^ 63)) (sym r) ∙ xor_block 63 1 1 (a - 2 ^ 63) 0 (omega arith) (omega arith) ∙ turned)
    (cmp a (2 ^ 63))

pub i64_key-order : (a b : ℕ) → a < 2 ^ 64 → b < 2 ^ 64 → lt_z (i64_of a) (i64_of b) ≡ ltb (i64_key a) (i64_key b)
i64_key-order a b fa fb =
    ⊎_elim
    (λ ha. ⊎_elim
    (λ hb. rw (i64_of-small a ha, i64_of-small b hb, i64_key-small a ha, i64_key-small b hb) (ltb-as-ltb a b (a + 2 ^ 63) (b + 2 ^ 63) (λ h. omega arith) (λ h. omega arith)))
    (λ hb. rw (i64_of-small a ha, i64_of-large b hb, i64_key-small a ha, i64_key-large b hb) (sym (le-ltb (a + 2 ^ 63) (b - 2 ^ 63) (omega arith))))
    (cmp b (2 ^ 63)))
    (λ ha. ⊎_elim
    (λ hb. rw (i64_of-large a ha, i64_of-small b hb, i64_key-large a ha, i64_key-small b hb) (sym (lt-ltb (a - 2 ^ 63) (b + 2 ^ 63) (omega arith))))
    (λ hb. rw (i64_of-large a ha, i64_of-large b hb, i64_key-large a ha, i64_key-large b hb) (ltb-as-ltb (2 ^ 64 - 1 - b) (2 ^ 64 - 1 - a) (a - 2 ^ 63) (b - 2 ^ 63) (λ h. omega arith) (λ h. omega arith)))
    (cmp b (2 ^ 63)))
    (cmp a (2 ^ 63))

pub i64_key-fits : (a : ℕ) → a < 2 ^ 64 → i64_key a < 2 ^ 64
i64_key-fits a f = ⊎_elim (λ h. omega (arith, i64_key-small a h)) (λ h. omega (arith, i64_key-large a h)) (cmp a (2 ^ 63))

-- ---- f64: the NaNs lie beyond the keys of −infinity and +infinity, the least and the largest number
abbrev least_number_key : ℕ
least_number_key = 0x000f_ffff_ffff_ffff

abbrev largest_number_key : ℕ
largest_number_key = 0xfff0_0000_0000_0000

least-number : total_key 0xfff0_0000_0000_0000 ≡ least_number_key
unfolding total_key
least-number = refl

largest-number : total_key 0x7ff0_0000_0000_0000 ≡ largest_number_key
unfolding total_key
largest-number = refl

pub nan-above : (a : ℕ) → nan_bits binary64 a ≡ ltb 0x7ff0_0000_0000_0000 (a % 2 ^ 63)
nan-above a = nan_bits_above binary64 a

pub nan-by-key : (a : ℕ) → a < 2 ^ 64 → not (nan_bits binary64 a) ≡ between least_number_key largest_number_key (total_key a)
nan-by-key a f =
    rw (nan-above a, not-ltb 0x7ff0_0000_0000_0000 (a % 2 ^ 63))
    (⊎_elim
    (λ h. rw (← key-clear a h, le-leb least_number_key (a + 2 ^ 63) (omega arith)) (leb-as-leb (a % 2 ^ 63) 0x7ff0_0000_0000_0000 (a + 2 ^ 63) largest_number_key (λ g. omega arith) (λ g. omega arith)))
    (λ h. rw (← key_set a h, le-leb (2 ^ 64 - 1 - a) largest_number_key (omega arith)) (leb-as-leb (a % 2 ^ 63) 0x7ff0_0000_0000_0000 least_number_key (2 ^ 64 - 1 - a) (λ g. omega arith) (λ g. omega arith) ∙ sym (and-true _)))
    (cmp a (2 ^ 63)))

-- ---- a value of either type
module _ (type : ℕ) where
  pub value_key-i64 : type ≡ 0 → (a : ℕ) → value_key type a ≡ i64_key a
  unfolding value_key
  value_key-i64 e a = rw (eq-eqb type 0 e)

  pub value_key-f64 : (type ≡ 0 → ⊥) → (a : ℕ) → value_key type a ≡ total_key a
  unfolding value_key
  value_key-f64 e a = rw (ne_eqb type 0 e)

  pub value_key-fits : (a : ℕ) → a < 2 ^ 64 → value_key type a < 2 ^ 64
  unfolding value_key
  value_key-fits a f = go (eqb type 0)
    where
      go : (b : Bool) → cond b (i64_key a) (total_key a) < 2 ^ 64
      go true = i64_key-fits a f
      go false = total-key-lt a f

  -- a value below another has the lower key
  pub value_key-order : (a b : ℕ) → a < 2 ^ 64 → b < 2 ^ 64 → value_below type a b ≡ ltb (value_key type a) (value_key type b)
  unfolding value_key value_below
  value_key-order a b fa fb = go (eqb type 0)
    where
      go : (t : Bool) → cond t (lt_z (i64_of a) (i64_of b)) (total_below a b) ≡ ltb (cond t (i64_key a) (total_key a)) (cond t (i64_key b) (total_key b))
      go true = i64_key-order a b fa fb
      go false = total-key a b fa fb

  -- a value that has not failed is one with a number's key
  pub number-by-key : (a : ℕ) → a < 2 ^ 64 → not (failed type a) ≡ number_key type (value_key type a)
  unfolding number_key value_key
  number-by-key a f = go (eqb type 0)
    where
      go : (b : Bool) → not (not b && nan_bits binary64 a) ≡ (b || between (total_key 0xfff0_0000_0000_0000) (total_key 0x7ff0_0000_0000_0000) (cond b (i64_key a) (total_key a)))
      go true = refl
      go false = rw (least-number, largest-number) (nan-by-key a f)

  -- ---- an end of a range against a value, by their keys
  pub lower-by-key : (kind x v : ℕ) → x < 2 ^ 64 → v < 2 ^ 64 → at_lower kind type x v ≡ key_at_lower kind (value_key type x) (value_key type v)
  unfolding at_lower key_at_lower
  lower-by-key kind x v fx fv = rw (value_key-order v x fv fx, value_key-order x v fx fv, not-ltb (value_key type v) (value_key type x))

  pub upper-by-key : (kind x v : ℕ) → x < 2 ^ 64 → v < 2 ^ 64 → at_upper kind type x v ≡ key_at_upper kind (value_key type x) (value_key type v)
  unfolding at_upper key_at_upper
  upper-by-key kind x v fx fv = rw (value_key-order x v fx fv, value_key-order v x fv fx, not-ltb (value_key type x) (value_key type v))

-- ---- the keys that an end lets in, as an interval
pub no_key : (k : ℕ) → between 1 0 k ≡ false
no_key k = ⊎_elim (λ h. rw (lt-leb 1 k h)) (λ h. rw (le-leb 1 k h, lt-leb k 0 (omega arith))) (cmp k 1)

module _ (kind end k : ℕ) (fk : k < 2 ^ 64) where
  largest : leb k (2 ^ 64 - 1) ≡ true
  largest = le-leb k (2 ^ 64 - 1) (omega arith)

  pub lower-unbounded : kind ≡ 0 → between 0 (2 ^ 64 - 1) k ≡ key_at_lower kind end k
  unfolding key_at_lower
  lower-unbounded e = rw (eq-eqb kind 0 e, le-leb 0 k (omega arith), largest)

  pub lower-included : kind ≡ 1 → between end (2 ^ 64 - 1) k ≡ key_at_lower kind end k
  unfolding key_at_lower
  lower-included e = rw (ne_eqb kind 0 (λ z. omega arith), eq-eqb kind 1 e, largest) (and-true (leb end k))

  pub lower-excluded : (kind ≡ 0 → ⊥) → (kind ≡ 1 → ⊥) → between (end + 1) (2 ^ 64 - 1) k ≡ key_at_lower kind end k
  unfolding key_at_lower
  lower-excluded z o =
      rw (ne_eqb kind 0 z, ne_eqb kind 1 o, largest)
      (and-true (leb (end + 1) k) ∙ leb-as-ltb (end + 1) k end k (λ h. omega arith) (λ h. omega arith))

  pub lower-nothing : (kind ≡ 0 → ⊥) → (kind ≡ 1 → ⊥) → 2 ^ 64 - 1 ≤ end → between 1 0 k ≡ key_at_lower kind end k
  unfolding key_at_lower
  lower-nothing z o h = no_key k ∙ rw (ne_eqb kind 0 z, ne_eqb kind 1 o, le-ltb end k (omega arith))

  pub upper-unbounded : kind ≡ 0 → between 0 (2 ^ 64 - 1) k ≡ key_at_upper kind end k
  unfolding key_at_upper
  upper-unbounded e = rw (eq-eqb kind 0 e, le-leb 0 k (omega arith), largest)

  pub upper-included : kind ≡ 1 → between 0 end k ≡ key_at_upper kind end k
  unfolding key_at_upper
  upper-included e = rw (ne_eqb kind 0 (λ z. omega arith), eq-eqb kind 1 e, le-leb 0 k (omega arith))

  pub upper-excluded : (kind ≡ 0 → ⊥) → (kind ≡ 1 → ⊥) → 0 < end → between 0 (end - 1) k ≡ key_at_upper kind end k
  unfolding key_at_upper
  upper-excluded z o h =
      rw (ne_eqb kind 0 z, ne_eqb kind 1 o, le-leb 0 k (omega arith)) (leb-as-ltb k (end - 1) k end (λ g. omega arith) (λ g. omega arith))

  pub upper-nothing : (kind ≡ 0 → ⊥) → (kind ≡ 1 → ⊥) → end ≤ 0 → between 1 0 k ≡ key_at_upper kind end k
  unfolding key_at_upper
  upper-nothing z o h = no_key k ∙ rw (ne_eqb kind 0 z, ne_eqb kind 1 o, le-ltb k end (omega arith))

-- ---- the keys of a column's numbers, as an interval
module _ (type k : ℕ) (fk : k < 2 ^ 64) where
  pub numbers-f64 : (type ≡ 0 → ⊥) → between least_number_key largest_number_key k ≡ number_key type k
  unfolding number_key
  numbers-f64 e = rw (ne_eqb type 0 e, least-number, largest-number)

  pub numbers-i64 : type ≡ 0 → between 0 (2 ^ 64 - 1) k ≡ number_key type k
  unfolding number_key
  numbers-i64 e = rw (eq-eqb type 0 e, le-leb 0 k (omega arith), le-leb k (2 ^ 64 - 1) (omega arith))

-- ---- a range: the numbers' interval and the ends' in common, where both ends are good, and nothing where one is not
ends-good : (n g h l u : Bool) → (g && h) ≡ true → (n && (l && u)) ≡ (n && g && h && l && u)
ends-good false g h l u e = refl
ends-good true true true l u e = refl
ends-good true true false l u e = absurd (false≢true e)
ends-good true false h l u e = absurd (false≢true e)

module _ (type kinds lower upper k : ℕ) (g h : Bool) (lower-good : g ≡ end_good (kinds % 3) type lower) (upper-good : h ≡ end_good (kinds / 3) type upper) where
  pub range-common : (g && h) ≡ true → (n e : Bool) → n ≡ number_key type k → e ≡ (key_at_lower (kinds % 3) (value_key type lower) k && key_at_upper (kinds / 3) (value_key type upper) k) → (n && e) ≡ range_key type kinds lower upper k
  range-common good n e is ends = rw (← lower-good, ← upper-good, is, ends) (ends-good (number_key type k) g h _ _ good)

-- ---- the types and ends that the code has, and the numbers that they were read from
typed : (b : Bool) → eqb (type_number (cond b I64 F64)) 0 ≡ b
typed true = refl
typed false = refl

module _ (number : ℕ) where
  pub range-typed : (kinds lower upper k : ℕ) → range_key (type_number (type_of number)) kinds lower upper k ≡ range_key number kinds lower upper k
  unfolding number_key value_key
  range-typed kinds lower upper k = rw (typed (eqb number 0)) refl

  pub value_in-typed : (values : List ℕ) (at from to : ℕ) → value_in values at (type_number (type_of number)) from to ≡ value_in values at number from to
  unfolding value_in value_key
  value_in-typed values at from to = rw (typed (eqb number 0)) refl

-- an end of a kind, and its keys
module _ (type kind x k : ℕ) where
  abbrev end : Bool → Bool → Bound ℕ
  end a b = cond a Unbounded (cond b (Included x) (Excluded x))

  pub good-of : (e : Bound ℕ) → e ≡ end_of kind x → end_good (end_kind e) type (end_value e) ≡ end_good kind type x
  good-of e is = ap (λ (e : Bound ℕ). end_good (end_kind e) type (end_value e)) is ∙ go (eqb kind 0) (eqb kind 1)
    where
      go : (a b : Bool) → end_good (end_kind (end a b)) type (end_value (end a b)) ≡ (a || not (failed type x))
      go true b = refl
      go false true = refl
      go false false = refl

  abbrev keyed : Bound ℕ → Bound ℕ
  keyed e = bound_map (value_key type) e

  pub lower-of : (e d : Bound ℕ) → e ≡ end_of kind x → d ≡ keyed e → key_at_lower (end_kind d) (end_value d) k ≡ key_at_lower kind (value_key type x) k
  unfolding key_at_lower
  lower-of e d is keys = ap (λ (d : Bound ℕ). key_at_lower (end_kind d) (end_value d) k) (keys ∙ ap keyed is) ∙ go (eqb kind 0) (eqb kind 1)
    where
      go : (a b : Bool) → key_at_lower (end_kind (keyed (end a b))) (end_value (keyed (end a b))) k ≡ cond a true (cond b (leb (value_key type x) k) (ltb (value_key type x) k))
      go true b = refl
      go false true = refl
      go false false = refl

  pub upper-of : (e d : Bound ℕ) → e ≡ end_of kind x → d ≡ keyed e → key_at_upper (end_kind d) (end_value d) k ≡ key_at_upper kind (value_key type x) k
  unfolding key_at_upper
  upper-of e d is keys = ap (λ (d : Bound ℕ). key_at_upper (end_kind d) (end_value d) k) (keys ∙ ap keyed is) ∙ go (eqb kind 0) (eqb kind 1)
    where
      go : (a b : Bool) → key_at_upper (end_kind (keyed (end a b))) (end_value (keyed (end a b))) k ≡ cond a true (cond b (leb k (value_key type x)) (ltb k (value_key type x)))
      go true b = refl
      go false true = refl
      go false false = refl

-- ---- what is read of a value
pub value-tested : (values : List ℕ) (at type from to key : ℕ) → key ≡ value_key type (joined (get_or values (at + 1) 0) (get_or values (at + 2) 0)) → (eqb (get_or values at 0) 1 && between from to key) ≡ value_in values at type from to
unfolding value_in
value-tested values at type from to key is = ap (λ (k : ℕ). eqb (get_or values at 0) 1 && between from to k) is
