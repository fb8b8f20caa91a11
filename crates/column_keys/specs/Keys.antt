-- Values of a column as numbers in their order, and the ends of a range among them.
-- Assumes nothing: these are definitions.
use Rattle.std.specs.Prelude.{Bool, true, cond, ◌&&◌, ◌||◌, List, ℕ, ◌+◌, ◌-◌, ◌/◌, ◌%◌, ◌^◌, eqb, leb, ltb, get_or}
use Rattle.meaning.specs.Lent.{joined}
use Rattle.meaning.specs.Range.{end_good}
use Rattle.ieee754.specs.TotalOrder.{total_key}
use Rattle.index.specs.declared.columns.TheConstants.{LOW, HIGH}
use Rattle.std.specs.declared.ops.Bound.{Bound}
use Rattle.std.specs.declared.ops.Bound.TheVariants.{Included, Excluded, Unbounded}
use Rattle.column_keys.specs.declared.column_type.ColumnType.{ColumnType}
use Rattle.column_keys.specs.declared.column_type.ColumnType.TheVariants.{I64, F64}

-- ---- what the code has in place of the numbers of types and kinds
-- a column's type as its number, 0 for i64 and 1 for f64
abbrev pub type_number : ColumnType → ℕ
type_number I64 = 0
type_number F64 = 1

-- the type that a number is taken for
abbrev pub type_of : ℕ → ColumnType
type_of number = cond (eqb number 0) I64 F64

-- the kind of an end: "0 is unbounded, 1 included, 2 excluded"
abbrev pub end_kind : Bound ℕ → ℕ
end_kind Unbounded = 0
end_kind (Included x) = 1
end_kind (Excluded x) = 2

-- its pattern or key; an unbounded end has none
abbrev pub end_value : Bound ℕ → ℕ
end_value Unbounded = 0
end_value (Included x) = x
end_value (Excluded x) = x

-- the end of a kind and a pattern
abbrev pub end_of : ℕ → ℕ → Bound ℕ
end_of kind x = cond (eqb kind 0) Unbounded (cond (eqb kind 1) (Included x) (Excluded x))

-- ---- keys

-- the key of an i64 pattern: the sign bit inverted
unfoldable pub i64_key : ℕ → ℕ
i64_key bits = cond (ltb bits (2 ^ 63)) (bits + 2 ^ 63) (bits - 2 ^ 63)

-- a value's key by its column's type, 0 for i64 and 1 for f64
unfoldable pub value_key : ℕ → ℕ → ℕ
value_key type bits = cond (eqb type 0) (i64_key bits) (total_key bits)

-- k lies from one key to another, both included
abbrev pub between : ℕ → ℕ → ℕ → Bool
between from to k = leb from k && leb k to

-- "0 is unbounded, 1 included, 2 excluded": k against the key of the lower end
unfoldable pub key_at_lower : ℕ → ℕ → ℕ → Bool
key_at_lower kind end k = cond (eqb kind 0) true (cond (eqb kind 1) (leb end k) (ltb end k))

-- and against that of the upper end
unfoldable pub key_at_upper : ℕ → ℕ → ℕ → Bool
key_at_upper kind end k = cond (eqb kind 0) true (cond (eqb kind 1) (leb k end) (ltb k end))

-- the keys of a column's numbers: in an f64 column those from the key of −infinity to that of +infinity,
-- in an i64 column all
unfoldable pub number_key : ℕ → ℕ → Bool
number_key type k = eqb type 0 || between (total_key 0xfff0_0000_0000_0000) (total_key 0x7ff0_0000_0000_0000) k

-- the keys that a range lets in: those of numbers, where no given end is NaN, within both ends
abbrev pub range_key : ℕ → ℕ → ℕ → ℕ → ℕ → Bool
range_key type kinds lower upper k =
    number_key type k && end_good (kinds % 3) type lower && end_good (kinds / 3) type upper
    && key_at_lower (kinds % 3) (value_key type lower) k && key_at_upper (kinds / 3) (value_key type upper) k

-- the value whose three words stand at `at` is present and its key lies between the two
unfoldable pub value_in : List ℕ → ℕ → ℕ → ℕ → ℕ → Bool
value_in values at type from to =
    eqb (get_or values at 0) 1
    && between from to (value_key type (joined (get_or values (at + LOW) 0) (get_or values (at + HIGH) 0)))
