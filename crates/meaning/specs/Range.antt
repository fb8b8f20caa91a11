-- Document 01, "Meaning of the tree", and request 2026-03: the documents whose value lies in a range. Assumes nothing: these are definitions.
use Rattle.std.specs.Prelude.{Bool, true, not, cond, ◌&&◌, ◌||◌, List, ℕ, ◌-◌, ◌/◌, ◌%◌, ◌^◌, eqb, ltb, ℤ, pos, negsuc}
use Rattle.std.specs.Float.{binary64}
use Rattle.std.specs.Float.Ieee.{nan_bits}
use Rattle.std.specs.Int.Signed.{lt_z}
use Rattle.meaning.specs.Below.{list_below}
use Rattle.meaning.specs.Lent.{Index, column_type, value_present, value_bits}
use Rattle.meaning.specs.Ieee754.{total_below}

-- Range (column; lower kind + 3 × upper kind; the lower and the upper end as 64-bit patterns)
pub record NumericRange : Type 0 where
  pub column : ℕ
  pub kinds : ℕ
  pub lower : ℕ
  pub upper : ℕ

-- the number that a 64-bit pattern is as an i64
unfoldable pub i64_of : ℕ → ℤ
i64_of n = cond (ltb n (2 ^ 63)) (pos n) (negsuc (2 ^ 64 - 1 - n))

-- "i64 values as numbers and f64 values in IEEE 754's totalOrder"
unfoldable pub value_below : ℕ → ℕ → ℕ → Bool
value_below type x y = cond (eqb type 0) (lt_z (i64_of x) (i64_of y)) (total_below x y)

-- "0 is unbounded, 1 included, 2 excluded": v against the lower end x
unfoldable pub at_lower : ℕ → ℕ → ℕ → ℕ → Bool
at_lower kind type x v = cond (eqb kind 0) true (cond (eqb kind 1) (not (value_below type v x)) (value_below type x v))

-- and against the upper end
unfoldable pub at_upper : ℕ → ℕ → ℕ → ℕ → Bool
at_upper kind type x v = cond (eqb kind 0) true (cond (eqb kind 1) (not (value_below type x v)) (value_below type v x))

-- "The tester stores NaN where a measurement failed": in an f64 column any NaN, of either sign, quiet or signalling; in an i64 column no pattern
abbrev pub failed : ℕ → ℕ → Bool
failed type x = not (eqb type 0) && nan_bits binary64 x

-- "an absent value is never in it", and "a Range never lists a document whose f64 value is NaN"
abbrev pub comparable : Index → ℕ → ℕ → Bool
comparable ix c d = eqb (value_present ix c d) 1 && not (failed (column_type ix c) (value_bits ix c d))

-- "A NaN given as a range end lists no document": the end is unbounded, or a number
abbrev pub end_good : ℕ → ℕ → ℕ → Bool
end_good kind type x = eqb kind 0 || not (failed type x)

-- the document's value lies in the range
unfoldable pub in_range : Index → NumericRange → ℕ → Bool
in_range ix r d =
    let c = r.column in
    let type = column_type ix c in
    let v = value_bits ix c d in
    comparable ix c d && end_good (r.kinds % 3) type r.lower && end_good (r.kinds / 3) type r.upper && at_lower (r.kinds % 3) type r.lower v && at_upper (r.kinds / 3) type r.upper v

-- "Range lists a column's documents ascending"
unfoldable pub range_documents : Index → NumericRange → List ℕ
range_documents ix r = list_below ix.max_doc (in_range ix r)
