-- Lucene's SmallFloat: the code of a field's length in one byte, and its decoding. Assumes nothing: these are definitions.
use Rattle.std.specs.Prelude.{cond, ℕ, ◌+◌, ◌-◌, ◌*◌, ◌/◌, ◌%◌, ◌^◌, ltb}
use Rattle.std.specs.Float.Ieee.{size}

-- longToInt4: a number of fewer than four binary digits is its own code; else the shift + 1 in front of the three digits after the first
unfoldable pub long_to_int4 : ℕ → ℕ
long_to_int4 i = cond (ltb (size i) 4) i ((size i - 4 + 1) * 8 + i / 2 ^ (size i - 4) % 8)

-- int4ToLong
unfoldable pub int4_to_long : ℕ → ℕ
int4_to_long i = cond (ltb i 8) i ((8 + i % 8) * 2 ^ (i / 8 - 1))

-- MAX_INT4, the code of Integer.MAX_VALUE
unfoldable pub max_int4 : ℕ
max_int4 = long_to_int4 2147483647

-- NUM_FREE_VALUES: the bytes that stand for themselves
unfoldable pub num_free_values : ℕ
num_free_values = 255 - max_int4

-- intToByte4
unfoldable pub int_to_byte4 : ℕ → ℕ
int_to_byte4 i = cond (ltb i num_free_values) i (num_free_values + long_to_int4 (i - num_free_values))

-- byte4ToInt: "Length decodes a norm byte"
unfoldable pub byte4_to_int : ℕ → ℕ
byte4_to_int b = cond (ltb b num_free_values) b (num_free_values + int4_to_long (b - num_free_values))
