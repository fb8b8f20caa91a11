-- Intervals of bits, and those that stand for a range's keys. Assumes nothing: these are definitions.
use Rattle.std.specs.Prelude.{◌≡◌, Bool, ℕ, ◌+◌, ◌-◌, ◌%◌, ◌^◌, ◌<◌, leb}
use Rattle.column_keys.specs.Keys.{between, value_key, type_number}
use Rattle.column_keys.specs.declared.column_type.ColumnType.{ColumnType}
use Rattle.column_keys.specs.declared.keys.Keys.{Keys}
use Rattle.doc_values.specs.declared.interval.BitInterval.{BitInterval}

-- the bits lie from the interval's lowest on within its span, modulo 2^64
abbrev pub interval_has : BitInterval → ℕ → Bool
interval_has i bits = leb ((bits + (2 ^ 64 - i.low)) % 2 ^ 64) i.span

-- an interval has the bits whose keys are those of a range
abbrev pub SameBits : BitInterval → ColumnType → Keys → Type 0
SameBits i type keys =
    (x : ℕ) → x < 2 ^ 64 → interval_has i x ≡ between keys.from keys.to (value_key (type_number type) x)
