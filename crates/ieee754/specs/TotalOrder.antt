-- The key of a binary64 pattern. Assumes nothing: this is a definition.
use Rattle.std.specs.Prelude.{cond, ℕ, ◌+◌, ◌-◌, ◌^◌, leb}

-- the key whose order is totalOrder: a negative pattern inverted, a positive one above all of these
unfoldable pub total_key : ℕ → ℕ
total_key bits = cond (leb (2 ^ 63) bits) (2 ^ 64 - 1 - bits) (2 ^ 63 + bits)
