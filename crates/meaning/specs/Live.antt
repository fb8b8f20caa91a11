-- Document 01, "What a caller lends": which documents are live. Assumes nothing: these are definitions.
use Rattle.std.specs.Prelude.{Bool, true, cond, ℕ, ◌/◌, ◌%◌, ◌^◌, eqb, length, get_or}
use Rattle.meaning.specs.Lent.{Index}

-- document d is bit d mod 64 of word d div 64; no words at all means all are live
unfoldable pub is_live : Index → ℕ → Bool
is_live ix d = cond (eqb (length ix.live) 0) true (eqb (get_or ix.live (d / 64) 0 / 2 ^ (d % 64) % 2) 1)
