-- The documents of a run in a window of 64, as bits. Assumes nothing: these are definitions.
use Rattle.std.specs.Prelude.{◌≡◌, Bool, List, ℕ, ◌+◌, ◌≤◌, ◌<◌, eqb}
use Rattle.meaning.specs.Below.{any_below}
use Rattle.run.specs.Run.{document_at}
use Rattle.bits.specs.Bit.{bit}

-- a document is in the run
abbrev pub in_run : List ℕ → ℕ → ℕ → ℕ → ℕ → Bool
in_run words stride first count d = any_below count (λ i. eqb (document_at words stride first i) d)

-- a cursor stands at the first document of a run that is not below d
pub record Cursor (words : List ℕ) (stride first count d at : ℕ) : Type 0 where
  pub within : at ≤ count
  pub passed : (i : ℕ) → i < at → document_at words stride first i < d
  pub ahead : (i : ℕ) → at ≤ i → i < count → d ≤ document_at words stride first i

-- what a gathering gives: the window's documents, and the cursor behind them
pub record Gathers (words : List ℕ) (stride first count base from w at : ℕ) : Type 0 where
  pub bits : (p : ℕ) → p < 64 → bit p w ≡ in_run words stride first count (base + p)
  pub from-within : from ≤ at
  pub cursor : Cursor words stride first count (base + 64) at
