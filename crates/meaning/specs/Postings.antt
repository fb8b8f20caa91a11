-- A leaf's posting for a document: its frequency and positions there. Assumes nothing: these are definitions.
use Rattle.std.specs.Prelude.{Bool, true, false, List, [], ℕ, eqb}
use Rattle.std.proofs.Math.Option.{Option, none, some}
use Rattle.meaning.specs.Below.{last_below, list_to}
use Rattle.meaning.specs.Lent.{Index, leaf_number, leaf_document, leaf_frequency, leaf_position}

-- which of the leaf's postings is the document's (in an accepted index no two are)
abbrev pub posting_at : Index → ℕ → ℕ → Option ℕ
posting_at ix l d = last_below (leaf_number ix l) (λ i. eqb (leaf_document ix l i) d)

-- "Term takes its postings' documents"
abbrev pub found : Option ℕ → Bool
found none = false
found (some i) = true

-- the frequency of the document's posting, and 0 without one
abbrev pub frequency_of : Index → ℕ → Option ℕ → ℕ
frequency_of ix l none = 0
frequency_of ix l (some i) = leaf_frequency ix l i

-- "Its positions are the next "frequency" entries of the position words", and none without a posting
abbrev pub positions_of : Index → ℕ → Option ℕ → List ℕ
positions_of ix l none = []
positions_of ix l (some i) = list_to (leaf_frequency ix l i) (leaf_position ix l i)
