-- Document 01, "Who causes which refusal": the number of each, and 15 and 16 of the token writer.
-- Assumes nothing: these are definitions.
use Rattle.std.specs.Prelude.{ℕ, Result, Ok, Err}
use Rattle.refusal.specs.declared.Refusal.{Refusal}

abbrev pub number_of : Refusal → ℕ
number_of Refusal.MaxDoc = 1
number_of Refusal.Fields = 2
number_of Refusal.Lengths = 3
number_of Refusal.Leaves = 4
number_of Refusal.Postings = 5
number_of Refusal.Columns = 6
number_of Refusal.Records = 7
number_of Refusal.Values = 8
number_of Refusal.Boosts = 9
number_of Refusal.Positions = 10
number_of Refusal.Hits = 11
number_of Refusal.Buffers = 12
number_of Refusal.Target = 13
number_of Refusal.Picked = 14
number_of Refusal.Tokens = 15
number_of Refusal.Outputs = 16

-- the number of an answer: 0 where nothing is refused
abbrev pub refusal_of : {T : Type 0} → Result T Refusal → ℕ
refusal_of (Ok x) = 0
refusal_of (Err r) = number_of r
