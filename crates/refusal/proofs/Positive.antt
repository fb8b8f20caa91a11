-- No refusal has the number 0. Assumes nothing.
use Rattle.std.proofs.Common.{◌≡◌, arith}
use Rattle.refusal.specs.declared.Refusal.{Refusal}
use Rattle.refusal.specs.Numbers.{number_of}

pub number-not-0 : (r : Refusal) → number_of r ≡ 0 → ⊥
number-not-0 Refusal.MaxDoc h = omega arith
number-not-0 Refusal.Fields h = omega arith
number-not-0 Refusal.Lengths h = omega arith
number-not-0 Refusal.Leaves h = omega arith
number-not-0 Refusal.Postings h = omega arith
number-not-0 Refusal.Columns h = omega arith
number-not-0 Refusal.Records h = omega arith
number-not-0 Refusal.Values h = omega arith
number-not-0 Refusal.Boosts h = omega arith
number-not-0 Refusal.Positions h = omega arith
number-not-0 Refusal.Hits h = omega arith
number-not-0 Refusal.Buffers h = omega arith
number-not-0 Refusal.Target h = omega arith
number-not-0 Refusal.Picked h = omega arith
number-not-0 Refusal.Tokens h = omega arith
number-not-0 Refusal.Outputs h = omega arith
