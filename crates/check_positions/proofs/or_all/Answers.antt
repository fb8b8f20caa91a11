use Rattle.std.proofs.Common.{◌≡◌, rules, arith}
use Rattle.std.proofs.iter.runs.Made.{chains}
use Rattle.std.specs.List.{fold}
use lib.Bits.{bit_or}
use Rattle.check_positions.proofs.Gaps.{or-each}
use Rattle.check_positions.proofs.or_all.Goals as goal

pub returns : goal.returns
returns c =
    let folded : c.fold.result ≡ fold bit_or 0 c.args.part.now = search (rules, chains) in
    λ k l. omega (arith, folded, or-each c.args.part.now 0 k l)
