-- `bad` says whether one of the values passed has a presence other than 0 and 1.
use Rattle.std.proofs.Common.{◌≡◌, ltb, ◌*◌, get_or}
use Rattle.meaning.specs.Below.{any_below}
use Rattle.index.proofs.columns.wrong_presence.Given as goal

abbrev pub invariant-loop-present : goal.invariant-loop-present
invariant-loop-present l = l.bad ≡ any_below l.present-index (λ j. ltb 1 (get_or l.values (3 * j) 0))
