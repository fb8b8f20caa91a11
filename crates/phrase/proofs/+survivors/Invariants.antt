-- Each call has fewer terms left, so the recursion ends.
use Rattle.std.proofs.Common.{◌-◌, length}
use Rattle.phrase.proofs.+survivors.Given as goal

abbrev pub decreases-survivors : goal.decreases-survivors
decreases-survivors l = length l.terms.now - l.at
