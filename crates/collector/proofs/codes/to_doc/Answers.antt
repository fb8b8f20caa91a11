-- The mask is the lower word, and one above every document leaves 0.
use Rattle.std.proofs.Common.{ap, ◌∙◌, ◌-◌, ℤ, nat_abs}
use Rattle.meaning.specs.Hits.{to_doc}
use Rattle.collector.proofs.Halves.{low-is}
use Rattle.collector.proofs.codes.to_doc.Goals as goal

pub returns : goal.returns
unfolding to_doc
returns c = c.saturating_sub.ensures ∙ ap (λ (z : ℤ). 2147483647 - nat_abs z) (low-is c.args.code c.ranges.code)
