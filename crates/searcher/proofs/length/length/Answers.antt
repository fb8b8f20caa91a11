-- A norm byte's length is SmallFloat's.
use Rattle.meaning.specs.Entries.{length_answer}
use Rattle.searcher.proofs.length.length.Goals as goal

pub returns : goal.returns
unfolding length_answer
returns c = c.byte4_to_int.ensures
