-- The records of the first j terms stand at the front.
use Rattle.std.proofs.Common.{◌*◌, take}
use Rattle.meaning.specs.Limits.{node_state_words}
use Rattle.meaning.specs.Below.{list_to}
use Rattle.index.specs.IndexOf.{index_of}
use Rattle.tree_weight.specs.Held.{TermsAre}
use Rattle.tree_words.proofs.PhraseParts.{term_at}
use Rattle.tree_words.proofs.place.place_terms.Given as goal

abbrev pub invariant-loop-j : goal.invariant-loop-j
invariant-loop-j l =
    TermsAre (index_of l.records.lent.now) (list_to l.j (term_at (index_of l.records.lent.now) l.records.query.now l.at)) (take (node_state_words * l.j) l.states) 0
