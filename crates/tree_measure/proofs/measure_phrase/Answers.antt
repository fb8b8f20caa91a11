-- The cost is the fewest postings of a term; where that is 0, some term has none and the phrase no scorer.
use Rattle.std.proofs.Common.{refl}
use Rattle.index.specs.IndexOf.{index_of}
use Rattle.tree_weight.proofs.Measures.{terms-here, phrase-measured}
use Rattle.tree_measure.proofs.measure_phrase.Goals as goal

pub phrase_postings-fewest-requires : goal.phrase_postings-fewest-requires
phrase_postings-fewest-requires c =
    let a = c.requires.asks in
    let t = terms-here (index_of c.args.lent.now) c.args.query.now c.args.lent.now.leaves.now c.args.at a.records-right a.values-right c.requires.at_bound.0 c.requires.at_bound.1 refl in
    record { terms_here = (t.room, t.some-terms); leaves_there = t.leaves-there }

pub returns : goal.returns
returns c =
    λ k D e. phrase-measured (index_of c.args.lent.now) c.args.query.now k c.args.at D e _ c.phrase_postings-fewest.result _ c.requires.at_bound.1 (rw c.children.ensures) c.phrase_postings-fewest.ensures.0 c.phrase_postings-fewest.ensures.1 refl
