use Rattle.std.proofs.Common.{refl}
use Rattle.index.specs.IndexOf.{index_of}
use Rattle.tree_weight.proofs.Measures.{term-here, term-measured}
use Rattle.tree_measure.proofs.measure_term.Goals as goal

pub postings_of-postings-requires : goal.postings_of-postings-requires
postings_of-postings-requires c =
    term-here (index_of c.args.lent.now) c.args.query.now c.args.at c.value.result c.requires.asks.values-right c.requires.at_bound.0 c.requires.at_bound.1 c.value.ensures

pub returns : goal.returns
returns c =
    λ k D e. term-measured (index_of c.args.lent.now) c.args.query.now k c.args.at D e c.value.result c.postings_of-postings.result _ c.requires.at_bound.1 c.value.ensures c.postings_of-postings.ensures.0 c.postings_of-postings.ensures.1 refl
