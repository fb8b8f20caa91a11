-- Each turn takes the lesser of one term's number and the least so far.
use Rattle.std.proofs.Common.{arith}
use Rattle.index.specs.IndexOf.{index_of}
use Rattle.tree_weight.proofs.Phrases.{first-number, next-number}
use Rattle.tree_measure.proofs.phrase_postings.Goals as goal

pub loop-j-init : goal.loop-j-init
loop-j-init c = record {
  small = c.postings_of-fewest.ensures.1;
  fewest = first-number (index_of c.args.lent.now) c.args.query.now c.args.at c.value.result c.postings_of-fewest.result c.value.ensures c.postings_of-fewest.ensures.0;
}

pub loop-j-preserved : goal.loop-j-preserved
loop-j-preserved c = record {
  small = omega arith;
  fewest = next-number (index_of c.args.lent.now) c.args.query.now c.args.at c.loop-j.j c.loop-j.fewest c.value-in-loop-j.result c.postings_of.result c.min-fewest.result (omega arith) c.loop-j.invariant.fewest c.value-in-loop-j.ensures c.postings_of.ensures.0 (omega arith);
}
