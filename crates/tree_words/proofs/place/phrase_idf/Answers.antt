-- Each turn adds one term's idf to the sum in f64, which is narrowed at the end.
use Rattle.std.proofs.Common.{arith}
use Rattle.index.specs.IndexOf.{index_of}
use Rattle.tree_words.proofs.Idf.{idf-none, idf-more, idf-all, idf-not-nan}
use Rattle.tree_words.proofs.place.phrase_idf.Goals as goal

pub loop-j-init : goal.loop-j-init
loop-j-init c = idf-none (index_of c.args.lent.now) c.args.query.now c.args.at

pub add_score-sum-requires : goal.add_score-sum-requires
add_score-sum-requires c =
    idf-not-nan (index_of c.args.lent.now) c.value.result c.idf_of.result c.requires.accepted (rw c.value.ensures (c.requires.leaves_there c.loop-j.j (omega arith))) c.idf_of.ensures

pub loop-j-preserved : goal.loop-j-preserved
loop-j-preserved c =
    let l = c.loop-j in
    idf-more (index_of c.args.lent.now) c.args.query.now c.args.at l.j c.value.result l.sum c.idf_of.result c.add_score-sum.result l.invariant c.value.ensures c.idf_of.ensures c.add_score-sum.ensures

pub returns : goal.returns
returns c =
    let l = c.loop-j in
    idf-all (index_of c.args.lent.now) c.args.query.now c.args.at l.j l.sum c.narrow.result (omega arith) l.invariant c.narrow.ensures
