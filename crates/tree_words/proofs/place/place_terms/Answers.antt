-- Each turn places one term more behind the others.
use Rattle.std.proofs.Common.{◌-◌, ◌*◌, length, take, drop, arith}
use borrow.Rule.Slice.PartMut.{post_of}
use Rattle.meaning.specs.Limits.{node_state_words}
use Rattle.index.specs.IndexOf.{index_of}
use Rattle.tree_words.proofs.PhraseParts.{terms-begin, terms-more, terms-all}
use Rattle.tree_words.proofs.place.place_terms.Goals as goal

pub loop-j-init : goal.loop-j-init
loop-j-init c = terms-begin (index_of c.args.records.now.lent.now) c.args.records.now.query.now c.args.at c.args.states.now

pub loop-j-preserved : goal.loop-j-preserved
loop-j-preserved c =
    let l = c.loop-j in
    let k = c.place_phrase_term in
    let part = take (length l.states - node_state_words * l.j) (drop (node_state_words * l.j) l.states) in
    terms-more (index_of c.args.records.now.lent.now) c.args.records.now.query.now c.args.at l.states k.new.states part (post_of (node_state_words * l.j) (length l.states - node_state_words * l.j) l.states) l.j c.value-leaf.result c.value-offset.result (omega arith) c.value-leaf.ensures c.value-offset.ensures k.ensures l.invariant

pub returns-clause-terms_are : goal.returns-clause-terms_are
returns-clause-terms_are c =
    terms-all (index_of c.args.records.now.lent.now) c.args.records.now.query.now c.args.at c.loop-j.states c.loop-j.j 0 (omega arith) c.loop-j.invariant
