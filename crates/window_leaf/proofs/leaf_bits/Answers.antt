-- Kind by kind: which wanted documents of the window the leaf matches, and what its record stores.
use Rattle.std.proofs.Common.{refl, sym, ◌+◌, ◌≤◌, length, arith}
use Rattle.scorer_leaf.specs.Calls.{lists}
use Rattle.meaning.specs.Limits.{node_state_words}
use Rattle.window_words.specs.Windowed.{nowhere}
use Rattle.window_words.proofs.Laws.{windowed-long}
use Rattle.tree_weight.specs.ScorerTree.{matches}
use Rattle.tree_node.specs.declared.NodeKind.TheVariants.{Term, Phrase, Range, Everything}
use Rattle.tree_node.proofs.Windows.{word-read, word-unread}
use Rattle.window_leaf.proofs.Nodes.{wanted-answers, wanted-windowed, node-front, all-answer, none-answer}
use Rattle.window_leaf.proofs.leaf_bits.Goals as goal

pub bounds-states-0 : goal.bounds-states-0
bounds-states-0 c = let q = c.requires.bits_pre.1 in let z : node_state_words ≤ length c.args.states.now = windowed-long q.1 c.args.window.now.reader.ranges.now q.3 c.args.depth q.4 c.args.states.now c.args.window.now.base c.args.window.now.base nowhere q.7.held in omega (arith, z)

pub returns-in-Term-clause-bits_post : goal.returns-in-Term-clause-bits_post
returns-in-Term-clause-bits_post c = λ n all ix places s o h.
    let E = lists n c.args.window.now.reader.postings.now c.args.window.now.reader.positions.now c.args.window.now.reader.ranges.now in
    let a = c.term_bits.ensures E c.args.depth refl ix places s o h in (
      wanted-answers (matches ix s) c.args.window.now.base c.args.want c.term_bits.result _ c.both.result a.0 c.both.ensures,
      wanted-windowed ix c.args.window.now.reader.ranges.now s c.args.depth o c.term_bits.new.states (c.args.window.now.base + 64) c.args.window.now.base c.args.want a.1,
    )

pub returns-in-Phrase-clause-bits_post : goal.returns-in-Phrase-clause-bits_post
returns-in-Phrase-clause-bits_post c = λ n all. c.phrase_bits.ensures.phrase_post (lists n c.args.window.now.reader.postings.now c.args.window.now.reader.positions.now c.args.window.now.reader.ranges.now) c.args.depth refl refl

pub returns-in-Range-clause-bits_post : goal.returns-in-Range-clause-bits_post
returns-in-Range-clause-bits_post c = λ n all ix places s o h.
    let E = lists n c.args.window.now.reader.postings.now c.args.window.now.reader.positions.now c.args.window.now.reader.ranges.now in
    let a = c.range_bits.ensures E c.args.depth refl ix places s o h in (
      wanted-answers (matches ix s) c.args.window.now.base c.args.want c.range_bits.result _ c.both-in-Range.result a.0 c.both-in-Range.ensures,
      wanted-windowed ix c.args.window.now.reader.ranges.now s c.args.depth o c.range_bits.new.states (c.args.window.now.base + 64) c.args.window.now.base c.args.want a.1,
    )

pub put-requires : goal.put-requires
put-requires c = let q = c.requires.bits_pre.1 in node-front (lists q.0 c.args.window.now.reader.postings.now c.args.window.now.reader.positions.now c.args.window.now.reader.ranges.now) q.1 q.2 c.args.depth q.4 c.args.states.now c.args.window.now.base q.3 q.7

pub returns-in-Everything-clause-bits_post : goal.returns-in-Everything-clause-bits_post
returns-in-Everything-clause-bits_post c = λ n all ix places s o h. all-answer (lists n c.args.window.now.reader.postings.now c.args.window.now.reader.positions.now c.args.window.now.reader.ranges.now) ix places c.args.depth o c.args.states.now c.args.window.now.base (word-read _ Everything c.in-Everything.ensures refl) c.args.want c.put.new.states c.requires.bits_pre.0 all (rw (sym c.end.ensures) c.put.ensures) s h

pub put-requires-in_default : goal.put-requires-in_default
put-requires-in_default c = let q = c.requires.bits_pre.1 in node-front (lists q.0 c.args.window.now.reader.postings.now c.args.window.now.reader.positions.now c.args.window.now.reader.ranges.now) q.1 q.2 c.args.depth q.4 c.args.states.now c.args.window.now.base q.3 q.7

pub returns-in_default-clause-bits_post : goal.returns-in_default-clause-bits_post
returns-in_default-clause-bits_post c = λ n all ix places s o h. none-answer (lists n c.args.window.now.reader.postings.now c.args.window.now.reader.positions.now c.args.window.now.reader.ranges.now) ix places c.args.depth o c.args.states.now c.args.window.now.base (word-unread _ c.from.result Term c.from.ensures c.in_default.not-Term) (word-unread _ c.from.result Phrase c.from.ensures c.in_default.not-Phrase) c.requires.kind (word-unread _ c.from.result Range c.from.ensures c.in_default.not-Range) (word-unread _ c.from.result Everything c.from.ensures c.in_default.not-Everything) c.args.want c.put-in_default.new.states c.put-in_default.ensures s h
