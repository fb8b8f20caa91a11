-- Each loop has the contract for its kind of root, or of the root's only child; the words that a loop leaves as they were still hold the tree.
use Rattle.std.proofs.Common.{refl, sym, ◌-◌, take, drop, length, arith}
use Rattle.scorer_leaf.specs.Calls.{lists_of}
use Rattle.scorer_leaf.specs.Buffers.{places_in}
use Rattle.tree_node.proofs.Scorers.{term-word, everything-word}
use Rattle.bulk_scorer.proofs.Held.{root-words, root-end}
use Rattle.bulk.proofs.OnlyChild.{Part, whole-part, alone-part}
use Rattle.bulk.proofs.collect_matches.Goals as goal
use Rattle.bulk.proofs.collect_matches.Goals.{After-from, then-alone, else-alone}

pub bounds-part-0 : goal.bounds-part-0
bounds-part-0 c =
    let a = c.args in
    let r = c.requires.2 in
    let long = root-words (lists_of a.reader.now) a.reader.now.norms.now a.reader.now.live.now a.reader.now.inverses.now r.0 (places_in a.buffers.now) r.1 a.depth r.2 a.states.now r.3 in
    elim c.if-alone.branch [ then-alone w ↦ omega (arith, (c.alone.ensures w.if-alone.true).long, w.at-is) | else-alone w ↦ omega (arith, long, w.at-is) ]

-- the part that is read holds what the tree finds
part : (c : After-from) → Part (lists_of c.args.reader.now) c.args.reader.now.norms.now c.args.reader.now.live.now c.args.reader.now.inverses.now (places_in c.args.buffers.now) c.args.depth c.args.states.now (take (length c.args.states.now - c.if-alone.at) (drop c.if-alone.at c.args.states.now))
part c =
    let a = c.args in
    elim c.if-alone.branch [
      | then-alone w ↦ alone-part (lists_of a.reader.now) a.reader.now.norms.now a.reader.now.live.now a.reader.now.inverses.now (places_in a.buffers.now) a.depth a.states.now (c.alone.ensures w.if-alone.true) c.if-alone.at w.at-is
      | else-alone w ↦ whole-part (lists_of a.reader.now) a.reader.now.norms.now a.reader.now.live.now a.reader.now.inverses.now (places_in a.buffers.now) a.depth a.states.now c.if-alone.at w.at-is
    ]

pub collect_term-requires : goal.collect_term-requires
collect_term-requires c =
    let a = c.args in
    let r = c.requires.2 in
    let O = part (goal.at.collect_term-requires c).After-from r.0 r.1 r.2 r.3 in
    (lists_of a.reader.now, places_in a.buffers.now, O.deep, refl, term-word _ (sym c.in-Term.ensures), (c.requires.0, c.requires.1, (r.0, O.child, O.scores, O.held)))

pub returns-in-Term-clause-collect_post : goal.returns-in-Term-clause-collect_post
returns-in-Term-clause-collect_post c =
    let a = c.args in
    λ ix s scores H.
    let O = part (goal.at.returns-in-Term-clause-collect_post c).After-from ix s scores H in
    rw O.same (c.collect_term.ensures (lists_of a.reader.now) (places_in a.buffers.now) O.deep refl ix O.child O.scores O.held)

pub returns-in-Term-clause-collect_end : goal.returns-in-Term-clause-collect_end
returns-in-Term-clause-collect_end c =
    let a = c.args in
    λ ix s scores H. root-end (lists_of a.reader.now) a.reader.now.norms.now a.reader.now.live.now a.reader.now.inverses.now ix (places_in a.buffers.now) s a.depth scores a.states.now H

pub collect_everything-requires : goal.collect_everything-requires
collect_everything-requires c =
    let a = c.args in
    let r = c.requires.2 in
    let O = part (goal.at.collect_everything-requires c).After-from r.0 r.1 r.2 r.3 in
    (lists_of a.reader.now, a.reader.now.norms.now, a.reader.now.inverses.now, places_in a.buffers.now, O.deep, refl, everything-word _ (sym c.in-Everything.ensures), (c.requires.0, c.requires.1, (r.0, O.child, O.scores, O.held)))

pub returns-in-Everything-clause-collect_post : goal.returns-in-Everything-clause-collect_post
returns-in-Everything-clause-collect_post c =
    let a = c.args in
    λ ix s scores H.
    let O = part (goal.at.returns-in-Everything-clause-collect_post c).After-from ix s scores H in
    rw O.same (c.collect_everything.ensures (lists_of a.reader.now) a.reader.now.norms.now a.reader.now.inverses.now (places_in a.buffers.now) O.deep refl ix O.child O.scores O.held)

pub returns-in-Everything-clause-collect_end : goal.returns-in-Everything-clause-collect_end
returns-in-Everything-clause-collect_end c =
    let a = c.args in
    λ ix s scores H. root-end (lists_of a.reader.now) a.reader.now.norms.now a.reader.now.live.now a.reader.now.inverses.now ix (places_in a.buffers.now) s a.depth scores a.states.now H
