-- A turn's term is there, and so is its leaf's run; three words more stand at the front.
use Rattle.std.proofs.Common.{arith}
use Rattle.index.specs.IndexOf.{index_of}
use Rattle.entry_place.proofs.TermWords.{phrase-here, term-run, terms-none, terms-more}
use Rattle.entry_place.proofs.write_terms.Goals as goal

pub loop-j-init : goal.loop-j-init
loop-j-init c = terms-none (index_of c.args.lent.now) c.args.query.now c.args.at c.args.document c.args.terms.now

pub value-leaf-requires : goal.value-leaf-requires
value-leaf-requires c =
    let room = (phrase-here c.requires.asks c.args.at c.requires.phrase.0 c.requires.phrase.1).room in
    (omega (arith, room, c.children-j-end.ensures), omega arith)

pub occurrences_in-found-requires : goal.occurrences_in-found-requires
occurrences_in-found-requires c =
    term-run c.requires.asks c.args.at c.requires.phrase.0 c.requires.phrase.1 c.loop-j.j _ (omega (arith, c.children-j-end.ensures)) c.value-leaf.ensures

pub bounds-terms-place : goal.bounds-terms-place
bounds-terms-place c =
    let few = (phrase-here c.requires.asks c.args.at c.requires.phrase.0 c.requires.phrase.1).few-terms in
    omega (arith, few, c.children-j-end.ensures)

pub bounds-terms-place-in-loop-j : goal.bounds-terms-place-in-loop-j
bounds-terms-place-in-loop-j c =
    let few = (phrase-here c.requires.asks c.args.at c.requires.phrase.0 c.requires.phrase.1).few-terms in
    omega (arith, few, c.children-j-end.ensures)

pub bounds-terms-place-in-loop-j-2 : goal.bounds-terms-place-in-loop-j-2
bounds-terms-place-in-loop-j-2 c =
    let few = (phrase-here c.requires.asks c.args.at c.requires.phrase.0 c.requires.phrase.1).few-terms in
    omega (arith, few, c.children-j-end.ensures)

pub value-requires : goal.value-requires
value-requires c =
    let room = (phrase-here c.requires.asks c.args.at c.requires.phrase.0 c.requires.phrase.1).room in
    (omega (arith, room, c.children-j-end.ensures), omega arith)

pub loop-j-preserved : goal.loop-j-preserved
loop-j-preserved c =
    let few = (phrase-here c.requires.asks c.args.at c.requires.phrase.0 c.requires.phrase.1).few-terms in
    let o = c.occurrences_in-found in
    terms-more c.requires.asks c.args.at c.args.document c.loop-j.j _ _ _ _ c.loop-j.terms c.loop-j.invariant (omega (arith, few, c.children-j-end.ensures)) c.value-leaf.ensures o.ensures.first o.ensures.frequency c.value.ensures
