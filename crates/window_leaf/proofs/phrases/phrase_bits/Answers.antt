-- The terms leave the candidates; those with a frequency above 0 are where the phrase stands.
use Rattle.std.proofs.Common.{refl, sym}
use Rattle.window_leaf.proofs.PhraseNodes.{given-long, given-terms, given-asked-long, given-planes, given-put, given-answer}
use Rattle.window_leaf.proofs.phrases.phrase_bits.Goals as goal

pub slice_bounds-terms_bits-count : goal.slice_bounds-terms_bits-count
slice_bounds-terms_bits-count c = given-long c.requires

pub slice_bounds-terms_bits-start : goal.slice_bounds-terms_bits-start
slice_bounds-terms_bits-start c = given-long c.requires

pub terms_bits-t-requires : goal.terms_bits-t-requires
terms_bits-t-requires c = given-terms c.requires

pub slice_bounds-planes_of-count : goal.slice_bounds-planes_of-count
slice_bounds-planes_of-count c = let t = c.terms_bits-t in given-asked-long c.requires c.args.want t.result.bits t.result.next t.new.terms t.ensures

pub slice_bounds-planes_of-start : goal.slice_bounds-planes_of-start
slice_bounds-planes_of-start c = let t = c.terms_bits-t in given-asked-long c.requires c.args.want t.result.bits t.result.next t.new.terms t.ensures

pub planes_of-planes-requires : goal.planes_of-planes-requires
planes_of-planes-requires c = let t = c.terms_bits-t in given-planes c.requires c.args.want t.result.bits t.result.next t.new.terms t.ensures

pub put-requires : goal.put-requires
put-requires c = let t = c.terms_bits-t in given-asked-long c.requires c.args.want t.result.bits t.result.next t.new.terms t.ensures

pub put-requires-2 : goal.put-requires-2
put-requires-2 c =
    let t = c.terms_bits-t in
    let p = c.planes_of-planes in
    rw c.put.ensures (given-put c.requires c.args.want t.result.bits t.result.next t.new.terms t.ensures p.result.ones p.result.twos c.either-w.result p.ensures.planes_post c.either-w.ensures _ _ _ _ refl refl refl refl)

pub returns-clause-phrase_post : goal.returns-clause-phrase_post
returns-clause-phrase_post c =
    let t = c.terms_bits-t in
    let p = c.planes_of-planes in
    given-answer c.requires c.args.want t.result.bits t.result.next t.new.terms t.ensures p.result.ones p.result.twos c.either-w.result p.ensures.planes_post c.either-w.ensures _ _ _ _ refl refl refl refl c.put-2.new.states (rw (sym c.put.ensures) c.put-2.ensures)
