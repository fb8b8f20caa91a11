-- The words that it writes are those that `phrase::place` asks.
use Rattle.std.proofs.Common.{sym, length, arith}
use lib.Seq.{length-take-le}
use Rattle.index.specs.IndexOf.{index_of}
use Rattle.check_order.specs.WorkOf.{place_work}
use Rattle.entry_place.proofs.TermWords.{words-counted}
use Rattle.entry_place.proofs.PlaceEntry.{phrase-there, few-terms, starts-long, words-asked, found}
use Rattle.entry_place.proofs.locate.Goals as goal

pub children-count-requires : goal.children-count-requires
children-count-requires c = (phrase-there c.requires).0

pub write_terms-requires : goal.write_terms-requires
write_terms-requires c = record { asks = c.requires.asks; phrase = phrase-there c.requires }

pub slice_bounds-terms-end : goal.slice_bounds-terms-end
slice_bounds-terms-end c = omega (arith, few-terms c.requires, c.children-count.ensures)

pub slice_bounds-place-end : goal.slice_bounds-place-end
slice_bounds-place-end c = sym (length-take-le _ _ (omega (arith, few-terms c.requires, c.children-count.ensures, c.write_terms.array_long)))

pub place-requires : goal.place-requires
place-requires c =
    let a = c.args in
    let ix = index_of a.lent.now in
    let w = phrase-there c.requires in
    let long = starts-long ix a.query.now a.record_number a.document (place_work (length a.starts.now) (length a.other_starts.now)) c.requires.long in
    words-asked ix a.query.now c.requires.asks a.record_number a.document w.0 w.1 _ (words-counted _ _ c.children-count.ensures c.write_terms.new.terms _ c.write_terms.ensures) _ _ long.0 long.1

pub returns : goal.returns
returns c =
    let a = c.args in
    let w = phrase-there c.requires in
    found (index_of a.lent.now) a.query.now c.requires.asks a.record_number a.document w.0 w.1 _ (words-counted _ _ c.children-count.ensures c.write_terms.new.terms _ c.write_terms.ensures) c.place.result c.place.ensures
