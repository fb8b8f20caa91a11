-- Each turn writes one record's bitmap behind those before it, which stay as they are.
use Rattle.std.proofs.Common.{◌-◌, length, arith, length-take, length-drop}
use borrow.Rule.Slice.PartMut.{same_len_mid, post_of}
use Rattle.index.specs.IndexOf.{index_of}
use Rattle.bits.specs.Bit.{bitmap_words}
use Rattle.tree_measure.proofs.Listing.{no_words, words_more, Room, room, listed-more, step_small, is_range}
use Rattle.tree_measure.proofs.list_ranges.Goals.{In-loop-at}
use Rattle.tree_measure.proofs.list_ranges.Goals as goal

pub loop-at-init : goal.loop-at-init
loop-at-init c = record {
  listing = record { lists = λ r g kind. absurd (omega (arith, g)); below = λ r g kind. absurd (omega (arith, g)) };
  used_is = no_words c.args.query.now (bitmap_words c.args.lent.now.max_doc);
}

-- the words that are used leave room for the bitmap of the record
room-here : (c : In-loop-at) → Room c.args.query.now c.args.lent.now.max_doc c.loop-at.at c.loop-at.used c.loop-at.ranges
room-here c =
    let l = c.loop-at in
    room c.requires.asks l.ranges l.at l.used (omega (arith, c.requires.room)) (omega arith) l.invariant.used_is

pub overflow_cast-place : goal.overflow_cast-place
overflow_cast-place c = let o = room-here c in omega (arith, o.small)

pub offset_bounds-ranges-used : goal.offset_bounds-ranges-used
offset_bounds-ranges-used c = let o = room-here c in omega (arith, o.small)

pub slice_bounds-list_range-count : goal.slice_bounds-list_range-count
slice_bounds-list_range-count c = (room-here c).within

pub slice_bounds-list_range-start : goal.slice_bounds-list_range-start
slice_bounds-list_range-start c = (room-here c).within

pub list_range-count-requires-clause-room : goal.list_range-count-requires-clause-room
list_range-count-requires-clause-room c =
    let o = room-here (goal.at.list_range-count-requires-clause-room c).In-loop-at in
    λ kind. let e = o.enough kind in rw (length-take, length-drop) (omega (arith, e))

pub overflow_add-used : goal.overflow_add-used
overflow_add-used c =
    let o = room-here (goal.at.overflow_add-used c).In-loop-at in
    let step = step_small (is_range c.args.query.now c.loop-at.at) (bitmap_words c.args.lent.now.max_doc) c.range_words-used.result c.range_words-used.ensures in
    omega (arith, o.small, step)

pub loop-at-preserved : goal.loop-at-preserved
loop-at-preserved c =
    let l = c.loop-at in
    let o = room-here (goal.at.loop-at-preserved c).In-loop-at in
    let lr = c.list_range-count in
    let out = lr.new.output in
    let long = same_len_mid l.used (length l.ranges - l.used) l.ranges out lr.ensures.output_len_unchanged in
    record {
      listing = listed-more (index_of c.args.lent.now) c.args.query.now l.ranges out (post_of l.used (length l.ranges - l.used) l.ranges) l.listed l.used l.at lr.result c.range_words-used.result l.invariant.listing (omega arith) o.within o.enough (λ kind. let e = o.enough kind in rw lr.ensures.output_len_unchanged (rw (length-take, length-drop) (omega (arith, e)))) long lr.ensures.count lr.ensures.bits c.range_words-used.ensures;
      used_is = words_more c.args.query.now (bitmap_words c.args.lent.now.max_doc) l.at l.used c.range_words-used.result l.invariant.used_is c.range_words-used.ensures;
    }
