-- A Range record of an accepted query asks a column that is there, whose documents the bitmap has.
use Rattle.std.proofs.Common.{◌≡◌, ap, ◌∙◌, length, rules}
use Rattle.meaning.specs.Query.{record_kind}
use Rattle.bits.specs.Bit.{bitmap_words}
use Rattle.index.specs.IndexOf.{index_of}
use Rattle.tree_measure.proofs.Listing.{range-asks, range_gives, range-bitmap}
use Rattle.tree_measure.proofs.list_range.Goals as goal

pub range_bitmap-requires-clause-right : goal.range_bitmap-requires-clause-right
range_bitmap-requires-clause-right c =
    let kind : record_kind c.args.query.now c.args.at ≡ 4 = search rules in
    range-asks (index_of c.args.lent.now) c.args.query.now c.args.at c.requires.asks c.requires.at_bound kind _ c.range_at.ensures

pub returns-clause-count : goal.returns-clause-count
returns-clause-count c =
    λ kind. c.range_bitmap.ensures.value ∙ ap length (range_gives (index_of c.args.lent.now) c.args.query.now c.args.at c.requires.asks c.requires.at_bound kind _ c.range_at.ensures)

pub returns-clause-bits : goal.returns-clause-bits
returns-clause-bits c =
    λ kind. range-bitmap (index_of c.args.lent.now) c.args.query.now c.args.at c.requires.asks c.requires.at_bound kind _ c.range_at.ensures c.range_bitmap.new.output (bitmap_words c.args.lent.now.max_doc) c.range_bitmap.ensures.bitmap
