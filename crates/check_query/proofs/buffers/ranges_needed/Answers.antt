-- A query has so few records that the product fits 64 bits; without ranges nothing is needed.
use Rattle.std.proofs.Common.{rules, arith}
use Rattle.index.specs.IndexOf.{index_of}
use Rattle.check_query.proofs.Needs.{few-ranges, product-fits, no-ranges, ranges-words}
use Rattle.check_query.proofs.buffers.ranges_needed.Goals as goal

pub returns-then-ranges-eq0 : goal.returns-then-ranges-eq0
returns-then-ranges-eq0 c =
    no-ranges (index_of c.args.lent.now) c.args.query.now c.range_records-ranges.result c.range_records-ranges.ensures c.if-ranges-eq0.true

pub overflow_add-result : goal.overflow_add-result
overflow_add-result c =
    omega (arith, few-ranges c.args.query.now c.range_records-ranges.result c.range_records-ranges.ensures)

pub overflow_mul-result : goal.overflow_mul-result
overflow_mul-result c =
    rw c.from.ensures
    (record { fits = product-fits c.args.lent.now.max_doc c.range_records-ranges.result (search rules) (omega (arith, few-ranges c.args.query.now c.range_records-ranges.result c.range_records-ranges.ensures)) })

pub returns : goal.returns
returns c =
    rw c.from.ensures (ranges-words (index_of c.args.lent.now) c.args.query.now c.range_records-ranges.result c.range_records-ranges.ensures c.if-ranges-eq0.false)
