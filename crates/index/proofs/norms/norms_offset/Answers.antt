-- At most 16 fields before this one have norms, N bytes each, so the product fits a usize.
use Rattle.std.proofs.Common.{◌≤◌, arith}
use Rattle.meaning.specs.Lent.{has_norms}
use Rattle.meaning.proofs.Below.{count-le}
use Rattle.index.specs.Slices.{fields_only}
use Rattle.index.proofs.Values.{product_le}
use Rattle.index.proofs.norms.norms_offset.Goals as goal

pub overflow_mul-result : goal.overflow_mul-result
overflow_mul-result c =
    let few : c.norms_before.result ≤ 16 = omega (arith, count-le c.args.field (has_norms (fields_only c.args.fields.now))) in
    let word : c.args.max_doc ≤ 4294967295 = omega arith in
    omega (arith, product_le _ _ _ _ few word)
