-- The norm bytes of all fields end where those of a field behind the last one would begin.
use Rattle.std.proofs.Common.{◌≡◌, ◌+◌, ◌/◌, arith}
use Rattle.meaning.specs.IndexRefusals.{wrong3}
use Rattle.index.proofs.Known.{fields-few}
use Rattle.index.proofs.norms.wrong_lengths.Goals as goal

pub norms_offset-bytes-requires : goal.norms_offset-bytes-requires
norms_offset-bytes-requires c = let few = fields-few _ c.requires in (omega arith, omega (arith, few))

pub returns : goal.returns
unfolding wrong3
returns c =
    let words : c.div_ceil-words.result ≡ (c.args.max_doc + 63) / 64 = omega (arith, c.div_ceil-words.ensures) in
    rw (c.norms_offset-bytes.ensures, c.field_count.ensures, c.is_empty.ensures, words)
