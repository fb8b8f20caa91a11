-- The N words are stored behind those of the records before.
use Rattle.std.proofs.Common.{◌+◌, ◌*◌, ap, ◌∙◌, arith}
use Rattle.std.proofs.lemmas.List.Edits.{sets}
use borrow.Rule.Slice.PartMut.{mid_len}
use Rattle.token_norms.proofs.Stored.{put-sets}
use Rattle.token_writer.proofs.postings.write_record.Goals as goal

pub returns : goal.returns
returns g c =
    let a = g.row.N * c.args.number in
    put-sets a (a + g.row.N) c.args.words.now c.copy_from_slice.new.self (omega (arith, c.copy_from_slice.ensures.len, mid_len a (a + g.row.N) c.args.words.now c.requires)) c.requires
    ∙ ap (sets c.args.words.now a) c.copy_from_slice.ensures.after
