-- After the loop the words are those of the records.
use Rattle.std.proofs.Common.{◌≡◌, ℕ, arith, ap, ◌∙◌}
use Rattle.tree_records.proofs.Turns.{put_all, all-put}
use Rattle.tree_records.proofs.unpack.Goals as goal

pub returns : goal.returns
returns c =
    let w = c.args.words.now in
    let ns = c.args.nodes.now in
    let upto : c.loop-i.i ≡ c.args.n = omega arith in
    c.loop-i.invariant ∙ ap (λ (i : ℕ). put_all ns i w) upto ∙ all-put ns c.args.n w c.requires.0 c.requires.1
