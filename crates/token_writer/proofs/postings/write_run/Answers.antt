-- The leaf's tokens end at the cursor that comes back, and their positions are the part of the positions up to it.
use Rattle.std.proofs.Common.{◌∙◌, ap, ◌+◌, ◌-◌, ◌≤◌, ℕ, length, arith}
use Rattle.std.proofs.lemmas.List.Edits.{sets}
use borrow.Rule.Slice.PartMut.{mid_len}
use Rattle.meaning.specs.Below.{list_to}
use Rattle.meaning.specs.Tokens.{token_at}
use Rattle.meaning.proofs.Below.{length-list_to}
use Rattle.token_norms.proofs.Stored.{put-sets}
use Rattle.token_writer.proofs.LeafRun.{run-placed, run-postings}
use Rattle.token_writer.specs.Writing.{WritePostingsPost}
use Rattle.token_writer.proofs.postings.write_run.Goals.{After-write_postings-end}
use Rattle.token_writer.proofs.postings.write_run.Goals as goal

-- what is known once the postings are written
done : (c : After-write_postings-end) → WritePostingsPost c.requires.0 c.args.records.tokens.now c.args.leaf c.args.positional c.args.at.token c.args.at.posting c.args.at.position c.args.postings.now c.write_postings-end.new.postings c.write_postings-end.result
done c = c.write_postings-end.ensures _ _ (run-postings _ _ _ _ _ _ _ _ _ _ c.requires.2)

pub slice_bounds-copy_positions-count : goal.slice_bounds-copy_positions-count
slice_bounds-copy_positions-count c = omega (arith, (done (goal.at.slice_bounds-copy_positions-count c).After-write_postings-end).position_end)

pub slice_bounds-copy_positions-start : goal.slice_bounds-copy_positions-start
slice_bounds-copy_positions-start c = omega (arith, (done (goal.at.slice_bounds-copy_positions-start c).After-write_postings-end).position_end)

pub slice_bounds-copy_positions-end : goal.slice_bounds-copy_positions-end
slice_bounds-copy_positions-end c = omega (arith, (done (goal.at.slice_bounds-copy_positions-end c).After-write_postings-end).position_end, c.requires.2.positions_fit)

pub copy_positions-requires : goal.copy_positions-requires
copy_positions-requires c =
    let d = done (goal.at.copy_positions-requires c).After-write_postings-end in
    omega (arith, d.within, mid_len c.args.at.position c.write_postings-end.result.position c.args.positions.now (omega (arith, d.position_end, c.requires.2.positions_fit)))

pub returns : goal.returns
returns c =
    let r = c.args.records in
    let a = c.args.at in
    λ n m pre.
    let e = c.write_postings-end.result in
    let post = c.write_postings-end.ensures n m (run-postings _ _ _ _ _ _ _ _ _ _ pre) in
    let f : ℕ → ℕ = λ j. (token_at r.tokens.now (a.token + j)).position in
    let inside : e.position ≤ length c.args.positions.now = omega (arith, post.position_end, pre.positions_fit) in
    let size = mid_len a.position e.position c.args.positions.now inside in
    run-placed n r.tokens.now c.args.leaf c.args.positional a.token a.posting a.position c.args.postings.now c.args.positions.now c.write_postings-end.new.postings _ e post
    (put-sets a.position e.position c.args.positions.now c.copy_positions.new.positions (omega (arith, size, ap length c.copy_positions.ensures, length-list_to (e.position - a.position) f, post.position_end)) inside
    ∙ ap (sets c.args.positions.now a.position) (c.copy_positions.ensures ∙ ap (λ (k : ℕ). list_to k f) size))
