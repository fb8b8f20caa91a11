-- Without words every document is live; else bit doc % 64 of word doc / 64 says so.
use Rattle.std.proofs.Common.{◌≡◌, true, false, eqb, length, get_or, sym, ◌∙◌, ◌/◌, ◌%◌}
use Rattle.meaning.specs.Live.{is_live}
use Rattle.bits.proofs.Laws.{bit-tested}
use Rattle.index.proofs.live.is_live.Goals as goal

pub returns-then-is_empty : goal.returns-then-is_empty
unfolding is_live
returns-then-is_empty c = let e : eqb (length c.args.live.now) 0 ≡ true = sym c.if-is_empty.ensures in rw e

pub returns : goal.returns
unfolding is_live
returns c =
    let doc = c.args.doc in
    let e : eqb (length c.args.live.now) 0 ≡ false = sym c.if-is_empty.ensures in
    rw e (c.is_set.ensures ∙ sym (bit-tested (doc % 64) (get_or c.args.live.now (doc / 64) 0)))
