-- Three numbers are stored from the front on.
use Rattle.std.proofs.Common.{◌≡◌, refl, ◌∙◌, Bool, true, false, cond}
use mir.Val.{bool_byte}
use Rattle.border.proofs.Told.{three-written}
use Rattle.border.proofs.answer_top_docs.Goals as goal

marked : (mark : Bool) → bool_byte mark ≡ cond mark 1 0
marked true = refl
marked false = refl

pub returns-in-Ok : goal.returns-in-Ok
returns-in-Ok c =
    let m = c.from-in-Ok.ensures ∙ marked c.in-Ok.top.mark in
    rw c.in-Ok.is (record { number = refl; answer_after = rw (← m, ← c.from.ensures) (three-written c.from.result c.in-Ok.top.count c.from-in-Ok.result c.args.answer.now c.requires) })
