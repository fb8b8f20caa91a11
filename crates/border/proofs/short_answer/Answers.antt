-- What an answer that is not refused gives; the check finds the other way.
use Rattle.border.proofs.short_answer.Goals as goal

pub returns-in-Ok : goal.returns-in-Ok
returns-in-Ok g c = rw c.in-Ok.is c.number.ensures
