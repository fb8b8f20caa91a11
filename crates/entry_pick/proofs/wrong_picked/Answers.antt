use Rattle.entry_pick.proofs.PickEntry.{picked-after}
use Rattle.entry_pick.proofs.wrong_picked.Goals as goal

pub returns : goal.returns
returns c = picked-after _ _ _ c.requires.0
