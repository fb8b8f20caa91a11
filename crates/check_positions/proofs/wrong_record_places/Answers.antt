use Rattle.std.proofs.Common.{◌∙◌}
use Rattle.check_positions.proofs.Parts.{places-within, places-past}
use Rattle.check_positions.proofs.wrong_record_places.Goals as goal

pub returns-then-end-positions : goal.returns-then-end-positions
returns-then-end-positions c = places-past _ _ c.if-end-positions.true

pub returns : goal.returns
returns c = c.wrong_places.ensures ∙ places-within _ _ c.if-end-positions.false
