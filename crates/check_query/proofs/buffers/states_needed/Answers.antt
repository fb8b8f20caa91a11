use Rattle.std.proofs.Common.{ℕ, ◌*◌, ap}
use Rattle.meaning.specs.Limits.{node_state_words}
use Rattle.meaning.specs.CallRefusals.{states_needed}
use Rattle.check_query.proofs.buffers.states_needed.Goals as goal

pub returns : goal.returns
unfolding states_needed
returns c = ap (λ (z : ℕ). node_state_words * z) c.record_count.ensures
