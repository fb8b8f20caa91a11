use Rattle.std.proofs.Common.{sym, ◌∙◌}
use Rattle.window_score.proofs.leaf.phrase_frequency.Goals as goal

pub returns-then-frequency-eq3-clause-read : goal.returns-then-frequency-eq3-clause-read
returns-then-frequency-eq3-clause-read c = record { high = λ e. c.frequency_at.ensures.frequency_post; low = λ n. absurd (n (sym c.planed-frequency.ensures ∙ c.if-frequency-eq3.true)) }
