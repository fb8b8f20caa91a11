-- Where some optional children are needed the child was asked before and has its bits stored; else it is asked now.
use Rattle.std.proofs.Common.{refl, ap, ◌∙◌, ◌&&◌, ℕ}
use Rattle.bits.specs.Bit.{bit}
use Rattle.window_score.proofs.optional_child_bits.Goals as goal

pub child_bits-requires : goal.child_bits-requires
child_bits-requires c = c.requires.unneeded c.if-need-eq0.true

pub returns-then-need-eq0-clause-needed : goal.returns-then-need-eq0-clause-needed
returns-then-need-eq0-clause-needed c = λ n. absurd (n c.if-need-eq0.true)

pub returns-clause-unneeded : goal.returns-clause-unneeded
returns-clause-unneeded c = λ z. absurd (c.if-need-eq0.false z)

pub returns-clause-needed : goal.returns-clause-needed
returns-clause-needed c = λ n. record { bits = λ p. c.both.ensures p ∙ ap (λ (w : ℕ). bit p c.args.want && bit p w) c.stored_bits.ensures; kept = refl }
