-- Indexes that rise count − 1 times rise always, and an or below a limit has only words below it.
use Rattle.std.proofs.Common.{◌≡◌, not, ℕ, ◌+◌, ◌-◌, ◌*◌, ◌/◌, ◌<◌, length, get_or, eqb, ltb, eqb-true, ap, ◌∙◌, subst, arith}
use borrow.Author.Tests.{ltb-true, ltb-false, not-false}
use Rattle.meaning.proofs.Tests.{or_left, or_right}
use Rattle.check_leaves.proofs.Plainly.{plain-all}
use Rattle.check_leaves.proofs.plain.Goals as goal

pub returns : goal.returns
returns c =
    let t = c.args.t in
    let run = c.args.run.now in
    let n = length run / 3 in
    let place : 3 * (n - 1 + 0) + 1 ≡ 3 * n - 2 = omega (arith, c.requires.0) in
    let last = c.posting_frequency.ensures ∙ ap (λ (k : ℕ). get_or run k 0) place in
    λ e. plain-all run n t c.requires.1 c.requires.0 (ltb-false _ _ (or_left (ltb 2147483647 t.docs) (ltb 2147483647 t.indexes) c.if-t.false)) c.if-t-ge-LARGEST_FREQUENCY.false (ltb-false _ _ (or_right (ltb 2147483647 t.docs) (ltb 2147483647 t.indexes) c.if-t.false)) (eqb-true _ _ (not-false _ (or_left (not (eqb t.advances (n - 1))) (not (eqb t.apart 0)) c.if-t-count.false))) (eqb-true _ _ (not-false _ (or_right (not (eqb t.advances (n - 1))) (not (eqb t.apart 0)) c.if-t-count.false))) (subst (λ (x : ℕ). 0 < x) last (ltb-true _ _ e))
