-- A tree ends where decoding it ends: kind by kind, with a Boolean's clauses one by one, or nowhere if it is wrong.
use Rattle.std.proofs.Common.{◌≡◌, ◌+◌, ◌-◌, None, refl, inl, inr, sym, ◌∙◌, ap, arith}
use borrow.Author.Tests.{eq-eqb, ne_eqb, le-leb}
use Rattle.meaning.specs.Query.{a_boolean, a_boost, record_children, record_occurrence, record_kind, occur_of, decode}
use Rattle.query.specs.declared.kinds.Kind.TheVariants.{Phrase, Boolean, ConstantScore, Boost, PhraseTerm}
use Rattle.query.specs.Kinds.{kind_number}
use Rattle.query.specs.Inner.{end_of_clauses}
use Rattle.query.proofs.Numbers.{occur-unknown, occur-of-number, kind-unknown}
use Rattle.query.proofs.Steps.{fit-no, fit-none, fit-yes, end-root, end-missing, end-unknown, end-by-kind, end-of-leaf, child-missing, child-placed, child-there}
use Rattle.query.proofs.Clauses.{clause-unknown, clause-none, clause-missing, clause-more, end-none, no-clauses}
use Rattle.query.proofs.shape.+child_end_clauses_end_tree_end.Goals.{child_end-then-children-ne1-via-then-children-ne1, child_end-then-children-ne1-via-else-children-ne1+then-record_count-at, child_end-then-children-ne1-via-else-children-ne1+else-record_count-at+then-occurrence-ne0}
use Rattle.query.proofs.shape.+child_end_clauses_end_tree_end.Goals as goal

pub child_end-returns-then-children-ne1 : goal.child_end-returns-then-children-ne1
child_end-returns-then-children-ne1 t c =
    let q = c.args.query.now in let at = c.args.at in let depth = c.args.depth in
    elim c.then-children-ne1.branch [
      | child_end-then-children-ne1-via-then-children-ne1 w ↦ fit-no a_boost q at _ (ne_eqb (record_children q at) 1 (λ e. w.if-children-ne1.true (c.children.ensures ∙ e)))
      | child_end-then-children-ne1-via-else-children-ne1+then-record_count-at w ↦ fit-none a_boost q at _ (child-missing q depth at (omega arith))
      | child_end-then-children-ne1-via-else-children-ne1+else-record_count-at+then-occurrence-ne0 w ↦ fit-none a_boost q at _ (child-placed q depth at (λ e. w.if-occurrence-ne0.true (w.occurrence.ensures ∙ e)))
    ]

pub child_end-returns : goal.child_end-returns
child_end-returns t c =
    let q = c.args.query.now in let at = c.args.at in
    fit-yes a_boost q at _ _ (eq-eqb (record_children q at) 1 (omega arith)) (c.tree_end.ensures ∙ child-there q c.args.depth at (omega arith))

pub clauses_end-returns-then-record_count-next : goal.clauses_end-returns-then-record_count-next
clauses_end-returns-then-record_count-next t c =
    let q = c.args.query.now in let at = c.args.at in let depth = c.args.depth in
    fit-none a_boolean q at _ (sym (ap end_of_clauses (clause-missing q depth (c.children-count.result - c.loop.counter) c.loop.next (omega arith) (omega arith))) ∙ c.loop.invariant)

pub clauses_end-returns-in_err-occur_at : goal.clauses_end-returns-in_err-occur_at
clauses_end-returns-in_err-occur_at t c =
    let q = c.args.query.now in let at = c.args.at in let depth = c.args.depth in
    c.from_residual.ensures ∙ fit-none a_boolean q at _ (sym (ap end_of_clauses (clause-unknown q depth (c.children-count.result - c.loop.counter) c.loop.next (omega arith) (occur-unknown (record_occurrence q c.loop.next) c.in_err-occur_at.ensures))) ∙ c.loop.invariant)

pub clauses_end-returns-in_err-next : goal.clauses_end-returns-in_err-next
clauses_end-returns-in_err-next t c =
    let q = c.args.query.now in let at = c.args.at in let depth = c.args.depth in
    c.from_residual-in_err-next.ensures ∙ fit-none a_boolean q at _ (sym (ap end_of_clauses (clause-none q depth (c.children-count.result - c.loop.counter) c.loop.next (omega arith) (end-none q depth c.loop.next (sym c.in_err-next.was ∙ c.tree_end.ensures)))) ∙ c.loop.invariant)

pub clauses_end-loop-preserved : goal.clauses_end-loop-preserved
clauses_end-loop-preserved t c =
    let q = c.args.query.now in let depth = c.args.depth in
    let known = ap occur_of c.in_ok-occur_at.ensures ∙ occur-of-number c.in_ok-occur_at.field-0 in
    let one_less : c.children-count.result - c.loop.counter - 1 ≡ c.children-count.result - (c.loop.counter + 1) = omega arith in
    rw (← one_less) (clause-more q depth (c.children-count.result - c.loop.counter) c.loop.next c.in_ok-next.next _ (omega arith) known (sym c.in_ok-next.was ∙ c.tree_end.ensures) ∙ c.loop.invariant)

pub clauses_end-returns : goal.clauses_end-returns
clauses_end-returns t c =
    let q = c.args.query.now in let at = c.args.at in let depth = c.args.depth in
    fit-yes a_boolean q at _ _ (le-leb (record_children q at) 64 (omega arith)) (no-clauses q (decode q depth) (c.children-count.result - c.loop.counter) c.loop.next (omega arith) ∙ c.loop.invariant)

pub tree_end-returns-in_err-below : goal.tree_end-returns-in_err-below
tree_end-returns-in_err-below t c =
    c.from_residual.ensures ∙ end-root c.args.query.now c.args.at c.args.depth (omega arith)

pub tree_end-returns-then-record_count-at : goal.tree_end-returns-then-record_count-at
tree_end-returns-then-record_count-at t c = end-missing c.args.query.now c.args.at c.args.depth (omega arith)

pub tree_end-returns-in_err-kind_at : goal.tree_end-returns-in_err-kind_at
tree_end-returns-in_err-kind_at t c =
    c.from_residual-in_err-kind_at.ensures ∙ end-unknown c.args.query.now c.args.at c.args.depth (kind-unknown (record_kind c.args.query.now c.args.at) c.in_err-kind_at.ensures)

pub tree_end-returns-in-Term : goal.tree_end-returns-in-Term
tree_end-returns-in-Term t c =
    c.leaf_end.ensures ∙ end-of-leaf c.args.query.now c.args.at c.args.depth c.in_ok-below.ensures.0 (omega arith) _ c.in-Term.is c.in_ok-kind_at.ensures

pub tree_end-returns-in-Phrase : goal.tree_end-returns-in-Phrase
tree_end-returns-in-Phrase t c =
    end-by-kind c.args.query.now c.args.at c.args.depth c.in_ok-below.ensures.0 (omega arith) Phrase _ c.in_ok-below.ensures.1 (c.in_ok-kind_at.ensures ∙ ap kind_number c.in-Phrase.is) _ c.phrase_end.ensures

pub tree_end-returns-in-Boolean : goal.tree_end-returns-in-Boolean
tree_end-returns-in-Boolean t c =
    end-by-kind c.args.query.now c.args.at c.args.depth c.in_ok-below.ensures.0 (omega arith) Boolean _ c.in_ok-below.ensures.1 (c.in_ok-kind_at.ensures ∙ ap kind_number c.in-Boolean.is) _ c.clauses_end.ensures

pub tree_end-returns-in-ConstantScore : goal.tree_end-returns-in-ConstantScore
tree_end-returns-in-ConstantScore t c =
    let q = c.args.query.now in let at = c.args.at in let depth = c.args.depth in
    elim c.in-ConstantScore.is [
      | inl k ↦ end-by-kind q at depth c.in_ok-below.ensures.0 (omega arith) ConstantScore _ c.in_ok-below.ensures.1 (c.in_ok-kind_at.ensures ∙ ap kind_number k) _ c.child_end.ensures
      | inr k ↦ end-by-kind q at depth c.in_ok-below.ensures.0 (omega arith) Boost _ c.in_ok-below.ensures.1 (c.in_ok-kind_at.ensures ∙ ap kind_number k) _ c.child_end.ensures
    ]

pub tree_end-returns-in-PhraseTerm : goal.tree_end-returns-in-PhraseTerm
tree_end-returns-in-PhraseTerm t c =
    end-by-kind c.args.query.now c.args.at c.args.depth c.in_ok-below.ensures.0 (omega arith) PhraseTerm _ c.in_ok-below.ensures.1 (c.in_ok-kind_at.ensures ∙ ap kind_number c.in-PhraseTerm.is) None refl
