-- The boost goes down the tree as in the definition: kind by kind, and a Boolean's clauses one by one.
use Rattle.std.proofs.Common.{◌≡◌, ◌+◌, ◌-◌, ℕ, true, false, sym, ◌∙◌, ap, arith}
use Rattle.meaning.specs.Score.{boosted, passed}
use Rattle.meaning.specs.Query.{record_children, record_occurrence, occur_of, decode}
use Rattle.query.specs.Kinds.{kind_number}
use Rattle.query.specs.Inner.{end_below_limit}
use Rattle.query.proofs.Numbers.{occur-of-number, occur-unknown}
use Rattle.query.proofs.Inverse.{some_same}
use Rattle.query.proofs.Above.{limit, limit-passed, level, decoded-here, kind-known, boost-number, below-phrase, below-leaf, below-boolean, below-constant, below-boost, below-clauses, below-constant-child, below-boost-child, first-clause, none-left-below, clause-above, clause-on}
use Rattle.check_query.proofs.boosts.+clauses_below_tree_below.Goals as goal

-- ---- the clauses
pub clauses_below-occur_at-requires : goal.clauses_below-occur_at-requires
clauses_below-occur_at-requires t c =
    let q = c.args.query.now in let depth = c.args.depth in
    let o = first-clause q (decode q depth) (record_children q c.args.at - c.loop.counter) c.loop.next c.loop.invariant.0 (omega arith) c.loop.invariant.1 in
    decoded-here q depth c.loop.next o.first o.first-is

pub clauses_below-returns-in_err-occur_at : goal.clauses_below-returns-in_err-occur_at
clauses_below-returns-in_err-occur_at t c =
    let q = c.args.query.now in let depth = c.args.depth in
    let o = first-clause q (decode q depth) (record_children q c.args.at - c.loop.counter) c.loop.next c.loop.invariant.0 (omega arith) c.loop.invariant.1 in
    let z = sym (occur-unknown (record_occurrence q c.loop.next) c.in_err-occur_at.ensures) ∙ o.occur-is in
    cc

pub clauses_below-tree_below-requires : goal.clauses_below-tree_below-requires
clauses_below-tree_below-requires t c =
    let q = c.args.query.now in let depth = c.args.depth in
    let o = first-clause q (decode q depth) (record_children q c.args.at - c.loop.counter) c.loop.next c.loop.invariant.0 (omega arith) c.loop.invariant.1 in
    (omega arith, (c.requires.0, (o.first, o.first-is)))

pub clauses_below-returns-in_err-next : goal.clauses_below-returns-in_err-next
clauses_below-returns-in_err-next t c =
    let q = c.args.query.now in let depth = c.args.depth in let boost = c.args.boost in let n = record_children q c.args.at - c.loop.counter in
    let o = first-clause q (decode q depth) n c.loop.next c.loop.invariant.0 (omega arith) c.loop.invariant.1 in
    let same = some_same _ _ (sym (occur-of-number c.in_ok-occur_at.field-0) ∙ sym (ap occur_of c.in_ok-occur_at.ensures) ∙ o.occur-is) in
    c.from_residual-in_err-next.ensures ∙ clause-above q depth (n - 1) c.loop.next c.tree_below.result c.loop.invariant.0 boost c.passed_on-passed.result o (c.passed_on-passed.ensures ∙ ap (λ x. passed x boost) same) c.tree_below.ensures c.in_err-next.was ∙ c.loop.invariant.2

pub clauses_below-loop-preserved : goal.clauses_below-loop-preserved
clauses_below-loop-preserved t c =
    let q = c.args.query.now in let depth = c.args.depth in let boost = c.args.boost in let n = record_children q c.args.at - c.loop.counter in
    let o = first-clause q (decode q depth) n c.loop.next c.loop.invariant.0 (omega arith) c.loop.invariant.1 in
    let same = some_same _ _ (sym (occur-of-number c.in_ok-occur_at.field-0) ∙ sym (ap occur_of c.in_ok-occur_at.ensures) ∙ o.occur-is) in
    let on = clause-on q depth (n - 1) c.loop.next c.tree_below.result c.loop.invariant.0 boost c.passed_on-passed.result o (c.passed_on-passed.ensures ∙ ap (λ x. passed x boost) same) c.tree_below.ensures c.in_ok-next.next c.in_ok-next.was in
    let one_less : record_children q c.args.at - c.loop.counter - 1 ≡ record_children q c.args.at - (c.loop.counter + 1) = omega arith in
    (o.rest, rw (on.0, ← one_less) o.rest-is, on.1 ∙ c.loop.invariant.2)

pub clauses_below-returns : goal.clauses_below-returns
clauses_below-returns t c =
    let q = c.args.query.now in
    none-left-below q (decode q c.args.depth) (record_children q c.args.at - c.loop.counter) c.loop.next c.loop.invariant.0 c.args.boost (omega arith) c.loop.invariant.1 ∙ c.loop.invariant.2

-- ---- the tree
pub tree_below-returns-then-limit-boost : goal.tree_below-returns-then-limit-boost
tree_below-returns-then-limit-boost t c =
    limit-passed (decode c.args.query.now c.args.depth c.args.at) c.args.boost (limit c.args.boost true c.if-limit-boost.true)

-- the limit is no NaN
pub tree_below-float_from_bits-limit : goal.tree_below-float_from_bits-limit
unfolding lib.Ieee.nan_bits
tree_below-float_from_bits-limit t c = tt

pub tree_below-kind_at-requires : goal.tree_below-kind_at-requires
tree_below-kind_at-requires t c = decoded-here c.args.query.now c.args.depth c.args.at c.requires.1.0 c.requires.1.1

pub tree_below-returns-in_err-kind_at : goal.tree_below-returns-in_err-kind_at
tree_below-returns-in_err-kind_at t c =
    let k = kind-known c.args.query.now c.args.depth c.args.at c.requires.1.0 c.args.boost c.requires.1.1 (limit c.args.boost false c.if-limit-boost.false) in
    absurd (omega (arith, k.0, k.1, c.in_err-kind_at.ensures))

pub tree_below-children-requires : goal.tree_below-children-requires
tree_below-children-requires t c = decoded-here c.args.query.now c.args.depth c.args.at c.requires.1.0 c.requires.1.1

pub tree_below-overflow_sub-depth : goal.tree_below-overflow_sub-depth
tree_below-overflow_sub-depth t c =
    omega (arith, level c.args.query.now c.args.depth c.args.at c.requires.1.0 c.requires.1.1)

pub tree_below-clauses_below-requires : goal.tree_below-clauses_below-requires
tree_below-clauses_below-requires t c =
    let q = c.args.query.now in let depth = c.args.depth in let at = c.args.at in let e = c.requires.1.1 in
    (omega (arith, level q depth at _ e), (c.requires.0, decoded-here q depth at _ e, below-clauses q depth at _ c.args.boost e (limit c.args.boost false c.if-limit-boost.false) (c.in_ok-kind_at.ensures ∙ ap kind_number c.in-Boolean.is)))

pub tree_below-overflow_sub-depth-in-ConstantScore : goal.tree_below-overflow_sub-depth-in-ConstantScore
tree_below-overflow_sub-depth-in-ConstantScore t c =
    omega (arith, level c.args.query.now c.args.depth c.args.at c.requires.1.0 c.requires.1.1)

pub tree_below-tree_below-requires : goal.tree_below-tree_below-requires
tree_below-tree_below-requires t c =
    let q = c.args.query.now in let depth = c.args.depth in let at = c.args.at in let e = c.requires.1.1 in
    (omega (arith, level q depth at _ e), (c.requires.0, below-constant-child q depth at _ c.args.boost e (limit c.args.boost false c.if-limit-boost.false) (c.in_ok-kind_at.ensures ∙ ap kind_number c.in-ConstantScore.is)))

pub tree_below-overflow_sub-depth-in-Boost : goal.tree_below-overflow_sub-depth-in-Boost
tree_below-overflow_sub-depth-in-Boost t c =
    omega (arith, level c.args.query.now c.args.depth c.args.at c.requires.1.0 c.requires.1.1)

pub tree_below-value-requires : goal.tree_below-value-requires
tree_below-value-requires t c =
    (decoded-here c.args.query.now c.args.depth c.args.at c.requires.1.0 c.requires.1.1, omega arith)

pub tree_below-float_from_bits-value : goal.tree_below-float_from_bits-value
tree_below-float_from_bits-value t c =
    let h = c.requires.0.fit c.args.at (decoded-here c.args.query.now c.args.depth c.args.at c.requires.1.0 c.requires.1.1) (c.in_ok-kind_at.ensures ∙ ap kind_number c.in-Boost.is) in
    boost-number c.value.result (omega (arith, h))

pub tree_below-tree_below-requires-in-Boost : goal.tree_below-tree_below-requires-in-Boost
tree_below-tree_below-requires-in-Boost t c =
    let q = c.args.query.now in let depth = c.args.depth in let at = c.args.at in let e = c.requires.1.1 in
    (omega (arith, level q depth at _ e), (c.requires.0, below-boost-child q depth at _ c.args.boost e (limit c.args.boost false c.if-limit-boost.false) (c.in_ok-kind_at.ensures ∙ ap kind_number c.in-Boost.is)))

pub tree_below-returns-in-Term : goal.tree_below-returns-in-Term
tree_below-returns-in-Term t c =
    below-leaf c.args.query.now c.args.depth c.args.at _ c.args.boost c.requires.1.1 (limit c.args.boost false c.if-limit-boost.false) _ c.in-Term.is c.in_ok-kind_at.ensures

pub tree_below-returns-in-Phrase : goal.tree_below-returns-in-Phrase
tree_below-returns-in-Phrase t c =
    rw c.children.ensures (below-phrase c.args.query.now c.args.depth c.args.at _ c.args.boost c.requires.1.1 (limit c.args.boost false c.if-limit-boost.false) (c.in_ok-kind_at.ensures ∙ ap kind_number c.in-Phrase.is))

pub tree_below-returns-in-Boolean : goal.tree_below-returns-in-Boolean
tree_below-returns-in-Boolean t c =
    c.clauses_below.ensures ∙ below-boolean c.args.query.now c.args.depth c.args.at _ c.args.boost c.requires.1.1 (limit c.args.boost false c.if-limit-boost.false) (c.in_ok-kind_at.ensures ∙ ap kind_number c.in-Boolean.is)

pub tree_below-returns-in-ConstantScore : goal.tree_below-returns-in-ConstantScore
tree_below-returns-in-ConstantScore t c =
    c.tree_below.ensures ∙ below-constant c.args.query.now c.args.depth c.args.at _ c.args.boost c.requires.1.1 (limit c.args.boost false c.if-limit-boost.false) (c.in_ok-kind_at.ensures ∙ ap kind_number c.in-ConstantScore.is)

pub tree_below-returns-in-Boost : goal.tree_below-returns-in-Boost
tree_below-returns-in-Boost t c =
    let q = c.args.query.now in let depth = c.args.depth in let at = c.args.at in let boost = c.args.boost in
    c.tree_below-in-Boost.ensures ∙ ap (λ (z : ℕ). end_below_limit (decode q (depth - 1) (at + 1)) (boosted boost z)) c.value.ensures ∙ below-boost q depth at _ boost c.requires.1.1 (limit boost false c.if-limit-boost.false) (c.in_ok-kind_at.ensures ∙ ap kind_number c.in-Boost.is)

pub tree_below-returns-in-PhraseTerm : goal.tree_below-returns-in-PhraseTerm
tree_below-returns-in-PhraseTerm t c =
    let k = kind-known c.args.query.now c.args.depth c.args.at c.requires.1.0 c.args.boost c.requires.1.1 (limit c.args.boost false c.if-limit-boost.false) in
    absurd (omega (arith, k.1, c.in_ok-kind_at.ensures ∙ ap kind_number c.in-PhraseTerm.is))
