-- Each turn takes a leaf whose run begins where the runs so far end, and counts whether its first document falls.
use Rattle.std.proofs.Common.{◌≡◌, ℕ, leb, ◌+◌, ◌*◌, ◌/◌, ◌<◌, length, get_or, sym, ap, ◌∙◌, subst, arith, le-leb}
use borrow.Author.Tests.{lt-leb}
use Rattle.meaning.proofs.Below.{count-le, count-one, count_same}
use Rattle.index.specs.IndexOf.{index_of}
use Rattle.index.proofs.Known.{leaf-ok}
use Rattle.check_leaves.specs.Together.{border_fall}
use Rattle.check_leaves.proofs.Adjoined.{followed, together-one, together-more, border-is}
use Rattle.check_leaves.proofs.adjacent.Goals.{then-first-document_before, else-first-document_before}
use Rattle.check_leaves.proofs.adjacent.Goals as goal

-- a document that was read is below N
below : (n d w : ℕ) → d ≡ w → d < n → w < n
below n d w e h = subst (λ (x : ℕ). x < n) e h

pub document_before-requires : goal.document_before-requires
document_before-requires c =
    let ok = leaf-ok (index_of c.args.lent.now) c.requires.leaves_right c.args.l (omega arith) in
    (omega (arith, c.run_end-runs_end.ensures, c.requires.l_lt_limit), omega (arith, ok.run, c.run_end-runs_end.ensures))

pub loop-end-init : goal.loop-end-init
loop-end-init c =
    let ok = leaf-ok (index_of c.args.lent.now) c.requires.leaves_right c.args.l (omega arith) in
    (1, (omega arith, omega arith, omega arith, omega (arith, c.run_end-runs_end.ensures, c.requires.l_lt_limit), omega (arith, ok.run, c.run_end-runs_end.ensures), together-one (index_of c.args.lent.now) c.args.l _ c.requires.l_lt_limit.2 c.run_end-runs_end.ensures (below _ _ _ c.document_before.ensures c.if-document_before-lent.false)))

pub follows-requires : goal.follows-requires
follows-requires c =
    let h : c.loop-end.end < length c.args.lent.now.leaves.now / 4 = omega arith in
    (h, (leaf-ok (index_of c.args.lent.now) c.requires.leaves_right c.loop-end.end h).field)

pub posting_document-first-requires : goal.posting_document-first-requires
posting_document-first-requires c =
    let ok = leaf-ok (index_of c.args.lent.now) c.requires.leaves_right c.loop-end.end (omega arith) in
    let f = followed (index_of c.args.lent.now) c.loop-end.end c.loop-end.runs_end (sym c.follows.ensures ∙ c.if-not-follows.false) in
    omega (arith, f.first, f.some, ok.run)

pub overflow_add-falls : goal.overflow_add-falls
overflow_add-falls c =
    let v = c.loop-end.invariant in
    omega (arith, v.1.5.fallen, count-le v.0 (border_fall (index_of c.args.lent.now) c.args.l), v.1.2, c.requires.l_lt_limit, c.well_formed)

pub document_before-requires-in-loop-end-2 : goal.document_before-requires-in-loop-end-2
document_before-requires-in-loop-end-2 c =
    let ok = leaf-ok (index_of c.args.lent.now) c.requires.leaves_right c.loop-end.end (omega arith) in
    let f = followed (index_of c.args.lent.now) c.loop-end.end c.loop-end.runs_end (sym c.follows.ensures ∙ c.if-not-follows.false) in
    (omega (arith, c.run_end-runs_end-in-loop-end.ensures, f.some), omega (arith, c.run_end-runs_end-in-loop-end.ensures, ok.run))

pub loop-end-preserved : goal.loop-end-preserved
loop-end-preserved c =
    let ok = leaf-ok (index_of c.args.lent.now) c.requires.leaves_right c.loop-end.end (omega arith) in
    let f = followed (index_of c.args.lent.now) c.loop-end.end c.loop-end.runs_end (sym c.follows.ensures ∙ c.if-not-follows.false) in
    let v = c.loop-end.invariant in
    let end = c.loop-end.runs_end in
    let first = c.posting_document-first in
    let here : end + 0 ≡ end = omega arith in
    let before = c.document_before-in-loop-end in
    let turn = ap (λ (d : ℕ). leb d before.result) (first.ensures ∙ ap (λ (k : ℕ). get_or c.args.lent.now.postings.now (3 * k) 0) here) ∙ ap (λ (d : ℕ). leb (get_or c.args.lent.now.postings.now (3 * end) 0) d) before.ensures ∙ border-is (index_of c.args.lent.now) c.args.l v.0 c.loop-end.end end v.1.0 v.1.1 f.first in (
      v.0 + 1,
      (
        omega (arith, v.1.0),
        omega arith,
        omega (arith, v.1.0),
        omega (arith, c.run_end-runs_end-in-loop-end.ensures, f.some),
        omega (arith, c.run_end-runs_end-in-loop-end.ensures, ok.run),
        together-more (index_of c.args.lent.now) c.args.l v.0 end c.loop-end.falls v.1.5 v.1.1 c.loop-end.end v.1.0 f.first f.some f.with _ _ c.run_end-runs_end-in-loop-end.ensures (elim c.if-first-document_before.branch [
          | then-first-document_before w ↦ w.falls-is ∙ count-one _ _ _ v.1.5.fallen (sym turn ∙ le-leb _ _ w.if-first-document_before.true)
          | else-first-document_before w ↦ w.falls-is ∙ count_same _ _ _ v.1.5.fallen (sym turn ∙ lt-leb _ _ w.if-first-document_before.false)
        ]) (below _ _ _ c.document_before-in-loop-end-2.ensures c.if-document_before-lent-2.false),
      ),
    )
