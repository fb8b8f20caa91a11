-- Each turn lists its document behind the others if its value is let in, and leaves the output if not.
use Rattle.std.proofs.Common.{refl, sym, ◌∙◌, arith}
use Rattle.meaning.specs.Below.{list_below}
use Rattle.meaning.proofs.Below.{list_length}
use Rattle.doc_values.specs.Listed.{listed}
use Rattle.doc_values.proofs.Lists.{turn-taken, turn-left}
use Rattle.doc_values.proofs.ready.Ready.scan.Goals as goal
use Rattle.doc_values.proofs.ready.Ready.scan.Goals.{then-lists, else-lists}

pub loop-document-init : goal.loop-document-init
unfolding list_below
loop-document-init c = (refl, refl)

pub bounds-output-held : goal.bounds-output-held
bounds-output-held c = omega (arith, c.loop-document.invariant.0, list_length (listed c.args.self) c.loop-document.document)

pub overflow_add-held : goal.overflow_add-held
overflow_add-held c = omega (arith, c.loop-document.invariant.0, list_length (listed c.args.self) c.loop-document.document)

pub loop-document-preserved : goal.loop-document-preserved
loop-document-preserved c =
    let a = c.args in
    let l = c.loop-document in
    let P = listed a.self in
    elim c.if-lists.branch [
      | then-lists w ↦ let t = turn-taken P a.output.now l.output l.document l.held l.invariant.0 l.invariant.1 (sym c.lists.ensures ∙ w.if-lists.true) (omega arith) in (w.held-is ∙ t.0, w.output-is ∙ t.1)
      | else-lists w ↦ let t = turn-left P a.output.now l.output l.document l.held l.invariant.0 l.invariant.1 (sym c.lists.ensures ∙ w.if-lists.false) in (w.held-is ∙ t.0, w.output-is ∙ t.1)
    ]

pub overflow_cast-result : goal.overflow_cast-result
overflow_cast-result c = omega (arith, c.loop-document.invariant.0, list_length (listed c.args.self) c.loop-document.document)
