-- Each turn adds one posting; the first one beyond the window ends the loop, since documents rise.
use Rattle.std.proofs.Common.{◌≡◌, ◌∙◌, ◌+◌, ◌<◌, ◌≤◌, length, arith}
use Rattle.index.specs.Runs.{posting_document}
use Rattle.token_norms.proofs.Adding.{adding-start, from-base, beyond-window, adding-fits, adding-step, cursor-done, adding-done}
use Rattle.token_norms.proofs.add_run.Goals as goal

pub loop-i-init : goal.loop-i-init
loop-i-init c = let a = c.args in adding-start a.postings.now a.first a.number c.requires.run_ok.0 a.base a.counts.now a.from c.requires.run_ok.1

pub overflow_sub-document : goal.overflow_sub-document
overflow_sub-document c =
    let a = c.args in
    let l = c.loop-i in
    from-base a.postings.now a.first a.number c.requires.run_ok.0 a.base a.counts.now l.i l.counts l.invariant c.loop-i-test.true c.posting_document-document.result c.posting_document-document.ensures

pub returns-then-document-base : goal.returns-then-document-base
returns-then-document-base c =
    let a = c.args in
    let l = c.loop-i in
    let beyond = beyond-window a.postings.now a.first a.number c.requires.run_ok.0 a.base a.counts.now l.i l.counts l.invariant c.loop-i-test.true c.posting_document-document.result c.posting_document-document.ensures c.if-document-base.true in
    record { value = cursor-done a.postings.now a.first a.number c.requires.run_ok.0 a.base a.counts.now l.i l.counts l.invariant (λ m. beyond); counts_after = adding-done a.postings.now a.first a.number c.requires.run_ok.0 a.base a.counts.now l.i l.counts l.invariant (λ m. beyond) }

pub overflow_sub-counts : goal.overflow_sub-counts
overflow_sub-counts c =
    let a = c.args in
    let l = c.loop-i in
    from-base a.postings.now a.first a.number c.requires.run_ok.0 a.base a.counts.now l.i l.counts l.invariant c.loop-i-test.true c.posting_document-document.result c.posting_document-document.ensures

pub overflow_add-counts : goal.overflow_add-counts
overflow_add-counts c =
    let a = c.args in
    let l = c.loop-i in
    omega (arith, adding-fits a.postings.now a.first a.number c.requires.run_ok.0 a.base a.counts.now l.i l.counts l.invariant c.loop-i-test.true c.posting_document-document.result c.posting_document-document.ensures c.if-document-base.false c.posting_frequency.result c.posting_frequency.ensures c.requires.by_index)

pub loop-i-preserved : goal.loop-i-preserved
loop-i-preserved c =
    let a = c.args in
    let l = c.loop-i in
    adding-step a.postings.now a.first a.number c.requires.run_ok.0 a.base a.counts.now l.i l.counts l.invariant c.loop-i-test.true c.posting_document-document.result c.posting_document-document.ensures c.if-document-base.false c.posting_frequency.result c.posting_frequency.ensures

pub returns : goal.returns
returns c =
    let a = c.args in
    let l = c.loop-i in
    let none = λ (m : l.i < a.number). absurd {A = a.base + length a.counts.now ≤ posting_document a.postings.now a.first l.i} (omega (arith, m, c.loop-i-test.false)) in
    let end : a.number ≡ l.i = omega (arith, l.invariant.upto, c.loop-i-test.false) in
    record { value = end ∙ cursor-done a.postings.now a.first a.number c.requires.run_ok.0 a.base a.counts.now l.i l.counts l.invariant none; counts_after = adding-done a.postings.now a.first a.number c.requires.run_ok.0 a.base a.counts.now l.i l.counts l.invariant none }
