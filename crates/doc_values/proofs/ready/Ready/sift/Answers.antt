-- Each turn writes the bits of 32 documents more and adds their number.
use Rattle.std.proofs.Common.{ℕ, ◌+◌, ◌*◌, Bool, arith, sym, ◌∙◌}
use Rattle.meaning.proofs.Below.{count-zero}
use Rattle.doc_values.specs.Listed.{listed}
use Rattle.doc_values.proofs.Bitmaps.{cut_at, bitmap-more, next-bits, next-count, count-few, count-cut, list-count}
use Rattle.doc_values.proofs.ready.Ready.sift.Goals as goal

pub loop-word-init : goal.loop-word-init
loop-word-init c = (sym (count-zero _), λ i p h k. absurd (omega (arith, h)))

pub overflow_add-held : goal.overflow_add-held
overflow_add-held c =
    let a = c.args in
    let l = c.loop-word in
    let F : ℕ → Bool = listed a.self in
    omega (arith, next-count a.self.max_doc l.word c.next_word-w.result F c.next_word-w.type_inv c.next_word-w.ensures l.output l.held l.invariant.0, count-few a.self.max_doc (32 * (l.word + 1)) F)

pub loop-word-preserved : goal.loop-word-preserved
loop-word-preserved c =
    let a = c.args in
    let l = c.loop-word in
    let F : ℕ → Bool = listed a.self in
    let w = c.next_word-w.result in (
      next-count a.self.max_doc l.word w F c.next_word-w.type_inv c.next_word-w.ensures l.output l.held l.invariant.0,
      bitmap-more (cut_at a.self.max_doc F) l.output w l.word (next-bits a.self.max_doc l.word w F c.next_word-w.type_inv c.next_word-w.ensures) l.invariant.1 (omega arith),
    )

pub returns-clause-value : goal.returns-clause-value
returns-clause-value c =
    let a = c.args in
    let l = c.loop-word in
    let F : ℕ → Bool = listed a.self in
    l.invariant.0 ∙ count-cut a.self.max_doc (32 * l.word) F (omega arith) ∙ sym (list-count a.self.max_doc F)
