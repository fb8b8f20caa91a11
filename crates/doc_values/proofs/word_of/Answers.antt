-- Each turn shifts the word by one and puts the document at hand into its lowest bit, from the last one back.
use Rattle.std.proofs.Common.{◌≡◌, sym, ap, ap₂, ◌∙◌, Bool, ◌&&◌, ℕ, ◌+◌, ◌-◌, ltb, arith, le-ltb}
use Rattle.bits.proofs.Laws.{bit-zero}
use Rattle.doc_values.proofs.Bitmaps.{one-more}
use Rattle.doc_values.proofs.word_of.Goals as goal

pub loop-j-init : goal.loop-j-init
loop-j-init g c = λ takes h p l. let a = c.args in bit-zero p ∙ sym (ap (λ (b : Bool). b && takes (a.first + a.count + p)) (le-ltb p (a.count - a.count) (omega arith)))

pub loop-j-preserved : goal.loop-j-preserved
loop-j-preserved g c = λ takes h.
    let a = c.args in
    let l = c.loop-j in
    one-more takes a.first a.count l.j (l.j - 1) l.w c.from.result c.lists.result (omega (arith, c.loop-j-test.true)) l.auto.j c.from.ensures (h _ _ c.lists.ensures) (l.invariant takes h)

pub returns : goal.returns
returns g c = λ takes h p l.
    let a = c.args in
    let j = c.loop-j.j in
    let all : a.count - j ≡ a.count = omega (arith, c.loop-j-test.false) in
    let here : a.first + j + p ≡ a.first + p = omega (arith, c.loop-j-test.false) in
    c.loop-j.invariant takes h p l ∙ ap₂ (λ (n d : ℕ). ltb p n && takes d) all here
