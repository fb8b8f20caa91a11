-- Each turn looks at one value more: the first of its three words is its presence.
use Rattle.std.proofs.Common.{◌≡◌, ℕ, ◌*◌, ◌/◌, ◌<◌, List, [], length, get_or, ltb, sym, ap, ◌∙◌, lit<, add-zero, arith}
use Rattle.meaning.proofs.Below.{any-zero, any-more}
use Rattle.index.proofs.Chains.{chunk_word}
use Rattle.index.proofs.columns.wrong_presence.Goals as goal

pub loop-present-init : goal.loop-present-init
loop-present-init c = sym (any-zero _)

pub loop-present-preserved : goal.loop-present-preserved
loop-present-preserved c =
    let values = c.args.values.now in
    let i = c.loop-present.present-index in
    let records = c.as_chunks.result.0.now in
    let within : i < length c.args.values.now / 3 = omega (arith, c.as_chunks.ensures.front_len, c.loop-present-test.true) in
    let word : get_or (get_or records i []) 0 0 ≡ get_or values (3 * i) 0 = ap (λ (rs : List (List ℕ)). get_or (get_or rs i []) 0 0) c.as_chunks.ensures.front ∙ chunk_word 3 (length values / 3) values i 0 within (lit< tt) ∙ ap (λ (k : ℕ). get_or values k 0) (add-zero (3 * i)) in
    any-more _ _ _ _ c.loop-present.invariant (ap (λ (x : ℕ). ltb 1 x) word)
