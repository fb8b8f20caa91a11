-- Each turn fills in the inverse of one byte's length.
use Rattle.std.proofs.Common.{◌≡◌, ℕ, ◌+◌, ◌<◌, List, length, get_or, set, sym, ◌∙◌, arith}
use Rattle.std.proofs.lemmas.List.Edits.{fill_by_more}
use lib.Ieee.{Float, nan}
use lib.Seq.{ext_get_or}
use Rattle.meaning.specs.Below.{list_to}
use Rattle.meaning.specs.Bm25.{length_of, inverse}
use Rattle.meaning.proofs.Below.{length-list_to, get_or-list_to}
use Rattle.sim.proofs.bm25.Bm25.new.Goals as goal

-- one inverse more
filled : (f : ℕ → Float) (t : List Float) (i : ℕ) (v : Float) → i < length t → v ≡ f i → ((k : ℕ) → k < i → get_or t k nan ≡ f k) → (k : ℕ) → k < i + 1 → get_or (set t i v) k nan ≡ f k
filled f t i v h e all = rw e (fill_by_more f t i nan h all)

pub returns : goal.returns
returns c =
    let l = c.loop-norm in
    let f : ℕ → Float = λ n. inverse c.args.average (length_of n) in
    ext_get_or nan l.inverse-items (list_to 256 f) (l.invariant.long ∙ sym (length-list_to 256 f))
    (λ k h. l.invariant.filled k (omega (arith, h, l.invariant.long, c.loop-norm-test.false)) ∙ sym (get_or-list_to 256 f nan k (omega (arith, h, l.invariant.long))))
