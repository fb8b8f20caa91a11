-- Two terms are merged without buffers; of more, the common part of the starts is written and counted.
use Rattle.std.proofs.Common.{◌≡◌, sym, ap, subst, ◌∙◌, List, [], ◌∷◌, ℕ, ◌≤◌, length, drop, arith}
use Rattle.meaning.specs.Phrase.{common_size}
use Rattle.phrase_starts.specs.declared.Term.{Term}
use Rattle.phrase_starts.specs.Terms.{term_at, starts_of, start_lists}
use Rattle.phrase_starts.proofs.Records.{lists-some, lists_at, lists-end, starts-length}
use Rattle.phrase_starts.proofs.Size.{common-length, common-size-le}
use Rattle.phrase.proofs.frequency.Goals as goal

-- ---- six words are two terms
two-lists : (ps ts : List ℕ) → length ts ≡ 6 → start_lists ps ts ≡ starts_of ps (term_at ts 0) ∷ starts_of ps (term_at ts 3) ∷ []
two-lists ps ts h =
    let e : start_lists ps (drop 6 ts) ≡ [] = subst (λ (n : ℕ). start_lists ps (drop n ts) ≡ []) h (lists-end ps ts) in
    let b : start_lists ps (drop 3 ts) ≡ starts_of ps (term_at ts 3) ∷ start_lists ps (drop 6 ts) = lists_at ps ts 3 (omega (arith, h)) in
    let a : start_lists ps ts ≡ starts_of ps (term_at ts 0) ∷ start_lists ps (drop 3 ts) = lists_at ps ts 0 (omega (arith, h)) in
    a ∙ ap (λ l. starts_of ps (term_at ts 0) ∷ l) (b ∙ ap (λ l. starts_of ps (term_at ts 3) ∷ l) e)

pair_size : (ps ts : List ℕ) (s t : Term) → length ts ≡ 6 → s ≡ term_at ts 0 → t ≡ term_at ts 3 → common_size (starts_of ps s ∷ starts_of ps t ∷ []) ≡ common_size (start_lists ps ts)
pair_size ps ts s t h es et = rw (es, et) (ap common_size (sym (two-lists ps ts h)))

-- no more starts than the first has positions
pair_small : (ps : List ℕ) (s t : Term) → common_size (starts_of ps s ∷ starts_of ps t ∷ []) ≤ s.freq
pair_small ps s t = let a = common-size-le (starts_of ps s) (starts_of ps t ∷ []) in let b = starts-length ps s in omega (arith, a, b)

pub overflow_cast-result : goal.overflow_cast-result
overflow_cast-result c =
    let s = c.term_at in
    let k = c.type_inv.terms 1 in
    let f = ap (λ x. x.freq) s.ensures in
    let m = pair_small c.args.positions.now s.result c.term_at-then-terms-eq-TWO_TERMS.result in
    record { fits = omega (arith, m, f, k.fits, c.pair.ensures) }

pub returns-then-terms-eq-TWO_TERMS : goal.returns-then-terms-eq-TWO_TERMS
returns-then-terms-eq-TWO_TERMS c = c.pair.ensures ∙ pair_size c.args.positions.now c.args.terms.now c.term_at.result c.term_at-then-terms-eq-TWO_TERMS.result c.if-terms-eq-TWO_TERMS.true c.term_at.ensures c.term_at-then-terms-eq-TWO_TERMS.ensures

pub returns : goal.returns
returns c =
    let k = c.common-left in
    let g = c.requires.0 in
    common-length (start_lists c.args.positions.now c.args.terms.now) k.result.now (lists-some c.args.positions.now c.args.terms.now g.whole g.some) k.ensures.0.counts
