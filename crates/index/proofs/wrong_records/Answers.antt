-- One pass over the records' numbers: the test is asked below the count alone.
use Rattle.std.proofs.Common.{◌≡◌, ◌/◌, ◌<◌, ℕ, Bool, true, false, length, get_or, sym, subst, refl, ◌∙◌, zero-add, rules, arith, MatchBool}
use Rattle.std.specs.List.{HoldsAt, AllWithin, range_with_len}
use Rattle.std.proofs.lemmas.List.FromFn.{length-range_with_len, get_or-range_with_len}
use Rattle.std.proofs.lemmas.Iterator.{cases_from_any, serves_from_Range, YieldsList-from_range}
use Rattle.meaning.specs.Below.{any_below}
use Rattle.meaning.proofs.Below.{any_none, any_some}
use Rattle.index.proofs.Whole.{else-some}
use Rattle.index.proofs.wrong_records.Given as given
use Rattle.index.proofs.wrong_records.Goals as goal

pub any-requires-clause-callable : goal.any-requires-clause-callable
any-requires-clause-callable g c = serves_from_Range (λ x q k. search rules) (λ x l h. let a = c.requires.may_ask x h in search rules)

place : (n i : ℕ) → i < n → get_or (range_with_len 0 n) i 0 ≡ i
place n i h = get_or-range_with_len 0 n i 0 h ∙ zero-add i

by_cases : (n : ℕ) (p : ℕ → Bool) (Gives : ℕ → Bool → Type 0) (r : Bool) → ((i : ℕ) (b : Bool) → i < n → Gives i b → b ≡ p i)
    → MatchBool r ((i : ℕ) × (i < length (range_with_len 0 n)) × HoldsAt (λ j. Gives j true) (range_with_len 0 n) i) (AllWithin (λ j. Gives j false) (range_with_len 0 n) 0 (length (range_with_len 0 n))) → r ≡ any_below n p
by_cases n p Gives true is h =
    let l : h.0 < n = omega (arith, h.1, length-range_with_len 0 n) in
    sym (any_some n p h.0 l (sym (is h.0 true l (subst (λ j. Gives j true) (place n h.0 l) (h.2 0)))))
by_cases n p Gives false is h =
    sym (any_none n p (λ i l. sym (is i false l (subst (λ j. Gives j false) (place n i l) (h i 0 (omega arith) (omega (arith, l, length-range_with_len 0 n)))))))

pub returns : goal.returns
returns g c = λ p is.
    let n = length c.args.words.now / g.row.SIZE in
    let gives = λ (i : ℕ) (b : Bool). given.F-post g c.args.wrong i b in
    let cases = cases_from_any _ _ c.any.result (λ (i : ℕ). gives i true) (λ (i : ℕ). gives i false) c.any.ensures.ran (YieldsList-from_range 0 n n refl (omega arith)) (λ x q k. search rules) (λ x q k. search rules) in
    by_cases n p gives c.any.result is cases ∙ else-some _ _ _ _ _ c.if-words-ne0.false c.if-count-limit.false
