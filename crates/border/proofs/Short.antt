-- The border's refusals: with a slice for the answer that is long enough they are the entry's own, and with a shorter one any call is refused, with 12 where no lower number holds. Assumes nothing.
use mathlib.Core.Path.{◌≡◌, refl, sym, ◌∙◌}
use mathlib.Core.Bool.{Bool, true, false, cond, or-true, or-false, ◌||◌}
use mathlib.Core.List.{List, [], ◌∷◌, ◌++◌}
use Prim.Native.Nat.{ℕ, zero, suc, ◌≤◌, ◌<◌, min}
use native.Mathlib.Omega.{arith}
use lib.Dec.{eqb, ltb}
use borrow.Author.Tests.{lt-ltb, le-ltb, ltb-true, ltb-false, eqb-false, eq-eqb, ne_eqb}
use Rattle.meaning.specs.Lent.{Index}
use Rattle.meaning.specs.Refusals.{Condition, ◌when◌, lowest}
use Rattle.meaning.specs.CallRefusals.{Work, wrong11, wrong12_search, wrong12_page, wrong12_pick, wrong13_page, wrong14}
use Rattle.meaning.specs.Entries.{answered, order_conditions, search_refusal, page_refusal, pick_refusal}
use Rattle.meaning.proofs.Tests.{or_left}
use Rattle.border.specs.Border.{short_answer, border_search, border_page, border_pick}

-- ---- what a refusal becomes where the slice is too short
pub short-of-none : (n : ℕ) → n ≡ 0 → short_answer n ≡ 12
unfolding short_answer
short-of-none n e = rw (eq-eqb n 0 e)

pub short-above : (n : ℕ) → 12 < n → short_answer n ≡ 12
unfolding short_answer
short-above n h = rw (lt-ltb 12 n h, or-true (eqb n 0))

pub short-stays : (n : ℕ) → (n ≡ 0 → ⊥) → n ≤ 12 → short_answer n ≡ n
unfolding short_answer
short-stays n h k = rw (ne_eqb n 0 h, le-ltb 12 n k)

-- of a refusal's number, 12 at the most stays
pub short-least : (n : ℕ) → (n ≡ 0 → ⊥) → min n 12 ≡ short_answer n
short-least n h = by (ltb 12 n) refl
  where
    by : (t : Bool) → ltb 12 n ≡ t → min n 12 ≡ short_answer n
    by true e =
        let g : 12 < n = ltb-true 12 n e in
        let m : min n 12 ≡ 12 = omega (arith, g) in
        m ∙ sym (short-above n g)
    by false e =
        let l : n ≤ 12 = ltb-false 12 n e in
        let m : min n 12 ≡ n = omega (arith, l) in
        m ∙ sym (short-stays n h l)

-- the two ways in which it is said
pub short-of : (n : ℕ) → answered n 12 (λ m. min m 12) ≡ short_answer n
short-of zero = sym (short-of-none zero refl)
short-of (suc n) = short-least (suc n) (λ e. omega (arith, e))

-- a call with a slice that is too short is refused
pub short-refuses : (n : ℕ) → 0 < short_answer n
unfolding short_answer
short-refuses n = one_of (eqb n 0 || ltb 12 n) (λ e. let p = eqb-false n 0 (or_left (eqb n 0) (ltb 12 n) e) in omega (arith, p))
  where
    one_of : (t : Bool) → (t ≡ false → 0 < n) → 0 < cond t 12 n
    one_of true f = omega arith
    one_of false f = f refl

-- ---- the lowest number with 12 held
-- a lower number that holds stays
lower : (n : ℕ) (h : Bool) (xs ys : List Condition) → short_answer n ≡ n → lowest xs ≡ short_answer (lowest ys) → lowest ((n when h) ∷ xs) ≡ short_answer (lowest ((n when h) ∷ ys))
unfolding lowest
lower n true xs ys e f = sym e
lower n false xs ys e f = f

-- 12 that holds, and no lower one
twelve : (h : Bool) (xs : List Condition) → short_answer (lowest xs) ≡ 12 → lowest ((12 when (h || true)) ∷ xs) ≡ short_answer (lowest ((12 when h) ∷ xs))
unfolding lowest short_answer
twelve true xs e = refl
twelve false xs e = sym e

-- the numbers after 12
nothing-after : short_answer (lowest []) ≡ 12
unfolding lowest short_answer
nothing-after = refl

one-after : (n : ℕ) (h : Bool) → 12 < n → short_answer (lowest ((n when h) ∷ [])) ≡ 12
unfolding lowest
one-after n true p = short-above n p
one-after n false p = nothing-after

-- the numbers 1 to 10
order : (ix : Index) (q : List ℕ) (xs ys : List Condition) → lowest xs ≡ short_answer (lowest ys) → lowest (order_conditions ix q ++ xs) ≡ short_answer (lowest (order_conditions ix q ++ ys))
unfolding short_answer
order ix q xs ys e =
    lower 1 _ _ _ refl (lower 2 _ _ _ refl (lower 3 _ _ _ refl (lower 4 _ _ _ refl (lower 5 _ _ _ refl (lower 6 _ _ _ refl (lower 7 _ _ _ refl (lower 8 _ _ _ refl (lower 9 _ _ _ refl (lower 10 _ _ _ refl e)))))))))

-- ---- each entry, with a slice that is too short
pub search-short : (ix : Index) (q : List ℕ) (k : ℕ) (w : Work) (places answer : ℕ) → answer < 3 → border_search ix q k w places answer ≡ short_answer (search_refusal ix q k w places)
unfolding border_search search_refusal short_answer
search-short ix q k w places answer h = rw (lt-ltb answer 3 h) (order ix q _ _ (lower 11 (wrong11 k) _ _ refl (twelve (wrong12_search ix q w k places) [] nothing-after)))

pub page-short : (ix : Index) (q : List ℕ) (target : ℕ) (w : Work) (documents scores answer : ℕ) → answer < 2 → border_page ix q target w documents scores answer ≡ short_answer (page_refusal ix q target w documents scores)
unfolding border_page page_refusal
page-short ix q target w documents scores answer h =
    rw (lt-ltb answer 2 h) (order ix q _ _ (twelve (wrong12_page ix q w documents scores) _ (one-after 13 (wrong13_page ix target) (omega arith))))

pub pick-short : (documents scores : List ℕ) (k places answer : ℕ) → answer < 3 → border_pick documents scores k places answer ≡ short_answer (pick_refusal documents scores k places)
unfolding border_pick pick_refusal short_answer
pick-short documents scores k places answer h =
    rw (lt-ltb answer 3 h) (lower 11 (wrong11 k) _ _ refl (twelve (wrong12_pick k places) _ (one-after 14 (wrong14 documents scores) (omega arith))))

-- ---- .. and with one that is long enough
pub search-long : (ix : Index) (q : List ℕ) (k : ℕ) (w : Work) (places answer : ℕ) → 3 ≤ answer → border_search ix q k w places answer ≡ search_refusal ix q k w places
unfolding border_search search_refusal
search-long ix q k w places answer h = rw (le-ltb answer 3 h, or-false (wrong12_search ix q w k places))

pub page-long : (ix : Index) (q : List ℕ) (target : ℕ) (w : Work) (documents scores answer : ℕ) → 2 ≤ answer → border_page ix q target w documents scores answer ≡ page_refusal ix q target w documents scores
unfolding border_page page_refusal
page-long ix q target w documents scores answer h = rw (le-ltb answer 2 h, or-false (wrong12_page ix q w documents scores))

pub pick-long : (documents scores : List ℕ) (k places answer : ℕ) → 3 ≤ answer → border_pick documents scores k places answer ≡ pick_refusal documents scores k places
unfolding border_pick pick_refusal
pick-long documents scores k places answer h = rw (le-ltb answer 3 h, or-false (wrong12_pick k places))
