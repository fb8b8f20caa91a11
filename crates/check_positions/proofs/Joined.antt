-- A run whose postings' positions follow one another: one pass over all of them. Assumes nothing.
use Rattle.std.proofs.Common.{◌≡◌, ℕ, zero, suc, ◌+◌, ◌-◌, ◌*◌, ◌<◌, ◌≤◌, Bool, true, false, not, ◌&&◌, ◌||◌, eqb, ltb, List, length, get_or, take, drop, sym, refl, ap, ◌∙◌, subst, arith, length-drop, length-take, ◌/◌, get_or-drop, get_or-take, le-ltb, lt-ltb, eq-eqb, eqb-true}
use borrow.Author.Tests.{not-false}
use Rattle.meaning.specs.Below.{any_below, count_below}
use Rattle.meaning.specs.Limits.{no_more_docs}
use Rattle.check_positions.specs.Places.{wrong_place, wrong_places, apart_at, seam_at, drop_at}
use Rattle.meaning.proofs.Tests.{and_second}
use Rattle.meaning.proofs.Below.{none_below, any_none, any_some, any-like, any-or}
use Rattle.check_positions.proofs.Gaps.{gap-small}
use Rattle.check_positions.proofs.Places.{pred-suc}
use Rattle.index.proofs.Chains.{count-like}
use Rattle.check_positions.proofs.Prefix.{before, before-zero, before-next, before-le, any-parts, more-than-firsts}

-- a fall from the word before
unfoldable pub fall_at : List ℕ → ℕ → Bool
fall_at part k = ltb 0 k && ltb (get_or part k 0) (get_or part (k - 1) 0)

drop-fall : (part : List ℕ) (k : ℕ) → get_or part k 0 < 2147483648 → get_or part (k - 1) 0 < 2147483648 → drop_at part k ≡ fall_at part k
unfolding drop_at fall_at
drop-fall part k l m = rw (gap-small _ _ l m)

abbrev index_at : List ℕ → ℕ → ℕ
index_at run i = get_or run (3 * i + 2) 0

abbrev frequency_at : List ℕ → ℕ → ℕ
frequency_at run i = get_or run (3 * i + 1) 0

module _ (run : List ℕ) (n : ℕ) (joined : any_below n (apart_at run) ≡ false) where
  next-is : (i : ℕ) → suc i < n → index_at run (suc i) ≡ index_at run i + frequency_at run i
  unfolding apart_at
  next-is i l =
      let h : 0 < suc i = omega arith in let e : not (eqb (index_at run (suc i)) (index_at run (suc i - 1) + frequency_at run (suc i - 1))) ≡ false = and_second (ltb 0 (suc i)) _ (none_below n (apart_at run) joined (suc i) l) (lt-ltb _ _ h) in eqb-true _ _ (not-false _ e) ∙ rw (pred-suc i)

  pub index_is : (i : ℕ) → i < n → index_at run i ≡ index_at run 0 + before (frequency_at run) i
  index_is zero l = omega (arith, before-zero (frequency_at run))
  index_is (suc i) l = omega (arith, next-is i l, index_is i (omega arith), before-next (frequency_at run) i)

  module _ (end : ℕ) (some : 0 < n) (e : end ≡ index_at run (n - 1) + frequency_at run (n - 1)) where
    pub end_is : end ≡ index_at run 0 + before (frequency_at run) n
    end_is = let k : suc (n - 1) ≡ n = omega arith in omega (arith, index_is (n - 1) (omega arith), before-next (frequency_at run) (n - 1), ap (before (frequency_at run)) k)

    pub ends-within : (i : ℕ) → i < n → index_at run i + frequency_at run i ≤ end
    ends-within i l = omega (arith, index_is i l, before-next (frequency_at run) i, before-le (frequency_at run) (suc i) n (omega arith), end_is)

    -- where they do not fit the slice, the last posting's do not
    pub joined-past : (positions : List ℕ) → length positions < end → any_below n (wrong_places run positions) ≡ true
    unfolding wrong_places
    joined-past positions l =
        let h : length positions < index_at run (n - 1) + frequency_at run (n - 1) = omega arith in any_some n (wrong_places run positions) (n - 1) (omega arith) (rw (lt-ltb _ _ h))

    -- where they do
    module _ (positions : List ℕ) (fits : end ≤ length positions) (above : (i : ℕ) → i < n → 0 < frequency_at run i) where
      abbrev part : List ℕ
      part = take (end - index_at run 0) (drop (index_at run 0) positions)

      part_length : length part ≡ before (frequency_at run) n
      part_length = simp (length-take, length-drop) (omega (arith, end_is))

      part_at : (k m : ℕ) → k < before (frequency_at run) n → index_at run 0 + k ≡ m → get_or part k 0 ≡ get_or positions m 0
      part_at k m l g =
          let h : k < end - index_at run 0 = omega (arith, end_is) in get_or-take _ _ k 0 h ∙ get_or-drop _ positions k 0 ∙ ap (λ (x : ℕ). get_or positions x 0) g

      within : (i j : ℕ) → i < n → j < frequency_at run i → before (frequency_at run) i + j < before (frequency_at run) n
      within i j l g = omega (arith, before-next (frequency_at run) i, before-le (frequency_at run) (suc i) n (omega arith))

      place_at : (i j : ℕ) → i < n → j < frequency_at run i → get_or part (before (frequency_at run) i + j) 0 ≡ get_or (drop (index_at run i) positions) j 0
      place_at i j l g =
          part_at (before (frequency_at run) i + j) (index_at run i + j) (within i j l g) (omega (arith, index_is i l)) ∙ sym (get_or-drop (index_at run i) positions j 0)

      high-all : any_below (length part) (λ k. ltb no_more_docs (get_or part k 0)) ≡ any_below n (λ i. any_below (frequency_at run i) (λ j. ltb no_more_docs (get_or (drop (index_at run i) positions) j 0)))
      high-all =
          ap (λ (m : ℕ). any_below m (λ k. ltb no_more_docs (get_or part k 0))) part_length ∙ any-parts (frequency_at run) n (λ k. ltb no_more_docs (get_or part k 0)) ∙ any-like n _ _ (λ i l. any-like (frequency_at run i) _ _ (λ j g. ap (λ (x : ℕ). ltb no_more_docs x) (place_at i j l g)))

      -- a posting's first position
      first-fall : (i : ℕ) → i < n → fall_at part (before (frequency_at run) i) ≡ seam_at run positions i
      unfolding fall_at seam_at
      first-fall zero l = rw (before-zero (frequency_at run))
      first-fall (suc i) l =
          let b : 0 < before (frequency_at run) (suc i) = omega (arith, before-next (frequency_at run) i, above i (omega arith)) in let h : 0 < suc i = omega arith in let w : before (frequency_at run) (suc i) < before (frequency_at run) n = omega (arith, within (suc i) 0 l (above (suc i) l)) in rw (lt-ltb _ _ b, lt-ltb _ _ h, part_at (before (frequency_at run) (suc i)) (index_at run (suc i)) w (omega (arith, index_is (suc i) l)), part_at (before (frequency_at run) (suc i) - 1) (index_at run (suc i) - 1) (omega arith) (omega (arith, index_is (suc i) l)))

      -- its others
      other-fall : (i j : ℕ) → i < n → 0 < j → j < frequency_at run i → fall_at part (before (frequency_at run) i + j) ≡ fall_at (drop (index_at run i) positions) j
      unfolding fall_at
      other-fall i j l h g =
          let b : 0 < before (frequency_at run) i + j = omega arith in let k : before (frequency_at run) i + j - 1 ≡ before (frequency_at run) i + (j - 1) = omega arith in rw (lt-ltb _ _ b, lt-ltb _ _ h, k, place_at i j l g, place_at i (j - 1) l (omega arith))

      no-fall : (i : ℕ) → fall_at (drop (index_at run i) positions) 0 ≡ false
      unfolding fall_at
      no-fall i = refl

      falls-all : not (eqb (count_below (length part) (fall_at part)) (count_below n (seam_at run positions))) ≡ any_below n (λ i. any_below (frequency_at run i) (fall_at (drop (index_at run i) positions)))
      falls-all =
          ap (λ (m : ℕ). not (eqb (count_below m (fall_at part)) (count_below n (seam_at run positions)))) part_length ∙ more-than-firsts (frequency_at run) (fall_at part) (seam_at run positions) (λ i. fall_at (drop (index_at run i) positions)) no-fall n above first-fall other-fall

      places-are : (i : ℕ) → i < n → wrong_places run positions i ≡ (any_below (frequency_at run i) (λ j. ltb no_more_docs (get_or (drop (index_at run i) positions) j 0)) || any_below (frequency_at run i) (fall_at (drop (index_at run i) positions)))
      unfolding wrong_places wrong_place fall_at
      places-are i l =
          let h : index_at run i + frequency_at run i ≤ length positions = omega (arith, ends-within i l) in rw (le-ltb _ _ h) (any-or (frequency_at run i) (λ j. ltb no_more_docs (get_or (drop (index_at run i) positions) j 0)) (fall_at (drop (index_at run i) positions)))

      pub joined-all : (any_below (length part) (λ k. ltb no_more_docs (get_or part k 0)) || not (eqb (count_below (length part) (fall_at part)) (count_below n (seam_at run positions)))) ≡ any_below n (wrong_places run positions)
      joined-all =
          ap (λ (b : Bool). b || not (eqb (count_below (length part) (fall_at part)) (count_below n (seam_at run positions)))) high-all ∙ ap (λ (b : Bool). any_below n (λ i. any_below (frequency_at run i) (λ j. ltb no_more_docs (get_or (drop (index_at run i) positions) j 0))) || b) falls-all ∙ sym (any-or n _ _) ∙ any-like n _ _ (λ i l. sym (places-are i l))

      -- where the or of all shows that none is high: as many falls as at the postings' firsts are right
      module _ (most : ℕ) (small : most ≤ 2147483647) (bound : (k : ℕ) → k < length part → get_or part k 0 ≤ most) where
        none-high : any_below (length part) (λ k. ltb no_more_docs (get_or part k 0)) ≡ false
        none-high = any_none (length part) _ (λ k l. let h : get_or part k 0 ≤ 2147483647 = omega (arith, bound k l) in le-ltb _ _ h)

        drops : count_below (length part) (drop_at part) ≡ count_below (length part) (fall_at part)
        drops = count-like (length part) _ _ (λ k l. drop-fall part k (omega (arith, bound k l)) (omega (arith, bound (k - 1) (omega arith))))

        right-falls : count_below (length part) (drop_at part) ≡ count_below n (seam_at run positions) → any_below n (wrong_places run positions) ≡ false
        right-falls e = sym joined-all ∙ rw (none-high, eq-eqb _ _ (sym drops ∙ e))

        -- where no frequency is above 1 there is no other fall
        right-ones : ((i : ℕ) → i < n → frequency_at run i ≤ 1) → any_below n (wrong_places run positions) ≡ false
        right-ones h = any_none n (wrong_places run positions) (λ i l. places-are i l ∙ rw (none_below n _ (sym high-all ∙ none-high) i l) (any_none (frequency_at run i) _ (λ j g. let z : j ≡ 0 = omega (arith, h i l) in ap (fall_at (drop (index_at run i) positions)) z ∙ no-fall i)))

      -- the same where the code holds the part's ends in locals
      module _ (from : ℕ) (f : from ≡ index_at run 0) (most : ℕ) (small : most ≤ 2147483647) (bound : (k : ℕ) → k < length (take (end - from) (drop from positions)) → get_or (take (end - from) (drop from positions)) k 0 ≤ most) where
        same-bound : (k : ℕ) → k < length part → get_or part k 0 ≤ most
        same-bound = subst (λ (z : ℕ). (k : ℕ) → k < length (take (end - z) (drop z positions)) → get_or (take (end - z) (drop z positions)) k 0 ≤ most) f bound

        pub falls-right : (w z : ℕ) → w ≡ count_below (length (take (end - from) (drop from positions))) (drop_at (take (end - from) (drop from positions))) → z ≡ count_below n (seam_at run positions) → w ≡ z → any_below n (wrong_places run positions) ≡ false
        falls-right w z g h e =
            right-falls most small same-bound (sym (subst (λ (y : ℕ). w ≡ count_below (length (take (end - y) (drop y positions))) (drop_at (take (end - y) (drop y positions)))) f g) ∙ e ∙ h)

        pub ones-right : ((i : ℕ) → i < n → frequency_at run i ≤ 1) → any_below n (wrong_places run positions) ≡ false
        ones-right = right-ones most small same-bound

      -- what `seams` reads lies within the slice
      pub seam-within : (i : ℕ) → 0 < i → i < n → (0 < index_at run i) × (index_at run i < length positions)
      seam-within zero h l = absurd (omega arith)
      seam-within (suc i) h l = (omega (arith, index_is (suc i) l, before-next (frequency_at run) i, above i (omega arith)), omega (arith, ends-within (suc i) l, above (suc i) l))

-- where the positions begin and end
pub begins-before : (run : List ℕ) → 0 < length run / 3 → any_below (length run / 3) (apart_at run) ≡ false → ((i : ℕ) → i < length run / 3 → 0 < frequency_at run i) → index_at run 0 < index_at run (length run / 3 - 1) + frequency_at run (length run / 3 - 1)
begins-before run some joined above = omega (arith, ends-within run (length run / 3) joined _ some refl 0 some, above 0 some)

-- ---- the loops
pub seam-first : (run positions : List ℕ) → ◌≡◌ {A = ℕ} 0 (count_below 1 (seam_at run positions))
unfolding count_below seam_at
seam-first run positions = refl

pub seam-turn : (run positions : List ℕ) (i w : ℕ) → 0 < i → w ≡ index_at run i → ltb (get_or positions w 0) (get_or positions (w - 1) 0) ≡ seam_at run positions i
unfolding seam_at
seam-turn run positions i w h e = rw (lt-ltb _ _ h, e)
