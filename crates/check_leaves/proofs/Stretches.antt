-- Leaves whose runs follow one another, read as one run: what shows that none of their postings is wrong. Assumes nothing.
use mathlib.Core.Path.{◌≡◌, refl, sym, ap, subst, ◌∙◌}
use mathlib.Core.Logic.{⊎_elim}
use mathlib.Core.Bool.{Bool, true, false, ◌&&◌, ◌||◌}
use mathlib.Core.List.{List}
use Prim.Native.Nat.{ℕ, zero, suc, ◌+◌, ◌-◌, ◌*◌, ◌/◌, ◌≤◌, ◌<◌}
use native.Mathlib.Omega.{arith}
use lib.Dec.{leb, ltb}
use lib.ListN.{length, get_or, take, drop, length-take, length-drop}
use lib.Seq.{get_or-take, get_or-drop}
use borrow.Author.Tests.{lt-ltb, le-ltb, lt-leb, eq-eqb, ne_eqb, leb-false}
use Rattle.meaning.specs.Below.{any_below, count_below}
use Rattle.meaning.specs.Lent.{Index, has_positions, leaf_count, leaf_field, leaf_first, leaf_number, leaf_document, leaf_frequency, leaf_positions_index}
use Rattle.meaning.specs.IndexRefusals.{wrong4, wrong_posting, wrong_positions, wrong_position}
use Rattle.meaning.proofs.Tests.{and_second}
use Rattle.meaning.proofs.Below.{any-like, any_none, none_below, last-or-below}
use Rattle.index.proofs.Known.{leaf-ok}
use Rattle.check_positions.specs.Places.{wrong_places}
use Rattle.check_leaves.specs.Plain.{Plain, document_fall}
use Rattle.check_leaves.specs.Together.{Together, border_fall}
use Rattle.check_positions.proofs.Prefix.{before, before-zero, before-next, before-le, more-than-firsts}
use Rattle.check_positions.proofs.Parts.{places-are}

-- leaves that follow one another end within the postings, and not before they begin
pub ends-within : {ix : Index} {l m last falls : ℕ} → Together ix l m last falls false → 0 < m → wrong4 ix ≡ false → l + m ≤ leaf_count ix → 3 * last ≤ length ix.postings
ends-within {ix} {l} {m} t p right there = let ok = leaf-ok ix right (l + (m - 1)) (omega arith) in omega (arith, t.ends, ok.words)

pub begins-before : {ix : Index} {l m last falls : ℕ} → Together ix l m last falls false → 0 < m → leaf_first ix l ≤ last
begins-before {ix} {l} {m} t p = omega (arith, t.ends, firsts-rise (m - 1) (omega arith))
  where
    firsts-rise : (i : ℕ) → i < m → leaf_first ix l ≤ leaf_first ix (l + i)
    firsts-rise zero g = let z : l + 0 ≡ l = omega arith in omega (arith, ap (λ (k : ℕ). leaf_first ix k) z)
    firsts-rise (suc i) g = omega (arith, t.next i g, firsts-rise i (omega arith))

module _ (ix : Index) (l m last falls : ℕ) (t : Together ix l m last falls false) (p : 0 < m) (first : ℕ) (fe : first ≡ leaf_first ix l) (fits : 3 * last ≤ length ix.postings) where
  abbrev number : ℕ → ℕ
  number i = leaf_number ix (l + i)

  abbrev run : List ℕ
  run = take (3 * last - 3 * first) (drop (3 * first) ix.postings)

  first-is : (i : ℕ) → i < m → leaf_first ix (l + i) ≡ first + before number i
  first-is zero g = let z : l + 0 ≡ l = omega arith in omega (arith, fe, ap (λ (k : ℕ). leaf_first ix k) z, before-zero number)
  first-is (suc i) g = omega (arith, t.next i g, first-is i (omega arith), before-next number i)

  pub last-is : last ≡ first + before number m
  last-is = let z : suc (m - 1) ≡ m = omega arith in omega (arith, t.ends, first-is (m - 1) (omega arith), before-next number (m - 1), ap (before number) z)

  pub run-count : length run / 3 ≡ before number m
  run-count = simp (length-take, length-drop) (omega (arith, last-is))

  word : (k z : ℕ) → k < 3 * before number m → 3 * first + k ≡ z → get_or run k 0 ≡ get_or ix.postings z 0
  word k z g e = let h : k < 3 * last - 3 * first = omega (arith, last-is) in get_or-take _ _ k 0 h ∙ get_or-drop _ ix.postings k 0 ∙ ap (λ (a : ℕ). get_or ix.postings a 0) e

  -- posting j of the i-th leaf is record `before number i + j`
  within : (i j : ℕ) → i < m → j < number i → before number i + j < before number m
  within i j g h = omega (arith, before-next number i, before-le number (suc i) m (omega arith))

  document-is : (i j : ℕ) → i < m → j < number i → get_or run (3 * (before number i + j)) 0 ≡ leaf_document ix (l + i) j
  document-is i j g h = word (3 * (before number i + j)) (3 * (leaf_first ix (l + i) + j)) (omega (arith, within i j g h)) (omega (arith, first-is i g))

  frequency-is : (i j : ℕ) → i < m → j < number i → get_or run (3 * (before number i + j) + 1) 0 ≡ leaf_frequency ix (l + i) j
  frequency-is i j g h = word (3 * (before number i + j) + 1) (3 * (leaf_first ix (l + i) + j) + 1) (omega (arith, within i j g h)) (omega (arith, first-is i g))

  index_is : (i j : ℕ) → i < m → j < number i → get_or run (3 * (before number i + j) + 2) 0 ≡ leaf_positions_index ix (l + i) j
  index_is i j g h = word (3 * (before number i + j) + 2) (3 * (leaf_first ix (l + i) + j) + 2) (omega (arith, within i j g h)) (omega (arith, first-is i g))

  -- a document not above the one before in its leaf
  abbrev inner : ℕ → ℕ → Bool
  inner i j = ltb 0 j && leb (leaf_document ix (l + i) j) (leaf_document ix (l + i) (j - 1))

  inner_first : (i : ℕ) → inner i 0 ≡ false
  inner_first i = refl

  first-fall : (i : ℕ) → i < m → document_fall run (before number i) ≡ border_fall ix l i
  first-fall zero g = rw (before-zero number)
  first-fall (suc i) g =
      let a : 0 < suc i = omega arith in
      let b : 0 < before number (suc i) = omega (arith, before-next number i, t.some i (omega arith)) in
      let w : before number (suc i) < before number m = omega (arith, before-next number (suc i), before-le number (suc (suc i)) m (omega arith), t.some (suc i) g) in
      rw (lt-ltb _ _ a, lt-ltb _ _ b, word (3 * before number (suc i)) (3 * leaf_first ix (l + suc i)) (omega arith) (omega (arith, first-is (suc i) g)), word (3 * (before number (suc i) - 1)) (3 * (leaf_first ix (l + suc i) - 1)) (omega arith) (omega (arith, first-is (suc i) g)))

  other-fall : (i j : ℕ) → i < m → 0 < j → j < number i → document_fall run (before number i + j) ≡ inner i j
  other-fall i j g a h =
      let b : 0 < before number i + j = omega arith in
      let z : before number i + j - 1 ≡ before number i + (j - 1) = omega arith in
      rw (lt-ltb _ _ a, lt-ltb _ _ b, z, document-is i j g h, document-is i (j - 1) g (omega arith))

  module _ (q : Plain run (length run / 3) falls) where
    none-inner : any_below m (λ i. any_below (number i) (inner i)) ≡ false
    none-inner =
        let e : count_below (before number m) (document_fall run) ≡ count_below m (border_fall ix l) = subst (λ (n : ℕ). count_below n (document_fall run) ≡ count_below m (border_fall ix l)) run-count (q.falling ∙ t.fallen) in
        sym (more-than-firsts number (document_fall run) (border_fall ix l) inner inner_first m t.some first-fall other-fall) ∙ rw (eq-eqb _ _ e)

    inner-none : (i j : ℕ) → i < m → j < number i → inner i j ≡ false
    inner-none i j g h = none_below (number i) (inner i) (none_below m (λ k. any_below (number k) (inner k)) none-inner i g) j h

    rises : (i j : ℕ) → i < m → suc j < number i → leaf_document ix (l + i) j < leaf_document ix (l + i) (suc j)
    rises i j g h =
        let a : 0 < suc j = omega arith in
        let z : suc j - 1 ≡ j = omega arith in
        subst (λ (k : ℕ). leaf_document ix (l + i) k < leaf_document ix (l + i) (suc j)) z (leb-false _ _ (and_second (ltb 0 (suc j)) _ (inner-none i (suc j) g h) (lt-ltb _ _ a)))

    up_to : (i j k : ℕ) → i < m → j ≤ k → k < number i → leaf_document ix (l + i) j ≤ leaf_document ix (l + i) k
    up_to i j zero g a h = let z : j ≡ 0 = omega arith in omega (arith, ap (λ (x : ℕ). leaf_document ix (l + i) x) z)
    up_to i j (suc k) g a h =
        ⊎_elim (λ (z : j ≡ suc k). omega (arith, ap (λ (x : ℕ). leaf_document ix (l + i) x) z)) (λ (z : j < suc k). omega (arith, up_to i j k g (omega arith) (omega arith), rises i k g h)) (last-or-below j (suc k) (omega arith))

    below-limit : (i j : ℕ) → i < m → j < number i → leaf_document ix (l + i) j < ix.max_doc
    below-limit i j g h = omega (arith, up_to i j (number i - 1) g (omega arith) (omega arith), t.low refl i g)

    module _ (with_first : has_positions ix (leaf_field ix l) ≡ true) (places : any_below (length run / 3) (wrong_places run ix.positions) ≡ false) where
      with_all : (i : ℕ) → i < m → has_positions ix (leaf_field ix (l + i)) ≡ true
      with_all zero g = let z : l ≡ l + 0 = omega arith in subst (λ (k : ℕ). has_positions ix (leaf_field ix k) ≡ true) z with_first
      with_all (suc i) g = t.with i g

      places_is : (i j : ℕ) → i < m → j < number i → wrong_places run ix.positions (before number i + j) ≡ (ltb (length ix.positions) (leaf_positions_index ix (l + i) j + leaf_frequency ix (l + i) j) || any_below (leaf_frequency ix (l + i) j) (wrong_position ix (l + i) j))
      unfolding wrong_places
      places_is i j g h = rw (frequency-is i j g h, index_is i j g h, any-like (leaf_frequency ix (l + i) j) _ _ (λ k b. places-are ix (l + i) j k))

      places-right : (i j : ℕ) → i < m → j < number i → (ltb (length ix.positions) (leaf_positions_index ix (l + i) j + leaf_frequency ix (l + i) j) || any_below (leaf_frequency ix (l + i) j) (wrong_position ix (l + i) j)) ≡ false
      places-right i j g h = sym (places_is i j g h) ∙ none_below _ _ places (before number i + j) (omega (arith, run-count, within i j g h))

      posting-right : (i j : ℕ) → i < m → j < number i → wrong_posting ix (l + i) j ≡ false
      unfolding wrong_posting wrong_positions
      posting-right i j g h =
          let r : before number i + j < length run / 3 = omega (arith, run-count, within i j g h) in
          let s : leaf_frequency ix (l + i) j ≡ 0 → ⊥ = λ e. omega (arith, q.some _ r, frequency-is i j g h) in
          let u : leaf_frequency ix (l + i) j ≤ 16777216 = omega (arith, q.most _ r, frequency-is i j g h) in
          rw (with_all i g, lt-leb _ _ (below-limit i j g h), inner-none i j g h, ne_eqb _ _ s, le-ltb _ _ u) (places-right i j g h)

      -- none of the leaves' postings is wrong
      pub leaves-right : (i : ℕ) → i < m → any_below (leaf_number ix (l + i)) (wrong_posting ix (l + i)) ≡ false
      leaves-right i g = any_none (number i) _ (λ j h. posting-right i j g h)
