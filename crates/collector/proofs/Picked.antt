-- What wrong14 rules out, and the picked list document by document. Assumes nothing.
use mathlib.Core.Path.{◌≡◌, refl, sym, ap, ◌∙◌, subst}
use mathlib.Core.Bool.{Bool, false, not, ◌&&◌, ◌||◌}
use mathlib.Core.List.{List, [], ◌∷◌, ◌++◌}
use Prim.Native.Nat.{ℕ, ◌+◌, ◌-◌, ◌≤◌, ◌<◌}
use native.Mathlib.Omega.{arith}
use borrow.Author.Tests.{ltb-false, leb-false, eqb-true, not-false, lt-ltb}
use lib.Dec.{T, ltb, leb, eqb}
use lib.ListN.{length, get_or}
use lib.IntN.{ℤ}
use lib.Ieee.{binary32, of_bits, nan_bits}
use Rattle.meaning.specs.Below.{any_below, list_to}
use Rattle.meaning.specs.Limits.{no_more_docs, plus_infinity}
use Rattle.meaning.specs.FullList.{ScoreDoc}
use Rattle.meaning.specs.CallRefusals.{wrong_picked, wrong14}
use Rattle.meaning.specs.Entries.{picked_list}
use Rattle.meaning.proofs.Tests.{or_left, or_right}
use Rattle.meaning.proofs.Below.{none_below, list_to-zero, list_to-next}
use Rattle.ieee754.specs.Nonneg.{sign_clear}
use Rattle.ieee754.proofs.Patterns.{pattern-clear, pattern_number}
use Rattle.collector.specs.declared.TopScoreDocCollector.{TopScoreDocCollector}
use Rattle.collector.specs.Collected.{Collected, Extended}

-- the i-th document with its score
abbrev pub picked_at : List ℕ → List ℕ → ℕ → ScoreDoc
picked_at documents scores i = record { doc = get_or documents i 0; score = of_bits binary32 (get_or scores i 0) }

module _ (documents scores : List ℕ) (w : wrong14 documents scores ≡ false) where
  pub same-lengths : length documents ≡ length scores
  unfolding wrong14
  same-lengths = eqb-true (length documents) (length scores) (not-false (eqb (length documents) (length scores)) (or_left (not (eqb (length documents) (length scores))) (any_below (length documents) (wrong_picked documents scores)) w))

  right-at : (i : ℕ) → i < length documents → ((ltb 0 i && leb (get_or documents i 0) (get_or documents (i - 1) 0)) || leb no_more_docs (get_or documents i 0) || ltb plus_infinity (get_or scores i 0)) ≡ false
  unfolding wrong14 wrong_picked
  right-at i h = none_below (length documents) (wrong_picked documents scores) (or_right (not (eqb (length documents) (length scores))) (any_below (length documents) (wrong_picked documents scores)) w) i h

  module _ (i : ℕ) (h : i < length documents) where
    abbrev falls : Bool
    falls = ltb 0 i && leb (get_or documents i 0) (get_or documents (i - 1) 0)

    pub picked-below : get_or documents i 0 < no_more_docs
    picked-below = leb-false no_more_docs (get_or documents i 0) (or_right falls (leb no_more_docs (get_or documents i 0)) (or_left (falls || leb no_more_docs (get_or documents i 0)) (ltb plus_infinity (get_or scores i 0)) (right-at i h)))

    picked-pattern : get_or scores i 0 ≤ plus_infinity
    picked-pattern = ltb-false plus_infinity (get_or scores i 0) (or_right (falls || leb no_more_docs (get_or documents i 0)) (ltb plus_infinity (get_or scores i 0)) (right-at i h))

    pub picked-clear : T (sign_clear (of_bits binary32 (get_or scores i 0)))
    picked-clear = pattern-clear (get_or scores i 0) picked-pattern

    pub picked-number : T (not (nan_bits binary32 (get_or scores i 0)))
    picked-number = pattern_number (get_or scores i 0) picked-pattern

  pub picked-rises : (i : ℕ) → i + 1 < length documents → get_or documents i 0 + 1 ≤ get_or documents (i + 1) 0
  picked-rises i h =
      let f : (ltb 0 (i + 1) && leb (get_or documents (i + 1) 0) (get_or documents (i + 1 - 1) 0)) ≡ false =
      or_left (falls (i + 1) h) (leb no_more_docs (get_or documents (i + 1) 0)) (or_left (falls (i + 1) h || leb no_more_docs (get_or documents (i + 1) 0)) (ltb plus_infinity (get_or scores (i + 1) 0)) (right-at (i + 1) h)) in
      let g : leb (get_or documents (i + 1) 0) (get_or documents (i + 1 - 1) 0) ≡ false = ap (λ (b : Bool). b && leb (get_or documents (i + 1) 0) (get_or documents (i + 1 - 1) 0)) (sym (lt-ltb 0 (i + 1) (omega arith))) ∙ f in
      omega (arith, leb-false (get_or documents (i + 1) 0) (get_or documents (i + 1 - 1) 0) g, ap (λ (j : ℕ). get_or documents j 0) (back i))
    where
      back : (i : ℕ) → i + 1 - 1 ≡ i
      back i = omega arith

pub one_more : (documents scores : List ℕ) (i : ℕ) → list_to i (picked_at documents scores) ++ (picked_at documents scores i ∷ []) ≡ list_to (i + 1) (picked_at documents scores)
one_more documents scores i = sym (list_to-next (picked_at documents scores) i)

pub all-picked : (documents scores : List ℕ) → list_to (length documents) (picked_at documents scores) ≡ picked_list documents scores
unfolding picked_list
all-picked documents scores = refl

pub none-picked : (documents scores : List ℕ) → [] ≡ list_to 0 (picked_at documents scores)
none-picked documents scores = sym (list_to-zero (picked_at documents scores))

-- what `pick`'s loop keeps: the first i are collected, and the next document is not below b
pub record Picking (documents scores : List ℕ) (t : ℕ) (start : List ℤ) (c : TopScoreDocCollector) (heap : List ℤ) (i : ℕ) : Type 0 where
  pub b : ℕ
  pub room : b ≤ no_more_docs
  pub next : i < length documents → b ≤ get_or documents i 0
  pub collected : Collected (length start) t b (list_to i (picked_at documents scores)) start c heap

module _ (documents scores : List ℕ) (w : wrong14 documents scores ≡ false) (t : ℕ) (start : List ℤ) (c c' : TopScoreDocCollector) (heap heap' : List ℤ) (i : ℕ) (h : i < length documents) where
  pub picking-turn : Picking documents scores t start c heap i → Extended (picked_at documents scores i) c heap c' heap' → Picking documents scores t start c' heap' (i + 1)
  picking-turn p x = record {
    b = get_or documents i 0 + 1;
    room = omega (arith, picked-below documents scores w i h);
    next = λ g. picked-rises documents scores w i g;
    collected = subst (λ (l : List ScoreDoc). Collected (length start) t (get_or documents i 0 + 1) l start c' heap') (one_more documents scores i)
        (x.extended (length start) t p.b (list_to i (picked_at documents scores)) start (p.next h) p.collected);
  }
