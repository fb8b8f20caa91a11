-- The Pick entry: its lists, its lowest number, and its answer. Assumes nothing.
use mathlib.Core.Path.{◌≡◌, refl, sym, ap, ◌∙◌}
use mathlib.Core.Bool.{true, false, ◌||◌}
use mathlib.Core.List.{List, ◌++◌}
use Prim.Native.Nat.{ℕ, ◌-◌, ◌≤◌, ◌<◌}
use lib.Dec.{leb, ltb, lit<}
use lib.IntN.{ℤ}
use lib.ListN.{length, get_or, take, drop}
use borrow.Author.Tests.{lt-ltb, le-ltb, ltb-false, eq-eqb, ne_eqb}
use Rattle.meaning.specs.Below.{any_below}
use Rattle.meaning.specs.Limits.{no_more_docs, plus_infinity}
use Rattle.meaning.specs.Hits.{hits}
use Rattle.meaning.specs.Refusals.{lowest}
use Rattle.meaning.specs.CallRefusals.{wrong11, wrong12_pick, wrong_picked, wrong14}
use Rattle.meaning.specs.Entries.{written, pick_refusal, picked_list, pick_answer, pick_hits}
use Rattle.meaning.proofs.Tests.{or_left, or_right}
use Rattle.meaning.proofs.Below.{any-zero}
use Rattle.collector.specs.declared.TopDocs.{TopDocs}
use Rattle.collector.specs.Collected.{top_docs_of}
use Rattle.collector.proofs.Best.{written-part}
use Rattle.std.proofs.Common.{Ok, Err}
use Rattle.refusal.specs.declared.Refusal.{Refusal}
use Rattle.refusal.specs.Numbers.{number_of}
use Rattle.refusal.proofs.Positive.{number-not-0}
use Rattle.entry_pick.specs.Answers.{picked_numbers}
use Rattle.meaning.proofs.Lowest.{lowest-here, lowest-past, lowest-zero, answered-refused}

-- ---- the lists
module _ (documents scores : List ℕ) where
  pub picked-after : (i : ℕ) → 0 < i → ((leb (get_or documents i 0) (get_or documents (i - 1) 0) || leb no_more_docs (get_or documents i 0)) || ltb plus_infinity (get_or scores i 0)) ≡ wrong_picked documents scores i
  unfolding wrong_picked
  picked-after i h = rw (lt-ltb 0 i h)

  -- the first has none before it
  pub picked_first : (leb no_more_docs (get_or documents 0 0) || ltb plus_infinity (get_or scores 0 0)) ≡ any_below 1 (wrong_picked documents scores)
  unfolding any_below wrong_picked
  picked_first = refl

  pub lists-unequal : (length documents ≡ length scores → ⊥) → true ≡ wrong14 documents scores
  unfolding wrong14
  lists-unequal h = rw (ne_eqb (length documents) (length scores) h)

  pub lists-equal : length documents ≡ length scores → any_below (length documents) (wrong_picked documents scores) ≡ wrong14 documents scores
  unfolding wrong14
  lists-equal e = rw (eq-eqb (length documents) (length scores) e)

  pub lists-empty : length documents ≡ length scores → length documents ≡ 0 → false ≡ wrong14 documents scores
  lists-empty e z = sym (any-zero (wrong_picked documents scores)) ∙ ap (λ (n : ℕ). any_below n (wrong_picked documents scores)) (sym z) ∙ lists-equal e

  module _ (k places : ℕ) where
    -- ---- each way out
    pub pick-hits : wrong11 k ≡ true → 11 ≡ pick_refusal documents scores k places
    unfolding pick_refusal
    pick-hits h = lowest-here 11 _ _ h

    module _ (k-right : wrong11 k ≡ false) where
      pub pick-short : places < k → 12 ≡ pick_refusal documents scores k places
      unfolding pick_refusal wrong12_pick
      pick-short h = lowest-past 11 _ _ 12 k-right (lowest-here 12 _ _ (lt-ltb places k h))

      module _ (room : k ≤ places) where
        pub pick-wrong : wrong14 documents scores ≡ true → 14 ≡ pick_refusal documents scores k places
        unfolding pick_refusal wrong12_pick
        pick-wrong h = lowest-past 11 _ _ 14 k-right (lowest-past 12 _ _ 14 (le-ltb places k room) (lowest-here 14 _ _ h))

        pub pick-0 : wrong14 documents scores ≡ false → 0 ≡ pick_refusal documents scores k places
        unfolding pick_refusal wrong12_pick lowest
        pick-0 h = rw (k-right, le-ltb places k room, h)

    -- ---- what a call that is not refused knows
    pub record PickRight : Type 0 where
      pub low : 1 ≤ k
      pub high : k ≤ 1024
      pub room : k ≤ places
      pub lists : wrong14 documents scores ≡ false

    pub pick-right : 0 ≡ pick_refusal documents scores k places → PickRight
    unfolding pick_refusal wrong11 wrong12_pick
    pick-right is =
        let a = lowest-zero 11 _ _ (lit< tt) (sym is) in
        let b = lowest-zero 12 _ _ (lit< tt) a.1 in
        let e = lowest-zero 14 _ _ (lit< tt) b.1 in
        record {
          low = ltb-false k 1 (or_left (ltb k 1) (ltb 1024 k) a.0);
          high = ltb-false 1024 k (or_right (ltb k 1) (ltb 1024 k) a.0);
          room = ltb-false places k b.0;
          lists = e.0;
        }

  -- ---- the answer
  module _ (k t : ℕ) (buffer : List ℤ) where
    pub refused-answer : (e : Refusal) → number_of e ≡ pick_refusal documents scores k (length buffer) → picked_numbers (Err e) ≡ pick_answer documents scores k t (length buffer)
    unfolding picked_numbers pick_answer
    refused-answer e is = rw (← is) (answered-refused _ _ _ (number-not-0 e))

    pub refused-hits : (e : Refusal) → number_of e ≡ pick_refusal documents scores k (length buffer) → buffer ≡ pick_hits documents scores k buffer
    unfolding pick_hits
    refused-hits e is = rw (← is) (answered-refused _ _ _ (number-not-0 e))

    pub done-answer : 0 ≡ pick_refusal documents scores k (length buffer) → (r : TopDocs) (j : ℕ) → j ≡ k → r ≡ top_docs_of j t (picked_list documents scores) → picked_numbers (Ok r) ≡ pick_answer documents scores k t (length buffer)
    unfolding picked_numbers pick_answer
    done-answer is r j size e = rw (← is, e, size) refl

    -- of the part of the buffer with k places
    pub done-hits : 0 ≡ pick_refusal documents scores k (length buffer) → k ≤ length buffer → (part : List ℤ) (j : ℕ) → j ≡ k → part ≡ written (hits j (picked_list documents scores)) (take k buffer) → part ++ drop k buffer ≡ pick_hits documents scores k buffer
    unfolding pick_hits
    done-hits is room part j size f = rw (← is, f, size) (written-part k (picked_list documents scores) buffer room)
