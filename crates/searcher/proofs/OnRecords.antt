-- A call on the words of records: its answer tells its refusal, and what the records and the other buffers hold afterwards. Assumes nothing.
use mathlib.Core.Path.{◌≡◌, refl, sym, ap, ◌∙◌, subst}
use mathlib.Core.List.{List, [], ◌∷◌, ◌++◌}
use Prim.Native.Nat.{ℕ, zero, suc, ◌*◌, ◌≤◌, ◌<◌}
use native.Mathlib.Omega.{arith}
use lib.ListN.{length, get_or, take}
use lib.Seq.{take_at, length-take-le}
use Rattle.meaning.specs.Limits.{node_state_words}
use Rattle.meaning.specs.Lent.{Index}
use Rattle.meaning.specs.CallRefusals.{Work}
use Rattle.meaning.specs.Entries.{answered, search_refusal, search_answer, page_refusal, page_answer}
use Rattle.collector.specs.declared.TopDocs.{TopDocs}
use Rattle.walk.specs.declared.Listed.{Listed}
use Rattle.std.specs.Prelude.{Result, Ok, Err}
use Rattle.refusal.specs.declared.Refusal.{Refusal}
use Rattle.refusal.specs.Numbers.{number_of, refusal_of}
use Rattle.refusal.proofs.Positive.{number-not-0}
use Rattle.check_order.specs.WorkOf.{work}
use Rattle.tree_words.specs.declared.state.NodeState.{NodeState}
use Rattle.tree_records.specs.Records.{record_words, held}
use Rattle.tree_records.specs.Standing.{Standing, order_tree}
use Rattle.tree_weight.specs.State.{size_of}
use Rattle.searcher.specs.Answers.{searched_numbers, paged_numbers, used}
use Rattle.searcher.specs.declared.buffers.Buffers.{Buffers}
use Rattle.searcher.specs.WorkBuffers.{lengths_of, KeptBuffers, SameWorkBuffers, WordsLent, Packed, ReadBack}
use Rattle.searcher.proofs.Preparing.{same-work}
use Rattle.searcher.proofs.Fewer.{standing-records, records-standing}

-- ---- one number alone is a refused call's answer, and several are an accepted one's
alone : (z x v : ℕ) (vs : List ℕ) → (x ∷ []) ≡ answered z (0 ∷ v ∷ vs) (λ m. m ∷ []) → x ≡ z
alone zero x v vs e = let l = ap length e in absurd (omega (arith, l))
alone (suc z) x v vs e = ap (λ (l : List ℕ). get_or l 0 0) e

several : (z v : ℕ) (vs ys : List ℕ) → (0 ∷ v ∷ vs) ≡ answered z ys (λ m. m ∷ []) → 0 ≡ z
several zero v vs ys e = refl
several (suc z) v vs ys e = let l = ap length e in absurd (omega (arith, l))

module _ (ix : Index) (q : List ℕ) (w : Work) where
  pub search-told : (k t places : ℕ) (r : Result TopDocs Refusal) → searched_numbers r ≡ search_answer ix q k t w places → refusal_of r ≡ search_refusal ix q k w places
  unfolding searched_numbers search_answer
  search-told k t places (Err x) e = alone _ (number_of x) _ _ e
  search-told k t places (Ok top) e = several _ _ _ _ e

  pub page-told : (target documents scores : ℕ) (r : Result Listed Refusal) → paged_numbers r ≡ page_answer ix q target w documents scores → refusal_of r ≡ page_refusal ix q target w documents scores
  unfolding paged_numbers page_answer
  page-told target documents scores (Err x) e = alone _ (number_of x) _ _ e
  page-told target documents scores (Ok l) e = several _ _ _ _ e

-- ---- the records
module _ {T : Type 0} (n : ℕ) (nodes nodes' : List NodeState) (states rest : List ℕ) where
  packed-kept : (r : Result T Refusal) → Packed nodes nodes' (states ++ rest) (used r n) → 0 < refusal_of r → nodes' ≡ nodes
  packed-kept (Err x) p h = p.1
  packed-kept (Ok y) p h = absurd (omega (arith, h))

  packed-read : (r : Result T Refusal) → Packed nodes nodes' (states ++ rest) (used r n) → refusal_of r ≡ 0 → length states ≡ node_state_words * n → record_words (take n nodes') ≡ states
  packed-read (Err x) p z l = absurd (number-not-0 x z)
  packed-read (Ok y) p z l = p.0 ∙ take_at states rest (node_state_words * n) l

module _ (words : List ℕ) (b : Buffers NodeState) (w : Buffers ℕ) (long : node_state_words * held (length b.states.now) ≤ length words) (lent : WordsLent words b w) where
  abbrev n : ℕ
  n = held (length b.states.now)

  room : length w.states.now ≡ node_state_words * n
  room = ap length lent.states_are ∙ length-take-le (node_state_words * n) words long

  pub lengths-are : lengths_of w ≡ work (node_state_words * n) (length b.starts.now) (length b.other_starts.now) (length b.ranges.now)
  lengths-are = same-work _ _ _ _ _ _ _ _ room (ap length lent.starts_are) (ap length lent.other_starts_are) (ap length lent.ranges_are)

  -- what stands in the records stands in the words that were copied out, where there is room for it
  pub records-out : (ix : Index) (q : List ℕ) (from : ℕ) → take (node_state_words * n) words ≡ record_words (take n b.states.now) → size_of (order_tree ix q) ≤ length w.states.now → Standing ix q b.ranges.now (record_words b.states.now) from → Standing ix q w.ranges.now w.states.now from
  records-out ix q from e size s =
      records-standing ix q w.ranges.now w.states.now from n b.states.now (sym e ∙ sym lent.states_are) size
      (subst (λ (ranges : List ℕ). Standing ix q ranges (record_words b.states.now) from) (sym lent.ranges_are) s)

  module _ {T : Type 0} (b' : Buffers NodeState) (w' : Buffers ℕ) (same : SameWorkBuffers w w') (r : Result T Refusal) (back : ReadBack words b b' w' (used r n)) where
    -- a refused call leaves the records too as they were
    pub records-kept : (z : ℕ) → refusal_of r ≡ z → KeptBuffers z w w' → KeptBuffers z b b'
    records-kept z told kept = record {
      states = λ h. packed-kept n b.states.now b'.states.now w'.states.now _ r back.packed (subst (λ (m : ℕ). 0 < m) (sym told) h);
      starts = λ h. back.starts_back ∙ kept.starts h ∙ lent.starts_are;
      other_starts = λ h. back.other_starts_back ∙ kept.other_starts h ∙ lent.other_starts_are;
      ranges = λ h. back.ranges_back ∙ kept.ranges h ∙ lent.ranges_are;
    }

    -- the tree that an accepted call leaves in the words stands in the records
    pub records-stand : (ix : Index) (q : List ℕ) (from : ℕ) → refusal_of r ≡ 0 → Standing ix q w'.ranges.now w'.states.now from → Standing ix q b'.ranges.now (record_words b'.states.now) from
    records-stand ix q from told stands =
        let long-as = ap (λ (v : Work). v.states) same.lengths ∙ room in
        standing-records ix q b'.ranges.now w'.states.now from n b'.states.now (packed-read n b.states.now b'.states.now w'.states.now _ r back.packed told long-as)
        (subst (λ (ranges : List ℕ). Standing ix q ranges w'.states.now from) (sym back.ranges_back) stands)
