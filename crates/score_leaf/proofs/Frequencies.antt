-- Frequencies: a term's is found by the scan, and a phrase's is at most that of its first term. Assumes nothing.
use mathlib.Core.Path.{◌≡◌, refl, sym}
use mathlib.Core.Logic.{⊎_elim}
use mathlib.Core.Bool.{true, false≢true}
use mathlib.Core.List.{List, [], ◌∷◌}
use mathlib.Core.Option.{Option, none, some}
use Prim.Native.Nat.{ℕ, zero, suc, ◌≤◌, ◌<◌}
use native.Mathlib.Nat.{le_refl, le_trans, le_of_eq, add-le-add}
use native.Mathlib.Omega.{arith}
use lib.IntN.{ℤ}
use lib.ListN.{length, length-append, length-map}
use Rattle.meaning.specs.Below.{list_to}
use Rattle.meaning.specs.Limits.{largest_frequency}
use Rattle.meaning.specs.Lent.{Index, leaf_count, leaf_first, leaf_number, leaf_document, leaf_frequency, leaf_position}
use Rattle.meaning.specs.Postings.{posting_at, found, frequency_of, positions_of}
use Rattle.meaning.specs.Phrase.{PhraseTerm, starts, term_starts, multiplicity, smallest, distinct, sum_smallest, common_size, phrase_frequency}
use Rattle.phrase.proofs.Size.{common-length}
use Rattle.index.specs.Accepted.{Accepted}
use Rattle.index.specs.Runs.{posting_document, posting_frequency}
use Rattle.index.proofs.PostingAt.{posting-is}
use Rattle.tree_weight.specs.Held.{RunAt}
use Rattle.tree_weight.specs.Sound.{EachTerm}
use Rattle.meaning.proofs.Tests.{cmp}

-- what a scan from the cursor answers
abbrev pub Scanned : List ℕ → ℕ → ℕ → ℕ → ℕ → ℕ → Type 0
Scanned postings first number cursor doc r =
    (i : ℕ) → cursor ≤ i → i < number → posting_document postings first i ≡ doc → ((k : ℕ) → k < i → posting_document postings first k ≡ doc → ⊥) → r ≡ posting_frequency postings first i

module _ (ix : Index) (A : Accepted ix) (l : ℕ) (there : l < leaf_count ix) (doc cursor : ℕ) (run : RunAt (leaf_document ix l) (leaf_number ix l) cursor doc) where
  pub scanned-at : (o : Option ℕ) → posting_at ix l doc ≡ o → found o ≡ true → (r : ℕ) → Scanned ix.postings (leaf_first ix l) (leaf_number ix l) cursor doc r → (r ≡ frequency_of ix l o) × (r ≤ largest_frequency)
  scanned-at none e f r h = absurd (false≢true f)
  scanned-at (some i) e f r h =
      let p = posting-is ix l doc i e in
      let c : cursor ≤ i = ⊎_elim (λ m. absurd (omega (arith, run.passed i m, p.1))) (λ m. m) (cmp i cursor) in
      let q : r ≡ leaf_frequency ix l i = h i c p.0 p.1 (λ k m n. omega (arith, A.ascending l there k i m p.0, n, p.1)) in
      (q, omega (arith, q, (A.posting l i there p.0).most))

  pub scanned : found (posting_at ix l doc) ≡ true → (r : ℕ) → Scanned ix.postings (leaf_first ix l) (leaf_number ix l) cursor doc r → (r ≡ frequency_of ix l (posting_at ix l doc)) × (r ≤ largest_frequency)
  scanned f r h = scanned-at (posting_at ix l doc) refl f r h

-- ---- a phrase
smallest-le : (s : ℤ) (xs : List ℤ) (xss : List (List ℤ)) → smallest s (xs ∷ xss) ≤ smallest s (xs ∷ [])
unfolding smallest
smallest-le s xs [] = le_refl _
smallest-le s xs (ys ∷ yss) = omega arith

sum-le : (ss xs : List ℤ) (xss : List (List ℤ)) → sum_smallest ss (xs ∷ xss) ≤ sum_smallest ss (xs ∷ [])
unfolding sum_smallest
sum-le [] xs xss = le_refl _
sum-le (s ∷ ss) xs xss = add-le-add (smallest-le s xs xss) (sum-le ss xs xss)

one_list : (s : ℤ) (xs : List ℤ) → multiplicity s xs ≡ smallest s (xs ∷ [])
unfolding smallest
one_list s xs = refl

common-le : (xs : List ℤ) (xss : List (List ℤ)) → common_size (xs ∷ xss) ≤ length xs
unfolding common_size
common-le xs xss = le_trans (sum-le (distinct xs) xs xss) (le_of_eq (sym (common-length (xs ∷ []) xs (omega arith) (λ s. one_list s xs))))

length_to : (n : ℕ) (f : ℕ → ℕ) → length (list_to n f) ≡ n
unfolding list_to
length_to zero f = refl
length_to (suc n) f = omega (arith, length-append (list_to n f) (f n ∷ []), length_to n f)

positions-few : (ix : Index) → Accepted ix → (l doc : ℕ) → l < leaf_count ix → (o : Option ℕ) → posting_at ix l doc ≡ o → length (positions_of ix l o) ≤ largest_frequency
positions-few ix A l doc there none e = omega arith
positions-few ix A l doc there (some i) e = omega (arith, length_to (leaf_frequency ix l i) (leaf_position ix l i), (A.posting l i there (posting-is ix l doc i e).0).most)

starts-length : (o : ℕ) (ps : List ℕ) → length (starts o ps) ≡ length ps
unfolding starts
starts-length o ps = length-map ps _

pub phrase-frequency-few : (ix : Index) → Accepted ix → (f places : ℕ) (ts : List PhraseTerm) (doc : ℕ) → EachTerm ix f places ts → phrase_frequency ix ts doc ≤ largest_frequency
unfolding phrase_frequency common_size term_starts EachTerm
phrase-frequency-few ix A f places [] doc p = omega arith
phrase-frequency-few ix A f places (t ∷ ts) doc p =
    let ps = positions_of ix t.leaf (posting_at ix t.leaf doc) in
    le_trans (common-le (starts t.offset ps) _) (omega (arith, starts-length t.offset ps, positions-few ix A t.leaf doc p.0.leaf-there (posting_at ix t.leaf doc) refl))
