-- A term's words in a document: the posting that the search finds, and the words of a phrase's terms. Assumes nothing.
use mathlib.Core.Path.{◌≡◌, refl, sym, ap, subst, ◌∙◌}
use mathlib.Core.Logic.{⊎_elim}
use mathlib.Core.List.{List, [], ◌∷◌, ◌++◌}
use mathlib.Core.Option.{none, some}
use Prim.Native.Nat.{ℕ, suc, ◌+◌, ◌*◌, ◌≤◌, ◌<◌}
use native.Mathlib.Nat.{eq-or-lt_of_le}
use native.Mathlib.Omega.{arith}
use lib.ListN.{length, get_or, take, set}
use Rattle.meaning.specs.Below.{list_to}
use Rattle.meaning.specs.Phrase.{PhraseTerm}
use Rattle.meaning.specs.Query.{record_count, record_kind, record_children, record_value}
use Rattle.meaning.specs.Lent.{Index, leaf_count, leaf_first, leaf_number}
use Rattle.meaning.specs.Postings.{posting_at, frequency_of}
use Rattle.meaning.proofs.Tests.{cmp}
use Rattle.meaning.proofs.Below.{list_to-next}
use Rattle.index.specs.Records.{leaf_of}
use Rattle.index.specs.declared.leaves.Leaf.{Leaf}
use Rattle.index.proofs.PostingAt.{posting-at, posting-none}
use Rattle.run.specs.Run.{document_at, Lower}
use Rattle.phrase.specs.Words.{first_of, phrase_words}
use Rattle.phrase.proofs.Words.{take-three}
use Rattle.tree_weight.proofs.Measures.{TermsHere, terms-here}
use Rattle.tree_weight.specs.Measured.{AcceptedOrder}
use Rattle.entry_place.specs.Runs.{PlaceRunOk}

-- ---- the search for a leaf's posting
module _ (ix : Index) (l d : ℕ) (run : PlaceRunOk ix l) (leaf : Leaf) (is : leaf ≡ leaf_of ix l) where
  abbrev f : ℕ
  f = leaf.first

  abbrev n : ℕ
  n = leaf.number

  first : f ≡ leaf_first ix l
  first = ap (λ (z : Leaf). z.first) is

  number : n ≡ leaf_number ix l
  number = ap (λ (z : Leaf). z.number) is

  rises : (i j : ℕ) → i < j → j < n → document_at ix.postings 3 f i < document_at ix.postings 3 f j
  rises = rw (first, number) run.ascending

  -- what the words of its posting say
  abbrev Says : ℕ → ℕ → Type 0
  Says x y = (x ≡ first_of ix l (posting_at ix l d)) × (y ≡ frequency_of ix l (posting_at ix l d))

  pub posting-hit : (i x y : ℕ) → i < n → document_at ix.postings 3 f i ≡ d → x ≡ get_or ix.postings (3 * (f + i) + 2) 0 → y ≡ get_or ix.postings (3 * (f + i) + 1) 0 → Says x y
  posting-hit i x y g e a b =
      let at : posting_at ix l d ≡ some i = posting-at ix l d run.ascending i (omega (arith, number, g)) (ap (λ (z : ℕ). document_at ix.postings 3 z i) (sym first) ∙ e) in
      rw (at, ← first) (a, b)

  absent : ((i : ℕ) → i < n → document_at ix.postings 3 f i ≡ d → ⊥) → Says 0 0
  absent h =
      let at : posting_at ix l d ≡ none = posting-none ix l d (λ i g e. h i (omega (arith, number, g)) (ap (λ (z : ℕ). document_at ix.postings 3 z i) first ∙ e)) in
      rw at (refl, refl)

  pub posting-over : (i : ℕ) → Lower ix.postings 3 f n 0 d i → n ≤ i → Says 0 0
  posting-over i p g = absent (λ k h e. omega (arith, p.passed k (omega arith) (omega (arith, h, g)), e))

  pub posting-missed : (i : ℕ) → Lower ix.postings 3 f n 0 d i → i < n → (document_at ix.postings 3 f i ≡ d → ⊥) → Says 0 0
  posting-missed i p g ne = absent (λ k h e. ⊎_elim (λ (u : k < i). omega (arith, p.passed k (omega arith) u, e)) (λ (u : i ≤ k). ⊎_elim (λ (s : i ≡ k). ne (ap (document_at ix.postings 3 f) s ∙ e)) (λ (s : i < k). omega (arith, rises i k s h, p.stops g, e)) (eq-or-lt_of_le u)) (cmp k i))

-- ---- the words of a phrase's terms
words_more : (ix : Index) (d : ℕ) (ts : List PhraseTerm) (t : PhraseTerm) → phrase_words ix d (ts ++ (t ∷ [])) ≡ phrase_words ix d ts ++ (first_of ix t.leaf (posting_at ix t.leaf d) ∷ frequency_of ix t.leaf (posting_at ix t.leaf d) ∷ t.offset ∷ [])
unfolding phrase_words
words_more ix d [] t = refl
words_more ix d (s ∷ ts) t = rw (words_more ix d ts t)

abbrev pub term_at : List ℕ → ℕ → ℕ → PhraseTerm
term_at q at j = record { leaf = record_value q (at + 1 + j) 0; offset = record_value q (at + 1 + j) 1 }

-- as many words as there are terms, however their number is said
pub words-counted : (n m : ℕ) → n ≡ m → (terms words : List ℕ) → take (3 * m) terms ≡ words → take (3 * n) terms ≡ words
words-counted n m e terms words h = rw e h

module _ (ix : Index) (q : List ℕ) (at d : ℕ) where
  pub terms-none : (terms : List ℕ) → take (3 * 0) terms ≡ phrase_words ix d (list_to 0 (term_at q at))
  unfolding list_to phrase_words
  terms-none terms = refl

module _ {ix : Index} {q : List ℕ} (asks : AcceptedOrder ix q) where
  module _ (at : ℕ) (here : at < record_count q) (kind : record_kind q at ≡ 2) where
    -- its terms' records and leaves are there
    pub phrase-here : TermsHere q ix.leaves at
    phrase-here = terms-here ix q ix.leaves at asks.records-right asks.values-right here kind refl

    pub term-run : (j l : ℕ) → j < record_children q at → l ≡ record_value q (at + 1 + j) 0 → PlaceRunOk ix l
    term-run j l h e =
        let there : l < leaf_count ix = subst (λ (z : ℕ). z < leaf_count ix) (sym e) (phrase-here.leaves-there j h) in
        record { there = there; words = (asks.accepted.leaf l there).words; ascending = asks.accepted.ascending l there }

  pub terms-more : (at d j l x y z : ℕ) (terms : List ℕ) → take (3 * j) terms ≡ phrase_words ix d (list_to j (term_at q at)) → 3 * j + 2 < length terms → l ≡ record_value q (at + 1 + j) 0 → x ≡ first_of ix l (posting_at ix l d) → y ≡ frequency_of ix l (posting_at ix l d) → z ≡ record_value q (at + 1 + j) 1 → take (3 * (j + 1)) (set (set (set terms (3 * j) x) (3 * j + 1) y) (3 * j + 2) z) ≡ phrase_words ix d (list_to (j + 1) (term_at q at))
  terms-more at d j l x y z terms e h le xe ye ze =
      let three : 3 * (j + 1) ≡ 3 * j + 3 = omega arith in
      rw (three, take-three terms (3 * j) x y z h, list_to-next (term_at q at) j, words_more ix d (list_to j (term_at q at)) (term_at q at j), e, xe, ye, le, ze)
