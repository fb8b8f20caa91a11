-- The words for a phrase of an index say its starts, and are good where the index is accepted. Assumes nothing.
use mathlib.Core.Path.{◌≡◌, refl, ap, ◌∙◌}
use mathlib.Core.Bool.{true, false, ◌&&◌, ◌||◌}
use mathlib.Core.List.{List, [], ◌∷◌, ◌++◌, append_assoc}
use mathlib.Core.Option.{Option, none, some}
use Prim.Native.Nat.{ℕ, zero, suc, ◌+◌, ◌-◌, ◌*◌, ◌%◌, ◌≤◌, ◌<◌}
use native.Mathlib.Nat.{not-suc-le-zero}
use native.Mathlib.Omega.{arith}
use borrow.Author.Tests.{ltb-false, lt-ltb}
use lib.Dec.{ltb}
use lib.ListN.{length, take, set, length-set}
use lib.Seq.{take-suc-set}
use Rattle.meaning.specs.Below.{list_to, any_below}
use Rattle.meaning.specs.Limits.{no_more_docs}
use Rattle.meaning.specs.Lent.{Index, has_positions, leaf_field, leaf_frequency, leaf_position, leaf_positions_index}
use Rattle.meaning.specs.IndexRefusals.{wrong_position, wrong_positions}
use Rattle.meaning.specs.Postings.{posting_at, frequency_of, positions_of}
use Rattle.meaning.specs.Phrase.{PhraseTerm, starts, term_starts, common_size, phrase_frequency}
use Rattle.meaning.proofs.Tests.{or_left, or_right}
use Rattle.meaning.proofs.Below.{none_below}
use Rattle.phrase_starts.specs.declared.Term.{Term}
use Rattle.phrase_starts.specs.Terms.{term_at, starts_of, start_lists, GoodTerm, Good, Room}
use Rattle.phrase.specs.Words.{first_of, phrase_words}
use Rattle.phrase_starts.proofs.Records.{term-past}

-- ---- what they say
abbrev term_of : Index → ℕ → ℕ → Option ℕ → Term
term_of ix l offset p = record { first = first_of ix l p; freq = frequency_of ix l p; offset = offset }

starts-of-posting : (ix : Index) (l offset : ℕ) (p : Option ℕ) → starts_of ix.positions (term_of ix l offset p) ≡ starts offset (positions_of ix l p)
unfolding starts_of starts list_to
starts-of-posting ix l offset none = refl
starts-of-posting ix l offset (some i) = refl

-- for each term its starts in the document
pub words-starts : (ix : Index) (d : ℕ) (ts : List PhraseTerm) → start_lists ix.positions (phrase_words ix d ts) ≡ term_starts ix ts d
unfolding start_lists phrase_words term_starts
words-starts ix d [] = refl
words-starts ix d (t ∷ ts) = rw (starts-of-posting ix t.leaf t.offset (posting_at ix t.leaf d), words-starts ix d ts)

-- so that the frequency is the paper's
pub words-frequency : (ix : Index) (d : ℕ) (ts : List PhraseTerm) → common_size (start_lists ix.positions (phrase_words ix d ts)) ≡ phrase_frequency ix ts d
unfolding phrase_frequency
words-frequency ix d ts = ap common_size (words-starts ix d ts)

-- ---- an accepted posting's positions
good-posting : (ix : Index) (l offset i : ℕ) → has_positions ix (leaf_field ix l) ≡ true → wrong_positions ix l i ≡ false → offset ≤ no_more_docs → GoodTerm ix.positions (term_of ix l offset (some i))
unfolding wrong_positions wrong_position
good-posting ix l offset i p w o =
    record {
      within = ltb-false (length ix.positions) (leaf_positions_index ix l i + leaf_frequency ix l i) (or_left (ltb (length ix.positions) (leaf_positions_index ix l i + leaf_frequency ix l i)) (any_below (leaf_frequency ix l i) (wrong_position ix l i)) all);
      rising = λ j h. rises j (or_right (ltb no_more_docs (leaf_position ix l i (suc j))) (ltb 0 (suc j) && ltb (leaf_position ix l i (suc j)) (leaf_position ix l i (suc j - 1))) (each (suc j) h));
      small = λ j h. ltb-false no_more_docs (leaf_position ix l i j) (or_left (ltb no_more_docs (leaf_position ix l i j)) (ltb 0 j && ltb (leaf_position ix l i j) (leaf_position ix l i (j - 1))) (each j h));
      offset-small = o;
    }
  where
    all : (ltb (length ix.positions) (leaf_positions_index ix l i + leaf_frequency ix l i) || any_below (leaf_frequency ix l i) (wrong_position ix l i)) ≡ false
    all = rw p at w

    each : (j : ℕ) → j < leaf_frequency ix l i → wrong_position ix l i j ≡ false
    each j h = none_below (leaf_frequency ix l i) (wrong_position ix l i) (or_right (ltb (length ix.positions) (leaf_positions_index ix l i + leaf_frequency ix l i)) (any_below (leaf_frequency ix l i) (wrong_position ix l i)) all) j h

    rises : (j : ℕ) → (ltb 0 (suc j) && ltb (leaf_position ix l i (suc j)) (leaf_position ix l i (suc j - 1))) ≡ false → leaf_position ix l i j ≤ leaf_position ix l i (suc j)
    rises j e =
        let q : ltb 0 (suc j) ≡ true = lt-ltb 0 (suc j) (omega arith) in
        let k : suc j - 1 ≡ j = omega arith in
        ltb-false (leaf_position ix l i (suc j)) (leaf_position ix l i j) (rw (q, k) at e)

-- what an accepted index and query say of a term: a small offset, and positions that are not wrong
pub record Fine (ix : Index) (d : ℕ) (t : PhraseTerm) : Type 0 where
  pub offset-small : t.offset ≤ no_more_docs
  pub positions : (i : ℕ) → posting_at ix t.leaf d ≡ some i → (has_positions ix (leaf_field ix t.leaf) ≡ true) × (wrong_positions ix t.leaf i ≡ false)

-- each term is fine
unfoldable pub AllFine : Index → ℕ → List PhraseTerm → Type 0
AllFine ix d [] = Unit
AllFine ix d (t ∷ ts) = Fine ix d t × AllFine ix d ts

good-term : (ix : Index) (d : ℕ) (t : PhraseTerm) → Fine ix d t → GoodTerm ix.positions (term_of ix t.leaf t.offset (posting_at ix t.leaf d))
good-term ix d t f = go (posting_at ix t.leaf d) f.positions
  where
    go : (p : Option ℕ) → ((i : ℕ) → p ≡ some i → (has_positions ix (leaf_field ix t.leaf) ≡ true) × (wrong_positions ix t.leaf i ≡ false)) → GoodTerm ix.positions (term_of ix t.leaf t.offset p)
    go none h = record { within = omega arith; rising = λ j k. absurd (not-suc-le-zero k); small = λ j k. absurd (not-suc-le-zero k); offset-small = f.offset-small }
    go (some i) h = let e = h i refl in good-posting ix t.leaf t.offset i e.0 e.1 f.offset-small

-- ---- what `frequency` and `place` ask
pub words-length : (ix : Index) (d : ℕ) (ts : List PhraseTerm) → length (phrase_words ix d ts) ≡ 3 * length ts
unfolding phrase_words
words-length ix d [] = refl
words-length ix d (t ∷ ts) = let e = words-length ix d ts in omega (arith, e)

words-each : (ix : Index) (d : ℕ) (ts : List PhraseTerm) → AllFine ix d ts → (at : ℕ) → at % 3 ≡ 0 → at < length (phrase_words ix d ts) → GoodTerm ix.positions (term_at (phrase_words ix d ts) at)
unfolding phrase_words AllFine
words-each ix d [] f at e h = absurd (not-suc-le-zero h)
words-each ix d (t ∷ ts) f zero e h = good-term ix d t f.0
words-each ix d (t ∷ ts) f (suc zero) e h = absurd (omega (arith, e))
words-each ix d (t ∷ ts) f (suc (suc zero)) e h = absurd (omega (arith, e))
words-each ix d (t ∷ ts) f (suc (suc (suc at))) e h =
    rw (term-past (first_of ix t.leaf (posting_at ix t.leaf d)) (frequency_of ix t.leaf (posting_at ix t.leaf d)) t.offset (phrase_words ix d ts) at) (words-each ix d ts f.1 at (omega (arith, e)) (omega (arith, h)))

pub words-good : (ix : Index) (d : ℕ) (ts : List PhraseTerm) → 0 < length ts → AllFine ix d ts → Good ix.positions (phrase_words ix d ts)
words-good ix d ts h f =
    let n = words-length ix d ts in
    record { some = omega (arith, n, h); whole = omega (arith, n); each = words-each ix d ts f }

pub words-room : (ix : Index) (d : ℕ) (t : PhraseTerm) (ts : List PhraseTerm) (places : ℕ) → frequency_of ix t.leaf (posting_at ix t.leaf d) ≤ places → Room (phrase_words ix d (t ∷ ts)) places
unfolding phrase_words
words-room ix d t ts places h = record { term = 0; record-start = omega arith; one-of-them = omega arith; enough = h }

-- a term's three words, written behind a front
pub take-three : (out : List ℕ) (n a b c : ℕ) → n + 2 < length out → take (n + 3) (set (set (set out n a) (n + 1) b) (n + 2) c) ≡ take n out ++ (a ∷ b ∷ c ∷ [])
take-three out n a b c h =
    let o1 = set out n a in
    let o2 = set o1 (suc n) b in
    let e1 : n + 1 ≡ suc n = omega arith in
    let e2 : n + 2 ≡ suc (suc n) = omega arith in
    let e3 : n + 3 ≡ suc (suc (suc n)) = omega arith in
    rw (e1, e2, e3)
    (take-suc-set o2 (suc (suc n)) c (omega (arith, length-set o1 (suc n) b, length-set out n a))
    ∙ ap (λ (y : List ℕ). y ++ (c ∷ [])) (take-suc-set o1 (suc n) b (omega (arith, length-set out n a)) ∙ ap (λ (y : List ℕ). y ++ (b ∷ [])) (take-suc-set out n a (omega arith)))
    ∙ append_assoc (take n out ++ (a ∷ [])) (b ∷ []) (c ∷ [])
    ∙ append_assoc (take n out) (a ∷ []) (b ∷ c ∷ []))
