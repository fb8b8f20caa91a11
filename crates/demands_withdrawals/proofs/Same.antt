-- What does not look at the live words: which documents a query takes, their scores, its costs and its scorers.
-- Assumes nothing. Costs count dead documents too, and so no score moves.
use mathlib.Core.Path.{◌≡◌, refl}
use mathlib.Core.List.{List, [], ◌∷◌}
use mathlib.Core.Option.{Option, none, some}
use Prim.Native.Nat.{ℕ}
use lib.Ieee.{Float}
use Rattle.meaning.specs.Lent.{Index}
use Rattle.meaning.specs.Postings.{posting_at, frequency_of, positions_of}
use Rattle.meaning.specs.Range.{in_range, range_documents}
use Rattle.meaning.specs.Phrase.{PhraseTerm, term_starts, phrase_frequency}
use Rattle.meaning.specs.Query.{Tree, term, phrase, boolean, range, match_all, constant_score, boost, match_none, Clauses, empty, clause}
use Rattle.meaning.specs.Takes.{takes, takes_of}
use Rattle.meaning.specs.Scorer.{all_have_postings, has_scorer, scorers_of}
use Rattle.meaning.specs.Cost.{cost, costs}
use Rattle.meaning.specs.Score.{boosted, passed, field_score, term_score, phrase_idf, phrase_score, score, scores}
use Rattle.demands_withdrawals.specs.Withdrawal.{withdrawn}

module _ (ix : Index) (d : ℕ) where
  -- ---- a leaf's posting, and a phrase
  frequency-same : (l : ℕ) (at : Option ℕ) → frequency_of (withdrawn ix d) l at ≡ frequency_of ix l at
  unfolding withdrawn
  frequency-same l none = refl
  frequency-same l (some i) = refl

  positions-same : (l : ℕ) (at : Option ℕ) → positions_of (withdrawn ix d) l at ≡ positions_of ix l at
  unfolding withdrawn
  positions-same l none = refl
  positions-same l (some i) = refl

  starts-same : (ts : List PhraseTerm) (x : ℕ) → term_starts (withdrawn ix d) ts x ≡ term_starts ix ts x
  unfolding term_starts withdrawn
  starts-same [] x = refl
  starts-same (t ∷ ts) x = rw (positions-same t.leaf (posting_at ix t.leaf x), starts-same ts x)

  phrase-same : (ts : List PhraseTerm) (x : ℕ) → phrase_frequency (withdrawn ix d) ts x ≡ phrase_frequency ix ts x
  unfolding phrase_frequency
  phrase-same ts x = rw (starts-same ts x)

  -- ---- which documents a query takes
  mutual
    unfolding takes withdrawn in_range

    takes_same : (t : Tree) (x : ℕ) → takes (withdrawn ix d) t x ≡ takes ix t x
    takes_same (term l) x = refl
    takes_same (phrase f ts) x = rw (phrase-same ts x)
    takes_same (boolean msm cs) x = rw (takes_of-same cs x)
    takes_same (range r) x = refl
    takes_same match_all x = refl
    takes_same (constant_score t) x = takes_same t x
    takes_same (boost b t) x = takes_same t x
    takes_same match_none x = refl

    takes_of-same : (cs : Clauses) (x : ℕ) → takes_of (withdrawn ix d) cs x ≡ takes_of ix cs x
    takes_of-same empty x = refl
    takes_of-same (clause o t cs) x = rw (takes_same t x, takes_of-same cs x)

  -- ---- which nodes have a scorer
  postings-same : (ts : List PhraseTerm) → all_have_postings (withdrawn ix d) ts ≡ all_have_postings ix ts
  unfolding all_have_postings withdrawn
  postings-same [] = refl
  postings-same (t ∷ ts) = rw (postings-same ts)

  mutual
    unfolding has_scorer withdrawn

    has_scorer-same : (t : Tree) → has_scorer (withdrawn ix d) t ≡ has_scorer ix t
    has_scorer-same (term l) = refl
    has_scorer-same (phrase f ts) = postings-same ts
    has_scorer-same (boolean msm cs) = rw (scorers_of-same cs)
    has_scorer-same (range r) = refl
    has_scorer-same match_all = refl
    has_scorer-same (constant_score t) = has_scorer-same t
    has_scorer-same (boost b t) = has_scorer-same t
    has_scorer-same match_none = refl

    scorers_of-same : (cs : Clauses) → scorers_of (withdrawn ix d) cs ≡ scorers_of ix cs
    scorers_of-same empty = refl
    scorers_of-same (clause o t cs) = rw (has_scorer-same t, scorers_of-same cs)

  -- ---- costs
  mutual
    unfolding cost withdrawn range_documents in_range

    cost-same : (t : Tree) → cost (withdrawn ix d) t ≡ cost ix t
    cost-same (term l) = refl
    cost-same (phrase f ts) = refl
    cost-same (boolean msm cs) = rw (costs-same cs)
    cost-same (range r) = refl
    cost-same match_all = refl
    cost-same (constant_score t) = cost-same t
    cost-same (boost b t) = cost-same t
    cost-same match_none = refl

    costs-same : (cs : Clauses) → costs (withdrawn ix d) cs ≡ costs ix cs
    costs-same empty = refl
    costs-same (clause o t cs) = rw (has_scorer-same t, cost-same t, costs-same cs)

  -- ---- scores
  mutual
    unfolding score withdrawn field_score term_score phrase_idf phrase_score

    score-same : (t : Tree) (b : Float) (x : ℕ) → score (withdrawn ix d) t b x ≡ score ix t b x
    score-same (term l) b x = rw (frequency-same l (posting_at ix l x))
    score-same (phrase f ts) b x = rw (phrase-same ts x)
    score-same (boolean msm cs) b x = rw (costs-same cs, scores-same cs b x)
    score-same (range r) b x = refl
    score-same match_all b x = refl
    score-same (constant_score t) b x = refl
    score-same (boost v t) b x = score-same t (boosted b v) x
    score-same match_none b x = refl

    scores-same : (cs : Clauses) (b : Float) (x : ℕ) → scores (withdrawn ix d) cs b x ≡ scores ix cs b x
    scores-same empty b x = refl
    scores-same (clause o t cs) b x = rw (cost-same t, takes_same t x, score-same t (passed o b) x, scores-same cs b x)

-- "changes no other document or score": of every tree, boost and document
pub record SameOtherwise (ix : Index) (d : ℕ) : Type 0 where
  pub same_takes : (t : Tree) (x : ℕ) → takes (withdrawn ix d) t x ≡ takes ix t x
  pub same-score : (t : Tree) (b : Float) (x : ℕ) → score (withdrawn ix d) t b x ≡ score ix t b x
  pub same-cost : (t : Tree) → cost (withdrawn ix d) t ≡ cost ix t
  pub same-scorer : (t : Tree) → has_scorer (withdrawn ix d) t ≡ has_scorer ix t

pub same_otherwise : (ix : Index) (d : ℕ) → SameOtherwise ix d
same_otherwise ix d = record { same_takes = takes_same ix d; same-score = score-same ix d; same-cost = cost-same ix d; same-scorer = has_scorer-same ix d }
