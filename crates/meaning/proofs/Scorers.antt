-- A node without a scorer takes nothing. Assumes nothing.
use mathlib.Core.Path.{◌≡◌, refl, subst}
use mathlib.Core.Option.{Option, none, some}
use mathlib.Core.Bool.{Bool, true, false, not, cond, ◌&&◌, ◌||◌}
use mathlib.Core.List.{List, [], ◌∷◌}
use Prim.Native.Nat.{ℕ, zero, suc, ◌+◌, ◌≤◌, ◌<◌}
use native.Mathlib.Nat.{le_refl, le_trans, not-suc-le-zero}
use native.Mathlib.Omega.{arith}
use lib.Dec.{T, eqb, ltb, leb, ltb→lt, lt→ltb, leb→le, le→leb}
use lib.Ieee.Fits.{and_i, and_l, and_r}
use lib.IntN.{ℤ}
use Rattle.meaning.specs.Below.{last_below}
use Rattle.meaning.specs.Lent.{Index, leaf_number, leaf_document}
use Rattle.meaning.specs.Postings.{posting_at, positions_of, found}
use Rattle.meaning.specs.Phrase.{PhraseTerm, starts, term_starts, multiplicity, smallest, phrase_frequency}
use Rattle.meaning.specs.Query.{is_required, is_should, Tree, term, phrase, boolean, range, match_all, constant_score, boost, match_none, Clauses, empty, clause}
use Rattle.meaning.specs.Takes.{required_hold, some_prohibited, shoulds_holding, shoulds_needed, boolean_takes, takes, takes_of}
use Rattle.meaning.specs.Scorer.{has_postings, all_have_postings, has_scorer, scorers_of}
use Rattle.meaning.proofs.Phrases.{common-start}

-- ---- a term
-- a property that some number below n has leaves n above 0
found-above : (n : ℕ) (p : ℕ → Bool) → T (found (last_below n p)) → 0 < n
unfolding last_below
found-above zero p h = absurd h
found-above (suc n) p h = omega arith

term-scorer : (ix : Index) (l d : ℕ) → T (found (posting_at ix l d)) → T (has_postings ix l)
term-scorer ix l d h = lt→ltb 0 (leaf_number ix l) (found-above (leaf_number ix l) (λ i. eqb (leaf_document ix l i) d) h)

-- ---- a phrase
-- a term with a start in the document has a posting there
start-found : (ix : Index) (l o : ℕ) (s : ℤ) (p : Option ℕ) → 0 < multiplicity s (starts o (positions_of ix l p)) → T (found p)
unfolding starts multiplicity
start-found ix l o s none h = absurd (not-suc-le-zero h)
start-found ix l o s (some i) h = tt

start-scorer : (ix : Index) (t : PhraseTerm) (d : ℕ) (s : ℤ) → 0 < multiplicity s (starts t.offset (positions_of ix t.leaf (posting_at ix t.leaf d))) → T (has_postings ix t.leaf)
start-scorer ix t d s h = term-scorer ix t.leaf d (start-found ix t.leaf t.offset s (posting_at ix t.leaf d) h)

starts-scorer : (ix : Index) (ts : List PhraseTerm) (d : ℕ) (s : ℤ) → 0 < smallest s (term_starts ix ts d) → T (all_have_postings ix ts)
unfolding term_starts smallest all_have_postings
starts-scorer ix [] d s h = tt
starts-scorer ix (t ∷ []) d s h = and_i (has_postings ix t.leaf) true (start-scorer ix t d s h) tt
starts-scorer ix (t ∷ u ∷ us) d s h =
    and_i (has_postings ix t.leaf) (all_have_postings ix (u ∷ us)) (start-scorer ix t d s (omega (arith, h))) (starts-scorer ix (u ∷ us) d s (omega (arith, h)))

phrase-scorer : (ix : Index) (ts : List PhraseTerm) (d : ℕ) → T (ltb 0 (phrase_frequency ix ts d)) → T (all_have_postings ix ts)
unfolding phrase_frequency
phrase-scorer ix ts d h =
    let e = common-start (term_starts ix ts d) (ltb→lt 0 (phrase_frequency ix ts d) h) in
    starts-scorer ix ts d e.0 e.1

-- ---- a Boolean
-- what one clause's verdict adds
required-step : (r a b : Bool) → (T a → T b) → T (not r || a) → T (not r || b)
required-step true a b f h = f h
required-step false a b f h = tt

should-step : (s a b : Bool) (m n : ℕ) → (T a → T b) → m ≤ n → cond (s && a) 1 0 + m ≤ cond (s && b) 1 0 + n
should-step false a b m n f h = omega (arith, h)
should-step true false false m n f h = omega (arith, h)
should-step true false true m n f h = omega (arith, h)
should-step true true false m n f h = absurd (f tt)
should-step true true true m n f h = omega (arith, h)

mutual
  unfolding takes has_scorer boolean_takes required_hold shoulds_holding

  scorer-of : (ix : Index) (t : Tree) (d : ℕ) → T (takes ix t d) → T (has_scorer ix t)
  scorer-of ix (term l) d h = term-scorer ix l d h
  scorer-of ix (phrase f ts) d h = phrase-scorer ix ts d h
  scorer-of ix (boolean msm cs) d h =
      let vs = takes_of ix cs d in
      let ws = scorers_of ix cs in
      let n = shoulds_needed msm cs in
      let ab : T (required_hold vs && not (some_prohibited vs)) = and_l (required_hold vs && not (some_prohibited vs)) (leb n (shoulds_holding vs)) h in
      and_i (required_hold ws) (leb n (shoulds_holding ws)) (required-of ix cs d (and_l (required_hold vs) (not (some_prohibited vs)) ab))
      (le→leb n (shoulds_holding ws) (le_trans (leb→le n (shoulds_holding vs) (and_r (required_hold vs && not (some_prohibited vs)) (leb n (shoulds_holding vs)) h)) (shoulds-of ix cs d)))
  scorer-of ix (range r) d h = tt
  scorer-of ix match_all d h = tt
  scorer-of ix (constant_score t) d h = scorer-of ix t d h
  scorer-of ix (boost b t) d h = scorer-of ix t d h
  scorer-of ix match_none d h = h

  required-of : (ix : Index) (cs : Clauses) (d : ℕ) → T (required_hold (takes_of ix cs d)) → T (required_hold (scorers_of ix cs))
  required-of ix empty d h = tt
  required-of ix (clause o t cs) d h =
      let a = not (is_required o) || takes ix t d in
      let b = not (is_required o) || has_scorer ix t in
      let r = required_hold (takes_of ix cs d) in
      and_i b (required_hold (scorers_of ix cs)) (required-step (is_required o) (takes ix t d) (has_scorer ix t) (λ g. scorer-of ix t d g) (and_l a r h)) (required-of ix cs d (and_r a r h))

  shoulds-of : (ix : Index) (cs : Clauses) (d : ℕ) → shoulds_holding (takes_of ix cs d) ≤ shoulds_holding (scorers_of ix cs)
  shoulds-of ix empty d = le_refl 0
  shoulds-of ix (clause o t cs) d =
      should-step (is_should o) (takes ix t d) (has_scorer ix t) (shoulds_holding (takes_of ix cs d)) (shoulds_holding (scorers_of ix cs)) (λ g. scorer-of ix t d g) (shoulds-of ix cs d)

-- a node without a scorer takes nothing
pub no-scorer-takes-nothing : (ix : Index) (t : Tree) (d : ℕ) → has_scorer ix t ≡ false → takes ix t d ≡ false
no-scorer-takes-nothing ix t d none_has = go (takes ix t d) (scorer-of ix t d)
  where
    go : (b : Bool) → (T b → T (has_scorer ix t)) → b ≡ false
    go true f = absurd (subst T none_has (f tt))
    go false f = refl
