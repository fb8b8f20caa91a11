-- A scorer tree matches the documents that its query's tree takes. Assumes nothing.
use mathlib.Core.Path.{◌≡◌, refl, sym, ap, ◌∙◌, subst}
use mathlib.Core.Bool.{Bool, true, false, not, cond, ◌&&◌, ◌||◌, false≢true}
use mathlib.Core.List.{List, [], ◌∷◌, ◌++◌}
use mathlib.Core.Option.{Option, none}
use Prim.Native.Nat.{ℕ, ◌+◌}
use native.Mathlib.Nat.{zero-add}
use lib.Dec.{T, leb}
use lib.Ieee.{Float, binary32, of_bits}
use lib.Ieee.Fits.{and_l, and_r}
use Rattle.meaning.specs.Lent.{Index, leaf_idf}
use Rattle.meaning.specs.Query
use Rattle.meaning.specs.Query.{is_required, is_should, is_must_not, Tree, Clauses, empty, clause}
use Rattle.meaning.specs.Takes.{Verdict, required_hold, some_prohibited, shoulds_holding, shoulds_needed, boolean_takes, takes, takes_of}
use Rattle.meaning.specs.Scorer
use Rattle.meaning.specs.Scorer.{has_scorer}
use Rattle.meaning.specs.Bm25.{weight}
use Rattle.meaning.specs.Score.{phrase_idf, passed}
use Rattle.meaning.proofs.Scorers.{no-scorer-takes-nothing}
use Rattle.tree_weight.specs.ScorerTree.{Leaf, term, phrase, Scoring, leaf, leaf_matches, matches, all_match, any_matches, matching}
use Rattle.tree_weight.specs.Weigh.{Ready, insert_ready, cheapest_first, chosen, scorers_of, boolean_of, scoring_at, no_scorer, weigh, readied}
use Rattle.tree_weight.proofs.Ready.{Every}

-- ---- the clauses made ready
-- their verdicts on a document
unfoldable pub ready_takes : Index → List Ready → ℕ → List Verdict
ready_takes ix [] d = []
ready_takes ix (r ∷ rs) d = record { occur = r.occur; holds = matches ix r.scorer d } ∷ ready_takes ix rs d

-- one without a scorer matches nothing
abbrev pub Quiet : Index → List Ready → ℕ → Type 0
Quiet ix rs d = Every (λ r. r.present ≡ false → matches ix r.scorer d ≡ false) rs

-- each Must and Filter has a scorer
abbrev pub AllThere : List Ready → Type 0
AllThere rs = Every (λ r. is_required r.occur ≡ true → r.present ≡ true) rs

-- ---- the required
and-swap : (a b c : Bool) → (a && (b && c)) ≡ (b && (a && c))
and-swap true b c = refl
and-swap false true c = refl
and-swap false false c = refl

all_insert : (ix : Index) (r : Ready) (rs : List Ready) (d : ℕ) → all_match ix (scorers_of (insert_ready r rs)) d ≡ (matches ix r.scorer d && all_match ix (scorers_of rs) d)
unfolding all_match scorers_of insert_ready
all_insert ix r [] d = refl
all_insert ix r (x ∷ xs) d = step (leb r.cost x.cost) (all_insert ix r xs d)
  where
    rest : Bool
    rest = all_match ix (scorers_of xs) d

    step : (h : Bool) → all_match ix (scorers_of (insert_ready r xs)) d ≡ (matches ix r.scorer d && rest) → all_match ix (scorers_of (cond h (r ∷ x ∷ xs) (x ∷ insert_ready r xs))) d ≡ (matches ix r.scorer d && (matches ix x.scorer d && rest))
    step true e = refl
    step false e = ap (λ (z : Bool). matches ix x.scorer d && z) e ∙ and-swap (matches ix x.scorer d) (matches ix r.scorer d) rest

-- their order does not matter
pub all-sorted : (ix : Index) (rs : List Ready) (d : ℕ) → all_match ix (scorers_of (cheapest_first rs)) d ≡ all_match ix (scorers_of rs) d
unfolding all_match scorers_of cheapest_first
all-sorted ix [] d = refl
all-sorted ix (r ∷ rs) d = all_insert ix r (cheapest_first rs) d ∙ ap (λ (z : Bool). matches ix r.scorer d && z) (all-sorted ix rs d)

all-chosen : (ix : Index) (rs : List Ready) (d : ℕ) → AllThere rs → all_match ix (scorers_of (chosen is_required rs)) d ≡ required_hold (ready_takes ix rs d)
unfolding all_match scorers_of chosen required_hold ready_takes Every
all-chosen ix [] d there = refl
all-chosen ix (r ∷ rs) d there = step (is_required r.occur) r.present there.0 (all-chosen ix rs d there.1)
  where
    m : Bool
    m = matches ix r.scorer d

    step : (q p : Bool) → (q ≡ true → p ≡ true) → all_match ix (scorers_of (chosen is_required rs)) d ≡ required_hold (ready_takes ix rs d) → all_match ix (scorers_of (cond (q && p) (r ∷ []) [] ++ chosen is_required rs)) d ≡ ((not q || m) && required_hold (ready_takes ix rs d))
    step true true f e = ap (λ (z : Bool). m && z) e
    step true false f e = absurd (false≢true (f refl))
    step false p f e = e

-- ---- the prohibited and the optional
any-chosen : (ix : Index) (rs : List Ready) (d : ℕ) → Quiet ix rs d → any_matches ix (scorers_of (chosen is_must_not rs)) d ≡ some_prohibited (ready_takes ix rs d)
unfolding any_matches scorers_of chosen some_prohibited ready_takes Every
any-chosen ix [] d quiet = refl
any-chosen ix (r ∷ rs) d quiet = step (is_must_not r.occur) r.present quiet.0 (any-chosen ix rs d quiet.1)
  where
    m : Bool
    m = matches ix r.scorer d

    rest : Bool
    rest = some_prohibited (ready_takes ix rs d)

    step : (q p : Bool) → (p ≡ false → m ≡ false) → any_matches ix (scorers_of (chosen is_must_not rs)) d ≡ rest → any_matches ix (scorers_of (cond (q && p) (r ∷ []) [] ++ chosen is_must_not rs)) d ≡ ((q && m) || rest)
    step true true f e = ap (λ (z : Bool). m || z) e
    step true false f e = e ∙ ap (λ (z : Bool). z || rest) (sym (f refl))
    step false p f e = e

matching-chosen : (ix : Index) (rs : List Ready) (d : ℕ) → Quiet ix rs d → matching ix (scorers_of (chosen is_should rs)) d ≡ shoulds_holding (ready_takes ix rs d)
unfolding matching scorers_of chosen shoulds_holding ready_takes Every
matching-chosen ix [] d quiet = refl
matching-chosen ix (r ∷ rs) d quiet = step (is_should r.occur) r.present quiet.0 (matching-chosen ix rs d quiet.1)
  where
    m : Bool
    m = matches ix r.scorer d

    rest : ℕ
    rest = shoulds_holding (ready_takes ix rs d)

    step : (q p : Bool) → (p ≡ false → m ≡ false) → matching ix (scorers_of (chosen is_should rs)) d ≡ rest → matching ix (scorers_of (cond (q && p) (r ∷ []) [] ++ chosen is_should rs)) d ≡ cond (q && m) 1 0 + rest
    step true true f e = ap (λ (z : ℕ). cond m 1 0 + z) e
    step true false f e = e ∙ sym (zero-add rest) ∙ ap (λ (z : Bool). cond z 1 0 + rest) (sym (f refl))
    step false p f e = e ∙ sym (zero-add rest)

-- ---- where a Boolean has a scorer
pub all_there : (ix : Index) (cs : Clauses) (b : Float) → T (required_hold (Scorer.scorers_of ix cs)) → AllThere (readied ix cs b)
unfolding required_hold Scorer.scorers_of readied Every
all_there ix empty b h = tt
all_there ix (clause o t cs) b h =
    (step (is_required o) (has_scorer ix t) (and_l (not (is_required o) || has_scorer ix t) (required_hold (Scorer.scorers_of ix cs)) h), all_there ix cs b (and_r (not (is_required o) || has_scorer ix t) (required_hold (Scorer.scorers_of ix cs)) h))
  where
    step : (q p : Bool) → T (not q || p) → q ≡ true → p ≡ true
    step true true h e = refl
    step true false h e = absurd h
    step false p h e = absurd (false≢true e)

-- its Musts and Filters have theirs
pub required-there : (ix : Index) (msm : ℕ) (cs : Clauses) (b : Float) → has_scorer ix (Query.boolean msm cs) ≡ true → AllThere (readied ix cs b)
unfolding has_scorer
required-there ix msm cs b h =
    all_there ix cs b (and_l (required_hold (Scorer.scorers_of ix cs)) (leb (shoulds_needed msm cs) (shoulds_holding (Scorer.scorers_of ix cs))) (subst T (sym h) tt))

boolean-matches : (ix : Index) (msm : ℕ) (cs : Clauses) (b : Float) (c : Option Float) (d : ℕ) → ready_takes ix (readied ix cs b) d ≡ takes_of ix cs d → Quiet ix (readied ix cs b) d → (h : Bool) → has_scorer ix (Query.boolean msm cs) ≡ h → matches ix (cond h (boolean_of ix msm cs c (readied ix cs b)) no_scorer) d ≡ takes ix (Query.boolean msm cs) d
unfolding matches leaf_matches boolean_of takes boolean_takes
boolean-matches ix msm cs b c d same quiet true h =
    ap (λ (z : Bool). z && not (any_matches ix (scorers_of (chosen is_must_not rs)) d) && leb n (matching ix (scorers_of (chosen is_should rs)) d)) (all-sorted ix (chosen is_required rs) d ∙ all-chosen ix rs d (required-there ix msm cs b h))
    ∙ ap (λ (z : Bool). required_hold (ready_takes ix rs d) && not z && leb n (matching ix (scorers_of (chosen is_should rs)) d)) (any-chosen ix rs d quiet)
    ∙ ap (λ (z : ℕ). required_hold (ready_takes ix rs d) && not (some_prohibited (ready_takes ix rs d)) && leb n z) (matching-chosen ix rs d quiet)
    ∙ ap (λ (z : List Verdict). boolean_takes n z) same
  where
    rs : List Ready
    rs = readied ix cs b

    n : ℕ
    n = shoulds_needed msm cs
boolean-matches ix msm cs b c d same quiet false h = sym (no-scorer-takes-nothing ix (Query.boolean msm cs) d h)

-- a leaf that may have no scorer
leaf-matches : (ix : Index) (t : Tree) (d : ℕ) (l : Leaf) (s : Scoring) → leaf_matches ix l d ≡ takes ix t d → (h : Bool) → has_scorer ix t ≡ h → matches ix (cond h (leaf l s) no_scorer) d ≡ takes ix t d
unfolding matches leaf_matches
leaf-matches ix t d l s same true h = same
leaf-matches ix t d l s same false h = sym (no-scorer-takes-nothing ix t d h)

mutual
  unfolding weigh readied matches leaf_matches takes ready_takes Every

  pub weigh-matches : (ix : Index) (t : Tree) (b : Float) (c : Option Float) (d : ℕ) → matches ix (weigh ix t b c) d ≡ takes ix t d
  weigh-matches ix (Query.term l) b c d = leaf-matches ix (Query.term l) d (term l) (scoring_at c (weight b (of_bits binary32 (leaf_idf ix l)))) refl (has_scorer ix (Query.term l)) refl
  weigh-matches ix (Query.phrase f ts) b c d = leaf-matches ix (Query.phrase f ts) d (phrase f ts) (scoring_at c (weight b (phrase_idf ix ts))) refl (has_scorer ix (Query.phrase f ts)) refl
  weigh-matches ix (Query.boolean msm cs) b c d = boolean-matches ix msm cs b c d (readied-takes ix cs b d) (readied-quiet ix cs b d) (has_scorer ix (Query.boolean msm cs)) refl
  weigh-matches ix (Query.range r) b c d = refl
  weigh-matches ix Query.match_all b c d = refl
  weigh-matches ix (Query.constant_score t) b c d = weigh-matches ix t _ _ d
  weigh-matches ix (Query.boost v t) b c d = weigh-matches ix t _ _ d
  weigh-matches ix Query.match_none b c d = refl

  pub readied-takes : (ix : Index) (cs : Clauses) (b : Float) (d : ℕ) → ready_takes ix (readied ix cs b) d ≡ takes_of ix cs d
  readied-takes ix empty b d = refl
  readied-takes ix (clause o t cs) b d =
      λ i. record { occur = o; holds = weigh-matches ix t (passed o b) none d i } ∷ readied-takes ix cs b d i

  pub readied-quiet : (ix : Index) (cs : Clauses) (b : Float) (d : ℕ) → Quiet ix (readied ix cs b) d
  readied-quiet ix empty b d = tt
  readied-quiet ix (clause o t cs) b d = (λ e. weigh-matches ix t (passed o b) none d ∙ no-scorer-takes-nothing ix t d e, readied-quiet ix cs b d)
