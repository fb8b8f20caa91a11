-- A scorer tree scores a document as its query's tree does, where the tree has a scorer. Assumes nothing.
use mathlib.Core.Path.{◌≡◌, refl, sym, ap, ◌∙◌}
use mathlib.Core.Bool.{Bool, true, false, cond, ◌&&◌, false≢true}
use mathlib.Core.List.{List, [], ◌∷◌, ◌++◌, map}
use mathlib.Core.Option.{none, some}
use Prim.Native.Nat.{ℕ, suc}
use native.Mathlib.Nat.{le_refl}
use lib.Dec.{eqb, leb}
use lib.Ieee.{Float, binary32, binary64, add, of_bits}
use borrow.Author.Tests.{leb-false}
use Rattle.meaning.specs.Lent.{Index, leaf_idf}
use Rattle.meaning.specs.Ieee754.{zero_float, narrow, narrowed_sum}
use Rattle.meaning.specs.Bm25.{weight}
use Rattle.meaning.specs.Query
use Rattle.meaning.specs.Query.{Occur, must, should, must_not, filter, is_required, is_must, is_should, Tree, Clauses, empty, clause, has_required}
use Rattle.meaning.specs.Takes.{takes}
use Rattle.meaning.specs.Scorer.{has_scorer}
use Rattle.meaning.specs.Cost.{cost, costs, disjunction_cost}
use Rattle.meaning.specs.Score.{term_score, phrase_score, phrase_idf, boosted, passed, Requirement, by_cost, required_score, ClauseScore, must_scores, should_scores, group_score, boolean_score, score, scores}
use Rattle.meaning.proofs.Scorers.{no-scorer-takes-nothing}
use Rattle.tree_weight.specs.ScorerTree.{Leaf, term, phrase, leaf, Scored, leaf_score, scoring, with_group, joined_score, matches, scorer_score, required_scores, optional_scores}
use Rattle.tree_weight.specs.Weigh.{Ready, cheapest_first, chosen, scorers_of, up_to_cost, joining_of, boolean_of, scoring_at, no_scorer, weigh, readied}
use Rattle.tree_weight.proofs.Matches.{AllThere, required-there, weigh-matches}
use Rattle.tree_weight.proofs.Ready.{Every}
use Rattle.tree_weight.proofs.Order.{place, place-later, last-placed, Sorted, sorted, requirement, musts, place-front, musts-sorted, musts-chosen}

-- a clause's score in a document
abbrev ready_score : Index → ℕ → Ready → Float
ready_score ix d r = scorer_score ix r.scorer d

abbrev scores_of : List Requirement → List Float
scores_of ms = map (λ r. r.score) ms

-- ---- the sum goes over the Musts
scoring-musts : (ix : Index) (rs : List Ready) (d : ℕ) → scoring (required_scores ix (scorers_of rs) d) ≡ scores_of (musts (ready_score ix d) rs)
unfolding scoring required_scores scorers_of musts
scoring-musts ix [] d = refl
scoring-musts ix (r ∷ rs) d = step (is_must r.occur) (scoring-musts ix rs d)
  where
    step : (m : Bool) → scoring (required_scores ix (scorers_of rs) d) ≡ scores_of (musts (ready_score ix d) rs) → (cond m (ready_score ix d r ∷ []) [] ++ scoring (required_scores ix (scorers_of rs) d)) ≡ scores_of (cond m (requirement (ready_score ix d) r ∷ []) [] ++ musts (ready_score ix d) rs)
    step true e = ap (λ (z : List Float). ready_score ix d r ∷ z) e
    step false e = e

-- and the group after the first that cost no more is the group after all Musts that cost no more
group-musts : (ix : Index) (g : Requirement) (rs : List Ready) (d : ℕ) → Sorted rs → with_group (up_to_cost g.cost rs) g.score (required_scores ix (scorers_of rs) d) ≡ scores_of (place g (musts (ready_score ix d) rs))
unfolding with_group up_to_cost scoring required_scores scorers_of place musts Sorted Every
group-musts ix g [] d s = refl
group-musts ix g (r ∷ rs) d s = step (leb r.cost g.cost) refl (group-musts ix g rs d s.1)
  where
    ms : List Requirement
    ms = musts (ready_score ix d) rs

    xs : List Scored
    xs = required_scores ix (scorers_of rs) d

    within : (m : Bool) → leb r.cost g.cost ≡ true → with_group (up_to_cost g.cost rs) g.score xs ≡ scores_of (place g ms) → (cond m (ready_score ix d r ∷ []) [] ++ with_group (up_to_cost g.cost rs) g.score xs) ≡ scores_of (place g (cond m (requirement (ready_score ix d) r ∷ []) [] ++ ms))
    within true e i = ap (λ (z : List Float). ready_score ix d r ∷ z) i ∙ ap scores_of (sym (place-later g (requirement (ready_score ix d) r) ms e))
    within false e i = i

    step : (b : Bool) → leb r.cost g.cost ≡ b → with_group (up_to_cost g.cost rs) g.score xs ≡ scores_of (place g ms) → with_group (cond b (suc (up_to_cost g.cost rs)) 0) g.score (required_scores ix (scorers_of (r ∷ rs)) d) ≡ scores_of (place g (musts (ready_score ix d) (r ∷ rs)))
    step true e i = within (is_must r.occur) e i
    step false e i =
        ap (λ (z : List Float). g.score ∷ z) (scoring-musts ix (r ∷ rs) d)
        ∙ ap scores_of (sym (place-front (ready_score ix d) g r.cost (r ∷ rs) (leb-false r.cost g.cost e) (le_refl r.cost, s.0)))

-- ---- a Boolean's score, from its clauses' Musts and Shoulds
joined-score : (ix : Index) (rs : List Ready) (d : ℕ) (cs : List ClauseScore) (cost : ℕ) → musts (ready_score ix d) rs ≡ must_scores cs → (h : Bool) → joined_score (joining_of h cost (cheapest_first rs)) (required_scores ix (scorers_of (cheapest_first rs)) d) (group_score cs) ≡ boolean_score h cost cs
unfolding joined_score joining_of boolean_score required_score
joined-score ix rs d cs cost e true =
    ap (λ (z : List Float). narrow (add binary64 (narrowed_sum z) (group_score cs)))
    (scoring-musts ix (cheapest_first rs) d ∙ ap scores_of (musts-sorted (ready_score ix d) rs ∙ ap by_cost e))
joined-score ix rs d cs cost e false =
    ap narrowed_sum
    (group-musts ix g (cheapest_first rs) d (sorted rs) ∙ ap (λ (z : List Requirement). scores_of (place g z)) (musts-sorted (ready_score ix d) rs ∙ ap by_cost e) ∙ ap scores_of (sym (last-placed (must_scores cs) g)))
  where
    g : Requirement
    g = record { cost = cost; score = group_score cs }

boolean-score : (ix : Index) (msm : ℕ) (cs : Clauses) (b : Float) (d : ℕ) → has_scorer ix (Query.boolean msm cs) ≡ true → musts (ready_score ix d) (readied ix cs b) ≡ must_scores (scores ix cs b d) → optional_scores ix (scorers_of (chosen is_should (readied ix cs b))) d ≡ should_scores (scores ix cs b d) → scorer_score ix (boolean_of ix msm cs none (readied ix cs b)) d ≡ score ix (Query.boolean msm cs) b d
unfolding scorer_score boolean_of score group_score
boolean-score ix msm cs b d h em es =
    ap (λ (z : List Float). joined_score (joining_of late group (cheapest_first (chosen is_required rs))) (required_scores ix (scorers_of (cheapest_first (chosen is_required rs))) d) (narrowed_sum z)) es
    ∙ joined-score ix (chosen is_required rs) d (scores ix cs b d) group (musts-chosen (ready_score ix d) rs (required-there ix msm cs b h) ∙ em) late
  where
    rs : List Ready
    rs = readied ix cs b

    late : Bool
    late = has_required cs && eqb msm 0

    group : ℕ
    group = disjunction_cost (costs ix cs)

-- ---- one clause
must-head : (o : Occur) (c : ℕ) (x y : Float) (xs ys : List Requirement) → (is_required o ≡ true → x ≡ y) → xs ≡ ys → (cond (is_must o) (record { cost = c; score = x } ∷ []) [] ++ xs) ≡ cond (is_must o) (record { cost = c; score = y } ∷ []) [] ++ ys
must-head must c x y xs ys e es = λ i. record { cost = c; score = e refl i } ∷ es i
must-head should c x y xs ys e es = es
must-head must_not c x y xs ys e es = es
must-head filter c x y xs ys e es = es

should-head : (ix : Index) (r : Ready) (rs : List Ready) (d : ℕ) (q p t : Bool) (y : Float) (ys : List Float) → matches ix r.scorer d ≡ t → (p ≡ true → scorer_score ix r.scorer d ≡ y) → (p ≡ false → t ≡ false) → optional_scores ix (scorers_of rs) d ≡ ys → optional_scores ix (scorers_of (cond (q && p) (r ∷ []) [] ++ rs)) d ≡ cond (q && t) (y ∷ []) [] ++ ys
unfolding optional_scores scorers_of
should-head ix r rs d true true t y ys em ex en es = λ i. cond (em i) (ex refl i ∷ []) [] ++ es i
should-head ix r rs d true false t y ys em ex en es = es ∙ ap (λ (z : Bool). cond z (y ∷ []) [] ++ ys) (sym (en refl))
should-head ix r rs d false p t y ys em ex en es = es

-- ---- the score that a node keeps
kept-leaf : (ix : Index) (l : Leaf) (w c : Float) (d : ℕ) (h : Bool) → h ≡ true → scorer_score ix (cond h (leaf l (scoring_at (some c) w)) no_scorer) d ≡ c
unfolding scorer_score leaf_score
kept-leaf ix l w c d true e = refl
kept-leaf ix l w c d false e = absurd (false≢true e)

kept-boolean : (ix : Index) (msm : ℕ) (cs : Clauses) (rs : List Ready) (c : Float) (d : ℕ) (h : Bool) → h ≡ true → scorer_score ix (cond h (boolean_of ix msm cs (some c) rs) no_scorer) d ≡ c
unfolding scorer_score leaf_score boolean_of
kept-boolean ix msm cs rs c d true e = refl
kept-boolean ix msm cs rs c d false e = absurd (false≢true e)

pub weigh-kept : (ix : Index) (t : Tree) (b c : Float) (d : ℕ) → has_scorer ix t ≡ true → scorer_score ix (weigh ix t b (some c)) d ≡ c
unfolding weigh has_scorer scorer_score leaf_score
weigh-kept ix (Query.term l) b c d h = kept-leaf ix (term l) (weight b (of_bits binary32 (leaf_idf ix l))) c d (has_scorer ix (Query.term l)) h
weigh-kept ix (Query.phrase f ts) b c d h = kept-leaf ix (phrase f ts) (weight b (phrase_idf ix ts)) c d (has_scorer ix (Query.phrase f ts)) h
weigh-kept ix (Query.boolean msm cs) b c d h = kept-boolean ix msm cs (readied ix cs b) c d (has_scorer ix (Query.boolean msm cs)) h
weigh-kept ix (Query.range r) b c d h = refl
weigh-kept ix Query.match_all b c d h = refl
weigh-kept ix (Query.constant_score t) b c d h = weigh-kept ix t zero_float c d h
weigh-kept ix (Query.boost v t) b c d h = weigh-kept ix t (boosted b v) c d h
weigh-kept ix Query.match_none b c d h = absurd (false≢true h)

-- ---- the score of the tree
scored-leaf : (ix : Index) (l : Leaf) (w x : Float) (d : ℕ) → leaf_score ix l (scoring_at none w) d ≡ x → (h : Bool) → h ≡ true → scorer_score ix (cond h (leaf l (scoring_at none w)) no_scorer) d ≡ x
unfolding scorer_score
scored-leaf ix l w x d s true e = s
scored-leaf ix l w x d s false e = absurd (false≢true e)

scored-boolean : (ix : Index) (msm : ℕ) (cs : Clauses) (b x : Float) (d : ℕ) → scorer_score ix (boolean_of ix msm cs none (readied ix cs b)) d ≡ x → (h : Bool) → h ≡ true → scorer_score ix (cond h (boolean_of ix msm cs none (readied ix cs b)) no_scorer) d ≡ x
scored-boolean ix msm cs b x d s true e = s
scored-boolean ix msm cs b x d s false e = absurd (false≢true e)

mutual
  unfolding weigh readied has_scorer scorer_score leaf_score score term_score phrase_score musts must_scores chosen scorers_of should_scores Every

  -- THE theorem
  pub weigh-score : (ix : Index) (t : Tree) (b : Float) (d : ℕ) → has_scorer ix t ≡ true → scorer_score ix (weigh ix t b none) d ≡ score ix t b d
  weigh-score ix (Query.term l) b d h = scored-leaf ix (term l) (weight b (of_bits binary32 (leaf_idf ix l))) (term_score ix l b d) d refl (has_scorer ix (Query.term l)) h
  weigh-score ix (Query.phrase f ts) b d h = scored-leaf ix (phrase f ts) (weight b (phrase_idf ix ts)) (phrase_score ix f ts b d) d refl (has_scorer ix (Query.phrase f ts)) h
  weigh-score ix (Query.boolean msm cs) b d h =
      scored-boolean ix msm cs b (score ix (Query.boolean msm cs) b d) d (boolean-score ix msm cs b d h (required-scores ix cs b d (required-there ix msm cs b h)) (should-scores ix cs b d)) (has_scorer ix (Query.boolean msm cs)) h
  weigh-score ix (Query.range r) b d h = refl
  weigh-score ix Query.match_all b d h = refl
  weigh-score ix (Query.constant_score t) b d h = weigh-kept ix t zero_float b d h
  weigh-score ix (Query.boost v t) b d h = weigh-score ix t (boosted b v) d h
  weigh-score ix Query.match_none b d h = refl

  required-scores : (ix : Index) (cs : Clauses) (b : Float) (d : ℕ) → AllThere (readied ix cs b) → musts (ready_score ix d) (readied ix cs b) ≡ must_scores (scores ix cs b d)
  required-scores ix empty b d there = refl
  required-scores ix (clause o t cs) b d there =
      must-head o (cost ix t) (scorer_score ix (weigh ix t (passed o b) none) d) (score ix t (passed o b) d) (musts (ready_score ix d) (readied ix cs b)) (must_scores (scores ix cs b d)) (λ q. weigh-score ix t (passed o b) d (there.0 q)) (required-scores ix cs b d there.1)

  should-scores : (ix : Index) (cs : Clauses) (b : Float) (d : ℕ) → optional_scores ix (scorers_of (chosen is_should (readied ix cs b))) d ≡ should_scores (scores ix cs b d)
  should-scores ix empty b d = refl
  should-scores ix (clause o t cs) b d =
      should-head ix (record { occur = o; present = has_scorer ix t; cost = cost ix t; scorer = weigh ix t (passed o b) none }) (chosen is_should (readied ix cs b)) d (is_should o) (has_scorer ix t) (takes ix t d) (score ix t (passed o b) d) (should_scores (scores ix cs b d)) (weigh-matches ix t (passed o b) none d) (λ h. weigh-score ix t (passed o b) d h) (λ h. no-scorer-takes-nothing ix t d h) (should-scores ix cs b d)
