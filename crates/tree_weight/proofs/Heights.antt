-- How many levels of Booleans a scorer tree has: `Ok` asks for so many. Assumes nothing.
use mathlib.Core.Bool.{Bool, true, false, cond}
use mathlib.Core.List.{List, [], ◌∷◌}
use mathlib.Core.Option.{Option, none}
use Prim.Native.Nat.{ℕ, zero-le, ◌+◌, ◌≤◌, max}
use native.Mathlib.Nat.{le_refl, le_trans}
use native.Mathlib.Omega.{arith}
use lib.Ieee.{Float, binary32, of_bits}
use Rattle.meaning.specs.Lent.{Index, leaf_idf}
use Rattle.meaning.specs.Bm25.{weight}
use Rattle.meaning.specs.Query
use Rattle.meaning.specs.Query.{is_required, is_should, is_must_not, Tree, Clauses, empty, clause}
use Rattle.meaning.specs.Scorer.{has_scorer}
use Rattle.meaning.specs.Score.{phrase_idf, passed}
use Rattle.tree_weight.specs.ScorerTree.{term, phrase, Scorer, leaf, boolean, Scorers, end, more}
use Rattle.tree_weight.specs.Weigh.{Ready, cheapest_first, chosen, scorers_of, boolean_of, scoring_at, no_scorer, weigh, readied}
use Rattle.tree_weight.proofs.Ready.{Every, every-sorted, every-chosen}

-- a leaf has none, a Boolean one more than its children
unfoldable mutual
  pub height : Scorer → ℕ
  height (leaf l s) = 0
  height (boolean c j need rs os ps) = 1 + max (heights rs) (max (heights os) (heights ps))

  pub heights : Scorers → ℕ
  heights end = 0
  heights (more b s ss) = max (height s) (heights ss)

-- the depth of a query's tree, "the root 1"; a phrase's terms are one level deeper
unfoldable mutual
  pub levels : Tree → ℕ
  levels (Query.term l) = 1
  levels (Query.phrase f ts) = 2
  levels (Query.boolean msm cs) = 1 + levels_of cs
  levels (Query.range r) = 1
  levels Query.match_all = 1
  levels (Query.constant_score t) = 1 + levels t
  levels (Query.boost v t) = 1 + levels t
  levels Query.match_none = 1

  pub levels_of : Clauses → ℕ
  levels_of empty = 0
  levels_of (clause o t cs) = max (levels t) (levels_of cs)

abbrev Low : ℕ → Ready → Type 0
Low n r = height r.scorer ≤ n

heights-low : (n : ℕ) (rs : List Ready) → Every (Low n) rs → heights (scorers_of rs) ≤ n
unfolding heights scorers_of Every
heights-low n [] e = zero-le
heights-low n (r ∷ rs) e = let i = heights-low n rs e.1 in let h = e.0 in omega (arith, i, h)

boolean-height : (ix : Index) (msm : ℕ) (cs : Clauses) (c : Option Float) (n : ℕ) (rs : List Ready) → Every (Low n) rs → height (boolean_of ix msm cs c rs) ≤ 1 + n
unfolding height boolean_of
boolean-height ix msm cs c n rs e =
    let a = heights-low n (cheapest_first (chosen is_required rs)) (every-sorted (Low n) (chosen is_required rs) (every-chosen (Low n) is_required rs e)) in
    let o = heights-low n (chosen is_should rs) (every-chosen (Low n) is_should rs e) in
    let p = heights-low n (chosen is_must_not rs) (every-chosen (Low n) is_must_not rs e) in
    omega (arith, a, o, p)

-- a scorer, or none
either : (n : ℕ) (h : Bool) (s : Scorer) → height s ≤ n → height (cond h s no_scorer) ≤ n
unfolding height
either n true s a = a
either n false s a = zero-le

mutual
  unfolding weigh readied levels height Every

  -- THE theorem: no more levels than the query's tree has
  pub weigh-height : (ix : Index) (t : Tree) (b : Float) (c : Option Float) → height (weigh ix t b c) ≤ levels t
  weigh-height ix (Query.term l) b c = either 1 (has_scorer ix (Query.term l)) (leaf (term l) (scoring_at c (weight b (of_bits binary32 (leaf_idf ix l))))) zero-le
  weigh-height ix (Query.phrase f ts) b c = either 2 (has_scorer ix (Query.phrase f ts)) (leaf (phrase f ts) (scoring_at c (weight b (phrase_idf ix ts)))) zero-le
  weigh-height ix (Query.boolean msm cs) b c =
      either (1 + levels_of cs) (has_scorer ix (Query.boolean msm cs)) (boolean_of ix msm cs c (readied ix cs b)) (boolean-height ix msm cs c (levels_of cs) (readied ix cs b) (readied-height ix cs b (levels_of cs) (le_refl (levels_of cs))))
  weigh-height ix (Query.range r) b c = zero-le
  weigh-height ix Query.match_all b c = zero-le
  weigh-height ix (Query.constant_score t) b c = le_trans (weigh-height ix t _ _) (omega arith)
  weigh-height ix (Query.boost v t) b c = le_trans (weigh-height ix t _ _) (omega arith)
  weigh-height ix Query.match_none b c = zero-le

  readied-height : (ix : Index) (cs : Clauses) (b : Float) (n : ℕ) → levels_of cs ≤ n → Every (Low n) (readied ix cs b)
  readied-height ix empty b n h = tt
  readied-height ix (clause o t cs) b n h = let i = weigh-height ix t (passed o b) none in (omega (arith, i, h), readied-height ix cs b n (omega (arith, h)))
