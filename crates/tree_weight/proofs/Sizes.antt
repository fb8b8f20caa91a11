-- The words and the nodes of a scorer tree, by the records of its query's tree. Assumes nothing.
use mathlib.Core.Path.{◌≡◌, refl, sym, ap, ◌∙◌}
use mathlib.Core.Bool.{Bool, true, false, cond}
use mathlib.Core.List.{List, [], ◌∷◌}
use mathlib.Core.Option.{Option, none}
use Prim.Native.Nat.{ℕ, zero-le, ◌+◌, ◌*◌, ◌≤◌}
use native.Mathlib.Nat.{le_refl, le_trans, le_of_eq, mul-one, mul-add}
use native.Mathlib.Omega.{arith}
use lib.ListN.{length}
use lib.Ieee.{Float, binary32, of_bits}
use Rattle.meaning.specs.Limits.{node_state_words}
use Rattle.meaning.specs.Lent.{Index, leaf_idf}
use Rattle.meaning.specs.Ieee754.{zero_float}
use Rattle.meaning.specs.Bm25.{weight}
use Rattle.meaning.specs.Query
use Rattle.meaning.specs.Query.{is_required, is_should, is_must_not, Tree, Clauses, empty, clause}
use Rattle.meaning.specs.Scorer.{has_scorer}
use Rattle.meaning.specs.Score.{phrase_idf, passed}
use Rattle.tree_weight.specs.ScorerTree.{Leaf, nothing, term, phrase, range, everything, Scoring, constant, Scorer, leaf, Scorers}
use Rattle.tree_weight.specs.Weigh.{Ready, cheapest_first, chosen, scorers_of, boolean_of, kept_or_boost, scoring_at, no_scorer, weigh, readied}
use Rattle.tree_weight.specs.State.{leaf_size, size_of, sizes_of}
use Rattle.tree_weight.specs.Sound.{nodes, nodes_of}
use Rattle.tree_weight.proofs.Ready.{total, total-sorted, total-chosen}

-- how many records of a query a tree stands for: one for each node and each term of a phrase
unfoldable mutual
  pub records : Tree → ℕ
  records (Query.term l) = 1
  records (Query.phrase f ts) = 1 + length ts
  records (Query.boolean msm cs) = 1 + records_of cs
  records (Query.range r) = 1
  records Query.match_all = 1
  records (Query.constant_score t) = 1 + records t
  records (Query.boost v t) = 1 + records t
  records Query.match_none = 1

  pub records_of : Clauses → ℕ
  records_of empty = 0
  records_of (clause o t cs) = records t + records_of cs

-- ---- what is at most k for each record of a leaf, and for a Boolean k more than what its clauses have
abbrev leaf_records : Leaf → ℕ
leaf_records nothing = 1
leaf_records (term l) = 1
leaf_records (phrase f ts) = 1 + length ts
leaf_records (range r) = 1
leaf_records everything = 1

module _ (f : Scorer → ℕ) (k : ℕ) (leaf-most : (l : Leaf) (s : Scoring) → f (leaf l s) ≤ k * leaf_records l) (boolean-most : (ix : Index) (msm : ℕ) (cs : Clauses) (c : Option Float) (rs : List Ready) → f (boolean_of ix msm cs c rs) ≤ k + total f rs) where
  one_more : (n : ℕ) → k * (1 + n) ≡ k + k * n
  one_more n = mul-add k 1 n ∙ ap (λ (z : ℕ). z + k * n) (mul-one k)

  alone : f no_scorer ≤ k
  alone = le_trans (leaf-most nothing (constant zero_float)) (le_of_eq (mul-one k))

  -- a scorer, or none
  either : (n : ℕ) (h : Bool) (s : Scorer) → f s ≤ n → k ≤ n → f (cond h s no_scorer) ≤ n
  either n true s a e = a
  either n false s a e = le_trans alone e

  mutual
    unfolding weigh readied records total

    weigh-most : (ix : Index) (t : Tree) (b : Float) (c : Option Float) → f (weigh ix t b c) ≤ k * records t
    weigh-most ix (Query.term l) b c =
        let w = scoring_at c (weight b (of_bits binary32 (leaf_idf ix l))) in
        either (k * 1) (has_scorer ix (Query.term l)) (leaf (term l) w) (leaf-most (term l) w) (le_of_eq (sym (mul-one k)))
    weigh-most ix (Query.phrase g ts) b c =
        let w = scoring_at c (weight b (phrase_idf ix ts)) in
        let e = one_more (length ts) in
        either (k * (1 + length ts)) (has_scorer ix (Query.phrase g ts)) (leaf (phrase g ts) w) (leaf-most (phrase g ts) w) (omega (arith, e))
    weigh-most ix (Query.boolean msm cs) b c =
        let i = readied-most ix cs b in
        let h = boolean-most ix msm cs c (readied ix cs b) in
        let e = one_more (records_of cs) in
        either (k * (1 + records_of cs)) (has_scorer ix (Query.boolean msm cs)) (boolean_of ix msm cs c (readied ix cs b)) (omega (arith, i, h, e)) (omega (arith, e))
    weigh-most ix (Query.range r) b c = leaf-most (range r) (constant (kept_or_boost c b))
    weigh-most ix Query.match_all b c = leaf-most everything (constant (kept_or_boost c b))
    weigh-most ix (Query.constant_score t) b c = let e = one_more (records t) in le_trans (weigh-most ix t _ _) (omega (arith, e))
    weigh-most ix (Query.boost v t) b c = let e = one_more (records t) in le_trans (weigh-most ix t _ _) (omega (arith, e))
    weigh-most ix Query.match_none b c = leaf-most nothing (constant zero_float)

    readied-most : (ix : Index) (cs : Clauses) (b : Float) → total f (readied ix cs b) ≤ k * records_of cs
    readied-most ix empty b = zero-le
    readied-most ix (clause o t cs) b =
        let i = weigh-most ix t (passed o b) none in
        let j = readied-most ix cs b in
        let e = mul-add k (records t) (records_of cs) in
        omega (arith, i, j, e)

-- the three lists of a Boolean have together at most what its clauses have
parts-total : (f : Scorer → ℕ) (fs : Scorers → ℕ) (k : ℕ) → ((rs : List Ready) → fs (scorers_of rs) ≡ total f rs) → (rs : List Ready) → k + (fs (scorers_of (cheapest_first (chosen is_required rs))) + (fs (scorers_of (chosen is_should rs)) + fs (scorers_of (chosen is_must_not rs)))) ≤ k + total f rs
parts-total f fs k all rs =
    let a = all (cheapest_first (chosen is_required rs)) in
    let s = total-sorted f (chosen is_required rs) in
    let o = all (chosen is_should rs) in
    let p = all (chosen is_must_not rs) in
    let h = total-chosen f rs in
    omega (arith, a, s, o, p, h)

-- ---- the words
sizes-total : (rs : List Ready) → sizes_of (scorers_of rs) ≡ total size_of rs
unfolding sizes_of scorers_of total
sizes-total [] = refl
sizes-total (r ∷ rs) = let i = sizes-total rs in omega (arith, i)

leaf-size : (l : Leaf) (s : Scoring) → size_of (leaf l s) ≤ node_state_words * leaf_records l
unfolding size_of leaf_size
leaf-size nothing s = le_refl node_state_words
leaf-size (term l) s = le_refl node_state_words
leaf-size (phrase f ts) s = omega arith
leaf-size (range r) s = le_refl node_state_words
leaf-size everything s = le_refl node_state_words

boolean-size : (ix : Index) (msm : ℕ) (cs : Clauses) (c : Option Float) (rs : List Ready) → size_of (boolean_of ix msm cs c rs) ≤ node_state_words + total size_of rs
unfolding size_of boolean_of
boolean-size ix msm cs c rs = parts-total size_of sizes_of node_state_words sizes-total rs

-- THE theorem: `node_state_words` words for each record suffice
pub weigh-size : (ix : Index) (t : Tree) (b : Float) (c : Option Float) → size_of (weigh ix t b c) ≤ node_state_words * records t
weigh-size = weigh-most size_of node_state_words leaf-size boolean-size

pub readied-size : (ix : Index) (cs : Clauses) (b : Float) → total size_of (readied ix cs b) ≤ node_state_words * records_of cs
readied-size = readied-most size_of node_state_words leaf-size boolean-size

-- ---- the nodes
nodes-total : (rs : List Ready) → nodes_of (scorers_of rs) ≡ total nodes rs
unfolding nodes_of scorers_of total
nodes-total [] = refl
nodes-total (r ∷ rs) = let i = nodes-total rs in omega (arith, i)

leaf-nodes : (l : Leaf) (s : Scoring) → nodes (leaf l s) ≤ 1 * leaf_records l
unfolding nodes
leaf-nodes nothing s = le_refl 1
leaf-nodes (term l) s = le_refl 1
leaf-nodes (phrase f ts) s = omega arith
leaf-nodes (range r) s = le_refl 1
leaf-nodes everything s = le_refl 1

boolean-nodes : (ix : Index) (msm : ℕ) (cs : Clauses) (c : Option Float) (rs : List Ready) → nodes (boolean_of ix msm cs c rs) ≤ 1 + total nodes rs
unfolding nodes boolean_of
boolean-nodes ix msm cs c rs = parts-total nodes nodes_of 1 nodes-total rs

-- THE theorem: a sum of scores has at most as many of them as the query has records
pub weigh-nodes : (ix : Index) (t : Tree) (b : Float) (c : Option Float) → nodes (weigh ix t b c) ≤ records t
weigh-nodes ix t b c = let h = weigh-most nodes 1 leaf-nodes boolean-nodes ix t b c in omega (arith, h)
