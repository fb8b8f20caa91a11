-- The weights and constant scores of a scorer tree are binary32 values from 0 to 2 ^ 29. Assumes nothing.
use mathlib.Core.Path.{◌≡◌}
use mathlib.Core.Bool.{Bool, true, false, cond}
use mathlib.Core.List.{List, [], ◌∷◌, map}
use mathlib.Core.Option.{Option, none, some}
use Prim.Native.Nat.{ℕ, ◌^◌, ◌≤◌, ◌<◌}
use native.Mathlib.Omega.{arith}
use lib.Dec.{T, lit≤}
use lib.ListN.{length, length-map}
use lib.Ieee.{Float, binary32, fits, of_bits}
use lib.Ieee.Fits.{mul-fits}
use lib.Ieee.Bits.{of_bits-fits}
use Rattle.meaning.specs.Limits.{largest_boost}
use Rattle.meaning.specs.Lent.{Index, leaf_count, leaf_idf}
use Rattle.meaning.specs.Ieee754.{zero_float}
use Rattle.meaning.specs.Bm25.{one, weight}
use Rattle.meaning.specs.Phrase.{PhraseTerm}
use Rattle.meaning.specs.Query
use Rattle.meaning.specs.Query.{Occur, must, should, must_not, filter, is_required, is_should, is_must_not, Tree, Clauses, empty, clause}
use Rattle.meaning.specs.Scorer.{has_scorer}
use Rattle.meaning.specs.Score.{phrase_idf, boosted, passed}
use Rattle.meaning.specs.QueryRefusals.{above_limit, carries_above, clauses_above}
use Rattle.meaning.proofs.Tests.{or_left, or_right}
use Rattle.ieee754.proofs.Successor.{zero-fits}
use Rattle.query.proofs.Above.{within-here}
use Rattle.ieee754.specs.Nonneg.{sign_clear, AtMost}
use Rattle.ieee754.proofs.Patterns.{pattern-clear}
use Rattle.ieee754.proofs.Ranges.{mul-clear}
use Rattle.ieee754.proofs.Bounds.{atmost-more, zero-atmost}
use Rattle.ieee754.proofs.Sums.{Each, each_none, each-one}
use Rattle.sim.proofs.ScoreBounds.{boost-atmost, idf-atmost, carried-atmost, weight-atmost, phrase-idf-atmost, phrase-weight-atmost}
use Rattle.index.specs.Accepted.{Accepted}
use Rattle.tree_weight.specs.ScorerTree.{term, phrase, Scoring, constant, weighted, Scorer, leaf, boolean, Scorers, end, more}
use Rattle.tree_weight.specs.Weigh.{Ready, cheapest_first, chosen, scorers_of, boolean_of, kept_or_boost, scoring_at, no_scorer, weigh, readied}
use Rattle.tree_weight.specs.Sound.{EachTerm, LeafSound}
use Rattle.tree_weight.proofs.Ready.{Every, every-sorted, every-chosen}
use Rattle.tree_weight.proofs.Sounds.{TreeSound, TreeSounds}

-- ---- what `FloatIs` in Held.antt asks of a float, but for its bits
pub record Fine (x : Float) : Type 0 where
  pub held : T (fits binary32 x)
  pub small : AtMost (2 ^ 29) x

abbrev pub ScoringFine : Scoring → Type 0
ScoringFine (constant c) = Fine c
ScoringFine (weighted w) = Fine w

abbrev pub KeptFine : Option Float → Type 0
KeptFine none = Unit
KeptFine (some c) = Fine c

unfoldable mutual
  -- every weight and constant score of the tree is fine
  pub Weighted : Scorer → Type 0
  Weighted (leaf l s) = ScoringFine s
  Weighted (boolean c j need rs os ps) = KeptFine c × WeightedAll rs × WeightedAll os × WeightedAll ps

  pub WeightedAll : Scorers → Type 0
  WeightedAll end = Unit
  WeightedAll (more b s ss) = Weighted s × WeightedAll ss

-- ---- a boost that reaches a node
pub record Carried (b : Float) : Type 0 where
  pub held : T (fits binary32 b)
  pub clear : T (sign_clear b)

carried_here : (t : Tree) (b : Float) → Carried b → carries_above t b ≡ false → AtMost (2 ^ 16) b
carried_here t b r e = carried-atmost b r.clear (within-here t b e)

carried-zero : Carried zero_float
carried-zero = record { held = zero-fits; clear = tt }

pub carried-one : Carried one
carried-one = record { held = of_bits-fits binary32 0x3f80_0000; clear = pattern-clear 0x3f80_0000 (lit≤ tt) }

carried-passed : (o : Occur) (b : Float) → Carried b → Carried (passed o b)
carried-passed must b r = r
carried-passed should b r = r
carried-passed must_not b r = carried-zero
carried-passed filter b r = carried-zero

carried-boosted : (b : Float) (v : ℕ) → AtMost (2 ^ 16) b → v ≤ largest_boost → Carried (boosted b v)
carried-boosted b v i h =
    record { held = mul-fits binary32 b (of_bits binary32 v); clear = mul-clear binary32 b (of_bits binary32 v) i.sign (boost-atmost v h).sign }

-- ---- fine floats
fine-zero : Fine zero_float
fine-zero = record { held = zero-fits; small = zero-atmost (2 ^ 29) }

fine-kept : (c : Option Float) (b : Float) → KeptFine c → T (fits binary32 b) → AtMost (2 ^ 16) b → Fine (kept_or_boost c b)
fine-kept none b k h i = record { held = h; small = atmost-more (lit≤ tt) i }
fine-kept (some c) b k h i = k

fine-scoring : (c : Option Float) (w : Float) → KeptFine c → Fine w → ScoringFine (scoring_at c w)
fine-scoring none w k h = h
fine-scoring (some c) w k h = k

fine-term : (b idf : Float) → AtMost (2 ^ 16) b → AtMost (2 ^ 6) idf → Fine (weight b idf)
fine-term b idf i j = record { held = mul-fits binary32 b idf; small = atmost-more (lit≤ tt) (weight-atmost b idf i j) }

fine-phrase : (b idf : Float) → AtMost (2 ^ 16) b → AtMost (2 ^ 11) idf → Fine (weight b idf)
fine-phrase b idf i j = record { held = mul-fits binary32 b idf; small = atmost-more (lit≤ tt) (phrase-weight-atmost b idf i j) }

-- ---- the tree
abbrev pub ReadyWeighted : Ready → Type 0
ReadyWeighted r = Weighted r.scorer

weighted-all : (rs : List Ready) → Every ReadyWeighted rs → WeightedAll (scorers_of rs)
unfolding WeightedAll scorers_of Every
weighted-all [] e = tt
weighted-all (r ∷ rs) e = (e.0, weighted-all rs e.1)

boolean-weighted : (ix : Index) (msm : ℕ) (cs : Clauses) (c : Option Float) (rs : List Ready) → KeptFine c → Every ReadyWeighted rs → Weighted (boolean_of ix msm cs c rs)
unfolding Weighted boolean_of
boolean-weighted ix msm cs c rs k e =
    (k, weighted-all (cheapest_first (chosen is_required rs)) (every-sorted ReadyWeighted (chosen is_required rs) (every-chosen ReadyWeighted is_required rs e)), weighted-all (chosen is_should rs) (every-chosen ReadyWeighted is_should rs e), weighted-all (chosen is_must_not rs) (every-chosen ReadyWeighted is_must_not rs e))

-- a scorer, or none
either : (h : Bool) (s : Scorer) → Weighted s → Weighted (cond h s no_scorer)
unfolding Weighted
either true s a = a
either false s a = fine-zero

module _ (ix : Index) (places : ℕ) (accepted : Accepted ix) where
  idf-small : (l : ℕ) → l < leaf_count ix → AtMost (2 ^ 6) (of_bits binary32 (leaf_idf ix l))
  idf-small l h = idf-atmost (leaf_idf ix l) (accepted.leaf l h).idf

  idfs-small : (f : ℕ) (ts : List PhraseTerm) → EachTerm ix f places ts → Each (2 ^ 6) (map (λ t. of_bits binary32 (leaf_idf ix t.leaf)) ts)
  unfolding EachTerm
  idfs-small f [] e = each_none
  idfs-small f (t ∷ ts) e = each-one (idf-small t.leaf e.0.leaf-there) (idfs-small f ts e.1)

  phrase-idf-small : (f : ℕ) (ts : List PhraseTerm) → EachTerm ix f places ts → length ts ≤ 32 → AtMost (2 ^ 11) (phrase_idf ix ts)
  unfolding phrase_idf
  phrase-idf-small f ts e h =
      let g : PhraseTerm → Float = λ t. of_bits binary32 (leaf_idf ix t.leaf) in
      let n = length-map ts g in
      phrase-idf-atmost (map g ts) (idfs-small f ts e) (omega (arith, n, h))

  mutual
    unfolding weigh readied TreeSound LeafSound carries_above Weighted Every

    -- THE theorem: of a tree whose boosts 9 lets through, at a boost that reaches it, with the score that it has
    -- already, if any
    pub weigh-weighted : (t : Tree) (b : Float) (c : Option Float) → TreeSound ix places t → carries_above t b ≡ false → Carried b → KeptFine c → Weighted (weigh ix t b c)
    weigh-weighted (Query.term l) b c h e r k =
        let w = weight b (of_bits binary32 (leaf_idf ix l)) in
        either (has_scorer ix (Query.term l)) (leaf (term l) (scoring_at c w)) (fine-scoring c w k (fine-term b (of_bits binary32 (leaf_idf ix l)) (carried_here (Query.term l) b r e) (idf-small l h)))
    weigh-weighted (Query.phrase f ts) b c h e r k =
        let w = weight b (phrase_idf ix ts) in
        either (has_scorer ix (Query.phrase f ts)) (leaf (phrase f ts) (scoring_at c w)) (fine-scoring c w k (fine-phrase b (phrase_idf ix ts) (carried_here (Query.phrase f ts) b r e) (phrase-idf-small f ts h.4 h.3)))
    weigh-weighted (Query.boolean msm cs) b c h e r k =
        either (has_scorer ix (Query.boolean msm cs)) (boolean_of ix msm cs c (readied ix cs b)) (boolean-weighted ix msm cs c (readied ix cs b) k (readied-weighted cs b h (or_right (above_limit b) (clauses_above cs b) e) r))
    weigh-weighted (Query.range g) b c h e r k = fine-kept c b k r.held (carried_here (Query.range g) b r e)
    weigh-weighted Query.match_all b c h e r k = fine-kept c b k r.held (carried_here Query.match_all b r e)
    weigh-weighted (Query.constant_score t) b c h e r k =
        weigh-weighted t zero_float (some (kept_or_boost c b)) h (or_right (above_limit b) (carries_above t zero_float) e) carried-zero (fine-kept c b k r.held (carried_here (Query.constant_score t) b r e))
    weigh-weighted (Query.boost v t) b c h e r k =
        weigh-weighted t (boosted b v) c h.1 (or_right (above_limit b) (carries_above t (boosted b v)) e) (carried-boosted b v (carried_here (Query.boost v t) b r e) h.0) k
    weigh-weighted Query.match_none b c h e r k = fine-zero

    pub readied-weighted : (cs : Clauses) (b : Float) → TreeSounds ix places cs → clauses_above cs b ≡ false → Carried b → Every ReadyWeighted (readied ix cs b)
    readied-weighted empty b h e r = tt
    readied-weighted (clause o t cs) b h e r =
        (weigh-weighted t (passed o b) none h.0 (or_left (carries_above t (passed o b)) (clauses_above cs b) e) (carried-passed o b r) tt, readied-weighted cs b h.1 (or_right (carries_above t (passed o b)) (clauses_above cs b) e) r)
