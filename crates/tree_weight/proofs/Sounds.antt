-- A scorer tree is sound where its query's tree names what is there. Assumes nothing.
use mathlib.Core.Bool.{Bool, true, false, cond}
use mathlib.Core.List.{List, [], ◌∷◌}
use mathlib.Core.Option.{Option, none}
use Prim.Native.Nat.{ℕ, ◌≤◌}
use lib.Ieee.{Float, binary32, of_bits}
use Rattle.meaning.specs.Limits.{largest_boost}
use Rattle.meaning.specs.Lent.{Index, leaf_idf}
use Rattle.meaning.specs.Bm25.{weight}
use Rattle.meaning.specs.Query
use Rattle.meaning.specs.Query.{is_required, is_should, is_must_not, Tree, Clauses, empty, clause}
use Rattle.meaning.specs.Scorer.{has_scorer}
use Rattle.meaning.specs.Score.{phrase_idf, passed}
use Rattle.tree_weight.specs.ScorerTree.{term, phrase, Scorer, leaf}
use Rattle.tree_weight.specs.Weigh.{Ready, cheapest_first, chosen, scorers_of, boolean_of, scoring_at, no_scorer, weigh, readied}
use Rattle.tree_weight.specs.Sound.{LeafSound, Sound, Sounds}
use Rattle.tree_weight.proofs.Ready.{Every, every-sorted, every-chosen}

-- what refusals 7, 8, 10 and 12 let through, said of the tree: its leaves are there, its phrases good with so many
-- places, its boosts within their limit
unfoldable mutual
  pub TreeSound : Index → ℕ → Tree → Type 0
  TreeSound ix places (Query.term l) = LeafSound ix places (term l)
  TreeSound ix places (Query.phrase f ts) = LeafSound ix places (phrase f ts)
  TreeSound ix places (Query.boolean msm cs) = TreeSounds ix places cs
  TreeSound ix places (Query.range r) = Unit
  TreeSound ix places Query.match_all = Unit
  TreeSound ix places (Query.constant_score t) = TreeSound ix places t
  TreeSound ix places (Query.boost v t) = (v ≤ largest_boost) × TreeSound ix places t
  TreeSound ix places Query.match_none = Unit

  pub TreeSounds : Index → ℕ → Clauses → Type 0
  TreeSounds ix places empty = Unit
  TreeSounds ix places (clause o t cs) = TreeSound ix places t × TreeSounds ix places cs

module _ (ix : Index) (places : ℕ) where
  abbrev pub ReadySound : Ready → Type 0
  ReadySound r = Sound ix places r.scorer

  sounds : (rs : List Ready) → Every ReadySound rs → Sounds ix places (scorers_of rs)
  unfolding Sounds scorers_of Every
  sounds [] e = tt
  sounds (r ∷ rs) e = (e.0, sounds rs e.1)

  boolean-sound : (msm : ℕ) (cs : Clauses) (c : Option Float) (rs : List Ready) → Every ReadySound rs → Sound ix places (boolean_of ix msm cs c rs)
  unfolding Sound boolean_of
  boolean-sound msm cs c rs e =
      (sounds (cheapest_first (chosen is_required rs)) (every-sorted ReadySound (chosen is_required rs) (every-chosen ReadySound is_required rs e)), sounds (chosen is_should rs) (every-chosen ReadySound is_should rs e), sounds (chosen is_must_not rs) (every-chosen ReadySound is_must_not rs e))

  -- a scorer, or none
  either : (h : Bool) (s : Scorer) → Sound ix places s → Sound ix places (cond h s no_scorer)
  unfolding Sound LeafSound
  either true s a = a
  either false s a = tt

  mutual
    unfolding weigh readied TreeSound Sound LeafSound Every

    -- THE theorem
    pub weigh-sound : (t : Tree) (b : Float) (c : Option Float) → TreeSound ix places t → Sound ix places (weigh ix t b c)
    weigh-sound (Query.term l) b c h = either (has_scorer ix (Query.term l)) (leaf (term l) (scoring_at c (weight b (of_bits binary32 (leaf_idf ix l))))) h
    weigh-sound (Query.phrase f ts) b c h = either (has_scorer ix (Query.phrase f ts)) (leaf (phrase f ts) (scoring_at c (weight b (phrase_idf ix ts)))) h
    weigh-sound (Query.boolean msm cs) b c h = either (has_scorer ix (Query.boolean msm cs)) (boolean_of ix msm cs c (readied ix cs b)) (boolean-sound msm cs c (readied ix cs b) (readied-sound cs b h))
    weigh-sound (Query.range r) b c h = tt
    weigh-sound Query.match_all b c h = tt
    weigh-sound (Query.constant_score t) b c h = weigh-sound t _ _ h
    weigh-sound (Query.boost v t) b c h = weigh-sound t _ _ h.1
    weigh-sound Query.match_none b c h = tt

    pub readied-sound : (cs : Clauses) (b : Float) → TreeSounds ix places cs → Every ReadySound (readied ix cs b)
    readied-sound empty b h = tt
    readied-sound (clause o t cs) b h = (weigh-sound t (passed o b) none h.0, readied-sound cs b h.1)
