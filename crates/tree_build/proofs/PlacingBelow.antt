-- The tree below a ConstantScore or a Boost, which have no record of their own: what is asked of it, and that its part is theirs. Assumes nothing.
use mathlib.Core.Path.{◌≡◌, refl, sym, ◌∙◌, ap, subst}
use mathlib.Core.Bool.{Bool, true, false, cond, not}
use mathlib.Core.List.{List}
use Prim.Native.Nat.{ℕ, ◌+◌, ◌-◌, ◌≤◌, ◌<◌}
use native.Mathlib.Omega.{arith}
use lib.Dec.{T}
use lib.ListN.{take}
use lib.Ieee.{Float, binary32, of_bits, nan_bits}
use Rattle.meaning.specs.Limits.{largest_boost}
use Rattle.meaning.specs.Lent.{Index}
use Rattle.meaning.specs.Ieee754.{zero_float}
use Rattle.meaning.specs.Query.{record_count, record_kind, record_value, Tree, Decoded}
use Rattle.meaning.specs.QueryRefusals.{carries_above}
use Rattle.meaning.specs.Score.{boosted}
use Rattle.ieee754.specs.Nonneg.{sign_clear}
use Rattle.ieee754.proofs.Ranges.{mul-clear}
use Rattle.sim.proofs.ScoreBounds.{boost-atmost}
use Rattle.query.proofs.Above.{within-constant, within-boost, boost-number}
use Rattle.query.proofs.Accepted.{boost-within}
use Rattle.query.proofs.Inverse.{constant-at, boost-at}
use Rattle.window_words.specs.Windowed.{nowhere}
use Rattle.window_words.proofs.Unasked.{windowed-deeper}
use Rattle.tree_weight.proofs.Standing.{deep}
use Rattle.tree_weight.specs.ScorerTree.{Scorer}
use Rattle.tree_weight.specs.State.{size_of}
use Rattle.tree_weight.specs.Weigh.{weigh}
use Rattle.tree_words.specs.Placed.{Placed, kept_of}
use Rattle.tree_words.specs.Prepared.{GivenRecords, Prepared, TreeAsked, TreePre, TreePost}
use Rattle.tree_words.proofs.AtRecord.{at_here, boost-small, score-small}
use Rattle.tree_words.proofs.Weighing.{weigh-constant, weigh-boost}

-- the code's 0.0
zero_bits : of_bits binary32 0 ≡ zero_float
unfolding of_bits
zero_bits = refl

-- a part that is placed with some levels left is placed with more
placed-deeper : (ix : Index) (ranges : List ℕ) (s : Scorer) (d e scores r : ℕ) (words : List ℕ) → d ≤ e → Placed ix ranges s d scores r words → Placed ix ranges s e scores r words
placed-deeper ix ranges s d e scores r words h p = record { size_is = p.size_is; within = p.within; held = windowed-deeper ix ranges s d e scores (take r words) 0 0 nowhere h p.held }

-- the tree one record after, with what reaches it: its scorer is the same
record Below (ix : Index) (q : List ℕ) (k at : ℕ) (D : Decoded) (fixed : Bool) (kept boost : Float) (fixed' : Bool) (kept' boost' : Float) (words : ℕ) : Type 0 where
  child : Decoded
  asked : TreeAsked ix q (k - 1) (at + 1) child fixed' kept' boost' words
  scorer-is : weigh ix D.tree boost (kept_of fixed kept) ≡ weigh ix child.tree boost' (kept_of fixed' kept')

module _ {E : GivenRecords} {at : ℕ} {fixed : Bool} {kept boost : Float} {words depth : ℕ} (pre : TreePre E at fixed kept boost words depth) where
  module _ (fixed' : Bool) (kept' boost' : Float) (below : (ranges : List ℕ) (k : ℕ) (D : Decoded) → Prepared E ranges → TreeAsked E.index E.query k at D fixed kept boost words → Below E.index E.query k at D fixed kept boost fixed' kept' boost' words) where
    below-asked : TreePre E (at + 1) fixed' kept' boost' words (depth - 1)
    below-asked =
        let b = below pre.0 pre.1 pre.2 pre.3 pre.4 in
        let levels = pre.5 in
        (pre.0, pre.1 - 1, b.child, pre.3, b.asked, omega (arith, levels))

    below-placed : {scores r : ℕ} {states : List ℕ} → TreePost E (at + 1) fixed' kept' boost' words (depth - 1) scores r states → TreePost E at fixed kept boost words depth scores r states
    below-placed {scores} {r} {states} post ranges k D p a levels =
        let b = below ranges k D p a in
        rw b.scorer-is
        (placed-deeper E.index ranges (weigh E.index b.child.tree boost' (kept_of fixed' kept')) (depth - 1) depth scores r states (omega arith) (post ranges (k - 1) b.child p b.asked (omega (arith, levels))))

  -- ---- a ConstantScore: below it the boost is 0, and its score is kept
  module _ (kind : record_kind E.query at ≡ 6) {score : Float} (score-is : score ≡ cond fixed kept boost) where
    constant-below : (ranges : List ℕ) (k : ℕ) (D : Decoded) → Prepared E ranges → TreeAsked E.index E.query k at D fixed kept boost words → Below E.index E.query k at D fixed kept boost true score (of_bits binary32 0) words
    constant-below ranges k D p a =
        let q = E.query in
        let c = constant-at q (k - 1) at D (deep q k at D a.decoded) kind in
        let same : weigh E.index D.tree boost (kept_of fixed kept) ≡ weigh E.index c.child.tree (of_bits binary32 0) (kept_of true score) =
        ap (λ (t : Tree). weigh E.index t boost (kept_of fixed kept)) c.tree_is
        ∙ weigh-constant E.index boost kept fixed c.child.tree
        ∙ ap (λ (z : Float). weigh E.index c.child.tree zero_float (kept_of true z)) (sym score-is)
        ∙ ap (λ (z : Float). weigh E.index c.child.tree z (kept_of true score)) (sym zero_bits) in
        let sized = ap size_of same in
        let room = a.room in
        record {
          child = c.child;
          asked = record {
            decoded = c.decoded;
            within = subst (λ (z : Float). carries_above c.child.tree z ≡ false) (sym zero_bits) (within-constant c.child.tree boost (subst (λ (t : Tree). carries_above t boost ≡ false) c.tree_is a.within));
            boost-clear = subst (λ (z : Float). T (sign_clear z)) (sym zero_bits) tt;
            kept_small = score-small E ranges k at D fixed kept boost words p a score score-is;
            room = omega (arith, sized, room);
          };
          scorer-is = same;
        }

    pub constant-asked : TreePre E (at + 1) true score (of_bits binary32 0) words (depth - 1)
    constant-asked = below-asked true score (of_bits binary32 0) constant-below

    pub constant-placed : {scores r : ℕ} {states : List ℕ} → TreePost E (at + 1) true score (of_bits binary32 0) words (depth - 1) scores r states → TreePost E at fixed kept boost words depth scores r states
    constant-placed = below-placed true score (of_bits binary32 0) constant-below

  -- ---- a Boost: its value is in the boost below it
  module _ (kind : record_kind E.query at ≡ 7) {value : ℕ} (value-is : value ≡ record_value E.query at 0) where
    value-within : {ranges : List ℕ} → Prepared E ranges → at < record_count E.query → value ≤ largest_boost
    value-within p here = subst (λ (z : ℕ). z ≤ largest_boost) (sym value-is) (boost-within E.index E.query p.asks.values-right at here kind)

    boost-below : (ranges : List ℕ) (k : ℕ) (D : Decoded) → Prepared E ranges → TreeAsked E.index E.query k at D fixed kept boost words → Below E.index E.query k at D fixed kept boost fixed kept (boosted boost value) words
    boost-below ranges k D p a =
        let q = E.query in
        let c = boost-at q (k - 1) at D (deep q k at D a.decoded) kind in
        let same : weigh E.index D.tree boost (kept_of fixed kept) ≡ weigh E.index c.child.tree (boosted boost value) (kept_of fixed kept) =
        ap (λ (t : Tree). weigh E.index t boost (kept_of fixed kept)) c.tree_is
        ∙ weigh-boost E.index boost fixed kept (record_value q at 0) c.child.tree
        ∙ ap (λ (z : ℕ). weigh E.index c.child.tree (boosted boost z) (kept_of fixed kept)) (sym value-is) in
        let sized = ap size_of same in
        let room = a.room in
        let most = boost-small E ranges k at D fixed kept boost words p a in
        let small = value-within p (at_here E ranges k at D fixed kept boost words p a) in
        record {
          child = c.child;
          asked = record {
            decoded = c.decoded;
            within = subst (λ (z : ℕ). carries_above c.child.tree (boosted boost z) ≡ false) (sym value-is) (within-boost (record_value q at 0) c.child.tree boost (subst (λ (t : Tree). carries_above t boost ≡ false) c.tree_is a.within));
            boost-clear = mul-clear binary32 boost (of_bits binary32 value) most.sign (boost-atmost value small).sign;
            kept_small = a.kept_small;
            room = omega (arith, sized, room);
          };
          scorer-is = same;
        }

    pub boost-asked : TreePre E (at + 1) fixed kept (boosted boost value) words (depth - 1)
    boost-asked = below-asked fixed kept (boosted boost value) boost-below

    pub boost-placed : {scores r : ℕ} {states : List ℕ} → TreePost E (at + 1) fixed kept (boosted boost value) words (depth - 1) scores r states → TreePost E at fixed kept boost words depth scores r states
    boost-placed = below-placed fixed kept (boosted boost value) boost-below

    -- its value is a number
    pub boost-number-here : T (not (nan_bits binary32 value))
    boost-number-here = boost-number value (value-within pre.3 (at_here E pre.0 pre.1 at pre.2 fixed kept boost words pre.3 pre.4))
