-- Words that hold a scorer tree with some levels left hold it with more, as below a Boost or a ConstantScore, which
-- have no record. Assumes nothing.
use mathlib.Core.Bool.{cond}
use mathlib.Core.List.{List}
use Prim.Native.Nat.{ℕ, ◌-◌, ◌≤◌, max}
use native.Mathlib.Omega.{arith}
use Rattle.meaning.specs.Lent.{Index}
use Rattle.tree_weight.specs.ScorerTree.{Scorer, leaf, boolean, Scorers, end, more}
use Rattle.tree_weight.specs.Held.{Ok, Oks}

module _ (ix : Index) (ranges : List ℕ) where
  mutual
    unfolding Ok

    -- THE theorem
    pub ok-deeper : (T : Scorer) (d e scores : ℕ) (y : List ℕ) (b : ℕ) → d ≤ e → Ok ix ranges T d scores y b → Ok ix ranges T e scores y b
    ok-deeper (leaf l s) d e scores y b h o = o
    ok-deeper (boolean c j need rs os ps) d e scores y b h o =
        let below = max b (o.0.cached - 1) in
        let some_left = o.6 in
        (o.0, o.1, o.2, o.3, o.4, o.5, omega (arith, some_left, h), o.7, o.8, oks-deeper rs (d - 1) (e - 1) o.1 below (omega (arith, h)) o.9, oks-deeper os (d - 1) (e - 1) o.2 below (omega (arith, h)) o.10, oks-deeper ps (d - 1) (e - 1) o.3 below (omega (arith, h)) o.11)

    pub oks-deeper : (ss : Scorers) (d e : ℕ) (w : List ℕ) (b : ℕ) → d ≤ e → Oks ix ranges ss d w b → Oks ix ranges ss e w b
    oks-deeper end d e w b h o = o
    oks-deeper (more f s ss) d e w b h o = (o.0, o.1, o.2, ok-deeper s d e (cond f 1 0) o.0 b h o.3, oks-deeper ss d e o.1 b h o.4)
