-- A score that is the same for every document, or None. Assumes nothing.
use mathlib.Core.Path.{◌≡◌, refl, sym, ap, ◌∙◌}
use mathlib.Core.Bool.{Bool, true, false, cond, false≢true}
use Rattle.std.specs.Prelude.{Option, Some, None}
use lib.Dec.{eqb}
use lib.Ieee.{Float, binary32, of_bits}
use borrow.Author.Tests.{eq-eqb}
use Rattle.std.proofs.Common.{eqb-true}
use Rattle.score_leaf.specs.declared.ScoreNode.{ScoreNode}
use Rattle.score_leaf.specs.Words.{constant_score}

held_or : Float → Option Float → Float
held_or d None = d
held_or d (Some x) = x

is-there : Option Float → Bool
is-there None = false
is-there (Some x) = true

taken : (b : Bool) (x y : Float) → Some x ≡ cond b (Some y) None → (b ≡ true) × (x ≡ y)
unfolding held_or is-there
taken true x y e = (refl, ap (held_or x) e)
taken false x y e = absurd (false≢true (sym (ap is-there e)))

not-taken : (b : Bool) (y : Float) → None ≡ cond b (Some y) None → b ≡ false
unfolding is-there
not-taken true y e = absurd (false≢true (ap is-there e))
not-taken false y e = refl

pub constant-some : (n : ScoreNode) (x : Float) → Some x ≡ constant_score n → (n.constant ≡ 1) × (x ≡ of_bits binary32 n.weight)
constant-some n x e = let q = taken (eqb n.constant 1) x (of_bits binary32 n.weight) e in (eqb-true n.constant 1 q.0, q.1)

pub constant-none : (n : ScoreNode) → None ≡ constant_score n → n.constant ≡ 1 → ⊥
constant-none n e h = false≢true (sym (not-taken (eqb n.constant 1) (of_bits binary32 n.weight) e) ∙ eq-eqb n.constant 1 h)
