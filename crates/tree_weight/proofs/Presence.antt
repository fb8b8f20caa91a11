-- What the word of a tree with or without a scorer says. Assumes nothing.
use mathlib.Core.Path.{◌≡◌, refl, sym, ◌∙◌}
use mathlib.Core.Bool.{Bool, true, false, cond}
use Prim.Native.Nat.{ℕ}
use native.Mathlib.Omega.{arith}

pub absent : (x : ℕ) (p : Bool) → x ≡ cond p 1 0 → x ≡ 0 → p ≡ false
absent x true e f = let z : ◌≡◌ {A = ℕ} 0 1 = sym f ∙ e in absurd (omega arith)
absent x false e f = refl

pub present : (x : ℕ) (p : Bool) → x ≡ cond p 1 0 → (x ≡ 0 → ⊥) → p ≡ true
present x true e f = refl
present x false e f = absurd (f e)
