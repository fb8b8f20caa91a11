-- Two comparisons of numbers that hold together or fail together have the same Bool. Assumes nothing.
use mathlib.Core.Path.{◌≡◌, sym, ◌∙◌}
use mathlib.Core.Logic.{inl, inr}
use mathlib.Core.Bool.{not}
use Prim.Native.Nat.{ℕ, ◌≤◌, ◌<◌}
use lib.Dec.{leb, ltb}
use borrow.Author.Tests.{lt-ltb, le-ltb, le-leb, lt-leb}
use Rattle.meaning.proofs.Tests.{cmp}

pub not-ltb : (a b : ℕ) → not (ltb a b) ≡ leb b a
not-ltb a b = elim (cmp a b) as (λ _. not (ltb a b) ≡ leb b a) [
  | inl h ↦ rw (lt-ltb a b h, lt-leb b a h)
  | inr h ↦ rw (le-ltb a b h, le-leb b a h)
]

pub leb-as-ltb : (a b c d : ℕ) → (a ≤ b → c < d) → (b < a → d ≤ c) → leb a b ≡ ltb c d
leb-as-ltb a b c d f g = elim (cmp b a) as (λ _. leb a b ≡ ltb c d) [
  | inl h ↦ lt-leb a b h ∙ sym (le-ltb c d (g h))
  | inr h ↦ le-leb a b h ∙ sym (lt-ltb c d (f h))
]

pub leb-as-leb : (a b c d : ℕ) → (a ≤ b → c ≤ d) → (b < a → d < c) → leb a b ≡ leb c d
leb-as-leb a b c d f g = elim (cmp b a) as (λ _. leb a b ≡ leb c d) [
  | inl h ↦ lt-leb a b h ∙ sym (lt-leb c d (g h))
  | inr h ↦ le-leb a b h ∙ sym (le-leb c d (f h))
]
