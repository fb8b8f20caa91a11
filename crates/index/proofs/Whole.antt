-- The three ways out of the checks of fields and of leaves: not whole, too many, or one of them wrong. Assumes nothing.
use mathlib.Core.Path.{◌≡◌}
use mathlib.Core.Bool.{Bool, true, ◌||◌}
use Prim.Native.Nat.{ℕ, ◌%◌, ◌≤◌}
use lib.Dec.{ltb}
use lib.ListN.{length}
use borrow.Author.Tests.{ne_eqb, eq-eqb, le-ltb}
use Rattle.meaning.specs.Below.{any_below}
use Rattle.meaning.specs.Lent.{Index, leaf_count, leaf_number}
use Rattle.meaning.specs.IndexRefusals.{not_whole, wrong5, wrong_posting}

pub else-some : (words size most count : ℕ) (t : Bool) → words % size ≡ 0 → count ≤ most → t ≡ (not_whole words size || ltb most count || t)
else-some words size most count t h l = rw (eq-eqb _ _ h, le-ltb _ _ l)

module _ (ix : Index) where
  pub postings-not-whole : (length ix.postings % 3 ≡ 0 → ⊥) → true ≡ wrong5 ix
  unfolding wrong5
  postings-not-whole h = rw (ne_eqb _ _ h)

  pub postings-some : length ix.postings % 3 ≡ 0 → any_below (leaf_count ix) (λ l. any_below (leaf_number ix l) (wrong_posting ix l)) ≡ wrong5 ix
  unfolding wrong5
  postings-some h = rw (eq-eqb _ _ h)
