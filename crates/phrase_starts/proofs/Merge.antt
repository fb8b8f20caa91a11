-- The merge of two lists that do not fall: what is written has each entry with the lesser of its two multiplicities.
-- Assumes nothing.
use mathlib.Core.Path.{◌≡◌, sym, subst}
use mathlib.Core.Bool.{Bool, true, false, cond}
use mathlib.Core.List.{List, [], ◌∷◌, ◌++◌, append_assoc}
use Prim.Native.Nat.{◌+◌, min}
use native.Mathlib.Omega.{arith}
use lib.Dec.{T}
use lib.IntN.{ℤ}
use lib.Signed.{◌<ℤ◌}
use Rattle.meaning.specs.Phrase.{eqℤ, multiplicity, smallest}
use Rattle.meaning.proofs.Phrases.{eqℤ→eq, multiplicity-append}
use Rattle.phrase_starts.specs.Common.{Ascending, Common}
use Rattle.phrase_starts.proofs.Order.{nowhere, ascending-tail, ascending-front, ascending-without}

-- ---- the lesser multiplicity, entry by entry
-- an entry that the other list does not have adds nothing
alone : (s x : ℤ) (xs ys : List ℤ) → multiplicity x ys ≡ 0 → min (multiplicity s (x ∷ xs)) (multiplicity s ys) ≡ min (multiplicity s xs) (multiplicity s ys)
unfolding multiplicity
alone s x xs ys h = go (eqℤ s x) (λ t. subst (λ (z : ℤ). multiplicity z ys ≡ 0) (sym (eqℤ→eq s x t)) h)
  where
    go : (b : Bool) → (T b → multiplicity s ys ≡ 0) → min (cond b 1 0 + multiplicity s xs) (multiplicity s ys) ≡ min (multiplicity s xs) (multiplicity s ys)
    go true e = let z = e tt in omega (arith, z)
    go false e = omega arith

-- an entry that both begin with adds itself
paired : (s x : ℤ) (xs ys : List ℤ) → min (multiplicity s (x ∷ xs)) (multiplicity s (x ∷ ys)) ≡ multiplicity s (x ∷ []) + min (multiplicity s xs) (multiplicity s ys)
unfolding multiplicity
paired s x xs ys = omega arith

-- ---- the state of the merge: zs is written, and cs and xs are left of the candidates and of the starts
pub record Merging (all-cs all-xs zs cs xs : List ℤ) : Type 0 where
  pub counts : (s : ℤ) → multiplicity s zs + min (multiplicity s cs) (multiplicity s xs) ≡ min (multiplicity s all-cs) (multiplicity s all-xs)
  pub rising : Ascending (zs ++ cs)
  pub starts-rise : Ascending xs

pub merge-begins : (cs xs : List ℤ) → Ascending cs → Ascending xs → Merging cs xs [] cs xs
unfolding multiplicity
merge-begins cs xs a b = record { counts = λ s. omega arith; rising = a; starts-rise = b }

module _ (all-cs all-xs zs : List ℤ) (c : ℤ) (cs : List ℤ) (x : ℤ) (xs : List ℤ) (m : Merging all-cs all-xs zs (c ∷ cs) (x ∷ xs)) where
  -- a candidate below the next start is passed
  pub candidate-passed : c <ℤ x → Merging all-cs all-xs zs cs (x ∷ xs)
  candidate-passed h = record {
    counts = λ s. (let e = alone s c cs (x ∷ xs) (nowhere xs h m.starts-rise) in let k = m.counts s in omega (arith, e, k));
    rising = ascending-without c zs cs m.rising;
    starts-rise = m.starts-rise;
  }

  -- so is a start below the next candidate
  pub start-passed : x <ℤ c → Merging all-cs all-xs zs (c ∷ cs) xs
  start-passed h = record {
    counts = λ s. (let e = alone s x xs (c ∷ cs) (nowhere cs h (ascending-tail zs (c ∷ cs) m.rising)) in let k = m.counts s in omega (arith, e, k));
    rising = m.rising;
    starts-rise = ascending-tail (x ∷ []) xs m.starts-rise;
  }

  -- a match is written and uses both up
  pub matched : c ≡ x → Merging all-cs all-xs (zs ++ (x ∷ [])) cs xs
  matched q = record {
    counts = λ s. (let e = paired s x cs xs in let k = subst (λ (z : ℤ). multiplicity s zs + min (multiplicity s (z ∷ cs)) (multiplicity s (x ∷ xs)) ≡ min (multiplicity s all-cs) (multiplicity s all-xs)) q (m.counts s) in let a = multiplicity-append s zs (x ∷ []) in omega (arith, e, k, a));
    rising = subst Ascending (sym (append_assoc zs (x ∷ []) cs)) (subst (λ (z : ℤ). Ascending (zs ++ z ∷ cs)) q m.rising);
    starts-rise = ascending-tail (x ∷ []) xs m.starts-rise;
  }

-- the merge ends where either is used up
pub candidates-end : (cs xs zs rest : List ℤ) → Merging cs xs zs [] rest → Common (cs ∷ xs ∷ []) zs
unfolding multiplicity smallest
candidates-end cs xs zs rest m = record {
  counts = λ s. (let k = m.counts s in omega (arith, k));
  rising = ascending-front zs [] m.rising;
}

pub starts-end : (cs xs zs rest : List ℤ) → Merging cs xs zs rest [] → Common (cs ∷ xs ∷ []) zs
unfolding multiplicity smallest
starts-end cs xs zs rest m = record {
  counts = λ s. (let k = m.counts s in omega (arith, k));
  rising = ascending-front zs rest m.rising;
}
