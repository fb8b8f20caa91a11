-- The first record with the least frequency. Assumes nothing.
use mathlib.Core.Path.{◌≡◌, sym, subst}
use mathlib.Core.List.{List}
use mathlib.Core.Logic.{⊎_elim}
use Prim.Native.Nat.{ℕ, ◌+◌, ◌%◌, ◌≤◌, ◌<◌}
use native.Mathlib.Nat.{eq-or-lt_of_le, le_trans, lt_of_lt_of_le}
use native.Mathlib.Omega.{arith}
use lib.ListN.{length, get_or}

-- of the records before a word, that at `best` is the first with the least frequency
pub record Passed (ts : List ℕ) (best at : ℕ) : Type 0 where
  pub whole : at % 3 ≡ 0
  pub not-past : at ≤ length ts
  pub best-whole : best % 3 ≡ 0
  pub best-passed : best < at
  pub below : (k : ℕ) → k % 3 ≡ 0 → k < at → get_or ts (best + 1) 0 ≤ get_or ts (k + 1) 0
  pub first : (k : ℕ) → k % 3 ≡ 0 → k < best → get_or ts (best + 1) 0 < get_or ts (k + 1) 0

-- what holds of the records before a word and of the one there
more : (ts : List ℕ) (least at : ℕ) → at % 3 ≡ 0 → ((k : ℕ) → k % 3 ≡ 0 → k < at → least ≤ get_or ts (k + 1) 0) → least ≤ get_or ts (at + 1) 0 → (k : ℕ) → k % 3 ≡ 0 → k < at + 3 → least ≤ get_or ts (k + 1) 0
more ts least at w b h k e l =
    ⊎_elim (λ q. subst (λ (n : ℕ). least ≤ get_or ts (n + 1) 0) (sym q) h) (λ (p : k < at). b k e p) (eq-or-lt_of_le {n = k} {m = at} (omega (arith, e, w, l)))

module _ (ts : List ℕ) (best at : ℕ) (p : Passed ts best at) (w : length ts % 3 ≡ 0) (h : at < length ts) where
  -- a rarer record takes the place of the best
  pub better : get_or ts (at + 1) 0 < get_or ts (best + 1) 0 → Passed ts at (at + 3)
  better l =
      record {
        whole = omega (arith, p.whole);
        not-past = omega (arith, p.whole, w, h);
        best-whole = p.whole;
        best-passed = omega arith;
        below = more ts (get_or ts (at + 1) 0) at p.whole (λ k e q. le_trans (omega (arith, l)) (p.below k e q)) (omega arith);
        first = λ k e q. lt_of_lt_of_le l (p.below k e q);
      }

  pub kept : get_or ts (best + 1) 0 ≤ get_or ts (at + 1) 0 → Passed ts best (at + 3)
  kept l =
      record {
        whole = omega (arith, p.whole);
        not-past = omega (arith, p.whole, w, h);
        best-whole = p.best-whole;
        best-passed = omega (arith, p.best-passed);
        below = more ts (get_or ts (best + 1) 0) at p.whole p.below l;
        first = p.first;
      }
