-- The search in a run of documents that ascend. Assumes nothing.
use mathlib.Core.Path.{◌≡◌, ap}
use mathlib.Core.Logic.{⊎_elim}
use mathlib.Core.List.{List}
use Prim.Native.Nat.{ℕ, suc, ◌+◌, ◌≤◌, ◌<◌}
use native.Mathlib.Nat.{eq-or-lt_of_le}
use native.Mathlib.Omega.{arith}
use Rattle.meaning.proofs.Tests.{cmp}
use Rattle.run.specs.Run.{document_at, Run, Lower}

-- a search has come to a place: the documents that it passed are below the target
pub record Front (words : List ℕ) (stride first count from target low : ℕ) : Type 0 where
  pub from_low : from ≤ low
  pub within : low ≤ count
  pub passed : (i : ℕ) → from ≤ i → i < low → document_at words stride first i < target

-- and the place that it looks for is at most another
pub record Ends (words : List ℕ) (stride first count from target low high : ℕ) : Type 0 where
  pub front : Front words stride first count from target low
  pub low-high : low ≤ high
  pub high-within : high ≤ count
  pub stops : high < count → target ≤ document_at words stride first high

module _ {words : List ℕ} {stride first count from target : ℕ} where
  pub front-start : from ≤ count → Front words stride first count from target from
  front-start h = record { from_low = omega arith; within = h; passed = λ i a b. absurd (omega arith) }

  -- in a run that ascends, those up to a document below the target are below it
  pub front-past : Run words stride first count → (low mid : ℕ) → Front words stride first count from target low → low ≤ mid → mid < count → document_at words stride first mid < target → Front words stride first count from target (mid + 1)
  front-past run low mid f l h d =
      record {
        from_low = omega (arith, f.from_low);
        within = omega arith;
        passed = λ i a b. ⊎_elim (λ (e : i ≡ mid). omega (arith, ap (λ (j : ℕ). document_at words stride first j) e)) (λ (e : suc i ≤ mid). omega (arith, run.ascending i mid e h)) (eq-or-lt_of_le (omega arith));
      }

  pub front-lower : (low r : ℕ) → Front words stride first count from target low → Lower words stride first count low target r → Lower words stride first count from target r
  front-lower low r f p = record { within = p.within; passed = λ i a b. ⊎_elim (λ h. f.passed i a h) (λ h. p.passed i h b) (cmp i low); stops = p.stops }

  pub front-here : (low : ℕ) → Front words stride first count from target low → (low < count → target ≤ document_at words stride first low) → Lower words stride first count from target low
  front-here low f h = record { within = f.within; passed = f.passed; stops = h }

  pub ends_low : Run words stride first count → (low high mid : ℕ) → Ends words stride first count from target low high → low ≤ mid → mid < high → document_at words stride first mid < target → Ends words stride first count from target (mid + 1) high
  ends_low run low high mid e l h d = record { front = front-past run low mid e.front l (omega (arith, e.high-within)) d; low-high = omega arith; high-within = e.high-within; stops = e.stops }

  pub ends-high : (low high mid : ℕ) → Ends words stride first count from target low high → low ≤ mid → mid < high → target ≤ document_at words stride first mid → Ends words stride first count from target low mid
  ends-high low high mid e l h d = record { front = e.front; low-high = l; high-within = omega (arith, e.high-within); stops = λ _. d }

  pub ends-meet : (low high : ℕ) → Ends words stride first count from target low high → high ≤ low → Lower words stride first count from target low
  ends-meet low high e h = let s : low ≡ high = omega (arith, e.low-high) in front-here low e.front (rw s e.stops)
