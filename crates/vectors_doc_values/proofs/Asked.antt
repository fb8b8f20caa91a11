-- A range is not refused where its column is there, its kind is known and its unbounded ends are 0. Assumes nothing.
use mathlib.Core.Path.{◌≡◌}
use mathlib.Core.Bool.{true, false, not, ◌&&◌}
use Prim.Native.Nat.{ℕ, ◌/◌, ◌%◌, ◌<◌}
use native.Mathlib.Omega.{arith}
use mathlib.Core.Logic.{◌⊎◌, inl, inr}
use lib.Dec.{eqb}
use lib.ListN.{length}
use borrow.Author.Tests.{lt-leb, le-ltb, eq-eqb, eqb-true}
use Rattle.meaning.proofs.Tests.{decided}
use Rattle.meaning.specs.Lent.{Index}
use Rattle.meaning.specs.QueryRefusals.{wrong_range}

-- an end that is 0 where its kind is 0
end-right : (kind value : ℕ) → (kind ≡ 0 → value ≡ 0) → (eqb kind 0 && not (eqb value 0)) ≡ false
end-right kind value h = go (decided (eqb kind 0))
  where
    go : (eqb kind 0 ≡ true) ⊎ (eqb kind 0 ≡ false) → (eqb kind 0 && not (eqb value 0)) ≡ false
    go (inl e) = let z : eqb value 0 ≡ true = eq-eqb value 0 (h (eqb-true kind 0 e)) in rw (z, e)
    go (inr e) = rw e

pub range-right : (ix : Index) (column kinds lower upper : ℕ) → column < length ix.columns → kinds < 9 → (kinds % 3 ≡ 0 → lower ≡ 0) → (kinds / 3 ≡ 0 → upper ≡ 0) → wrong_range ix (record { column = column; kinds = kinds; lower = lower; upper = upper }) ≡ false
unfolding wrong_range
range-right ix column kinds lower upper there known low high = rw (lt-leb (length ix.columns) column there, le-ltb 8 kinds (omega arith), end-right (kinds % 3) lower low, end-right (kinds / 3) upper high)
