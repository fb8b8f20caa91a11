-- The lowest of a query's numbers: each way out of `check_query`. Assumes nothing.
use Rattle.std.proofs.Common.{◌≡◌, ℕ, List, true, false}
use Rattle.meaning.specs.Lent.{Index}
use Rattle.meaning.specs.Refusals.{lowest}
use Rattle.meaning.specs.QueryRefusals.{wrong7, wrong8, wrong9, wrong10}
use Rattle.check_query.specs.Refusal.{query_refusal}

module _ (ix : Index) (q : List ℕ) where
  pub refused-7 : wrong7 q ≡ true → ◌≡◌ {A = ℕ} 7 (query_refusal ix q)
  unfolding lowest
  refused-7 e7 = rw e7

  pub refused-8 : wrong7 q ≡ false → wrong8 ix q ≡ true → ◌≡◌ {A = ℕ} 8 (query_refusal ix q)
  unfolding lowest
  refused-8 e7 e8 = rw (e7, e8)

  pub refused-9 : wrong7 q ≡ false → wrong8 ix q ≡ false → wrong9 q ≡ true → ◌≡◌ {A = ℕ} 9 (query_refusal ix q)
  unfolding lowest
  refused-9 e7 e8 e9 = rw (e7, e8, e9)

  pub refused-10 : wrong7 q ≡ false → wrong8 ix q ≡ false → wrong9 q ≡ false → wrong10 ix q ≡ true → ◌≡◌ {A = ℕ} 10 (query_refusal ix q)
  unfolding lowest
  refused-10 e7 e8 e9 e10 = rw (e7, e8, e9, e10)

  pub not-refused : wrong7 q ≡ false → wrong8 ix q ≡ false → wrong9 q ≡ false → wrong10 ix q ≡ false → ◌≡◌ {A = ℕ} 0 (query_refusal ix q)
  unfolding lowest
  not-refused e7 e8 e9 e10 = rw (e7, e8, e9, e10)
