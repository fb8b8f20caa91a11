-- The lowest number of an entry over an index and a query: each way out, and what a caller knows where it is 0. Assumes nothing.
use mathlib.Core.Path.{◌≡◌, sym, subst, ◌∙◌}
use mathlib.Core.Logic.{⊎_elim}
use mathlib.Core.Bool.{Bool, true, false}
use mathlib.Core.List.{List, [], ◌∷◌, ◌++◌}
use Prim.Native.Nat.{ℕ, ◌≤◌, ◌<◌}
use native.Mathlib.Nat.{eq-or-lt_of_le}
use native.Mathlib.Omega.{arith}
use lib.Dec.{lit<}
use Rattle.meaning.specs.Lent.{Index}
use Rattle.meaning.specs.Query.{record_count, record_value}
use Rattle.meaning.specs.Limits.{max_records}
use Rattle.meaning.specs.Refusals.{Condition, ◌when◌, lowest}
use Rattle.meaning.specs.QueryRefusals.{wrong7, wrong8, wrong9, wrong10}
use Rattle.meaning.specs.Entries.{order_conditions}
use Rattle.index.specs.Refusal.{index_refusal}
use Rattle.index.proofs.Refused.{Numbered, lowest-none, lowest-some, index-accepted, index-refused}
use Rattle.index.proofs.Accepted.{accepted-checked}
use Rattle.query.specs.Read.{PhraseRuns}
use Rattle.query.proofs.Accepted.{phrase-term-right}
use Rattle.query.proofs.Whole.{whole}
use Rattle.check_query.specs.Refusal.{query_conditions, query_refusal}
use Rattle.tree_weight.specs.Measured.{AcceptedOrder}
use Rattle.meaning.proofs.Lowest.{lowest-zero}

above_zero : (n : ℕ) → (n ≡ 0 → ⊥) → 0 < n
above_zero n h = ⊎_elim (λ e. absurd (h (sym e))) (λ l. l) (eq-or-lt_of_le {n = 0} {m = n} (omega arith))

-- ---- two conditions
module _ (n m : ℕ) (a b : Bool) where
  abbrev lowest2 : ℕ
  lowest2 = lowest ((n when a) ∷ (m when b) ∷ [])

  pub first_holds : a ≡ true → n ≡ lowest2
  unfolding lowest
  first_holds e = rw e

  pub second_holds : a ≡ false → b ≡ true → m ≡ lowest2
  unfolding lowest
  second_holds e f = rw (e, f)

  pub neither-holds : a ≡ false → b ≡ false → 0 ≡ lowest2
  unfolding lowest
  neither-holds e f = rw (e, f)

  pub neither-held : 0 < n → 0 < m → lowest2 ≡ 0 → (a ≡ false) × (b ≡ false)
  neither-held h g e = let l = lowest-zero n a ((m when b) ∷ []) h e in (l.0, (lowest-zero m b [] g l.1).0)

-- ---- the numbers 1 to 10
module _ (ix : Index) (q : List ℕ) where
  abbrev from10 : List Condition
  from10 = (10 when wrong10 ix q) ∷ []

  abbrev from9 : List Condition
  from9 = (9 when wrong9 q) ∷ from10

  abbrev from8 : List Condition
  from8 = (8 when wrong8 ix q) ∷ from9

  -- the index is refused, or the query decides
  pub order-index : (r : ℕ) → r ≡ index_refusal ix → (r ≡ 0 → ⊥) → r ≡ lowest (order_conditions ix q)
  order-index r e h = e ∙ sym (index-refused ix (query_conditions ix q) (subst (λ (i : ℕ). 0 < i) e (above_zero r h)))

  pub order-query : (i : ℕ) → i ≡ index_refusal ix → i ≡ 0 → (r : ℕ) → r ≡ query_refusal ix q → r ≡ lowest (order_conditions ix q)
  order-query i d e r f = f ∙ sym (index-accepted ix (query_conditions ix q) (sym d ∙ e))

  -- none of them holds
  pub order-asks : lowest (order_conditions ix q) ≡ 0 → AcceptedOrder ix q
  order-asks e = ⊎_elim (λ z. go (sym z)) (λ l. absurd (omega (arith, l, index-refused ix (query_conditions ix q) l, e))) (eq-or-lt_of_le {n = 0} {m = index_refusal ix} (omega arith))
    where
      go : index_refusal ix ≡ 0 → AcceptedOrder ix q
      go z =
          let e7 : query_refusal ix q ≡ 0 = sym (index-accepted ix (query_conditions ix q) z) ∙ e in
          let l7 = lowest-zero 7 (wrong7 q) from8 (lit< tt) e7 in
          let l8 = lowest-zero 8 (wrong8 ix q) from9 (lit< tt) l7.1 in
          let l9 = lowest-zero 9 (wrong9 q) from10 (lit< tt) l8.1 in
          record {
            accepted = accepted-checked ix z;
            records-right = l7.0;
            values-right = l8.0;
            boosts-right = l9.0;
            positions-right = (lowest-zero 10 (wrong10 ix q) [] (lit< tt) l9.1).0;
          }

  pub order-checked : (r : ℕ) → r ≡ lowest (order_conditions ix q) → r ≡ 0 → AcceptedOrder ix q
  order-checked r o e = order-asks (sym o ∙ e)

  order-numbered : Numbered (order_conditions ix q)
  order-numbered = (lit< tt, (lit< tt, (lit< tt, (lit< tt, (lit< tt, (lit< tt, (lit< tt, (lit< tt, (lit< tt, (lit< tt, tt))))))))))

  -- with further conditions behind them
  module _ (ds : List Condition) where
    pub order-refused : (r : ℕ) → r ≡ lowest (order_conditions ix q) → (r ≡ 0 → ⊥) → r ≡ lowest (order_conditions ix q ++ ds)
    order-refused r e h = e ∙ sym (lowest-some (order_conditions ix q) ds (subst (λ (i : ℕ). 0 < i) e (above_zero r h)))

    pub order-passed : lowest (order_conditions ix q) ≡ 0 → (r : ℕ) → r ≡ lowest ds → r ≡ lowest (order_conditions ix q ++ ds)
    order-passed e r f = f ∙ sym (lowest-none (order_conditions ix q) ds order-numbered e)

    pub order-accepted : lowest (order_conditions ix q ++ ds) ≡ 0 → (lowest (order_conditions ix q) ≡ 0) × (lowest ds ≡ 0)
    order-accepted e =
        ⊎_elim (λ z. (sym z, sym (lowest-none (order_conditions ix q) ds order-numbered (sym z)) ∙ e))
        (λ l. absurd (omega (arith, l, lowest-some (order_conditions ix q) ds l, e)))
        (eq-or-lt_of_le {n = 0} {m = lowest (order_conditions ix q)} (omega arith))

-- ---- what the work's measures ask
module _ {ix : Index} {q : List ℕ} (asks : AcceptedOrder ix q) where
  pub query-runs : PhraseRuns ix q
  query-runs =
      record {
        present = λ r l k. (phrase-term-right ix q asks.values-right r l k).leaf-present;
        within = λ r l k. (asks.accepted.leaf (record_value q r 0) (phrase-term-right ix q asks.values-right r l k).leaf-present).run;
      }

  pub query-few : record_count q ≤ max_records
  query-few = (whole q asks.records-right).few-records
