-- What is known where a call was not refused: none of its conditions holds. Assumes nothing.
use mathlib.Core.Path.{◌≡◌, refl}
use mathlib.Core.Bool.{Bool, true, false}
use mathlib.Core.List.{List, [], ◌∷◌, ◌++◌}
use Prim.Native.Nat.{ℕ}
use native.Mathlib.Omega.{arith}
use lib.Dec.{lit<}
use Rattle.meaning.specs.Lent.{Index}
use Rattle.meaning.specs.Refusals.{Condition, lowest}
use Rattle.meaning.specs.CallRefusals.{Work}
use Rattle.meaning.specs.Entries.{order_conditions, search_refusal, page_refusal}
use Rattle.index.proofs.Refused.{Numbered}
use Rattle.index.proofs.Accepted.{accepted}
use Rattle.tree_weight.specs.Measured.{AcceptedOrder}
use Rattle.demands.specs.Demands.{Accepts}
use Rattle.demands.proofs.Lists.{All}

-- numbers above 0 of which none is given: no condition holds
none-holds : (cs : List Condition) → Numbered cs → lowest cs ≡ 0 → All (λ (c : Condition). c.holds ≡ false) cs
unfolding lowest
none-holds [] n e = tt
none-holds (c ∷ cs) n e = go c.holds refl (none-holds cs n.1)
  where
    go : (b : Bool) → c.holds ≡ b → (lowest cs ≡ 0 → All (λ (c : Condition). c.holds ≡ false) cs) → All (λ (c : Condition). c.holds ≡ false) (c ∷ cs)
    go true g r = let z : c.number ≡ 0 = rw g at e in absurd (omega (arith, n.0, z))
    go false g r = (g, r (rw g at e))

-- none of the first of them either
none_first : (cs ds : List Condition) → lowest (cs ++ ds) ≡ 0 → lowest cs ≡ 0
unfolding lowest
none_first [] ds e = refl
none_first (c ∷ cs) ds e = go c.holds refl (none_first cs ds)
  where
    go : (b : Bool) → c.holds ≡ b → (lowest (cs ++ ds) ≡ 0 → lowest cs ≡ 0) → lowest (c ∷ cs) ≡ 0
    go true g r = let z : c.number ≡ 0 = rw g at e in rw g z
    go false g r = let z : lowest (cs ++ ds) ≡ 0 = rw g at e in rw g (r z)

pub accepts-asks : (ix : Index) (q : List ℕ) → Accepts ix q → AcceptedOrder ix q
accepts-asks ix q a =
    let n = none-holds (order_conditions ix q) (lit< tt, (lit< tt, (lit< tt, (lit< tt, (lit< tt, (lit< tt, (lit< tt, (lit< tt, (lit< tt, (lit< tt, tt)))))))))) a in
    let from7 = n.1.1.1.1.1.1 in
    record {
      accepted = accepted ix n.0 n.1.0 n.1.1.0 n.1.1.1.0 n.1.1.1.1.0 n.1.1.1.1.1.0;
      records-right = from7.0;
      values-right = from7.1.0;
      boosts-right = from7.1.1.0;
      positions-right = from7.1.1.1.0;
    }

-- a call of Search that is not refused has an accepted index and query
pub search-accepts : (ix : Index) (q : List ℕ) (k : ℕ) (w : Work) (places : ℕ) → search_refusal ix q k w places ≡ 0 → Accepts ix q
unfolding search_refusal
search-accepts ix q k w places r = none_first (order_conditions ix q) _ r

-- .. and so does one of Page
pub page-accepts : (ix : Index) (q : List ℕ) (target : ℕ) (w : Work) (documents scores : ℕ) → page_refusal ix q target w documents scores ≡ 0 → Accepts ix q
unfolding page_refusal
page-accepts ix q target w documents scores r = none_first (order_conditions ix q) _ r
