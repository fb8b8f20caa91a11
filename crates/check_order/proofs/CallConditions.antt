-- The numbers of Search and of Page, way by way, and what a call that is not refused is known to lend. Assumes nothing.
use mathlib.Core.Path.{◌≡◌, sym, ◌∙◌}
use mathlib.Core.Bool.{Bool, true, false, not}
use mathlib.Core.List.{List, [], ◌∷◌}
use Prim.Native.Nat.{ℕ, ◌≤◌, ◌<◌}
use native.Mathlib.Omega.{arith}
use borrow.Author.Tests.{lt-ltb, le-ltb, ltb-false, eq-eqb, ne_eqb, eqb-true, not-false}
use lib.Dec.{lit<, ltb, eqb}
use lib.ListN.{length, take, length-take}
use lib.IntN.{ℤ}
use Rattle.meaning.specs.Limits.{max_hits}
use Rattle.meaning.specs.Lent.{Index}
use Rattle.meaning.specs.Refusals.{◌when◌, lowest}
use Rattle.meaning.specs.CallRefusals.{Work, wrong11, work_short, wrong12_search, wrong12_page, wrong13_page}
use Rattle.meaning.specs.Entries.{order_conditions, search_refusal, page_refusal}
use Rattle.meaning.proofs.Tests.{or_left, or_right}
use Rattle.tree_weight.specs.Measured.{AcceptedOrder}
use Rattle.check_order.proofs.Refusing.{first_holds, second_holds, neither-holds, neither-held, order-asks, order-refused, order-passed, order-accepted}

-- ---- 11
hits-within : (k : ℕ) → wrong11 k ≡ false → (0 < k) × (k ≤ max_hits)
unfolding wrong11
hits-within k e = (omega (arith, ltb-false k 1 (or_left (ltb k 1) (ltb max_hits k) e)), ltb-false max_hits k (or_right (ltb k 1) (ltb max_hits k) e))

-- ---- Search
-- what its call lends where it is not refused
pub record Searches (ix : Index) (q : List ℕ) (k : ℕ) (w : Work) (places : ℕ) : Type 0 where
  pub asks : AcceptedOrder ix q
  pub some : 0 < k
  pub most : k ≤ max_hits
  pub long : work_short ix q w ≡ false
  pub room : k ≤ places

-- so many places at the front of the hits buffer, as `find` asks for
pub hits-front : (ix : Index) (q : List ℕ) (k : ℕ) (w : Work) (buffer : List ℤ) → Searches ix q k w (length buffer) → (k ≡ length (take k buffer)) × (0 < length (take k buffer)) × (length (take k buffer) ≤ max_hits)
hits-front ix q k w buffer s =
    let n = length-take k buffer in
    (omega (arith, n, s.room), omega (arith, n, s.room, s.some), omega (arith, n, s.room, s.most))

module _ (ix : Index) (q : List ℕ) (k : ℕ) (w : Work) (places : ℕ) where
  places-short : (b : Bool) → b ≡ work_short ix q w → b ≡ true → wrong12_search ix q w k places ≡ true
  unfolding wrong12_search
  places-short b d e = rw (← d, e)

  places-few : (b : Bool) → b ≡ work_short ix q w → b ≡ false → places < k → wrong12_search ix q w k places ≡ true
  unfolding wrong12_search
  places-few b d e h = rw (← d, e, lt-ltb places k h)

  places-right : (b : Bool) → b ≡ work_short ix q w → b ≡ false → k ≤ places → wrong12_search ix q w k places ≡ false
  unfolding wrong12_search
  places-right b d e h = rw (← d, e, le-ltb places k h)

  places-within : wrong12_search ix q w k places ≡ false → (work_short ix q w ≡ false) × (k ≤ places)
  unfolding wrong12_search
  places-within e = (or_left (work_short ix q w) (ltb places k) e, ltb-false places k (or_right (work_short ix q w) (ltb places k) e))

  module _ (r : ℕ) (o : r ≡ lowest (order_conditions ix q)) where
    pub search-order : (r ≡ 0 → ⊥) → r ≡ search_refusal ix q k w places
    unfolding search_refusal
    search-order h = order-refused ix q ((11 when wrong11 k) ∷ (12 when wrong12_search ix q w k places) ∷ []) r o h

    module _ (e : r ≡ 0) where
      search-passed : (n : ℕ) → n ≡ lowest ((11 when wrong11 k) ∷ (12 when wrong12_search ix q w k places) ∷ []) → n ≡ search_refusal ix q k w places
      unfolding search_refusal
      search-passed = order-passed ix q ((11 when wrong11 k) ∷ (12 when wrong12_search ix q w k places) ∷ []) (sym o ∙ e)

      pub search-wrong-hits : wrong11 k ≡ true → 11 ≡ search_refusal ix q k w places
      search-wrong-hits h = search-passed 11 (first_holds 11 12 (wrong11 k) (wrong12_search ix q w k places) h)

      module _ (h : wrong11 k ≡ false) (b : Bool) (d : b ≡ work_short ix q w) where
        pub search-short : b ≡ true → 12 ≡ search_refusal ix q k w places
        search-short f = search-passed 12 (second_holds 11 12 (wrong11 k) (wrong12_search ix q w k places) h (places-short b d f))

        pub search-few-places : b ≡ false → places < k → 12 ≡ search_refusal ix q k w places
        search-few-places f l = search-passed 12 (second_holds 11 12 (wrong11 k) (wrong12_search ix q w k places) h (places-few b d f l))

        pub search-accepted : b ≡ false → k ≤ places → 0 ≡ search_refusal ix q k w places
        search-accepted f l = search-passed 0 (neither-holds 11 12 (wrong11 k) (wrong12_search ix q w k places) h (places-right b d f l))

  pub search-lends : (r : ℕ) → r ≡ search_refusal ix q k w places → r ≡ 0 → Searches ix q k w places
  unfolding search_refusal
  search-lends r d e =
      let a = order-accepted ix q ((11 when wrong11 k) ∷ (12 when wrong12_search ix q w k places) ∷ []) (sym d ∙ e) in
      let b = neither-held 11 12 (wrong11 k) (wrong12_search ix q w k places) (lit< tt) (lit< tt) a.1 in
      let h = hits-within k b.0 in
      let p = places-within b.1 in
      record { asks = order-asks ix q a.0; some = h.0; most = h.1; long = p.0; room = p.1 }

-- ---- Page
pub record Pages (ix : Index) (q : List ℕ) (target : ℕ) (w : Work) (documents scores : ℕ) : Type 0 where
  pub asks : AcceptedOrder ix q
  pub long : work_short ix q w ≡ false
  pub same : documents ≡ scores
  pub target-within : target ≤ ix.max_doc

module _ (ix : Index) (q : List ℕ) (target : ℕ) (w : Work) (documents scores : ℕ) where
  outputs-short : (b : Bool) → b ≡ work_short ix q w → b ≡ true → wrong12_page ix q w documents scores ≡ true
  unfolding wrong12_page
  outputs-short b d e = rw (← d, e)

  outputs-unequal : (b : Bool) → b ≡ work_short ix q w → b ≡ false → (documents ≡ scores → ⊥) → wrong12_page ix q w documents scores ≡ true
  unfolding wrong12_page
  outputs-unequal b d e h = rw (← d, e, ne_eqb documents scores h)

  outputs-right : (b : Bool) → b ≡ work_short ix q w → b ≡ false → documents ≡ scores → wrong12_page ix q w documents scores ≡ false
  unfolding wrong12_page
  outputs-right b d e h = rw (← d, e, eq-eqb documents scores h)

  outputs-equal : wrong12_page ix q w documents scores ≡ false → (work_short ix q w ≡ false) × (documents ≡ scores)
  unfolding wrong12_page
  outputs-equal e = (or_left (work_short ix q w) (not (eqb documents scores)) e, eqb-true documents scores (not-false (eqb documents scores) (or_right (work_short ix q w) (not (eqb documents scores)) e)))

  target-above : ix.max_doc < target → wrong13_page ix target ≡ true
  unfolding wrong13_page
  target-above h = lt-ltb ix.max_doc target h

  target_right : target ≤ ix.max_doc → wrong13_page ix target ≡ false
  unfolding wrong13_page
  target_right h = le-ltb ix.max_doc target h

  target-in : wrong13_page ix target ≡ false → target ≤ ix.max_doc
  unfolding wrong13_page
  target-in e = ltb-false ix.max_doc target e

  module _ (r : ℕ) (o : r ≡ lowest (order_conditions ix q)) where
    pub page-order : (r ≡ 0 → ⊥) → r ≡ page_refusal ix q target w documents scores
    unfolding page_refusal
    page-order h = order-refused ix q ((12 when wrong12_page ix q w documents scores) ∷ (13 when wrong13_page ix target) ∷ []) r o h

    module _ (e : r ≡ 0) (b : Bool) (d : b ≡ work_short ix q w) where
      page-passed : (n : ℕ) → n ≡ lowest ((12 when wrong12_page ix q w documents scores) ∷ (13 when wrong13_page ix target) ∷ []) → n ≡ page_refusal ix q target w documents scores
      unfolding page_refusal
      page-passed = order-passed ix q ((12 when wrong12_page ix q w documents scores) ∷ (13 when wrong13_page ix target) ∷ []) (sym o ∙ e)

      pub page-short : b ≡ true → 12 ≡ page_refusal ix q target w documents scores
      page-short f = page-passed 12 (first_holds 12 13 (wrong12_page ix q w documents scores) (wrong13_page ix target) (outputs-short b d f))

      pub page-unequal : b ≡ false → (documents ≡ scores → ⊥) → 12 ≡ page_refusal ix q target w documents scores
      page-unequal f h = page-passed 12 (first_holds 12 13 (wrong12_page ix q w documents scores) (wrong13_page ix target) (outputs-unequal b d f h))

      pub page-above : b ≡ false → documents ≡ scores → ix.max_doc < target → 13 ≡ page_refusal ix q target w documents scores
      page-above f h g = page-passed 13 (second_holds 12 13 (wrong12_page ix q w documents scores) (wrong13_page ix target) (outputs-right b d f h) (target-above g))

      pub page-accepted : b ≡ false → documents ≡ scores → target ≤ ix.max_doc → 0 ≡ page_refusal ix q target w documents scores
      page-accepted f h g = page-passed 0 (neither-holds 12 13 (wrong12_page ix q w documents scores) (wrong13_page ix target) (outputs-right b d f h) (target_right g))

  pub page-lends : (r : ℕ) → r ≡ page_refusal ix q target w documents scores → r ≡ 0 → Pages ix q target w documents scores
  unfolding page_refusal
  page-lends r d e =
      let a = order-accepted ix q ((12 when wrong12_page ix q w documents scores) ∷ (13 when wrong13_page ix target) ∷ []) (sym d ∙ e) in
      let b = neither-held 12 13 (wrong12_page ix q w documents scores) (wrong13_page ix target) (lit< tt) (lit< tt) a.1 in
      let p = outputs-equal b.0 in
      record { asks = order-asks ix q a.0; long = p.0; same = p.1; target-within = target-in b.1 }
