-- What is gathered shows that the records of a run are right. Assumes nothing.
use mathlib.Core.Path.{◌≡◌, refl, sym, ap, ◌∙◌}
use mathlib.Core.Logic.{⊎_elim}
use mathlib.Core.Bool.{Bool, true, false, cond, not, ◌&&◌}
use mathlib.Core.List.{List}
use Prim.Native.Nat.{ℕ, zero, suc, ◌+◌, ◌-◌, ◌*◌, ◌≤◌, ◌<◌}
use native.Mathlib.Omega.{arith}
use lib.Dec.{leb, ltb}
use lib.ListN.{get_or}
use borrow.Author.Tests.{lt-ltb, le-ltb, le-leb, lt-leb, eq-eqb, ltb-true}
use Rattle.meaning.specs.Below.{count_below}
use Rattle.meaning.proofs.Tests.{cmp}
use Rattle.meaning.proofs.Below.{any_none, count-le, last-or-below}
use Rattle.check_positions.specs.Places.{apart_at, gap}
use Rattle.check_rows.specs.Rows.{up_at, off_at, Over}
use Rattle.check_leaves.specs.Plain.{Plain, document_fall}
use Rattle.check_rows.specs.declared.Tally.{Tally}
use Rattle.index.proofs.Chains.{count-like}
use Rattle.check_positions.proofs.Prefix.{count_add}
use Rattle.check_positions.proofs.Gaps.{gap-small}

-- as many as there can be are all
all-counted : (n : ℕ) (p : ℕ → Bool) → count_below n p ≡ n → (i : ℕ) → i < n → p i ≡ true
unfolding count_below
all-counted zero p e i l = absurd (omega arith)
all-counted (suc n) p e i l = go (p n) refl (all-counted n p)
  where
    go : (b : Bool) → p n ≡ b → (count_below n p ≡ n → (k : ℕ) → k < n → p k ≡ true) → p i ≡ true
    go true g h = let z : ◌≡◌ {A = ℕ} (cond (p n) 1 0) 1 = ap (λ (b : Bool). cond b 1 0) g in ⊎_elim (λ (m : i ≡ n). ap p m ∙ g) (λ (m : i < n). h (omega (arith, e, z)) i m) (last-or-below i n l)
    go false g h = let z : ◌≡◌ {A = ℕ} (cond (p n) 1 0) 0 = ap (λ (b : Bool). cond b 1 0) g in absurd (omega (arith, e, z, count-le n p))

none_first : (p : ℕ → Bool) → count_below 1 (λ i. ltb 0 i && p i) ≡ 0
unfolding count_below
none_first p = refl

-- what is counted of the records after the first
after : (n : ℕ) (p : ℕ → Bool) → 0 < n → count_below n (λ i. ltb 0 i && p i) ≡ count_below (n - 1) (λ i. p (1 + i))
after n p l =
    let e : 1 + (n - 1) ≡ n = omega arith in
    let d : count_below (n - 1) (λ i. ltb 0 (1 + i) && p (1 + i)) ≡ count_below (n - 1) (λ i. p (1 + i)) = count-like (n - 1) _ _ (λ i m. let b : 0 < 1 + i = omega arith in rw (lt-ltb _ _ b)) in
    omega (arith, ap (λ (k : ℕ). count_below k (λ i. ltb 0 i && p i)) e, count_add 1 (n - 1) (λ i. ltb 0 i && p i), none_first p, d)

-- rises and falls are all
both : (n : ℕ) (p q : ℕ → Bool) → ((i : ℕ) → i < n → p i ≡ not (q i)) → count_below n p + count_below n q ≡ n
unfolding count_below
both zero p q h = refl
both (suc n) p q h = go (q n) refl (both n p q (λ i l. h i (omega arith)))
  where
    go : (b : Bool) → q n ≡ b → count_below n p + count_below n q ≡ n → count_below n p + cond (p n) 1 0 + (count_below n q + cond (q n) 1 0) ≡ suc n
    go true g e = rw (h n (omega arith), g) (omega (arith, e))
    go false g e = rw (h n (omega arith), g) (omega (arith, e))

above-not : (a b : ℕ) → ltb a b ≡ not (leb b a)
above-not a b = ⊎_elim (λ (l : a < b). rw (lt-ltb _ _ l, lt-leb _ _ l)) (λ (l : b ≤ a). rw (le-ltb _ _ l, le-leb _ _ l)) (cmp a b)

module _ (run : List ℕ) (n : ℕ) (t : Tally) (o : Over run n t) (some : 0 < n) (docs : t.docs ≤ 2147483647) (frequencies : t.frequencies < 16777216) (indexes : t.indexes ≤ 2147483647) where
  -- a document above the one before
  document-up : (i : ℕ) → 0 < i → i < n → up_at run (3 * i) ≡ ltb (get_or run (3 * (i - 1)) 0) (get_or run (3 * i) 0)
  unfolding up_at
  document-up i p l =
      let e : 3 * i - 3 ≡ 3 * (i - 1) = omega arith in
      rw e (gap-small _ _ (omega (arith, o.document (i - 1) (omega arith))) (omega (arith, o.document i l)))

  index-up : (i : ℕ) → 0 < i → i < n → up_at run (3 * i + 2) ≡ ltb (get_or run (3 * (i - 1) + 2) 0) (get_or run (3 * i + 2) 0)
  unfolding up_at
  index-up i p l =
      let e : 3 * i + 2 - 3 ≡ 3 * (i - 1) + 2 = omega arith in
      rw e (gap-small _ _ (omega (arith, o.index (i - 1) (omega arith))) (omega (arith, o.index i l)))

  -- the falls are those that are no rises
  falls-are : t.ascents + count_below n (document_fall run) ≡ n - 1
  falls-are =
      let a = after n (λ i. up_at run (3 * i)) some in
      let b = after n (λ i. leb (get_or run (3 * i) 0) (get_or run (3 * (i - 1)) 0)) some in
      let c = both (n - 1) (λ i. up_at run (3 * (1 + i))) (λ i. leb (get_or run (3 * (1 + i)) 0) (get_or run (3 * (1 + i - 1)) 0)) (λ i l. document-up (1 + i) (omega arith) (omega arith) ∙ above-not (get_or run (3 * (1 + i - 1)) 0) (get_or run (3 * (1 + i)) 0)) in
      omega (arith, o.documents-up, a, b, c)

  module _ (advances : t.advances ≡ n - 1) (apart : t.apart ≡ 0) where
    next-index : (i : ℕ) → 0 < i → i < n → get_or run (3 * i + 2) 0 ≡ get_or run (3 * (i - 1) + 2) 0 + get_or run (3 * (i - 1) + 1) 0
    unfolding off_at gap
    next-index i p l =
        let e : 3 * i + 2 - 3 ≡ 3 * (i - 1) + 2 = omega arith in
        let f : 3 * i + 2 - 4 ≡ 3 * (i - 1) + 1 = omega arith in
        omega (arith, o.off i p l, apart, ap (λ (k : ℕ). get_or run k 0) e, ap (λ (k : ℕ). get_or run k 0) f, o.index i l, o.index (i - 1) (omega arith), o.frequency (i - 1) (omega arith), indexes, frequencies)

    rises : (i : ℕ) → 0 < i → i < n → get_or run (3 * (i - 1) + 2) 0 < get_or run (3 * i + 2) 0
    rises i p l =
        let e : 1 + (i - 1) ≡ i = omega arith in
        let c : count_below (n - 1) (λ k. up_at run (3 * (1 + k) + 2)) ≡ n - 1 = sym (after n (λ k. up_at run (3 * k + 2)) some) ∙ sym o.indexes-up ∙ advances in
        ltb-true _ _ (sym (index-up i p l) ∙ ap (λ (k : ℕ). up_at run (3 * k + 2)) (sym e) ∙ all-counted (n - 1) (λ k. up_at run (3 * (1 + k) + 2)) c (i - 1) (omega arith))

    none_apart : (i : ℕ) → i < n → apart_at run i ≡ false
    unfolding apart_at
    none_apart i l = ⊎_elim (λ (p : 0 < i). rw (lt-ltb _ _ p, eq-eqb _ _ (next-index i p l))) (λ (p : i ≤ 0). rw (le-ltb _ _ p)) (cmp 0 i)

    frequency-some : 0 < get_or run (3 * n - 2) 0 → (i : ℕ) → i < n → 0 < get_or run (3 * i + 1) 0
    frequency-some last i l =
        ⊎_elim (λ (m : suc i < n). let e : suc i - 1 ≡ i = omega arith in omega (arith, next-index (suc i) (omega arith) m, rises (suc i) (omega arith) m, ap (λ (k : ℕ). get_or run (3 * k + 1) 0) e)) (λ (m : n ≤ suc i). let e : 3 * n - 2 ≡ 3 * i + 1 = omega arith in omega (arith, last, ap (λ (k : ℕ). get_or run k 0) e)) (cmp (suc i) n)

    pub plain-all : 0 < get_or run (3 * n - 2) 0 → (t.ascents ≤ n - 1) × Plain run n (n - 1 - t.ascents)
    plain-all last = (
      omega (arith, falls-are),
      record {
        joined = any_none n (apart_at run) none_apart;
        some = frequency-some last;
        most = λ i l. omega (arith, o.frequency i l, frequencies);
        falling = omega (arith, falls-are);
      },
    )
