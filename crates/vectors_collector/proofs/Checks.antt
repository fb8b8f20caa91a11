-- What has been seen of lists to pick from while they are checked place by place. Assumes nothing.
use Rattle.std.proofs.Common.{◌≡◌, ℕ, suc, ◌+◌, ◌-◌, ◌<◌, ◌≤◌, true, false, ◌&&◌, eqb, ltb, leb, ◌⊎◌, List, length, get_or, sym, subst, inl, inr, eq-or-lt_of_le, arith, ltb-true, le-ltb, eq-eqb}
use borrow.Author.Tests.{lt-leb}
use Rattle.meaning.specs.CallRefusals.{wrong14, wrong_picked}
use Rattle.meaning.proofs.Tests.{decided}
use Rattle.meaning.proofs.Below.{any_none}

-- nothing is wrong below a place, and the next document is to be at least this
pub record Seen (ds ss : List ℕ) (least i : ℕ) : Type 0 where
  pub same : length ds ≡ length ss
  pub not-past : i ≤ length ds
  pub right : (k : ℕ) → k < i → wrong_picked ds ss k ≡ false
  pub above : (k : ℕ) → suc k ≡ i → get_or ds k 0 < least

right-here : (ds ss : List ℕ) (i : ℕ) → (ltb 0 i && leb (get_or ds i 0) (get_or ds (i - 1) 0)) ≡ false → get_or ds i 0 < 2147483647 → get_or ss i 0 ≤ 0x7f80_0000 → wrong_picked ds ss i ≡ false
unfolding wrong_picked
right-here ds ss i rise small clear =
    let z : leb 2147483647 (get_or ds i 0) ≡ false = lt-leb 2147483647 (get_or ds i 0) small in
    let y : ltb 0x7f80_0000 (get_or ss i 0) ≡ false = le-ltb 0x7f80_0000 (get_or ss i 0) clear in rw (rise, z, y)

picked-right : (ds ss : List ℕ) → length ds ≡ length ss → ((k : ℕ) → k < length ds → wrong_picked ds ss k ≡ false) → wrong14 ds ss ≡ false
unfolding wrong14
picked-right ds ss e h =
    let z : eqb (length ds) (length ss) ≡ true = eq-eqb (length ds) (length ss) e in rw (z, any_none (length ds) (wrong_picked ds ss) h)

module _ {ds ss : List ℕ} {least i : ℕ} (s : Seen ds ss least i) where
  rises : least ≤ get_or ds i 0 → (ltb 0 i && leb (get_or ds i 0) (get_or ds (i - 1) 0)) ≡ false
  rises up = go (decided (ltb 0 i))
    where
      before : 0 < i → suc (i - 1) ≡ i
      before h = omega arith

      go : (ltb 0 i ≡ true) ⊎ (ltb 0 i ≡ false) → (ltb 0 i && leb (get_or ds i 0) (get_or ds (i - 1) 0)) ≡ false
      go (inl e) =
          let below = s.above (i - 1) (before (ltb-true 0 i e)) in
          let z : leb (get_or ds i 0) (get_or ds (i - 1) 0) ≡ false = lt-leb (get_or ds i 0) (get_or ds (i - 1) 0) (omega arith) in rw (e, z)
      go (inr e) = rw e

  pub next-seen : i < length ds → least ≤ get_or ds i 0 → get_or ds i 0 < 2147483647 → get_or ss i 0 ≤ 0x7f80_0000 → Seen ds ss (get_or ds i 0 + 1) (i + 1)
  next-seen more up small clear =
      record { same = s.same; not-past = omega arith; right = λ k h. at_most k (eq-or-lt_of_le (le_of k h)); above = λ k e. top k (same-as k e) }
    where
      le_of : (k : ℕ) → k < i + 1 → k ≤ i
      le_of k h = omega arith

      same-as : (k : ℕ) → suc k ≡ i + 1 → k ≡ i
      same-as k e = omega arith

      top : (k : ℕ) → k ≡ i → get_or ds k 0 < get_or ds i 0 + 1
      top k e = subst (λ (j : ℕ). get_or ds j 0 < get_or ds i 0 + 1) (sym e) (omega arith)

      here : wrong_picked ds ss i ≡ false
      here = right-here ds ss i (rises up) small clear

      at_most : (k : ℕ) → (k ≡ i) ⊎ (k < i) → wrong_picked ds ss k ≡ false
      at_most k (inl e) = subst (λ (j : ℕ). wrong_picked ds ss j ≡ false) (sym e) here
      at_most k (inr l) = s.right k l

  pub all_seen : length ds ≤ i → wrong14 ds ss ≡ false
  all_seen end = picked-right ds ss s.same (λ k h. s.right k (omega arith))
