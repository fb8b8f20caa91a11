-- What refusal 12 asks for, as the code comes to it. Assumes nothing.
use mathlib.Core.Path.{◌≡◌, refl, ◌∙◌, ap}
use mathlib.Core.Bool.{cond}
use mathlib.Core.List.{List}
use Prim.Native.Nat.{ℕ, ◌+◌, ◌-◌, ◌*◌, ◌/◌, ◌^◌, ◌≤◌, ◌<◌}
use native.Mathlib.Omega.{arith}
use native.Mathlib.Nat.{mul-le-mul, lt_of_le_of_lt}
use lib.Dec.{eqb, lit<}
use lib.ListN.{length, get_or, take, drop, length-take, length-drop}
use lib.Seq.{get_or-take, get_or-drop}
use borrow.Author.Tests.{eq-eqb, ne_eqb}
use Rattle.meaning.specs.Below.{count_below, largest_below}
use Rattle.meaning.specs.Lent.{Index, leaf_first, leaf_number}
use Rattle.meaning.specs.Query.{record_count, record_kind, record_value}
use Rattle.meaning.specs.CallRefusals.{range_records, ranges_needed, largest_in, starts_needed}
use Rattle.query.specs.Read.{PhraseRuns}
use Rattle.meaning.proofs.Below.{count-le}
use Rattle.check_query.proofs.Chains.{largest-like}

-- ---- ranges
pub ranges-counted : (q : List ℕ) → count_below (record_count q) (λ r. eqb (record_kind q r) 4) ≡ range_records q
unfolding range_records
ranges-counted q = refl

pub few-ranges : (q : List ℕ) (n : ℕ) → n ≡ range_records q → n ≤ record_count q
unfolding range_records
few-ranges q n e = let h = count-le (record_count q) (λ r. eqb (record_kind q r) 4) in omega (arith, e, h)

pub product-fits : (m n : ℕ) → m < 2 ^ 32 → n ≤ 256 → m * (n + 1) < 2 ^ 64
product-fits m n h g =
    let a : m ≤ 4294967295 = omega (arith, h) in
    let b : n + 1 ≤ 257 = omega (arith, g) in
    let big : m * (n + 1) ≤ 4294967295 * 257 = mul-le-mul a b in
    lt_of_le_of_lt big (lit< tt)

pub no-ranges : (ix : Index) (q : List ℕ) (n : ℕ) → n ≡ range_records q → n ≡ 0 → 0 ≡ ranges_needed ix q
unfolding ranges_needed
no-ranges ix q n e z = rw (← e, eq-eqb n 0 z)

pub ranges-words : (ix : Index) (q : List ℕ) (n : ℕ) → n ≡ range_records q → (n ≡ 0 → ⊥) → ix.max_doc * (n + 1) ≡ ranges_needed ix q
unfolding ranges_needed
ranges-words ix q n e z = rw (← e, ne_eqb n 0 z)

-- ---- starts
-- a run of its own, and the same among all postings
pub run-largest : (postings run : List ℕ) (first number : ℕ) → run ≡ take (3 * (first + number) - 3 * first) (drop (3 * first) postings) → 3 * (first + number) ≤ length postings → largest_below (length run / 3) (λ i. get_or run (3 * i + 1) 0) ≡ largest_below number (λ i. get_or postings (3 * (first + i) + 1) 0)
run-largest postings run first number is within =
    ap (λ (z : ℕ). largest_below z (λ i. get_or run (3 * i + 1) 0)) count ∙ largest-like number (λ i. get_or run (3 * i + 1) 0) (λ i. get_or postings (3 * (first + i) + 1) 0) same
  where
    count : length run / 3 ≡ number
    count = let long = ap length is ∙ length-take (3 * (first + number) - 3 * first) (drop (3 * first) postings) in let left = length-drop (3 * first) postings in omega (arith, long, left, within)

    same : (i : ℕ) → i < number → get_or run (3 * i + 1) 0 ≡ get_or postings (3 * (first + i) + 1) 0
    same i h =
        let there : 3 * first + (3 * i + 1) ≡ 3 * (first + i) + 1 = omega arith in
        ap (λ (z : List ℕ). get_or z (3 * i + 1) 0) is ∙ get_or-take (3 * (first + number) - 3 * first) (drop (3 * first) postings) (3 * i + 1) 0 (omega arith) ∙ get_or-drop (3 * first) postings (3 * i + 1) 0 ∙ ap (λ (z : ℕ). get_or postings z 0) there

abbrev pub starts_at : Index → List ℕ → ℕ → ℕ
starts_at ix q r = cond (eqb (record_kind q r) 9) (largest_in ix (record_value q r 0)) 0

module _ (ix : Index) (q : List ℕ) (r l first number : ℕ) (k : record_kind q r ≡ 9) (e : l ≡ record_value q r 0) (f : first ≡ leaf_first ix l) (n : number ≡ leaf_number ix l) where
  first-is : first ≡ leaf_first ix (record_value q r 0)
  first-is = f ∙ ap (leaf_first ix) e

  number_is : number ≡ leaf_number ix (record_value q r 0)
  number_is = n ∙ ap (leaf_number ix) e

  pub run-within : PhraseRuns ix q → r < record_count q → 3 * (first + number) ≤ length ix.postings
  run-within p h = let w = p.within r h k in let a = first-is in let b = number_is in omega (arith, w, a, b)

  pub leaf-starts : largest_below number (λ i. get_or ix.postings (3 * (first + i) + 1) 0) ≡ starts_at ix q r
  unfolding largest_in
  leaf-starts =
      rw (eq-eqb (record_kind q r) 9 k)
      (ap (λ (z : ℕ). largest_below z (λ i. get_or ix.postings (3 * (first + i) + 1) 0)) number_is
      ∙ ap (λ (z : ℕ). largest_below (leaf_number ix (record_value q r 0)) (λ i. get_or ix.postings (3 * (z + i) + 1) 0)) first-is)

pub starts-all : (ix : Index) (q : List ℕ) (n : ℕ) → n ≡ record_count q → largest_below n (starts_at ix q) ≡ starts_needed ix q
unfolding starts_needed
starts-all ix q n e = rw e
