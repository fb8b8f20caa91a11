-- Blocks of a run, each with the last record of the one before: what is right in each is right in all. Assumes nothing.
use mathlib.Core.Path.{◌≡◌, refl, sym, ap, subst, ◌∙◌}
use mathlib.Core.Logic.{⊎_elim}
use mathlib.Core.Bool.{false}
use mathlib.Core.List.{List}
use Prim.Native.Nat.{ℕ, suc, ◌+◌, ◌-◌, ◌*◌, ◌/◌, ◌≤◌, ◌<◌}
use native.Mathlib.Omega.{arith}
use lib.ListN.{length, get_or, take, drop, length-take, length-drop}
use lib.Seq.{get_or-take, get_or-drop}
use borrow.Author.Tests.{lt-ltb, le-ltb}
use Rattle.meaning.specs.Below.{any_below, count_below}
use Rattle.meaning.specs.Limits.{largest_frequency}
use Rattle.meaning.proofs.Tests.{cmp}
use Rattle.meaning.proofs.Below.{any_none, none_below}
use Rattle.check_positions.specs.Places.{apart_at, wrong_places}
use Rattle.check_leaves.specs.Plain.{Plain, document_fall}
use Rattle.index.proofs.Chains.{count-like}
use Rattle.check_positions.proofs.Prefix.{count_add}

-- the first n records are plainly right but for their documents, of which so many are not above the one before; of the positions
-- it speaks as soon as there are two records
pub record Passed (run positions : List ℕ) (n falls : ℕ) : Type 0 where
  pub joined : (i : ℕ) → i < n → apart_at run i ≡ false
  pub some : 2 ≤ n → (i : ℕ) → i < n → 0 < get_or run (3 * i + 1) 0
  pub most : 2 ≤ n → (i : ℕ) → i < n → get_or run (3 * i + 1) 0 ≤ largest_frequency
  pub falling : count_below n (document_fall run) ≡ falls
  pub places : 2 ≤ n → (i : ℕ) → i < n → wrong_places run positions i ≡ false

apart-first : (run : List ℕ) (i : ℕ) → i < 1 → apart_at run i ≡ false
unfolding apart_at
apart-first run i l = rw (le-ltb 0 i (omega arith))

fall-first : (run : List ℕ) → count_below 1 (document_fall run) ≡ 0
unfolding count_below
fall-first run = refl

-- the same of a count by another name
pub passed-at : (run positions : List ℕ) (n m falls : ℕ) → n ≡ m → Passed run positions n falls → Passed run positions m falls
passed-at run positions n m falls e p = subst (λ (z : ℕ). Passed run positions z falls) e p

-- before the first block
pub passed-none : (run positions : List ℕ) → Passed run positions 1 0
passed-none run positions =
    record {
      joined = apart-first run;
      some = λ t. absurd (omega arith);
      most = λ t. absurd (omega arith);
      falling = fall-first run;
      places = λ t. absurd (omega arith);
    }

-- after the last
pub passed-all : (run positions : List ℕ) (n m falls falls' : ℕ) → Passed run positions n falls → 2 ≤ m → n ≡ m → falls ≡ falls' → Plain run m falls' × (any_below m (wrong_places run positions) ≡ false)
passed-all run positions n m falls falls' p t e f = (
  record {
    joined = any_none m (apart_at run) (λ i l. p.joined i (omega arith));
    some = λ i l. p.some (omega arith) i (omega arith);
    most = λ i l. p.most (omega arith) i (omega arith);
    falling = subst (λ (k : ℕ). count_below k (document_fall run) ≡ falls') e (p.falling ∙ f);
  },
  any_none m (wrong_places run positions) (λ i l. p.places (omega arith) i (omega arith)),
)

-- one block more
module _ (run positions : List ℕ) (n falls e : ℕ) (p : Passed run positions n falls) (some-done : 1 ≤ n) (more : n < e) (fits : e ≤ length run / 3) where
  abbrev pub part : List ℕ
  part = take (3 * e - (3 * n - 3)) (drop (3 * n - 3) run)

  pub part-count : length part / 3 ≡ e - (n - 1)
  part-count = simp (length-take, length-drop) (omega arith)

  word : (k m : ℕ) → k < 3 * e - (3 * n - 3) → 3 * n - 3 + k ≡ m → get_or part k 0 ≡ get_or run m 0
  word k m l g = get_or-take _ _ k 0 l ∙ get_or-drop _ run k 0 ∙ ap (λ (z : ℕ). get_or run z 0) g

  -- record i of the block is record n - 1 + i
  frequency-is : (i j : ℕ) → n - 1 + i ≡ j → j < e → get_or part (3 * i + 1) 0 ≡ get_or run (3 * j + 1) 0
  frequency-is i j g l = word (3 * i + 1) (3 * j + 1) (omega arith) (omega arith)

  apart-is : (i j : ℕ) → 0 < i → n - 1 + i ≡ j → j < e → apart_at part i ≡ apart_at run j
  unfolding apart_at
  apart-is i j b g l =
      let c : 0 < j = omega arith in
      rw (lt-ltb _ _ b, lt-ltb _ _ c, word (3 * i + 2) (3 * j + 2) (omega arith) (omega arith), word (3 * (i - 1) + 2) (3 * (j - 1) + 2) (omega arith) (omega arith), word (3 * (i - 1) + 1) (3 * (j - 1) + 1) (omega arith) (omega arith))

  fall-is : (i j : ℕ) → 0 < i → n - 1 + i ≡ j → j < e → document_fall part i ≡ document_fall run j
  fall-is i j b g l =
      let c : 0 < j = omega arith in
      rw (lt-ltb _ _ b, lt-ltb _ _ c, word (3 * i) (3 * j) (omega arith) (omega arith), word (3 * (i - 1)) (3 * (j - 1)) (omega arith) (omega arith))

  places-is : (i j : ℕ) → n - 1 + i ≡ j → j < e → wrong_places part positions i ≡ wrong_places run positions j
  unfolding wrong_places
  places-is i j g l = rw (word (3 * i + 2) (3 * j + 2) (omega arith) (omega arith), frequency-is i j g l)

  -- the documents that fall in the block are those that fall after its first record
  falls-are : count_below (e - (n - 1)) (document_fall part) ≡ count_below (e - n) (λ i. document_fall run (n + i))
  falls-are =
      let a : 1 + (e - n) ≡ e - (n - 1) = omega arith in
      let b : count_below (e - n) (λ i. document_fall part (1 + i)) ≡ count_below (e - n) (λ i. document_fall run (n + i)) = count-like (e - n) _ _ (λ i l. fall-is (1 + i) (n + i) (omega arith) (omega arith) (omega arith)) in
      omega (arith, ap (λ (k : ℕ). count_below k (document_fall part)) a, count_add 1 (e - n) (document_fall part), fall-first part, b)

  module _ (fallen : ℕ) (q : Plain part (length part / 3) fallen) (right : any_below (length part / 3) (wrong_places part positions) ≡ false) where
    -- an earlier record was looked at before
    pub passed-more : (falls' : ℕ) → falls' ≡ falls + fallen → Passed run positions e falls'
    passed-more falls' f =
        record {
          joined = λ i l. ⊎_elim (λ (b : i < n). p.joined i b) (λ (b : n ≤ i). sym (apart-is (i - (n - 1)) i (omega arith) (omega arith) l) ∙ none_below _ _ q.joined (i - (n - 1)) (omega (arith, part-count))) (cmp i n);
          some = λ t i l. ⊎_elim (λ (b : suc i < n). p.some (omega arith) i (omega arith)) (λ (b : n ≤ suc i). omega (arith, q.some (i - (n - 1)) (omega (arith, part-count)), frequency-is (i - (n - 1)) i (omega arith) l)) (cmp (suc i) n);
          most = λ t i l. ⊎_elim (λ (b : suc i < n). p.most (omega arith) i (omega arith)) (λ (b : n ≤ suc i). omega (arith, q.most (i - (n - 1)) (omega (arith, part-count)), frequency-is (i - (n - 1)) i (omega arith) l)) (cmp (suc i) n);
          falling = let a : n + (e - n) ≡ e = omega arith in omega (arith, f, p.falling, ap (λ (k : ℕ). count_below k (document_fall run)) a, count_add n (e - n) (document_fall run), falls-are, ap (λ (k : ℕ). count_below k (document_fall part)) part-count, q.falling);
          places = λ t i l. ⊎_elim (λ (b : suc i < n). p.places (omega arith) i (omega arith)) (λ (b : n ≤ suc i). sym (places-is (i - (n - 1)) i (omega arith) l) ∙ none_below _ _ right (i - (n - 1)) (omega (arith, part-count))) (cmp (suc i) n);
        }
