-- The numbers that have a property as the bits of words: a bit more, a word more, and how many there are.
-- Assumes nothing.
use mir.Val.{bool_byte}
use Rattle.std.proofs.Common.{◌≡◌, refl, sym, ap, ap₂, ◌∙◌, Bool, true, false, cond, ◌&&◌, ◌||◌, ⊎_elim, List, [], ◌∷◌, ◌++◌, ℕ, zero, suc, ◌+◌, ◌-◌, ◌*◌, ◌/◌, ◌%◌, ◌^◌, ◌≤◌, ◌<◌, ltb, bit_or, length, get_or, set, length-append, arith, lt-ltb, le-ltb}
use lib.Count.{ones}
use lib.Seq.{get_or-set_same, get_or-set_other}
use Rattle.meaning.specs.Below.{count_below, list_below}
use Rattle.meaning.proofs.Below.{count-le}
use Rattle.meaning.proofs.Tests.{cmp, ltb-as-ltb}
use Rattle.bits.specs.Bit.{digit, bit, Bitmap}
use Rattle.bits.proofs.Laws.{bit-or, bit-zero, bit-low}
use Rattle.bits.proofs.Ranks.{ones-below}

-- the numbers below n alone
abbrev pub cut_at : ℕ → (ℕ → Bool) → ℕ → Bool
cut_at n p d = ltb d n && p d

-- ---- a bit more: the others go up by one place, and it stands below them
module _ (w x : ℕ) (b : Bool) (is : x ≡ bool_byte b) where
  -- the bit that was put in
  pub bit-below : bit 0 (bit_or (w * 2 % 2 ^ 32) x) ≡ b
  unfolding bit
  bit-below =
      let even : w * 2 % 2 ^ 32 % 2 ≡ 0 = omega arith in
      bit-or 0 (w * 2 % 2 ^ 32) x ∙ ap₂ (λ (n : ℕ) (y : ℕ). digit n || digit (y % 2)) even is ∙ of b
    where
      of : (b : Bool) → digit (bool_byte b % 2) ≡ b
      of true = refl
      of false = refl

  -- those that were there
  pub bits-above : (q : ℕ) → suc q < 32 → bit (suc q) (bit_or (w * 2 % 2 ^ 32) x) ≡ bit q w
  unfolding bit
  bits-above q h =
      let half : w * 2 % 2 ^ 32 / 2 ≡ w % 2 ^ 31 = omega arith in
      let parts : w / 2 ^ 31 * 2 ^ 31 + w % 2 ^ 31 ≡ w = omega arith in
      bit-or (suc q) (w * 2 % 2 ^ 32) x ∙ ap₂ (λ (n : ℕ) (y : ℕ). bit q n || bit q (y / 2)) half is ∙ ap (λ (n : ℕ). bit q (w % 2 ^ 31) || bit q n) (none b) ∙ ap (λ (t : Bool). bit q (w % 2 ^ 31) || t) (bit-zero q) ∙ or-none (bit q (w % 2 ^ 31))
      ∙ sym (bit-low 31 q (w / 2 ^ 31) (w % 2 ^ 31) (omega arith)) ∙ ap (bit q) parts
    where
      none : (b : Bool) → bool_byte b / 2 ≡ 0
      none true = refl
      none false = refl

      or-none : (a : Bool) → (a || false) ≡ a
      or-none true = refl
      or-none false = refl

-- the bits of some numbers from place j on, and then from place k on, the one before
module _ (takes : ℕ → Bool) (first count j k w x : ℕ) (b : Bool) (next : k + 1 ≡ j) (within : j ≤ count) (is : x ≡ bool_byte b) (taken : b ≡ takes (first + k)) (so_far : (p : ℕ) → p < 32 → bit p w ≡ (ltb p (count - j) && takes (first + j + p))) where
  pub one-more : (p : ℕ) → p < 32 → bit p (bit_or (w * 2 % 2 ^ 32) x) ≡ (ltb p (count - k) && takes (first + k + p))
  one-more zero h =
      let here : first + k ≡ first + k + 0 = omega arith in
      bit-below w x b is ∙ taken ∙ ap takes here ∙ sym (ap (λ (t : Bool). t && takes (first + k + 0)) (lt-ltb 0 (count - k) (omega arith)))
  one-more (suc q) h =
      let there : first + j + q ≡ first + k + suc q = omega (arith, next) in
      bits-above w x b is q h ∙ so_far q (omega arith) ∙ ap₂ (λ (t : Bool) (d : ℕ). t && takes d) (ltb-as-ltb q (count - j) (suc q) (count - k) (λ l. omega (arith, next)) (λ g. omega (arith, next))) there

-- ---- how many there are
pub list-count : (n : ℕ) (p : ℕ → Bool) → length (list_below n p) ≡ count_below n p
unfolding count_below list_below
list-count zero p = refl
list-count (suc n) p = go (list-count n p) (p n)
  where
    go : length (list_below n p) ≡ count_below n p → (b : Bool) → length (list_below n p ++ cond b (n ∷ []) []) ≡ count_below n p + cond b 1 0
    go e true = omega (arith, length-append (list_below n p) (n ∷ []))
    go e false = omega (arith, length-append (list_below n p) [])

pub count-same : (n : ℕ) (p q : ℕ → Bool) → ((i : ℕ) → i < n → p i ≡ q i) → count_below n p ≡ count_below n q
unfolding count_below
count-same zero p q h = refl
count-same (suc n) p q h = ap₂ (λ (k : ℕ) (b : Bool). k + cond b 1 0) (count-same n p q (λ i l. h i (omega arith))) (h n (omega arith))

pub count-joined : (m n : ℕ) (p : ℕ → Bool) → count_below (n + m) p ≡ count_below m p + count_below n (λ i. p (i + m))
unfolding count_below
count-joined m zero p = ap (λ (k : ℕ). count_below k p) (start m) ∙ nothing (count_below m p)
  where
    start : (m : ℕ) → 0 + m ≡ m
    start m = omega arith

    nothing : (k : ℕ) → k ≡ k + 0
    nothing k = omega arith
count-joined m (suc n) p =
    ap (λ (k : ℕ). count_below k p) (step n m) ∙ ap (λ (k : ℕ). k + cond (p (n + m)) 1 0) (count-joined m n p)
    ∙ three (count_below m p) (count_below n (λ i. p (i + m))) (cond (p (n + m)) 1 0)
  where
    step : (n m : ℕ) → suc n + m ≡ suc (n + m)
    step n m = omega arith

    three : (a b c : ℕ) → (a + b) + c ≡ a + (b + c)
    three a b c = omega arith

none-counted : (n : ℕ) → count_below n (λ i. false) ≡ 0
unfolding count_below
none-counted zero = refl
none-counted (suc n) = ap (λ (k : ℕ). k + 0) (none-counted n)

pub count-cut : (n m : ℕ) (p : ℕ → Bool) → n ≤ m → count_below m (cut_at n p) ≡ count_below n p
count-cut n m p h =
    let e : m ≡ (m - n) + n = omega arith in
    ap (λ (k : ℕ). count_below k (cut_at n p)) e ∙ count-joined n (m - n) (cut_at n p)
    ∙ ap₂ (λ (a b : ℕ). a + b) (count-same n (cut_at n p) p (λ i l. ap (λ (b : Bool). b && p i) (lt-ltb i n l))) (count-same (m - n) (λ i. cut_at n p (i + n)) (λ i. false) (λ i l. ap (λ (b : Bool). b && p (i + n)) (le-ltb (i + n) n (omega arith))) ∙ none-counted (m - n))
    ∙ plus-none (count_below n p)
  where
    plus-none : (k : ℕ) → k + 0 ≡ k
    plus-none k = omega arith

pub count-few : (n m : ℕ) (p : ℕ → Bool) → count_below m (cut_at n p) ≤ n
count-few n m p = ⊎_elim (λ h. omega (arith, count-le m (cut_at n p))) (λ h. omega (arith, count-cut n m p h, count-le n p)) (cmp m n)

-- ---- a word more
module _ (p : ℕ → Bool) (out : List ℕ) (w word : ℕ) (bits : (q : ℕ) → q < 32 → bit q w ≡ p (32 * word + q)) where
  pub bitmap-more : Bitmap p out 0 word → word < length out → Bitmap p (set out word w) 0 (word + 1)
  bitmap-more h l i q g k = ⊎_elim old (λ a. new (omega arith)) (cmp i word)
    where
      front : (i : ℕ) → 0 + i ≡ i
      front i = omega arith

      old : i < word → bit q (get_or (set out word w) (0 + i) 0) ≡ p (32 * i + q)
      old a = ap (λ (k : ℕ). bit q (get_or (set out word w) k 0)) (front i) ∙ ap (bit q) (get_or-set_other out word i w 0 (λ e. omega arith)) ∙ sym (ap (λ (k : ℕ). bit q (get_or out k 0)) (front i)) ∙ h i q a k

      new : i ≡ word → bit q (get_or (set out word w) (0 + i) 0) ≡ p (32 * i + q)
      new e = ap (λ (k : ℕ). bit q (get_or (set out word w) k 0)) (front i ∙ e) ∙ ap (bit q) (get_or-set_same out word w 0 l) ∙ bits q k ∙ sym (ap (λ (j : ℕ). p (32 * j + q)) e)

  pub count-word : w < 2 ^ 32 → (d : ℕ) → d ≡ 32 * word → count_below d p + ones w ≡ count_below (d + 32) p
  count-word f d e =
      let small : w % 2 ^ 32 ≡ w = omega arith in
      ap (λ (k : ℕ). count_below d p + k) (ap ones (sym small) ∙ ones-below 32 w ∙ count-same 32 (λ q. bit q w) (λ i. p (i + d)) (λ i l. bits i l ∙ ap p (omega (arith, e))))
      ∙ sym (ap (λ (k : ℕ). count_below k p) (turn d) ∙ count-joined d 32 p)
    where
      turn : (d : ℕ) → d + 32 ≡ 32 + d
      turn d = omega arith

-- a word that holds the next of the numbers that are left
module _ (n word w : ℕ) (f : ℕ → Bool) (small : w < 2 ^ 32) (is : (q : ℕ) → q < 32 → bit q w ≡ (ltb q (n - 32 * word) && f (32 * word + q))) where
  left-below : (q : ℕ) → ltb q (n - 32 * word) ≡ ltb (32 * word + q) n
  left-below q = ⊎_elim (λ l. lt-ltb q (n - 32 * word) l ∙ sym (lt-ltb (32 * word + q) n (omega arith))) (λ g. le-ltb q (n - 32 * word) g ∙ sym (le-ltb (32 * word + q) n (omega arith))) (cmp q (n - 32 * word))

  pub next-bits : (q : ℕ) → q < 32 → bit q w ≡ cut_at n f (32 * word + q)
  next-bits q h = is q h ∙ ap (λ (b : Bool). b && f (32 * word + q)) (left-below q)

  pub next-count : (out : List ℕ) (held : ℕ) → held ≡ count_below (32 * word) (cut_at n f) → held + ones w ≡ count_below (32 * (word + 1)) (cut_at n f)
  next-count out held g =
      let more : 32 * word + 32 ≡ 32 * (word + 1) = omega arith in
      ap (λ (k : ℕ). k + ones w) g ∙ count-word (cut_at n f) out w word next-bits small (32 * word) refl ∙ ap (λ (k : ℕ). count_below k (cut_at n f)) more
