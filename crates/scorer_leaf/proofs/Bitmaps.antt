-- The next bit that is set in a bitmap: a word whose lower bits are skipped, none left in it or its lowest one. Assumes nothing.
use Rattle.std.proofs.Common.{◌≡◌, refl, sym, ap, ◌∙◌, Bool, true, false, not, ◌&&◌, ⊎_elim, List, ℕ, ◌+◌, ◌-◌, ◌*◌, ◌^◌, ◌≤◌, ◌<◌, ltb, length, get_or, take, drop, arith, lt-ltb, le-ltb}
use Rattle.std.proofs.lemmas.Bool.{false≢true}
use Rattle.std.proofs.lemmas.List.{get_or-take, get_or-drop, length-drop, length-take-le}
use Rattle.meaning.specs.Limits.{no_more_docs}
use Rattle.meaning.proofs.Tests.{cmp}
use Rattle.bits.specs.Bit.{bit, LowestBit, Bitmap}
use Rattle.bits.proofs.Laws.{bit-zero, bit-high}
use Rattle.scorer_leaf.specs.Search.{FirstSet, SeekRangePost}

-- a word of 32 bits has no others
pub no-more-bits : (q w : ℕ) → w < 2 ^ 32 → 32 ≤ q → bit q w ≡ false
no-more-bits q w h l = ap (bit q) (alone w) ∙ bit-high 32 q 0 w h l ∙ bit-zero (q - 32)
  where
    alone : (w : ℕ) → w ≡ 0 * 2 ^ 32 + w
    alone w = omega arith

and-not : (a b : Bool) → (a && not b) ≡ true → (a ≡ true) × (b ≡ false)
and-not true false e = (refl, refl)
and-not true true e = absurd (false≢true e)
and-not false b e = absurd (false≢true e)

not-below : (q n : ℕ) → ltb q n ≡ false → n ≤ q
not-below q n e = ⊎_elim (λ l. absurd (false≢true (sym e ∙ lt-ltb q n l))) (λ g. g) (cmp q n)

and-yes : (a : Bool) → (a && true) ≡ a
and-yes true = refl
and-yes false = refl

-- w is the word at `at` without the bits below `skip`
module _ (words : List ℕ) (target at skip below w : ℕ) (small : get_or words at 0 < 2 ^ 32) (narrow : skip < 32) (there : at < length words) (reached : target ≤ 32 * at + skip)
    (from : (q : ℕ) → bit q below ≡ ltb q skip) (is : (q : ℕ) → q < 64 → bit q w ≡ (bit q (get_or words at 0) && not (bit q below)))
    (before : (P : ℕ → Bool) → Bitmap P words 0 (length words) → (d : ℕ) → target ≤ d → d < 32 * at + skip → P d ≡ false) where
  left : (q : ℕ) → q < 64 → bit q w ≡ (bit q (get_or words at 0) && not (ltb q skip))
  left q h = is q h ∙ ap (λ (b : Bool). bit q (get_or words at 0) && not b) (from q)

  -- from `skip` on the word has the bits of w
  same : (q : ℕ) → q < 32 → skip ≤ q → bit q (get_or words at 0) ≡ bit q w
  same q h g = sym (left q (omega arith) ∙ ap (λ (b : Bool). bit q (get_or words at 0) && not b) (le-ltb q skip g) ∙ and-yes (bit q (get_or words at 0)))

  module _ (P : ℕ → Bool) (B : Bitmap P words 0 (length words)) where
    word : (q : ℕ) → q < 32 → P (32 * at + q) ≡ bit q (get_or words at 0)
    word q h = let e : 0 + at ≡ at = omega arith in sym (B at q there h) ∙ ap (λ (i : ℕ). bit q (get_or words i 0)) e

    in-word : (d : ℕ) → 32 * at + skip ≤ d → d < 32 * at + 32 → P d ≡ bit (d - 32 * at) w
    in-word d h g =
        let e : 32 * at + (d - 32 * at) ≡ d = omega arith in
        sym (ap P e) ∙ word (d - 32 * at) (omega arith) ∙ same (d - 32 * at) (omega arith) (omega arith)

  -- none is left: the search goes on with the next word
  pub none-left : w ≡ 0 → (P : ℕ → Bool) → Bitmap P words 0 (length words) → (d : ℕ) → target ≤ d → d < 32 * (at + 1) + 0 → P d ≡ false
  none-left e P B d h g = ⊎_elim (λ l. before P B d h l) (λ l. in-word P B d l (omega arith) ∙ ap (bit (d - 32 * at)) e ∙ bit-zero (d - 32 * at)) (cmp d (32 * at + skip))

  -- the lowest one
  pub lowest-within : (t : ℕ) → LowestBit w t → (t < 32) × (skip ≤ t)
  lowest-within t l =
      let p = and-not (bit t (get_or words at 0)) (ltb t skip) (sym (left t l.within) ∙ l.set) in
      (⊎_elim (λ h. h) (λ h. absurd (false≢true (sym (no-more-bits t (get_or words at 0) small h) ∙ p.0))) (cmp t 32), not-below t skip p.1)

  pub lowest-first : 32 * length words ≤ no_more_docs → (t r : ℕ) → LowestBit w t → r ≡ 32 * at + t → FirstSet words 0 (length words) target r
  lowest-first few t r l e P B over top =
      let in32 = lowest-within t l in
      record {
        from = omega (arith, in32.1);
        top = omega (arith, in32.0);
        before = λ d h g. ⊎_elim (λ k. before P B d h k) (λ k. in-word P B d k (omega (arith, in32.0)) ∙ l.below (d - 32 * at) (omega arith)) (cmp d (32 * at + skip));
        hit = λ _. ap P e ∙ in-word P B (32 * at + t) (omega (arith, in32.1)) (omega (arith, in32.0)) ∙ ap (λ (q : ℕ). bit q w) (apart at t) ∙ l.set;
      }
    where
      apart : (at t : ℕ) → (32 * at + t) - 32 * at ≡ t
      apart at t = omega arith

-- behind the last word nothing is set
pub none-first : (words : List ℕ) (target at skip : ℕ) → length words ≤ at → ((P : ℕ → Bool) → Bitmap P words 0 (length words) → (d : ℕ) → target ≤ d → d < 32 * at + skip → P d ≡ false) → FirstSet words 0 (length words) target no_more_docs
none-first words target at skip g before P B over top =
    record {
      from = top;
      top = omega arith;
      before = λ d h k. ⊎_elim (λ l. before P B d h l) (λ l. over d (omega arith)) (cmp d (32 * at + skip));
      hit = λ h. absurd (omega arith);
    }

-- ---- a bitmap as its own slice
abbrev pub slice : List ℕ → ℕ → ℕ → List ℕ
slice words first number = take (first + number - first) (drop first words)

slice-word : (n i first : ℕ) (words : List ℕ) → i < n → get_or (take n (drop first words)) i 0 ≡ get_or words (first + i) 0
slice-word n i first words l = get_or-take n (drop first words) i 0 l ∙ get_or-drop first words i 0

module _ (words : List ℕ) (first number : ℕ) (there : first + number ≤ length words) where
  slice-length : length (slice words first number) ≡ number
  slice-length = length-take-le (first + number - first) (drop first words) (omega (arith, there, length-drop first words)) ∙ omega arith

  module _ (P : ℕ → Bool) where
    pub slice-bitmap : Bitmap P words first number → Bitmap P (slice words first number) 0 (length (slice words first number))
    slice-bitmap B i q l m =
        let z : 0 + i ≡ i = omega arith in
        ap (λ (j : ℕ). bit q (get_or (slice words first number) j 0)) z ∙ ap (bit q) (slice-word (first + number - first) i first words (omega (arith, l, slice-length))) ∙ B i q (omega (arith, l, slice-length)) m

    pub slice-over : ((d : ℕ) → 32 * number ≤ d → P d ≡ false) → (d : ℕ) → 32 * length (slice words first number) ≤ d → P d ≡ false
    slice-over over d l = over d (omega (arith, l, slice-length))

  pub slice-first : (t r : ℕ) → FirstSet (slice words first number) 0 (length (slice words first number)) t r → FirstSet words first number t r
  slice-first t r first-set P B over top = first-set P (slice-bitmap P B) (slice-over P over) top

-- .. which a record says
pub range-slice : (words states : List ℕ) (t r : ℕ) → FirstSet (slice words (get_or states 6 0) (get_or states 7 0)) 0 (length (slice words (get_or states 6 0) (get_or states 7 0))) t r → SeekRangePost words states t r
range-slice words states t r first-set s w h =
    let f : get_or states 6 0 ≡ s.first = rw h.words_are in
    let n : get_or states 7 0 ≡ s.number = rw h.words_are in
    rw (f, n) at (slice-first words (get_or states 6 0) (get_or states 7 0) (omega (arith, f, n, h.there)) t r first-set)
