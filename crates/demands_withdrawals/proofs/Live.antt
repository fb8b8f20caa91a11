-- Which documents are live once a bit is cleared, and a bit that is cleared twice. Assumes nothing.
use mathlib.Core.Path.{◌≡◌, refl, sym, ap, ◌∙◌}
use mathlib.Core.Logic.{inl, inr}
use mathlib.Core.Bool.{Bool, true, not, ◌&&◌, and-true, and-false}
use mathlib.Core.List.{List, [], ◌∷◌}
use Prim.Native.Nat.{ℕ, ◌+◌, ◌-◌, ◌/◌, ◌%◌, ◌^◌, ◌<◌}
use native.Mathlib.Omega.{arith}
use borrow.Author.Tests.{eqb-true, eqb-false, eq-eqb, ne_eqb}
use lib.Dec.{eqb}
use lib.ListN.{length, get_or, set, replicate, length-set, length-replicate, get_or-replicate, get_or-eq_default}
use lib.Seq.{set_out, set-set, get_or-set_same, get_or-set_other}
use Rattle.meaning.specs.Lent.{Index}
use Rattle.meaning.specs.Live.{is_live}
use Rattle.meaning.proofs.Tests.{decided, cmp}
use Rattle.demands_withdrawals.specs.Withdrawal.{live_words, clear_bit, cleared, withdrawn}
use Rattle.demands_withdrawals.proofs.Bits.{bit, cleared-bit, other-bit, clear-twice, set-bit, zero_bit}

-- ---- words in which a bit is cleared
-- the bit of document x
abbrev bit_of : List ℕ → ℕ → ℕ
bit_of words x = bit (get_or words (x / 64) 0) (x % 64)

pub length-cleared : (d : ℕ) (words : List ℕ) → length (cleared d words) ≡ length words
unfolding cleared
length-cleared d words = simp length-set

-- bit j of word i, also where there is no such word
cleared-here : (words : List ℕ) (i j : ℕ) → bit (get_or (set words i (clear_bit j (get_or words i 0))) i 0) j ≡ 0
cleared-here words i j = elim (cmp i (length words)) [
  | inl l ↦ ap (λ (w : ℕ). bit w j) (get_or-set_same words i (clear_bit j (get_or words i 0)) 0 l) ∙ cleared-bit j (get_or words i 0)
  | inr l ↦ ap (λ (w : ℕ). bit w j) (ap (λ (ws : List ℕ). get_or ws i 0) (set_out words i (clear_bit j (get_or words i 0)) l) ∙ get_or-eq_default words 0 l) ∙ zero_bit j
]

-- another bit of that word, and a bit of another word
same_word : (words : List ℕ) (i j j' : ℕ) → (j' ≡ j → ⊥) → bit (get_or (set words i (clear_bit j (get_or words i 0))) i 0) j' ≡ bit (get_or words i 0) j'
same_word words i j j' n = elim (cmp i (length words)) [
  | inl l ↦ ap (λ (w : ℕ). bit w j') (get_or-set_same words i (clear_bit j (get_or words i 0)) 0 l) ∙ other-bit j' j (get_or words i 0) n
  | inr l ↦ ap (λ (ws : List ℕ). bit (get_or ws i 0) j') (set_out words i (clear_bit j (get_or words i 0)) l)
]

other_word : (words : List ℕ) (i i' j j' : ℕ) → (i' ≡ i → ⊥) → bit (get_or (set words i (clear_bit j (get_or words i 0))) i' 0) j' ≡ bit (get_or words i' 0) j'
other_word words i i' j j' n = ap (λ (w : ℕ). bit w j') (get_or-set_other words i i' (clear_bit j (get_or words i 0)) 0 n)

-- the document's bit is 0
same-document : (d : ℕ) (words : List ℕ) → bit_of (cleared d words) d ≡ 0
unfolding cleared
same-document d words = cleared-here words (d / 64) (d % 64)

-- every other document's is as it was
other-document : (d x : ℕ) (words : List ℕ) → (x ≡ d → ⊥) → bit_of (cleared d words) x ≡ bit_of words x
unfolding cleared
other-document d x words n = elim (decided (eqb (x / 64) (d / 64))) [
  | inl e ↦
      let here : x / 64 ≡ d / 64 = eqb-true (x / 64) (d / 64) e in
      ap (λ (i : ℕ). bit (get_or (cleared d words) i 0) (x % 64)) here
      ∙ same_word words (d / 64) (d % 64) (x % 64) (λ f. n (apart x d here f))
      ∙ ap (λ (i : ℕ). bit (get_or words i 0) (x % 64)) (sym here)
  | inr e ↦ other_word words (d / 64) (x / 64) (d % 64) (x % 64) (eqb-false (x / 64) (d / 64) e)
]
  where
    apart : (x d : ℕ) → x / 64 ≡ d / 64 → x % 64 ≡ d % 64 → x ≡ d
    apart x d e f = omega arith

-- a bit in words in which every bit is set
bit-set : (n i j : ℕ) → i < n → j < 64 → bit (get_or (replicate n (2 ^ 64 - 1)) i 0) j ≡ 1
bit-set n i j l m = ap (λ (w : ℕ). bit w j) (get_or-replicate n i (2 ^ 64 - 1) 0 l) ∙ set-bit 64 j m

-- ---- the words of an index: those that are lent, or, where none are, words in which every bit is set
module _ (ix : Index) where
  pub words-lent : (length ix.live ≡ 0 → ⊥) → live_words ix ≡ ix.live
  unfolding live_words
  words-lent n = rw (ne_eqb (length ix.live) 0 n)

  pub words-written : length ix.live ≡ 0 → length (live_words ix) ≡ (ix.max_doc + 63) / 64
  unfolding live_words
  words-written z = rw (eq-eqb (length ix.live) 0 z) (length-replicate _ _)

  bit-written : (x : ℕ) → x < ix.max_doc → length ix.live ≡ 0 → bit_of (live_words ix) x ≡ 1
  unfolding live_words
  bit-written x l z = rw (eq-eqb (length ix.live) 0 z) (bit-set ((ix.max_doc + 63) / 64) (x / 64) (x % 64) (omega (arith, l)) (omega arith))

  -- there are none only where there are no documents
  no_words : length (live_words ix) ≡ 0 → (ix.max_doc + 63) / 64 ≡ 0
  no_words z = elim (decided (eqb (length ix.live) 0)) [
    | inl e ↦ sym (words-written (eqb-true (length ix.live) 0 e)) ∙ z
    | inr e ↦ let n = eqb-false (length ix.live) 0 e in absurd (n (sym (ap length (words-lent n)) ∙ z))
  ]

-- ---- live by the words
abbrev live_in : List ℕ → ℕ → Bool
live_in words x = eqb (bit_of words x) 1

live_lent : (ix : Index) (x : ℕ) → (length ix.live ≡ 0 → ⊥) → is_live ix x ≡ live_in ix.live x
unfolding is_live
live_lent ix x n = rw (ne_eqb (length ix.live) 0 n)

live_written : (ix : Index) (x : ℕ) → length ix.live ≡ 0 → is_live ix x ≡ true
unfolding is_live
live_written ix x z = rw (eq-eqb (length ix.live) 0 z)

-- a document below N is live exactly where its bit in the words is 1
live-words : (ix : Index) (x : ℕ) → x < ix.max_doc → is_live ix x ≡ live_in (live_words ix) x
live-words ix x l = elim (decided (eqb (length ix.live) 0)) [
  | inl e ↦ let z = eqb-true (length ix.live) 0 e in live_written ix x z ∙ sym (ap (λ (b : ℕ). eqb b 1) (bit-written ix x l z))
  | inr e ↦ let n = eqb-false (length ix.live) 0 e in live_lent ix x n ∙ ap (λ (words : List ℕ). live_in words x) (sym (words-lent ix n))
]

live-cleared : (d x : ℕ) (words : List ℕ) → live_in (cleared d words) x ≡ (live_in words x && not (eqb x d))
live-cleared d x words = elim (decided (eqb x d)) [
  | inl e ↦ rw e (ap (λ (y : ℕ). live_in (cleared d words) y) (eqb-true x d e) ∙ ap (λ (b : ℕ). eqb b 1) (same-document d words) ∙ sym (and-false (live_in words x)))
  | inr e ↦ rw e (ap (λ (b : ℕ). eqb b 1) (other-document d x words (eqb-false x d e)) ∙ sym (and-true (live_in words x)))
]

-- "clearing one live bit": the document is live no more, and every other one is as it was
pub live-exactly : (ix : Index) (d x : ℕ) → x < ix.max_doc → is_live (withdrawn ix d) x ≡ (is_live ix x && not (eqb x d))
unfolding withdrawn
live-exactly ix d x l =
    live_lent (withdrawn ix d) x (λ z. omega (arith, l, no_words ix (sym (length-cleared d (live_words ix)) ∙ z)))
    ∙ live-cleared d x (live_words ix) ∙ ap (λ (b : Bool). b && not (eqb x d)) (sym (live-words ix x l))

-- ---- a lot that is withdrawn twice
set_twice : (words : List ℕ) (i j : ℕ) → let once = set words i (clear_bit j (get_or words i 0)) in set once i (clear_bit j (get_or once i 0)) ≡ once
set_twice words i j =
    let v = clear_bit j (get_or words i 0) in
    set-set words i v (clear_bit j (get_or (set words i v) i 0))
    ∙ elim (cmp i (length words)) as (λ _. set words i (clear_bit j (get_or (set words i v) i 0)) ≡ set words i v) [
      | inl l ↦ ap (set words i) (ap (clear_bit j) (get_or-set_same words i v 0 l) ∙ clear-twice j (get_or words i 0))
      | inr l ↦ set_out words i (clear_bit j (get_or (set words i v) i 0)) l ∙ sym (set_out words i v l)
    ]

cleared-twice : (d : ℕ) (words : List ℕ) → cleared d (cleared d words) ≡ cleared d words
unfolding cleared
cleared-twice d words = set_twice words _ _

-- the words that were written are those that are lent from then on
words-kept : (ix : Index) (d : ℕ) → live_words (withdrawn ix d) ≡ cleared d (live_words ix)
unfolding withdrawn
words-kept ix d = elim (decided (eqb (length (withdrawn ix d).live) 0)) [
  | inl e ↦
      let z = eqb-true (length (withdrawn ix d).live) 0 e in
      let none = no_words ix (sym (length-cleared d (live_words ix)) ∙ z) in
      empty (live_words (withdrawn ix d)) (words-written (withdrawn ix d) z ∙ none) ∙ sym (empty (cleared d (live_words ix)) z)
  | inr e ↦ words-lent (withdrawn ix d) (eqb-false (length (withdrawn ix d).live) 0 e)
]
  where
    empty : (words : List ℕ) → length words ≡ 0 → words ≡ []
    empty [] z = refl
    empty (w ∷ ws) z = absurd (omega (arith, z))

pub withdrawn-twice : (ix : Index) (d : ℕ) → withdrawn (withdrawn ix d) d ≡ withdrawn ix d
unfolding withdrawn
withdrawn-twice ix d = ap (λ (words : List ℕ). record { max_doc = ix.max_doc; fields = ix.fields; leaves = ix.leaves; postings = ix.postings; positions = ix.positions; norms = ix.norms; live = words; columns = ix.columns; values = ix.values }) (ap (cleared d) (words-kept ix d) ∙ cleared-twice d (live_words ix))
