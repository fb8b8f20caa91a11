-- Codes of documents with scores: the round trip, and their order. Assumes nothing.
use mathlib.Core.Path.{◌≡◌, refl, sym, ap, ◌∙◌, subst}
use mathlib.Core.Logic.{inl, inr}
use mathlib.Core.Bool.{Bool, not, ◌&&◌, ◌||◌}
use Prim.Native.Nat.{ℕ, ◌+◌, ◌-◌, ◌*◌, ◌%◌, ◌^◌, ◌≤◌, ◌<◌}
use native.Mathlib.Decide.{dec_lt}
use native.Mathlib.Omega.{arith}
use borrow.Author.Tests.{lt-ltb, le-ltb, le-leb, lt-leb}
use lib.Dec.{T, leb, ltb, lt→ltb, leb→le}
use lib.IntN.{ℤ, pos, ◌+ℤ◌, ◌*ℤ◌}
use lib.Signed.{lt_z, shr_z, ◌≤ℤ◌, ◌<ℤ◌}
use lib.Ieee.{is_nan, binary32, fits, nan_bits, to_bits, of_bits, lt, le}
use lib.Ieee.Bits.{of_bits-to_bits, to_bits-lt, nan_bits_is}
use Rattle.meaning.specs.Limits.{no_more_docs}
use Rattle.meaning.specs.Ieee754.{sortable_int, sortable_bits}
use Rattle.meaning.specs.FullList.{ScoreDoc}
use Rattle.meaning.specs.Hits.{code, to_doc, to_score}
use Rattle.ieee754.specs.Nonneg.{sign_clear}
use Rattle.ieee754.proofs.Patterns.{clear-bits, clear-lt, clear-le}
use Rattle.collector.specs.Collected.{ScoredHit}
use Rattle.collector.proofs.Halves.{clear-or-set, sortable-clear, sortable-set, low-joined, high-joined}

abbrev pub score_bits : ScoreDoc → ℕ
score_bits h = to_bits binary32 h.score

-- ---- the round trip, for every score that is an f32: negative and infinite too
pub sortable-back : (b : ℕ) → b < 2 ^ 32 → sortable_bits (sortable_int b) ≡ b
unfolding sortable_bits
sortable-back b h = elim (clear-or-set b) [
  | inl k ↦ ap sortable_bits (sortable-clear b k)
  | inr k ↦ ap sortable_bits (sortable-set b k) ∙ go b h k
]
  where
    go : (b : ℕ) → b < 2 ^ 32 → 2 ^ 31 ≤ b → 2 ^ 31 + b % 2 ^ 31 ≡ b
    go b h k = omega arith

pub to_doc-code : (h : ScoreDoc) → h.doc ≤ no_more_docs → to_doc (code h) ≡ h.doc
unfolding to_doc code
to_doc-code h d = ap (λ (n : ℕ). no_more_docs - n) (low-joined (sortable_int (score_bits h)) (no_more_docs - h.doc) (omega arith)) ∙ omega arith

pub high-code : (h : ScoreDoc) → T (fits binary32 h.score) → sortable_bits (shr_z (code h) (2 ^ 32)) ≡ score_bits h
unfolding code
high-code h F =
    ap sortable_bits (high-joined (sortable_int (score_bits h)) (no_more_docs - h.doc) (omega arith)) ∙ sortable-back (score_bits h) (to_bits-lt binary32 h.score F)

pub to_score-code : (h : ScoreDoc) → T (fits binary32 h.score) → to_score (code h) ≡ h.score
unfolding to_score
to_score-code h F = ap (of_bits binary32) (high-code h F) ∙ of_bits-to_bits binary32 h.score F

-- what `to_score` requires of a code
pub code-number : (h : ScoreDoc) → T (fits binary32 h.score) → T (not (is_nan h.score)) → T (not (nan_bits binary32 (sortable_bits (shr_z (code h) (2 ^ 32)))))
code-number h F N =
    subst (λ (n : ℕ). T (not (nan_bits binary32 n))) (sym (high-code h F))
    (subst (λ (b : Bool). T (not b)) (sym (nan_bits_is binary32 (score_bits h) ∙ ap is_nan (of_bits-to_bits binary32 h.score F))) N)

-- ---- scores that are not negative
pub clear-code : (h : ScoreDoc) → T (fits binary32 h.score) → T (sign_clear h.score) → code h ≡ pos (score_bits h * 4294967296 + (no_more_docs - h.doc))
unfolding code
clear-code h F p = ap (λ (z : ℤ). z *ℤ pos (2 ^ 32) +ℤ pos (no_more_docs - h.doc)) (sortable-clear (score_bits h) (omega (arith, clear-bits h.score F p)))

module _ (b b' : ℕ) (g h : ScoreDoc) (s : ScoredHit b g) (t : ScoredHit b' h) where
  both-lt : score_bits g * 4294967296 + (no_more_docs - g.doc) < score_bits h * 4294967296 + (no_more_docs - h.doc) → code g <ℤ code h
  both-lt l =
      subst (λ (z : ℤ). z <ℤ code h) (sym (clear-code g s.fits s.clear))
      (subst (λ (z : ℤ). pos (score_bits g * 4294967296 + (no_more_docs - g.doc)) <ℤ z) (sym (clear-code h t.fits t.clear)) (record { lt = lt→ltb _ _ l }))

  -- a higher score ranks higher
  pub code-above : score_bits g < score_bits h → code g <ℤ code h
  code-above l = both-lt (go (score_bits g) (score_bits h) g.doc h.doc l)
    where
      go : (a c d e : ℕ) → a < c → a * 4294967296 + (2147483647 - d) < c * 4294967296 + (2147483647 - e)
      go a c d e l = omega arith

  -- at one score the later document ranks lower
  pub code-later : score_bits g ≤ score_bits h → h.doc < g.doc → g.doc ≤ no_more_docs → code g <ℤ code h
  code-later l d e = both-lt (go (score_bits g) (score_bits h) g.doc h.doc l d e)
    where
      go : (a c d e : ℕ) → a ≤ c → e < d → d ≤ 2147483647 → a * 4294967296 + (2147483647 - d) < c * 4294967296 + (2147483647 - e)
      go a c d e l k m = omega arith

  pub code-bits : code g ≤ℤ code h → score_bits g ≤ score_bits h
  code-bits l = go (score_bits g) (score_bits h) g.doc h.doc (leb→le _ _ (both (clear-code g s.fits s.clear) (clear-code h t.fits t.clear) l))
    where
      both : {x y : ℤ} {m n : ℕ} → x ≡ pos m → y ≡ pos n → x ≤ℤ y → T (leb m n)
      both {x} {y} {m} {n} p q l = (subst (λ (z : ℤ). pos m ≤ℤ z) q (subst (λ (z : ℤ). z ≤ℤ y) p l)).le

      go : (a c d e : ℕ) → a * 4294967296 + (2147483647 - d) ≤ c * 4294967296 + (2147483647 - e) → a ≤ c
      go a c d e l = omega arith

  -- codes compare as the score, and then the lower document
  pub code-order : g.doc ≤ no_more_docs → h.doc ≤ no_more_docs → lt_z (code g) (code h) ≡ (lt g.score h.score || (le g.score h.score && ltb h.doc g.doc))
  code-order d e =
      ap (λ (z : ℤ). lt_z z (code h)) (clear-code g s.fits s.clear)
      ∙ ap (lt_z (pos (score_bits g * 4294967296 + (no_more_docs - g.doc)))) (clear-code h t.fits t.clear)
      ∙ go (score_bits g) (score_bits h) g.doc h.doc d e
      ∙ sym (ap (λ (z : Bool). z || (le g.score h.score && ltb h.doc g.doc)) (clear-lt g.score h.score s.fits t.fits s.clear t.clear)
      ∙ ap (λ (z : Bool). ltb (score_bits g) (score_bits h) || (z && ltb h.doc g.doc)) (clear-le g.score h.score s.fits t.fits s.clear t.clear))
    where
      up : (a c d e : ℕ) → a < c → a * 4294967296 + (2147483647 - d) < c * 4294967296 + (2147483647 - e)
      up a c d e l = omega arith

      down : (a c d e : ℕ) → c < a → c * 4294967296 + (2147483647 - e) ≤ a * 4294967296 + (2147483647 - d)
      down a c d e l = omega arith

      earlier : (a c d e : ℕ) → a ≡ c → e < d → d ≤ 2147483647 → a * 4294967296 + (2147483647 - d) < c * 4294967296 + (2147483647 - e)
      earlier a c d e p l m = omega arith

      later : (a c d e : ℕ) → a ≡ c → d ≤ e → e ≤ 2147483647 → c * 4294967296 + (2147483647 - e) ≤ a * 4294967296 + (2147483647 - d)
      later a c d e p l m = omega arith

      tests : {x p q r p' q' r' : Bool} → p ≡ p' → q ≡ q' → r ≡ r' → x ≡ (p' || (q' && r')) → x ≡ (p || (q && r))
      tests {x} {p} {q} {r} {p'} {q'} {r'} e f g k = k ∙ sym (ap (λ (z : Bool). z || (q && r)) e ∙ ap (λ (z : Bool). p' || (z && r)) f ∙ ap (λ (z : Bool). p' || (q' && z)) g)

      go : (a c d e : ℕ) → d ≤ 2147483647 → e ≤ 2147483647 → ltb (a * 4294967296 + (2147483647 - d)) (c * 4294967296 + (2147483647 - e)) ≡ (ltb a c || (leb a c && ltb e d))
      go a c d e D E = elim (dec_lt a c) [
        | yes l ↦ tests (lt-ltb a c l) (le-leb a c (omega (arith, l))) refl (lt-ltb _ _ (up a c d e l))
        | no n ↦ elim (dec_lt c a) [
          | yes l ↦ tests (le-ltb a c (omega (arith, l))) (lt-leb a c l) refl (le-ltb _ _ (down a c d e l))
          | no m ↦
              let p : a ≡ c = omega (arith, n, m) in
              elim (dec_lt e d) [
                | yes l ↦ tests (le-ltb a c (omega (arith, p))) (le-leb a c (omega (arith, p))) (lt-ltb e d l) (lt-ltb _ _ (earlier a c d e p l D))
                | no o ↦ let k : d ≤ e = omega (arith, o) in tests (le-ltb a c (omega (arith, p))) (le-leb a c (omega (arith, p))) (le-ltb e d k) (le-ltb _ _ (later a c d e p k E))
              ]
        ]
      ]
