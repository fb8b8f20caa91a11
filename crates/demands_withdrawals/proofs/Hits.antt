-- The hits of a list without one document: about lists alone, so that later requests can cite it. Assumes nothing.
use mathlib.Core.Path.{◌≡◌, refl, sym, ap, ◌∙◌, subst}
use mathlib.Core.Logic.{inl, inr}
use mathlib.Core.Bool.{Bool, true, false, cond, true≢false, false≢true}
use mathlib.Core.List.{List, [], ◌∷◌, map}
use Prim.Native.Nat.{ℕ, suc, ◌+◌, ◌≤◌}
use native.Mathlib.Numerals.{add-one}
use native.Mathlib.Omega.{arith}
use borrow.Author.Tests.{eqb-true, ne_eqb}
use lib.Dec.{eqb}
use lib.ListN.{length, take, length-map}
use lib.IntN.{ℤ}
use Rattle.meaning.specs.Limits.{no_more_docs}
use Rattle.meaning.specs.FullList.{ScoreDoc}
use Rattle.meaning.specs.Hits.{code, to_doc, descending, hits}
use Rattle.meaning.proofs.Tests.{decided, cmp}
use Rattle.collector.proofs.Counts.{same, count, same-is}
use Rattle.collector.proofs.Sorted.{Desc, desc-descending, count-descending, unique}
use Rattle.collector.proofs.Best.{hits-is, length-descending}
use Rattle.collector.proofs.Ranked.{to_doc-code}
use Rattle.demands.proofs.Lists.{All}
use Rattle.demands.proofs.Rising.{Rises, rises-to, rises-each}
use Rattle.demands_withdrawals.specs.Withdrawal.{without_by, without, without_code, afterwards}
use Rattle.demands_withdrawals.proofs.Lists.{without_gone, without-kept, Apart, apart-same, take-without, without-map}

-- ---- taking a document's codes out of a list, and sorting it: which comes first does not matter
module _ (d : ℕ) where
  -- two codes are one only where their documents are
  apart-codes : (z x : ℤ) (b c : Bool) → eqb (to_doc z) d ≡ b → eqb (to_doc x) d ≡ c → (b ≡ c → ⊥) → same z x ≡ 0
  apart-codes z x b c e f n = elim (cmp 0 (same z x)) [
    | inl h ↦ absurd (n (sym e ∙ ap (λ (y : ℤ). eqb (to_doc y) d) (same-is z x h) ∙ f))
    | inr h ↦ omega (arith, h)
  ]

  -- d's codes are gone, and every other is there as often as it was
  count-without : (z : ℤ) (l : List ℤ) → count z (without_by to_doc d l) ≡ cond (eqb (to_doc z) d) 0 (count z l)
  unfolding without_by
  count-without z [] = none (eqb (to_doc z) d)
    where
      none : (b : Bool) → ◌≡◌ {A = ℕ} 0 (cond b 0 0)
      none true = refl
      none false = refl
  count-without z (x ∷ xs) = go (eqb (to_doc z) d) (eqb (to_doc x) d) refl refl (count-without z xs)
    where
      go : (b c : Bool) → eqb (to_doc z) d ≡ b → eqb (to_doc x) d ≡ c → count z (without_by to_doc d xs) ≡ cond (eqb (to_doc z) d) 0 (count z xs) → count z (without_by to_doc d (x ∷ xs)) ≡ cond b 0 (count z (x ∷ xs))
      go true true e f r = ap (count z) (without_gone to_doc d x xs f) ∙ (rw e at r)
      go true false e f r = let n : count z (without_by to_doc d xs) ≡ 0 = rw e at r in ap (count z) (without-kept to_doc d x xs f) ∙ omega (arith, n, apart-codes z x true false e f true≢false)
      go false true e f r = let n : count z (without_by to_doc d xs) ≡ count z xs = rw e at r in ap (count z) (without_gone to_doc d x xs f) ∙ omega (arith, n, apart-codes z x false true e f false≢true)
      go false false e f r = let n : count z (without_by to_doc d xs) ≡ count z xs = rw e at r in ap (count z) (without-kept to_doc d x xs f) ∙ ap (λ (m : ℕ). same z x + m) n

  fewer : (z : ℤ) (l : List ℤ) → count z (without_by to_doc d l) ≤ count z l
  fewer z l = go (eqb (to_doc z) d) (count-without z l)
    where
      go : (b : Bool) → count z (without_by to_doc d l) ≡ cond b 0 (count z l) → count z (without_by to_doc d l) ≤ count z l
      go true e = omega arith
      go false e = omega arith

  desc-without : (l : List ℤ) → Desc l → Desc (without_by to_doc d l)
  unfolding without_by
  desc-without [] s = tt
  desc-without (x ∷ xs) s = elim (decided (eqb (to_doc x) d)) [
    | inl e ↦ subst Desc (sym (without_gone to_doc d x xs e)) (desc-without xs s.1)
    | inr e ↦ subst Desc (sym (without-kept to_doc d x xs e)) (record { under = λ y h. s.0.under y (omega (arith, h, fewer y xs)) }, desc-without xs s.1)
  ]

  descending-without : (l : List ℤ) → descending (without_by to_doc d l) ≡ without_by to_doc d (descending l)
  descending-without l =
      unique (descending (without_by to_doc d l)) (without_by to_doc d (descending l)) (desc-descending (without_by to_doc d l)) (desc-without (descending l) (desc-descending l))
      (record { counts = λ z. count-descending z (without_by to_doc d l) ∙ count-without z l ∙ sym (count-without z (descending l) ∙ ap (λ (n : ℕ). cond (eqb (to_doc z) d) 0 n) (count-descending z l)) })

-- ---- a list whose documents rise: at most one entry goes
one-gone : (d b e : ℕ) (list : List ScoreDoc) → Rises b e list → length list ≤ length (without d list) + 1
unfolding without
one-gone d b e [] r = omega arith
one-gone d b e (h ∷ hs) r = elim (decided (eqb h.doc d)) [
  | inl g ↦
      omega (arith, ap length (without_gone (λ h. h.doc) d h hs g), ap length (apart-same (λ h. h.doc) d hs (apart hs (eqb-true h.doc d g) (rises-each (suc h.doc) e hs r.1))))
  | inr g ↦ omega (arith, ap length (without-kept (λ h. h.doc) d h hs g), one-gone d (suc h.doc) e hs r.1)
]
  where
    apart : (l : List ScoreDoc) → h.doc ≡ d → All (λ (g : ScoreDoc). suc h.doc ≤ g.doc) l → Apart (λ h. h.doc) d l
    apart [] p a = tt
    apart (g ∷ gs) p a = (ne_eqb g.doc d (λ z. omega (arith, a.0, p, z)), apart gs p a.1)

-- each entry's code tells its document
told : (b : ℕ) (list : List ScoreDoc) → Rises b no_more_docs list → All (λ (h : ScoreDoc). to_doc (code h) ≡ h.doc) list
told b [] r = tt
told b (h ∷ hs) r = (to_doc-code h (omega (arith, rises-to (suc h.doc) no_more_docs hs r.1)), told (suc h.doc) hs r.1)

-- "the first k of the k + 1 hits before, that lot taken out": of every list whose documents rise below NO_MORE_DOCS, as
-- those of a `Rankable` list do; scores are not asked
pub hits-without : (k d : ℕ) (list : List ScoreDoc) → Rises 0 no_more_docs list → hits k (without d list) ≡ afterwards k d (hits (k + 1) list)
unfolding without without_code afterwards
hits-without k d list r =
    let codes = map code list in
    let coded = without-map code (λ h. h.doc) to_doc d list (told 0 list r) in
    let few : length (descending codes) ≤ length (without_by to_doc d (descending codes)) + 1 = omega (arith, one-gone d 0 no_more_docs list r, length-descending codes, length-map list code, ap length (descending-without d codes), length-descending (without_by to_doc d codes), ap length coded, length-map (without d list) code) in
    hits-is k (without d list)
    ∙ ap (λ (l : List ℤ). take k (descending l)) (sym coded)
    ∙ ap (take k) (descending-without d codes)
    ∙ take-without to_doc d k (descending codes) few
    ∙ ap (λ (n : ℕ). take k (without_by to_doc d (take n (descending codes)))) (sym (add-one k))
    ∙ ap (λ (l : List ℤ). take k (without_by to_doc d l)) (sym (hits-is (k + 1) list))
