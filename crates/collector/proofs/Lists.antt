-- Lists of documents with scores, and which of them a code comes from. Assumes nothing.
use mathlib.Core.Path.{◌≡◌, sym, ap, ◌∙◌, subst}
use mathlib.Core.Logic.{inl, inr}
use mathlib.Core.Bool.{not}
use mathlib.Core.List.{List, [], ◌∷◌, ◌++◌, map}
use Prim.Native.Nat.{ℕ, ◌+◌, ◌^◌, ◌≤◌, ◌<◌}
use native.Mathlib.Nat.{not-suc-le-zero}
use native.Mathlib.Omega.{arith}
use lib.Dec.{T}
use lib.ListN.{length, length-append}
use lib.IntN.{ℤ, pos}
use lib.Signed.{shr_z}
use lib.Ieee.{Float, binary32, fits, nan_bits, to_bits}
use Rattle.meaning.specs.Ieee754.{sortable_bits}
use Rattle.meaning.specs.FullList.{ScoreDoc}
use Rattle.meaning.specs.Hits.{code, to_score, hits}
use Rattle.ieee754.specs.Nonneg.{sign_clear}
use Rattle.ieee754.proofs.Patterns.{clear-number}
use Rattle.collector.specs.Heap.{at}
use Rattle.collector.specs.Collected.{ScoredHit, AllScored, Listed}
use Rattle.collector.proofs.Counts.{count, Alike, in-head-or-tail, count-take, counted}
use Rattle.collector.proofs.Sorted.{count-descending}
use Rattle.collector.proofs.Best.{ranked, hits-is}
use Rattle.collector.proofs.Ranked.{score_bits, to_score-code, code-number}

pub all-below : (b b' : ℕ) (list : List ScoreDoc) → b ≤ b' → AllScored b list → AllScored b' list
all-below b b' [] l s = tt
all-below b b' (h ∷ hs) l s = (record { below = omega (arith, l, s.0.below); fits = s.0.fits; clear = s.0.clear }, all-below b b' hs l s.1)

all-last : (b : ℕ) (list : List ScoreDoc) (h : ScoreDoc) → AllScored b list → ScoredHit b h → AllScored b (list ++ (h ∷ []))
all-last b [] h s t = (t, tt)
all-last b (g ∷ gs) h s t = (s.0, all-last b gs h s.1 t)

pub one-longer : (list : List ScoreDoc) (h : ScoreDoc) → length (list ++ (h ∷ [])) ≡ length list + 1
one-longer list h = length-append list (h ∷ [])

pub scored-new : (h : ScoreDoc) → T (fits binary32 h.score) → T (sign_clear h.score) → ScoredHit (h.doc + 1) h
scored-new h F p = record { below = omega arith; fits = F; clear = p }

pub listed-extended : (b : ℕ) (list : List ScoreDoc) (h : ScoreDoc) → Listed b list → b ≤ h.doc → ScoredHit (h.doc + 1) h → Listed (h.doc + 1) (list ++ (h ∷ []))
listed-extended b list h l e s =
    record { few = omega (arith, one-longer list h, l.few, e); each = all-last (h.doc + 1) list h (all-below b (h.doc + 1) list (omega (arith, e)) l.each) s }

-- a code and the document with its score that it comes from
pub record From (b : ℕ) (m : ℤ) : Type 0 where
  pub source : ScoreDoc
  pub scored : ScoredHit b source
  pub is : m ≡ code source

from_list : (b : ℕ) (m : ℤ) (list : List ScoreDoc) → AllScored b list → 0 < count m (map code list) → From b m
from_list b m [] s h = absurd (not-suc-le-zero h)
from_list b m (g ∷ gs) s h = elim (in-head-or-tail m (code g) (map code gs) h) [
  | inl e ↦ record { source = g; scored = s.0; is = e }
  | inr e ↦ from_list b m gs s.1 e
]

-- each code of a list with the counts of the hits comes from the list
pub held-from : (k b : ℕ) (list : List ScoreDoc) (xs : List ℤ) → AllScored b list → Alike xs (hits k list) → (i : ℕ) → i < length xs → From b (at xs i)
held-from k b list xs s a i h =
    let x = at xs i in
    from_list b x list s
    (omega (arith, counted xs i (pos 0) h, a.counts x, ap (count x) (hits-is k list), count-take x k (ranked list), count-descending x (map code list)))

module _ (b : ℕ) (m : ℤ) (f : From b m) where
  pub from-score : to_score m ≡ f.source.score
  from-score = ap to_score f.is ∙ to_score-code f.source f.scored.fits

  pub from-fits : T (fits binary32 (to_score m))
  from-fits = subst (λ (x : Float). T (fits binary32 x)) (sym from-score) f.scored.fits

  pub from-clear : T (sign_clear (to_score m))
  from-clear = subst (λ (x : Float). T (sign_clear x)) (sym from-score) f.scored.clear

  pub from_bits : to_bits binary32 (to_score m) ≡ score_bits f.source
  from_bits = ap (to_bits binary32) from-score

  pub from-number : T (not (nan_bits binary32 (sortable_bits (shr_z m (2 ^ 32)))))
  from-number = subst (λ (z : ℤ). T (not (nan_bits binary32 (sortable_bits (shr_z z (2 ^ 32)))))) (sym f.is) (code-number f.source f.scored.fits (clear-number f.source.score f.scored.clear))
