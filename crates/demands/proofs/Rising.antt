-- Lists of matches whose documents rise, and what is at or after the next of them. Assumes nothing.
use mathlib.Core.Path.{◌≡◌, refl, sym, ap, ◌∙◌, subst}
use mathlib.Core.Logic.{inl, inr}
use mathlib.Core.Bool.{Bool}
use mathlib.Core.List.{List, [], ◌∷◌, ◌++◌, map, map-append}
use Prim.Native.Nat.{ℕ, zero, suc, ◌≤◌}
use native.Mathlib.Omega.{arith}
use borrow.Author.Tests.{le-leb, lt-leb}
use lib.ListN.{length, drop, drop_of_length-le}
use Rattle.meaning.specs.Limits.{no_more_docs}
use Rattle.meaning.specs.Below.{list_below}
use Rattle.meaning.specs.Lent.{Index}
use Rattle.meaning.specs.Query.{Tree}
use Rattle.meaning.specs.FullList.{ScoreDoc, matches, full_list}
use Rattle.meaning.specs.Pages.{from_target, first_doc}
use Rattle.doc_values.proofs.Lists.{decided, list-taken, list_left}
use Rattle.demands.proofs.Lists.{All}

-- each document is above the one before it; the first is not below b, and all are below e
abbrev pub Rises : ℕ → ℕ → List ScoreDoc → Type 0
Rises b e [] = b ≤ e
Rises b e (h ∷ hs) = (b ≤ h.doc) × Rises (suc h.doc) e hs

pub rises-to : (b e : ℕ) (list : List ScoreDoc) → Rises b e list → b ≤ e
rises-to b e [] r = r
rises-to b e (h ∷ hs) r = omega (arith, r.0, rises-to (suc h.doc) e hs r.1)

pub rises-below : (b e e' : ℕ) (list : List ScoreDoc) → e ≤ e' → Rises b e list → Rises b e' list
rises-below b e e' [] l r = omega (arith, l, r)
rises-below b e e' (h ∷ hs) l r = (r.0, rises-below (suc h.doc) e e' hs l r.1)

pub rises-last : (b e : ℕ) (list : List ScoreDoc) (h : ScoreDoc) → e ≤ h.doc → Rises b e list → Rises b (suc h.doc) (list ++ (h ∷ []))
rises-last b e [] h l r = (omega (arith, l, r), omega arith)
rises-last b e (g ∷ gs) h l r = (r.0, rises-last (suc g.doc) e gs h l r.1)

pub rises-each : (b e : ℕ) (list : List ScoreDoc) → Rises b e list → All (λ (h : ScoreDoc). b ≤ h.doc) list
rises-each b e list r = go b list (omega arith) r
  where
    go : (s : ℕ) (l : List ScoreDoc) → b ≤ s → Rises s e l → All (λ (h : ScoreDoc). b ≤ h.doc) l
    go s [] h r = tt
    go s (g ∷ gs) h r = (omega (arith, h, r.0), go (suc g.doc) gs (omega (arith, h, r.0)) r.1)

-- ---- the full list
rises-listed : (f : ℕ → ScoreDoc) → ((d : ℕ) → (f d).doc ≡ d) → (p : ℕ → Bool) (n : ℕ) → Rises 0 n (map f (list_below n p))
unfolding list_below
rises-listed f i p zero = omega arith
rises-listed f i p (suc n) = elim (decided (p n)) [
  | inl e ↦
      subst (λ (l : List ScoreDoc). Rises 0 (suc n) l) (sym (ap (map f) (list-taken p n e) ∙ map-append f (list_below n p) (n ∷ [])))
      (subst (λ (m : ℕ). Rises 0 (suc m) (map f (list_below n p) ++ (f n ∷ []))) (i n) (rises-last 0 n (map f (list_below n p)) (f n) (omega (arith, i n)) (rises-listed f i p n)))
  | inr e ↦ subst (λ (l : List ScoreDoc). Rises 0 (suc n) l) (sym (ap (map f) (list_left p n e))) (rises-below 0 n (suc n) (map f (list_below n p)) (omega arith) (rises-listed f i p n))
]

pub full-rises : (ix : Index) (t : Tree) → Rises 0 ix.max_doc (full_list ix t)
unfolding full_list matches
full-rises ix t = rises-listed _ (λ d. refl) _ ix.max_doc

-- ---- what is at or after a target
pub from_all : (s b e : ℕ) (list : List ScoreDoc) → s ≤ b → Rises b e list → from_target s list ≡ list
unfolding from_target
from_all s b e [] l r = refl
from_all s b e (h ∷ hs) l r =
    rw (le-leb s h.doc (omega (arith, l, r.0)))
    (ap (λ (x : List ScoreDoc). h ∷ x) (from_all s (suc h.doc) e hs (omega (arith, l, r.0)) r.1))

first_above : (b e m : ℕ) (list : List ScoreDoc) → e ≤ no_more_docs → Rises b e list → b ≤ first_doc (drop m list)
unfolding first_doc
first_above b e zero [] l r = omega (arith, l, r)
first_above b e (suc m) [] l r = omega (arith, l, r)
first_above b e zero (h ∷ hs) l r = r.0
first_above b e (suc m) (h ∷ hs) l r = omega (arith, r.0, first_above (suc h.doc) e m hs l r.1)

-- from the next match on: what is left
pub from_next : (b e m : ℕ) (list : List ScoreDoc) → e ≤ no_more_docs → Rises b e list → from_target (first_doc (drop m list)) list ≡ drop m list
unfolding from_target first_doc
from_next b e zero [] l r = refl
from_next b e (suc m) [] l r = refl
from_next b e zero (h ∷ hs) l r = from_all h.doc h.doc e (h ∷ hs) (omega arith) (omega arith, r.1)
from_next b e (suc m) (h ∷ hs) l r =
    rw (lt-leb (first_doc (drop m hs)) h.doc (first_above (suc h.doc) e m hs l r.1))
    (from_next (suc h.doc) e m hs l r.1)

-- ---- no next match exactly where nothing is left
pub none-next : (n : ℕ) (list : List ScoreDoc) → length list ≤ n → first_doc (drop n list) ≡ no_more_docs
unfolding first_doc
none-next n list h = ap first_doc (drop_of_length-le list h)

pub next-none : (b e n : ℕ) (list : List ScoreDoc) → e ≤ no_more_docs → Rises b e list → first_doc (drop n list) ≡ no_more_docs → length list ≤ n
unfolding first_doc
next-none b e n [] l r p = omega arith
next-none b e zero (h ∷ hs) l r p = absurd (omega (arith, l, p, rises-to (suc h.doc) e hs r.1))
next-none b e (suc n) (h ∷ hs) l r p = omega (arith, next-none (suc h.doc) e n hs l r.1 p)
