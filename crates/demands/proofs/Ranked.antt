-- Demand 3, of hits: they are the list's documents by larger score, and lower document first among equals.
-- Assumes nothing.
use mathlib.Core.Path.{◌≡◌, refl, sym, ap, ◌∙◌}
use mathlib.Core.Logic.{inl, inr}
use mathlib.Core.Bool.{Bool, true, false, cond}
use mathlib.Core.List.Permᴰ
use mathlib.Core.List.{List, [], ◌∷◌, map, Perm, Permᴰ}
use Prim.Native.Nat.{ℕ, zero, suc, ◌<◌}
use native.Mathlib.Nat.{not-suc-le-zero, le_of_suc-le-suc}
use native.Mathlib.Omega.{arith}
use lib.Dec.{T}
use lib.ListN.{length, take, get_or}
use lib.IntN.{ℤ}
use lib.Signed.{lt_z, ◌≤ℤ◌, ◌<ℤ◌}
use Rattle.meaning.specs.Limits.{no_more_docs}
use Rattle.meaning.specs.FullList.{ScoreDoc}
use Rattle.meaning.specs.Hits.{code, to_doc, to_score, insert_descending, descending, hits}
use Rattle.collector.specs.Collected.{ScoredHit}
use Rattle.meaning.proofs.Signed.{≤ℤ-trans, <ℤ-≤ℤ, lt_yes, lt_no, before-or}
use Rattle.collector.proofs.Best.{hits-is}
use Rattle.collector.proofs.Ranked.{code-bits, code-later, code-order, to_doc-code, to_score-code}
use Rattle.demands.specs.Demands.{ranks_before}
use Rattle.demands.proofs.Lists.{map-take, All, all-at}
use Rattle.demands.proofs.Rising.{Rises, rises-each}

-- rising documents below NO_MORE_DOCS, each with an f32 score that is no NaN's and has a clear sign
pub record Rankable (list : List ScoreDoc) : Type 0 where
  pub rises : Rises 0 no_more_docs list
  pub scored : All (ScoredHit no_more_docs) list

-- ---- the list itself, put in the order of its codes
unfoldable insert_ranked : ScoreDoc → List ScoreDoc → List ScoreDoc
insert_ranked h [] = h ∷ []
insert_ranked h (x ∷ xs) = cond (lt_z (code h) (code x)) (x ∷ insert_ranked h xs) (h ∷ x ∷ xs)

unfoldable sort_ranked : List ScoreDoc → List ScoreDoc
sort_ranked [] = []
sort_ranked (h ∷ hs) = insert_ranked h (sort_ranked hs)

codes-insert : (h : ScoreDoc) (l : List ScoreDoc) → map code (insert_ranked h l) ≡ insert_descending (code h) (map code l)
unfolding insert_ranked insert_descending
codes-insert h [] = refl
codes-insert h (x ∷ xs) = elim (before-or (code h) (code x)) [
  | inl e ↦ rw e (ap (λ (l : List ℤ). code x ∷ l) (codes-insert h xs))
  | inr e ↦ rw e
]

codes-sort : (l : List ScoreDoc) → map code (sort_ranked l) ≡ descending (map code l)
unfolding sort_ranked descending
codes-sort [] = refl
codes-sort (h ∷ hs) = codes-insert h (sort_ranked hs) ∙ ap (insert_descending (code h)) (codes-sort hs)

perm-insert : (h : ScoreDoc) (l : List ScoreDoc) → Permᴰ (insert_ranked h l) (h ∷ l)
unfolding insert_ranked
perm-insert h [] = Permᴰ.refl (h ∷ [])
perm-insert h (x ∷ xs) = elim (before-or (code h) (code x)) [
  | inl e ↦ rw e (Permᴰ.trans (Permᴰ.cons refl (perm-insert h xs)) (Permᴰ.swap refl refl))
  | inr e ↦ rw e (Permᴰ.refl (h ∷ x ∷ xs))
]

perm-sort : (l : List ScoreDoc) → Permᴰ (sort_ranked l) l
unfolding sort_ranked
perm-sort [] = Permᴰ.nil
perm-sort (h ∷ hs) = Permᴰ.trans (perm-insert h (sort_ranked hs)) (Permᴰ.cons refl (perm-sort hs))

all_insert : (P : ScoreDoc → Type 0) (h : ScoreDoc) (l : List ScoreDoc) → P h → All P l → All P (insert_ranked h l)
unfolding insert_ranked
all_insert P h [] p a = (p, tt)
all_insert P h (x ∷ xs) p a = elim (before-or (code h) (code x)) [
  | inl e ↦ rw e (a.0, all_insert P h xs p a.1)
  | inr e ↦ rw e (p, a)
]

all-sort : (P : ScoreDoc → Type 0) (l : List ScoreDoc) → All P l → All P (sort_ranked l)
unfolding sort_ranked
all-sort P [] a = tt
all-sort P (h ∷ hs) a = all_insert P h (sort_ranked hs) a.0 (all-sort P hs a.1)

-- ---- codes fall, and no two are equal, since no two documents are
abbrev Falls : List ScoreDoc → Type 0
Falls [] = Unit
Falls (x ∷ xs) = All (λ (y : ScoreDoc). code y <ℤ code x) xs × Falls xs

module _ (h : ScoreDoc) (s : ScoredHit no_more_docs h) where
  later : (y : ScoreDoc) → ScoredHit no_more_docs y → h.doc < y.doc → code y ≤ℤ code h → code y <ℤ code h
  later y t d l = code-later no_more_docs no_more_docs y h t s (code-bits no_more_docs no_more_docs y h t s l) d (omega (arith, t.below))

  under : (x : ScoreDoc) → code x ≤ℤ code h → (xs : List ScoreDoc) → All (ScoredHit no_more_docs) xs → All (λ (y : ScoreDoc). h.doc < y.doc) xs → All (λ (y : ScoreDoc). code y <ℤ code x) xs → All (λ (y : ScoreDoc). code y <ℤ code h) xs
  under x l [] t d f = tt
  under x l (y ∷ ys) t d f = (later y t.0 d.0 (≤ℤ-trans (<ℤ-≤ℤ f.0) l), under x l ys t.1 d.1 f.1)

  falls-insert : (l : List ScoreDoc) → All (ScoredHit no_more_docs) l → All (λ (y : ScoreDoc). h.doc < y.doc) l → Falls l → Falls (insert_ranked h l)
  unfolding insert_ranked
  falls-insert [] t d f = (tt, tt)
  falls-insert (x ∷ xs) t d f = elim (before-or (code h) (code x)) [
    | inl e ↦ rw e (all_insert (λ (y : ScoreDoc). code y <ℤ code x) h xs (lt_yes (code h) (code x) e) f.0, falls-insert xs t.1 d.1 f.1)
    | inr e ↦ rw e ((later x t.0 d.0 (lt_no (code h) (code x) e), under x (lt_no (code h) (code x) e) xs t.1 d.1 f.0), f)
  ]

falls-sort : (b : ℕ) (l : List ScoreDoc) → Rises b no_more_docs l → All (ScoredHit no_more_docs) l → Falls (sort_ranked l)
unfolding sort_ranked
falls-sort b [] r s = tt
falls-sort b (h ∷ hs) r s =
    falls-insert h s.0 (sort_ranked hs) (all-sort (ScoredHit no_more_docs) hs s.1) (all-sort (λ (y : ScoreDoc). h.doc < y.doc) hs (rises-each (suc h.doc) no_more_docs hs r.1))
    (falls-sort (suc h.doc) hs r.1 s.1)

falls_at : (l : List ScoreDoc) (d : ScoreDoc) → Falls l → (i j : ℕ) → i < j → j < length l → code (get_or l j d) <ℤ code (get_or l i d)
falls_at [] d f i j a b = absurd (not-suc-le-zero b)
falls_at (x ∷ xs) d f i zero a b = absurd (not-suc-le-zero a)
falls_at (x ∷ xs) d f zero (suc j) a b = all-at (λ (y : ScoreDoc). code y <ℤ code x) xs j d f.0 (le_of_suc-le-suc b)
falls_at (x ∷ xs) d f (suc i) (suc j) a b = falls_at xs d f.1 i j (le_of_suc-le-suc a) (le_of_suc-le-suc b)

-- ---- the theorem
map-coded {ℓ} : {B : Type ℓ} (g : ℤ → B) (f : ScoreDoc → B) (l : List ScoreDoc) → All (ScoredHit no_more_docs) l → ((h : ScoreDoc) → ScoredHit no_more_docs h → g (code h) ≡ f h) → map g (map code l) ≡ map f l
map-coded g f [] s e = refl
map-coded {B} g f (h ∷ hs) s e = ap (λ (b : B). b ∷ map g (map code hs)) (e h s.0) ∙ ap (λ (l : List B). f h ∷ l) (map-coded g f hs s.1 e)

all_take : (P : ScoreDoc → Type 0) (k : ℕ) (l : List ScoreDoc) → All P l → All P (take k l)
all_take P zero l a = tt
all_take P (suc k) [] a = tt
all_take P (suc k) (x ∷ xs) a = (a.0, all_take P k xs a.1)

-- the list in another order, by larger score and lower document first among equals; the hits are its first k, for every
-- k
pub record HitsAre (list : List ScoreDoc) : Type 0 where
  pub best : List ScoreDoc
  pub same : Perm best list
  pub order : (i j : ℕ) (d : ScoreDoc) → i < j → j < length best → ranks_before (get_or best i d) (get_or best j d) ≡ true
  pub codes : (k : ℕ) → hits k list ≡ map code (take k best)
  pub documents : (k : ℕ) → map to_doc (hits k list) ≡ map (λ h. h.doc) (take k best)
  pub scores : (k : ℕ) → map to_score (hits k list) ≡ map (λ h. h.score) (take k best)

pub hits-are : (list : List ScoreDoc) → Rankable list → HitsAre list
hits-are list r = record {
  best = best;
  same = ∣ perm-sort list ∣₁;
  order = before;
  codes = codes;
  documents = λ k. ap (map to_doc) (codes k) ∙ map-coded to_doc (λ h. h.doc) (take k best) (all_take (ScoredHit no_more_docs) k best each) (λ h s. to_doc-code h (omega (arith, s.below)));
  scores = λ k. ap (map to_score) (codes k) ∙ map-coded to_score (λ h. h.score) (take k best) (all_take (ScoredHit no_more_docs) k best each) (λ h s. to_score-code h s.fits);
}
  where
    best : List ScoreDoc
    best = sort_ranked list

    each : All (ScoredHit no_more_docs) best
    each = all-sort (ScoredHit no_more_docs) list r.scored

    codes : (k : ℕ) → hits k list ≡ map code (take k best)
    codes k = hits-is k list ∙ ap (take k) (sym (codes-sort list)) ∙ sym (map-take code k best)

    yes-is : (b : Bool) → T b → b ≡ true
    yes-is true t = refl
    yes-is false t = absurd t

    before : (i j : ℕ) (d : ScoreDoc) → i < j → j < length best → ranks_before (get_or best i d) (get_or best j d) ≡ true
    before i j d a b =
        let g = get_or best i d in
        let h = get_or best j d in
        let s = all-at (ScoredHit no_more_docs) best i d each (omega (arith, a, b)) in
        let t = all-at (ScoredHit no_more_docs) best j d each b in
        sym (code-order no_more_docs no_more_docs h g t s (omega (arith, t.below)) (omega (arith, s.below)))
        ∙ yes-is (lt_z (code h) (code g)) (falls_at best d (falls-sort 0 list r.rises r.scored) i j a b).lt
