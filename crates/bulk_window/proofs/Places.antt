-- The loop over the set places of a window: those done are collected. Assumes nothing.
use Rattle.std.proofs.lemmas.Bool.{and_parts}
use Rattle.std.proofs.Common.{◌≡◌, refl, sym, ap, subst, ◌∙◌, true, not, ◌&&◌, List, [], ◌∷◌, ◌++◌, map, ℕ, suc, ◌+◌, ◌≤◌, ◌<◌, eqb, eq-eqb, length, ℤ, arith, ⊎_elim}
use Rattle.std.specs.Prelude.{Float}
use mathlib.Core.List.{append_assoc, append-nil}
use mathlib.Core.Bool.{false≢true}
use native.Mathlib.Nat.{eq-or-lt_of_le}
use Rattle.meaning.proofs.Tests.{cmp}
use Rattle.meaning.specs.FullList.{ScoreDoc}
use Rattle.bits.specs.Bit.{bit, set_bits, LowestBit}
use Rattle.bits.proofs.Lists.{none-left}
use Rattle.collector.specs.declared.TopScoreDocCollector.{TopScoreDocCollector}
use Rattle.collector.specs.Collected.{Collected, CollectorReady, Extended}
use Rattle.collector.proofs.Beginning.{collected-later}
use Rattle.bulk_scorer.specs.Collects.{numbered, Continued}
use Rattle.bulk_window.specs.Windows.{placed, PlacesBelow}

abbrev at : (ℕ → Float) → ℕ → ScoreDoc
at score p = record { doc = p; score = score p }

map-append : (f : ℕ → ScoreDoc) (xs ys : List ℕ) → map f (xs ++ ys) ≡ map f xs ++ map f ys
map-append f [] ys = refl
map-append f (x ∷ xs) ys = ap (λ (l : List ScoreDoc). f x ∷ l) (map-append f xs ys)

numbered-append : (first : ℕ) (xs ys : List ScoreDoc) → map (numbered first) (xs ++ ys) ≡ map (numbered first) xs ++ map (numbered first) ys
numbered-append first [] ys = refl
numbered-append first (x ∷ xs) ys = ap (λ (l : List ScoreDoc). numbered first x ∷ l) (numbered-append first xs ys)

module _ (first : ℕ) (score : ℕ → Float) (places : ℕ) (c₀ : TopScoreDocCollector) (heap₀ : List ℤ) where
  -- ds are done, from on are those of `left`
  pub record PlacesAt (left : ℕ) (c : TopScoreDocCollector) (heap : List ℤ) : Type 0 where
    pub ds : List ℕ
    pub from : ℕ
    pub whole : set_bits places ≡ ds ++ set_bits left
    pub part : (p : ℕ) → p < 64 → bit p left ≡ true → (from ≤ p) × (bit p places ≡ true)
    pub few : (n : ℕ) → PlacesBelow n places → from ≤ n
    pub collected : (k t b : ℕ) (xs : List ScoreDoc) (start : List ℤ) → b ≤ first → Collected k t b xs start c₀ heap₀ → Collected k t (first + from) (xs ++ map (numbered first) (map (at score) ds)) start c heap

  pub places-start : PlacesAt places c₀ heap₀
  places-start =
      record {
        ds = [];
        from = 0;
        whole = refl;
        part = λ p h e. (omega arith, e);
        few = λ n h. omega arith;
        collected = λ k t b xs start l p. subst (λ (z : List ScoreDoc). Collected k t (first + 0) z start c₀ heap₀) (sym (append-nil xs)) (collected-later k t b (first + 0) xs start c₀ heap₀ (omega (arith, l)) p);
      }

  module _ (left : ℕ) (c : TopScoreDocCollector) (heap : List ℤ) (i : PlacesAt left c heap) where
    pub places-ready : CollectorReady first c₀ heap₀ → (p : ℕ) → p < 64 → bit p left ≡ true → CollectorReady (first + p) c heap
    places-ready R p h e =
        let q = i.collected (length heap₀) R.t R.b R.list R.start R.before R.collected in
        record {
          t = R.t;
          b = first + i.from;
          list = R.list ++ map (numbered first) (map (at score) i.ds);
          start = R.start;
          before = omega (arith, (i.part p h e).0);
          collected = subst (λ (k : ℕ). Collected k R.t (first + i.from) (R.list ++ map (numbered first) (map (at score) i.ds)) R.start c heap) (sym q.places) q;
        }

    -- one more place
    pub places-take : (p left' : ℕ) → LowestBit left p → set_bits left ≡ p ∷ set_bits left' → ((q : ℕ) → bit q left' ≡ bit q left && not (eqb q p)) → (c' : TopScoreDocCollector) (heap' : List ℤ) → Extended (record { doc = first + p; score = score p }) c heap c' heap' → PlacesAt left' c' heap'
    places-take p left' L listed others c' heap' x =
        let here = i.part p L.within L.set in
        record {
          ds = i.ds ++ (p ∷ []);
          from = p + 1;
          whole = i.whole ∙ ap (λ (l : List ℕ). i.ds ++ l) listed ∙ sym (append_assoc i.ds (p ∷ []) (set_bits left'));
          part = λ q h e.
              let old = (and_parts (bit q left) (not (eqb q p)) (sym (others q) ∙ e)).0 in
              (⊎_elim (λ (g : q < p). absurd (false≢true (sym (L.below q g) ∙ old))) (λ (g : p ≤ q). ⊎_elim (λ (s : p ≡ q). absurd (false≢true (sym (ap not (eq-eqb q p (sym s))) ∙ (and_parts (bit q left) (not (eqb q p)) (sym (others q) ∙ e)).1))) (λ (s : suc p ≤ q). omega (arith, s)) (eq-or-lt_of_le g)) (cmp q p), (i.part q h old).1);
          few = λ n h. let z = h p L.within here.1 in omega (arith, z);
          collected = λ k t b xs start l z.
              let more = x.extended k t (first + i.from) (xs ++ map (numbered first) (map (at score) i.ds)) start (omega (arith, here.0)) (i.collected k t b xs start l z) in
              let bound : first + p + 1 ≡ first + (p + 1) = omega arith in
              let list : (xs ++ map (numbered first) (map (at score) i.ds)) ++ (record { doc = first + p; score = score p } ∷ []) ≡ xs ++ map (numbered first) (map (at score) (i.ds ++ (p ∷ []))) =
              append_assoc xs (map (numbered first) (map (at score) i.ds)) (record { doc = first + p; score = score p } ∷ []) ∙ ap (λ (y : List ScoreDoc). xs ++ y) (sym (ap (map (numbered first)) (map-append (at score) i.ds (p ∷ [])) ∙ numbered-append first (map (at score) i.ds) (at score p ∷ []))) in
              subst (λ (y : List ScoreDoc). Collected k t (first + (p + 1)) y start c' heap') list (subst (λ (j : ℕ). Collected k t j ((xs ++ map (numbered first) (map (at score) i.ds)) ++ (record { doc = first + p; score = score p } ∷ [])) start c' heap') bound more);
        }

    -- all are done
    pub places-done : left ≡ 0 → (n : ℕ) → PlacesBelow n places → Continued first n (placed score places) c₀ heap₀ c heap
    places-done e n h =
        let all : set_bits places ≡ i.ds = i.whole ∙ ap (λ (w : ℕ). i.ds ++ set_bits w) e ∙ ap (λ (l : List ℕ). i.ds ++ l) none-left ∙ append-nil i.ds in
        record {
          continued = λ k t b xs start l z.
              subst (λ (y : List ℕ). Collected k t (first + n) (xs ++ map (numbered first) (map (at score) y)) start c heap) (sym all)
              (collected-later k t (first + i.from) (first + n) (xs ++ map (numbered first) (map (at score) i.ds)) start c heap (omega (arith, i.few n h)) (i.collected k t b xs start l z));
        }

-- no place is set: nothing is collected
pub places-none : (first : ℕ) (score : ℕ → Float) (places n : ℕ) (c : TopScoreDocCollector) (heap : List ℤ) → places ≡ 0 → Continued first n (placed score places) c heap c heap
places-none first score places n c heap e =
    record {
      continued = λ k t b xs start l z.
          let none : set_bits places ≡ [] = ap set_bits e ∙ none-left in
          subst (λ (y : List ℕ). Collected k t (first + n) (xs ++ map (numbered first) (map (at score) y)) start c heap) (sym none)
          (subst (λ (y : List ScoreDoc). Collected k t (first + n) y start c heap) (sym (append-nil xs)) (collected-later k t b (first + n) xs start c heap (omega (arith, l)) z));
    }
