-- Documents in rising order, without the walk: what is collected so far, and what is left. Assumes nothing.
use Rattle.std.proofs.lemmas.List.{map-append}
use mathlib.Core.Path.{◌≡◌, refl, sym, ap, subst, ◌∙◌}
use mathlib.Core.Bool.{Bool, true, false, cond, ◌&&◌}
use mathlib.Core.List.{List, [], ◌∷◌, ◌++◌, map, append_assoc, append-nil}
use Prim.Native.Nat.{ℕ, suc, ◌+◌, ◌≤◌, ◌<◌}
use native.Mathlib.Omega.{arith}
use borrow.Author.Tests.{le-leb}
use lib.Dec.{T, leb}
use lib.ListN.{length}
use lib.IntN.{ℤ}
use lib.Ieee.{Float, nan, inf, fin}
use Rattle.meaning.specs.Limits.{no_more_docs}
use Rattle.meaning.specs.Lent.{Index}
use Rattle.meaning.specs.Live.{is_live}
use Rattle.meaning.specs.First.{First}
use Rattle.meaning.specs.FullList.{ScoreDoc}
use Rattle.meaning.specs.Pages.{from_target}
use Rattle.ieee754.specs.Nonneg.{nonneg, sign_clear}
use Rattle.collector.specs.declared.TopScoreDocCollector.{TopScoreDocCollector}
use Rattle.collector.specs.Collected.{Collected, CollectorReady, Extended}
use Rattle.collector.proofs.Beginning.{collected-later}
use Rattle.tree_weight.specs.ScorerTree.{Scorer, matches, scorer_score}
use Rattle.walk.specs.Walks.{live_match, scored, live_scored}
use Rattle.walk.proofs.Left.{skip-left, none_left}
use Rattle.walk.proofs.Pages.{match_is, match-below, walk-next}
use Rattle.bulk_scorer.specs.Collects.{numbered, Continued}

-- every document is at or after 0
from_zero : (list : List ScoreDoc) → from_target 0 list ≡ list
unfolding from_target
from_zero [] = refl
from_zero (h ∷ hs) = let e : leb 0 h.doc ≡ true = le-leb 0 h.doc (omega arith) in ap (λ (b : Bool). cond b (h ∷ []) [] ++ from_target 0 hs) e ∙ ap (λ (l : List ScoreDoc). h ∷ l) (from_zero hs)

pub nonneg-clear : (x : Float) → T (nonneg x) → T (sign_clear x)
nonneg-clear nan p = p
nonneg-clear (inf s) p = absurd p
nonneg-clear (fin s m e) p = p

module _ (ix : Index) (s : Scorer) where
  skipped : (from to : ℕ) → from ≤ to → ((d : ℕ) → from ≤ d → d < to → live_match ix s d ≡ false) → from_target from (live_scored ix s) ≡ from_target to (live_scored ix s)
  unfolding live_scored
  skipped from to l h = skip-left (scored ix s) (λ d. refl) (λ d. is_live ix d && matches ix s d) ix.max_doc from to l (λ d a b c. match-below ix s d c (h d a b))

  none-live : (from : ℕ) → ((d : ℕ) → from ≤ d → live_match ix s d ≡ false) → from_target from (live_scored ix s) ≡ []
  unfolding live_scored
  none-live from h = none_left (scored ix s) (λ d. refl) (λ d. is_live ix d && matches ix s d) ix.max_doc from (λ d a b. match-below ix s d b (h d a))

  module _ (doc_base : ℕ) (c₀ : TopScoreDocCollector) (heap₀ : List ℤ) where
    -- the live matches before a document are collected, after what was collected at the start
    pub record Sofar (c : TopScoreDocCollector) (heap : List ℤ) (from : ℕ) : Type 0 where
      pub ys : List ScoreDoc
      pub all : live_scored ix s ≡ ys ++ from_target from (live_scored ix s)
      pub collected : (k t b : ℕ) (xs : List ScoreDoc) (start : List ℤ) → b ≤ doc_base → Collected k t b xs start c₀ heap₀ → Collected k t (doc_base + from) (xs ++ map (numbered doc_base) ys) start c heap

    pub sofar-start : Sofar c₀ heap₀ 0
    sofar-start =
        record {
          ys = [];
          all = sym (from_zero (live_scored ix s));
          collected = λ k t b xs start l p. subst (λ (z : List ScoreDoc). Collected k t (doc_base + 0) z start c₀ heap₀) (sym (append-nil xs)) (collected-later k t b (doc_base + 0) xs start c₀ heap₀ (omega (arith, l)) p);
        }

    module _ (c : TopScoreDocCollector) (heap : List ℤ) (from : ℕ) (i : Sofar c heap from) where
      -- none is live before `to`
      pub sofar-skip : (to : ℕ) → from ≤ to → ((d : ℕ) → from ≤ d → d < to → live_match ix s d ≡ false) → Sofar c heap to
      sofar-skip to l h =
          record {
            ys = i.ys;
            all = i.all ∙ ap (λ (z : List ScoreDoc). i.ys ++ z) (skipped from to l h);
            collected = λ k t b xs start m p. collected-later k t (doc_base + from) (doc_base + to) (xs ++ map (numbered doc_base) i.ys) start c heap (omega (arith, l)) (i.collected k t b xs start m p);
          }

      -- the collector can be handed a document at or after `from`
      pub sofar-ready : CollectorReady doc_base c₀ heap₀ → (doc : ℕ) → doc_base + from ≤ doc → CollectorReady doc c heap
      sofar-ready R doc l =
          let q = i.collected (length heap₀) R.t R.b R.list R.start R.before R.collected in
          record {
            t = R.t;
            b = doc_base + from;
            list = R.list ++ map (numbered doc_base) i.ys;
            start = R.start;
            before = l;
            collected = subst (λ (k : ℕ). Collected k R.t (doc_base + from) (R.list ++ map (numbered doc_base) i.ys) R.start c heap) (sym q.places) q;
          }

      -- d is the next live match, and is collected
      pub sofar-take : (d : ℕ) (r : Float) (c' : TopScoreDocCollector) (heap' : List ℤ) → ix.max_doc ≤ no_more_docs → from ≤ d → ((x : ℕ) → from ≤ x → x < d → live_match ix s x ≡ false) → live_match ix s d ≡ true → r ≡ scorer_score ix s d → Extended (record { doc = doc_base + d; score = r }) c heap c' heap' → Sofar c' heap' (d + 1)
      sofar-take d r c' heap' few l h m e x =
          let b = (match_is ix s d m).0 in
          let q : First (live_match ix s) from d = record { from = l; top = omega (arith, b); before = h; hit = λ _. m } in
          let z = scored ix s d in
          let one : suc d ≡ d + 1 = omega arith in
          let k : record { doc = doc_base + d; score = r } ≡ numbered doc_base z = ap (λ (f : Float). record { doc = doc_base + d; score = f }) e in
          record {
            ys = i.ys ++ (z ∷ []);
            all = i.all ∙ ap (λ (y : List ScoreDoc). i.ys ++ y) (walk-next ix s from d q (omega (arith, b))) ∙ sym (append_assoc i.ys (z ∷ []) (from_target (suc d) (live_scored ix s))) ∙ ap (λ (j : ℕ). (i.ys ++ (z ∷ [])) ++ from_target j (live_scored ix s)) one;
            collected = λ kk t b₀ xs start a p.
                let more = x.extended kk t (doc_base + from) (xs ++ map (numbered doc_base) i.ys) start (omega (arith, l)) (i.collected kk t b₀ xs start a p) in
                let bound : doc_base + d + 1 ≡ doc_base + (d + 1) = omega arith in
                let list : (xs ++ map (numbered doc_base) i.ys) ++ (record { doc = doc_base + d; score = r } ∷ []) ≡ xs ++ map (numbered doc_base) (i.ys ++ (z ∷ [])) =
                append_assoc xs (map (numbered doc_base) i.ys) (record { doc = doc_base + d; score = r } ∷ []) ∙ ap (λ (y : ScoreDoc). xs ++ (map (numbered doc_base) i.ys ++ (y ∷ []))) k ∙ ap (λ (y : List ScoreDoc). xs ++ y) (sym (map-append (numbered doc_base) i.ys (z ∷ []))) in
                subst (λ (y : List ScoreDoc). Collected kk t (doc_base + (d + 1)) y start c' heap') list (subst (λ (j : ℕ). Collected kk t j ((xs ++ map (numbered doc_base) i.ys) ++ (record { doc = doc_base + d; score = r } ∷ [])) start c' heap') bound more);
          }

      -- none is live from here on: all are collected
      pub sofar-done : (n : ℕ) → from ≤ n → ((d : ℕ) → from ≤ d → live_match ix s d ≡ false) → Continued doc_base n (live_scored ix s) c₀ heap₀ c heap
      sofar-done n l h =
          let e : i.ys ≡ live_scored ix s = sym (i.all ∙ ap (λ (z : List ScoreDoc). i.ys ++ z) (none-live from h) ∙ append-nil i.ys) in
          record {
            continued = λ k t b xs start a p.
                subst (λ (z : List ScoreDoc). Collected k t (doc_base + n) (xs ++ map (numbered doc_base) z) start c heap) e
                (collected-later k t (doc_base + from) (doc_base + n) (xs ++ map (numbered doc_base) i.ys) start c heap (omega (arith, l)) (i.collected k t b xs start a p));
          }
