-- The state before anything is collected, between two documents, and the answer at the end. Assumes nothing.
use mathlib.Core.Path.{◌≡◌, refl, sym, ap, ◌∙◌, subst}
use mathlib.Core.Bool.{Bool, false}
use mathlib.Core.List.{List, [], ◌++◌}
use Prim.Native.Nat.{ℕ, ◌^◌, ◌≤◌, ◌<◌}
use native.Mathlib.Omega.{arith}
use lib.ListN.{length, take, drop, length-take}
use lib.Seq.{take-nil}
use lib.IntN.{ℤ}
use lib.Ieee.{binary32, of_bits}
use Rattle.meaning.specs.FullList.{ScoreDoc}
use Rattle.meaning.specs.Hits.{descending, hits}
use Rattle.meaning.specs.Entries.{written}
use Rattle.collector.specs.declared.TopScoreDocCollector.{TopScoreDocCollector}
use Rattle.collector.specs.declared.TopDocs.{TopDocs}
use Rattle.collector.specs.State.{competitive}
use Rattle.collector.specs.Collected.{Collected, CollectorReady, top_docs_of, Drawn}
use Rattle.collector.proofs.Best.{length-descending}
use Rattle.collector.proofs.Marks.{mark-few}
use Rattle.collector.proofs.Lists.{all-below}
use Rattle.collector.proofs.Steps.{state_of, top-few, lowest, zero_is}
use Rattle.collector.proofs.Popping.{Popped, popped-end}

no-hits : (k : ℕ) → descending [] ≡ hits k []
unfolding descending hits
no-hits k = sym (take-nil k)

pub begun : (k t : ℕ) (start : List ℤ) → 0 < k → k < 2 ^ 32 → length start ≡ k → Collected k t 0 [] start (state_of 0 0 t (of_bits binary32 0xff80_0000) (of_bits binary32 0) false) start
begun k t start some most size =
    let m = mark-few k t 0 some in
    record {
      some = some;
      most = most;
      places = size;
      listed = record { few = omega arith; each = tt };
      total = refl;
      threshold = refl;
      held = omega arith;
      best = no-hits k;
      heaped = record { ordered = λ i j a b h. absurd (omega (arith, h)) };
      rest = refl;
      top = lowest ∙ sym (top-few 0 start (omega (arith, some, size)));
      least = zero_is ∙ ap (λ (b : Bool). competitive b (of_bits binary32 0xff80_0000)) (sym m);
      marked = sym m;
    }

-- ---- between two documents
-- documents that were passed by without a match
pub collected-later : (k t b b' : ℕ) (list : List ScoreDoc) (start : List ℤ) (c : TopScoreDocCollector) (heap : List ℤ) → b ≤ b' → Collected k t b list start c heap → Collected k t b' list start c heap
collected-later k t b b' list start c heap e s = record {
  some = s.some;
  most = s.most;
  places = s.places;
  listed = record { few = omega (arith, s.listed.few, e); each = all-below b b' list e s.listed.each };
  total = s.total;
  threshold = s.threshold;
  held = s.held;
  best = s.best;
  heaped = s.heaped;
  rest = s.rest;
  top = s.top;
  least = s.least;
  marked = s.marked;
}

-- a list that was collected, over the heap's own length
pub ready_at : (k t b : ℕ) (list : List ScoreDoc) (start : List ℤ) (c : TopScoreDocCollector) (heap : List ℤ) (doc : ℕ) → b ≤ doc → Collected k t b list start c heap → CollectorReady doc c heap
ready_at k t b list start c heap doc e s = record {
  t = t;
  b = b;
  list = list;
  start = start;
  before = e;
  collected = subst (λ (n : ℕ). Collected n t b list start c heap) (sym s.places) s;
}

-- ---- the answer
abbrev made : ℕ → ℕ → Bool → TopDocs
made a b m = record { held = a; count = b; mark = m }

pub drawn-of : (c : TopScoreDocCollector) (heap heap' : List ℤ) (end : ℕ) → Popped (take c.held heap) (drop c.held heap) heap' end → end ≤ 1 → Drawn c heap (record { held = c.held; count = c.total_hits; mark = c.hits_lower_bound }) heap'
drawn-of c heap heap' end p h = record { drawn = λ k t b list start s. go k t b list start s }
  where
    go : (k t b : ℕ) (list : List ScoreDoc) (start : List ℤ) → Collected k t b list start c heap → (made c.held c.total_hits c.hits_lower_bound ≡ top_docs_of k t list) × (heap' ≡ written (hits k list) start)
    go k t b list start s =
        let n : length (hits k list) ≡ c.held = ap length (sym s.best) ∙ length-descending (take c.held heap) ∙ length-take c.held heap ∙ omega (arith, s.held, s.places) in (
          ap (λ (i : ℕ). made i c.total_hits c.hits_lower_bound) (sym n)
              ∙ ap (λ (i : ℕ). made (length (hits k list)) i c.hits_lower_bound) s.total
              ∙ ap (λ (m : Bool). made (length (hits k list)) (length list) m) s.marked,
          popped-end (take c.held heap) (drop c.held heap) heap' end p h
              ∙ ap (λ (l : List ℤ). l ++ drop c.held heap) s.best
              ∙ ap (λ (l : List ℤ). hits k list ++ l) s.rest
              ∙ ap (λ (i : ℕ). hits k list ++ drop i start) (sym n),
        )
