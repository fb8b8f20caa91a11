-- A collector that has collected nothing before a loop, and what it has collected after it. Assumes nothing.
use Rattle.std.proofs.Common.{◌≡◌, refl, sym, ap, subst, ◌∙◌, List, [], ◌∷◌, map, ℕ, ◌+◌, ◌^◌, ◌≤◌, ◌<◌, length, ℤ, arith}
use Rattle.meaning.specs.Limits.{max_hits}
use Rattle.meaning.specs.FullList.{ScoreDoc}
use Rattle.meaning.specs.Hits.{hits}
use Rattle.meaning.specs.Entries.{written}
use Rattle.collector.specs.declared.TopScoreDocCollector.{TopScoreDocCollector}
use Rattle.collector.specs.declared.TopDocs.{TopDocs}
use Rattle.collector.specs.Collected.{Collected, CollectorReady, Drawn, top_docs_of}
use Rattle.collector.proofs.Beginning.{collected-later}
use Rattle.bulk_scorer.specs.Collects.{numbered, Continued}

-- numbered on from 0
numbered-same : (list : List ScoreDoc) → map (numbered 0) list ≡ list
numbered-same [] = refl
numbered-same (h ∷ hs) = let e : 0 + h.doc ≡ h.doc = omega arith in ap (λ (i : ℕ). record { doc = i; score = h.score } ∷ map (numbered 0) hs) e ∙ ap (λ (l : List ScoreDoc). h ∷ l) (numbered-same hs)

module _ (t : ℕ) (c : TopScoreDocCollector) (heap : List ℤ) (new : (k : ℕ) (start : List ℤ) → 0 < k → k < 2 ^ 32 → length start ≡ k → Collected k t 0 [] start c start) (some : 0 < length heap) (most : length heap ≤ max_hits) where
  begun : Collected (length heap) t 0 [] heap c heap
  begun = new (length heap) heap some (omega (arith, most)) refl

  pub begin-ready : CollectorReady 0 c heap
  begin-ready = record { t = t; b = 0; list = []; start = heap; before = omega arith; collected = begun }

  -- after one loop from base 0
  module _ (n : ℕ) (list : List ScoreDoc) (c' : TopScoreDocCollector) (heap' : List ℤ) (more : Continued 0 n list c heap c' heap') where
    after : Collected (length heap) t (0 + n) list heap c' heap'
    after = subst (λ (l : List ScoreDoc). Collected (length heap) t (0 + n) l heap c' heap') (numbered-same list) (more.continued (length heap) t 0 [] heap (omega arith) begun)

    pub end-ready : (top : ℕ) → n ≤ top → CollectorReady top c' heap'
    end-ready top l =
        let q = collected-later (length heap) t (0 + n) top list heap c' heap' (omega (arith, l)) after in
        record { t = t; b = top; list = list; start = heap; before = omega arith; collected = subst (λ (k : ℕ). Collected k t top list heap c' heap') (sym after.places) q }

    -- the answer and the hits are the list's
    pub end-answer : (r : TopDocs) (heap'' : List ℤ) → Drawn c' heap' r heap'' → (r ≡ top_docs_of (length heap) t list) × (heap'' ≡ written (hits (length heap) list) heap)
    end-answer r heap'' d = d.drawn (length heap) t (0 + n) list heap after
