-- A root that matches everything: what its words say, and the live documents one after the other. Assumes nothing.
use mathlib.Core.Path.{◌≡◌, refl, sym, subst, ◌∙◌}
use mathlib.Core.Bool.{true, false, not}
use mathlib.Core.List.{List, ◌++◌}
use Prim.Native.Nat.{ℕ, ◌+◌, ◌^◌, ◌≤◌, ◌<◌}
use native.Mathlib.Omega.{arith}
use borrow.Author.Tests.{lt-ltb}
use lib.Dec.{T}
use lib.ListN.{get_or}
use lib.IntN.{ℤ}
use lib.Ieee.{Float, binary32, nan_bits, of_bits}
use Rattle.meaning.specs.Lent.{Index}
use Rattle.meaning.specs.Live.{is_live}
use Rattle.ieee754.specs.Nonneg.{AtMost}
use Rattle.ieee754.proofs.Bounds.{zero-atmost}
use Rattle.collector.specs.declared.TopScoreDocCollector.{TopScoreDocCollector}
use Rattle.collector.specs.Collected.{CollectorReady, Extended}
use Rattle.index.specs.Accepted.{Accepted}
use Rattle.index.specs.Slices.{live_only}
use Rattle.tree_weight.specs.ScorerTree.{nothing, term, phrase, range, everything, Scoring, constant, weighted, Scorer, leaf, boolean, matches, leaf_matches, leaf_score, scorer_score}
use Rattle.tree_weight.specs.Held.{LeafIs, Ok}
use Rattle.scorer.specs.Calls.{Lists}
use Rattle.score_leaf.specs.declared.ScoreNode.{ScoreNode}
use Rattle.std.specs.Prelude.{Option, Some, None}
use Rattle.std.specs.Option.{unwrap_or}
use Rattle.score_leaf.specs.Words.{ScoreNodeIs, constant_score}
use Rattle.score_leaf.proofs.Constants.{constant-some, constant-none}
use Rattle.walk.specs.Walks.{live_match, live_scored, PageHeld}
use Rattle.score_leaf.proofs.Leaves.{read, kind-read}
use Rattle.score_leaf.proofs.Bounds.{zero-32}
use Rattle.score_leaf.proofs.Weights.{float_back, float-number}
use Rattle.bulk_term.specs.Postings.{NodeScores}
use Rattle.bulk_scorer.proofs.LiveMatches.{live_of, not_live, not-below, is-match}
use Rattle.bulk_scorer.specs.Collects.{Continued, CollectPre}
use Rattle.bulk_scorer.proofs.Held.{root-page}
use Rattle.bulk_scorer.proofs.Sofar.{Sofar, sofar-start, sofar-skip, sofar-ready, sofar-take, sofar-done}
use Rattle.bulk_term.proofs.Roots.{node-scores}

-- ---- the score
pub constant_number : (sc : Scoring) (n : ScoreNode) → NodeScores sc n → T (not (nan_bits binary32 n.weight))
unfolding NodeScores
constant_number (constant c) n p = float-number c n.weight p.1
constant_number (weighted w) n p = float-number w n.weight p.1

pub constant-score : (n : ScoreNode) → n.constant ≡ 1 → (ix : Index) (sc : Scoring) (doc : ℕ) → NodeScores sc n → (of_bits binary32 n.weight ≡ leaf_score ix everything sc doc) × AtMost (2 ^ 29) (of_bits binary32 n.weight)
unfolding NodeScores leaf_score
constant-score n e ix (constant c) doc p = (float_back c n.weight p.1, subst (λ (z : Float). AtMost (2 ^ 29) z) (sym (float_back c n.weight p.1)) p.1.small)
constant-score n e ix (weighted w) doc p = absurd (omega (arith, p.0))

pub weighted-zero : (n : ScoreNode) → (n.constant ≡ 1 → ⊥) → (ix : Index) (sc : Scoring) (doc : ℕ) → NodeScores sc n → (of_bits binary32 0 ≡ leaf_score ix everything sc doc) × AtMost (2 ^ 29) (of_bits binary32 0)
unfolding NodeScores leaf_score
weighted-zero n m ix (constant c) doc p = absurd (m p.0)
weighted-zero n m ix (weighted w) doc p = (zero-32, subst (λ (z : Float). AtMost (2 ^ 29) z) (sym zero-32) (zero-atmost _))

pub score-or-zero : (n : ScoreNode) (o : Option Float) → o ≡ constant_score n → (ix : Index) (sc : Scoring) (doc : ℕ) → NodeScores sc n → (unwrap_or o (of_bits binary32 0) ≡ leaf_score ix everything sc doc) × AtMost (2 ^ 29) (unwrap_or o (of_bits binary32 0))
score-or-zero n (Some x) e ix sc doc p = let k = constant-some n x e in subst (λ (z : Float). (z ≡ leaf_score ix everything sc doc) × AtMost (2 ^ 29) z) (sym k.1) (constant-score n k.0 ix sc doc p)
score-or-zero n None e ix sc doc p = weighted-zero n (constant-none n e) ix sc doc p

-- ---- the root
module _ (documents : ℕ) (live : List ℕ) where
  -- the words of kind 5, over an accepted index that is lent; n is what is read of them
  module _ (n : ScoreNode) where
    pub record AnyIs (ix : Index) (s : Scorer) : Type 0 where
      pub sc : Scoring
      pub is : s ≡ leaf everything sc
      pub accepted : Accepted ix
      pub documents-are : ix.max_doc ≡ documents
      pub live-are : ix.live ≡ live
      pub scores : NodeScores sc n

    module _ (E : Lists) (norms : List ℕ) (table : List Float) (places depth : ℕ) (states : List ℕ) (N : ScoreNodeIs states n) (k : get_or states 0 0 ≡ 5) (same : E.documents ≡ documents) where
      pub any-is : (ix : Index) (s : Scorer) (scores : ℕ) → PageHeld E norms live table ix places s depth scores states 0 → AnyIs ix s
      unfolding Ok LeafIs
      any-is ix (leaf nothing sc) m H = absurd (omega (arith, kind-read states H.ok.1 H.ok.0 H.ok.2, H.ok.4.0))
      any-is ix (leaf (term l) sc) m H = absurd (omega (arith, kind-read states H.ok.1 H.ok.0 H.ok.2, H.ok.4.0.kind-is))
      any-is ix (leaf (phrase f ts) sc) m H = absurd (omega (arith, kind-read states H.ok.1 H.ok.0 H.ok.2, H.ok.4.kind-is))
      any-is ix (leaf (range r) sc) m H = absurd (omega (arith, kind-read states H.ok.1 H.ok.0 H.ok.2, H.ok.4.0.kind-is))
      any-is ix (leaf everything sc) m H =
          let R = read states H.ok.1 H.ok.0 n H.ok.2 N in
          record {
            sc = sc;
            is = refl;
            accepted = H.lends.accepted;
            documents-are = H.lends.documents ∙ same;
            live-are = H.live-are;
            scores = node-scores sc H.ok.0 n R.constant-is R.weight_is H.ok.5;
          }
      any-is ix (boolean c j need rs os ps) m H = let p = H.ok in absurd (omega (arith, kind-read states (p.1 ++ (p.2 ++ p.3)) p.0 p.4, p.7.kind-is))

    -- what a call asks, and what is read of its words
    abbrev pub Asked : List ℕ → ℕ → TopScoreDocCollector → List ℤ → Type 0
    Asked states doc_base c heap = (E : Lists) × (norms : List ℕ) × (table : List Float) × (places : ℕ) × (depth : ℕ) × (E.documents ≡ documents) × (get_or states 0 0 ≡ 5) × CollectPre E norms live table places states depth doc_base c heap

    module _ (states : List ℕ) (doc_base : ℕ) (c : TopScoreDocCollector) (heap : List ℤ) (q : Asked states doc_base c heap) where
      pub asked-any : ScoreNodeIs states n → AnyIs q.7.2.0 q.7.2.1
      asked-any N = any-is q.0 q.1 q.2 q.3 q.4 states N q.6 q.5 q.7.2.0 q.7.2.1 q.7.2.2 (root-page q.0 q.1 live q.2 q.7.2.0 q.3 q.7.2.1 q.4 q.7.2.2 states q.7.2.3)

  module _ (r : Float) where
    -- and r is the score of each document
    pub record AnyRoot (ix : Index) (sc : Scoring) : Type 0 where
      pub accepted : Accepted ix
      pub documents-are : ix.max_doc ≡ documents
      pub live-are : ix.live ≡ live
      pub score-is : (doc : ℕ) → r ≡ leaf_score ix everything sc doc
      pub small : AtMost (2 ^ 29) r

    pub any-root : (n : ScoreNode) → ((ix : Index) (sc : Scoring) (doc : ℕ) → NodeScores sc n → (r ≡ leaf_score ix everything sc doc) × AtMost (2 ^ 29) r) → (ix : Index) (s : Scorer) → (W : AnyIs n ix s) → AnyRoot ix W.sc
    any-root n post ix s W = record { accepted = W.accepted; documents-are = W.documents-are; live-are = W.live-are; score-is = λ doc. (post ix W.sc doc W.scores).0; small = (post ix W.sc 0 W.scores).1 }

    module _ (doc_base : ℕ) (c₀ : TopScoreDocCollector) (heap₀ : List ℤ) where
      abbrev pub AnysAt : TopScoreDocCollector → List ℤ → ℕ → Type 0
      AnysAt c heap doc = (ix : Index) (sc : Scoring) → AnyRoot ix sc → Sofar ix (leaf everything sc) doc_base c₀ heap₀ c heap doc

      pub any-start : AnysAt c₀ heap₀ 0
      any-start ix sc R = sofar-start ix (leaf everything sc) doc_base c₀ heap₀

      module _ (c : TopScoreDocCollector) (heap : List ℤ) (doc : ℕ) (I : AnysAt c heap doc) where
        pub any-ready : (ix : Index) (sc : Scoring) → AnyRoot ix sc → CollectorReady doc_base c₀ heap₀ → (to : ℕ) → doc_base + doc ≤ to → CollectorReady to c heap
        any-ready ix sc R start to l = sofar-ready ix (leaf everything sc) doc_base c₀ heap₀ c heap doc (I ix sc R) start to l

        pub any-done : documents ≡ doc → (ix : Index) (s : Scorer) (sc : Scoring) → s ≡ leaf everything sc → AnyRoot ix sc → Continued doc_base documents (live_scored ix s) c₀ heap₀ c heap
        any-done h ix s sc e R =
            rw e
            (sofar-done ix (leaf everything sc) doc_base c₀ heap₀ c heap doc (I ix sc R) documents (omega (arith, h)) (λ y a. not-below ix (leaf everything sc) y (omega (arith, h, R.documents-are))))

        module _ (below : doc < documents) where
          -- a document that is not live is passed over
          pub any-pass : is_live (live_only live) doc ≡ false → AnysAt c heap (doc + 1)
          any-pass e ix sc R =
              let dead : live_match ix (leaf everything sc) doc ≡ false = not_live ix (leaf everything sc) doc (sym (live_of ix live doc R.live-are) ∙ e) in
              sofar-skip ix (leaf everything sc) doc_base c₀ heap₀ c heap doc (I ix sc R) (doc + 1) (omega arith)
              (λ x a b. let z : x ≡ doc = omega arith in subst (λ (y : ℕ). live_match ix (leaf everything sc) y ≡ false) (sym z) dead)

          -- a live one is collected
          pub any-take : is_live (live_only live) doc ≡ true → (c' : TopScoreDocCollector) (heap' : List ℤ) → Extended (record { doc = doc_base + doc; score = r }) c heap c' heap' → AnysAt c' heap' (doc + 1)
          unfolding matches leaf_matches scorer_score
          any-take e c' heap' x ix sc R =
              let l : doc < ix.max_doc = omega (arith, R.documents-are) in
              sofar-take ix (leaf everything sc) doc_base c₀ heap₀ c heap doc (I ix sc R) doc r c' heap' (omega (arith, R.accepted.documents)) (omega arith) (λ y a b. absurd (omega arith))
              (is-match ix (leaf everything sc) doc l (sym (live_of ix live doc R.live-are) ∙ e) (lt-ltb doc ix.max_doc l))
              (R.score-is doc)
              x
