-- A term at the root: what its words say, and its run posting by posting. Assumes nothing.
use mathlib.Core.Path.{◌≡◌, refl, sym, ap, subst, ◌∙◌}
use mathlib.Core.Logic.{⊎_elim}
use mathlib.Core.Bool.{true, false}
use mathlib.Core.List.{List, [], ◌++◌}
use mathlib.Core.Option.{some}
use Prim.Native.Nat.{ℕ, suc, ◌+◌, ◌*◌, ◌/◌, ◌^◌, ◌≤◌, ◌<◌}
use native.Mathlib.Nat.{eq-or-lt_of_le, add-zero}
use native.Mathlib.Omega.{arith}
use lib.Dec.{T, lit<}
use lib.ListN.{length, get_or}
use lib.IntN.{ℤ}
use lib.Ieee.{Float}
use Rattle.meaning.specs.Limits.{no_more_docs}
use Rattle.meaning.specs.Lent.{Index, leaf_count, leaf_field, leaf_first, leaf_number, leaf_document}
use Rattle.meaning.specs.Live.{is_live}
use Rattle.meaning.specs.Postings.{posting_at, found, frequency_of}
use Rattle.ieee754.specs.Nonneg.{AtMost, sign_clear}
use Rattle.collector.specs.declared.TopScoreDocCollector.{TopScoreDocCollector}
use Rattle.collector.specs.Collected.{CollectorReady, Extended}
use Rattle.index.specs.Accepted.{Accepted}
use Rattle.index.specs.Slices.{live_only}
use Rattle.index.proofs.PostingAt.{posting-at, posting-none}
use Rattle.tree_weight.specs.ScorerTree.{nothing, term, phrase, range, everything, Scoring, Scorer, leaf, boolean, matches, leaf_matches, leaf_score, scorer_score}
use Rattle.tree_weight.specs.Held.{norms_word, LeafIs, Ok}
use Rattle.tree_weight.specs.Sound.{LeafSound, Sound, LeafTable, Tables}
use Rattle.scorer.specs.Calls.{Lists}
use Rattle.meaning.proofs.Tests.{cmp}
use Rattle.scorer_leaf.specs.declared.LeafReader.{LeafReader}
use Rattle.score_leaf.specs.declared.ScoreNode.{ScoreNode}
use Rattle.score_leaf.specs.Words.{ScoreNodeIs, first_byte}
use Rattle.walk.specs.Walks.{live_match, PageHeld}
use Rattle.score_leaf.proofs.Leaves.{read, kind-read}
use Rattle.bulk_scorer.specs.Collects.{CollectPre, CollectPost}
use Rattle.bulk_term.specs.Postings.{NodeScores, PostingAsks}
use Rattle.bulk_scorer.proofs.LiveMatches.{live_of, live-there, not-match, not_live, is-match}
use Rattle.bulk_term.proofs.Roots.{node-scores}
use Rattle.bulk_term.proofs.Runs.{run-words, run_length, record-word}
use Rattle.std.specs.Simd.{first_chunks}
use Rattle.bulk_scorer.proofs.Sofar.{nonneg-clear, Sofar, sofar-start, sofar-skip, sofar-ready, sofar-take, sofar-done}
use Rattle.bulk_scorer.proofs.Held.{root-page}

-- n is what is read of the words of leaf l of an accepted index that is lent
pub record TermRoot (R : LeafReader) (n : ScoreNode) (ix : Index) (l : ℕ) (sc : Scoring) : Type 0 where
  pub accepted : Accepted ix
  pub postings-are : ix.postings ≡ R.postings.now
  pub norms-are : ix.norms ≡ R.norms.now
  pub live-are : ix.live ≡ R.live.now
  pub leaf-there : l < leaf_count ix
  pub tables : LeafTable ix R.inverses.now (term l) sc
  pub first-is : n.first ≡ leaf_first ix l
  pub number_is : n.number ≡ leaf_number ix l
  pub field_is : n.field ≡ leaf_field ix l
  pub norms-is : n.norms ≡ first_byte (norms_word ix (leaf_field ix l))
  pub scores : NodeScores sc n

pub record RootIs (R : LeafReader) (n : ScoreNode) (ix : Index) (s : Scorer) : Type 0 where
  pub l : ℕ
  pub sc : Scoring
  pub is : s ≡ leaf (term l) sc
  pub root : TermRoot R n ix l sc

-- the words of kind 1 are a term's
module _ (R : LeafReader) (n : ScoreNode) (E : Lists) (places depth : ℕ) (states : List ℕ) (N : ScoreNodeIs states n) (k : get_or states 0 0 ≡ 1) (same : E.postings ≡ R.postings.now) where
  term-root : (ix : Index) (s : Scorer) (scores : ℕ) → PageHeld E R.norms.now R.live.now R.inverses.now ix places s depth scores states 0 → RootIs R n ix s
  unfolding Ok LeafIs Sound LeafSound Tables
  term-root ix (leaf nothing sc) m H = absurd (omega (arith, kind-read states H.ok.1 H.ok.0 H.ok.2, H.ok.4.0))
  term-root ix (leaf (term l) sc) m H =
      let p = H.ok in
      let W = read states p.1 p.0 n p.2 N in
      let i = p.4.0 in
      record {
        l = l;
        sc = sc;
        is = refl;
        root = record {
          accepted = H.lends.accepted;
          postings-are = H.lends.postings-are ∙ same;
          norms-are = H.norms-are;
          live-are = H.live-are;
          leaf-there = H.scorable.sound;
          tables = H.scorable.tables;
          first-is = W.first-is ∙ i.first-is;
          number_is = W.number_is ∙ i.number_is;
          field_is = W.field_is ∙ i.field_is;
          norms-is = W.norms-is ∙ ap first_byte i.norms-is;
          scores = node-scores sc p.0 n W.constant-is W.weight_is p.5;
        };
      }
  term-root ix (leaf (phrase f ts) sc) m H = absurd (omega (arith, kind-read states H.ok.1 H.ok.0 H.ok.2, H.ok.4.kind-is))
  term-root ix (leaf (range r) sc) m H = absurd (omega (arith, kind-read states H.ok.1 H.ok.0 H.ok.2, H.ok.4.0.kind-is))
  term-root ix (leaf everything sc) m H = absurd (omega (arith, kind-read states H.ok.1 H.ok.0 H.ok.2, H.ok.4.0))
  term-root ix (boolean c j need rs os ps) m H = let p = H.ok in absurd (omega (arith, kind-read states (p.1 ++ (p.2 ++ p.3)) p.0 p.4, p.7.kind-is))

-- a root that a call asks of
pub record RootAt (R : LeafReader) (n : ScoreNode) (doc_base : ℕ) : Type 0 where
  pub ix : Index
  pub l : ℕ
  pub sc : Scoring
  pub root : TermRoot R n ix l sc
  -- so many documents are numbered on
  pub few : doc_base + ix.max_doc ≤ no_more_docs
  -- the last posting ends within the postings
  pub ends : 3 * (n.first + n.number) ≤ length R.postings.now

pub asked-root : (R : LeafReader) (n : ScoreNode) (states : List ℕ) (doc_base : ℕ) (c : TopScoreDocCollector) (heap : List ℤ) → (E : Lists) × (places : ℕ) × (depth : ℕ) × (E.postings ≡ R.postings.now) × (get_or states 0 0 ≡ 1) × CollectPre E R.norms.now R.live.now R.inverses.now places states depth doc_base c heap → ScoreNodeIs states n → RootAt R n doc_base
asked-root R n states doc_base c heap q N =
    let w = term-root R n q.0 q.1 q.2 states N q.4 q.3 q.5.2.0 q.5.2.1 q.5.2.2 (root-page q.0 R.norms.now R.live.now R.inverses.now q.5.2.0 q.1 q.5.2.1 q.2 q.5.2.2 states q.5.2.3) in
    let r = w.root in
    let e : length q.5.2.0.postings ≡ length R.postings.now = ap length r.postings-are in
    record {
      ix = q.5.2.0;
      l = w.l;
      sc = w.sc;
      root = r;
      few = omega (arith, q.5.0, q.5.2.3.lends.documents);
      ends = omega (arith, (r.accepted.leaf w.l r.leaf-there).words, r.first-is, r.number_is);
    }

-- posting i of the root's run
pub record PostingIs (R : LeafReader) (n : ScoreNode) (i doc frequency : ℕ) : Type 0 where
  pub below : i < n.number
  pub doc-is : doc ≡ get_or R.postings.now (3 * (n.first + i)) 0
  pub frequency-is : frequency ≡ get_or R.postings.now (3 * (n.first + i) + 1) 0

-- .. as it is read from the run's chunks
pub posting-read : {R : LeafReader} {n : ScoreNode} {doc_base : ℕ} → RootAt R n doc_base → (records : List (List ℕ)) → records ≡ first_chunks 3 (length (run-words R.postings.now n.first n.number) / 3) (run-words R.postings.now n.first n.number) → (i : ℕ) → i < length (run-words R.postings.now n.first n.number) / 3 → PostingIs R n i (get_or (get_or records i []) 0 0) (get_or (get_or records i []) 1 0)
posting-read {R} {n} W records e i h =
    let b : i < n.number = omega (arith, h, run_length R.postings.now n.first n.number W.ends) in
    record {
      below = b;
      doc-is = record-word records R.postings.now n.first n.number e W.ends i 0 b (lit< tt) ∙ ap (λ (k : ℕ). get_or R.postings.now k 0) (add-zero (3 * (n.first + i)));
      frequency-is = record-word records R.postings.now n.first n.number e W.ends i 1 b (lit< tt);
    }

-- the loop stands at posting i: those before it are passed
pub record TermAt (n : ScoreNode) (doc_base : ℕ) (c₀ : TopScoreDocCollector) (heap₀ : List ℤ) (ix : Index) (l : ℕ) (sc : Scoring) (c : TopScoreDocCollector) (heap : List ℤ) (i : ℕ) : Type 0 where
  pub from : ℕ
  pub few : from ≤ ix.max_doc
  pub passed : (j : ℕ) → j < i → leaf_document ix l j < from
  pub ahead : i < n.number → from ≤ leaf_document ix l i
  pub sofar : Sofar ix (leaf (term l) sc) doc_base c₀ heap₀ c heap from

-- .. of each root
pub record TermsAt (R : LeafReader) (n : ScoreNode) (doc_base : ℕ) (c₀ : TopScoreDocCollector) (heap₀ : List ℤ) (c : TopScoreDocCollector) (heap : List ℤ) (i : ℕ) : Type 0 where
  pub of : (ix : Index) (l : ℕ) (sc : Scoring) → TermRoot R n ix l sc → TermAt n doc_base c₀ heap₀ ix l sc c heap i

pub term-start : (R : LeafReader) (n : ScoreNode) (doc_base : ℕ) (c₀ : TopScoreDocCollector) (heap₀ : List ℤ) → TermsAt R n doc_base c₀ heap₀ c₀ heap₀ 0
term-start R n doc_base c₀ heap₀ =
    record {
      of = λ ix l sc W.
          record { from = 0; few = omega arith; passed = λ j h. absurd (omega arith); ahead = λ h. omega arith; sofar = sofar-start ix (leaf (term l) sc) doc_base c₀ heap₀ };
    }

-- a document that is no posting's is no live match
other : (ix : Index) (l : ℕ) (sc : Scoring) (d : ℕ) → ((j : ℕ) → j < leaf_number ix l → leaf_document ix l j ≡ d → ⊥) → live_match ix (leaf (term l) sc) d ≡ false
unfolding matches leaf_matches
other ix l sc d h = not-match ix (leaf (term l) sc) d (ap found (posting-none ix l d h))

module _ {R : LeafReader} {n : ScoreNode} {i doc frequency : ℕ} (Q : PostingIs R n i doc frequency) where
  inside : (ix : Index) (l : ℕ) (sc : Scoring) → TermRoot R n ix l sc → i < leaf_number ix l
  inside ix l sc W = omega (arith, Q.below, W.number_is)

  document : (ix : Index) (l : ℕ) (sc : Scoring) → TermRoot R n ix l sc → doc ≡ leaf_document ix l i
  document ix l sc W = Q.doc-is ∙ ap (λ (w : List ℕ). get_or w (3 * (n.first + i)) 0) (sym W.postings-are) ∙ ap (λ (f : ℕ). get_or ix.postings (3 * (f + i)) 0) W.first-is

  below : (ix : Index) (l : ℕ) (sc : Scoring) → TermRoot R n ix l sc → doc < ix.max_doc
  below ix l sc W = omega (arith, document ix l sc W, (W.accepted.posting l i W.leaf-there (inside ix l sc W)).document)

  here : (ix : Index) (l : ℕ) (sc : Scoring) → TermRoot R n ix l sc → posting_at ix l doc ≡ some i
  here ix l sc W = posting-at ix l doc (W.accepted.ascending l W.leaf-there) i (inside ix l sc W) (sym (document ix l sc W))

  asks : (ix : Index) (l : ℕ) (sc : Scoring) → TermRoot R n ix l sc → PostingAsks ix R.inverses.now R.norms.now l sc n frequency doc
  asks ix l sc W =
      record {
        accepted = W.accepted;
        norms-are = W.norms-are;
        document = below ix l sc W;
        leaf-there = W.leaf-there;
        tables = W.tables;
        field_is = W.field_is;
        norms-is = W.norms-is;
        scores = W.scores;
        match = ap found (here ix l sc W);
        frequency-is = Q.frequency-is ∙ ap (λ (w : List ℕ). get_or w (3 * (n.first + i) + 1) 0) (sym W.postings-are) ∙ ap (λ (f : ℕ). get_or ix.postings (3 * (f + i) + 1) 0) W.first-is ∙ sym (ap (frequency_of ix l) (here ix l sc W));
      }

  -- of the root that the call asks of
  module _ {doc_base : ℕ} (W : RootAt R n doc_base) where
    pub term-small : doc_base + doc < no_more_docs
    term-small = omega (arith, below W.ix W.l W.sc W.root, W.few)

    pub term-bit : 0 < length R.live.now → doc < 64 * length R.live.now
    term-bit = live-there W.ix R.live.now doc W.root.accepted W.root.live-are (below W.ix W.l W.sc W.root)

    pub term_asks : (ix : Index) × (l : ℕ) × (sc : Scoring) × PostingAsks ix R.inverses.now R.norms.now l sc n frequency doc
    term_asks = (W.ix, W.l, W.sc, asks W.ix W.l W.sc W.root)

    pub term-clear : (r : Float) → ((ix : Index) (l : ℕ) (sc : Scoring) → PostingAsks ix R.inverses.now R.norms.now l sc n frequency doc → (r ≡ leaf_score ix (term l) sc doc) × AtMost (2 ^ 29) r) → T (sign_clear r)
    term-clear r post = let p = term_asks in nonneg-clear r (post p.0 p.1 p.2 p.3).1.sign

module _ {R : LeafReader} {n : ScoreNode} {doc_base : ℕ} {c₀ : TopScoreDocCollector} {heap₀ : List ℤ} {c : TopScoreDocCollector} {heap : List ℤ} {i : ℕ} (I : TermsAt R n doc_base c₀ heap₀ c heap i) where
  pub term-done : n.number ≤ i → (states : List ℕ) → ScoreNodeIs states n → get_or states 0 0 ≡ 1 → (E : Lists) (places depth : ℕ) → E.postings ≡ R.postings.now → CollectPost E R.norms.now R.live.now R.inverses.now places states depth doc_base c₀ heap₀ c heap
  term-done h states N k E places depth same ix s scores H =
      let W = term-root R n E places depth states N k same ix s scores (root-page E R.norms.now R.live.now R.inverses.now ix places s depth scores states H) in
      let p = I.of ix W.l W.sc W.root in
      rw W.is
      (sofar-done ix (leaf (term W.l) W.sc) doc_base c₀ heap₀ c heap p.from p.sofar E.documents (omega (arith, p.few, H.lends.documents))
      (λ x a. other ix W.l W.sc x (λ j m e. omega (arith, p.passed j (omega (arith, h, W.root.number_is))))))

  module _ {doc frequency : ℕ} (Q : PostingIs R n i doc frequency) where
    from-here : (ix : Index) (l : ℕ) (sc : Scoring) (W : TermRoot R n ix l sc) → (I.of ix l sc W).from ≤ doc
    from-here ix l sc W = omega (arith, document Q ix l sc W, (I.of ix l sc W).ahead Q.below)

    pub term-ready : RootAt R n doc_base → CollectorReady doc_base c₀ heap₀ → CollectorReady (doc_base + doc) c heap
    term-ready W start =
        let p = I.of W.ix W.l W.sc W.root in
        sofar-ready W.ix (leaf (term W.l) W.sc) doc_base c₀ heap₀ c heap p.from p.sofar start (doc_base + doc) (omega (arith, from-here W.ix W.l W.sc W.root))

    -- none is live between the last posting and this one
    between : (ix : Index) (l : ℕ) (sc : Scoring) (W : TermRoot R n ix l sc) (x : ℕ) → (I.of ix l sc W).from ≤ x → x < doc → live_match ix (leaf (term l) sc) x ≡ false
    between ix l sc W x a b =
        other ix l sc x
        (λ j m e. ⊎_elim (λ h. omega (arith, (I.of ix l sc W).passed j h)) (λ h. ⊎_elim (λ q. omega (arith, document Q ix l sc W, ap (leaf_document ix l) q)) (λ q. omega (arith, document Q ix l sc W, W.accepted.ascending l W.leaf-there i j q m)) (eq-or-lt_of_le h)) (cmp j i))

    -- on to the next posting
    next-at : (ix : Index) (l : ℕ) (sc : Scoring) → TermRoot R n ix l sc → (c' : TopScoreDocCollector) (heap' : List ℤ) → Sofar ix (leaf (term l) sc) doc_base c₀ heap₀ c' heap' (doc + 1) → TermAt n doc_base c₀ heap₀ ix l sc c' heap' (i + 1)
    next-at ix l sc W c' heap' s =
        let d = document Q ix l sc W in
        record {
          from = doc + 1;
          few = omega (arith, below Q ix l sc W);
          passed = λ j h. ⊎_elim (λ (q : j ≡ i). omega (arith, d, ap (leaf_document ix l) q)) (λ (q : suc j ≤ i). omega (arith, d, W.accepted.ascending l W.leaf-there j i q (inside Q ix l sc W))) (eq-or-lt_of_le {n = j} {m = i} (omega arith));
          ahead = λ h. omega (arith, d, W.accepted.ascending l W.leaf-there i (i + 1) (omega arith) (omega (arith, W.number_is)));
          sofar = s;
        }

    -- a document that is not live is passed over
    pub term-pass : is_live (live_only R.live.now) doc ≡ false → TermsAt R n doc_base c₀ heap₀ c heap (i + 1)
    term-pass e =
        record {
          of = λ ix l sc W.
              let q = I.of ix l sc W in
              let dead : live_match ix (leaf (term l) sc) doc ≡ false = not_live ix (leaf (term l) sc) doc (sym (live_of ix R.live.now doc W.live-are) ∙ e) in
              next-at ix l sc W c heap
              (sofar-skip ix (leaf (term l) sc) doc_base c₀ heap₀ c heap q.from q.sofar (doc + 1) (omega (arith, from-here ix l sc W))
              (λ x a b. ⊎_elim (λ (z : x ≡ doc). subst (λ (y : ℕ). live_match ix (leaf (term l) sc) y ≡ false) (sym z) dead) (λ (z : suc x ≤ doc). between ix l sc W x a z) (eq-or-lt_of_le {n = x} {m = doc} (omega arith))));
        }

    -- a live one is collected
    pub term-take : is_live (live_only R.live.now) doc ≡ true → (r : Float) → ((ix : Index) (l : ℕ) (sc : Scoring) → PostingAsks ix R.inverses.now R.norms.now l sc n frequency doc → (r ≡ leaf_score ix (term l) sc doc) × AtMost (2 ^ 29) r) → (c' : TopScoreDocCollector) (heap' : List ℤ) → Extended (record { doc = doc_base + doc; score = r }) c heap c' heap' → TermsAt R n doc_base c₀ heap₀ c' heap' (i + 1)
    unfolding matches leaf_matches scorer_score
    term-take e r post c' heap' x =
        record {
          of = λ ix l sc W.
              let q = I.of ix l sc W in
              next-at ix l sc W c' heap'
              (sofar-take ix (leaf (term l) sc) doc_base c₀ heap₀ c heap q.from q.sofar doc r c' heap' (omega (arith, W.accepted.documents)) (from-here ix l sc W) (between ix l sc W)
              (is-match ix (leaf (term l) sc) doc (below Q ix l sc W) (sym (live_of ix R.live.now doc W.live-are) ∙ e) (ap found (here Q ix l sc W)))
              (post ix l sc (asks Q ix l sc W)).0
              x);
        }
