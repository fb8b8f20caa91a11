-- What an order that is not refused prepares: its scorer tree in the node states, and that its walk gives the full list. Assumes nothing.
use mathlib.Core.Path.{◌≡◌, refl, sym, ◌∙◌, subst}
use mathlib.Core.Bool.{false}
use mathlib.Core.List.{List, ◌++◌}
use mathlib.Core.Option.{none}
use Prim.Native.Nat.{ℕ, ◌≤◌, ◌<◌, min}
use native.Mathlib.Omega.{arith}
use lib.ListN.{length, get_or, take, drop, length-append, length-drop, length-take}
use lib.Seq.{get_or-take, take_at, length-take-le}
use lib.IntN.{ℤ}
use lib.Ieee.{Float}
use Rattle.meaning.specs.Limits.{node_state_words, no_more_docs}
use Rattle.meaning.specs.Lent.{Index}
use Rattle.meaning.specs.Bm25.{one}
use Rattle.meaning.specs.Query.{query_tree}
use Rattle.meaning.specs.FullList.{ScoreDoc, full_list}
use Rattle.meaning.specs.Pages.{page}
use Rattle.meaning.specs.Entries.{page_of}
use Rattle.meaning.specs.CallRefusals.{Work, work_short}
use Rattle.index.specs.declared.lent.Lent.{Lent}
use Rattle.index.specs.IndexOf.{index_of}
use Rattle.collector.specs.declared.TopScoreDocCollector.{TopScoreDocCollector}
use Rattle.collector.specs.Collected.{CollectorReady}
use Rattle.tree_weight.specs.Measured.{AcceptedOrder}
use Rattle.tree_weight.specs.State.{size_of}
use Rattle.tree_weight.specs.Held.{Ok}
use Rattle.tree_weight.proofs.Queries.{query-sound, query-nodes}
use Rattle.tree_weight.proofs.FullList.{scorer-list}
use Rattle.tree_words.specs.Placed.{Placed}
use Rattle.tree_words.proofs.Placing.{placed-ok}
use Rattle.score_inverses.specs.Inverses.{FieldTables}
use Rattle.tree_weight.specs.ScorerTree.{Scorer}
use Rattle.scorer_leaf.specs.declared.LeafReader.{LeafReader}
use Rattle.scorer_leaf.specs.declared.PhraseBuffers.{PhraseBuffers}
use Rattle.scorer_leaf.specs.Buffers.{places_in}
use Rattle.scorer.specs.Calls.{lists, lists_of}
use Rattle.score_leaf.specs.Asked.{Scorable}
use Rattle.scorer_leaf.proofs.Bounds.{ok-mono, ok-length, ok-long, ok-front, front-size}
use Rattle.walk.specs.declared.Listed.{Listed}
use Rattle.walk.specs.Walks.{live_scored, PageHeld, PageIs}
use Rattle.bulk_scorer.specs.Collects.{RootHeld, Continued}
use Rattle.check_order.proofs.Rooms.{starts-room}
use Rattle.score_inverses.proofs.QueryTables.{query-tables}
pub use Rattle.tree_records.specs.Standing.{Standing, order_tree}
use Rattle.searcher.specs.declared.buffers.Buffers.{Buffers}
use Rattle.searcher.specs.WorkBuffers.{KeptBuffers, SameWorkBuffers}
use Rattle.searcher.specs.WalkLent.{TreeFits, WalkLent, CollectAsks, CollectGives, ListAsks, ListGives}
use Rattle.check_order.specs.WorkOf.{work}

-- ---- the work buffers
-- not written yet
pub untouched : (n : ℕ) (b : Buffers ℕ) → KeptBuffers n b b
untouched n b = record { states = λ h. refl; starts = λ h. refl; other_starts = λ h. refl; ranges = λ h. refl }

-- in a call that is not refused
pub not-kept : (n : ℕ) (b b' : Buffers ℕ) → (0 < n → ⊥) → KeptBuffers n b b'
not-kept n b b' h = record { states = λ z. absurd (h z); starts = λ z. absurd (h z); other_starts = λ z. absurd (h z); ranges = λ z. absurd (h z) }

pub unmoved : (b : Buffers ℕ) → SameWorkBuffers b b
unmoved b = record { lengths = refl; states = refl; starts = refl; other_starts = refl; ranges = refl }

-- after two calls
pub moved-on : (a b c : Buffers ℕ) → SameWorkBuffers a b → SameWorkBuffers b c → SameWorkBuffers a c
moved-on a b c s t = record {
  lengths = t.lengths ∙ s.lengths;
  states = t.states ∙ s.states;
  starts = t.starts ∙ s.starts;
  other_starts = t.other_starts ∙ s.other_starts;
  ranges = t.ranges ∙ s.ranges;
}

pub same-work : (s s' a a' b b' r r' : ℕ) → s ≡ s' → a ≡ a' → b ≡ b' → r ≡ r' → work s a b r ≡ work s' a' b' r'
same-work s s' a a' b b' r r' e f g h = rw (e, f, g, h) refl

-- words with another front of the same length
pub same-long : (states out : List ℕ) (size : ℕ) → size ≤ length states → length out ≡ length (take size states) → length (out ++ drop size states) ≡ length states
same-long states out size h e =
    let l = length-append out (drop size states) in
    let d = length-drop size states in
    let t = length-take-le size states h in
    omega (arith, h, e, l, d, t)

-- ---- the tree in the node states
module _ (ix : Index) (q ranges words : List ℕ) (from : ℕ) where
  -- there is a record at least, and its second word is the size of the tree
  pub stands-long : Standing ix q ranges words from → node_state_words ≤ length words
  stands-long s =
      let n = size_of (order_tree ix q) in
      let long = ok-long ix ranges (order_tree ix q) 16 0 (take n words) from s.ok in
      let part = length-take n words in
      omega (arith, long, part)

  pub stands-size : Standing ix q ranges words from → get_or words 1 0 ≡ size_of (order_tree ix q)
  stands-size s =
      let n = size_of (order_tree ix q) in
      let front = front-size (ok-front ix ranges (order_tree ix q) 16 0 (take n words) from s.ok) in
      let size = ok-length ix ranges (order_tree ix q) 16 0 (take n words) from s.ok in
      let long = ok-long ix ranges (order_tree ix q) 16 0 (take n words) from s.ok in
      sym (get_or-take n words 1 0 (omega (arith, size, long))) ∙ front ∙ size

  -- a tree that was just built stands there for every document
  pub placed-stands : (r : ℕ) → Placed ix ranges (order_tree ix q) 16 0 r words → Standing ix q ranges words from
  placed-stands r p =
      let at = subst (λ (n : ℕ). (n ≤ length words) × Ok ix ranges (order_tree ix q) 16 0 (take n words) 0) p.size_is (p.within, placed-ok ix ranges (order_tree ix q) 16 0 r words p) in
      record { within = at.0; ok = ok-mono ix ranges (order_tree ix q) 16 0 (take (size_of (order_tree ix q)) words) 0 from (omega arith) at.1 }

-- .. in as many words as it has
pub placed-whole : (ix : Index) (q ranges words : List ℕ) (r : ℕ) → Placed ix ranges (order_tree ix q) 16 0 r words → Placed ix ranges (order_tree ix q) 16 0 (size_of (order_tree ix q)) words
placed-whole ix q ranges words r p = subst (λ (n : ℕ). Placed ix ranges (order_tree ix q) 16 0 n words) p.size_is p

-- the part of the tree went on, the words after it stayed
pub stands_on : (ix : Index) (q ranges words out : List ℕ) (size next : ℕ) → size ≡ size_of (order_tree ix q) → Ok ix ranges (order_tree ix q) 16 0 out next → Standing ix q ranges (out ++ drop size words) next
stands_on ix q ranges words out size next e ok =
    let long = ok-length ix ranges (order_tree ix q) 16 0 out next ok in
    let all = length-append out (drop size words) in
    record { within = omega (arith, long, all); ok = subst (λ (l : List ℕ). Ok ix ranges (order_tree ix q) 16 0 l next) (sym (take_at out (drop size words) (size_of (order_tree ix q)) long)) ok }

pub has-tree : (ix : Index) (q : List ℕ) (b : Buffers ℕ) (from : ℕ) → Standing ix q b.ranges.now b.states.now from → TreeFits b
has-tree ix q b from s = record {
  some = omega (arith, stands-long ix q b.ranges.now b.states.now from s);
  within = omega (arith, stands-size ix q b.ranges.now b.states.now from s, s.within);
}

-- the same words
pub standing-in : (ix : Index) (q : List ℕ) {ranges ranges' words words' : List ℕ} (from : ℕ) → ranges' ≡ ranges → words' ≡ words → Standing ix q ranges words from → Standing ix q ranges' words' from
standing-in ix q from e f s = rw (e, f) s

-- the full list is what a walk over that tree gives
pub walk-is-full : (ix : Index) (q : List ℕ) → live_scored ix (order_tree ix q) ≡ full_list ix (query_tree q)
unfolding live_scored
walk-is-full ix q = sym (scorer-list ix (query_tree q))

-- so what is collected and the page of the walk are those of the full list
pub continued-full : (ix : Index) (q : List ℕ) (n : ℕ) (c c' : TopScoreDocCollector) (heap heap' : List ℤ) → Continued 0 n (live_scored ix (order_tree ix q)) c heap c' heap' → Continued 0 n (full_list ix (query_tree q)) c heap c' heap'
continued-full ix q n c c' heap heap' e = subst (λ (l : List ScoreDoc). Continued 0 n l c heap c' heap') (walk-is-full ix q) e

pub page-full : (ix : Index) (q : List ℕ) (target : ℕ) (docs bits docs' bits' : List ℕ) (r : Listed) → PageIs (page target (length docs) (live_scored ix (order_tree ix q))) docs bits r docs' bits' → PageIs (page_of ix q target (length docs)) docs bits r docs' bits'
page-full ix q target docs bits docs' bits' r d = subst (λ (l : List ScoreDoc). PageIs (page target (length docs) l) docs bits r docs' bits') (walk-is-full ix q) d

module _ (l : Lent) (q : List ℕ) where
  abbrev ix : Index
  ix = index_of l

  scores-known : (w : Work) → AcceptedOrder ix q → work_short ix q w ≡ false → (table : List Float) → FieldTables ix q table → Scorable ix table (min w.starts w.other_starts) (order_tree ix q)
  scores-known w a e table t = record {
    sound = query-sound ix q (min w.starts w.other_starts) a.values-right a.positions-right (starts-room ix q w e) a.records-right one none;
    tables = query-tables ix q table a t one none;
    few = query-nodes q a.records-right ix one none;
  }

  -- what `build` gives is what a bulk scorer asks for
  pub root-held : (w : Work) → AcceptedOrder ix q → work_short ix q w ≡ false → (table : List Float) → FieldTables ix q table → (ranges states : List ℕ) (size : ℕ) → size ≡ size_of (order_tree ix q) → Placed ix ranges (order_tree ix q) 16 0 (size_of (order_tree ix q)) states → RootHeld (lists l.max_doc l.postings.now l.positions.now ranges) l.norms.now l.live.now table ix (min w.starts w.other_starts) (order_tree ix q) 16 0 (take size states)
  root-held w a e table t ranges states size h p = subst (λ (k : ℕ). RootHeld (lists l.max_doc l.postings.now l.positions.now ranges) l.norms.now l.live.now table ix (min w.starts w.other_starts) (order_tree ix q) 16 0 (take k states)) (sym h) (record {
    lends = record { accepted = a.accepted; documents = refl; postings-are = refl; positions-are = refl };
    norms-are = refl;
    live-are = refl;
    scorable = scores-known w a e table t;
    held = p.held;
  })

  -- and a tree that stands there what the walk asks for
  pub walk-held : (w : Work) → AcceptedOrder ix q → work_short ix q w ≡ false → (table : List Float) → FieldTables ix q table → (ranges states : List ℕ) (size from : ℕ) → size ≡ size_of (order_tree ix q) → Standing ix q ranges states from → PageHeld (lists l.max_doc l.postings.now l.positions.now ranges) l.norms.now l.live.now table ix (min w.starts w.other_starts) (order_tree ix q) 16 0 (take size states) from
  walk-held w a e table t ranges states size from h s = record {
    lends = record { accepted = a.accepted; documents = refl; postings-are = refl; positions-are = refl };
    norms-are = refl;
    live-are = refl;
    scorable = scores-known w a e table t;
    ok = subst (λ (k : ℕ). Ok ix ranges (order_tree ix q) 16 0 (take k states) from) (sym h) s.ok;
  }

-- ---- what a walk over the tree is lent
module _ (l : Lent) (q : List ℕ) (w : Work) (a : AcceptedOrder (index_of l) q) (e : work_short (index_of l) q w ≡ false) (table : List Float) (t : FieldTables (index_of l) q table) (ranges states : List ℕ) (size : ℕ) (h : size ≡ size_of (order_tree (index_of l) q))
    {tree : List ℕ} {r : LeafReader} {b : PhraseBuffers} (g : WalkLent l table ranges (min w.starts w.other_starts) (take size states) tree r b) where
  abbrev s : Scorer
  s = order_tree (index_of l) q

  -- a bulk scorer
  root-lent : Placed (index_of l) ranges s 16 0 (size_of s) states → RootHeld (lists_of r) r.norms.now r.live.now r.inverses.now (index_of l) (places_in b) s 16 0 tree
  root-lent p = rw (g.reads.documents, g.reads.postings_are, g.reads.positions_are, g.reads.ranges_are, g.reads.norms_are, g.reads.live_are, g.reads.inverses_are, g.places_are, g.words_are) (root-held l q w a e table t ranges states size h p)

  module _ (p : Placed (index_of l) ranges s 16 0 (size_of s) states) (c : TopScoreDocCollector) (heap : List ℤ) where
    pub collect-asks : CollectorReady 0 c heap → CollectAsks r b tree c heap
    collect-asks ready = (omega (arith, a.accepted.documents, g.reads.documents), ready, (index_of l, s, 0, root-lent p))

    module _ {c' : TopScoreDocCollector} {heap' : List ℤ} {tree' : List ℕ} (gives : CollectGives r b tree c heap c' heap' tree') where
      pub collect-gives : Continued 0 l.max_doc (full_list (index_of l) (query_tree q)) c heap c' heap'
      collect-gives = continued-full (index_of l) q l.max_doc c c' heap heap' (subst (λ (n : ℕ). Continued 0 n (live_scored (index_of l) s) c heap c' heap') g.reads.documents (gives.post (index_of l) s 0 (root-lent p)))

      pub collect-stands : Standing (index_of l) q ranges (tree' ++ drop size states) no_more_docs
      collect-stands = stands_on (index_of l) q ranges states tree' size no_more_docs h (subst (λ (rs : List ℕ). Ok (index_of l) rs s 16 0 tree' no_more_docs) g.reads.ranges_are (gives.end (index_of l) s 0 (root-lent p)))

  -- the walk of a page
  page-lent : (from : ℕ) → Standing (index_of l) q ranges states from → PageHeld (lists_of r) r.norms.now r.live.now r.inverses.now (index_of l) (places_in b) s 16 0 tree from
  page-lent from stands = rw (g.reads.documents, g.reads.postings_are, g.reads.positions_are, g.reads.ranges_are, g.reads.norms_are, g.reads.live_are, g.reads.inverses_are, g.places_are, g.words_are) (walk-held l q w a e table t ranges states size from h stands)

  module _ (from : ℕ) (stands : Standing (index_of l) q ranges states from) (docs bits : List ℕ) where
    pub list-asks : from ≤ l.max_doc → length docs ≡ length bits → ListAsks r b tree from docs bits
    list-asks within same = (omega (arith, within, a.accepted.documents), same, (index_of l, s, 0, page-lent from stands))

    pub list-gives : {x : Listed} {tree' docs' bits' : List ℕ} → ListGives r b tree from docs bits x tree' docs' bits' → PageIs (page_of (index_of l) q from (length docs)) docs bits x docs' bits' × Standing (index_of l) q ranges (tree' ++ drop size states) x.next
    list-gives {x} {tree'} {docs'} {bits'} gives =
        let there = gives.post (index_of l) s 0 (page-lent from stands) in
        (page-full (index_of l) q from docs bits docs' bits' x there.0, stands_on (index_of l) q ranges states tree' size x.next h (subst (λ (rs : List ℕ). Ok (index_of l) rs s 16 0 tree' x.next) g.reads.ranges_are there.1))
