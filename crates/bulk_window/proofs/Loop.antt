-- The loop over windows: the live matches before a window are collected. Assumes nothing.
use Rattle.std.proofs.lemmas.Bool.{and_parts}
use Rattle.std.proofs.Common.{◌≡◌, refl, sym, ap, subst, ◌∙◌, Bool, true, ◌&&◌, List, [], ◌∷◌, ◌++◌, map, ℕ, ◌+◌, ◌-◌, ◌*◌, ◌≤◌, ◌<◌, min, ltb, length, get_or, ℤ, arith, lt-ltb, le-ltb, ⊎_elim}
use mathlib.Core.List.{append_assoc, append-nil}
use mathlib.Core.Bool.{and_assoc, false≢true}
use Rattle.meaning.proofs.Tests.{cmp}
use Rattle.meaning.specs.Below.{list_below}
use Rattle.meaning.proofs.Below.{list_same}
use Rattle.meaning.specs.Limits.{no_more_docs}
use Rattle.meaning.specs.Lent.{Index}
use Rattle.meaning.specs.Live.{is_live}
use Rattle.meaning.specs.FullList.{ScoreDoc}
use Rattle.bits.specs.Bit.{bit, set_bits}
use Rattle.collector.specs.declared.TopScoreDocCollector.{TopScoreDocCollector}
use Rattle.collector.specs.Collected.{Collected, CollectorReady}
use Rattle.collector.proofs.Beginning.{collected-later}
use Rattle.index.specs.Slices.{live_only}
use Rattle.tree_weight.specs.ScorerTree.{Scorer, matches, scorer_score}
use Rattle.tree_weight.specs.Held.{Ok}
use Rattle.scorer_leaf.specs.Calls.{Lists, lists_of, RoomIn}
use Rattle.scorer_leaf.specs.declared.LeafReader.{LeafReader}
use Rattle.scorer_leaf.proofs.Bounds.{ok-mono}
use Rattle.walk.specs.Walks.{live_match, scored, live_scored}
use Rattle.window_words.specs.Windowed.{nowhere, places_of, Windowed}
use Rattle.window_words.proofs.Laws.{windowed-less, windowed-forget, windowed-ok}
use Rattle.window_leaf.specs.Asks.{Answers, Wanted, NodeWindowed, BitsPre, BitsPost}
use Rattle.window_score.specs.Asked.{Reads, reads, WindowLent, NodeAsked}
use Rattle.bulk_scorer.specs.Collects.{RootHeld, numbered, Continued}
use Rattle.bulk_scorer.proofs.LiveMatches.{live_of, live-there, not-match, not-below}
use Rattle.bulk_window.specs.Windows.{LiveBits, NextWindow, placed, WindowPre, WindowPost}
use Rattle.bulk_window.proofs.Lists.{list-split, list-skip}

below : (d n : ℕ) → ltb d n ≡ true → d < n
below d n e = ⊎_elim (λ (h : d < n). h) (λ (h : n ≤ d). absurd (false≢true (sym (le-ltb d n h) ∙ e))) (cmp d n)

-- the documents of a window, numbered from its first one, are those of the sale
window-list : (ix : Index) (s : Scorer) (doc_base base : ℕ) (W : List ℕ) → map (numbered (doc_base + base)) (map (λ p. record { doc = p; score = scorer_score ix s (base + p) }) W) ≡ map (numbered doc_base) (map (scored ix s) (map (λ p. base + p) W))
window-list ix s doc_base base [] = refl
window-list ix s doc_base base (p ∷ W) =
    let e : doc_base + base + p ≡ doc_base + (base + p) = omega arith in
    ap (λ (i : ℕ). record { doc = i; score = scorer_score ix s (base + p) } ∷ map (numbered (doc_base + base)) (map (λ p. record { doc = p; score = scorer_score ix s (base + p) }) W)) e
    ∙ ap (λ (l : List ScoreDoc). record { doc = doc_base + (base + p); score = scorer_score ix s (base + p) } ∷ l) (window-list ix s doc_base base W)

map-append {ℓ κ} : {A : Type ℓ} {B : Type κ} (f : A → B) (xs ys : List A) → map f (xs ++ ys) ≡ map f xs ++ map f ys
map-append f [] ys = refl
map-append f (x ∷ xs) ys = ap (λ l. f x ∷ l) (map-append f xs ys)

module _ (reader : LeafReader) (places : ℕ) (states₀ : List ℕ) (depth doc_base : ℕ) (c₀ : TopScoreDocCollector) (heap₀ : List ℤ) where
  abbrev n : ℕ
  n = reader.max_doc

  abbrev E : Lists
  E = lists_of reader

  abbrev V : ℕ → Reads
  V = reads reader

  abbrev pub Held : Index → Scorer → ℕ → Type 0
  Held ix s scores = RootHeld E reader.norms.now reader.live.now reader.inverses.now ix places s depth scores states₀

  -- those that are collected before a window
  abbrev before : Index → Scorer → ℕ → List ScoreDoc
  before ix s base = map (numbered doc_base) (map (scored ix s) (list_below base (live_match ix s)))

  pub record At (ix : Index) (s : Scorer) (scores : ℕ) (states : List ℕ) (c : TopScoreDocCollector) (heap : List ℤ) (base : ℕ) : Type 0 where
    pub held : Windowed ix reader.ranges.now s depth scores states base base nowhere
    pub collected : (k t b : ℕ) (xs : List ScoreDoc) (start : List ℤ) → b ≤ doc_base → Collected k t b xs start c₀ heap₀ → Collected k t (doc_base + min base n) (xs ++ before ix s base) start c heap

  abbrev pub AllAt : List ℕ → TopScoreDocCollector → List ℤ → ℕ → Type 0
  AllAt states c heap base = (ix : Index) (s : Scorer) (scores : ℕ) → Held ix s scores → At ix s scores states c heap base

  pub loop-start : AllAt states₀ c₀ heap₀ 0
  unfolding list_below
  loop-start ix s scores H =
      record {
        held = H.held;
        collected = λ k t b xs start l p. subst (λ (z : List ScoreDoc). Collected k t (doc_base + min 0 n) z start c₀ heap₀) (sym (append-nil xs)) (collected-later k t b (doc_base + min 0 n) xs start c₀ heap₀ (omega (arith, l)) p);
      }

  -- the words still hold the tree
  pub loop-end : (states : List ℕ) (c : TopScoreDocCollector) (heap : List ℤ) (base : ℕ) → AllAt states c heap base → base ≤ no_more_docs → (ix : Index) (s : Scorer) (scores : ℕ) → Held ix s scores → Ok ix reader.ranges.now s depth scores states no_more_docs
  loop-end states c heap base I top ix s scores H =
      ok-mono ix reader.ranges.now s depth scores states base no_more_docs top (windowed-ok ix reader.ranges.now s depth scores states base base nowhere (omega arith) (I ix s scores H).held)

  live-is : (ix : Index) (s : Scorer) (d : ℕ) → d < ix.max_doc → live_match ix s d ≡ is_live ix d && matches ix s d
  unfolding live_match
  live-is ix s d l = ap (λ (b : Bool). b && (is_live ix d && matches ix s d)) (lt-ltb d ix.max_doc l)

  -- all windows are done
  pub loop-done : (states : List ℕ) (c : TopScoreDocCollector) (heap : List ℤ) (base : ℕ) → AllAt states c heap base → n ≤ base → (ix : Index) (s : Scorer) (scores : ℕ) → Held ix s scores → Continued doc_base n (live_scored ix s) c₀ heap₀ c heap
  unfolding live_scored
  loop-done states c heap base I all ix s scores H =
      let few = H.lends.documents in
      let same : list_below base (live_match ix s) ≡ list_below ix.max_doc (λ d. is_live ix d && matches ix s d) =
      list-skip (live_match ix s) ix.max_doc base (omega (arith, few, all)) (λ d a b. not-below ix s d a) ∙ list_same (live_match ix s) (λ d. is_live ix d && matches ix s d) ix.max_doc (λ d l. live-is ix s d l) in
      let bound : doc_base + min base n ≡ doc_base + n = omega (arith, all) in
      record {
        continued = λ k t b xs start l p.
            subst (λ (z : List ℕ). Collected k t (doc_base + n) (xs ++ map (numbered doc_base) (map (scored ix s) z)) start c heap) same
            (subst (λ (i : ℕ). Collected k t i (xs ++ before ix s base) start c heap) bound ((I ix s scores H).collected k t b xs start l p));
      }

  module _ (states : List ℕ) (c : TopScoreDocCollector) (heap : List ℤ) (base : ℕ) (I : AllAt states c heap base) (inside : base < n) where
    module _ (ix : Index) (s : Scorer) (scores : ℕ) (H : Held ix s scores) where
      pub window-small : base + 64 ≤ no_more_docs
      window-small = omega (arith, H.lends.documents, H.lends.accepted.documents)

      pub window-live : 0 < length reader.live.now → n ≤ 64 * length reader.live.now
      window-live h = let d : n - 1 < ix.max_doc = omega (arith, H.lends.documents) in omega (arith, live-there ix reader.live.now (n - 1) H.lends.accepted H.live-are d h)

      node-windowed : NodeWindowed E ix places s depth scores states base
      node-windowed = record { lends = H.lends; sound = H.scorable.sound; few = H.scorable.few; held = (I ix s scores H).held }

      module _ (starts other_starts want : ℕ) (room : min starts other_starts ≡ places) (live-bits : LiveBits reader.live.now base n want) where
        wanted : Wanted n base want
        wanted p h e = below (base + p) n (and_parts (ltb (base + p) n) (is_live (live_only reader.live.now) (base + p)) (sym (live-bits p h) ∙ e)).0

        rooms : RoomIn places starts other_starts
        rooms = record { in-starts = omega (arith, room); in-other = omega (arith, room) }

        pub window-asks : BitsPre (E) starts other_starts states base want depth
        window-asks = (window-small, (n, ix, places, s, scores, wanted, rooms, node-windowed))

        module _ (starts' other_starts' : ℕ) (room' : min starts' other_starts' ≡ places) (found next : ℕ) (states' : List ℕ) (next-is : next ≡ get_or states' 22 0) (post : BitsPost (E) starts other_starts states base want depth found states') where
          answer : Answers (matches ix s) base (places_of want) found (get_or states' 22 0) × Windowed ix reader.ranges.now s depth scores states' (base + 64) base (places_of want)
          answer = post n wanted ix places s scores node-windowed

          pub window-next : next ≤ no_more_docs
          window-next = omega (arith, next-is, answer.0.top)

          -- the found documents are the live matches of the window
          found-live : (p : ℕ) → p < 64 → bit p found ≡ live_match ix s (base + p)
          unfolding live_match
          found-live p h =
              answer.0.bits p h
              ∙ ap (λ (t : Bool). t && matches ix s (base + p)) (live-bits p h ∙ ap (λ (m : ℕ). ltb (base + p) m && is_live (live_only reader.live.now) (base + p)) (sym H.lends.documents) ∙ ap (λ (t : Bool). ltb (base + p) ix.max_doc && t) (live_of ix reader.live.now (base + p) H.live-are))
              ∙ and_assoc (ltb (base + p) ix.max_doc) (is_live ix (base + p)) (matches ix s (base + p))

          found-below : (p : ℕ) → p < 64 → bit p found ≡ true → base + p < n
          found-below p h e = wanted p h (and_parts (bit p want) (matches ix s (base + p)) (sym (answer.0.bits p h) ∙ e)).0

          lent-window : WindowLent ix n (V base) places starts' other_starts' found
          lent-window = record { lends = H.lends; norms-are = H.norms-are; room = record { in-starts = omega (arith, room'); in-other = omega (arith, room') }; small = window-small; wanted = found-below }

          asked : NodeAsked ix (V base) places s depth scores states' found 0
          asked =
              record {
                scorable = H.scorable;
                few = omega (arith, H.scorable.few);
                match = λ p h e. (and_parts (bit p want) (matches ix s (base + p)) (sym (answer.0.bits p h) ∙ e)).1;
                held = windowed-less ix reader.ranges.now s depth scores states' (base + 64) base (places_of want) (places_of found) (λ p h e. (and_parts (bit p want) (matches ix s (base + p)) (sym (answer.0.bits p h) ∙ e)).0) answer.1;
              }

          pub window-scores : doc_base + n ≤ no_more_docs → CollectorReady doc_base c₀ heap₀ → WindowPre states' (V base) starts' other_starts' found depth doc_base c heap
          window-scores few R =
              let q = (I ix s scores H).collected (length heap₀) R.t R.b R.list R.start R.before R.collected in
              let bound : doc_base + min base n ≡ doc_base + base = omega (arith, inside) in
              let ready : CollectorReady (doc_base + base) c heap = record {
                t = R.t;
                b = doc_base + min base n;
                list = R.list ++ before ix s base;
                start = R.start;
                before = omega (arith, bound);
                collected = subst (λ (k : ℕ). Collected k R.t (doc_base + min base n) (R.list ++ before ix s base) R.start c heap) (sym q.places) q;
              } in
              (omega (arith, few, inside), (λ p h e. omega (arith, few, found-below p h e)), ready, (n, ix, places, s, scores, lent-window, asked))

          module _ (c' : TopScoreDocCollector) (heap' : List ℤ) (states'' : List ℕ) (done : WindowPost states' (V base) starts' other_starts' found depth doc_base c heap c' heap' states'') (base' : ℕ) (go : NextWindow base next base') where
            abbrev m : ℕ
            m = min 64 (n - base)

            collected-window : Continued (doc_base + base) m (placed (λ p. scorer_score ix s (base + p)) found) c heap c' heap'
            collected-window = (done n ix places s scores lent-window asked).0 m (λ p h e. omega (arith, h, found-below p h e))

            -- what is collected then is all before the next window
            list-is : before ix s base ++ map (numbered (doc_base + base)) (placed (λ p. scorer_score ix s (base + p)) found) ≡ before ix s base'
            list-is =
                let L = live_match ix s in
                let W : set_bits found ≡ list_below 64 (λ p. L (base + p)) = list_same (λ p. bit p found) (λ p. L (base + p)) 64 found-live in
                let gap : list_below base' L ≡ list_below (base + 64) L = list-skip L (base + 64) base' go.after (λ d l h. not-match ix s d (answer.0.gap d l (omega (arith, go.reached, next-is, l, h)))) in
                ap (λ (l : List ScoreDoc). before ix s base ++ l) (window-list ix s doc_base base (set_bits found) ∙ ap (λ (l : List ℕ). map (numbered doc_base) (map (scored ix s) (map (λ p. base + p) l))) W)
                ∙ sym (ap (map (numbered doc_base)) (map-append (scored ix s) (list_below base L) (map (λ p. base + p) (list_below 64 (λ p. L (base + p))))) ∙ map-append (numbered doc_base) (map (scored ix s) (list_below base L)) (map (scored ix s) (map (λ p. base + p) (list_below 64 (λ p. L (base + p))))))
                ∙ ap (λ (l : List ℕ). map (numbered doc_base) (map (scored ix s) l)) (sym (list-split L base 64) ∙ sym gap)

            window-done : At ix s scores states'' c' heap' base'
            window-done =
                record {
                  held = windowed-forget ix reader.ranges.now s depth scores states'' (base + 64) (base + 64) nowhere base' go.after go.after (done n ix places s scores lent-window asked).1;
                  collected = λ k t b xs start l p.
                      let q = subst (λ (i : ℕ). Collected k t i (xs ++ before ix s base) start c heap) (omega (arith, inside)) ((I ix s scores H).collected k t b xs start l p) in
                      let r = collected-window.continued k t (doc_base + base) (xs ++ before ix s base) start (omega arith) q in
                      let e = append_assoc xs (before ix s base) (map (numbered (doc_base + base)) (placed (λ p. scorer_score ix s (base + p)) found)) ∙ ap (λ (z : List ScoreDoc). xs ++ z) list-is in
                      subst (λ (z : List ScoreDoc). Collected k t (doc_base + min base' n) z start c' heap') e
                      (collected-later k t (doc_base + base + m) (doc_base + min base' n) ((xs ++ before ix s base) ++ map (numbered (doc_base + base)) (placed (λ p. scorer_score ix s (base + p)) found)) start c' heap' (omega (arith, go.after)) r);
                }

    -- one window more
    pub loop-step : (starts other_starts want : ℕ) → min starts other_starts ≡ places → LiveBits reader.live.now base n want → (starts' other_starts' : ℕ) → min starts' other_starts' ≡ places → (found next : ℕ) (states' : List ℕ) → next ≡ get_or states' 22 0 → BitsPost (E) starts other_starts states base want depth found states' → (c' : TopScoreDocCollector) (heap' : List ℤ) (states'' : List ℕ) → WindowPost states' (V base) starts' other_starts' found depth doc_base c heap c' heap' states'' → (base' : ℕ) → NextWindow base next base' → AllAt states'' c' heap' base'
    loop-step starts other_starts want room live-bits starts' other_starts' room' found next states' next-is post c' heap' states'' done base' go ix s scores H =
        window-done ix s scores H starts other_starts want room live-bits starts' other_starts' room' found next states' next-is post c' heap' states'' done base' go
