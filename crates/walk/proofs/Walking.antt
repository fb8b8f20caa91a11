-- The walk, step by step: what `next_match` passes, and what `list` has written. Assumes nothing.
use mathlib.Core.Path.{◌≡◌, refl, sym, ap, subst, ◌∙◌}
use mathlib.Core.Logic.{⊎_elim}
use mathlib.Core.Bool.{Bool, true, false, not, ◌&&◌}
use mathlib.Core.List.{List, [], ◌∷◌, ◌++◌, map, append_assoc, append-nil}
use Prim.Native.Nat.{ℕ, suc, ◌+◌, ◌≤◌, ◌<◌, min}
use native.Mathlib.Nat.{le_refl, le_trans, eq-or-lt_of_le}
use native.Mathlib.Omega.{arith}
use lib.Dec.{T, ltb}
use lib.ListN.{length, set, length-append, length-map}
use lib.Ieee.{Float, binary32, is_nan, to_bits}
use borrow.Author.Tests.{lt-ltb, le-ltb}
use Rattle.meaning.specs.Limits.{no_more_docs}
use Rattle.meaning.specs.Lent.{Index}
use Rattle.meaning.specs.Live.{is_live}
use Rattle.meaning.specs.First.{First}
use Rattle.meaning.specs.FullList.{ScoreDoc}
use Rattle.meaning.specs.Pages.{PageOf, page, from_target, first_doc}
use Rattle.meaning.specs.Entries.{written}
use Rattle.ieee754.proofs.Bounds.{atmost-number}
use Rattle.index.specs.Slices.{live_only}
use Rattle.tree_weight.specs.ScorerTree.{Scorer, matches, scorer_score}
use Rattle.tree_weight.specs.Held.{Ok}
use Rattle.scorer.specs.Calls.{Lists, lists_of, NodeHeld, AdvancePost}
use Rattle.scorer_leaf.specs.declared.LeafReader.{LeafReader}
use Rattle.score_leaf.specs.Asked.{LentAt, ScoreIs, ScorePre, ScorePost}
use Rattle.walk.specs.Walks.{live_match, scored, live_scored, NextPre, NextPost, PageHeld, ListPre, PageIs, ListPost}
use Rattle.meaning.proofs.Tests.{cmp}
use Rattle.score.proofs.Loops.{scorable-at}
use Rattle.scorer_leaf.proofs.Bounds.{ok-mono}
use Rattle.walk.proofs.Pages.{match_is, walk_end, walk-next, page-given, page-all, write-next}

-- ---- what is a live match
live_of : (ix : Index) (live : List ℕ) (d : ℕ) → ix.live ≡ live → is_live (live_only live) d ≡ is_live ix d
unfolding is_live
live_of ix live d e = rw (← e)

and-false : (b : Bool) → b && false ≡ false
and-false true = refl
and-false false = refl

not-match : (ix : Index) (s : Scorer) (d : ℕ) → matches ix s d ≡ false → live_match ix s d ≡ false
unfolding live_match
not-match ix s d e = rw (e, and-false (is_live ix d)) (and-false (ltb d ix.max_doc))

not_live : (ix : Index) (s : Scorer) (d : ℕ) → is_live ix d ≡ false → live_match ix s d ≡ false
unfolding live_match
not_live ix s d e = rw e (and-false (ltb d ix.max_doc))

not-below : (ix : Index) (s : Scorer) (d : ℕ) → ix.max_doc ≤ d → live_match ix s d ≡ false
unfolding live_match
not-below ix s d l = rw (le-ltb d ix.max_doc l)

is-match : (ix : Index) (s : Scorer) (d : ℕ) → d < ix.max_doc → is_live ix d ≡ true → matches ix s d ≡ true → live_match ix s d ≡ true
unfolding live_match
is-match ix s d l e m = rw (lt-ltb d ix.max_doc l, e, m)

-- nothing from the start up to the target is a live match
pub record WalkAt (E : Lists) (live states₀ : List ℕ) (from depth : ℕ) (states : List ℕ) (target : ℕ) : Type 0 where
  pub passed : (ix : Index) (places : ℕ) (s : Scorer) (scores : ℕ) → ix.live ≡ live → NodeHeld E ix places s depth scores states₀ from → ((d : ℕ) → from ≤ d → d < target → live_match ix s d ≡ false) × Ok ix E.ranges s depth scores states target

module _ {E : Lists} {live states₀ : List ℕ} {from depth : ℕ} {states : List ℕ} {target : ℕ} (I : WalkAt E live states₀ from depth states target) where
  module _ {d : ℕ} (states' : List ℕ) (post : AdvancePost E states target depth d states') where
    after : (ix : Index) (places : ℕ) (s : Scorer) (scores : ℕ) → ix.live ≡ live → NodeHeld E ix places s depth scores states₀ from → First (matches ix s) target d × Ok ix E.ranges s depth scores states' target
    after ix places s scores e H = post ix places s scores (record { lends = H.lends; sound = H.sound; ok = (I.passed ix places s scores e H).1 })

    before : (ix : Index) (places : ℕ) (s : Scorer) (scores : ℕ) → ix.live ≡ live → NodeHeld E ix places s depth scores states₀ from → (x : ℕ) → from ≤ x → x < d → live_match ix s x ≡ false
    before ix places s scores e H x a b = ⊎_elim (λ h. (I.passed ix places s scores e H).0 x a h) (λ h. not-match ix s x ((after ix places s scores e H).0.before x h b)) (cmp x target)

    pub walk_from : (starts other_starts : ℕ) → NextPre E live starts other_starts states₀ from depth → target ≤ d
    walk_from starts other_starts P = let W = P.1 in (after W.0 W.1 W.2 W.3 W.5 W.6).0.from

    pub walk-stop : from ≤ no_more_docs → target ≤ no_more_docs → E.documents ≤ d → NextPost E live states₀ from depth no_more_docs states'
    walk-stop m top l ix places s scores e H = (
      record {
        from = m;
        top = le_refl _;
        before = λ x a b. ⊎_elim (λ h. before ix places s scores e H x a h) (λ h. not-below ix s x (omega (arith, H.lends.documents))) (cmp x d);
        hit = λ h. absurd (omega arith);
      },
      ok-mono ix E.ranges s depth scores states' target no_more_docs top (after ix places s scores e H).1,
    )

    pub walk-found : from ≤ target → d < E.documents → is_live (live_only live) d ≡ true → NextPost E live states₀ from depth d states'
    walk-found m l y ix places s scores e H =
        let q = after ix places s scores e H in
        let n : d < ix.max_doc = omega (arith, H.lends.documents) in
        let few : d < no_more_docs = omega (arith, n, H.lends.accepted.documents) in (
          record { from = le_trans m q.0.from; top = q.0.top; before = before ix places s scores e H; hit = λ h. is-match ix s d n (sym (live_of ix live d e) ∙ y) (q.0.hit few) },
          ok-mono ix E.ranges s depth scores states' target d q.0.from q.1,
        )

    pub walk_more : is_live (live_only live) d ≡ false → WalkAt E live states₀ from depth states' (d + 1)
    walk_more y =
        record {
          passed = λ ix places s scores e H.
              let q = after ix places s scores e H in (
                (λ x a b. ⊎_elim (λ h. before ix places s scores e H x a h) (λ h. let z : x ≡ d = omega arith in subst (λ (i : ℕ). live_match ix s i ≡ false) (sym z) (not_live ix s d (sym (live_of ix live d e) ∙ y))) (cmp x d)),
                ok-mono ix E.ranges s depth scores states' target (d + 1) (omega (arith, q.0.from)) q.1,
              );
        }

-- ---- the page
abbrev docs-of : List ScoreDoc → List ℕ
docs-of xs = map (λ h. h.doc) xs

abbrev bits_of : List ScoreDoc → List ℕ
bits_of xs = map (λ h. to_bits binary32 h.score) xs

map_snoc : (f : ScoreDoc → ℕ) (xs : List ScoreDoc) (x : ScoreDoc) → map f (xs ++ (x ∷ [])) ≡ map f xs ++ (f x ∷ [])
map_snoc f [] x = refl
map_snoc f (y ∷ xs) x = ap (λ (l : List ℕ). f y ∷ l) (map_snoc f xs x)

-- what is given of a page, and what is left
pub record Given (R : LeafReader) (from depth : ℕ) (docs₀ bits₀ : List ℕ) (ix : Index) (s : Scorer) (scores : ℕ) (states docs bits : List ℕ) (given next : ℕ) : Type 0 where
  pub xs : List ScoreDoc
  pub ys : List ScoreDoc
  pub all : from_target from (live_scored ix s) ≡ xs ++ ys
  pub number : length xs ≡ given
  pub docs-are : docs ≡ written (docs-of xs) docs₀
  pub bits_are : bits ≡ written (bits_of xs) bits₀
  pub t : ℕ
  pub left : ys ≡ from_target t (live_scored ix s)
  pub first : First (live_match ix s) t next
  pub ok : Ok ix R.ranges.now s depth scores states next

-- a tree that the reader's words were lent for
abbrev Holds : LeafReader → ℕ → List ℕ → ℕ → ℕ → Index → Scorer → ℕ → Type 0
Holds R places states₀ from depth ix s scores = PageHeld (lists_of R) R.norms.now R.live.now R.inverses.now ix places s depth scores states₀ from

abbrev Asked : LeafReader → ℕ → List ℕ → ℕ → ℕ → List ℕ → List ℕ → Type 0
Asked R places states₀ from depth docs₀ bits₀ = ListPre (lists_of R) R.norms.now R.live.now R.inverses.now places states₀ from depth docs₀ bits₀

-- .. of each tree
pub record GivenAt (R : LeafReader) (places : ℕ) (states₀ : List ℕ) (from depth : ℕ) (docs₀ bits₀ : List ℕ) (states docs bits : List ℕ) (given next : ℕ) : Type 0 where
  pub page : (ix : Index) (s : Scorer) (scores : ℕ) → Holds R places states₀ from depth ix s scores → Given R from depth docs₀ bits₀ ix s scores states docs bits given next

node-held : (R : LeafReader) {places : ℕ} {states₀ : List ℕ} {from depth : ℕ} (ix : Index) (s : Scorer) (scores : ℕ) → Holds R places states₀ from depth ix s scores → (states : List ℕ) (b : ℕ) → Ok ix R.ranges.now s depth scores states b → NodeHeld (lists_of R) ix places s depth scores states b
node-held R ix s scores H states b o = record { lends = H.lends; sound = H.scorable.sound; ok = o }

pub page-start : (R : LeafReader) (places : ℕ) (states₀ : List ℕ) (from depth : ℕ) (docs₀ bits₀ : List ℕ) (next : ℕ) (states : List ℕ) → NextPost (lists_of R) R.live.now states₀ from depth next states → GivenAt R places states₀ from depth docs₀ bits₀ states docs₀ bits₀ 0 next
page-start R places states₀ from depth docs₀ bits₀ next states post =
    record {
      page = λ ix s scores H.
          let q = post ix places s scores H.live-are (record { lends = H.lends; sound = H.scorable.sound; ok = H.ok }) in
          record { xs = []; ys = from_target from (live_scored ix s); all = refl; number = refl; docs-are = refl; bits_are = refl; t = from; left = refl; first = q.0; ok = q.1 };
    }

module _ {R : LeafReader} {places : ℕ} {states₀ : List ℕ} {from depth : ℕ} {docs₀ bits₀ : List ℕ} {states docs bits : List ℕ} {given next : ℕ} (I : GivenAt R places states₀ from depth docs₀ bits₀ states docs bits given next) where
  abbrev Held : Index → Scorer → ℕ → Type 0
  Held ix s scores = Holds R places states₀ from depth ix s scores

  abbrev Pre : Type 0
  Pre = Asked R places states₀ from depth docs₀ bits₀

  -- the page, and the words behind it
  abbrev Done : Type 0
  Done = ListPost (lists_of R) R.norms.now R.live.now R.inverses.now places states₀ from depth docs₀ bits₀ (record { given = given; next = next }) states docs bits

  -- what the next document is
  pub page-top : Pre → next ≤ no_more_docs
  page-top P = let W = P.2 in (I.page W.0 W.1 W.2 W.3).first.top

  less : next ≤ no_more_docs → (next ≡ no_more_docs → ⊥) → next < no_more_docs
  less a m = ⊎_elim (λ e. absurd (m e)) (λ l. l) (eq-or-lt_of_le a)

  lent_at : (ix : Index) (s : Scorer) (scores : ℕ) → Held ix s scores → (next ≡ no_more_docs → ⊥) → LentAt ix R.max_doc R.postings.now R.positions.now R.norms.now next × (matches ix s next ≡ true)
  lent_at ix s scores H m =
      let g = I.page ix s scores H in
      let h = match_is ix s next (g.first.hit (less g.first.top m)) in
      (record { lends = H.lends; norms-are = H.norms-are; document = subst (λ (i : ℕ). next < i) H.lends.documents h.0 }, h.2)

  module _ (m : next ≡ no_more_docs → ⊥) {places' : ℕ} (same : places' ≡ places) where
    pub page-score-asks : Pre → ScorePre states R.max_doc R.postings.now R.positions.now R.norms.now R.ranges.now R.inverses.now places' next depth
    page-score-asks P =
        let W = P.2 in
        let l = lent_at W.0 W.1 W.2 W.3 m in
        (W.0, W.1, W.2, l.0, scorable-at same W.3.scorable, l.1, (I.page W.0 W.1 W.2 W.3).ok)

    module _ {r : Float} (states' : List ℕ) (post : ScorePost states R.max_doc R.postings.now R.positions.now R.norms.now R.ranges.now R.inverses.now places' next depth r states') where
      scored-at : (ix : Index) (s : Scorer) (scores : ℕ) → Held ix s scores → ScoreIs ix s next r × Ok ix R.ranges.now s depth scores states' next
      scored-at ix s scores H = let l = lent_at ix s scores H m in post ix s scores l.0 (scorable-at same H.scorable) l.1 (I.page ix s scores H).ok

      pub page-number : Pre → T (not (is_nan r))
      page-number P = let W = P.2 in atmost-number (scored-at W.0 W.1 W.2 W.3).0.small

      ok-next : (ix : Index) (s : Scorer) (scores : ℕ) → Held ix s scores → Ok ix R.ranges.now s depth scores states' (next + 1)
      ok-next ix s scores H = ok-mono ix R.ranges.now s depth scores states' next (next + 1) (omega arith) (scored-at ix s scores H).1

      pub page-next-asks : (starts other_starts : ℕ) → min starts other_starts ≡ places → Pre → NextPre (lists_of R) R.live.now starts other_starts states' (next + 1) depth
      page-next-asks starts other_starts e P =
          let W = P.2 in
          let l : next < no_more_docs = less (page-top P) m in
          (omega arith, (W.0, places, W.1, W.2, record { in-starts = omega arith; in-other = omega arith }, W.3.live-are, node-held R W.0 W.1 W.2 W.3 states' (next + 1) (ok-next W.0 W.1 W.2 W.3)))

      pub page-more : (next' : ℕ) (states'' : List ℕ) → NextPost (lists_of R) R.live.now states' (next + 1) depth next' states'' → given < length docs₀ → given < length bits₀ → GivenAt R places states₀ from depth docs₀ bits₀ states'' (set docs given next) (set bits given (to_bits binary32 r)) (given + 1) next'
      page-more next' states'' post' a b =
          record {
            page = λ ix s scores H.
                let g = I.page ix s scores H in
                let q = post' ix places s scores H.live-are (node-held R ix s scores H states' (next + 1) (ok-next ix s scores H)) in
                let z = scored ix s next in
                let w : g.ys ≡ z ∷ from_target (suc next) (live_scored ix s) = g.left ∙ walk-next ix s g.t next g.first (less g.first.top m) in
                let e : next + 1 ≡ suc next = omega arith in
                let sc : r ≡ scorer_score ix s next = (scored-at ix s scores H).0.is in
                let ld : length (docs-of g.xs) ≡ given = length-map g.xs _ ∙ g.number in
                let lb : length (bits_of g.xs) ≡ given = length-map g.xs _ ∙ g.number in
                record {
                  xs = g.xs ++ (z ∷ []);
                  ys = from_target (suc next) (live_scored ix s);
                  all = g.all ∙ ap (λ (l : List ScoreDoc). g.xs ++ l) w ∙ sym (append_assoc g.xs (z ∷ []) (from_target (suc next) (live_scored ix s)));
                  number = omega (arith, length-append g.xs (z ∷ []), g.number);
                  docs-are = ap (λ (l : List ℕ). set l given next) g.docs-are ∙ write-next (docs-of g.xs) docs₀ next given ld a ∙ ap (λ (l : List ℕ). written l docs₀) (sym (map_snoc (λ h. h.doc) g.xs z));
                  bits_are = ap (λ (l : List ℕ). set l given (to_bits binary32 r)) g.bits_are ∙ write-next (bits_of g.xs) bits₀ (to_bits binary32 r) given lb b ∙ ap (λ (x : Float). written (bits_of g.xs ++ (to_bits binary32 x ∷ [])) bits₀) sc ∙ ap (λ (l : List ℕ). written l bits₀) (sym (map_snoc (λ h. to_bits binary32 h.score) g.xs z));
                  t = suc next;
                  left = refl;
                  first = subst (λ (i : ℕ). First (live_match ix s) i next') e q.0;
                  ok = q.1;
                };
          }

  few-documents : (ix : Index) (s : Scorer) (scores : ℕ) → Held ix s scores → ix.max_doc ≤ no_more_docs
  few-documents ix s scores H = omega (arith, H.lends.accepted.documents)

  -- no more matches
  pub page-none : next ≡ no_more_docs → given ≤ length docs₀ → Done
  page-none m l ix s scores H =
      let g = I.page ix s scores H in
      let none : g.ys ≡ [] = g.left ∙ walk_end ix s (few-documents ix s scores H) g.t next g.first (λ h. omega arith) in
      let p : page from (length docs₀) (live_scored ix s) ≡ record { given = g.xs; next = no_more_docs } = page-all from (length docs₀) (live_scored ix s) g.xs (g.all ∙ ap (λ (y : List ScoreDoc). g.xs ++ y) none ∙ append-nil g.xs) (omega (arith, g.number)) in
      (subst (λ (o : PageOf). PageIs o docs₀ bits₀ (record { given = given; next = next }) docs bits) (sym p) (record { given_is = sym g.number; next-is = m; documents-are = g.docs-are; scores-are = g.bits_are }), g.ok)

  first_of : (ix : Index) (s : Scorer) (scores : ℕ) (H : Held ix s scores) → next ≡ first_doc (I.page ix s scores H).ys
  unfolding first_doc
  first_of ix s scores H =
      let g = I.page ix s scores H in
      ⊎_elim
      (λ h. h ∙ ap first_doc (sym (g.left ∙ walk_end ix s (few-documents ix s scores H) g.t next g.first (λ i. omega arith))))
      (λ h. ap first_doc (sym (g.left ∙ walk-next ix s g.t next g.first h)))
      (eq-or-lt_of_le g.first.top)

  -- the outputs are full
  pub page-full : given ≡ length docs₀ → Done
  page-full l ix s scores H =
      let g = I.page ix s scores H in
      let p : page from (length docs₀) (live_scored ix s) ≡ record { given = g.xs; next = first_doc g.ys } = page-given from (length docs₀) (live_scored ix s) g.xs g.ys g.all (g.number ∙ l) in
      (subst (λ (o : PageOf). PageIs o docs₀ bits₀ (record { given = given; next = next }) docs bits) (sym p) (record { given_is = sym g.number; next-is = first_of ix s scores H; documents-are = g.docs-are; scores-are = g.bits_are }), g.ok)
