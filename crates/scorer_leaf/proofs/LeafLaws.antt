-- The leaves whose documents are a run, and those that match all. Assumes nothing.
use mathlib.Core.Path.{◌≡◌, refl, sym, ap, subst}
use mathlib.Core.Logic.{⊎_elim}
use mathlib.Core.Bool.{Bool, true, false, ◌&&◌}
use mathlib.Core.List.{List, ◌++◌}
use Prim.Native.Nat.{ℕ, zero, suc, ◌+◌, ◌*◌, ◌≤◌, ◌<◌}
use native.Mathlib.Nat.{eq-or-lt_of_le}
use native.Mathlib.Omega.{arith}
use lib.Dec.{ltb}
use lib.ListN.{get_or, set}
use borrow.Author.Tests.{lt-ltb, le-ltb}
use Rattle.meaning.specs.Limits.{no_more_docs, max_documents}
use Rattle.meaning.specs.Lent.{Index, leaf_number, leaf_document, leaf_count}
use Rattle.meaning.specs.Postings.{posting_at, found}
use Rattle.meaning.specs.Range.{NumericRange, in_range}
use Rattle.meaning.specs.First.{First}
use Rattle.index.specs.Accepted.{Accepted}
use Rattle.index.proofs.PostingAt.{posting-at, posting-none}
use Rattle.tree_weight.specs.ScorerTree.{range, leaf_matches}
use Rattle.tree_weight.specs.State.{State, words_of}
use Rattle.tree_weight.specs.Held.{TermIs, RangeIs}
use Rattle.run.specs.Run.{document_at, Lower}
use Rattle.scorer_leaf.specs.Search.{cursor_at, SearchHeld, SearchMoved, SearchPost, AnyDocument, FirstSet, RangeHeld}
use Rattle.meaning.proofs.Tests.{cmp}

-- ---- `search`
module _ (words : List ℕ) (stride : ℕ) (states : List ℕ) (t f n u : ℕ) (ef : f ≡ get_or states 6 0) (en : n ≡ get_or states 7 0) (eu : u ≡ get_or states 8 0) where
  module _ (s : State) (w : List ℕ) (h : SearchHeld words stride s w states t) where
    pub at_first : f ≡ s.first
    at_first = rw (ef, h.words_are)

    pub at-number : n ≡ s.number
    at-number = rw (en, h.words_are)

    pub at-cursor : u ≡ s.cursor
    at-cursor = rw (eu, h.words_are)

    pub search-passed : (c : ℕ) → Lower words stride f n u t c → (i : ℕ) → i < c → document_at words stride s.first i < t
    search-passed c p i l = let q = rw (at_first, at-cursor) at p.passed in ⊎_elim (λ g. h.passed i g) (λ g. q i g l) (cmp i s.cursor)

  pub search-hit : (c r : ℕ) → Lower words stride f n u t c → c < n → r ≡ document_at words stride f c → SearchPost words stride states t r (set states 8 c)
  search-hit c r p l e s w h =
      record {
        cursor = c;
        words_are = rw h.words_are;
        within = rw (at-number s w h) at p.within;
        passed = search-passed s w h c p;
        hit = λ _. (rw (at_first s w h) at e, rw e (p.stops l));
        ended = λ g. absurd (omega (arith, at-number s w h));
      }

  -- the posting after the cursor
  pub search-next : (d e : ℕ) → u + 1 < n → d ≡ document_at words stride f u → d < t → e ≡ document_at words stride f (u + 1) → t ≤ e → SearchPost words stride states t e (set states 8 (u + 1))
  search-next d e l p q r g =
      search-hit (u + 1) e (record {
        within = omega arith;
        passed = λ i a b.
            let z : u ≡ i = omega arith in
            subst (λ (j : ℕ). document_at words stride f j < t) z (subst (λ (x : ℕ). x < t) p q);
        stops = λ _. subst (λ (x : ℕ). t ≤ x) r g;
      }) l r

-- ---- the first document of a run
module _ (P : ℕ → Bool) (doc : ℕ → ℕ) (n t u r : ℕ) (top : t ≤ no_more_docs) (small : (i : ℕ) → i < n → doc i < no_more_docs) (ascending : (i j : ℕ) → i < j → j < n → doc i < doc j)
    (hits : (i : ℕ) → i < n → P (doc i) ≡ true) (misses : (d : ℕ) → ((i : ℕ) → i < n → doc i ≡ d → ⊥) → P d ≡ false)
    (passed : (i : ℕ) → i < u → doc i < t) (hit : u < n → (r ≡ doc u) × (t ≤ r)) (ended : n ≤ u → r ≡ no_more_docs) where
  run-here : u < n → First P t r
  run-here l =
      let e : r ≡ doc u = (hit l).0 in
      record {
        from = (hit l).1;
        top = omega (arith, small u l);
        before = λ d a b. misses d (λ i m g. ⊎_elim (λ p. omega (arith, passed i p)) (λ p. ⊎_elim (λ q. omega (arith, ap doc q)) (λ q. omega (arith, ascending u i q m)) (eq-or-lt_of_le p)) (cmp i u));
        hit = λ _. subst (λ (j : ℕ). P j ≡ true) (sym e) (hits u l);
      }

  run-over : n ≤ u → First P t r
  run-over l =
      let e : r ≡ no_more_docs = ended l in
      record {
        from = omega arith;
        top = omega arith;
        before = λ d a b. misses d (λ i m g. omega (arith, passed i (omega arith)));
        hit = λ g. absurd (omega arith);
      }

  pub run-first : First P t r
  run-first = ⊎_elim run-here run-over (cmp u n)

-- ---- how long a run is
-- the i-th of some ascending numbers is at least i
above : (f : ℕ → ℕ) (n : ℕ) → ((i j : ℕ) → i < j → j < n → f i < f j) → (i : ℕ) → i < n → i ≤ f i
above f n up zero h = omega arith
above f n up (suc i) h = omega (arith, above f n up i (omega arith), up i (suc i) (omega arith) h)

-- .. so there are at most m of them below m
few-above : (f : ℕ → ℕ) (n m : ℕ) → ((i j : ℕ) → i < j → j < n → f i < f j) → ((i : ℕ) → i < n → f i < m) → n ≤ m
few-above f zero m up low = omega arith
few-above f (suc n) m up low = omega (arith, above f (suc n) up n (omega arith), low n (omega arith))

-- ---- a term
module _ (ix : Index) (acc : Accepted ix) (k l : ℕ) (there : l < leaf_count ix) (s : State) (t : ℕ) (is : TermIs ix k l s t) where
  pub term-run : (w states : List ℕ) → states ≡ words_of s ++ w → SearchHeld ix.postings 3 s w states t
  term-run w states e =
      let o = acc.leaf l there in
      let f = is.first-is in
      let n = is.number_is in
      record {
        words_are = e;
        run = record {
          step = omega arith;
          few = omega (arith, few-above (leaf_document ix l) (leaf_number ix l) ix.max_doc (acc.ascending l there) (λ i g. (acc.posting l i there g).document), acc.documents);
          within = λ i g. omega (arith, o.words);
          ascending = rw (f, n) (acc.ascending l there);
        };
        small = rw (f, n) (λ i g. omega (arith, (acc.posting l i there g).document, acc.documents));
        within = rw n is.run.within;
        passed = rw f is.run.passed;
      }

  -- the record after a search, and the document that was found
  module _ (w states : List ℕ) (r : ℕ) (m : SearchMoved ix.postings 3 s w states t r) where
    pub term_moved : TermIs ix k l (cursor_at s m.cursor) t
    term_moved =
        record {
          kind-is = is.kind-is;
          size_is = is.size_is;
          first-is = is.first-is;
          number_is = is.number_is;
          field_is = is.field_is;
          norms-is = is.norms-is;
          run = record { within = rw is.number_is at m.within; passed = rw is.first-is at m.passed };
        }

    pub term-stands : m.cursor < s.number → (m.cursor < leaf_number ix l) × (leaf_document ix l m.cursor ≡ r)
    term-stands g = (rw is.number_is at g, sym (rw is.first-is at (m.hit g).0))

    pub term-first : t ≤ no_more_docs → First (λ d. found (posting_at ix l d)) t r
    term-first top =
        run-first (λ d. found (posting_at ix l d)) (leaf_document ix l) (leaf_number ix l) t m.cursor r top
        (λ i g. omega (arith, (acc.posting l i there g).document, acc.documents))
        (acc.ascending l there)
        (λ i g. ap found (posting-at ix l (leaf_document ix l i) (acc.ascending l there) i g refl))
        (λ d g. ap found (posting-none ix l d g))
        (rw is.first-is at m.passed)
        (rw (is.first-is, is.number_is) at m.hit)
        (rw is.number_is at m.ended)

-- ---- a range
module _ (ix : Index) (acc : Accepted ix) (R : List ℕ) (r : NumericRange) (s : State) (is : RangeIs ix R r s) where
  pub range-held : (w states : List ℕ) → states ≡ words_of s ++ w → RangeHeld R s w states
  range-held w states e = record { words_are = e; there = is.there; few = omega (arith, is.number_is, acc.documents) }

  -- the bitmap has a bit for each document
  pub range-over : (d : ℕ) → 32 * s.number ≤ d → leaf_matches ix (range r) d ≡ false
  unfolding leaf_matches
  range-over d h = ap (λ (b : Bool). b && in_range ix r d) (le-ltb d ix.max_doc (omega (arith, is.number_is)))

  pub range-first : (t d : ℕ) → t ≤ no_more_docs → FirstSet R s.first s.number t d → First (leaf_matches ix (range r)) t d
  range-first t d top first = first (leaf_matches ix (range r)) is.bits range-over top

-- ---- everything
pub any-first : (n t r : ℕ) → t ≤ no_more_docs → n ≤ max_documents → AnyDocument n t r → First (λ d. ltb d n) t r
any-first n t r top small p = ⊎_elim here over (cmp t n)
  where
    here : t < n → First (λ d. ltb d n) t r
    here l = let e : r ≡ t = p.there l in record { from = omega arith; top = omega arith; before = λ d a b. absurd (omega arith); hit = λ _. lt-ltb r n (omega arith) }

    over : n ≤ t → First (λ d. ltb d n) t r
    over l = let e : r ≡ no_more_docs = p.ended l in record { from = omega arith; top = omega arith; before = λ d a b. le-ltb d n (omega arith); hit = λ g. absurd (omega arith) }
