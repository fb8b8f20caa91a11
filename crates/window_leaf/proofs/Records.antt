-- A record whose run was moved over a window: what it stores, and that it is again the record of its term, with the window's documents. Assumes nothing.
use Rattle.std.proofs.Common.{◌≡◌, refl, sym, ap, ◌∙◌, Bool, true, false, ⊎_elim, List, ◌++◌, ℕ, ◌+◌, ◌/◌, ◌%◌, ◌≤◌, ◌<◌, eqb, get_or, set, arith, ne_eqb}
use Rattle.std.specs.Prelude.{Option, Some, None, MatchOption}
use Rattle.std.specs.Option.{unwrap_or}
use Rattle.std.proofs.lemmas.Bool.{eqb-false, false≢true}
use Rattle.meaning.specs.Limits.{no_more_docs}
use Rattle.meaning.specs.Lent.{Index, leaf_first, leaf_number, leaf_document, leaf_count}
use Rattle.meaning.specs.Postings.{posting_at, found}
use Rattle.meaning.proofs.Below.{any_none, none_below}
use Rattle.meaning.proofs.Tests.{decided, cmp}
use Rattle.index.specs.Accepted.{Accepted}
use Rattle.index.proofs.PostingAt.{posting-at, posting-none}
use Rattle.tree_weight.specs.ScorerTree.{Scoring, constant, weighted}
use Rattle.tree_weight.specs.State.{State, words_of}
use Rattle.tree_weight.specs.Held.{TermIs, ScoringIs}
use Rattle.run.specs.Run.{document_at, Lower}
use Rattle.bits.specs.Bit.{bit}
use Rattle.bits.proofs.Laws.{halves-joined}
use Rattle.scorer_leaf.specs.Search.{SearchHeld}
use Rattle.window.specs.Windows.{in_run, Cursor, Gathers}
use Rattle.window_words.specs.Windowed.{window_bits, TermWindow}
use Rattle.window_leaf.specs.Runs.{window_at, PutPost, RunMoved, RunBitsPost}

-- ---- what a record stores
-- the bits are joined again
pub stored-bits : (s : State) (cursor first r next p : ℕ) → bit p (window_bits (window_at s cursor first r next)) ≡ bit p r
stored-bits s cursor first r next p = ap (bit p) (halves-joined r)

-- the words of a scoring stay
pub scoring-kept : (sc : Scoring) (s : State) (cursor first r next : ℕ) → ScoringIs sc s → ScoringIs sc (window_at s cursor first r next)
unfolding ScoringIs
scoring-kept (constant c) s cursor first r next h = h
scoring-kept (weighted w) s cursor first r next h = h

-- ---- a run, moved
-- the run's document at a place, or the end
pub record NextIs (words : List ℕ) (stride first count at next : ℕ) : Type 0 where
  pub there : at < count → next ≡ document_at words stride first at
  pub ended : count ≤ at → next ≡ no_more_docs

pub next-is : {words : List ℕ} {stride first count at next : ℕ} (d : Option ℕ) → MatchOption d (count ≤ at) (λ x. (at < count) × (x ≡ document_at words stride first at)) → next ≡ unwrap_or d no_more_docs → NextIs words stride first count at next
next-is None m e = record { there = λ l. absurd (omega arith); ended = λ l. e }
next-is (Some x) m e = record { there = λ l. e ∙ m.1; ended = λ l. absurd (omega (arith, m.0)) }

module _ (words : List ℕ) (stride base : ℕ) (s : State) (w : List ℕ) (states : List ℕ) (h : SearchHeld words stride s w states base) where
  -- where the search came to, the cursor stands at the window's first document
  pub lower-cursor : (u from : ℕ) → u ≡ s.cursor → Lower words stride s.first s.number u base from → Cursor words stride s.first s.number base from
  lower-cursor u from e l =
      record {
        within = l.within;
        passed = λ i g. ⊎_elim (λ a. h.passed i a) (λ a. l.passed i (omega (arith, e)) g) (cmp i s.cursor);
        ahead = ahead;
      }
    where
      ahead : (i : ℕ) → from ≤ i → i < s.number → base ≤ document_at words stride s.first i
      ahead i a b = ⊎_elim (λ (g : i < from). absurd (omega arith)) (λ _. ⊎_elim (λ (g : from < i). omega (arith, l.stops (omega arith), h.run.ascending from i g b)) (λ (g : i ≤ from). let z : from ≡ i = omega arith in omega (arith, ap (λ (k : ℕ). document_at words stride s.first k) z, l.stops (omega arith))) (cmp from i)) (cmp i from)

  module _ (from at r next : ℕ) (c : Cursor words stride s.first s.number base from) (g : Gathers words stride s.first s.number base from r at) (d : NextIs words stride s.first s.number at next) where
    -- up to the document at the cursor nothing follows the window
    next-gap : (x : ℕ) → base + 64 ≤ x → x < next → in_run words stride s.first s.number x ≡ false
    next-gap x a b = any_none s.number (λ i. eqb (document_at words stride s.first i) x) (λ i m. ne_eqb _ _ (λ (e : document_at words stride s.first i ≡ x). off i m e))
      where
        off : (i : ℕ) → i < s.number → document_at words stride s.first i ≡ x → ⊥
        off i m e =
            ⊎_elim
            (λ (l : i < at). omega (arith, g.cursor.passed i l))
            (λ (l : at ≤ i). ⊎_elim (λ (k : at < i). omega (arith, d.there (omega arith), h.run.ascending at i k m)) (λ (k : i ≤ at). let z : at ≡ i = omega arith in omega (arith, d.there (omega arith), ap (λ (j : ℕ). document_at words stride s.first j) z)) (cmp at i))
            (cmp i at)

    next-top : next ≤ no_more_docs
    next-top = ⊎_elim (λ (l : at < s.number). omega (arith, d.there l, h.small at l)) (λ l. omega (arith, d.ended l)) (cmp at s.number)

    pub run-moved : (states' : List ℕ) → states' ≡ words_of (window_at s at from r next) ++ w → RunMoved words stride s w base r states'
    run-moved states' e =
        record {
          first = from;
          cursor = at;
          next = next;
          words_are = e;
          at-first = c;
          first-within = g.from-within;
          behind = g.cursor;
          bits = g.bits;
          gap = next-gap;
          top = next-top;
        }

-- `put`: the bits' halves and the document are stored
pub put-answer : (states : List ℕ) (r next low high : ℕ) → low ≡ r % 4294967296 → high ≡ r / 4294967296 → PutPost states r next (set (set (set states 20 low) 21 high) 22 next)
put-answer states r next low high el eh s w e = rw (el, eh, e)

-- the record with its cursor behind the window and the run's first place in it, its answer not stored yet
abbrev pub placed : State → ℕ → ℕ → State
placed s cursor first = record s { cursor = cursor; window_first = first }

-- `run_bits`: what it stores before the answer, and what it gives
module _ (words : List ℕ) (stride base : ℕ) (states : List ℕ) (from at : ℕ) where
  pub placed-words : (s : State) (w : List ℕ) → states ≡ words_of s ++ w → set (set states 8 at) 19 from ≡ words_of (placed s at from) ++ w
  placed-words s w e = rw e

  pub run-answer : (r next : ℕ) (states' : List ℕ) → Lower words stride (get_or states 6 0) (get_or states 7 0) (get_or states 8 0) base from → Gathers words stride (get_or states 6 0) (get_or states 7 0) base from r at → NextIs words stride (get_or states 6 0) (get_or states 7 0) at next → PutPost (set (set states 8 at) 19 from) r next states' → RunBitsPost words stride states base r states'
  run-answer r next states' l g d post s w h =
      let first : get_or states 6 0 ≡ s.first = rw h.words_are in
      let number : get_or states 7 0 ≡ s.number = rw h.words_are in
      let cursor : get_or states 8 0 ≡ s.cursor = rw h.words_are in
      run-moved words stride base s w states h from at r next
      (lower-cursor words stride base s w states h (get_or states 8 0) from cursor (rw (first, number) at l))
      (rw (first, number) at g)
      (rw (first, number) at d)
      states'
      (post (placed s at from) w (placed-words s w h.words_are))

-- a run that is the documents of P
pub run-like : (words : List ℕ) (stride first n : ℕ) (P : ℕ → Bool) → ((i : ℕ) → i < n → P (document_at words stride first i) ≡ true) → ((d : ℕ) → ((i : ℕ) → i < n → document_at words stride first i ≡ d → ⊥) → P d ≡ false) → (d : ℕ) → in_run words stride first n d ≡ P d
run-like words stride first n P hits misses d = ⊎_elim yes no (decided (P d))
  where
    At : ℕ → Bool
    At i = eqb (document_at words stride first i) d

    yes : P d ≡ true → in_run words stride first n d ≡ P d
    yes e = ⊎_elim (λ g. g ∙ sym e) (λ g. absurd (false≢true (sym (misses d (λ i m q. eqb-false (document_at words stride first i) d (none_below n At g i m) q)) ∙ e))) (decided (in_run words stride first n d))

    no : P d ≡ false → in_run words stride first n d ≡ P d
    no e = any_none n At (λ i m. ne_eqb _ _ (λ (q : document_at words stride first i ≡ d). false≢true (sym e ∙ ap P (sym q) ∙ hits i m))) ∙ sym e

-- ---- a term, or a phrase's term
module _ (ix : Index) (acc : Accepted ix) (k l : ℕ) (there : l < leaf_count ix) (s : State) (base : ℕ) (is : TermIs ix k l s base) where
  pub term-run-like : (d : ℕ) → in_run ix.postings 3 s.first s.number d ≡ found (posting_at ix l d)
  term-run-like d =
      ap (λ (f : ℕ). in_run ix.postings 3 f s.number d) is.first-is
      ∙ ap (λ (n : ℕ). in_run ix.postings 3 (leaf_first ix l) n d) is.number_is
      ∙ run-like ix.postings 3 (leaf_first ix l) (leaf_number ix l) (λ x. found (posting_at ix l x))
      (λ i g. ap found (posting-at ix l (leaf_document ix l i) (acc.ascending l there) i g refl))
      (λ x g. ap found (posting-none ix l x g))
      d

  module _ (w : List ℕ) (r : ℕ) (states' : List ℕ) (m : RunMoved ix.postings 3 s w base r states') where
    pub term-passed : TermIs ix k l (window_at s m.cursor m.first r m.next) (base + 64)
    term-passed =
        record {
          kind-is = is.kind-is;
          size_is = is.size_is;
          first-is = is.first-is;
          number_is = is.number_is;
          field_is = is.field_is;
          norms-is = is.norms-is;
          run = record { within = rw is.number_is at m.behind.within; passed = rw is.first-is at m.behind.passed };
        }

    pub term-window : TermWindow ix l (window_at s m.cursor m.first r m.next) base
    term-window =
        record {
          first-within = m.first-within;
          within = rw is.number_is at m.behind.within;
          before = rw is.first-is at m.at-first.passed;
          from = rw (is.first-is, is.number_is) at m.at-first.ahead;
          inside = rw is.first-is at m.behind.passed;
          ahead = rw (is.first-is, is.number_is) at m.behind.ahead;
          bits = λ p h. stored-bits s m.cursor m.first r m.next p ∙ m.bits p h ∙ term-run-like (base + p);
        }
