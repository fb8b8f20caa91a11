-- The Place entry: its lowest number, and what it finds. Assumes nothing.
use mathlib.Core.Path.{◌≡◌, refl, sym, ap, ◌∙◌}
use mathlib.Core.Bool.{Bool, true, false, not, ◌&&◌}
use mathlib.Core.List.{List, [], ◌∷◌}
use mathlib.Core.Option.{Option, none, some}
use Prim.Native.Nat.{ℕ, zero, suc, ◌-◌, ◌≤◌, ◌<◌}
use native.Mathlib.Nat.{le_refl, not-suc-le-zero}
use native.Mathlib.Omega.{arith}
use lib.Dec.{eqb, leb, ltb, lit<}
use lib.IntN.{ℤ, pos}
use lib.ListN.{length}
use borrow.Author.Tests.{lt-ltb, le-ltb, ltb-false, leb-false, eq-eqb, eqb-true, not-false}
use Rattle.meaning.specs.Limits.{no_more_docs}
use Rattle.meaning.specs.Lent.{Index, has_positions, leaf_field, leaf_number, leaf_document, leaf_frequency, leaf_position}
use Rattle.meaning.specs.Postings.{posting_at, frequency_of}
use Rattle.meaning.specs.Phrase.{PhraseTerm, common_size, stands_at}
use Rattle.meaning.specs.Query.{record_count, record_kind, record_children, record_value, phrase_terms_of}
use Rattle.meaning.specs.Refusals.{Condition, ◌when◌, lowest}
use Rattle.meaning.specs.IndexRefusals.{wrong_position, wrong_positions}
use Rattle.meaning.specs.CallRefusals.{Work, largest_in, starts_needed, starts_short, wrong13_place}
use Rattle.meaning.specs.Entries.{order_conditions, answered, place_refusal, place_right, PlaceFound, PlaceAnswer}
use Rattle.meaning.proofs.Tests.{or_left, or_right, or-3}
use Rattle.meaning.proofs.Below.{any_none, largest-at}
use Rattle.index.specs.Accepted.{Accepted, PostingOk}
use Rattle.index.proofs.PostingAt.{posting-is}
use Rattle.query.proofs.Inverse.{phrase-at}
use Rattle.query.proofs.Whole.{phrase-stands}
use Rattle.phrase.specs.Terms.{start_lists, Good, Room}
use Rattle.phrase.specs.Words.{phrase_words}
use Rattle.phrase.specs.Place.{PlacedIn}
use Rattle.std.specs.Prelude as Found
use Rattle.std.specs.Prelude.{None, Some, Result, Ok, Err}
use Rattle.phrase.proofs.Words.{AllFine, words-starts, words-frequency, words-good, words-room}
use Rattle.tree_weight.specs.Measured.{AcceptedOrder}
use Rattle.tree_weight.specs.ScorerTree.{phrase}
use Rattle.tree_weight.specs.Sound.{EachTerm, LeafSound}
use Rattle.tree_weight.proofs.Sounds.{TreeSound}
use Rattle.tree_weight.proofs.Queries.{tree-sound}
use Rattle.refusal.specs.declared.Refusal.{Refusal}
use Rattle.refusal.specs.Numbers.{number_of}
use Rattle.check_order.specs.WorkOf.{place_work}
use Rattle.check_order.proofs.Answered.{number-above}
use Rattle.entry_place.specs.Answers.{placed_numbers}
use Rattle.entry_place.specs.Runs.{PlaceLent}
use Rattle.entry_place.proofs.TermWords.{phrase-here}
use Rattle.check_order.proofs.Refusing.{first_holds, second_holds, neither-holds, neither-held, order-asks, order-refused, order-passed, order-accepted}

-- ---- each way out
module _ (ix : Index) (q : List ℕ) (r d : ℕ) (w : Work) where
  abbrev behind : List Condition
  behind = (12 when starts_short ix q w) ∷ (13 when wrong13_place ix q r d) ∷ []

  module _ (n : ℕ) (o : n ≡ lowest (order_conditions ix q)) where
    pub place-order : (n ≡ 0 → ⊥) → n ≡ place_refusal ix q r d w
    unfolding place_refusal
    place-order h = order-refused ix q behind n o h

    module _ (z : n ≡ 0) where
      passed : (m : ℕ) → m ≡ lowest behind → m ≡ place_refusal ix q r d w
      unfolding place_refusal
      passed = order-passed ix q behind (sym o ∙ z)

      module _ (b : Bool) (e : b ≡ starts_short ix q w) where
        pub place_short : b ≡ true → 12 ≡ place_refusal ix q r d w
        place_short f = passed 12 (first_holds 12 13 _ _ (sym e ∙ f))

        module _ (f : b ≡ false) (p : Bool) (g : p ≡ wrong13_place ix q r d) where
          pub place-outside : p ≡ true → 13 ≡ place_refusal ix q r d w
          place-outside h = passed 13 (second_holds 12 13 _ _ (sym e ∙ f) (sym g ∙ h))

          pub place-accepted : p ≡ false → 0 ≡ place_refusal ix q r d w
          place-accepted h = passed 0 (neither-holds 12 13 _ _ (sym e ∙ f) (sym g ∙ h))

  -- ---- what a call that is not refused knows
  asked : (n : ℕ) → n ≡ place_refusal ix q r d w → n ≡ 0 → AcceptedOrder ix q × (starts_short ix q w ≡ false) × (wrong13_place ix q r d ≡ false)
  unfolding place_refusal
  asked n e z =
      let a = order-accepted ix q behind (sym e ∙ z) in
      let b = neither-held 12 13 _ _ (lit< tt) (lit< tt) a.1 in
      (order-asks ix q a.0, b.0, b.1)

  pub starts-long : starts_short ix q w ≡ false → (starts_needed ix q ≤ w.starts) × (starts_needed ix q ≤ w.other_starts)
  unfolding starts_short
  starts-long e = (ltb-false _ _ (or_left (ltb w.starts (starts_needed ix q)) _ e), ltb-false _ _ (or_right (ltb w.starts (starts_needed ix q)) _ e))

-- a buffer may be another of the same length by the time that the work begins
pub place-lends : (ix : Index) (q : List ℕ) (r d starts other_starts n : ℕ) → n ≡ place_refusal ix q r d (place_work starts other_starts) → n ≡ 0 → (s : ℕ) → s ≡ starts → PlaceLent ix q r d s other_starts
place-lends ix q r d starts other_starts n e z s same =
    let a = asked ix q r d (place_work starts other_starts) n e z in
    rw same record { asks = a.0; long = a.1; there = a.2 }

module _ {ix : Index} {q : List ℕ} {r d starts other_starts : ℕ} (h : PlaceLent ix q r d starts other_starts) where
  within : wrong13_place ix q r d ≡ false → (r < record_count q) × (record_kind q r ≡ 2)
  unfolding wrong13_place
  within e =
      let o = or-3 (leb ix.max_doc d) (leb (record_count q) r) (not (eqb (record_kind q r) 2)) e in
      (leb-false _ _ o.1, eqb-true _ _ (not-false _ o.2))

  -- the record is there and a phrase, of 32 terms at most
  pub phrase-there : (r < record_count q) × (record_kind q r ≡ 2)
  phrase-there = within h.there

  pub few-terms : record_children q r ≤ 32
  few-terms = (phrase-here h.asks r phrase-there.0 phrase-there.1).few-terms

-- ---- the words of a phrase are what `phrase::place` asks
and-false : (b : Bool) → (b && false) ≡ false
and-false true = refl
and-false false = refl

-- the positions of a posting of an accepted index are not wrong
positions-fine : (ix : Index) (l i : ℕ) → has_positions ix (leaf_field ix l) ≡ true → PostingOk ix l i → wrong_positions ix l i ≡ false
unfolding wrong_positions wrong_position
positions-fine ix l i p ok = rw (p, le-ltb _ _ (ok.places p)) (any_none (leaf_frequency ix l i) (wrong_position ix l i) one)
  where
    one : (j : ℕ) → j < leaf_frequency ix l i → wrong_position ix l i j ≡ false
    one j h =
        let before : j - 1 ≤ j = omega arith in
        rw (le-ltb no_more_docs (leaf_position ix l i j) (ok.small p j h), le-ltb (leaf_position ix l i j) (leaf_position ix l i (j - 1)) (ok.rising p (j - 1) j before h)) (and-false (ltb 0 j))

module _ (ix : Index) (acc : Accepted ix) (d f places : ℕ) (positions : has_positions ix f ≡ true) where
  each-fine : (ts : List PhraseTerm) → EachTerm ix f places ts → AllFine ix d ts
  unfolding EachTerm AllFine
  each-fine [] e = tt
  each-fine (t ∷ ts) e =
      let has : has_positions ix (leaf_field ix t.leaf) ≡ true = rw e.0.field_is positions in (
        record {
          offset-small = e.0.offset-small;
          positions = λ i at. (has, positions-fine ix t.leaf i has (acc.posting t.leaf i e.0.leaf-there (posting-is ix t.leaf d i at).0));
        },
        each-fine ts e.1,
      )

  first-room : (ts : List PhraseTerm) → EachTerm ix f places ts → 0 < length ts → (n : ℕ) → places ≤ n → Room (phrase_words ix d ts) n
  unfolding EachTerm largest_in
  first-room [] e h n g = absurd (not-suc-le-zero h)
  first-room (t ∷ ts) e h n g = words-room ix d t ts n (few (posting_at ix t.leaf d) (posting-is ix t.leaf d))
    where
      few : (p : Option ℕ) → ((i : ℕ) → p ≡ some i → (i < leaf_number ix t.leaf) × (leaf_document ix t.leaf i ≡ d)) → frequency_of ix t.leaf p ≤ n
      few none at = omega arith
      few (some i) at = omega (arith, largest-at (leaf_number ix t.leaf) (leaf_frequency ix t.leaf) i (at i refl).0, e.0.room, g)

module _ (ix : Index) (q : List ℕ) (asks : AcceptedOrder ix q) (r d : ℕ) (here : r < record_count q) (kind : record_kind q r ≡ 2) where
  phrase-fine : LeafSound ix (starts_needed ix q) (phrase (record_value q r 0) (phrase_terms_of q r))
  unfolding TreeSound
  phrase-fine =
      let p = phrase-stands q asks.records-right r here kind in
      rw (phrase-at q p.0 r p.1 p.2 kind).tree_is at (tree-sound ix q (starts_needed ix q) asks.values-right asks.positions-right (le_refl _) (suc p.0) r p.1 p.2)

  module _ (words : List ℕ) (are : words ≡ phrase_words ix d (phrase_terms_of q r)) where
    pub words-asked : (n m : ℕ) → starts_needed ix q ≤ n → starts_needed ix q ≤ m → Good ix.positions words × (Room words n × Room words m)
    unfolding LeafSound
    words-asked n m h g =
        let s = phrase-fine in
        let f = record_value q r 0 in
        let ts = phrase_terms_of q r in
        let room = first-room ix asks.accepted d f (starts_needed ix q) s.1 ts s.4 s.2 in
        rw are (words-good ix d ts s.2 (each-fine ix asks.accepted d f (starts_needed ix q) s.1 ts s.4), (room n h, room m g))

    -- none exactly where the phrase stands nowhere
    pub found : (start : Found.Option ℤ) → PlacedIn (start_lists ix.positions words) start → PlaceFound ix q r d (placed_numbers (Ok start))
    unfolding PlacedIn place_right stands_at placed_numbers
    found None h =
        (none, eq-eqb _ 0 (sym (words-frequency ix d (phrase_terms_of q r)) ∙ ap (λ (z : List ℕ). common_size (start_lists ix.positions z)) (sym are) ∙ h), refl)
    found (Some s) h = (some s, lt-ltb 0 _ (rw (are, words-starts ix d (phrase_terms_of q r)) at h), refl)

-- ---- the answer
module _ (ix : Index) (q : List ℕ) (r d starts other_starts : ℕ) where
  abbrev room : Work
  room = place_work starts other_starts

  pub place-refused : (s : Refusal) (a : Result (Found.Option ℤ) Refusal) → a ≡ Err s → number_of s ≡ place_refusal ix q r d room → PlaceAnswer ix q r d room (placed_numbers a)
  unfolding placed_numbers PlaceAnswer
  place-refused s a f e = rw (f, ← e) (refused (number_of s) (number-above s))
    where
      refused : (m : ℕ) → (m ≡ 0 → ⊥) → answered m (PlaceFound ix q r d (pos m ∷ [])) (λ k. (pos m ∷ []) ≡ (pos k ∷ []))
      refused zero h = absurd (h refl)
      refused (suc m) h = refl

  module _ (n : ℕ) (is : n ≡ place_refusal ix q r d room) (z : n ≡ 0) where
    pub place-given : (start : Found.Option ℤ) → PlaceFound ix q r d (placed_numbers (Ok start)) → PlaceAnswer ix q r d room (placed_numbers (Ok start))
    unfolding PlaceAnswer
    place-given start h = rw (← is, z) h
