-- A phrase's terms at a common document, and its frequency from the words that are gathered there. Assumes nothing.
use mathlib.Core.Path.{◌≡◌, refl, sym, ap, subst, ◌∙◌}
use mathlib.Core.Logic.{◌⊎◌, ⊎_elim}
use mathlib.Core.Bool.{Bool, true, false, ◌&&◌, false≢true}
use mathlib.Core.List.{List, [], ◌∷◌, ◌++◌, append_assoc, append-nil}
use mathlib.Core.Option.{Option, none, some}
use Prim.Native.Nat.{ℕ, suc, ◌+◌, ◌-◌, ◌*◌, ◌%◌, ◌≤◌, ◌<◌}
use native.Mathlib.Nat.{le_refl, le_trans, not-suc-le-zero}
use native.Mathlib.Omega.{arith}
use lib.Dec.{ltb}
use lib.IntN.{ℤ}
use lib.ListN.{get_or, length, take, drop, set, length-append}
use lib.Seq.{take_at, drop_at, take-length, drop-length, get_or-append-add, get_or-set_same, get_or-set_other}
use borrow.Author.Tests.{ltb-true, lt-ltb, le-ltb}
use Rattle.meaning.specs.CallRefusals.{largest_in}
use Rattle.meaning.specs.Limits.{no_more_docs, node_state_words}
use Rattle.meaning.specs.Lent.{Index, leaf_number, leaf_first, leaf_frequency, leaf_positions_index, leaf_field, has_positions}
use Rattle.meaning.specs.Postings.{posting_at, found, positions_of}
use Rattle.meaning.specs.Phrase.{PhraseTerm, starts, term_starts, multiplicity, smallest, common_size, phrase_frequency}
use Rattle.meaning.specs.First.{First}
use Rattle.meaning.proofs.Tests.{cmp}
use Rattle.meaning.proofs.Below.{largest-at}
use Rattle.meaning.proofs.Phrases.{common-start}
use Rattle.index.specs.Accepted.{Accepted}
use Rattle.index.proofs.PostingAt.{posting-at}
use Rattle.phrase.proofs.Words.{take-three}
use Rattle.phrase.specs.Terms.{term_at, starts_of, start_lists, GoodTerm, Good, Room}
use Rattle.tree_weight.specs.ScorerTree.{phrase}
use Rattle.tree_weight.specs.State.{State, words_of}
use Rattle.tree_weight.specs.Held.{TermsAre}
use Rattle.tree_weight.specs.Sound.{PhraseTermIs, EachTerm, LeafSound}
use Rattle.scorer_leaf.specs.Search.{cursor_at, SearchHeld, SearchPost}
use Rattle.scorer_leaf.specs.Phrases.{all_found, LeavesThere, TermsAt, TermsHeld, TermsPassed, Leapt, Gathered, GatherHeld, GatheredTo, PostingsAt, PostingsThere, PostingsHeld, FrequencyHeld, PhraseHeld, PhraseMoved, worked_at}
use Rattle.tree_weight.proofs.Terms.{term-mono}
use Rattle.scorer_leaf.proofs.Bounds.{terms-mono}
use Rattle.scorer_leaf.proofs.LeafLaws.{term-run, term_moved, term-stands, term-first}

-- ---- one pass over the terms, the last that moved it at a place
pub record TermsZip (postings : List ℕ) (ix : Index) (ts : List PhraseTerm) (from : ℕ) (terms : List ℕ) (d last at : ℕ) : Type 0 where
  pub left : List PhraseTerm
  pub x : List ℕ
  pub z : List ℕ
  pub is : terms ≡ x ++ z
  pub place : at ≡ length x
  pub accepted : Accepted ix
  pub postings-are : ix.postings ≡ postings
  pub there : LeavesThere ix left
  pub rest : TermsAre ix left z d
  pub lo : from ≤ d
  pub top : d ≤ no_more_docs
  pub before : (y : ℕ) → from ≤ y → y < d → all_found ix ts y ≡ false
  pub fails : (y : ℕ) → all_found ix left y ≡ false → all_found ix ts y ≡ false
  pub back : (e : ℕ) → d ≤ e → (z' : List ℕ) → TermsAre ix left z' e → TermsAre ix ts (x ++ z') e
  pub stand : last ≡ 0 → d < no_more_docs → (z' : List ℕ) → TermsAt ix left z' d → TermsAt ix ts (x ++ z') d
  pub fresh : at ≡ 0 → (y : ℕ) (z' : List ℕ) → TermsAt ix left z' y → TermsAt ix ts (x ++ z') y
  pub rise : 0 < last → from < d

module _ {postings : List ℕ} {ix : Index} {ts : List PhraseTerm} {from : ℕ} where
  pub terms-start : {terms : List ℕ} → from ≤ no_more_docs → TermsHeld postings ix ts terms from → TermsZip postings ix ts from terms from 0 0
  terms-start {terms} top h =
      record {
        left = ts;
        x = [];
        z = terms;
        is = refl;
        place = refl;
        accepted = h.accepted;
        postings-are = h.postings-are;
        there = h.there;
        rest = h.are;
        lo = le_refl _;
        top = top;
        before = λ y a b. absurd (omega arith);
        fails = λ y e. e;
        back = λ e l z' r. r;
        stand = λ a b z' r. r;
        fresh = λ a y z' r. r;
        rise = λ a. absurd (omega arith);
      }

-- the words of a record in a list, where it begins at a place
module _ (terms x w' : List ℕ) (s : State) (at e : ℕ) (is : terms ≡ x ++ (words_of s ++ w')) (place : at ≡ length x) (stop : e ≡ at + node_state_words) where
  span : e - at ≡ node_state_words
  span = omega arith

  pub record-fits : at + node_state_words ≤ length terms
  record-fits = omega (arith, ap length is, length-append x (words_of s ++ w'))

  pub record-part : take (e - at) (drop at terms) ≡ words_of s
  record-part = rw (span, is, drop_at x (words_of s ++ w') at (sym place), take_at (words_of s) w' node_state_words refl)

  pub record-back : (ys : List ℕ) → take at terms ++ (ys ++ drop (e - at) (drop at terms)) ≡ x ++ (ys ++ w')
  record-back ys = rw (span, is, take_at x (words_of s ++ w') at (sym place), drop_at x (words_of s ++ w') at (sym place), drop_at (words_of s) w' node_state_words refl)

pub found-miss : (ix : Index) (t : PhraseTerm) (ts : List PhraseTerm) (d : ℕ) → found (posting_at ix t.leaf d) ≡ false → all_found ix (t ∷ ts) d ≡ false
unfolding all_found
found-miss ix t ts d e = rw e

pub found-rest : (ix : Index) (t : PhraseTerm) (ts : List PhraseTerm) (d : ℕ) → all_found ix ts d ≡ false → all_found ix (t ∷ ts) d ≡ false
unfolding all_found
found-rest ix t ts d e = rw e (and-false (found (posting_at ix t.leaf d)))
  where
    and-false : (b : Bool) → b && false ≡ false
    and-false true = refl
    and-false false = refl

module _ {postings : List ℕ} {ix : Index} {ts : List PhraseTerm} {from : ℕ} {terms : List ℕ} {d last at : ℕ} (q : TermsZip postings ix ts from terms d last at) where
  pub terms-end : length terms ≤ at → (hit : Bool) → (hit ≡ true → last ≡ 0) → (hit ≡ false → 0 < last) → TermsPassed ix ts from d hit terms
  unfolding TermsAre TermsAt
  terms-end l hit stood went = go q.left q.rest q.back q.stand
    where
      go : (g : List PhraseTerm) → TermsAre ix g q.z d → ((e : ℕ) → d ≤ e → (z' : List ℕ) → TermsAre ix g z' e → TermsAre ix ts (q.x ++ z') e) → (last ≡ 0 → d < no_more_docs → (z' : List ℕ) → TermsAt ix g z' d → TermsAt ix ts (q.x ++ z') d) → TermsPassed ix ts from d hit terms
      go [] r b s = record { from = q.lo; top = q.top; before = q.before; are = rw q.is (b d (le_refl _) q.z r); stand = λ e h. rw q.is (s (stood e) h q.z r); moved = λ e. q.rise (went e) }
      go (t ∷ g) r b s = absurd (omega (arith, ap length q.is, length-append q.x q.z, ap length r.2, q.place))

  module _ (l : at < length terms) (e : ℕ) (stop : e ≡ at + node_state_words) where
    pub terms-next : (at + node_state_words ≤ length terms) × ((s : State) × (w : List ℕ) × SearchHeld postings 3 s w (take (e - at) (drop at terms)) d)
    unfolding TermsAre LeavesThere
    terms-next = go q.left q.rest q.there
      where
        go : (g : List PhraseTerm) → TermsAre ix g q.z d → LeavesThere ix g → (at + node_state_words ≤ length terms) × ((s : State) × (w : List ℕ) × SearchHeld postings 3 s w (take (e - at) (drop at terms)) d)
        go [] r h = absurd (omega (arith, ap length q.is, length-append q.x q.z, ap length r, q.place))
        go (t ∷ g) r h =
            let is = q.is ∙ ap (λ (y : List ℕ). q.x ++ y) r.2 in (
              record-fits terms q.x r.1 r.0 at e is q.place stop,
              (r.0, [], subst (λ (y : List ℕ). SearchHeld y 3 r.0 [] (take (e - at) (drop at terms)) d) q.postings-are (term-run ix q.accepted 9 t.leaf h.0 r.0 d r.3 [] (take (e - at) (drop at terms)) (record-part terms q.x r.1 r.0 at e is q.place stop))),
            )

    -- the term stands at r, which is d, or moved it there
    pub terms-took : (r last' : ℕ) → (((last' ≡ last) × (r ≡ d)) ⊎ ((last' ≡ at) × (r ≡ d → ⊥))) → (ys : List ℕ) → length ys ≡ length (take (e - at) (drop at terms)) → SearchPost postings 3 (take (e - at) (drop at terms)) d r ys → TermsZip postings ix ts from (take at terms ++ (ys ++ drop (e - at) (drop at terms))) r last' e
    unfolding TermsAre TermsAt LeavesThere
    terms-took r last' how ys len post = go q.left q.rest q.there q.fails q.back q.stand q.fresh
      where
        go : (g : List PhraseTerm) → TermsAre ix g q.z d → LeavesThere ix g → ((y : ℕ) → all_found ix g y ≡ false → all_found ix ts y ≡ false) → ((e : ℕ) → d ≤ e → (z' : List ℕ) → TermsAre ix g z' e → TermsAre ix ts (q.x ++ z') e) → (last ≡ 0 → d < no_more_docs → (z' : List ℕ) → TermsAt ix g z' d → TermsAt ix ts (q.x ++ z') d) → (at ≡ 0 → (y : ℕ) (z' : List ℕ) → TermsAt ix g z' y → TermsAt ix ts (q.x ++ z') y) → TermsZip postings ix ts from (take at terms ++ (ys ++ drop (e - at) (drop at terms))) r last' e
        go [] h k f b s n = absurd (omega (arith, ap length q.is, length-append q.x q.z, ap length h, q.place))
        go (t ∷ g) h k f b s n =
            let is = q.is ∙ ap (λ (y : List ℕ). q.x ++ y) h.2 in
            let states = take (e - at) (drop at terms) in
            let part : states ≡ words_of h.0 = record-part terms q.x h.1 h.0 at e is q.place stop in
            let own : SearchPost ix.postings 3 states d r ys = subst (λ (y : List ℕ). SearchPost y 3 states d r ys) (sym q.postings-are) post in
            let m = own h.0 [] (term-run ix q.accepted 9 t.leaf k.0 h.0 d h.3 [] states part) in
            let first = term-first ix q.accepted 9 t.leaf k.0 h.0 d h.3 [] ys r m q.top in
            let moved = term_moved ix q.accepted 9 t.leaf k.0 h.0 d h.3 [] ys r m in
            let here : ys ≡ words_of (cursor_at h.0 m.cursor) = m.words_are in
            let stands : r < no_more_docs → (z' : List ℕ) → TermsAt ix g z' r → TermsAt ix (t ∷ g) (ys ++ z') r =
            λ j z' v.
            let in-run : m.cursor < h.0.number = ⊎_elim (λ c. c) (λ c. absurd (omega (arith, m.ended c))) (cmp m.cursor h.0.number) in
            let doc = term-stands ix q.accepted 9 t.leaf k.0 h.0 d h.3 [] ys r m in-run in
            (cursor_at h.0 m.cursor, z', ap (λ (y : List ℕ). y ++ z') here, term-mono ix 9 t.leaf (cursor_at h.0 m.cursor) d r first.from moved, h.4, doc.0, doc.1, v)
            in
            record {
              left = g;
              x = q.x ++ ys;
              z = h.1;
              is = record-back terms q.x h.1 h.0 at e is q.place stop ys ∙ sym (append_assoc q.x ys h.1);
              place = omega (arith, q.place, length-append q.x ys, ap length here);
              accepted = q.accepted;
              postings-are = q.postings-are;
              there = k.1;
              rest = terms-mono ix g h.1 d r first.from h.5;
              lo = le_trans q.lo first.from;
              top = first.top;
              before = λ y i j. ⊎_elim (λ c. q.before y i c) (λ c. f y (found-miss ix t g y (first.before y c j))) (cmp y d);
              fails = λ y c. f y (found-rest ix t g y c);
              back = λ e' i z' j. rw append_assoc (b e' (le_trans first.from i) (ys ++ z') (cursor_at h.0 m.cursor, z', ap (λ (y : List ℕ). y ++ z') here, term-mono ix 9 t.leaf (cursor_at h.0 m.cursor) d e' (le_trans first.from i) moved, h.4, j));
              stand = λ i j z' v. rw append_assoc (⊎_elim
                  (λ (w : (last' ≡ last) × (r ≡ d)). let same : r ≡ d = w.1 in subst (λ (y : ℕ). TermsAt ix ts (q.x ++ (ys ++ z')) y) (sym same) (s (sym w.0 ∙ i) (omega arith) (ys ++ z') (subst (λ (y : ℕ). TermsAt ix (t ∷ g) (ys ++ z') y) same (stands j z' v))))
                  (λ (w : (last' ≡ at) × (r ≡ d → ⊥)). n (sym w.0 ∙ i) r (ys ++ z') (stands j z' v))
                  how);
              fresh = λ i. absurd (omega (arith, stop));
              rise = λ i. ⊎_elim (λ (w : (last' ≡ last) × (r ≡ d)). omega (arith, w.1, q.rise (omega (arith, w.0)))) (λ (w : (last' ≡ at) × (r ≡ d → ⊥)). omega (arith, w.1, first.from, q.lo)) how;
            }

-- ---- what is gathered
pub record GatherAt (postings : List ℕ) (ix : Index) (ts : List PhraseTerm) (d : ℕ) (terms : List ℕ) (P : ℕ → ℕ → Type 0) (out : List ℕ) (n at : ℕ) : Type 0 where
  pub left : List PhraseTerm
  pub accepted : Accepted ix
  pub postings-are : ix.postings ≡ postings
  pub there : LeavesThere ix left
  pub rest : PostingsAt ix left terms at d P
  pub number : n + 3 * length left ≡ 3 * length ts
  pub back : (l : List ℕ) → Gathered ix left d l → Gathered ix ts d (take n out ++ l)

module _ (ix : Index) (w : List ℕ) (d : ℕ) (P : ℕ → ℕ → Type 0) where
  pub postings-length : (ts : List PhraseTerm) (at : ℕ) → PostingsAt ix ts w at d P → length w ≡ at + node_state_words * length ts
  unfolding PostingsAt
  postings-length [] at p = omega arith
  postings-length (t ∷ ts) at p = omega (arith, postings-length ts (at + node_state_words) p.3)

  pub postings-there : Accepted ix → (ts : List PhraseTerm) → LeavesThere ix ts → (at : ℕ) → PostingsAt ix ts w at d P → (b p : ℕ) → at ≤ b → b % node_state_words ≡ at % node_state_words → b < length w → P b p → p + 2 < length ix.postings
  unfolding PostingsAt LeavesThere
  postings-there acc [] h at r b p f m l s = absurd (omega (arith, r))
  postings-there acc (t ∷ ts) h at r b p f m l s = ⊎_elim here (λ g. postings-there acc ts h.1 (at + node_state_words) r.3 b p g (omega arith) l s) (cmp b (at + node_state_words))
    where
      here : b < at + node_state_words → p + 2 < length ix.postings
      here g =
          let e : b ≡ at = omega arith in
          let k = r.2 p (subst (λ (y : ℕ). P y p) e s) in
          omega (arith, k.word, k.within, (acc.leaf t.leaf h.0).words)

module _ {postings : List ℕ} {ix : Index} {ts : List PhraseTerm} {d : ℕ} {terms out : List ℕ} {P : ℕ → ℕ → Type 0} where
  pub gather-start : GatherHeld postings ix ts d terms P → GatherAt postings ix ts d terms P out 0 0
  gather-start h = record { left = ts; accepted = h.accepted; postings-are = h.postings-are; there = h.there; rest = h.at; number = omega arith; back = λ l g. g }

  module _ {n at : ℕ} (q : GatherAt postings ix ts d terms P out n at) where
    pub gather-end : length terms ≤ at → GatheredTo ix ts d n out
    unfolding Gathered
    gather-end l = go q.left q.rest q.number q.back
      where
        go : (g : List PhraseTerm) → PostingsAt ix g terms at d P → n + 3 * length g ≡ 3 * length ts → ((l : List ℕ) → Gathered ix g d l → Gathered ix ts d (take n out ++ l)) → GatheredTo ix ts d n out
        go [] r k b = record { number = omega (arith, k); gathered = rw append-nil at (b [] refl) }
        go (t ∷ g) r k b = absurd (omega (arith, postings-length ix terms d P (t ∷ g) at r))

    pub gather-took : at < length terms → (p : ℕ) → P at p → 3 * length ts ≤ length out → GatherAt postings ix ts d terms P (set (set (set out n (get_or postings (p + 2) 0)) (n + 1) (get_or postings (p + 1) 0)) (n + 2) (get_or terms (at + 9) 0)) (n + 3) (at + node_state_words)
    unfolding PostingsAt LeavesThere Gathered
    gather-took l p says many = go q.left q.rest q.there q.number q.back
      where
        out' : List ℕ
        out' = set (set (set out n (get_or postings (p + 2) 0)) (n + 1) (get_or postings (p + 1) 0)) (n + 2) (get_or terms (at + 9) 0)

        go : (g : List PhraseTerm) → PostingsAt ix g terms at d P → LeavesThere ix g → n + 3 * length g ≡ 3 * length ts → ((l : List ℕ) → Gathered ix g d l → Gathered ix ts d (take n out ++ l)) → GatherAt postings ix ts d terms P out' (n + 3) (at + node_state_words)
        go [] r h e b = absurd (omega (arith, l, r))
        go (t ∷ g) r h e b =
            let k = r.2 p says in
            let read : (n : ℕ) → get_or postings (p + n) 0 ≡ get_or ix.postings (3 * (leaf_first ix t.leaf + k.place) + n) 0 = λ n. ap (λ (l : List ℕ). get_or l (p + n) 0) (sym q.postings-are) ∙ ap (λ (y : ℕ). get_or ix.postings (y + n) 0) k.word in
            record {
              left = g;
              accepted = q.accepted;
              postings-are = q.postings-are;
              there = h.1;
              rest = r.3;
              number = omega (arith, e);
              back = λ l y.
                  let words = take-three out n (get_or postings (p + 2) 0) (get_or postings (p + 1) 0) (get_or terms (at + 9) 0) (omega (arith, e)) in
                  rw (words, append_assoc) (b (get_or postings (p + 2) 0 ∷ get_or postings (p + 1) 0 ∷ get_or terms (at + 9) 0 ∷ l) (k.place, l, k.within, k.document, rw (read 2, read 1, r.1), y));
            }

-- the terms that stand at a document, and their postings there
module _ (ix : Index) (d : ℕ) (terms : List ℕ) (P : ℕ → ℕ → Type 0) (read : (at p : ℕ) → P at p → p ≡ 3 * (get_or terms (at + 6) 0 + get_or terms (at + 8) 0)) where
  pub standing : (ts : List PhraseTerm) (x z : List ℕ) → terms ≡ x ++ z → TermsAt ix ts z d → PostingsAt ix ts terms (length x) d P
  unfolding TermsAt PostingsAt
  standing [] x z is r = omega (arith, ap length is, length-append x z, ap length r)
  standing (t ∷ ts) x z is r =
      let whole : terms ≡ x ++ (words_of r.0 ++ r.1) = is ∙ ap (λ (y : List ℕ). x ++ y) r.2 in
      let six : get_or terms (length x + 6) 0 ≡ r.0.first = rw (whole, get_or-append-add) in
      let eight : get_or terms (length x + 8) 0 ≡ r.0.cursor = rw (whole, get_or-append-add) in
      let nine : get_or terms (length x + 9) 0 ≡ r.0.offset = rw (whole, get_or-append-add) in
      let end : length (x ++ words_of r.0) ≡ length x + node_state_words = length-append x (words_of r.0) in (
        record-fits terms x r.1 r.0 (length x) (length x + node_state_words) whole refl refl,
        nine ∙ r.4,
        λ p h. record { place = r.0.cursor; within = r.5; document = r.6; word = omega (arith, read (length x) p h, six, eight, r.3.first-is) },
        rw end at (standing ts (x ++ words_of r.0) r.1 (whole ∙ sym (append_assoc x (words_of r.0) r.1)) r.7),
      )

-- ---- the frequency
pub gathered-length : (ix : Index) (ts : List PhraseTerm) (d : ℕ) (l : List ℕ) → Gathered ix ts d l → length l ≡ 3 * length ts
unfolding Gathered
gathered-length ix [] d l p = ap length p
gathered-length ix (t ∷ ts) d l p = omega (arith, ap length p.4, gathered-length ix ts d p.1 p.5)

pub gathered-lists : (ix : Index) → Accepted ix → (ts : List PhraseTerm) → LeavesThere ix ts → (d : ℕ) (l : List ℕ) → Gathered ix ts d l → start_lists ix.positions l ≡ term_starts ix ts d
unfolding Gathered LeavesThere start_lists starts_of term_starts
gathered-lists ix acc [] h d l p = rw p
gathered-lists ix acc (t ∷ ts) h d l p = rw (p.4, posting-at ix t.leaf d (acc.ascending t.leaf h.0) p.0 p.2 p.3, gathered-lists ix acc ts h.1 d p.1 p.5)

term-later : (a b c : ℕ) (l : List ℕ) (n : ℕ) → term_at (a ∷ b ∷ c ∷ l) (3 + n) ≡ term_at l n
term-later a b c l n =
    let e1 : 3 + n + 1 ≡ 3 + (n + 1) = omega arith in
    let e2 : 3 + n + 2 ≡ 3 + (n + 2) = omega arith in
    let m = a ∷ b ∷ c ∷ [] in
    rw (e1, e2, get_or-append-add m l n 0, get_or-append-add m l (n + 1) 0, get_or-append-add m l (n + 2) 0)

module _ (ix : Index) (acc : Accepted ix) (f places : ℕ) (has : has_positions ix f ≡ true) (d : ℕ) where
  good-term : (t : PhraseTerm) → PhraseTermIs ix f places t → (i : ℕ) → i < leaf_number ix t.leaf → GoodTerm ix.positions (record { first = leaf_positions_index ix t.leaf i; freq = leaf_frequency ix t.leaf i; offset = t.offset })
  good-term t k i l =
      let o = acc.posting t.leaf i k.leaf-there l in
      let h : has_positions ix (leaf_field ix t.leaf) ≡ true = rw k.field_is has in
      record { within = o.places h; rising = λ j g. o.rising h j (suc j) (omega arith) g; small = o.small h; offset-small = k.offset-small }

  pub gathered-each : (ts : List PhraseTerm) → EachTerm ix f places ts → (l : List ℕ) → Gathered ix ts d l → (at : ℕ) → at % 3 ≡ 0 → at < length l → GoodTerm ix.positions (term_at l at)
  unfolding Gathered EachTerm
  gathered-each [] k l p at m h = absurd (omega (arith, ap length p))
  gathered-each (t ∷ ts) k l p at m h = ⊎_elim front (λ g. behind (at - 3) (omega arith) (λ n a b. gathered-each ts k.1 p.1 p.5 n a b)) (cmp at 3)
    where
      front : at < 3 → GoodTerm ix.positions (term_at l at)
      front g = let e : at ≡ 0 = omega arith in rw (e, p.4) (good-term t k.0 p.0 p.2)

      behind : (n : ℕ) → at ≡ 3 + n → ((n : ℕ) → n % 3 ≡ 0 → n < length p.1 → GoodTerm ix.positions (term_at p.1 n)) → GoodTerm ix.positions (term_at l at)
      behind n e more =
          rw (e, p.4, term-later (leaf_positions_index ix t.leaf p.0) (leaf_frequency ix t.leaf p.0) t.offset p.1 n)
          (more n (omega arith) (omega (arith, ap length p.4)))

  pub gathered-room : (ts : List PhraseTerm) → EachTerm ix f places ts → 0 < length ts → (l : List ℕ) → Gathered ix ts d l → get_or l 1 0 ≤ places
  unfolding Gathered EachTerm largest_in
  gathered-room [] k h l p = absurd (omega arith)
  gathered-room (t ∷ ts) k h l p = rw p.4 (le_trans (largest-at (leaf_number ix t.leaf) (leaf_frequency ix t.leaf) p.0 p.2) k.0.room)

pub leaves-there : (ix : Index) (f places : ℕ) (ts : List PhraseTerm) → EachTerm ix f places ts → LeavesThere ix ts
unfolding EachTerm LeavesThere
leaves-there ix f places [] k = tt
leaves-there ix f places (t ∷ ts) k = (k.0.leaf-there, leaves-there ix f places ts k.1)

pub terms-at-length : (ix : Index) (ts : List PhraseTerm) (w : List ℕ) (d : ℕ) → TermsAt ix ts w d → length w ≡ node_state_words * length ts
unfolding TermsAt
terms-at-length ix [] w d p = ap length p
terms-at-length ix (t ∷ ts) w d p = omega (arith, ap length p.2, terms-at-length ix ts p.1 d p.7)

-- what the phrase step asks of the gathered words, and what it answers
module _ (ix : Index) (acc : Accepted ix) (f places : ℕ) (ts : List PhraseTerm) (sound : LeafSound ix places (phrase f ts)) (d : ℕ) (l : List ℕ) (g : Gathered ix ts d l) where
  pub gathered-good : Good ix.positions l
  unfolding LeafSound
  gathered-good = record { some = omega (arith, gathered-length ix ts d l g, sound.2); whole = omega (arith, gathered-length ix ts d l g); each = gathered-each ix acc f places sound.1 d ts sound.4 l g }

  pub gathered-places : (n : ℕ) → places ≤ n → Room l n
  unfolding LeafSound
  gathered-places n h = record { term = 0; record-start = refl; one-of-them = omega (arith, gathered-length ix ts d l g, sound.2); enough = le_trans (gathered-room ix acc f places sound.1 d ts sound.4 sound.2 l g) h }

  pub gathered-frequency : common_size (start_lists ix.positions l) ≡ phrase_frequency ix ts d
  unfolding LeafSound phrase_frequency
  gathered-frequency = ap common_size (gathered-lists ix acc ts (leaves-there ix f places ts sound.4) d l g)

-- ---- a document that some term lacks
starts-some : (ix : Index) (l n d : ℕ) (s : ℤ) → 0 < multiplicity s (starts n (positions_of ix l (posting_at ix l d))) → found (posting_at ix l d) ≡ true
unfolding multiplicity starts
starts-some ix l n d s h = go (posting_at ix l d) h
  where
    go : (o : Option ℕ) → 0 < multiplicity s (starts n (positions_of ix l o)) → found o ≡ true
    go none h = absurd (not-suc-le-zero h)
    go (some i) h = refl

all_of : (ix : Index) (d : ℕ) (s : ℤ) (ts : List PhraseTerm) → 0 < smallest s (term_starts ix ts d) → all_found ix ts d ≡ true
unfolding all_found term_starts smallest
all_of ix d s [] h = refl
all_of ix d s (t ∷ []) h = rw (starts-some ix t.leaf t.offset d s h)
all_of ix d s (t ∷ u ∷ ts) h =
    let a = starts-some ix t.leaf t.offset d s (omega (arith, h)) in
    let b = all_of ix d s (u ∷ ts) (omega (arith, h)) in
    rw (a, b)

pub lacking : (ix : Index) (ts : List PhraseTerm) (d : ℕ) → all_found ix ts d ≡ false → ltb 0 (phrase_frequency ix ts d) ≡ false
unfolding phrase_frequency
lacking ix ts d e = go (ltb 0 (phrase_frequency ix ts d)) refl
  where
    go : (b : Bool) → ltb 0 (phrase_frequency ix ts d) ≡ b → b ≡ false
    go false q = refl
    go true q = let c = common-start (term_starts ix ts d) (ltb-true 0 (phrase_frequency ix ts d) q) in absurd (false≢true (sym e ∙ all_of ix d c.0 ts c.1))

-- ---- `frequency_by`
module _ {postings positions : List ℕ} {ix : Index} {places f : ℕ} {ts : List PhraseTerm} {d : ℕ} {terms : List ℕ} {P : ℕ → ℕ → Type 0} (h : PostingsHeld postings positions ix places f ts d terms P) where
  pub frequency-gather : GatherHeld postings ix ts d terms P
  unfolding LeafSound
  frequency-gather = record { accepted = h.accepted; postings-are = h.postings-are; there = leaves-there ix f places ts h.sound.4; at = h.at }

  pub held-length : length terms ≡ node_state_words * length ts
  held-length = omega (arith, postings-length ix terms d P ts 0 h.at)

  pub frequency-there : PostingsThere postings (length terms) P
  unfolding LeafSound
  frequency-there = λ b p m l s. subst (λ (y : List ℕ). p + 2 < length y) h.postings-are (postings-there ix terms d P h.accepted ts (leaves-there ix f places ts h.sound.4) 0 h.at b p (omega arith) m l s)

  pub frequency-few : 3 * length ts ≤ 96
  unfolding LeafSound
  frequency-few = omega (arith, h.sound.3)

  pub frequency-good : (l : List ℕ) → Gathered ix ts d l → Good positions l
  frequency-good l g = subst (λ (y : List ℕ). Good y l) h.positions-are (gathered-good ix h.accepted f places ts h.sound d l g)

  pub frequency-room : (l : List ℕ) → Gathered ix ts d l → (n : ℕ) → places ≤ n → Room l n
  frequency-room l g = gathered-places ix h.accepted f places ts h.sound d l g

  pub frequency-is : (l : List ℕ) → Gathered ix ts d l → common_size (start_lists positions l) ≡ phrase_frequency ix ts d
  frequency-is l g = subst (λ (y : List ℕ). common_size (start_lists y l) ≡ phrase_frequency ix ts d) h.positions-are (gathered-frequency ix h.accepted f places ts h.sound d l g)

-- ---- `frequency`
pub standing-postings : {postings positions : List ℕ} {ix : Index} {places f : ℕ} {ts : List PhraseTerm} {d : ℕ} {terms : List ℕ} {P : ℕ → ℕ → Type 0} → ((at p : ℕ) → P at p → p ≡ 3 * (get_or terms (at + 6) 0 + get_or terms (at + 8) 0)) → FrequencyHeld postings positions ix places f ts d terms → PostingsHeld postings positions ix places f ts d terms P
standing-postings {ix = ix} {ts = ts} {d = d} {terms = terms} {P = P} read h = record { accepted = h.accepted; postings-are = h.postings-are; positions-are = h.positions-are; sound = h.sound; at = standing ix d terms P read ts [] terms refl h.stand }

-- ---- `seek_phrase`
-- the words behind a record
pub behind-part : (s : State) (states w : List ℕ) → states ≡ words_of s ++ w → take (length states - node_state_words) (drop node_state_words states) ≡ w
behind-part s states w e = let size : length states - node_state_words ≡ length w = omega (arith, ap length e) in rw (size, e, take-length)

module _ {ix : Index} {f : ℕ} {ts : List PhraseTerm} {s : State} {states : List ℕ} {b : ℕ} (m : PhraseMoved ix f ts s states b) where
  behind-length : length states - node_state_words ≡ length m.behind
  behind-length = omega (arith, ap length m.words)

  pub moved-long : node_state_words ≤ length states
  moved-long = omega (arith, ap length m.words)

  pub moved-behind : take (length states - node_state_words) (drop node_state_words states) ≡ m.behind
  moved-behind = behind-part m.state states m.behind m.words

  pub moved-terms : {postings : List ℕ} → Accepted ix → ix.postings ≡ postings → LeavesThere ix ts → TermsHeld postings ix ts (take (length states - node_state_words) (drop node_state_words states)) b
  moved-terms acc e there = record { accepted = acc; postings-are = e; there = there; are = rw moved-behind m.is.terms }

  -- the terms' words put back
  put_back : (ys : List ℕ) → take node_state_words states ++ (ys ++ drop (length states - node_state_words) (drop node_state_words states)) ≡ words_of m.state ++ ys
  put_back ys = rw (behind-length, m.words, drop-length, append-nil)

  pub leapt-behind : (ys states' : List ℕ) → states' ≡ take node_state_words states ++ (ys ++ drop (length states - node_state_words) (drop node_state_words states)) → take (length states' - node_state_words) (drop node_state_words states') ≡ ys
  leapt-behind ys states' e = behind-part m.state states' ys (e ∙ put_back ys)

  pub moved-leapt : (r : ℕ) (ys : List ℕ) → TermsAre ix ts ys r → PhraseMoved ix f ts s (take node_state_words states ++ (ys ++ drop (length states - node_state_words) (drop node_state_words states))) r
  moved-leapt r ys are =
      record {
        state = m.state;
        behind = ys;
        words = put_back ys;
        kept = m.kept;
        is = record { kind-is = m.is.kind-is; size_is = m.is.size_is; field_is = m.is.field_is; norms-is = m.is.norms-is; terms = are; worked-out = m.is.worked-out };
      }

  pub moved_later : (e : ℕ) → b ≤ e → PhraseMoved ix f ts s states e
  moved_later e h =
      record {
        state = m.state;
        behind = m.behind;
        words = m.words;
        kept = m.kept;
        is = record { kind-is = m.is.kind-is; size_is = m.is.size_is; field_is = m.is.field_is; norms-is = m.is.norms-is; terms = terms-mono ix ts m.behind b e h m.is.terms; worked-out = m.is.worked-out };
      }

  -- the frequency that was worked out is stored
  pub moved-worked : (n : ℕ) → n ≡ phrase_frequency ix ts b → PhraseMoved ix f ts s (set (set states 16 (b + 1)) 17 n) b
  moved-worked n e =
      record {
        state = worked_at m.state (b + 1) n;
        behind = m.behind;
        words = rw m.words;
        kept = record { cached = m.kept.cached; constant = m.kept.constant; weight = m.kept.weight; scores = m.kept.scores };
        is = record {
          kind-is = m.is.kind-is;
          size_is = m.is.size_is;
          field_is = m.is.field_is;
          norms-is = m.is.norms-is;
          terms = m.is.terms;
          worked-out = λ d q. let z : b ≡ d = omega arith in subst (λ (y : ℕ). n ≡ phrase_frequency ix ts y) z e;
        };
      }

-- the document + 1 of the frequency that is stored
pub stored_at : (y : List ℕ) (v n : ℕ) → node_state_words ≤ length y → get_or (set (set y 16 v) 17 n) 16 0 ≡ v
stored_at y v n l = get_or-set_other (set y 16 v) 17 16 n 0 (λ e. omega arith) ∙ get_or-set_same y 16 v 0 (omega arith)

pub moved-start : {postings positions : List ℕ} {ix : Index} {places f : ℕ} {ts : List PhraseTerm} {s : State} {w states : List ℕ} {b : ℕ} → PhraseHeld postings positions ix places f ts s w states b → PhraseMoved ix f ts s states b
moved-start {s = s} {w = w} h = record { state = s; behind = w; words = h.words; kept = record { cached = refl; constant = refl; weight = refl; scores = refl }; is = h.is }

pub held-there : {postings positions : List ℕ} {ix : Index} {places f : ℕ} {ts : List PhraseTerm} {s : State} {w states : List ℕ} {b : ℕ} → PhraseHeld postings positions ix places f ts s w states b → LeavesThere ix ts
unfolding LeafSound
held-there {ix = ix} {places = places} {f = f} {ts = ts} h = leaves-there ix f places ts h.sound.4

pub held-frequency : {postings positions : List ℕ} {ix : Index} {places f : ℕ} {ts : List PhraseTerm} {s : State} {w states : List ℕ} {b : ℕ} → PhraseHeld postings positions ix places f ts s w states b → (d : ℕ) (terms : List ℕ) → TermsAt ix ts terms d → FrequencyHeld postings positions ix places f ts d terms
held-frequency h d terms r = record { accepted = h.accepted; postings-are = h.postings-are; positions-are = h.positions-are; sound = h.sound; stand = r }

module _ {ix : Index} {ts : List PhraseTerm} {target t d : ℕ} {terms : List ℕ} (lo : target ≤ t) (un : (x : ℕ) → target ≤ x → x < t → ltb 0 (phrase_frequency ix ts x) ≡ false) (p : Leapt ix ts t d terms) where
  phrase-before : (x : ℕ) → target ≤ x → x < d → ltb 0 (phrase_frequency ix ts x) ≡ false
  phrase-before x a b = ⊎_elim (λ h. un x a h) (λ h. lacking ix ts x (p.before x h b)) (cmp x t)

  pub phrase-top : d ≡ no_more_docs → First (λ x. ltb 0 (phrase_frequency ix ts x)) target d
  phrase-top e = record { from = le_trans lo p.from; top = p.top; before = phrase-before; hit = λ h. absurd (omega arith) }

  pub phrase-hit : (n : ℕ) → n ≡ phrase_frequency ix ts d → (n ≡ 0 → ⊥) → First (λ x. ltb 0 (phrase_frequency ix ts x)) target d
  phrase-hit n e ne = record { from = le_trans lo p.from; top = p.top; before = phrase-before; hit = λ _. lt-ltb 0 (phrase_frequency ix ts d) (omega arith) }

  pub phrase-more : (n : ℕ) → n ≡ phrase_frequency ix ts d → n ≡ 0 → (x : ℕ) → target ≤ x → x < d + 1 → ltb 0 (phrase_frequency ix ts x) ≡ false
  phrase-more n e z x a b = ⊎_elim (λ h. phrase-before x a h) (λ h. let s : x ≡ d = omega arith in rw s (le-ltb 0 (phrase_frequency ix ts d) (omega arith))) (cmp x d)
