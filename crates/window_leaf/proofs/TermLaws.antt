-- The terms of a phrase, asked in turn for a window, and their postings at a place of it. Assumes nothing.
use Rattle.std.proofs.lemmas.Bool.{and_parts}
use Rattle.std.proofs.Common.{◌≡◌, refl, sym, ap, ap₂, subst, ◌∙◌, Bool, true, false, ◌&&◌, ⊎_elim, List, [], ◌∷◌, ◌++◌, ℕ, ◌+◌, ◌-◌, ◌*◌, ◌≤◌, ◌<◌, max, length, get_or, take, drop, append_assoc, length-append, arith}
use mathlib.Core.Bool.{and-true, and_assoc, false≢true}
use lib.Seq.{get_or-append-add}
use Rattle.meaning.proofs.Tests.{cmp}
use Rattle.meaning.specs.Below.{count_below}
use Rattle.meaning.specs.Limits.{no_more_docs, node_state_words}
use Rattle.meaning.specs.Lent.{Index, leaf_count, leaf_document}
use Rattle.meaning.specs.Postings.{posting_at, found}
use Rattle.meaning.specs.Phrase.{PhraseTerm}
use Rattle.index.specs.Accepted.{Accepted}
use Rattle.tree_weight.specs.State.{State, words_of}
use Rattle.tree_weight.specs.Held.{TermIs}
use Rattle.scorer_leaf.specs.Search.{SearchHeld}
use Rattle.scorer_leaf.specs.Phrases.{all_found, LeavesThere, PostingsAt}
use Rattle.tree_weight.proofs.Terms.{term-mono}
use Rattle.scorer_leaf.proofs.LeafLaws.{term-run}
use Rattle.scorer_leaf.proofs.PhraseLaws.{record-fits, record-part, record-back, found-miss, found-rest}
use Rattle.bits.specs.Bit.{bit}
use Rattle.bits.proofs.Laws.{bit-zero}
use Rattle.window.proofs.Rank.{posting-of-bit}
use Rattle.window_words.specs.Windowed.{Places, nowhere, places_of, two_words, window_bits, TermWindow, TermsWindowed}
use Rattle.window_leaf.specs.Asks.{Answers}
use Rattle.window_leaf.specs.Runs.{window_at, RunBitsPost}
use Rattle.window_leaf.proofs.Records.{term-run-like, term-passed, term-window}
use Rattle.window_leaf.specs.Phrases.{rank_at}

-- ---- the posting at a place whose bit is set
pub term-posting : (ix : Index) → Accepted ix → (k l : ℕ) → l < leaf_count ix → (s : State) (b : ℕ) → TermIs ix k l s b → (base : ℕ) → TermWindow ix l s base → (p : ℕ) → p < 64 → found (posting_at ix l (base + p)) ≡ true → (s.window_first + count_below p (λ q. bit q (window_bits s)) < s.cursor) × (leaf_document ix l (s.window_first + count_below p (λ q. bit q (window_bits s))) ≡ base + p)
term-posting ix acc k l there s b is base w p h e =
    let f = is.first-is in
    let n = is.number_is in
    rw f at
    (posting-of-bit ix.postings 3 s.first s.number base s.window_first (window_bits s) (term-run ix acc k l there s b is [] (words_of s) refl).run
    (record { within = omega (arith, n, w.first-within, w.within); passed = rw f w.before; ahead = rw (f, n) w.from })
    (λ q g. w.bits q g ∙ sym (term-run-like ix acc k l there s b is (base + q)))
    s.cursor
    (record { within = omega (arith, n, w.within); passed = rw f w.inside; ahead = rw (f, n) w.ahead })
    p h (w.bits p h ∙ e))

-- ---- the terms at a larger bound, asked at fewer places
pub terms-less : (ix : Index) (ts : List PhraseTerm) (w : List ℕ) (b e base : ℕ) (D D' : Places) → b ≤ e → ((p : ℕ) → p < 64 → D' p ≡ true → D p ≡ true) → TermsWindowed ix ts w b base D → TermsWindowed ix ts w e base D'
unfolding TermsWindowed
terms-less ix [] w b e base D D' h f p = p
terms-less ix (t ∷ ts) w b e base D D' h f p =
    (p.0, p.1, p.2, term-mono ix 9 t.leaf p.0 b e h p.3, p.4, (λ q g i. p.5 q g (f q g i)), terms-less ix ts p.1 b e base D D' h f p.6)

-- ---- the terms asked in turn
-- a word of a record that begins at a place
read-there : (x y : List ℕ) (at k : ℕ) → at ≡ length x → get_or (x ++ y) (at + k) 0 ≡ get_or y k 0
read-there x y at k e = rw (e, get_or-append-add)

-- .. that was put there
word-there : (terms x ys y w : List ℕ) (at k : ℕ) → at ≡ length x → terms ≡ x ++ (ys ++ w) → ys ≡ y → get_or terms (at + k) 0 ≡ get_or (y ++ w) k 0
word-there terms x ys y w at k e whole here = rw (whole, here) (read-there x (y ++ w) at k e)

same-length : (ys y : List ℕ) → ys ≡ y → length ys ≡ length y
same-length ys y e = ap length e

-- the same words before others
same-front : (ys y z : List ℕ) → ys ≡ y → ys ++ z ≡ y ++ z
same-front ys y z e = ap (λ (v : List ℕ). v ++ z) e

-- the documents of one more term are taken out of those wanted
fewer-wanted : (a b c d e : Bool) → a ≡ (b && c) → c ≡ d → (a && e) ≡ (b && (d && e))
fewer-wanted a b c d e h g = rw (h, g) (and_assoc b d e)

pub record Asking (postings : List ℕ) (ix : Index) (ts : List PhraseTerm) (base want : ℕ) (terms : List ℕ) (w next at : ℕ) : Type 0 where
  pub left : List PhraseTerm
  pub x : List ℕ
  pub z : List ℕ
  pub is : terms ≡ x ++ z
  pub place : at ≡ length x
  pub accepted : Accepted ix
  pub postings-are : ix.postings ≡ postings
  pub there : LeavesThere ix left
  pub rest : TermsWindowed ix left z base base nowhere
  pub bits : (p : ℕ) → p < 64 → (bit p w && all_found ix left (base + p)) ≡ (bit p want && all_found ix ts (base + p))
  pub gap : (d : ℕ) → base + 64 ≤ d → d < next → all_found ix ts d ≡ false
  pub top : next ≤ no_more_docs
  pub fails : (d : ℕ) → all_found ix left d ≡ false → all_found ix ts d ≡ false
  pub back : (D : Places) → ((p : ℕ) → p < 64 → D p ≡ true → bit p w ≡ true) → (z' : List ℕ) → TermsWindowed ix left z' (base + 64) base D → TermsWindowed ix ts (x ++ z') (base + 64) base D

module _ {postings : List ℕ} {ix : Index} {ts : List PhraseTerm} {base want : ℕ} where
  module _ {terms : List ℕ} {w next at : ℕ} (q : Asking postings ix ts base want terms w next at) where
    -- no wanted document is left
    pub asking-none : w ≡ 0 → Answers (all_found ix ts) base (places_of want) w next × TermsWindowed ix ts terms (base + 64) base (places_of w)
    asking-none e = (
      record { bits = λ p l. off p ∙ sym (ap (λ (b : Bool). b && all_found ix q.left (base + p)) (off p)) ∙ q.bits p l; gap = q.gap; top = q.top },
      rw q.is (q.back (places_of w) (λ p l h. h) q.z (terms-less ix q.left q.z base (base + 64) base nowhere (places_of w) (omega arith) (λ p l h. absurd (false≢true (sym (off p) ∙ h))) q.rest)),
    )
      where
        off : (p : ℕ) → bit p w ≡ false
        off p = ap (bit p) e ∙ bit-zero p

    -- all were asked
    pub asking-end : length terms ≤ at → Answers (all_found ix ts) base (places_of want) w next × TermsWindowed ix ts terms (base + 64) base (places_of w)
    unfolding TermsWindowed all_found
    asking-end l = go q.left q.rest q.bits q.back
      where
        go : (g : List PhraseTerm) → TermsWindowed ix g q.z base base nowhere → ((p : ℕ) → p < 64 → (bit p w && all_found ix g (base + p)) ≡ (bit p want && all_found ix ts (base + p))) → ((D : Places) → ((p : ℕ) → p < 64 → D p ≡ true → bit p w ≡ true) → (z' : List ℕ) → TermsWindowed ix g z' (base + 64) base D → TermsWindowed ix ts (q.x ++ z') (base + 64) base D) → Answers (all_found ix ts) base (places_of want) w next × TermsWindowed ix ts terms (base + 64) base (places_of w)
        go [] r b k = (record { bits = λ p h. sym (and-true (bit p w)) ∙ b p h; gap = q.gap; top = q.top }, rw q.is (k (places_of w) (λ p h e. e) q.z r))
        go (t ∷ g) r b k = absurd (omega (arith, ap length q.is, length-append q.x q.z, ap length r.2, q.place))

    module _ (l : at < length terms) (e : ℕ) (stop : e ≡ at + node_state_words) where
      pub asking-next : (at + node_state_words ≤ length terms) × ((s : State) × (y : List ℕ) × SearchHeld postings 3 s y (take (e - at) (drop at terms)) base)
      unfolding TermsWindowed LeavesThere
      asking-next = go q.left q.rest q.there
        where
          go : (g : List PhraseTerm) → TermsWindowed ix g q.z base base nowhere → LeavesThere ix g → (at + node_state_words ≤ length terms) × ((s : State) × (y : List ℕ) × SearchHeld postings 3 s y (take (e - at) (drop at terms)) base)
          go [] r h = absurd (omega (arith, ap length q.is, length-append q.x q.z, ap length r, q.place))
          go (t ∷ g) r h =
              let is = q.is ∙ ap (λ (y : List ℕ). q.x ++ y) r.2 in (
                record-fits terms q.x r.1 r.0 at e is q.place stop,
                (r.0, [], subst (λ (y : List ℕ). SearchHeld y 3 r.0 [] (take (e - at) (drop at terms)) base) q.postings-are (term-run ix q.accepted 9 t.leaf h.0 r.0 base r.3 [] (take (e - at) (drop at terms)) (record-part terms q.x r.1 r.0 at e is q.place stop))),
              )

      -- the term was asked: r are its documents, and w' those wanted that are left
      pub asking-took : (r w' next' : ℕ) (ys : List ℕ) → RunBitsPost postings 3 (take (e - at) (drop at terms)) base r ys → ((p : ℕ) → bit p w' ≡ (bit p w && bit p r)) → next' ≡ max next (get_or (take at terms ++ (ys ++ drop (e - at) (drop at terms))) (at + 22) 0) → Asking postings ix ts base want (take at terms ++ (ys ++ drop (e - at) (drop at terms))) w' next' e
      unfolding TermsWindowed LeavesThere all_found
      asking-took r w' next' ys post both after = go q.left q.rest q.there q.bits q.fails q.back
        where
          terms' : List ℕ
          terms' = take at terms ++ (ys ++ drop (e - at) (drop at terms))

          go : (g : List PhraseTerm) → TermsWindowed ix g q.z base base nowhere → LeavesThere ix g → ((p : ℕ) → p < 64 → (bit p w && all_found ix g (base + p)) ≡ (bit p want && all_found ix ts (base + p))) → ((d : ℕ) → all_found ix g d ≡ false → all_found ix ts d ≡ false) → ((D : Places) → ((p : ℕ) → p < 64 → D p ≡ true → bit p w ≡ true) → (z' : List ℕ) → TermsWindowed ix g z' (base + 64) base D → TermsWindowed ix ts (q.x ++ z') (base + 64) base D) → Asking postings ix ts base want terms' w' next' e
          go [] h k b f s = absurd (omega (arith, ap length q.is, length-append q.x q.z, ap length h, q.place))
          go (t ∷ g) h k b f s =
              let is = q.is ∙ ap (λ (y : List ℕ). q.x ++ y) h.2 in
              let states = take (e - at) (drop at terms) in
              let part : states ≡ words_of h.0 = record-part terms q.x h.1 h.0 at e is q.place stop in
              let own : RunBitsPost ix.postings 3 states base r ys = subst (λ (y : List ℕ). RunBitsPost y 3 states base r ys) (sym q.postings-are) post in
              let m = own h.0 [] (term-run ix q.accepted 9 t.leaf k.0 h.0 base h.3 [] states part) in
              let s' = window_at h.0 m.cursor m.first r m.next in
              let like = term-run-like ix q.accepted 9 t.leaf k.0 h.0 base h.3 in
              let here : ys ≡ words_of s' = m.words_are in
              let whole : terms' ≡ q.x ++ (ys ++ h.1) = record-back terms q.x h.1 h.0 at e is q.place stop ys in
              let twenty-two : get_or terms' (at + 22) 0 ≡ m.next = word-there terms' q.x ys (words_of s') h.1 at 22 q.place whole here in
              let last : next' ≡ max next m.next = after ∙ ap (max next) twenty-two in
              record {
                left = g;
                x = q.x ++ ys;
                z = h.1;
                is = whole ∙ sym (append_assoc q.x ys h.1);
                place = omega (arith, q.place, length-append q.x ys, same-length ys (words_of s') here);
                accepted = q.accepted;
                postings-are = q.postings-are;
                there = k.1;
                rest = h.6;
                bits = λ p i. fewer-wanted (bit p w') (bit p w) (bit p r) (found (posting_at ix t.leaf (base + p))) (all_found ix g (base + p)) (both p) (m.bits p i ∙ like (base + p)) ∙ b p i;
                gap = λ d i j. ⊎_elim (λ c. q.gap d i c) (λ c. f d (found-miss ix t g d (sym (like d) ∙ m.gap d i (omega (arith, last))))) (cmp d next);
                top = omega (arith, last, q.top, m.top);
                fails = λ d c. f d (found-rest ix t g d c);
                back = λ D fewer z' j. rw append_assoc (s D (λ p i c. (and_parts (bit p w) (bit p r) (sym (both p) ∙ fewer p i c)).0) (ys ++ z') (s', z', same-front ys (words_of s') z' here, term-passed ix q.accepted 9 t.leaf k.0 h.0 base h.3 [] r ys m, h.4, (λ p i c. term-window ix q.accepted 9 t.leaf k.0 h.0 base h.3 [] r ys m), j));
              }

-- ---- the postings at a place that all terms have
module _ (ix : Index) (acc : Accepted ix) (bound base place : ℕ) (low : place < 64) (D : Places) (on : D place ≡ true) (terms : List ℕ) (P : ℕ → ℕ → Type 0) (read : (at p : ℕ) → P at p → p ≡ 3 * (get_or terms (at + 6) 0 + get_or terms (at + 19) 0 + rank_at terms at place)) where
  pub asked_terms : (ts : List PhraseTerm) (x z : List ℕ) → terms ≡ x ++ z → TermsWindowed ix ts z bound base D → LeavesThere ix ts → all_found ix ts (base + place) ≡ true → PostingsAt ix ts terms (length x) (base + place) P
  unfolding TermsWindowed LeavesThere all_found PostingsAt
  asked_terms [] x z is r h f = omega (arith, ap length is, length-append x z, ap length r)
  asked_terms (t ∷ ts) x z is r h f =
      let both = and_parts (found (posting_at ix t.leaf (base + place))) (all_found ix ts (base + place)) f in
      let whole : terms ≡ x ++ (words_of r.0 ++ r.1) = is ∙ ap (λ (y : List ℕ). x ++ y) r.2 in
      let word : (k : ℕ) → get_or terms (length x + k) 0 ≡ get_or (words_of r.0 ++ r.1) k 0 = λ k. ap (λ (y : List ℕ). get_or y (length x + k) 0) whole ∙ read-there x (words_of r.0 ++ r.1) (length x) k refl in
      let first : get_or terms (length x + 6) 0 ≡ r.0.first = word 6 in
      let window-first : get_or terms (length x + 19) 0 ≡ r.0.window_first = word 19 in
      let twenty : get_or terms (length x + 20) 0 ≡ r.0.window_low = word 20 in
      let twenty-one : get_or terms (length x + 21) 0 ≡ r.0.window_high = word 21 in
      let rank : rank_at terms (length x) place ≡ count_below place (λ q. bit q (window_bits r.0)) = ap₂ (λ (a b : ℕ). count_below place (λ k. bit k (two_words a b))) twenty twenty-one in
      let asked = r.5 place low on in
      let posting = term-posting ix acc 9 t.leaf h.0 r.0 bound r.3 base asked place low both.0 in
      let end : length (x ++ words_of r.0) ≡ length x + node_state_words = length-append x (words_of r.0) in (
        record-fits terms x r.1 r.0 (length x) (length x + node_state_words) whole refl refl,
        word 9 ∙ r.4,
        λ p k. record {
          place = r.0.window_first + count_below place (λ q. bit q (window_bits r.0));
          within = omega (arith, posting.0, asked.within);
          document = posting.1;
          word = omega (arith, read (length x) p k, first, window-first, rank, r.3.first-is);
        },
        rw end at (asked_terms ts (x ++ words_of r.0) r.1 (whole ∙ sym (append_assoc x (words_of r.0) r.1)) r.6 h.1 both.1),
      )
