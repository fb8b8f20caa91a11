-- The score of a leaf that scores by BM25, by its kind. Assumes nothing.
use mathlib.Core.Path.{◌≡◌, refl, sym, ap, subst, ◌∙◌}
use mathlib.Core.List.{List, ◌++◌}
use Rattle.std.specs.Prelude.{Option, Some, None}
use Prim.Native.Nat.{ℕ, ◌+◌, ◌*◌, ◌/◌, ◌^◌, ◌≤◌, ◌<◌}
use native.Mathlib.Omega.{arith}
use lib.IntN.{pos}
use lib.ListN.{length, get_or}
use lib.Ieee.{Float, nan, binary32, of_bits, of_int}
use borrow.Author.Tests.{ltb-true}
use Rattle.meaning.specs.Limits.{no_more_docs, largest_frequency, node_state_words}
use Rattle.meaning.specs.Lent.{Index, field_count, leaf_field, norm_byte}
use Rattle.meaning.specs.Ieee754.{zero_float}
use Rattle.meaning.specs.Bm25.{bm25}
use Rattle.meaning.specs.Score.{field_score}
use Rattle.meaning.specs.Postings.{posting_at, frequency_of}
use Rattle.meaning.specs.Phrase.{PhraseTerm, phrase_frequency}
use Rattle.ieee754.specs.Nonneg.{AtMost}
use Rattle.ieee754.proofs.Bounds.{zero-atmost}
use Rattle.index.specs.Accepted.{Accepted}
use Rattle.tree_weight.specs.ScorerTree.{Leaf, nothing, term, phrase, range, everything, weighted, leaf_matches, leaf_score}
use Rattle.tree_weight.specs.State.{State, words_of}
use Rattle.tree_weight.specs.Held.{norms_word, PhraseIs, LeafIs, FloatIs}
use Rattle.tree_weight.specs.Sound.{LeafSound, FieldTable, LeafTable}
use Rattle.score_leaf.specs.declared.ScoreNode.{ScoreNode}
use Rattle.score_leaf.specs.Words.{ScoreNodeIs, first_byte, byte_at, Bytes, Weighs, weighted_score}
use Rattle.scorer_leaf.specs.Phrases.{PhraseHeld}
use Rattle.score_leaf.specs.Asked.{LentAt, LeafAsks, LeafKept, PhraseFrequencyPost}
use Rattle.score_leaf.proofs.Frequencies.{Scanned, scanned, phrase-frequency-few}
use Rattle.score_leaf.proofs.Weights.{float-number, norm-there, norm-is, inverse-there, weighted-is, weighted-small}

-- the record's words, as they are read
pub record Read (n : ScoreNode) (s : State) : Type 0 where
  pub first-is : n.first ≡ s.first
  pub number_is : n.number ≡ s.number
  pub cursor-is : n.cursor ≡ s.cursor
  pub field_is : n.field ≡ s.field
  pub constant-is : n.constant ≡ s.constant
  pub weight_is : n.weight ≡ s.weight
  pub norms-is : n.norms ≡ first_byte s.norms

pub read : (states v : List ℕ) (s : State) (n : ScoreNode) → states ≡ words_of s ++ v → ScoreNodeIs states n → Read n s
read states v s n e r =
    record {
      first-is = r.first-is ∙ ap (λ (l : List ℕ). get_or l 6 0) e;
      number_is = r.number_is ∙ ap (λ (l : List ℕ). get_or l 7 0) e;
      cursor-is = r.cursor-is ∙ ap (λ (l : List ℕ). get_or l 8 0) e;
      field_is = r.field_is ∙ ap (λ (l : List ℕ). get_or l 10 0) e;
      constant-is = r.constant-is ∙ ap (λ (l : List ℕ). get_or l 11 0) e;
      weight_is = r.weight_is ∙ ap (λ (l : List ℕ). get_or l 12 0) e;
      norms-is = r.norms-is ∙ ap (λ (l : List ℕ). first_byte (get_or l 18 0)) e;
    }

pub kind-read : (states v : List ℕ) (s : State) → states ≡ words_of s ++ v → get_or states 0 0 ≡ s.kind
kind-read states v s e = ap (λ (l : List ℕ). get_or l 0 0) e

pub words_long : (states v : List ℕ) (s : State) → states ≡ words_of s ++ v → node_state_words ≤ length states
words_long states v s e = omega (arith, ap length e)

-- a leaf that scores by BM25: its field, its frequency in the document, and the words where that is known
pub record Counted (ix : Index) (table : List Float) (n : ScoreNode) (ranges : List ℕ) (l : Leaf) (w : Float) (s : State) (doc frequency : ℕ) (states' : List ℕ) : Type 0 where
  pub field : ℕ
  pub there : field < field_count ix
  pub tables : FieldTable ix table field
  pub weight : FloatIs w n.weight
  pub field_is : n.field ≡ field
  pub norms-is : n.norms ≡ first_byte (norms_word ix field)
  pub few : frequency ≤ largest_frequency
  pub score : field_score ix field w frequency doc ≡ leaf_score ix l (weighted w) doc
  pub kept : LeafKept ix ranges l s doc states'

module _ (ix : Index) (max : ℕ) (postings positions norms : List ℕ) (doc : ℕ) (L : LentAt ix max postings positions norms doc) where
  A : Accepted ix
  A = L.lends.accepted

  inside : doc < ix.max_doc
  inside = subst (λ (i : ℕ). doc < i) (sym L.lends.documents) L.document

  pub few-documents : doc < no_more_docs
  few-documents = omega (arith, inside, A.documents)

  byte_small : Bytes norms → (begin : Option ℕ) → byte_at norms begin doc < 256
  unfolding byte_at
  byte_small bytes (Some first) = bytes (first + doc)
  byte_small bytes None = omega arith

  module _ (table : List Float) (n : ScoreNode) where
    -- of a field
    module _ (f : ℕ) (there : f < field_count ix) (F : FieldTable ix table f) (w : Float) (x : FloatIs w n.weight) (field_is : n.field ≡ f) (norms-is : n.norms ≡ first_byte (norms_word ix f)) (frequency : ℕ) (few : frequency ≤ largest_frequency) where
      byte-is : byte_at norms n.norms doc ≡ norm_byte ix f doc
      byte-is = ap (λ (l : List ℕ). byte_at l n.norms doc) (sym L.norms-are) ∙ norm-is ix A f there doc inside n.norms norms-is

      pub field-weighs : Weighs n norms table doc frequency
      field-weighs =
          record {
            frequency-few = few;
            number = float-number w n.weight x;
            field-few = omega (arith, field_is, there, A.few_fields);
            byte-there = λ first g. subst (λ (l : List ℕ). first + doc < length l) L.norms-are (norm-there ix A f there doc inside n.norms norms-is first g);
            inverse-there = λ bytes. subst (λ (i : ℕ). 256 * i + byte_at norms n.norms doc < length table) (sym field_is) (inverse-there ix A f there doc inside table F (byte_at norms n.norms doc) (byte_small bytes n.norms));
          }

      pub field-answer : Bytes norms → (r : Float) → r ≡ weighted_score n norms table doc frequency → (r ≡ field_score ix f w frequency doc) × AtMost (2 ^ 29) r
      field-answer bytes r e =
          let q : r ≡ field_score ix f w frequency doc = e ∙ ap (λ (i : ℕ). bm25 (of_bits binary32 n.weight) (of_int binary32 (pos frequency)) (get_or table (256 * i + byte_at norms n.norms doc) nan)) field_is ∙ weighted-is ix A f there doc inside table F (byte_at norms n.norms doc) (byte_small bytes n.norms) w n.weight frequency x byte-is in
          (q, subst (λ (z : Float). AtMost (2 ^ 29) z) (sym q) (weighted-small ix A f there doc inside table F (byte_at norms n.norms doc) (byte_small bytes n.norms) w n.weight frequency x few byte-is))

    -- a leaf whose frequency is known
    module _ (ranges : List ℕ) (l : Leaf) (w : Float) (s : State) (frequency : ℕ) (states' : List ℕ) (C : Counted ix table n ranges l w s doc frequency states') where
      pub counted-weighs : Weighs n norms table doc frequency
      counted-weighs = field-weighs C.field C.there C.tables w C.weight C.field_is C.norms-is frequency C.few

      pub counted-done : Bytes norms → (r : Float) → r ≡ weighted_score n norms table doc frequency → (r ≡ leaf_score ix l (weighted w) doc) × AtMost (2 ^ 29) r × LeafKept ix ranges l s doc states'
      counted-done bytes r e = let t = field-answer C.field C.there C.tables w C.weight C.field_is C.norms-is frequency C.few bytes r e in (t.0 ∙ C.score, t.1, C.kept)

  module _ (table : List Float) (n : ScoreNode) (ranges : List ℕ) where
    module _ (places : ℕ) (w : Float) (s : State) (v states : List ℕ) (e : states ≡ words_of s ++ v) (R : Read n s) where
      abbrev Asks : Leaf → Type 0
      Asks l = LeafAsks ix ranges table places l w s v doc

      head : get_or states 0 0 ≡ s.kind
      head = kind-read states v s e

      weight-at : FloatIs w s.weight → FloatIs w n.weight
      weight-at x = subst (λ (i : ℕ). FloatIs w i) (sym R.weight_is) x

      kept : (l : Leaf) → Asks l → LeafKept ix ranges l s doc states
      kept l p = record { s' = s; v' = v; is = e; kept = record { cached = refl; constant = refl; weight = refl; scores = refl }; words = p.words }

      -- a term
      pub term-run : (l : Leaf) → Asks l → get_or states 0 0 ≡ 1 → n.first + n.number ≤ length postings / 3
      unfolding LeafIs LeafSound
      term-run nothing p k = absurd (omega (arith, head, p.words.0))
      term-run (term l) p k = subst (λ (i : List ℕ). n.first + n.number ≤ length i / 3) L.lends.postings-are (omega (arith, (A.leaf l p.sound).run, R.first-is, R.number_is, p.words.0.first-is, p.words.0.number_is))
      term-run (phrase f ts) p k = absurd (omega (arith, head, p.words.kind-is))
      term-run (range r) p k = absurd (omega (arith, head, p.words.0.kind-is))
      term-run everything p k = absurd (omega (arith, head, p.words.0))

      module _ (frequency : ℕ) (h : Scanned postings n.first n.number n.cursor doc frequency) where
        at-term : (l : ℕ) → Asks (term l) → (frequency ≡ frequency_of ix l (posting_at ix l doc)) × (frequency ≤ largest_frequency)
        unfolding LeafIs LeafSound leaf_matches
        at-term l p =
            let a : n.first ≡ Rattle.meaning.specs.Lent.leaf_first ix l = R.first-is ∙ p.words.0.first-is in
            let b : n.number ≡ Rattle.meaning.specs.Lent.leaf_number ix l = R.number_is ∙ p.words.0.number_is in
            let c : n.cursor ≡ s.cursor = R.cursor-is in
            let d : postings ≡ ix.postings = sym L.lends.postings-are in
            scanned ix A l p.sound doc s.cursor p.words.0.run p.match frequency (moved _ _ _ _ _ _ _ _ d a b c h)
          where
            moved : (ps qs : List ℕ) (f f' m m' c c' : ℕ) → ps ≡ qs → f ≡ f' → m ≡ m' → c ≡ c' → Scanned ps f m c doc frequency → Scanned qs f' m' c' doc frequency
            moved ps qs f f' m m' c c' i j k l x = subst (λ (z : List ℕ). Scanned z f' m' c' doc frequency) i (subst (λ (z : ℕ). Scanned ps z m' c' doc frequency) j (subst (λ (z : ℕ). Scanned ps f z c' doc frequency) k (subst (λ (z : ℕ). Scanned ps f m z doc frequency) l x)))

        pub term-counted : (l : Leaf) → Asks l → get_or states 0 0 ≡ 1 → Counted ix table n ranges l w s doc frequency states
        unfolding LeafIs LeafSound LeafTable leaf_score
        term-counted nothing p k = absurd (omega (arith, head, p.words.0))
        term-counted (term l) p k =
            let t = at-term l p in
            record {
              field = leaf_field ix l;
              there = (A.leaf l p.sound).field;
              tables = p.tables;
              weight = weight-at p.weight;
              field_is = R.field_is ∙ p.words.0.field_is;
              norms-is = R.norms-is ∙ ap first_byte p.words.0.norms-is;
              few = t.1;
              score = ap (λ (i : ℕ). field_score ix (leaf_field ix l) w i doc) t.0;
              kept = kept (term l) p;
            }
        term-counted (phrase f ts) p k = absurd (omega (arith, head, p.words.kind-is))
        term-counted (range r) p k = absurd (omega (arith, head, p.words.0.kind-is))
        term-counted everything p k = absurd (omega (arith, head, p.words.0))

      -- a phrase
      held : (f : ℕ) (ts : List PhraseTerm) → LeafSound ix places (phrase f ts) → PhraseIs ix f ts s v doc → PhraseHeld postings positions ix places f ts s v states doc
      held f ts a i = record { accepted = A; postings-are = L.lends.postings-are; positions-are = L.lends.positions-are; sound = a; words = e; is = i }

      pub phrase-asks : (l : Leaf) → Asks l → get_or states 0 0 ≡ 2 → (f : ℕ) × (ts : List PhraseTerm) × PhraseHeld postings positions ix places f ts s v states doc × (0 < phrase_frequency ix ts doc)
      unfolding LeafIs leaf_matches
      phrase-asks nothing p k = absurd (omega (arith, head, p.words.0))
      phrase-asks (term l) p k = absurd (omega (arith, head, p.words.0.kind-is))
      phrase-asks (phrase f ts) p k = (f, ts, held f ts p.sound p.words, ltb-true _ _ p.match)
      phrase-asks (range r) p k = absurd (omega (arith, head, p.words.0.kind-is))
      phrase-asks everything p k = absurd (omega (arith, head, p.words.0))

      pub phrase-counted : (frequency : ℕ) (states' : List ℕ) → PhraseFrequencyPost postings positions states doc frequency states' → (l : Leaf) → Asks l → get_or states 0 0 ≡ 2 → Counted ix table n ranges l w s doc frequency states'
      unfolding LeafIs LeafSound LeafTable leaf_matches leaf_score
      phrase-counted frequency states' h nothing p k = absurd (omega (arith, head, p.words.0))
      phrase-counted frequency states' h (term l) p k = absurd (omega (arith, head, p.words.0.kind-is))
      phrase-counted frequency states' h (phrase f ts) p k =
          let g = h ix places f ts s v (held f ts p.sound p.words) (ltb-true _ _ p.match) in
          record {
            field = f;
            there = p.sound.0;
            tables = p.tables;
            weight = weight-at p.weight;
            field_is = R.field_is ∙ p.words.field_is;
            norms-is = R.norms-is ∙ ap first_byte p.words.norms-is;
            few = omega (arith, g.0, phrase-frequency-few ix A f places ts doc p.sound.4);
            score = ap (λ (i : ℕ). field_score ix f w i doc) g.0;
            kept = record { s' = g.1.0; v' = g.1.1; is = g.1.2; kept = g.1.3; words = g.1.4 };
          }
      phrase-counted frequency states' h (range r) p k = absurd (omega (arith, head, p.words.0.kind-is))
      phrase-counted frequency states' h everything p k = absurd (omega (arith, head, p.words.0))

      -- what else is there scores 0
      pub other-done : (l : Leaf) → Asks l → (get_or states 0 0 ≡ 1 → ⊥) → (get_or states 0 0 ≡ 2 → ⊥) → (r : Float) → r ≡ zero_float → (r ≡ leaf_score ix l (weighted w) doc) × AtMost (2 ^ 29) r × LeafKept ix ranges l s doc states
      unfolding LeafIs leaf_score
      other-done nothing p i j x q = (q, subst (λ (y : Float). AtMost (2 ^ 29) y) (sym q) (zero-atmost _), kept nothing p)
      other-done (term l) p i j x q = absurd (i (head ∙ p.words.0.kind-is))
      other-done (phrase f ts) p i j x q = absurd (j (head ∙ p.words.kind-is))
      other-done (range r) p i j x q = (q, subst (λ (y : Float). AtMost (2 ^ 29) y) (sym q) (zero-atmost _), kept (range r) p)
      other-done everything p i j x q = (q, subst (λ (y : Float). AtMost (2 ^ 29) y) (sym q) (zero-atmost _), kept everything p)
