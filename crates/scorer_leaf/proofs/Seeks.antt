-- What a move of a leaf asks and gives, for each kind of leaf. Assumes nothing.
use mathlib.Core.Path.{◌≡◌, refl, sym, subst, ◌∙◌}
use mathlib.Core.List.{List}
use Prim.Native.Nat.{ℕ, ◌≤◌}
use native.Mathlib.Omega.{arith}
use lib.ListN.{get_or}
use Rattle.meaning.specs.Limits.{no_more_docs}
use Rattle.meaning.specs.Lent.{Index}
use Rattle.tree_weight.specs.ScorerTree.{Leaf, nothing, term, phrase, range, everything, leaf_matches}
use Rattle.tree_weight.specs.State.{State}
use Rattle.tree_weight.specs.Held.{LeafIs}
use Rattle.tree_weight.specs.Sound.{LeafSound}
use Rattle.scorer_leaf.specs.Search.{cursor_at, SearchPre, SearchPost, AnyDocument, SeekRangePre, SeekRangePost}
use Rattle.scorer_leaf.specs.Phrases.{PhraseHeld, SeekPhrasePost}
use Rattle.scorer_leaf.specs.Calls.{Lists, LeafHeld, SeekPost}
use Rattle.scorer_leaf.proofs.Loops.{first-like}
use Rattle.scorer_leaf.proofs.Bounds.{leaf-mono}
use Rattle.scorer_leaf.proofs.LeafLaws.{term-run, term_moved, term-first, range-held, range-first, any-first}

module _ (E : Lists) (states : List ℕ) (t : ℕ) where
  kind-of : {ix : Index} {p : ℕ} {l : Leaf} {s : State} {w : List ℕ} → LeafHeld E ix p l s w states t → get_or states 0 0 ≡ s.kind
  kind-of h = rw h.words

  -- ---- a term
  module _ (e : get_or states 0 0 ≡ 1) where
    pub seek-term-pre : (ix : Index) (p : ℕ) (l : Leaf) (s : State) (w : List ℕ) → LeafHeld E ix p l s w states t → SearchPre E.postings 3 states t
    unfolding LeafIs LeafSound
    seek-term-pre ix p nothing s w h = absurd (omega (arith, kind-of h, h.is.0))
    seek-term-pre ix p (term l) s w h = (s, w, subst (λ (y : List ℕ). Rattle.scorer_leaf.specs.Search.SearchHeld y 3 s w states t) h.lends.postings-are (term-run ix h.lends.accepted 1 l h.sound s t h.is.0 w states h.words))
    seek-term-pre ix p (phrase f ts) s w h = absurd (omega (arith, kind-of h, h.is.kind-is))
    seek-term-pre ix p (range r) s w h = absurd (omega (arith, kind-of h, h.is.0.kind-is))
    seek-term-pre ix p everything s w h = absurd (omega (arith, kind-of h, h.is.0))

    pub seek-term-done : t ≤ no_more_docs → (r : ℕ) (states' : List ℕ) → SearchPost E.postings 3 states t r states' → SeekPost E states t r states'
    unfolding LeafIs LeafSound leaf_matches
    seek-term-done top r states' post ix p nothing s w h = absurd (omega (arith, kind-of h, h.is.0))
    seek-term-done top r states' post ix p (term l) s w h =
        let acc = h.lends.accepted in
        let own : SearchPost ix.postings 3 states t r states' = subst (λ (y : List ℕ). SearchPost y 3 states t r states') (sym h.lends.postings-are) post in
        let m = own s w (term-run ix acc 1 l h.sound s t h.is.0 w states h.words) in
        let first = term-first ix acc 1 l h.sound s t h.is.0 w states' r m top in (
          first-like (λ d. refl) first,
          record {
            state = cursor_at s m.cursor;
            behind = w;
            words = m.words_are;
            kept = record { cached = refl; constant = refl; weight = refl; scores = refl };
            is = leaf-mono ix E.ranges (term l) (cursor_at s m.cursor) w t r first.from (term_moved ix acc 1 l h.sound s t h.is.0 w states' r m, h.is.1);
          },
        )
    seek-term-done top r states' post ix p (phrase f ts) s w h = absurd (omega (arith, kind-of h, h.is.kind-is))
    seek-term-done top r states' post ix p (range x) s w h = absurd (omega (arith, kind-of h, h.is.0.kind-is))
    seek-term-done top r states' post ix p everything s w h = absurd (omega (arith, kind-of h, h.is.0))

  -- ---- a range
  module _ (e : get_or states 0 0 ≡ 4) where
    pub seek-range-pre : (ix : Index) (p : ℕ) (l : Leaf) (s : State) (w : List ℕ) → LeafHeld E ix p l s w states t → SeekRangePre E.ranges states
    unfolding LeafIs
    seek-range-pre ix p nothing s w h = absurd (omega (arith, kind-of h, h.is.0))
    seek-range-pre ix p (term l) s w h = absurd (omega (arith, kind-of h, h.is.0.kind-is))
    seek-range-pre ix p (phrase f ts) s w h = absurd (omega (arith, kind-of h, h.is.kind-is))
    seek-range-pre ix p (range r) s w h = (s, w, range-held ix h.lends.accepted E.ranges r s h.is.0 w states h.words)
    seek-range-pre ix p everything s w h = absurd (omega (arith, kind-of h, h.is.0))

    pub seek-range-done : t ≤ no_more_docs → (r : ℕ) → SeekRangePost E.ranges states t r → SeekPost E states t r states
    unfolding LeafIs
    seek-range-done top r post ix p nothing s w h = absurd (omega (arith, kind-of h, h.is.0))
    seek-range-done top r post ix p (term l) s w h = absurd (omega (arith, kind-of h, h.is.0.kind-is))
    seek-range-done top r post ix p (phrase f ts) s w h = absurd (omega (arith, kind-of h, h.is.kind-is))
    seek-range-done top r post ix p (range x) s w h =
        let acc = h.lends.accepted in (
          range-first ix acc E.ranges x s h.is.0 t r top (post s w (range-held ix acc E.ranges x s h.is.0 w states h.words)),
          record {
            state = s;
            behind = w;
            words = h.words;
            kept = record { cached = refl; constant = refl; weight = refl; scores = refl };
            is = h.is;
          },
        )
    seek-range-done top r post ix p everything s w h = absurd (omega (arith, kind-of h, h.is.0))

  -- ---- a phrase
  module _ (e : get_or states 0 0 ≡ 2) where
    pub seek-phrase-pre : (ix : Index) (p : ℕ) (l : Leaf) (s : State) (w : List ℕ) → LeafHeld E ix p l s w states t → (f : ℕ) × (ts : List Rattle.meaning.specs.Phrase.PhraseTerm) × PhraseHeld E.postings E.positions ix p f ts s w states t
    unfolding LeafIs
    seek-phrase-pre ix p nothing s w h = absurd (omega (arith, kind-of h, h.is.0))
    seek-phrase-pre ix p (term l) s w h = absurd (omega (arith, kind-of h, h.is.0.kind-is))
    seek-phrase-pre ix p (phrase f ts) s w h = (f, ts, record { accepted = h.lends.accepted; postings-are = h.lends.postings-are; positions-are = h.lends.positions-are; sound = h.sound; words = h.words; is = h.is })
    seek-phrase-pre ix p (range r) s w h = absurd (omega (arith, kind-of h, h.is.0.kind-is))
    seek-phrase-pre ix p everything s w h = absurd (omega (arith, kind-of h, h.is.0))

    pub seek-phrase-done : (r : ℕ) (states' : List ℕ) → SeekPhrasePost E.postings E.positions states t r states' → SeekPost E states t r states'
    unfolding LeafIs leaf_matches
    seek-phrase-done r states' post ix p nothing s w h = absurd (omega (arith, kind-of h, h.is.0))
    seek-phrase-done r states' post ix p (term l) s w h = absurd (omega (arith, kind-of h, h.is.0.kind-is))
    seek-phrase-done r states' post ix p (phrase f ts) s w h =
        let m = post ix p f ts s w (record { accepted = h.lends.accepted; postings-are = h.lends.postings-are; positions-are = h.lends.positions-are; sound = h.sound; words = h.words; is = h.is }) in (
          first-like (λ d. refl) m.0,
          record {
            state = m.1.state;
            behind = m.1.behind;
            words = m.1.words;
            kept = m.1.kept;
            is = m.1.is;
          },
        )
    seek-phrase-done r states' post ix p (range x) s w h = absurd (omega (arith, kind-of h, h.is.0.kind-is))
    seek-phrase-done r states' post ix p everything s w h = absurd (omega (arith, kind-of h, h.is.0))

  -- ---- everything
  pub seek-any-done : (get_or states 0 0 ≡ 1 → ⊥) → (get_or states 0 0 ≡ 2 → ⊥) → (get_or states 0 0 ≡ 4 → ⊥) → t ≤ no_more_docs → (r : ℕ) → AnyDocument E.documents t r → SeekPost E states t r states
  unfolding LeafIs leaf_matches
  seek-any-done n1 n2 n4 top r a ix p nothing s w h = absurd (omega (arith, h.is.2, h.due))
  seek-any-done n1 n2 n4 top r a ix p (term l) s w h = absurd (n1 (kind-of h ∙ h.is.0.kind-is))
  seek-any-done n1 n2 n4 top r a ix p (phrase f ts) s w h = absurd (n2 (kind-of h ∙ h.is.kind-is))
  seek-any-done n1 n2 n4 top r a ix p (range x) s w h = absurd (n4 (kind-of h ∙ h.is.0.kind-is))
  seek-any-done n1 n2 n4 top r a ix p everything s w h = (
    first-like (λ d. refl) (any-first ix.max_doc t r top h.lends.accepted.documents (subst (λ (n : ℕ). AnyDocument n t r) (sym h.lends.documents) a)),
    record {
      state = s;
      behind = w;
      words = h.words;
      kept = record { cached = refl; constant = refl; weight = refl; scores = refl };
      is = h.is;
    },
  )
