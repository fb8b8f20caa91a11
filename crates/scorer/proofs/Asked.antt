-- A node that is a phrase, asked about one document. Assumes nothing.
use mathlib.Core.Path.{◌≡◌, subst, ◌∙◌}
use mathlib.Core.Bool.{true}
use mathlib.Core.List.{List}
use Prim.Native.Nat.{ℕ, ◌+◌, ◌≤◌}
use native.Mathlib.Nat.{le_refl}
use native.Mathlib.Omega.{arith}
use lib.ListN.{get_or, set}
use Rattle.meaning.specs.Limits.{no_more_docs}
use Rattle.meaning.specs.Lent.{Index}
use Rattle.meaning.specs.Phrase.{PhraseTerm}
use Rattle.tree_weight.specs.ScorerTree.{nothing, term, phrase, range, everything, Scorer, matches, leaf_matches}
use Rattle.tree_weight.specs.State.{State}
use Rattle.tree_weight.specs.Held.{LeafIs, Ok}
use Rattle.scorer_leaf.specs.Phrases.{PhraseHeld, SeekPhrasePre, PhraseAtPost}
use Rattle.scorer_leaf.specs.Calls.{Lists, Approximates}
use Rattle.scorer_leaf.proofs.Seeks.{seek-phrase-pre}
use Rattle.scorer.specs.Calls.{NodeHeld, Approximates, RoomIn}
use Rattle.scorer.proofs.Nodes.{LeafAsked, node-leaf, node-asked}

module _ (ps qs states : List ℕ) (t : ℕ) (is : get_or states 0 0 ≡ 2) (due : get_or states 2 0 ≤ t) where
  phrase-no-boolean : get_or states 0 0 ≡ 3 → ⊥
  phrase-no-boolean e = omega (arith, is)

  module _ (E : Lists) (same : E.postings ≡ ps) (alike : E.positions ≡ qs) where
    -- it is a phrase
    own : {ix : Index} {p : ℕ} {f : ℕ} {ts : List PhraseTerm} {s : State} {w : List ℕ} → PhraseHeld E.postings E.positions ix p f ts s w states t → PhraseHeld ps qs ix p f ts s w states t
    own h = record { accepted = h.accepted; postings-are = h.postings-are ∙ same; positions-are = h.positions-are ∙ alike; sound = h.sound; words = h.words; is = h.is }

    pub phrase-asks : t ≤ no_more_docs → {starts other_starts : ℕ} {ix : Index} {p : ℕ} {T : Scorer} {k o : ℕ} → RoomIn p starts other_starts → NodeHeld E ix p T k o states t → SeekPhrasePre ps qs starts other_starts states t
    phrase-asks top {ix = ix} {p = p} {T = T} room h =
        let n = node-leaf due phrase-no-boolean T h in
        let m = seek-phrase-pre E states t is ix p n.0 n.1 n.2 n.3 in
        (top, (ix, p, m.0, m.1, n.1, n.2, room.in-starts, room.in-other, own m.2))

    module _ (r : ℕ) (states' : List ℕ) (post : PhraseAtPost ps qs states t r states') where
      leaf-asked : LeafAsked E states t r states'
      unfolding LeafIs leaf_matches
      leaf-asked ix p nothing s w h = absurd (omega (arith, rw h.words at is, h.is.0))
      leaf-asked ix p (term l) s w h = absurd (omega (arith, rw h.words at is, h.is.0.kind-is))
      leaf-asked ix p (phrase f ts) s w h =
          let m = post ix p f ts s w (own (record { accepted = h.lends.accepted; postings-are = h.lends.postings-are; positions-are = h.lends.positions-are; sound = h.sound; words = h.words; is = h.is })) in (
            record { from = m.0.from; top = m.0.top; before = m.0.before; hit = m.0.hit },
            record {
              state = m.1.state;
              behind = m.1.behind;
              words = m.1.words;
              kept = m.1.kept;
              is = m.1.is;
            },
          )
      leaf-asked ix p (range x) s w h = absurd (omega (arith, rw h.words at is, h.is.0.kind-is))
      leaf-asked ix p everything s w h = absurd (omega (arith, rw h.words at is, h.is.0))

      module _ {ix : Index} {p : ℕ} {T : Scorer} {k o : ℕ} (h : NodeHeld E ix p T k o states t) where
        asked : Approximates (matches ix T) t t r × (r ≡ t → Ok ix E.ranges T k o (set states' 2 (t + 1)) t) × ((r ≡ t → ⊥) → Ok ix E.ranges T k o states' r)
        asked = node-asked due phrase-no-boolean r states' leaf-asked T h

        -- it does not stand at the target
        pub asked-moved : {from : ℕ} → from ≡ t → (r ≡ t → ⊥) → Approximates (matches ix T) from t r × Ok ix E.ranges T k o states' r
        asked-moved e ne = (record { from = asked.0.from; top = asked.0.top; before = asked.0.before; hit = λ s l. absurd (ne (s ∙ e)) }, asked.2 ne)

        -- it does
        pub asked-there : {from : ℕ} → from ≡ t → r ≡ t → Approximates (matches ix T) from t t × Ok ix E.ranges T k o (set states' 2 (t + 1)) t
        asked-there e is-t = (
          record { from = le_refl _; top = omega (arith, asked.0.top); before = λ x a b. absurd (omega arith); hit = λ s l. subst (λ (y : ℕ). matches ix T y ≡ true) is-t (asked.0.hit is-t (omega arith)) },
          asked.1 is-t,
        )
