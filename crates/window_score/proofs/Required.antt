-- The loop over the required children, in the words of its contract: the scores of the Musts are added, the parts of the Filters only forgotten. Assumes nothing.
use Rattle.std.proofs.Common.{◌≡◌, refl, sym, ap, subst, ◌∙◌, Bool, true, false, cond, List, ℕ, ◌+◌, ◌-◌, ◌≤◌, ◌<◌, length, get_or, take, drop, le_refl, arith}
use Rattle.std.specs.Prelude.{Float}
use Rattle.std.specs.Float.{nan}
use Rattle.meaning.specs.Lent.{Index}
use Rattle.meaning.specs.Ieee754.{sum_from}
use Rattle.bits.specs.Bit.{bit}
use Rattle.bits.proofs.Laws.{bit-zero}
use Rattle.tree_weight.specs.ScorerTree.{Scorer, Scorers, more, scorer_score}
use Rattle.tree_weight.specs.Sound.{nodes, nodes_of}
use Rattle.score.proofs.Parts.{part_same}
use Rattle.score.proofs.Sums.{scores-word, required-counted, required-matched}
use Rattle.window_words.specs.Windowed.{places_of}
use Rattle.window_words.proofs.Laws.{windowed-kind, windowed-forget}
use Rattle.tree_node.specs.Words.{ChildThere}
use Rattle.window_score.specs.Asked.{Reads, WindowLent, NodeAsked, ScoresPre, ScoresPost, TermScoresPre, TermScoresPost, RequiredScoresPre, RequiredScoresPost}
use Rattle.window_score.proofs.Loops.{put, sums-more, added-none, Frame, Walk, walk-start, walk-open, walk-end, walk-there, walk-kind, walk-scores, walk-scorable, walk-few, walk-matched, walk-part, walk-took}

-- the buffers keep their lengths, and fewer documents are wanted
pub lent-at : {ix : Index} {n : ℕ} {V : Reads} {places starts other_starts want : ℕ} (starts' other_starts' x : ℕ) → starts' ≡ starts → other_starts' ≡ other_starts → ((p : ℕ) → p < 64 → bit p x ≡ true → bit p want ≡ true) → WindowLent ix n V places starts other_starts want → WindowLent ix n V places starts' other_starts' x
lent-at starts' other_starts' x same-starts same-other less L =
    record {
      lends = L.lends;
      norms-are = L.norms-are;
      room = record { in-starts = omega (arith, same-starts, L.room.in-starts); in-other = omega (arith, same-other, L.room.in-other) };
      small = L.small;
      wanted = λ p l e. L.wanted p l (less p l e);
    }

must-score : (f : Bool) (w : ℕ) → w ≡ cond f 1 0 → w ≡ 1 → f ≡ true
must-score true w e h = refl
must-score false w e h = absurd (omega (arith, e, h))

no-score : (f : Bool) (w : ℕ) → w ≡ cond f 1 0 → (w ≡ 1 → ⊥) → f ≡ false
no-score true w e h = absurd (h e)
no-score false w e h = refl

module _ (kids₀ : List ℕ) (V : Reads) (starts other_starts want : ℕ) (sums₀ : List Float) (depth : ℕ) where
  abbrev pub Asks : Type 0
  Asks = RequiredScoresPre kids₀ V starts other_starts want sums₀ depth

  abbrev pub frame : Asks → Frame
  frame w =
      record {
        counts = λ p. scores-word;
        ix = w.1;
        ranges = V.ranges;
        table = V.inverses;
        places = w.2;
        depth = depth;
        bound = V.base + 64;
        base = V.base;
        asked = places_of want;
        want = want;
        all = w.3;
        start = sums₀;
        most = w.4 + nodes_of w.3;
      }

  abbrev pub RequiredAt : List ℕ → ℕ → List Float → Type 0
  RequiredAt kids at sums = (w : Asks) → (g : Scorers) × Walk (frame w) g kids at sums

module _ {kids₀ : List ℕ} {V : Reads} {starts other_starts want : ℕ} {sums₀ : List Float} {depth : ℕ} where
  pub required-start : RequiredAt kids₀ V starts other_starts want sums₀ depth kids₀ 0 sums₀
  required-start w = (w.3, walk-start (frame kids₀ V starts other_starts want sums₀ depth w) kids₀ w.4 (le_refl _) w.6.held w.7 w.6.scorables.sound w.6.scorables.tables (λ p l i. required-matched w.1 w.3 (V.base + p) (w.6.match p l i)))

  module _ {kids : List ℕ} {at : ℕ} {sums : List Float} (I : RequiredAt kids₀ V starts other_starts want sums₀ depth kids at sums) where
    pub required-end : length kids ≤ at → RequiredScoresPost kids₀ V starts other_starts want sums₀ depth kids sums
    required-end l n ix places ss q L A S =
        let w : Asks kids₀ V starts other_starts want sums₀ depth = (n, ix, places, ss, q, L, A, S) in
        let E = walk-end (I w).0 (I w).1 l in
        (record { wanted = λ p m i. E.added.wanted p m i ∙ ap (λ (xs : List Float). sum_from (get_or sums₀ p nan) xs) (required-counted ix ss (V.base + p)); others = E.added.others }, E.small, E.parts)

    module _ (l : at < length kids) where
      -- the child at the place
      abbrev child : (w : Asks kids₀ V starts other_starts want sums₀ depth) → (f : Bool) × (T : Scorer) × (g : Scorers) × Walk (frame kids₀ V starts other_starts want sums₀ depth w) (more f T g) kids at sums
      child w = walk-open (I w).0 (I w).1 l

      pub required-there : Asks kids₀ V starts other_starts want sums₀ depth → ChildThere kids at
      required-there w = walk-there (child w).3

      module _ (e : ℕ) (stop : e ≡ at + get_or kids (at + 1) 0) where
        kept : (ys : List ℕ) (sums' : List Float) → ys ≡ (take (e - at) (drop at kids)) → RequiredAt kids₀ V starts other_starts want sums₀ depth (put kids at e ys) e sums' → RequiredAt kids₀ V starts other_starts want sums₀ depth kids e sums'
        kept ys sums' h = subst (λ (r : List ℕ). RequiredAt kids₀ V starts other_starts want sums₀ depth r e sums') (ap (put kids at e) h ∙ part_same kids at e)

        pub required-skip : (get_or kids (at + 15) 0 ≡ 1 → ⊥) → RequiredAt kids₀ V starts other_starts want sums₀ depth kids e sums
        required-skip filter =
            kept (take (e - at) (drop at kids)) sums refl (
            λ w.
            let c = child w in
            let none : c.0 ≡ false = no-score c.0 (get_or kids (at + 15) 0) (walk-scores c.3) filter in (
              c.2,
              walk-took c.3 e stop 0 sums (λ p m i. bit-zero p ∙ sym none) (λ p m i. bit-zero p) (added-none (λ p. scorer_score w.1 c.1 (V.base + p)) 0 sums refl) (sums-more c.3.q (c.3.q + nodes c.1) sums (omega arith) c.3.small) (take (e - at) (drop at kids)) refl
                  (windowed-forget w.1 V.ranges c.1 depth (cond c.0 1 0) (take (e - at) (drop at kids)) (V.base + 64) V.base (places_of want) (V.base + 64) (le_refl _) (omega arith) (walk-part c.3 e stop)),
            )
            )

        module _ (must : get_or kids (at + 15) 0 ≡ 1) (starts' other_starts' : ℕ) (same-starts : starts' ≡ starts) (same-other : other_starts' ≡ other_starts) where
          scores : (w : Asks kids₀ V starts other_starts want sums₀ depth) → (child w).0 ≡ true
          scores w = must-score (child w).0 (get_or kids (at + 15) 0) (walk-scores (child w).3) must

          node : (w : Asks kids₀ V starts other_starts want sums₀ depth) → NodeAsked w.1 V w.2 (child w).1 depth (cond (child w).0 1 0) (take (e - at) (drop at kids)) want (child w).3.q
          node w =
              let c = child w in
              record { scorable = walk-scorable c.3 w.6.scorables.few; few = walk-few c.3 w.6.scorables.few; match = λ p m i. walk-matched c.3 p m i (scores w); held = walk-part c.3 e stop }

          pub required-child : Asks kids₀ V starts other_starts want sums₀ depth → ScoresPre (take (e - at) (drop at kids)) V starts' other_starts' want sums depth
          required-child w =
              let c = child w in
              (w.0, w.1, w.2, c.1, cond c.0 1 0, c.3.q, lent-at starts' other_starts' want same-starts same-other (λ p m i. i) w.5, node w, c.3.small)

          pub required-term : get_or kids at 0 ≡ 1 → Asks kids₀ V starts other_starts want sums₀ depth → TermScoresPre (take (e - at) (drop at kids)) V want sums
          required-term k w =
              let c = child w in
              (windowed-kind w.1 V.ranges c.1 depth (cond c.0 1 0) (take (e - at) (drop at kids)) (V.base + 64) V.base (places_of want) (walk-part c.3 e stop) ∙ sym (walk-kind c.3) ∙ k, (V.positions, V.ranges, starts', other_starts', depth, required-child w))

          pub required-took : (ys : List ℕ) (sums' : List Float) → length ys ≡ length (take (e - at) (drop at kids)) → ScoresPost (take (e - at) (drop at kids)) V starts' other_starts' want sums depth ys sums' → RequiredAt kids₀ V starts other_starts want sums₀ depth (put kids at e ys) e sums'
          required-took ys sums' len post w =
              let c = child w in
              let r = post w.0 w.1 w.2 c.1 (cond c.0 1 0) c.3.q (lent-at starts' other_starts' want same-starts same-other (λ p m i. i) w.5) (node w) c.3.small in
              (c.2, walk-took c.3 e stop want sums' (λ p m i. i ∙ sym (scores w)) (λ p m i. i) r.0 r.1 ys len r.2)

          -- a term's part stays as it is
          pub required-term-took : (sums' : List Float) → TermScoresPost (take (e - at) (drop at kids)) V want sums sums' → RequiredAt kids₀ V starts other_starts want sums₀ depth kids e sums'
          required-term-took sums' post = kept (take (e - at) (drop at kids)) sums' refl (required-took (take (e - at) (drop at kids)) sums' refl (post V.positions V.ranges starts' other_starts' depth))
