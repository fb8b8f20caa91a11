-- The loop over the optional children, in the words of its contract: each is asked where none is needed, else its stored bits serve, and its score is added where it matches. Assumes nothing.
use Rattle.std.proofs.Common.{◌≡◌, refl, sym, ap, subst, ◌∙◌, Bool, true, false, cond, ◌&&◌, List, ◌++◌, ℕ, ◌+◌, ◌-◌, ◌≤◌, ◌<◌, ltb, length, get_or, take, drop, length-take, length-drop, take_at, drop_at, le_refl, arith}
use Rattle.std.proofs.lemmas.Bool.{false≢true, and_parts, lt-ltb, cases_eq}
use Rattle.std.specs.Prelude.{Float}
use Rattle.std.specs.Float.{nan}
use mathlib.Core.Logic.{⊎_elim}
use Rattle.meaning.specs.Limits.{node_state_words}
use Rattle.meaning.specs.Ieee754.{sum_from}
use Rattle.bits.specs.Bit.{bit}
use Rattle.tree_weight.specs.ScorerTree.{Scorer, Scorers, more, matches, scorer_score}
use Rattle.tree_weight.specs.Sound.{nodes, nodes_of}
use Rattle.scorer_leaf.specs.Calls.{lists}
use Rattle.score.proofs.Parts.{part_same}
use Rattle.score.proofs.Sums.{matches-at, optional-counted, optional-matched}
use Rattle.window_words.specs.Windowed.{nowhere, places_of, two_words, optional_bound, Windowed}
use Rattle.window_words.proofs.Laws.{windowed-less, windowed-long, windowed-kind, windowed-bits, windowed-forget}
use Rattle.window_leaf.specs.Asks.{NodeWindowed, BitsPre, BitsPost}
use Rattle.tree_node.specs.Words.{ChildThere}
use Rattle.window_score.specs.Words.{StoredAre}
use Rattle.window_score.specs.Sums.{Sums, Added}
use Rattle.window_score.specs.Asked.{Reads, WindowLent, NodeAsked, ScoresPre, ScoresPost, TermScoresPre, TermScoresPost, OptionalScoresPre, OptionalScoresPost}
use Rattle.window_score.proofs.Loops.{put, sums-more, added-none, Frame, Walk, walk-start, walk-open, walk-end, walk-there, walk-kind, walk-scorable, walk-few, walk-part, walk-took}
use Rattle.window_score.proofs.Required.{lent-at}

-- ---- bits
and-where : (c d e : Bool) → (c ≡ true → d ≡ e) → c && d ≡ (c && e)
and-where true d e h = h refl
and-where false d e h = refl

and-on : (c d e : Bool) → e ≡ (c && d) → c ≡ true → e ≡ d
and-on true d e h i = h
and-on false d e h i = absurd (false≢true i)

and-off : (c d e : Bool) → e ≡ (c && d) → c ≡ false → e ≡ false
and-off true d e h i = absurd (false≢true (sym i))
and-off false d e h i = h

positive : (n : ℕ) → (n ≡ 0 → ⊥) → ltb 0 n ≡ true
positive n h = lt-ltb 0 n (omega (arith, h))

-- ---- a part that was put back
part-put : (kids ys : List ℕ) (at e : ℕ) → at ≤ length kids → length ys ≡ length (take (e - at) (drop at kids)) → e ≤ length kids → take (e - at) (drop at (put kids at e ys)) ≡ ys
part-put kids ys at e l len h =
    let n : length (take at kids) ≡ at = length-take at kids ∙ omega (arith, l) in
    let m : length ys ≡ e - at = len ∙ length-take (e - at) (drop at kids) ∙ omega (arith, length-drop at kids, h) in
    ap (take (e - at)) (drop_at (take at kids) (ys ++ drop (e - at) (drop at kids)) at n) ∙ take_at ys (drop (e - at) (drop at kids)) (e - at) m

put-again : (kids ys zs : List ℕ) (at e : ℕ) → at ≤ length kids → length ys ≡ length (take (e - at) (drop at kids)) → e ≤ length kids → put (put kids at e ys) at e zs ≡ put kids at e zs
put-again kids ys zs at e l len h =
    let n : length (take at kids) ≡ at = length-take at kids ∙ omega (arith, l) in
    let m : length ys ≡ e - at = len ∙ length-take (e - at) (drop at kids) ∙ omega (arith, length-drop at kids, h) in
    let r : List ℕ = drop (e - at) (drop at kids) in
    let f : take at (put kids at e ys) ≡ take at kids = take_at (take at kids) (ys ++ r) at n in
    let g : drop (e - at) (drop at (put kids at e ys)) ≡ r = ap (drop (e - at)) (drop_at (take at kids) (ys ++ r) at n) ∙ drop_at ys r (e - at) m in
    ap (λ (t : List ℕ). t ++ (zs ++ drop (e - at) (drop at (put kids at e ys)))) f ∙ ap (λ (t : List ℕ). take at kids ++ (zs ++ t)) g

module _ (kids₀ : List ℕ) (need : ℕ) (V : Reads) (starts other_starts want : ℕ) (sums₀ : List Float) (depth : ℕ) where
  abbrev pub Asks : Type 0
  Asks = OptionalScoresPre kids₀ need V starts other_starts want sums₀ depth

  abbrev pub frame : Asks → Frame
  frame w =
      record {
        counts = λ p. matches-at w.1 (V.base + p);
        ix = w.1;
        ranges = V.ranges;
        table = V.inverses;
        places = w.2;
        depth = depth;
        bound = optional_bound need (V.base + 64) V.base;
        base = V.base;
        asked = λ p. ltb 0 need && bit p want;
        want = want;
        all = w.3;
        start = sums₀;
        most = w.4 + nodes_of w.3;
      }

  abbrev pub OptionalAt : List ℕ → ℕ → List Float → Type 0
  OptionalAt kids at sums = (w : Asks) → (g : Scorers) × Walk (frame w) g kids at sums

  -- the child of the part up to e takes the documents x of those that are wanted; kids' are the words after it was asked
  pub record Taken (w : Asks) (kids kids' : List ℕ) (at e x : ℕ) (sums : List Float) : Type 0 where
    pub f : Bool
    pub T : Scorer
    pub g : Scorers
    pub walk : Walk (frame w) (more f T g) kids at sums
    pub stop : e ≡ at + get_or kids (at + 1) 0
    pub held : Windowed w.1 V.ranges T depth (cond f 1 0) (take (e - at) (drop at kids')) (V.base + 64) V.base (places_of x)
    pub bits : (p : ℕ) → p < 64 → bit p x ≡ (bit p want && matches w.1 T (V.base + p))
    pub long : length (take (e - at) (drop at kids')) ≡ length (take (e - at) (drop at kids))
    pub back : (ys : List ℕ) → put kids' at e ys ≡ put kids at e ys

  abbrev pub OptionalTaken : List ℕ → List ℕ → ℕ → ℕ → ℕ → List Float → Type 0
  OptionalTaken kids kids' at e x sums = (w : Asks) → Taken w kids kids' at e x sums

module _ {kids₀ : List ℕ} {need : ℕ} {V : Reads} {starts other_starts want : ℕ} {sums₀ : List Float} {depth : ℕ} where
  pub optional-start : OptionalAt kids₀ need V starts other_starts want sums₀ depth kids₀ 0 sums₀
  optional-start w = (w.3, walk-start (frame kids₀ need V starts other_starts want sums₀ depth w) kids₀ w.4 (le_refl _) w.6.held w.7 w.6.scorables.sound w.6.scorables.tables (λ p l i. optional-matched w.1 w.3 (V.base + p)))

  module _ {kids : List ℕ} {at : ℕ} {sums : List Float} (I : OptionalAt kids₀ need V starts other_starts want sums₀ depth kids at sums) where
    pub optional-end : length kids ≤ at → OptionalScoresPost kids₀ need V starts other_starts want sums₀ depth kids sums
    optional-end l n ix places ss q L A S =
        let w : Asks kids₀ need V starts other_starts want sums₀ depth = (n, ix, places, ss, q, L, A, S) in
        let E = walk-end (I w).0 (I w).1 l in
        (record { wanted = λ p m i. E.added.wanted p m i ∙ ap (λ (xs : List Float). sum_from (get_or sums₀ p nan) xs) (optional-counted ix ss (V.base + p)); others = E.added.others }, E.small, E.parts)

    module _ (l : at < length kids) where
      -- the child at the place
      abbrev child : (w : Asks kids₀ need V starts other_starts want sums₀ depth) → (f : Bool) × (T : Scorer) × (g : Scorers) × Walk (frame kids₀ need V starts other_starts want sums₀ depth w) (more f T g) kids at sums
      child w = walk-open (I w).0 (I w).1 l

      pub optional-there : Asks kids₀ need V starts other_starts want sums₀ depth → ChildThere kids at
      optional-there w = walk-there (child w).3

      module _ (e : ℕ) (stop : e ≡ at + get_or kids (at + 1) 0) where
        -- where none is needed, it was not asked
        module _ (none : need ≡ 0) (starts' other_starts' : ℕ) (same-starts : starts' ≡ starts) (same-other : other_starts' ≡ other_starts) where
          node : (w : Asks kids₀ need V starts other_starts want sums₀ depth) → NodeWindowed (lists w.0 V.postings V.positions V.ranges) w.1 w.2 (child w).1 depth (cond (child w).0 1 0) (take (e - at) (drop at kids)) V.base
          node w =
              let c = child w in
              let s = walk-scorable c.3 w.6.scorables.few in
              record {
                lends = w.5.lends;
                sound = s.sound;
                few = s.few;
                held = subst (λ (i : ℕ). Windowed w.1 V.ranges c.1 depth (cond c.0 1 0) (take (e - at) (drop at kids)) (optional_bound i (V.base + 64) V.base) V.base (λ p. ltb 0 i && bit p want)) none (walk-part c.3 e stop);
              }

          pub optional-ask : Asks kids₀ need V starts other_starts want sums₀ depth → BitsPre (lists 0 V.postings V.positions V.ranges) starts' other_starts' (take (e - at) (drop at kids)) V.base want depth
          optional-ask w =
              let c = child w in
              let L = lent-at starts' other_starts' want same-starts same-other (λ p m i. i) w.5 in
              (L.small, (w.0, w.1, w.2, c.1, cond c.0 1 0, L.wanted, L.room, node w))

          optional-asked : (r : ℕ) (ys : List ℕ) → length ys ≡ length (take (e - at) (drop at kids)) → BitsPost (lists 0 V.postings V.positions V.ranges) starts' other_starts' (take (e - at) (drop at kids)) V.base want depth r ys → OptionalTaken kids₀ need V starts other_starts want sums₀ depth kids (put kids at e ys) at e r sums
          optional-asked r ys len post w =
              let c = child w in
              let t = walk-there c.3 in
              let fits : e ≤ length kids = omega (arith, stop, t.fits) in
              let q = post w.0 w.5.wanted w.1 w.2 c.1 (cond c.0 1 0) (node w) in
              let same = part-put kids ys at e (omega (arith, l)) len fits in
              record {
                f = c.0;
                T = c.1;
                g = c.2;
                walk = c.3;
                stop = stop;
                held = subst (λ (v : List ℕ). Windowed w.1 V.ranges c.1 depth (cond c.0 1 0) v (V.base + 64) V.base (places_of r)) (sym same) (windowed-less w.1 V.ranges c.1 depth (cond c.0 1 0) ys (V.base + 64) V.base (places_of want) (places_of r) (λ p m i. (and_parts (bit p want) (matches w.1 c.1 (V.base + p)) (sym (q.0.bits p m) ∙ i)).0) q.1);
                bits = q.0.bits;
                long = ap length same ∙ len;
                back = λ zs. put-again kids ys zs at e (omega (arith, l)) len fits;
              }

        -- else its stored bits serve
        optional-stored : (need ≡ 0 → ⊥) → (x : ℕ) (ys : List ℕ) → StoredAre (take (e - at) (drop at kids)) want x ys → OptionalTaken kids₀ need V starts other_starts want sums₀ depth kids (put kids at e ys) at e x sums
        optional-stored some x ys stored =
            subst (λ (k : List ℕ). OptionalTaken kids₀ need V starts other_starts want sums₀ depth kids k at e x sums) (sym (ap (put kids at e) stored.kept ∙ part_same kids at e)) (
            λ w.
            let c = child w in
            let on : ltb 0 need ≡ true = positive need some in
            let held : Windowed w.1 V.ranges c.1 depth (cond c.0 1 0) (take (e - at) (drop at kids)) (V.base + 64) V.base (places_of want) = subst (λ (t : Bool). Windowed w.1 V.ranges c.1 depth (cond c.0 1 0) (take (e - at) (drop at kids)) (cond t (V.base + 64) V.base) V.base (λ p. t && bit p want)) on (walk-part c.3 e stop) in
            let u : ℕ = two_words (get_or (take (e - at) (drop at kids)) 20 0) (get_or (take (e - at) (drop at kids)) 21 0) in
            record {
              f = c.0;
              T = c.1;
              g = c.2;
              walk = c.3;
              stop = stop;
              held = windowed-less w.1 V.ranges c.1 depth (cond c.0 1 0) (take (e - at) (drop at kids)) (V.base + 64) V.base (places_of want) (places_of x) (λ p m i. (and_parts (bit p want) (bit p u) (sym (stored.bits p) ∙ i)).0) held;
              bits = λ p m. stored.bits p ∙ and-where (bit p want) (bit p u) (matches w.1 c.1 (V.base + p)) (windowed-bits w.1 V.ranges c.1 depth (cond c.0 1 0) (take (e - at) (drop at kids)) (V.base + 64) V.base (places_of want) held p m);
              long = refl;
              back = λ zs. refl;
            }
            )

        pub optional-long : Asks kids₀ need V starts other_starts want sums₀ depth → node_state_words ≤ length (take (e - at) (drop at kids))
        optional-long w = let c = child w in windowed-long w.1 V.ranges c.1 depth (cond c.0 1 0) (take (e - at) (drop at kids)) (optional_bound need (V.base + 64) V.base) V.base (λ p. ltb 0 need && bit p want) (walk-part c.3 e stop)

        -- either way
        pub optional-answer : {starts' other_starts' : ℕ} → starts' ≡ starts → other_starts' ≡ other_starts → (r : ℕ) (ys : List ℕ) → length ys ≡ length (take (e - at) (drop at kids)) → (need ≡ 0 → BitsPost (lists 0 V.postings V.positions V.ranges) starts' other_starts' (take (e - at) (drop at kids)) V.base want depth r ys) → ((need ≡ 0 → ⊥) → StoredAre (take (e - at) (drop at kids)) want r ys) → OptionalTaken kids₀ need V starts other_starts want sums₀ depth kids (put kids at e ys) at e r sums
        optional-answer {starts'} {other_starts'} same-starts same-other r ys len unneeded needed =
            ⊎_elim (λ (z : need ≡ 0). optional-asked z starts' other_starts' same-starts same-other r ys len (unneeded z)) (λ (z : need ≡ 0 → ⊥). optional-stored z r ys (needed z)) (cases_eq need 0)

  -- ---- its score
  module _ {kids kids' : List ℕ} {at e x : ℕ} {sums : List Float} (I : OptionalTaken kids₀ need V starts other_starts want sums₀ depth kids kids' at e x sums) where
    pub record Scored (w : Asks kids₀ need V starts other_starts want sums₀ depth) (ys : List ℕ) (sums' : List Float) : Type 0 where
      pub added : Added (λ p. scorer_score w.1 (I w).T (V.base + p)) x sums sums'
      pub small : Sums ((I w).walk.q + nodes (I w).T) sums'
      pub parts : Windowed w.1 V.ranges (I w).T depth (cond (I w).f 1 0) ys (V.base + 64) (V.base + 64) nowhere

    took : (ys : List ℕ) (sums' : List Float) → length ys ≡ length (take (e - at) (drop at kids')) → ((w : Asks kids₀ need V starts other_starts want sums₀ depth) → Scored w ys sums') → OptionalAt kids₀ need V starts other_starts want sums₀ depth (put kids' at e ys) e sums'
    took ys sums' len r w =
        let m = I w in
        let M : ℕ → Bool = λ p. matches w.1 m.T (V.base + p) in (
          m.g,
          subst (λ (k : List ℕ). Walk (frame kids₀ need V starts other_starts want sums₀ depth w) m.g k e sums') (sym (m.back ys))
              (walk-took m.walk e m.stop x sums' (λ p l i. and-on (bit p want) (M p) (bit p x) (m.bits p l) i) (λ p l i. and-off (bit p want) (M p) (bit p x) (m.bits p l) i) (r w).added (r w).small ys (len ∙ m.long) (r w).parts),
        )

    kept : (ys : List ℕ) (sums' : List Float) → ys ≡ (take (e - at) (drop at kids')) → OptionalAt kids₀ need V starts other_starts want sums₀ depth (put kids' at e ys) e sums' → OptionalAt kids₀ need V starts other_starts want sums₀ depth kids' e sums'
    kept ys sums' h = subst (λ (r : List ℕ). OptionalAt kids₀ need V starts other_starts want sums₀ depth r e sums') (ap (put kids' at e) h ∙ part_same kids' at e)

    pub optional-left : x ≡ 0 → OptionalAt kids₀ need V starts other_starts want sums₀ depth kids' e sums
    optional-left none =
        kept (take (e - at) (drop at kids')) sums refl (
        took (take (e - at) (drop at kids')) sums refl (
        λ w.
        let m = I w in
        record {
          added = added-none (λ p. scorer_score w.1 m.T (V.base + p)) x sums none;
          small = sums-more m.walk.q (m.walk.q + nodes m.T) sums (omega arith) m.walk.small;
          parts = windowed-forget w.1 V.ranges m.T depth (cond m.f 1 0) (take (e - at) (drop at kids')) (V.base + 64) V.base (places_of x) (V.base + 64) (le_refl _) (omega arith) m.held;
        }
        )
        )

    module _ (starts' other_starts' : ℕ) (same-starts : starts' ≡ starts) (same-other : other_starts' ≡ other_starts) where
      asked : (w : Asks kids₀ need V starts other_starts want sums₀ depth) → NodeAsked w.1 V w.2 (I w).T depth (cond (I w).f 1 0) (take (e - at) (drop at kids')) x (I w).walk.q
      asked w =
          let m = I w in
          record { scorable = walk-scorable m.walk w.6.scorables.few; few = walk-few m.walk w.6.scorables.few; match = λ p l i. (and_parts (bit p want) (matches w.1 m.T (V.base + p)) (sym (m.bits p l) ∙ i)).1; held = m.held }

      there : (w : Asks kids₀ need V starts other_starts want sums₀ depth) → WindowLent w.1 w.0 V w.2 starts' other_starts' x
      there w = lent-at starts' other_starts' x same-starts same-other (λ p l i. (and_parts (bit p want) (matches w.1 (I w).T (V.base + p)) (sym ((I w).bits p l) ∙ i)).0) w.5

      pub optional-child : Asks kids₀ need V starts other_starts want sums₀ depth → ScoresPre (take (e - at) (drop at kids')) V starts' other_starts' x sums depth
      optional-child w = let m = I w in (w.0, w.1, w.2, m.T, cond m.f 1 0, m.walk.q, there w, asked w, m.walk.small)

      pub optional-term : get_or kids at 0 ≡ 1 → Asks kids₀ need V starts other_starts want sums₀ depth → TermScoresPre (take (e - at) (drop at kids')) V x sums
      optional-term k w =
          let m = I w in
          (windowed-kind w.1 V.ranges m.T depth (cond m.f 1 0) (take (e - at) (drop at kids')) (V.base + 64) V.base (places_of x) m.held ∙ sym (walk-kind m.walk) ∙ k, (V.positions, V.ranges, starts', other_starts', depth, optional-child w))

      pub optional-took : (ys : List ℕ) (sums' : List Float) → length ys ≡ length (take (e - at) (drop at kids')) → ScoresPost (take (e - at) (drop at kids')) V starts' other_starts' x sums depth ys sums' → OptionalAt kids₀ need V starts other_starts want sums₀ depth (put kids' at e ys) e sums'
      optional-took ys sums' len post =
          took ys sums' len (λ w. let m = I w in let r = post w.0 w.1 w.2 m.T (cond m.f 1 0) m.walk.q (there w) (asked w) m.walk.small in record { added = r.0; small = r.1; parts = r.2 })

      -- a term's part stays as it is
      pub optional-term-took : (sums' : List Float) → TermScoresPost (take (e - at) (drop at kids')) V x sums sums' → OptionalAt kids₀ need V starts other_starts want sums₀ depth kids' e sums'
      optional-term-took sums' post = kept (take (e - at) (drop at kids')) sums' refl (optional-took (take (e - at) (drop at kids')) sums' refl (post V.positions V.ranges starts' other_starts' depth))
