-- A term at the wanted places of a window: its posting there, and its score. Assumes nothing.
use mathlib.Core.Path.{◌≡◌, refl, sym, ap, subst, ◌∙◌}
use mathlib.Core.Bool.{Bool, true, false, not, cond, ◌||◌, or-true, or-false}
use mathlib.Core.List.{List, [], ◌++◌}
use mathlib.Core.Option.{Option, some}
use Prim.Native.Nat.{ℕ, zero, suc, ◌+◌, ◌*◌, ◌/◌, ◌^◌, ◌≤◌, ◌<◌}
use native.Mathlib.Omega.{arith}
use lib.Dec.{T}
use lib.ListN.{length, get_or}
use lib.Ieee.{Float, binary32, nan_bits, of_bits}
use Rattle.meaning.specs.Below.{any_below, last_below}
use Rattle.meaning.specs.Limits.{node_state_words, largest_frequency}
use Rattle.meaning.specs.Lent.{Index, leaf_count, leaf_field, leaf_first, leaf_number, leaf_document, leaf_frequency}
use Rattle.meaning.specs.Postings.{posting_at, found, frequency_of}
use Rattle.meaning.specs.Score.{field_score}
use Rattle.ieee754.specs.Nonneg.{AtMost}
use Rattle.ieee754.proofs.Bounds.{atmost-number}
use Rattle.index.specs.Accepted.{Accepted}
use Rattle.index.specs.Runs.{posting_frequency}
use Rattle.index.proofs.PostingAt.{posting-at}
use Rattle.run.specs.Run.{Run}
use Rattle.tree_weight.specs.ScorerTree.{nothing, term, phrase, range, everything, Scoring, constant, weighted, Scorer, leaf, boolean, matches, leaf_matches, leaf_score, scorer_score}
use Rattle.tree_weight.specs.State.{State, words_of}
use Rattle.tree_weight.specs.Held.{TermIs, FloatIs, ScoringIs}
use Rattle.tree_weight.specs.Sound.{LeafSound, Sound, LeafTable, Tables, nodes}
use Rattle.score_leaf.specs.declared.ScoreNode.{ScoreNode}
use Rattle.score_leaf.specs.Words.{ScoreNodeIs, first_byte, constant_score, Bytes, Weighs, weighted_score}
use Rattle.score_leaf.proofs.Constants.{constant-some}
use Rattle.std.specs.Prelude.{Some}
use Rattle.score_leaf.specs.Asked.{LentAt}
use Rattle.score_leaf.proofs.Leaves.{Read, read, field-weighs, field-answer}
use Rattle.score_leaf.proofs.Weights.{float_back, float-number}
use Rattle.bits.specs.Bit.{bit}
use Rattle.window.specs.Windows.{Cursor}
use Rattle.window.proofs.Rank.{posting-of-bit}
use Rattle.window_words.specs.Windowed.{nowhere, places_of, two_words, window_bits, TermWindow, TermAsked, LeafWindowed, Windowed}
use Rattle.window_words.proofs.Laws.{windowed-forget, windowed-kind, windowed-long, kind_of}
use Rattle.window_score.specs.Places.{rank_of, term_score_at, TermPlace}
use Rattle.window_score.specs.Sums.{Sums, Added, ConstantPre, ConstantPost}
use Rattle.window_score.specs.Asked.{Reads, with_lists, WindowLent, NodeAsked, TermScoresPre, TermScoresPost}
use Rattle.window_score.proofs.Adding.{added-same, added-small}

-- ---- the posting of a wanted place
any-found : (n : ℕ) (p : ℕ → Bool) → found (last_below n p) ≡ any_below n p
unfolding any_below last_below
any-found zero p = refl
any-found (suc n) p = step (p n) (last_below n p) ∙ ap (λ (b : Bool). b || p n) (any-found n p)
  where
    step : (b : Bool) (o : Option ℕ) → found (cond b (some n) o) ≡ (found o || b)
    step true o = sym (or-true (found o))
    step false o = sym (or-false (found o))

module _ (ix : Index) (A : Accepted ix) (l : ℕ) (there : l < leaf_count ix) (few : leaf_number ix l < 9223372036854775808) (s : State) (base : ℕ) (W : TermWindow ix l s base) where
  run : Run ix.postings 3 (leaf_first ix l) (leaf_number ix l)
  run = record { step = omega arith; few = few; within = λ i h. omega (arith, (A.leaf l there).words); ascending = A.ascending l there }

  start : Cursor ix.postings 3 (leaf_first ix l) (leaf_number ix l) base s.window_first
  start = record { within = omega (arith, W.first-within, W.within); passed = W.before; ahead = W.from }

  behind : Cursor ix.postings 3 (leaf_first ix l) (leaf_number ix l) (base + 64) s.cursor
  behind = record { within = W.within; passed = W.inside; ahead = W.ahead }

  pub posting-there : (p : ℕ) → p < 64 → found (posting_at ix l (base + p)) ≡ true → (s.window_first + rank_of (window_bits s) p < leaf_number ix l) × (leaf_document ix l (s.window_first + rank_of (window_bits s) p) ≡ base + p)
  posting-there p h e =
      let g = posting-of-bit ix.postings 3 (leaf_first ix l) (leaf_number ix l) base s.window_first (window_bits s) run start (λ q i. W.bits q i ∙ any-found (leaf_number ix l) _) s.cursor behind p h (W.bits p h ∙ e) in
      (omega (arith, g.0, W.within), g.1)

-- ---- the node
-- a term at the places of a window
pub record TermIn (ix : Index) (table : List Float) (states : List ℕ) (base want : ℕ) (S : Scorer) : Type 0 where
  pub l : ℕ
  pub sc : Scoring
  pub s : State
  pub is : S ≡ leaf (term l) sc
  pub words : states ≡ words_of s ++ []
  pub there : l < leaf_count ix
  pub tables : LeafTable ix table (term l) sc
  pub term-is : TermIs ix 1 l s (base + 64)
  pub asked : TermAsked ix l s base (places_of want)
  pub scoring : ScoringIs sc s
  pub match : (p : ℕ) → p < 64 → bit p want ≡ true → found (posting_at ix l (base + p)) ≡ true

term-one : {ix : Index} {table : List Float} {states : List ℕ} {base want : ℕ} {S : Scorer} → TermIn ix table states base want S → nodes S ≡ 1
unfolding nodes
term-one t = ap nodes t.is

module _ (ix : Index) (V : Reads) (places depth scores : ℕ) (states : List ℕ) (want q : ℕ) where
  abbrev Asked : Scorer → Type 0
  Asked S = NodeAsked ix V places S depth scores states want q

  kind-of : (S : Scorer) → Asked S → get_or states 0 0 ≡ kind_of S
  kind-of S H = windowed-kind ix V.ranges S depth scores states (V.base + 64) V.base (places_of want) H.held

  pub term-in : (S : Scorer) → Asked S → get_or states 0 0 ≡ 1 → TermIn ix V.inverses states V.base want S
  unfolding kind_of Windowed LeafWindowed Sound LeafSound Tables matches leaf_matches
  term-in (leaf nothing sc) H k = absurd (omega (arith, kind-of (leaf nothing sc) H, k))
  term-in (leaf (term l) sc) H k =
      let h = H.held in
      record {
        l = l;
        sc = sc;
        s = h.0;
        is = refl;
        words = subst (λ (w : List ℕ). states ≡ words_of h.0 ++ w) h.4.2 h.2;
        there = H.scorable.sound;
        tables = H.scorable.tables;
        term-is = h.4.0;
        asked = h.4.3;
        scoring = h.5;
        match = H.match;
      }
  term-in (leaf (phrase f ts) sc) H k = absurd (omega (arith, kind-of (leaf (phrase f ts) sc) H, k))
  term-in (leaf (range r) sc) H k = absurd (omega (arith, kind-of (leaf (range r) sc) H, k))
  term-in (leaf everything sc) H k = absurd (omega (arith, kind-of (leaf everything sc) H, k))
  term-in (boolean c j need rs os ps) H k = absurd (omega (arith, kind-of (boolean c j need rs os ps) H, k))

-- a constant score
constant-score : (ix : Index) (l : ℕ) (sc : Scoring) (s : State) (n : ScoreNode) (R : Read n s) → ScoringIs sc s → n.constant ≡ 1 → T (not (nan_bits binary32 n.weight)) × AtMost (2 ^ 29) (of_bits binary32 n.weight) × ((d : ℕ) → of_bits binary32 n.weight ≡ leaf_score ix (term l) sc d)
unfolding ScoringIs leaf_score
constant-score ix l (constant c) s n R p e =
    let f : FloatIs c n.weight = subst (λ (i : ℕ). FloatIs c i) (sym R.weight_is) p.1 in
    (float-number c n.weight f, subst (λ (z : Float). AtMost (2 ^ 29) z) (sym (float_back c n.weight f)) f.small, λ d. float_back c n.weight f)
constant-score ix l (weighted w) s n R p e = absurd (omega (arith, R.constant-is, p.0))

-- its constant score
term-constant : {ix : Index} {table : List Float} {states : List ℕ} {base want : ℕ} {S : Scorer} → TermIn ix table states base want S → (n : ScoreNode) → ScoreNodeIs states n → n.constant ≡ 1 → T (not (nan_bits binary32 n.weight)) × AtMost (2 ^ 29) (of_bits binary32 n.weight) × ((d : ℕ) → of_bits binary32 n.weight ≡ scorer_score ix S d)
unfolding scorer_score
term-constant {ix} {states = states} t n N e =
    let r = constant-score ix t.l t.sc t.s n (read states [] t.s n t.words N) t.scoring e in
    (r.0, r.1, λ d. r.2 d ∙ ap (λ (x : Scorer). scorer_score ix x d) (sym t.is))

module _ (ix : Index) (max : ℕ) (V : Reads) (places starts other_starts want : ℕ) (L : WindowLent ix max V places starts other_starts want) (states : List ℕ) (n : ScoreNode) (N : ScoreNodeIs states n) where
  lent-at : (p : ℕ) → p < 64 → bit p want ≡ true → LentAt ix max V.postings V.positions V.norms (V.base + p)
  lent-at p l e = record { lends = L.lends; norms-are = L.norms-are; document = L.wanted p l e }

  -- a leaf that scores by BM25 at a frequency
  pub field-place : (p : ℕ) → p < 64 → bit p want ≡ true → (f : ℕ) → f < Rattle.meaning.specs.Lent.field_count ix → Rattle.tree_weight.specs.Sound.FieldTable ix V.inverses f → (w : Float) → FloatIs w n.weight → n.field ≡ f → n.norms ≡ first_byte (Rattle.tree_weight.specs.Held.norms_word ix f) → (frequency : ℕ) → frequency ≤ largest_frequency → Weighs n V.norms V.inverses (V.base + p) frequency × (Bytes V.norms → (weighted_score n V.norms V.inverses (V.base + p) frequency ≡ field_score ix f w frequency (V.base + p)) × AtMost (2 ^ 29) (weighted_score n V.norms V.inverses (V.base + p) frequency))
  field-place p l e f o F w x g h frequency few =
      let K = lent-at p l e in
      (field-weighs ix max V.postings V.positions V.norms (V.base + p) K V.inverses n f o F w x g h frequency few, λ bytes. field-answer ix max V.postings V.positions V.norms (V.base + p) K V.inverses n f o F w x g h frequency few bytes (weighted_score n V.norms V.inverses (V.base + p) frequency) refl)

  module _ (words : (i : ℕ) → get_or states i 0 < 4294967296) (S : Scorer) (t : TermIn ix V.inverses states V.base want S) where
    R : Read n t.s
    R = read states [] t.s n t.words N

    module _ (first bits : ℕ) (first-is : first ≡ n.first + get_or states 19 0) (bits-are : bits ≡ two_words (get_or states 20 0) (get_or states 21 0)) where
      first-at : first ≡ leaf_first ix t.l + t.s.window_first
      first-at = omega (arith, first-is, R.first-is, t.term-is.first-is, ap (λ (y : List ℕ). get_or y 19 0) t.words)

      bits-at : bits ≡ window_bits t.s
      bits-at = bits-are ∙ ap (λ (y : List ℕ). two_words (get_or y 20 0) (get_or y 21 0)) t.words

      number-few : leaf_number ix t.l < 9223372036854775808
      number-few = omega (arith, t.term-is.number_is, ap (λ (y : List ℕ). get_or y 7 0) t.words, words 7)

      module _ (p : ℕ) (l : p < 64) (e : bit p want ≡ true) where
        abbrev at : ℕ
        at = t.s.window_first + rank_of (window_bits t.s) p

        here : (at < leaf_number ix t.l) × (leaf_document ix t.l at ≡ V.base + p)
        here = posting-there ix L.lends.accepted t.l t.there number-few t.s V.base (t.asked p l e) p l (t.match p l e)

        rank-at : rank_of bits p ≡ rank_of (window_bits t.s) p
        rank-at = ap (λ (w : ℕ). rank_of w p) bits-at

        abbrev frequency : ℕ
        frequency = posting_frequency V.postings first (rank_of bits p)

        frequency-read : frequency ≡ leaf_frequency ix t.l at
        frequency-read =
            let i : first + rank_of bits p ≡ leaf_first ix t.l + at = omega (arith, first-at, rank-at) in
            ap (λ (y : List ℕ). get_or y (3 * (first + rank_of bits p) + 1) 0) (sym L.lends.postings-are) ∙ ap (λ (j : ℕ). get_or ix.postings (3 * j + 1) 0) i

        frequency-is : frequency ≡ frequency_of ix t.l (posting_at ix t.l (V.base + p))
        frequency-is = frequency-read ∙ sym (ap (frequency_of ix t.l) (posting-at ix t.l (V.base + p) (L.lends.accepted.ascending t.l t.there) at here.0 here.1))

        frequency-few : frequency ≤ largest_frequency
        frequency-few = omega (arith, frequency-read, (L.lends.accepted.posting t.l at t.there here.0).most)

        place-there : first + rank_of bits p < length V.postings / 3
        place-there = omega (arith, first-at, rank-at, here.0, (L.lends.accepted.leaf t.l t.there).run, ap length L.lends.postings-are)

        place-by : (sc : Scoring) → ScoringIs sc t.s → LeafTable ix V.inverses (term t.l) sc → (n.constant ≡ 1 → ⊥) → Weighs n V.norms V.inverses (V.base + p) frequency × (Bytes V.norms → (term_score_at n V.norms V.inverses V.postings first bits V.base p ≡ leaf_score ix (term t.l) sc (V.base + p)) × AtMost (2 ^ 29) (term_score_at n V.norms V.inverses V.postings first bits V.base p))
        unfolding ScoringIs LeafTable leaf_score
        place-by (constant c) k F m = absurd (m (R.constant-is ∙ k.0))
        place-by (weighted w) k F m =
            let x : FloatIs w n.weight = subst (λ (i : ℕ). FloatIs w i) (sym R.weight_is) k.1 in
            let r = field-place p l e (leaf_field ix t.l) (L.lends.accepted.leaf t.l t.there).field F w x (R.field_is ∙ t.term-is.field_is) (R.norms-is ∙ ap first_byte t.term-is.norms-is) frequency frequency-few in
            (r.0, λ bytes. ((r.1 bytes).0 ∙ ap (λ (i : ℕ). field_score ix (leaf_field ix t.l) w i (V.base + p)) frequency-is, (r.1 bytes).1))

        pub term-place : (n.constant ≡ 1 → ⊥) → TermPlace n V.norms V.inverses V.postings first bits V.base p
        term-place m =
            let r = place-by t.sc t.scoring t.tables m in
            record { within = l; few = omega (arith, l, L.small); there = place-there; weighs = r.0; number = λ bytes. atmost-number (r.1 bytes).1 }

        pub term-scores : (n.constant ≡ 1 → ⊥) → Bytes V.norms → (term_score_at n V.norms V.inverses V.postings first bits V.base p ≡ scorer_score ix S (V.base + p)) × AtMost (2 ^ 29) (term_score_at n V.norms V.inverses V.postings first bits V.base p)
        unfolding scorer_score
        term-scores m bytes =
            let r = (place-by t.sc t.scoring t.tables m).1 bytes in
            (r.0 ∙ ap (λ (x : Scorer). scorer_score ix x (V.base + p)) (sym t.is), r.1)

-- ---- the end of a loop
abbrev pub Scores : Index → List ℕ → Scorer → ℕ → ℕ → List ℕ → ℕ → ℕ → ℕ → List Float → List Float → Type 0
Scores ix ranges S depth scores states base want q sums sums' =
    Added (λ p. scorer_score ix S (base + p)) want sums sums' × Sums (q + nodes S) sums' × Windowed ix ranges S depth scores states (base + 64) (base + 64) nowhere

-- a leaf's scores were added, and its words stay
pub leaf-added : (ix : Index) (V : Reads) (places : ℕ) (S : Scorer) (depth scores : ℕ) (states : List ℕ) (want q : ℕ) (sums sums' : List Float) → nodes S ≡ 1 → NodeAsked ix V places S depth scores states want q → Sums q sums → length sums' ≡ 64 → (score : ℕ → Float) → Added score want sums sums' → ((p : ℕ) → p < 64 → bit p want ≡ true → (score p ≡ scorer_score ix S (V.base + p)) × AtMost (2 ^ 29) (score p)) → Scores ix V.ranges S depth scores states V.base want q sums sums'
leaf-added ix V places S depth scores states want q sums sums' one H K long score A h = (
  added-same score want sums sums' A (λ p. scorer_score ix S (V.base + p)) (λ p l e. (h p l e).0),
  subst (λ (r : ℕ). Sums (q + r) sums') (sym one) (added-small score want sums sums' A q 1 (omega (arith, one, H.few)) K long (λ p l e. small (score p) (h p l e).1)),
  windowed-forget ix V.ranges S depth scores states (V.base + 64) V.base (places_of want) (V.base + 64) (omega arith) (omega arith) H.held,
)
  where
    small : (x : Float) → AtMost (2 ^ 29) x → AtMost (1 * 2 ^ 29) x
    small x i = i

-- ---- what `term_scores` asks and gives
module _ (V : Reads) {states : List ℕ} {want : ℕ} {sums : List Float} where
  pub pre-long : TermScoresPre states V want sums → node_state_words ≤ length states
  pre-long P = windowed-long P.1.5.1 P.1.1 P.1.5.3 P.1.4 P.1.5.4 states (V.base + 64) V.base (places_of want) P.1.5.7.held

  pre-in : (P : TermScoresPre states V want sums) → TermIn P.1.5.1 V.inverses states V.base want P.1.5.3
  pre-in P = term-in P.1.5.1 (with_lists V P.1.0 P.1.1) P.1.5.2 P.1.4 P.1.5.4 states want P.1.5.5 P.1.5.3 P.1.5.7 P.0

  module _ (n : ScoreNode) (N : ScoreNodeIs states n) where
    pub pre-number : TermScoresPre states V want sums → n.constant ≡ 1 → T (not (nan_bits binary32 n.weight))
    pre-number P e = (term-constant (pre-in P) n N e).0

    module _ (x : Float) (some-is : Some x ≡ constant_score n) where
      pub pre-constant : TermScoresPre states V want sums → ConstantPre x sums
      pre-constant P =
          let k = constant-some n x some-is in
          (P.1.5.5, 1, (omega (arith, term-one (pre-in P), P.1.5.7.few), P.1.5.8), subst (λ (y : Float). AtMost (1 * 2 ^ 29) y) (sym k.1) (term-constant (pre-in P) n N k.0).1)

      pub post-constant : get_or states 0 0 ≡ 1 → (sums' : List Float) → ConstantPost x want sums sums' → TermScoresPost states V want sums sums'
      post-constant k sums' h positions ranges starts other_starts depth max ix places S scores q L H K =
          let c = constant-some n x some-is in
          let i = term-in ix (with_lists V positions ranges) places depth scores states want q S H k in
          let r = term-constant i n N c.0 in
          let small : AtMost (2 ^ 29) x = subst (λ (y : Float). AtMost (2 ^ 29) y) (sym c.1) r.1 in
          let z = h q 1 (omega (arith, term-one i, H.few), K) small in
          leaf-added ix (with_lists V positions ranges) places S depth scores states want q sums sums' (term-one i) H K z.1.long (λ p. x) z.0 (λ p l e. (c.1 ∙ r.2 (V.base + p), small))

    module _ (words : (i : ℕ) → get_or states i 0 < 4294967296) (m : n.constant ≡ 1 → ⊥) (first bits : ℕ) (first-is : first ≡ n.first + get_or states 19 0) (bits-are : bits ≡ two_words (get_or states 20 0) (get_or states 21 0)) where
      pub pre-place : (P : TermScoresPre states V want sums) (p : ℕ) → p < 64 → bit p want ≡ true → TermPlace n V.norms V.inverses V.postings first bits V.base p
      pre-place P p l e = term-place P.1.5.1 P.1.5.0 (with_lists V P.1.0 P.1.1) P.1.5.2 P.1.2 P.1.3 want P.1.5.6 states n N words P.1.5.3 (pre-in P) first bits first-is bits-are p l e m

      pub post-weighted : get_or states 0 0 ≡ 1 → (sums' : List Float) → length sums' ≡ 64 → ((p : ℕ) → p < 64 → bit p want ≡ true → Bytes V.norms) → Added (term_score_at n V.norms V.inverses V.postings first bits V.base) want sums sums' → TermScoresPost states V want sums sums'
      post-weighted k sums' long bytes A positions ranges starts other_starts depth max ix places S scores q L H K =
          let i = term-in ix (with_lists V positions ranges) places depth scores states want q S H k in
          leaf-added ix (with_lists V positions ranges) places S depth scores states want q sums sums' (term-one i) H K long (term_score_at n V.norms V.inverses V.postings first bits V.base) A
          (λ p l e. term-scores ix max (with_lists V positions ranges) places starts other_starts want L states n N words S i first bits first-is bits-are p l e m (bytes p l e))
