-- A node's scores: one that is constant, one that gives 0, and a Boolean, whose children's parts are those behind its record. Assumes nothing.
use Rattle.std.proofs.Common.{◌≡◌, refl, sym, ap, subst, ◌∙◌, Bool, true, false, not, cond, ◌&&◌, List, ◌++◌, ℕ, ◌+◌, ◌-◌, ◌*◌, ◌^◌, ◌≤◌, ◌<◌, eqb, leb, ltb, length, get_or, take, drop, append-nil, le_refl, arith}
use Rattle.std.proofs.Math.Dec.{T}
use Rattle.std.proofs.Math.Option.{none, some}
use Rattle.std.proofs.Math.Seq.{take-length, drop-length}
use Rattle.std.proofs.lemmas.Bool.{false≢true, true≢false, and_parts}
use Rattle.std.specs.Prelude.{Float, Option, Some, None, is_some}
use Rattle.std.specs.Float.{nan, binary32}
use Rattle.std.specs.Float.Ieee.{of_bits, nan_bits}
use Rattle.meaning.specs.Limits.{node_state_words}
use Rattle.meaning.specs.Lent.{Index}
use Rattle.meaning.specs.Ieee754.{zero_float, narrowed_sum}
use Rattle.ieee754.specs.Nonneg.{AtMost}
use Rattle.ieee754.proofs.Bounds.{zero-atmost}
use Rattle.bits.specs.Bit.{bit}
use Rattle.tree_weight.specs.ScorerTree.{nothing, term, phrase, range, everything, constant, weighted, Joining, Scorer, leaf, boolean, Scorers, matches, all_match, any_matches, matching, leaf_score, scorer_score, required_scores, optional_scores, joined_score}
use Rattle.tree_weight.specs.State.{words_of}
use Rattle.tree_weight.specs.Held.{FloatIs, ScoringIs, KeptIs}
use Rattle.tree_weight.specs.Sound.{Sound, Tables, nodes, nodes_of}
use Rattle.score_leaf.proofs.Bounds.{scores-more, zero-32}
use Rattle.score_leaf.proofs.Weights.{float_back, float-number}
use Rattle.tree_node.specs.Words.{BooleanRead}
use Rattle.window_words.specs.Windowed.{Places, nowhere, places_of, required_places, optional_places, optional_bound, Windowed, AllWindowed}
use Rattle.window_words.proofs.Laws.{kind_of, windowed-ok, windowed-long, windowed-kind, windowed-forget, all-less, all-forget}
use Rattle.tree_node.specs.declared.Boolean.{Boolean}
use Rattle.window_score.specs.Sums.{ConstantPre, ConstantPost}
use Rattle.window_score.specs.Asked.{Reads, NodeAsked, ScoresPre, ScoresPost, BooleanAsked, BooleanLeft, BooleanScoresPre, BooleanScoresPost, RootPre, RootPost, RootPartsPre, RootPartsPost}
use Rattle.window_score.proofs.Loops.{put, sums-more}
use Rattle.window_score.proofs.Groups.{added-as}
use Rattle.window_score.proofs.Splits.{zero-sums}
use Rattle.window_score.proofs.Alone.{sum-narrowed}
use Rattle.score.proofs.Small.{ok-weighted}
use Rattle.score_leaf.specs.declared.ScoreNode.{ScoreNode}
use Rattle.score_leaf.specs.Words.{ScoreNodeIs, constant_score}
use Rattle.score_leaf.proofs.Constants.{constant-some, constant-none}
use Rattle.score.proofs.Nodes.{joins_at}

-- ---- the score words of a record
-- a score that is the same for each document
record Same (ix : Index) (S : Scorer) (bits : ℕ) : Type 0 where
  number : T (not (nan_bits binary32 bits))
  is : (d : ℕ) → of_bits binary32 bits ≡ scorer_score ix S d
  small : AtMost (nodes S * 2 ^ 29) (of_bits binary32 bits)

float-same : (ix : Index) (S : Scorer) (c : Float) (bits : ℕ) → FloatIs c bits → 1 ≤ nodes S → ((d : ℕ) → scorer_score ix S d ≡ c) → Same ix S bits
float-same ix S c bits f n e =
    record {
      number = float-number c bits f;
      is = λ d. float_back c bits f ∙ sym (e d);
      small = scores-more 1 (nodes S) (of_bits binary32 bits) n (subst (λ (z : Float). AtMost (1 * 2 ^ 29) z) (sym (float_back c bits f)) f.small);
    }

same-at : (ix : Index) (R : List ℕ) (S : Scorer) (k o : ℕ) (y : List ℕ) (b base : ℕ) (D : Places) → Windowed ix R S k o y b base D → get_or y 11 0 ≡ 1 → Same ix S (get_or y 12 0)
unfolding Windowed ScoringIs KeptIs scorer_score leaf_score nodes
same-at ix R (leaf l (constant c)) k o y b base D p e =
    let f : FloatIs c (get_or y 12 0) = subst (λ (w : List ℕ). FloatIs c (get_or w 12 0)) (sym p.2) p.5.1 in
    float-same ix (leaf l (constant c)) c (get_or y 12 0) f (omega arith) (λ d. refl)
same-at ix R (leaf l (weighted w)) k o y b base D p e = absurd (omega (arith, e, ap (λ (l : List ℕ). get_or l 11 0) p.2, p.5.0))
same-at ix R (boolean none j need rs os ps) k o y b base D p e = absurd (omega (arith, e, ap (λ (l : List ℕ). get_or l 11 0) p.4, p.7.kept))
same-at ix R (boolean (some c) j need rs os ps) k o y b base D p e =
    let f : FloatIs c (get_or y 12 0) = subst (λ (w : List ℕ). FloatIs c (get_or w 12 0)) (sym p.4) p.7.kept.1 in
    float-same ix (boolean (some c) j need rs os ps) c (get_or y 12 0) f (omega arith) (λ d. refl)

-- a leaf that is neither a term nor a phrase gives 0
zero-at : (ix : Index) (R : List ℕ) (S : Scorer) (k o : ℕ) (y : List ℕ) (b base : ℕ) (D : Places) → Windowed ix R S k o y b base D → (get_or y 11 0 ≡ 1 → ⊥) → (kind_of S ≡ 1 → ⊥) → (kind_of S ≡ 2 → ⊥) → (kind_of S ≡ 3 → ⊥) → ((d : ℕ) → zero_float ≡ scorer_score ix S d) × (1 ≤ nodes S)
unfolding Windowed ScoringIs scorer_score leaf_score nodes kind_of
zero-at ix R (leaf l (constant c)) k o y b base D p h t f g = absurd (h (ap (λ (w : List ℕ). get_or w 11 0) p.2 ∙ p.5.0))
zero-at ix R (leaf nothing (weighted w)) k o y b base D p h t f g = ((λ d. refl), omega arith)
zero-at ix R (leaf (term l) (weighted w)) k o y b base D p h t f g = absurd (t refl)
zero-at ix R (leaf (phrase i ts) (weighted w)) k o y b base D p h t f g = absurd (f refl)
zero-at ix R (leaf (range r) (weighted w)) k o y b base D p h t f g = ((λ d. refl), omega arith)
zero-at ix R (leaf everything (weighted w)) k o y b base D p h t f g = ((λ d. refl), omega arith)
zero-at ix R (boolean c j need rs os ps) k o y b base D p h t f g = absurd (g refl)

-- the word that says whether the score is constant is 0 or 1
weighted-at : (ix : Index) (R : List ℕ) (S : Scorer) (k o : ℕ) (y : List ℕ) (b base : ℕ) (D : Places) → Windowed ix R S k o y b base D → (get_or y 11 0 ≡ 1 → ⊥) → get_or y 11 0 ≡ 0
unfolding Windowed ScoringIs KeptIs
weighted-at ix R (leaf l (constant c)) k o y b base D p h = absurd (h (ap (λ (w : List ℕ). get_or w 11 0) p.2 ∙ p.5.0))
weighted-at ix R (leaf l (weighted w)) k o y b base D p h = ap (λ (w : List ℕ). get_or w 11 0) p.2 ∙ p.5.0
weighted-at ix R (boolean none j need rs os ps) k o y b base D p h = ap (λ (w : List ℕ). get_or w 11 0) p.4 ∙ p.7.kept
weighted-at ix R (boolean (some c) j need rs os ps) k o y b base D p h = absurd (h (ap (λ (w : List ℕ). get_or w 11 0) p.4 ∙ p.7.kept.0))

-- no constant score is read
pub not-constant : {states : List ℕ} {m : ScoreNode} → ScoreNodeIs states m → None ≡ constant_score m → get_or states 11 0 ≡ 1 → ⊥
not-constant {m = m} M e h = constant-none m e (M.constant-is ∙ h)

pub no-constant : {states : List ℕ} {m : ScoreNode} → ScoreNodeIs states m → (o : Option Float) → o ≡ constant_score m → (b : Bool) → b ≡ is_some o → b ≡ false → get_or states 11 0 ≡ 1 → ⊥
no-constant M None f b e t = not-constant M f
no-constant M (Some x) f b e t = absurd (true≢false (sym e ∙ t))

-- ---- a Boolean
both-true : (a b : Bool) → a ≡ true → b ≡ true → a && b ≡ true
both-true a b e h = rw (e, h)

bound-same : (t : Bool) (b : ℕ) → b ≡ cond t b b
bound-same true b = refl
bound-same false b = refl

module _ (ix : Index) (V : Reads) (places k o : ℕ) (states : List ℕ) (want q : ℕ) (n : Boolean) (N : BooleanRead states n) where
  abbrev kids : List ℕ
  kids = take (length states - node_state_words) (drop node_state_words states)

  record BooleanAt (S : Scorer) : Type 0 where
    j : Joining
    rs : Scorers
    os : Scorers
    rest : List ℕ
    deep : 0 < k
    asked : BooleanAsked ix V places j rs os n (k - 1) rest kids want q
    score : (d : ℕ) → joined_score j (required_scores ix rs d) (narrowed_sum (optional_scores ix os d)) ≡ scorer_score ix S d
    fewer : nodes_of rs + nodes_of os ≤ nodes S
    done : (kids' : List ℕ) → BooleanLeft ix V rs os (k - 1) rest kids' → Windowed ix V.ranges S k o (put states node_state_words (length states) kids') (V.base + 64) (V.base + 64) nowhere

  boolean-at : (S : Scorer) → NodeAsked ix V places S k o states want q → kind_of S ≡ 3 → (get_or states 11 0 ≡ 1 → ⊥) → BooleanAt S
  unfolding Windowed KeptIs scorer_score nodes matches Sound Tables kind_of
  boolean-at (leaf nothing c) A e h = absurd (omega (arith, e))
  boolean-at (leaf (term l) c) A e h = absurd (omega (arith, e))
  boolean-at (leaf (phrase f ts) c) A e h = absurd (omega (arith, e))
  boolean-at (leaf (range r) c) A e h = absurd (omega (arith, e))
  boolean-at (leaf everything c) A e h = absurd (omega (arith, e))
  boolean-at (boolean (some c) j need rs os ps) A e h = let p = A.held in absurd (h (ap (λ (w : List ℕ). get_or w 11 0) p.4 ∙ p.7.kept.0))
  boolean-at (boolean none j need rs os ps) A e h =
      let S : Scorer = boolean none j need rs os ps in
      let p = A.held in
      let w : List ℕ = p.1 ++ (p.2 ++ p.3) in
      let len : length states - node_state_words ≡ length w = omega (arith, ap length p.4) in
      let same : kids ≡ w = rw (len, p.4, take-length) in
      let need-is : need ≡ n.need = sym (N.need-is ∙ ap (λ (l : List ℕ). get_or l 3 0) p.4 ∙ p.7.need-is) in
      let os-at : AllWindowed ix V.ranges os (k - 1) p.2 (optional_bound need (V.base + 64) V.base) V.base (λ i. ltb 0 need && bit i want) = all-less ix V.ranges os (k - 1) p.2 (optional_bound need (V.base + 64) V.base) V.base (optional_places ix S need V.base (places_of want)) (λ i. ltb 0 need && bit i want)
      (λ i m t. let a = and_parts (ltb 0 need) (bit i want) t in both-true (ltb 0 need) (bit i want && matches ix S (V.base + i)) a.0 (both-true (bit i want) (matches ix S (V.base + i)) a.1 (A.match i m a.1))) p.11 in
      record {
        j = j;
        rs = rs;
        os = os;
        rest = p.3;
        deep = p.6;
        asked = record {
          required-scorables = record { sound = A.scorable.sound.0; tables = A.scorable.tables.0; few = omega (arith, A.few) };
          optional-scorables = record { sound = A.scorable.sound.1; tables = A.scorable.tables.1; few = omega (arith, A.few) };
          few = omega (arith, A.few);
          match = λ i m t. (and_parts (all_match ix rs (V.base + i)) (not (any_matches ix ps (V.base + i))) (and_parts (all_match ix rs (V.base + i) && not (any_matches ix ps (V.base + i))) (leb need (matching ix os (V.base + i))) (A.match i m t)).0).0;
          required-end = N.required-end ∙ ap (λ (l : List ℕ). get_or l 4 0) p.4 ∙ p.7.required-end;
          optional-end = N.optional-end ∙ ap (λ (l : List ℕ). get_or l 5 0) p.4 ∙ p.7.optional-end;
          joins = joins_at j rs p.0 n.afterwards n.group_at (N.afterwards-is ∙ ap (λ (l : List ℕ). eqb (get_or l 13 0) 1) p.4) (N.group_at ∙ ap (λ (l : List ℕ). get_or l 14 0) p.4) p.7.joining;
          x = p.1;
          v = p.2;
          is = same;
          required = all-less ix V.ranges rs (k - 1) p.1 (V.base + 64) V.base (required_places ix S V.base (places_of want)) (places_of want) (λ i m t. both-true (bit i want) (matches ix S (V.base + i)) t (A.match i m t)) p.10;
          optional = subst (λ (i : ℕ). AllWindowed ix V.ranges os (k - 1) p.2 (optional_bound i (V.base + 64) V.base) V.base (λ (r : ℕ). ltb 0 i && bit r want)) need-is os-at;
        };
        score = λ d. refl;
        fewer = omega arith;
        done = λ kids' B. (
          p.0,
          B.x,
          B.v,
          p.3,
          rw (len, p.4, drop-length, append-nil) (ap (λ (l : List ℕ). words_of p.0 ++ l) B.is),
          p.5,
          p.6,
          p.7,
          p.8,
          λ i m t. absurd (false≢true t),
          all-less ix V.ranges rs (k - 1) B.x (V.base + 64) (V.base + 64) nowhere (required_places ix S (V.base + 64) nowhere) (λ i m t. absurd (false≢true t)) B.required,
          all-less ix V.ranges os (k - 1) B.v (optional_bound need (V.base + 64) (V.base + 64)) (V.base + 64) nowhere (optional_places ix S need (V.base + 64) nowhere) (λ i m t. absurd (false≢true (and_parts (ltb 0 need) false t).1))
              (subst (λ (b : ℕ). AllWindowed ix V.ranges os (k - 1) B.v b (V.base + 64) nowhere) (bound-same (ltb 0 need) (V.base + 64)) B.optional),
          all-forget ix V.ranges ps (k - 1) p.3 (V.base + 64) V.base nowhere (V.base + 64) (le_refl _) (omega arith) p.12,
        );
      }

-- ---- the calls
module _ {states : List ℕ} {V : Reads} {starts other_starts want : ℕ} {sums : List Float} {depth : ℕ} where
  pub node-long : ScoresPre states V starts other_starts want sums depth → node_state_words ≤ length states
  node-long w = windowed-long w.1 V.ranges w.3 depth w.4 states (V.base + 64) V.base (places_of want) w.7.held

  kind : (w : ScoresPre states V starts other_starts want sums depth) → get_or states 0 0 ≡ kind_of w.3
  kind w = windowed-kind w.1 V.ranges w.3 depth w.4 states (V.base + 64) V.base (places_of want) w.7.held

  -- the same score for each document, and the words as they were
  module _ (score : Float) (each : (w : ScoresPre states V starts other_starts want sums depth) → ((d : ℕ) → score ≡ scorer_score w.1 w.3 d) × AtMost (nodes w.3 * 2 ^ 29) score) where
    each-ask : ScoresPre states V starts other_starts want sums depth → ConstantPre score sums
    each-ask w = (w.5, nodes w.3, (w.7.few, w.8), (each w).1)

    each-done : (sums' : List Float) → ConstantPost score want sums sums' → ScoresPost states V starts other_starts want sums depth states sums'
    each-done sums' add n ix places S sc q L A s =
        let w : ScoresPre states V starts other_starts want sums depth = (n, ix, places, S, sc, q, L, A, s) in
        let z = add q (nodes S) (A.few, s) (each w).1 in
        (added-as (λ p. score) (λ p. scorer_score ix S (V.base + p)) want sums sums' (λ p l e. (each w).0 (V.base + p)) z.0, z.1, windowed-forget ix V.ranges S depth sc states (V.base + 64) V.base (places_of want) (V.base + 64) (le_refl _) (omega arith) A.held)

  module _ (m : ScoreNode) (M : ScoreNodeIs states m) where
    same : m.constant ≡ 1 → (w : ScoresPre states V starts other_starts want sums depth) → Same w.1 w.3 m.weight
    same e w = subst (Same w.1 w.3) (sym M.weight_is) (same-at w.1 V.ranges w.3 depth w.4 states (V.base + 64) V.base (places_of want) w.7.held (sym M.constant-is ∙ e))

    pub constant-number : ScoresPre states V starts other_starts want sums depth → m.constant ≡ 1 → T (not (nan_bits binary32 m.weight))
    constant-number w e = (same e w).number

    module _ (score : Float) (is : Some score ≡ constant_score m) where
      same-each : (w : ScoresPre states V starts other_starts want sums depth) → ((d : ℕ) → score ≡ scorer_score w.1 w.3 d) × AtMost (nodes w.3 * 2 ^ 29) score
      same-each w =
          let k = constant-some m score is in
          let s = same k.0 w in
          (λ d. k.1 ∙ s.is d, subst (λ (x : Float). AtMost (nodes w.3 * 2 ^ 29) x) (sym k.1) s.small)

      pub constant-ask : ScoresPre states V starts other_starts want sums depth → ConstantPre score sums
      constant-ask = each-ask score same-each

      pub constant-done : (sums' : List Float) → ConstantPost score want sums sums' → ScoresPost states V starts other_starts want sums depth states sums'
      constant-done = each-done score same-each

  module _ (other : get_or states 11 0 ≡ 1 → ⊥) where
    pub phrase-weighted : ScoresPre states V starts other_starts want sums depth → get_or states 11 0 ≡ 0
    phrase-weighted w = weighted-at w.1 V.ranges w.3 depth w.4 states (V.base + 64) V.base (places_of want) w.7.held other

    -- neither a term, a phrase nor a Boolean
    module _ (no-term : get_or states 0 0 ≡ 1 → ⊥) (no-phrase : get_or states 0 0 ≡ 2 → ⊥) (no-boolean : get_or states 0 0 ≡ 3 → ⊥) where
      zeroed : (w : ScoresPre states V starts other_starts want sums depth) → ((d : ℕ) → of_bits binary32 0 ≡ scorer_score w.1 w.3 d) × AtMost (nodes w.3 * 2 ^ 29) (of_bits binary32 0)
      zeroed w =
          let z = zero-at w.1 V.ranges w.3 depth w.4 states (V.base + 64) V.base (places_of want) w.7.held other (λ e. no-term (kind w ∙ e)) (λ e. no-phrase (kind w ∙ e)) (λ e. no-boolean (kind w ∙ e)) in
          ((λ d. zero-32 ∙ z.0 d), subst (λ (x : Float). AtMost (nodes w.3 * 2 ^ 29) x) (sym zero-32) (zero-atmost _))

      pub zero-ask : ScoresPre states V starts other_starts want sums depth → ConstantPre (of_bits binary32 0) sums
      zero-ask = each-ask (of_bits binary32 0) zeroed

      pub zero-done : (sums' : List Float) → ConstantPost (of_bits binary32 0) want sums sums' → ScoresPost states V starts other_starts want sums depth states sums'
      zero-done = each-done (of_bits binary32 0) zeroed

    -- a Boolean
    module _ (is-boolean : get_or states 0 0 ≡ 3) (n : Boolean) (N : BooleanRead states n) where
      here : (w : ScoresPre states V starts other_starts want sums depth) → BooleanAt w.1 V w.2 depth w.4 states want w.5 n N w.3
      here w = boolean-at w.1 V w.2 depth w.4 states want w.5 n N w.3 w.7 (sym (kind w) ∙ is-boolean) other

      pub boolean-deep : ScoresPre states V starts other_starts want sums depth → 0 < depth
      boolean-deep w = (here w).deep

      pub boolean-ask : ScoresPre states V starts other_starts want sums depth → BooleanScoresPre (take (length states - node_state_words) (drop node_state_words states)) n V starts other_starts want sums (depth - 1)
      boolean-ask w = let B = here w in (w.0, w.1, w.2, B.j, B.rs, B.os, B.rest, w.5, w.6, B.asked, w.8)

      pub boolean-done : (kids' : List ℕ) (sums' : List Float) → BooleanScoresPost (take (length states - node_state_words) (drop node_state_words states)) n V starts other_starts want sums (depth - 1) kids' sums' → ScoresPost states V starts other_starts want sums depth (put states node_state_words (length states) kids') sums'
      boolean-done kids' sums' post m ix places S sc q L A s =
          let w : ScoresPre states V starts other_starts want sums depth = (m, ix, places, S, sc, q, L, A, s) in
          let B = here w in
          let z = post m ix places B.j B.rs B.os B.rest q L B.asked s in (
            added-as (λ p. joined_score B.j (required_scores ix B.rs (V.base + p)) (narrowed_sum (optional_scores ix B.os (V.base + p)))) (λ p. scorer_score ix S (V.base + p)) want sums sums' (λ p l e. B.score (V.base + p)) z.0,
            sums-more (q + (nodes_of B.rs + nodes_of B.os)) (q + nodes S) sums' (omega (arith, B.fewer)) z.1,
            B.done kids' z.2,
          )

-- ---- a root, whose sums were 0
root-here : (ix : Index) (V : Reads) (places k o : ℕ) (states : List ℕ) (want : ℕ) (n : Boolean) (N : BooleanRead states n) (S : Scorer) → (get_or states 11 0 ≡ 1 → ⊥) → get_or states 0 0 ≡ 3 → NodeAsked ix V places S k o states want 0 → BooleanAt ix V places k o states want 0 n N S
root-here ix V places k o states want n N S other is-boolean A =
    boolean-at ix V places k o states want 0 n N S A (sym (windowed-kind ix V.ranges S k o states (V.base + 64) V.base (places_of want) A.held) ∙ is-boolean) other

module _ {states : List ℕ} {V : Reads} {starts other_starts want : ℕ} {sums : List Float} {depth : ℕ} where
  pub root-as : RootPre states V starts other_starts want sums depth → ScoresPre states V starts other_starts want sums depth
  root-as w = let r = w.1 in (r.0, r.1, r.2, r.3, r.4, 0, r.5, r.6, zero-sums sums w.0)

  pub root-done : RootPre states V starts other_starts want sums depth → (states' : List ℕ) (sums' : List Float) → ScoresPost states V starts other_starts want sums depth states' sums' → RootPost states V starts other_starts want sums depth states' sums'
  root-done w states' sums' post n ix places S sc L A =
      let z = post n ix places S sc 0 L A (zero-sums sums w.0) in
      let W = ok-weighted ix V.ranges S depth sc states (V.base + 64) (windowed-ok ix V.ranges S depth sc states (V.base + 64) V.base (places_of want) (omega arith) A.held) in
      (record { long = z.1.long; wanted = λ p l e. sum-narrowed ix L.lends.accepted places S W A.scorable.sound A.scorable.few (V.base + p) (get_or sums p nan) (w.0.zero p l) (get_or sums' p nan) (z.0.wanted p l e); others = z.0.others }, z.2)

  module _ (other : get_or states 11 0 ≡ 1 → ⊥) (is-boolean : get_or states 0 0 ≡ 3) (n : Boolean) (N : BooleanRead states n) where
    pub root-deep : RootPre states V starts other_starts want sums depth → 0 < depth
    root-deep w = let r = w.1 in (root-here r.1 V r.2 depth r.4 states want n N r.3 other is-boolean r.6).deep

    pub root-ask : RootPre states V starts other_starts want sums depth → RootPartsPre (take (length states - node_state_words) (drop node_state_words states)) n V starts other_starts want sums (depth - 1)
    root-ask w = let r = w.1 in let B = root-here r.1 V r.2 depth r.4 states want n N r.3 other is-boolean r.6 in (w.0, (r.0, r.1, r.2, B.j, B.rs, B.os, B.rest, r.5, B.asked))

    pub root-part : (kids' : List ℕ) (sums' : List Float) → RootPartsPost (take (length states - node_state_words) (drop node_state_words states)) n V starts other_starts want sums (depth - 1) kids' sums' → RootPost states V starts other_starts want sums depth (put states node_state_words (length states) kids') sums'
    root-part kids' sums' post m ix places S sc L A =
        let B = root-here ix V places depth sc states want n N S other is-boolean A in
        let z = post m ix places B.j B.rs B.os B.rest L B.asked in
        (record { long = z.0.long; wanted = λ p l e. z.0.wanted p l e ∙ B.score (V.base + p); others = z.0.others }, B.done kids' z.2)
