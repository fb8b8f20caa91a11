-- A phrase at the wanted places of a window: its frequency there, and its score. Assumes nothing.
use mathlib.Core.Path.{◌≡◌, refl, sym, ap, subst, ◌∙◌}
use mathlib.Core.Logic.{⊎_elim}
use mathlib.Core.Bool.{Bool, true, false, cond, ◌&&◌, false≢true}
use mathlib.Core.List.{List, ◌++◌}
use Prim.Native.Nat.{ℕ, ◌+◌, ◌-◌, ◌*◌, ◌^◌, ◌≤◌, ◌<◌, min}
use native.Mathlib.Omega.{arith}
use lib.Dec.{ltb}
use lib.ListN.{length, get_or}
use lib.Seq.{take-length}
use lib.Ieee.{Float, nan, binary64, add}
use Rattle.meaning.specs.Limits.{node_state_words}
use Rattle.meaning.specs.Lent.{Index}
use Rattle.meaning.specs.Phrase.{PhraseTerm, phrase_frequency}
use Rattle.meaning.specs.Score.{field_score}
use Rattle.meaning.proofs.Tests.{decided, cmp}
use Rattle.std.proofs.lemmas.Bool.{cases_eq}
use Rattle.ieee754.specs.Nonneg.{AtMost}
use Rattle.ieee754.proofs.Bounds.{atmost-number}
use Rattle.tree_weight.specs.ScorerTree.{nothing, term, phrase, range, everything, constant, weighted, Scorer, leaf, boolean, matches, leaf_matches, leaf_score, scorer_score}
use Rattle.tree_weight.specs.State.{State, words_of}
use Rattle.tree_weight.specs.Held.{FloatIs, ScoringIs}
use Rattle.tree_weight.specs.Sound.{LeafSound, Sound, FieldTable, LeafTable, Tables, nodes}
use Rattle.scorer_leaf.specs.Phrases.{all_found}
use Rattle.scorer_leaf.proofs.PhraseLaws.{leaves-there, lacking}
use Rattle.score_leaf.specs.declared.ScoreNode.{ScoreNode}
use Rattle.score_leaf.specs.Words.{ScoreNodeIs, first_byte, Bytes, Weighs, weighted_score}
use Rattle.score_leaf.proofs.Frequencies.{phrase-frequency-few}
use Rattle.score_leaf.proofs.Leaves.{Read, read}
use Rattle.bits.specs.Bit.{bit}
use Rattle.window_words.specs.Windowed.{places_of, two_words, phrase_places, PhraseWindowed, LeafWindowed, Windowed}
use Rattle.window_words.proofs.Laws.{windowed-kind, windowed-long, kind_of}
use Rattle.window_leaf.specs.declared.phrases.Planes.{Planes}
use Rattle.window_leaf.specs.Phrases.{PhraseAsked, FrequencyAtPre, PlanesRead}
use Rattle.window_score.specs.Words.{planed_at}
use Rattle.window_score.specs.Places.{behind, FrequencyRead, PhrasePlace}
use Rattle.std.proofs.Common.{Bor, MutBor}
use Rattle.scorer_leaf.specs.declared.PhraseBuffers.{PhraseBuffers}
use Rattle.scorer_leaf.specs.Buffers.{room, other_room, SameBuffers}
use Rattle.scorer_leaf.proofs.Loops.{same_refl, same_then}
use Rattle.window_leaf.specs.declared.Window.{Window}
use Rattle.window_score.specs.Asked.{Reads, with_ranges, WindowLent, NodeAsked, PhraseScoresPre, PhraseScoresPost}
use Rattle.window_score.proofs.Terms.{field-place, leaf-added}

behind-is : (s : State) (states w : List ℕ) → states ≡ words_of s ++ w → behind states ≡ w
behind-is s states w e = let size : length states - node_state_words ≡ length w = omega (arith, ap length e) in rw (size, e, take-length)

-- a phrase that scores by BM25 at the places of a window
pub record PhraseIn (ix : Index) (table : List Float) (places : ℕ) (states : List ℕ) (base want : ℕ) (S : Scorer) : Type 0 where
  pub f : ℕ
  pub ts : List PhraseTerm
  pub w : Float
  pub s : State
  pub v : List ℕ
  pub is : S ≡ leaf (phrase f ts) (weighted w)
  pub words : states ≡ words_of s ++ v
  pub sound : LeafSound ix places (phrase f ts)
  pub tables : FieldTable ix table f
  pub weight : FloatIs w s.weight
  pub held : PhraseWindowed ix f ts s v (base + 64) base (places_of want)
  pub stands : (p : ℕ) → p < 64 → bit p want ≡ true → ltb 0 (phrase_frequency ix ts (base + p)) ≡ true

phrase-one : {ix : Index} {table : List Float} {places : ℕ} {states : List ℕ} {base want : ℕ} {S : Scorer} → PhraseIn ix table places states base want S → nodes S ≡ 1
unfolding nodes
phrase-one t = ap nodes t.is

module _ (ix : Index) (V : Reads) (places depth scores : ℕ) (states : List ℕ) (want q : ℕ) where
  abbrev Asked : Scorer → Type 0
  Asked S = NodeAsked ix V places S depth scores states want q

  kind-of : (S : Scorer) → Asked S → get_or states 0 0 ≡ kind_of S
  kind-of S H = windowed-kind ix V.ranges S depth scores states (V.base + 64) V.base (places_of want) H.held

  pub phrase-in : (S : Scorer) → Asked S → get_or states 0 0 ≡ 2 → get_or states 11 0 ≡ 0 → PhraseIn ix V.inverses places states V.base want S
  unfolding kind_of Windowed LeafWindowed Sound Tables LeafTable ScoringIs matches leaf_matches
  phrase-in (leaf nothing sc) H k m = absurd (omega (arith, kind-of (leaf nothing sc) H, k))
  phrase-in (leaf (term l) sc) H k m = absurd (omega (arith, kind-of (leaf (term l) sc) H, k))
  phrase-in (leaf (phrase f ts) (constant c)) H k m = absurd (omega (arith, H.held.5.0, ap (λ (y : List ℕ). get_or y 11 0) H.held.2, m))
  phrase-in (leaf (phrase f ts) (weighted w)) H k m =
      let h = H.held in
      record {
        f = f;
        ts = ts;
        w = w;
        s = h.0;
        v = h.1;
        is = refl;
        words = h.2;
        sound = H.scorable.sound;
        tables = H.scorable.tables;
        weight = h.5.1;
        held = h.4.0;
        stands = H.match;
      }
  phrase-in (leaf (range r) sc) H k m = absurd (omega (arith, kind-of (leaf (range r) sc) H, k))
  phrase-in (leaf everything sc) H k m = absurd (omega (arith, kind-of (leaf everything sc) H, k))
  phrase-in (boolean c j need rs os ps) H k m = absurd (omega (arith, kind-of (boolean c j need rs os ps) H, k))

few-is : (n r : ℕ) → r ≡ min 3 n → (r ≡ 3 → ⊥) → r ≡ n
few-is n r e h = ⊎_elim (λ (l : n < 3). omega arith) (λ (g : 3 ≤ n). absurd (h (omega arith))) (cmp n 3)

module _ (ix : Index) (max : ℕ) (V : Reads) (places starts other_starts want : ℕ) (L : WindowLent ix max V places starts other_starts want) (states : List ℕ) (n : ScoreNode) (N : ScoreNodeIs states n) (S : Scorer) (t : PhraseIn ix V.inverses places states V.base want S) where
  R : Read n t.s
  R = read states t.v t.s n t.words N

  abbrev D : ℕ → Bool
  D = phrase_places ix t.ts V.base (places_of want)

  each-found : (d : ℕ) → ltb 0 (phrase_frequency ix t.ts d) ≡ true → all_found ix t.ts d ≡ true
  each-found d e = ⊎_elim (λ y. y) (λ y. absurd (false≢true (sym (lacking ix t.ts d y) ∙ e))) (decided (all_found ix t.ts d))

  second : (x y : Bool) → x && y ≡ true → y ≡ true
  second true y e = e
  second false y e = absurd (false≢true e)

  pub phrase-asked : PhraseAsked V.postings V.positions ix places t.f t.ts V.base D (behind states)
  unfolding LeafSound
  phrase-asked =
      record {
        asked = record {
          accepted = L.lends.accepted;
          postings-are = L.lends.postings-are;
          there = leaves-there ix t.f places t.ts t.sound.4;
          bound = V.base + 64;
          held = subst (λ (y : List ℕ). Rattle.window_words.specs.Windowed.TermsWindowed ix t.ts y (V.base + 64) V.base D) (sym (behind-is t.s states t.v t.words)) t.held.terms;
          all = λ p l e. each-found (V.base + p) (second (bit p want) (ltb 0 (phrase_frequency ix t.ts (V.base + p))) e);
        };
        positions-are = L.lends.positions-are;
        sound = t.sound;
      }

  module _ (p : ℕ) (l : p < 64) (e : bit p want ≡ true) where
    pub phrase-there : D p ≡ true
    phrase-there = rw (e, t.stands p l e)

    module _ (planes : Planes) (planes-are : PlanesRead states planes.ones planes.twos) where
      planed-min : planed_at planes p ≡ min 3 (phrase_frequency ix t.ts (V.base + p))
      planed-min = ap (λ (y : ℕ). cond (bit p y) 1 0 + 2 * cond (bit p planes.twos) 1 0) ones ∙ ap (λ (y : ℕ). cond (bit p (two_words t.s.ones_low t.s.ones_high)) 1 0 + 2 * cond (bit p y) 1 0) twos ∙ t.held.frequencies p l e
        where
          ones : planes.ones ≡ two_words t.s.ones_low t.s.ones_high
          ones = planes-are.ones-are ∙ ap (λ (y : List ℕ). two_words (get_or y 23 0) (get_or y 24 0)) t.words

          twos : planes.twos ≡ two_words t.s.twos_low t.s.twos_high
          twos = planes-are.twos-are ∙ ap (λ (y : List ℕ). two_words (get_or y 25 0) (get_or y 26 0)) t.words

      module _ (r : ℕ) (F : FrequencyRead V.postings V.positions states planes V.base p r) where
        pub frequency-is : r ≡ phrase_frequency ix t.ts (V.base + p)
        frequency-is =
            ⊎_elim
            (λ (g : planed_at planes p ≡ 3). F.high g ix places t.f t.ts D phrase-there phrase-asked)
            (λ (g : planed_at planes p ≡ 3 → ⊥). F.low g ∙ few-is (phrase_frequency ix t.ts (V.base + p)) (planed_at planes p) planed-min g)
            (cases_eq (planed_at planes p) 3)

        pub phrase-place : Weighs n V.norms V.inverses (V.base + p) r × (Bytes V.norms → (weighted_score n V.norms V.inverses (V.base + p) r ≡ scorer_score ix S (V.base + p)) × AtMost (2 ^ 29) (weighted_score n V.norms V.inverses (V.base + p) r))
        unfolding LeafSound scorer_score leaf_score
        phrase-place =
            let x : FloatIs t.w n.weight = subst (λ (i : ℕ). FloatIs t.w i) (sym R.weight_is) t.weight in
            let k = field-place ix max V places starts other_starts want L states n N p l e t.f t.sound.0 t.tables t.w x (R.field_is ∙ t.held.field_is) (R.norms-is ∙ ap first_byte t.held.norms-is) r (omega (arith, frequency-is, phrase-frequency-few ix L.lends.accepted t.f places t.ts (V.base + p) t.sound.4)) in
            (k.0, λ bytes. ((k.1 bytes).0 ∙ ap (λ (i : ℕ). field_score ix t.f t.w i (V.base + p)) frequency-is ∙ ap (λ (y : Scorer). scorer_score ix y (V.base + p)) (sym t.is), (k.1 bytes).1))

    -- the score is small
    pub phrase-small : Bytes V.norms → AtMost (2 ^ 29) (scorer_score ix S (V.base + p))
    unfolding LeafSound scorer_score leaf_score
    phrase-small bytes =
        let x : FloatIs t.w n.weight = subst (λ (i : ℕ). FloatIs t.w i) (sym R.weight_is) t.weight in
        let k = field-place ix max V places starts other_starts want L states n N p l e t.f t.sound.0 t.tables t.w x (R.field_is ∙ t.held.field_is) (R.norms-is ∙ ap first_byte t.held.norms-is) (phrase_frequency ix t.ts (V.base + p)) (phrase-frequency-few ix L.lends.accepted t.f places t.ts (V.base + p) t.sound.4) in
        subst (λ (y : Float). AtMost (2 ^ 29) y) ((k.1 bytes).0 ∙ ap (λ (y : Scorer). scorer_score ix y (V.base + p)) (sym t.is)) (k.1 bytes).1

-- ---- what `phrase_scores` asks at a place, and gives
-- at each wanted place the sum is one more score of a frequency that was read
pub record PhraseScored (n : ScoreNode) (V : Reads) (states : List ℕ) (planes : Planes) (want : ℕ) (sums sums' : List Float) : Type 0 where
  pub long : length sums' ≡ 64
  pub wanted : (p : ℕ) → p < 64 → bit p want ≡ true → (r : ℕ) × FrequencyRead V.postings V.positions states planes V.base p r × (get_or sums' p nan ≡ add binary64 (get_or sums p nan) (weighted_score n V.norms V.inverses (V.base + p) r)) × Bytes V.norms
  pub others : (p : ℕ) → p < 64 → bit p want ≡ false → get_or sums' p nan ≡ get_or sums p nan

module _ (states : List ℕ) (V : Reads) (starts other_starts want : ℕ) (sums : List Float) where
  module _ (P : PhraseScoresPre states V starts other_starts want sums) where
    pub pre-long : node_state_words ≤ length states
    pre-long = windowed-long P.2.2.1 P.2.0 P.2.2.3 P.2.1 P.2.2.4 states (V.base + 64) V.base (places_of want) P.2.2.7.held

    pre-in : PhraseIn P.2.2.1 V.inverses P.2.2.2 states V.base want P.2.2.3
    pre-in = phrase-in P.2.2.1 (with_ranges V P.2.0) P.2.2.2 P.2.1 P.2.2.4 states want P.2.2.5 P.2.2.3 P.2.2.7 P.0 P.1

    module _ (n : ScoreNode) (N : ScoreNodeIs states n) (planes : Planes) (K : PlanesRead states planes.ones planes.twos) (p : ℕ) (l : p < 64) (e : bit p want ≡ true) where
      pre-frequency : FrequencyAtPre V.postings V.positions (behind states) starts other_starts V.base p
      pre-frequency =
          let i = pre-in in (
            l,
            (
              P.2.2.1,
              P.2.2.2,
              i.f,
              i.ts,
              phrase_places P.2.2.1 i.ts V.base (places_of want),
              P.2.2.6.room.in-starts,
              P.2.2.6.room.in-other,
              phrase-there P.2.2.1 P.2.2.0 (with_ranges V P.2.0) P.2.2.2 starts other_starts want P.2.2.6 states n N P.2.2.3 i p l e,
              phrase-asked P.2.2.1 P.2.2.0 (with_ranges V P.2.0) P.2.2.2 starts other_starts want P.2.2.6 states n N P.2.2.3 i,
            ),
          )

      place : (r : ℕ) → FrequencyRead V.postings V.positions states planes V.base p r → Weighs n V.norms V.inverses (V.base + p) r × (Bytes V.norms → (weighted_score n V.norms V.inverses (V.base + p) r ≡ scorer_score P.2.2.1 P.2.2.3 (V.base + p)) × AtMost (2 ^ 29) (weighted_score n V.norms V.inverses (V.base + p) r))
      place r F = phrase-place P.2.2.1 P.2.2.0 (with_ranges V P.2.0) P.2.2.2 starts other_starts want P.2.2.6 states n N P.2.2.3 pre-in p l e planes K r F

      pub pre-place : PhrasePlace n V.norms V.inverses V.postings V.positions states planes starts other_starts V.base p
      pre-place =
          record {
            long = pre-long;
            asks = pre-frequency;
            few = omega (arith, l, P.2.2.6.small);
            scores = λ r F. ((place r F).0, λ bytes. atmost-number ((place r F).1 bytes).1);
          }

  pub phrase-done : get_or states 0 0 ≡ 2 → get_or states 11 0 ≡ 0 → (n : ScoreNode) → ScoreNodeIs states n → (planes : Planes) → PlanesRead states planes.ones planes.twos → (sums' : List Float) → PhraseScored n V states planes want sums sums' → PhraseScoresPost states V starts other_starts want sums sums'
  phrase-done kind scored n N planes K sums' D ranges depth max ix places S scores q L H Q =
      let t = phrase-in ix (with_ranges V ranges) places depth scores states want q S H kind scored in
      let at : (p : ℕ) (l : p < 64) (e : bit p want ≡ true) → (weighted_score n V.norms V.inverses (V.base + p) (D.wanted p l e).0 ≡ scorer_score ix S (V.base + p)) × AtMost (2 ^ 29) (weighted_score n V.norms V.inverses (V.base + p) (D.wanted p l e).0) = λ p l e. (phrase-place ix max (with_ranges V ranges) places starts other_starts want L states n N S t p l e planes K (D.wanted p l e).0 (D.wanted p l e).1).1 (D.wanted p l e).3 in
      leaf-added ix (with_ranges V ranges) places S depth scores states want q sums sums' (phrase-one t) H Q D.long (λ p. scorer_score ix S (V.base + p)) (record { wanted = λ p l e. (D.wanted p l e).2 ∙ ap (add binary64 (get_or sums p nan)) (at p l e).0; others = D.others })
      (λ p l e. (refl, subst (λ (y : Float). AtMost (2 ^ 29) y) (at p l e).0 (at p l e).1))

-- ---- what its closure has captured: the words, the planes, the window, the buffers, the norms, the inverses, the node and the base
abbrev pub Captured : Type 0
Captured = Bor (List ℕ) × Bor Planes × Bor Window × MutBor PhraseBuffers × Bor (List ℕ) × Bor (List Float) × Bor ScoreNode × Bor ℕ

-- a call leaves all as it is, but for what the buffers hold
pub record Kept (f f' : Captured) : Type 0 where
  pub words : f'.0.now ≡ f.0.now
  pub planes : f'.1.now ≡ f.1.now
  pub window : f'.2.now ≡ f.2.now
  pub buffers : SameBuffers f.3.now f'.3.now
  pub lent : f'.3.ghost_name ≡ f.3.ghost_name
  pub norms : f'.4.now ≡ f.4.now
  pub inverses : f'.5.now ≡ f.5.now
  pub node : f'.6.now ≡ f.6.now
  pub base : f'.7.now ≡ f.7.now

pub kept-refl : (f : Captured) → Kept f f
kept-refl f = record { words = refl; planes = refl; window = refl; buffers = same_refl f.3.now; lent = refl; norms = refl; inverses = refl; node = refl; base = refl }

pub kept-then : {f g h : Captured} → Kept f g → Kept g h → Kept f h
kept-then k i = record { words = i.words ∙ k.words; planes = i.planes ∙ k.planes; window = i.window ∙ k.window; buffers = same_then k.buffers i.buffers; lent = i.lent ∙ k.lent; norms = i.norms ∙ k.norms; inverses = i.inverses ∙ k.inverses; node = i.node ∙ k.node; base = i.base ∙ k.base }

-- what a call asks, and what it gives
abbrev pub Asks : Captured → ℕ → Type 0
Asks f p = (f.7.now ≡ f.2.now.base) × PhrasePlace f.6.now f.4.now f.5.now f.2.now.reader.postings.now f.2.now.reader.positions.now f.0.now f.1.now (room f.3.now) (other_room f.3.now) f.7.now p

abbrev pub Scored : Captured → Float → ℕ → Float → Type 0
Scored f x p y = (r : ℕ) × FrequencyRead f.2.now.reader.postings.now f.2.now.reader.positions.now f.0.now f.1.now f.7.now p r × (y ≡ add binary64 x (weighted_score f.6.now f.4.now f.5.now (f.7.now + p) r))

abbrev pub Gives : Captured → Float → ℕ → Float → Type 0
Gives f x p y = Scored f x p y × Bytes f.4.now

pub kept-asks : {f f' : Captured} → Kept f f' → (p : ℕ) → Asks f p → Asks f' p
kept-asks k p t = rw (k.words, k.planes, k.window, k.norms, k.inverses, k.node, k.base, k.buffers.starts_length, k.buffers.other_starts_length) t

pub kept-gives : {f f' : Captured} → Kept f f' → (x : Float) (p : ℕ) (y : Float) → Gives f' x p y → Gives f x p y
kept-gives k x p y t = rw (sym k.words, sym k.planes, sym k.window, sym k.norms, sym k.inverses, sym k.node, sym k.base) t

-- what the buffers are in the end, where they are still those that were lent
pub kept-buffers : {f f' : Captured} → Kept f f' → {b : PhraseBuffers} → (f.3.ghost_name ≡ f'.3.ghost_name → b ≡ f'.3.now) → SameBuffers f.3.now b
kept-buffers {f} k h = subst (SameBuffers f.3.now) (sym (h (sym k.lent))) k.buffers
