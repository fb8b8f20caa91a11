-- A Boolean's node, asked for a window: its record and its children's parts, before and after. Assumes nothing.
use Rattle.std.proofs.Common.{◌≡◌, refl, sym, ap, ap₂, ◌∙◌, subst, Bool, ◌&&◌, Float, List, [], ◌++◌, ℕ, ◌+◌, ◌-◌, ◌≤◌, ◌<◌, ltb, length, get_or, take, drop, take_at, drop_at, append-nil, arith}
use Rattle.std.proofs.Math.Option.{Option, none, some}
use Rattle.std.proofs.lemmas.Bool.{and_parts, and_from}
use Rattle.meaning.specs.Limits.{node_state_words}
use Rattle.meaning.specs.Lent.{Index}
use Rattle.bits.specs.Bit.{bit}
use Rattle.bits.proofs.Laws.{halves-joined}
use Rattle.tree_weight.specs.ScorerTree.{Leaf, Scoring, Joining, one_more, afterwards, Scorer, leaf, boolean, Scorers, matches}
use Rattle.tree_weight.specs.State.{State, words_of}
use Rattle.tree_weight.specs.Held.{KeptIs, JoiningIs, BooleanIs}
use Rattle.tree_weight.specs.Sound.{Sound, nodes}
use Rattle.scorer_leaf.specs.Calls.{lists}
use Rattle.window_words.specs.Windowed.{Places, nowhere, places_of, optional_bound, Stored, required_places, optional_places, Windowed, AllWindowed}
use Rattle.window_words.proofs.Laws.{all-less, windowed-long, windowed-kind, leaf-no-boolean}
use Rattle.window_leaf.specs.Asks.{Answers, Wanted, NodeWindowed}
use Rattle.window_leaf.specs.Runs.{run_answered, PutPre, PutPost}
use Rattle.window_bits.specs.Parts.{Called, BooleanKnown, BooleanWindowed, BooleanBitsPre, BooleanBitsPost, parts_take}

-- ---- a record and what stands behind it
module _ (S : State) (w states : List ℕ) (is : states ≡ words_of S ++ w) where
  behind : drop 32 states ≡ w
  behind = rw is refl

  many : length states ≡ 32 + length w
  many = rw is (omega arith)

  pub behind-part : take (length states - 32) (drop 32 states) ≡ w
  behind-part = let h : length w ≡ length states - 32 = omega (arith, many) in ap (take (length states - 32)) (behind ∙ sym (append-nil w)) ∙ take_at w [] (length states - 32) h

  pub put-behind : (w' : List ℕ) → take 32 states ++ (w' ++ drop (length states - 32) (drop 32 states)) ≡ words_of S ++ w'
  put-behind w' =
      let h : length w ≡ length states - 32 = omega (arith, many) in
      let f : take 32 states ≡ words_of S = rw is refl in
      let d : drop (length states - 32) (drop 32 states) ≡ [] = ap (drop (length states - 32)) (behind ∙ sym (append-nil w)) ∙ drop_at w [] (length states - 32) h in
      ap₂ (λ (p q : List ℕ). p ++ (w' ++ q)) f d ∙ ap (λ (q : List ℕ). words_of S ++ q) (append-nil w')

-- ---- the record with an answer in it
kept-answered : (c : Option Float) (S : State) (bits next : ℕ) → KeptIs c S → KeptIs c (run_answered S bits next)
unfolding KeptIs
kept-answered none S bits next h = h
kept-answered (some x) S bits next h = h

joining-answered : (j : Joining) (rs : Scorers) (S : State) (bits next : ℕ) → JoiningIs j rs S → JoiningIs j rs (run_answered S bits next)
unfolding JoiningIs
joining-answered (one_more n) rs S bits next h = h
joining-answered afterwards rs S bits next h = h

boolean-answered : (c : Option Float) (j : Joining) (need : ℕ) (rs os ps : Scorers) (S : State) (bits next : ℕ) → BooleanIs c j need rs os ps S → BooleanIs c j need rs os ps (run_answered S bits next)
boolean-answered c j need rs os ps S bits next h =
    record { kind-is = h.kind-is; size_is = h.size_is; need-is = h.need-is; required-end = h.required-end; optional-end = h.optional-end; kept = kept-answered c S bits next h.kept; joining = joining-answered j rs S bits next h.joining }

-- ---- the words of a Boolean
record Held (ix : Index) (R : List ℕ) (c : Option Float) (j : Joining) (need : ℕ) (rs os ps : Scorers) (depth scores : ℕ) (y : List ℕ) (b base : ℕ) (D : Places) : Type 0 where
  S : State
  x : List ℕ
  v : List ℕ
  z : List ℕ
  is : y ≡ words_of S ++ (x ++ (v ++ z))
  scores-is : S.scores ≡ scores
  deep : 0 < depth
  boolean-is : BooleanIs c j need rs os ps S
  cached-is : S.cached ≡ 0
  stored : Stored (matches ix (boolean c j need rs os ps)) S base D
  required : AllWindowed ix R rs (depth - 1) x b base (required_places ix (boolean c j need rs os ps) base D)
  optional : AllWindowed ix R os (depth - 1) v (optional_bound need b base) base (optional_places ix (boolean c j need rs os ps) need base D)
  prohibited : AllWindowed ix R ps (depth - 1) z b base nowhere

module _ (ix : Index) (R : List ℕ) (c : Option Float) (j : Joining) (need : ℕ) (rs os ps : Scorers) (depth scores : ℕ) (y : List ℕ) (b base : ℕ) (D : Places) where
  held-of : Windowed ix R (boolean c j need rs os ps) depth scores y b base D → Held ix R c j need rs os ps depth scores y b base D
  unfolding Windowed
  held-of p = record { S = p.0; x = p.1; v = p.2; z = p.3; is = p.4; scores-is = p.5; deep = p.6; boolean-is = p.7; cached-is = p.8; stored = p.9; required = p.10; optional = p.11; prohibited = p.12 }

  of-held : Held ix R c j need rs os ps depth scores y b base D → Windowed ix R (boolean c j need rs os ps) depth scores y b base D
  unfolding Windowed
  of-held h = (h.S, h.x, h.v, h.z, h.is, h.scores-is, h.deep, h.boolean-is, h.cached-is, h.stored, h.required, h.optional, h.prohibited)

takes-is : (ix : Index) (c : Option Float) (j : Joining) (need : ℕ) (rs os ps : Scorers) (d : ℕ) → parts_take ix rs os ps need d ≡ matches ix (boolean c j need rs os ps) d
unfolding matches
takes-is ix c j need rs os ps d = refl

known-of : {n : ℕ} {postings positions R : List ℕ} {ix : Index} {places depth scores : ℕ} {states : List ℕ} {base : ℕ} (c : Option Float) (j : Joining) (need : ℕ) (rs os ps : Scorers) → NodeWindowed (lists n postings positions R) ix places (boolean c j need rs os ps) depth scores states base → BooleanKnown (lists n postings positions R) ix places rs os ps
unfolding Sound nodes
known-of c j need rs os ps m =
    record {
      required = record { lends = m.lends; sounds = m.sound.0; few = omega (arith, m.few) };
      optional = record { lends = m.lends; sounds = m.sound.1; few = omega (arith, m.few) };
      prohibited = record { lends = m.lends; sounds = m.sound.2; few = omega (arith, m.few) };
    }

-- ---- the node
module _ {n : ℕ} {postings positions R : List ℕ} {ix : Index} {places depth scores : ℕ} {states : List ℕ} {base : ℕ} where
  pub node-long : (s : Scorer) → NodeWindowed (lists n postings positions R) ix places s depth scores states base → node_state_words ≤ length states
  node-long s m = windowed-long ix R s depth scores states base base nowhere m.held

  leaf-not : (l : Leaf) (sc : Scoring) → NodeWindowed (lists n postings positions R) ix places (leaf l sc) depth scores states base → get_or states 0 0 ≡ 3 → ⊥
  leaf-not l sc m e = leaf-no-boolean l sc (sym (windowed-kind ix R (leaf l sc) depth scores states base base nowhere m.held) ∙ e)

  pub node-deep : (s : Scorer) → NodeWindowed (lists n postings positions R) ix places s depth scores states base → get_or states 0 0 ≡ 3 → 1 ≤ depth
  node-deep (leaf l sc) m e = absurd (leaf-not l sc m e)
  node-deep (boolean c j need rs os ps) m e = (held-of ix R c j need rs os ps depth scores states base base nowhere m.held).deep

  pub node-put : (s : Scorer) → NodeWindowed (lists n postings positions R) ix places s depth scores states base → get_or states 0 0 ≡ 3 → (w : List ℕ) → PutPre (take 32 states ++ (w ++ drop (length states - 32) (drop 32 states)))
  node-put (leaf l sc) m e w = absurd (leaf-not l sc m e)
  node-put (boolean c j need rs os ps) m e w =
      let h = held-of ix R c j need rs os ps depth scores states base base nowhere m.held in
      (h.S, w, put-behind h.S (h.x ++ (h.v ++ h.z)) states h.is w)

  module _ (need' r o : ℕ) (need-read : need' ≡ get_or states 3 0) (required-read : r ≡ get_or states 4 0) (optional-read : o ≡ get_or states 5 0) (c : Option Float) (j : Joining) (need : ℕ) (rs os ps : Scorers) (m : NodeWindowed (lists n postings positions R) ix places (boolean c j need rs os ps) depth scores states base) where
    h : Held ix R c j need rs os ps depth scores states base base nowhere
    h = held-of ix R c j need rs os ps depth scores states base base nowhere m.held

    word : (i : ℕ) → get_or states i 0 ≡ get_or (words_of h.S ++ (h.x ++ (h.v ++ h.z))) i 0
    word i = ap (λ (q : List ℕ). get_or q i 0) h.is

    need-same : need' ≡ need
    need-same = need-read ∙ word 3 ∙ h.boolean-is.need-is

    parts : BooleanWindowed ix R rs os ps (depth - 1) r o need' (take (length states - 32) (drop 32 states)) base base nowhere
    parts =
        subst (λ (q : ℕ). BooleanWindowed ix R rs os ps (depth - 1) r o q (take (length states - 32) (drop 32 states)) base base nowhere) (sym need-same)
        (record {
          x = h.x;
          v = h.v;
          z = h.z;
          is = behind-part h.S (h.x ++ (h.v ++ h.z)) states h.is;
          required-end = required-read ∙ word 4 ∙ h.boolean-is.required-end;
          optional-end = optional-read ∙ word 5 ∙ h.boolean-is.optional-end;
          required = h.required;
          optional = h.optional;
          prohibited = h.prohibited;
        })

    module _ (starts other_starts want : ℕ) (wanted : Wanted n base want) where
      module _ (bits next : ℕ) (w states' : List ℕ) (post : BooleanBitsPost (lists n postings positions R) starts other_starts (take (length states - 32) (drop 32 states)) r o need' base want (depth - 1) bits next w) (put : PutPost (take 32 states ++ (w ++ drop (length states - 32) (drop 32 states))) bits next states') where
        done : Answers (parts_take ix rs os ps need) base (places_of want) bits next × BooleanWindowed ix R rs os ps (depth - 1) r o need w (base + 64) base (places_of bits)
        done = subst (λ (q : ℕ). Answers (parts_take ix rs os ps q) base (places_of want) bits next × BooleanWindowed ix R rs os ps (depth - 1) r o q w (base + 64) base (places_of bits)) need-same (post n ix places rs os ps wanted (known-of c j need rs os ps m) parts)

        written : states' ≡ words_of (run_answered h.S bits next) ++ w
        written = put h.S w (put-behind h.S (h.x ++ (h.v ++ h.z)) states h.is w)

        abbrev B : Scorer
        B = boolean c j need rs os ps

        bits-are : (p : ℕ) → p < 64 → bit p bits ≡ (bit p want && matches ix B (base + p))
        bits-are p l = done.0.bits p l ∙ ap (λ (t : Bool). bit p want && t) (takes-is ix c j need rs os ps (base + p))

        next-is : get_or states' 22 0 ≡ next
        next-is = ap (λ (q : List ℕ). get_or q 22 0) written

        answers : Answers (matches ix B) base (places_of want) bits (get_or states' 22 0)
        answers = record { bits = bits-are; gap = λ d u t. sym (takes-is ix c j need rs os ps d) ∙ done.0.gap d u (omega (arith, next-is, t)); top = omega (arith, next-is, done.0.top) }

        held-after : Held ix R c j need rs os ps depth scores states' (base + 64) base (places_of want)
        held-after =
            let q = done.1 in
            record {
              S = run_answered h.S bits next;
              x = q.x;
              v = q.v;
              z = q.z;
              is = written ∙ ap (λ (l : List ℕ). words_of (run_answered h.S bits next) ++ l) q.is;
              scores-is = h.scores-is;
              deep = h.deep;
              boolean-is = boolean-answered c j need rs os ps h.S bits next h.boolean-is;
              cached-is = h.cached-is;
              stored = λ p l t. ap (bit p) (halves-joined bits) ∙ bits-are p l ∙ ap (λ (u : Bool). u && matches ix B (base + p)) t;
              required = all-less ix R rs (depth - 1) q.x (base + 64) base (places_of bits) (required_places ix B base (places_of want)) (λ p l t. bits-are p l ∙ t) q.required;
              optional = all-less ix R os (depth - 1) q.v (optional_bound need (base + 64) base) base (λ p. ltb 0 need && bit p bits) (optional_places ix B need base (places_of want)) (λ p l t. let u = and_parts (ltb 0 need) (required_places ix B base (places_of want) p) t in and_from (ltb 0 need) (bit p bits) u.0 (bits-are p l ∙ u.1)) q.optional;
              prohibited = q.prohibited;
            }

        boolean-after : Answers (matches ix B) base (places_of want) bits (get_or states' 22 0) × Windowed ix R B depth scores states' (base + 64) base (places_of want)
        boolean-after = (answers, of-held ix R c j need rs os ps depth scores states' (base + 64) base (places_of want) held-after)

  module _ {need' r o : ℕ} (need-read : need' ≡ get_or states 3 0) (required-read : r ≡ get_or states 4 0) (optional-read : o ≡ get_or states 5 0) where
    pub node-pre : {starts other_starts want : ℕ} → Called (lists n postings positions R) places starts other_starts base want → (s : Scorer) → NodeWindowed (lists n postings positions R) ix places s depth scores states base → get_or states 0 0 ≡ 3 → BooleanBitsPre (lists n postings positions R) starts other_starts (take (length states - 32) (drop 32 states)) r o need' base want (depth - 1)
    node-pre called (leaf l sc) m e = absurd (leaf-not l sc m e)
    node-pre called (boolean c j need rs os ps) m e = (n, ix, places, rs, os, ps, called, known-of c j need rs os ps m, parts need' r o need-read required-read optional-read c j need rs os ps m)

    pub node-after : (starts other_starts want : ℕ) → Wanted n base want → (s : Scorer) → NodeWindowed (lists n postings positions R) ix places s depth scores states base → get_or states 0 0 ≡ 3 → (bits next : ℕ) (w states' : List ℕ) → BooleanBitsPost (lists n postings positions R) starts other_starts (take (length states - 32) (drop 32 states)) r o need' base want (depth - 1) bits next w → PutPost (take 32 states ++ (w ++ drop (length states - 32) (drop 32 states))) bits next states' → Answers (matches ix s) base (places_of want) bits (get_or states' 22 0) × Windowed ix R s depth scores states' (base + 64) base (places_of want)
    node-after starts other_starts want wanted (leaf l sc) m e bits next w states' post put = absurd (leaf-not l sc m e)
    node-after starts other_starts want wanted (boolean c j need rs os ps) m e bits next w states' post put = boolean-after need' r o need-read required-read optional-read c j need rs os ps m starts other_starts want wanted bits next w states' post put
