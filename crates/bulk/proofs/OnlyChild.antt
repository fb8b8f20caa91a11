-- A Boolean whose only child gives its matches and their scores: the words behind its record hold the child, whose live matches with their scores are the Boolean's. Assumes nothing.
use Rattle.std.proofs.Common.{take_all, ◌≡◌, refl, sym, ap, subst, ◌∙◌, Bool, true, false, not, cond, ◌&&◌, List, [], ◌∷◌, ◌++◌, map, ℕ, ◌+◌, ◌-◌, ◌*◌, ◌^◌, ◌≤◌, ◌<◌, leb, length, get_or, take, drop, append_assoc, append-nil, length-append, get_or-take, get_or-drop, arith}
use Rattle.std.proofs.lemmas.Bool.{false≢true, and_parts}
use Rattle.std.specs.Prelude.{Float}
use mathlib.Core.Path.{fun_ext}
use mathlib.Core.Option.{none, some}
use lib.Ieee.{binary64, add}
use lib.Ieee.Fits.{fits_widens}
use Rattle.meaning.specs.Below.{list_below}
use Rattle.meaning.specs.Ieee754.{zero_float, narrow, sum_from, narrowed_sum}
use Rattle.meaning.specs.Limits.{node_state_words}
use Rattle.meaning.specs.Lent.{Index}
use Rattle.meaning.specs.Live.{is_live}
use Rattle.ieee754.specs.Nonneg.{AtMost}
use Rattle.index.specs.Accepted.{Accepted}
use Rattle.tree_weight.specs.ScorerTree.{Joining, Scorer, leaf, boolean, Scorers, end, more, matches, all_match, any_matches, matching, scoring, joined_score, scorer_score, required_scores, optional_scores}
use Rattle.tree_weight.specs.State.{State, words_of, size_of, sizes_of}
use Rattle.tree_weight.specs.Held.{KeptIs}
use Rattle.tree_weight.specs.Sound.{Sound, Sounds, Tables, TablesOf, nodes, nodes_of}
use Rattle.tree_weight.proofs.Weights.{Weighted, WeightedAll}
use Rattle.scorer.specs.Calls.{Lists}
use Rattle.score_leaf.specs.Asked.{Scorable}
use Rattle.score_leaf.proofs.Bounds.{scores-more}
use Rattle.score.specs.Asked.{JoinIs}
use Rattle.score.proofs.Alone.{zero-plus, group-alone, joined-alone, none_left}
use Rattle.score.proofs.Small.{score-small, score-fits, first_small, ok-weighted}
use Rattle.scorer.proofs.Leads.{rest_part}
use Rattle.walk.specs.Walks.{scored, live_scored}
use Rattle.window_words.specs.Windowed.{nowhere, required_places, optional_places, optional_bound, Windowed}
use Rattle.window_words.proofs.Laws.{windowed-less, windowed-long, windowed-kind, windowed-scores, windowed-ok, windowed-length, all-length, leaf-no-boolean}
use Rattle.window_words.proofs.Unasked.{optional-unasked}
use Rattle.bulk_scorer.specs.Collects.{RootHeld}
use Rattle.bulk_window.proofs.Lists.{map-same}
use Rattle.window_score.proofs.Alone.{sum-narrowed}
use Rattle.bulk.specs.Alone.{AloneWords}

-- ---- two scorers that match the same documents, and there score the same
module _ (ix : Index) (s t : Scorer) (m : (d : ℕ) → matches ix s d ≡ matches ix t d) (h : (d : ℕ) → matches ix t d ≡ true → scorer_score ix s d ≡ scorer_score ix t d) where
  same-scored : live_scored ix s ≡ live_scored ix t
  unfolding live_scored
  same-scored =
      map-same (λ d. is_live ix d && matches ix s d) (scored ix s) (scored ix t) ix.max_doc
      (λ d l e. ap (λ (x : Float). record { doc = d; score = x }) (h d (sym (m d) ∙ (and_parts (is_live ix d) (matches ix s d) e).1)))
      ∙ ap (λ (P : ℕ → Bool). map (scored ix t) (list_below ix.max_doc P)) (fun_ext (λ d. ap (λ (b : Bool). is_live ix d && b) (m d)))

-- ---- a required child that scores, and an optional one that is needed
module _ (ix : Index) (j : Joining) (t : Scorer) where
  abbrev required-alone : Scorer
  required-alone = boolean none j 0 (more true t end) end end

  abbrev optional_alone : Bool → Scorer
  optional_alone f = boolean none j 1 end (more f t end) end

  required-matches : (d : ℕ) → matches ix required-alone d ≡ matches ix t d
  unfolding matches all_match any_matches matching
  required-matches d = go (matches ix t d)
    where
      go : (b : Bool) → ((b && true) && not false && leb 0 0) ≡ b
      go true = refl
      go false = refl

  optional-matches : (f : Bool) (d : ℕ) → matches ix (optional_alone f) d ≡ matches ix t d
  unfolding matches all_match any_matches matching
  optional-matches f d = go (matches ix t d)
    where
      go : (b : Bool) → (true && not false && leb 1 (cond b 1 0 + 0)) ≡ b
      go true = refl
      go false = refl

  module _ (A : Accepted ix) (places : ℕ) (w : Weighted t) (S : Sound ix places t) (few : nodes t ≤ 256) (d : ℕ) where
    abbrev x : Float
    x = scorer_score ix t d

    small : AtMost (nodes t * 2 ^ 29) x
    small = score-small ix A places d t w S few

    abbrev sum : Float
    sum = add binary64 zero_float x

    sum-is : sum ≡ x
    sum-is = zero-plus x (fits_widens x (score-fits ix t d w)) small.sign

    narrowed : narrow sum ≡ x
    narrowed = sum-narrowed ix A places t w S few d zero_float refl sum refl

    required-score : scorer_score ix required-alone d ≡ x
    unfolding scorer_score required_scores scoring sum_from nodes_of Sounds WeightedAll
    required-score =
        let rs = more true t end in
        let small' = scores-more (nodes t) (nodes t + 0) sum (omega arith) (subst (λ (z : Float). AtMost (nodes t * 2 ^ 29) z) (sym sum-is) small) in
        let J : JoinIs ix j rs end d (narrow sum) = joined-alone ix d rs j (omega (arith, few)) (λ n. (first_small ix A places d n rs (w, tt) (S, tt) (omega (arith, few))).sign) sum (narrow sum) (record { is = refl; small = small' }) refl in
        sym J.is ∙ narrowed

    optional-score : (f : Bool) → matches ix t d ≡ true → scorer_score ix (optional_alone f) d ≡ x
    unfolding scorer_score required_scores optional_scores narrowed_sum sum_from
    optional-score f e =
        ap (λ (b : Bool). joined_score j [] (narrowed_sum (cond b (x ∷ []) [] ++ []))) e ∙ ap (λ (z : Float). joined_score j [] z) narrowed ∙ group-alone j x (score-fits ix t d w) small.sign

  module _ (A : Accepted ix) (places : ℕ) (w : Weighted t) (S : Sound ix places t) (few : nodes t ≤ 256) where
    required-scored : live_scored ix required-alone ≡ live_scored ix t
    required-scored = same-scored ix required-alone t required-matches (λ d e. required-score A places w S few d)

    optional-scored : (f : Bool) → live_scored ix (optional_alone f) ≡ live_scored ix t
    optional-scored f = same-scored ix (optional_alone f) t (optional-matches f) (λ d e. optional-score A places w S few d f e)

-- ---- the words behind a record
abbrev pub behind : List ℕ → List ℕ
behind states = take (length states - node_state_words) (drop node_state_words states)

pub behind-word : (states : List ℕ) → AloneWords states → (k : ℕ) → k < node_state_words → get_or (behind states) k 0 ≡ get_or states (node_state_words + k) 0
behind-word states W k h = get_or-take (length states - node_state_words) (drop node_state_words states) k 0 (omega (arith, W.long)) ∙ get_or-drop node_state_words states k 0

cut : (y r : List ℕ) → length r ≡ 0 → y ++ r ≡ y
cut y [] e = append-nil y
cut y (a ∷ r) e = absurd (omega (arith, e))

-- one part, and no words after it
behind-one : (states : List ℕ) → length states ≡ 2 * node_state_words → (s : State) (y r : List ℕ) → states ≡ words_of s ++ (y ++ r) → node_state_words ≤ length y → (behind states ≡ y) × (length r ≡ 0)
behind-one states l s y r e h =
    let n : length r ≡ 0 = omega (arith, l, ap length e, length-append y r, h) in
    (rest_part states (words_of s) (y ++ r) node_state_words e refl ∙ cut y r n, n)

scores-one : (f : Bool) (n : ℕ) → n ≡ cond f 1 0 → n ≡ 1 → f ≡ true
scores-one true n e h = refl
scores-one false n e h = absurd (omega (arith, e, h))

module _ (E : Lists) (norms live : List ℕ) (table : List Float) (ix : Index) (places depth : ℕ) (states : List ℕ) where
  pub record OnlyChild (s : Scorer) : Type 0 where
    pub child : Scorer
    pub scores : ℕ
    pub held : RootHeld E norms live table ix places child (depth - 1) scores (behind states)
    pub same : live_scored ix s ≡ live_scored ix child

  -- a child that stands behind the Boolean's record
  module _ (s : Scorer) (o : ℕ) (H : RootHeld E norms live table ix places s depth o states) (t : Scorer) (f : Bool) (y : List ℕ) (is : behind states ≡ y) (h : Windowed ix E.ranges t (depth - 1) (cond f 1 0) y 0 0 nowhere) (S : Scorable ix table places t) where
    child-weighted : Weighted t
    child-weighted = ok-weighted ix E.ranges t (depth - 1) (cond f 1 0) y 0 (windowed-ok ix E.ranges t (depth - 1) (cond f 1 0) y 0 0 nowhere (omega arith) h)

    child-held : live_scored ix s ≡ live_scored ix t → OnlyChild s
    child-held e =
        record {
          child = t;
          scores = cond f 1 0;
          held = record { lends = H.lends; norms-are = H.norms-are; live-are = H.live-are; scorable = S; held = subst (λ (w : List ℕ). Windowed ix E.ranges t (depth - 1) (cond f 1 0) w 0 0 nowhere) (sym is) h };
          same = e;
        }

  module _ (W : AloneWords states) where
    -- of the children's words none are left but the first child's
    pub only-child : (s : Scorer) (o : ℕ) → RootHeld E norms live table ix places s depth o states → OnlyChild s
    unfolding Windowed KeptIs sizes_of Sound Sounds Tables TablesOf nodes nodes_of
    only-child (leaf l sc) o H = absurd (leaf-no-boolean l sc (sym (windowed-kind ix E.ranges (leaf l sc) depth o states 0 0 nowhere H.held) ∙ W.kind-is))
    only-child (boolean (some c) j need rs os ps) o H = let p = H.held in absurd (omega (arith, p.7.kept.0, ap (λ (i : List ℕ). get_or i 11 0) p.4, W.kept))
    only-child (boolean none j need end end ps) o H = let p = H.held in absurd (omega (arith, p.7.optional-end, ap (λ (i : List ℕ). get_or i 5 0) p.4, W.optional-end))
    only-child (boolean none j need end (more f t g) ps) o H =
        let T : Scorer = boolean none j need end (more f t g) ps in
        let p = H.held in
        let q = optional-unasked ix E.ranges T need (more f t g) (depth - 1) p.2 0 p.11 in
        let e : states ≡ words_of p.0 ++ (q.0 ++ (q.1 ++ p.3)) = p.4 ∙ ap (λ (i : List ℕ). words_of p.0 ++ (i ++ (p.2 ++ p.3))) p.10 ∙ ap (λ (i : List ℕ). words_of p.0 ++ (i ++ p.3)) q.2 ∙ ap (λ (i : List ℕ). words_of p.0 ++ i) (append_assoc q.0 q.1 p.3) in
        let B = behind-one states W.long p.0 q.0 (q.1 ++ p.3) e (windowed-long ix E.ranges t (depth - 1) (cond f 1 0) q.0 0 0 nowhere q.3) in
        let n : length q.1 + length p.3 ≡ 0 = sym (length-append q.1 p.3) ∙ B.1 in
        let g-end : g ≡ end = none_left g (omega (arith, n, all-length ix E.ranges g (depth - 1) q.1 0 0 nowhere q.4)) in
        let p-end : ps ≡ end = none_left ps (omega (arith, n, all-length ix E.ranges ps (depth - 1) p.3 0 0 nowhere p.12)) in
        let zero : get_or states 4 0 ≡ 0 = ap (λ (i : List ℕ). get_or i 4 0) p.4 ∙ p.7.required-end in
        let one : need ≡ 1 = sym p.7.need-is ∙ sym (ap (λ (i : List ℕ). get_or i 3 0) p.4) ∙ W.optional zero in
        let S : Scorable ix table places t = record { sound = H.scorable.sound.1.0; tables = H.scorable.tables.1.0; few = omega (arith, H.scorable.few) } in
        let tree : T ≡ boolean none j 1 end (more f t end) end = ap (λ (i : ℕ). boolean none j i end (more f t g) ps) one ∙ ap (λ (i : Scorers). boolean none j 1 end (more f t i) ps) g-end ∙ ap (λ (i : Scorers). boolean none j 1 end (more f t end) i) p-end in
        child-held T o H t f q.0 B.0 q.3 S (ap (live_scored ix) tree ∙ optional-scored ix j t H.lends.accepted places (child-weighted T o H t f q.0 B.0 q.3 S) S.sound S.few f)
    only-child (boolean none j need (more f t g) os ps) o H =
        let T : Scorer = boolean none j need (more f t g) os ps in
        let p = H.held in
        let q = p.10 in
        let own = windowed-less ix E.ranges t (depth - 1) (cond f 1 0) q.0 0 0 (required_places ix T 0 nowhere) nowhere (λ i l h. absurd (false≢true h)) q.3 in
        let e : states ≡ words_of p.0 ++ (q.0 ++ (q.1 ++ (p.2 ++ p.3))) = p.4 ∙ ap (λ (i : List ℕ). words_of p.0 ++ (i ++ (p.2 ++ p.3))) q.2 ∙ ap (λ (i : List ℕ). words_of p.0 ++ i) (append_assoc q.0 q.1 (p.2 ++ p.3)) in
        let long = windowed-long ix E.ranges t (depth - 1) (cond f 1 0) q.0 0 0 nowhere own in
        let B = behind-one states W.long p.0 q.0 (q.1 ++ (p.2 ++ p.3)) e long in
        let n : length q.1 + (length p.2 + length p.3) ≡ 0 = omega (arith, B.1, length-append q.1 (p.2 ++ p.3), length-append p.2 p.3) in
        let g-end : g ≡ end = none_left g (omega (arith, n, all-length ix E.ranges g (depth - 1) q.1 0 0 (required_places ix T 0 nowhere) q.4)) in
        let o-end : os ≡ end = none_left os (omega (arith, n, all-length ix E.ranges os (depth - 1) p.2 (optional_bound need 0 0) 0 (optional_places ix T need 0 nowhere) p.11)) in
        let p-end : ps ≡ end = none_left ps (omega (arith, n, all-length ix E.ranges ps (depth - 1) p.3 0 0 nowhere p.12)) in
        let size : length q.0 ≡ size_of t = windowed-length ix E.ranges t (depth - 1) (cond f 1 0) q.0 0 0 nowhere own in
        let some_words : get_or states 4 0 ≡ 0 → ⊥ = λ z. omega (arith, z, ap (λ (i : List ℕ). get_or i 4 0) p.4, p.7.required-end, size, long) in
        let zero : need ≡ 0 = sym p.7.need-is ∙ sym (ap (λ (i : List ℕ). get_or i 3 0) p.4) ∙ W.need-is some_words in
        let m : f ≡ true = scores-one f (get_or q.0 15 0) (windowed-scores ix E.ranges t (depth - 1) (cond f 1 0) q.0 0 0 nowhere own) (ap (λ (i : List ℕ). get_or i 15 0) (sym B.0) ∙ behind-word states W 15 (omega arith) ∙ W.scores some_words) in
        let S : Scorable ix table places t = record { sound = H.scorable.sound.0.0; tables = H.scorable.tables.0.0; few = omega (arith, H.scorable.few) } in
        let tree : T ≡ boolean none j 0 (more true t end) end end = ap (λ (i : ℕ). boolean none j i (more f t g) os ps) zero ∙ ap (λ (i : Bool). boolean none j 0 (more i t g) os ps) m ∙ ap (λ (i : Scorers). boolean none j 0 (more true t i) os ps) g-end ∙ ap (λ (i : Scorers). boolean none j 0 (more true t end) i ps) o-end ∙ ap (λ (i : Scorers). boolean none j 0 (more true t end) end i) p-end in
        child-held T o H t f q.0 B.0 own S (ap (live_scored ix) tree ∙ required-scored ix j t H.lends.accepted places (child-weighted T o H t f q.0 B.0 own S) S.sound S.few)

-- The part by whose root the loop is chosen: its live matches with their scores are the tree's.
module _ (E : Lists) (norms live : List ℕ) (table : List Float) (places depth : ℕ) (states : List ℕ) where
  pub record PartOf (part : List ℕ) (ix : Index) (s : Scorer) : Type 0 where
    pub child : Scorer
    pub deep : ℕ
    pub scores : ℕ
    pub held : RootHeld E norms live table ix places child deep scores part
    pub same : live_scored ix s ≡ live_scored ix child

  abbrev pub Part : List ℕ → Type 0
  Part part = (ix : Index) (s : Scorer) (o : ℕ) → RootHeld E norms live table ix places s depth o states → PartOf part ix s

  pub whole-part : (at : ℕ) → at ≡ 0 → Part (take (length states - at) (drop at states))
  whole-part at e = let all : take (length states - 0) (drop 0 states) ≡ states = take_all (length states - 0) states (omega arith) in rw (e, all) (λ ix s o H. record { child = s; deep = depth; scores = o; held = H; same = refl })

  pub alone-part : AloneWords states → (at : ℕ) → at ≡ node_state_words → Part (take (length states - at) (drop at states))
  alone-part W at e = rw e (λ ix s o H. let O = only-child E norms live table ix places depth states W s o H in record { child = O.child; deep = depth - 1; scores = O.scores; held = O.held; same = O.same })
