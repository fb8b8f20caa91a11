-- What a phrase answers of a window: its terms' documents where it stands, and its frequencies as two planes. Assumes nothing.
use Rattle.std.proofs.Common.{◌≡◌, refl, sym, ap, ap₂, subst, ◌∙◌, Bool, true, false, cond, ◌&&◌, ◌||◌, ⊎_elim, List, ◌++◌, append-nil, ℕ, ◌+◌, ◌-◌, ◌*◌, ◌/◌, ◌%◌, ◌≤◌, ◌<◌, min, ltb, length, get_or, set, take, drop, arith, lt-ltb, le-ltb, ltb-false}
use Rattle.std.proofs.lemmas.Bool.{eqb-false, false≢true, and_parts}
use lib.Seq.{drop-length}
use Rattle.meaning.specs.Limits.{node_state_words}
use Rattle.meaning.specs.Lent.{Index}
use Rattle.meaning.specs.Phrase.{PhraseTerm, phrase_frequency}
use Rattle.meaning.proofs.Tests.{decided}
use Rattle.tree_weight.specs.ScorerTree.{nothing, term, phrase, range, everything, Scoring, constant, weighted, Scorer, leaf, boolean, leaf_matches, matches}
use Rattle.tree_weight.specs.State.{State, words_of}
use Rattle.tree_weight.specs.Held.{ScoringIs}
use Rattle.tree_weight.specs.Sound.{LeafSound, Sound}
use Rattle.bits.specs.Bit.{bit}
use Rattle.bits.proofs.Laws.{halves-joined}
use Rattle.scorer_leaf.specs.Calls.{Lists, RoomIn}
use Rattle.scorer_leaf.specs.Phrases.{all_found}
use Rattle.scorer_leaf.proofs.PhraseLaws.{behind-part, leaves-there, lacking}
use Rattle.window_words.specs.Windowed.{nowhere, places_of, two_words, phrase_places, TermsWindowed, PhraseWindowed, LeafWindowed, Windowed}
use Rattle.window_words.proofs.Laws.{kind_of, windowed-kind}
use Rattle.window_leaf.specs.Asks.{Answers, NodeWindowed, PhraseBitsPre, PhraseBitsPost}
use Rattle.window_leaf.specs.Runs.{run_answered, PutPre, PutPost}
use Rattle.window_leaf.specs.Phrases.{TermsBitsHeld, TermsBitsPre, TermsPost, PhraseAsked, PlanesAre, PlanesPre, PlanesPost}
use Rattle.window_leaf.proofs.Records.{stored-bits, scoring-kept}
use Rattle.window_leaf.proofs.TermLaws.{terms-less}

-- ---- two digits of a frequency
-- some digit is set where the phrase stands
digits-some : (a b : Bool) (n : ℕ) → cond a 1 0 + 2 * cond b 1 0 ≡ min 3 n → (a || b) ≡ ltb 0 n
digits-some true true n e = sym (lt-ltb 0 n (omega (arith, e)))
digits-some true false n e = sym (lt-ltb 0 n (omega (arith, e)))
digits-some false true n e = sym (lt-ltb 0 n (omega (arith, e)))
digits-some false false n e = sym (le-ltb 0 n (omega (arith, e)))

and-lost : (a b c : Bool) → (a && b) ≡ false → (b ≡ false → c ≡ false) → (a && c) ≡ false
and-lost true b c e f = f e
and-lost false b c e f = refl

-- a record with other planes
abbrev pub planed : State → ℕ → ℕ → ℕ → ℕ → State
planed s ones_low ones_high twos_low twos_high = record s { ones_low = ones_low; ones_high = ones_high; twos_low = twos_low; twos_high = twos_high }

scoring-planed : (sc : Scoring) (s : State) (a b c d : ℕ) → ScoringIs sc s → ScoringIs sc (planed s a b c d)
unfolding ScoringIs
scoring-planed (constant x) s a b c d h = h
scoring-planed (weighted x) s a b c d h = h

-- ---- the words of a phrase
-- those of its terms are put back
terms-back : (s : State) (w states ys : List ℕ) → states ≡ words_of s ++ w → take node_state_words states ++ (ys ++ drop (length states - node_state_words) (drop node_state_words states)) ≡ words_of s ++ ys
terms-back s w states ys e = let size : length states - node_state_words ≡ length w = omega (arith, ap length e) in rw (size, e, drop-length, append-nil)

-- the planes are stored
planes-back : (s : State) (ys y : List ℕ) (a b c d : ℕ) → y ≡ words_of s ++ ys → set (set (set (set y 23 a) 24 b) 25 c) 26 d ≡ words_of (planed s a b c d) ++ ys
planes-back s ys y a b c d e = rw e

-- ---- a node whose first word is 2
module _ (E : Lists) (ix : Index) (places k o : ℕ) (states : List ℕ) (base : ℕ) where
  -- .. is a phrase
  pub phrase-of : get_or states 0 0 ≡ 2 → (s : Scorer) → NodeWindowed E ix places s k o states base → (f : ℕ) × (ts : List PhraseTerm) × (sc : Scoring) × (s ≡ leaf (phrase f ts) sc)
  unfolding kind_of
  phrase-of e s h = go s (sym (windowed-kind ix E.ranges s k o states base base nowhere h.held) ∙ e)
    where
      go : (s : Scorer) → kind_of s ≡ 2 → (f : ℕ) × (ts : List PhraseTerm) × (sc : Scoring) × (s ≡ leaf (phrase f ts) sc)
      go (leaf nothing sc) n = absurd (eqb-false 0 2 refl n)
      go (leaf (term l) sc) n = absurd (eqb-false 1 2 refl n)
      go (leaf (phrase f ts) sc) n = (f, ts, sc, refl)
      go (leaf (range r) sc) n = absurd (eqb-false 4 2 refl n)
      go (leaf everything sc) n = absurd (eqb-false 5 2 refl n)
      go (boolean c j need rs os ps) n = absurd (eqb-false 3 2 refl n)

  module _ (f : ℕ) (ts : List PhraseTerm) (sc : Scoring) (h : NodeWindowed E ix places (leaf (phrase f ts) sc) k o states base) where
    -- its record, and the words of its terms
    phrase-front : (s : State) × (w : List ℕ) × (states ≡ words_of s ++ w) × (s.scores ≡ o) × PhraseWindowed ix f ts s w base base nowhere × (s.cached ≡ 0) × ScoringIs sc s
    unfolding Windowed LeafWindowed
    phrase-front = let p = h.held in (p.0, p.1, p.2, p.3, p.4.0, p.4.1, p.5)

    pub phrase-long : node_state_words ≤ length states
    phrase-long = omega (arith, ap length phrase-front.2)

    phrase-sound : LeafSound ix places (phrase f ts)
    unfolding Sound
    phrase-sound = h.sound

    pub phrase-terms : {postings : List ℕ} → E.postings ≡ postings → TermsBitsHeld postings ix ts (take (length states - node_state_words) (drop node_state_words states)) base
    unfolding LeafSound
    phrase-terms e =
        let p = phrase-front in
        record {
          accepted = h.lends.accepted;
          postings-are = h.lends.postings-are ∙ e;
          there = leaves-there ix f places ts phrase-sound.4;
          held = rw (behind-part p.0 states p.1 p.2) (terms-less ix ts p.1 base base base (phrase_places ix ts base nowhere) nowhere (omega arith) (λ q l i. absurd (false≢true i)) p.4.terms);
        }

    -- ---- the terms were asked: r are the wanted documents of all
    module _ {postings positions : List ℕ} (ep : E.postings ≡ postings) (eq : E.positions ≡ positions) (want r next : ℕ) (ys : List ℕ) (asked : TermsPost postings (take (length states - node_state_words) (drop node_state_words states)) base want r next ys) where
      terms-answer : Answers (all_found ix ts) base (places_of want) r next × TermsWindowed ix ts ys (base + 64) base (places_of r)
      terms-answer = asked ix ts (phrase-terms ep)

      -- the node's words then
      abbrev pub states₁ : List ℕ
      states₁ = take node_state_words states ++ (ys ++ drop (length states - node_state_words) (drop node_state_words states))

      words₁ : states₁ ≡ words_of phrase-front.0 ++ ys
      words₁ = let p = phrase-front in terms-back p.0 p.1 states ys p.2

      pub asked-long : node_state_words ≤ length states₁
      asked-long = omega (arith, ap length words₁)

      pub phrase-asked : PhraseAsked postings positions ix places f ts base (places_of r) (take (length states₁ - node_state_words) (drop node_state_words states₁))
      unfolding LeafSound
      phrase-asked =
          record {
            asked = record {
              accepted = h.lends.accepted;
              postings-are = h.lends.postings-are ∙ ep;
              there = leaves-there ix f places ts phrase-sound.4;
              bound = base + 64;
              held = rw (behind-part phrase-front.0 states₁ ys words₁) terms-answer.1;
              all = λ q l i. (and_parts (bit q want) (all_found ix ts (base + q)) (sym (terms-answer.0.bits q l) ∙ i)).1;
            };
            positions-are = h.lends.positions-are ∙ eq;
            sound = phrase-sound;
          }

      -- ---- the planes, and the places where some digit is set
      module _ (ones twos w : ℕ) (planes : PlanesAre ix ts base r ones twos) (some : (q : ℕ) → bit q w ≡ (bit q ones || bit q twos)) where
        abbrev Stands : ℕ → Bool
        Stands q = ltb 0 (phrase_frequency ix ts (base + q))

        -- a wanted place that is no candidate
        absent : (q : ℕ) → q < 64 → bit q want ≡ true → bit q r ≡ false → Stands q ≡ false
        absent q l i n = lacking ix ts (base + q) (sym (ap (λ (b : Bool). b && all_found ix ts (base + q)) i) ∙ sym (terms-answer.0.bits q l) ∙ n)

        phrase-bit : (q : ℕ) → q < 64 → bit q w ≡ (bit q want && Stands q)
        phrase-bit q l = ⊎_elim yes no (decided (bit q r))
          where
            yes : bit q r ≡ true → bit q w ≡ (bit q want && Stands q)
            yes e =
                let wanted : bit q want ≡ true = (and_parts (bit q want) (all_found ix ts (base + q)) (sym (terms-answer.0.bits q l) ∙ e)).0 in
                some q ∙ digits-some (bit q ones) (bit q twos) (phrase_frequency ix ts (base + q)) (planes.there q l e) ∙ sym (ap (λ (b : Bool). b && Stands q) wanted)

            no : bit q r ≡ false → bit q w ≡ (bit q want && Stands q)
            no e =
                some q ∙ ap₂ (λ (a b : Bool). a || b) (planes.no-ones q l e) (planes.no-twos q l e)
                ∙ sym (and-lost (bit q want) (all_found ix ts (base + q)) (Stands q) (sym (terms-answer.0.bits q l) ∙ e) (lacking ix ts (base + q)))

        -- a place where the phrase stands is a candidate
        candidate : (q : ℕ) → q < 64 → (bit q want && Stands q) ≡ true → bit q r ≡ true
        candidate q l e = ⊎_elim (λ i. i) (λ n. absurd (false≢true (sym (absent q l (and_parts (bit q want) (Stands q) e).0 n) ∙ (and_parts (bit q want) (Stands q) e).1))) (decided (bit q r))

        phrase-digits : (q : ℕ) → q < 64 → bit q want ≡ true → cond (bit q ones) 1 0 + 2 * cond (bit q twos) 1 0 ≡ min 3 (phrase_frequency ix ts (base + q))
        phrase-digits q l i = ⊎_elim (planes.there q l) none (decided (bit q r))
          where
            none : bit q r ≡ false → cond (bit q ones) 1 0 + 2 * cond (bit q twos) 1 0 ≡ min 3 (phrase_frequency ix ts (base + q))
            none n =
                let zero-there : phrase_frequency ix ts (base + q) ≤ 0 = ltb-false 0 (phrase_frequency ix ts (base + q)) (absent q l i n) in
                ap₂ (λ (a b : Bool). cond a 1 0 + 2 * cond b 1 0) (planes.no-ones q l n) (planes.no-twos q l n) ∙ omega (arith, zero-there)

        -- ---- the planes are stored in two halves each, and then the answer
        module _ (a b c d : ℕ) (ea : a ≡ ones % 4294967296) (eb : b ≡ ones / 4294967296) (ec : c ≡ twos % 4294967296) (ed : d ≡ twos / 4294967296) where
          pub planes-stored : PutPre (set (set (set (set states₁ 23 a) 24 b) 25 c) 26 d)
          planes-stored = (planed phrase-front.0 a b c d, ys, planes-back phrase-front.0 ys states₁ a b c d words₁)

          ones-joined : two_words a b ≡ ones
          ones-joined = rw (ea, eb) (halves-joined ones)

          twos-joined : two_words c d ≡ twos
          twos-joined = rw (ec, ed) (halves-joined twos)

          module _ (states' : List ℕ) (post : PutPost (set (set (set (set states₁ 23 a) 24 b) 25 c) 26 d) w next states') where
            abbrev state' : State
            state' = run_answered (planed phrase-front.0 a b c d) w next

            words' : states' ≡ words_of state' ++ ys
            words' = post (planed phrase-front.0 a b c d) ys (planes-back phrase-front.0 ys states₁ a b c d words₁)

            next-read : get_or states' 22 0 ≡ next
            next-read = ap (λ (l : List ℕ). get_or l 22 0) words'

            phrase-answers : Answers (λ x. ltb 0 (phrase_frequency ix ts x)) base (places_of want) w (get_or states' 22 0)
            phrase-answers = record { bits = phrase-bit; gap = λ x i j. lacking ix ts x (terms-answer.0.gap x i (omega (arith, next-read, j))); top = omega (arith, next-read, terms-answer.0.top) }

            pub phrase-leaf : Answers (matches ix (leaf (phrase f ts) sc)) base (places_of want) w (get_or states' 22 0) × Windowed ix E.ranges (leaf (phrase f ts) sc) k o states' (base + 64) base (places_of want)
            unfolding matches leaf_matches Windowed LeafWindowed
            phrase-leaf =
                let p = phrase-front in (
                  phrase-answers,
                  (
                    state',
                    ys,
                    words',
                    p.3,
                    (
                      record {
                        kind-is = p.4.kind-is;
                        size_is = p.4.size_is;
                        field_is = p.4.field_is;
                        norms-is = p.4.norms-is;
                        terms = terms-less ix ts ys (base + 64) (base + 64) base (places_of r) (phrase_places ix ts base (places_of want)) (omega arith) candidate terms-answer.1;
                        frequencies = λ q l i. ap₂ (λ (x y : ℕ). cond (bit q x) 1 0 + 2 * cond (bit q y) 1 0) ones-joined twos-joined ∙ phrase-digits q l i;
                        worked-out = p.4.worked-out;
                      },
                      p.5,
                    ),
                    scoring-kept sc (planed p.0 a b c d) p.0.cursor p.0.window_first w next (scoring-planed sc p.0 a b c d p.6),
                    λ q l i. stored-bits (planed p.0 a b c d) p.0.cursor p.0.window_first w next q ∙ phrase-bit q l ∙ ap (λ (x : Bool). x && Stands q) i,
                  ),
                )

-- ---- what is required gives a phrase
pub record Given (postings positions : List ℕ) (starts other_starts : ℕ) (states : List ℕ) (base : ℕ) : Type 0 where
  pub lent-with : Lists
  pub index : Index
  pub places : ℕ
  pub depth : ℕ
  pub scores : ℕ
  pub field : ℕ
  pub terms : List PhraseTerm
  pub scoring : Scoring
  pub postings-are : lent-with.postings ≡ postings
  pub positions-are : lent-with.positions ≡ positions
  pub room : RoomIn places starts other_starts
  pub node : NodeWindowed lent-with index places (leaf (phrase field terms) scoring) depth scores states base

module _ {postings positions : List ℕ} {starts other_starts : ℕ} {states : List ℕ} {base : ℕ} where
  pub phrase-given : PhraseBitsPre postings positions starts other_starts states base → Given postings positions starts other_starts states base
  phrase-given R =
      let P = R.2 in
      let q = phrase-of P.0 P.3 P.4 P.6 P.7 states base R.1 P.5 P.9 in
      record {
        lent-with = P.0;
        index = P.3;
        places = P.4;
        depth = P.6;
        scores = P.7;
        field = q.0;
        terms = q.1;
        scoring = q.2;
        postings-are = P.1;
        positions-are = P.2;
        room = P.8;
        node = subst (λ (s : Scorer). NodeWindowed P.0 P.3 P.4 s P.6 P.7 states base) q.3 P.9;
      }

  module _ (R : PhraseBitsPre postings positions starts other_starts states base) where
    g : Given postings positions starts other_starts states base
    g = phrase-given R

    pub given-long : node_state_words ≤ length states
    given-long = phrase-long g.lent-with g.index g.places g.depth g.scores states base g.field g.terms g.scoring g.node

    pub given-terms : TermsBitsPre postings (take (length states - node_state_words) (drop node_state_words states)) base
    given-terms = (R.0, (g.index, g.terms, phrase-terms g.lent-with g.index g.places g.depth g.scores states base g.field g.terms g.scoring g.node g.postings-are))

    module _ (want r next : ℕ) (ys : List ℕ) (asked : TermsPost postings (take (length states - node_state_words) (drop node_state_words states)) base want r next ys) where
      -- the words after the terms were asked
      abbrev pub given-words : List ℕ
      given-words = take node_state_words states ++ (ys ++ drop (length states - node_state_words) (drop node_state_words states))

      pub given-asked-long : node_state_words ≤ length given-words
      given-asked-long = asked-long g.lent-with g.index g.places g.depth g.scores states base g.field g.terms g.scoring g.node g.postings-are g.positions-are want r next ys asked

      pub given-planes : PlanesPre postings positions (take (length given-words - node_state_words) (drop node_state_words given-words)) starts other_starts base r
      given-planes = (g.index, g.places, g.field, g.terms, g.room.in-starts, g.room.in-other, phrase-asked g.lent-with g.index g.places g.depth g.scores states base g.field g.terms g.scoring g.node g.postings-are g.positions-are want r next ys asked)

      module _ (ones twos w : ℕ) (planes : PlanesPost postings positions (take (length given-words - node_state_words) (drop node_state_words given-words)) base r ones twos) (some : (q : ℕ) → bit q w ≡ (bit q ones || bit q twos))
          (x y u v : ℕ) (ex : x ≡ ones % 4294967296) (ey : y ≡ ones / 4294967296) (eu : u ≡ twos % 4294967296) (ev : v ≡ twos / 4294967296) where
        pub given-put : PutPre (set (set (set (set given-words 23 x) 24 y) 25 u) 26 v)
        given-put =
            let asked-terms = phrase-asked g.lent-with g.index g.places g.depth g.scores states base g.field g.terms g.scoring g.node g.postings-are g.positions-are want r next ys asked in
            planes-stored g.lent-with g.index g.places g.depth g.scores states base g.field g.terms g.scoring g.node g.postings-are g.positions-are want r next ys asked ones twos w
            (planes g.index g.places g.field g.terms asked-terms) some x y u v ex ey eu ev

        pub given-answer : (states' : List ℕ) → PutPost (set (set (set (set given-words 23 x) 24 y) 25 u) 26 v) w next states' → PhraseBitsPost postings positions states base want w states'
        given-answer states' post E k ep eq ix places s o h =
            let q = phrase-of E ix places k o states base R.1 s h in
            let own : NodeWindowed E ix places (leaf (phrase q.0 q.1) q.2) k o states base = subst (λ (t : Scorer). NodeWindowed E ix places t k o states base) q.3 h in
            let asked-terms = phrase-asked E ix places k o states base q.0 q.1 q.2 own ep eq want r next ys asked in
            subst (λ (t : Scorer). Answers (matches ix t) base (places_of want) w (get_or states' 22 0) × Windowed ix E.ranges t k o states' (base + 64) base (places_of want)) (sym q.3)
            (phrase-leaf E ix places k o states base q.0 q.1 q.2 own ep eq want r next ys asked ones twos w (planes ix places q.0 q.1 asked-terms) some x y u v ex ey eu ev states' post)
