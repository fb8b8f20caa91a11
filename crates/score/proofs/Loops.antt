-- The two loops over the children, in the words of their contracts: the required that score, and the optional that stand at the document. Assumes nothing.
use mathlib.Core.Path.{◌≡◌, refl, sym, ap, subst, ◌∙◌}
use mathlib.Core.Bool.{Bool, true, false, not, cond}
use mathlib.Core.List.{List, ◌++◌}
use Prim.Native.Nat.{ℕ, ◌+◌, ◌-◌, ◌*◌, ◌^◌, ◌≤◌, ◌<◌, min}
use mathlib.Core.Logic.{⊎_elim}
use native.Mathlib.Nat.{le_refl, eq-or-lt_of_le}
use native.Mathlib.Omega.{arith}
use lib.Dec.{T}
use lib.ListN.{get_or, length, take, drop}
use lib.Ieee.{Float, binary64, is_nan, add}
use Rattle.meaning.specs.Limits.{no_more_docs}
use Rattle.meaning.specs.Lent.{Index}
use Rattle.meaning.specs.First.{First}
use Rattle.meaning.specs.Ieee754.{zero_float, sum_from}
use Rattle.ieee754.specs.Nonneg.{AtMost}
use Rattle.ieee754.proofs.Bounds.{atmost-number, zero-atmost}
use Rattle.tree_weight.specs.ScorerTree.{Scorer, Scorers, more, matches, all_match}
use Rattle.tree_weight.specs.Held.{Oks}
use Rattle.tree_weight.specs.Sound.{nodes_of}
use Rattle.tree_node.specs.Words.{ChildThere}
use Rattle.scorer.specs.Calls as scorer
use Rattle.scorer.specs.Calls.{lists_of, AdvancePre, AdvancePost}
use Rattle.scorer_leaf.specs.declared.LeafReader.{LeafReader}
use Rattle.scorer_leaf.specs.declared.PhraseBuffers.{PhraseBuffers}
use Rattle.scorer_leaf.specs.Buffers.{places_in, SameBuffers}
use Rattle.score.specs.Asked.{Scorables, RequiredScorePre, RequiredScorePost, OptionalScorePre, OptionalScorePost}
use Rattle.score_leaf.specs.Asked.{LentAt, Scorable, ScorePre, ScorePost, TermScorePre, TermScorePost}
use Rattle.score.proofs.Parts.{part_same}
use Rattle.score.proofs.Sums.{counted, scores-word, matches-at, required-counted, optional-counted, required-matched, optional-matched, SumAt, sum-start, sum-end, sum-open, sum-there, sum-scores, sum-size, sum-kind, sum-scorable, sum-matched, sum-part, sum-part-kind, sum-renewed, sum-skipped, sum-took}

-- the phrase buffers keep their lengths
pub places_same : {b b' : PhraseBuffers} → SameBuffers b b' → places_in b' ≡ places_in b
places_same s = omega (arith, s.starts_length, s.other_starts_length)

pub scorable-at : {ix : Index} {table : List Float} {places places' : ℕ} {S : Scorer} → places' ≡ places → Scorable ix table places S → Scorable ix table places' S
scorable-at {ix} {table} {S = S} e p = subst (λ (i : ℕ). Scorable ix table i S) (sym e) p

must-score : (f : Bool) (w : ℕ) → w ≡ cond f 1 0 → w ≡ 1 → f ≡ true
must-score true w e h = refl
must-score false w e h = absurd (omega arith)

no-score : (f : Bool) (w : ℕ) → w ≡ cond f 1 0 → (w ≡ 1 → ⊥) → f ≡ false
no-score true w e h = absurd (h e)
no-score false w e h = refl

-- another part in the place of the one at at
abbrev pub put : List ℕ → ℕ → ℕ → List ℕ → List ℕ
put kids at e ys = take at kids ++ (ys ++ drop (e - at) (drop at kids))

-- the required children before the place are summed
pub record RequiredAt (kids₀ : List ℕ) (start : Float) (reader : LeafReader) (places doc depth : ℕ) (kids : List ℕ) (at : ℕ) (sum : Float) : Type 0 where
  pub of : (ix : Index) (ss : Scorers) (p : ℕ) → LentAt ix reader.max_doc reader.postings.now reader.positions.now reader.norms.now doc → Scorables ix reader.inverses.now places p ss → all_match ix ss doc ≡ true → Oks ix reader.ranges.now ss depth kids₀ doc → AtMost (p * 2 ^ 29) start → (g : Scorers) × SumAt scores-word ix reader.ranges.now reader.inverses.now places depth doc ss (sum_from start (counted scores-word ix ss doc)) (p + nodes_of ss) g kids at sum

pub required-start : {kids₀ : List ℕ} {start : Float} {reader : LeafReader} {places doc depth : ℕ} → RequiredAt kids₀ start reader places doc depth kids₀ 0 start
required-start {kids₀} {start} {reader} {places} {doc} {depth} = record { of = λ ix ss p L S m o a. (ss, sum-start scores-word ix reader.ranges.now reader.inverses.now places depth doc ss start p kids₀ o a S.sound S.tables (required-matched ix ss doc m)) }

module _ {kids₀ : List ℕ} {start : Float} {reader : LeafReader} {places doc depth : ℕ} {kids : List ℕ} {at : ℕ} {sum : Float} (I : RequiredAt kids₀ start reader places doc depth kids at sum) where
  abbrev Asked : Type 0
  Asked = RequiredScorePre kids₀ start reader places doc depth

  abbrev Again : List ℕ → ℕ → Float → Type 0
  Again kids at sum = RequiredAt kids₀ start reader places doc depth kids at sum

  pub required-end : length kids ≤ at → RequiredScorePost kids₀ start reader places doc depth sum kids
  required-end l ix ss p L S m o a =
      let i = I.of ix ss p L S m o a in
      let e = sum-end S.few i.0 i.1 l in
      (record { is = e.0 ∙ ap (λ (xs : List Float). sum_from start xs) (required-counted ix ss doc); small = e.1 }, e.2)

  module _ (l : at < length kids) where
    -- the child at the place
    abbrev open_at : (ix : Index) (ss : Scorers) (p : ℕ) → LentAt ix reader.max_doc reader.postings.now reader.positions.now reader.norms.now doc → Scorables ix reader.inverses.now places p ss → all_match ix ss doc ≡ true → Oks ix reader.ranges.now ss depth kids₀ doc → AtMost (p * 2 ^ 29) start → (f : Bool) × (S : Scorer) × (g : Scorers) × SumAt scores-word ix reader.ranges.now reader.inverses.now places depth doc ss (sum_from start (counted scores-word ix ss doc)) (p + nodes_of ss) (more f S g) kids at sum
    open_at ix ss p L S m o a = let i = I.of ix ss p L S m o a in sum-open i.0 i.1 l

    pub required_there : Asked → ChildThere kids at
    required_there P =
        let o = open_at P.0 P.1 P.2 P.3 P.4 P.5 P.6 P.7 in
        sum-there o.3

    module _ {e : ℕ} (stop : e ≡ at + get_or kids (at + 1) 0) where
      pub required-skip : (get_or kids (at + 15) 0 ≡ 1 → ⊥) → Again kids e sum
      required-skip w =
          record {
            of = λ ix ss p L S m o a.
                let i = open_at ix ss p L S m o a in
                (i.2, sum-skipped i.3 (no-score i.0 (get_or kids (at + 15) 0) (sum-scores i.3) w) e stop);
          }

      module _ (w : get_or kids (at + 15) 0 ≡ 1) {places' : ℕ} (same : places' ≡ places) where
        pub required-child : Asked → ScorePre (take (e - at) (drop at kids)) reader.max_doc reader.postings.now reader.positions.now reader.norms.now reader.ranges.now reader.inverses.now places' doc depth
        required-child P =
            let ix = P.0 in
            let ss = P.1 in
            let o = open_at ix ss P.2 P.3 P.4 P.5 P.6 P.7 in
            let f : o.0 ≡ true = must-score o.0 (get_or kids (at + 15) 0) (sum-scores o.3) w in
            (ix, o.1, cond o.0 1 0, P.3, scorable-at same (sum-scorable o.3 P.4.few), sum-matched o.3 f, sum-part o.3 e stop)

        pub required-term : get_or kids at 0 ≡ 1 → Asked → TermScorePre (take (e - at) (drop at kids)) reader.postings.now reader.norms.now reader.inverses.now doc
        required-term t P =
            let ix = P.0 in
            let ss = P.1 in
            let o = open_at ix ss P.2 P.3 P.4 P.5 P.6 P.7 in
            (sum-part-kind o.3 e stop ∙ sym (sum-kind o.3) ∙ t, (reader.max_doc, reader.positions.now, reader.ranges.now, places', depth, required-child P))

        module _ (r : Float) (ys : List ℕ) (post : ScorePost (take (e - at) (drop at kids)) reader.max_doc reader.postings.now reader.positions.now reader.norms.now reader.ranges.now reader.inverses.now places' doc depth r ys) where
          pub required-number : Asked → T (not (is_nan r))
          required-number P = let q = required-child P in atmost-number (post q.0 q.1 q.2 q.3 q.4 q.5 q.6).0.small

          pub required-took : (sum' : Float) → sum' ≡ add binary64 sum r → Again (put kids at e ys) e sum'
          required-took sum' s =
              record {
                of = λ ix ss p L S m o a.
                    let i = open_at ix ss p L S m o a in
                    let f : i.0 ≡ true = must-score i.0 (get_or kids (at + 15) 0) (sum-scores i.3) w in
                    let q = post ix i.1 (cond i.0 1 0) L (scorable-at same (sum-scorable i.3 S.few)) (sum-matched i.3 f) (sum-part i.3 e stop) in
                    let z = sum-renewed i.3 e stop ys q.1 in
                    let h : e ≡ at + get_or (put kids at e ys) (at + 1) 0 = stop ∙ ap (λ (x : ℕ). at + x) (sum-size i.3 ∙ sym (sum-size z)) in
                    (i.2, rw s (sum-took z S.few f e h r q.0));
              }

        -- a term's part stays as it is
        pub required-term-took : (r : Float) → TermScorePost (take (e - at) (drop at kids)) reader.postings.now reader.norms.now reader.inverses.now doc r → (sum' : Float) → sum' ≡ add binary64 sum r → Again kids e sum'
        required-term-took r post sum' s = subst (λ (l : List ℕ). Again l e sum') (part_same kids at e) (required-took r (take (e - at) (drop at kids)) (post reader.max_doc reader.positions.now reader.ranges.now places' depth) sum' s)

-- the optional children before the place that stand at the document are summed
pub record OptionalAt (kids₀ : List ℕ) (reader : LeafReader) (places doc depth : ℕ) (kids : List ℕ) (at : ℕ) (sum : Float) : Type 0 where
  pub of : (ix : Index) (ss : Scorers) → LentAt ix reader.max_doc reader.postings.now reader.positions.now reader.norms.now doc → Scorables ix reader.inverses.now places 0 ss → Oks ix reader.ranges.now ss depth kids₀ doc → (g : Scorers) × SumAt (matches-at ix doc) ix reader.ranges.now reader.inverses.now places depth doc ss (sum_from zero_float (counted (matches-at ix doc) ix ss doc)) (nodes_of ss) g kids at sum

-- between advance and score: the child at the place stands at the document
pub record Mid (reader : LeafReader) (places doc depth : ℕ) (ix : Index) (ss : Scorers) (kids : List ℕ) (at e : ℕ) (sum : Float) : Type 0 where
  pub f : Bool
  pub S : Scorer
  pub g : Scorers
  pub at-child : SumAt (matches-at ix doc) ix reader.ranges.now reader.inverses.now places depth doc ss (sum_from zero_float (counted (matches-at ix doc) ix ss doc)) (nodes_of ss) (more f S g) kids at sum
  pub match : matches ix S doc ≡ true
  pub stop : e ≡ at + get_or kids (at + 1) 0

pub record OptionalMid (kids₀ : List ℕ) (reader : LeafReader) (places doc depth : ℕ) (kids : List ℕ) (at e : ℕ) (sum : Float) : Type 0 where
  pub of : (ix : Index) (ss : Scorers) → LentAt ix reader.max_doc reader.postings.now reader.positions.now reader.norms.now doc → Scorables ix reader.inverses.now places 0 ss → Oks ix reader.ranges.now ss depth kids₀ doc → Mid reader places doc depth ix ss kids at e sum

few-0 : {ix : Index} {table : List Float} {places : ℕ} {ss : Scorers} → Scorables ix table places 0 ss → nodes_of ss ≤ 256
few-0 S = omega (arith, S.few)

pub optional-start : {kids₀ : List ℕ} {reader : LeafReader} {places doc depth : ℕ} {x : Float} → x ≡ zero_float → OptionalAt kids₀ reader places doc depth kids₀ 0 x
optional-start {kids₀} {reader} {places} {doc} {depth} {x} e =
    record {
      of = λ ix ss L S o.
          let z : 0 + nodes_of ss ≡ nodes_of ss = omega arith in
          (ss, subst (λ (i : ℕ). SumAt (matches-at ix doc) ix reader.ranges.now reader.inverses.now places depth doc ss (sum_from zero_float (counted (matches-at ix doc) ix ss doc)) i ss kids₀ 0 x) z (subst (λ (y : Float). SumAt (matches-at ix doc) ix reader.ranges.now reader.inverses.now places depth doc ss (sum_from zero_float (counted (matches-at ix doc) ix ss doc)) (0 + nodes_of ss) ss kids₀ 0 y) (sym e) (sum-start (matches-at ix doc) ix reader.ranges.now reader.inverses.now places depth doc ss zero_float 0 kids₀ o (zero-atmost _) S.sound S.tables (optional-matched ix ss doc))));
    }

module _ {kids₀ : List ℕ} {reader : LeafReader} {places doc depth : ℕ} {kids : List ℕ} {at : ℕ} {sum : Float} (I : OptionalAt kids₀ reader places doc depth kids at sum) where
  abbrev AskedOptional : Type 0
  AskedOptional = OptionalScorePre kids₀ reader places doc depth

  pub optional-end : length kids ≤ at → OptionalScorePost kids₀ reader places doc depth sum kids
  optional-end l ix ss L S o =
      let i = I.of ix ss L S o in
      let e = sum-end (few-0 S) i.0 i.1 l in
      (record { is = e.0 ∙ ap (λ (xs : List Float). sum_from zero_float xs) (optional-counted ix ss doc); small = e.1 }, e.2)

  module _ (l : at < length kids) where
    abbrev opened : (ix : Index) (ss : Scorers) → LentAt ix reader.max_doc reader.postings.now reader.positions.now reader.norms.now doc → Scorables ix reader.inverses.now places 0 ss → Oks ix reader.ranges.now ss depth kids₀ doc → (f : Bool) × (S : Scorer) × (g : Scorers) × SumAt (matches-at ix doc) ix reader.ranges.now reader.inverses.now places depth doc ss (sum_from zero_float (counted (matches-at ix doc) ix ss doc)) (nodes_of ss) (more f S g) kids at sum
    opened ix ss L S o = let i = I.of ix ss L S o in sum-open i.0 i.1 l

    pub optional_there : AskedOptional → ChildThere kids at
    optional_there P =
        let o = opened P.0 P.1 P.2 P.3 P.4 in
        sum-there o.3

    module _ {e : ℕ} (stop : e ≡ at + get_or kids (at + 1) 0) (starts other_starts : ℕ) (same : min starts other_starts ≡ places) where
      pub optional-ask : AskedOptional → AdvancePre (lists_of reader) starts other_starts (take (e - at) (drop at kids)) doc depth
      optional-ask P =
          let ix = P.0 in
          let ss = P.1 in
          let o = opened ix ss P.2 P.3 P.4 in
          (omega (arith, P.2.document, P.2.lends.documents, P.2.lends.accepted.documents), (ix, places, o.1, cond o.0 1 0, record { in-starts = omega arith; in-other = omega arith }, record { lends = P.2.lends; sound = (sum-scorable o.3 (few-0 P.3)).sound; ok = sum-part o.3 e stop }))

      pub optional-term-ask : get_or kids at 0 ≡ 1 → AskedOptional → scorer.AdvanceTermPre reader.postings.now (take (e - at) (drop at kids)) doc
      optional-term-ask t P =
          let ix = P.0 in
          let ss = P.1 in
          let o = opened ix ss P.2 P.3 P.4 in
          let q = optional-ask P in
          (q.0, sum-part-kind o.3 e stop ∙ sym (sum-kind o.3) ∙ t, (lists_of reader, refl, q.1.0, q.1.1, q.1.2, depth, q.1.3, q.1.5))

      module _ (r : ℕ) (ys : List ℕ) (post : AdvancePost (lists_of reader) (take (e - at) (drop at kids)) doc depth r ys) where
        -- what is known of the child after advance
        pub record Moved (ix : Index) (ss : Scorers) : Type 0 where
          pub f : Bool
          pub S : Scorer
          pub g : Scorers
          pub at-child : SumAt (matches-at ix doc) ix reader.ranges.now reader.inverses.now places depth doc ss (sum_from zero_float (counted (matches-at ix doc) ix ss doc)) (nodes_of ss) (more f S g) (put kids at e ys) at sum
          pub first : First (matches ix S) doc r
          pub stop_is : e ≡ at + get_or (put kids at e ys) (at + 1) 0

        moved : (ix : Index) (ss : Scorers) → LentAt ix reader.max_doc reader.postings.now reader.positions.now reader.norms.now doc → Scorables ix reader.inverses.now places 0 ss → Oks ix reader.ranges.now ss depth kids₀ doc → Moved ix ss
        moved ix ss L S o =
            let i = opened ix ss L S o in
            let q = post ix places i.1 (cond i.0 1 0) (record { lends = L.lends; sound = (sum-scorable i.3 (few-0 S)).sound; ok = sum-part i.3 e stop }) in
            let z = sum-renewed i.3 e stop ys q.1 in
            record {
              f = i.0;
              S = i.1;
              g = i.2;
              at-child = z;
              first = q.0;
              stop_is = stop ∙ ap (λ (x : ℕ). at + x) (sum-size i.3 ∙ sym (sum-size z));
            }

        pub optional-kind : get_or kids at 0 ≡ 1 → AskedOptional → get_or (take (e - at) (drop at (put kids at e ys))) 0 0 ≡ 1
        unfolding moved
        optional-kind t P =
            let ix = P.0 in
            let ss = P.1 in
            let o = opened ix ss P.2 P.3 P.4 in
            let m = moved ix ss P.2 P.3 P.4 in
            sum-part-kind m.at-child e m.stop_is ∙ sym (sum-kind o.3) ∙ t

        pub optional-mid : r ≡ doc → OptionalMid kids₀ reader places doc depth (put kids at e ys) at e sum
        optional-mid h =
            record {
              of = λ ix ss L S o.
                  let m = moved ix ss L S o in
                  let few : r < no_more_docs = omega (arith, h, L.document, L.lends.documents, L.lends.accepted.documents) in
                  record { f = m.f; S = m.S; g = m.g; at-child = m.at-child; match = subst (λ (d : ℕ). matches ix m.S d ≡ true) h (m.first.hit few); stop = m.stop_is };
            }

        pub optional-left : (r ≡ doc → ⊥) → OptionalAt kids₀ reader places doc depth (put kids at e ys) e sum
        optional-left h =
            record {
              of = λ ix ss L S o.
                  let m = moved ix ss L S o in
                  let after : doc < r = before doc r m.first.from h in
                  (m.g, sum-skipped m.at-child (m.first.before doc (le_refl _) after) e m.stop_is);
            }
          where
            before : (a b : ℕ) → a ≤ b → (b ≡ a → ⊥) → a < b
            before a b g w = ⊎_elim (λ q. absurd (w (sym q))) (λ q. q) (eq-or-lt_of_le g)

module _ {kids₀ : List ℕ} {reader : LeafReader} {places doc depth : ℕ} {kids : List ℕ} {at e : ℕ} {sum : Float} (I : OptionalMid kids₀ reader places doc depth kids at e sum) {places' : ℕ} (same : places' ≡ places) where
  pub optional-child : OptionalScorePre kids₀ reader places doc depth → ScorePre (take (e - at) (drop at kids)) reader.max_doc reader.postings.now reader.positions.now reader.norms.now reader.ranges.now reader.inverses.now places' doc depth
  optional-child P =
      let ix = P.0 in
      let ss = P.1 in
      let m = I.of ix ss P.2 P.3 P.4 in
      (ix, m.S, cond m.f 1 0, P.2, scorable-at same (sum-scorable m.at-child (few-0 P.3)), m.match, sum-part m.at-child e m.stop)

  module _ (r : Float) (ys : List ℕ) (post : ScorePost (take (e - at) (drop at kids)) reader.max_doc reader.postings.now reader.positions.now reader.norms.now reader.ranges.now reader.inverses.now places' doc depth r ys) where
    pub optional-number : OptionalScorePre kids₀ reader places doc depth → T (not (is_nan r))
    optional-number P = let q = optional-child P in atmost-number (post q.0 q.1 q.2 q.3 q.4 q.5 q.6).0.small

    pub optional-took : (sum' : Float) → sum' ≡ add binary64 sum r → OptionalAt kids₀ reader places doc depth (put kids at e ys) e sum'
    optional-took sum' s =
        record {
          of = λ ix ss L S o.
              let m = I.of ix ss L S o in
              let q = post ix m.S (cond m.f 1 0) L (scorable-at same (sum-scorable m.at-child (few-0 S))) m.match (sum-part m.at-child e m.stop) in
              let z = sum-renewed m.at-child e m.stop ys q.1 in
              let h : e ≡ at + get_or (put kids at e ys) (at + 1) 0 = m.stop ∙ ap (λ (x : ℕ). at + x) (sum-size m.at-child ∙ sym (sum-size z)) in
              (m.g, rw s (sum-took z (few-0 S) m.match e h r q.0));
        }

  -- a term's part stays as it is
  pub optional-term-took : (r : Float) → TermScorePost (take (e - at) (drop at kids)) reader.postings.now reader.norms.now reader.inverses.now doc r → (sum' : Float) → sum' ≡ add binary64 sum r → OptionalAt kids₀ reader places doc depth kids e sum'
  optional-term-took r post sum' s = subst (λ (l : List ℕ). OptionalAt kids₀ reader places doc depth l e sum') (part_same kids at e) (optional-took r (take (e - at) (drop at kids)) (post reader.max_doc reader.positions.now reader.ranges.now places' depth) sum' s)
