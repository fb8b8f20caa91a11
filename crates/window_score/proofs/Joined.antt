-- A Boolean with an only child: the score of an only required one joins the caller's sums as it is, and where a group joins after the
-- required sum is narrowed, an only child's score is added to the other sum, narrowed. Assumes nothing.
use Rattle.std.proofs.Common.{◌≡◌, refl, sym, ap, subst, ◌∙◌, Bool, true, false, cond, ◌&&◌, List, [], ◌++◌, ℕ, ◌+◌, ◌-◌, ◌*◌, ◌^◌, ◌≤◌, ◌<◌, T, ltb, length, get_or, take, drop, append-nil, append_assoc, length-append, drop_at, ◌||◌, arith}
use Rattle.std.proofs.lemmas.Bool.{and_parts, false≢true}
use Rattle.std.proofs.lemmas.List.{length-drop}
use Rattle.std.proofs.Math.Seq.{take-length}
use mathlib.Core.Logic.{⊎_elim}
use Rattle.meaning.proofs.Tests.{decided}
use Rattle.std.specs.Prelude.{Float}
use Rattle.std.specs.Float.{nan, binary64}
use Rattle.std.specs.Float.Ieee.{add, fits}
use Rattle.meaning.specs.Ieee754.{zero_float, narrow, sum_from, narrowed_sum}
use Rattle.ieee754.specs.Nonneg.{nonneg, AtMost}
use Rattle.bits.specs.Bit.{bit}
use Rattle.tree_weight.specs.ScorerTree.{Scorers, Joining, scoring, required_scores, optional_scores, joined_score}
use Rattle.tree_weight.specs.Sound.{nodes_of}
use Rattle.score_leaf.proofs.Bounds.{scores-narrow}
use Rattle.score.proofs.Join.{first_of}
use Rattle.window_words.specs.Windowed.{nowhere, places_of, optional_bound, AllWindowed}
use Rattle.window_words.proofs.Laws.{all-length}
use Rattle.tree_node.specs.declared.Boolean.{Boolean}
use Rattle.window_score.specs.Sums.{Sums, Zeros, NarrowedIs, AddedAll, NarrowSumsPre, NarrowSumsPost}
use Rattle.window_score.specs.Asked.{Reads, BooleanAsked, BooleanLeft, RequiredAsked, RequiredScoresPre, RequiredScoresPost, OptionalAsked, OptionalScoresPre, OptionalScoresPost, BooleanScoresPre, BooleanScoresPost, RootPartsPre, RootPartsPost, only_child, SharedPre}
use Rattle.window_score.proofs.Loops.{put, sums-more}
use Rattle.window_score.proofs.Required.{lent-at}
use Rattle.window_score.proofs.Splits.{zero-sums}
use Rattle.window_score.proofs.Groups.{is-after, summed}
use Rattle.ieee754.proofs.Ranges.{add-comm}
use Rattle.window_score.proofs.OnlyChild.{Only, nobody, one, only-of, only-optional, only-required, only-narrow-required}
use Rattle.window_score.proofs.Booleans.{mid-part, mid_back, front-part, front-back, goal-score, required-long, optional-long, front-is, optional-left, required-few, first-small, alone-joined, alone-own, group-ask, group-own, root-parts-as}

-- an only child is the first of its children
only-first : {ss : Scorers} → Only ss → first_of 1 ss ≡ ss
unfolding first_of
only-first nobody = refl
only-first one = refl

-- a sum that is narrow already is narrowed either way
narrow-either : (b : Bool) (x : Float) → (b ≡ true → narrow x ≡ x) → cond b x (narrow x) ≡ narrow x
narrow-either true x h = sym (h refl)
narrow-either false x h = refl

-- other parts in the place of the first n words
abbrev with-front : List ℕ → List ℕ → ℕ → List ℕ
with-front xs kids n = xs ++ drop n kids

module _ {kids : List ℕ} {node : Boolean} {V : Reads} {starts other_starts want : ℕ} {sums : List Float} {depth : ℕ} where
  -- the scores of the required children and of the optional ones at a place
  abbrev required-at : BooleanScoresPre kids node V starts other_starts want sums depth → ℕ → List Float
  required-at w p = scoring (required_scores w.1 w.4 (V.base + p))

  abbrev optional-at : BooleanScoresPre kids node V starts other_starts want sums depth → ℕ → List Float
  optional-at w p = optional_scores w.1 w.5 (V.base + p)

  -- ---- an only required child
  only-required-of : (w : BooleanScoresPre kids node V starts other_starts want sums depth) → only_child (take node.required_end kids) ≡ true → Only w.4
  only-required-of w e =
      only-of w.1 V.ranges w.4 depth w.9.x (V.base + 64) V.base (places_of want) w.9.required (subst (λ (l : List ℕ). only_child l ≡ true) (front-is w) e)

  only-small : (w : BooleanScoresPre kids node V starts other_starts want sums depth) → Only w.4 → (p : ℕ) → AtMost (nodes_of w.4 * 2 ^ 29) (sum_from zero_float (required-at w p))
  only-small w only p =
      subst (λ (ss : Scorers). AtMost (nodes_of ss * 2 ^ 29) (sum_from zero_float (scoring (required_scores w.1 ss (V.base + p))))) (only-first only) (first-small w p 1)

  -- its score is added to a sum as it is
  only-adds : (w : BooleanScoresPre kids node V starts other_starts want sums depth) → Only w.4 → (p : ℕ) (s : Float) → T (fits binary64 (sum_from s (required-at w p))) → T (nonneg s) → sum_from s (required-at w p) ≡ add binary64 s (narrowed_sum (required-at w p))
  only-adds w only p s f n =
      only-required w.1 V.ranges w.4 depth w.9.x (V.base + 64) V.base (places_of want) only w.9.required w.8.lends.accepted w.9.required-scorables (V.base + p) s f n

  -- ---- with no optional children it joins the caller's sums
  straight-asked : (w : BooleanScoresPre kids node V starts other_starts want sums depth) → RequiredAsked w.1 V w.2 w.4 depth (take node.required_end kids) want w.7
  straight-asked w =
      let s = w.9.required-scorables in
      let f = w.9.few in
      record {
        scorables = record { sound = s.sound; tables = s.tables; few = omega (arith, f) };
        match = w.9.match;
        held = subst (λ (v : List ℕ). AllWindowed w.1 V.ranges w.4 depth v (V.base + 64) V.base (places_of want)) (sym (front-is w)) w.9.required;
      }

  pub straight-ask : BooleanScoresPre kids node V starts other_starts want sums depth → RequiredScoresPre (take node.required_end kids) V starts other_starts want sums depth
  straight-ask w = (w.0, w.1, w.2, w.4, w.7, w.8, straight-asked w, w.10)

  -- its score, narrowed, is the Boolean's
  straight-is : node.required_end ≡ node.optional_end → (w : BooleanScoresPre kids node V starts other_starts want sums depth) → Only w.4 → (p : ℕ) → narrowed_sum (required-at w p) ≡ goal-score w p
  unfolding narrowed_sum
  straight-is none w only p = alone-joined none w p (sum_from zero_float (required-at w p)) (record { is = refl; small = only-small w only p })

  pub straight-done : node.required_end ≡ node.optional_end → only_child (take node.required_end kids) ≡ true → (xs : List ℕ) (sums' : List Float) → ((i : ℕ) → T (fits binary64 (get_or sums' i nan))) → RequiredScoresPost (take node.required_end kids) V starts other_starts want sums depth xs sums' → BooleanScoresPost kids node V starts other_starts want sums depth (xs ++ drop node.required_end kids) sums'
  straight-done none single xs sums' wide post n ix places j rs os rest q L A S =
      let w : BooleanScoresPre kids node V starts other_starts want sums depth = (n, ix, places, j, rs, os, rest, q, L, A, S) in
      let only = only-required-of w single in
      let r = post n ix places rs q L (straight-asked w) S in (
        record {
          wanted = λ p l e.
              let s = get_or sums p nan in
              r.0.wanted p l e ∙ only-adds w only p s (subst (λ (x : Float). T (fits binary64 x)) (r.0.wanted p l e) (wide p)) (S.small p l).sign ∙ ap (add binary64 s) (straight-is none w only p);
          others = r.0.others;
        },
        sums-more (q + nodes_of rs) (q + (nodes_of rs + nodes_of os)) sums' (omega arith) r.1,
        record { x = xs; v = A.v; is = front-back A.x (A.v ++ rest) kids node.required_end A.is (required-long w) xs; required = r.2; optional = optional-left w },
      )

  -- ---- the required and the optional parts, without the rest
  parts-long : (w : BooleanScoresPre kids node V starts other_starts want sums depth) → length (w.9.x ++ w.9.v) ≡ node.optional_end
  parts-long w = omega (arith, length-append w.9.x w.9.v, required-long w, optional-long w)

  parts-first : (w : BooleanScoresPre kids node V starts other_starts want sums depth) → kids ≡ (w.9.x ++ w.9.v) ++ w.6
  parts-first w = w.9.is ∙ sym (append_assoc w.9.x w.9.v w.6)

  parts-are : (w : BooleanScoresPre kids node V starts other_starts want sums depth) → take node.optional_end kids ≡ w.9.x ++ (w.9.v ++ [])
  parts-are w = front-part (w.9.x ++ w.9.v) w.6 kids node.optional_end (parts-first w) (parts-long w) ∙ ap (λ (l : List ℕ). w.9.x ++ l) (sym (append-nil w.9.v))

  parts-asked : (w : BooleanScoresPre kids node V starts other_starts want sums depth) → BooleanAsked w.1 V w.2 w.3 w.4 w.5 node depth [] (take node.optional_end kids) want w.7
  parts-asked w =
      let A = w.9 in
      record {
        required-scorables = A.required-scorables;
        optional-scorables = A.optional-scorables;
        few = A.few;
        match = A.match;
        required-end = A.required-end;
        optional-end = A.optional-end;
        joins = A.joins;
        x = A.x;
        v = A.v;
        is = parts-are w;
        required = A.required;
        optional = A.optional;
      }

  parts-left : (w : BooleanScoresPre kids node V starts other_starts want sums depth) {kids' : List ℕ} → BooleanLeft w.1 V w.4 w.5 depth [] kids' → BooleanLeft w.1 V w.4 w.5 depth w.6 (kids' ++ drop node.optional_end kids)
  parts-left w {kids'} B =
      let rest : drop node.optional_end kids ≡ w.6 = ap (drop node.optional_end) (parts-first w) ∙ drop_at (w.9.x ++ w.9.v) w.6 node.optional_end (parts-long w) in
      record {
        x = B.x;
        v = B.v;
        is = ap (λ (l : List ℕ). l ++ drop node.optional_end kids) (B.is ∙ ap (λ (l : List ℕ). B.x ++ l) (append-nil B.v)) ∙ ap (λ (l : List ℕ). (B.x ++ B.v) ++ l) rest ∙ append_assoc B.x B.v w.6;
        required = B.required;
        optional = B.optional;
      }

  -- an only child of these is one of the whole
  pub shared-pre : (w : BooleanScoresPre kids node V starts other_starts want sums depth) (r o : Bool) → r ≡ only_child (take node.required_end kids) → o ≡ only_child (take (node.optional_end - node.required_end) (drop node.required_end kids)) → node.afterwards && (r || o) ≡ true → SharedPre (take node.optional_end kids) node
  shared-pre w r o R O e =
      let t = and_parts node.afterwards (r || o) e in (
        t.0,
        ap length (parts-are w) ∙ ap (λ (l : List ℕ). length (w.9.x ++ l)) (append-nil w.9.v) ∙ parts-long w,
        λ many. ⊎_elim
            (λ (h : r ≡ true). subst (λ (l : List ℕ). only_child l ≡ true) (front-is w ∙ sym (front-part w.9.x (w.9.v ++ []) (take node.optional_end kids) node.required_end (parts-are w) (required-long w))) (sym R ∙ h))
            (λ (h : r ≡ false).
            let g : o ≡ true = ap (λ (c : Bool). c || o) (sym h) ∙ t.1 in
            absurd (false≢true (sym many ∙ subst (λ (l : List ℕ). only_child l ≡ true) (optional-same w) (sym O ∙ g))))
            (decided r),
      )
    where
      optional-same : (w : BooleanScoresPre kids node V starts other_starts want sums depth) → take (node.optional_end - node.required_end) (drop node.required_end kids) ≡ drop node.required_end (take node.optional_end kids)
      optional-same w =
          mid-part w.9.x w.9.v w.6 kids node.required_end node.optional_end w.9.is (required-long w) (optional-long w)
          ∙ sym (ap (drop node.required_end) (parts-are w) ∙ drop_at w.9.x (w.9.v ++ []) node.required_end (required-long w) ∙ append-nil w.9.v)

  -- ---- the group joins after the required sum is narrowed
  after-is : node.afterwards ≡ true → (w : BooleanScoresPre kids node V starts other_starts want sums depth) (p : ℕ) → narrow (add binary64 (narrowed_sum (required-at w p)) (narrowed_sum (optional-at w p))) ≡ goal-score w p
  unfolding joined_score
  after-is after w p =
      ap (λ (i : Joining). joined_score i (required_scores w.1 w.4 (V.base + p)) (narrowed_sum (optional-at w p))) (sym (is-after w.3 w.4 node.afterwards node.group_at w.9.joins after))

  -- the sum of an only required child, narrowed, is not negative
  narrowed-sign : (w : BooleanScoresPre kids node V starts other_starts want sums depth) → Only w.4 → (p : ℕ) → T (nonneg (narrowed_sum (required-at w p)))
  unfolding narrowed_sum
  narrowed-sign w only p = (scores-narrow (nodes_of w.4) (sum_from zero_float (required-at w p)) (required-few w) (only-small w only p)).sign

  module _ (own : List Float) (own-zero : Zeros own) (after : node.afterwards ≡ true) (whole : length kids ≡ node.optional_end) where
    -- ---- the required children, whose sum is narrowed, and then an only optional one; no other parts stand behind it
    module _ (xs : List ℕ) (own₁ : List Float) (post₁ : RequiredScoresPost (take node.required_end kids) V starts other_starts want own depth xs own₁) where
      front-own : (w : BooleanScoresPre kids node V starts other_starts want sums depth) → AddedAll (required-at w) want own own₁ × Sums (0 + nodes_of w.4) own₁ × AllWindowed w.1 V.ranges w.4 depth xs (V.base + 64) (V.base + 64) nowhere
      front-own w = alone-own own own-zero xs own₁ post₁ w

      front-few : (w : BooleanScoresPre kids node V starts other_starts want sums depth) → 0 + nodes_of w.4 + 0 ≤ 256
      front-few w = let f = w.9.few in omega (arith, f)

      pub front-narrow : BooleanScoresPre kids node V starts other_starts want sums depth → NarrowSumsPre own₁
      front-narrow w = (0 + nodes_of w.4, (front-few w, (front-own w).1))

      front-long : (w : BooleanScoresPre kids node V starts other_starts want sums depth) → length xs ≡ node.required_end
      front-long w = all-length w.1 V.ranges w.4 depth xs (V.base + 64) (V.base + 64) nowhere (front-own w).2 ∙ sym w.9.required-end

      front-is-put : (w : BooleanScoresPre kids node V starts other_starts want sums depth) → with-front xs kids node.required_end ≡ xs ++ (w.9.v ++ w.6)
      front-is-put w = front-back w.9.x (w.9.v ++ w.6) kids node.required_end w.9.is (required-long w) xs

      front-parts : (w : BooleanScoresPre kids node V starts other_starts want sums depth) → node.required_end + length w.9.v ≡ length (with-front xs kids node.required_end)
      front-parts w =
          omega (arith, ap length (front-is-put w), length-append xs (w.9.v ++ w.6), ap length w.9.is, length-append w.9.x (w.9.v ++ w.6), front-long w, required-long w, optional-long w, whole)

      module _ (only : Bool) (own₂ : List Float) (post₂ : NarrowSumsPost only want own₁ own₂) where
        front-sums : (w : BooleanScoresPre kids node V starts other_starts want sums depth) → Sums (0 + nodes_of w.4) own₂
        front-sums w = post₂.1 (0 + nodes_of w.4) (front-few w, (front-own w).1)

        next-asked : (w : BooleanScoresPre kids node V starts other_starts want sums depth) → OptionalAsked w.1 V w.2 w.5 node.need depth (take (length (with-front xs kids node.required_end) - node.required_end) (drop node.required_end (with-front xs kids node.required_end))) want (0 + nodes_of w.4)
        next-asked w =
            let s = w.9.optional-scorables in
            let f = w.9.few in
            record {
              scorables = record { sound = s.sound; tables = s.tables; few = omega (arith, f) };
              held = subst (λ (l : List ℕ). AllWindowed w.1 V.ranges w.5 depth l (optional_bound node.need (V.base + 64) V.base) V.base (λ p. ltb 0 node.need && bit p want)) (sym (mid-part xs w.9.v w.6 (with-front xs kids node.required_end) node.required_end (length (with-front xs kids node.required_end)) (front-is-put w) (front-long w) (front-parts w))) w.9.optional;
            }

        module _ (starts' other_starts' : ℕ) (same-starts : starts' ≡ starts) (same-other : other_starts' ≡ other_starts) where
          pub next-ask : BooleanScoresPre kids node V starts other_starts want sums depth → OptionalScoresPre (take (length (with-front xs kids node.required_end) - node.required_end) (drop node.required_end (with-front xs kids node.required_end))) node.need V starts' other_starts' want own₂ depth
          next-ask w = (w.0, w.1, w.2, w.5, 0 + nodes_of w.4, lent-at starts' other_starts' want same-starts same-other (λ p l e. e) w.8, next-asked w, front-sums w)

          module _ (only-is : only ≡ only_child (take node.required_end kids)) (single : only_child (take (length kids - node.required_end) (drop node.required_end kids)) ≡ true) (ys : List ℕ) (own₃ : List Float) (wide : (i : ℕ) → T (fits binary64 (get_or own₃ i nan))) (post₃ : OptionalScoresPost (take (length (with-front xs kids node.required_end) - node.required_end) (drop node.required_end (with-front xs kids node.required_end))) node.need V starts' other_starts' want own₂ depth ys own₃) where
            next-own : (w : BooleanScoresPre kids node V starts other_starts want sums depth) → AddedAll (optional-at w) want own₂ own₃ × Sums (0 + nodes_of w.4 + nodes_of w.5) own₃ × AllWindowed w.1 V.ranges w.5 depth ys (V.base + 64) (V.base + 64) nowhere
            next-own w = post₃ w.0 w.1 w.2 w.5 (0 + nodes_of w.4) (lent-at starts' other_starts' want same-starts same-other (λ p l e. e) w.8) (next-asked w) (front-sums w)

            only-optional-of : (w : BooleanScoresPre kids node V starts other_starts want sums depth) → Only w.5
            only-optional-of w =
                only-of w.1 V.ranges w.5 depth w.9.v (optional_bound node.need (V.base + 64) V.base) V.base (λ p. ltb 0 node.need && bit p want) w.9.optional
                (subst (λ (l : List ℕ). only_child l ≡ true) (mid-part w.9.x w.9.v w.6 kids node.required_end (length kids) w.9.is (required-long w) (optional-long w ∙ sym whole)) single)

            -- the required sum is narrow, also where it is of an only child and stays
            front-at : (w : BooleanScoresPre kids node V starts other_starts want sums depth) (p : ℕ) → p < 64 → bit p want ≡ true → get_or own₂ p nan ≡ narrowed_sum (required-at w p)
            unfolding narrowed_sum
            front-at w p l e =
                let r = front-own w in
                let s = summed own own₁ own-zero want (required-at w) r.0 (nodes_of w.4) r.1 p l e in
                let alone : only ≡ true → Only w.4 = λ h. only-required-of w (sym only-is ∙ h) in
                let same : only ≡ true → narrow (get_or own₁ p nan) ≡ get_or own₁ p nan = λ h. subst (λ (x : Float). narrow x ≡ x) (sym s.is) (only-narrow-required w.1 V.ranges w.4 depth w.9.x (V.base + 64) V.base (places_of want) (alone h) w.9.required w.8.lends.accepted w.9.required-scorables (V.base + p)) in
                post₂.0.wanted p l e ∙ narrow-either only (get_or own₁ p nan) same ∙ ap narrow s.is

            next-score : (w : BooleanScoresPre kids node V starts other_starts want sums depth) (p : ℕ) → p < 64 → bit p want ≡ true → narrow (get_or own₃ p nan) ≡ goal-score w p
            next-score w p l e =
                let r = next-own w in
                let s = get_or own₂ p nan in
                let one-more = only-optional w.1 V.ranges w.5 depth w.9.v (optional_bound node.need (V.base + 64) V.base) V.base (λ p. ltb 0 node.need && bit p want) (only-optional-of w) w.9.optional w.8.lends.accepted w.9.optional-scorables (V.base + p) s
                (subst (λ (x : Float). T (fits binary64 x)) (r.0.wanted p l e) (wide p)) ((front-sums w).small p l).sign in
                ap narrow (r.0.wanted p l e ∙ one-more ∙ ap (λ (x : Float). add binary64 x (narrowed_sum (optional-at w p))) (front-at w p l e)) ∙ after-is after w p

            pub next-root : (w : BooleanScoresPre kids node V starts other_starts want sums depth) → NarrowedIs (goal-score w) want own own₃ × Sums (nodes_of w.4 + nodes_of w.5) own₃ × BooleanLeft w.1 V w.4 w.5 depth w.6 (put (with-front xs kids node.required_end) node.required_end (length (with-front xs kids node.required_end)) ys)
            next-root w = (
              record { long = (next-own w).1.long; wanted = next-score w; others = λ p l e. (next-own w).0.others p l e ∙ post₂.0.others p l e ∙ (front-own w).0.others p l e },
              sums-more (0 + nodes_of w.4 + nodes_of w.5) (nodes_of w.4 + nodes_of w.5) own₃ (omega arith) (next-own w).1,
              record { x = xs; v = ys; is = mid_back xs w.9.v w.6 (with-front xs kids node.required_end) node.required_end (length (with-front xs kids node.required_end)) (front-is-put w) (front-long w) (front-parts w) ys; required = (front-own w).2; optional = (next-own w).2 },
            )

    -- ---- the group, whose sum is narrowed, and then an only required child
    pub whole-ask : BooleanScoresPre kids node V starts other_starts want sums depth → OptionalScoresPre (take (length kids - node.required_end) (drop node.required_end kids)) node.need V starts other_starts want own depth
    whole-ask w = subst (λ (e : ℕ). OptionalScoresPre (take (e - node.required_end) (drop node.required_end kids)) node.need V starts other_starts want own depth) (sym whole) (group-ask own own-zero w)

    module _ (vs : List ℕ) (group : List Float) (post₁ : OptionalScoresPost (take (length kids - node.required_end) (drop node.required_end kids)) node.need V starts other_starts want own depth vs group) where
      whole-own : (w : BooleanScoresPre kids node V starts other_starts want sums depth) → AddedAll (optional-at w) want own group × Sums (0 + nodes_of w.5) group × AllWindowed w.1 V.ranges w.5 depth vs (V.base + 64) (V.base + 64) nowhere
      whole-own w = group-own own own-zero vs group (subst (λ (e : ℕ). OptionalScoresPost (take (e - node.required_end) (drop node.required_end kids)) node.need V starts other_starts want own depth vs group) whole post₁) w

      whole-few : (w : BooleanScoresPre kids node V starts other_starts want sums depth) → 0 + nodes_of w.5 + 0 ≤ 256
      whole-few w = let f = w.9.few in omega (arith, f)

      pub whole-narrow : BooleanScoresPre kids node V starts other_starts want sums depth → NarrowSumsPre group
      whole-narrow w = (0 + nodes_of w.5, (whole-few w, (whole-own w).1))

      whole-is-put : (w : BooleanScoresPre kids node V starts other_starts want sums depth) → put kids node.required_end (length kids) vs ≡ w.9.x ++ (vs ++ w.6)
      whole-is-put w = mid_back w.9.x w.9.v w.6 kids node.required_end (length kids) w.9.is (required-long w) (optional-long w ∙ sym whole) vs

      module _ (own₂ : List Float) (post₂ : NarrowSumsPost false want group own₂) where
        whole-sums : (w : BooleanScoresPre kids node V starts other_starts want sums depth) → Sums (0 + nodes_of w.5) own₂
        whole-sums w = post₂.1 (0 + nodes_of w.5) (whole-few w, (whole-own w).1)

        last-asked : (w : BooleanScoresPre kids node V starts other_starts want sums depth) → RequiredAsked w.1 V w.2 w.4 depth (take node.required_end (put kids node.required_end (length kids) vs)) want (0 + nodes_of w.5)
        last-asked w =
            let s = w.9.required-scorables in
            let f = w.9.few in
            record {
              scorables = record { sound = s.sound; tables = s.tables; few = omega (arith, f) };
              match = w.9.match;
              held = subst (λ (l : List ℕ). AllWindowed w.1 V.ranges w.4 depth l (V.base + 64) V.base (places_of want)) (sym (front-part w.9.x (vs ++ w.6) (put kids node.required_end (length kids) vs) node.required_end (whole-is-put w) (required-long w))) w.9.required;
            }

        module _ (starts' other_starts' : ℕ) (same-starts : starts' ≡ starts) (same-other : other_starts' ≡ other_starts) where
          pub last-ask : BooleanScoresPre kids node V starts other_starts want sums depth → RequiredScoresPre (take node.required_end (put kids node.required_end (length kids) vs)) V starts' other_starts' want own₂ depth
          last-ask w = (w.0, w.1, w.2, w.4, 0 + nodes_of w.5, lent-at starts' other_starts' want same-starts same-other (λ p l e. e) w.8, last-asked w, whole-sums w)

          module _ (single : only_child (take node.required_end kids) ≡ true) (ys : List ℕ) (own₃ : List Float) (wide : (i : ℕ) → T (fits binary64 (get_or own₃ i nan))) (post₃ : RequiredScoresPost (take node.required_end (put kids node.required_end (length kids) vs)) V starts' other_starts' want own₂ depth ys own₃) where
            last-own : (w : BooleanScoresPre kids node V starts other_starts want sums depth) → AddedAll (required-at w) want own₂ own₃ × Sums (0 + nodes_of w.5 + nodes_of w.4) own₃ × AllWindowed w.1 V.ranges w.4 depth ys (V.base + 64) (V.base + 64) nowhere
            last-own w = post₃ w.0 w.1 w.2 w.4 (0 + nodes_of w.5) (lent-at starts' other_starts' want same-starts same-other (λ p l e. e) w.8) (last-asked w) (whole-sums w)

            whole-at : (w : BooleanScoresPre kids node V starts other_starts want sums depth) (p : ℕ) → p < 64 → bit p want ≡ true → get_or own₂ p nan ≡ narrowed_sum (optional-at w p)
            unfolding narrowed_sum
            whole-at w p l e =
                let r = whole-own w in
                post₂.0.wanted p l e ∙ ap narrow (summed own group own-zero want (optional-at w) r.0 (nodes_of w.5) r.1 p l e).is

            last-score : (w : BooleanScoresPre kids node V starts other_starts want sums depth) (p : ℕ) → p < 64 → bit p want ≡ true → narrow (get_or own₃ p nan) ≡ goal-score w p
            last-score w p l e =
                let r = last-own w in
                let s = get_or own₂ p nan in
                let one-child = only-required-of w single in
                let req = narrowed_sum (required-at w p) in
                let sign = ((whole-sums w).small p l).sign in
                ap narrow
                (r.0.wanted p l e
                ∙ only-adds w one-child p s (subst (λ (x : Float). T (fits binary64 x)) (r.0.wanted p l e) (wide p)) sign
                ∙ add-comm s req sign (narrowed-sign w one-child p)
                ∙ ap (add binary64 req) (whole-at w p l e))
                ∙ after-is after w p

            pub last-root : (w : BooleanScoresPre kids node V starts other_starts want sums depth) → NarrowedIs (goal-score w) want own own₃ × Sums (nodes_of w.4 + nodes_of w.5) own₃ × BooleanLeft w.1 V w.4 w.5 depth w.6 (ys ++ drop node.required_end (put kids node.required_end (length kids) vs))
            last-root w = (
              record { long = (last-own w).1.long; wanted = last-score w; others = λ p l e. (last-own w).0.others p l e ∙ post₂.0.others p l e ∙ (whole-own w).0.others p l e },
              sums-more (0 + nodes_of w.5 + nodes_of w.4) (nodes_of w.4 + nodes_of w.5) own₃ (omega arith) (last-own w).1,
              record { x = ys; v = vs; is = front-back w.9.x (vs ++ w.6) (put kids node.required_end (length kids) vs) node.required_end (whole-is-put w) (required-long w) ys; required = (last-own w).2; optional = (whole-own w).2 },
            )

-- ---- the children of a root, whose sums were 0
module _ {kids : List ℕ} {node : Boolean} {V : Reads} {starts other_starts want : ℕ} {sums : List Float} {depth : ℕ} (w : RootPartsPre kids node V starts other_starts want sums depth) where
  pub joined-ask : (r o : Bool) → r ≡ only_child (take node.required_end kids) → o ≡ only_child (take (node.optional_end - node.required_end) (drop node.required_end kids)) → node.afterwards && (r || o) ≡ true → RootPartsPre (take node.optional_end kids) node V starts other_starts want sums depth × SharedPre (take node.optional_end kids) node
  unfolding root-parts-as
  joined-ask r o R O e =
      let k = w.1 in
      let all = root-parts-as w in
      ((w.0, (k.0, k.1, k.2, k.3, k.4, k.5, [], k.7, parts-asked all)), shared-pre all r o R O e)

  pub joined-done : (kids' : List ℕ) (sums' : List Float) → RootPartsPost (take node.optional_end kids) node V starts other_starts want sums depth kids' sums' → RootPartsPost kids node V starts other_starts want sums depth (kids' ++ drop node.optional_end kids) sums'
  joined-done kids' sums' post n ix places j rs os rest L A =
      let k : BooleanScoresPre kids node V starts other_starts want sums depth = (n, ix, places, j, rs, os, rest, 0, L, A, zero-sums sums w.0) in
      let r = post n ix places j rs os [] L (parts-asked k) in
      (r.0, r.1, parts-left k r.2)

-- where the group is of more than one child, the required is an only one
pub required-is-only : (kids : List ℕ) (node : Boolean) → SharedPre kids node → false ≡ only_child (take (length kids - node.required_end) (drop node.required_end kids)) → only_child (take node.required_end kids) ≡ true
required-is-only kids node J e =
    let group : List ℕ = drop node.required_end kids in
    let all : take (length kids - node.required_end) group ≡ group = ap (λ (i : ℕ). take i group) (sym (length-drop node.required_end kids)) ∙ take-length group in
    J.2 (subst (λ (l : List ℕ). only_child l ≡ false) all (sym e))
