-- A Boolean's children, call by call: the required alone, the group alone, or the group and then both. Assumes nothing.
use Rattle.std.proofs.Common.{◌≡◌, refl, sym, ap, subst, ◌∙◌, Bool, true, false, cond, ◌&&◌, List, ◌++◌, ℕ, ◌+◌, ◌^◌, ◌*◌, ◌-◌, ◌≤◌, ltb, length, get_or, take, drop, length-append, take_at, drop_at, le_refl, arith, ◌<◌}
use Rattle.std.specs.Prelude.{Float}
use Rattle.std.specs.Float.{nan}
use Rattle.meaning.specs.Ieee754.{zero_float, sum_from, narrow, narrowed_sum}
use Rattle.ieee754.specs.Nonneg.{AtMost}
use Rattle.bits.specs.Bit.{bit}
use Rattle.tree_weight.specs.ScorerTree.{Scorers, end, scoring, required_scores, optional_scores, joined_score}
use Rattle.tree_weight.specs.Sound.{nodes_of}
use Rattle.score.specs.Asked.{SumIs}
use Rattle.score.proofs.Alone.{none_left, joined-alone, joined-only}
use Rattle.score.proofs.Join.{first_of, group-is}
use Rattle.score.proofs.Small.{first_small, oks-weighted}
use Rattle.window_words.specs.Windowed.{nowhere, places_of, optional_bound, AllWindowed}
use Rattle.window_words.proofs.Laws.{all-length, all-forget, all-ok}
use Rattle.tree_node.specs.declared.Boolean.{Boolean}
use Rattle.window_score.specs.Sums.{Sums, Zeros, NarrowedIs, AddedAll, NarrowedPre, NarrowedPost}
use Rattle.window_score.specs.Asked.{Reads, BooleanAsked, BooleanLeft, RequiredAsked, RequiredScoresPre, RequiredScoresPost, OptionalAsked, OptionalScoresPre, OptionalScoresPost, BooleanScoresPre, BooleanScoresPost, GroupAsked, RootPartsPre, RootPartsPost, RootGroupPre, RootGroupPost}
use Rattle.window_score.proofs.Loops.{put, sums-more}
use Rattle.window_score.proofs.Required.{lent-at}
use Rattle.window_score.proofs.Splits.{zero-sums}
use Rattle.window_score.proofs.Groups.{added-as, summed}

-- ---- a list in three parts
pub mid-part : (x v z kids : List ℕ) (a e : ℕ) → kids ≡ x ++ (v ++ z) → length x ≡ a → a + length v ≡ e → take (e - a) (drop a kids) ≡ v
mid-part x v z kids a e i l m = let s : length v ≡ e - a = omega (arith, m) in rw (i, drop_at x (v ++ z) a l, take_at v z (e - a) s)

pub mid_back : (x v z kids : List ℕ) (a e : ℕ) → kids ≡ x ++ (v ++ z) → length x ≡ a → a + length v ≡ e → (ys : List ℕ) → put kids a e ys ≡ x ++ (ys ++ z)
mid_back x v z kids a e i l m ys = let s : length v ≡ e - a = omega (arith, m) in rw (i, take_at x (v ++ z) a l, drop_at x (v ++ z) a l, drop_at v z (e - a) s)

pub front-part : (x y kids : List ℕ) (a : ℕ) → kids ≡ x ++ y → length x ≡ a → take a kids ≡ x
front-part x y kids a i l = rw (i, take_at x y a l)

pub front-back : (x y kids : List ℕ) (a : ℕ) → kids ≡ x ++ y → length x ≡ a → (ys : List ℕ) → ys ++ drop a kids ≡ ys ++ y
front-back x y kids a i l ys = rw (i, drop_at x y a l)

bound-below : (t : Bool) (b base : ℕ) → base ≤ b → cond t b base ≤ b
bound-below true b base h = le_refl b
bound-below false b base h = h

module _ {kids : List ℕ} {node : Boolean} {V : Reads} {starts other_starts want : ℕ} {sums : List Float} {depth : ℕ} where
  abbrev pub goal-score : BooleanScoresPre kids node V starts other_starts want sums depth → ℕ → Float
  goal-score w p = joined_score w.3 (required_scores w.1 w.4 (V.base + p)) (narrowed_sum (optional_scores w.1 w.5 (V.base + p)))

  pub required-long : (w : BooleanScoresPre kids node V starts other_starts want sums depth) → length w.9.x ≡ node.required_end
  required-long w = all-length w.1 V.ranges w.4 depth w.9.x (V.base + 64) V.base (places_of want) w.9.required ∙ sym w.9.required-end

  pub optional-long : (w : BooleanScoresPre kids node V starts other_starts want sums depth) → node.required_end + length w.9.v ≡ node.optional_end
  optional-long w =
      omega (arith, all-length w.1 V.ranges w.5 depth w.9.v (optional_bound node.need (V.base + 64) V.base) V.base (λ p. ltb 0 node.need && bit p want) w.9.optional, w.9.required-end, w.9.optional-end)

  pub parts-lie : BooleanScoresPre kids node V starts other_starts want sums depth → node.optional_end ≤ length kids
  parts-lie w =
      omega (arith, required-long w, optional-long w, ap length w.9.is, length-append w.9.x (w.9.v ++ w.6), length-append w.9.v w.6)

  pub required-lies : BooleanScoresPre kids node V starts other_starts want sums depth → node.required_end ≤ node.optional_end
  required-lies w = omega (arith, optional-long w)

  pub front-is : (w : BooleanScoresPre kids node V starts other_starts want sums depth) → take node.required_end kids ≡ w.9.x
  front-is w = front-part w.9.x (w.9.v ++ w.6) kids node.required_end w.9.is (required-long w)

  -- what was asked is forgotten
  required-left : (w : BooleanScoresPre kids node V starts other_starts want sums depth) → AllWindowed w.1 V.ranges w.4 depth w.9.x (V.base + 64) (V.base + 64) nowhere
  required-left w = all-forget w.1 V.ranges w.4 depth w.9.x (V.base + 64) V.base (places_of want) (V.base + 64) (le_refl _) (omega arith) w.9.required

  pub optional-left : (w : BooleanScoresPre kids node V starts other_starts want sums depth) → AllWindowed w.1 V.ranges w.5 depth w.9.v (V.base + 64) (V.base + 64) nowhere
  optional-left w =
      all-forget w.1 V.ranges w.5 depth w.9.v (optional_bound node.need (V.base + 64) V.base) V.base (λ p. ltb 0 node.need && bit p want) (V.base + 64)
      (bound-below (ltb 0 node.need) (V.base + 64) V.base (omega arith)) (omega arith) w.9.optional

  -- ---- the required: few nodes, and sums that are not negative
  pub required-few : (w : BooleanScoresPre kids node V starts other_starts want sums depth) → nodes_of w.4 ≤ 256
  required-few w = let f = w.9.few in omega (arith, f)

  pub first-small : (w : BooleanScoresPre kids node V starts other_starts want sums depth) (p m : ℕ) → AtMost (nodes_of (first_of m w.4) * 2 ^ 29) (sum_from zero_float (scoring (required_scores w.1 (first_of m w.4) (V.base + p))))
  first-small w p m =
      let W = oks-weighted w.1 V.ranges w.4 depth w.9.x (V.base + 64) (all-ok w.1 V.ranges w.4 depth w.9.x (V.base + 64) V.base (places_of want) (omega arith) w.9.required) in
      first_small w.1 w.8.lends.accepted w.2 (V.base + p) m w.4 W w.9.required-scorables.sound (required-few w)

  -- with no optional children their sum, narrowed, is the Boolean's score
  pub alone-joined : node.required_end ≡ node.optional_end → (w : BooleanScoresPre kids node V starts other_starts want sums depth) (p : ℕ) (sum : Float) → SumIs zero_float (scoring (required_scores w.1 w.4 (V.base + p))) (nodes_of w.4) sum → narrow sum ≡ goal-score w p
  alone-joined none w p sum s =
      let os-none : w.5 ≡ end = none_left w.5 (omega (arith, none, w.9.required-end, w.9.optional-end)) in
      (joined-alone w.1 (V.base + p) w.4 w.3 (required-few w) (λ m. (first-small w p m).sign) sum (narrow sum) s refl).is
      ∙ ap (λ (o : Scorers). joined_score w.3 (required_scores w.1 w.4 (V.base + p)) (narrowed_sum (optional_scores w.1 o (V.base + p)))) (sym os-none)

  module _ (own : List Float) (own-zero : Zeros own) where
    -- ---- no optional children
    alone-asked : (w : BooleanScoresPre kids node V starts other_starts want sums depth) → RequiredAsked w.1 V w.2 w.4 depth (take node.required_end kids) want 0
    alone-asked w =
        record { scorables = w.9.required-scorables; match = w.9.match; held = subst (λ (v : List ℕ). AllWindowed w.1 V.ranges w.4 depth v (V.base + 64) V.base (places_of want)) (sym (front-is w)) w.9.required }

    pub alone-ask : BooleanScoresPre kids node V starts other_starts want sums depth → RequiredScoresPre (take node.required_end kids) V starts other_starts want own depth
    alone-ask w = (w.0, w.1, w.2, w.4, 0, w.8, alone-asked w, zero-sums own own-zero)

    module _ (xs : List ℕ) (own' : List Float) (post : RequiredScoresPost (take node.required_end kids) V starts other_starts want own depth xs own') where
      pub alone-own : (w : BooleanScoresPre kids node V starts other_starts want sums depth) → AddedAll (λ p. scoring (required_scores w.1 w.4 (V.base + p))) want own own' × Sums (0 + nodes_of w.4) own' × AllWindowed w.1 V.ranges w.4 depth xs (V.base + 64) (V.base + 64) nowhere
      alone-own w = post w.0 w.1 w.2 w.4 0 w.8 (alone-asked w) (zero-sums own own-zero)

      pub alone-score : node.required_end ≡ node.optional_end → (w : BooleanScoresPre kids node V starts other_starts want sums depth) (p : ℕ) → p < 64 → bit p want ≡ true → narrow (get_or own' p nan) ≡ goal-score w p
      alone-score none w p l e =
          let r = alone-own w in
          alone-joined none w p (get_or own' p nan) (summed own own' own-zero want (λ i. scoring (required_scores w.1 w.4 (V.base + i))) r.0 (nodes_of w.4) r.1 p l e)

      alone-left : (w : BooleanScoresPre kids node V starts other_starts want sums depth) → BooleanLeft w.1 V w.4 w.5 depth w.6 (xs ++ drop node.required_end kids)
      alone-left w = record { x = xs; v = w.9.v; is = front-back w.9.x (w.9.v ++ w.6) kids node.required_end w.9.is (required-long w) xs; required = (alone-own w).2; optional = optional-left w }

      pub alone-root : node.required_end ≡ node.optional_end → (w : BooleanScoresPre kids node V starts other_starts want sums depth) → NarrowedIs (goal-score w) want own own' × Sums (nodes_of w.4 + nodes_of w.5) own' × BooleanLeft w.1 V w.4 w.5 depth w.6 (xs ++ drop node.required_end kids)
      alone-root none w = (record { long = (alone-own w).1.long; wanted = alone-score none w; others = (alone-own w).0.others }, sums-more (0 + nodes_of w.4) (nodes_of w.4 + nodes_of w.5) own' (omega arith) (alone-own w).1, alone-left w)

    group-asked : (w : BooleanScoresPre kids node V starts other_starts want sums depth) → OptionalAsked w.1 V w.2 w.5 node.need depth (take (node.optional_end - node.required_end) (drop node.required_end kids)) want 0
    group-asked w =
        record {
          scorables = w.9.optional-scorables;
          held = subst (λ (v : List ℕ). AllWindowed w.1 V.ranges w.5 depth v (optional_bound node.need (V.base + 64) V.base) V.base (λ p. ltb 0 node.need && bit p want)) (sym (mid-part w.9.x w.9.v w.6 kids node.required_end node.optional_end w.9.is (required-long w) (optional-long w))) w.9.optional;
        }

    pub group-ask : BooleanScoresPre kids node V starts other_starts want sums depth → OptionalScoresPre (take (node.optional_end - node.required_end) (drop node.required_end kids)) node.need V starts other_starts want own depth
    group-ask w = (w.0, w.1, w.2, w.5, 0, w.8, group-asked w, zero-sums own own-zero)

    module _ (vs : List ℕ) (group : List Float) (post : OptionalScoresPost (take (node.optional_end - node.required_end) (drop node.required_end kids)) node.need V starts other_starts want own depth vs group) where
      pub group-own : (w : BooleanScoresPre kids node V starts other_starts want sums depth) → AddedAll (λ p. optional_scores w.1 w.5 (V.base + p)) want own group × Sums (0 + nodes_of w.5) group × AllWindowed w.1 V.ranges w.5 depth vs (V.base + 64) (V.base + 64) nowhere
      group-own w = post w.0 w.1 w.2 w.5 0 w.8 (group-asked w) (zero-sums own own-zero)

      back : (w : BooleanScoresPre kids node V starts other_starts want sums depth) → (put kids node.required_end node.optional_end vs) ≡ w.9.x ++ (vs ++ w.6)
      back w = mid_back w.9.x w.9.v w.6 kids node.required_end node.optional_end w.9.is (required-long w) (optional-long w) vs

      pub group-fits : BooleanScoresPre kids node V starts other_starts want sums depth → node.required_end ≤ length (put kids node.required_end node.optional_end vs)
      group-fits w = omega (arith, ap length (back w), length-append w.9.x (vs ++ w.6), required-long w)

      -- no required children: the group is the score
      only-few : (w : BooleanScoresPre kids node V starts other_starts want sums depth) → nodes_of w.5 ≤ 256
      only-few w = let f = w.9.few in omega (arith, f)

      pub only-score : node.required_end ≡ 0 → (w : BooleanScoresPre kids node V starts other_starts want sums depth) (p : ℕ) → p < 64 → bit p want ≡ true → narrow (get_or group p nan) ≡ goal-score w p
      only-score none w p l e =
          let r = group-own w in
          let ix = w.1 in
          let os = w.5 in
          let rs-none : w.4 ≡ end = none_left w.4 (sym w.9.required-end ∙ none) in
          let g = group-is (optional_scores ix os (V.base + p)) (nodes_of os) (get_or group p nan) (narrow (get_or group p nan)) (only-few w) (summed own group own-zero want (λ i. optional_scores ix os (V.base + i)) r.0 (nodes_of os) r.1 p l e) refl in
          (joined-only ix (V.base + p) os w.3 (narrow (get_or group p nan)) g.0 g.1).is
          ∙ ap (λ (o : Scorers). joined_score w.3 (required_scores ix o (V.base + p)) (narrowed_sum (optional_scores ix os (V.base + p)))) (sym rs-none)

      only-left : (w : BooleanScoresPre kids node V starts other_starts want sums depth) → BooleanLeft w.1 V w.4 w.5 depth w.6 (put kids node.required_end node.optional_end vs)
      only-left w = record { x = w.9.x; v = vs; is = back w; required = required-left w; optional = (group-own w).2 }

      pub only-root : node.required_end ≡ 0 → (w : BooleanScoresPre kids node V starts other_starts want sums depth) → NarrowedIs (goal-score w) want own group × Sums (nodes_of w.4 + nodes_of w.5) group × BooleanLeft w.1 V w.4 w.5 depth w.6 (put kids node.required_end node.optional_end vs)
      only-root none w = (record { long = (group-own w).1.long; wanted = only-score none w; others = (group-own w).0.others }, sums-more (0 + nodes_of w.5) (nodes_of w.4 + nodes_of w.5) group (omega arith) (group-own w).1, only-left w)

      pub both-left : (w : BooleanScoresPre kids node V starts other_starts want sums depth) (xs : List ℕ) → AllWindowed w.1 V.ranges w.4 depth xs (V.base + 64) (V.base + 64) nowhere → BooleanLeft w.1 V w.4 w.5 depth w.6 (xs ++ drop node.required_end (put kids node.required_end node.optional_end vs))
      both-left w xs req = record { x = xs; v = vs; is = front-back w.9.x (vs ++ w.6) (put kids node.required_end node.optional_end vs) node.required_end (back w) (required-long w) xs; required = req; optional = (group-own w).2 }

      -- both
      module _ (starts' other_starts' : ℕ) (same-starts : starts' ≡ starts) (same-other : other_starts' ≡ other_starts) where
        pub both-asked : (w : BooleanScoresPre kids node V starts other_starts want sums depth) → GroupAsked w.1 V w.2 w.3 w.4 w.5 node depth (take node.required_end (put kids node.required_end node.optional_end vs)) want w.7 group
        both-asked w =
            let r = group-own w in
            record {
              required = record {
                scorables = w.9.required-scorables;
                match = w.9.match;
                held = subst (λ (v : List ℕ). AllWindowed w.1 V.ranges w.4 depth v (V.base + 64) V.base (places_of want)) (sym (front-part w.9.x (vs ++ w.6) (put kids node.required_end node.optional_end vs) node.required_end (back w) (required-long w))) w.9.required;
              };
              few = w.9.few;
              joins = w.9.joins;
              group-is = λ p l e. (summed own group own-zero want (λ i. optional_scores w.1 w.5 (V.base + i)) r.0 (nodes_of w.5) r.1 p l e).is;
              group-sums = sums-more (0 + nodes_of w.5) (nodes_of w.5) group (omega arith) r.1;
            }

  -- ---- a Boolean below another node, whose own sums are 0 before
  own-asked : (w : BooleanScoresPre kids node V starts other_starts want sums depth) → BooleanAsked w.1 V w.2 w.3 w.4 w.5 node depth w.6 kids want 0
  own-asked w =
      let A = w.9 in
      let f = A.few in
      record {
        required-scorables = A.required-scorables;
        optional-scorables = A.optional-scorables;
        few = omega (arith, f);
        match = A.match;
        required-end = A.required-end;
        optional-end = A.optional-end;
        joins = A.joins;
        x = A.x;
        v = A.v;
        is = A.is;
        required = A.required;
        optional = A.optional;
      }

  pub own-ask : {own : List Float} → Zeros own → BooleanScoresPre kids node V starts other_starts want sums depth → RootPartsPre kids node V starts other_starts want own depth
  own-ask z w = (z, (w.0, w.1, w.2, w.3, w.4, w.5, w.6, w.8, own-asked w))

  module _ {own : List Float} {kids' : List ℕ} {own' : List Float} (post : RootPartsPost kids node V starts other_starts want own depth kids' own') where
    own-scored : (w : BooleanScoresPre kids node V starts other_starts want sums depth) → NarrowedIs (goal-score w) want own own' × Sums (nodes_of w.4 + nodes_of w.5) own' × BooleanLeft w.1 V w.4 w.5 depth w.6 kids'
    own-scored w = post w.0 w.1 w.2 w.3 w.4 w.5 w.6 w.8 (own-asked w)

    pub own-add : BooleanScoresPre kids node V starts other_starts want sums depth → NarrowedPre own' sums
    own-add w = (w.7, nodes_of w.4 + nodes_of w.5, (w.9.few, w.10), (own-scored w).1)

    pub own-done : {sums' : List Float} → NarrowedPost own' want sums sums' → BooleanScoresPost kids node V starts other_starts want sums depth kids' sums'
    own-done {sums'} add n ix places j rs os rest q L A S =
        let w : BooleanScoresPre kids node V starts other_starts want sums depth = (n, ix, places, j, rs, os, rest, q, L, A, S) in
        let r = own-scored w in
        let z = add q (nodes_of rs + nodes_of os) (A.few, S) r.1 in
        (added-as (λ p. narrow (get_or own' p nan)) (goal-score w) want sums sums' (λ p l e. r.0.wanted p l e) z.0, z.1, r.2)

-- ---- the children of a root, whose sums were 0
module _ {kids : List ℕ} {node : Boolean} {V : Reads} {starts other_starts want : ℕ} {sums : List Float} {depth : ℕ} (w : RootPartsPre kids node V starts other_starts want sums depth) where
  unfoldable pub root-parts-as : BooleanScoresPre kids node V starts other_starts want sums depth
  root-parts-as = let r = w.1 in (r.0, r.1, r.2, r.3, r.4, r.5, r.6, 0, r.7, r.8, zero-sums sums w.0)

  pub root-alone : node.required_end ≡ node.optional_end → (xs : List ℕ) (sums' : List Float) → RequiredScoresPost (take node.required_end kids) V starts other_starts want sums depth xs sums' → RootPartsPost kids node V starts other_starts want sums depth (xs ++ drop node.required_end kids) sums'
  root-alone none xs sums' post n ix places j rs os rest L A =
      alone-root sums w.0 xs sums' post none (n, ix, places, j, rs, os, rest, 0, L, A, zero-sums sums w.0)

  pub root-only : node.required_end ≡ 0 → (vs : List ℕ) (sums' : List Float) → OptionalScoresPost (take (node.optional_end - node.required_end) (drop node.required_end kids)) node.need V starts other_starts want sums depth vs sums' → RootPartsPost kids node V starts other_starts want sums depth (put kids node.required_end node.optional_end vs) sums'
  root-only none vs sums' post n ix places j rs os rest L A =
      only-root sums w.0 vs sums' post none (n, ix, places, j, rs, os, rest, 0, L, A, zero-sums sums w.0)

  module _ (own : List Float) (own-zero : Zeros own) (vs : List ℕ) (group : List Float) (post : OptionalScoresPost (take (node.optional_end - node.required_end) (drop node.required_end kids)) node.need V starts other_starts want own depth vs group) (starts' other_starts' : ℕ) (same-starts : starts' ≡ starts) (same-other : other_starts' ≡ other_starts) where
    pub root-both-ask : RootGroupPre (take node.required_end (put kids node.required_end node.optional_end vs)) node group V starts' other_starts' want sums depth
    unfolding root-parts-as
    root-both-ask =
        let r = root-parts-as in
        (w.0, (r.0, r.1, r.2, r.3, r.4, r.5, lent-at starts' other_starts' want same-starts same-other (λ p l e. e) r.8, both-asked own own-zero vs group post starts' other_starts' same-starts same-other r))

    pub root-both : (xs : List ℕ) (sums' : List Float) → RootGroupPost (take node.required_end (put kids node.required_end node.optional_end vs)) node group V starts' other_starts' want sums depth xs sums' → RootPartsPost kids node V starts other_starts want sums depth (xs ++ drop node.required_end (put kids node.required_end node.optional_end vs)) sums'
    root-both xs sums' join n ix places j rs os rest L A =
        let r : BooleanScoresPre kids node V starts other_starts want sums depth = (n, ix, places, j, rs, os, rest, 0, L, A, zero-sums sums w.0) in
        let z = join n ix places j rs os (lent-at starts' other_starts' want same-starts same-other (λ p l e. e) L) (both-asked own own-zero vs group post starts' other_starts' same-starts same-other r) in
        (z.0, z.1, both-left own own-zero vs group post r xs z.2)
