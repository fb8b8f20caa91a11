-- A Boolean's score, call by call: its group, then the required before and after the place where the group joins, or all of them. Assumes nothing.
use mathlib.Core.Path.{◌≡◌, refl, sym, ap, subst, ◌∙◌}
use mathlib.Core.Bool.{Bool, true, false, not, cond, false≢true}
use mathlib.Core.List.{List, ◌++◌, append_assoc}
use Prim.Native.Nat.{ℕ, zero, suc, ◌+◌, ◌-◌, ◌*◌, ◌^◌, ◌≤◌}
use native.Mathlib.Omega.{arith}
use lib.Dec.{T}
use lib.ListN.{length, take, drop, length-append}
use lib.Seq.{take_at, drop_at}
use lib.Ieee.{Float, binary64, is_nan, add}
use Rattle.meaning.specs.Lent.{Index}
use Rattle.meaning.specs.Ieee754.{zero_float, narrow, sum_from, narrowed_sum}
use Rattle.ieee754.specs.Nonneg.{nonneg, AtMost}
use Rattle.ieee754.proofs.Bounds.{atmost-number, zero-atmost}
use Rattle.tree_weight.specs.ScorerTree.{Scorers, end, more, Joining, one_more, afterwards, scoring, required_scores, optional_scores}
use Rattle.tree_weight.specs.State.{sizes_of, sizes_of_first}
use Rattle.tree_weight.specs.Held.{Oks}
use Rattle.tree_weight.specs.Sound.{nodes_of}
use Rattle.tree_node.specs.declared.Boolean.{Boolean}
use Rattle.scorer_leaf.specs.declared.LeafReader.{LeafReader}
use Rattle.score.specs.Asked.{Scorables, SumIs, RequiredScorePre, RequiredScorePost, OptionalScorePre, OptionalScorePost, JoinPre, JoinPost, JoinAsks, JoinIs, JoinsAt, PartsAre}
use Rattle.score_leaf.specs.Asked.{LentAt}
use Rattle.score_leaf.proofs.Bounds.{scores-narrow}
use Rattle.scorer_leaf.proofs.Bounds.{oks-length}
use Rattle.score.proofs.Loops.{put}
use Rattle.score.proofs.Small.{first_small, oks-weighted}
use Rattle.score.proofs.Alone.{none_left, none-summed, joined-alone, joined-only}
use Rattle.score.proofs.Join.{first_of, rest_of, first-sounds, first-tables, first-nodes, first_matches, oks-split, oks-join, group-is, joined-more, joined-sum, joined-after}

-- ---- a list in three parts
mid-part : (x v z kids : List ℕ) (a e : ℕ) → kids ≡ x ++ (v ++ z) → length x ≡ a → a + length v ≡ e → take (e - a) (drop a kids) ≡ v
mid-part x v z kids a e i l m = let s : length v ≡ e - a = omega arith in rw (i, drop_at x (v ++ z) a l, take_at v z (e - a) s)

mid_back : (x v z kids : List ℕ) (a e : ℕ) → kids ≡ x ++ (v ++ z) → length x ≡ a → a + length v ≡ e → (ys : List ℕ) → put kids a e ys ≡ x ++ (ys ++ z)
mid_back x v z kids a e i l m ys = let s : length v ≡ e - a = omega arith in rw (i, take_at x (v ++ z) a l, drop_at x (v ++ z) a l, drop_at v z (e - a) s)

front-part : (x y kids : List ℕ) (a : ℕ) → kids ≡ x ++ y → length x ≡ a → take a kids ≡ x
front-part x y kids a i l = rw (i, take_at x y a l)

front-back : (x y kids : List ℕ) (a : ℕ) → kids ≡ x ++ y → length x ≡ a → (ys : List ℕ) → ys ++ drop a kids ≡ ys ++ y
front-back x y kids a i l ys = rw (i, drop_at x y a l)

first-le : (n : ℕ) (ss : Scorers) → sizes_of_first n ss ≤ sizes_of ss
unfolding sizes_of_first sizes_of
first-le zero ss = omega arith
first-le (suc n) end = omega arith
first-le (suc n) (more f S g) = omega (arith, first-le n g)

-- which way the group joins
not-one : (b : Bool) → b ≡ false → ◌≡◌ {A = ℕ} (cond b 1 0) 1 → ⊥
not-one true e h = absurd (false≢true (sym e))
not-one false e h = omega (arith, h)

no-after : (j : Joining) (rs : Scorers) (a b : ℕ) → JoinsAt j rs a b → (a ≡ 1 → ⊥) → (m : ℕ) × (j ≡ one_more m) × (b ≡ sizes_of_first m rs)
unfolding JoinsAt
no-after (one_more m) rs a b p h = (m, refl, p.1)
no-after afterwards rs a b p h = absurd (h p)

is-after : (j : Joining) (rs : Scorers) (a b : ℕ) → JoinsAt j rs a b → a ≡ 1 → j ≡ afterwards
unfolding JoinsAt
is-after (one_more m) rs a b p h = absurd (omega (arith, p.0))
is-after afterwards rs a b p h = refl

scorables-at : {ix : Index} {table : List Float} {places places' p : ℕ} {ss : Scorers} → places' ≡ places → Scorables ix table places p ss → Scorables ix table places' p ss
scorables-at {ix} {table} {p = p} {ss = ss} e s = subst (λ (i : ℕ). Scorables ix table i p ss) (sym e) s

-- the group's sum, and the words after it
pub record Grouped (kids : List ℕ) (node : Boolean) (reader : LeafReader) (places doc depth : ℕ) (sum : Float) (kids₁ : List ℕ) : Type 0 where
  pub of : (ix : Index) (j : Joining) (rs os : Scorers) (rest : List ℕ) → LentAt ix reader.max_doc reader.postings.now reader.positions.now reader.norms.now doc → JoinAsks ix reader.inverses.now places j rs os node doc → PartsAre ix reader.ranges.now rs os depth doc rest kids → SumIs zero_float (optional_scores ix os doc) (nodes_of os) sum × PartsAre ix reader.ranges.now rs os depth doc rest kids₁

-- how long the parts are
module _ {ix : Index} {table : List Float} {places : ℕ} {j : Joining} {rs os : Scorers} {node : Boolean} {doc : ℕ} (K : JoinAsks ix table places j rs os node doc) where
  required-long : (ranges : List ℕ) (depth : ℕ) (w : List ℕ) → Oks ix ranges rs depth w doc → length w ≡ node.required_end
  required-long ranges depth w o = oks-length ix ranges rs depth w doc o ∙ sym K.required-end

  optional-long : (ranges : List ℕ) (depth : ℕ) (w : List ℕ) → Oks ix ranges os depth w doc → node.required_end + length w ≡ node.optional_end
  optional-long ranges depth w o = omega (arith, oks-length ix ranges os depth w doc o, K.required-end, K.optional-end)

  no-optional : node.required_end ≡ node.optional_end → os ≡ end
  no-optional none = none_left os (omega (arith, none, K.required-end, K.optional-end))

-- where they lie among l words
pub record Lies (node : Boolean) (l : ℕ) : Type 0 where
  pub middle : node.required_end ≤ node.optional_end
  pub whole : node.optional_end ≤ l

module _ (kids : List ℕ) (node : Boolean) (reader : LeafReader) (places doc depth : ℕ) where
  abbrev Pre : Type 0
  Pre = JoinPre kids node reader places doc depth

  pub lies : Pre → Lies node (length kids)
  lies P =
      let Q = P.7 in
      let a = required-long P.6 reader.ranges.now depth Q.required Q.required-ok in
      let b = optional-long P.6 reader.ranges.now depth Q.optional Q.optional-ok in
      record { middle = omega arith; whole = omega (arith, ap length Q.is, length-append Q.required (Q.optional ++ P.4), length-append Q.optional P.4) }

  -- ---- the group
  module _ (ix : Index) (j : Joining) (rs os : Scorers) (rest : List ℕ) (K : JoinAsks ix reader.inverses.now places j rs os node doc) (Q : PartsAre ix reader.ranges.now rs os depth doc rest kids) where
    group-part : take (node.optional_end - node.required_end) (drop node.required_end kids) ≡ Q.optional
    group-part = mid-part Q.required Q.optional rest kids node.required_end node.optional_end Q.is (required-long K reader.ranges.now depth Q.required Q.required-ok) (optional-long K reader.ranges.now depth Q.optional Q.optional-ok)

    group-ok : Oks ix reader.ranges.now os depth (take (node.optional_end - node.required_end) (drop node.required_end kids)) doc
    group-ok = subst (λ (w : List ℕ). Oks ix reader.ranges.now os depth w doc) (sym group-part) Q.optional-ok

  pub group-asks : Pre → OptionalScorePre (take (node.optional_end - node.required_end) (drop node.required_end kids)) reader places doc depth
  group-asks P = (P.0, P.3, P.5, P.6.optional, group-ok P.0 P.1 P.2 P.3 P.4 P.6 P.7)

  pub grouped : (sum : Float) (ys : List ℕ) → OptionalScorePost (take (node.optional_end - node.required_end) (drop node.required_end kids)) reader places doc depth sum ys → Grouped kids node reader places doc depth sum (put kids node.required_end node.optional_end ys)
  grouped sum ys post =
      record {
        of = λ ix j rs os rest L K Q.
            let q = post ix os L K.optional (group-ok ix j rs os rest K Q) in
            (q.0, record { required = Q.required; optional = ys; is = mid_back Q.required Q.optional rest kids node.required_end node.optional_end Q.is (required-long K reader.ranges.now depth Q.required Q.required-ok) (optional-long K reader.ranges.now depth Q.optional Q.optional-ok) ys; required-ok = Q.required-ok; optional-ok = q.1 });
      }

  -- no optional children: a group of 0, and the words as they were
  pub ungrouped : node.required_end ≡ node.optional_end → Grouped kids node reader places doc depth zero_float kids
  ungrouped none = record { of = λ ix j rs os rest L K Q. (subst (λ (o : Scorers). SumIs zero_float (optional_scores ix o doc) (nodes_of o) zero_float) (sym (no-optional K none)) (none-summed ix doc), Q) }

module _ {kids : List ℕ} {node : Boolean} {reader : LeafReader} {places doc depth : ℕ} {osum : Float} {kids₁ : List ℕ} (G : Grouped kids node reader places doc depth osum kids₁) {g : Float} (g-is : g ≡ narrow osum) where
  abbrev Asked : Type 0
  Asked = JoinPre kids node reader places doc depth

  group_of : (ix : Index) (j : Joining) (rs os : Scorers) (rest : List ℕ) → LentAt ix reader.max_doc reader.postings.now reader.positions.now reader.norms.now doc → JoinAsks ix reader.inverses.now places j rs os node doc → PartsAre ix reader.ranges.now rs os depth doc rest kids → (g ≡ narrowed_sum (optional_scores ix os doc)) × AtMost (nodes_of os * 2 ^ 29) g
  group_of ix j rs os rest L K Q = let h : nodes_of os ≤ 256 = omega (arith, K.few) in group-is (optional_scores ix os doc) (nodes_of os) osum g h (G.of ix j rs os rest L K Q).0 g-is

  pub group-number : Asked → T (not (is_nan g))
  group-number P = atmost-number (group_of P.0 P.1 P.2 P.3 P.4 P.5 P.6 P.7).1

  -- no required children: the group is the score
  pub only-done : node.required_end ≡ 0 → JoinPost kids node reader places doc depth g kids₁
  only-done none ix j rs os rest L K Q =
      let o = group_of ix j rs os rest L K Q in
      (subst (λ (s : Scorers). JoinIs ix j s os doc g) (sym (none_left rs (sym K.required-end ∙ none))) (joined-only ix doc os j g o.0 o.1), (G.of ix j rs os rest L K Q).1)

  -- ---- the group joins afterwards
  module _ {places' : ℕ} (same : places' ≡ places) {z : Float} (z-is : z ≡ zero_float) where
    zero-small : AtMost (0 * 2 ^ 29) z
    zero-small = subst (λ (y : Float). AtMost (0 * 2 ^ 29) y) (sym z-is) (zero-atmost _)

    sum_of : (xs : List Float) (p : ℕ) (r : Float) → SumIs z xs (0 + p) r → SumIs zero_float xs p r
    sum_of xs p r s = let e : 0 + p ≡ p = omega arith in subst (λ (y : Float). SumIs y xs p r) z-is (subst (λ (i : ℕ). SumIs z xs i r) e s)

    all-ok : (ix : Index) (j : Joining) (rs os : Scorers) (rest : List ℕ) → JoinAsks ix reader.inverses.now places j rs os node doc → PartsAre ix reader.ranges.now rs os depth doc rest kids₁ → Oks ix reader.ranges.now rs depth (take node.required_end kids₁) doc
    all-ok ix j rs os rest K Q = subst (λ (w : List ℕ). Oks ix reader.ranges.now rs depth w doc) (sym (front-part Q.required (Q.optional ++ rest) kids₁ node.required_end Q.is (required-long K reader.ranges.now depth Q.required Q.required-ok))) Q.required-ok

    pub after-asks : Asked → RequiredScorePre (take node.required_end kids₁) z reader places' doc depth
    after-asks P =
        (P.0, P.2, 0, P.5, scorables-at same P.6.required, P.6.all, all-ok P.0 P.1 P.2 P.3 P.4 P.6 (G.of P.0 P.1 P.2 P.3 P.4 P.5 P.6 P.7).1, zero-small)

    module _ (sum : Float) (ys : List ℕ) (post : RequiredScorePost (take node.required_end kids₁) z reader places' doc depth sum ys) where
      after-sum : (ix : Index) (j : Joining) (rs os : Scorers) (rest : List ℕ) → LentAt ix reader.max_doc reader.postings.now reader.positions.now reader.norms.now doc → JoinAsks ix reader.inverses.now places j rs os node doc → PartsAre ix reader.ranges.now rs os depth doc rest kids → SumIs zero_float (scoring (required_scores ix rs doc)) (nodes_of rs) sum × Oks ix reader.ranges.now rs depth ys doc
      after-sum ix j rs os rest L K Q =
          let q = post ix rs 0 L (scorables-at same K.required) K.all (all-ok ix j rs os rest K (G.of ix j rs os rest L K Q).1) zero-small in
          (sum_of (scoring (required_scores ix rs doc)) (nodes_of rs) sum q.0, q.1)

      pub after-number : Asked → (w : Float) → w ≡ narrow sum → T (not (is_nan w))
      after-number P w e =
          let q = after-sum P.0 P.1 P.2 P.3 P.4 P.5 P.6 P.7 in
          let h : nodes_of P.2 ≤ 256 = omega (arith, P.6.few) in
          subst (λ (y : Float). T (not (is_nan y))) (sym e) (atmost-number (scores-narrow (nodes_of P.2) sum h q.0.small))

      -- no optional children: the required sum is the score
      pub alone-done : node.required_end ≡ node.optional_end → (r : Float) → r ≡ narrow sum → JoinPost kids node reader places doc depth r (ys ++ drop node.required_end kids₁)
      alone-done none r h ix j rs os rest L K Q =
          let q = after-sum ix j rs os rest L K Q in
          let R = (G.of ix j rs os rest L K Q).1 in
          let few : nodes_of rs ≤ 256 = omega (arith, K.few) in
          let front : (m : ℕ) → T (nonneg (sum_from zero_float (scoring (required_scores ix (first_of m rs) doc)))) = λ m. (first_small ix L.lends.accepted places doc m rs (oks-weighted ix reader.ranges.now rs depth Q.required doc Q.required-ok) K.required.sound few).sign in (
            subst (λ (o : Scorers). JoinIs ix j rs o doc r) (sym (no-optional K none)) (joined-alone ix doc rs j few front sum r q.0 h),
            record { required = ys; optional = R.optional; is = front-back R.required (R.optional ++ rest) kids₁ node.required_end R.is (required-long K reader.ranges.now depth R.required R.required-ok) ys; required-ok = q.1; optional-ok = R.optional-ok },
          )

      pub after-done : node.afterwards ≡ true → (w two r : Float) → w ≡ narrow sum → two ≡ add binary64 w g → r ≡ narrow two → JoinPost kids node reader places doc depth r (ys ++ drop node.required_end kids₁)
      after-done a w two r e f h ix j rs os rest L K Q =
          let q = after-sum ix j rs os rest L K Q in
          let R = (G.of ix j rs os rest L K Q).1 in
          let o = group_of ix j rs os rest L K Q in (
            subst (λ (i : Joining). JoinIs ix i rs os doc r) (sym (is-after j rs (cond node.afterwards 1 0) node.group_at K.joins (ap (λ (b : Bool). cond b 1 0) a))) (joined-after ix doc rs os K.few g o.0 o.1 sum w two r q.0 e f h),
            record { required = ys; optional = R.optional; is = front-back R.required (R.optional ++ rest) kids₁ node.required_end R.is (required-long K reader.ranges.now depth R.required R.required-ok) ys; required-ok = q.1; optional-ok = R.optional-ok },
          )

    -- ---- the group joins as one more
    module _ (other : node.afterwards ≡ false) where
      -- the parts, the required split where the group joins
      pub record Cut (ix : Index) (j : Joining) (rs os : Scorers) (rest : List ℕ) (w : List ℕ) : Type 0 where
        pub m : ℕ
        pub joins : j ≡ one_more m
        pub x : List ℕ
        pub y : List ℕ
        pub v : List ℕ
        pub is : w ≡ x ++ (y ++ (v ++ rest))
        pub first-long : length x ≡ node.group_at
        pub rest-long : node.group_at + length y ≡ node.required_end
        pub first-ok : Oks ix reader.ranges.now (first_of m rs) depth x doc
        pub rest_ok : Oks ix reader.ranges.now (rest_of m rs) depth y doc
        pub group-ok : Oks ix reader.ranges.now os depth v doc

      cut : (ix : Index) (j : Joining) (rs os : Scorers) (rest : List ℕ) → JoinAsks ix reader.inverses.now places j rs os node doc → PartsAre ix reader.ranges.now rs os depth doc rest kids₁ → Cut ix j rs os rest kids₁
      cut ix j rs os rest K Q =
          let a = no-after j rs (cond node.afterwards 1 0) node.group_at K.joins (not-one node.afterwards other) in
          let s = oks-split ix reader.ranges.now depth doc a.0 rs Q.required Q.required-ok in
          record {
            m = a.0;
            joins = a.1;
            x = s.x;
            y = s.y;
            v = Q.optional;
            is = Q.is ∙ ap (λ (w : List ℕ). w ++ (Q.optional ++ rest)) s.is ∙ append_assoc s.x s.y (Q.optional ++ rest);
            first-long = s.place ∙ sym a.2;
            rest-long = omega (arith, required-long K reader.ranges.now depth Q.required Q.required-ok, ap length s.is, length-append s.x s.y, s.place, a.2);
            first-ok = s.first;
            rest_ok = s.rest;
            group-ok = Q.optional-ok;
          }

      pub cut-lies : Asked → node.group_at ≤ node.required_end
      cut-lies P = let k = cut P.0 P.1 P.2 P.3 P.4 P.6 (G.of P.0 P.1 P.2 P.3 P.4 P.5 P.6 P.7).1 in omega (arith, k.rest-long)

      module _ (ix : Index) (j : Joining) (rs os : Scorers) (rest : List ℕ) (K : JoinAsks ix reader.inverses.now places j rs os node doc) (m : ℕ) where
        first-scorables : Scorables ix reader.inverses.now places' 0 (first_of m rs)
        first-scorables = scorables-at same (record { sound = (first-sounds ix places m rs K.required.sound).0; tables = (first-tables ix reader.inverses.now m rs K.required.tables).0; few = omega (arith, K.few, first-nodes m rs) })

        rest-scorables : Scorables ix reader.inverses.now places' (nodes_of (first_of m rs) + nodes_of os) (rest_of m rs)
        rest-scorables = scorables-at same (record { sound = (first-sounds ix places m rs K.required.sound).1; tables = (first-tables ix reader.inverses.now m rs K.required.tables).1; few = omega (arith, K.few, first-nodes m rs) })

      front-ok : (ix : Index) (j : Joining) (rs os : Scorers) (rest : List ℕ) (w : List ℕ) (k : Cut ix j rs os rest w) → Oks ix reader.ranges.now (first_of k.m rs) depth (take node.group_at w) doc
      front-ok ix j rs os rest w k = subst (λ (l : List ℕ). Oks ix reader.ranges.now (first_of k.m rs) depth l doc) (sym (front-part k.x (k.y ++ (k.v ++ rest)) w node.group_at k.is k.first-long)) k.first-ok

      pub front-asks : Asked → RequiredScorePre (take node.group_at kids₁) z reader places' doc depth
      front-asks P =
          let k = cut P.0 P.1 P.2 P.3 P.4 P.6 (G.of P.0 P.1 P.2 P.3 P.4 P.5 P.6 P.7).1 in
          (P.0, first_of k.m P.2, 0, P.5, first-scorables P.0 P.1 P.2 P.3 P.4 P.6 k.m, (first_matches P.0 doc k.m P.2 P.6.all).0, front-ok P.0 P.1 P.2 P.3 P.4 kids₁ k, zero-small)

      module _ (front : Float) (xs : List ℕ) (long : length xs ≡ length (take node.group_at kids₁)) (post : RequiredScorePost (take node.group_at kids₁) z reader places' doc depth front xs) where
        abbrev kids₂ : List ℕ
        kids₂ = xs ++ drop node.group_at kids₁

        pub record Front (ix : Index) (j : Joining) (rs os : Scorers) (rest : List ℕ) : Type 0 where
          pub parts : Cut ix j rs os rest kids₂
          pub sum_is : SumIs zero_float (scoring (required_scores ix (first_of parts.m rs) doc)) (nodes_of (first_of parts.m rs)) front

        front_of : (ix : Index) (j : Joining) (rs os : Scorers) (rest : List ℕ) → LentAt ix reader.max_doc reader.postings.now reader.positions.now reader.norms.now doc → JoinAsks ix reader.inverses.now places j rs os node doc → PartsAre ix reader.ranges.now rs os depth doc rest kids → Front ix j rs os rest
        front_of ix j rs os rest L K Q =
            let k = cut ix j rs os rest K (G.of ix j rs os rest L K Q).1 in
            let q = post ix (first_of k.m rs) 0 L (first-scorables ix j rs os rest K k.m) (first_matches ix doc k.m rs K.all).0 (front-ok ix j rs os rest kids₁ k) zero-small in
            record {
              parts = record { m = k.m; joins = k.joins; x = xs; y = k.y; v = k.v; is = front-back k.x (k.y ++ (k.v ++ rest)) kids₁ node.group_at k.is k.first-long xs; first-long = long ∙ ap length (front-part k.x (k.y ++ (k.v ++ rest)) kids₁ node.group_at k.is k.first-long) ∙ k.first-long; rest-long = k.rest-long; first-ok = q.1; rest_ok = k.rest_ok; group-ok = k.group-ok };
              sum_is = sum_of (scoring (required_scores ix (first_of k.m rs) doc)) (nodes_of (first_of k.m rs)) front q.0;
            }

        module _ {places'' : ℕ} (same'' : places'' ≡ places') {sum : Float} (sum-of-two : sum ≡ add binary64 front g) where
          rest_part : (ix : Index) (j : Joining) (rs os : Scorers) (rest : List ℕ) (k : Cut ix j rs os rest kids₂) → Oks ix reader.ranges.now (rest_of k.m rs) depth (take (node.required_end - node.group_at) (drop node.group_at kids₂)) doc
          rest_part ix j rs os rest k = subst (λ (l : List ℕ). Oks ix reader.ranges.now (rest_of k.m rs) depth l doc) (sym (mid-part k.x k.y (k.v ++ rest) kids₂ node.group_at node.required_end k.is k.first-long k.rest-long)) k.rest_ok

          rest-small : (ix : Index) (j : Joining) (rs os : Scorers) (rest : List ℕ) → LentAt ix reader.max_doc reader.postings.now reader.positions.now reader.norms.now doc → JoinAsks ix reader.inverses.now places j rs os node doc → PartsAre ix reader.ranges.now rs os depth doc rest kids → (f : Front ix j rs os rest) → AtMost ((nodes_of (first_of f.parts.m rs) + nodes_of os) * 2 ^ 29) sum
          rest-small ix j rs os rest L K Q f = let o = group_of ix j rs os rest L K Q in joined-sum ix doc rs os K.few g o.0 o.1 f.parts.m front sum f.sum_is sum-of-two

          pub rest-asks : Asked → RequiredScorePre (take (node.required_end - node.group_at) (drop node.group_at kids₂)) sum reader places'' doc depth
          rest-asks P =
              let f = front_of P.0 P.1 P.2 P.3 P.4 P.5 P.6 P.7 in
              let k = f.parts in
              (P.0, rest_of k.m P.2, nodes_of (first_of k.m P.2) + nodes_of P.3, P.5, scorables-at same'' (rest-scorables P.0 P.1 P.2 P.3 P.4 P.6 k.m), (first_matches P.0 doc k.m P.2 P.6.all).1, rest_part P.0 P.1 P.2 P.3 P.4 k, rest-small P.0 P.1 P.2 P.3 P.4 P.5 P.6 P.7 f)

          pub rest-done : (all : Float) (ys : List ℕ) → RequiredScorePost (take (node.required_end - node.group_at) (drop node.group_at kids₂)) sum reader places'' doc depth all ys → (r : Float) → r ≡ narrow all → JoinPost kids node reader places doc depth r (put kids₂ node.group_at node.required_end ys)
          rest-done all ys last r h ix j rs os rest L K Q =
              let f = front_of ix j rs os rest L K Q in
              let k = f.parts in
              let o = group_of ix j rs os rest L K Q in
              let q = last ix (rest_of k.m rs) (nodes_of (first_of k.m rs) + nodes_of os) L (scorables-at same'' (rest-scorables ix j rs os rest K k.m)) (first_matches ix doc k.m rs K.all).1 (rest_part ix j rs os rest k) (rest-small ix j rs os rest L K Q f) in (
                subst (λ (i : Joining). JoinIs ix i rs os doc r) (sym k.joins) (joined-more ix doc rs os K.few g o.0 o.1 k.m front sum all r f.sum_is sum-of-two q.0 h),
                record {
                  required = k.x ++ ys;
                  optional = k.v;
                  is = mid_back k.x k.y (k.v ++ rest) kids₂ node.group_at node.required_end k.is k.first-long k.rest-long ys ∙ sym (append_assoc k.x ys (k.v ++ rest));
                  required-ok = oks-join ix reader.ranges.now depth doc k.m rs k.x ys k.first-ok q.1;
                  optional-ok = k.group-ok;
                },
              )
