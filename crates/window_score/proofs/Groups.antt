-- A Boolean with required children and a group whose sums are given, call by call: the required scores all in one, or before and after the place where the group joins. Assumes nothing.
use Rattle.std.proofs.Common.{◌≡◌, refl, sym, ap, subst, ◌∙◌, Bool, true, false, cond, List, [], ◌++◌, ℕ, ◌+◌, ◌-◌, ◌*◌, ◌^◌, ◌≤◌, ◌<◌, length, get_or, take, drop, append-nil, length-append, length-take, take_at, drop_at, arith}
use Rattle.std.proofs.Math.Seq.{take-length, drop-length}
use Rattle.std.proofs.lemmas.Bool.{true≢false}
use Rattle.std.specs.Prelude.{Float}
use Rattle.std.specs.Float.{nan, binary64}
use Rattle.std.specs.Float.Ieee.{add}
use Rattle.meaning.specs.Lent.{Index}
use Rattle.meaning.specs.Ieee754.{zero_float, narrow, sum_from, narrowed_sum}
use Rattle.ieee754.specs.Nonneg.{AtMost}
use Rattle.bits.specs.Bit.{bit}
use Rattle.tree_weight.specs.ScorerTree.{Scorers, Joining, one_more, afterwards, scoring, required_scores, optional_scores, joined_score}
use Rattle.tree_weight.specs.State.{sizes_of_first}
use Rattle.tree_weight.specs.Sound.{nodes_of}
use Rattle.score.specs.Asked.{SumIs, JoinsAt}
use Rattle.score.proofs.Join.{first_of, rest_of, first-sounds, first-tables, first-nodes, first_matches, group-is, joined-more, joined-after}
use Rattle.window_words.specs.Windowed.{nowhere, places_of, AllWindowed}
use Rattle.tree_node.specs.declared.Boolean.{Boolean}
use Rattle.window_score.specs.Sums.{Sums, Zeros, Added, AddedAll, NarrowedPre, NarrowedPost, AfterPre, AfterPost, NarrowedIs}
use Rattle.window_score.specs.Asked.{Reads, WindowLent, GroupAsked, RequiredAsked, RequiredScoresPre, RequiredScoresPost, RootGroupPre}
use Rattle.window_score.proofs.Loops.{put, sums-more}
use Rattle.window_score.proofs.Required.{lent-at}
use Rattle.window_score.proofs.Splits.{Split, all-split, all-join, zero-sums}

-- the required parts beside q leaves that are summed already, where the group's sums are known
abbrev pub GroupPre : List ℕ → Boolean → List Float → Reads → ℕ → ℕ → ℕ → List Float → ℕ → Type 0
GroupPre kids node group V starts other_starts want sums depth =
    (n : ℕ) × (ix : Index) × (places : ℕ) × (j : Joining) × (rs : Scorers) × (os : Scorers) × (q : ℕ) × WindowLent ix n V places starts other_starts want × GroupAsked ix V places j rs os node depth kids want q group × Sums q sums

-- which way the group joins
no-after : (j : Joining) (rs : Scorers) (a : Bool) (b : ℕ) → JoinsAt j rs (cond a 1 0) b → a ≡ false → (m : ℕ) × (j ≡ one_more m) × (b ≡ sizes_of_first m rs)
unfolding JoinsAt
no-after (one_more m) rs a b p h = (m, refl, p.1)
no-after afterwards rs true b p h = absurd (true≢false h)
no-after afterwards rs false b p h = absurd (omega (arith, p))

pub is-after : (j : Joining) (rs : Scorers) (a : Bool) (b : ℕ) → JoinsAt j rs (cond a 1 0) b → a ≡ true → j ≡ afterwards
unfolding JoinsAt
is-after (one_more m) rs true b p h = absurd (omega (arith, p.0))
is-after (one_more m) rs false b p h = absurd (true≢false (sym h))
is-after afterwards rs a b p h = refl

-- another score, the same at the wanted places
pub added-as : (f g : ℕ → Float) (want : ℕ) (sums sums' : List Float) → ((p : ℕ) → p < 64 → bit p want ≡ true → f p ≡ g p) → Added f want sums sums' → Added g want sums sums'
added-as f g want sums sums' h a = record { wanted = λ p l e. a.wanted p l e ∙ ap (add binary64 (get_or sums p nan)) (h p l e); others = a.others }

-- a sum that began at 0
pub summed : (own own' : List Float) (z : Zeros own) (want : ℕ) (scores : ℕ → List Float) → AddedAll scores want own own' → (q : ℕ) → Sums (0 + q) own' → (p : ℕ) → p < 64 → bit p want ≡ true → SumIs zero_float (scores p) q (get_or own' p nan)
summed own own' z want scores a q s p l e =
    record { is = a.wanted p l e ∙ ap (λ (x : Float). sum_from x (scores p)) (z.zero p l); small = (sums-more (0 + q) q own' (omega arith) s).small p l }

-- ---- the parts behind a place, after those before it were put back
rest-part : (xs kids : List ℕ) (at : ℕ) → at ≤ length kids → length xs ≡ length (take at kids) → take (length (xs ++ drop at kids) - at) (drop at (xs ++ drop at kids)) ≡ drop at kids
rest-part xs kids at l len =
    let r : List ℕ = drop at kids in
    let n : length xs ≡ at = len ∙ length-take at kids ∙ omega (arith, l) in
    let m : length (xs ++ r) - at ≡ length r = omega (arith, length-append xs r, n) in
    ap (take (length (xs ++ r) - at)) (drop_at xs r at n) ∙ ap (λ (i : ℕ). take i r) m ∙ take-length r

rest-back : (xs ys kids : List ℕ) (at : ℕ) → at ≤ length kids → length xs ≡ length (take at kids) → put (xs ++ drop at kids) at (length (xs ++ drop at kids)) ys ≡ xs ++ ys
rest-back xs ys kids at l len =
    let r : List ℕ = drop at kids in
    let n : length xs ≡ at = len ∙ length-take at kids ∙ omega (arith, l) in
    let m : length (xs ++ r) - at ≡ length r = omega (arith, length-append xs r, n) in
    let none : drop (length (xs ++ r) - at) (drop at (xs ++ r)) ≡ [] = ap (drop (length (xs ++ r) - at)) (drop_at xs r at n) ∙ ap (λ (i : ℕ). drop i r) m ∙ drop-length r in
    ap (λ (t : List ℕ). t ++ (ys ++ drop (length (xs ++ r) - at) (drop at (xs ++ r)))) (take_at xs r at n) ∙ ap (λ (t : List ℕ). xs ++ (ys ++ t)) none ∙ ap (λ (t : List ℕ). xs ++ t) (append-nil ys)

module _ {kids : List ℕ} {node : Boolean} {group : List Float} {V : Reads} {starts other_starts want : ℕ} {sums : List Float} {depth : ℕ} where
  abbrev goal-score : GroupPre kids node group V starts other_starts want sums depth → ℕ → Float
  goal-score w p = joined_score w.3 (required_scores w.1 w.4 (V.base + p)) (narrowed_sum (optional_scores w.1 w.5 (V.base + p)))

  -- the group's score at a wanted place
  module _ (w : GroupPre kids node group V starts other_starts want sums depth) (p : ℕ) (l : p < 64) (e : bit p want ≡ true) where
    os-few : nodes_of w.5 ≤ 256
    os-few = let f = w.8.few in omega (arith, f)

    all-few : nodes_of w.4 + nodes_of w.5 ≤ 256
    all-few = let f = w.8.few in omega (arith, f)

    group-at : (narrow (get_or group p nan) ≡ narrowed_sum (optional_scores w.1 w.5 (V.base + p))) × AtMost (nodes_of w.5 * 2 ^ 29) (narrow (get_or group p nan))
    group-at = group-is (optional_scores w.1 w.5 (V.base + p)) (nodes_of w.5) (get_or group p nan) (narrow (get_or group p nan)) os-few (record { is = w.8.group-is p l e; small = w.8.group-sums.small p l }) refl

  module _ (own : List Float) (own-zero : Zeros own) where
    -- ---- the group joins after the required sum is narrowed
    pub after-ask : GroupPre kids node group V starts other_starts want sums depth → RequiredScoresPre kids V starts other_starts want own depth
    after-ask w = (w.0, w.1, w.2, w.4, 0, w.7, w.8.required, zero-sums own own-zero)

    module _ (kids' : List ℕ) (own' : List Float) (post : RequiredScoresPost kids V starts other_starts want own depth kids' own') where
      after-own : (w : GroupPre kids node group V starts other_starts want sums depth) → AddedAll (λ p. scoring (required_scores w.1 w.4 (V.base + p))) want own own' × Sums (0 + nodes_of w.4) own' × AllWindowed w.1 V.ranges w.4 depth kids' (V.base + 64) (V.base + 64) nowhere
      after-own w = post w.0 w.1 w.2 w.4 0 w.7 w.8.required (zero-sums own own-zero)

      after-score : node.afterwards ≡ true → (w : GroupPre kids node group V starts other_starts want sums depth) (p : ℕ) → p < 64 → bit p want ≡ true → narrow (add binary64 (narrow (get_or own' p nan)) (narrow (get_or group p nan))) ≡ goal-score w p
      after-score after w p l e =
          let r = after-own w in
          let g = group-at w p l e in
          let two = add binary64 (narrow (get_or own' p nan)) (narrow (get_or group p nan)) in
          (joined-after w.1 (V.base + p) w.4 w.5 (all-few w p l e) (narrow (get_or group p nan)) g.0 g.1 (get_or own' p nan) (narrow (get_or own' p nan)) two (narrow two) (summed own own' own-zero want (λ i. scoring (required_scores w.1 w.4 (V.base + i))) r.0 (nodes_of w.4) r.1 p l e) refl refl refl).is
          ∙ ap (λ (i : Joining). joined_score i (required_scores w.1 w.4 (V.base + p)) (narrowed_sum (optional_scores w.1 w.5 (V.base + p)))) (sym (is-after w.3 w.4 node.afterwards node.group_at w.8.joins after))

      pub after-root-join : GroupPre kids node group V starts other_starts want sums depth → AfterPre group own'
      after-root-join w = let f = w.8.few in (nodes_of w.4, nodes_of w.5, (omega (arith, f), sums-more (0 + nodes_of w.4) (nodes_of w.4) own' (omega arith) (after-own w).1), w.8.group-sums)

      pub after-root : node.afterwards ≡ true → (own'' : List Float) → AfterPost group want own' own'' → (w : GroupPre kids node group V starts other_starts want sums depth) → NarrowedIs (goal-score w) want own own'' × Sums (nodes_of w.4 + nodes_of w.5) own'' × AllWindowed w.1 V.ranges w.4 depth kids' (V.base + 64) (V.base + 64) nowhere
      after-root after own'' join w =
          let f = w.8.few in (
            record { long = join.1; wanted = λ p l e. ap narrow (join.0.wanted p l e) ∙ after-score after w p l e; others = λ p l e. join.0.others p l e ∙ (after-own w).0.others p l e },
            join.2 (nodes_of w.4) (nodes_of w.5) (omega (arith, f), sums-more (0 + nodes_of w.4) (nodes_of w.4) own' (omega arith) (after-own w).1) w.8.group-sums,
            (after-own w).2,
          )

    -- ---- the group joins as one more
    module _ (other : node.afterwards ≡ false) where
      m-of : (w : GroupPre kids node group V starts other_starts want sums depth) → (m : ℕ) × (w.3 ≡ one_more m) × (node.group_at ≡ sizes_of_first m w.4)
      m-of w = no-after w.3 w.4 node.afterwards node.group_at w.8.joins other

      abbrev cut : (w : GroupPre kids node group V starts other_starts want sums depth) → Split w.1 V.ranges depth (m-of w).0 w.4 kids (V.base + 64) V.base (places_of want)
      cut w = all-split w.1 V.ranges depth (m-of w).0 w.4 kids (V.base + 64) V.base (places_of want) w.8.required.held

      at-cut : (w : GroupPre kids node group V starts other_starts want sums depth) → length (cut w).x ≡ node.group_at
      at-cut w = (cut w).place ∙ sym (m-of w).2

      pub cut-fits : GroupPre kids node group V starts other_starts want sums depth → node.group_at ≤ length kids
      cut-fits w = omega (arith, ap length (cut w).is, length-append (cut w).x (cut w).y, at-cut w)

      front-is : (w : GroupPre kids node group V starts other_starts want sums depth) → take node.group_at kids ≡ (cut w).x
      front-is w = ap (take node.group_at) (cut w).is ∙ take_at (cut w).x (cut w).y node.group_at (at-cut w)

      back-is : (w : GroupPre kids node group V starts other_starts want sums depth) → drop node.group_at kids ≡ (cut w).y
      back-is w = ap (drop node.group_at) (cut w).is ∙ drop_at (cut w).x (cut w).y node.group_at (at-cut w)

      front-asked : (w : GroupPre kids node group V starts other_starts want sums depth) → RequiredAsked w.1 V w.2 (first_of (m-of w).0 w.4) depth (take node.group_at kids) want 0
      front-asked w =
          let m = (m-of w).0 in
          let s = w.8.required.scorables in
          record {
            scorables = record { sound = (first-sounds w.1 w.2 m w.4 s.sound).0; tables = (first-tables w.1 V.inverses m w.4 s.tables).0; few = omega (arith, s.few, first-nodes m w.4) };
            match = λ p l e. (first_matches w.1 (V.base + p) m w.4 (w.8.required.match p l e)).0;
            held = subst (λ (v : List ℕ). AllWindowed w.1 V.ranges (first_of m w.4) depth v (V.base + 64) V.base (places_of want)) (sym (front-is w)) (cut w).first;
          }

      pub front-ask : GroupPre kids node group V starts other_starts want sums depth → RequiredScoresPre (take node.group_at kids) V starts other_starts want own depth
      front-ask w = (w.0, w.1, w.2, first_of (m-of w).0 w.4, 0, w.7, front-asked w, zero-sums own own-zero)

      module _ (xs : List ℕ) (own₁ : List Float) (long : length xs ≡ length (take node.group_at kids)) (post₁ : RequiredScoresPost (take node.group_at kids) V starts other_starts want own depth xs own₁) where
        front-own : (w : GroupPre kids node group V starts other_starts want sums depth) → AddedAll (λ p. scoring (required_scores w.1 (first_of (m-of w).0 w.4) (V.base + p))) want own own₁ × Sums (0 + nodes_of (first_of (m-of w).0 w.4)) own₁ × AllWindowed w.1 V.ranges (first_of (m-of w).0 w.4) depth xs (V.base + 64) (V.base + 64) nowhere
        front-own w = post₁ w.0 w.1 w.2 (first_of (m-of w).0 w.4) 0 w.7 (front-asked w) (zero-sums own own-zero)

        pub group-add : GroupPre kids node group V starts other_starts want sums depth → NarrowedPre group own₁
        group-add w =
            let F = nodes_of (first_of (m-of w).0 w.4) in
            let f = w.8.few in
            (F, nodes_of w.5, (omega (arith, f, first-nodes (m-of w).0 w.4), sums-more (0 + F) F own₁ (omega arith) (front-own w).1), w.8.group-sums)

        module _ (own₂ : List Float) (post₂ : NarrowedPost group want own₁ own₂) where
          group-own : (w : GroupPre kids node group V starts other_starts want sums depth) → Added (λ p. narrow (get_or group p nan)) want own₁ own₂ × Sums (nodes_of (first_of (m-of w).0 w.4) + nodes_of w.5) own₂
          unfolding group-add
          group-own w = let G = group-add w in post₂ G.0 G.1 G.2 G.3

          rest-asked : (w : GroupPre kids node group V starts other_starts want sums depth) → RequiredAsked w.1 V w.2 (rest_of (m-of w).0 w.4) depth (take (length (xs ++ drop node.group_at kids) - node.group_at) (drop node.group_at (xs ++ drop node.group_at kids))) want (nodes_of (first_of (m-of w).0 w.4) + nodes_of w.5)
          rest-asked w =
              let m = (m-of w).0 in
              let s = w.8.required.scorables in
              let f = w.8.few in
              record {
                scorables = record { sound = (first-sounds w.1 w.2 m w.4 s.sound).1; tables = (first-tables w.1 V.inverses m w.4 s.tables).1; few = omega (arith, f, first-nodes m w.4) };
                match = λ p l e. (first_matches w.1 (V.base + p) m w.4 (w.8.required.match p l e)).1;
                held = subst (λ (v : List ℕ). AllWindowed w.1 V.ranges (rest_of m w.4) depth v (V.base + 64) V.base (places_of want)) (sym (rest-part xs kids node.group_at (cut-fits w) long ∙ back-is w)) (cut w).rest;
              }

          module _ (starts' other_starts' : ℕ) (same-starts : starts' ≡ starts) (same-other : other_starts' ≡ other_starts) where
            pub rest-ask : GroupPre kids node group V starts other_starts want sums depth → RequiredScoresPre (take (length (xs ++ drop node.group_at kids) - node.group_at) (drop node.group_at (xs ++ drop node.group_at kids))) V starts' other_starts' want own₂ depth
            rest-ask w = (w.0, w.1, w.2, rest_of (m-of w).0 w.4, nodes_of (first_of (m-of w).0 w.4) + nodes_of w.5, lent-at starts' other_starts' want same-starts same-other (λ p l e. e) w.7, rest-asked w, (group-own w).1)

            module _ (ys : List ℕ) (own₃ : List Float) (post₃ : RequiredScoresPost (take (length (xs ++ drop node.group_at kids) - node.group_at) (drop node.group_at (xs ++ drop node.group_at kids))) V starts' other_starts' want own₂ depth ys own₃) where
              rest-own : (w : GroupPre kids node group V starts other_starts want sums depth) → AddedAll (λ p. scoring (required_scores w.1 (rest_of (m-of w).0 w.4) (V.base + p))) want own₂ own₃ × Sums (nodes_of (first_of (m-of w).0 w.4) + nodes_of w.5 + nodes_of (rest_of (m-of w).0 w.4)) own₃ × AllWindowed w.1 V.ranges (rest_of (m-of w).0 w.4) depth ys (V.base + 64) (V.base + 64) nowhere
              unfolding rest-ask
              rest-own w = let R = rest-ask w in post₃ R.0 R.1 R.2 R.3 R.4 R.5 R.6 R.7

              more-score : (w : GroupPre kids node group V starts other_starts want sums depth) (p : ℕ) → p < 64 → bit p want ≡ true → narrow (get_or own₃ p nan) ≡ goal-score w p
              more-score w p l e =
                  let ix = w.1 in
                  let rs = w.4 in
                  let m = m-of w in
                  let F = front-own w in
                  let R = rest-own w in
                  let g = group-at w p l e in
                  (joined-more ix (V.base + p) rs w.5 (all-few w p l e) (narrow (get_or group p nan)) g.0 g.1 m.0 (get_or own₁ p nan) (get_or own₂ p nan) (get_or own₃ p nan) (narrow (get_or own₃ p nan))
                  (summed own own₁ own-zero want (λ i. scoring (required_scores ix (first_of m.0 rs) (V.base + i))) F.0 (nodes_of (first_of m.0 rs)) F.1 p l e)
                  ((group-own w).0.wanted p l e)
                  (record { is = R.0.wanted p l e; small = R.1.small p l })
                  refl).is
                  ∙ ap (λ (i : Joining). joined_score i (required_scores ix rs (V.base + p)) (narrowed_sum (optional_scores ix w.5 (V.base + p)))) (sym m.1)

              more-left : (w : GroupPre kids node group V starts other_starts want sums depth) → AllWindowed w.1 V.ranges w.4 depth (put (xs ++ drop node.group_at kids) node.group_at (length (xs ++ drop node.group_at kids)) ys) (V.base + 64) (V.base + 64) nowhere
              more-left w = subst (λ (l : List ℕ). AllWindowed w.1 V.ranges w.4 depth l (V.base + 64) (V.base + 64) nowhere) (sym (rest-back xs ys kids node.group_at (cut-fits w) long)) (all-join w.1 V.ranges depth (m-of w).0 w.4 xs ys (V.base + 64) (V.base + 64) nowhere (front-own w).2 (rest-own w).2)

              pub more-root : (w : GroupPre kids node group V starts other_starts want sums depth) → NarrowedIs (goal-score w) want own own₃ × Sums (nodes_of w.4 + nodes_of w.5) own₃ × AllWindowed w.1 V.ranges w.4 depth (put (xs ++ drop node.group_at kids) node.group_at (length (xs ++ drop node.group_at kids)) ys) (V.base + 64) (V.base + 64) nowhere
              more-root w =
                  let m = (m-of w).0 in
                  let all = nodes_of (first_of m w.4) + nodes_of w.5 + nodes_of (rest_of m w.4) in (
                    record { long = (rest-own w).1.long; wanted = more-score w; others = λ p l e. (rest-own w).0.others p l e ∙ (group-own w).0.others p l e ∙ (front-own w).0.others p l e },
                    sums-more all (nodes_of w.4 + nodes_of w.5) own₃ (omega (arith, first-nodes m w.4)) (rest-own w).1,
                    more-left w,
                  )

-- ---- at a root, whose sums were 0
module _ {kids : List ℕ} {node : Boolean} {group : List Float} {V : Reads} {starts other_starts want : ℕ} {sums : List Float} {depth : ℕ} (w : RootGroupPre kids node group V starts other_starts want sums depth) where
  pub root-group-as : GroupPre kids node group V starts other_starts want sums depth
  root-group-as = let r = w.1 in (r.0, r.1, r.2, r.3, r.4, r.5, 0, r.6, r.7, zero-sums sums w.0)
