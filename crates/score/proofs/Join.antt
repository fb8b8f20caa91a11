-- A Boolean's required children before and after the place where its group joins. Assumes nothing.
use Rattle.std.proofs.lemmas.Bool.{and_parts}
use mathlib.Core.Path.{◌≡◌, refl, sym, ap, subst, ◌∙◌}
use mathlib.Core.Bool.{Bool, true, cond, ◌&&◌}
use mathlib.Core.List.{List, [], ◌∷◌, ◌++◌, append_assoc}
use Prim.Native.Nat.{ℕ, zero, suc, ◌+◌, ◌*◌, ◌^◌, ◌≤◌}
use native.Mathlib.Omega.{arith}
use lib.ListN.{length, length-append}
use lib.Ieee.{Float, binary64, add}
use Rattle.meaning.specs.Lent.{Index}
use Rattle.meaning.specs.Ieee754.{zero_float, narrow, sum_from, narrowed_sum}
use Rattle.ieee754.specs.Nonneg.{AtMost}
use Rattle.tree_weight.specs.ScorerTree.{Scorers, end, more, matches, all_match, one_more, afterwards, joined_score, scorer_score, scoring, with_group, required_scores, optional_scores}
use Rattle.tree_weight.specs.State.{sizes_of_first}
use Rattle.tree_weight.specs.Held.{Oks}
use Rattle.tree_weight.specs.Sound.{Sounds, TablesOf, nodes_of}
use Rattle.score.specs.Asked.{SumIs, JoinIs}
use Rattle.score_leaf.proofs.Bounds.{scores-add, scores-narrow}
use Rattle.scorer_leaf.proofs.Bounds.{ok-length}

-- the first n of some children, and the others
unfoldable pub first_of : ℕ → Scorers → Scorers
first_of zero ss = end
first_of (suc n) end = end
first_of (suc n) (more f T g) = more f T (first_of n g)

unfoldable pub rest_of : ℕ → Scorers → Scorers
rest_of zero ss = ss
rest_of (suc n) end = end
rest_of (suc n) (more f T g) = rest_of n g

and-true : (a b : Bool) → a ≡ true → b ≡ true → a && b ≡ true
and-true a b e h = rw (e, h)

pub first-sounds : (ix : Index) (places n : ℕ) (ss : Scorers) → Sounds ix places ss → Sounds ix places (first_of n ss) × Sounds ix places (rest_of n ss)
unfolding Sounds first_of rest_of
first-sounds ix places zero ss p = (tt, p)
first-sounds ix places (suc n) end p = (tt, tt)
first-sounds ix places (suc n) (more f T g) p = let q = first-sounds ix places n g p.1 in ((p.0, q.0), q.1)

pub first-tables : (ix : Index) (table : List Float) (n : ℕ) (ss : Scorers) → TablesOf ix table ss → TablesOf ix table (first_of n ss) × TablesOf ix table (rest_of n ss)
unfolding TablesOf first_of rest_of
first-tables ix table zero ss p = (tt, p)
first-tables ix table (suc n) end p = (tt, tt)
first-tables ix table (suc n) (more f T g) p = let q = first-tables ix table n g p.1 in ((p.0, q.0), q.1)

pub first-nodes : (n : ℕ) (ss : Scorers) → nodes_of (first_of n ss) + nodes_of (rest_of n ss) ≡ nodes_of ss
unfolding nodes_of first_of rest_of
first-nodes zero ss = omega arith
first-nodes (suc n) end = omega arith
first-nodes (suc n) (more f T g) = omega (arith, first-nodes n g)

pub first_matches : (ix : Index) (d n : ℕ) (ss : Scorers) → all_match ix ss d ≡ true → (all_match ix (first_of n ss) d ≡ true) × (all_match ix (rest_of n ss) d ≡ true)
unfolding all_match first_of rest_of
first_matches ix d zero ss p = (refl, p)
first_matches ix d (suc n) end p = (refl, refl)
first_matches ix d (suc n) (more f T g) p =
    let a = and_parts (matches ix T d) (all_match ix g d) p in
    let q = first_matches ix d n g a.1 in
    (and-true (matches ix T d) (all_match ix (first_of n g) d) a.0 q.0, q.1)

-- the parts, split there and put together again
pub record Split (ix : Index) (ranges : List ℕ) (k doc n : ℕ) (ss : Scorers) (w : List ℕ) : Type 0 where
  pub x : List ℕ
  pub y : List ℕ
  pub is : w ≡ x ++ y
  pub place : length x ≡ sizes_of_first n ss
  pub first : Oks ix ranges (first_of n ss) k x doc
  pub rest : Oks ix ranges (rest_of n ss) k y doc

pub oks-split : (ix : Index) (ranges : List ℕ) (k doc n : ℕ) (ss : Scorers) (w : List ℕ) → Oks ix ranges ss k w doc → Split ix ranges k doc n ss w
unfolding Oks first_of rest_of sizes_of_first
oks-split ix ranges k doc zero ss w p = record { x = []; y = w; is = refl; place = refl; first = refl; rest = p }
oks-split ix ranges k doc (suc n) end w p = record { x = []; y = w; is = refl; place = refl; first = refl; rest = p }
oks-split ix ranges k doc (suc n) (more f T g) w p =
    let q = oks-split ix ranges k doc n g p.1 p.4 in
    record {
      x = p.0 ++ q.x;
      y = q.y;
      is = p.2 ∙ ap (λ (l : List ℕ). p.0 ++ l) q.is ∙ sym (append_assoc p.0 q.x q.y);
      place = omega (arith, length-append p.0 q.x, q.place, ok-length ix ranges T k (cond f 1 0) p.0 doc p.3);
      first = (p.0, q.x, refl, p.3, q.first);
      rest = q.rest;
    }

pub oks-join : (ix : Index) (ranges : List ℕ) (k doc n : ℕ) (ss : Scorers) (x y : List ℕ) → Oks ix ranges (first_of n ss) k x doc → Oks ix ranges (rest_of n ss) k y doc → Oks ix ranges ss k (x ++ y) doc
unfolding Oks first_of rest_of
oks-join ix ranges k doc zero ss x y p q = subst (λ (l : List ℕ). Oks ix ranges ss k (l ++ y) doc) (sym p) q
oks-join ix ranges k doc (suc n) end x y p q = rw (p, q)
oks-join ix ranges k doc (suc n) (more f T g) x y p q =
    (p.0, p.1 ++ y, ap (λ (l : List ℕ). l ++ y) p.2 ∙ append_assoc p.0 p.1 y, p.3, oks-join ix ranges k doc n g p.1 y p.4 q)

-- ---- the sums
pub sum-append : (x : Float) (xs ys : List Float) → sum_from x (xs ++ ys) ≡ sum_from (sum_from x xs) ys
unfolding sum_from
sum-append x [] ys = refl
sum-append x (y ∷ xs) ys = sum-append (add binary64 x y) xs ys

pub with-group : (ix : Index) (d : ℕ) (n : ℕ) (g : Float) (ss : Scorers) → with_group n g (required_scores ix ss d) ≡ scoring (required_scores ix (first_of n ss) d) ++ (g ∷ scoring (required_scores ix (rest_of n ss) d))
unfolding with_group required_scores scoring first_of rest_of
with-group ix d zero g ss = refl
with-group ix d (suc n) g end = refl
with-group ix d (suc n) g (more f T ss) =
    ap (λ (l : List Float). cond f (scorer_score ix T d ∷ []) [] ++ l) (with-group ix d n g ss)
    ∙ sym (append_assoc (cond f (scorer_score ix T d ∷ []) []) (scoring (required_scores ix (first_of n ss) d)) (g ∷ scoring (required_scores ix (rest_of n ss) d)))

-- the group's score
pub group-is : (xs : List Float) (p : ℕ) (r g : Float) → p ≤ 256 → SumIs zero_float xs p r → g ≡ narrow r → (g ≡ narrowed_sum xs) × AtMost (p * 2 ^ 29) g
unfolding narrowed_sum
group-is xs p r g h s e = (e ∙ ap narrow s.is, subst (λ (z : Float). AtMost (p * 2 ^ 29) z) (sym e) (scores-narrow p r h s.small))

module _ (ix : Index) (doc : ℕ) (rs os : Scorers) (few : nodes_of rs + nodes_of os ≤ 256) (g : Float) (is-group : g ≡ narrowed_sum (optional_scores ix os doc)) (small : AtMost (nodes_of os * 2 ^ 29) g) where
  -- the group joins as one more
  pub joined-more : (n : ℕ) (front sum all r : Float) → SumIs zero_float (scoring (required_scores ix (first_of n rs) doc)) (nodes_of (first_of n rs)) front → sum ≡ add binary64 front g → SumIs sum (scoring (required_scores ix (rest_of n rs) doc)) (nodes_of (first_of n rs) + nodes_of os + nodes_of (rest_of n rs)) all → r ≡ narrow all → JoinIs ix (one_more n) rs os doc r
  unfolding joined_score narrowed_sum sum_from
  joined-more n front sum all r a e b q =
      let xs = scoring (required_scores ix (first_of n rs) doc) in
      let ys = scoring (required_scores ix (rest_of n rs) doc) in
      let m : nodes_of (first_of n rs) + nodes_of os + nodes_of (rest_of n rs) ≡ nodes_of rs + nodes_of os = omega (arith, first-nodes n rs) in
      let t : all ≡ sum_from zero_float (with_group n g (required_scores ix rs doc)) =
      b.is ∙ ap (λ (z : Float). sum_from z ys) (e ∙ ap (λ (z : Float). add binary64 z g) a.is) ∙ sym (sum-append zero_float xs (g ∷ ys)) ∙ ap (λ (l : List Float). sum_from zero_float l) (sym (with-group ix doc n g rs)) in
      record {
        is = q ∙ ap narrow t ∙ ap (λ (z : Float). narrow (sum_from zero_float (with_group n z (required_scores ix rs doc)))) is-group;
        small = subst (λ (z : Float). AtMost ((nodes_of rs + nodes_of os) * 2 ^ 29) z) (sym q) (scores-narrow (nodes_of rs + nodes_of os) all few (subst (λ (i : ℕ). AtMost (i * 2 ^ 29) all) m b.small));
      }

  pub joined-sum : (n : ℕ) (front sum : Float) → SumIs zero_float (scoring (required_scores ix (first_of n rs) doc)) (nodes_of (first_of n rs)) front → sum ≡ add binary64 front g → AtMost ((nodes_of (first_of n rs) + nodes_of os) * 2 ^ 29) sum
  joined-sum n front sum a e = subst (λ (z : Float). AtMost ((nodes_of (first_of n rs) + nodes_of os) * 2 ^ 29) z) (sym e) (scores-add (nodes_of (first_of n rs)) (nodes_of os) front g (omega (arith, first-nodes n rs)) a.small small)

  -- the group joins after the required sum is narrowed
  pub joined-after : (sum wide two r : Float) → SumIs zero_float (scoring (required_scores ix rs doc)) (nodes_of rs) sum → wide ≡ narrow sum → two ≡ add binary64 wide g → r ≡ narrow two → JoinIs ix afterwards rs os doc r
  unfolding joined_score narrowed_sum
  joined-after sum wide two r a e b q =
      record {
        is = q ∙ ap narrow (b ∙ ap (λ (z : Float). add binary64 z g) (e ∙ ap narrow a.is)) ∙ ap (λ (z : Float). narrow (add binary64 (narrow (sum_from zero_float (scoring (required_scores ix rs doc)))) z)) is-group;
        small = subst (λ (z : Float). AtMost ((nodes_of rs + nodes_of os) * 2 ^ 29) z) (sym (q ∙ ap narrow b))
            (scores-narrow (nodes_of rs + nodes_of os) (add binary64 wide g) few
            (scores-add (nodes_of rs) (nodes_of os) wide g few (subst (λ (z : Float). AtMost (nodes_of rs * 2 ^ 29) z) (sym e) (scores-narrow (nodes_of rs) sum (omega arith) a.small)) small));
      }
