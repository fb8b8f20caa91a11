-- A Boolean without optional or without required children: +0 added to a sum that is not negative, and a value narrowed twice, change nothing. Assumes nothing.
use mathlib.Core.Path.{◌≡◌, refl, sym, ap, subst, ◌∙◌}
use mathlib.Core.Bool.{false, cond}
use mathlib.Core.List.{List, [], ◌∷◌, ◌++◌, append_assoc}
use Prim.Native.Nat.{ℕ, zero, suc, ◌+◌, ◌*◌, ◌^◌, ◌≤◌}
use native.Mathlib.Omega.{arith}
use lib.Dec.{T}
use lib.Ieee.{Float, binary32, binary64, add, round, fits}
use lib.Ieee.Fits.{add-fits, fits_widens}
use lib.Ieee.Positive.{num, den}
use Rattle.meaning.specs.Limits.{node_state_words}
use Rattle.meaning.specs.Lent.{Index}
use Rattle.meaning.specs.Ieee754.{zero_float, narrow, sum_from, narrowed_sum}
use Rattle.ieee754.specs.Nonneg.{nonneg, AtMost}
use Rattle.ieee754.proofs.Nonneg.{round-self}
use Rattle.ieee754.proofs.Ranges.{add_is}
use Rattle.ieee754.proofs.Bounds.{zero-atmost}
use Rattle.ieee754.proofs.Narrowing.{narrow-fits, narrow_exact}
use Rattle.ieee754.proofs.Successor.{zero-fits}
use Rattle.tree_weight.specs.ScorerTree.{Leaf, nothing, term, phrase, range, everything, leaf, boolean, Scorers, end, more, Joining, one_more, afterwards, with_group, scoring, joined_score, scorer_score, required_scores, optional_scores}
use Rattle.tree_weight.specs.State.{leaf_size, size_of, sizes_of}
use Rattle.tree_weight.specs.Sound.{nodes_of}
use Rattle.score.specs.Asked.{SumIs, JoinIs}
use Rattle.score_leaf.proofs.Bounds.{scores-narrow, scores-more}
use Rattle.score.proofs.Join.{first_of, rest_of, sum-append, with-group}

-- ---- +0
pub plus-zero : (x : Float) → T (fits binary64 x) → T (nonneg x) → add binary64 x zero_float ≡ x
plus-zero x h p =
    let a : num x * den zero_float + num zero_float * den x ≡ num x = omega arith in
    let b : den x * den zero_float ≡ den x = omega arith in
    add_is binary64 x zero_float p tt ∙ ap (λ (i : ℕ). round binary64 false i (den x * den zero_float)) a ∙ ap (λ (i : ℕ). round binary64 false (num x) i) b ∙ round-self binary64 x h p

pub zero-plus : (x : Float) → T (fits binary64 x) → T (nonneg x) → add binary64 zero_float x ≡ x
zero-plus x h p =
    let a : num zero_float * den x + num x * den zero_float ≡ num x = omega arith in
    let b : den zero_float * den x ≡ den x = omega arith in
    add_is binary64 zero_float x tt p ∙ ap (λ (i : ℕ). round binary64 false i (den zero_float * den x)) a ∙ ap (λ (i : ℕ). round binary64 false (num x) i) b ∙ round-self binary64 x h p

-- a binary32 value that is not negative, as a sum of it alone, is narrow already
pub narrow-alone : (x : Float) → T (fits binary32 x) → T (nonneg x) → narrow (add binary64 zero_float x) ≡ x
narrow-alone x h p = ap narrow (zero-plus x (fits_widens x h) p) ∙ narrow_exact x h

pub zero-narrowed : zero_float ≡ narrow zero_float
zero-narrowed = sym (narrow_exact zero_float zero-fits)

sum_fits : (x : Float) (xs : List Float) → T (fits binary64 x) → T (fits binary64 (sum_from x xs))
unfolding sum_from
sum_fits x [] h = h
sum_fits x (y ∷ ys) h = sum_fits (add binary64 x y) ys (add-fits binary64 x y)

-- ---- the scores, split where the group joins
scoring-split : (ix : Index) (d n : ℕ) (ss : Scorers) → scoring (required_scores ix (first_of n ss) d) ++ scoring (required_scores ix (rest_of n ss) d) ≡ scoring (required_scores ix ss d)
unfolding required_scores scoring first_of rest_of
scoring-split ix d zero ss = refl
scoring-split ix d (suc n) end = refl
scoring-split ix d (suc n) (more f S ss) =
    append_assoc (cond f (scorer_score ix S d ∷ []) []) (scoring (required_scores ix (first_of n ss) d)) (scoring (required_scores ix (rest_of n ss) d))
    ∙ ap (λ (l : List Float). cond f (scorer_score ix S d ∷ []) [] ++ l) (scoring-split ix d n ss)

-- a group of 0 changes nothing
no-group : (ix : Index) (d : ℕ) (rs : Scorers) (j : Joining) → ((n : ℕ) → T (nonneg (sum_from zero_float (scoring (required_scores ix (first_of n rs) d))))) → T (nonneg (narrow (sum_from zero_float (scoring (required_scores ix rs d))))) → joined_score j (required_scores ix rs d) zero_float ≡ narrow (sum_from zero_float (scoring (required_scores ix rs d)))
unfolding joined_score narrowed_sum sum_from
no-group ix d rs (one_more n) front all =
    let xs = scoring (required_scores ix (first_of n rs) d) in
    let ys = scoring (required_scores ix (rest_of n rs) d) in
    ap narrow (ap (λ (l : List Float). sum_from zero_float l) (with-group ix d n zero_float rs) ∙ sum-append zero_float xs (zero_float ∷ ys) ∙ ap (λ (z : Float). sum_from z ys) (plus-zero (sum_from zero_float xs) (sum_fits zero_float xs (fits_widens zero_float zero-fits)) (front n)) ∙ sym (sum-append zero_float xs ys) ∙ ap (λ (l : List Float). sum_from zero_float l) (scoring-split ix d n rs))
no-group ix d rs afterwards front all =
    let x = narrow (sum_from zero_float (scoring (required_scores ix rs d))) in
    let h = narrow-fits (sum_from zero_float (scoring (required_scores ix rs d))) in
    ap narrow (plus-zero x (fits_widens x h) all) ∙ narrow_exact x h

-- a group that nothing is joined to
pub group-alone : (j : Joining) (g : Float) → T (fits binary32 g) → T (nonneg g) → joined_score j [] g ≡ g
unfolding joined_score narrowed_sum with_group scoring sum_from
group-alone (one_more zero) g h p = narrow-alone g h p
group-alone (one_more (suc n)) g h p = narrow-alone g h p
group-alone afterwards g h p = ap narrow (ap (λ (z : Float). add binary64 z g) (sym zero-narrowed)) ∙ narrow-alone g h p

-- ---- parts of no words are no parts
leaf-long : (l : Leaf) → node_state_words ≤ leaf_size l
unfolding leaf_size
leaf-long nothing = omega arith
leaf-long (term l) = omega arith
leaf-long (phrase f ts) = omega arith
leaf-long (range r) = omega arith
leaf-long everything = omega arith

pub none_left : (ss : Scorers) → sizes_of ss ≡ 0 → ss ≡ end
unfolding sizes_of size_of
none_left end e = refl
none_left (more f (leaf l c) g) e = absurd (omega (arith, e, leaf-long l))
none_left (more f (boolean c j need rs os ps) g) e = absurd (omega (arith, e))

pub none-summed : (ix : Index) (d : ℕ) → SumIs zero_float (optional_scores ix end d) (nodes_of end) zero_float
unfolding optional_scores sum_from
none-summed ix d = record { is = refl; small = zero-atmost _ }

-- ---- the joined scores
pub joined-alone : (ix : Index) (d : ℕ) (rs : Scorers) (j : Joining) → nodes_of rs ≤ 256 → ((n : ℕ) → T (nonneg (sum_from zero_float (scoring (required_scores ix (first_of n rs) d))))) → (sum r : Float) → SumIs zero_float (scoring (required_scores ix rs d)) (nodes_of rs) sum → r ≡ narrow sum → JoinIs ix j rs end d r
unfolding optional_scores narrowed_sum sum_from nodes_of
joined-alone ix d rs j few front sum r a q =
    let small : AtMost (nodes_of rs * 2 ^ 29) r = subst (λ (z : Float). AtMost (nodes_of rs * 2 ^ 29) z) (sym q) (scores-narrow (nodes_of rs) sum few a.small) in
    let e : r ≡ narrow (sum_from zero_float (scoring (required_scores ix rs d))) = q ∙ ap narrow a.is in
    record {
      is = e ∙ sym (no-group ix d rs j front (subst (λ (z : Float). T (nonneg z)) e small.sign)) ∙ ap (λ (z : Float). joined_score j (required_scores ix rs d) z) zero-narrowed;
      small = scores-more (nodes_of rs) (nodes_of rs + 0) r (omega arith) small;
    }

pub joined-only : (ix : Index) (d : ℕ) (os : Scorers) (j : Joining) (g : Float) → g ≡ narrowed_sum (optional_scores ix os d) → AtMost (nodes_of os * 2 ^ 29) g → JoinIs ix j end os d g
unfolding required_scores narrowed_sum nodes_of
joined-only ix d os j g e small =
    let h : T (fits binary32 g) = subst (λ (z : Float). T (fits binary32 z)) (sym e) (narrow-fits (sum_from zero_float (optional_scores ix os d))) in
    record {
      is = sym (group-alone j g h small.sign) ∙ ap (λ (z : Float). joined_score j [] z) e;
      small = scores-more (nodes_of os) (0 + nodes_of os) g (omega arith) small;
    }
