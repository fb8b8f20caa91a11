-- The score of a scorer tree whose weights are fine is an f32 from 0 to 2^29 for each leaf, in every document. Assumes nothing.
use mathlib.Core.Path.{◌≡◌, refl, subst}
use mathlib.Core.Bool.{Bool, true, false, cond}
use mathlib.Core.List.{List, [], ◌∷◌, ◌++◌}
use mathlib.Core.Option.{Option, none, some}
use Prim.Native.Nat.{ℕ, zero, suc, ◌+◌, ◌-◌, ◌*◌, ◌^◌, ◌≤◌, ◌<◌, max}
use native.Mathlib.Omega.{arith}
use lib.Dec.{T}
use lib.Ieee.{Float, binary32, binary64, add, fits}
use lib.Ieee.Fits.{sub-fits}
use Rattle.meaning.specs.Limits.{largest_frequency}
use Rattle.meaning.specs.Lent.{Index, field_count, field_average, norm_byte, leaf_count, leaf_field}
use Rattle.meaning.specs.Ieee754.{zero_float, narrow, sum_from, narrowed_sum}
use Rattle.meaning.specs.Postings.{posting_at, frequency_of}
use Rattle.meaning.specs.Phrase.{phrase_frequency}
use Rattle.meaning.specs.Score.{field_score}
use Rattle.ieee754.specs.Nonneg.{AtMost}
use Rattle.ieee754.proofs.Bounds.{zero-atmost}
use Rattle.ieee754.proofs.Narrowing.{narrow-fits}
use Rattle.ieee754.proofs.Successor.{zero-fits}
use Rattle.sim.proofs.ScoreBounds.{any-score-atmost}
use Rattle.index.specs.Accepted.{Accepted}
use Rattle.index.proofs.PostingAt.{posting-is}
use Rattle.tree_weight.specs.ScorerTree.{Leaf, nothing, term, phrase, range, everything, Scoring, constant, weighted, Joining, one_more, afterwards, Scorer, leaf, boolean, Scorers, end, more, leaf_score, scoring, joined_score, scorer_score, required_scores, optional_scores}
use Rattle.tree_weight.specs.Held.{FloatIs, ScoringIs, KeptIs, Ok, Oks}
use Rattle.tree_weight.specs.Sound.{LeafSound, Sound, Sounds, nodes, nodes_of}
use Rattle.tree_weight.proofs.Weights.{Fine, ScoringFine, Weighted, WeightedAll}
use Rattle.score_leaf.proofs.Bounds.{scores-add, scores-narrow, scores-more}
use Rattle.score_leaf.proofs.Frequencies.{phrase-frequency-few}
use Rattle.score.proofs.Sums.{counted, scores-word, matches-at, required-counted, optional-counted}
use Rattle.score.proofs.Join.{first_of, rest_of, first-nodes, joined-sum, joined-more, joined-after}

module _ (ix : Index) (A : Accepted ix) (places d : ℕ) where
  -- ---- a leaf
  field-small : (f : ℕ) → f < field_count ix → (w : Float) → Fine w → (n : ℕ) → n ≤ largest_frequency → AtMost (2 ^ 29) (field_score ix f w n d)
  unfolding field_score
  field-small f there w x n few =
      any-score-atmost w n (field_average ix f) (norm_byte ix f d) few (A.field f there).least (A.field f there).largest (2 ^ 29) x.held x.small

  frequency-few : (l : ℕ) → l < leaf_count ix → (o : Option ℕ) → posting_at ix l d ≡ o → frequency_of ix l o ≤ largest_frequency
  frequency-few l there none e = omega arith
  frequency-few l there (some i) e = (A.posting l i there (posting-is ix l d i e).0).most

  leaf-small : (l : Leaf) (s : Scoring) → LeafSound ix places l → ScoringFine s → AtMost (2 ^ 29) (leaf_score ix l s d)
  unfolding leaf_score LeafSound
  leaf-small l (constant c) h x = x.small
  leaf-small nothing (weighted w) h x = zero-atmost (2 ^ 29)
  leaf-small (term l) (weighted w) h x = field-small (leaf_field ix l) (A.leaf l h).field w x (frequency_of ix l (posting_at ix l d)) (frequency-few l h (posting_at ix l d) refl)
  leaf-small (phrase f ts) (weighted w) h x = field-small f h.0 w x (phrase_frequency ix ts d) (phrase-frequency-few ix A f places ts d h.4)
  leaf-small (range r) (weighted w) h x = zero-atmost (2 ^ 29)
  leaf-small everything (weighted w) h x = zero-atmost (2 ^ 29)

  -- ---- sums of children's scores
  unfoldable Smalls : Scorers → Type 0
  Smalls end = Unit
  Smalls (more f T g) = AtMost (nodes T * 2 ^ 29) (scorer_score ix T d) × Smalls g

  first-smalls : (n : ℕ) (ss : Scorers) → Smalls ss → Smalls (first_of n ss) × Smalls (rest_of n ss)
  unfolding Smalls first_of rest_of
  first-smalls zero ss p = (tt, p)
  first-smalls (suc n) end p = (tt, tt)
  first-smalls (suc n) (more f T g) p = let q = first-smalls n g p.1 in ((p.0, q.0), q.1)

  sum-small : (c : Bool → Scorer → Bool) (ss : Scorers) → Smalls ss → (p : ℕ) (x : Float) → p + nodes_of ss ≤ 256 → AtMost (p * 2 ^ 29) x → AtMost ((p + nodes_of ss) * 2 ^ 29) (sum_from x (counted c ix ss d))
  unfolding Smalls nodes_of counted sum_from
  sum-small c end s p x few i = scores-more p (p + 0) x (omega arith) i
  sum-small c (more f T g) s p x few i = go (c f T) (sum-small c g s.1)
    where
      go : (b : Bool) → ((p : ℕ) (x : Float) → p + nodes_of g ≤ 256 → AtMost (p * 2 ^ 29) x → AtMost ((p + nodes_of g) * 2 ^ 29) (sum_from x (counted c ix g d))) → AtMost ((p + (nodes T + nodes_of g)) * 2 ^ 29) (sum_from x (cond b (scorer_score ix T d ∷ []) [] ++ counted c ix g d))
      go true r =
          let y = add binary64 x (scorer_score ix T d) in
          scores-more (p + nodes T + nodes_of g) (p + (nodes T + nodes_of g)) (sum_from y (counted c ix g d)) (omega arith) (r (p + nodes T) y (omega (arith, few)) (scores-add p (nodes T) x (scorer_score ix T d) (omega (arith, few)) i s.0))
      go false r = scores-more (p + nodes_of g) (p + (nodes T + nodes_of g)) (sum_from x (counted c ix g d)) (omega arith) (r p x (omega (arith, few)) i)

  required-small : (ss : Scorers) → Smalls ss → (p : ℕ) (x : Float) → p + nodes_of ss ≤ 256 → AtMost (p * 2 ^ 29) x → AtMost ((p + nodes_of ss) * 2 ^ 29) (sum_from x (scoring (required_scores ix ss d)))
  required-small ss s p x few i = subst (λ (l : List Float). AtMost ((p + nodes_of ss) * 2 ^ 29) (sum_from x l)) (required-counted ix ss d) (sum-small scores-word ss s p x few i)

  from_zero : (p : ℕ) (x : Float) → AtMost ((0 + p) * 2 ^ 29) x → AtMost (p * 2 ^ 29) x
  from_zero p x i = scores-more (0 + p) p x (omega arith) i

  group-small : (ss : Scorers) → Smalls ss → nodes_of ss ≤ 256 → AtMost (nodes_of ss * 2 ^ 29) (narrowed_sum (optional_scores ix ss d))
  unfolding narrowed_sum
  group-small ss s few =
      let xs = optional_scores ix ss d in
      let sum = subst (λ (l : List Float). AtMost ((0 + nodes_of ss) * 2 ^ 29) (sum_from zero_float l)) (optional-counted ix ss d) (sum-small (matches-at ix d) ss s 0 zero_float (omega (arith, few)) (zero-atmost _)) in
      scores-narrow (nodes_of ss) (sum_from zero_float xs) few (from_zero (nodes_of ss) (sum_from zero_float xs) sum)

  -- ---- a Boolean
  joined_small : (j : Joining) (rs os : Scorers) → nodes_of rs + nodes_of os ≤ 256 → Smalls rs → Smalls os → AtMost ((nodes_of rs + nodes_of os) * 2 ^ 29) (joined_score j (required_scores ix rs d) (narrowed_sum (optional_scores ix os d)))
  joined_small (one_more n) rs os few a b =
      let g = narrowed_sum (optional_scores ix os d) in
      let G = group-small os b (omega (arith, few)) in
      let ss = first-smalls n rs a in
      let len = first-nodes n rs in
      let front = sum_from zero_float (scoring (required_scores ix (first_of n rs) d)) in
      let first = from_zero (nodes_of (first_of n rs)) front (required-small (first_of n rs) ss.0 0 zero_float (omega (arith, few, len)) (zero-atmost _)) in
      let sum = add binary64 front g in
      let joined = joined-sum ix d rs os few g refl G n front sum (record { is = refl; small = first }) refl in
      let all = sum_from sum (scoring (required_scores ix (rest_of n rs) d)) in
      let rest = required-small (rest_of n rs) ss.1 (nodes_of (first_of n rs) + nodes_of os) sum (omega (arith, few, len)) joined in
      let J = joined-more ix d rs os few g refl G n front sum all (narrow all) (record { is = refl; small = first }) refl (record { is = refl; small = rest }) refl in
      subst (λ (z : Float). AtMost ((nodes_of rs + nodes_of os) * 2 ^ 29) z) J.is J.small
  joined_small afterwards rs os few a b =
      let g = narrowed_sum (optional_scores ix os d) in
      let G = group-small os b (omega (arith, few)) in
      let sum = sum_from zero_float (scoring (required_scores ix rs d)) in
      let required = from_zero (nodes_of rs) sum (required-small rs a 0 zero_float (omega (arith, few)) (zero-atmost _)) in
      let J = joined-after ix d rs os few g refl G sum (narrow sum) (add binary64 (narrow sum) g) (narrow (add binary64 (narrow sum) g)) (record { is = refl; small = required }) refl refl refl in
      subst (λ (z : Float). AtMost ((nodes_of rs + nodes_of os) * 2 ^ 29) z) J.is J.small

  -- ---- the tree
  mutual
    unfolding scorer_score Weighted Sound nodes Smalls

    -- THE theorem
    pub score-small : (s : Scorer) → Weighted s → Sound ix places s → nodes s ≤ 256 → AtMost (nodes s * 2 ^ 29) (scorer_score ix s d)
    score-small (leaf l c) w h few = leaf-small l c h w
    score-small (boolean (some c) j need rs os ps) w h few = scores-more 1 (1 + (nodes_of rs + (nodes_of os + nodes_of ps))) c (omega arith) w.0.small
    score-small (boolean none j need rs os ps) w h few =
        scores-more (nodes_of rs + nodes_of os) (1 + (nodes_of rs + (nodes_of os + nodes_of ps))) (joined_score j (required_scores ix rs d) (narrowed_sum (optional_scores ix os d))) (omega arith)
        (joined_small j rs os (omega (arith, few)) (children-small rs w.1 h.0 (omega (arith, few))) (children-small os w.2 h.1 (omega (arith, few))))

    children-small : (ss : Scorers) → WeightedAll ss → Sounds ix places ss → nodes_of ss ≤ 256 → Smalls ss
    children-small end w h few = tt
    children-small (more f s ss) w h few = (score-small s w.0 h.0 (omega (arith, few)), children-small ss w.1 h.1 (omega (arith, few)))

  -- the sum of the first of some required children
  pub first_small : (n : ℕ) (ss : Scorers) → WeightedAll ss → Sounds ix places ss → nodes_of ss ≤ 256 → AtMost (nodes_of (first_of n ss) * 2 ^ 29) (sum_from zero_float (scoring (required_scores ix (first_of n ss) d)))
  first_small n ss w h few =
      from_zero (nodes_of (first_of n ss)) (sum_from zero_float (scoring (required_scores ix (first_of n ss) d)))
      (required-small (first_of n ss) (first-smalls n ss (children-small ss w h few)).0 0 zero_float (omega (arith, few, first-nodes n ss)) (zero-atmost _))

-- ---- the weights in the words of a tree are fine
fine : (x : Float) (bits : ℕ) → FloatIs x bits → Fine x
fine x bits p = record { held = p.held; small = p.small }

mutual
  unfolding Ok Oks ScoringIs KeptIs Weighted WeightedAll

  pub ok-weighted : (ix : Index) (ranges : List ℕ) (T : Scorer) (k sc : ℕ) (y : List ℕ) (b : ℕ) → Ok ix ranges T k sc y b → Weighted T
  ok-weighted ix ranges (leaf l (constant c)) k sc y b p = fine c p.0.weight p.5.1
  ok-weighted ix ranges (leaf l (weighted w)) k sc y b p = fine w p.0.weight p.5.1
  ok-weighted ix ranges (boolean none j need rs os ps) k sc y b p = (tt, oks-weighted ix ranges rs (k - 1) p.1 (max b (p.0.cached - 1)) p.9, oks-weighted ix ranges os (k - 1) p.2 (max b (p.0.cached - 1)) p.10, oks-weighted ix ranges ps (k - 1) p.3 (max b (p.0.cached - 1)) p.11)
  ok-weighted ix ranges (boolean (some c) j need rs os ps) k sc y b p = (fine c p.0.weight p.7.kept.1, oks-weighted ix ranges rs (k - 1) p.1 (max b (p.0.cached - 1)) p.9, oks-weighted ix ranges os (k - 1) p.2 (max b (p.0.cached - 1)) p.10, oks-weighted ix ranges ps (k - 1) p.3 (max b (p.0.cached - 1)) p.11)

  pub oks-weighted : (ix : Index) (ranges : List ℕ) (ss : Scorers) (k : ℕ) (w : List ℕ) (b : ℕ) → Oks ix ranges ss k w b → WeightedAll ss
  oks-weighted ix ranges end k w b p = tt
  oks-weighted ix ranges (more f T g) k w b p = (ok-weighted ix ranges T k (cond f 1 0) p.0 b p.3, oks-weighted ix ranges g k p.1 b p.4)

-- ---- the score is an f32
field_fits : (ix : Index) (f : ℕ) (w : Float) (n d : ℕ) → T (fits binary32 (field_score ix f w n d))
unfolding field_score
field_fits ix f w n d = sub-fits binary32 w _

leaf-fits : (ix : Index) (l : Leaf) (s : Scoring) (d : ℕ) → ScoringFine s → T (fits binary32 (leaf_score ix l s d))
unfolding leaf_score
leaf-fits ix l (constant c) d x = x.held
leaf-fits ix nothing (weighted w) d x = zero-fits
leaf-fits ix (term l) (weighted w) d x = field_fits ix (leaf_field ix l) w (frequency_of ix l (posting_at ix l d)) d
leaf-fits ix (phrase f ts) (weighted w) d x = field_fits ix f w (phrase_frequency ix ts d) d
leaf-fits ix (range r) (weighted w) d x = zero-fits
leaf-fits ix everything (weighted w) d x = zero-fits

pub score-fits : (ix : Index) (s : Scorer) (d : ℕ) → Weighted s → T (fits binary32 (scorer_score ix s d))
unfolding scorer_score Weighted joined_score narrowed_sum
score-fits ix (leaf l c) d w = leaf-fits ix l c d w
score-fits ix (boolean (some c) j need rs os ps) d w = w.0.held
score-fits ix (boolean none (one_more n) need rs os ps) d w = narrow-fits _
score-fits ix (boolean none afterwards need rs os ps) d w = narrow-fits _
