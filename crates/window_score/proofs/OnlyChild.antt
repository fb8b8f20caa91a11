-- An only child: its score is a binary32 value that is not negative, so a sum of it alone is narrow already, and its score joins another
-- sum as it is. Assumes nothing.
use Rattle.std.proofs.Common.{◌≡◌, sym, ap, ◌∙◌, Bool, true, false, cond, List, [], ◌∷◌, ◌++◌, ℕ, ◌+◌, ◌*◌, ◌<◌, T, length, get_or, length-append, arith}
use Rattle.std.proofs.Math.ListN.{get_or-append}
use Rattle.std.specs.Prelude.{Float}
use Rattle.std.specs.Float.{binary32, binary64}
use Rattle.std.specs.Float.Ieee.{add, fits}
use Rattle.meaning.specs.Lent.{Index}
use Rattle.meaning.specs.Ieee754.{zero_float, narrow, sum_from, narrowed_sum}
use Rattle.ieee754.specs.Nonneg.{nonneg}
use Rattle.index.specs.Accepted.{Accepted}
use Rattle.tree_weight.specs.ScorerTree.{Scorer, Scorers, end, more, matches, scorer_score, scoring, required_scores, optional_scores}
use Rattle.tree_weight.specs.Sound.{Sounds, nodes_of}
use Rattle.tree_weight.proofs.Weights.{WeightedAll}
use Rattle.score.specs.Asked.{Scorables}
use Rattle.window_score.specs.Asked.{only_child}
use Rattle.std.proofs.lemmas.Bool.{eqb-true}
use lib.Ieee.Fits.{fits_widens}
use Rattle.score.proofs.Alone.{zero-narrowed, zero-plus, plus-zero, narrow-alone}
use Rattle.score.proofs.Small.{score-small, score-fits, oks-weighted}
use Rattle.window_words.specs.Windowed.{Places, AllWindowed}
use Rattle.window_words.proofs.Laws.{windowed-long, windowed-size, all-mono, all-ok}

-- ---- some scorers of which there is one at most
pub data Only : Scorers → Type 0 where
  nobody : Only end
  one : {f : Bool} {s : Scorer} → Only (more f s end)

-- the first part is all of the words, so there is no second one
pub only-of : (ix : Index) (ranges : List ℕ) (ss : Scorers) (depth : ℕ) (x : List ℕ) (b base : ℕ) (D : Places) → AllWindowed ix ranges ss depth x b base D → only_child x ≡ true → Only ss
unfolding AllWindowed
only-of ix ranges end depth x b base D p e = nobody
only-of ix ranges (more f s end) depth x b base D p e = one
only-of ix ranges (more f s (more g t ss)) depth x b base D p e =
    let y = p.0 in
    let q = p.4 in
    let long = windowed-long ix ranges s depth (cond f 1 0) y b base D p.3 in
    let there : 1 < length y = omega (arith, long) in
    let size : length y ≡ length x =
    sym (windowed-size ix ranges s depth (cond f 1 0) y b base D p.3) ∙ sym (get_or-append y p.1 0 1 there) ∙ ap (λ (l : List ℕ). get_or l 1 0) (sym p.2) ∙ eqb-true _ _ e in
    absurd (omega (arith, size, ap length p.2, length-append y p.1, ap length q.2, length-append q.0 q.1, windowed-long ix ranges t depth (cond g 1 0) q.0 b base D q.3))

-- ---- the weights of some nodes, whatever they were asked
all-weighted : (ix : Index) (ranges : List ℕ) (ss : Scorers) (depth : ℕ) (x : List ℕ) (b base : ℕ) (D : Places) → AllWindowed ix ranges ss depth x b base D → WeightedAll ss
all-weighted ix ranges ss depth x b base D p =
    oks-weighted ix ranges ss depth x (b + base) (all-ok ix ranges ss depth x (b + base) base D (omega arith) (all-mono ix ranges ss depth x b base D (b + base) (omega arith) p))

-- ---- a list of one score at most, a binary32 value that is not negative
data Single : List Float → Type 0 where
  no_score : Single []
  one_score : {x : Float} → T (fits binary32 x) → T (nonneg x) → Single (x ∷ [])

-- added to a sum it is its own narrowed sum added
single-joined : {xs : List Float} → Single xs → (s : Float) → T (fits binary64 (sum_from s xs)) → T (nonneg s) → sum_from s xs ≡ add binary64 s (narrowed_sum xs)
unfolding sum_from narrowed_sum
single-joined no_score s h p = sym (ap (add binary64 s) (sym zero-narrowed) ∙ plus-zero s h p)
single-joined (one_score {x} f q) s h p =
    ap (add binary64 s) (sym (narrow-alone x f q))

-- and its sum from 0 is narrow
single-narrow : {xs : List Float} → Single xs → narrow (sum_from zero_float xs) ≡ sum_from zero_float xs
unfolding sum_from
single-narrow no_score = sym zero-narrowed
single-narrow (one_score {x} f q) =
    narrow-alone x f q ∙ sym (zero-plus x (fits_widens x f) q)

-- an only child's score, where it counts
counted-single : (c : Bool) (x : Float) → T (fits binary32 x) → T (nonneg x) → Single (cond c (x ∷ []) [] ++ [])
counted-single true x f q = one_score f q
counted-single false x f q = no_score

-- the scores of an only child, of an accepted index
module _ {ix : Index} (A : Accepted ix) {table : List Float} {places q : ℕ} where
  optional-single : {ss : Scorers} → Only ss → WeightedAll ss → Scorables ix table places q ss → (d : ℕ) → Single (optional_scores ix ss d)
  unfolding optional_scores WeightedAll Sounds nodes_of
  optional-single nobody w h d = no_score
  optional-single (one {f} {s}) w h d =
      counted-single (matches ix s d) (scorer_score ix s d) (score-fits ix s d w.0) (score-small ix A places d s w.0 h.sound.0 (omega (arith, h.few))).sign

  required-single : {ss : Scorers} → Only ss → WeightedAll ss → Scorables ix table places q ss → (d : ℕ) → Single (scoring (required_scores ix ss d))
  unfolding required_scores scoring WeightedAll Sounds nodes_of
  required-single nobody w h d = no_score
  required-single (one {f} {s}) w h d =
      counted-single f (scorer_score ix s d) (score-fits ix s d w.0) (score-small ix A places d s w.0 h.sound.0 (omega (arith, h.few))).sign

-- ---- the same of the parts of a window
module _ (ix : Index) (ranges : List ℕ) (ss : Scorers) (depth : ℕ) (x : List ℕ) (b base : ℕ) (D : Places) (only : Only ss) (held : AllWindowed ix ranges ss depth x b base D) (A : Accepted ix) {table : List Float} {places q : ℕ} (h : Scorables ix table places q ss) (d : ℕ) where
  optional-is : Single (optional_scores ix ss d)
  optional-is = optional-single A only (all-weighted ix ranges ss depth x b base D held) h d

  required-is : Single (scoring (required_scores ix ss d))
  required-is = required-single A only (all-weighted ix ranges ss depth x b base D held) h d

  -- added to a sum it is the narrowed sum of the children added
  pub only-optional : (s : Float) → T (fits binary64 (sum_from s (optional_scores ix ss d))) → T (nonneg s) → sum_from s (optional_scores ix ss d) ≡ add binary64 s (narrowed_sum (optional_scores ix ss d))
  only-optional s f p = single-joined optional-is s f p

  pub only-required : (s : Float) → T (fits binary64 (sum_from s (scoring (required_scores ix ss d)))) → T (nonneg s) → sum_from s (scoring (required_scores ix ss d)) ≡ add binary64 s (narrowed_sum (scoring (required_scores ix ss d)))
  only-required s f p = single-joined required-is s f p

  -- the sum of the required from 0 is narrow
  pub only-narrow-required : narrow (sum_from zero_float (scoring (required_scores ix ss d))) ≡ sum_from zero_float (scoring (required_scores ix ss d))
  only-narrow-required = single-narrow required-is
