-- The full list of an accepted index and query, said of the scorer tree. Assumes nothing.
use mathlib.Core.Path.{◌≡◌, refl, sym, ap, ◌∙◌, fun_ext}
use mathlib.Core.Bool.{Bool, true, false, ◌&&◌}
use mathlib.Core.List.{List, [], map}
use mathlib.Core.Option.{none}
use Prim.Native.Nat.{ℕ}
use lib.Ieee.{Float}
use Rattle.meaning.specs.Below.{list_below}
use Rattle.meaning.specs.Lent.{Index}
use Rattle.meaning.specs.Live.{is_live}
use Rattle.meaning.specs.Bm25.{one}
use Rattle.meaning.specs.Query.{Tree}
use Rattle.meaning.specs.Takes.{takes}
use Rattle.meaning.specs.Scorer.{has_scorer}
use Rattle.meaning.specs.Score.{score}
use Rattle.meaning.specs.FullList
use Rattle.meaning.specs.FullList.{ScoreDoc, full_list}
use Rattle.meaning.proofs.Below.{list-none}
use Rattle.meaning.proofs.Scorers.{no-scorer-takes-nothing}
use Rattle.tree_weight.specs.ScorerTree.{matches, scorer_score}
use Rattle.tree_weight.specs.Weigh.{weigh}
use Rattle.tree_weight.proofs.Matches.{weigh-matches}
use Rattle.tree_weight.proofs.Scores.{weigh-score}

-- a list of documents, each with a score
abbrev pub scored : (ℕ → Float) → List ℕ → List ScoreDoc
scored f ds = map (λ d. record { doc = d; score = f d }) ds

module _ (ix : Index) (t : Tree) where
  abbrev taken_by : (ℕ → Bool) → List ℕ
  taken_by p = list_below ix.max_doc (λ d. is_live ix d && p d)

  same-scores : (h : Bool) → has_scorer ix t ≡ h → scored (score ix t one) (taken_by (takes ix t)) ≡ scored (scorer_score ix (weigh ix t one none)) (taken_by (takes ix t))
  same-scores true h = ap (λ (f : ℕ → Float). scored f (taken_by (takes ix t))) (fun_ext (λ d. sym (weigh-score ix t one d h)))
  same-scores false h = ap (scored (score ix t one)) empty ∙ sym (ap (scored (scorer_score ix (weigh ix t one none))) empty)
    where
      neither : (a : Bool) → (a && false) ≡ false
      neither true = refl
      neither false = refl

      empty : taken_by (takes ix t) ≡ []
      empty = list-none (λ d. is_live ix d && takes ix t d) ix.max_doc (λ d l. ap (λ (z : Bool). is_live ix d && z) (no-scorer-takes-nothing ix t d h) ∙ neither (is_live ix d))

  -- THE theorem: the live documents that the scorer tree matches, each with its score
  pub scorer-list : full_list ix t ≡ map (λ d. record { doc = d; score = scorer_score ix (weigh ix t one none) d }) (list_below ix.max_doc (λ d. is_live ix d && matches ix (weigh ix t one none) d))
  unfolding full_list FullList.matches
  scorer-list = same-scores (has_scorer ix t) refl ∙ ap (λ (p : ℕ → Bool). scored (scorer_score ix (weigh ix t one none)) (taken_by p)) (fun_ext (λ d. sym (weigh-matches ix t one none d)))
