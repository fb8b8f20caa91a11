-- Which lists can be ranked: those that Pick takes, and the full list of every accepted index and query.
-- Assumes nothing.
use mathlib.Core.Path.{◌≡◌, refl, sym, ap, ◌∙◌, subst}
use mathlib.Core.Bool.{Bool, true, false, ◌&&◌, false≢true}
use mathlib.Core.List.{List}
use mathlib.Core.Option.{none}
use Prim.Native.Nat.{ℕ, zero, suc, ◌*◌, ◌^◌, ◌≤◌, ◌<◌}
use native.Mathlib.Nat.{le_refl}
use native.Mathlib.Numerals.{add-one}
use native.Mathlib.Omega.{arith}
use lib.Dec.{T}
use lib.ListN.{length, get_or}
use lib.Ieee.{Float, binary32, fits}
use lib.Ieee.Bits.{of_bits-fits}
use Rattle.meaning.specs.Limits.{no_more_docs}
use Rattle.meaning.specs.Below.{list_to}
use Rattle.meaning.specs.Lent.{Index}
use Rattle.meaning.specs.Live.{is_live}
use Rattle.meaning.specs.Bm25.{one}
use Rattle.meaning.specs.Query.{Tree, query_tree}
use Rattle.meaning.specs.Scorer.{has_scorer}
use Rattle.meaning.specs.Takes.{takes}
use Rattle.meaning.specs.Score.{score}
use Rattle.meaning.specs.FullList.{matches, full_list}
use Rattle.meaning.specs.CallRefusals.{starts_needed, wrong14}
use Rattle.meaning.specs.Entries.{picked_list}
use Rattle.meaning.proofs.Scorers.{no-scorer-takes-nothing}
use Rattle.ieee754.specs.Nonneg.{sign_clear, AtMost}
use Rattle.ieee754.proofs.Patterns.{nonneg-clear}
use Rattle.collector.specs.Collected.{ScoredHit}
use Rattle.collector.proofs.Picked.{picked_at, picked-below, picked-clear, picked-rises, all-picked}
use Rattle.query.proofs.Inverse.{both_true}
use Rattle.tree_weight.specs.ScorerTree.{Scorer, scorer_score}
use Rattle.tree_weight.specs.Weigh.{weigh}
use Rattle.tree_weight.specs.Sound.{Sound, nodes}
use Rattle.tree_weight.specs.Measured.{AcceptedOrder}
use Rattle.tree_weight.proofs.Scores.{weigh-score}
use Rattle.tree_weight.proofs.Weights.{Weighted}
use Rattle.tree_weight.proofs.Queries.{query-nodes, query-sound, query-weighted}
use Rattle.demands.specs.Demands.{Accepts}
use Rattle.demands.proofs.Lists.{All, all-last, all_listed}
use Rattle.demands.proofs.Rising.{Rises, rises-below, rises-last, full-rises}
use Rattle.demands.proofs.Pages.{accepted-few}
use Rattle.demands.proofs.Ranked.{Rankable}
use Rattle.demands.proofs.Accepting.{accepts-asks}
use Rattle.score.proofs.Small.{score-small, score-fits}

-- ---- picked lists that 14 does not refuse
module _ (documents scores : List ℕ) (w : wrong14 documents scores ≡ false) where
  -- the first i of them, below e, and the next is not
  record First (i : ℕ) : Type 0 where
    e : ℕ
    room : e ≤ no_more_docs
    next : i < length documents → e ≤ get_or documents i 0
    rises : Rises 0 e (list_to i (picked_at documents scores))
    scored : All (ScoredHit no_more_docs) (list_to i (picked_at documents scores))

  first : (i : ℕ) → i ≤ length documents → First i
  unfolding list_to
  first zero h = record { e = 0; room = omega arith; next = λ g. omega arith; rises = omega arith; scored = tt }
  first (suc i) h =
      let f = first i (omega (arith, h)) in
      let here : i < length documents = omega (arith, h) in
      let below = picked-below documents scores w i here in
      record {
        e = suc (get_or documents i 0);
        room = omega (arith, below);
        next = λ g. omega (arith, picked-rises documents scores w i (omega (arith, g)), ap (λ (n : ℕ). get_or documents n 0) (add-one i));
        rises = rises-last 0 f.e (list_to i (picked_at documents scores)) (picked_at documents scores i) (f.next here) f.rises;
        scored = all-last (ScoredHit no_more_docs) (list_to i (picked_at documents scores)) (picked_at documents scores i) f.scored
            (record { below = below; fits = of_bits-fits binary32 (get_or scores i 0); clear = picked-clear documents scores w i here });
      }

  pub picked-rankable : Rankable (picked_list documents scores)
  picked-rankable =
      let f = first (length documents) (omega arith) in
      subst Rankable (all-picked documents scores)
      (record { rises = rises-below 0 f.e no_more_docs (list_to (length documents) (picked_at documents scores)) f.room f.rises; scored = f.scored })

-- ---- the full list of an accepted index and query
pub record GoodScore (x : Float) : Type 0 where
  pub fits : T (fits binary32 x)
  pub clear : T (sign_clear x)

-- a document that the query takes has a score that can be ranked: it is that of the scorer tree
pub good-score : (ix : Index) (q : List ℕ) → Accepts ix q → (d : ℕ) → takes ix (query_tree q) d ≡ true → GoodScore (score ix (query_tree q) one d)
good-score ix q a d m = go (has_scorer ix t) refl
  where
    t : Tree
    t = query_tree q

    s : Scorer
    s = weigh ix t one none

    k : AcceptedOrder ix q
    k = accepts-asks ix q a

    places : ℕ
    places = starts_needed ix q

    fine : Weighted s
    fine = query-weighted ix q places k.values-right k.positions-right (le_refl places) k.records-right k.accepted k.boosts-right

    sound : Sound ix places s
    sound = query-sound ix q places k.values-right k.positions-right (le_refl places) k.records-right one none

    small : AtMost (nodes s * 2 ^ 29) (scorer_score ix s d)
    small = score-small ix k.accepted places d s fine sound (query-nodes q k.records-right ix one none)

    go : (h : Bool) → has_scorer ix t ≡ h → GoodScore (score ix t one d)
    go true e = subst GoodScore (weigh-score ix t one d e) (record { fits = score-fits ix s d fine; clear = nonneg-clear (scorer_score ix s d) small.sign })
    go false e = absurd (false≢true (sym (no-scorer-takes-nothing ix t d e) ∙ m))

pub full-rankable : (ix : Index) (q : List ℕ) → Accepts ix q → Rankable (full_list ix (query_tree q))
unfolding full_list matches
full-rankable ix q a =
    let few = accepted-few ix q a in
    record {
      rises = rises-below 0 ix.max_doc no_more_docs (full_list ix (query_tree q)) (omega (arith, few)) (full-rises ix (query_tree q));
      scored = all_listed (ScoredHit no_more_docs) (λ d. record { doc = d; score = score ix (query_tree q) one d }) (λ d. is_live ix d && takes ix (query_tree q) d) ix.max_doc
          (λ d l m. let g = good-score ix q a d (both_true (is_live ix d) (takes ix (query_tree q) d) m).1 in record { below = omega (arith, few, l); fits = g.fits; clear = g.clear });
    }
