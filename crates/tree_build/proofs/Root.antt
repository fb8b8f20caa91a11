-- The tree of a whole query, as the second pass is asked for it. Assumes nothing.
use mathlib.Core.Path.{◌≡◌, subst}
use mathlib.Core.Bool.{false}
use mathlib.Core.List.{List}
use mathlib.Core.Option.{none}
use Prim.Native.Nat.{ℕ, ◌^◌, ◌≤◌}
use native.Mathlib.Nat.{le_trans, le_refl}
use native.Mathlib.Omega.{arith}
use lib.ListN.{length}
use lib.Ieee.{Float, binary32, of_bits}
use Rattle.meaning.specs.Lent.{Index}
use Rattle.meaning.specs.Bm25.{one}
use Rattle.meaning.specs.Query.{record_count, Tree, Decoded, query_tree}
use Rattle.meaning.specs.QueryRefusals.{wrong9, carries_above}
use Rattle.meaning.specs.CallRefusals.{states_needed}
use Rattle.ieee754.specs.Nonneg.{AtMost}
use Rattle.ieee754.proofs.Bounds.{zero-atmost}
use Rattle.query.proofs.Whole.{whole}
use Rattle.tree_weight.specs.State.{size_of}
use Rattle.tree_weight.specs.Weigh.{weigh}
use Rattle.tree_weight.specs.Measured.{AcceptedOrder, RangesListed}
use Rattle.tree_measure.specs.declared.Measure.{Measure}
use Rattle.tree_measure.specs.declared.RangeList.{RangeList}
use Rattle.tree_measure.specs.Measures.{AllMeasured, nexts_measured, presents_measured, costs_measured, range_places, range_counts}
use Rattle.tree_measure.proofs.Arrays.{nexts-long, presents-long, costs-long, places-long}
use Rattle.tree_weight.proofs.Weights.{carried-one}
use Rattle.tree_weight.proofs.Queries.{query-size}
use Rattle.tree_words.specs.Placed.{Placed}
use Rattle.tree_words.specs.Prepared.{GivenRecords, Prepared, TreeAsked, TreePre, TreePost}

-- 0.0, of a score that is not kept
abbrev pub no_score : Float
no_score = of_bits binary32 0

no-score-small : AtMost (2 ^ 29) no_score
unfolding of_bits
no-score-small = zero-atmost (2 ^ 29)

pub few-records : (ix : Index) (q : List ℕ) → AcceptedOrder ix q → record_count q ≤ 256
few-records ix q a = (whole q a.records-right).few-records

-- what the first pass finds is what the second goes by
module _ (ix : Index) (q : List ℕ) (ms : List Measure) (ls : List RangeList) (ranges : List ℕ) (words : ℕ) (ms-long : record_count q ≤ length ms) (ls-long : record_count q ≤ length ls) (room : states_needed q ≤ words) (a : AcceptedOrder ix q) (measured : AllMeasured ix q ms 0) (listed : RangesListed ix q (range_places ls) (range_counts ls) ranges (record_count q)) where
  abbrev E : GivenRecords
  E = record { index = ix; query = q; nexts = nexts_measured ms; presents = presents_measured ms; costs = costs_measured ms; places = range_places ls }

  abbrev root : Decoded
  root = (whole q a.records-right).root

  root-prepared : Prepared E ranges
  root-prepared =
      record {
        asks = a;
        measured = measured;
        counts = range_counts ls;
        listed = listed;
        nexts-long = omega (arith, ms-long, nexts-long ms);
        presents-long = omega (arith, ms-long, presents-long ms);
        costs-long = omega (arith, ms-long, costs-long ms);
        places-long = omega (arith, ls-long, places-long ls);
      }

  root-asked : TreeAsked ix q 16 0 root false no_score one words
  unfolding wrong9
  root-asked =
      let w = whole q a.records-right in
      record {
        decoded = w.root_is;
        within = subst (λ (t : Tree). carries_above t one ≡ false) w.tree_is a.boosts-right;
        boost-clear = carried-one.clear;
        kept_small = no-score-small;
        room = le_trans (subst (λ (t : Tree). size_of (weigh ix t one none) ≤ states_needed q) w.tree_is (query-size q a.records-right ix one none)) room;
      }

  pub root-pre : TreePre E 0 false no_score one words 16
  root-pre = (ranges, 16, root, root-prepared, root-asked, le_refl 16)

  pub root-placed : (r : ℕ) (states : List ℕ) → TreePost E 0 false no_score one words 16 0 r states → Placed ix ranges (weigh ix (query_tree q) one none) 16 0 r states
  root-placed r states post =
      rw (whole q a.records-right).tree_is (post ranges 16 root root-prepared root-asked (le_refl 16))
