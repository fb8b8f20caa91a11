-- The measures of a query's records, and its ranges, as the code has them: one struct a record.
-- Assumes nothing: these are definitions.
use Rattle.std.specs.Prelude.{cond, List, map, ℕ, ◌≤◌, ◌<◌, length}
use Rattle.meaning.specs.Lent.{Index}
use Rattle.meaning.specs.Query.{record_count, Decoded}
use Rattle.tree_weight.specs.Measured.{MeasureIs, Measured}
use Rattle.tree_measure.specs.declared.Measure.{Measure}
use Rattle.tree_measure.specs.declared.RangeList.{RangeList}

-- of each record in turn: the record after its tree; 1 where it has a scorer; its cost
abbrev pub nexts_measured : List Measure → List ℕ
nexts_measured ms = map (λ m. m.next) ms

abbrev pub presents_measured : List Measure → List ℕ
presents_measured ms = map (λ m. cond m.present 1 0) ms

abbrev pub costs_measured : List Measure → List ℕ
costs_measured ms = map (λ m. m.cost) ms

-- the measures stand in this slice for each tree from a record on
abbrev pub AllMeasured : Index → List ℕ → List Measure → ℕ → Type 0
AllMeasured ix q ms from = Measured ix q (nexts_measured ms) (presents_measured ms) (costs_measured ms) from

-- this is the measure of the tree that is decoded at a record
abbrev pub TreeMeasured : Index → ℕ → Decoded → Measure → Type 0
TreeMeasured ix r D m = MeasureIs ix r D m.next (cond m.present 1 0) m.cost

-- a record, and room for the measure of each
pub record MeasuresHeld (q : List ℕ) (ms : List Measure) (r : ℕ) : Type 0 where
  pub here : r < record_count q
  pub long : record_count q ≤ length ms

-- of each Range record: where its bitmap begins; how many documents it has
abbrev pub range_places : List RangeList → List ℕ
range_places ls = map (λ l. l.place) ls

abbrev pub range_counts : List RangeList → List ℕ
range_counts ls = map (λ l. l.count) ls
