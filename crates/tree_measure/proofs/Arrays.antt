-- The measures of the records and the ranges, as one list of structs or as a list of each field. Assumes nothing.
use mathlib.Core.Path.{◌≡◌, refl}
use mathlib.Core.Bool.{Bool, true, false, cond}
use mathlib.Core.List.{List}
use mathlib.Core.Option.{some}
use Prim.Native.Nat.{ℕ, ◌+◌, ◌-◌, ◌≤◌, ◌<◌}
use native.Mathlib.Omega.{arith}
use lib.ListN.{length, get_or, set, get_or-map}
use Rattle.std.proofs.lemmas.List.{map-set, length-map}
use Rattle.meaning.specs.Lent.{Index}
use Rattle.meaning.specs.Query.{record_count, Decoded, decode}
use Rattle.tree_weight.proofs.Measures.{measured-more, none_after, measured-down}
use Rattle.tree_measure.specs.declared.Measure.{Measure}
use Rattle.tree_measure.specs.declared.RangeList.{RangeList}
pub use Rattle.tree_measure.specs.NextClause.{no_measure}
use Rattle.tree_measure.specs.Measures.{nexts_measured, presents_measured, costs_measured, AllMeasured, TreeMeasured, range_places, range_counts}

-- of a record past the last
abbrev pub no_list : RangeList
no_list = record { place = 0; count = 0 }

pub next-at : (ms : List Measure) (i : ℕ) → get_or (nexts_measured ms) i 0 ≡ (get_or ms i no_measure).next
next-at ms i = get_or-map (λ m. m.next) ms i no_measure

pub present-at : (ms : List Measure) (i : ℕ) → get_or (presents_measured ms) i 0 ≡ cond (get_or ms i no_measure).present 1 0
present-at ms i = get_or-map (λ m. cond m.present 1 0) ms i no_measure

pub cost_at : (ms : List Measure) (i : ℕ) → get_or (costs_measured ms) i 0 ≡ (get_or ms i no_measure).cost
cost_at ms i = get_or-map (λ m. m.cost) ms i no_measure

pub count-at : (ls : List RangeList) (i : ℕ) → get_or (range_counts ls) i 0 ≡ (get_or ls i no_list).count
count-at ls i = get_or-map (λ l. l.count) ls i no_list

pub place-at : (ls : List RangeList) (i : ℕ) → get_or (range_places ls) i 0 ≡ (get_or ls i no_list).place
place-at ls i = get_or-map (λ l. l.place) ls i no_list

pub nexts-long : (ms : List Measure) → length (nexts_measured ms) ≡ length ms
nexts-long ms = length-map ms (λ m. m.next)

pub presents-long : (ms : List Measure) → length (presents_measured ms) ≡ length ms
presents-long ms = length-map ms (λ m. cond m.present 1 0)

pub costs-long : (ms : List Measure) → length (costs_measured ms) ≡ length ms
costs-long ms = length-map ms (λ m. m.cost)

pub places-long : (ls : List RangeList) → length (range_places ls) ≡ length ls
places-long ls = length-map ls (λ l. l.place)

pub counts-long : (ls : List RangeList) → length (range_counts ls) ≡ length ls
counts-long ls = length-map ls (λ l. l.count)

pub nexts-set : (ms : List Measure) (i : ℕ) (x : Measure) → nexts_measured (set ms i x) ≡ set (nexts_measured ms) i x.next
nexts-set ms i x = map-set (λ m. m.next) ms i x

pub presents-set : (ms : List Measure) (i : ℕ) (x : Measure) → presents_measured (set ms i x) ≡ set (presents_measured ms) i (cond x.present 1 0)
presents-set ms i x = map-set (λ m. cond m.present 1 0) ms i x

pub costs-set : (ms : List Measure) (i : ℕ) (x : Measure) → costs_measured (set ms i x) ≡ set (costs_measured ms) i x.cost
costs-set ms i x = map-set (λ m. m.cost) ms i x

pub places-set : (ls : List RangeList) (i : ℕ) (x : RangeList) → range_places (set ls i x) ≡ set (range_places ls) i x.place
places-set ls i x = map-set (λ l. l.place) ls i x

pub counts-set : (ls : List RangeList) (i : ℕ) (x : RangeList) → range_counts (set ls i x) ≡ set (range_counts ls) i x.count
counts-set ls i x = map-set (λ l. l.count) ls i x

-- 1 or 0 tells the Bool
pub same_bool : (a b : Bool) → ◌≡◌ {A = ℕ} (cond a 1 0) (cond b 1 0) → a ≡ b
same_bool true true e = refl
same_bool true false e = absurd (omega (arith, e))
same_bool false true e = absurd (omega (arith, e))
same_bool false false e = refl

module _ (ix : Index) (q : List ℕ) (ms : List Measure) where
  -- the measure that is read is that of the tree
  pub tree_measured : (from : ℕ) → AllMeasured ix q ms from → (k r : ℕ) (D : Decoded) → from ≤ r → decode q k r ≡ some D → TreeMeasured ix r D (get_or ms r no_measure)
  tree_measured from m k r D h e = rw (← next-at ms r, ← present-at ms r, ← cost_at ms r) (m k r D h e)

  -- one record more, and none yet
  pub all-more : (at : ℕ) (x : Measure) → at < length ms → AllMeasured ix q ms (at + 1) → ((k : ℕ) (D : Decoded) → decode q k at ≡ some D → TreeMeasured ix at D x) → AllMeasured ix q (set ms at x) at
  all-more at x h m f =
      rw (nexts-set ms at x, presents-set ms at x, costs-set ms at x)
      (measured-more ix q (nexts_measured ms) (presents_measured ms) (costs_measured ms) at x.next (cond x.present 1 0) x.cost (omega (arith, h, nexts-long ms)) (omega (arith, h, presents-long ms)) (omega (arith, h, costs-long ms)) m f)

  pub all-none : (at : ℕ) → record_count q ≤ at → AllMeasured ix q ms at
  all-none at h = none_after ix q (nexts_measured ms) (presents_measured ms) (costs_measured ms) at h

  pub all-down : (at : ℕ) → 0 < at → AllMeasured ix q ms at → AllMeasured ix q ms (at - 1 + 1)
  all-down at h m = measured-down ix q (nexts_measured ms) (presents_measured ms) (costs_measured ms) at h m
