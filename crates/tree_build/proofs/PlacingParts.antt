-- The clauses of a Boolean by a list of their records: the required, in two lists with the group's place between them, and those of one occurrence. Assumes nothing.
use mathlib.Core.Path.{◌≡◌, sym, ◌∙◌, ap, subst}
use mathlib.Core.List.{List, ◌++◌}
use Prim.Native.Nat.{ℕ, ◌+◌, ◌-◌, ◌≤◌, ◌<◌}
use native.Mathlib.Omega.{arith}
use lib.ListN.{length, take, drop, get_or, take-append-drop}
use lib.Seq.{take-add, drop_at, length-take-le}
use lib.Ieee.{Float}
use Rattle.meaning.specs.Lent.{Index}
use Rattle.meaning.specs.Query.{DecodedClauses}
use Rattle.meaning.specs.Cost.{costs, disjunction_cost}
use Rattle.tree_weight.specs.Weigh.{Ready, scorers_of, up_to_cost}
use Rattle.tree_weight.specs.State.{sizes_of, sizes_of_first}
use Rattle.tree_words.specs.Prepared.{GivenRecords}
use Rattle.tree_build.specs.Parts.{PartAsked, PlacedAll, PlaceListPre, PlaceListPost, PlaceRequiredPre, PlaceRequiredPost, PlaceOthersPre, PlaceOthersPost}
use Rattle.tree_clauses.specs.Clauses.{ClausesKnown, SomeClauses, ListsClauses, ReadiesAt, no_dearer, required_of, others_of}
use Rattle.tree_build.proofs.BooleanParts.{sizes-append, sizes-first}
use Rattle.tree_clauses.proofs.ClauseLaws.{readies-take, readies-drop, readies-here, no-dearer-is}
use Rattle.tree_build.proofs.PlacingLists.{placed-both, placed-longer}
use Rattle.tree_measure.specs.declared.Measure.{Measure}
use Rattle.tree_measure.specs.Measures.{costs_measured}
use Rattle.meaning.specs.Query.{record_count}
use Rattle.tree_build.proofs.Found.{MeasuresAre, all-measured, measures-long}

-- the elements from one place to another
pub between : (list : List ℕ) (a e : ℕ) → a ≤ e → e ≤ length list → take (e - a) (drop a list) ≡ drop a (take e list)
between list a e h g =
    let whole : a + (e - a) ≡ e = omega (arith, h) in
    sym (drop_at (take a list) (take (e - a) (drop a list)) a (length-take-le a list (omega (arith, h, g))))
    ∙ ap (drop a) (sym (take-add a (e - a) list) ∙ ap (λ (z : ℕ). take z list) whole)

-- those before a place and those after it take the words of all
pub sizes-split : (n : ℕ) (rs : List Ready) → sizes_of (scorers_of (take n rs)) + sizes_of (scorers_of (drop n rs)) ≡ sizes_of (scorers_of rs)
sizes-split n rs = sym (sizes-append (take n rs) (drop n rs)) ∙ ap (λ (zs : List Ready). sizes_of (scorers_of zs)) (take-append-drop n rs)

pub part-known : {E : GivenRecords} {ms : List Measure} → MeasuresAre E ms → {at : ℕ} {boost : Float} {words depth : ℕ} {ranges : List ℕ} {k : ℕ} {C : DecodedClauses} {rs : List Ready} → PartAsked E ranges k at C boost rs words depth → ClausesKnown E.index E.query ms k at C boost
part-known {E} {ms} are {at} {boost} {words} {depth} {ranges} {k} {C} {rs} p =
    let e = p.prepared in
    record {
      right = e.asks.records-right;
      measured = all-measured E ms are e.measured;
      held = record { here = p.asked.here; long = measures-long E ms are (record_count E.query) e.presents-long };
      asked = p.asked;
    }

-- ---- those of one occurrence
module _ {E : GivenRecords} {at : ℕ} (occurrence : ℕ) {boost : Float} {words depth : ℕ} (pre : PlaceOthersPre E at occurrence boost words depth) {ms : List Measure} (are : MeasuresAre E ms) where
  pub others-known : SomeClauses E.query ms at
  others-known = (E.index, pre.1, pre.2, boost, part-known are pre.3)

  module _ (list : List ℕ) (listed : ListsClauses (λ ix C b. others_of ix C b occurrence) E.query ms at list) where
    pub others-listed : PlaceListPre E list boost words depth
    others-listed =
        let p = pre.3 in
        (pre.0, pre.1, others_of E.index pre.2 boost occurrence, p.prepared, listed E.index pre.1 pre.2 boost (part-known are p), p.asked.boost-clear, p.room, p.levels)

    pub others-placed : {r : ℕ} {states : List ℕ} → PlaceListPost E list boost words depth r states → PlaceOthersPost E at occurrence boost words depth r states
    others-placed post ranges k C p =
        post ranges k (others_of E.index C boost occurrence) p.prepared (listed E.index k C boost (part-known are p)) p.room p.levels

-- ---- the required
module _ {E : GivenRecords} {at : ℕ} {boost : Float} {words depth : ℕ} (pre : PlaceRequiredPre E at boost words depth) {ms : List Measure} (are : MeasuresAre E ms) where
  pub required-known : SomeClauses E.query ms at
  required-known = (E.index, pre.1, pre.2, boost, part-known are pre.3)

  module _ (list : List ℕ) (listed : ListsClauses required_of E.query ms at list) where
    pub required-here : (i : ℕ) → i < length list → get_or list i 0 < length ms
    required-here i h =
        let here = readies-here E.index E.query pre.1 boost list (required_of E.index pre.2 boost) (listed E.index pre.1 pre.2 boost (part-known are pre.3)) i h in
        let long = measures-long E ms are (record_count E.query) pre.3.prepared.presents-long in
        omega (arith, here, long)

    -- those that cost no more than the group
    module _ (n : ℕ) {first : List ℕ} (first-is : first ≡ take n list) where
      first-ready : {ranges : List ℕ} {k : ℕ} {C : DecodedClauses} → PartAsked E ranges k at C boost (required_of E.index C boost) words depth → ReadiesAt E.index E.query k boost first (take n (required_of E.index C boost))
      first-ready {ranges} {k} {C} p =
          subst (λ (zs : List ℕ). ReadiesAt E.index E.query k boost zs (take n (required_of E.index C boost))) (sym first-is) (readies-take E.index E.query k boost list (required_of E.index C boost) (listed E.index k C boost (part-known are p)) n)

      first-room : {ranges : List ℕ} {k : ℕ} {C : DecodedClauses} → PartAsked E ranges k at C boost (required_of E.index C boost) words depth → sizes_of (scorers_of (take n (required_of E.index C boost))) ≤ words
      first-room {ranges} {k} {C} p = let both = sizes-split n (required_of E.index C boost) in let room = p.room in omega (arith, both, room)

      pub required-first : PlaceListPre E first boost words depth
      required-first = let p = pre.3 in (pre.0, pre.1, take n (required_of E.index pre.2 boost), p.prepared, first-ready p, p.asked.boost-clear, first-room p, p.levels)

      -- their parts stand in the first words
      module _ {group_at : ℕ} {states : List ℕ} (all : length states ≡ words) (post : PlaceListPost E first boost words depth group_at states) where
        first-placed : {ranges : List ℕ} {k : ℕ} {C : DecodedClauses} → PartAsked E ranges k at C boost (required_of E.index C boost) words depth → PlacedAll E.index ranges (take n (required_of E.index C boost)) depth group_at states
        first-placed {ranges} {k} {C} p = post ranges k (take n (required_of E.index C boost)) p.prepared (first-ready p) (first-room p) p.levels

        pub required-within : group_at ≤ length states
        required-within = (first-placed pre.3).within

        -- and the others after them
        module _ {second : List ℕ} (second_is : second ≡ drop n list) {left : ℕ} (left_is : left ≡ length states - group_at) where
          second-ready : {ranges : List ℕ} {k : ℕ} {C : DecodedClauses} → PartAsked E ranges k at C boost (required_of E.index C boost) words depth → ReadiesAt E.index E.query k boost second (drop n (required_of E.index C boost))
          second-ready {ranges} {k} {C} p =
              subst (λ (zs : List ℕ). ReadiesAt E.index E.query k boost zs (drop n (required_of E.index C boost))) (sym second_is) (readies-drop E.index E.query k boost list (required_of E.index C boost) (listed E.index k C boost (part-known are p)) n)

          second-room : {ranges : List ℕ} {k : ℕ} {C : DecodedClauses} → PartAsked E ranges k at C boost (required_of E.index C boost) words depth → sizes_of (scorers_of (drop n (required_of E.index C boost))) ≤ left
          second-room {ranges} {k} {C} p =
              let both = sizes-split n (required_of E.index C boost) in
              let room = p.room in
              let used = (first-placed p).size_is in
              omega (arith, both, room, used, left_is, all)

          pub required-second : PlaceListPre E second boost left depth
          required-second = let p = pre.3 in (pre.0, pre.1, drop n (required_of E.index pre.2 boost), p.prepared, second-ready p, p.asked.boost-clear, second-room p, p.levels)

          module _ {rest : ℕ} {out : List ℕ} (rest-post : PlaceListPost E second boost left depth rest out) where
            second-placed : {ranges : List ℕ} {k : ℕ} {C : DecodedClauses} → PartAsked E ranges k at C boost (required_of E.index C boost) words depth → PlacedAll E.index ranges (drop n (required_of E.index C boost)) depth rest out
            second-placed {ranges} {k} {C} p = rest-post ranges k (drop n (required_of E.index C boost)) p.prepared (second-ready p) (second-room p) p.levels

            pub required-fits : length out ≡ left → group_at + rest ≤ length states
            required-fits long =
                let x = (first-placed pre.3).within in
                let y = (second-placed pre.3).within in
                omega (arith, x, y, long, left_is)

            pub required-placed : (group : ℕ) → ((i : Index) (k : ℕ) (C : DecodedClauses) (b : Float) → ClausesKnown i E.query ms k at C b → group ≡ disjunction_cost (costs i C.clauses)) → n ≡ no_dearer group (costs_measured ms) list → (tail : List ℕ) → PlaceRequiredPost E at boost words depth group_at (group_at + rest) (take group_at states ++ (out ++ tail))
            required-placed group group-is n-is tail ranges k C p =
                let rs = required_of E.index C boost in
                let up_to : n ≡ up_to_cost (disjunction_cost (costs E.index C.clauses)) rs =
                n-is
                ∙ no-dearer-is E.index E.query k boost ms (part-known are p).measured list rs (listed E.index k C boost (part-known are p)) group
                ∙ ap (λ (z : ℕ). up_to_cost z rs) (group-is E.index k C boost (part-known are p)) in (
                  subst (λ (zs : List Ready). PlacedAll E.index ranges zs depth (group_at + rest) (take group_at states ++ (out ++ tail))) (take-append-drop n rs) (placed-both E.index ranges depth (take n rs) (drop n rs) group_at rest states (out ++ tail) (first-placed p) (placed-longer E.index ranges depth (drop n rs) rest out tail (second-placed p))),
                  (first-placed p).size_is ∙ sym (sizes-first n rs) ∙ ap (λ (z : ℕ). sizes_of_first z (scorers_of rs)) up_to,
                )
