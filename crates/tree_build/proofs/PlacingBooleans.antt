-- A Boolean: its record's facts, the room of its three lists, and its whole part. Assumes nothing.
use mathlib.Core.Path.{◌≡◌, sym, ◌∙◌, ap, subst}
use mathlib.Core.Bool.{Bool, true, false, cond, ◌&&◌}
use mathlib.Core.List.{List, ◌++◌}
use Prim.Native.Nat.{ℕ, ◌+◌, ◌-◌, ◌*◌, ◌^◌, ◌≤◌, ◌<◌, max}
use native.Mathlib.Omega.{arith}
use borrow.Rule.Slice.PartMut.{post_of}
use lib.Dec.{T, eqb}
use lib.ListN.{length, drop, get_or}
use lib.Ieee.{Float, binary32, fits, to_bits}
use Rattle.meaning.specs.Limits.{max_records, node_state_words}
use Rattle.meaning.specs.Lent.{Index}
use Rattle.meaning.specs.Query
use Rattle.meaning.specs.Query.{record_count, record_kind, record_value, Tree, Clauses, has_required, is_must_not, Decoded, DecodedClauses}
use Rattle.meaning.specs.QueryRefusals.{carries_above}
use Rattle.meaning.specs.Takes.{shoulds_needed}
use Rattle.meaning.specs.Scorer.{has_scorer}
use Rattle.meaning.specs.Cost.{costs, disjunction_cost}
use Rattle.ieee754.specs.Nonneg.{AtMost}
use Rattle.query.proofs.Above.{level, decoded-here, within-boolean}
use Rattle.query.proofs.Inverse.{boolean-at}
use Rattle.query.proofs.Spans.{tree-span}
use Rattle.query.proofs.Whole.{whole}
use Rattle.tree_weight.specs.Weigh.{Ready, chosen, scorers_of, up_to_cost, boolean_of, no_scorer, weigh, readied}
use Rattle.tree_weight.specs.State.{words_of, size_of, sizes_of}
use Rattle.tree_weight.proofs.Presence.{absent, present}
use Rattle.tree_weight.proofs.Standing.{deep}
use Rattle.tree_weight.proofs.Sizes.{weigh-size}
use Rattle.tree_weight.proofs.Queries.{tree_shape}
use Rattle.tree_words.specs.Placed.{Placed, kept_of, boolean_state}
use Rattle.tree_words.specs.Prepared.{GivenRecords, Prepared, TreeAsked, TreePre, TreePost}
use Rattle.tree_build.specs.Parts.{PlacedAll, PartAsked, PlaceRequiredPre, PlaceRequiredPost, PlaceOthersPre, PlaceOthersPost}
use Rattle.tree_clauses.specs.Clauses.{ClausesAsked, ClausesKnown, SomeClauses, required_of, others_of}
use Rattle.tree_words.proofs.AtRecord.{at_here, record-room, present-word}
use Rattle.tree_build.proofs.BooleanParts.{sizes-first, boolean-whole}
use Rattle.tree_clauses.proofs.ClauseLaws.{others-should, others-not}
use Rattle.tree_build.proofs.PlacingParts.{part-known, sizes-split}
use Rattle.tree_measure.specs.declared.Measure.{Measure}
use Rattle.tree_build.proofs.Found.{MeasuresAre, words_behind, put_behind, behind-long, put-long}

-- what a loan of all words from a place on leaves behind them
abbrev behind : ℕ → List ℕ → List ℕ
behind a xs = post_of a (length xs - a) xs

weigh-boolean-none : (ix : Index) (msm : ℕ) (cs : Clauses) (b : Float) (f : Bool) (x : Float) → has_scorer ix (Query.boolean msm cs) ≡ false → weigh ix (Query.boolean msm cs) b (kept_of f x) ≡ no_scorer
unfolding weigh
weigh-boolean-none ix msm cs b f x h = rw h

weigh-boolean : (ix : Index) (msm : ℕ) (cs : Clauses) (b : Float) (f : Bool) (x : Float) → has_scorer ix (Query.boolean msm cs) ≡ true → weigh ix (Query.boolean msm cs) b (kept_of f x) ≡ boolean_of ix msm cs (kept_of f x) (readied ix cs b)
unfolding weigh
weigh-boolean ix msm cs b f x h = rw h

-- the words of its three lists
abbrev sizes_here : Index → DecodedClauses → Float → ℕ
sizes_here ix C b = node_state_words + (sizes_of (scorers_of (required_of ix C b)) + (sizes_of (scorers_of (others_of ix C b 2)) + sizes_of (scorers_of (others_of ix C b 3))))

boolean-sizes : (ix : Index) (msm : ℕ) (C : DecodedClauses) (b : Float) (f : Bool) (x : Float) → size_of (boolean_of ix msm C.clauses (kept_of f x) (readied ix C.clauses b)) ≡ sizes_here ix C b
unfolding boolean_of size_of
boolean-sizes ix msm C b f x =
    ap (λ (zs : List Ready). node_state_words + (sizes_of (scorers_of (required_of ix C b)) + (sizes_of (scorers_of zs) + sizes_of (scorers_of (chosen is_must_not (readied ix C.clauses b)))))) (sym (others-should ix C b))
    ∙ ap (λ (zs : List Ready). node_state_words + (sizes_of (scorers_of (required_of ix C b)) + (sizes_of (scorers_of (others_of ix C b 2)) + sizes_of (scorers_of zs)))) (sym (others-not ix C b))

-- the Boolean at a record: its clauses, its scorer, and how many words it takes
record BooleanHere (ix : Index) (q : List ℕ) (k at : ℕ) (D : Decoded) (fixed : Bool) (kept boost : Float) (words : ℕ) : Type 0 where
  inside : DecodedClauses
  asked : ClausesAsked q (k - 1) at inside boost
  scorer-is : weigh ix D.tree boost (kept_of fixed kept) ≡ boolean_of ix (record_value q at 0) inside.clauses (kept_of fixed kept) (readied ix inside.clauses boost)
  room : sizes_here ix inside boost ≤ words
  small : sizes_here ix inside boost ≤ node_state_words * max_records
  deep-enough : 0 < k

module _ (E : GivenRecords) (ranges : List ℕ) (k at : ℕ) (D : Decoded) (fixed : Bool) (kept boost : Float) (words : ℕ) (kind : record_kind E.query at ≡ 3) (p : Prepared E ranges) (a : TreeAsked E.index E.query k at D fixed kept boost words) where
  boolean-here : (get_or E.presents at 0 ≡ 0 → ⊥) → BooleanHere E.index E.query k at D fixed kept boost words
  boolean-here there =
      let q = E.query in
      let b = boolean-at q (k - 1) at D (deep q k at D a.decoded) kind in
      let has = ap (has_scorer E.index) (sym b.tree_is) ∙ present (get_or E.presents at 0) (has_scorer E.index D.tree) (present-word E ranges k at D fixed kept boost words p a) there in
      let is = ap (λ (t : Tree). weigh E.index t boost (kept_of fixed kept)) b.tree_is ∙ weigh-boolean E.index (record_value q at 0) b.inside.clauses boost fixed kept has in
      let sized = ap size_of is ∙ boolean-sizes E.index (record_value q at 0) b.inside boost fixed kept in
      let some_words = a.room in
      let most = weigh-size E.index D.tree boost (kept_of fixed kept) in
      let ends = (tree_shape q k at D a.decoded).span in
      let inside = (tree-span q k at D a.decoded).within in
      let few = (whole q p.asks.records-right).few-records in
      let lvl = level q k at D a.decoded in
      record {
        inside = b.inside;
        asked = record { here = decoded-here q k at D a.decoded; kind-is = kind; decoded = b.decoded; within = within-boolean (record_value q at 0) b.inside.clauses boost (subst (λ (t : Tree). carries_above t boost ≡ false) b.tree_is a.within); boost-clear = a.boost-clear };
        scorer-is = is;
        room = omega (arith, sized, some_words);
        small = omega (arith, sized, most, ends, inside, few);
        deep-enough = omega (arith, lvl);
      }

  -- a Boolean without a scorer
  boolean-nothing : get_or E.presents at 0 ≡ 0 → weigh E.index D.tree boost (kept_of fixed kept) ≡ no_scorer
  boolean-nothing none =
      let q = E.query in
      let b = boolean-at q (k - 1) at D (deep q k at D a.decoded) kind in
      ap (λ (t : Tree). weigh E.index t boost (kept_of fixed kept)) b.tree_is
      ∙ weigh-boolean-none E.index (record_value q at 0) b.inside.clauses boost fixed kept (ap (has_scorer E.index) (sym b.tree_is) ∙ absent (get_or E.presents at 0) (has_scorer E.index D.tree) (present-word E ranges k at D fixed kept boost words p a) none)

module _ {E : GivenRecords} {at : ℕ} {fixed : Bool} {kept boost : Float} {words depth : ℕ} (pre : TreePre E at fixed kept boost words depth) where
  pub tree-here : at < record_count E.query
  tree-here = at_here E pre.0 pre.1 at pre.2 fixed kept boost words pre.3 pre.4

  pub tree-room : node_state_words ≤ words
  tree-room = record-room E pre.0 pre.1 at pre.2 fixed kept boost words pre.3 pre.4

  pub tree-deep : 1 ≤ depth
  tree-deep = let l = level E.query pre.1 at pre.2 pre.4.decoded in let k = pre.5 in omega (arith, l, k)

  pub tree-kept : AtMost (2 ^ 29) kept
  tree-kept = pre.4.kept_small

  -- what is found and lent has a place for each record
  pub tree-present : at < length E.presents
  tree-present = let h = tree-here in let l = pre.3.presents-long in omega (arith, h, l)

  module _ (kind : record_kind E.query at ≡ 3) where
    pub nothing_placed : (scores r : ℕ) (states : List ℕ) → get_or E.presents at 0 ≡ 0 → ((i : Index) (ranges : List ℕ) (d : ℕ) → Placed i ranges no_scorer d scores r states) → TreePost E at fixed kept boost words depth scores r states
    nothing_placed scores r states none post ranges k D p a levels = rw (boolean-nothing E ranges k at D fixed kept boost words kind p a none) (post E.index ranges depth)

    module _ (there : get_or E.presents at 0 ≡ 0 → ⊥) where
      here : (ranges : List ℕ) (k : ℕ) (D : Decoded) → Prepared E ranges → TreeAsked E.index E.query k at D fixed kept boost words → BooleanHere E.index E.query k at D fixed kept boost words
      here ranges k D p a = boolean-here E ranges k at D fixed kept boost words kind p a there

      -- the clauses, one level deeper, with room for some of them
      asks : (ranges : List ℕ) (k : ℕ) (D : Decoded) (p : Prepared E ranges) (a : TreeAsked E.index E.query k at D fixed kept boost words) → k ≤ depth → (n : ℕ) (rs : List Ready) → sizes_of (scorers_of rs) ≤ n → PartAsked E ranges (k - 1) at (here ranges k D p a).inside boost rs n (depth - 1)
      asks ranges k D p a levels n rs room = record { prepared = p; asked = (here ranges k D p a).asked; room = room; levels = omega (arith, levels) }

      pub boolean-known : {ms : List Measure} → MeasuresAre E ms → SomeClauses E.query ms at
      boolean-known are =
          let h = here pre.0 pre.1 pre.2 pre.3 pre.4 in
          let r = h.room in
          (E.index, pre.1 - 1, h.inside, boost, part-known are (asks pre.0 pre.1 pre.2 pre.3 pre.4 pre.5 words (required_of E.index h.inside boost) (omega (arith, r))))

      -- ---- the required, after the record
      module _ (states₀ : List ℕ) (all : length states₀ ≡ words) where
        abbrev n₁ : ℕ
        n₁ = length (words_behind node_state_words states₀)

        n₁-is : n₁ ≡ words - node_state_words
        n₁-is = behind-long node_state_words states₀ all

        required-asked : (ranges : List ℕ) (k : ℕ) (D : Decoded) (p : Prepared E ranges) (a : TreeAsked E.index E.query k at D fixed kept boost words) → k ≤ depth → PartAsked E ranges (k - 1) at (here ranges k D p a).inside boost (required_of E.index (here ranges k D p a).inside boost) n₁ (depth - 1)
        required-asked ranges k D p a levels =
            let h = here ranges k D p a in
            let r = h.room in
            asks ranges k D p a levels n₁ (required_of E.index h.inside boost) (omega (arith, r, n₁-is))

        pub boolean-required : PlaceRequiredPre E at boost n₁ (depth - 1)
        boolean-required = (pre.0, pre.1 - 1, (here pre.0 pre.1 pre.2 pre.3 pre.4).inside, required-asked pre.0 pre.1 pre.2 pre.3 pre.4 pre.5)

        module _ {group_at e₁ : ℕ} {out₁ : List ℕ} (post₁ : PlaceRequiredPost E at boost n₁ (depth - 1) group_at e₁ out₁) where
          -- its size is that of the required
          first-size : (ranges : List ℕ) (k : ℕ) (D : Decoded) (p : Prepared E ranges) (a : TreeAsked E.index E.query k at D fixed kept boost words) → k ≤ depth → e₁ ≡ sizes_of (scorers_of (required_of E.index (here ranges k D p a).inside boost))
          first-size ranges k D p a levels = (post₁ ranges (k - 1) (here ranges k D p a).inside (required-asked ranges k D p a levels)).0.size_is

          pub first_fits : node_state_words + e₁ ≤ words
          first_fits =
              let r = (here pre.0 pre.1 pre.2 pre.3 pre.4).room in
              let s = first-size pre.0 pre.1 pre.2 pre.3 pre.4 pre.5 in
              omega (arith, r, s)

          -- ---- the optional, after them
          module _ (long₁ : length out₁ ≡ n₁) where
            abbrev states₁ : List ℕ
            states₁ = put_behind node_state_words states₀ out₁

            pub first-long : length states₁ ≡ words
            first-long = put-long node_state_words states₀ out₁ all long₁

            abbrev n₂ : ℕ
            n₂ = length (words_behind (node_state_words + e₁) states₁)

            n₂-is : n₂ ≡ words - (node_state_words + e₁)
            n₂-is = behind-long (node_state_words + e₁) states₁ first-long

            optional-asked : (ranges : List ℕ) (k : ℕ) (D : Decoded) (p : Prepared E ranges) (a : TreeAsked E.index E.query k at D fixed kept boost words) → k ≤ depth → PartAsked E ranges (k - 1) at (here ranges k D p a).inside boost (others_of E.index (here ranges k D p a).inside boost 2) n₂ (depth - 1)
            optional-asked ranges k D p a levels =
                let h = here ranges k D p a in
                let r = h.room in
                let s = first-size ranges k D p a levels in
                asks ranges k D p a levels n₂ (others_of E.index h.inside boost 2) (omega (arith, r, s, n₂-is))

            pub boolean-optional : PlaceOthersPre E at 2 boost n₂ (depth - 1)
            boolean-optional = (pre.0, pre.1 - 1, (here pre.0 pre.1 pre.2 pre.3 pre.4).inside, optional-asked pre.0 pre.1 pre.2 pre.3 pre.4 pre.5)

            module _ {e₂ : ℕ} {out₂ : List ℕ} (post₂ : PlaceOthersPost E at 2 boost n₂ (depth - 1) e₂ out₂) where
              second-size : (ranges : List ℕ) (k : ℕ) (D : Decoded) (p : Prepared E ranges) (a : TreeAsked E.index E.query k at D fixed kept boost words) → k ≤ depth → e₂ ≡ sizes_of (scorers_of (others_of E.index (here ranges k D p a).inside boost 2))
              second-size ranges k D p a levels = (post₂ ranges (k - 1) (here ranges k D p a).inside (optional-asked ranges k D p a levels)).size_is

              pub second_fits : node_state_words + (e₁ + e₂) ≤ words
              second_fits =
                  let r = (here pre.0 pre.1 pre.2 pre.3 pre.4).room in
                  let s = first-size pre.0 pre.1 pre.2 pre.3 pre.4 pre.5 in
                  let t = second-size pre.0 pre.1 pre.2 pre.3 pre.4 pre.5 in
                  omega (arith, r, s, t)

              -- ---- the prohibited, after those
              module _ (long₂ : length out₂ ≡ n₂) where
                abbrev states₂ : List ℕ
                states₂ = put_behind (node_state_words + e₁) states₁ out₂

                pub second-long : length states₂ ≡ words
                second-long = put-long (node_state_words + e₁) states₁ out₂ first-long long₂

                abbrev n₃ : ℕ
                n₃ = length (words_behind (node_state_words + (e₁ + e₂)) states₂)

                n₃-is : n₃ ≡ words - (node_state_words + (e₁ + e₂))
                n₃-is = behind-long (node_state_words + (e₁ + e₂)) states₂ second-long

                prohibited-asked : (ranges : List ℕ) (k : ℕ) (D : Decoded) (p : Prepared E ranges) (a : TreeAsked E.index E.query k at D fixed kept boost words) → k ≤ depth → PartAsked E ranges (k - 1) at (here ranges k D p a).inside boost (others_of E.index (here ranges k D p a).inside boost 3) n₃ (depth - 1)
                prohibited-asked ranges k D p a levels =
                    let h = here ranges k D p a in
                    let r = h.room in
                    let s = first-size ranges k D p a levels in
                    let t = second-size ranges k D p a levels in
                    asks ranges k D p a levels n₃ (others_of E.index h.inside boost 3) (omega (arith, r, s, t, n₃-is))

                pub boolean-prohibited : PlaceOthersPre E at 3 boost n₃ (depth - 1)
                boolean-prohibited = (pre.0, pre.1 - 1, (here pre.0 pre.1 pre.2 pre.3 pre.4).inside, prohibited-asked pre.0 pre.1 pre.2 pre.3 pre.4 pre.5)

                module _ {e₃ : ℕ} {out₃ : List ℕ} (post₃ : PlaceOthersPost E at 3 boost n₃ (depth - 1) e₃ out₃) where
                  third-size : (ranges : List ℕ) (k : ℕ) (D : Decoded) (p : Prepared E ranges) (a : TreeAsked E.index E.query k at D fixed kept boost words) → k ≤ depth → e₃ ≡ sizes_of (scorers_of (others_of E.index (here ranges k D p a).inside boost 3))
                  third-size ranges k D p a levels = (post₃ ranges (k - 1) (here ranges k D p a).inside (prohibited-asked ranges k D p a levels)).size_is

                  abbrev states₃ : List ℕ
                  states₃ = put_behind (node_state_words + (e₁ + e₂)) states₂ out₃

                  pub third-long : length out₃ ≡ n₃ → length states₃ ≡ words
                  third-long long₃ = put-long (node_state_words + (e₁ + e₂)) states₂ out₃ second-long long₃

                  -- the whole part
                  pub whole-fits : node_state_words + (e₁ + e₂) + e₃ ≤ words
                  whole-fits =
                      let r = (here pre.0 pre.1 pre.2 pre.3 pre.4).room in
                      let s = first-size pre.0 pre.1 pre.2 pre.3 pre.4 pre.5 in
                      let t = second-size pre.0 pre.1 pre.2 pre.3 pre.4 pre.5 in
                      let u = third-size pre.0 pre.1 pre.2 pre.3 pre.4 pre.5 in
                      omega (arith, r, s, t, u)

                  pub whole-small : node_state_words + (e₁ + e₂) + e₃ ≤ node_state_words * max_records
                  whole-small =
                      let r = (here pre.0 pre.1 pre.2 pre.3 pre.4).small in
                      let s = first-size pre.0 pre.1 pre.2 pre.3 pre.4 pre.5 in
                      let t = second-size pre.0 pre.1 pre.2 pre.3 pre.4 pre.5 in
                      let u = third-size pre.0 pre.1 pre.2 pre.3 pre.4 pre.5 in
                      omega (arith, r, s, t, u)

                  -- the group joins within the required
                  pub group-within : group_at ≤ e₁
                  group-within =
                      let C = (here pre.0 pre.1 pre.2 pre.3 pre.4).inside in
                      let rs = required_of E.index C boost in
                      let n = up_to_cost (disjunction_cost (costs E.index C.clauses)) rs in
                      let g = (post₁ pre.0 (pre.1 - 1) C (required-asked pre.0 pre.1 pre.2 pre.3 pre.4 pre.5)).1 in
                      let f = sizes-first n rs in
                      let b = sizes-split n rs in
                      let s = first-size pre.0 pre.1 pre.2 pre.3 pre.4 pre.5 in
                      omega (arith, g, f, b, s)

                  pub whole-placed : {ms : List Measure} → MeasuresAre E ms → (states : List ℕ) (scores need msm : ℕ) (required after : Bool) → T (fits binary32 kept) → msm ≡ record_value E.query at 0 → ((i : Index) (k : ℕ) (C : DecodedClauses) (b : Float) → ClausesKnown i E.query ms k at C b → required ≡ has_required C.clauses) → need ≡ cond required msm (max 1 msm) → after ≡ (required && eqb msm 0) → states ≡ words_of (boolean_state (node_state_words + (e₁ + e₂) + e₃) need e₁ (e₁ + e₂) fixed (to_bits binary32 kept) after group_at scores) ++ drop node_state_words states₃ → TreePost E at fixed kept boost words depth scores (node_state_words + (e₁ + e₂) + e₃) states
                  unfolding shoulds_needed
                  whole-placed are states scores need msm required after held m required-is need-is after_is states-is ranges k D p a levels =
                      let h = here ranges k D p a in
                      let C = h.inside in
                      let asked = required-asked ranges k D p a levels in
                      let has = required-is E.index (k - 1) C boost (part-known are asked) in
                      let one = post₁ ranges (k - 1) C asked in
                      let two = subst (λ (zs : List Ready). PlacedAll E.index ranges zs (depth - 1) e₂ out₂) (others-should E.index C boost) (post₂ ranges (k - 1) C (optional-asked ranges k D p a levels)) in
                      let three = subst (λ (zs : List Ready). PlacedAll E.index ranges zs (depth - 1) e₃ out₃) (others-not E.index C boost) (post₃ ranges (k - 1) C (prohibited-asked ranges k D p a levels)) in
                      let some-room = tree-room in
                      let some-levels = tree-deep in
                      rw (h.scorer-is, ← m)
                      (boolean-whole E.index ranges msm C.clauses fixed kept boost states₀ out₁ out₂ out₃ (behind node_state_words states₀) (behind (node_state_words + e₁) states₁) (behind (node_state_words + (e₁ + e₂)) states₂) states depth scores need e₁ e₂ e₃ group_at after (omega (arith, some-room, all)) some-levels held tree-kept one.0 two three
                      (need-is ∙ ap (λ (z : Bool). cond z msm (max 1 msm)) has)
                      (after_is ∙ ap (λ (z : Bool). z && eqb msm 0) has)
                      one.1
                      states-is)
