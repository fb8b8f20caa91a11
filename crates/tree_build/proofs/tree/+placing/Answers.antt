-- A tree is placed by its kind: a Boolean's record, then its required clauses, then the others, each list in turn.
use borrow.Rule.Slice.PartMut.{mid_len, post_of}
use Rattle.std.proofs.Common.{◌≡◌, ◌≤◌, ◌<◌, Bool, List, cond, ℕ, ◌+◌, ◌-◌, refl, ◌∙◌, ap, length, take, arith, rules}
use Rattle.meaning.specs.Limits.{node_state_words}
use Rattle.meaning.specs.Query.{is_must}
use Rattle.query.specs.Kinds.{kind_number, occur_number}
use Rattle.tree_clauses.specs.Clauses.{wanted_at}
use Rattle.tree_measure.proofs.Arrays.{present-at}
use Rattle.tree_words.proofs.AtRecord.{TreeHere, tree-here}
use Rattle.tree_words.proofs.Kept.{kept-or}
use Rattle.tree_build.proofs.Found.{found, marked, from-there, put_behind}
use Rattle.tree_build.proofs.PlacingLists.{kept-nothing, list-starts, list-here, list-within, list-ends, list-tree, list-fits, list-more}
use Rattle.tree_build.proofs.PlacingParts.{others-known, others-listed, others-placed, required-known, required-here, required-first, required-within, required-second, required-fits, required-placed}
use Rattle.tree_build.proofs.PlacingBooleans.{tree-deep, tree-kept, nothing_placed, boolean-known, boolean-required, first_fits, first-long, boolean-optional, second_fits, second-long, boolean-prohibited, third-long, whole-fits, whole-small, group-within, whole-placed}
use Rattle.tree_build.proofs.PlacingBelow.{constant-asked, constant-placed, boost-asked, boost-placed, boost-number-here}
use Rattle.tree_build.proofs.tree.+placing.Goals.{place-Start, place_boolean-Start, place_boolean-After-place_required-first, place_boolean-After-place_others-shoulds, place_boolean-After-place_others-nots, place_required-After-place_list-group_at}
use Rattle.tree_build.proofs.tree.+placing.Goals as goal

-- ---- a tree
tree : (t : _) (c : goal.place-Start t) → TreeHere c.args.records.now c.args.at c.args.passed.kept c.args.passed.boost (length c.args.states.now) c.args.depth
tree t c = tree-here c.args.records.now c.args.at c.args.passed.kept c.args.passed.boost (length c.args.states.now) c.args.depth c.requires

pub place-kind_at-requires : goal.place-kind_at-requires
place-kind_at-requires t c = (tree t (goal.at.place-kind_at-requires t c).Start).here

pub place-place_boolean-requires : goal.place-place_boolean-requires
place-place_boolean-requires t c =
    (omega (arith, c.decreases), (c.in-Some-Boolean.ensures ∙ ap kind_number c.in-Some-Boolean.field-0-is, c.requires))

pub place-overflow_sub-depth : goal.place-overflow_sub-depth
place-overflow_sub-depth t c = (tree t (goal.at.place-overflow_sub-depth t c).Start).levels

pub place-place-requires : goal.place-place-requires
place-place-requires t c =
    let kind = c.in-Some-ConstantScore.ensures ∙ ap kind_number c.in-Some-ConstantScore.field-0-is in
    (omega (arith, c.decreases, tree-deep c.requires), constant-asked c.requires kind (c.unwrap_or.ensures ∙ kept-or c.args.passed.kept c.args.passed.boost))

pub place-value-requires : goal.place-value-requires
place-value-requires t c = ((tree t (goal.at.place-value-requires t c).Start).here, omega arith)

pub place-float_from_bits-below : goal.place-float_from_bits-below
place-float_from_bits-below t c =
    let kind = c.in-Some-Boost.ensures ∙ ap kind_number c.in-Some-Boost.field-0-is in
    boost-number-here c.requires kind c.value.ensures

pub place-overflow_sub-depth-in-Some-Boost : goal.place-overflow_sub-depth-in-Some-Boost
place-overflow_sub-depth-in-Some-Boost t c = (tree t (goal.at.place-overflow_sub-depth-in-Some-Boost t c).Start).levels

pub place-place-requires-in-Some-Boost : goal.place-place-requires-in-Some-Boost
place-place-requires-in-Some-Boost t c =
    let kind = c.in-Some-Boost.ensures ∙ ap kind_number c.in-Some-Boost.field-0-is in
    (omega (arith, c.decreases, tree-deep c.requires), boost-asked c.requires kind c.value.ensures)

pub place-returns-in-Some-ConstantScore-clause-tree_post : goal.place-returns-in-Some-ConstantScore-clause-tree_post
place-returns-in-Some-ConstantScore-clause-tree_post t c =
    let kind = c.in-Some-ConstantScore.ensures ∙ ap kind_number c.in-Some-ConstantScore.field-0-is in
    constant-placed c.requires kind (c.unwrap_or.ensures ∙ kept-or c.args.passed.kept c.args.passed.boost) c.place.ensures.tree_post

pub place-returns-in-Some-Boost-clause-tree_post : goal.place-returns-in-Some-Boost-clause-tree_post
place-returns-in-Some-Boost-clause-tree_post t c =
    let kind = c.in-Some-Boost.ensures ∙ ap kind_number c.in-Some-Boost.field-0-is in
    boost-placed c.requires kind c.value.ensures c.place-in-Some-Boost.ensures.tree_post

pub place-returns-in_default-clause-tree_post : goal.place-returns-in_default-clause-tree_post
place-returns-in_default-clause-tree_post t c =
    c.place_leaf.ensures.placed _ _ c.args.depth

-- ---- a Boolean
boolean : (t : _) (c : goal.place_boolean-Start t) → TreeHere c.args.records.now c.args.at c.args.passed.kept c.args.passed.boost (length c.args.states.now) c.args.depth
boolean t c = tree-here c.args.records.now c.args.at c.args.passed.kept c.args.passed.boost (length c.args.states.now) c.args.depth c.requires.tree_pre

pub place_boolean-bounds-records-at : goal.place_boolean-bounds-records-at
place_boolean-bounds-records-at t c = (boolean t (goal.at.place_boolean-bounds-records-at t c).Start).measured

pub place_boolean-place_nothing-requires : goal.place_boolean-place_nothing-requires
place_boolean-place_nothing-requires t c = (boolean t (goal.at.place_boolean-place_nothing-requires t c).Start).room

pub place_boolean-returns-then-not-records-at-clause-tree_post : goal.place_boolean-returns-then-not-records-at-clause-tree_post
place_boolean-returns-then-not-records-at-clause-tree_post t c =
    nothing_placed c.requires.tree_pre c.requires.at_value c.args.passed.scores c.place_nothing.result c.place_nothing.new.states (present-at c.args.records.now.measures.now c.args.at ∙ ap (λ (b : Bool). cond b 1 0) c.if-not-records-at.true) c.place_nothing.ensures.placed

pub place_boolean-value-msm-requires : goal.place_boolean-value-msm-requires
place_boolean-value-msm-requires t c = ((boolean t (goal.at.place_boolean-value-msm-requires t c).Start).here, omega arith)

pub place_boolean-has_required-required-requires : goal.place_boolean-has_required-required-requires
place_boolean-has_required-required-requires t c =
    let there = marked c.args.records.now.measures.now c.args.at c.if-not-records-at.false in
    let s = boolean-known c.requires.tree_pre c.requires.at_value there (found c.args.records.now) in
    (s.0, s.1, s.2, s.3, record { measures = c.args.records.now.measures.now; nexts = refl; known = s.4 })

pub place_boolean-slice_bounds-place_required-count : goal.place_boolean-slice_bounds-place_required-count
place_boolean-slice_bounds-place_required-count t c = (boolean t (goal.at.place_boolean-slice_bounds-place_required-count t c).Start).room

pub place_boolean-slice_bounds-place_required-start : goal.place_boolean-slice_bounds-place_required-start
place_boolean-slice_bounds-place_required-start t c = (boolean t (goal.at.place_boolean-slice_bounds-place_required-start t c).Start).room

pub place_boolean-overflow_sub-depth : goal.place_boolean-overflow_sub-depth
place_boolean-overflow_sub-depth t c = (boolean t (goal.at.place_boolean-overflow_sub-depth t c).Start).levels

pub place_boolean-place_required-first-requires : goal.place_boolean-place_required-first-requires
place_boolean-place_required-first-requires t c =
    let there = marked c.args.records.now.measures.now c.args.at c.if-not-records-at.false in
    (omega (arith, c.decreases, tree-deep c.requires.tree_pre), boolean-required c.requires.tree_pre c.requires.at_value there c.args.states.now refl)

-- its required children's parts are there, in words as many as before
abbrev words₁ : (t : _) → goal.place_boolean-After-place_required-first t → List ℕ
words₁ t c = put_behind node_state_words c.args.states.now c.place_required-first.new.states

first : (t : _) (c : goal.place_boolean-After-place_required-first t) → (node_state_words + c.place_required-first.result.end ≤ length c.args.states.now) × (length (words₁ t c) ≡ length c.args.states.now)
first t c =
    let there = marked c.args.records.now.measures.now c.args.at c.if-not-records-at.false in
    let a = c.place_required-first in (
      first_fits c.requires.tree_pre c.requires.at_value there c.args.states.now refl a.ensures.required_post,
      first-long c.requires.tree_pre c.requires.at_value there c.args.states.now refl a.ensures.required_post a.auto.states,
    )

pub place_boolean-overflow_add-first : goal.place_boolean-overflow_add-first
place_boolean-overflow_add-first t c = omega (arith, (first t (goal.at.place_boolean-overflow_add-first t c).After-place_required-first).0, c.well_formed)

pub place_boolean-offset_bounds-states-first : goal.place_boolean-offset_bounds-states-first
place_boolean-offset_bounds-states-first t c = omega (arith, (first t (goal.at.place_boolean-offset_bounds-states-first t c).After-place_required-first).0, c.well_formed)

pub place_boolean-slice_bounds-place_others-count : goal.place_boolean-slice_bounds-place_others-count
place_boolean-slice_bounds-place_others-count t c = let done = first t (goal.at.place_boolean-slice_bounds-place_others-count t c).After-place_required-first in omega (arith, done.0, done.1)

pub place_boolean-slice_bounds-place_others-start : goal.place_boolean-slice_bounds-place_others-start
place_boolean-slice_bounds-place_others-start t c = let done = first t (goal.at.place_boolean-slice_bounds-place_others-start t c).After-place_required-first in omega (arith, done.0, done.1)

pub place_boolean-overflow_sub-depth-2 : goal.place_boolean-overflow_sub-depth-2
place_boolean-overflow_sub-depth-2 t c = (boolean t (goal.at.place_boolean-overflow_sub-depth-2 t c).Start).levels

pub place_boolean-place_others-shoulds-requires : goal.place_boolean-place_others-shoulds-requires
place_boolean-place_others-shoulds-requires t c =
    let there = marked c.args.records.now.measures.now c.args.at c.if-not-records-at.false in
    let a = c.place_required-first in
    (omega (arith, c.decreases, tree-deep c.requires.tree_pre), boolean-optional c.requires.tree_pre c.requires.at_value there c.args.states.now refl a.ensures.required_post a.auto.states)

-- and the optional ones'
abbrev words₂ : (t : _) → goal.place_boolean-After-place_others-shoulds t → List ℕ
words₂ t c =
    put_behind (node_state_words + c.place_required-first.result.end) (put_behind node_state_words c.args.states.now c.place_required-first.new.states) c.place_others-shoulds.new.states

second : (t : _) (c : goal.place_boolean-After-place_others-shoulds t) → (node_state_words + (c.place_required-first.result.end + c.place_others-shoulds.result) ≤ length c.args.states.now) × (length (words₂ t c) ≡ length c.args.states.now)
second t c =
    let there = marked c.args.records.now.measures.now c.args.at c.if-not-records-at.false in
    let a = c.place_required-first in
    let b = c.place_others-shoulds in (
      second_fits c.requires.tree_pre c.requires.at_value there c.args.states.now refl a.ensures.required_post a.auto.states b.ensures.others_post,
      second-long c.requires.tree_pre c.requires.at_value there c.args.states.now refl a.ensures.required_post a.auto.states b.ensures.others_post b.auto.states,
    )

pub place_boolean-overflow_add-optional_end : goal.place_boolean-overflow_add-optional_end
place_boolean-overflow_add-optional_end t c = omega (arith, (second t (goal.at.place_boolean-overflow_add-optional_end t c).After-place_others-shoulds).0, c.well_formed)

pub place_boolean-overflow_add-optional_end-2 : goal.place_boolean-overflow_add-optional_end-2
place_boolean-overflow_add-optional_end-2 t c = omega (arith, (second t (goal.at.place_boolean-overflow_add-optional_end-2 t c).After-place_others-shoulds).0, c.well_formed)

pub place_boolean-offset_bounds-states-optional_end : goal.place_boolean-offset_bounds-states-optional_end
place_boolean-offset_bounds-states-optional_end t c = omega (arith, (second t (goal.at.place_boolean-offset_bounds-states-optional_end t c).After-place_others-shoulds).0, c.well_formed)

pub place_boolean-slice_bounds-place_others-count-2 : goal.place_boolean-slice_bounds-place_others-count-2
place_boolean-slice_bounds-place_others-count-2 t c = let done = second t (goal.at.place_boolean-slice_bounds-place_others-count-2 t c).After-place_others-shoulds in omega (arith, done.0, done.1)

pub place_boolean-slice_bounds-place_others-start-2 : goal.place_boolean-slice_bounds-place_others-start-2
place_boolean-slice_bounds-place_others-start-2 t c = let done = second t (goal.at.place_boolean-slice_bounds-place_others-start-2 t c).After-place_others-shoulds in omega (arith, done.0, done.1)

pub place_boolean-overflow_sub-depth-3 : goal.place_boolean-overflow_sub-depth-3
place_boolean-overflow_sub-depth-3 t c = (boolean t (goal.at.place_boolean-overflow_sub-depth-3 t c).Start).levels

pub place_boolean-place_others-nots-requires : goal.place_boolean-place_others-nots-requires
place_boolean-place_others-nots-requires t c =
    let there = marked c.args.records.now.measures.now c.args.at c.if-not-records-at.false in
    let a = c.place_required-first in
    let b = c.place_others-shoulds in
    (omega (arith, c.decreases, tree-deep c.requires.tree_pre), boolean-prohibited c.requires.tree_pre c.requires.at_value there c.args.states.now refl a.ensures.required_post a.auto.states b.ensures.others_post b.auto.states)

pub place_boolean-overflow_add-size : goal.place_boolean-overflow_add-size
place_boolean-overflow_add-size t c = omega (arith, (second t (goal.at.place_boolean-overflow_add-size t c).After-place_others-shoulds).0, c.well_formed)

-- and the prohibited ones'
abbrev words₃ : (t : _) → goal.place_boolean-After-place_others-nots t → List ℕ
words₃ t c =
    let optional = put_behind (node_state_words + c.place_required-first.result.end) (put_behind node_state_words c.args.states.now c.place_required-first.new.states) c.place_others-shoulds.new.states in
    put_behind (node_state_words + (c.place_required-first.result.end + c.place_others-shoulds.result)) optional c.place_others-nots.new.states

abbrev size₃ : (t : _) → goal.place_boolean-After-place_others-nots t → ℕ
size₃ t c = node_state_words + (c.place_required-first.result.end + c.place_others-shoulds.result) + c.place_others-nots.result

third : (t : _) (c : goal.place_boolean-After-place_others-nots t) → (size₃ t c ≤ length c.args.states.now) × (length (words₃ t c) ≡ length c.args.states.now) × (size₃ t c < 4294967296) × (c.place_required-first.result.group_at ≤ size₃ t c)
third t c =
    let there = marked c.args.records.now.measures.now c.args.at c.if-not-records-at.false in
    let a = c.place_required-first in
    let b = c.place_others-shoulds in
    let d = c.place_others-nots in
    let long = third-long c.requires.tree_pre c.requires.at_value there c.args.states.now refl a.ensures.required_post a.auto.states b.ensures.others_post b.auto.states d.ensures.others_post d.auto.states in
    let fits = whole-fits c.requires.tree_pre c.requires.at_value there c.args.states.now refl a.ensures.required_post a.auto.states b.ensures.others_post b.auto.states d.ensures.others_post in
    let small = whole-small c.requires.tree_pre c.requires.at_value there c.args.states.now refl a.ensures.required_post a.auto.states b.ensures.others_post b.auto.states d.ensures.others_post in
    let group = group-within c.requires.tree_pre c.requires.at_value there c.args.states.now refl a.ensures.required_post a.auto.states b.ensures.others_post b.auto.states d.ensures.others_post in
    (omega (arith, fits), long, omega (arith, small), omega (arith, group))

pub place_boolean-overflow_add-size-2 : goal.place_boolean-overflow_add-size-2
place_boolean-overflow_add-size-2 t c = omega (arith, (third t (goal.at.place_boolean-overflow_add-size-2 t c).After-place_others-nots).0, c.well_formed)

pub place_boolean-put_boolean-requires : goal.place_boolean-put_boolean-requires
place_boolean-put_boolean-requires t c =
    let some = boolean t (goal.at.place_boolean-put_boolean-requires t c).Start in
    let all = third t (goal.at.place_boolean-put_boolean-requires t c).After-place_others-nots in
    (omega (arith, some.room, all.1), omega (arith, all.2), omega arith, omega arith, omega (arith, all.3), tree-kept c.requires.tree_pre)

pub place_boolean-returns-clause-tree_post : goal.place_boolean-returns-clause-tree_post
place_boolean-returns-clause-tree_post t c =
    let there = marked c.args.records.now.measures.now c.args.at c.if-not-records-at.false in
    let a = c.place_required-first in
    let b = c.place_others-shoulds in
    let d = c.place_others-nots in
    whole-placed c.requires.tree_pre c.requires.at_value there c.args.states.now refl a.ensures.required_post a.auto.states b.ensures.others_post b.auto.states d.ensures.others_post (found c.args.records.now) c.put_boolean.new.states c.args.passed.scores c.shoulds_needed-need.result c.value-msm.result c.has_required-required.result c.joins_afterwards-afterwards.result c.put_boolean.ensures.score_fits c.value-msm.ensures (λ ix k C b known. c.has_required-required.ensures ix k C b (record { measures = c.args.records.now.measures.now; nexts = refl; known = known })) c.shoulds_needed-need.ensures c.joins_afterwards-afterwards.ensures c.put_boolean.ensures.written

pub place_list-loop-at-init : goal.place_list-loop-at-init
place_list-loop-at-init t c =
    list-starts c.args.list.now c.args.boost c.requires c.args.states.now

pub place_list-occur_at-occurrence-requires : goal.place_list-occur_at-occurrence-requires
place_list-occur_at-occurrence-requires t c = list-here c.args.list.now c.args.boost c.requires (omega arith)

pub place_list-offset_bounds-states-used : goal.place_list-offset_bounds-states-used
place_list-offset_bounds-states-used t c = omega (arith, list-within c.args.list.now c.args.boost c.requires c.loop-at.invariant, c.well_formed)

pub place_list-slice_bounds-place-count : goal.place_list-slice_bounds-place-count
place_list-slice_bounds-place-count t c = omega (arith, list-within c.args.list.now c.args.boost c.requires c.loop-at.invariant)

pub place_list-slice_bounds-place-start : goal.place_list-slice_bounds-place-start
place_list-slice_bounds-place-start t c = omega (arith, list-within c.args.list.now c.args.boost c.requires c.loop-at.invariant)

pub place_list-place-used-requires : goal.place_list-place-used-requires
place_list-place-used-requires t c =
    let l = c.loop-at in
    let states₀ = c.args.states.now in
    (omega (arith, c.decreases), list-tree c.args.list.now c.args.boost c.requires l.invariant c.occur_at-occurrence.result (omega arith) refl c.occur_at-occurrence.ensures c.passed_on.ensures kept-nothing c.requires.5 (omega arith) (mid_len l.used (length l.states) l.states (omega arith)))

pub place_list-overflow_add-used : goal.place_list-overflow_add-used
place_list-overflow_add-used t c =
    let l = c.loop-at in
    let states₀ = c.args.states.now in
    let fits = list-fits c.args.list.now c.args.boost c.requires l.invariant c.occur_at-occurrence.result (omega arith) refl c.occur_at-occurrence.ensures c.passed_on.ensures kept-nothing c.requires.5 (omega arith) (mid_len l.used (length l.states) l.states (omega arith)) c.place-used.auto.states c.place-used.ensures.tree_post in
    omega (arith, fits, c.well_formed)

pub place_list-loop-at-preserved : goal.place_list-loop-at-preserved
place_list-loop-at-preserved t c =
    let l = c.loop-at in
    let states₀ = c.args.states.now in
    let scores : c.from.result ≡ cond (wanted_at is_must c.occur_at-occurrence.result) 1 0 = search rules in
    list-more c.args.list.now c.args.boost c.requires l.invariant c.occur_at-occurrence.result (omega arith) refl c.occur_at-occurrence.ensures c.passed_on.ensures kept-nothing c.requires.5 (omega arith) (mid_len l.used (length l.states) l.states (omega arith)) (post_of l.used (length l.states - l.used) l.states) scores c.place-used.ensures.tree_post

pub place_list-returns-clause-list_post : goal.place_list-returns-clause-list_post
place_list-returns-clause-list_post t c = list-ends c.args.list.now c.args.boost c.requires c.loop-at.invariant (omega arith)

pub place_others-clauses_of-count-requires : goal.place_others-clauses_of-count-requires
place_others-clauses_of-count-requires t c =
    others-known (occur_number c.args.occurrence) c.requires (found c.args.records.now)

pub place_others-place_list-requires : goal.place_others-place_list-requires
place_others-place_list-requires t c =
    (omega (arith, c.decreases), others-listed (occur_number c.args.occurrence) c.requires (found c.args.records.now) (take c.clauses_of-count.result c.clauses_of-count.new.list) (c.clauses_of-count.ensures.readies_at _ refl))

pub place_others-returns-clause-others_post : goal.place_others-returns-clause-others_post
place_others-returns-clause-others_post t c =
    others-placed (occur_number c.args.occurrence) c.requires (found c.args.records.now) (take c.clauses_of-count.result c.clauses_of-count.new.list) (c.clauses_of-count.ensures.readies_at _ refl) c.place_list.ensures.list_post

pub place_required-group_cost-group-requires : goal.place_required-group_cost-group-requires
place_required-group_cost-group-requires t c =
    required-known c.requires (found c.args.records.now)

pub place_required-required_clauses-count-requires : goal.place_required-required_clauses-count-requires
place_required-required_clauses-count-requires t c =
    required-known c.requires (found c.args.records.now)

pub place_required-no_dearer-before-requires : goal.place_required-no_dearer-before-requires
place_required-no_dearer-before-requires t c =
    let o = c.required_clauses-count in
    required-here c.requires (found c.args.records.now) (take o.result o.new.list) o.ensures.readies_at

pub place_required-place_list-group_at-requires : goal.place_required-place_list-group_at-requires
place_required-place_list-group_at-requires t c =
    let o = c.required_clauses-count in
    let list = take o.result o.new.list in
    let n = c.no_dearer-before.result in
    (omega (arith, c.decreases), required-first c.requires (found c.args.records.now) list o.ensures.readies_at n refl)

-- the part before the group is within the words
before : (t : _) (c : goal.place_required-After-place_list-group_at t) → c.place_list-group_at.result ≤ length c.place_list-group_at.new.states
before t c =
    let o = c.required_clauses-count in
    let list = take o.result o.new.list in
    let n = c.no_dearer-before.result in
    let p = c.place_list-group_at in
    required-within c.requires (found c.args.records.now) list o.ensures.readies_at n refl p.auto.states p.ensures.list_post

pub place_required-offset_bounds-states-group_at : goal.place_required-offset_bounds-states-group_at
place_required-offset_bounds-states-group_at t c = omega (arith, before t (goal.at.place_required-offset_bounds-states-group_at t c).After-place_list-group_at, c.place_list-group_at.auto.states, c.well_formed)

pub place_required-slice_bounds-place_list-count : goal.place_required-slice_bounds-place_list-count
place_required-slice_bounds-place_list-count t c = before t (goal.at.place_required-slice_bounds-place_list-count t c).After-place_list-group_at

pub place_required-slice_bounds-place_list-start : goal.place_required-slice_bounds-place_list-start
place_required-slice_bounds-place_list-start t c = before t (goal.at.place_required-slice_bounds-place_list-start t c).After-place_list-group_at

pub place_required-place_list-rest-requires : goal.place_required-place_list-rest-requires
place_required-place_list-rest-requires t c =
    let o = c.required_clauses-count in
    let list = take o.result o.new.list in
    let n = c.no_dearer-before.result in
    let p = c.place_list-group_at in
    let part = mid_len p.result (length p.new.states) p.new.states (omega arith) in
    (omega (arith, c.decreases), required-second c.requires (found c.args.records.now) list o.ensures.readies_at n refl p.auto.states p.ensures.list_post (from-there list n) part)

pub place_required-overflow_add-result : goal.place_required-overflow_add-result
place_required-overflow_add-result t c =
    let o = c.required_clauses-count in
    let list = take o.result o.new.list in
    let n = c.no_dearer-before.result in
    let p = c.place_list-group_at in
    let part = mid_len p.result (length p.new.states) p.new.states (omega arith) in
    let fits = required-fits c.requires (found c.args.records.now) list o.ensures.readies_at n refl p.auto.states p.ensures.list_post (from-there list n) part c.place_list-rest.ensures.list_post c.place_list-rest.auto.states in
    omega (arith, fits, p.auto.states, c.well_formed)

pub place_required-returns-clause-required_post : goal.place_required-returns-clause-required_post
place_required-returns-clause-required_post t c =
    let o = c.required_clauses-count in
    let list = take o.result o.new.list in
    let n = c.no_dearer-before.result in
    let p = c.place_list-group_at in
    let part = mid_len p.result (length p.new.states) p.new.states (omega arith) in
    required-placed c.requires (found c.args.records.now) list o.ensures.readies_at n refl p.auto.states p.ensures.list_post (from-there list n) part c.place_list-rest.ensures.list_post c.group_cost-group.result c.group_cost-group.ensures c.no_dearer-before.ensures.0 (post_of p.result (length p.new.states - p.result) p.new.states)
