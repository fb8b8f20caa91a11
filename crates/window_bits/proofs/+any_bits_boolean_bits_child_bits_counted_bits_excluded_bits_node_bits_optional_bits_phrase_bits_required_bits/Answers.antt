-- A node's documents in the window: a Boolean asks its required children but for phrases, the optional, the prohibited,
-- then the phrases, each a level deeper.
use Rattle.std.proofs.Common.{refl, sym, ap, ◌∙◌, List, ◌++◌, ℕ, ◌-◌, length, get_or, take, drop, arith, rules}
use Rattle.scorer_leaf.specs.Calls.{lists_of}
use Rattle.scorer_leaf.specs.Buffers.{room, other_room}
use Rattle.tree_node.specs.declared.NodeKind.TheVariants.{Boolean}
use Rattle.tree_node.specs.Words.{ChildThere}
use Rattle.tree_node.proofs.Windows.{word-read}
use Rattle.window_bits.proofs.ByKind.{asked-kind, unasked-kind}
use Rattle.window_bits.proofs.Children.{term-answers}
use Rattle.window_bits.proofs.Passes.{pass-through, pass-start, pass-stop, pass-end, pass-there, pass-node, pass-took, pass-skip}
use Rattle.window_bits.proofs.Optionals.{any-start, any-end, any-there, any-node, any-took, count-start, count-end, count-there, count-node, count-took, nothing-asked, one-enough, too-many, counted-enough}
use Rattle.window_bits.proofs.Prohibited.{excluded-start, excluded-stop, excluded-end, excluded-there, excluded-node, excluded-took}
use Rattle.window_bits.proofs.Booleans.{Entry, FirstPass, OptionalAsked, ExcludedAsked, SecondPass, three-length, three-first, words₀, first-pre, words₁, optional-pre, words₂, excluded-pre, words₃, second-pre, boolean-answers}
use Rattle.window_bits.proofs.Nodes.{node-long, node-deep, node-put, node-pre, node-after}
use Rattle.window_planes.proofs.Planes.{count-zeros}
use Rattle.window_bits.proofs.+any_bits_boolean_bits_child_bits_counted_bits_excluded_bits_node_bits_optional_bits_phrase_bits_required_bits.Goals.{any_bits-In-loop-at, counted_bits-In-loop-at, excluded_bits-In-loop-at, required_bits-In-loop-at, boolean_bits-Start, boolean_bits-After-required_bits-r, boolean_bits-After-optional_bits-o, boolean_bits-After-excluded_bits-w, boolean_bits-After-phrase_bits-p}
use Rattle.window_bits.proofs.+any_bits_boolean_bits_child_bits_counted_bits_excluded_bits_node_bits_optional_bits_phrase_bits_required_bits.Goals as goal

-- the child at which a loop stands
any-child : (t : _) (c : goal.any_bits-In-loop-at t) → ChildThere c.loop-at.kids c.loop-at.at
any-child t c = let r = c.requires in any-there (c.loop-at.invariant.1 r.0 r.1 r.2 r.3 r.4.wanted r.5 r.6) c.loop-at-test.true

count-child : (t : _) (c : goal.counted_bits-In-loop-at t) → ChildThere c.loop-at.kids c.loop-at.at
count-child t c = let r = c.requires.parts_pre in count-there (c.loop-at.invariant.1 r.0 r.1 r.2 r.3 r.4.wanted r.5 r.6) c.loop-at-test.true

excluded-child : (t : _) (c : goal.excluded_bits-In-loop-at t) → ChildThere c.loop-at.kids c.loop-at.at
excluded-child t c = let r = c.requires in excluded-there (c.loop-at.invariant.1 r.0 r.1 r.2 r.3 r.4.wanted r.5 r.6) c.loop-at-test.true

pass-child : (t : _) (c : goal.required_bits-In-loop-at t) → ChildThere c.loop-at.kids c.loop-at.at
pass-child t c = let r = c.requires in pass-there (c.loop-at.invariant.1 r.0 r.1 r.2 r.3 r.4.wanted r.5 r.6) c.loop-at-test.true

pub any_bits-loop-at-init : goal.any_bits-loop-at-init
any_bits-loop-at-init t c =
    (search rules, λ n ix places ss u v p. any-start v.sounds v.few p)

pub any_bits-child_at-k-requires : goal.any_bits-child_at-k-requires
any_bits-child_at-k-requires t c = any-child t (goal.at.any_bits-child_at-k-requires t c).In-loop-at

pub any_bits-slice_bounds-child_bits-end : goal.any_bits-slice_bounds-child_bits-end
any_bits-slice_bounds-child_bits-end t c = let h = any-child t (goal.at.any_bits-slice_bounds-child_bits-end t c).In-loop-at in omega arith

pub any_bits-child_bits-requires : goal.any_bits-child_bits-requires
any_bits-child_bits-requires t c =
    let r = c.requires in
    let q = c.loop-at.invariant.1 r.0 r.1 r.2 r.3 r.4.wanted r.5 r.6 in
    (omega arith, any-node q c.loop-at-test.true r.5.lends c.child_at-k.ensures.end_is r.4 c.loop-at.invariant.0)

pub any_bits-bounds-kids-at : goal.any_bits-bounds-kids-at
any_bits-bounds-kids-at t c = let h = any-child t (goal.at.any_bits-bounds-kids-at t c).In-loop-at in omega arith

pub any_bits-loop-at-smaller : goal.any_bits-loop-at-smaller
any_bits-loop-at-smaller t c = let h = any-child t (goal.at.any_bits-loop-at-smaller t c).In-loop-at in omega arith

pub any_bits-loop-at-preserved : goal.any_bits-loop-at-preserved
any_bits-loop-at-preserved t c = (
  search rules,
  λ n ix places ss u v p.
      let q = c.loop-at.invariant.1 n ix places ss u v p in
      any-took c.child_at-k.ensures.end_is v.lends c.child_bits.result c.child_bits.new.states c.child_bits.auto.states refl c.min-next.ensures c.either-w.ensures (c.child_bits.ensures.bits_post n u) q c.loop-at-test.true,
)

pub any_bits-returns-clause-any_post : goal.any_bits-returns-clause-any_post
any_bits-returns-clause-any_post t c =
    λ n ix places ss u v p. any-end (c.loop-at.invariant.1 n ix places ss u v p) c.loop-at-test.false

-- the words of a Boolean's children after its questions
abbrev kids₁ : List ℕ → ℕ → List ℕ → List ℕ
kids₁ kids e x = x ++ drop e kids

abbrev kids₂ : List ℕ → ℕ → ℕ → List ℕ → List ℕ → List ℕ
kids₂ kids e o x v = take e (kids₁ kids e x) ++ (v ++ drop (o - e) (drop e (kids₁ kids e x)))

abbrev kids₃ : List ℕ → ℕ → ℕ → List ℕ → List ℕ → List ℕ → List ℕ
kids₃ kids e o x v z = let l = kids₂ kids e o x v in take o l ++ (z ++ drop (length l - o) (drop o l))

-- what was asked of a Boolean's children, and what each question left
abbrev entry : (t : _) (c : goal.boolean_bits-Start t) → Entry (lists_of c.args.window.now.reader) c.args.kids.now c.args.n.required_end c.args.n.optional_end c.args.n.need c.args.window.now.base c.args.want c.args.depth
entry t c = let r = c.requires in record { n = r.0; ix = r.1; places = r.2; rs = r.3; os = r.4; ps = r.5; small = r.6.small; wanted = r.6.wanted; known = r.7; held = r.8 }

first : (t : _) (c : goal.boolean_bits-After-required_bits-r t) → FirstPass (lists_of c.args.window.now.reader) c.args.buffers.now c.required_bits-r.new.buffers (take c.args.n.required_end c.args.kids.now) c.args.window.now.base c.args.want c.args.depth c.required_bits-r.result.found.bits c.required_bits-r.result.found.next c.required_bits-r.result.skipped c.required_bits-r.new.kids
first t c = let r = c.required_bits-r in record { same_length = r.auto.kids; post = r.ensures.pass_post; same_buffers = r.ensures.same_buffers }

optional : (t : _) (c : goal.boolean_bits-After-optional_bits-o t) → OptionalAsked (lists_of c.args.window.now.reader) c.required_bits-r.new.buffers c.optional_bits-o.new.buffers (take (c.args.n.optional_end - c.args.n.required_end) (drop c.args.n.required_end (kids₁ c.args.kids.now c.args.n.required_end c.required_bits-r.new.kids))) c.args.n.need c.args.window.now.base c.required_bits-r.result.found.bits c.args.depth c.optional_bits-o.result.bits c.optional_bits-o.result.next c.optional_bits-o.new.kids
optional t c = let o = c.optional_bits-o in record { same_length = o.auto.kids; post = o.ensures.optional_post; same_buffers = o.ensures.same_buffers }

excluded : (t : _) (c : goal.boolean_bits-After-excluded_bits-w t) → ExcludedAsked (lists_of c.args.window.now.reader) c.optional_bits-o.new.buffers c.excluded_bits-w.new.buffers (let l = kids₂ c.args.kids.now c.args.n.required_end c.args.n.optional_end c.required_bits-r.new.kids c.optional_bits-o.new.kids in take (length l - c.args.n.optional_end) (drop c.args.n.optional_end l)) c.args.window.now.base c.optional_bits-o.result.bits c.args.depth c.excluded_bits-w.result c.excluded_bits-w.new.kids
excluded t c = let w = c.excluded_bits-w in record { post = w.ensures.excluded_post; same_buffers = w.ensures.same_buffers }

second : (t : _) (c : goal.boolean_bits-After-phrase_bits-p t) → SecondPass (lists_of c.args.window.now.reader) c.excluded_bits-w.new.buffers (take c.args.n.required_end (kids₃ c.args.kids.now c.args.n.required_end c.args.n.optional_end c.required_bits-r.new.kids c.optional_bits-o.new.kids c.excluded_bits-w.new.kids)) c.required_bits-r.result.skipped c.args.window.now.base c.excluded_bits-w.result c.args.depth c.phrase_bits-p.result.bits c.phrase_bits-p.result.next c.phrase_bits-p.new.kids
second t c = let p = c.phrase_bits-p in record { same_length = p.auto.kids; post = p.ensures.phrases_post }

pub boolean_bits-slice_bounds-required_bits-end : goal.boolean_bits-slice_bounds-required_bits-end
boolean_bits-slice_bounds-required_bits-end t c = let w = words₀ (entry t (goal.at.boolean_bits-slice_bounds-required_bits-end t c).Start) in omega (arith, three-length w, w.first-end)

pub boolean_bits-slice_bounds-required_bits-end-2 : goal.boolean_bits-slice_bounds-required_bits-end-2
boolean_bits-slice_bounds-required_bits-end-2 t c = let w = words₀ (entry t (goal.at.boolean_bits-slice_bounds-required_bits-end-2 t c).Start) in w.first-end ∙ ap length (sym (three-first w))

pub boolean_bits-required_bits-r-requires : goal.boolean_bits-required_bits-r-requires
boolean_bits-required_bits-r-requires t c = (omega arith, first-pre (entry t (goal.at.boolean_bits-required_bits-r-requires t c).Start) c.args.buffers.now c.requires.6.room)

pub boolean_bits-offset_bounds-kids-end : goal.boolean_bits-offset_bounds-kids-end
boolean_bits-offset_bounds-kids-end t c = let w = words₀ (entry t (goal.at.boolean_bits-offset_bounds-kids-end t c).Start) in omega (arith, three-length w, w.first-end)

pub boolean_bits-slice_bounds-optional_bits-end : goal.boolean_bits-slice_bounds-optional_bits-end
boolean_bits-slice_bounds-optional_bits-end t c = let w = words₁ (entry t (goal.at.boolean_bits-slice_bounds-optional_bits-end t c).Start) (first t (goal.at.boolean_bits-slice_bounds-optional_bits-end t c).After-required_bits-r) in omega (arith, three-length w, w.second-end)

pub boolean_bits-optional_bits-o-requires : goal.boolean_bits-optional_bits-o-requires
boolean_bits-optional_bits-o-requires t c = (omega arith, optional-pre (entry t (goal.at.boolean_bits-optional_bits-o-requires t c).Start) (first t (goal.at.boolean_bits-optional_bits-o-requires t c).After-required_bits-r) c.requires.6.room)

pub boolean_bits-offset_bounds-kids-optional_end : goal.boolean_bits-offset_bounds-kids-optional_end
boolean_bits-offset_bounds-kids-optional_end t c = let w = words₀ (entry t (goal.at.boolean_bits-offset_bounds-kids-optional_end t c).Start) in omega (arith, three-length w, w.second-end)

pub boolean_bits-slice_bounds-excluded_bits-count : goal.boolean_bits-slice_bounds-excluded_bits-count
boolean_bits-slice_bounds-excluded_bits-count t c = let w = words₂ (entry t (goal.at.boolean_bits-slice_bounds-excluded_bits-count t c).Start) (first t (goal.at.boolean_bits-slice_bounds-excluded_bits-count t c).After-required_bits-r) (optional t (goal.at.boolean_bits-slice_bounds-excluded_bits-count t c).After-optional_bits-o) refl in omega (arith, three-length w, w.second-end)

pub boolean_bits-slice_bounds-excluded_bits-start : goal.boolean_bits-slice_bounds-excluded_bits-start
boolean_bits-slice_bounds-excluded_bits-start t c = let w = words₂ (entry t (goal.at.boolean_bits-slice_bounds-excluded_bits-start t c).Start) (first t (goal.at.boolean_bits-slice_bounds-excluded_bits-start t c).After-required_bits-r) (optional t (goal.at.boolean_bits-slice_bounds-excluded_bits-start t c).After-optional_bits-o) refl in omega (arith, three-length w, w.second-end)

pub boolean_bits-excluded_bits-w-requires : goal.boolean_bits-excluded_bits-w-requires
boolean_bits-excluded_bits-w-requires t c = (omega arith, excluded-pre (entry t (goal.at.boolean_bits-excluded_bits-w-requires t c).Start) (first t (goal.at.boolean_bits-excluded_bits-w-requires t c).After-required_bits-r) (optional t (goal.at.boolean_bits-excluded_bits-w-requires t c).After-optional_bits-o) refl c.requires.6.room)

pub boolean_bits-slice_bounds-phrase_bits-end : goal.boolean_bits-slice_bounds-phrase_bits-end
boolean_bits-slice_bounds-phrase_bits-end t c = let w = words₃ (entry t (goal.at.boolean_bits-slice_bounds-phrase_bits-end t c).Start) (first t (goal.at.boolean_bits-slice_bounds-phrase_bits-end t c).After-required_bits-r) (optional t (goal.at.boolean_bits-slice_bounds-phrase_bits-end t c).After-optional_bits-o) refl (excluded t (goal.at.boolean_bits-slice_bounds-phrase_bits-end t c).After-excluded_bits-w) refl in omega (arith, three-length w, w.first-end)

pub boolean_bits-slice_bounds-phrase_bits-end-2 : goal.boolean_bits-slice_bounds-phrase_bits-end-2
boolean_bits-slice_bounds-phrase_bits-end-2 t c = let w = words₃ (entry t (goal.at.boolean_bits-slice_bounds-phrase_bits-end-2 t c).Start) (first t (goal.at.boolean_bits-slice_bounds-phrase_bits-end-2 t c).After-required_bits-r) (optional t (goal.at.boolean_bits-slice_bounds-phrase_bits-end-2 t c).After-optional_bits-o) refl (excluded t (goal.at.boolean_bits-slice_bounds-phrase_bits-end-2 t c).After-excluded_bits-w) refl in w.first-end ∙ ap length (sym (three-first w))

pub boolean_bits-phrase_bits-p-requires : goal.boolean_bits-phrase_bits-p-requires
boolean_bits-phrase_bits-p-requires t c = (omega arith, second-pre (entry t (goal.at.boolean_bits-phrase_bits-p-requires t c).Start) (first t (goal.at.boolean_bits-phrase_bits-p-requires t c).After-required_bits-r) (optional t (goal.at.boolean_bits-phrase_bits-p-requires t c).After-optional_bits-o) refl (excluded t (goal.at.boolean_bits-phrase_bits-p-requires t c).After-excluded_bits-w) refl c.requires.6.room)

pub boolean_bits-returns-clause-boolean_post : goal.boolean_bits-returns-clause-boolean_post
boolean_bits-returns-clause-boolean_post t c =
    λ n ix places rs os ps u v p.
    let s : Entry (lists_of c.args.window.now.reader) c.args.kids.now c.args.n.required_end c.args.n.optional_end c.args.n.need c.args.window.now.base c.args.want c.args.depth = record { n = n; ix = ix; places = places; rs = rs; os = os; ps = ps; small = c.requires.6.small; wanted = u; known = v; held = p } in
    boolean-answers s (first t (goal.at.boolean_bits-returns-clause-boolean_post t c).After-required_bits-r) (optional t (goal.at.boolean_bits-returns-clause-boolean_post t c).After-optional_bits-o) refl (excluded t (goal.at.boolean_bits-returns-clause-boolean_post t c).After-excluded_bits-w) refl (second t (goal.at.boolean_bits-returns-clause-boolean_post t c).After-phrase_bits-p) c.max.ensures c.max-2.ensures

pub child_bits-bounds-states-0 : goal.child_bits-bounds-states-0
child_bits-bounds-states-0 t c =
    let r = c.requires in
    omega (arith, node-long r.1.3 r.1.7)

pub child_bits-returns-in-Term-clause-bits_post : goal.child_bits-returns-in-Term-clause-bits_post
child_bits-returns-in-Term-clause-bits_post t c =
    λ n u. term-answers c.args.want c.term_bits.new.states c.both.ensures c.term_bits.ensures

pub counted_bits-loop-at-init : goal.counted_bits-loop-at-init
counted_bits-loop-at-init t c =
    (search rules, λ n ix places ss u v p. count-start v.sounds v.few p c.requires.empty.0 c.requires.empty.1)

pub counted_bits-child_at-k-requires : goal.counted_bits-child_at-k-requires
counted_bits-child_at-k-requires t c = count-child t (goal.at.counted_bits-child_at-k-requires t c).In-loop-at

pub counted_bits-slice_bounds-child_bits-end : goal.counted_bits-slice_bounds-child_bits-end
counted_bits-slice_bounds-child_bits-end t c = let h = count-child t (goal.at.counted_bits-slice_bounds-child_bits-end t c).In-loop-at in omega arith

pub counted_bits-child_bits-child-requires : goal.counted_bits-child_bits-child-requires
counted_bits-child_bits-child-requires t c =
    let r = c.requires.parts_pre in
    let q = c.loop-at.invariant.1 r.0 r.1 r.2 r.3 r.4.wanted r.5 r.6 in
    (omega arith, count-node q c.loop-at-test.true r.5.lends c.child_at-k.ensures.end_is r.4 c.loop-at.invariant.0)

pub counted_bits-bounds-kids-at : goal.counted_bits-bounds-kids-at
counted_bits-bounds-kids-at t c = let h = count-child t (goal.at.counted_bits-bounds-kids-at t c).In-loop-at in omega arith

pub counted_bits-loop-at-smaller : goal.counted_bits-loop-at-smaller
counted_bits-loop-at-smaller t c = let h = count-child t (goal.at.counted_bits-loop-at-smaller t c).In-loop-at in omega arith

pub counted_bits-loop-at-preserved : goal.counted_bits-loop-at-preserved
counted_bits-loop-at-preserved t c = (
  search rules,
  λ n ix places ss u v p.
      let q = c.loop-at.invariant.1 n ix places ss u v p in
      count-took v.few c.child_at-k.ensures.end_is v.lends c.child_bits-child.result c.child_bits-child.new.states c.counted-carry.result c.child_bits-child.auto.states refl c.min-next.ensures c.counted-carry.auto.planes c.counted-carry.ensures (c.child_bits-child.ensures.bits_post n u) q c.loop-at-test.true,
)

pub counted_bits-returns-clause-count_post : goal.counted_bits-returns-clause-count_post
counted_bits-returns-clause-count_post t c =
    λ n ix places ss u v p. count-end (c.loop-at.invariant.1 n ix places ss u v p) c.loop-at-test.false

pub excluded_bits-loop-at-init : goal.excluded_bits-loop-at-init
excluded_bits-loop-at-init t c =
    (search rules, λ n ix places ss u v p. excluded-start v.sounds v.few p)

pub excluded_bits-returns-then-w-eq0-clause-excluded_post : goal.excluded_bits-returns-then-w-eq0-clause-excluded_post
excluded_bits-returns-then-w-eq0-clause-excluded_post t c =
    λ n ix places ss u v p. excluded-stop (c.loop-at.invariant.1 n ix places ss u v p) c.if-w-eq0.true

pub excluded_bits-child_at-k-requires : goal.excluded_bits-child_at-k-requires
excluded_bits-child_at-k-requires t c = excluded-child t (goal.at.excluded_bits-child_at-k-requires t c).In-loop-at

pub excluded_bits-slice_bounds-child_bits-end : goal.excluded_bits-slice_bounds-child_bits-end
excluded_bits-slice_bounds-child_bits-end t c = let h = excluded-child t (goal.at.excluded_bits-slice_bounds-child_bits-end t c).In-loop-at in omega arith

pub excluded_bits-child_bits-requires : goal.excluded_bits-child_bits-requires
excluded_bits-child_bits-requires t c =
    let r = c.requires in
    let q = c.loop-at.invariant.1 r.0 r.1 r.2 r.3 r.4.wanted r.5 r.6 in
    (omega arith, excluded-node q c.loop-at-test.true r.5.lends c.child_at-k.ensures.end_is r.4 c.loop-at.invariant.0)

pub excluded_bits-loop-at-smaller : goal.excluded_bits-loop-at-smaller
excluded_bits-loop-at-smaller t c = let h = excluded-child t (goal.at.excluded_bits-loop-at-smaller t c).In-loop-at in omega arith

pub excluded_bits-loop-at-preserved : goal.excluded_bits-loop-at-preserved
excluded_bits-loop-at-preserved t c = (
  search rules,
  λ n ix places ss u v p.
      let q = c.loop-at.invariant.1 n ix places ss u v p in
      excluded-took c.child_at-k.ensures.end_is v.lends c.child_bits.result c.child_bits.new.states c.child_bits.auto.states refl c.without-w.ensures (c.child_bits.ensures.bits_post n (λ p' b t'. u p' b (q.left.within p' b t'))) q c.loop-at-test.true,
)

pub excluded_bits-returns-clause-excluded_post : goal.excluded_bits-returns-clause-excluded_post
excluded_bits-returns-clause-excluded_post t c =
    λ n ix places ss u v p. excluded-end (c.loop-at.invariant.1 n ix places ss u v p) c.loop-at-test.false

pub node_bits-bounds-states-0 : goal.node_bits-bounds-states-0
node_bits-bounds-states-0 t c =
    let r = c.requires in
    omega (arith, node-long r.1.3 r.1.7)

pub node_bits-boolean_at-n-requires : goal.node_bits-boolean_at-n-requires
node_bits-boolean_at-n-requires t c =
    let r = c.requires in
    node-long r.1.3 r.1.7

pub node_bits-slice_bounds-boolean_bits-count : goal.node_bits-slice_bounds-boolean_bits-count
node_bits-slice_bounds-boolean_bits-count t c =
    let r = c.requires in
    omega (arith, node-long r.1.3 r.1.7)

pub node_bits-slice_bounds-boolean_bits-start : goal.node_bits-slice_bounds-boolean_bits-start
node_bits-slice_bounds-boolean_bits-start t c =
    let r = c.requires in
    omega (arith, node-long r.1.3 r.1.7)

pub node_bits-overflow_sub-depth : goal.node_bits-overflow_sub-depth
node_bits-overflow_sub-depth t c =
    let r = c.requires in
    node-deep r.1.3 r.1.7 (word-read _ Boolean c.in-Boolean.ensures refl)

pub node_bits-boolean_bits-f-requires : goal.node_bits-boolean_bits-f-requires
node_bits-boolean_bits-f-requires t c =
    let r = c.requires in
    let d = node-deep r.1.3 r.1.7 (word-read _ Boolean c.in-Boolean.ensures refl) in
    (omega arith, node-pre c.boolean_at-n.ensures.need-is c.boolean_at-n.ensures.required-end c.boolean_at-n.ensures.optional-end (record { small = r.0; wanted = r.1.5; room = r.1.6 }) r.1.3 r.1.7 (word-read _ Boolean c.in-Boolean.ensures refl))

pub node_bits-put-requires : goal.node_bits-put-requires
node_bits-put-requires t c =
    let r = c.requires in
    node-put r.1.3 r.1.7 (word-read _ Boolean c.in-Boolean.ensures refl) c.boolean_bits-f.new.kids

pub node_bits-returns-in-Boolean-clause-bits_post : goal.node_bits-returns-in-Boolean-clause-bits_post
node_bits-returns-in-Boolean-clause-bits_post t c =
    λ n wanted ix places s scores m. node-after c.boolean_at-n.ensures.need-is c.boolean_at-n.ensures.required-end c.boolean_at-n.ensures.optional-end (room c.args.buffers.now) (other_room c.args.buffers.now) c.args.want wanted s m (word-read _ Boolean c.in-Boolean.ensures refl) c.boolean_bits-f.result.bits c.boolean_bits-f.result.next c.boolean_bits-f.new.kids c.put.new.states c.boolean_bits-f.ensures.boolean_post c.put.ensures

pub optional_bits-returns-then-need-eq0-clause-optional_post : goal.optional_bits-returns-then-need-eq0-clause-optional_post
optional_bits-returns-then-need-eq0-clause-optional_post t c =
    λ n ix places ss u v p. rw c.end.ensures (nothing-asked ix c.args.window.now.reader.ranges.now c.args.depth c.args.window.now.base c.args.want ss c.args.kids.now c.args.need c.requires.4.small c.then-need-eq0.either p)

pub optional_bits-returns-then-need-eq1-clause-optional_post : goal.optional_bits-returns-then-need-eq1-clause-optional_post
optional_bits-returns-then-need-eq1-clause-optional_post t c =
    λ n ix places ss u v p. one-enough ix c.args.window.now.reader.ranges.now c.args.depth c.args.window.now.base c.args.want ss c.any_bits.new.kids c.args.need c.if-need-eq1.true c.any_bits.result.bits c.any_bits.result.next (c.any_bits.ensures.any_post n ix places ss u v p)

pub optional_bits-returns-then-need-gt-MOST-clause-optional_post : goal.optional_bits-returns-then-need-gt-MOST-clause-optional_post
optional_bits-returns-then-need-gt-MOST-clause-optional_post t c =
    λ n ix places ss u v p. rw c.end-then-need-gt-MOST.ensures (too-many ix c.args.window.now.reader.ranges.now c.args.depth c.args.window.now.base c.args.want ss c.args.kids.now c.args.need c.requires.4.small (omega (arith, v.few, c.if-need-gt-MOST.true)) p)

pub optional_bits-counted_bits-next-requires : goal.optional_bits-counted_bits-next-requires
optional_bits-counted_bits-next-requires t c =
    (omega arith, ((refl, λ p. count-zeros p 8), c.requires))

pub optional_bits-returns-clause-optional_post : goal.optional_bits-returns-clause-optional_post
optional_bits-returns-clause-optional_post t c =
    λ n ix places ss u v p. counted-enough ix c.args.window.now.reader.ranges.now c.args.depth c.args.window.now.base c.args.want ss c.counted_bits-next.new.kids c.args.need (omega (arith, c.if-need-eq0.false)) c.counted_bits-next.new.planes c.above.result c.counted_bits-next.result (c.counted_bits-next.ensures.count_post n ix places ss u v p) c.above.ensures

pub phrase_bits-returns-then-skipped-clause-phrases_post : goal.phrase_bits-returns-then-skipped-clause-phrases_post
phrase_bits-returns-then-skipped-clause-phrases_post t c =
    λ n ix places ss u v p h. let r = c.required_bits-p.ensures.pass_post n ix places ss u v p in (r.0, r.1)

pub phrase_bits-returns-clause-phrases_post : goal.phrase_bits-returns-clause-phrases_post
phrase_bits-returns-clause-phrases_post t c =
    λ n ix places ss u v p h. rw c.end.ensures (pass-through ix c.args.window.now.reader.ranges.now c.args.depth c.args.window.now.base c.args.want ss c.args.kids.now c.requires.4.small (h c.if-skipped.false) p)

pub required_bits-loop-at-init : goal.required_bits-loop-at-init
required_bits-loop-at-init t c =
    (search rules, λ n ix places ss u v p. rw c.end-next.ensures (pass-start c.requires.4.small v.sounds v.few p))

pub required_bits-returns-then-w-eq0-clause-pass_post : goal.required_bits-returns-then-w-eq0-clause-pass_post
required_bits-returns-then-w-eq0-clause-pass_post t c =
    λ n ix places ss u v p. let r = pass-stop (c.loop-at.invariant.1 n ix places ss u v p) c.if-w-eq0.true in (r.0, r.1, λ z. r.2)

pub required_bits-child_at-k-requires : goal.required_bits-child_at-k-requires
required_bits-child_at-k-requires t c = pass-child t (goal.at.required_bits-child_at-k-requires t c).In-loop-at

pub required_bits-slice_bounds-child_bits-end : goal.required_bits-slice_bounds-child_bits-end
required_bits-slice_bounds-child_bits-end t c = let h = pass-child t (goal.at.required_bits-slice_bounds-child_bits-end t c).In-loop-at in omega arith

pub required_bits-child_bits-w-requires : goal.required_bits-child_bits-w-requires
required_bits-child_bits-w-requires t c =
    let r = c.requires in
    let q = c.loop-at.invariant.1 r.0 r.1 r.2 r.3 r.4.wanted r.5 r.6 in
    let h = asked-kind c.args.asks c.child_at-k.result.kind (get_or c.loop-at.kids c.loop-at.at 0) c.takes.result c.child_at-k.ensures.kind-is c.takes.ensures c.if-takes.true in
    (omega arith, pass-node c.child_at-k.ensures.end_is r.5.lends q c.loop-at-test.true h r.4 c.loop-at.invariant.0 _ q.left.within)

pub required_bits-bounds-kids-at : goal.required_bits-bounds-kids-at
required_bits-bounds-kids-at t c = let h = pass-child t (goal.at.required_bits-bounds-kids-at t c).In-loop-at in omega arith

pub required_bits-loop-at-smaller-then-takes : goal.required_bits-loop-at-smaller-then-takes
required_bits-loop-at-smaller-then-takes t c = let h = pass-child t (goal.at.required_bits-loop-at-smaller-then-takes t c).In-loop-at in omega arith

pub required_bits-loop-at-preserved-then-takes : goal.required_bits-loop-at-preserved-then-takes
required_bits-loop-at-preserved-then-takes t c = (
  search rules,
  λ n ix places ss u v p.
      let q = c.loop-at.invariant.1 n ix places ss u v p in
      let h = asked-kind c.args.asks c.child_at-k.result.kind (get_or c.loop-at.kids c.loop-at.at 0) c.takes.result c.child_at-k.ensures.kind-is c.takes.ensures c.if-takes.true in
      pass-took c.child_at-k.ensures.end_is v.lends c.child_bits-w.result c.child_bits-w.new.states c.child_bits-w.auto.states refl c.max-next.ensures (c.child_bits-w.ensures.bits_post n (λ p' b t. u p' b (q.left.within p' b t))) q c.loop-at-test.true h,
)

pub required_bits-loop-at-smaller : goal.required_bits-loop-at-smaller
required_bits-loop-at-smaller t c = let h = pass-child t (goal.at.required_bits-loop-at-smaller t c).In-loop-at in omega arith

pub required_bits-loop-at-preserved : goal.required_bits-loop-at-preserved
required_bits-loop-at-preserved t c = (
  search rules,
  λ n ix places ss u v p.
      let h = unasked-kind c.args.asks c.child_at-k.result.kind (get_or c.loop-at.kids c.loop-at.at 0) c.takes.result c.child_at-k.ensures.kind-is c.takes.ensures c.if-takes.false in
      pass-skip c.child_at-k.ensures.end_is (c.loop-at.invariant.1 n ix places ss u v p) c.loop-at-test.true h,
)

pub required_bits-returns-clause-pass_post : goal.required_bits-returns-clause-pass_post
required_bits-returns-clause-pass_post t c =
    λ n ix places ss u v p. pass-end (c.loop-at.invariant.1 n ix places ss u v p) c.loop-at-test.false
