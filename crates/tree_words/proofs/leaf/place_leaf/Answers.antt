-- Kind by kind, the words of the leaf's part; a tree without a scorer, or of no known kind, matches nothing.
use Rattle.std.proofs.Common.{◌≡◌, ◌≤◌, ◌⊎◌, inl, inr, Bool, cond, ℕ, refl, ◌∙◌, ap, subst, length, get_or, arith}
use Rattle.std.specs.Prelude.{is_some}
use Rattle.meaning.specs.Query.{record_kind}
use Rattle.index.specs.IndexOf.{index_of}
use Rattle.query.specs.Kinds.{kind_number}
use Rattle.query.specs.declared.kinds.Kind.{Kind}
use Rattle.query.specs.declared.kinds.Kind.TheVariants.{Boolean, ConstantScore, Boost, MatchNone, PhraseTerm}
use Rattle.tree_weight.specs.Measured.{RangeListed}
use Rattle.tree_measure.proofs.Arrays.{present-at, place-at}
use Rattle.tree_words.specs.Placed.{kept_score}
use Rattle.tree_words.specs.Prepared.{given_with}
use Rattle.tree_words.proofs.AtRecord.{tree-with, at_here, terms-room, absent-weighed, scorer-here, range-weighed, all-weighed, none-weighed}
use Rattle.tree_words.proofs.Kept.{kept-or}
use Rattle.tree_words.proofs.leaf.place_leaf.Goals as goal

pub bounds-records-at : goal.bounds-records-at
bounds-records-at c =
    (tree-with c.args.records.now c.requires.asked.0 c.requires.asked.1 c.args.at c.args.passed.kept c.args.passed.boost (length c.args.states.now) c.requires.asked.2 c.requires.asked.3).measured

pub offset_bounds-records-at : goal.offset_bounds-records-at
offset_bounds-records-at c =
    let h = tree-with c.args.records.now c.requires.asked.0 c.requires.asked.1 c.args.at c.args.passed.kept c.args.passed.boost (length c.args.states.now) c.requires.asked.2 c.requires.asked.3 in omega (arith, h.here, h.few)

pub place_nothing-requires : goal.place_nothing-requires
place_nothing-requires c =
    (tree-with c.args.records.now c.requires.asked.0 c.requires.asked.1 c.args.at c.args.passed.kept c.args.passed.boost (length c.args.states.now) c.requires.asked.2 c.requires.asked.3).room

pub returns-then-not-records-at-clause-placed : goal.returns-then-not-records-at-clause-placed
returns-then-not-records-at-clause-placed c =
    let n = c.requires.kind in
    let none = present-at c.args.records.now.measures.now c.args.at ∙ ap (λ (b : Bool). cond b 1 0) c.if-not-records-at.true in
    λ nexts costs depth ranges k D p a h. rw (absent-weighed (given_with c.args.records.now nexts costs) ranges k c.args.at D (is_some c.args.passed.kept) (kept_score c.args.passed.kept) c.args.passed.boost (length c.args.states.now) p a none n.0 n.1 n.2) (c.place_nothing.ensures.placed (index_of c.args.records.now.lent.now) ranges depth)

pub kind_at-requires : goal.kind_at-requires
kind_at-requires c =
    (tree-with c.args.records.now c.requires.asked.0 c.requires.asked.1 c.args.at c.args.passed.kept c.args.passed.boost (length c.args.states.now) c.requires.asked.2 c.requires.asked.3).here

pub place_nothing-requires-in_default : goal.place_nothing-requires-in_default
place_nothing-requires-in_default c = (tree-with c.args.records.now c.requires.asked.0 c.requires.asked.1 c.args.at c.args.passed.kept c.args.passed.boost (length c.args.states.now) c.requires.asked.2 c.requires.asked.3).room

pub returns-in_default-clause-placed : goal.returns-in_default-clause-placed
returns-in_default-clause-placed c =
    let n = c.requires.kind in
    let other = c.in_default.ensures in
    λ nexts costs depth ranges k D p a h. rw (none-weighed (given_with c.args.records.now nexts costs) ranges k c.args.at D (is_some c.args.passed.kept) (kept_score c.args.passed.kept) c.args.passed.boost (length c.args.states.now) p a (λ e. omega (arith, e, other)) (λ e. omega (arith, e, other)) n.0 (λ e. omega (arith, e, other)) (λ e. omega (arith, e, other)) n.1 n.2) (c.place_nothing-in_default.ensures.placed (index_of c.args.records.now.lent.now) ranges depth)

pub place_term-requires : goal.place_term-requires
place_term-requires c =
    let h = tree-with c.args.records.now c.requires.asked.0 c.requires.asked.1 c.args.at c.args.passed.kept c.args.passed.boost (length c.args.states.now) c.requires.asked.2 c.requires.asked.3 in
    record { at_in_bounds = (h.room, h.here, c.in-Some.ensures ∙ ap kind_number c.in-Term.is, h.kept-small, h.boost-small); asks = h.asks }

pub returns-in-Term-clause-placed : goal.returns-in-Term-clause-placed
returns-in-Term-clause-placed c =
    λ nexts costs depth ranges k D p a h. c.place_term.ensures.placed ranges depth k D a.decoded (scorer-here (given_with c.args.records.now nexts costs) ranges k c.args.at D (is_some c.args.passed.kept) (kept_score c.args.passed.kept) c.args.passed.boost (length c.args.states.now) p a _ (present-at c.args.records.now.measures.now c.args.at) c.if-not-records-at.false)

pub place_phrase-requires : goal.place_phrase-requires
place_phrase-requires c =
    let nexts = c.requires.asked.0 in
    let costs = c.requires.asked.1 in
    let g = c.requires.asked.3 in
    let h = tree-with c.args.records.now c.requires.asked.0 c.requires.asked.1 c.args.at c.args.passed.kept c.args.passed.boost (length c.args.states.now) c.requires.asked.2 c.requires.asked.3 in
    let kind = c.in-Some.ensures ∙ ap kind_number c.in-Phrase.is in
    let one = present-at c.args.records.now.measures.now c.args.at ∙ ap (λ (b : Bool). cond b 1 0) c.if-not-records-at.false in
    record { at_in_bounds = (terms-room (given_with c.args.records.now nexts costs) g.0 g.1 c.args.at g.2 (is_some c.args.passed.kept) (kept_score c.args.passed.kept) c.args.passed.boost (length c.args.states.now) g.3 g.4 kind one, h.here, kind, h.kept-small, h.boost-small); asks = h.asks }

pub returns-in-Phrase-clause-placed : goal.returns-in-Phrase-clause-placed
returns-in-Phrase-clause-placed c =
    λ nexts costs depth ranges k D p a h. c.place_phrase.ensures.placed ranges depth k D a.decoded (scorer-here (given_with c.args.records.now nexts costs) ranges k c.args.at D (is_some c.args.passed.kept) (kept_score c.args.passed.kept) c.args.passed.boost (length c.args.states.now) p a _ (present-at c.args.records.now.measures.now c.args.at) c.if-not-records-at.false)

pub bounds-records-at-in-Range : goal.bounds-records-at-in-Range
bounds-records-at-in-Range c = (tree-with c.args.records.now c.requires.asked.0 c.requires.asked.1 c.args.at c.args.passed.kept c.args.passed.boost (length c.args.states.now) c.requires.asked.2 c.requires.asked.3).listed

pub place_range-requires : goal.place_range-requires
place_range-requires c = let h = tree-with c.args.records.now c.requires.asked.0 c.requires.asked.1 c.args.at c.args.passed.kept c.args.passed.boost (length c.args.states.now) c.requires.asked.2 c.requires.asked.3 in (h.room, rw c.unwrap_or.ensures h.score-small)

pub returns-in-Range-clause-placed : goal.returns-in-Range-clause-placed
returns-in-Range-clause-placed c =
    let kind = c.in-Some.ensures ∙ ap kind_number c.in-Range.is in
    let ix = index_of c.args.records.now.lent.now in
    let q = c.args.records.now.query.now in
    let at = c.args.at in
    λ nexts costs depth ranges k D p a h. rw (range-weighed (given_with c.args.records.now nexts costs) ranges k c.args.at D (is_some c.args.passed.kept) (kept_score c.args.passed.kept) c.args.passed.boost (length c.args.states.now) p a c.unwrap_or.result kind (c.unwrap_or.ensures ∙ kept-or c.args.passed.kept c.args.passed.boost)) (c.place_range.ensures.placed ix ranges q at (get_or p.counts at 0) depth refl (subst (λ (z : ℕ). RangeListed ix q ranges at z (get_or p.counts at 0)) (place-at c.args.records.now.listed.now at) (p.listed at (at_here (given_with c.args.records.now nexts costs) ranges k c.args.at D (is_some c.args.passed.kept) (kept_score c.args.passed.kept) c.args.passed.boost (length c.args.states.now) p a) kind)))

pub place_everything-requires : goal.place_everything-requires
place_everything-requires c = let h = tree-with c.args.records.now c.requires.asked.0 c.requires.asked.1 c.args.at c.args.passed.kept c.args.passed.boost (length c.args.states.now) c.requires.asked.2 c.requires.asked.3 in (h.room, rw c.unwrap_or-in-MatchAll.ensures h.score-small)

pub returns-in-MatchAll-clause-placed : goal.returns-in-MatchAll-clause-placed
returns-in-MatchAll-clause-placed c =
    let kind = c.in-Some.ensures ∙ ap kind_number c.in-MatchAll.is in
    λ nexts costs depth ranges k D p a h. rw (all-weighed (given_with c.args.records.now nexts costs) ranges k c.args.at D (is_some c.args.passed.kept) (kept_score c.args.passed.kept) c.args.passed.boost (length c.args.states.now) p a c.unwrap_or-in-MatchAll.result kind (c.unwrap_or-in-MatchAll.ensures ∙ kept-or c.args.passed.kept c.args.passed.boost)) (c.place_everything.ensures.placed (index_of c.args.records.now.lent.now) ranges depth)

others : (n : ℕ) (kind : Kind) → n ≡ kind_number kind → (kind ≡ Boolean) ⊎ ((kind ≡ ConstantScore) ⊎ ((kind ≡ Boost) ⊎ ((kind ≡ MatchNone) ⊎ (kind ≡ PhraseTerm)))) → (n ≡ 3) ⊎ (6 ≤ n)
others n kind is (inl e) = inl (is ∙ ap kind_number e)
others n kind is (inr (inl e)) = let f = is ∙ ap kind_number e in inr (omega (arith, f))
others n kind is (inr (inr (inl e))) = let f = is ∙ ap kind_number e in inr (omega (arith, f))
others n kind is (inr (inr (inr (inl e)))) = let f = is ∙ ap kind_number e in inr (omega (arith, f))
others n kind is (inr (inr (inr (inr e)))) = let f = is ∙ ap kind_number e in inr (omega (arith, f))

pub place_nothing-requires-in-Boolean : goal.place_nothing-requires-in-Boolean
place_nothing-requires-in-Boolean c = (tree-with c.args.records.now c.requires.asked.0 c.requires.asked.1 c.args.at c.args.passed.kept c.args.passed.boost (length c.args.states.now) c.requires.asked.2 c.requires.asked.3).room

pub returns-in-Boolean-clause-placed : goal.returns-in-Boolean-clause-placed
returns-in-Boolean-clause-placed c =
    let n = c.requires.kind in
    let past : 6 ≤ record_kind c.args.records.now.query.now c.args.at = elim (others _ _ c.in-Some.ensures c.in-Boolean.is) [
      | inl e ↦ absurd (n.0 e)
      | inr h ↦ h
    ] in
    λ nexts costs depth ranges k D p a h. rw (none-weighed (given_with c.args.records.now nexts costs) ranges k c.args.at D (is_some c.args.passed.kept) (kept_score c.args.passed.kept) c.args.passed.boost (length c.args.states.now) p a (λ e. omega (arith, e, past)) (λ e. omega (arith, e, past)) n.0 (λ e. omega (arith, e, past)) (λ e. omega (arith, e, past)) n.1 n.2) (c.place_nothing-in-Boolean.ensures.placed (index_of c.args.records.now.lent.now) ranges depth)
