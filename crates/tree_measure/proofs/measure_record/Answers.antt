-- Kind by kind, what is found of the record's tree; ConstantScore and Boost measure as their child does.
use Rattle.std.proofs.Common.{◌≡◌, ℕ, ◌+◌, ◌≤◌, ◌⊎◌, inl, inr, sym, ◌∙◌, ap, arith, rules}
use Rattle.index.specs.IndexOf.{index_of}
use Rattle.tree_weight.proofs.Measures.{child-here, range-measured, all-measured, constant-measured, boost-measured, none-measured}
use Rattle.meaning.specs.Query.{record_kind}
use Rattle.query.specs.Kinds.{kind_number}
use Rattle.query.specs.declared.kinds.Kind.{Kind}
use Rattle.query.specs.declared.kinds.Kind.TheVariants.{ConstantScore, Boost, MatchNone, PhraseTerm}
use Rattle.tree_measure.specs.Measures.{nexts_measured, presents_measured, costs_measured}
use Rattle.tree_measure.proofs.Arrays.{next-at, present-at, cost_at, count-at}
use Rattle.tree_measure.proofs.measure_record.Goals as goal

six_or_seven : (n : ℕ) (kind : Kind) → n ≡ kind_number kind → (kind ≡ ConstantScore) ⊎ (kind ≡ Boost) → (n ≡ 6) ⊎ (n ≡ 7)
six_or_seven n kind is (inl e) = inl (is ∙ ap kind_number e)
six_or_seven n kind is (inr e) = inr (is ∙ ap kind_number e)

past_seven : (n : ℕ) (kind : Kind) → n ≡ kind_number kind → (kind ≡ MatchNone) ⊎ (kind ≡ PhraseTerm) → 8 ≤ n
past_seven n kind is (inl e) = let f = is ∙ ap kind_number e in omega (arith, f)
past_seven n kind is (inr e) = let f = is ∙ ap kind_number e in omega (arith, f)

pub bounds-measures-at : goal.bounds-measures-at
bounds-measures-at c =
    let h = child-here c.args.query.now c.args.at c.requires.asks.records-right c.requires.held.0.here (six_or_seven (record_kind c.args.query.now c.args.at) _ c.in-Some.ensures c.in-ConstantScore.is) in
    let long = c.requires.held.0.long in
    omega (arith, h, long)

pub returns-in-Range : goal.returns-in-Range
returns-in-Range c =
    let kind : record_kind c.args.query.now c.args.at ≡ 4 = search rules in
    λ k D e. range-measured (index_of c.args.lent.now) c.args.query.now k c.args.at D e _ kind (sym (count-at c.args.listed.now c.args.at) ∙ c.requires.counted c.args.at c.requires.held.0.here kind) (omega arith)

pub returns-in-MatchAll : goal.returns-in-MatchAll
returns-in-MatchAll c =
    let kind : record_kind c.args.query.now c.args.at ≡ 5 = search rules in
    let few = c.requires.asks.accepted.documents in
    λ k D e. all-measured (index_of c.args.lent.now) c.args.query.now k c.args.at D e kind (omega (arith, few))

pub returns-in-ConstantScore : goal.returns-in-ConstantScore
returns-in-ConstantScore c =
    let ms = c.args.measures.now in
    let q = c.args.query.now in
    let at = c.args.at in
    let ix = index_of c.args.lent.now in
    let m = c.requires.measured in
    λ k D e. elim (six_or_seven (record_kind q at) _ c.in-Some.ensures c.in-ConstantScore.is) [
      | inl kind ↦ constant-measured ix q k at D e (nexts_measured ms) (presents_measured ms) (costs_measured ms) _ _ _ m (sym (next-at ms (at + 1))) (sym (present-at ms (at + 1))) (sym (cost_at ms (at + 1))) kind
      | inr kind ↦ boost-measured ix q k at D e (nexts_measured ms) (presents_measured ms) (costs_measured ms) _ _ _ m (sym (next-at ms (at + 1))) (sym (present-at ms (at + 1))) (sym (cost_at ms (at + 1))) kind
    ]

pub returns-in_default : goal.returns-in_default
returns-in_default c =
    λ k D e. rw c.nothing.ensures (none-measured (index_of c.args.lent.now) c.args.query.now k c.args.at D e (λ f. omega (arith, f, c.in_default.ensures)) (λ f. omega (arith, f, c.in_default.ensures)) (λ f. omega (arith, f, c.in_default.ensures)) (λ f. omega (arith, f, c.in_default.ensures)) (λ f. omega (arith, f, c.in_default.ensures)) (λ f. omega (arith, f, c.in_default.ensures)) (λ f. omega (arith, f, c.in_default.ensures)))

pub returns-in-MatchNone : goal.returns-in-MatchNone
returns-in-MatchNone c =
    let past : 8 ≤ record_kind c.args.query.now c.args.at = past_seven (record_kind c.args.query.now c.args.at) _ c.in-Some.ensures c.in-MatchNone.is in
    λ k D e. rw c.nothing-in-MatchNone.ensures (none-measured (index_of c.args.lent.now) c.args.query.now k c.args.at D e (λ f. omega (arith, f, past)) (λ f. omega (arith, f, past)) (λ f. omega (arith, f, past)) (λ f. omega (arith, f, past)) (λ f. omega (arith, f, past)) (λ f. omega (arith, f, past)) (λ f. omega (arith, f, past)))
