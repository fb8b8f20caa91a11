-- The words are those of a state with the leaf's run, and the score that is kept or the weight.
use Rattle.std.proofs.Common.{◌≡◌, Bool, cond, ◌^◌, ◌<◌, sym, ap, subst, arith, rules}
use Rattle.std.specs.Prelude.{Float, is_some}
use lib.Dec.{T}
use lib.Ieee.{binary32, to_bits}
use Rattle.meaning.specs.Lent.{leaf_count}
use Rattle.index.specs.IndexOf.{index_of}
use Rattle.query.proofs.Accepted.{term-leaf}
use Rattle.ieee754.specs.Nonneg.{AtMost}
use Rattle.ieee754.proofs.Bounds.{atmost-number}
use Rattle.tree_words.specs.Placed.{kept_score}
use Rattle.tree_words.proofs.Idf.{idf-small}
use Rattle.tree_words.proofs.Norms.{leaf-read, field-known}
use Rattle.tree_words.proofs.Placing.{placed-term, score-is}
use Rattle.tree_words.proofs.Weighing.{term-there, term-small}
use Rattle.tree_words.proofs.Zeros.{zeros-are}
use Rattle.tree_words.proofs.place.place_term.Goals.{After-value-leaf, After-scored_by-score}
use Rattle.tree_words.proofs.place.place_term.Goals as goal

-- its leaf is there, and what it scores by is small
there : (c : After-value-leaf) → c.value-leaf.result < leaf_count (index_of c.args.records.now.lent.now)
there c =
    let h = c.requires.at_in_bounds in
    rw c.value-leaf.ensures (term-leaf (index_of c.args.records.now.lent.now) c.args.records.now.query.now c.requires.asks.values-right c.args.at h.1 h.2)

small : (c : After-scored_by-score) → c.value-leaf.result < leaf_count (index_of c.args.records.now.lent.now) → AtMost (2 ^ 29) c.scored_by-score.result
small c here =
    let h = c.requires.at_in_bounds in
    let ix = index_of c.args.records.now.lent.now in
    let idf = idf-small ix c.value-leaf.result c.idf_of.result c.requires.asks.accepted here c.idf_of.ensures in
    subst (λ (z : Float). AtMost (2 ^ 29) z) (sym c.scored_by-score.ensures) (term-small (is_some c.args.passed.kept) (kept_score c.args.passed.kept) c.args.passed.boost c.idf_of.result h.3 h.4 idf)

pub leaf_at-run-requires : goal.leaf_at-run-requires
leaf_at-run-requires c = there (goal.at.leaf_at-run-requires c).After-value-leaf

pub idf_of-requires : goal.idf_of-requires
idf_of-requires c = (c.requires.asks.accepted, there (goal.at.idf_of-requires c).After-value-leaf)

pub float_to_bits-score : goal.float_to_bits-score
float_to_bits-score c =
    let at = goal.at.float_to_bits-score c in
    atmost-number (small at.After-scored_by-score (there at.After-value-leaf))

pub norms_word-requires : goal.norms_word-requires
norms_word-requires c =
    let a = c.requires.asks in
    (a.accepted, field-known (index_of c.args.records.now.lent.now) c.value-leaf.result c.leaf_at-run.result a.accepted c.leaf_at-run.ensures (there (goal.at.norms_word-requires c).After-value-leaf))

pub returns-clause-placed : goal.returns-clause-placed
returns-clause-placed c =
    let r = c.args.records.now in
    let ix = index_of r.lent.now in
    let h = c.requires.at_in_bounds in
    let leaf = c.value-leaf.result in
    let run = c.leaf_at-run in
    let fixed = is_some c.args.passed.kept in
    let score = c.scored_by-score.result in
    let constant : c.from.result ≡ cond fixed 1 0 = search rules in
    let read = leaf-read ix leaf run.result run.ensures in
    let at = goal.at.returns-clause-placed c in
    let low = small at.After-scored_by-score (there at.After-value-leaf) in
    λ ranges d k D e has.
    rw (term-there ix r.query.now k c.args.at D e h.2 c.args.passed.boost (kept_score c.args.passed.kept) fixed 1 (sym (ap (λ (z : Bool). cond z 1 0) has)) leaf c.idf_of.result score (λ z. omega (arith, z)) c.value-leaf.ensures c.idf_of.ensures c.scored_by-score.ensures)
    (placed-term ix ranges c.args.states.now c.put.new.states d c.args.passed.scores h.0 score (to_bits binary32 score) (score-is score (subst T (sym c.scored_by-score.type_inv) tt) low) fixed leaf c.from.result run.result.first run.result.number run.result.field c.norms_word.result constant read.first-is read.number-is read.field-is c.norms_word.ensures (rw (c.word.ensures, zeros-are c.default.result c.default.ensures) at c.put.ensures))
