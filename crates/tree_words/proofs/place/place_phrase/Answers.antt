-- The record stands before its terms, which are placed first; a phrase's few terms fit the size word.
use Rattle.std.proofs.Common.{◌≡◌, Bool, cond, ℕ, ◌+◌, ◌-◌, ◌*◌, ◌^◌, ◌<◌, refl, sym, ap, subst, length, drop, length-take, length-drop, arith, rules}
use Rattle.std.specs.Prelude.{Float, is_some}
use borrow.Rule.Slice.PartMut.{same_len_mid, post_of, put_mid}
use lib.Dec.{T}
use lib.Ieee.{binary32, to_bits}
use Rattle.meaning.specs.Limits.{node_state_words}
use Rattle.meaning.specs.Lent.{field_count}
use Rattle.index.specs.IndexOf.{index_of}
use Rattle.query.proofs.Accepted.{phrase-right}
use Rattle.tree_weight.proofs.Measures.{TermsHere, terms-here}
use Rattle.tree_weight.specs.State.{words_of}
use Rattle.ieee754.specs.Nonneg.{AtMost}
use Rattle.ieee754.proofs.Bounds.{atmost-number}
use Rattle.tree_words.specs.Placed.{kept_score}
use Rattle.tree_words.proofs.Idf.{phrase-idf-small}
use Rattle.tree_words.proofs.PhraseParts.{phrase_state, placed-phrase}
use Rattle.tree_words.proofs.Placing.{put_same, score-is}
use Rattle.tree_words.proofs.Weighing.{phrase-there, phrase-small}
use Rattle.tree_words.proofs.place.place_phrase.Goals.{Start, After-scored_by-score}
use Rattle.tree_words.proofs.Zeros.{zeros-are}
use Rattle.tree_words.proofs.place.place_phrase.Goals as goal

-- its terms are there, and what it scores by is small
terms : (c : Start) → TermsHere c.args.records.now.query.now c.args.records.now.lent.now.leaves.now c.args.at
terms c =
    let a = c.requires.asks in
    let h = c.requires.at_in_bounds in
    terms-here (index_of c.args.records.now.lent.now) c.args.records.now.query.now c.args.records.now.lent.now.leaves.now c.args.at a.records-right a.values-right h.1 h.2 refl

small : (c : After-scored_by-score) → TermsHere c.args.records.now.query.now c.args.records.now.lent.now.leaves.now c.args.at → AtMost (2 ^ 29) c.scored_by-score.result
small c t =
    let h = c.requires.at_in_bounds in
    let ix = index_of c.args.records.now.lent.now in
    let idf = subst (λ (z : Float). AtMost (2 ^ 11) z) (sym c.phrase_idf.ensures) (phrase-idf-small ix c.args.records.now.query.now c.args.at c.requires.asks.accepted t.few-terms t.leaves-there) in
    subst (λ (z : Float). AtMost (2 ^ 29) z) (sym c.scored_by-score.ensures) (phrase-small (is_some c.args.passed.kept) (kept_score c.args.passed.kept) c.args.passed.boost c.phrase_idf.result h.3 h.4 idf)

-- the size of so few terms is a word
pub overflow_mul-size : goal.overflow_mul-size
overflow_mul-size c = omega (arith, c.children.ensures, (terms (goal.at.overflow_mul-size c).Start).few-terms)

pub overflow_add-size : goal.overflow_add-size
overflow_add-size c = omega (arith, c.children.ensures, (terms (goal.at.overflow_add-size c).Start).few-terms)

pub phrase_idf-requires : goal.phrase_idf-requires
phrase_idf-requires c =
    let t = terms (goal.at.phrase_idf-requires c).Start in
    record { terms_here = (t.room, t.few-terms); accepted = c.requires.asks.accepted; leaves_there = t.leaves-there }

pub place_terms-requires : goal.place_terms-requires
place_terms-requires c =
    let t = terms (goal.at.place_terms-requires c).Start in
    let room = c.requires.at_in_bounds.0 in
    record { at_in_bounds = (rw (length-take, length-drop) (omega (arith, room)), t.room, t.few-terms); accepted = c.requires.asks.accepted; leaves_there = t.leaves-there }

pub norms_word-requires : goal.norms_word-requires
norms_word-requires c =
    let a = c.requires.asks in
    let h = c.requires.at_in_bounds in
    let ix = index_of c.args.records.now.lent.now in
    (a.accepted, subst (λ (z : ℕ). z < field_count ix) (sym c.value-field.ensures) (phrase-right ix c.args.records.now.query.now a.values-right c.args.at h.1 h.2).field-present)

pub float_to_bits-score : goal.float_to_bits-score
float_to_bits-score c =
    let at = goal.at.float_to_bits-score c in
    atmost-number (small at.After-scored_by-score (terms at.Start))

pub returns-clause-placed : goal.returns-clause-placed
returns-clause-placed c =
    let h = c.requires.at_in_bounds in
    let ix = index_of c.args.records.now.lent.now in
    let q = c.args.records.now.query.now in
    let fixed = is_some c.args.passed.kept in
    let score = c.scored_by-score.result in
    let states₀ = c.args.states.now in
    let pt = c.place_terms in
    let out = pt.new.states in
    let post = post_of node_state_words (length states₀ - node_state_words) states₀ in
    let states₁ = put_mid node_state_words (length states₀ - node_state_words) states₀ out in
    let states = c.put.new.states in
    let put = rw (c.word.ensures, zeros-are c.default.result c.default.ensures) at c.put.ensures in
    let size = node_state_words + node_state_words * c.children.result in
    let many = c.children.ensures in
    let room = h.0 in
    let a = length-take (length states₀ - node_state_words) (drop node_state_words states₀) in
    let b = length-drop node_state_words states₀ in
    let lo = pt.ensures.states_len_unchanged in
    let mid = same_len_mid node_state_words (length states₀ - node_state_words) states₀ out lo in
    let whole = put_same (words_of (phrase_state size c.value-field.result c.from.result (to_bits binary32 score) c.args.passed.scores c.norms_word.result)) states₁ states put refl (omega (arith, mid, room)) in
    let constant : c.from.result ≡ cond fixed 1 0 = search rules in
    let at = goal.at.returns-clause-placed c in
    let low = small at.After-scored_by-score (terms at.Start) in
    λ ranges d k D e has.
    rw (phrase-there ix q k c.args.at D e h.2 c.args.passed.boost (kept_score c.args.passed.kept) fixed 1 (sym (ap (λ (z : Bool). cond z 1 0) has)) c.phrase_idf.result score (λ z. omega (arith, z)) c.phrase_idf.ensures c.scored_by-score.ensures)
    (placed-phrase ix ranges q states₀ out post states c.args.at d c.args.passed.scores size score (to_bits binary32 score) (score-is score (subst T (sym c.scored_by-score.type_inv) tt) low) fixed c.from.result c.value-field.result c.norms_word.result (omega (arith, room)) put (omega (arith, room, whole, mid, many)) (ap (λ (z : ℕ). node_state_words + node_state_words * z) many) constant c.value-field.ensures c.norms_word.ensures (omega (arith, lo, a, b, room)) pt.ensures.terms_are)
