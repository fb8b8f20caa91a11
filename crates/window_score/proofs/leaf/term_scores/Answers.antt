-- At each wanted place the posting is found by its rank, so the sum grows by the term's score there.
use Rattle.std.proofs.Common.{rules, refl, ◌+◌, arith, get_or}
use Rattle.score_leaf.proofs.Constants.{constant-none}
use Rattle.window_score.specs.Places.{term_score_at}
use Rattle.window_score.specs.Sums.{Added}
use Rattle.window_score.specs.Asked.{reads_of}
use Rattle.window_score.proofs.Adding.{steady-pre, steady-step}
use Rattle.window_score.proofs.Terms.{pre-long, pre-number, pre-constant, pre-place, post-constant, post-weighted}
use Rattle.window_score.proofs.leaf.term_scores.Goals as goal

pub score_node_at-n-requires : goal.score_node_at-n-requires
score_node_at-n-requires c = pre-long (reads_of c.args.window.now) c.requires

pub constant_score-requires : goal.constant_score-requires
constant_score-requires c = pre-number (reads_of c.args.window.now) c.score_node_at-n.result c.score_node_at-n.ensures c.requires

pub add_constant-requires : goal.add_constant-requires
add_constant-requires c = pre-constant (reads_of c.args.window.now) c.score_node_at-n.result c.score_node_at-n.ensures c.in-Some.score c.in-Some.ensures c.requires

pub returns-in-Some : goal.returns-in-Some
returns-in-Some c = post-constant (reads_of c.args.window.now) c.score_node_at-n.result c.score_node_at-n.ensures c.in-Some.score c.in-Some.ensures c.requires.0 c.add_constant.new.sums c.add_constant.ensures

pub bounds-states-19 : goal.bounds-states-19
bounds-states-19 c = omega (arith, pre-long (reads_of c.args.window.now) c.requires)

pub stored_bits-bits-requires : goal.stored_bits-bits-requires
stored_bits-bits-requires c = pre-long (reads_of c.args.window.now) c.requires

pub change_sums-requires : goal.change_sums-requires
change_sums-requires c = (
  c.requires.1.5.8.long,
  steady-pre (λ f f' x p r s. search rules) _ (pre-place (reads_of c.args.window.now) c.score_node_at-n.result c.score_node_at-n.ensures (λ i. omega (arith, c.type_inv.states i)) (constant-none c.score_node_at-n.result c.in_default.ensures) _ c.stored_bits-bits.result refl c.stored_bits-bits.ensures c.requires),
)

pub returns : goal.returns
returns c =
    let n = c.score_node_at-n.result in
    let r = c.args.window.now.reader in
    let s = c.change_sums.ensures.changed in
    let A : Added (term_score_at n r.norms.now r.inverses.now r.postings.now (n.first + get_or c.args.states.now 19 0) c.stored_bits-bits.result c.args.window.now.base) c.args.want c.args.sums.now c.change_sums.new.sums = record { wanted = λ p l e. let k = steady-step (λ f f' x p r s. search rules) (s.wanted p l e) in search rules; others = s.others } in
    post-weighted (reads_of c.args.window.now) n c.score_node_at-n.ensures (λ i. omega (arith, c.type_inv.states i)) (constant-none n c.in_default.ensures) _ c.stored_bits-bits.result refl c.stored_bits-bits.ensures c.requires.0 c.change_sums.new.sums s.long (λ p l e. let k = steady-step (λ f f' x p r s. search rules) (s.wanted p l e) in search rules) A
