-- At each wanted place the frequency is in the planes or worked out again, and the sum grows by the phrase's score.
use Rattle.std.proofs.Common.{rules, refl, get_or}
use lib.Ieee.{nan}
use Rattle.score_leaf.specs.Words.{Bytes}
use Rattle.scorer_leaf.specs.Buffers.{room, other_room}
use Rattle.window_score.specs.Asked.{reads_of}
use Rattle.window_score.proofs.Adding.{reached-keeps}
use Rattle.window_score.proofs.Phrases.{Kept, Scored, kept-refl, kept-then, kept-buffers, kept-asks, kept-gives, pre-long, pre-place, phrase-done}
use Rattle.window_score.proofs.leaf.phrase_scores.Goals as goal

pub score_node_at-n-requires : goal.score_node_at-n-requires
score_node_at-n-requires c = pre-long c.args.states.now (reads_of c.args.window.now) (room c.args.buffers.now) (other_room c.args.buffers.now) c.args.want c.args.sums.now c.requires

pub at-planes-requires : goal.at-planes-requires
at-planes-requires c = pre-long c.args.states.now (reads_of c.args.window.now) (room c.args.buffers.now) (other_room c.args.buffers.now) c.args.want c.args.sums.now c.requires

pub change_sums-requires : goal.change_sums-requires
change_sums-requires c = (
  c.requires.2.2.8.long,
  λ f R p l e. kept-asks (reached-keeps (Kept _) (kept-refl _) (λ g g' x p r k s. kept-then k (search rules)) R) p
      (refl, pre-place c.args.states.now (reads_of c.args.window.now) (room c.args.buffers.now) (other_room c.args.buffers.now) c.args.want c.args.sums.now c.requires c.score_node_at-n.result c.score_node_at-n.ensures c.at-planes.result c.at-planes.ensures p l e),
)

pub returns-clause-phrase_post : goal.returns-clause-phrase_post
returns-clause-phrase_post c =
    let s = c.change_sums.ensures.changed in
    phrase-done c.args.states.now (reads_of c.args.window.now) (room c.args.buffers.now) (other_room c.args.buffers.now) c.args.want c.args.sums.now c.requires.0 c.requires.1 c.score_node_at-n.result c.score_node_at-n.ensures c.at-planes.result c.at-planes.ensures c.change_sums.new.sums
    (record {
      long = s.long;
      wanted = λ p l e.
          let k = s.wanted p l e in
          let t = k.3 in
          let x = get_or c.args.sums.now p nan in
          let y = get_or c.change_sums.new.sums p nan in
          let u : Scored k.0 x p y = search rules in
          let b : Bytes k.0.4.now = search rules in
          let g = kept-gives (reached-keeps (Kept _) (kept-refl _) (λ g g' x p r k s. kept-then k (search rules)) k.2) x p y (u, b) in
          (g.0.0, g.0.1, g.0.2, g.1);
      others = s.others;
    })

pub returns-clause-same_buffers : goal.returns-clause-same_buffers
returns-clause-same_buffers c = kept-buffers (reached-keeps (Kept _) (kept-refl _) (λ g g' x p r k s. kept-then k (search rules)) c.change_sums.ensures.reached) c.buffers-1.given.1
