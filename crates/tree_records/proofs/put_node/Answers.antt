-- The words of the other records stay as they are.
use Rattle.std.proofs.Common.{◌*◌, arith}
use Rattle.meaning.specs.Limits.{node_state_words}
use Rattle.tree_weight.specs.State.{words_of}
use Rattle.tree_records.specs.Records.{state_of}
use Rattle.tree_records.proofs.Turns.{part-put}
use Rattle.tree_records.proofs.put_node.Goals as goal

pub returns : goal.returns
returns c =
    part-put c.args.words.now c.put.new.states (words_of (state_of c.args.s.now)) (node_state_words * c.args.i) (omega (arith, c.requires)) c.put.ensures
