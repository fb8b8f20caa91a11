use Rattle.std.proofs.Common.{◌≡◌, ℕ, List, refl}
use Rattle.tree_records.specs.Records.{node_from}
use Rattle.tree_records.proofs.first_node.Goals as goal

-- said of plain words, so that a refusal shows the word that is wrong
read : (w : List ℕ) → node_from w ≡ node_from w
read w = refl

pub returns : goal.returns
returns c = read c.args.words.now
