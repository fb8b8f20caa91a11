-- A leaf that is there has an idf whose bits are a number's.
use Rattle.std.proofs.Common.{ap}
use lib.Ieee.{binary32, of_bits}
use Rattle.index.specs.declared.leaves.Leaf.{Leaf}
use Rattle.index.specs.IndexOf.{index_of}
use Rattle.tree_words.proofs.Idf.{idf-number}
use Rattle.tree_words.proofs.place.idf_of.Goals as goal

pub float_from_bits-result : goal.float_from_bits-result
float_from_bits-result c =
    rw (ap Leaf.idf c.leaf_at.ensures) (idf-number (index_of c.args.lent.now) c.args.leaf c.requires.0 c.requires.1)

pub returns : goal.returns
returns c = ap (of_bits binary32) (ap Leaf.idf c.leaf_at.ensures)
