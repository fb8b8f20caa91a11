use Rattle.tree_words.proofs.Placing.{placed-nothing}
use Rattle.tree_words.proofs.Zeros.{zeros-are}
use Rattle.tree_words.proofs.place.place_nothing.Goals as goal

pub returns-clause-placed : goal.returns-clause-placed
returns-clause-placed c =
    λ ix ranges d. placed-nothing ix ranges c.args.states.now c.put.new.states d c.args.scores c.requires (rw (c.word.ensures, zeros-are c.default.result c.default.ensures) at c.put.ensures)
