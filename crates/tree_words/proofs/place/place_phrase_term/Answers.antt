-- The words are those of a state with the leaf's run, its offset and where its field's norm bytes begin.
use Rattle.index.specs.IndexOf.{index_of}
use Rattle.tree_words.proofs.Norms.{leaf-read, field-known}
use Rattle.tree_words.proofs.PhraseParts.{phrase-term}
use Rattle.tree_words.proofs.Zeros.{zeros-are}
use Rattle.tree_words.proofs.place.place_phrase_term.Goals as goal

pub norms_word-requires : goal.norms_word-requires
norms_word-requires c =
    let a = c.requires.leaf_there in
    (a.0, field-known (index_of c.args.records.now.lent.now) c.args.leaf c.leaf_at-run.result a.0 c.leaf_at-run.ensures a.1)

pub returns : goal.returns
returns c =
    let run = c.leaf_at-run in
    let ix = index_of c.args.records.now.lent.now in
    let read = leaf-read ix c.args.leaf run.result run.ensures in
    phrase-term ix c.args.states.now c.put.new.states c.args.leaf c.args.offset run.result.first run.result.number run.result.field c.norms_word.result read.first-is read.number-is read.field-is c.norms_word.ensures (rw (c.word.ensures, zeros-are c.default.result c.default.ensures) at c.put.ensures)
