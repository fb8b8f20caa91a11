-- The first i places hold the first i words of the file.
use Rattle.std.proofs.Common.{◌≡◌, take}
use Rattle.meaning.specs.Below.{list_to}
use Rattle.hits_text.specs.Text.{word_at}
use Rattle.hits_text.proofs.words.read_words.Given as goal

abbrev pub invariant-loop-i : goal.invariant-loop-i
invariant-loop-i l = take l.i l.words ≡ list_to l.i (word_at l.bytes)
