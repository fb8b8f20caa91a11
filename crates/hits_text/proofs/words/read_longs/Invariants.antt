-- The first i places hold the first i 64-bit words of the file.
use Rattle.std.proofs.Common.{◌≡◌, take}
use Rattle.meaning.specs.Below.{list_to}
use Rattle.hits_text.specs.Text.{long_at}
use Rattle.hits_text.proofs.words.read_longs.Given as goal

abbrev pub invariant-loop-i : goal.invariant-loop-i
invariant-loop-i l = take l.i l.words ≡ list_to l.i (long_at l.bytes)
