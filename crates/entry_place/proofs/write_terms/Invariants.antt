-- The words of the terms passed stand at the front.
use Rattle.std.proofs.Common.{◌≡◌, ◌*◌, take}
use Rattle.meaning.specs.Below.{list_to}
use Rattle.index.specs.IndexOf.{index_of}
use Rattle.phrase.specs.Words.{phrase_words}
use Rattle.entry_place.proofs.TermWords.{term_at}
use Rattle.entry_place.proofs.write_terms.Given as goal

abbrev pub invariant-loop-j : goal.invariant-loop-j
invariant-loop-j l = take (3 * l.j) l.terms ≡ phrase_words (index_of l.lent) l.document (list_to l.j (term_at l.query l.at))
