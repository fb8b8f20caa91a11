-- The documents below this one that are let in stand at the front of the output, and `held` is how many.
use Rattle.std.proofs.Common.{◌≡◌, length}
use Rattle.meaning.specs.Below.{list_below}
use Rattle.meaning.specs.Entries.{written}
use Rattle.doc_values.specs.Listed.{listed}
use Rattle.doc_values.proofs.ready.Ready.scan.Given as goal

abbrev pub invariant-loop-document : goal.invariant-loop-document
invariant-loop-document l =
    (l.held ≡ length (list_below l.document (listed l.self))) × (l.output ≡ written (list_below l.document (listed l.self)) l.initial.output)
