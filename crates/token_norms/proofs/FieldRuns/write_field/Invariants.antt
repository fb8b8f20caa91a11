-- The bytes of the windows passed are written, and the cursors stand behind them.
use Rattle.std.proofs.Common.{◌≡◌, ◌*◌, min, length}
use Rattle.std.proofs.lemmas.List.Edits.{sets}
use Rattle.meaning.specs.Below.{list_to}
use Rattle.meaning.specs.SmallFloat.{int_to_byte4}
use Rattle.token_norms.specs.Lengths.{length_in, cursors_at}
use Rattle.token_norms.proofs.FieldRuns.write_field.Given as goal

abbrev pub invariant-loop-window : goal.invariant-loop-window
invariant-loop-window l = record {
  cursors_are : l.cursors ≡ list_to 512 (cursors_at l.self.leaf_fields.now l.self.postings.now l.self.runs.now l.self.field (l.window * 4096));
  norms_are : l.norms ≡ sets l.initial.norms 0 (list_to (min (l.window * 4096) (length l.initial.norms)) (λ d. int_to_byte4 (length_in l.self.leaf_fields.now l.self.postings.now l.self.runs.now l.self.field d)));
}
