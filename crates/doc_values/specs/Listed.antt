-- A document whose value a scan lets in: it is there, and its key is one of the range's.
-- Assumes nothing: these are definitions.
use Rattle.std.specs.Prelude.{Bool, ℕ, ◌*◌}
use Rattle.index.specs.declared.columns.TheConstants.{VALUE_WORDS}
use Rattle.column_keys.specs.Keys.{value_in, type_number}
use Rattle.doc_values.specs.declared.ready.Ready.{Ready}

abbrev pub listed : Ready → ℕ → Bool
listed r d = value_in r.values.now (VALUE_WORDS * d) (type_number r.column_type) r.keys.from r.keys.to
