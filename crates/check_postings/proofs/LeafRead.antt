-- A leaf and its field, as the code reads them. Assumes nothing.
use Rattle.std.proofs.Common.{◌≡◌, ℕ, ◌+◌, ◌-◌, ◌*◌, ◌≤◌, ◌<◌, Bool, false, ◌&&◌, ◌||◌, eqb, List, length, take, drop, ap, ◌∙◌, arith}
use Rattle.meaning.specs.Below.{any_below}
use Rattle.meaning.specs.Lent.{Index, leaf_count, field_count, has_positions, field_positions, leaf_field, leaf_number}
use Rattle.meaning.specs.IndexRefusals.{wrong4, wrong_posting}
use Rattle.index.specs.declared.fields.Field.{Field}
use Rattle.index.specs.declared.leaves.Leaf.{Leaf}
use Rattle.index.specs.Records.{field_of, leaf_of}
use Rattle.index.specs.Accepted.{LeafOk}
use Rattle.index.specs.Runs.{run_length}
use Rattle.check_positions.specs.Places.{wrong_places}
use Rattle.check_postings.specs.Runs.{wrong_record}
use Rattle.index.proofs.Known.{leaf-ok}
use Rattle.index.proofs.Words.{leaf-field, leaf_first_lem, leaf-number, field-positions}
use Rattle.check_postings.proofs.Runs.{run-way}

module _ (ix : Index) (l : ℕ) (right : wrong4 ix ≡ false) (there : l < leaf_count ix) (leaf : Leaf) (e : leaf ≡ leaf_of ix l) where
  pub ok : LeafOk ix l
  ok = leaf-ok ix right l there

  pub field-there : leaf.field < field_count ix
  field-there = omega (arith, leaf-field ix l leaf e, ok.field)

  pub run-there : 3 * leaf.first + 3 * leaf.number ≤ length ix.postings
  run-there = omega (arith, leaf_first_lem ix l leaf e, leaf-number ix l leaf e, ok.words)

  pub with-positions : (field : Field) → field ≡ field_of ix leaf.field → eqb field.positions 1 ≡ has_positions ix (leaf_field ix l)
  with-positions field g =
      ap (λ (x : ℕ). eqb x 1) (field-positions ix leaf.field field g ∙ ap (λ (f : ℕ). field_positions ix f) (leaf-field ix l leaf e))

  abbrev run : List ℕ
  run = take (3 * leaf.first + 3 * leaf.number - 3 * leaf.first) (drop (3 * leaf.first) ix.postings)

  -- whether a posting is wrong, where it is known how the tests of the records and of the field came out
  pub run-read : (field : Field) → field ≡ field_of ix leaf.field → (r s : Bool)
      → r ≡ any_below (run_length run) (wrong_record ix.max_doc (eqb field.positions 1) run)
      → s ≡ any_below (run_length run) (wrong_places run ix.positions)
      → (has' r' : Bool) → eqb field.positions 1 ≡ has' → r ≡ r' → (r' || (has' && s)) ≡ any_below (leaf_number ix l) (wrong_posting ix l)
  run-read field g r s = run-way ix l ok.run _ _ (leaf_first_lem ix l leaf e) (leaf-number ix l leaf e) (eqb field.positions 1) r s (with-positions field g)
