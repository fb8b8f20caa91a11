-- A field and a leaf as the struct that the code reads them into. Assumes nothing: these are definitions.
use Rattle.std.specs.Prelude.{ℕ}
use Rattle.meaning.specs.Lent.{Index, field_average, field_norms, field_positions, leaf_field, leaf_first, leaf_number, leaf_idf}
use Rattle.index.specs.declared.fields.Field.{Field}
use Rattle.index.specs.declared.leaves.Leaf.{Leaf}

-- the words of field f
abbrev pub field_of : Index → ℕ → Field
field_of ix f = record { average = field_average ix f; norms = field_norms ix f; positions = field_positions ix f }

-- the words of leaf l
abbrev pub leaf_of : Index → ℕ → Leaf
leaf_of ix l =
    record {
      field = leaf_field ix l;
      first = leaf_first ix l;
      number = leaf_number ix l;
      idf = leaf_idf ix l;
    }
