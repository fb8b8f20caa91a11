-- Which records score in a field, and its inverses. Assumes nothing: these are definitions.
use Rattle.std.specs.Prelude.{◌≡◌, Bool, true, false, cond, ◌||◌, List, ℕ, ◌<◌, Float, eqb, Option, MatchOption}
use Rattle.meaning.specs.Lent.{Index, leaf_field}
use Rattle.meaning.specs.Query.{record_count, record_kind, record_value}
use Rattle.tree_weight.specs.Sound.{FieldTable}

-- a Term or a Phrase
abbrev pub has_field : List ℕ → ℕ → Bool
has_field q at = eqb (record_kind q at) 1 || eqb (record_kind q at) 2

-- a term's leaf's field, or a phrase's own
abbrev pub field_at : Index → List ℕ → ℕ → ℕ
field_at ix q at = cond (eqb (record_kind q at) 1) (leaf_field ix (record_value q at 0)) (record_value q at 0)

-- the field of a record that scores in one, or none
abbrev pub IsField : Index → List ℕ → ℕ → Option ℕ → Type 0
IsField ix q at o =
    MatchOption o (has_field q at ≡ false) (λ f. (has_field q at ≡ true) × (f ≡ field_at ix q at))

-- each record that scores in a field has the field's inverses
abbrev pub FieldTables : Index → List ℕ → List Float → Type 0
FieldTables ix q table =
    (at : ℕ) → at < record_count q → has_field q at ≡ true → FieldTable ix table (field_at ix q at)
