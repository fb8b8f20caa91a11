-- Where one field is lent, its average is a number, and the inverses of it are all that a query's records need; where none is, they need none. Assumes nothing.
use mathlib.Core.Path.{◌≡◌, ◌∙◌, ap, subst}
use mathlib.Core.List.{List}
use Prim.Native.Nat.{ℕ, ◌+◌, ◌*◌, ◌≤◌, ◌<◌}
use native.Mathlib.Omega.{arith}
use lib.ListN.{length, get_or}
use lib.Dec.{T}
use mathlib.Core.Bool.{true, not}
use lib.Ieee.{Float, nan, binary32, nan_bits, of_bits}
use Rattle.ieee754.proofs.Patterns.{pattern_number}
use Rattle.meaning.specs.Below.{list_to}
use Rattle.meaning.specs.Bm25.{length_of, inverse}
use Rattle.meaning.specs.Lent.{Index, field_average}
use Rattle.meaning.specs.Query.{record_count}
use Rattle.meaning.proofs.Below.{get_or-list_to}
use Rattle.index.specs.Accepted.{Accepted}
use Rattle.tree_weight.specs.Measured.{AcceptedOrder}
use Rattle.tree_weight.specs.Sound.{FieldTable}
use Rattle.score_inverses.specs.Inverses.{has_field, field_at, FieldTables}
use Rattle.score_inverses.proofs.Filling.{field-there}

pub first-average : (ix : Index) → Accepted ix → length ix.fields ≡ 3 → T (not (nan_bits binary32 (get_or ix.fields 0 0)))
first-average ix a one = let most = (a.field 0 (omega (arith, one))).largest in pattern_number (get_or ix.fields 0 0) (omega (arith, most))

pub one-field : (ix : Index) (q : List ℕ) (table : List Float) → AcceptedOrder ix q → length ix.fields ≡ 3 → table ≡ list_to 256 (λ n. inverse (of_bits binary32 (field_average ix 0)) (length_of n)) → FieldTables ix q table
one-field ix q table asks one is at h has =
    let there = field-there ix q at asks h has in
    let first : 0 ≡ field_at ix q at = omega (arith, there, one) in
    subst (FieldTable ix table) first first-table
  where
    first-table : FieldTable ix table 0
    first-table n low =
        let here : 256 * 0 + n ≡ n = omega arith in
        ap (λ (z : ℕ). get_or table z nan) here
        ∙ ap (λ (z : List Float). get_or z n nan) is
        ∙ get_or-list_to 256 (λ n. inverse (of_bits binary32 (field_average ix 0)) (length_of n)) nan n low

pub no-field-lent : (ix : Index) (q : List ℕ) → AcceptedOrder ix q → length ix.fields ≤ 3 → (length ix.fields ≡ 3 → ⊥) → (at : ℕ) → at < record_count q → has_field q at ≡ true → ⊥
no-field-lent ix q asks few other at h has = let there = field-there ix q at asks h has in other (omega (arith, there, few))
