-- Refusals 8 and 10: how the code comes to them, record by record. Assumes nothing.
use mathlib.Core.Path.{◌≡◌, refl, ap, ◌∙◌}
use mathlib.Core.Logic.{◌⊎◌, inl, inr}
use mathlib.Core.Bool.{false, not, ◌&&◌}
use mathlib.Core.List.{List}
use mathlib.Core.Option.{Option, none, some}
use Prim.Native.Nat.{ℕ}
use lib.Dec.{eqb, leb}
use Rattle.meaning.specs.Lent.{Index, has_positions}
use Rattle.meaning.specs.Query as meant
use Rattle.meaning.specs.Query.{kind_of, record_count, record_kind, record_value}
use Rattle.meaning.specs.QueryRefusals.{unused_from, wrong_kind, wrong_values, wrong8, wrong10}
use Rattle.meaning.specs.Below.{any_below}
use Rattle.query.specs.declared.kinds.Kind.{Kind}
use Rattle.query.specs.declared.kinds.Kind.TheVariants.{MatchAll, ConstantScore, MatchNone}
use Rattle.query.specs.Kinds.{kind_number, kind_meant}
use Rattle.query.proofs.Numbers.{kind-of-number}

-- ---- unused values
pub unused-any : (q : List ℕ) (r v : ℕ) → any_below 6 (λ j. leb v j && not (eqb (record_value q r j) 0)) ≡ unused_from q r v
unfolding unused_from
unused-any q r v = refl

-- ---- 8 in a record, by its kind
module _ (ix : Index) (q : List ℕ) (r : ℕ) where
  known : (o : Option meant.Kind) (kind : meant.Kind) → o ≡ some kind → wrong_kind ix q r kind ≡ wrong_values ix q r o
  unfolding wrong_values
  known o kind e = rw e

  pub value-of : (kind : Kind) → record_kind q r ≡ kind_number kind → wrong_kind ix q r (kind_meant kind) ≡ wrong_values ix q r (kind_of (record_kind q r))
  value-of kind e = known (kind_of (record_kind q r)) (kind_meant kind) (ap kind_of e ∙ kind-of-number kind)

  -- the kinds without values
  pub value-unused : (kind : Kind) → ◌⊎◌ (kind ≡ MatchAll) (◌⊎◌ (kind ≡ ConstantScore) (kind ≡ MatchNone)) → record_kind q r ≡ kind_number kind → unused_from q r 0 ≡ wrong_values ix q r (kind_of (record_kind q r))
  unfolding wrong_kind
  value-unused kind (inl k) e = value-of MatchAll (e ∙ ap kind_number k)
  value-unused kind (inr (inl k)) e = value-of ConstantScore (e ∙ ap kind_number k)
  value-unused kind (inr (inr k)) e = value-of MatchNone (e ∙ ap kind_number k)

  pub value-other : kind_of (record_kind q r) ≡ none → false ≡ wrong_values ix q r (kind_of (record_kind q r))
  unfolding wrong_values
  value-other e = rw e

-- ---- in some record
pub values-any : (ix : Index) (q : List ℕ) → any_below (record_count q) (λ r. wrong_values ix q r (kind_of (record_kind q r))) ≡ wrong8 ix q
unfolding wrong8
values-any ix q = refl

pub positions-any : (ix : Index) (q : List ℕ) → any_below (record_count q) (λ r. eqb (record_kind q r) 2 && not (has_positions ix (record_value q r 0))) ≡ wrong10 ix q
unfolding wrong10
positions-any ix q = refl
