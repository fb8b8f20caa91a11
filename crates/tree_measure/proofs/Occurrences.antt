-- The occurrence that the code reads of a clause is the one that its number means. Assumes nothing.
use mathlib.Core.Path.{◌≡◌, refl, sym, ◌∙◌, ap}
use mathlib.Core.Option.{none, some}
use Prim.Native.Nat.{ℕ}
use Rattle.std.specs.Prelude.{Option, Some, None}
use Rattle.meaning.specs.Query as meant
use Rattle.meaning.specs.Query.{occur_of}
use Rattle.query.specs.declared.occurrences.Occur.{Occur}
use Rattle.query.specs.Kinds.{occur_meant, IsOccur}
use Rattle.query.proofs.Numbers.{occur-of-number, occur-unknown}
use Rattle.query.proofs.Inverse.{some_same}

none-some : (o : meant.Occur) → none ≡ some o → ⊥
none-some o e = cc

pub record Read (r : Option Occur) (o : meant.Occur) : Type 0 where
  pub occur : Occur
  pub read-is : r ≡ Some occur
  pub meant-is : occur_meant occur ≡ o

pub occur-read : (n : ℕ) (r : Option Occur) (o : meant.Occur) → IsOccur n r → occur_of n ≡ some o → Read r o
occur-read n None o h e = absurd (none-some o (sym (occur-unknown n h) ∙ e))
occur-read n (Some k) o h e = record { occur = k; read-is = refl; meant-is = some_same _ _ (sym (occur-of-number k) ∙ sym (ap occur_of h) ∙ e) }
