-- What the number of a record's kind or occurrence says of the meaning's. Assumes nothing.
use Rattle.std.proofs.Common.{◌≡◌, ℕ, zero, suc, ◌<◌, ◌≤◌, refl, arith, rules}
use Rattle.std.proofs.Math.Option.{some, none}
use Rattle.std.proofs.lemmas.List.{get_or_past}
use Rattle.meaning.specs.Query.{kind_of, occur_of}
use Rattle.query.specs.declared.kinds.Kind.{Kind}
use Rattle.query.specs.declared.kinds.Kind.TheVariants.{Term, Phrase, Boolean, Range, MatchAll, ConstantScore, Boost, MatchNone, PhraseTerm}
use Rattle.query.specs.declared.occurrences.Occur.{Occur}
use Rattle.query.specs.declared.occurrences.Occur.TheVariants.{Must, Should, MustNot, Filter}
use Rattle.query.specs.Kinds.{kind_number, occur_number, kind_meant, occur_meant}

pub kind-of-number : (k : Kind) → kind_of (kind_number k) ≡ some (kind_meant k)
kind-of-number Term = refl
kind-of-number Phrase = refl
kind-of-number Boolean = refl
kind-of-number Range = refl
kind-of-number MatchAll = refl
kind-of-number ConstantScore = refl
kind-of-number Boost = refl
kind-of-number MatchNone = refl
kind-of-number PhraseTerm = refl

-- a number that no kind has
pub kind-unknown : (n : ℕ) → (0 < n → 9 < n) → kind_of n ≡ none
kind-unknown zero h = refl
kind-unknown (suc n) h = let past : 10 ≤ suc n = omega (arith, h (omega arith)) in search (rules, get_or_past)

pub occur-of-number : (k : Occur) → occur_of (occur_number k) ≡ some (occur_meant k)
occur-of-number Must = refl
occur-of-number Should = refl
occur-of-number MustNot = refl
occur-of-number Filter = refl

-- a number that no occurrence has
pub occur-unknown : (n : ℕ) → (0 < n → 4 < n) → occur_of n ≡ none
occur-unknown zero h = refl
occur-unknown (suc n) h = let past : 5 ≤ suc n = omega (arith, h (omega arith)) in search (rules, get_or_past)
