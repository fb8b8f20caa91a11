-- Document 01, "Query record": the number of each kind and of each occurrence. Assumes nothing: these are definitions.
use Rattle.std.specs.Prelude.{◌≡◌, ℕ, ◌<◌, Option, MatchOption, Result, MatchResult}
use Rattle.meaning.specs.Query as meant
use Rattle.query.specs.declared.kinds.Kind.{Kind}
use Rattle.query.specs.declared.kinds.Kind.TheVariants.{Term, Phrase, Boolean, Range, MatchAll, ConstantScore, Boost, MatchNone, PhraseTerm}
use Rattle.query.specs.declared.kinds.UnknownKind.{UnknownKind}
use Rattle.query.specs.declared.occurrences.Occur.{Occur}
use Rattle.query.specs.declared.occurrences.Occur.TheVariants.{Must, Should, MustNot, Filter}
use Rattle.query.specs.declared.occurrences.UnknownOccur.{UnknownOccur}

abbrev pub kind_number : Kind → ℕ
kind_number Term = 1
kind_number Phrase = 2
kind_number Boolean = 3
kind_number Range = 4
kind_number MatchAll = 5
kind_number ConstantScore = 6
kind_number Boost = 7
kind_number MatchNone = 8
kind_number PhraseTerm = 9

abbrev pub occur_number : Occur → ℕ
occur_number Must = 1
occur_number Should = 2
occur_number MustNot = 3
occur_number Filter = 4

-- the same kinds and occurrences as the meaning of a query names them
abbrev pub kind_meant : Kind → meant.Kind
kind_meant Term = meant.a_term
kind_meant Phrase = meant.a_phrase
kind_meant Boolean = meant.a_boolean
kind_meant Range = meant.a_range
kind_meant MatchAll = meant.a_match_all
kind_meant ConstantScore = meant.a_constant_score
kind_meant Boost = meant.a_boost
kind_meant MatchNone = meant.a_match_none
kind_meant PhraseTerm = meant.a_phrase_term

abbrev pub occur_meant : Occur → meant.Occur
occur_meant Must = meant.must
occur_meant Should = meant.should
occur_meant MustNot = meant.must_not
occur_meant Filter = meant.filter

-- the kind with this number, or none where no kind has it
abbrev pub IsKind : ℕ → Option Kind → Type 0
IsKind number o = MatchOption o (0 < number → 9 < number) (λ kind. number ≡ kind_number kind)

-- the same of an occurrence
abbrev pub IsOccur : ℕ → Option Occur → Type 0
IsOccur number o = MatchOption o (0 < number → 4 < number) (λ occur. number ≡ occur_number occur)

-- the same of a conversion, whose error has the number
abbrev pub DecodesKind : ℕ → Result Kind UnknownKind → Type 0
DecodesKind number r =
    MatchResult r (λ kind. number ≡ kind_number kind) (λ e. (e.0 ≡ number) × (0 < number → 9 < number))

abbrev pub DecodesOccur : ℕ → Result Occur UnknownOccur → Type 0
DecodesOccur number r =
    MatchResult r (λ occur. number ≡ occur_number occur) (λ e. (e.0 ≡ number) × (0 < number → 4 < number))
