-- What each step of the common part asks for and leaves. Assumes nothing: these are definitions.
use Rattle.std.specs.Prelude.{◌≡◌, cond, List, ◌∷◌, ℕ, ◌+◌, ◌%◌, ◌≤◌, ◌<◌, eqb, ℤ, length, drop, Option, MatchOption}
use Rattle.meaning.specs.Phrase.{multiplicity}
use Rattle.phrase_starts.specs.declared.TheConstants.{TERM_WORDS}
use Rattle.phrase_starts.specs.Terms.{Good, term_at, starts_of, start_lists}
use Rattle.phrase_starts.specs.Common.{Ascending, Common}

-- the candidates are some of the rarest term's starts, and do not fall
pub record CandidatesHeld (ps ts : List ℕ) (rarest : ℕ) (cs : List ℤ) : Type 0 where
  pub good : Good ps ts
  pub rarest-start : rarest % TERM_WORDS ≡ 0
  pub rarest-there : rarest < length ts
  pub of-the-rarest : (s : ℤ) → multiplicity s cs ≤ multiplicity s (starts_of ps (term_at ts rarest))
  pub rising : Ascending cs

-- the next term's record at or after a word: the rarest term's is skipped, since its starts are the candidates
unfoldable pub unmet_from : ℕ → ℕ → ℕ
unmet_from rarest at = cond (eqb at rarest) (at + TERM_WORDS) at

-- what the phrase step asks: candidates, the next term's record, and as many spare places
pub record Candidates (ps ts : List ℕ) (rarest at : ℕ) (cs : List ℤ) (places : ℕ) : Type 0 where
  pub held : CandidatesHeld ps ts rarest cs
  pub record-start : at % TERM_WORDS ≡ 0
  pub there : at < length ts
  pub room : length cs ≤ places

-- what is left of the candidates: their common part with the starts of the terms from a word on
pub record Left (ps ts : List ℕ) (at : ℕ) (cs zs : List ℤ) : Type 0 where
  pub common : Common (cs ∷ start_lists ps (drop at ts)) zs
  pub no_more : length zs ≤ length cs

-- ms is what one term leaves of the candidates: what the terms behind it leave of ms is left of the candidates
pub record Further (ps ts : List ℕ) (rarest at : ℕ) (cs ms : List ℤ) (next : ℕ) : Type 0 where
  pub further : at < next
  pub on : (zs : List ℤ) → Left ps ts next ms zs → Left ps ts at cs zs
  pub ready : Candidates ps ts rarest next ms (length cs)

-- what one more term leaves of the candidates is left at the end, or there is a next term's record
abbrev pub Meets : List ℕ → List ℕ → ℕ → ℕ → List ℤ → List ℤ → Option ℕ → Type 0
Meets ps ts rarest at cs ms next = MatchOption next (Left ps ts at cs ms) (λ k. Further ps ts rarest at cs ms k)
