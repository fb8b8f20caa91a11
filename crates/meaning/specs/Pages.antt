-- Document 01, "Entries": a page of the full list. Assumes nothing: these are definitions.
use Rattle.std.specs.Prelude.{cond, List, [], ◌∷◌, ◌++◌, ℕ, leb, take, drop}
use Rattle.meaning.specs.Limits.{no_more_docs}
use Rattle.meaning.specs.FullList.{ScoreDoc}

-- what Page writes, and the next live match
pub record PageOf : Type 0 where
  pub given : List ScoreDoc
  pub next : ℕ

-- "live matches at or after the target"
unfoldable pub from_target : ℕ → List ScoreDoc → List ScoreDoc
from_target target [] = []
from_target target (h ∷ hs) = cond (leb target h.doc) (h ∷ []) [] ++ from_target target hs

-- "the next live match or `NO_MORE_DOCS`"
unfoldable pub first_doc : List ScoreDoc → ℕ
first_doc [] = no_more_docs
first_doc (h ∷ hs) = h.doc

-- "the first m live matches at or after the target with scores .. and the next live match"
unfoldable pub page : ℕ → ℕ → List ScoreDoc → PageOf
page target m list = record { given = take m (from_target target list); next = first_doc (drop m (from_target target list)) }
