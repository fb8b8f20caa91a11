-- Document 01, "Entries": the full list of an accepted index and query. Assumes nothing: these are definitions.
use Rattle.std.specs.Prelude.{◌&&◌, List, map, ℕ, Float}
use Rattle.meaning.specs.Below.{list_below}
use Rattle.meaning.specs.Lent.{Index}
use Rattle.meaning.specs.Live.{is_live}
use Rattle.meaning.specs.Bm25.{one}
use Rattle.meaning.specs.Query.{Tree}
use Rattle.meaning.specs.Takes.{takes}
use Rattle.meaning.specs.Score.{score}

-- a document with its score
pub record ScoreDoc : Type 0 where
  pub doc : ℕ
  pub score : Float

-- "the live documents that the root takes, ascending"
unfoldable pub matches : Index → Tree → List ℕ
matches ix t = list_below ix.max_doc (λ d. is_live ix d && takes ix t d)

-- ".. each with the root's score"; boosts go down "from 1"
unfoldable pub full_list : Index → Tree → List ScoreDoc
full_list ix t = map (λ d. record { doc = d; score = score ix t one d }) (matches ix t)
