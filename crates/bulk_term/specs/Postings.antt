-- What the score of one posting of a term asks. Assumes nothing: these are definitions.
use Rattle.std.specs.Prelude.{◌≡◌, true, List, ℕ, ◌<◌, Float}
use Rattle.meaning.specs.Lent.{Index, leaf_count, leaf_field}
use Rattle.meaning.specs.Postings.{posting_at, found, frequency_of}
use Rattle.index.specs.Accepted.{Accepted}
use Rattle.tree_weight.specs.ScorerTree.{term, Scoring, constant, weighted}
use Rattle.tree_weight.specs.Held.{norms_word, FloatIs}
use Rattle.tree_weight.specs.Sound.{LeafTable}
use Rattle.score_leaf.specs.declared.ScoreNode.{ScoreNode}
use Rattle.score_leaf.specs.Words.{first_byte}

-- how the node scores, in the two words that say it
unfoldable pub NodeScores : Scoring → ScoreNode → Type 0
NodeScores (constant c) n = (n.constant ≡ 1) × FloatIs c n.weight
NodeScores (weighted w) n = (n.constant ≡ 0) × FloatIs w n.weight

-- n is what is read of the node of leaf l, which stands in the document with this frequency
pub record PostingAsks (ix : Index) (table : List Float) (norms : List ℕ) (l : ℕ) (sc : Scoring)
    (n : ScoreNode) (frequency doc : ℕ) : Type 0 where
  pub accepted : Accepted ix
  pub norms-are : ix.norms ≡ norms
  pub document : doc < ix.max_doc
  pub leaf-there : l < leaf_count ix
  pub tables : LeafTable ix table (term l) sc
  pub field_is : n.field ≡ leaf_field ix l
  pub norms-is : n.norms ≡ first_byte (norms_word ix (leaf_field ix l))
  pub scores : NodeScores sc n
  pub match : found (posting_at ix l doc) ≡ true
  pub frequency-is : frequency ≡ frequency_of ix l (posting_at ix l doc)
