-- What `score` asks and gives of the parts of some children; what it asks and gives of a node is in `score_leaf`.
-- Assumes nothing: these are definitions.
use Rattle.std.specs.Prelude.{◌≡◌, true, cond, List, ◌++◌, ℕ, ◌+◌, ◌*◌, ◌^◌, ◌≤◌, Float}
use Rattle.meaning.specs.Lent.{Index}
use Rattle.meaning.specs.Ieee754.{zero_float, sum_from, narrowed_sum}
use Rattle.meaning.specs.Limits.{max_records}
use Rattle.ieee754.specs.Nonneg.{AtMost}
use Rattle.tree_weight.specs.ScorerTree.{Scorers, Joining, one_more, afterwards, all_match, scoring, required_scores, optional_scores, joined_score}
use Rattle.tree_weight.specs.State.{sizes_of, sizes_of_first}
use Rattle.tree_weight.specs.Held.{Oks, largest_score}
use Rattle.tree_weight.specs.Sound.{Sounds, TablesOf, nodes_of}
use Rattle.scorer_leaf.specs.declared.LeafReader.{LeafReader}
use Rattle.tree_node.specs.declared.Boolean.{Boolean}
use Rattle.score_leaf.specs.Asked.{LentAt}

-- some trees, beside so many nodes that are summed already
pub record Scorables (ix : Index) (table : List Float) (places p : ℕ) (ss : Scorers) : Type 0 where
  pub sound : Sounds ix places ss
  pub tables : TablesOf ix table ss
  pub few : p + nodes_of ss ≤ max_records

-- a sum in f64, and that it is at most 2^29 for each leaf
pub record SumIs (x : Float) (xs : List Float) (p : ℕ) (r : Float) : Type 0 where
  pub is : r ≡ sum_from x xs
  pub small : AtMost (p * largest_score) r

-- the same of the parts of some children, and of a sum of at most 2^29 for each of p nodes: the required, which all
-- match
abbrev pub RequiredScorePre : List ℕ → Float → LeafReader → ℕ → ℕ → ℕ → Type 0
RequiredScorePre kids sum reader places doc depth =
    (ix : Index) × (ss : Scorers) × (p : ℕ)
    × LentAt ix reader.max_doc reader.postings.now reader.positions.now reader.norms.now doc
    × Scorables ix reader.inverses.now places p ss × (all_match ix ss doc ≡ true)
    × Oks ix reader.ranges.now ss depth kids doc × AtMost (p * largest_score) sum

abbrev pub RequiredScorePost : List ℕ → Float → LeafReader → ℕ → ℕ → ℕ → Float → List ℕ → Type 0
RequiredScorePost kids sum reader places doc depth r kids' =
    (ix : Index) (ss : Scorers) (p : ℕ)
    → LentAt ix reader.max_doc reader.postings.now reader.positions.now reader.norms.now doc
    → Scorables ix reader.inverses.now places p ss → all_match ix ss doc ≡ true
    → Oks ix reader.ranges.now ss depth kids doc → AtMost (p * largest_score) sum
    → SumIs sum (scoring (required_scores ix ss doc)) (p + nodes_of ss) r
    × Oks ix reader.ranges.now ss depth kids' doc

-- and the optional, which match or do not
abbrev pub OptionalScorePre : List ℕ → LeafReader → ℕ → ℕ → ℕ → Type 0
OptionalScorePre kids reader places doc depth =
    (ix : Index) × (ss : Scorers)
    × LentAt ix reader.max_doc reader.postings.now reader.positions.now reader.norms.now doc
    × Scorables ix reader.inverses.now places 0 ss × Oks ix reader.ranges.now ss depth kids doc

abbrev pub OptionalScorePost : List ℕ → LeafReader → ℕ → ℕ → ℕ → Float → List ℕ → Type 0
OptionalScorePost kids reader places doc depth r kids' =
    (ix : Index) (ss : Scorers)
    → LentAt ix reader.max_doc reader.postings.now reader.positions.now reader.norms.now doc
    → Scorables ix reader.inverses.now places 0 ss → Oks ix reader.ranges.now ss depth kids doc
    → SumIs zero_float (optional_scores ix ss doc) (nodes_of ss) r
    × Oks ix reader.ranges.now ss depth kids' doc

-- where the group joins, in the two words of the record
unfoldable pub JoinsAt : Joining → Scorers → ℕ → ℕ → Type 0
JoinsAt (one_more n) rs after at = (after ≡ 0) × (at ≡ sizes_of_first n rs)
JoinsAt afterwards rs after at = after ≡ 1

-- the words behind a Boolean's record: the required parts, the optional, and the rest
pub record PartsAre (ix : Index) (ranges : List ℕ) (rs os : Scorers) (depth doc : ℕ) (rest kids : List ℕ) : Type 0 where
  pub required : List ℕ
  pub optional : List ℕ
  pub is : kids ≡ required ++ (optional ++ rest)
  pub required-ok : Oks ix ranges rs depth required doc
  pub optional-ok : Oks ix ranges os depth optional doc

-- what the score of a Boolean's children asks: its words, its parts, the required all match
pub record JoinAsks (ix : Index) (table : List Float) (places : ℕ) (j : Joining) (rs os : Scorers)
    (n : Boolean) (doc : ℕ) : Type 0 where
  pub required : Scorables ix table places 0 rs
  pub optional : Scorables ix table places 0 os
  pub few : nodes_of rs + nodes_of os ≤ max_records
  pub all : all_match ix rs doc ≡ true
  pub required-end : n.required_end ≡ sizes_of rs
  pub optional-end : n.optional_end ≡ sizes_of rs + sizes_of os
  pub joins : JoinsAt j rs (cond n.afterwards 1 0) n.group_at

abbrev pub JoinPre : List ℕ → Boolean → LeafReader → ℕ → ℕ → ℕ → Type 0
JoinPre kids node reader places doc depth =
    (ix : Index) × (j : Joining) × (rs : Scorers) × (os : Scorers) × (rest : List ℕ)
    × LentAt ix reader.max_doc reader.postings.now reader.positions.now reader.norms.now doc
    × JoinAsks ix reader.inverses.now places j rs os node doc
    × PartsAre ix reader.ranges.now rs os depth doc rest kids

-- the joined score, and the parts as good as before
pub record JoinIs (ix : Index) (j : Joining) (rs os : Scorers) (doc : ℕ) (r : Float) : Type 0 where
  pub is : r ≡ joined_score j (required_scores ix rs doc) (narrowed_sum (optional_scores ix os doc))
  pub small : AtMost ((nodes_of rs + nodes_of os) * largest_score) r

abbrev pub JoinPost : List ℕ → Boolean → LeafReader → ℕ → ℕ → ℕ → Float → List ℕ → Type 0
JoinPost kids node reader places doc depth r kids' =
    (ix : Index) (j : Joining) (rs os : Scorers) (rest : List ℕ)
    → LentAt ix reader.max_doc reader.postings.now reader.positions.now reader.norms.now doc
    → JoinAsks ix reader.inverses.now places j rs os node doc
    → PartsAre ix reader.ranges.now rs os depth doc rest kids → JoinIs ix j rs os doc r
    × PartsAre ix reader.ranges.now rs os depth doc rest kids'
