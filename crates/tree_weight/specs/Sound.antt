-- What is known of a scorer tree that was made from an accepted index and query.
-- Assumes nothing: these are definitions.
use Rattle.std.specs.Prelude.{◌≡◌, true, List, [], ◌∷◌, ℕ, ◌+◌, ◌*◌, ◌≤◌, ◌<◌, length, get_or, Float}
use Rattle.std.specs.Float.{nan, binary32}
use Rattle.std.specs.Float.Ieee.{of_bits}
use Rattle.meaning.specs.Limits.{no_more_docs}
use Rattle.meaning.specs.Lent.{Index, field_count, field_average, has_positions, leaf_count, leaf_field}
use Rattle.meaning.specs.Bm25.{length_of, inverse}
use Rattle.meaning.specs.Phrase.{PhraseTerm}
use Rattle.meaning.specs.CallRefusals.{largest_in}
use Rattle.index.specs.Accepted.{Accepted}
use Rattle.tree_weight.specs.ScorerTree.{Leaf, nothing, term, phrase, range, everything, Scoring, constant, weighted, Scorer, leaf, boolean, Scorers, end, more}
use Rattle.sim.specs.declared.bm25.TheConstants.{INVERSES}

-- an accepted index whose N, postings and positions are those that are lent
pub record Lends (ix : Index) (n : ℕ) (postings positions : List ℕ) : Type 0 where
  pub accepted : Accepted ix
  pub documents : ix.max_doc ≡ n
  pub postings-are : ix.postings ≡ postings
  pub positions-are : ix.positions ≡ positions

-- a phrase's term: its leaf is there and of the phrase's field, its offset small, its starts have room in so many
-- places
pub record PhraseTermIs (ix : Index) (f places : ℕ) (t : PhraseTerm) : Type 0 where
  pub leaf-there : t.leaf < leaf_count ix
  pub field_is : leaf_field ix t.leaf ≡ f
  pub offset-small : t.offset ≤ no_more_docs
  pub room : largest_in ix t.leaf ≤ places

unfoldable pub EachTerm : Index → ℕ → ℕ → List PhraseTerm → Type 0
EachTerm ix f places [] = Unit
EachTerm ix f places (t ∷ ts) = PhraseTermIs ix f places t × EachTerm ix f places ts

-- a leaf names what is there; a phrase has a term, at most 32, and a field with positions
unfoldable pub LeafSound : Index → ℕ → Leaf → Type 0
LeafSound ix places nothing = Unit
LeafSound ix places (term l) = l < leaf_count ix
LeafSound ix places (phrase f ts) =
    (f < field_count ix) × (has_positions ix f ≡ true) × (0 < length ts) × (length ts ≤ 32)
    × EachTerm ix f places ts
LeafSound ix places (range r) = Unit
LeafSound ix places everything = Unit

unfoldable mutual
  -- every leaf of the tree is sound, with phrase buffers of so many places
  pub Sound : Index → ℕ → Scorer → Type 0
  Sound ix places (leaf l s) = LeafSound ix places l
  Sound ix places (boolean c j need rs os ps) =
      Sounds ix places rs × Sounds ix places os × Sounds ix places ps

  pub Sounds : Index → ℕ → Scorers → Type 0
  Sounds ix places end = Unit
  Sounds ix places (more b s ss) = Sound ix places s × Sounds ix places ss

unfoldable mutual
  -- how many nodes the tree has: a sum of scores has at most so many terms
  pub nodes : Scorer → ℕ
  nodes (leaf l s) = 1
  nodes (boolean c j need rs os ps) = 1 + (nodes_of rs + (nodes_of os + nodes_of ps))

  pub nodes_of : Scorers → ℕ
  nodes_of end = 0
  nodes_of (more b s ss) = nodes s + nodes_of ss

-- the inverses of a field: 256 of them, from place 256 × field on
abbrev pub FieldTable : Index → List Float → ℕ → Type 0
FieldTable ix table f =
    (n : ℕ) → n < INVERSES
    → get_or table (INVERSES * f + n) nan ≡ inverse (of_bits binary32 (field_average ix f)) (length_of n)

-- the fields of the leaves that score by BM25 have their inverses
unfoldable pub LeafTable : Index → List Float → Leaf → Scoring → Type 0
LeafTable ix table l (constant c) = Unit
LeafTable ix table nothing (weighted w) = Unit
LeafTable ix table (term l) (weighted w) = FieldTable ix table (leaf_field ix l)
LeafTable ix table (phrase f ts) (weighted w) = FieldTable ix table f
LeafTable ix table (range r) (weighted w) = Unit
LeafTable ix table everything (weighted w) = Unit

unfoldable mutual
  pub Tables : Index → List Float → Scorer → Type 0
  Tables ix table (leaf l s) = LeafTable ix table l s
  Tables ix table (boolean c j need rs os ps) =
      TablesOf ix table rs × TablesOf ix table os × TablesOf ix table ps

  pub TablesOf : Index → List Float → Scorers → Type 0
  TablesOf ix table end = Unit
  TablesOf ix table (more b s ss) = Tables ix table s × TablesOf ix table ss
