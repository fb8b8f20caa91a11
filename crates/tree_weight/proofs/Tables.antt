-- Where every field has its inverses, those of a sound tree have them. Assumes nothing.
use Prim.Native.Nat.{ℕ, ◌<◌}
use lib.Ieee.{Float}
use mathlib.Core.List.{List}
use Rattle.meaning.specs.Lent.{Index, field_count, leaf_field}
use Rattle.index.specs.Accepted.{Accepted}
use Rattle.tree_weight.specs.ScorerTree.{Leaf, nothing, term, phrase, range, everything, Scoring, constant, weighted, Scorer, leaf, boolean, Scorers, end, more}
use Rattle.tree_weight.specs.Sound.{FieldTable, LeafTable, LeafSound, Sound, Sounds, Tables, TablesOf}

module _ (ix : Index) (places : ℕ) (table : List Float) (accepted : Accepted ix) (all : (f : ℕ) → f < field_count ix → FieldTable ix table f) where
  leaf-table : (l : Leaf) (s : Scoring) → LeafSound ix places l → LeafTable ix table l s
  unfolding LeafSound LeafTable
  leaf-table l (constant c) h = tt
  leaf-table nothing (weighted w) h = tt
  leaf-table (term l) (weighted w) h = all (leaf_field ix l) (accepted.leaf l h).field
  leaf-table (phrase f ts) (weighted w) h = all f h.0
  leaf-table (range r) (weighted w) h = tt
  leaf-table everything (weighted w) h = tt

  mutual
    unfolding Sound Tables

    -- THE theorem
    pub sound-tables : (T : Scorer) → Sound ix places T → Tables ix table T
    sound-tables (leaf l s) h = leaf-table l s h
    sound-tables (boolean c j need rs os ps) h = (sounds-tables rs h.0, sounds-tables os h.1, sounds-tables ps h.2)

    pub sounds-tables : (ss : Scorers) → Sounds ix places ss → TablesOf ix table ss
    sounds-tables end h = tt
    sounds-tables (more b s ss) h = (sound-tables s h.0, sounds-tables ss h.1)
