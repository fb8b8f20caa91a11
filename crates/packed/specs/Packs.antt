-- An index whose words are those of some runs. Assumes nothing: these are definitions.
use Rattle.std.specs.Prelude.{◌≡◌, Bool, cond, List, [], ◌∷◌, ℕ, ◌<◌, length, get_or}
use Rattle.meaning.specs.Below.{list_to}
use Rattle.meaning.specs.Lent.{Index, has_positions}
use Rattle.meaning.specs.Packed.{Posting, pack_postings, pack_positions, pack_leaves}

-- with positions each posting has as many as its frequency, without none
abbrev pub Packable : Bool → List Posting → Type 0
Packable p [] = Unit
Packable p (x ∷ xs) = (length x.positions ≡ cond p x.frequency 0) × Packable p xs

-- the index's leaves, postings and positions are the packed words of the runs, one for each leaf
pub record Packs (ix : Index) (leaf_fields idfs : List ℕ) (rs : List (List Posting)) : Type 0 where
  pub leaves : ix.leaves ≡ pack_leaves leaf_fields idfs rs
  pub postings : ix.postings ≡ pack_postings (list_to (length rs) (λ l. has_positions ix (get_or leaf_fields l 0))) 0 rs
  pub positions : ix.positions ≡ pack_positions rs
  pub packable : (l : ℕ) → l < length rs → Packable (has_positions ix (get_or leaf_fields l 0)) (get_or rs l [])
