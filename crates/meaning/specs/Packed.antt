-- A leaf's run as a list of postings, and the words of postings, positions and leaves that hold some runs. Assumes nothing: these are definitions.
use Rattle.std.specs.Prelude.{Bool, cond, List, [], ◌∷◌, ◌++◌, ℕ, zero, suc, ◌+◌, length, get_or}
use Rattle.meaning.specs.Below.{list_to}
use Rattle.meaning.specs.Lent.{Index, has_positions, leaf_field, leaf_number, leaf_document, leaf_frequency, leaf_position}

-- a posting: its document, its frequency, and its positions (none in a field without positions)
pub record Posting : Type 0 where
  pub document : ℕ
  pub frequency : ℕ
  pub positions : List ℕ

-- a leaf's run as the index holds it
unfoldable pub run_of : Index → ℕ → List Posting
run_of ix l =
    list_to (leaf_number ix l) (λ i. record { document = leaf_document ix l i; frequency = leaf_frequency ix l i; positions = cond (has_positions ix (leaf_field ix l)) (list_to (leaf_frequency ix l i) (leaf_position ix l i)) [] })

-- f 0, f 1 and so on, n lists one after the other
unfoldable pub join_to {ℓ} : {A : Type ℓ} → ℕ → (ℕ → List A) → List A
join_to zero f = []
join_to (suc n) f = join_to n f ++ f n

-- the positions of a run's postings, one after the other
unfoldable pub positions_in : List Posting → List ℕ
positions_in [] = []
positions_in (x ∷ xs) = x.positions ++ positions_in xs

-- the words of a run whose positions begin at index `at`; p: its field has positions, else the index is 0
unfoldable pub pack_run : Bool → ℕ → List Posting → List ℕ
pack_run p at [] = []
pack_run p at (x ∷ xs) = x.document ∷ x.frequency ∷ cond p at 0 ∷ pack_run p (at + length x.positions) xs

-- the words of all runs in turn; ps says of each run whether its field has positions
unfoldable pub pack_postings : List Bool → ℕ → List (List Posting) → List ℕ
pack_postings ps at [] = []
pack_postings [] at (r ∷ rs) = []
pack_postings (p ∷ ps) at (r ∷ rs) = pack_run p at r ++ pack_postings ps (at + length (positions_in r)) rs

-- the positions of all runs in turn
unfoldable pub pack_positions : List (List Posting) → List ℕ
pack_positions [] = []
pack_positions (r ∷ rs) = positions_in r ++ pack_positions rs

-- how many postings the runs have
unfoldable pub postings_in : List (List Posting) → ℕ
postings_in [] = 0
postings_in (r ∷ rs) = length r + postings_in rs

-- the postings before each run, `at` before the first: "an empty run begins where the one before ends"
unfoldable pub pack_firsts : ℕ → List (List Posting) → List ℕ
pack_firsts at [] = []
pack_firsts at (r ∷ rs) = at ∷ pack_firsts (at + length r) rs

-- the leaves' words: field, first posting, number of postings, idf (0 where there are too few)
unfoldable pub pack_leaves : List ℕ → List ℕ → List (List Posting) → List ℕ
pack_leaves leaf_fields idfs rs =
    join_to (length rs) (λ l. get_or leaf_fields l 0 ∷ get_or (pack_firsts 0 rs) l 0 ∷ length (get_or rs l []) ∷ get_or idfs l 0 ∷ [])

-- "two words a leaf, first posting and number of postings"
unfoldable pub pack_runs : List (List Posting) → List ℕ
pack_runs rs = join_to (length rs) (λ l. get_or (pack_firsts 0 rs) l 0 ∷ length (get_or rs l []) ∷ [])
