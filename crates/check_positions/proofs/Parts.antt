-- A posting's positions as a part of the positions. Assumes nothing.
use Rattle.std.proofs.Common.{◌≡◌, ℕ, ◌+◌, ◌-◌, ◌<◌, ◌≤◌, true, List, [], length, lit<, get_or, take, drop, arith, length-drop, length-take, get_or-drop, get_or-take, le-ltb, lt-ltb}
use Rattle.std.specs.Simd.{first_chunks}
use Rattle.meaning.specs.Below.{any_below}
use Rattle.meaning.specs.Lent.{Index, leaf_positions_index}
use Rattle.meaning.specs.IndexRefusals.{wrong_position}
use Rattle.check_positions.specs.Places.{wrong_place, wrong_places}
use Rattle.meaning.proofs.Below.{any-like}
use Rattle.index.proofs.Chains.{chunk_word}

-- a posting's positions
module _ (positions : List ℕ) (index frequency : ℕ) (fits : index + frequency ≤ length positions) where
  part_length : length (take (index + frequency - index) (drop index positions)) ≡ frequency
  part_length = simp (length-take, length-drop) (omega arith)

  part-like : (j : ℕ) → j < frequency → wrong_place (take (index + frequency - index) (drop index positions)) j ≡ wrong_place (drop index positions) j
  unfolding wrong_place
  part-like j l = let h : j < index + frequency - index = omega arith in let g : j - 1 < index + frequency - index = omega arith in rw (get_or-take _ _ _ _ h, get_or-take _ _ _ _ g)

  places-part : any_below (length (take (index + frequency - index) (drop index positions))) (wrong_place (take (index + frequency - index) (drop index positions))) ≡ any_below frequency (wrong_place (drop index positions))
  places-part = rw part_length (any-like frequency (wrong_place (take (index + frequency - index) (drop index positions))) (wrong_place (drop index positions)) part-like)

-- the positions of a record alone
module _ (record-words positions : List ℕ) where
  pub places-within : get_or record-words 2 0 + get_or record-words 1 0 ≤ length positions → any_below (length (take (get_or record-words 2 0 + get_or record-words 1 0 - get_or record-words 2 0) (drop (get_or record-words 2 0) positions))) (wrong_place (take (get_or record-words 2 0 + get_or record-words 1 0 - get_or record-words 2 0) (drop (get_or record-words 2 0) positions))) ≡ wrong_places record-words positions 0
  unfolding wrong_places
  places-within h = rw (le-ltb _ _ h) (places-part positions (get_or record-words 2 0) (get_or record-words 1 0) h)

  pub places-past : length positions < get_or record-words 2 0 + get_or record-words 1 0 → true ≡ wrong_places record-words positions 0
  unfolding wrong_places
  places-past h = rw (lt-ltb _ _ h)

-- the positions of the i-th record, asked of that record
pub record_places : (run positions : List ℕ) (n i : ℕ) → i < n → wrong_places (get_or (first_chunks 3 n run) i []) positions 0 ≡ wrong_places run positions i
unfolding wrong_places
record_places run positions n i l = rw (chunk_word 3 n run i 2 l (lit< tt), chunk_word 3 n run i 1 l (lit< tt))

-- the positions of a posting of the leaf, asked of the slice from its index on
pub places-are : (ix : Index) (l i j : ℕ) → wrong_place (drop (leaf_positions_index ix l i) ix.positions) j ≡ wrong_position ix l i j
unfolding wrong_place wrong_position
places-are ix l i j = rw (get_or-drop, get_or-drop)
