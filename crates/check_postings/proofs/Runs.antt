-- A leaf's run as a part of the postings. Assumes nothing.
use Rattle.std.proofs.Common.{◌≡◌, ℕ, zero, suc, ◌+◌, ◌-◌, ◌*◌, ◌/◌, ◌<◌, ◌≤◌, Bool, true, false, not, ◌&&◌, ◌||◌, eqb, ltb, leb, List, length, get_or, take, drop, sym, refl, ap, ◌∙◌, arith, length-drop, length-take, get_or-drop, get_or-take, lt-ltb, ne_eqb}
use mathlib.Core.Bool.{or_assoc, or-false, and-true, and-false}
use Rattle.meaning.specs.Below.{any_below}
use Rattle.meaning.specs.Limits.{largest_frequency}
use Rattle.meaning.specs.Lent.{Index, has_positions, posting_count, leaf_field, leaf_first, leaf_number, leaf_document, leaf_frequency, leaf_positions_index}
use Rattle.meaning.specs.IndexRefusals.{wrong_posting, wrong_positions, wrong_position}
use Rattle.check_postings.specs.Runs.{wrong_record}
use Rattle.check_positions.specs.Places.{wrong_places}
use Rattle.meaning.proofs.Below.{any-like, any-or}
use Rattle.check_positions.proofs.Parts.{places-are}

-- a leaf's run
module _ (ix : Index) (l : ℕ) (fits : leaf_first ix l + leaf_number ix l ≤ posting_count ix) where
  abbrev run_of : List ℕ
  run_of = take (3 * leaf_first ix l + 3 * leaf_number ix l - 3 * leaf_first ix l) (drop (3 * leaf_first ix l) ix.postings)

  run-count : length run_of / 3 ≡ leaf_number ix l
  run-count = simp (length-take, length-drop) (omega arith)

  run-word : (k m : ℕ) → k < 3 * leaf_number ix l → 3 * leaf_first ix l + k ≡ m → get_or run_of k 0 ≡ get_or ix.postings m 0
  run-word k m h e = let g : k < 3 * leaf_first ix l + 3 * leaf_number ix l - 3 * leaf_first ix l = omega arith in get_or-take _ _ k 0 g ∙ get_or-drop _ ix.postings k 0 ∙ ap (λ (a : ℕ). get_or ix.postings a 0) e

  -- a record of the run is a posting of the leaf
  run-document : (i : ℕ) → i < leaf_number ix l → get_or run_of (3 * i) 0 ≡ leaf_document ix l i
  run-document i h = run-word (3 * i) (3 * (leaf_first ix l + i)) (omega arith) (omega arith)

  run-frequency : (i : ℕ) → i < leaf_number ix l → get_or run_of (3 * i + 1) 0 ≡ leaf_frequency ix l i
  run-frequency i h = run-word (3 * i + 1) (3 * (leaf_first ix l + i) + 1) (omega arith) (omega arith)

  run_index : (i : ℕ) → i < leaf_number ix l → get_or run_of (3 * i + 2) 0 ≡ leaf_positions_index ix l i
  run_index i h = run-word (3 * i + 2) (3 * (leaf_first ix l + i) + 2) (omega arith) (omega arith)

  -- wrong_record of the run, said of the leaf
  leaf_record : Bool → ℕ → Bool
  leaf_record positions i =
      (leb ix.max_doc (leaf_document ix l i) || (ltb 0 i && leb (leaf_document ix l i) (leaf_document ix l (i - 1)))) || (eqb (leaf_frequency ix l i) 0 || ltb largest_frequency (leaf_frequency ix l i)) || (ltb 0 (leaf_positions_index ix l i) && not positions)

  record_is : (positions : Bool) (i : ℕ) → i < leaf_number ix l → wrong_record ix.max_doc positions run_of i ≡ leaf_record positions i
  unfolding wrong_record leaf_record
  record_is positions i h =
      let g : i - 1 < leaf_number ix l = omega arith in rw (run-document i h, run-document (i - 1) g, run-frequency i h, run_index i h)

  places_is : (i : ℕ) → i < leaf_number ix l → wrong_places run_of ix.positions i ≡ (ltb (length ix.positions) (leaf_positions_index ix l i + leaf_frequency ix l i) || any_below (leaf_frequency ix l i) (wrong_position ix l i))
  unfolding wrong_places
  places_is i h = rw (run-frequency i h, run_index i h, any-like (leaf_frequency ix l i) _ _ (λ j g. places-are ix l i j))

  -- the first four parts of wrong_posting, grouped as the code has them
  grouped : (a b c d e : Bool) → ((a || b) || (c || d) || e) ≡ (a || b || c || d || e)
  grouped a b c d e = ap (λ (x : Bool). x || e) (sym (or_assoc (a || b) c d))

  posting-with : (i : ℕ) → has_positions ix (leaf_field ix l) ≡ true → (leaf_record true i || (ltb (length ix.positions) (leaf_positions_index ix l i + leaf_frequency ix l i) || any_below (leaf_frequency ix l i) (wrong_position ix l i))) ≡ wrong_posting ix l i
  unfolding leaf_record wrong_posting wrong_positions
  posting-with i e = rw (e, and-false, or-false) (grouped (leb ix.max_doc (leaf_document ix l i)) (ltb 0 i && leb (leaf_document ix l i) (leaf_document ix l (i - 1))) (eqb (leaf_frequency ix l i) 0) (ltb largest_frequency (leaf_frequency ix l i)) _)

  -- an index above 0 is one that is not 0
  above_zero : (n : ℕ) → ltb 0 n ≡ not (eqb n 0)
  above_zero zero = refl
  above_zero (suc n) = let h : 0 < suc n = omega arith in let g : suc n ≡ 0 → ⊥ = λ e. omega arith in rw (lt-ltb _ _ h, ne_eqb _ _ g)

  posting-without : (i : ℕ) → has_positions ix (leaf_field ix l) ≡ false → leaf_record false i ≡ wrong_posting ix l i
  unfolding leaf_record wrong_posting wrong_positions
  posting-without i e = rw (e, and-true, above_zero (leaf_positions_index ix l i)) (grouped (leb ix.max_doc (leaf_document ix l i)) (ltb 0 i && leb (leaf_document ix l i) (leaf_document ix l (i - 1))) (eqb (leaf_frequency ix l i) 0) (ltb largest_frequency (leaf_frequency ix l i)) _)

  -- the two passes over a run in a field with positions
  run-with : has_positions ix (leaf_field ix l) ≡ true → (any_below (length run_of / 3) (wrong_record ix.max_doc true run_of) || any_below (length run_of / 3) (wrong_places run_of ix.positions)) ≡ any_below (leaf_number ix l) (wrong_posting ix l)
  run-with e =
      rw run-count (sym (any-or (leaf_number ix l) _ _) ∙ any-like (leaf_number ix l) _ _ (λ i g. ap (λ (b : Bool). b || wrong_places run_of ix.positions i) (record_is true i g) ∙ ap (λ (b : Bool). leaf_record true i || b) (places_is i g) ∙ posting-with i e))

  -- the one pass in a field without
  run-without : has_positions ix (leaf_field ix l) ≡ false → any_below (length run_of / 3) (wrong_record ix.max_doc false run_of) ≡ any_below (leaf_number ix l) (wrong_posting ix l)
  run-without e = rw run-count (any-like (leaf_number ix l) _ _ (λ i g. record_is false i g ∙ posting-without i e))

  -- the same where the code holds the leaf's words in locals
  abbrev part_of : ℕ → ℕ → List ℕ
  part_of first number = take (3 * first + 3 * number - 3 * first) (drop (3 * first) ix.postings)

  module _ (first number : ℕ) (e : first ≡ leaf_first ix l) (g : number ≡ leaf_number ix l) where
    run-flag : (has r s : Bool) → has ≡ has_positions ix (leaf_field ix l) → r ≡ any_below (length (part_of first number) / 3) (wrong_record ix.max_doc has (part_of first number)) → s ≡ any_below (length (part_of first number) / 3) (wrong_places (part_of first number) ix.positions) → (r || (has && s)) ≡ any_below (leaf_number ix l) (wrong_posting ix l)
    run-flag true r s h a b = rw (a, b, e, g) (run-with (sym h))
    run-flag false r s h a b = rw (or-false, a, e, g) (run-without (sym h))

    -- and where it is known how a test came out
    pub run-way : (has r s : Bool) → has ≡ has_positions ix (leaf_field ix l) → r ≡ any_below (length (part_of first number) / 3) (wrong_record ix.max_doc has (part_of first number)) → s ≡ any_below (length (part_of first number) / 3) (wrong_places (part_of first number) ix.positions) → (has' r' : Bool) → has ≡ has' → r ≡ r' → (r' || (has' && s)) ≡ any_below (leaf_number ix l) (wrong_posting ix l)
    run-way has r s h a b has' r' c d = ap (λ (x : Bool). x || (has' && s)) (sym d) ∙ ap (λ (x : Bool). r || (x && s)) (sym c) ∙ run-flag has r s h a b
