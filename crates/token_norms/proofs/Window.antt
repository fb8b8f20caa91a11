-- The lengths of a window as bytes: those of its documents below N, from the counts of all. Assumes nothing.
use mathlib.Core.Path.{◌≡◌, ap, ◌∙◌}
use mathlib.Core.List.{List}
use Prim.Native.Nat.{ℕ, ◌+◌, ◌-◌, ◌≤◌, ◌<◌, min}
use native.Mathlib.Omega.{arith}
use lib.ListN.{length, get_or, take}
use lib.Seq.{length-take-le, get_or-take}
use Rattle.meaning.specs.Below.{list_to}
use Rattle.meaning.specs.SmallFloat.{int_to_byte4}
use Rattle.meaning.proofs.Below.{length-list_to, get_or-list_to, list_to-same}
use Rattle.token_norms.specs.Lengths.{length_in, RunsOk}

module _ (leaf_fields postings runs : List ℕ) (ok : RunsOk leaf_fields postings runs) (field base n : ℕ) (counts : List ℕ) (are : counts ≡ list_to 4096 (λ j. length_in leaf_fields postings runs field (base + j))) (width : ℕ) (is : width ≡ min 4096 (n - base)) where
  pub window-long : length counts ≡ 4096
  window-long = ap length are ∙ length-list_to 4096 _

  pub part-long : length (take width counts) ≡ width
  part-long = length-take-le width counts (omega (arith, is, window-long))

  part_at : (j : ℕ) → j < width → get_or (take width counts) j 0 ≡ length_in leaf_fields postings runs field (base + j)
  part_at j h = get_or-take width counts j 0 h ∙ ap (λ (xs : List ℕ). get_or xs j 0) are ∙ get_or-list_to 4096 _ 0 j (omega (arith, is))

  -- a length is at most the number of tokens
  pub part_small : (j : ℕ) → j < length (take width counts) → get_or (take width counts) j 0 ≤ 2147483647
  part_small j h = omega (arith, part_at j (omega (arith, h, part-long)), ok.fits field (base + j))

  pub part-coded : list_to (length (take width counts)) (λ j. int_to_byte4 (get_or (take width counts) j 0)) ≡ list_to (min 4096 (n - base)) (λ j. int_to_byte4 (length_in leaf_fields postings runs field (base + j)))
  part-coded =
      ap (λ (k : ℕ). list_to k (λ j. int_to_byte4 (get_or (take width counts) j 0))) (part-long ∙ is)
      ∙ list_to-same (min 4096 (n - base)) _ _ (λ j h. ap int_to_byte4 (part_at j (omega (arith, is))))
