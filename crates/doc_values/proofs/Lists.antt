-- The numbers below a bound that have a property, as a list that is written to the front of a buffer. Assumes nothing.
use mathlib.Core.Path.{◌≡◌, refl, sym, ap, ◌∙◌}
use mathlib.Core.Bool.{Bool, true, false}
use mathlib.Core.List.{List, [], ◌∷◌, ◌++◌, append_assoc}
use Prim.Native.Nat.{ℕ, suc, ◌+◌, ◌<◌}
use native.Mathlib.Numerals.{add-one}
use native.Mathlib.Omega.{arith}
use lib.ListN.{length, get_or, drop, set, length-append}
use lib.Seq.{drop-cons, set_at}
use Rattle.meaning.specs.Below.{list_below}
use Rattle.meaning.specs.Entries.{written}
-- the laws of such a list, passed on
pub use Rattle.meaning.proofs.Tests.{decided}
pub use Rattle.meaning.proofs.Below.{any_none, any_some, list-taken, list_left, list_length, list_same, listed_at, listed-ascends, listed_has, listed-exactly}

-- one entry more, stored behind those that are written
pub written-more : (xs out : List ℕ) (d : ℕ) → length xs < length out → set (written xs out) (length xs) d ≡ written (xs ++ (d ∷ [])) out
written-more xs out d h =
    let size : suc (length xs) ≡ length (xs ++ (d ∷ [])) = omega (arith, length-append xs (d ∷ [])) in
    ap (λ (l : List ℕ). set (xs ++ l) (length xs) d) (drop-cons out (length xs) 0 h)
    ∙ set_at xs (get_or out (length xs) 0) (drop (suc (length xs)) out) d (length xs) refl
    ∙ sym (append_assoc xs (d ∷ []) (drop (suc (length xs)) out))
    ∙ ap (λ (n : ℕ). (xs ++ (d ∷ [])) ++ drop n out) size

-- a turn of a scan that has written what it listed below d: it takes d, or leaves it
module _ (p : ℕ → Bool) (out₀ out : List ℕ) (d held : ℕ) (size : held ≡ length (list_below d p)) (so_far : out ≡ written (list_below d p) out₀) where
  pub turn-taken : p d ≡ true → d < length out₀ → (held + 1 ≡ length (list_below (d + 1) p)) × (set out held d ≡ written (list_below (d + 1) p) out₀)
  turn-taken e h =
      let l = list_below d p in
      let more : list_below (d + 1) p ≡ l ++ (d ∷ []) = rw add-one (list-taken p d e) in (
        omega (arith, ap length more, length-append l (d ∷ [])),
        rw (so_far, size) (written-more l out₀ d (omega (arith, list_length p d)) ∙ ap (λ (x : List ℕ). written x out₀) (sym more)),
      )

  pub turn-left : p d ≡ false → (held ≡ length (list_below (d + 1) p)) × (out ≡ written (list_below (d + 1) p) out₀)
  turn-left e = let same : list_below (d + 1) p ≡ list_below d p = rw add-one (list_left p d e) in rw same (size, so_far)
