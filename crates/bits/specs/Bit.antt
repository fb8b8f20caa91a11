-- The bits of a word, the lowest first, and of many words. Assumes nothing: these are definitions.
use Rattle.std.specs.Prelude.{◌≡◌, Bool, true, false, not, ◌&&◌, eqb, ℕ, zero, suc, ◌+◌, ◌*◌, ◌/◌, ◌%◌, ◌<◌, List, ◌∷◌, get_or, Option, MatchOption}
use Rattle.meaning.specs.Below.{list_below}

-- a digit is 1
abbrev pub digit : ℕ → Bool
digit zero = false
digit (suc n) = true

-- bit p of a word
unfoldable pub bit : ℕ → ℕ → Bool
bit zero w = digit (w % 2)
bit (suc p) w = bit p (w / 2)

-- the places of the bits that are set, ascending
abbrev pub set_bits : ℕ → List ℕ
set_bits w = list_below 64 (λ p. bit p w)

-- place t has the lowest bit that is set
pub record LowestBit (w t : ℕ) : Type 0 where
  pub within : t < 64
  pub set : bit t w ≡ true
  pub below : (q : ℕ) → q < t → bit q w ≡ false

-- a step from the set bits of w: the lowest one's place, and the others are left in v; or none is set, nor left
abbrev pub NextSet : ℕ → Option ℕ → ℕ → Type 0
NextSet w r v =
    MatchOption r ((w ≡ 0) × (v ≡ 0))
    (λ t. LowestBit w t × ((q : ℕ) → bit q v ≡ bit q w && not (eqb q t)) × (set_bits w ≡ t ∷ set_bits v))

-- how many words of 32 bits have so many
abbrev pub bitmap_words : ℕ → ℕ
bitmap_words n = (n + 31) / 32

-- the bits of so many words, from the first one on, are the numbers that have the property
abbrev pub Bitmap : (ℕ → Bool) → List ℕ → ℕ → ℕ → Type 0
Bitmap P words first number = (i p : ℕ) → i < number → p < 32 → bit p (get_or words (first + i) 0) ≡ P (32 * i + p)
