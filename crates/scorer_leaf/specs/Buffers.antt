-- The two buffers for the starts of a phrase's terms. Assumes nothing: these are definitions.
use Rattle.std.specs.Prelude.{◌≡◌, ℕ, length, min}
use Rattle.scorer_leaf.specs.declared.PhraseBuffers.{PhraseBuffers}

-- how many starts each has a place for
abbrev pub room : PhraseBuffers → ℕ
room b = length b.starts.now

abbrev pub other_room : PhraseBuffers → ℕ
other_room b = length b.other_starts.now

-- so many places are there in both
abbrev pub places_in : PhraseBuffers → ℕ
places_in b = min (room b) (other_room b)

-- the same slices, as long as before
pub record SameBuffers (b b' : PhraseBuffers) : Type 0 where
  pub starts_length : room b' ≡ room b
  pub other_starts_length : other_room b' ≡ other_room b
  pub starts : b'.starts.ghost_name ≡ b.starts.ghost_name
  pub other_starts : b'.other_starts.ghost_name ≡ b.other_starts.ghost_name
