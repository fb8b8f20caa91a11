-- What Place answers. Assumes nothing: these are definitions.
use Rattle.std.specs.Prelude.{◌≡◌, List, ◌<◌, ℤ, Option, Some, None}
use Rattle.meaning.specs.Phrase.{smallest, common_size}

-- None where the lists have no common part, and else a start that each of them has
unfoldable pub PlacedIn : List (List ℤ) → Option ℤ → Type 0
PlacedIn xss None = common_size xss ≡ 0
PlacedIn xss (Some s) = 0 < smallest s xss
