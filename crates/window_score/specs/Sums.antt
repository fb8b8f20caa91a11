-- The sums of a window's 64 documents. Assumes nothing: these are definitions.
use Rattle.std.specs.Prelude.{◌≡◌, Bool, true, false, cond, not, T, List, ℕ, ◌+◌, ◌*◌, ◌^◌, ◌≤◌, ◌<◌, length, get_or, Float}
use Rattle.std.specs.Float.{nan, binary64}
use Rattle.std.specs.Float.Ieee.{is_nan, add}
use Rattle.meaning.specs.Ieee754.{zero_float, sum_from, narrow}
use Rattle.meaning.specs.Limits.{max_records}
use Rattle.tree_weight.specs.Held.{largest_score}
use Rattle.ieee754.specs.Nonneg.{AtMost}
use Rattle.bits.specs.Bit.{bit}

-- 64 sums in f64, each of at most 2^29 for each of q leaves
pub record Sums (q : ℕ) (sums : List Float) : Type 0 where
  pub long : length sums ≡ 64
  pub small : (p : ℕ) → p < 64 → AtMost (q * largest_score) (get_or sums p nan)

-- sums that are all 0
pub record Zeros (sums : List Float) : Type 0 where
  pub long : length sums ≡ 64
  pub zero : (p : ℕ) → p < 64 → get_or sums p nan ≡ zero_float

-- the sum at each wanted place, narrowed, is the score, and the others stay
pub record NarrowedIs (score : ℕ → Float) (want : ℕ) (sums sums' : List Float) : Type 0 where
  pub long : length sums' ≡ 64
  pub wanted : (p : ℕ) → p < 64 → bit p want ≡ true → narrow (get_or sums' p nan) ≡ score p
  pub others : (p : ℕ) → p < 64 → bit p want ≡ false → get_or sums' p nan ≡ get_or sums p nan

-- something is done to the sum at each wanted place, and the others stay
pub record At (f : ℕ → Float → Float) (want : ℕ) (sums sums' : List Float) : Type 0 where
  pub wanted : (p : ℕ) → p < 64 → bit p want ≡ true → get_or sums' p nan ≡ f p (get_or sums p nan)
  pub others : (p : ℕ) → p < 64 → bit p want ≡ false → get_or sums' p nan ≡ get_or sums p nan

-- what a function of a sum and its place may become by calls at wanted places
pub data Reached {F : Type 0} (step : F → Float → ℕ → Float → F → Type 0) (want : ℕ) (sums : List Float)
    (f₀ : F) : F → Type 0 where
  uncalled : Reached step want sums f₀ f₀
  called : {f f' : F} {r : Float} {p : ℕ} → Reached step want sums f₀ f → p < 64 → bit p want ≡ true
      → step f (get_or sums p nan) p r f' → Reached step want sums f₀ f'

-- it may be called at each wanted place
abbrev pub ChangePre : {F : Type 0} → (F → Float → ℕ → Type 0) → (F → Float → ℕ → Float → F → Type 0) → F → ℕ
    → List Float → Type 0
ChangePre {F} pre step f₀ want sums =
    (length sums ≡ 64) × ((f : F) → Reached step want sums f₀ f → (p : ℕ) → p < 64 → bit p want ≡ true
    → pre f (get_or sums p nan) p)

-- what it answers
abbrev pub Answered : {F : Type 0} → (F → Float → ℕ → Float → F → Type 0) → ℕ → List Float → F → Float → ℕ
    → Float → Type 0
Answered {F} step want sums f₀ x p y = (f : F) × (f' : F) × Reached step want sums f₀ f × step f x p y f'

-- the sum at each wanted place is changed so, and the others stay
pub record Changed (post : Float → ℕ → Float → Type 0) (want : ℕ) (sums sums' : List Float) : Type 0 where
  pub long : length sums' ≡ 64
  pub wanted : (p : ℕ) → p < 64 → bit p want ≡ true → post (get_or sums p nan) p (get_or sums' p nan)
  pub others : (p : ℕ) → p < 64 → bit p want ≡ false → get_or sums' p nan ≡ get_or sums p nan

-- two sums, each narrowed to a number, added
abbrev pub BothPre : Float → Float → Type 0
BothPre required group = T (not (is_nan (narrow required))) × T (not (is_nan (narrow group)))

abbrev pub both_of : Float → Float → Float
both_of required group = add binary64 (narrow required) (narrow group)

-- one more score added
abbrev pub Added : (ℕ → Float) → ℕ → List Float → List Float → Type 0
Added score want sums sums' = At (λ p x. add binary64 x (score p)) want sums sums'

-- some more
abbrev pub AddedAll : (ℕ → List Float) → ℕ → List Float → List Float → Type 0
AddedAll scores want sums sums' = At (λ p x. sum_from x (scores p)) want sums sums'

-- there is room for r leaves more
abbrev pub RoomFor : ℕ → ℕ → List Float → Type 0
RoomFor q r sums = (q + r ≤ max_records) × Sums q sums

-- a score of at most 2^29 for each of r leaves is added
abbrev pub ConstantPre : Float → List Float → Type 0
ConstantPre score sums = (q : ℕ) × (r : ℕ) × RoomFor q r sums × AtMost (r * largest_score) score

abbrev pub ConstantPost : Float → ℕ → List Float → List Float → Type 0
ConstantPost score want sums sums' =
    (q r : ℕ) → RoomFor q r sums → AtMost (r * largest_score) score → Added (λ p. score) want sums sums'
    × Sums (q + r) sums'

-- other sums are narrowed and added
abbrev pub NarrowedPre : List Float → List Float → Type 0
NarrowedPre from sums = (q : ℕ) × (r : ℕ) × RoomFor q r sums × Sums r from

abbrev pub NarrowedPost : List Float → ℕ → List Float → List Float → Type 0
NarrowedPost from want sums sums' =
    (q r : ℕ) → RoomFor q r sums → Sums r from → Added (λ p. narrow (get_or from p nan)) want sums sums'
    × Sums (q + r) sums'

-- each sum is narrowed, and another, narrowed, is added to it
abbrev pub AfterPre : List Float → List Float → Type 0
AfterPre group sums = (r : ℕ) × (t : ℕ) × RoomFor r t sums × Sums t group

abbrev pub AfterPost : List Float → ℕ → List Float → List Float → Type 0
AfterPost group want sums sums' =
    At (λ p x. add binary64 (narrow x) (narrow (get_or group p nan))) want sums sums' × (length sums' ≡ 64)
    × ((r t : ℕ) → RoomFor r t sums → Sums t group → Sums (r + t) sums')

-- each sum is narrowed, or stays where it is of an only child's score
abbrev pub NarrowSumsPre : List Float → Type 0
NarrowSumsPre sums = (q : ℕ) × RoomFor q 0 sums

abbrev pub NarrowSumsPost : Bool → ℕ → List Float → List Float → Type 0
NarrowSumsPost only want sums sums' =
    At (λ p x. cond only x (narrow x)) want sums sums' × ((q : ℕ) → RoomFor q 0 sums → Sums q sums')
