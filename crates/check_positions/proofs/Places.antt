-- What the loop over a posting's positions gathers. Assumes nothing.
use Rattle.std.proofs.Common.{◌≡◌, ℕ, zero, suc, ◌+◌, ◌-◌, ◌%◌, ◌<◌, ◌≤◌, false, ◌||◌, ltb, leb, List, get_or, sym, refl, ◌∙◌, add-one, arith, le-ltb, lt-ltb, leb-false}
use lib.Bits.{bit_or}
use Rattle.meaning.specs.Below.{any_below}
use Rattle.check_positions.specs.Places.{wrong_place}
use Rattle.meaning.proofs.Tests.{or_left, or_right}
use Rattle.meaning.proofs.Below.{any-zero, any-more}
use Rattle.check_positions.proofs.High.{step-turn}

-- what a loop carries from one turn to the next: nothing before the first
abbrev pub carried : (ℕ → ℕ) → ℕ → ℕ
carried f zero = 0
carried f (suc i) = f i

pub carried-next : (f : ℕ → ℕ) (i : ℕ) → f i ≡ carried f (i + 1)
carried-next f i = rw add-one

pub pred-suc : (i : ℕ) → suc i - 1 ≡ i
pred-suc i = omega arith

-- ---- positions: the one before
abbrev pub previous_of : List ℕ → ℕ → ℕ
previous_of part = carried (λ i. get_or part i 0)

pub place-next : (part : List ℕ) (j : ℕ) → get_or part j 0 ≡ previous_of part (j + 1)
place-next part j = carried-next (λ i. get_or part i 0) j

place-flag : (part : List ℕ) (j : ℕ) → (leb 2147483648 (get_or part j 0) || ltb (get_or part j 0) (previous_of part j)) ≡ wrong_place part j
unfolding wrong_place
place-flag part zero = rw (le-ltb (get_or part 0 0) 0 (omega arith))
place-flag part (suc j) = let h : 0 < suc j = omega arith in rw (pred-suc, lt-ltb _ _ h)

-- a high bit stands for a wrong position passed; without one the position before is small
pub record Places (part : List ℕ) (j steps previous : ℕ) : Type 0 where
  pub flag : leb 2147483648 steps ≡ any_below j (wrong_place part)
  pub last : previous ≡ previous_of part j
  pub small : leb 2147483648 steps ≡ false → previous ≤ 2147483648

pub places-none : (part : List ℕ) → Places part 0 0 0
places-none part = record { flag = sym (any-zero (wrong_place part)); last = refl; small = λ e. omega arith }

pub places-more : (part : List ℕ) (j s p r : ℕ) → Places part j s p → (r + p) % 4294967296 ≡ get_or part j 0 → r < 4294967296 → Places part (j + 1) (bit_or s (bit_or (get_or part j 0) r)) (get_or part j 0)
places-more part j s p r h e l =
    record {
      flag = turn ∙ any-more j (wrong_place part) (leb 2147483648 s) _ h.flag (place_here h.last);
      last = carried-next (λ i. get_or part i 0) j;
      small = λ g. let k : leb 2147483648 (get_or part j 0) ≡ false = or_left (leb 2147483648 (get_or part j 0)) (ltb (get_or part j 0) p) (or_right (leb 2147483648 s) (leb 2147483648 (get_or part j 0) || ltb (get_or part j 0) p) (sym turn ∙ g)) in let m : get_or part j 0 < 2147483648 = leb-false _ _ k in omega arith;
    }
  where
    turn : leb 2147483648 (bit_or s (bit_or (get_or part j 0) r)) ≡ (leb 2147483648 s || (leb 2147483648 (get_or part j 0) || ltb (get_or part j 0) p))
    turn = step-turn s (get_or part j 0) p r h.small e l

    place_here : p ≡ previous_of part j → (leb 2147483648 (get_or part j 0) || ltb (get_or part j 0) p) ≡ wrong_place part j
    place_here g = rw g (place-flag part j)
