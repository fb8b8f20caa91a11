-- Whether a work buffer is too short, test by test, and where none is. Assumes nothing.
use mathlib.Core.Path.{◌≡◌, refl}
use mathlib.Core.Bool.{Bool, true, false}
use mathlib.Core.List.{List}
use Prim.Native.Nat.{ℕ, ◌≤◌, ◌<◌, min}
use native.Mathlib.Omega.{arith}
use borrow.Author.Tests.{lt-ltb, le-ltb, ltb-false}
use lib.Dec.{ltb}
use Rattle.meaning.specs.Lent.{Index}
use Rattle.meaning.specs.CallRefusals.{Work, states_needed, starts_needed, ranges_needed, starts_short, work_short}
use Rattle.meaning.proofs.Tests.{or_left, or_right, or-3}
use Rattle.check_order.specs.WorkOf.{work, place_work}

-- the phrase buffers alone tell whether they are too short
pub starts-alone : (ix : Index) (q : List ℕ) (states starts other_starts ranges : ℕ) → starts_short ix q (place_work starts other_starts) ≡ starts_short ix q (work states starts other_starts ranges)
unfolding starts_short
starts-alone ix q states starts other_starts ranges = refl

module _ (ix : Index) (q : List ℕ) (w : Work) where
  -- ---- the phrase buffers
  pub first_short : (needed : ℕ) → needed ≡ starts_needed ix q → w.starts < needed → true ≡ starts_short ix q w
  unfolding starts_short
  first_short needed e h = rw (← e, lt-ltb w.starts needed h)

  pub second_short : (needed : ℕ) → needed ≡ starts_needed ix q → needed ≤ w.starts → ltb w.other_starts needed ≡ starts_short ix q w
  unfolding starts_short
  second_short needed e h = rw (← e, le-ltb w.starts needed h)

  -- ---- all of them
  pub states-short : (needed : ℕ) → needed ≡ states_needed q → w.states < needed → true ≡ work_short ix q w
  unfolding work_short
  states-short needed e h = rw (← e, lt-ltb w.states needed h)

  pub starts-short : (needed : ℕ) → needed ≡ states_needed q → needed ≤ w.states → (b : Bool) → b ≡ starts_short ix q w → b ≡ true → true ≡ work_short ix q w
  unfolding work_short
  starts-short needed e h b d f = rw (← e, le-ltb w.states needed h, ← d, f)

  pub ranges-short : (needed ranges : ℕ) → needed ≡ states_needed q → needed ≤ w.states → (b : Bool) → b ≡ starts_short ix q w → b ≡ false → ranges ≡ ranges_needed ix q → ltb w.ranges ranges ≡ work_short ix q w
  unfolding work_short
  ranges-short needed ranges e h b d f g = rw (← e, le-ltb w.states needed h, ← d, f, ← g)

  -- ---- none is too short
  module _ (e : work_short ix q w ≡ false) where
    parts : (ltb w.states (states_needed q) ≡ false) × (starts_short ix q w ≡ false) × (ltb w.ranges (ranges_needed ix q) ≡ false)
    unfolding work_short
    parts = or-3 (ltb w.states (states_needed q)) (starts_short ix q w) (ltb w.ranges (ranges_needed ix q)) e

    pub states-room : states_needed q ≤ w.states
    states-room = ltb-false w.states (states_needed q) parts.0

    pub ranges-room : ranges_needed ix q ≤ w.ranges
    ranges-room = ltb-false w.ranges (ranges_needed ix q) parts.2

    pub starts-room : starts_needed ix q ≤ min w.starts w.other_starts
    unfolding starts_short
    starts-room =
        let a = ltb-false w.starts (starts_needed ix q) (or_left (ltb w.starts (starts_needed ix q)) (ltb w.other_starts (starts_needed ix q)) parts.1) in
        let b = ltb-false w.other_starts (starts_needed ix q) (or_right (ltb w.starts (starts_needed ix q)) (ltb w.other_starts (starts_needed ix q)) parts.1) in
        omega (arith, a, b)
