use Rattle.std.proofs.Common.{ℕ, ◌+◌, ◌*◌, ◌≤◌, ◌<◌, ◌≡◌, Bool, false, length}
use Rattle.bits.specs.Bit.{Bitmap}
use Rattle.scorer_leaf.proofs.next_set.Given as goal

-- no bit is set from the target up to the one where the search stands
abbrev pub invariant-loop-at : goal.invariant-loop-at
invariant-loop-at l =
    (l.skip < 32) × (l.target ≤ 32 * l.at + l.skip) × ((P : ℕ → Bool) → Bitmap P l.bitmap 0 (length l.bitmap) → (d : ℕ) → l.target ≤ d → d < 32 * l.at + l.skip → P d ≡ false)
