-- totalOrder is the order of the keys.
use mathlib.Core.Path.{sym, ap, ◌∙◌}
use Prim.Native.Nat.{ℕ}
use native.Mathlib.Omega.{arith}
use lib.Dec.{ltb}
use Rattle.ieee754.specs.TotalOrder.{total_key}
use Rattle.ieee754.proofs.TotalOrder.{total-key}
use Rattle.ieee754.proofs.total_below.Goals as goal

pub returns : goal.returns
returns c =
    let s = c.before.before in
    ap (λ (z : ℕ). ltb z c.total_key-2.result) c.before.total_key.ensures
    ∙ ap (λ (z : ℕ). ltb (total_key s.args.a) z) c.total_key-2.ensures
    ∙ sym (total-key s.args.a s.args.b (omega (arith, s.ranges.a)) (omega (arith, s.ranges.b)))
