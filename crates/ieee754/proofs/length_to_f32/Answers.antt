-- std's conversion rounds the length as the definition does.
use Rattle.std.proofs.Common.{ℕ, ap, refl, ◌∙◌}
use lib.IntN.{pos}
use lib.Ieee.{binary32, of_int}
use Rattle.ieee754.proofs.length_to_f32.Goals as goal

-- The lengths are compared by themselves: an edit's log then names the one that differs.
pub returns : goal.returns
returns c = c.nearest_u32_to_f32.ensures ∙ ap (λ (n : ℕ). of_int binary32 (pos n)) refl
