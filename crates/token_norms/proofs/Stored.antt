-- What stands in a part that was lent and written whole is stored at the part's place. Assumes nothing.
use Rattle.std.proofs.Common.{◌≡◌, ℕ, ◌+◌, ◌-◌, ◌≤◌, List, ◌++◌, length, take, drop, sym, ◌∙◌, ap, append_assoc, arith}
use Rattle.std.proofs.lemmas.List.Edits.{sets, sets-eq}
use borrow.Rule.Slice.PartMut.{put_mid, Post-is}

pub put-sets : (a e : ℕ) (xs ys : List ℕ) → a + length ys ≡ e → e ≤ length xs → put_mid a (e - a) xs ys ≡ sets xs a ys
put-sets a e xs ys h g =
    ap (λ (z : List ℕ). take a xs ++ (ys ++ z)) (Post-is a e xs (omega (arith, h)) ∙ ap (λ (k : ℕ). drop k xs) (sym h))
    ∙ sym (sets-eq ys xs a (omega (arith, h, g)) ∙ append_assoc (take a xs) ys (drop (a + length ys) xs))
