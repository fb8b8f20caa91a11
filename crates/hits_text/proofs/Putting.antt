-- Text that is put at the end of a text, and more behind it. Assumes nothing.
use Rattle.std.proofs.Common.{◌≡◌, ap, ◌∙◌, List, [], ◌++◌, ℕ, append_assoc}

pub put-first : (x old new : List ℕ) → old ≡ [] → new ≡ old ++ x → new ≡ x
put-first x old new e g = g ∙ ap (λ (l : List ℕ). l ++ x) e

pub put-more : (old x y mid new : List ℕ) → mid ≡ old ++ x → new ≡ mid ++ y → new ≡ old ++ (x ++ y)
put-more old x y mid new e g = g ∙ ap (λ (l : List ℕ). l ++ y) e ∙ append_assoc old x y
