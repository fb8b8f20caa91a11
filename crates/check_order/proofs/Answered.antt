-- The number of an answer, where it is a refusal and where it is none. Assumes nothing.
use Rattle.std.proofs.Common.{ℕ, ◌≡◌, ap, sym, ◌∙◌, Result, Ok, Err, arith}
use Rattle.refusal.specs.declared.Refusal.{Refusal}
use Rattle.refusal.specs.Numbers.{number_of, refusal_of}

pub number-above : (r : Refusal) → number_of r ≡ 0 → ⊥
number-above r e = grind arith

module _ {T : Type 0} (a : Result T Refusal) where
  pub answered : (x : T) → a ≡ Ok x → refusal_of a ≡ 0
  answered x e = ap refusal_of e

  pub refused : (r : Refusal) → a ≡ Err r → refusal_of a ≡ 0 → ⊥
  refused r e z = number-above r (sym (ap refusal_of e) ∙ z)

  pub number-told : (r : Refusal) (n : ℕ) → a ≡ Err r → refusal_of a ≡ n → number_of r ≡ n
  number-told r n e f = sym (ap refusal_of e) ∙ f

  -- a caller passes the refusal on, and answers with its number
  pub passed_on : {U : Type 0} (b : Result U Refusal) (r : Refusal) (n : ℕ) → a ≡ Err r → b ≡ Err r → ((refusal_of a ≡ 0 → ⊥) → refusal_of a ≡ n) → refusal_of b ≡ n
  passed_on b r n e f h = ap refusal_of f ∙ sym (ap refusal_of e) ∙ h (refused r e)
