-- The documents of a window within those of all windows before it. Assumes nothing.
use Rattle.std.proofs.Common.{◌≡◌, refl, sym, ap, ◌∙◌, Bool, true, false, cond, List, [], ◌∷◌, ◌++◌, map, ℕ, zero, suc, ◌+◌, ◌≤◌, ◌<◌, arith, ⊎_elim}
use mathlib.Core.List.{append_assoc, append-nil}
use native.Mathlib.Nat.{eq-or-lt_of_le}
use Rattle.meaning.specs.Below.{list_below}

map-append {ℓ} : {A : Type ℓ} (f : ℕ → A) (xs ys : List ℕ) → map f (xs ++ ys) ≡ map f xs ++ map f ys
map-append f [] ys = refl
map-append f (x ∷ xs) ys = ap (λ l. f x ∷ l) (map-append f xs ys)

-- those below base + k are those below base, and then those of the k behind it
pub list-split : (P : ℕ → Bool) (base k : ℕ) → list_below (base + k) P ≡ list_below base P ++ map (λ p. base + p) (list_below k (λ p. P (base + p)))
unfolding list_below
list-split P base zero = let e : base + 0 ≡ base = omega arith in ap (λ n. list_below n P) e ∙ sym (append-nil (list_below base P))
list-split P base (suc k) =
    let e : base + suc k ≡ suc (base + k) = omega arith in
    let xs = list_below k (λ p. P (base + p)) in
    ap (λ n. list_below n P) e
    ∙ ap (λ (l : List ℕ). l ++ cond (P (base + k)) ((base + k) ∷ []) []) (list-split P base k)
    ∙ append_assoc (list_below base P) (map (λ p. base + p) xs) (cond (P (base + k)) ((base + k) ∷ []) [])
    ∙ ap (λ (l : List ℕ). list_below base P ++ l) (ap (λ (l : List ℕ). map (λ p. base + p) xs ++ l) (one (P (base + k))) ∙ sym (map-append (λ p. base + p) xs (cond (P (base + k)) (k ∷ []) [])))
  where
    one : (b : Bool) → cond b ((base + k) ∷ []) [] ≡ map (λ p. base + p) (cond b (k ∷ []) [])
    one true = refl
    one false = refl

-- where none lies between, those below the one are those below the other
pub list-skip : (P : ℕ → Bool) (a b : ℕ) → a ≤ b → ((d : ℕ) → a ≤ d → d < b → P d ≡ false) → list_below b P ≡ list_below a P
unfolding list_below
list-skip P a zero l h = let e : 0 ≡ a = omega (arith, l) in ap (λ n. list_below n P) e
list-skip P a (suc b) l h =
    ⊎_elim
    (λ (e : a ≡ suc b). ap (λ n. list_below n P) (sym e))
    (λ (g : a < suc b).
    ap (λ (t : Bool). list_below b P ++ cond t (b ∷ []) []) (h b (omega (arith, g)) (omega arith)) ∙ append-nil (list_below b P) ∙ list-skip P a b (omega (arith, g)) (λ d m n. h d m (omega (arith, n))))
    (eq-or-lt_of_le l)

-- over those below n that P takes, two maps that agree there are one
pub map-same {ℓ} : {A : Type ℓ} (P : ℕ → Bool) (f g : ℕ → A) (n : ℕ) → ((p : ℕ) → p < n → P p ≡ true → f p ≡ g p) → map f (list_below n P) ≡ map g (list_below n P)
unfolding list_below
map-same P f g zero h = refl
map-same P f g (suc n) h =
    map-append f (list_below n P) (cond (P n) (n ∷ []) [])
    ∙ ap (λ l. l ++ map f (cond (P n) (n ∷ []) [])) (map-same P f g n (λ p l e. h p (omega (arith, l)) e))
    ∙ ap (λ l. map g (list_below n P) ++ l) (one (P n) refl)
    ∙ sym (map-append g (list_below n P) (cond (P n) (n ∷ []) []))
  where
    one : (b : Bool) → P n ≡ b → map f (cond b (n ∷ []) []) ≡ map g (cond b (n ∷ []) [])
    one true e = ap (λ x. x ∷ []) (h n (omega arith) e)
    one false e = refl
