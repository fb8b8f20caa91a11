-- A loop over the wanted places of a window that changes the sum at each, the lowest one first. Assumes nothing.
use mathlib.Core.Path.{◌≡◌, refl, sym, ap, subst, ◌∙◌}
use mathlib.Core.Logic.{⊎_elim}
use mathlib.Core.Bool.{Bool, true, false, not, cond, ◌&&◌, and-true, false≢true}
use mathlib.Core.List.{List}
use Prim.Native.Nat.{ℕ, ◌+◌, ◌*◌, ◌^◌, ◌≤◌, ◌<◌}
use native.Mathlib.Omega.{arith}
use lib.Dec.{T, eqb}
use lib.ListN.{length, get_or, set, length-set}
use lib.Seq.{get_or-set_same, get_or-set_other}
use lib.Ieee.{Float, nan, binary64, is_nan, add}
use borrow.Author.Tests.{eq-eqb, ne_eqb}
use Rattle.std.proofs.lemmas.Bool.{cases_eq, and_parts}
use Rattle.meaning.specs.Ieee754.{narrow}
use Rattle.ieee754.specs.Nonneg.{AtMost}
use Rattle.ieee754.proofs.Bounds.{atmost-number}
use Rattle.meaning.proofs.Tests.{decided}
use Rattle.bits.specs.Bit.{bit, LowestBit}
use Rattle.bits.proofs.Laws.{bit-zero}
use Rattle.score_leaf.proofs.Bounds.{scores-add, scores-narrow, scores-more}
use Rattle.window_score.specs.Sums.{Sums, At, Reached, uncalled, called, Answered, Changed, Added}

-- what each call keeps holds of whatever the function has become
pub reached-keeps : {F : Type 0} {step : F → Float → ℕ → Float → F → Type 0} {want : ℕ} {sums : List Float} {f₀ f : F} (P : F → Type 0) → P f₀ → ((f f' : F) (x : Float) (p : ℕ) (r : Float) → P f → step f x p r f' → P f') → Reached step want sums f₀ f → P f
reached-keeps P h k uncalled = h
reached-keeps {sums = sums} P h k (called {f} {f'} {r} {p} R l e s) = k f f' (get_or sums p nan) p r (reached-keeps P h k R) s

-- a function that no call changes
module _ {F : Type 0} {step : F → Float → ℕ → Float → F → Type 0} {want : ℕ} {sums : List Float} {f₀ : F} (steady : (f f' : F) (x : Float) (p : ℕ) (r : Float) → step f x p r f' → f' ≡ f) where
  steady-is : {f : F} → Reached step want sums f₀ f → f ≡ f₀
  steady-is {f} R = reached-keeps (λ (g : F). g ≡ f₀) refl (λ g g' x p r e s. steady g g' x p r s ∙ e) R

  pub steady-pre : (Q : F → ℕ → Type 0) → ((p : ℕ) → p < 64 → bit p want ≡ true → Q f₀ p) → (f : F) → Reached step want sums f₀ f → (p : ℕ) → p < 64 → bit p want ≡ true → Q f p
  steady-pre Q h f R p l e = subst (λ (g : F). Q g p) (sym (steady-is R)) (h p l e)

  pub steady-step : {x y : Float} {p : ℕ} → Answered step want sums f₀ x p y → (f' : F) × step f₀ x p y f'
  steady-step {x} {y} {p} k = (k.1, subst (λ (g : F). step g x p y k.1) (steady-is k.2) k.3)

-- the places in `left` still have their sums, the other wanted ones what the function answered
pub record Changing (post : Float → ℕ → Float → Type 0) (want left : ℕ) (sums sums' : List Float) : Type 0 where
  pub long : length sums' ≡ 64
  pub wants : (p : ℕ) → bit p left ≡ true → bit p want ≡ true
  pub waits : (p : ℕ) → bit p left ≡ true → get_or sums' p nan ≡ get_or sums p nan
  pub done : (p : ℕ) → p < 64 → bit p want ≡ true → bit p left ≡ false → post (get_or sums p nan) p (get_or sums' p nan)
  pub others : (p : ℕ) → bit p want ≡ false → get_or sums' p nan ≡ get_or sums p nan

module _ (post : Float → ℕ → Float → Type 0) (want : ℕ) (sums : List Float) where
  pub changing-start : length sums ≡ 64 → Changing post want want sums sums
  changing-start h = record { long = h; wants = λ p e. e; waits = λ p e. refl; done = λ p l e g. absurd (false≢true (sym g ∙ e)); others = λ p e. refl }

  module _ (left : ℕ) (sums' : List Float) (A : Changing post want left sums sums') where
    -- the sum at each wanted place is changed
    pub changing-done : left ≡ 0 → Changed post want sums sums'
    changing-done z = record { long = A.long; wanted = λ p l e. A.done p l e (ap (bit p) z ∙ bit-zero p); others = λ p l e. A.others p e }

    module _ (t : ℕ) (L : LowestBit left t) where
      pub change-wanted : bit t want ≡ true
      change-wanted = A.wants t L.set

      pub change-waits : get_or sums' t nan ≡ get_or sums t nan
      change-waits = A.waits t L.set

      module _ (left' : ℕ) (rest : (q : ℕ) → bit q left' ≡ bit q left && not (eqb q t)) where
        was : (p : ℕ) → bit p left' ≡ true → (bit p left ≡ true) × (p ≡ t → ⊥)
        was p e =
            let b = and_parts (bit p left) (not (eqb p t)) (sym (rest p) ∙ e) in
            (b.0, λ q. false≢true (sym (ap not (eq-eqb p t q)) ∙ b.1))

        -- the sum at the lowest place is changed
        pub changing-step : (x : Float) → post (get_or sums' t nan) t x → Changing post want left' sums (set sums' t x)
        changing-step x e =
            record {
              long = length-set sums' t x ∙ A.long;
              wants = λ p h. A.wants p (was p h).0;
              waits = λ p h. get_or-set_other sums' t p x nan (was p h).1 ∙ A.waits p (was p h).0;
              done = λ p l h g. ⊎_elim
                  (λ (q : p ≡ t). subst (λ (i : ℕ). post (get_or sums i nan) i (get_or (set sums' t x) i nan)) (sym q) here)
                  (λ (q : p ≡ t → ⊥). subst (post (get_or sums p nan) p) (sym (get_or-set_other sums' t p x nan q)) (A.done p l h (sym (and-true (bit p left)) ∙ sym (ap (λ (b : Bool). bit p left && not b) (ne_eqb p t q)) ∙ sym (rest p) ∙ g)))
                  (cases_eq p t);
              others = λ p h. get_or-set_other sums' t p x nan (λ (q : p ≡ t). false≢true (sym h ∙ ap (λ (i : ℕ). bit i want) q ∙ change-wanted)) ∙ A.others p h;
            }
          where
            inside : t < length sums'
            inside = omega (arith, L.within, A.long)

            here : post (get_or sums t nan) t (get_or (set sums' t x) t nan)
            here = subst (λ (y : Float). post y t (get_or (set sums' t x) t nan)) change-waits (subst (post (get_or sums' t nan) t) (sym (get_or-set_same sums' t x nan inside)) e)

-- ---- where the new sum is a function of the place and the old sum, for `bulk_window`
abbrev pub Adding : (ℕ → Float → Float) → ℕ → ℕ → List Float → List Float → Type 0
Adding f = Changing (λ x p y. y ≡ f p x)

module _ (f : ℕ → Float → Float) (want : ℕ) (sums : List Float) where
  abbrev post : Float → ℕ → Float → Type 0
  post x p y = y ≡ f p x

  pub adding-start : length sums ≡ 64 → Adding f want want sums sums
  adding-start = changing-start post want sums

  module _ (left : ℕ) (sums' : List Float) (A : Adding f want left sums sums') where
    pub adding-done : left ≡ 0 → At f want sums sums'
    adding-done z = let C = changing-done post want sums left sums' A z in record { wanted = C.wanted; others = C.others }

    pub sum-waits : (t : ℕ) → LowestBit left t → get_or sums' t nan ≡ get_or sums t nan
    sum-waits = change-waits post want sums left sums' A

    pub adding-step : (t : ℕ) (L : LowestBit left t) (left' : ℕ) (rest : (q : ℕ) → bit q left' ≡ bit q left && not (eqb q t)) (at : ℕ) (x : Float) → at ≡ t → x ≡ f t (get_or sums' at nan) → Adding f want left' sums (set sums' at x)
    adding-step t L left' rest at x a e = subst (λ (i : ℕ). x ≡ f t (get_or sums' i nan) → Adding f want left' sums (set sums' i x)) (sym a) (changing-step post want sums left sums' A t L left' rest x) e

-- ---- one more score at each
module _ (score : ℕ → Float) (want : ℕ) (sums sums' : List Float) (A : Added score want sums sums') where
  -- the same scores in other words
  pub added-same : (other : ℕ → Float) → ((p : ℕ) → p < 64 → bit p want ≡ true → score p ≡ other p) → Added other want sums sums'
  added-same other h = record { wanted = λ p l e. A.wanted p l e ∙ ap (add binary64 (get_or sums p nan)) (h p l e); others = A.others }

  -- the sums stay small
  pub added-small : (q r : ℕ) → q + r ≤ 256 → Sums q sums → length sums' ≡ 64 → ((p : ℕ) → p < 64 → bit p want ≡ true → AtMost (r * 2 ^ 29) (score p)) → Sums (q + r) sums'
  added-small q r few S long h =
      record {
        long = long;
        small = λ p l. ⊎_elim
            (λ (e : bit p want ≡ true). subst (λ (x : Float). AtMost ((q + r) * 2 ^ 29) x) (sym (A.wanted p l e)) (scores-add q r (get_or sums p nan) (score p) few (S.small p l) (h p l e)))
            (λ (e : bit p want ≡ false). subst (λ (x : Float). AtMost ((q + r) * 2 ^ 29) x) (sym (A.others p l e)) (scores-more q (q + r) (get_or sums p nan) (omega arith) (S.small p l)))
            (decided (bit p want));
      }

-- ---- narrowed sums
pub narrowed-small : (r : ℕ) (from : List Float) (p : ℕ) → r ≤ 256 → Sums r from → p < 64 → AtMost (r * 2 ^ 29) (narrow (get_or from p nan))
narrowed-small r from p few F l = scores-narrow r (get_or from p nan) few (F.small p l)

pub narrowed-number : (r : ℕ) (from : List Float) (p : ℕ) → r ≤ 256 → Sums r from → p < 64 → T (not (is_nan (narrow (get_or from p nan))))
narrowed-number r from p few F l = atmost-number (narrowed-small r from p few F l)

-- each sum narrowed, and another, narrowed, added to it
pub after-small : (want r t : ℕ) (sums sums' group : List Float) → At (λ p x. add binary64 (narrow x) (narrow (get_or group p nan))) want sums sums' → length sums' ≡ 64 → r + t ≤ 256 → Sums r sums → Sums t group → Sums (r + t) sums'
after-small want r t sums sums' group A long few S G =
    record {
      long = long;
      small = λ p l. ⊎_elim
          (λ (e : bit p want ≡ true). subst (λ (x : Float). AtMost ((r + t) * 2 ^ 29) x) (sym (A.wanted p l e)) (scores-add r t (narrow (get_or sums p nan)) (narrow (get_or group p nan)) few (narrowed-small r sums p (omega (arith, few)) S l) (narrowed-small t group p (omega (arith, few)) G l)))
          (λ (e : bit p want ≡ false). subst (λ (x : Float). AtMost ((r + t) * 2 ^ 29) x) (sym (A.others p l e)) (scores-more r (r + t) (get_or sums p nan) (omega arith) (S.small p l)))
          (decided (bit p want));
    }

-- each sum narrowed, or left as it is
pub narrow-small : (only : Bool) (want q : ℕ) (sums sums' : List Float) → At (λ p x. cond only x (narrow x)) want sums sums' → length sums' ≡ 64 → q + 0 ≤ 256 → Sums q sums → Sums q sums'
narrow-small only want q sums sums' A long few S =
    record {
      long = long;
      small = λ p l. ⊎_elim
          (λ (e : bit p want ≡ true). subst (λ (x : Float). AtMost (q * 2 ^ 29) x) (sym (A.wanted p l e)) (either only p l))
          (λ (e : bit p want ≡ false). subst (λ (x : Float). AtMost (q * 2 ^ 29) x) (sym (A.others p l e)) (S.small p l))
          (decided (bit p want));
    }
  where
    either : (b : Bool) (p : ℕ) → p < 64 → AtMost (q * 2 ^ 29) (cond b (get_or sums p nan) (narrow (get_or sums p nan)))
    either true p l = S.small p l
    either false p l = narrowed-small q sums p (omega (arith, few)) S l
