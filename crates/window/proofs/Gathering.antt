-- A loop that sets a bit for each document of a run in a window. Assumes nothing.
use Rattle.std.proofs.Common.{◌≡◌, sym, ap, ◌∙◌, Bool, false, ◌||◌, ⊎_elim, List, ℕ, ◌+◌, ◌-◌, ◌≤◌, ◌<◌, eqb, arith, eq-eqb, ne_eqb, eqb-true}
use Rattle.std.proofs.lemmas.Bool.{eqb-false}
use mathlib.Core.Bool.{or-false}
use native.Mathlib.Nat.{eq-or-lt_of_le}
use Rattle.meaning.specs.Below.{any_below}
use Rattle.meaning.proofs.Below.{any-add, any_none, any-more, last-or-below}
use Rattle.meaning.proofs.Tests.{decided}
use Rattle.run.specs.Run.{document_at, Run}
use Rattle.bits.specs.Bit.{bit}
use Rattle.bits.proofs.Laws.{bit-zero}
use Rattle.window.specs.Windows.{Cursor, Gathers}

-- two tests of equality with the same outcome
pub same-test : (a b c d : ℕ) → (a ≡ b → c ≡ d) → (c ≡ d → a ≡ b) → eqb a b ≡ eqb c d
same-test a b c d f g =
    ⊎_elim (λ e. e ∙ sym (eq-eqb c d (f (eqb-true a b e)))) (λ e. e ∙ sym (ne_eqb c d (λ h. eqb-false a b e (g h)))) (decided (eqb a b))

-- beyond m, none has the property
pub any-cut : (m n : ℕ) (p : ℕ → Bool) → m ≤ n → ((i : ℕ) → m ≤ i → i < n → p i ≡ false) → any_below n p ≡ any_below m p
any-cut m n p l h =
    let s : n ≡ m + (n - m) = omega arith in
    ap (λ (k : ℕ). any_below k p) s ∙ any-add m (n - m) p
    ∙ ap (λ (b : Bool). any_below m p || b) (any_none (n - m) (λ i. p (m + i)) (λ i g. h (m + i) (omega arith) (omega arith)))
    ∙ or-false (any_below m p)

-- the documents below place i are gathered
pub record Gathering (words : List ℕ) (stride first count base from i w : ℕ) : Type 0 where
  pub begun : from ≤ i
  pub within : i ≤ count
  pub passed : (j : ℕ) → j < i → document_at words stride first j < base + 64
  pub bits : (p : ℕ) → p < 64 → bit p w ≡ any_below i (λ j. eqb (document_at words stride first j) (base + p))

module _ {words : List ℕ} {stride first count base from : ℕ} (run : Run words stride first count) (cursor : Cursor words stride first count base from) where
  pub gathering-start : Gathering words stride first count base from from 0
  gathering-start =
      record {
        begun = omega arith;
        within = cursor.within;
        passed = λ j h. omega (arith, cursor.passed j h);
        bits = λ p h. bit-zero p ∙ sym (any_none from (λ j. eqb (document_at words stride first j) (base + p)) (λ j g. ne_eqb _ _ (λ (e : document_at words stride first j ≡ base + p). omega (arith, cursor.passed j g))));
      }

  module _ (i w : ℕ) (s : Gathering words stride first count base from i w) (h : i < count) (d : ℕ) (here : d ≡ document_at words stride first i) where
    pub not-below : base ≤ d
    not-below = omega (arith, here, cursor.ahead i s.begun h)

    -- the document's bit was set
    pub gathering-more : (w' : ℕ) → d - base < 64 → ((q : ℕ) → bit q w' ≡ bit q w || eqb q (d - base)) → Gathering words stride first count base from (i + 1) w'
    gathering-more w' l b =
        record {
          begun = omega (arith, s.begun);
          within = omega arith;
          passed = λ j g. ⊎_elim (λ (e : j ≡ i). omega (arith, here, not-below, ap (λ (k : ℕ). document_at words stride first k) e)) (λ e. s.passed j e) (last-or-below j i (omega arith));
          bits = λ p g. b p ∙ any-more i (λ j. eqb (document_at words stride first j) (base + p)) (bit p w) (eqb p (d - base)) (s.bits p g) (same-test p (d - base) (document_at words stride first i) (base + p) (λ e. omega (arith, here, not-below)) (λ e. omega (arith, here, not-below)));
        }

  module _ (i w : ℕ) (s : Gathering words stride first count base from i w) where
    -- what is left lies beyond the window
    pub gathering-done : ((j : ℕ) → i ≤ j → j < count → base + 64 ≤ document_at words stride first j) → Gathers words stride first count base from w i
    gathering-done h =
        record {
          bits = λ p g. s.bits p g ∙ sym (any-cut i count (λ j. eqb (document_at words stride first j) (base + p)) s.within (λ j a b. ne_eqb _ _ (λ (e : document_at words stride first j ≡ base + p). omega (arith, h j a b))));
          from-within = s.begun;
          cursor = record { within = s.within; passed = s.passed; ahead = h };
        }

    pub gathering-stops : i < count → (d : ℕ) → d ≡ document_at words stride first i → 64 ≤ d - base → Gathers words stride first count base from w i
    gathering-stops h d here l = gathering-done beyond
      where
        beyond : (j : ℕ) → i ≤ j → j < count → base + 64 ≤ document_at words stride first j
        beyond j a b = ⊎_elim (λ (e : i ≡ j). omega (arith, here, ap (λ (k : ℕ). document_at words stride first k) e)) (λ (e : i < j). omega (arith, here, run.ascending i j e b)) (eq-or-lt_of_le a)

    pub gathering-ends : count ≤ i → Gathers words stride first count base from w i
    gathering-ends h = gathering-done (λ j a b. absurd (omega arith))
