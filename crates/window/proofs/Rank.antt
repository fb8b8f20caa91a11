-- The rank of a set bit: how many postings of the window stand before its document. Assumes nothing.
use Rattle.std.proofs.Common.{◌≡◌, sym, ap, subst, ◌∙◌, Bool, true, false, cond, ⊎_elim, List, ℕ, zero, suc, ◌+◌, ◌≤◌, ◌<◌, arith, eq-eqb, ne_eqb}
use mathlib.Core.Bool.{false≢true}
use native.Mathlib.Nat.{eq-or-lt_of_le}
use Rattle.meaning.specs.Below.{count_below}
use Rattle.meaning.proofs.Below.{any_none, any_some, last-or-below}
use Rattle.meaning.proofs.Tests.{decided, cmp}
use Rattle.run.specs.Run.{document_at, Run}
use Rattle.bits.specs.Bit.{bit}
use Rattle.window.specs.Windows.{in_run, Cursor}

abbrev one : Bool → ℕ
one b = cond b 1 0

-- the cursor at the next document
module _ (words : List ℕ) (stride first count : ℕ) (run : Run words stride first count) (d at : ℕ) (c : Cursor words stride first count d at) where
  -- it is not there
  pub cursor-skips : in_run words stride first count d ≡ false → Cursor words stride first count (suc d) at
  cursor-skips e =
      record {
        within = c.within;
        passed = λ i h. omega (arith, c.passed i h);
        ahead = λ i a b.
            ⊎_elim (λ (g : d ≡ document_at words stride first i). absurd (false≢true (sym e ∙ any_some count _ i b (eq-eqb _ _ (sym g))))) (λ (g : d < document_at words stride first i). g) (eq-or-lt_of_le (c.ahead i a b));
      }

  -- it is there
  pub cursor-here : in_run words stride first count d ≡ true → (at < count) × (document_at words stride first at ≡ d)
  cursor-here e = ⊎_elim (λ l. ⊎_elim (λ (g : d ≡ document_at words stride first at). (l, sym g)) (λ g. absurd (off (λ i a b. beyond l g i a b))) (eq-or-lt_of_le (c.ahead at (omega arith) l))) (λ l. absurd (off (λ i a b. absurd (omega arith)))) (cmp at count)
    where
      off : ((i : ℕ) → at ≤ i → i < count → d < document_at words stride first i) → ⊥
      off h = false≢true (sym (any_none count _ (λ i b. ne_eqb _ _ (λ (q : document_at words stride first i ≡ d). ⊎_elim (λ a. omega (arith, c.passed i a)) (λ a. omega (arith, h i a b)) (cmp i at)))) ∙ e)

      beyond : at < count → d < document_at words stride first at → (i : ℕ) → at ≤ i → i < count → d < document_at words stride first i
      beyond l g i a b = ⊎_elim (λ (s : at ≡ i). omega (arith, ap (λ (k : ℕ). document_at words stride first k) s)) (λ (s : at < i). omega (arith, run.ascending at i s b)) (eq-or-lt_of_le a)

  pub cursor-steps : in_run words stride first count d ≡ true → Cursor words stride first count (suc d) (at + 1)
  cursor-steps e =
      let h = cursor-here e in
      record {
        within = omega (arith, h.0);
        passed = λ i l. ⊎_elim (λ (s : i ≡ at). omega (arith, h.1, ap (λ (k : ℕ). document_at words stride first k) s)) (λ (s : i < at). omega (arith, c.passed i s)) (last-or-below i at (omega arith));
        ahead = λ i a b. omega (arith, h.1, run.ascending at i (omega arith) b);
      }

module _ (words : List ℕ) (stride first count base from w : ℕ) (run : Run words stride first count) (c : Cursor words stride first count base from) (b : (p : ℕ) → p < 64 → bit p w ≡ in_run words stride first count (base + p)) where
  -- p documents into the window, the cursor has passed as many postings as bits below p are set
  pub rank-cursor : (p : ℕ) → p ≤ 64 → Cursor words stride first count (base + p) (from + count_below p (λ q. bit q w))
  unfolding count_below
  rank-cursor zero h =
      let e : base ≡ base + 0 = omega arith in
      let f : from ≡ from + 0 = omega arith in
      subst (λ (k : ℕ). Cursor words stride first count (base + 0) k) f (subst (λ (k : ℕ). Cursor words stride first count k from) e c)
  rank-cursor (suc p) h = next (rank-cursor p (omega arith))
    where
      n : ℕ
      n = count_below p (λ q. bit q w)

      goal : (t : Bool) → bit p w ≡ t → Cursor words stride first count (suc (base + p)) (from + n + one t) → Cursor words stride first count (base + suc p) (from + (n + one (bit p w)))
      goal t e k =
          let d : suc (base + p) ≡ base + suc p = omega arith in
          let a : from + n + one t ≡ from + (n + one (bit p w)) = omega (arith, ap (λ (v : Bool). one v) e) in
          subst (λ (x : ℕ). Cursor words stride first count (base + suc p) x) a (subst (λ (x : ℕ). Cursor words stride first count x (from + n + one t)) d k)

      next : Cursor words stride first count (base + p) (from + n) → Cursor words stride first count (base + suc p) (from + (n + one (bit p w)))
      next k =
          ⊎_elim (λ e. goal true e (cursor-steps words stride first count run (base + p) (from + n) k (sym (b p (omega arith)) ∙ e)))
          (λ e. goal false e (let z : from + n ≡ from + n + 0 = omega arith in subst (λ (x : ℕ). Cursor words stride first count (suc (base + p)) x) z (cursor-skips words stride first count run (base + p) (from + n) k (sym (b p (omega arith)) ∙ e))))
          (decided (bit p w))

  -- the posting of a set bit is the window's first one and as many more as bits below it are set
  pub posting-of-bit : (at : ℕ) → Cursor words stride first count (base + 64) at → (p : ℕ) → p < 64 → bit p w ≡ true → (from + count_below p (λ q. bit q w) < at) × (document_at words stride first (from + count_below p (λ q. bit q w)) ≡ base + p)
  posting-of-bit at behind p h e =
      let i = from + count_below p (λ q. bit q w) in
      let k = cursor-here words stride first count run (base + p) i (rank-cursor p (omega arith)) (sym (b p h) ∙ e) in
      (⊎_elim (λ (l : i < at). l) (λ (g : at ≤ i). absurd (omega (arith, k.1, behind.ahead i g k.0))) (cmp i at), k.1)
