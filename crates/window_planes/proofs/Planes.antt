-- One more at some places; and which places count more than a number. Assumes nothing.
use Rattle.std.proofs.Common.{◌≡◌, refl, sym, ap, ap₂, subst, ◌∙◌, Bool, true, false, not, ◌&&◌, ◌||◌, ⊎_elim, List, [], ◌∷◌, ◌++◌, append_assoc, ℕ, zero, suc, ◌+◌, ◌-◌, ◌*◌, ◌/◌, ◌%◌, ◌^◌, ◌≤◌, ◌<◌, length, get_or, set, take, drop, replicate, eqb, ltb, bit_and, bit_or, bit_xor, pow-suc, eq-or-lt_of_le, add-one, length-set, drop_of_length-le, take-suc-set, drop-cons, drop-set-lt, take_all, shr-shr, eq-eqb, ne_eqb, eqb-true, lt-ltb, le-ltb, arith}
use mathlib.Core.Bool.{xor, and-true, and-false, or-false, and_assoc, and-or_distrib_left}
use native.Mathlib.Nat.{div-eq_of_lt}
use borrow.Author.Tests.{eqb-false}
use Rattle.meaning.proofs.Tests.{decided, cmp, ltb-as-ltb}
use Rattle.bits.specs.Bit.{bit}
use Rattle.bits.proofs.Laws.{bit-zero, bit-and, bit-or, bit-xor, bit-cleared}
use Rattle.window_planes.specs.Counts.{as_digit, count}

-- ---- one more
adder : (a c : Bool) (v : ℕ) → as_digit (xor a c) + 2 * (as_digit (a && c) + v) ≡ as_digit c + (as_digit a + 2 * v)
unfolding xor
adder true true v = omega arith
adder true false v = omega arith
adder false true v = omega arith
adder false false v = omega arith

-- j planes are done: whatever stands for the carry and the others makes the whole
pub record Carrying (planes₀ : List ℕ) (x : ℕ) (planes : List ℕ) (carry j : ℕ) : Type 0 where
  pub same : length planes ≡ length planes₀
  pub within : j ≤ length planes
  pub whole : (p : ℕ) (tail : List ℕ) → count p tail ≡ as_digit (bit p carry) + count p (drop j planes) → count p (take j planes ++ tail) ≡ as_digit (bit p x) + count p planes₀

pub carry-more : (planes₀ : List ℕ) (x : ℕ) (planes : List ℕ) (carry j : ℕ) → Carrying planes₀ x planes carry j → j < length planes → Carrying planes₀ x (set planes j (bit_xor (get_or planes j 0) carry)) (bit_and (get_or planes j 0) carry) (j + 1)
unfolding count
carry-more planes₀ x planes carry j s l =
    let a : ℕ = get_or planes j 0 in
    let b : ℕ = bit_xor (get_or planes j 0) carry in
    let d : drop (j + 1) (set planes j b) ≡ drop (j + 1) planes = drop-set-lt (j + 1) planes j b (omega arith) in
    record {
      same = length-set planes j b ∙ s.same;
      within = omega (arith, length-set planes j b);
      whole = λ p tail e.
          ap (count p) (ap (λ (l : List ℕ). l ++ tail) (ap (λ (n : ℕ). take n (set planes j b)) (add-one j) ∙ take-suc-set planes j b l) ∙ append_assoc (take j planes) (b ∷ []) tail)
          ∙ s.whole p (b ∷ tail)
          (ap₂ (λ (c : Bool) (v : ℕ). as_digit c + 2 * v) (bit-xor p a carry) (e ∙ ap₂ (λ (c : Bool) (l : List ℕ). as_digit c + count p l) (bit-and p a carry) d)
          ∙ adder (bit p a) (bit p carry) (count p (drop (j + 1) planes))
          ∙ ap (λ (l : List ℕ). as_digit (bit p carry) + count p l) (sym here));
    }
  where
    here : drop j planes ≡ get_or planes j 0 ∷ drop (j + 1) planes
    here = drop-cons planes j 0 l ∙ ap (λ (n : ℕ). get_or planes j 0 ∷ drop n planes) (sym (add-one j))

pub carry-end : (planes₀ : List ℕ) (x : ℕ) (planes : List ℕ) (carry j : ℕ) → Carrying planes₀ x planes carry j → length planes ≤ j → (p : ℕ) → count p (planes ++ (carry ∷ [])) ≡ as_digit (bit p x) + count p planes₀
unfolding count
carry-end planes₀ x planes carry j s l p =
    ap (λ (l : List ℕ). count p (l ++ (carry ∷ []))) (sym (take_all j planes l))
    ∙ s.whole p (carry ∷ []) (ap (λ (l : List ℕ). as_digit (bit p carry) + count p l) (sym (drop_of_length-le planes {i = j} l)))

-- where the count stays below the planes' room, nothing is carried out
pub nothing-carried : (p r : ℕ) (planes : List ℕ) → count p (planes ++ (r ∷ [])) < 2 ^ length planes → count p planes ≡ count p (planes ++ (r ∷ []))
unfolding count
nothing-carried p r [] h = omega arith
nothing-carried p r (a ∷ rest) h = ap (λ (n : ℕ). as_digit (bit p a) + 2 * n) (nothing-carried p r rest (omega (arith, pow-suc 2 (length rest))))

one-le : (b : Bool) → as_digit b ≤ 1
one-le true = omega arith
one-le false = omega arith

-- so a call of `counted` on n planes that have room leaves the counts in them
pub one-more : (p r x n : ℕ) (planes old : List ℕ) → length planes ≡ n → count p (planes ++ (r ∷ [])) ≡ as_digit (bit p x) + count p old → count p old + 1 < 2 ^ n → count p planes ≡ as_digit (bit p x) + count p old
one-more p r x n planes old l e h =
    let room : count p (planes ++ (r ∷ [])) < 2 ^ length planes = rw l (omega (arith, one-le (bit p x))) in
    nothing-carried p r planes room ∙ e

-- the planes at the start
pub count-zeros : (p n : ℕ) → count p (replicate n 0) ≡ 0
unfolding count
count-zeros p zero = refl
count-zeros p (suc n) = ap₂ (λ (b : Bool) (m : ℕ). as_digit b + 2 * m) (bit-zero p) (count-zeros p n)

-- ---- more than a number, from the highest plane down
-- the planes from j on are looked at
pub record Comparing (planes : List ℕ) (least want more equal j : ℕ) : Type 0 where
  pub within : j ≤ length planes
  pub more-is : (p : ℕ) → p < 64 → bit p more ≡ bit p want && ltb (least / 2 ^ j) (count p (drop j planes))
  pub equal-is : (p : ℕ) → p < 64 → bit p equal ≡ bit p want && eqb (least / 2 ^ j) (count p (drop j planes))

pub compare-start : (planes : List ℕ) (least want : ℕ) → least < 2 ^ length planes → Comparing planes least want 0 want (length planes)
unfolding count
compare-start planes least want h =
    record {
      within = omega arith;
      more-is = λ p l. bit-zero p ∙ sym (ap (λ (b : Bool). bit p want && b) (ap₂ ltb none (empty p)) ∙ and-false (bit p want));
      equal-is = λ p l. sym (ap (λ (b : Bool). bit p want && b) (ap₂ eqb none (empty p)) ∙ and-true (bit p want));
    }
  where
    none : least / 2 ^ length planes ≡ 0
    none = div-eq_of_lt h

    empty : (p : ℕ) → count p (drop (length planes) planes) ≡ 0
    empty p = ap (count p) (drop_of_length-le planes {i = length planes} (omega arith))

-- a digit more on both sides
same-test : (a b c d : ℕ) → (a ≡ b → c ≡ d) → (c ≡ d → a ≡ b) → eqb a b ≡ eqb c d
same-test a b c d f g = ⊎_elim (λ e. e ∙ sym (eq-eqb c d (f (eqb-true a b e)))) (λ e. e ∙ sym (ne_eqb c d (λ h. eqb-false a b e (g h)))) (decided (eqb a b))

odd-more : (a : Bool) (m v : ℕ) → m % 2 ≡ 1 → ltb (m / 2) v ≡ ltb m (as_digit a + 2 * v)
odd-more true m v e = ltb-as-ltb (m / 2) v m (1 + 2 * v) (λ h. omega arith) (λ h. omega arith)
odd-more false m v e = ltb-as-ltb (m / 2) v m (0 + 2 * v) (λ h. omega arith) (λ h. omega arith)

odd-equal : (a : Bool) (m v : ℕ) → m % 2 ≡ 1 → eqb (m / 2) v && a ≡ eqb m (as_digit a + 2 * v)
odd-equal true m v e = and-true (eqb (m / 2) v) ∙ same-test (m / 2) v m (1 + 2 * v) (λ h. omega arith) (λ h. omega arith)
odd-equal false m v e = and-false (eqb (m / 2) v) ∙ sym (ne_eqb m (0 + 2 * v) (λ h. omega arith))

even-more : (a : Bool) (m v : ℕ) → m % 2 ≡ 0 → ltb (m / 2) v || (eqb (m / 2) v && a) ≡ ltb m (as_digit a + 2 * v)
even-more false m v e = ap (λ (b : Bool). ltb (m / 2) v || b) (and-false (eqb (m / 2) v)) ∙ or-false (ltb (m / 2) v) ∙ ltb-as-ltb (m / 2) v m (0 + 2 * v) (λ h. omega arith) (λ h. omega arith)
even-more true m v e = ap (λ (b : Bool). ltb (m / 2) v || b) (and-true (eqb (m / 2) v)) ∙ ⊎_elim small (λ g. ⊎_elim same large (eq-or-lt_of_le g)) (cmp (m / 2) v)
  where
    small : m / 2 < v → ltb (m / 2) v || eqb (m / 2) v ≡ ltb m (1 + 2 * v)
    small h = ap (λ (b : Bool). b || eqb (m / 2) v) (lt-ltb (m / 2) v h) ∙ sym (lt-ltb m (1 + 2 * v) (omega arith))

    same : v ≡ m / 2 → ltb (m / 2) v || eqb (m / 2) v ≡ ltb m (1 + 2 * v)
    same h = ap₂ (λ (b c : Bool). b || c) (le-ltb (m / 2) v (omega arith)) (eq-eqb (m / 2) v (sym h)) ∙ sym (lt-ltb m (1 + 2 * v) (omega arith))

    large : v < m / 2 → ltb (m / 2) v || eqb (m / 2) v ≡ ltb m (1 + 2 * v)
    large h = ap₂ (λ (b c : Bool). b || c) (le-ltb (m / 2) v (omega arith)) (ne_eqb (m / 2) v (λ g. omega arith)) ∙ sym (le-ltb m (1 + 2 * v) (omega arith))

even-equal : (a : Bool) (m v : ℕ) → m % 2 ≡ 0 → eqb (m / 2) v && not a ≡ eqb m (as_digit a + 2 * v)
even-equal false m v e = and-true (eqb (m / 2) v) ∙ same-test (m / 2) v m (0 + 2 * v) (λ h. omega arith) (λ h. omega arith)
even-equal true m v e = and-false (eqb (m / 2) v) ∙ sym (ne_eqb m (1 + 2 * v) (λ h. omega arith))

module _ (planes : List ℕ) (least want more equal i : ℕ) (s : Comparing planes least want more equal (i + 1)) where
  above-half : least / 2 ^ i / 2 ≡ least / 2 ^ (i + 1)
  above-half = shr-shr least i 1

  plane-here : drop i planes ≡ get_or planes i 0 ∷ drop (i + 1) planes
  plane-here = drop-cons planes i 0 (omega (arith, s.within)) ∙ ap (λ (n : ℕ). get_or planes i 0 ∷ drop n planes) (sym (add-one i))

  count-here : (p : ℕ) → count p (drop i planes) ≡ as_digit (bit p (get_or planes i 0)) + 2 * count p (drop (i + 1) planes)
  unfolding count
  count-here p = ap (count p) plane-here

  more-was : (p : ℕ) → p < 64 → bit p more ≡ bit p want && ltb (least / 2 ^ i / 2) (count p (drop (i + 1) planes))
  more-was p l = s.more-is p l ∙ ap (λ (n : ℕ). bit p want && ltb n (count p (drop (i + 1) planes))) (sym above-half)

  equal-was : (p : ℕ) → p < 64 → bit p equal ≡ bit p want && eqb (least / 2 ^ i / 2) (count p (drop (i + 1) planes))
  equal-was p l = s.equal-is p l ∙ ap (λ (n : ℕ). bit p want && eqb n (count p (drop (i + 1) planes))) (sym above-half)

  pub compare-odd : least / 2 ^ i % 2 ≡ 1 → Comparing planes least want more (bit_and equal (get_or planes i 0)) i
  compare-odd e =
      record {
        within = omega (arith, s.within);
        more-is = λ p l. more-was p l ∙ ap (λ (b : Bool). bit p want && b) (odd-more (bit p (get_or planes i 0)) (least / 2 ^ i) (count p (drop (i + 1) planes)) e ∙ ap (λ (n : ℕ). ltb (least / 2 ^ i) n) (sym (count-here p)));
        equal-is = λ p l.
            bit-and p equal (get_or planes i 0) ∙ ap (λ (b : Bool). b && bit p (get_or planes i 0)) (equal-was p l) ∙ and_assoc (bit p want) (eqb (least / 2 ^ i / 2) (count p (drop (i + 1) planes))) (bit p (get_or planes i 0))
            ∙ ap (λ (b : Bool). bit p want && b) (odd-equal (bit p (get_or planes i 0)) (least / 2 ^ i) (count p (drop (i + 1) planes)) e ∙ ap (λ (n : ℕ). eqb (least / 2 ^ i) n) (sym (count-here p)));
      }

  pub compare-even : get_or planes i 0 < 2 ^ 64 → least / 2 ^ i % 2 ≡ 0 → Comparing planes least want (bit_or more (bit_and equal (get_or planes i 0))) (bit_and equal (2 ^ 64 - 1 - get_or planes i 0)) i
  compare-even f e =
      record {
        within = omega (arith, s.within);
        more-is = λ p l.
            bit-or p more (bit_and equal (get_or planes i 0))
            ∙ ap₂ (λ (b c : Bool). b || c) (more-was p l) (bit-and p equal (get_or planes i 0) ∙ ap (λ (b : Bool). b && bit p (get_or planes i 0)) (equal-was p l) ∙ and_assoc (bit p want) (eqb (least / 2 ^ i / 2) (count p (drop (i + 1) planes))) (bit p (get_or planes i 0)))
            ∙ sym (and-or_distrib_left (bit p want) (ltb (least / 2 ^ i / 2) (count p (drop (i + 1) planes))) ((eqb (least / 2 ^ i / 2) (count p (drop (i + 1) planes))) && (bit p (get_or planes i 0))))
            ∙ ap (λ (b : Bool). bit p want && b) (even-more (bit p (get_or planes i 0)) (least / 2 ^ i) (count p (drop (i + 1) planes)) e ∙ ap (λ (n : ℕ). ltb (least / 2 ^ i) n) (sym (count-here p)));
        equal-is = λ p l.
            bit-cleared p equal (get_or planes i 0) f l ∙ ap (λ (b : Bool). b && not (bit p (get_or planes i 0))) (equal-was p l) ∙ and_assoc (bit p want) (eqb (least / 2 ^ i / 2) (count p (drop (i + 1) planes))) (not (bit p (get_or planes i 0)))
            ∙ ap (λ (b : Bool). bit p want && b) (even-equal (bit p (get_or planes i 0)) (least / 2 ^ i) (count p (drop (i + 1) planes)) e ∙ ap (λ (n : ℕ). eqb (least / 2 ^ i) n) (sym (count-here p)));
      }

-- the place before
pub compare-at : (planes : List ℕ) (least want more equal j : ℕ) → Comparing planes least want more equal j → 0 < j → Comparing planes least want more equal (j - 1 + 1)
compare-at planes least want more equal j s h = let e : j ≡ j - 1 + 1 = omega arith in subst (λ (k : ℕ). Comparing planes least want more equal k) e s
