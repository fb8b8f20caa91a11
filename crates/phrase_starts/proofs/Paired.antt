-- The state of `pair`: a merge of two terms' starts, of whose matches only the number is kept. Assumes nothing.
use mathlib.Core.Path.{◌≡◌, sym, subst, ◌∙◌}
use mathlib.Core.Bool.{true, false}
use mathlib.Core.List.{List, [], ◌∷◌, ◌++◌}
use Prim.Native.Nat.{ℕ, ◌+◌, ◌≤◌, ◌<◌}
use native.Mathlib.Omega.{arith}
use lib.ListN.{length, drop, get_or, length-append, drop_of_length-le}
use lib.IntN.{ℤ, sub_ℕ}
use lib.Signed.{lt_z}
use mir.Val.{SFits, to_z, of_z}
use mir.Syntax.{w32}
use Rattle.meaning.specs.Phrase.{common_size}
use Rattle.meaning.proofs.Signed.{lt_yes}
use Rattle.phrase_starts.specs.declared.Term.{Term}
use Rattle.phrase_starts.specs.Terms.{starts_of}
use Rattle.phrase_starts.specs.Common.{Common}
use Rattle.phrase_starts.proofs.Order.{same, tested}
use Rattle.phrase_starts.proofs.Merge.{Merging, candidate-passed, start-passed, matched, candidates-end, starts-end}
use Rattle.phrase_starts.proofs.Records.{starts-length, starts-drop}
use Rattle.phrase_starts.proofs.Size.{common-length}

-- n matches are found, i starts of the one and j of the other are passed
pub record Paired (ps : List ℕ) (s t : Term) (i j n : ℕ) : Type 0 where
  pub few : n ≤ i
  pub firsts : i ≤ s.freq
  pub seconds : j ≤ t.freq
  pub matches : List ℤ
  pub long : length matches ≡ n
  pub merging : Merging (starts_of ps s) (starts_of ps t) matches (drop i (starts_of ps s)) (drop j (starts_of ps t))

module _ (ps : List ℕ) (s t : Term) (i j n : ℕ) (m : Paired ps s t i j n) (hi : i < s.freq) (hj : (j ≡ t.freq) → ⊥) (x y : ℤ) (ex : x ≡ sub_ℕ (get_or ps (s.first + i) 0) s.offset) (ey : y ≡ sub_ℕ (get_or ps (t.first + j) 0) t.offset) (fx : SFits w32 x) (fy : SFits w32 y) where
  left : j < t.freq
  left = omega (arith, m.seconds, hj)

  next-first : drop i (starts_of ps s) ≡ x ∷ drop (i + 1) (starts_of ps s)
  next-first = starts-drop ps s i hi ∙ rw ex

  next-second : drop j (starts_of ps t) ≡ y ∷ drop (j + 1) (starts_of ps t)
  next-second = starts-drop ps t j left ∙ rw ey

  opened : Merging (starts_of ps s) (starts_of ps t) m.matches (x ∷ drop (i + 1) (starts_of ps s)) (y ∷ drop (j + 1) (starts_of ps t))
  opened =
      subst (λ (l : List ℤ). Merging (starts_of ps s) (starts_of ps t) m.matches (x ∷ drop (i + 1) (starts_of ps s)) l) next-second
      (subst (λ (l : List ℤ). Merging (starts_of ps s) (starts_of ps t) m.matches l (drop j (starts_of ps t))) next-first m.merging)

  pub passed_first : lt_z (to_z w32 (of_z w32 x)) (to_z w32 (of_z w32 y)) ≡ true → Paired ps s t (i + 1) j n
  passed_first h =
      record {
        few = omega (arith, m.few);
        firsts = omega (arith, hi);
        seconds = m.seconds;
        matches = m.matches;
        long = m.long;
        merging =
            subst (λ (l : List ℤ). Merging (starts_of ps s) (starts_of ps t) m.matches (drop (i + 1) (starts_of ps s)) l) (sym next-second)
            (candidate-passed (starts_of ps s) (starts_of ps t) m.matches x (drop (i + 1) (starts_of ps s)) y (drop (j + 1) (starts_of ps t)) opened (lt_yes x y (tested x y true fx fy h)));
      }

  pub passed-second : lt_z (to_z w32 (of_z w32 y)) (to_z w32 (of_z w32 x)) ≡ true → Paired ps s t i (j + 1) n
  passed-second h =
      record {
        few = m.few;
        firsts = m.firsts;
        seconds = omega (arith, left);
        matches = m.matches;
        long = m.long;
        merging =
            subst (λ (l : List ℤ). Merging (starts_of ps s) (starts_of ps t) m.matches l (drop (j + 1) (starts_of ps t))) (sym next-first)
            (start-passed (starts_of ps s) (starts_of ps t) m.matches x (drop (i + 1) (starts_of ps s)) y (drop (j + 1) (starts_of ps t)) opened (lt_yes y x (tested y x true fy fx h)));
      }

  -- one of each is used up
  pub met : (i' j' : ℕ) → i' ≡ i + 1 → j' ≡ j + 1 → lt_z (to_z w32 (of_z w32 x)) (to_z w32 (of_z w32 y)) ≡ false → lt_z (to_z w32 (of_z w32 y)) (to_z w32 (of_z w32 x)) ≡ false → Paired ps s t i' j' (n + 1)
  met i' j' ei ej h k =
      rw ei (rw ej
      record {
        few = omega (arith, m.few);
        firsts = omega (arith, hi);
        seconds = omega (arith, left);
        matches = m.matches ++ (y ∷ []);
        long = (let e = length-append m.matches (y ∷ []) in omega (arith, e, m.long));
        merging = matched (starts_of ps s) (starts_of ps t) m.matches x (drop (i + 1) (starts_of ps s)) y (drop (j + 1) (starts_of ps t)) opened (same x y (tested x y false fx fy h) (tested y x false fy fx k));
      })

-- the merge ends with as many matches as the paper says
counted : (xs ys zs : List ℤ) (n : ℕ) → length zs ≡ n → Common (xs ∷ ys ∷ []) zs → n ≡ common_size (xs ∷ ys ∷ [])
counted xs ys zs n e m = sym e ∙ common-length (xs ∷ ys ∷ []) zs (omega arith) m.counts

pub no_second : (ps : List ℕ) (s t : Term) (i j n : ℕ) → Paired ps s t i j n → j ≡ t.freq → n ≡ common_size (starts_of ps s ∷ starts_of ps t ∷ [])
no_second ps s t i j n m h =
    counted (starts_of ps s) (starts_of ps t) m.matches n m.long
    (starts-end (starts_of ps s) (starts_of ps t) m.matches (drop i (starts_of ps s))
    (subst (λ (l : List ℤ). Merging (starts_of ps s) (starts_of ps t) m.matches (drop i (starts_of ps s)) l) (drop_of_length-le (starts_of ps t) {i = j} (omega (arith, h, starts-length ps t))) m.merging))

pub no-first : (ps : List ℕ) (s t : Term) (i j n : ℕ) → Paired ps s t i j n → s.freq ≤ i → n ≡ common_size (starts_of ps s ∷ starts_of ps t ∷ [])
no-first ps s t i j n m h =
    counted (starts_of ps s) (starts_of ps t) m.matches n m.long
    (candidates-end (starts_of ps s) (starts_of ps t) m.matches (drop j (starts_of ps t))
    (subst (λ (l : List ℤ). Merging (starts_of ps s) (starts_of ps t) m.matches l (drop j (starts_of ps t))) (drop_of_length-le (starts_of ps s) {i = i} (omega (arith, h, starts-length ps s))) m.merging))
