-- The state of `intersect`: a merge of candidates with a term's starts, the matches written. Assumes nothing.
use mathlib.Core.Path.{◌≡◌, sym, subst, ◌∙◌}
use mathlib.Core.Bool.{true, false}
use mathlib.Core.List.{List, [], ◌∷◌, ◌++◌}
use Prim.Native.Nat.{ℕ, ◌+◌, ◌≤◌, ◌<◌}
use native.Mathlib.Numerals.{add-one}
use native.Mathlib.Omega.{arith}
use lib.ListN.{length, take, drop, set, get_or, length-set, drop_of_length-le}
use lib.Seq.{take-suc-set, drop-cons}
use lib.IntN.{ℤ, pos, sub_ℕ}
use lib.Signed.{lt_z}
use mir.Val.{SFits, to_z, of_z}
use mir.Syntax.{w32}
use mir.ValLaws.{to_z-of_z}
use Rattle.phrase_starts.specs.declared.Term.{Term}
use Rattle.phrase_starts.specs.Terms.{starts_of}
use Rattle.phrase_starts.specs.Common.{Common}
use Rattle.meaning.proofs.Signed.{lt_yes}
use Rattle.phrase_starts.proofs.Order.{same, tested}
use Rattle.phrase_starts.proofs.Merge.{Merging, candidate-passed, start-passed, matched, candidates-end, starts-end}
use Rattle.phrase_starts.proofs.Records.{starts-length, starts-drop}

-- n matches are written, c candidates and i starts are passed
pub record Merged (ps : List ℕ) (t : Term) (cs : List ℤ) (places : ℕ) (out : List ℤ) (i c n : ℕ) : Type 0 where
  pub long : length out ≡ places
  pub few : n ≤ c
  pub candidates : c ≤ length cs
  pub positions : i ≤ t.freq
  pub merging : Merging cs (starts_of ps t) (take n out) (drop c cs) (drop i (starts_of ps t))

module _ (ps : List ℕ) (t : Term) (cs : List ℤ) (places : ℕ) (out : List ℤ) (i c n : ℕ) (m : Merged ps t cs places out i c n) (room : length cs ≤ places) (hi : i < t.freq) (hc : (c ≡ length cs) → ⊥) (s : ℤ) (e : s ≡ sub_ℕ (get_or ps (t.first + i) 0) t.offset) (fs : SFits w32 s) (fc : SFits w32 (get_or cs c (pos 0))) where
  left : c < length cs
  left = omega (arith, m.candidates, hc)

  next-candidate : drop c cs ≡ get_or cs c (pos 0) ∷ drop (c + 1) cs
  next-candidate = drop-cons cs c (pos 0) left ∙ rw (add-one c)

  next_start : drop i (starts_of ps t) ≡ s ∷ drop (i + 1) (starts_of ps t)
  next_start = starts-drop ps t i hi ∙ rw e

  opened : Merging cs (starts_of ps t) (take n out) (get_or cs c (pos 0) ∷ drop (c + 1) cs) (s ∷ drop (i + 1) (starts_of ps t))
  opened =
      subst (λ (xs : List ℤ). Merging cs (starts_of ps t) (take n out) (get_or cs c (pos 0) ∷ drop (c + 1) cs) xs) next_start
      (subst (λ (l : List ℤ). Merging cs (starts_of ps t) (take n out) l (drop i (starts_of ps t))) next-candidate m.merging)

  pub passed-candidate : lt_z (to_z w32 (of_z w32 (get_or cs c (pos 0)))) (to_z w32 (of_z w32 s)) ≡ true → Merged ps t cs places out i (c + 1) n
  passed-candidate h =
      record {
        long = m.long;
        few = omega (arith, m.few);
        candidates = omega (arith, left);
        positions = m.positions;
        merging =
            subst (λ (xs : List ℤ). Merging cs (starts_of ps t) (take n out) (drop (c + 1) cs) xs) (sym next_start)
            (candidate-passed cs (starts_of ps t) (take n out) (get_or cs c (pos 0)) (drop (c + 1) cs) s (drop (i + 1) (starts_of ps t)) opened (lt_yes (get_or cs c (pos 0)) s (tested (get_or cs c (pos 0)) s true fc fs h)));
      }

  pub passed_start : lt_z (to_z w32 (of_z w32 s)) (to_z w32 (of_z w32 (get_or cs c (pos 0)))) ≡ true → Merged ps t cs places out (i + 1) c n
  passed_start h =
      record {
        long = m.long;
        few = m.few;
        candidates = m.candidates;
        positions = omega (arith, hi);
        merging =
            subst (λ (l : List ℤ). Merging cs (starts_of ps t) (take n out) l (drop (i + 1) (starts_of ps t))) (sym next-candidate)
            (start-passed cs (starts_of ps t) (take n out) (get_or cs c (pos 0)) (drop (c + 1) cs) s (drop (i + 1) (starts_of ps t)) opened (lt_yes s (get_or cs c (pos 0)) (tested s (get_or cs c (pos 0)) true fs fc h)));
      }

  written : take (n + 1) (set out n (to_z w32 (of_z w32 s))) ≡ take n out ++ (s ∷ [])
  written = rw (to_z-of_z w32 s fs, add-one n) (take-suc-set out n s (omega (arith, m.long, room, m.few, left)))

  pub met : lt_z (to_z w32 (of_z w32 (get_or cs c (pos 0)))) (to_z w32 (of_z w32 s)) ≡ false → lt_z (to_z w32 (of_z w32 s)) (to_z w32 (of_z w32 (get_or cs c (pos 0)))) ≡ false → Merged ps t cs places (set out n (to_z w32 (of_z w32 s))) (i + 1) (c + 1) (n + 1)
  met h k =
      record {
        long = length-set out n (to_z w32 (of_z w32 s)) ∙ m.long;
        few = omega (arith, m.few);
        candidates = omega (arith, left);
        positions = omega (arith, hi);
        merging =
            subst (λ (zs : List ℤ). Merging cs (starts_of ps t) zs (drop (c + 1) cs) (drop (i + 1) (starts_of ps t))) (sym written)
            (matched cs (starts_of ps t) (take n out) (get_or cs c (pos 0)) (drop (c + 1) cs) s (drop (i + 1) (starts_of ps t)) opened (same (get_or cs c (pos 0)) s (tested (get_or cs c (pos 0)) s false fc fs h) (tested s (get_or cs c (pos 0)) false fs fc k)));
      }

-- the merge ends
pub no-candidate : (ps : List ℕ) (t : Term) (cs : List ℤ) (places : ℕ) (out : List ℤ) (i c n : ℕ) → Merged ps t cs places out i c n → c ≡ length cs → Common (cs ∷ starts_of ps t ∷ []) (take n out)
no-candidate ps t cs places out i c n m h =
    candidates-end cs (starts_of ps t) (take n out) (drop i (starts_of ps t))
    (subst (λ (l : List ℤ). Merging cs (starts_of ps t) (take n out) l (drop i (starts_of ps t))) (drop_of_length-le cs {i = c} (omega (arith, h))) m.merging)

pub no_start : (ps : List ℕ) (t : Term) (cs : List ℤ) (places : ℕ) (out : List ℤ) (i c n : ℕ) → Merged ps t cs places out i c n → t.freq ≤ i → Common (cs ∷ starts_of ps t ∷ []) (take n out)
no_start ps t cs places out i c n m h =
    starts-end cs (starts_of ps t) (take n out) (drop c cs)
    (subst (λ (xs : List ℤ). Merging cs (starts_of ps t) (take n out) (drop c cs) xs) (drop_of_length-le (starts_of ps t) {i = i} (omega (arith, h, starts-length ps t))) m.merging)
