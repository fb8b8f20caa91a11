-- The parts of some children that are asked by windows, split after the first of them and put together again, and sums that are all 0. Assumes nothing.
use Rattle.std.proofs.Common.{◌≡◌, refl, sym, ap, subst, ◌∙◌, cond, List, [], ◌++◌, ℕ, zero, suc, ◌*◌, ◌^◌, length, append_assoc, length-append, arith}
use Rattle.std.proofs.lemmas.List.{length-replicate, get_or-replicate}
use Rattle.std.specs.Prelude.{Float, replicate}
use Rattle.std.specs.Float.{nan}
use Rattle.meaning.specs.Lent.{Index}
use Rattle.meaning.specs.Ieee754.{zero_float}
use Rattle.ieee754.specs.Nonneg.{AtMost}
use Rattle.ieee754.proofs.Bounds.{zero-atmost}
use Rattle.tree_weight.specs.ScorerTree.{Scorers, end, more}
use Rattle.tree_weight.specs.State.{sizes_of_first}
use Rattle.score.proofs.Join.{first_of, rest_of}
use Rattle.window_words.specs.Windowed.{Places, AllWindowed}
use Rattle.window_words.proofs.Laws.{windowed-length}
use Rattle.window_score.specs.Sums.{Sums, Zeros}

-- ---- the parts of the first n children, and of the others
pub record Split (ix : Index) (ranges : List ℕ) (k n : ℕ) (ss : Scorers) (w : List ℕ) (b base : ℕ) (D : Places) : Type 0 where
  pub x : List ℕ
  pub y : List ℕ
  pub is : w ≡ x ++ y
  pub place : length x ≡ sizes_of_first n ss
  pub first : AllWindowed ix ranges (first_of n ss) k x b base D
  pub rest : AllWindowed ix ranges (rest_of n ss) k y b base D

pub all-split : (ix : Index) (ranges : List ℕ) (k n : ℕ) (ss : Scorers) (w : List ℕ) (b base : ℕ) (D : Places) → AllWindowed ix ranges ss k w b base D → Split ix ranges k n ss w b base D
unfolding AllWindowed first_of rest_of sizes_of_first
all-split ix ranges k zero ss w b base D p = record { x = []; y = w; is = refl; place = refl; first = refl; rest = p }
all-split ix ranges k (suc n) end w b base D p = record { x = []; y = w; is = refl; place = refl; first = refl; rest = p }
all-split ix ranges k (suc n) (more f T g) w b base D p =
    let q = all-split ix ranges k n g p.1 b base D p.4 in
    record {
      x = p.0 ++ q.x;
      y = q.y;
      is = p.2 ∙ ap (λ (l : List ℕ). p.0 ++ l) q.is ∙ sym (append_assoc p.0 q.x q.y);
      place = omega (arith, length-append p.0 q.x, q.place, windowed-length ix ranges T k (cond f 1 0) p.0 b base D p.3);
      first = (p.0, q.x, refl, p.3, q.first);
      rest = q.rest;
    }

pub all-join : (ix : Index) (ranges : List ℕ) (k n : ℕ) (ss : Scorers) (x y : List ℕ) (b base : ℕ) (D : Places) → AllWindowed ix ranges (first_of n ss) k x b base D → AllWindowed ix ranges (rest_of n ss) k y b base D → AllWindowed ix ranges ss k (x ++ y) b base D
unfolding AllWindowed first_of rest_of
all-join ix ranges k zero ss x y b base D p q = subst (λ (l : List ℕ). AllWindowed ix ranges ss k (l ++ y) b base D) (sym p) q
all-join ix ranges k (suc n) end x y b base D p q = rw (p, q)
all-join ix ranges k (suc n) (more f T g) x y b base D p q =
    (p.0, p.1 ++ y, ap (λ (l : List ℕ). l ++ y) p.2 ∙ append_assoc p.0 p.1 y, p.3, all-join ix ranges k n g p.1 y b base D p.4 q)

-- ---- sums that are all 0
pub zeros : (z : Float) → z ≡ zero_float → Zeros (replicate 64 z)
zeros z e = record { long = length-replicate 64 z; zero = λ p l. get_or-replicate 64 p z nan l ∙ e }

pub zero-sums : (sums : List Float) → Zeros sums → Sums 0 sums
zero-sums sums z = record { long = z.long; small = λ p l. subst (λ (x : Float). AtMost (0 * 2 ^ 29) x) (sym (z.zero p l)) (zero-atmost _) }
