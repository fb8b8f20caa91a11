-- BM25 at a field, a frequency and a document's norm byte, as the words give them. Assumes nothing.
use mathlib.Core.Path.{◌≡◌, refl, sym, ap, subst, ◌∙◌}
use mathlib.Core.Logic.{⊎_elim}
use mathlib.Core.Bool.{Bool, true, false, not, cond, false≢true}
use Rattle.std.specs.Prelude.{Option, Some, None}
use mathlib.Core.List.{List}
use Prim.Native.Nat.{ℕ, suc, ◌+◌, ◌-◌, ◌*◌, ◌^◌, ◌≤◌, ◌<◌}
use native.Mathlib.Omega.{arith}
use lib.Dec.{T, eqb}
use lib.IntN.{pos}
use lib.ListN.{length, get_or, get_or-eq_default}
use lib.Ieee.{Float, nan, binary32, is_nan, nan_bits, of_bits, of_int}
use lib.Ieee.Bits.{of_bits-to_bits, nan_bits_is}
use borrow.Author.Tests.{ne_eqb}
use Rattle.meaning.specs.Below.{count_below}
use Rattle.meaning.specs.Limits.{largest_frequency}
use Rattle.meaning.specs.Lent.{Index, field_count, field_average, has_norms, norm_byte}
use Rattle.meaning.specs.Bm25.{length_of, inverse, bm25}
use Rattle.meaning.specs.Score.{field_score}
use Rattle.ieee754.specs.Nonneg.{nonneg, AtMost}
use Rattle.ieee754.proofs.Bounds.{atmost-number}
use Rattle.sim.proofs.Inverses.{byte-inverse-within}
use Rattle.sim.proofs.ScoreBounds.{score-atmost}
use Rattle.index.specs.Accepted.{Accepted}
use Rattle.tree_weight.specs.Held.{norms_word, FloatIs}
use Rattle.tree_weight.specs.Sound.{FieldTable}
use Rattle.score_leaf.specs.Words.{first_byte, byte_at}
use Rattle.meaning.proofs.Tests.{cmp}

-- a score in words
pub float_back : (x : Float) (bits : ℕ) → FloatIs x bits → of_bits binary32 bits ≡ x
float_back x bits f = ap (of_bits binary32) f.bits_are ∙ of_bits-to_bits binary32 x f.held

pub float-number : (x : Float) (bits : ℕ) → FloatIs x bits → T (not (nan_bits binary32 bits))
float-number x bits f = subst (λ (b : Bool). T (not b)) (sym (nan_bits_is binary32 bits ∙ ap is_nan (float_back x bits f))) (atmost-number f.small)

not-nan : (x : Float) → T (nonneg x) → nan ≡ x → ⊥
not-nan x s e = subst (λ (z : Float). T (nonneg z)) (sym e) s

-- ---- norms
first_byte_suc : (m : ℕ) → first_byte (suc m) ≡ Some m
first_byte_suc m =
    let z : eqb (suc m) 0 ≡ false = ne_eqb (suc m) 0 (λ q. omega arith) in
    let k : suc m - 1 ≡ m = omega arith in
    rw z (ap Some k)

place-of : Option ℕ → ℕ
place-of (Some m) = m
place-of None = 0

some_same : (m n : ℕ) → Some m ≡ Some n → m ≡ n
unfolding place-of
some_same m n e = ap place-of e

is-some : Option ℕ → Bool
is-some (Some m) = true
is-some None = false

none-some : (m : ℕ) → None ≡ Some m → ⊥
unfolding is-some
none-some m e = false≢true (ap is-some e)

module _ (ix : Index) (A : Accepted ix) (f : ℕ) (there : f < field_count ix) (doc : ℕ) (inside : doc < ix.max_doc) where
  norm-cases : (h : Bool) → has_norms ix f ≡ h → (begin : Option ℕ) → begin ≡ first_byte (cond h (suc (count_below f (has_norms ix) * ix.max_doc)) 0) → ((first : ℕ) → begin ≡ Some first → first + doc < length ix.norms) × (byte_at ix.norms begin doc ≡ cond h (get_or ix.norms (count_below f (has_norms ix) * ix.max_doc + doc) 0) 1)
  unfolding byte_at
  norm-cases true e begin b =
      let k : begin ≡ Some (count_below f (has_norms ix) * ix.max_doc) = b ∙ first_byte_suc (count_below f (has_norms ix) * ix.max_doc) in
      ((λ first g. omega (arith, some_same first (count_below f (has_norms ix) * ix.max_doc) (sym g ∙ k), A.norm_byte f doc there e inside)), ap (λ (o : Option ℕ). byte_at ix.norms o doc) k)
  norm-cases false e begin b = ((λ first g. absurd (none-some first (sym b ∙ g))), ap (λ (o : Option ℕ). byte_at ix.norms o doc) b)

  pub norm-there : (begin : Option ℕ) → begin ≡ first_byte (norms_word ix f) → (first : ℕ) → begin ≡ Some first → first + doc < length ix.norms
  unfolding norms_word
  norm-there begin b = (norm-cases (has_norms ix f) refl begin b).0

  pub norm-is : (begin : Option ℕ) → begin ≡ first_byte (norms_word ix f) → byte_at ix.norms begin doc ≡ norm_byte ix f doc
  unfolding norms_word
  norm-is begin b = (norm-cases (has_norms ix f) refl begin b).1

  -- ---- the inverse is there, and the score
  module _ (table : List Float) (F : FieldTable ix table f) (byte : ℕ) (small : byte < 256) where
    pub inverse-there : 256 * f + byte < length table
    inverse-there =
        ⊎_elim (λ l. l)
        (λ l. absurd (not-nan (inverse (of_bits binary32 (field_average ix f)) (length_of byte)) (byte-inverse-within (field_average ix f) byte (A.field f there).least (A.field f there).largest small).sign (sym (get_or-eq_default table nan l) ∙ F byte small)))
        (cmp (256 * f + byte) (length table))

    pub weighted-is : (w : Float) (bits n : ℕ) → FloatIs w bits → byte ≡ norm_byte ix f doc → bm25 (of_bits binary32 bits) (of_int binary32 (pos n)) (get_or table (256 * f + byte) nan) ≡ field_score ix f w n doc
    unfolding field_score
    weighted-is w bits n x e = rw (float_back w bits x, F byte small, e)

    pub weighted-small : (w : Float) (bits n : ℕ) → FloatIs w bits → n ≤ largest_frequency → byte ≡ norm_byte ix f doc → AtMost (2 ^ 29) (field_score ix f w n doc)
    unfolding field_score
    weighted-small w bits n x q e = rw e at (score-atmost w n (field_average ix f) byte q (A.field f there).least (A.field f there).largest small (2 ^ 29) x.held x.small)
