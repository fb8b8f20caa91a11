-- Leaves whose runs follow one another: one, and one more. Assumes nothing.
use mathlib.Core.Path.{◌≡◌, refl, sym, ap, subst, ◌∙◌}
use mathlib.Core.Logic.{⊎_elim}
use mathlib.Core.Bool.{Bool, true, false, not, ◌&&◌, ◌||◌}
use Prim.Native.Nat.{ℕ, suc, ◌+◌, ◌-◌, ◌*◌, ◌<◌}
use native.Mathlib.Omega.{arith}
use lib.Dec.{leb, eqb}
use lib.ListN.{get_or}
use borrow.Author.Tests.{lt-ltb, eqb-true, eqb-false, not-true, not-false}
use Rattle.meaning.specs.Below.{count_below}
use Rattle.meaning.specs.Lent.{Index, has_positions, leaf_field, leaf_first, leaf_number, leaf_document, field_positions}
use Rattle.meaning.proofs.Tests.{or_left, or_right}
use Rattle.meaning.proofs.Below.{last-or-below}
use Rattle.index.specs.declared.fields.Field.{Field}
use Rattle.index.specs.declared.leaves.Leaf.{Leaf}
use Rattle.index.specs.Records.{field_of, leaf_of}
use Rattle.index.proofs.Words.{leaf-field, leaf-number, field-positions}
use Rattle.check_positions.proofs.Gaps.{and_left, and_right}
use Rattle.check_leaves.specs.Together.{Together, border_fall}

module _ (ix : Index) where
  abbrev document_at : ℕ → ℕ
  document_at k = get_or ix.postings k 0

  -- the last document of a leaf that is not empty
  last-document : (l last : ℕ) → 0 < leaf_number ix l → last ≡ leaf_first ix l + leaf_number ix l → leaf_document ix l (leaf_number ix l - 1) ≡ document_at (3 * (last - 1))
  last-document l last p e =
      let z : 3 * (leaf_first ix l + (leaf_number ix l - 1)) ≡ 3 * (last - 1) = omega arith in ap (λ (k : ℕ). document_at k) z

  border-none : (l : ℕ) → ◌≡◌ {A = ℕ} 0 (count_below 1 (border_fall ix l))
  unfolding count_below
  border-none l = refl

  pub together-one : (l last : ℕ) → 0 < leaf_number ix l → last ≡ leaf_first ix l + leaf_number ix l → document_at (3 * (last - 1)) < ix.max_doc → Together ix l 1 last 0 false
  together-one l last p e low =
      let z : l ≡ l + 0 = omega arith in
      record {
        some = λ i g. let y : l ≡ l + i = omega arith in subst (λ (k : ℕ). 0 < leaf_number ix k) y p;
        next = λ i g. absurd (omega arith);
        with = λ i g. absurd (omega arith);
        ends = subst (λ (k : ℕ). last ≡ leaf_first ix k + leaf_number ix k) z e;
        fallen = border-none l;
        low = λ h i g. let y : l ≡ l + i = omega arith in subst (λ (k : ℕ). leaf_document ix k (leaf_number ix k - 1) < ix.max_doc) y (subst (λ (d : ℕ). d < ix.max_doc) (sym (last-document l last p e)) low);
      }

  -- a first document held to the one before
  pub border-is : (l m e last : ℕ) → e ≡ l + m → 0 < m → leaf_first ix e ≡ last → leb (document_at (3 * last)) (document_at (3 * (last - 1))) ≡ border_fall ix l m
  border-is l m e last s p g =
      sym (ap (λ (b : Bool). b && leb (document_at (3 * leaf_first ix (l + m))) (document_at (3 * (leaf_first ix (l + m) - 1)))) (lt-ltb _ _ p) ∙ ap (λ (k : ℕ). leb (document_at (3 * k)) (document_at (3 * (k - 1)))) (ap (λ (k : ℕ). leaf_first ix k) (sym s) ∙ g))

  module _ (l m last falls : ℕ) (t : Together ix l m last falls false) (p : 0 < m) (e : ℕ) (s : e ≡ l + m) (g : leaf_first ix e ≡ last) (n : 0 < leaf_number ix e) (q : has_positions ix (leaf_field ix e) ≡ true) where
    pub together-more : (last' falls' : ℕ) → last' ≡ leaf_first ix e + leaf_number ix e → falls' ≡ count_below (m + 1) (border_fall ix l) → document_at (3 * (last' - 1)) < ix.max_doc → Together ix l (m + 1) last' falls' false
    together-more last' falls' a b low =
        record {
          some = λ i k. ⊎_elim (λ (z : i ≡ m). let y : e ≡ l + i = omega arith in subst (λ (x : ℕ). 0 < leaf_number ix x) y n) (λ (z : i < m). t.some i z) (last-or-below i m (omega arith));
          next = λ i k. ⊎_elim (λ (z : suc i ≡ m). let y : e ≡ l + suc i = omega arith in let x : m - 1 ≡ i = omega arith in sym (ap (λ (w : ℕ). leaf_first ix w) y) ∙ g ∙ t.ends ∙ ap (λ (w : ℕ). leaf_first ix (l + w) + leaf_number ix (l + w)) x) (λ (z : suc i < m). t.next i z) (last-or-below (suc i) m (omega arith));
          with = λ i k. ⊎_elim (λ (z : suc i ≡ m). let y : e ≡ l + suc i = omega arith in subst (λ (x : ℕ). has_positions ix (leaf_field ix x) ≡ true) y q) (λ (z : suc i < m). t.with i z) (last-or-below (suc i) m (omega arith));
          ends = let y : e ≡ l + (m + 1 - 1) = omega arith in subst (λ (k : ℕ). last' ≡ leaf_first ix k + leaf_number ix k) y a;
          fallen = b;
          low = λ h i k. ⊎_elim (λ (z : i ≡ m). let y : e ≡ l + i = omega arith in subst (λ (x : ℕ). leaf_document ix x (leaf_number ix x - 1) < ix.max_doc) y (subst (λ (d : ℕ). d < ix.max_doc) (sym (last-document e last' n a)) low)) (λ (z : i < m). t.low refl i z) (last-or-below i m (omega arith));
        }

-- the first leaf and its field, as the code reads them
module _ (ix : Index) (l : ℕ) (leaf : Leaf) (field : Field) (e : leaf ≡ leaf_of ix l) (g : field ≡ field_of ix leaf.field) (has empty : Bool) (w : has ≡ eqb field.positions 1) (z : empty ≡ eqb leaf.number 0) (h : (not has || empty) ≡ false) where
  pub begun-some : 0 < leaf_number ix l
  begun-some = let n : leaf.number ≡ 0 → ⊥ = eqb-false _ _ (sym z ∙ or_right (not has) empty h) in omega (arith, n, leaf-number ix l leaf e)

  pub begun-with : has_positions ix (leaf_field ix l) ≡ true
  begun-with =
      ap (λ (x : ℕ). eqb x 1) (sym (field-positions ix leaf.field field g ∙ ap (λ (f : ℕ). field_positions ix f) (leaf-field ix l leaf e))) ∙ sym w ∙ not-false _ (or_left (not has) empty h)

-- a leaf whose run begins where the one before ends
pub record Followed (ix : Index) (k last : ℕ) : Type 0 where
  pub first : leaf_first ix k ≡ last
  pub some : 0 < leaf_number ix k
  pub with : has_positions ix (leaf_field ix k) ≡ true

pub followed : (ix : Index) (k last : ℕ) → ((eqb (leaf_first ix k) last && not (eqb (leaf_number ix k) 0)) && has_positions ix (leaf_field ix k)) ≡ true → Followed ix k last
followed ix k last e =
    let both = and_left (eqb (leaf_first ix k) last && not (eqb (leaf_number ix k) 0)) (has_positions ix (leaf_field ix k)) e in
    let z : leaf_number ix k ≡ 0 → ⊥ = eqb-false _ _ (not-true _ (and_right (eqb (leaf_first ix k) last) (not (eqb (leaf_number ix k) 0)) both)) in
    record {
      first = eqb-true _ _ (and_left (eqb (leaf_first ix k) last) (not (eqb (leaf_number ix k) 0)) both);
      some = omega (arith, z);
      with = and_right (eqb (leaf_first ix k) last && not (eqb (leaf_number ix k) 0)) (has_positions ix (leaf_field ix k)) e;
    }
