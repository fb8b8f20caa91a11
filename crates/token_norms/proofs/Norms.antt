-- The fields' norm bytes, one field after the other: those of the fields before a field stand at the front. Assumes nothing.
use mathlib.Core.Path.{◌≡◌, sym, ap, ◌∙◌}
use mathlib.Core.Logic.{⊎_elim}
use mathlib.Core.Bool.{Bool, true, false, cond}
use mathlib.Core.List.{List, [], ◌++◌, append-nil}
use Prim.Native.Nat.{ℕ, zero, suc, ◌+◌, ◌*◌, ◌≤◌, ◌<◌}
use native.Mathlib.Nat.{eq-or-lt_of_le}
use native.Mathlib.Omega.{arith}
use lib.ListN.{length, drop, length-append}
use lib.Seq.{sets, sets-eq, length-sets}
use Rattle.meaning.specs.Below.{count_below, list_to}
use Rattle.meaning.specs.Lent.{field_count, has_norms}
use Rattle.meaning.specs.SmallFloat.{int_to_byte4}
use Rattle.meaning.specs.Packed.{join_to}
use Rattle.meaning.specs.Entries.{written}
use Rattle.meaning.proofs.Below.{count-zero, count-more, count-lt, length-list_to}
use Rattle.index.specs.Slices.{fields_only}
use Rattle.packed.proofs.Joined.{join-zero, join-next}
use Rattle.token_norms.specs.Lengths.{length_in, norm_bytes}
use Rattle.meaning.proofs.Stores.{sets-append}

-- a of b rows of n, and one more of them
rows : (a b n : ℕ) → a < b → a * n + n ≤ b * n
rows a zero n l = absurd (omega arith)
rows a (suc b) n l =
    let s : suc b * n ≡ b * n + n = omega arith in
    ⊎_elim (λ (e : a ≡ b). omega (arith, s, ap (λ (k : ℕ). k * n) e)) (λ (e : a < b). omega (arith, s, rows a b n e)) (eq-or-lt_of_le {n = a} {m = b} (omega arith))

row_more : (a n : ℕ) → (a + 1) * n ≡ a * n + n
row_more a n = omega arith

-- the part of a field
module _ (n : ℕ) (fields leaf_fields postings runs : List ℕ) where
  abbrev pub part : ℕ → List ℕ
  part f = cond (has_norms (fields_only fields) f) (list_to n (λ d. int_to_byte4 (length_in leaf_fields postings runs f d))) []

  abbrev number : ℕ → ℕ
  number f = count_below f (has_norms (fields_only fields))

  part-with : (f : ℕ) → has_norms (fields_only fields) f ≡ true → part f ≡ list_to n (λ d. int_to_byte4 (length_in leaf_fields postings runs f d))
  part-with f e = ap (λ (b : Bool). cond b (list_to n (λ d. int_to_byte4 (length_in leaf_fields postings runs f d))) []) e

  part_without : (f : ℕ) → has_norms (fields_only fields) f ≡ false → part f ≡ []
  part_without f e = ap (λ (b : Bool). cond b (list_to n (λ d. int_to_byte4 (length_in leaf_fields postings runs f d))) []) e

  number-with : (f : ℕ) → has_norms (fields_only fields) f ≡ true → number (f + 1) ≡ number f + 1
  number-with f e = count-more f (has_norms (fields_only fields)) ∙ ap (λ (b : Bool). number f + cond b 1 0) e

  number-without : (f : ℕ) → has_norms (fields_only fields) f ≡ false → number (f + 1) ≡ number f
  number-without f e = let z : number f + 0 ≡ number f = omega arith in count-more f (has_norms (fields_only fields)) ∙ ap (λ (b : Bool). number f + cond b 1 0) e ∙ z

  -- the parts of the fields before f stand at the front of the norms
  pub record Coded (start : List ℕ) (f at : ℕ) (norms : List ℕ) : Type 0 where
    pub upto : f ≤ field_count (fields_only fields)
    pub place : at ≡ number f * n
    pub long : length (join_to f part) ≡ number f * n
    pub norms-are : norms ≡ sets start 0 (join_to f part)

  pub coded-start : (start : List ℕ) → Coded start 0 0 start
  coded-start start =
      let z : 0 ≡ number 0 * n = let k : 0 ≡ 0 * n = omega arith in k ∙ ap (λ (k : ℕ). k * n) (sym (count-zero (has_norms (fields_only fields)))) in
      record {
        upto = omega arith;
        place = z;
        long = ap length (join-zero part) ∙ z;
        norms-are = ap (λ (xs : List ℕ). sets start 0 xs) (sym (join-zero part));
      }

  module _ (start : List ℕ) (room : number (field_count (fields_only fields)) * n ≤ length start) (f at : ℕ) (norms : List ℕ) (C : Coded start f at norms) where
    pub norms-long : length norms ≡ length start
    norms-long = ap length C.norms-are ∙ length-sets start 0 (join_to f part)

    module _ (m : f < field_count (fields_only fields)) where
      -- a field with norms
      module _ (e : has_norms (fields_only fields) f ≡ true) where
        pub room-here : at + n ≤ length norms
        room-here =
            omega (arith, C.place, room, norms-long, rows (number f) (number (field_count (fields_only fields))) n (omega (arith, count-lt f (field_count (fields_only fields)) (has_norms (fields_only fields)) m e)))

        row : number f * n + n ≡ number (f + 1) * n
        row = sym (ap (λ (k : ℕ). k * n) (number-with f e) ∙ row_more (number f) n)

        pub coded-with : (at' : ℕ) (norms' : List ℕ) → at' ≡ at + n → norms' ≡ sets norms at (list_to n (λ d. int_to_byte4 (length_in leaf_fields postings runs f d))) → Coded start (f + 1) at' norms'
        coded-with at' norms' a g =
            let seam : at ≡ 0 + length (join_to f part) = omega (arith, C.place, C.long) in
            record {
              upto = omega arith;
              place = omega (arith, a, C.place, row);
              long = ap length (join-next part f) ∙ length-append (join_to f part) (part f) ∙ omega (arith, C.long, row, ap length (part-with f e), length-list_to n (λ d. int_to_byte4 (length_in leaf_fields postings runs f d)));
              norms-are =
                  g
                  ∙ ap (λ (xs : List ℕ). sets norms at xs) (sym (part-with f e))
                  ∙ ap (λ (xs : List ℕ). sets xs at (part f)) C.norms-are
                  ∙ ap (λ (k : ℕ). sets (sets start 0 (join_to f part)) k (part f)) seam
                  ∙ sym (sets-append start 0 (join_to f part) (part f))
                  ∙ ap (λ (xs : List ℕ). sets start 0 xs) (sym (join-next part f));
            }

      -- and one without
      module _ (e : has_norms (fields_only fields) f ≡ false) where
        same : join_to f part ≡ join_to (f + 1) part
        same = sym (join-next part f ∙ ap (λ (xs : List ℕ). join_to f part ++ xs) (part_without f e) ∙ append-nil (join_to f part))

        pub coded-without : (at' : ℕ) (norms' : List ℕ) → at' ≡ at → norms' ≡ norms → Coded start (f + 1) at' norms'
        coded-without at' norms' a g =
            let k = ap (λ (k : ℕ). k * n) (sym (number-without f e)) in
            record {
              upto = omega arith;
              place = a ∙ C.place ∙ k;
              long = ap length (sym same) ∙ C.long ∙ k;
              norms-are = g ∙ C.norms-are ∙ ap (λ (xs : List ℕ). sets start 0 xs) same;
            }

    pub coded-all : field_count (fields_only fields) ≤ f → norms ≡ written (norm_bytes n fields leaf_fields postings runs) start
    unfolding norm_bytes
    coded-all l =
        let e : f ≡ field_count (fields_only fields) = omega (arith, C.upto) in
        let z : 0 + length (join_to f part) ≡ length (join_to f part) = omega arith in
        C.norms-are
        ∙ sets-eq (join_to f part) start 0 (omega (arith, C.long, room, ap (λ (k : ℕ). number k * n) e))
        ∙ ap (λ (k : ℕ). join_to f part ++ drop k start) z
        ∙ ap (λ (k : ℕ). written (join_to k part) start) e
