-- Refusal 7: how the code comes to it, and what is known of a query that it lets through. Assumes nothing.
use mathlib.Core.Path.{◌≡◌, refl, ap}
use mathlib.Core.Bool.{Bool, true, false, not, ◌||◌, ◌&&◌}
use mathlib.Core.List.{List}
use Rattle.std.specs.Prelude.{Option as Answer, Some}
use Rattle.std.specs.Option.{option_eq}
use mathlib.Core.Option.{Option, none, some}
use Prim.Native.Nat.{ℕ, zero, suc, ◌+◌, ◌%◌, ◌≤◌, ◌<◌}
use native.Mathlib.Omega.{arith}
use lib.Dec.{eqb, ltb}
use lib.ListN.{length}
use borrow.Author.Tests.{ltb-false, eqb-true, eqb-false, not-false}
use Rattle.meaning.specs.Query.{record_count, record_kind, record_children, record_occurrence, Decoded, decode, decode_query, query_tree, tree_of, guard, ◌>>=◌}
use Rattle.meaning.specs.QueryRefusals.{wrong7, wrong_records}
use Rattle.query.specs.Inner.{decoded_end}
use Rattle.meaning.proofs.Tests.{or_left, or_right}
use Rattle.query.proofs.Inverse.{bind-some, guard-some, both_true, phrase-at}
use Rattle.query.proofs.Spans.{Stands, a-tree, a-phrase-term, tree-stands}

-- 7 as the code asks it
pub wrong7_parts : (q : List ℕ) → wrong7 q ≡ (not (eqb (length q % 9) 0) || eqb (record_count q) 0 || ltb 256 (record_count q) || not (eqb (record_occurrence q 0) 0) || not (option_eq eqb (decoded_end (decode q 16 0)) (Some (record_count q))))
unfolding wrong7 decode_query wrong_records
wrong7_parts q =
    go (not (eqb (length q % 9) 0) || eqb (record_count q) 0 || ltb 256 (record_count q)) (eqb (record_occurrence q 0) 0) (decode q 16 0)
  where
    go : (a b : Bool) (o : Option Decoded) → (a || wrong_records q (guard b >>= λ ok. o)) ≡ (a || not b || not (option_eq eqb (decoded_end o) (Some (record_count q))))
    go true b o = refl
    go false false o = refl
    go false true none = refl
    go false true (some D) = refl

-- "records left over", where all else is right
pub left_over : (q : List ℕ) (count : ℕ) (end : Answer ℕ) (r : Bool) → (not (eqb (length q % 9) 0) || eqb (record_count q) 0 || ltb 256 (record_count q) || not (eqb (record_occurrence q 0) 0)) ≡ false → count ≡ record_count q → end ≡ decoded_end (decode q 16 0) → r ≡ not (option_eq eqb end (Some count)) → r ≡ wrong7 q
left_over q count end r e c d f = rw (wrong7_parts q, e, ← c, ← d) f

module _ (q : List ℕ) where
  -- ---- what 7 lets through
  pub record Whole : Type 0 where
    pub whole : length q % 9 ≡ 0
    pub some-records : 0 < record_count q
    pub few-records : record_count q ≤ 256
    pub root-occurrence : record_occurrence q 0 ≡ 0
    pub root : Decoded
    pub root_is : decode q 16 0 ≡ some root
    pub query-is : decode_query q ≡ some root
    pub tree_is : query_tree q ≡ root.tree
    pub none_left : root.next ≡ record_count q

  right-some : (o : Option Decoded) → wrong_records q o ≡ false → (D : Decoded) × (o ≡ some D) × (D.next ≡ record_count q)
  unfolding wrong_records
  right-some none e = let z : ◌≡◌ {A = ℕ} 0 1 = cc in absurd (omega arith)
  right-some (some D) e = (D, refl, eqb-true D.next (record_count q) (not-false (eqb D.next (record_count q)) e))

  pub whole : wrong7 q ≡ false → Whole
  unfolding wrong7 decode_query query_tree
  whole e =
      let ab = or_left (not (eqb (length q % 9) 0) || eqb (record_count q) 0 || ltb 256 (record_count q)) (wrong_records q (decode_query q)) e in
      let a = or_left (not (eqb (length q % 9) 0) || eqb (record_count q) 0) (ltb 256 (record_count q)) ab in
      let none = eqb-false (record_count q) 0 (or_right (not (eqb (length q % 9) 0)) (eqb (record_count q) 0) a) in
      let d = right-some (decode_query q) (or_right (not (eqb (length q % 9) 0) || eqb (record_count q) 0 || ltb 256 (record_count q)) (wrong_records q (decode_query q)) e) in
      let g = bind-some (guard (eqb (record_occurrence q 0) 0)) (λ ok. decode q 16 0) d.0 d.1 in
      record {
        whole = eqb-true (length q % 9) 0 (not-false (eqb (length q % 9) 0) (or_left (not (eqb (length q % 9) 0)) (eqb (record_count q) 0) a));
        some-records = above-none (record_count q) none;
        few-records = ltb-false 256 (record_count q) (or_right (not (eqb (length q % 9) 0) || eqb (record_count q) 0) (ltb 256 (record_count q)) ab);
        root-occurrence = eqb-true (record_occurrence q 0) 0 (guard-some (eqb (record_occurrence q 0) 0) g.0 g.1);
        root = d.0;
        root_is = g.2;
        query-is = d.1;
        tree_is = ap tree_of d.1;
        none_left = d.2;
      }
    where
      above-none : (n : ℕ) → (n ≡ 0 → ⊥) → 0 < n
      above-none zero h = absurd (h refl)
      above-none (suc n) h = omega arith

-- each record of a whole query stands for a tree, or for a phrase's term
pub record-stands : (q : List ℕ) → wrong7 q ≡ false → (i : ℕ) → i < record_count q → Stands q i
record-stands q e i h = let w = whole q e in let n = w.none_left in tree-stands q 16 0 w.root w.root_is i (omega arith) (omega (arith, n, h))

-- a record that says Phrase is one, wherever it stands, and its terms are records of the query
pub phrase-stands : (q : List ℕ) → wrong7 q ≡ false → (r : ℕ) → r < record_count q → record_kind q r ≡ 2 → (k : ℕ) × (D : Decoded) × (decode q (suc k) r ≡ some D)
phrase-stands q e r h k = go (record-stands q e r h)
  where
    go : Stands q r → (k : ℕ) × (D : Decoded) × (decode q (suc k) r ≡ some D)
    go (a-tree d D f) = (d, D, f)
    go (a-phrase-term t) =
        let nine = eqb-true (record_kind q r) 9 (both_true (eqb (record_kind q r) 9) _ (both_true (eqb (record_kind q r) 9 && eqb (record_occurrence q r) 0) _ t).0).0 in
        absurd (omega (arith, nine, k))

pub terms-here : (q : List ℕ) → wrong7 q ≡ false → (r : ℕ) → r < record_count q → record_kind q r ≡ 2 → r + 1 + record_children q r ≤ record_count q
terms-here q e r h k = let p = phrase-stands q e r h k in (phrase-at q p.0 r p.1 p.2 k).terms-here
