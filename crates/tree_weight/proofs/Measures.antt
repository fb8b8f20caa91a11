-- What is found of a record's tree, by its kind. Assumes nothing.
use mathlib.Core.Path.{◌≡◌, refl, sym, ◌∙◌, ap, subst}
use mathlib.Core.Bool.{Bool, true, false, cond, ◌&&◌}
use mathlib.Core.List.{List, [], ◌∷◌, ◌++◌, map}
use mathlib.Core.Option.{some}
use mathlib.Core.Logic.{◌⊎◌, inl, inr}
use Prim.Native.Nat.{ℕ, zero, suc, ◌+◌, ◌-◌, ◌/◌, ◌≤◌, ◌<◌, min}
use native.Mathlib.Omega.{arith}
use lib.Dec.{ltb}
use lib.ListN.{length, get_or, set}
use lib.Seq.{get_or-set_same, get_or-set_other}
use borrow.Author.Tests.{lt-ltb, le-ltb, eqb-true}
use Rattle.meaning.specs.Below.{list_to}
use Rattle.meaning.specs.Lent.{Index, leaf_number, leaf_count}
use Rattle.meaning.specs.Phrase.{PhraseTerm}
use Rattle.meaning.specs.Range.{range_documents}
use Rattle.meaning.specs.Query.{record_count, record_kind, record_children, record_value, phrase_terms_of, is_phrase_term, range_of, Tree, term, range, match_all, match_none, Decoded, decode}
use Rattle.meaning.specs.Scorer.{has_scorer, all_have_postings}
use Rattle.meaning.specs.Cost.{cost, least}
use Rattle.meaning.specs.QueryRefusals.{wrong7, wrong8}
use Rattle.query.proofs.Inverse.{term-at, phrase-at, range_at, all-at, none-at, constant-at, boost-at, kind-is, KindIs, is-term, is-phrase, is-boolean, is-range, is_all, is-constant, is-boost, is_none, both_true}
use Rattle.query.proofs.Above.{decoded-here}
use Rattle.query.proofs.Accepted.{term-leaf, phrase-term-right}
use Rattle.query.proofs.Right.{length-list_to}
use Rattle.tree_weight.specs.Measured.{MeasureIs, Measured, term_numbers}
use Rattle.tree_weight.proofs.Standing.{deep, tree-at}

-- ---- a phrase's numbers of postings
map-list_to : (n : ℕ) (f : ℕ → PhraseTerm) (g : PhraseTerm → ℕ) → map g (list_to n f) ≡ list_to n (λ j. g (f j))
unfolding list_to
map-list_to zero f g = refl
map-list_to (suc n) f g = map_last (list_to n f) (f n) ∙ ap (λ (xs : List ℕ). xs ++ (g (f n) ∷ [])) (map-list_to n f g)
  where
    map_last : (xs : List PhraseTerm) (x : PhraseTerm) → map g (xs ++ (x ∷ [])) ≡ map g xs ++ (g x ∷ [])
    map_last [] x = refl
    map_last (y ∷ ys) x = ap (λ (zs : List ℕ). g y ∷ zs) (map_last ys x)

and-false : (b : Bool) → (b && false) ≡ false
and-false true = refl
and-false false = refl

both_positive : (a b : ℕ) → (ltb 0 a && ltb 0 b) ≡ ltb 0 (min a b)
both_positive zero b = sym (le-ltb 0 (min zero b) (omega arith))
both_positive (suc a) zero = and-false (ltb 0 (suc a)) ∙ sym (le-ltb 0 (min (suc a) zero) (omega arith))
both_positive (suc a) (suc b) = rw (lt-ltb 0 (suc a) (omega arith), lt-ltb 0 (suc b) (omega arith), lt-ltb 0 (min (suc a) (suc b)) (omega arith))

and-true : (b : Bool) → (b && true) ≡ b
and-true true = refl
and-true false = refl

all-positive : (ix : Index) (t : PhraseTerm) (ts : List PhraseTerm) → all_have_postings ix (t ∷ ts) ≡ ltb 0 (least (map (λ t. leaf_number ix t.leaf) (t ∷ ts)))
unfolding all_have_postings least
all-positive ix t [] = and-true (ltb 0 (leaf_number ix t.leaf))
all-positive ix t (u ∷ us) =
    ap (λ (b : Bool). ltb 0 (leaf_number ix t.leaf) && b) (all-positive ix u us)
    ∙ both_positive (leaf_number ix t.leaf) (least (map (λ t. leaf_number ix t.leaf) (u ∷ us)))

some-positive : (ix : Index) (ts : List PhraseTerm) → 1 ≤ length ts → all_have_postings ix ts ≡ ltb 0 (least (map (λ t. leaf_number ix t.leaf) ts))
some-positive ix [] h = absurd (omega (arith, h))
some-positive ix (t ∷ ts) h = all-positive ix t ts

module _ (ix : Index) (q : List ℕ) (k at : ℕ) (D : Decoded) (e : decode q k at ≡ some D) where
  -- a leaf that has a scorer, or not
  leaf-measured : (t : Tree) (present n : ℕ) → D.tree ≡ t → D.next ≡ at + 1 → present ≡ cond (has_scorer ix t) 1 0 → n ≡ cost ix t → n < 4294967296 → MeasureIs ix at D (at + 1) present n
  leaf-measured t present n f g h i small =
      record { next-is = sym g; present-is = h ∙ ap (λ (x : Tree). cond (has_scorer ix x) 1 0) (sym f); cost-is = i ∙ ap (cost ix) (sym f); small = omega (arith, small) }

  pub term-measured : (l n present : ℕ) → record_kind q at ≡ 1 → l ≡ record_value q at 0 → n ≡ leaf_number ix l → n < 4294967296 → present ≡ cond (ltb 0 n) 1 0 → MeasureIs ix at D (at + 1) present n
  unfolding has_scorer cost
  term-measured l n present kind is number small p =
      let t = term-at q (k - 1) at D (deep q k at D e) kind in
      let same : n ≡ leaf_number ix (record_value q at 0) = number ∙ ap (leaf_number ix) is in
      leaf-measured (term (record_value q at 0)) present n t.tree_is t.next-is (p ∙ ap (λ (z : ℕ). cond (ltb 0 z) 1 0) same) same small

  pub phrase-measured : (next n present : ℕ) → record_kind q at ≡ 2 → next ≡ at + 1 + record_children q at → n ≡ least (term_numbers ix q at (record_children q at)) → n < 4294967296 → present ≡ cond (ltb 0 n) 1 0 → MeasureIs ix at D next present n
  unfolding has_scorer cost
  phrase-measured next n present kind is number small p =
      let t = phrase-at q (k - 1) at D (deep q k at D e) kind in
      let ts = phrase_terms_of q at in
      let m = record_children q at in
      let same : n ≡ least (map (λ t. leaf_number ix t.leaf) ts) =
      number
      ∙ ap least (sym (map-list_to m (λ j. record { leaf = record_value q (at + 1 + j) 0; offset = record_value q (at + 1 + j) 1 }) (λ t. leaf_number ix t.leaf))) in
      let long = length-list_to m (λ j. term_at j) in
      let some-terms = t.some-terms in
      record {
        next-is = is ∙ sym t.next-is;
        present-is = p ∙ ap (λ (z : ℕ). cond (ltb 0 z) 1 0) same ∙ ap (λ (b : Bool). cond b 1 0) (sym (some-positive ix ts (omega (arith, long, some-terms)))) ∙ ap (λ (x : Tree). cond (has_scorer ix x) 1 0) (sym t.tree_is);
        cost-is = same ∙ ap (cost ix) (sym t.tree_is);
        small = omega (arith, small, is);
      }
    where
      term_at : ℕ → PhraseTerm
      term_at j = record { leaf = record_value q (at + 1 + j) 0; offset = record_value q (at + 1 + j) 1 }

  pub range-measured : (n : ℕ) → record_kind q at ≡ 4 → n ≡ length (range_documents ix (range_of q at)) → n < 4294967296 → MeasureIs ix at D (at + 1) 1 n
  unfolding has_scorer cost
  range-measured n kind is small =
      let t = range_at q (k - 1) at D (deep q k at D e) kind in leaf-measured (range (range_of q at)) 1 n t.tree_is t.next-is refl is small

  pub all-measured : record_kind q at ≡ 5 → ix.max_doc < 4294967296 → MeasureIs ix at D (at + 1) 1 ix.max_doc
  unfolding has_scorer cost
  all-measured kind small =
      let t = all-at q (k - 1) at D (deep q k at D e) kind in leaf-measured match_all 1 ix.max_doc t.tree_is t.next-is refl refl small

  child-measured : (C : Decoded) (next present n : ℕ) → has_scorer ix C.tree ≡ has_scorer ix D.tree → cost ix C.tree ≡ cost ix D.tree → D.next ≡ C.next → MeasureIs ix (at + 1) C next present n → MeasureIs ix at D next present n
  child-measured C next present n f g h m =
      let small = m.small in
      record { next-is = m.next-is ∙ sym h; present-is = m.present-is ∙ ap (λ (b : Bool). cond b 1 0) f; cost-is = m.cost-is ∙ g; small = omega (arith, small) }

  module _ (nexts presents costs : List ℕ) (next present n : ℕ) (m : Measured ix q nexts presents costs (at + 1)) (a : next ≡ get_or nexts (at + 1) 0) (b : present ≡ get_or presents (at + 1) 0) (c : n ≡ get_or costs (at + 1) 0) where
    below : (C : Decoded) → decode q (k - 1) (at + 1) ≡ some C → MeasureIs ix (at + 1) C next present n
    below C d = rw (a, b, c) (m (k - 1) (at + 1) C (omega arith) d)

    pub constant-measured : record_kind q at ≡ 6 → MeasureIs ix at D next present n
    unfolding has_scorer cost
    constant-measured kind =
        let t = constant-at q (k - 1) at D (deep q k at D e) kind in
        child-measured t.child next present n (ap (has_scorer ix) (sym t.tree_is)) (ap (cost ix) (sym t.tree_is)) t.next-is (below t.child t.decoded)

    pub boost-measured : record_kind q at ≡ 7 → MeasureIs ix at D next present n
    unfolding has_scorer cost
    boost-measured kind =
        let t = boost-at q (k - 1) at D (deep q k at D e) kind in
        child-measured t.child next present n (ap (has_scorer ix) (sym t.tree_is)) (ap (cost ix) (sym t.tree_is)) t.next-is (below t.child t.decoded)

  pub none-measured : (record_kind q at ≡ 1 → ⊥) → (record_kind q at ≡ 2 → ⊥) → (record_kind q at ≡ 3 → ⊥) → (record_kind q at ≡ 4 → ⊥) → (record_kind q at ≡ 5 → ⊥) → (record_kind q at ≡ 6 → ⊥) → (record_kind q at ≡ 7 → ⊥) → MeasureIs ix at D (at + 1) 0 0
  unfolding has_scorer cost
  none-measured n1 n2 n3 n4 n5 n6 n7 = go (kind-is q (k - 1) at D (deep q k at D e))
    where
      go : KindIs (record_kind q at) → MeasureIs ix at D (at + 1) 0 0
      go (is-term h) = absurd (n1 h)
      go (is-phrase h) = absurd (n2 h)
      go (is-boolean h) = absurd (n3 h)
      go (is-range h) = absurd (n4 h)
      go (is_all h) = absurd (n5 h)
      go (is-constant h) = absurd (n6 h)
      go (is-boost h) = absurd (n7 h)
      go (is_none h) = let t = none-at q (k - 1) at D (deep q k at D e) h in leaf-measured match_none 0 0 t.tree_is t.next-is refl refl (omega arith)

-- ---- what the code asks
pub term-here : (ix : Index) (q : List ℕ) (at l : ℕ) → wrong8 ix q ≡ false → at < record_count q → record_kind q at ≡ 1 → l ≡ record_value q at 0 → l < leaf_count ix
term-here ix q at l w h kind is = subst (λ (z : ℕ). z < leaf_count ix) (sym is) (term-leaf ix q w at h kind)

pub record TermsHere (q leaves : List ℕ) (at : ℕ) : Type 0 where
  pub room : at + 1 + record_children q at ≤ record_count q
  pub some-terms : 1 ≤ record_children q at
  pub few-terms : record_children q at ≤ 32
  pub leaves-there : (j : ℕ) → j < record_children q at → record_value q (at + 1 + j) 0 < length leaves / 4

pub terms-here : (ix : Index) (q leaves : List ℕ) (at : ℕ) → wrong7 q ≡ false → wrong8 ix q ≡ false → at < record_count q → record_kind q at ≡ 2 → ix.leaves ≡ leaves → TermsHere q leaves at
terms-here ix q leaves at w v h kind are =
    let t = tree-at q at w h (λ nine. not-nine (record_kind q at) kind nine) in
    let p = phrase-at q t.level at t.tree t.decoded kind in
    let room = p.terms-here in
    record {
      room = p.terms-here;
      some-terms = p.some-terms;
      few-terms = p.few-terms;
      leaves-there = λ j g. subst (λ (z : List ℕ). record_value q (at + 1 + j) 0 < length z / 4) are (phrase-term-right ix q v (at + 1 + j) (omega (arith, room, g)) (nine-at (at + 1 + j) (p.terms-are j g))).leaf-present;
    }
  where
    not-nine : (n : ℕ) → n ≡ 2 → n ≡ 9 → ⊥
    not-nine n e f = omega (arith, e, f)

    nine-at : (r : ℕ) → is_phrase_term q r ≡ true → record_kind q r ≡ 9
    nine-at r e = eqb-true (record_kind q r) 9 (both_true _ _ (both_true _ _ e).0).0

-- a child's record is there
pub child-here : (q : List ℕ) (at : ℕ) → wrong7 q ≡ false → at < record_count q → (record_kind q at ≡ 6) ⊎ (record_kind q at ≡ 7) → at + 1 < record_count q
child-here q at w h (inl kind) =
    let t = tree-at q at w h (λ nine. not-nine (record_kind q at) kind nine) in
    decoded-here q t.level (at + 1) (constant-at q t.level at t.tree t.decoded kind).child (constant-at q t.level at t.tree t.decoded kind).decoded
  where
    not-nine : (n : ℕ) → n ≡ 6 → n ≡ 9 → ⊥
    not-nine n e f = omega (arith, e, f)
child-here q at w h (inr kind) =
    let t = tree-at q at w h (λ nine. not-nine (record_kind q at) kind nine) in
    decoded-here q t.level (at + 1) (boost-at q t.level at t.tree t.decoded kind).child (boost-at q t.level at t.tree t.decoded kind).decoded
  where
    not-nine : (n : ℕ) → n ≡ 7 → n ≡ 9 → ⊥
    not-nine n e f = omega (arith, e, f)

-- ---- one record more
pub from_or : (r i : ℕ) → r ≤ i → (i ≡ r) ⊎ (r + 1 ≤ i)
from_or zero zero h = inl refl
from_or zero (suc i) h = inr (omega arith)
from_or (suc r) zero h = absurd (omega (arith, h))
from_or (suc r) (suc i) h = elim (from_or r i (omega (arith, h))) [
  | inl e ↦ inl (ap suc e)
  | inr g ↦ inr (omega (arith, g))
]

pub measured-more : (ix : Index) (q nexts presents costs : List ℕ) (at next present n : ℕ) → at < length nexts → at < length presents → at < length costs → Measured ix q nexts presents costs (at + 1) → ((k : ℕ) (D : Decoded) → decode q k at ≡ some D → MeasureIs ix at D next present n) → Measured ix q (set nexts at next) (set presents at present) (set costs at n) at
measured-more ix q nexts presents costs at next present n h1 h2 h3 m f k r D h e = go (from_or at r h)
  where
    other : (i j : ℕ) → i + 1 ≤ j → j ≡ i → ⊥
    other i j g e = omega (arith, g, e)

    go : (r ≡ at) ⊎ (at + 1 ≤ r) → MeasureIs ix r D (get_or (set nexts at next) r 0) (get_or (set presents at present) r 0) (get_or (set costs at n) r 0)
    go (inl same) = subst (λ (z : ℕ). MeasureIs ix z D (get_or (set nexts at next) z 0) (get_or (set presents at present) z 0) (get_or (set costs at n) z 0)) (sym same) (rw (get_or-set_same nexts at next 0 h1, get_or-set_same presents at present 0 h2, get_or-set_same costs at n 0 h3) (f k D (subst (λ (z : ℕ). decode q k z ≡ some D) same e)))
    go (inr later) = rw (get_or-set_other nexts at r next 0 (other at r later), get_or-set_other presents at r present 0 (other at r later), get_or-set_other costs at r n 0 (other at r later)) (m k r D later e)

-- no tree stands past the last record
pub none_after : (ix : Index) (q nexts presents costs : List ℕ) (at : ℕ) → record_count q ≤ at → Measured ix q nexts presents costs at
none_after ix q nexts presents costs at h k r D g e = let here = decoded-here q k r D e in absurd (omega (arith, here, g, h))

pub measured-down : (ix : Index) (q nexts presents costs : List ℕ) (at : ℕ) → 0 < at → Measured ix q nexts presents costs at → Measured ix q nexts presents costs (at - 1 + 1)
measured-down ix q nexts presents costs at h m k r D g e = m k r D (omega (arith, g, h)) e
