-- The inverses of the fields that a query's records score in, as the code fills them. Assumes nothing.
use mathlib.Core.Path.{◌≡◌, refl, sym, ◌∙◌, ap, subst}
use mathlib.Core.Bool.{Bool, true, false, cond, ◌||◌, false≢true}
use mathlib.Core.List.{List, ◌++◌, append_assoc}
use mathlib.Core.Logic.{inl, inr}
use Prim.Native.Nat.{ℕ, ◌+◌, ◌-◌, ◌*◌, ◌≤◌, ◌<◌}
use native.Mathlib.Omega.{arith}
use lib.Dec.{eqb}
use lib.ListN.{length, take, drop, set, get_or, replicate, length-append, length-drop, get_or-replicate, take-append-drop, get_or-append, get_or-eq_default}
use lib.Seq.{drop-append-le, drop-drop, length-take-le, get_or-append-add, get_or-take, get_or-drop, get_or-set_same, get_or-set_other}
use lib.Ieee.{Float, nan, binary32, of_bits}
use borrow.Author.Tests.{eq-eqb, ne_eqb, eqb-true, eqb-false}
use borrow.Rule.Slice.PartMut.{put_mid, post_of, mid_of}
use Rattle.meaning.specs.Below.{list_to}
use Rattle.meaning.specs.Bm25.{length_of, inverse}
use Rattle.meaning.specs.Limits.{least_average, largest_average}
use Rattle.meaning.specs.Lent.{Index, field_count, field_average, leaf_field}
use Rattle.meaning.specs.Query.{record_count, record_kind, record_value}
use Rattle.meaning.proofs.Below.{length-list_to, get_or-list_to, last-or-below}
use Rattle.meaning.proofs.Tests.{cmp}
use Rattle.query.proofs.Accepted.{term-leaf, phrase-right}
use Rattle.tree_weight.specs.Measured.{AcceptedOrder}
use Rattle.tree_weight.specs.Sound.{FieldTable}
use Rattle.std.specs.Prelude.{Option, Some, None}
use Rattle.score_inverses.specs.Inverses.{field_at, has_field, IsField}

-- ---- the table with one field's places filled
module _ (e : ℕ → Float) (t : List Float) (a : ℕ) (room : a + 256 ≤ length t) where
  abbrev filled_at : List Float
  filled_at = take a t ++ (list_to 256 e ++ drop (a + 256) t)

  -- what the loan of its places gives back
  pub put-field : (out : List Float) → out ≡ list_to 256 e ++ drop 256 (mid_of a (length t - a) t) → put_mid a (length t - a) t out ≡ filled_at
  put-field out is =
      ap (λ (z : List Float). take a t ++ (z ++ post_of a (length t - a) t)) is
      ∙ ap (λ (z : List Float). take a t ++ z) (append_assoc (list_to 256 e) (drop 256 (mid_of a (length t - a) t)) (post_of a (length t - a) t) ∙ ap (λ (z : List Float). list_to 256 e ++ z) rest)
    where
      long : length (mid_of a (length t - a) t) ≡ length t - a
      long = length-take-le (length t - a) (drop a t) (rw (length-drop a t) (omega arith))

      rest : drop 256 (mid_of a (length t - a) t) ++ post_of a (length t - a) t ≡ drop (a + 256) t
      rest =
          sym (drop-append-le 256 (mid_of a (length t - a) t) (post_of a (length t - a) t) (omega (arith, long, room)))
          ∙ ap (drop 256) (take-append-drop (length t - a) (drop a t))
          ∙ drop-drop 256 a t

  front_long : length (take a t) ≡ a
  front_long = length-take-le a t (omega (arith, room))

  both_long : length (take a t ++ list_to 256 e) ≡ a + 256
  both_long = let l = length-list_to 256 e in let f = front_long in length-append (take a t) (list_to 256 e) ∙ omega (arith, l, f)

  pub filled-here : (n : ℕ) → n < 256 → get_or filled_at (a + n) nan ≡ e n
  filled-here n h =
      ap (λ (z : ℕ). get_or filled_at (z + n) nan) (sym front_long)
      ∙ get_or-append-add (take a t) (list_to 256 e ++ drop (a + 256) t) n nan
      ∙ get_or-append (list_to 256 e) (drop (a + 256) t) nan n (let l = length-list_to 256 e in omega (arith, l, h))
      ∙ get_or-list_to 256 e nan n h

  filled-before : (i : ℕ) → i < a → get_or filled_at i nan ≡ get_or t i nan
  filled-before i h =
      get_or-append (take a t) (list_to 256 e ++ drop (a + 256) t) nan i (let f = front_long in omega (arith, f, h))
      ∙ get_or-take a t i nan h

  filled-after : (k : ℕ) → get_or filled_at (a + 256 + k) nan ≡ get_or t (a + 256 + k) nan
  filled-after k =
      ap (λ (z : List Float). get_or z (a + 256 + k) nan) (sym (append_assoc (take a t) (list_to 256 e) (drop (a + 256) t)))
      ∙ ap (λ (z : ℕ). get_or ((take a t ++ list_to 256 e) ++ drop (a + 256) t) (z + k) nan) (sym both_long)
      ∙ get_or-append-add (take a t ++ list_to 256 e) (drop (a + 256) t) k nan
      ∙ get_or-drop (a + 256) t k nan

  pub filled-elsewhere : (i : ℕ) → (a ≤ i → a + 256 ≤ i) → get_or filled_at i nan ≡ get_or t i nan
  filled-elsewhere i h = elim (cmp i a) [
    | inl g ↦ filled-before i g
    | inr g ↦ let past = h g in let is : a + 256 + (i - (a + 256)) ≡ i = omega (arith, past) in subst (λ (z : ℕ). get_or filled_at z nan ≡ get_or t z nan) is (filled-after (i - (a + 256)))
  ]

-- ---- the fields of the records
pub term-field : (k : ℕ) → k ≡ 1 → true ≡ (eqb k 1 || eqb k 2)
term-field k e = rw e

pub phrase-field : (k : ℕ) → k ≡ 2 → true ≡ (eqb k 1 || eqb k 2)
phrase-field k e = rw e

pub no_field : (k : ℕ) → (k ≡ 1 → ⊥) → (k ≡ 2 → ⊥) → false ≡ (eqb k 1 || eqb k 2)
no_field k g h = rw (ne_eqb k 1 g, ne_eqb k 2 h)

module _ (ix : Index) (q : List ℕ) (at : ℕ) where
  pub field-of-term : (v : ℕ) → record_kind q at ≡ 1 → v ≡ record_value q at 0 → leaf_field ix v ≡ field_at ix q at
  field-of-term v k e = rw (eq-eqb (record_kind q at) 1 k) (ap (leaf_field ix) e)

  pub field-of-phrase : (v : ℕ) → (record_kind q at ≡ 1 → ⊥) → v ≡ record_value q at 0 → v ≡ field_at ix q at
  field-of-phrase v k e = rw (ne_eqb (record_kind q at) 1 k) e

  -- it is a field of the index
  pub field-there : AcceptedOrder ix q → at < record_count q → has_field q at ≡ true → field_at ix q at < field_count ix
  field-there a h has = go (eqb (record_kind q at) 1) refl has
    where
      go : (b : Bool) → eqb (record_kind q at) 1 ≡ b → (b || eqb (record_kind q at) 2) ≡ true → cond b (leaf_field ix (record_value q at 0)) (record_value q at 0) < field_count ix
      go true e g = (a.accepted.leaf (record_value q at 0) (term-leaf ix q a.values-right at h (eqb-true (record_kind q at) 1 e))).field
      go false e g = (phrase-right ix q a.values-right at h (eqb-true (record_kind q at) 2 g)).field-present

-- what the code reads of it
pub record FieldRead (ix : Index) (f : ℕ) : Type 0 where
  pub few : f < 16
  pub there : f < field_count ix
  pub least : least_average ≤ field_average ix f
  pub largest : field_average ix f ≤ largest_average

pub field-read : (ix : Index) (q : List ℕ) (at f : ℕ) → AcceptedOrder ix q → at < record_count q → has_field q at ≡ true → f ≡ field_at ix q at → FieldRead ix f
field-read ix q at f a h has e =
    let there : f < field_count ix = subst (λ (z : ℕ). z < field_count ix) (sym e) (field-there ix q at a h has) in
    let ok = a.accepted.field f there in
    let few = a.accepted.few_fields in
    record { few = omega (arith, few, there); there = there; least = ok.least; largest = ok.largest }

-- a record that has a field
pub field-some : (ix : Index) (q : List ℕ) (at f : ℕ) (o : Option ℕ) → o ≡ Some f → IsField ix q at o → (has_field q at ≡ true) × (f ≡ field_at ix q at)
field-some ix q at f o e h = subst (IsField ix q at) e h

pub field_none : (ix : Index) (q : List ℕ) (at : ℕ) (o : Option ℕ) → o ≡ None → IsField ix q at o → has_field q at ≡ false
field_none ix q at o e h = subst (IsField ix q at) e h

-- the fields that are filled have their inverses, and those of the records before `at` are filled
pub record Filled (ix : Index) (q : List ℕ) (table : List Float) (filled : List Bool) (at : ℕ) : Type 0 where
  pub tables : (f : ℕ) → get_or filled f false ≡ true → FieldTable ix table f
  pub met : (r : ℕ) → r < at → has_field q r ≡ true → get_or filled (field_at ix q r) false ≡ true

pub none_filled : (ix : Index) (q : List ℕ) (table : List Float) → Filled ix q table (replicate 16 false) 0
none_filled ix q table =
    record { tables = λ f e. absurd (false≢true (sym (none f) ∙ e)); met = λ r h e. absurd (omega (arith, h)) }
  where
    none : (f : ℕ) → get_or (replicate 16 false) f false ≡ false
    none f = elim (cmp f 16) [
      | inl g ↦ get_or-replicate 16 f false false g
      | inr g ↦ get_or-eq_default (replicate 16 false) false g
    ]

module _ (ix : Index) (q : List ℕ) (table : List Float) (filled : List Bool) (at : ℕ) (was : Filled ix q table filled at) where
  one_more : (filled' : List Bool) → ((f : ℕ) → get_or filled f false ≡ true → get_or filled' f false ≡ true) → (has_field q at ≡ true → get_or filled' (field_at ix q at) false ≡ true) → (r : ℕ) → r < at + 1 → has_field q r ≡ true → get_or filled' (field_at ix q r) false ≡ true
  one_more filled' keep new r h has = elim (last-or-below r at (omega (arith, h))) [
    | inl e ↦ subst (λ (z : ℕ). has_field q z ≡ true → get_or filled' (field_at ix q z) false ≡ true) (sym e) new has
    | inr g ↦ keep (field_at ix q r) (was.met r g has)
  ]

  pub filled-skip : has_field q at ≡ false → Filled ix q table filled (at + 1)
  filled-skip no_field = record { tables = was.tables; met = one_more filled (λ f e. e) (λ e. absurd (false≢true (sym no_field ∙ e))) }

  pub filled-again : (f : ℕ) → f ≡ field_at ix q at → get_or filled f false ≡ true → Filled ix q table filled (at + 1)
  filled-again f e is = record { tables = was.tables; met = one_more filled (λ f e. e) (λ h. subst (λ (z : ℕ). get_or filled z false ≡ true) e is) }

  pub filled-new : (f : ℕ) (out : List Float) → f ≡ field_at ix q at → f < length filled → 256 * f + 256 ≤ length table → out ≡ list_to 256 (λ n. inverse (of_bits binary32 (field_average ix f)) (length_of n)) ++ drop 256 (mid_of (256 * f) (length table - 256 * f) table) → Filled ix q (put_mid (256 * f) (length table - 256 * f) table out) (set filled f true) (at + 1)
  filled-new f out e here room is =
      record { tables = tabled; met = one_more (set filled f true) keep (λ h. subst (λ (z : ℕ). get_or (set filled f true) z false ≡ true) e (get_or-set_same filled f true false here)) }
    where
      entries : ℕ → Float
      entries n = inverse (of_bits binary32 (field_average ix f)) (length_of n)

      after : List Float
      after = put_mid (256 * f) (length table - 256 * f) table out

      same : after ≡ filled_at entries table (256 * f) room
      same = put-field entries table (256 * f) room out is

      keep : (g : ℕ) → get_or filled g false ≡ true → get_or (set filled f true) g false ≡ true
      keep g h = go (eqb g f) refl
        where
          go : (b : Bool) → eqb g f ≡ b → get_or (set filled f true) g false ≡ true
          go true k = subst (λ (z : ℕ). get_or (set filled f true) z false ≡ true) (sym (eqb-true g f k)) (get_or-set_same filled f true false here)
          go false k = get_or-set_other filled f g true false (eqb-false g f k) ∙ h

      tabled : (g : ℕ) → get_or (set filled f true) g false ≡ true → FieldTable ix after g
      tabled g h = go (eqb g f) refl
        where
          go : (b : Bool) → eqb g f ≡ b → FieldTable ix after g
          go true k = subst (λ (z : ℕ). FieldTable ix after z) (sym (eqb-true g f k)) (λ n low. ap (λ (z : List Float). get_or z (256 * f + n) nan) same ∙ filled-here entries table (256 * f) room n low)
          go false k =
              let apart = eqb-false g f k in
              λ n low. ap (λ (z : List Float). get_or z (256 * g + n) nan) same ∙ filled-elsewhere entries table (256 * f) room (256 * g + n) (λ h. next g f n low apart h) ∙ was.tables g (sym (get_or-set_other filled f g true false apart) ∙ h) n low
            where
              next : (g f n : ℕ) → n < 256 → (g ≡ f → ⊥) → 256 * f ≤ 256 * g + n → 256 * f + 256 ≤ 256 * g + n
              next g f n low apart h = elim (cmp f g) [
                | inl k ↦ omega (arith, k)
                | inr k ↦ absurd (apart (omega (arith, k, h, low)))
              ]
