-- What tokens, leaves and fields are where 15 does not hold: from neighbours in order to any two tokens.
-- Assumes nothing.
use mathlib.Core.Path.{◌≡◌, refl, sym, ap, subst, ◌∙◌}
use mathlib.Core.Bool.{Bool, true, false, not, ◌&&◌, ◌||◌, false≢true}
use mathlib.Core.List.{List, [], ◌∷◌}
use Prim.Native.Nat.{ℕ, zero, suc, ◌+◌, ◌-◌, ◌*◌, ◌%◌, ◌≤◌, ◌<◌}
use native.Mathlib.Nat.{le_refl, add-zero, add-suc, add-sub_of_le}
use native.Mathlib.Omega.{arith}
use borrow.Author.Tests.{lt-ltb, ltb-true, ltb-false, leb-true, leb-false, eqb-true, not-false}
use lib.Dec.{eqb, leb, ltb}
use lib.ListN.{length, get_or}
use Rattle.meaning.specs.Below.{any_below}
use Rattle.meaning.specs.Limits.{no_more_docs, max_leaves, max_tokens}
use Rattle.meaning.specs.Lent.{field_count}
use Rattle.meaning.specs.Tokens.{Token, token_count, token_at, not_after, fields_lent}
use Rattle.meaning.specs.Refusals.{Condition, ◌when◌, lowest}
use Rattle.meaning.specs.IndexRefusals.{not_whole, wrong1, wrong2}
use Rattle.meaning.specs.TokenRefusals.{Outputs, wrong_token, wrong_leaf_field, wrong15, wrong16, write_refusal}
use Rattle.meaning.proofs.Below.{none_below}
use Rattle.meaning.proofs.Lowest.{lowest-zero}
use Rattle.meaning.proofs.Tests.{or_left, or_right, or-4, and_second}
use Rattle.token_index.specs.TokensOk.{TokensOk}

-- ---- what a refusal of 0 says
module _ (n : ℕ) (fields leaf_fields ws : List ℕ) (o : Outputs) (accepted : write_refusal n fields leaf_fields ws o ≡ 0) where
  abbrev behind-fifteen : List Condition
  behind-fifteen = (16 when wrong16 n fields leaf_fields ws o) ∷ []

  abbrev behind-two : List Condition
  behind-two = (15 when wrong15 n fields leaf_fields ws) ∷ behind-fifteen

  abbrev behind-one : List Condition
  behind-one = (2 when wrong2 (fields_lent n fields)) ∷ behind-two

  one-zero : (wrong1 (fields_lent n fields) ≡ false) × (lowest behind-one ≡ 0)
  unfolding write_refusal
  one-zero = lowest-zero 1 (wrong1 (fields_lent n fields)) behind-one (omega arith) accepted

  two-zero : (wrong2 (fields_lent n fields) ≡ false) × (lowest behind-two ≡ 0)
  two-zero = lowest-zero 2 (wrong2 (fields_lent n fields)) behind-two (omega arith) one-zero.1

  fifteen-zero : (wrong15 n fields leaf_fields ws ≡ false) × (lowest behind-fifteen ≡ 0)
  fifteen-zero = lowest-zero 15 (wrong15 n fields leaf_fields ws) behind-fifteen (omega arith) two-zero.1

  pub fine-number : wrong1 (fields_lent n fields) ≡ false
  fine-number = one-zero.0

  pub fine-fields : wrong2 (fields_lent n fields) ≡ false
  fine-fields = two-zero.0

  pub fine-tokens : wrong15 n fields leaf_fields ws ≡ false
  fine-tokens = fifteen-zero.0

  pub fine-outputs : wrong16 n fields leaf_fields ws o ≡ false
  fine-outputs = (lowest-zero 16 (wrong16 n fields leaf_fields ws o) [] (omega arith) fifteen-zero.1).0

-- ---- two tokens in order
pub record InOrder (t u : Token) : Type 0 where
  pub leaf : t.leaf ≤ u.leaf
  pub document : t.leaf ≡ u.leaf → t.document ≤ u.document
  pub position : t.leaf ≡ u.leaf → t.document ≡ u.document → t.position ≤ u.position

in_order : (t u : Token) → not_after t u ≡ true → InOrder t u
unfolding not_after
in_order t u e = leaves (ltb t.leaf u.leaf) (eqb t.leaf u.leaf) refl refl e
  where
    documents : t.leaf ≡ u.leaf
        → (a b : Bool)
        → ltb t.document u.document ≡ a
        → eqb t.document u.document ≡ b
        → (a || (b && leb t.position u.position)) ≡ true
        → InOrder t u
    documents g true b p q h =
        let l = ltb-true t.document u.document p in
        record { leaf = omega (arith, g); document = λ k. omega (arith, l); position = λ k m. absurd (omega (arith, l, m)) }
    documents g false true p q h =
        let s = eqb-true t.document u.document q in
        record { leaf = omega (arith, g); document = λ k. omega (arith, s); position = λ k m. leb-true t.position u.position h }
    documents g false false p q h = absurd (false≢true h)

    leaves : (a b : Bool)
        → ltb t.leaf u.leaf ≡ a
        → eqb t.leaf u.leaf ≡ b
        → (a || (b && (ltb t.document u.document || (eqb t.document u.document && leb t.position u.position)))) ≡ true
        → InOrder t u
    leaves true b p q h =
        let l = ltb-true t.leaf u.leaf p in
        record { leaf = omega (arith, l); document = λ k. absurd (omega (arith, l, k)); position = λ k m. absurd (omega (arith, l, k)) }
    leaves false true p q h = documents (eqb-true t.leaf u.leaf q) (ltb t.document u.document) (eqb t.document u.document) refl refl h
    leaves false false p q h = absurd (false≢true h)

order-self : (t : Token) → InOrder t t
order-self t = record { leaf = le_refl _; document = λ k. le_refl _; position = λ k m. le_refl _ }

order_trans : (t u v : Token) → InOrder t u → InOrder u v → InOrder t v
order_trans t u v a b =
    record {
      leaf = omega (arith, a.leaf, b.leaf);
      document = λ k. omega (arith, a.document (first k), b.document (second k));
      position = λ k m. omega (arith, a.position (first k) (first-document k m), b.position (second k) (sym (first-document k m) ∙ m));
    }
  where
    first : t.leaf ≡ v.leaf → t.leaf ≡ u.leaf
    first k = omega (arith, a.leaf, b.leaf, k)

    second : t.leaf ≡ v.leaf → u.leaf ≡ v.leaf
    second k = omega (arith, a.leaf, b.leaf, k)

    first-document : t.leaf ≡ v.leaf → t.document ≡ v.document → t.document ≡ u.document
    first-document k m = omega (arith, a.document (first k), b.document (second k), m)

-- ---- where 15 does not hold
module _ (n : ℕ) (fields leaf_fields ws : List ℕ) (fine : wrong15 n fields leaf_fields ws ≡ false) where
  -- its five conditions
  abbrev leading : Bool
  leading = not_whole (length ws) 3 || ltb max_tokens (token_count ws) || ltb max_leaves (length leaf_fields) || any_below (length leaf_fields) (wrong_leaf_field fields leaf_fields)

  first-four : leading ≡ false
  unfolding wrong15
  first-four = or_left leading (any_below (token_count ws) (wrong_token n leaf_fields ws)) fine

  four : (not_whole (length ws) 3 ≡ false) × (ltb max_tokens (token_count ws) ≡ false) × (ltb max_leaves (length leaf_fields) ≡ false) × (any_below (length leaf_fields) (wrong_leaf_field fields leaf_fields) ≡ false)
  four = or-4 (not_whole (length ws) 3) (ltb max_tokens (token_count ws)) (ltb max_leaves (length leaf_fields)) (any_below (length leaf_fields) (wrong_leaf_field fields leaf_fields)) first-four

  pub whole-tokens : length ws ≡ 3 * token_count ws
  whole-tokens = omega (arith, eqb-true (length ws % 3) 0 (not-false (eqb (length ws % 3) 0) four.0))

  pub few-tokens : token_count ws ≤ max_tokens
  few-tokens = ltb-false max_tokens (token_count ws) four.1

  pub few-leaves : length leaf_fields ≤ max_leaves
  few-leaves = ltb-false max_leaves (length leaf_fields) four.2

  pub leaf-field : (l : ℕ) → l < length leaf_fields → get_or leaf_fields l 0 < field_count (fields_lent 0 fields)
  unfolding wrong_leaf_field
  leaf-field l h = leb-false (field_count (fields_lent 0 fields)) (get_or leaf_fields l 0) (none_below (length leaf_fields) (wrong_leaf_field fields leaf_fields) four.3 l h)

  -- one token
  module _ (i : ℕ) (below : i < token_count ws) where
    abbrev late : Bool
    late = ltb 0 i && not (not_after (token_at ws (i - 1)) (token_at ws i))

    token-fine : (late ≡ false) × (leb (length leaf_fields) (token_at ws i).leaf ≡ false) × (leb n (token_at ws i).document ≡ false) × (ltb no_more_docs (token_at ws i).position ≡ false)
    unfolding wrong15 wrong_token
    token-fine =
        or-4 late (leb (length leaf_fields) (token_at ws i).leaf) (leb n (token_at ws i).document) (ltb no_more_docs (token_at ws i).position)
        (none_below (token_count ws) (wrong_token n leaf_fields ws) (or_right leading (any_below (token_count ws) (wrong_token n leaf_fields ws)) fine) i below)

  next-in-order : (i : ℕ) → suc i < token_count ws → InOrder (token_at ws i) (token_at ws (suc i))
  next-in-order i h =
      let e : suc i - 1 ≡ i = omega arith in
      let before = and_second (ltb 0 (suc i)) (not (not_after (token_at ws (suc i - 1)) (token_at ws (suc i)))) (token-fine (suc i) h).0 (lt-ltb 0 (suc i) (omega arith)) in
      in_order (token_at ws i) (token_at ws (suc i))
      (ap (λ (k : ℕ). not_after (token_at ws k) (token_at ws (suc i))) (sym e) ∙ not-false (not_after (token_at ws (suc i - 1)) (token_at ws (suc i))) before)

  later-in-order : (i d : ℕ) → i + d < token_count ws → InOrder (token_at ws i) (token_at ws (i + d))
  later-in-order i zero h = subst (λ (k : ℕ). InOrder (token_at ws i) (token_at ws k)) (sym (add-zero i)) (order-self (token_at ws i))
  later-in-order i (suc d) h =
      subst (λ (k : ℕ). InOrder (token_at ws i) (token_at ws k)) (sym (add-suc i d))
      (order_trans (token_at ws i) (token_at ws (i + d)) (token_at ws (suc (i + d))) (later-in-order i d (omega arith)) (next-in-order (i + d) (omega arith)))

  any-in-order : (i j : ℕ) → i ≤ j → j < token_count ws → InOrder (token_at ws i) (token_at ws j)
  any-in-order i j h b =
      subst (λ (k : ℕ). InOrder (token_at ws i) (token_at ws k)) (add-sub_of_le h) (later-in-order i (j - i) (omega arith))

  pub tokens-ok : TokensOk n (length leaf_fields) ws
  tokens-ok =
      record {
        few = few-tokens;
        leaves = λ i j h b. (any-in-order i j h b).leaf;
        documents = λ i j h b. (any-in-order i j h b).document;
        positions = λ i j h b. (any-in-order i j h b).position;
        leaf = λ i b. leb-false (length leaf_fields) (token_at ws i).leaf (token-fine i b).1;
        document = λ i b. leb-false n (token_at ws i).document (token-fine i b).2;
        position = λ i b. ltb-false no_more_docs (token_at ws i).position (token-fine i b).3;
      }
