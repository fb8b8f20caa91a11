-- One token: the code's tests are those of the definitions, where it is the first and where it is not. Assumes nothing.
use Rattle.std.proofs.Common.{◌≡◌, refl, sym, ◌∙◌, arith, Bool, true, false, not, ◌&&◌, ◌||◌, List, ℕ, ◌+◌, ◌-◌, ◌<◌, ◌≤◌, eqb, leb, ltb, length}
use Rattle.std.proofs.lemmas.Bool.Decides.{nat_tests}
use Rattle.std.specs.Ordering.{partial_lt}
use borrow.Author.Tests.{leb-false, lt-ltb, ne_eqb}
use Rattle.meaning.specs.Below.{any_below, count_below}
use Rattle.meaning.specs.Limits.{no_more_docs}
use Rattle.meaning.specs.Tokens.{token_at, not_after}
use Rattle.meaning.specs.TokenRefusals.{wrong_token, wrong_leaf_field}
use Rattle.meaning.proofs.Tests.{or-4}
use mir.Val.{bool_byte}
use Rattle.meaning.proofs.Below.{none_below, count-one, count_same}
use Rattle.tokens.specs.declared.Token.{Token}
use Rattle.tokens.specs.contracts.TokenPartialOrd.TheImpl.{partial_cmp-value}
use Rattle.tokens.specs.Records.{token_of}
use Rattle.tokens.specs.Counts.{begins_posting}

-- the derived order is the request's
earlier : (a b c d e f : ℕ) → partial_lt (partial_cmp-value).it (record { leaf = d; document = e; position = f }) (record { leaf = a; document = b; position = c }) ≡ not (not_after (record { leaf = a; document = b; position = c }) (record { leaf = d; document = e; position = f }))
unfolding not_after
earlier a b c d e f = grind (arith, nat_tests)

-- a further test in front of three
or-before : (a b c d : Bool) → (a || (b || c || d)) ≡ (a || b || c || d)
or-before true b c d = refl
or-before false b c d = refl

-- one more is counted by its test's number
pub count-more : (p : ℕ → Bool) (i held : ℕ) → held ≡ count_below i p → (x : ℕ) (b : Bool) → x ≡ bool_byte b → b ≡ p i → held + x ≡ count_below (i + 1) p
count-more p i held e x true h g = rw h (count-one i p held e (sym g))
count-more p i held e x false h g = rw h (omega (arith, count_same i p held e (sym g)))

pub byte-le : (x : ℕ) (b : Bool) → x ≡ bool_byte b → x ≤ 1
byte-le x true e = omega (arith, e)
byte-le x false e = omega (arith, e)

module _ (ws : List ℕ) (i : ℕ) where
  pub begins-first : i ≡ 0 → true ≡ begins_posting ws i
  unfolding begins_posting
  begins-first e = rw e

  pub begins-later : (i ≡ 0 → ⊥) → (t u : Token) → t ≡ token_of ws (i - 1) → u ≡ token_of ws i → (not (eqb u.leaf t.leaf) || not (eqb u.document t.document)) ≡ begins_posting ws i
  unfolding begins_posting
  begins-later h t u e f = rw (e, f, ne_eqb i 0 h)

  module _ (n : ℕ) (leaf_fields : List ℕ) where
    -- its leaf or document absent, or its position too large
    abbrev pub absent : Token → Bool
    absent t = leb (length leaf_fields) t.leaf || leb n t.document || ltb no_more_docs t.position

    pub wrong_first : i ≡ 0 → (u : Token) → u ≡ token_of ws i → absent u ≡ wrong_token n leaf_fields ws i
    unfolding wrong_token
    wrong_first e u f = rw (f, e)

    -- over the structs, so that a refused edit names what is compared wrongly
    pub wrong-later : (i ≡ 0 → ⊥) → (t u : Token) → t ≡ token_of ws (i - 1) → u ≡ token_of ws i → (b : Bool) → b ≡ partial_lt (partial_cmp-value).it u t → (b || absent u) ≡ wrong_token n leaf_fields ws i
    unfolding wrong_token
    wrong-later h t u e f b is =
        let l : 0 < i = omega (arith, h) in
        rw (is, e, f, lt-ltb 0 i l, earlier (token_at ws (i - 1)).leaf (token_at ws (i - 1)).document (token_at ws (i - 1)).position (token_at ws i).leaf (token_at ws i).document (token_at ws i).position)
        (or-before (not (not_after (token_at ws (i - 1)) (token_at ws i))) (leb (length leaf_fields) (token_at ws i).leaf) (leb n (token_at ws i).document) (ltb no_more_docs (token_at ws i).position))

    -- a token that is not wrong names a leaf, and where no leaf's field is absent, its is not
    pub named-leaf : (fields : List ℕ) (b : Bool) → any_below (length leaf_fields) (wrong_leaf_field fields leaf_fields) ≡ false → b ≡ wrong_token n leaf_fields ws i → b ≡ false → ((token_at ws i).leaf < length leaf_fields) × (wrong_leaf_field fields leaf_fields (token_at ws i).leaf ≡ false)
    unfolding wrong_token
    named-leaf fields b h e z =
        let parts = or-4 (ltb 0 i && not (not_after (token_at ws (i - 1)) (token_at ws i))) (leb (length leaf_fields) (token_at ws i).leaf) (leb n (token_at ws i).document) (ltb no_more_docs (token_at ws i).position) (sym e ∙ z) in
        let l = leb-false _ _ parts.1 in
        (l, none_below _ _ h _ l)
