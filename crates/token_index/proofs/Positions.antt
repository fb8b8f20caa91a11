-- The positions of a leaf in a document: of tokens one after the other, of tokens that are all there or none of which
-- is. Assumes nothing.
use mathlib.Core.Path.{◌≡◌, refl, sym, ap, ap₂, ◌∙◌}
use mathlib.Core.Bool.{Bool, true, false, cond, ◌&&◌, false≢true}
use mathlib.Core.List.{List, [], ◌∷◌, ◌++◌, append_assoc, append-nil}
use Prim.Native.Nat.{ℕ, zero, suc, ◌+◌, ◌-◌, ◌≤◌, ◌<◌}
use native.Mathlib.Nat.{le_refl, add-sub_of_le}
use native.Mathlib.Omega.{arith}
use borrow.Author.Tests.{eq-eqb, ne_eqb, eqb-true}
use lib.Dec.{eqb}
use lib.ListN.{length, length-append}
use Rattle.meaning.specs.Below.{list_to}
use Rattle.meaning.specs.Tokens.{Token, token_at, positions_at}
use Rattle.meaning.proofs.Below.{list_to-add}

-- the first i tokens
abbrev pub tokens_to : List ℕ → ℕ → List Token
tokens_to ws i = list_to i (token_at ws)

-- tokens i, i + 1 and so on, c of them
abbrev pub tokens_from : List ℕ → ℕ → ℕ → List Token
tokens_from ws i c = list_to c (λ j. token_at ws (i + j))

-- the first e tokens are the first i and those from i on
pub tokens-split : (ws : List ℕ) (i e : ℕ) → i ≤ e → tokens_to ws e ≡ tokens_to ws i ++ tokens_from ws i (e - i)
tokens-split ws i e h = ap (tokens_to ws) (sym (add-sub_of_le h)) ∙ list_to-add i (e - i) (token_at ws)

-- ---- a token is one of leaf l in document d
abbrev pub is_at : Token → ℕ → ℕ → Bool
is_at t l d = eqb t.leaf l && eqb t.document d

pub is-here : (t : Token) (l d : ℕ) → t.leaf ≡ l → t.document ≡ d → is_at t l d ≡ true
is-here t l d a b = rw (eq-eqb t.leaf l a, eq-eqb t.document d b)

pub not-here : (t : Token) (l d : ℕ) → (t.leaf ≡ l → t.document ≡ d → ⊥) → is_at t l d ≡ false
not-here t l d n = go (eqb t.leaf l) refl
  where
    go : (b : Bool) → eqb t.leaf l ≡ b → (b && eqb t.document d) ≡ false
    go true e = ne_eqb t.document d (n (eqb-true t.leaf l e))
    go false e = refl

pub at_leaf : (t : Token) (l d : ℕ) → is_at t l d ≡ true → t.leaf ≡ l
at_leaf t l d e = go (eqb t.leaf l) refl e
  where
    go : (b : Bool) → eqb t.leaf l ≡ b → (b && eqb t.document d) ≡ true → t.leaf ≡ l
    go true g h = eqb-true t.leaf l g
    go false g h = absurd (false≢true h)

pub at-document : (t : Token) (l d : ℕ) → is_at t l d ≡ true → t.document ≡ d
at-document t l d e = go (eqb t.leaf l) e
  where
    go : (b : Bool) → (b && eqb t.document d) ≡ true → t.document ≡ d
    go true h = eqb-true t.document d h
    go false h = absurd (false≢true h)

-- ---- the positions
pub at-append : (xs ys : List Token) (l d : ℕ) → positions_at (xs ++ ys) l d ≡ positions_at xs l d ++ positions_at ys l d
unfolding positions_at
at-append [] ys l d = refl
at-append (x ∷ xs) ys l d =
    let own = cond (is_at x l d) (x.position ∷ []) [] in
    ap (λ (zs : List ℕ). own ++ zs) (at-append xs ys l d) ∙ sym (append_assoc own (positions_at xs l d) (positions_at ys l d))

pub at-nil : (l d : ℕ) → positions_at [] l d ≡ []
unfolding positions_at
at-nil l d = refl

pub at_one : (t : Token) (l d : ℕ) → positions_at (t ∷ []) l d ≡ cond (is_at t l d) (t.position ∷ []) []
unfolding positions_at
at_one t l d = append-nil (cond (is_at t l d) (t.position ∷ []) [])

-- one token more
pub at_next : (t : ℕ → Token) (l d c : ℕ) → positions_at (list_to (suc c) t) l d ≡ positions_at (list_to c t) l d ++ cond (is_at (t c) l d) ((t c).position ∷ []) []
unfolding list_to
at_next t l d c = at-append (list_to c t) (t c ∷ []) l d ∙ ap (λ (xs : List ℕ). positions_at (list_to c t) l d ++ xs) (at_one (t c) l d)

-- tokens that are all of leaf l in document d
pub at_all : (t : ℕ → Token) (l d c : ℕ)
    → ((j : ℕ) → j < c → ((t j).leaf ≡ l) × ((t j).document ≡ d))
    → positions_at (list_to c t) l d ≡ list_to c (λ j. (t j).position)
unfolding list_to positions_at
at_all t l d zero h = refl
at_all t l d (suc c) h =
    let here = h c (le_refl _) in
    at_next t l d c
    ∙ ap₂ (λ (xs : List ℕ) (b : Bool). xs ++ cond b ((t c).position ∷ []) []) (at_all t l d c (λ j k. h j (omega arith))) (is-here (t c) l d here.0 here.1)

-- tokens none of which is
pub at_none : (t : ℕ → Token) (l d c : ℕ) → ((j : ℕ) → j < c → (t j).leaf ≡ l → (t j).document ≡ d → ⊥) → positions_at (list_to c t) l d ≡ []
unfolding list_to positions_at
at_none t l d zero h = refl
at_none t l d (suc c) h =
    at_next t l d c
    ∙ ap₂ (λ (xs : List ℕ) (b : Bool). xs ++ cond b ((t c).position ∷ []) []) (at_none t l d c (λ j k. h j (omega arith))) (not-here (t c) l d (h c (le_refl _)))

one_at_most : (b : Bool) (x : ℕ) → length (cond b (x ∷ []) []) ≤ 1
one_at_most true x = omega arith
one_at_most false x = omega arith

pub at_length : (ts : List Token) (l d : ℕ) → length (positions_at ts l d) ≤ length ts
unfolding positions_at
at_length [] l d = omega arith
at_length (t ∷ ts) l d =
    let own = cond (is_at t l d) (t.position ∷ []) [] in
    omega (arith, at_length ts l d, length-append own (positions_at ts l d), one_at_most (is_at t l d) t.position)

-- ---- the first tokens
module _ (ws : List ℕ) (l d i e : ℕ) (order : i ≤ e) where
  pub at_split : positions_at (tokens_to ws e) l d ≡ positions_at (tokens_to ws i) l d ++ positions_at (tokens_from ws i (e - i)) l d
  at_split = ap (λ (ts : List Token). positions_at ts l d) (tokens-split ws i e order) ∙ at-append (tokens_to ws i) (tokens_from ws i (e - i)) l d

  pub at-grows : length (positions_at (tokens_to ws i) l d) ≤ length (positions_at (tokens_to ws e) l d)
  at-grows = omega (arith, ap length at_split, length-append (positions_at (tokens_to ws i) l d) (positions_at (tokens_from ws i (e - i)) l d))

  pub at-longer : ((k : ℕ) → i ≤ k → k < e → ((token_at ws k).leaf ≡ l) × ((token_at ws k).document ≡ d))
      → positions_at (tokens_to ws e) l d ≡ positions_at (tokens_to ws i) l d ++ list_to (e - i) (λ j. (token_at ws (i + j)).position)
  at-longer h =
      at_split
      ∙ ap (λ (xs : List ℕ). positions_at (tokens_to ws i) l d ++ xs) (at_all (λ j. token_at ws (i + j)) l d (e - i) (λ j k. h (i + j) (omega arith) (omega arith)))

  pub at_same : ((k : ℕ) → i ≤ k → k < e → (token_at ws k).leaf ≡ l → (token_at ws k).document ≡ d → ⊥) → positions_at (tokens_to ws e) l d ≡ positions_at (tokens_to ws i) l d
  at_same h =
      at_split
      ∙ ap (λ (xs : List ℕ). positions_at (tokens_to ws i) l d ++ xs) (at_none (λ j. token_at ws (i + j)) l d (e - i) (λ j k. h (i + j) (omega arith) (omega arith)))
      ∙ append-nil (positions_at (tokens_to ws i) l d)

-- a document in which one of them is
pub at_some : (ws : List ℕ) (l d i k : ℕ) → k < i → (token_at ws k).leaf ≡ l → (token_at ws k).document ≡ d → 0 < length (positions_at (tokens_to ws i) l d)
at_some ws l d i k h a b =
    let xs = positions_at (tokens_to ws k) l d in
    let x = (token_at ws k).position in
    let more : positions_at (tokens_to ws (suc k)) l d ≡ xs ++ (x ∷ []) = at_next (token_at ws) l d k ∙ ap (λ (c : Bool). xs ++ cond c (x ∷ []) []) (is-here (token_at ws k) l d a b) in
    omega (arith, at-grows ws l d (suc k) i h, ap length more, length-append xs (x ∷ []))
