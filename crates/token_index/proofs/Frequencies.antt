-- The postings of a leaf's run, one by one: frequencies and documents within their limits, documents and positions
-- rising. Assumes nothing.
use mathlib.Core.Path.{◌≡◌, refl, sym, ap, subst, ◌∙◌}
use mathlib.Core.Logic.{⊎_elim}
use mathlib.Core.Bool.{Bool, true, false, cond, ◌&&◌}
use mathlib.Core.List.{List, [], ◌∷◌, ◌++◌, map, append-nil}
use Prim.Native.Nat.{ℕ, zero, suc, ◌≤◌, ◌<◌}
use native.Mathlib.Nat.{le_refl, le_of_suc-le-suc, not-suc-le-zero}
use native.Mathlib.Omega.{arith}
use borrow.Author.Tests.{ltb-true}
use lib.Dec.{eqb}
use lib.ListN.{length, get_or, length-map, length-append, get_or-append}
use lib.Seq.{get_or_at}
use Rattle.meaning.specs.Below.{list_below, list_to}
use Rattle.meaning.specs.Limits.{no_more_docs, largest_frequency}
use Rattle.meaning.specs.Packed.{Posting}
use Rattle.meaning.specs.Tokens.{Token, token_count, token_at, tokens_of, positions_at, posting_for, run_for, field_tokens}
use Rattle.meaning.specs.TokenRefusals.{wrong15}
use Rattle.meaning.proofs.Below.{listed_at, listed-ascends, length-list_to, cond-le}
use Rattle.meaning.proofs.Tests.{decided, cmp}
use Rattle.token_index.specs.TokensOk.{TokensOk}
use Rattle.token_index.proofs.Positions.{tokens_to, is_at, at_leaf, at-document, at-nil, at_next, at_length}
use Rattle.token_index.proofs.Runs.{is_in}
use Rattle.token_index.proofs.Order.{few-tokens}

map_at : {A B : Type 0} (f : A → B) (xs : List A) (i : ℕ) (x : B) (d : A) → i < length xs → get_or (map f xs) i x ≡ f (get_or xs i d)
map_at f [] i x d h = absurd (not-suc-le-zero h)
map_at f (y ∷ ys) zero x d h = refl
map_at f (y ∷ ys) (suc i) x d h = map_at f ys i x d (le_of_suc-le-suc h)

-- ---- posting i of a run
module _ (p : Bool) (n : ℕ) (ts : List Token) (l : ℕ) where
  -- its document
  abbrev document_at : ℕ → ℕ
  document_at i = get_or (list_below n (is_in ts l)) i 0

  listed : (i : ℕ) → i < length (run_for p n ts l) → i < length (list_below n (is_in ts l))
  unfolding run_for
  listed i h = omega (arith, h, length-map (list_below n (is_in ts l)) (posting_for p ts l))

  -- is the one whose number its document has
  run_at : (x : Posting) (i : ℕ) → i < length (run_for p n ts l) → get_or (run_for p n ts l) i x ≡ posting_for p ts l (document_at i)
  unfolding run_for
  run_at x i h = map_at (posting_for p ts l) (list_below n (is_in ts l)) i x 0 (listed i h)

  pub posting-at : (x : Posting) (i : ℕ) → i < length (run_for p n ts l) → get_or (run_for p n ts l) i x ≡ posting_for p ts l (get_or (run_for p n ts l) i x).document
  posting-at x i h = run_at x i h ∙ ap (posting_for p ts l) (sym (ap (λ (y : Posting). y.document) (run_at x i h)))

  pub document-below : (x : Posting) (i : ℕ) → i < length (run_for p n ts l) → (get_or (run_for p n ts l) i x).document < n
  document-below x i h = omega (arith, ap (λ (y : Posting). y.document) (run_at x i h), (listed_at (is_in ts l) n i (listed i h)).0)

  pub documents-rise : (x : Posting) (i j : ℕ)
      → i < j
      → j < length (run_for p n ts l)
      → (get_or (run_for p n ts l) i x).document < (get_or (run_for p n ts l) j x).document
  documents-rise x i j g h =
      omega (
        arith,
        ap (λ (y : Posting). y.document) (run_at x i (omega arith)),
        ap (λ (y : Posting). y.document) (run_at x j h),
        listed-ascends (is_in ts l) n i j g (listed j h),
      )

  pub frequency-some : (x : Posting) (i : ℕ) → i < length (run_for p n ts l) → 0 < (get_or (run_for p n ts l) i x).frequency
  frequency-some x i h =
      omega (arith, ap (λ (y : Posting). y.frequency) (run_at x i h), ltb-true 0 (length (positions_at ts l (document_at i))) (listed_at (is_in ts l) n i (listed i h)).1)

  pub frequency-at-most : (x : Posting) (i : ℕ) → i < length (run_for p n ts l) → (get_or (run_for p n ts l) i x).frequency ≤ length ts
  frequency-at-most x i h = omega (arith, ap (λ (y : Posting). y.frequency) (run_at x i h), at_length ts l (document_at i))

-- ---- a document's tokens of a field
pub field-tokens-at-most : (leaf_fields : List ℕ) (ts : List Token) (f d : ℕ) → field_tokens leaf_fields ts f d ≤ length ts
unfolding field_tokens
field-tokens-at-most leaf_fields [] f d = omega arith
field-tokens-at-most leaf_fields (t ∷ ts) f d =
    omega (arith, field-tokens-at-most leaf_fields ts f d, cond-le (eqb (get_or leaf_fields t.leaf 0) f && eqb t.document d))

-- ---- where 15 does not hold
module _ (n : ℕ) (fields leaf_fields ws : List ℕ) (fine : wrong15 n fields leaf_fields ws ≡ false) where
  tokens-fit : length (tokens_of ws) ≤ largest_frequency
  unfolding tokens_of
  tokens-fit = omega (arith, length-list_to (token_count ws) (token_at ws), few-tokens n fields leaf_fields ws fine)

  pub frequency-fits : (p : Bool) (l : ℕ) (x : Posting) (i : ℕ)
      → i < length (run_for p n (tokens_of ws) l)
      → (0 < (get_or (run_for p n (tokens_of ws) l) i x).frequency) × ((get_or (run_for p n (tokens_of ws) l) i x).frequency ≤ largest_frequency)
  frequency-fits p l x i h =
      (frequency-some p n (tokens_of ws) l x i h, omega (arith, frequency-at-most p n (tokens_of ws) l x i h, tokens-fit))

  pub field-tokens-fit : (f d : ℕ) → field_tokens leaf_fields (tokens_of ws) f d ≤ largest_frequency
  field-tokens-fit f d = omega (arith, field-tokens-at-most leaf_fields (tokens_of ws) f d, tokens-fit)

-- ---- the positions of a leaf in a document, of ascending tokens
module _ (n m : ℕ) (ws : List ℕ) (sorted : TokensOk n m ws) (l d : ℕ) where
  -- entry j is the position of one of the tokens
  abbrev Known : ℕ → List ℕ → ℕ → Type 0
  Known c xs j = (k : ℕ) × ((k < c) × ((token_at ws k).leaf ≡ l) × ((token_at ws k).document ≡ d) × (get_or xs j 0 ≡ (token_at ws k).position))

  abbrev here : ℕ → List ℕ
  here c = positions_at (tokens_to ws c) l d

  one_more : (c : ℕ) → is_at (token_at ws c) l d ≡ true → here (suc c) ≡ here c ++ ((token_at ws c).position ∷ [])
  one_more c e = at_next (token_at ws) l d c ∙ ap (λ (b : Bool). here c ++ cond b ((token_at ws c).position ∷ []) []) e

  no_more : (c : ℕ) → is_at (token_at ws c) l d ≡ false → here (suc c) ≡ here c
  no_more c e = at_next (token_at ws) l d c ∙ ap (λ (b : Bool). here c ++ cond b ((token_at ws c).position ∷ []) []) e ∙ append-nil (here c)

  known : (c j : ℕ) → j < length (here c) → Known c (here c) j
  unfolding list_to
  known zero j h = absurd (omega (arith, h, ap length (at-nil l d)))
  known (suc c) j h = ⊎_elim (longer (λ g. known c j g)) (same (λ g. known c j g)) (decided (is_at (token_at ws c) l d))
    where
      wider : (xs : List ℕ) → Known c xs j → Known (suc c) xs j
      wider xs w = (w.0, (omega (arith, w.1.0), w.1.1, w.1.2, w.1.3))

      longer : (j < length (here c) → Known c (here c) j) → is_at (token_at ws c) l d ≡ true → Known (suc c) (here (suc c)) j
      longer ih e =
          let x = (token_at ws c).position in
          let size = ap length (one_more c e) ∙ length-append (here c) (x ∷ []) in
          subst (λ (xs : List ℕ). Known (suc c) xs j) (sym (one_more c e))
          (⊎_elim
          (λ (g : j < length (here c)). let w = ih g in (w.0, (omega (arith, w.1.0), w.1.1, w.1.2, get_or-append (here c) (x ∷ []) 0 j g ∙ w.1.3)))
          (λ (g : length (here c) ≤ j). (c, (le_refl _, at_leaf (token_at ws c) l d e, at-document (token_at ws c) l d e, get_or_at (here c) x [] 0 j (omega (arith, g, h, size)))))
          (cmp j (length (here c))))

      same : (j < length (here c) → Known c (here c) j) → is_at (token_at ws c) l d ≡ false → Known (suc c) (here (suc c)) j
      same ih e = subst (λ (xs : List ℕ). Known (suc c) xs j) (sym (no_more c e)) (wider (here c) (ih (omega (arith, h, ap length (no_more c e)))))

  pub position-fits : (c j : ℕ) → c ≤ token_count ws → j < length (positions_at (tokens_to ws c) l d) → get_or (positions_at (tokens_to ws c) l d) j 0 ≤ no_more_docs
  position-fits c j b h = let w = known c j h in omega (arith, w.1.3, sorted.position w.0 (omega (arith, w.1.0)))

  pub positions-rise : (c j : ℕ)
      → c ≤ token_count ws
      → suc j < length (positions_at (tokens_to ws c) l d)
      → get_or (positions_at (tokens_to ws c) l d) j 0 ≤ get_or (positions_at (tokens_to ws c) l d) (suc j) 0
  unfolding list_to
  positions-rise zero j b h = absurd (omega (arith, h, ap length (at-nil l d)))
  positions-rise (suc c) j b h = ⊎_elim (longer (λ g. positions-rise c j (omega arith) g)) (same (λ g. positions-rise c j (omega arith) g)) (decided (is_at (token_at ws c) l d))
    where
      Rise : List ℕ → Type 0
      Rise xs = get_or xs j 0 ≤ get_or xs (suc j) 0

      longer : (suc j < length (here c) → Rise (here c)) → is_at (token_at ws c) l d ≡ true → Rise (here (suc c))
      longer ih e =
          let x = (token_at ws c).position in
          let size = ap length (one_more c e) ∙ length-append (here c) (x ∷ []) in
          let first = get_or-append (here c) (x ∷ []) 0 j (omega (arith, size)) in
          subst Rise (sym (one_more c e))
          (⊎_elim
          (λ (g : suc j < length (here c)). omega (arith, first, get_or-append (here c) (x ∷ []) 0 (suc j) g, ih g))
          (λ (g : length (here c) ≤ suc j).
          let w = known c j (omega (arith, size)) in
          let last = get_or_at (here c) x [] 0 (suc j) (omega (arith, size)) in
          omega (
            arith,
            first,
            last,
            w.1.3,
            sorted.positions w.0 c (omega (arith, w.1.0)) b (w.1.1 ∙ sym (at_leaf (token_at ws c) l d e)) (w.1.2 ∙ sym (at-document (token_at ws c) l d e)),
          ))
          (cmp (suc j) (length (here c))))

      same : (suc j < length (here c) → Rise (here c)) → is_at (token_at ws c) l d ≡ false → Rise (here (suc c))
      same ih e = subst Rise (sym (no_more c e)) (ih (omega (arith, h, ap length (no_more c e))))
