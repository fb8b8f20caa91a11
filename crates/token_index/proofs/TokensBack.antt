-- "Reading the written index back must yield the tokens", in a field without positions all but their positions.
-- Assumes nothing.
use mathlib.Core.Path.{◌≡◌, refl, sym, ap, ap₂, ◌∙◌}
use mathlib.Core.Bool.{Bool, true, false, cond}
use mathlib.Core.List.{List, [], ◌∷◌, ◌++◌, map, map-append, append_assoc, append-nil}
use Prim.Native.Nat.{ℕ, zero, suc, ◌≤◌, ◌<◌}
use native.Mathlib.Nat.{le_refl}
use native.Mathlib.Omega.{arith}
use lib.ListN.{length, length-append}
use Rattle.meaning.specs.Below.{list_to}
use Rattle.meaning.specs.Lent.{Index, has_positions, leaf_field}
use Rattle.meaning.specs.Packed.{Posting, run_of, join_to}
use Rattle.meaning.specs.Tokens.{Token, token_count, token_at, tokens_of, positional, positions_at, posting_for, run_for, index_of_tokens, tokens_in, tokens_back, kept}
use Rattle.meaning.specs.TokenRefusals.{Outputs, wrong15, write_refusal}
use Rattle.meaning.proofs.Below.{list_to-next}
use Rattle.packed.proofs.Joined.{join-same, join-none, join-longer}
use Rattle.token_index.proofs.Positions.{tokens_to, is-here, at_next}
use Rattle.token_index.proofs.Runs.{posting_by, posting_if, posting_by_if, by-if, run_none, run-other, run-split-before, run-split-after}
use Rattle.token_index.proofs.Order.{tokens-ok, fine-tokens}
use Rattle.token_index.proofs.Written.{written-leaves, written-positional, written-run}

abbrev token : ℕ → ℕ → ℕ → Token
token l d q = record { leaf = l; document = d; position = q }

-- ---- the tokens of some postings
pub in-append : (p : Bool) (l : ℕ) (xs ys : List Posting) → tokens_in p l (xs ++ ys) ≡ tokens_in p l xs ++ tokens_in p l ys
unfolding tokens_in
in-append p l [] ys = refl
in-append p l (x ∷ xs) ys =
    let own = cond p (map (token l x.document) x.positions) (list_to x.frequency (λ i. token l x.document 0)) in
    ap (λ (ts : List Token). own ++ ts) (in-append p l xs ys) ∙ sym (append_assoc own (tokens_in p l xs) (tokens_in p l ys))

pub in-none : (p : Bool) (l : ℕ) → tokens_in p l [] ≡ []
unfolding tokens_in
in-none p l = refl

-- ---- the tokens of leaf l at these positions of document d
module _ (l d : ℕ) where
  abbrev tokens_by : Bool → List ℕ → List Token
  tokens_by p xs = cond p (map (token l d) xs) (list_to (length xs) (λ i. token l d 0))

  in_one : (p : Bool) (xs : List ℕ) → tokens_in p l (posting_by p d xs ∷ []) ≡ tokens_by p xs
  unfolding tokens_in
  in_one true xs = append-nil (map (token l d) xs)
  in_one false xs = append-nil (list_to (length xs) (λ i. token l d 0))

  no-tokens : (p : Bool) (xs : List ℕ) → length xs ≡ 0 → tokens_by p xs ≡ []
  unfolding list_to
  no-tokens true [] h = refl
  no-tokens false [] h = refl
  no-tokens p (x ∷ xs) h = absurd (omega arith)

  in-if : (p : Bool) (xs : List ℕ) → tokens_in p l (posting_by_if p d xs) ≡ tokens_by p xs
  in-if p xs = by-if (tokens_in p l) p d xs (tokens_by p xs) (in_one p xs) (λ z. in-none p l ∙ sym (no-tokens p xs z))

  -- one position more
  by-more : (p : Bool) (xs : List ℕ) (q : ℕ) → tokens_by p (xs ++ (q ∷ [])) ≡ tokens_by p xs ++ (token l d (cond p q 0) ∷ [])
  by-more true xs q = map-append (token l d) xs (q ∷ [])
  by-more false xs q = ap (λ (k : ℕ). list_to k (λ i. token l d 0)) (length-append xs (q ∷ [])) ∙ list_to-next (λ i. token l d 0) (length xs)

-- ---- the first c tokens, read back leaf by leaf
module _ (n : ℕ) (fields leaf_fields ws : List ℕ) (fine : wrong15 n fields leaf_fields ws ≡ false) where
  abbrev has : ℕ → Bool
  has = positional fields leaf_fields

  -- those of leaf l
  abbrev back : ℕ → ℕ → List Token
  back c l = tokens_in (has l) l (run_for (has l) n (tokens_to ws c) l)

  -- the leaf of token c grows by it
  module _ (c : ℕ) (below : c < token_count ws) where
    abbrev t : Token
    t = token_at ws c

    abbrev p : Bool
    p = has t.leaf

    own : (k : ℕ) → c ≤ k → k < suc c → ((token_at ws k).leaf ≡ t.leaf) × ((token_at ws k).document ≡ t.document)
    own k a b = let e : k ≡ c = omega arith in (ap (λ (j : ℕ). (token_at ws j).leaf) e, ap (λ (j : ℕ). (token_at ws j).document) e)

    before : (k : ℕ) → k < c → (token_at ws k).leaf ≡ t.leaf → (token_at ws k).document ≤ t.document
    before k h e = (tokens-ok n fields leaf_fields ws fine).documents k c (omega arith) below e

    in-range : t.document < n
    in-range = (tokens-ok n fields leaf_fields ws fine).document c below

    abbrev places : ℕ → List ℕ
    places k = positions_at (tokens_to ws k) t.leaf t.document

    -- the postings before its document stay
    abbrev earlier : List Posting
    earlier = run_for p t.document (tokens_to ws c) t.leaf

    place-more : places (suc c) ≡ places c ++ (t.position ∷ [])
    place-more =
        at_next (token_at ws) t.leaf t.document c
        ∙ ap (λ (b : Bool). places c ++ cond b (t.position ∷ []) []) (is-here t t.leaf t.document refl refl)

    grows : back (suc c) t.leaf ≡ back c t.leaf ++ (kept fields leaf_fields t ∷ [])
    grows =
        let l = t.leaf in
        let d = t.document in
        let ts = tokens_in p l earlier in
        let old : back c l ≡ ts ++ tokens_by l d p (places c) =
        ap (tokens_in p l) (run-split-before p n ws l d c (suc c) (le_refl _) in-range own before)
        ∙ in-append p l earlier (posting_if p (tokens_to ws c) l d)
        ∙ ap (λ (us : List Token). ts ++ us) (in-if l d p (places c)) in
        ap (tokens_in p l) (run-split-after p n ws l d c (suc c) (le_refl _) in-range own before)
        ∙ in-append p l earlier (posting_for p (tokens_to ws (suc c)) l d ∷ [])
        ∙ ap (λ (us : List Token). ts ++ us) (in_one l d p (places (suc c)) ∙ ap (tokens_by l d p) place-more ∙ by-more l d p (places c) t.position)
        ∙ sym (append_assoc ts (tokens_by l d p (places c)) (kept fields leaf_fields t ∷ []))
        ∙ ap (λ (us : List Token). us ++ (kept fields leaf_fields t ∷ [])) (sym old)

    -- earlier leaves stay
    stays : (l : ℕ) → l < t.leaf → back (suc c) l ≡ back c l
    stays l h =
        ap (tokens_in (has l) l) (run-other (has l) n ws l c (suc c) (omega arith) (λ k a b e. absurd (omega (arith, h, e, (own k a b).0))))

    -- later leaves have no tokens yet
    empty : (e l : ℕ) → e ≤ suc c → t.leaf < l → back e l ≡ []
    unfolding list_to
    empty e l b h =
        ap (tokens_in (has l) l)
        (run-other (has l) n ws l 0 e (omega arith) (λ k a g q. absurd (omega (arith, h, q, (tokens-ok n fields leaf_fields ws fine).leaves k c (omega arith) below))) ∙ run_none (has l) n l)
        ∙ in-none (has l) l

  back-first : (c : ℕ) → c ≤ token_count ws → join_to (length leaf_fields) (back c) ≡ map (kept fields leaf_fields) (tokens_to ws c)
  unfolding list_to
  back-first zero h = join-none (length leaf_fields) (back 0) (λ l g. ap (tokens_in (has l) l) (run_none (has l) n l) ∙ in-none (has l) l)
  back-first (suc c) h =
      join-longer (length leaf_fields) (token_at ws c).leaf (back c) (back (suc c)) (kept fields leaf_fields (token_at ws c) ∷ [])
      ((tokens-ok n fields leaf_fields ws fine).leaf c h)
      (grows c h)
      (stays c h)
      (λ l g b. empty c h c l (omega arith) g)
      (λ l g b. empty c h (suc c) l (omega arith) g)
      ∙ ap (λ (ts : List Token). ts ++ (kept fields leaf_fields (token_at ws c) ∷ [])) (back-first c (omega arith))
      ∙ sym (map-append (kept fields leaf_fields) (tokens_to ws c) (token_at ws c ∷ []))

  -- ---- the whole index
  module _ (idfs live columns values : List ℕ) where
    abbrev ix : Index
    ix = index_of_tokens n fields ws leaf_fields idfs live columns values

    -- the tokens of leaf l as the index has them
    abbrev read : ℕ → List Token
    read l = tokens_in (has_positions ix (leaf_field ix l)) l (run_of ix l)

    pub tokens-back-of : tokens_back (index_of_tokens n fields ws leaf_fields idfs live columns values) ≡ map (kept fields leaf_fields) (tokens_of ws)
    unfolding tokens_back tokens_of
    tokens-back-of =
        ap (λ (k : ℕ). join_to k read) (written-leaves n fields leaf_fields ws idfs live columns values)
        ∙ join-same (length leaf_fields) read (back (token_count ws))
        (λ l h.
        ap₂ (λ (b : Bool) (r : List Posting). tokens_in b l r)
        (written-positional n fields leaf_fields ws idfs live columns values l h)
        (written-run n fields leaf_fields ws idfs live columns values l h))
        ∙ back-first (token_count ws) (le_refl _)

-- where the writer does not refuse, the tokens come back, whatever is lent beside what it wrote
pub tokens-back : (n : ℕ) (fields leaf_fields ws : List ℕ) (o : Outputs)
    → write_refusal n fields leaf_fields ws o ≡ 0
    → (idfs live columns values : List ℕ)
    → tokens_back (index_of_tokens n fields ws leaf_fields idfs live columns values) ≡ map (kept fields leaf_fields) (tokens_of ws)
tokens-back n fields leaf_fields ws o accepted idfs live columns values =
    tokens-back-of n fields leaf_fields ws (fine-tokens n fields leaf_fields ws o accepted) idfs live columns values
