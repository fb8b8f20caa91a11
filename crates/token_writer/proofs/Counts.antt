-- The tokens that begin a posting are as many as the postings of all runs, those of a field with positions as many as their positions. Assumes nothing.
use mathlib.Core.Path.{◌≡◌, refl, sym, ap, ◌∙◌}
use mathlib.Core.Logic.{⊎_elim}
use mathlib.Core.Bool.{Bool, true, false, not, cond, false≢true}
use mathlib.Core.List.{List, [], ◌∷◌}
use Prim.Native.Nat.{ℕ, zero, suc, ◌+◌, ◌-◌, ◌≤◌, ◌<◌}
use native.Mathlib.Nat.{le_refl, add-zero}
use native.Mathlib.Omega.{arith}
use lib.Dec.{eqb}
use lib.ListN.{length, length-append}
use borrow.Author.Tests.{eq-eqb, ne_eqb, eqb-true, eqb-false, not-false}
use Rattle.meaning.specs.Below.{list_to, count_below, sum_below}
use Rattle.meaning.specs.Packed.{Posting, positions_in, postings_in, pack_positions}
use Rattle.meaning.specs.Tokens.{token_count, token_at, tokens_of, run_for, positional, token_runs, token_positions}
use Rattle.meaning.specs.TokenRefusals.{wrong15, posting_number, position_number}
use Rattle.meaning.proofs.Tests.{cmp, or-3}
use Rattle.meaning.proofs.Below.{count-zero}
use Rattle.meaning.proofs.Sums.{sum-none, sum-grown}
use Rattle.packed.proofs.Longer.{pack-positions-append, postings-in-append}
use Rattle.tokens.specs.Counts.{begins_posting}
use Rattle.token_index.specs.TokensOk.{TokensOk}
use Rattle.token_index.proofs.Runs.{run_none, run-longer, run-other, run-repeat, positions-number}
use Rattle.token_index.proofs.Order.{tokens-ok}

-- ---- the runs' numbers, added up
postings-sum : (m : ℕ) (f : ℕ → List Posting) → postings_in (list_to m f) ≡ sum_below m (λ l. length (f l))
unfolding list_to sum_below postings_in
postings-sum zero f = refl
postings-sum (suc m) f = omega (arith, postings-in-append (list_to m f) (f m ∷ []), postings-sum m f)

-- the number of positions of a run
abbrev places_of : List Posting → ℕ
places_of r = length (positions_in r)

places-sum : (m : ℕ) (f : ℕ → List Posting) → length (pack_positions (list_to m f)) ≡ sum_below m (λ l. places_of (f l))
unfolding list_to sum_below pack_positions
places-sum zero f = refl
places-sum (suc m) f =
    omega (
      arith,
      ap length (pack-positions-append (list_to m f) (f m ∷ [])),
      length-append (pack_positions (list_to m f)) (pack_positions (f m ∷ [])),
      length-append (positions_in (f m)) [],
      places-sum m f,
    )

no_run : (p : Bool) (n : ℕ) (ws : List ℕ) (l : ℕ) → run_for p n (list_to 0 (token_at ws)) l ≡ []
unfolding list_to
no_run p n ws l = run_none p n l

no-places : places_of [] ≡ 0
unfolding positions_in
no-places = refl

count_next : (i : ℕ) (q : ℕ → Bool) → count_below (suc i) q ≡ count_below i q + cond (q i) 1 0
unfolding count_below
count_next i q = refl

-- ---- one token more
module _ (n m : ℕ) (ws : List ℕ) (a : TokensOk n m ws) (i : ℕ) (b : i < token_count ws) where
  abbrev leaf : ℕ
  leaf = (token_at ws i).leaf

  begins-not : begins_posting ws i ≡ false → (0 < i) × ((token_at ws (i - 1)).leaf ≡ (token_at ws i).leaf) × ((token_at ws (i - 1)).document ≡ (token_at ws i).document)
  unfolding begins_posting
  begins-not e =
      let parts = or-3 (eqb i 0) (not (eqb (token_at ws i).leaf (token_at ws (i - 1)).leaf)) (not (eqb (token_at ws i).document (token_at ws (i - 1)).document)) e in
      let first = eqb-false i 0 parts.0 in
      (omega (arith, first), sym (eqb-true _ _ (not-false _ parts.1)), sym (eqb-true _ _ (not-false _ parts.2)))

  goes_on : 0 < i → (token_at ws i).leaf ≡ (token_at ws (i - 1)).leaf → (token_at ws i).document ≡ (token_at ws (i - 1)).document → begins_posting ws i ≡ false
  unfolding begins_posting
  goes_on h e f = let z : i ≡ 0 → ⊥ = λ g. omega (arith, h, g) in rw (ne_eqb i 0 z, eq-eqb _ _ e, eq-eqb _ _ f)

  -- where a posting begins, its leaf's tokens before are of lower documents
  lower : begins_posting ws i ≡ true → (k : ℕ) → k < i → (token_at ws k).leaf ≡ (token_at ws i).leaf → (token_at ws k).document < (token_at ws i).document
  lower e k h g =
      ⊎_elim
      (λ q. q)
      (λ q.
      let u = i - 1 in
      let up = a.leaves u i (omega arith) b in
      let down = a.leaves k u (omega arith) (omega arith) in
      let leafs : (token_at ws u).leaf ≡ (token_at ws i).leaf = omega (arith, up, down, g) in
      let early = a.documents k u (omega arith) (omega arith) (omega (arith, leafs, g)) in
      let late = a.documents u i (omega arith) b leafs in
      let docs : (token_at ws i).document ≡ (token_at ws u).document = omega (arith, early, late, q) in
      absurd (false≢true (sym (goes_on (omega arith) (sym leafs) docs) ∙ e)))
      (cmp (token_at ws k).document (token_at ws i).document)

  -- the run of its leaf is one posting longer where it begins one, and the others stay
  run_more : (p : Bool) → length (run_for p n (list_to (suc i) (token_at ws)) leaf) ≡ length (run_for p n (list_to i (token_at ws)) leaf) + cond (begins_posting ws i) 1 0
  run_more p = go (begins_posting ws i) refl
    where
      go : (t : Bool) → begins_posting ws i ≡ t → length (run_for p n (list_to (suc i) (token_at ws)) leaf) ≡ length (run_for p n (list_to i (token_at ws)) leaf) + cond t 1 0
      go true e =
          ap length
          (run-longer p n ws leaf (token_at ws i).document i (suc i) (le_refl _) (a.document i b)
          (λ k h g. let z : k ≡ i = omega arith in (ap (λ (j : ℕ). (token_at ws j).leaf) z, ap (λ (j : ℕ). (token_at ws j).document) z))
          (lower e))
          ∙ length-append (run_for p n (list_to i (token_at ws)) leaf) _
      go false e =
          let h = begins-not e in
          run-repeat p n ws leaf i (i - 1) (omega (arith, h.0)) h.1 h.2 ∙ sym (add-zero _)

  run-kept : (p : Bool) (l : ℕ) → (l ≡ leaf → ⊥) → run_for p n (list_to (suc i) (token_at ws)) l ≡ run_for p n (list_to i (token_at ws)) l
  run-kept p l h =
      run-other p n ws l i (suc i) (omega arith)
      (λ k g j e. let z : k ≡ i = omega arith in h (sym e ∙ ap (λ (x : ℕ). (token_at ws x).leaf) z))

  -- the positions of its leaf's run are one more where its field has them
  places-more : (p : Bool) → places_of (run_for p n (list_to (suc i) (token_at ws)) leaf) ≡ places_of (run_for p n (list_to i (token_at ws)) leaf) + cond p 1 0
  places-more p =
      positions-number p n ws leaf (suc i) (λ k h. a.document k (omega arith))
      ∙ go p
      ∙ ap (λ (k : ℕ). k + cond p 1 0) (sym (positions-number p n ws leaf i (λ k h. a.document k (omega arith))))
    where
      of-leaf : ℕ → Bool
      of-leaf k = eqb (token_at ws k).leaf leaf

      go : (p : Bool) → cond p (count_below (suc i) of-leaf) 0 ≡ cond p (count_below i of-leaf) 0 + cond p 1 0
      go true = count_next i of-leaf ∙ ap (λ (t : Bool). count_below i of-leaf + cond t 1 0) (eq-eqb leaf leaf refl)
      go false = refl

-- ---- all tokens
module _ (n : ℕ) (fields leaf_fields ws : List ℕ) (right : wrong15 n fields leaf_fields ws ≡ false) where
  rising : TokensOk n (length leaf_fields) ws
  rising = tokens-ok n fields leaf_fields ws right

  -- the runs of the first i tokens
  abbrev runs : ℕ → ℕ → List Posting
  runs i l = run_for (positional fields leaf_fields l) n (list_to i (token_at ws)) l

  postings-to : (i : ℕ) → i ≤ token_count ws → count_below i (begins_posting ws) ≡ sum_below (length leaf_fields) (λ l. length (runs i l))
  postings-to zero h =
      count-zero (begins_posting ws) ∙ sym (sum-none (length leaf_fields) (λ l. length (runs 0 l)) (λ l g. ap length (no_run (positional fields leaf_fields l) n ws l)))
  postings-to (suc i) h =
      let more : ℕ = cond (begins_posting ws i) 1 0 in
      count_next i (begins_posting ws)
      ∙ ap (λ (k : ℕ). k + more) (postings-to i (omega arith))
      ∙ sym (sum-grown (length leaf_fields) (token_at ws i).leaf more (λ l. length (runs i l)) (λ l. length (runs (suc i) l)) (rising.leaf i h)
      (run_more n (length leaf_fields) ws rising i h (positional fields leaf_fields (token_at ws i).leaf))
      (λ l z. ap length (run-kept n (length leaf_fields) ws rising i h (positional fields leaf_fields l) l z)))

  abbrev placed : ℕ → Bool
  placed i = positional fields leaf_fields (token_at ws i).leaf

  places-to : (i : ℕ) → i ≤ token_count ws → count_below i placed ≡ sum_below (length leaf_fields) (λ l. places_of (runs i l))
  places-to zero h =
      count-zero placed ∙ sym (sum-none (length leaf_fields) (λ l. places_of (runs 0 l)) (λ l g. ap places_of (no_run (positional fields leaf_fields l) n ws l) ∙ no-places))
  places-to (suc i) h =
      let more : ℕ = cond (placed i) 1 0 in
      count_next i placed
      ∙ ap (λ (k : ℕ). k + more) (places-to i (omega arith))
      ∙ sym (sum-grown (length leaf_fields) (token_at ws i).leaf more (λ l. places_of (runs i l)) (λ l. places_of (runs (suc i) l)) (rising.leaf i h)
      (places-more n (length leaf_fields) ws rising i h (placed i))
      (λ l z. ap places_of (run-kept n (length leaf_fields) ws rising i h (positional fields leaf_fields l) l z)))

  pub postings-counted : count_below (token_count ws) (begins_posting ws) ≡ posting_number n fields leaf_fields ws
  unfolding token_runs tokens_of
  postings-counted = postings-to (token_count ws) (le_refl _) ∙ sym (postings-sum (length leaf_fields) (runs (token_count ws)))

  pub positions-counted : count_below (token_count ws) (λ i. positional fields leaf_fields (token_at ws i).leaf) ≡ position_number n fields leaf_fields ws
  unfolding token_positions token_runs tokens_of
  positions-counted = places-to (token_count ws) (le_refl _) ∙ sym (places-sum (length leaf_fields) (runs (token_count ws)))
