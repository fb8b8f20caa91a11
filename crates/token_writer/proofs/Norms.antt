-- The runs and postings that are written are such that norms can be made of them, and those norms are the tokens'. Assumes nothing.
use mathlib.Core.Path.{◌≡◌, refl, sym, ap, ap₂, subst, ◌∙◌}
use mathlib.Core.Logic.{⊎_elim}
use mathlib.Core.Bool.{Bool, true, false, cond, ◌&&◌}
use mathlib.Core.List.{List, [], ◌∷◌, ◌++◌}
use Prim.Native.Nat.{ℕ, zero, suc, ◌+◌, ◌*◌, ◌/◌, ◌≤◌, ◌<◌}
use native.Mathlib.Nat.{le_refl, add-zero}
use native.Mathlib.Omega.{arith}
use lib.Dec.{eqb}
use lib.ListN.{length, get_or, length-append}
use borrow.Author.Tests.{eq-eqb}
use Rattle.meaning.specs.Below.{list_to, sum_below}
use Rattle.meaning.specs.Lent.{Index, has_norms, leaf_first, leaf_number}
use Rattle.meaning.specs.SmallFloat.{int_to_byte4}
use Rattle.meaning.specs.Packed.{Posting, pack_firsts, pack_runs}
use Rattle.meaning.specs.Tokens.{Token, token_count, token_at, tokens_of, fields_lent, positional, positions_at, run_for, field_tokens, norm_for, token_runs, token_norms, token_postings, index_of_tokens}
use Rattle.meaning.specs.TokenRefusals.{wrong15}
use Rattle.meaning.proofs.Tests.{cmp}
use Rattle.meaning.proofs.Sums.{sum-none, sum_same, sum-grown, sum_first}
use Rattle.meaning.proofs.Below.{list_to-same}
use Rattle.index.specs.Runs.{posting_document, posting_frequency}
use Rattle.packed.specs.Packs.{Packs}
use Rattle.packed.proofs.Joined.{join-same, rows-length, rows_at}
use Rattle.packed.proofs.Back.{packed-first, packed-number, packed-room, packed-document, packed-frequency}
use Rattle.token_index.specs.TokensOk.{TokensOk}
use Rattle.token_index.proofs.Positions.{is_at, at-nil, at_next, at_none, not-here}
use Rattle.token_index.proofs.Runs.{frequency_in, run-below, run-frequency}
use Rattle.token_index.proofs.Order.{few-leaves, tokens-ok}
use Rattle.token_index.proofs.Frequencies.{documents-rise, field-tokens-fit}
use Rattle.token_index.proofs.Written.{runs_number, runs-at, written-packs}
use Rattle.token_norms.specs.Lengths.{run_first, run_number, frequency_in_run, in_leaf, length_in, norm_bytes, RunOk, RunsOk}

-- stands for a posting where there is none; it is never read
abbrev nothing : Posting
nothing = record { document = 0; frequency = 0; positions = [] }

-- ---- the frequencies of document d in a run
abbrev frequency_at : List Posting → ℕ → ℕ → ℕ
frequency_at r d i = cond (eqb (get_or r i nothing).document d) (get_or r i nothing).frequency 0

added : (r : List Posting) (d : ℕ) → sum_below (length r) (frequency_at r d) ≡ frequency_in r d
unfolding sum_below frequency_in
added [] d = refl
added (x ∷ xs) d = sum_first (length xs) (frequency_at (x ∷ xs) d) ∙ ap (λ (k : ℕ). cond (eqb x.document d) x.frequency 0 + k) (added xs d)

-- ---- the tokens of a field in document d, counted leaf by leaf
module _ (leaf_fields : List ℕ) (f d : ℕ) where
  tokens_append : (xs ys : List Token) → field_tokens leaf_fields (xs ++ ys) f d ≡ field_tokens leaf_fields xs f d + field_tokens leaf_fields ys f d
  unfolding field_tokens
  tokens_append [] ys = omega arith
  tokens_append (x ∷ xs) ys = omega (arith, tokens_append xs ys)

  -- the tokens of leaf l, where its field is f
  abbrev of_leaf : List Token → ℕ → ℕ
  of_leaf ts l = cond (eqb (get_or leaf_fields l 0) f) (length (positions_at ts l d)) 0

  -- one token more
  module _ (c : ℕ) (t : ℕ → Token) where
    longer : (l : ℕ) (b : Bool) → is_at (t c) l d ≡ b → length (positions_at (list_to (suc c) t) l d) ≡ length (positions_at (list_to c t) l d) + cond b 1 0
    longer l b e =
        ap length (at_next t l d c)
        ∙ length-append (positions_at (list_to c t) l d) (cond (is_at (t c) l d) ((t c).position ∷ []) [])
        ∙ ap (λ (k : ℕ). length (positions_at (list_to c t) l d) + k) (ap (λ (h : Bool). length (cond h ((t c).position ∷ []) [])) e ∙ one b)
      where
        one : (b : Bool) → length (cond b ((t c).position ∷ []) []) ≡ cond b 1 0
        one true = refl
        one false = refl

    -- its leaf has one more where its field is f and its document d
    own : of_leaf (list_to (suc c) t) (t c).leaf ≡ of_leaf (list_to c t) (t c).leaf + cond (eqb (get_or leaf_fields (t c).leaf 0) f && eqb (t c).document d) 1 0
    own =
        let b = eqb (t c).document d in
        go (eqb (get_or leaf_fields (t c).leaf 0) f) b (longer (t c).leaf b (ap (λ (h : Bool). h && b) (eq-eqb (t c).leaf (t c).leaf refl)))
      where
        go : (h b : Bool)
            → length (positions_at (list_to (suc c) t) (t c).leaf d) ≡ length (positions_at (list_to c t) (t c).leaf d) + cond b 1 0
            → cond h (length (positions_at (list_to (suc c) t) (t c).leaf d)) 0 ≡ cond h (length (positions_at (list_to c t) (t c).leaf d)) 0 + cond (h && b) 1 0
        go true b e = e
        go false b e = refl

    others : (l : ℕ) → (l ≡ (t c).leaf → ⊥) → of_leaf (list_to (suc c) t) l ≡ of_leaf (list_to c t) l
    others l h =
        ap (λ (k : ℕ). cond (eqb (get_or leaf_fields l 0) f) k 0)
        (longer l false (not-here (t c) l d (λ a b. h (sym a))) ∙ add-zero (length (positions_at (list_to c t) l d)))

  tokens-next : (c : ℕ) (t : ℕ → Token) → field_tokens leaf_fields (list_to (suc c) t) f d ≡ field_tokens leaf_fields (list_to c t) f d + cond (eqb (get_or leaf_fields (t c).leaf 0) f && eqb (t c).document d) 1 0
  unfolding list_to field_tokens
  tokens-next c t = tokens_append (list_to c t) (t c ∷ []) ∙ ap (λ (k : ℕ). field_tokens leaf_fields (list_to c t) f d + k) (add-zero _)

  no-tokens : (t : ℕ → Token) → field_tokens leaf_fields (list_to 0 t) f d ≡ 0
  unfolding list_to field_tokens
  no-tokens t = refl

  none-of-leaf : (t : ℕ → Token) (l : ℕ) → of_leaf (list_to 0 t) l ≡ 0
  unfolding list_to
  none-of-leaf t l = ap (λ (xs : List ℕ). cond (eqb (get_or leaf_fields l 0) f) (length xs) 0) (at-nil l d) ∙ zeros (eqb (get_or leaf_fields l 0) f)
    where
      zeros : (b : Bool) → ◌≡◌ {A = ℕ} (cond b 0 0) 0
      zeros true = refl
      zeros false = refl

  by-leaves : (c : ℕ) (t : ℕ → Token) → ((j : ℕ) → j < c → (t j).leaf < length leaf_fields) → sum_below (length leaf_fields) (of_leaf (list_to c t)) ≡ field_tokens leaf_fields (list_to c t) f d
  by-leaves zero t h = sum-none (length leaf_fields) (of_leaf (list_to 0 t)) (λ l b. none-of-leaf t l) ∙ sym (no-tokens t)
  by-leaves (suc c) t h =
      sum-grown (length leaf_fields) (t c).leaf (cond (eqb (get_or leaf_fields (t c).leaf 0) f && eqb (t c).document d) 1 0) (of_leaf (list_to c t)) (of_leaf (list_to (suc c) t)) (h c (le_refl _)) (own c t) (others c t)
      ∙ ap (λ (k : ℕ). k + cond (eqb (get_or leaf_fields (t c).leaf 0) f && eqb (t c).document d) 1 0) (by-leaves c t (λ j k. h j (omega arith)))
      ∙ sym (tokens-next c t)

-- ---- what is written of the tokens
module _ (n : ℕ) (fields leaf_fields ws : List ℕ) (right : wrong15 n fields leaf_fields ws ≡ false) where
  abbrev rs : List (List Posting)
  rs = token_runs n fields leaf_fields (tokens_of ws)

  abbrev ps : List ℕ
  ps = token_postings n fields leaf_fields (tokens_of ws)

  abbrev runs : List ℕ
  runs = pack_runs rs

  abbrev number : length rs ≡ length leaf_fields
  number = runs_number n fields leaf_fields (tokens_of ws)

  rising : TokensOk n (length leaf_fields) ws
  rising = tokens-ok n fields leaf_fields ws right

  -- two words a leaf
  words : length runs ≡ 2 * length leaf_fields
  unfolding pack_runs
  words = rows-length 2 (length rs) (λ l. get_or (pack_firsts 0 rs) l 0 ∷ length (get_or rs l []) ∷ []) (λ i h. refl) ∙ ap (λ (k : ℕ). 2 * k) number

  module _ (l : ℕ) (in-runs : l < length rs) where
    first_word : run_first runs l ≡ get_or (pack_firsts 0 rs) l 0
    unfolding pack_runs
    first_word =
        ap (λ (k : ℕ). get_or (pack_runs rs) k 0) (sym (add-zero (2 * l)))
        ∙ rows_at 2 (length rs) (λ k. get_or (pack_firsts 0 rs) k 0 ∷ length (get_or rs k []) ∷ []) 0 (λ i h. refl) l 0 in-runs (omega arith)

    second_word : run_number runs l ≡ length (get_or rs l [])
    unfolding pack_runs
    second_word = rows_at 2 (length rs) (λ k. get_or (pack_firsts 0 rs) k 0 ∷ length (get_or rs k []) ∷ []) 0 (λ i h. refl) l 1 in-runs (omega arith)

  -- the index of which they are a part
  abbrev ix : Index
  ix = index_of_tokens n fields ws leaf_fields [] [] [] []

  abbrev packs : Packs ix leaf_fields [] rs
  packs = written-packs n fields leaf_fields ws [] [] [] []

  its-postings : ix.postings ≡ ps
  unfolding index_of_tokens
  its-postings = refl

  -- ---- the run of leaf l
  module _ (l : ℕ) (in-runs : l < length rs) where
    abbrev run : List Posting
    run = get_or rs l []

    run_is : run ≡ run_for (positional fields leaf_fields l) n (tokens_of ws) l
    run_is = runs-at n fields leaf_fields (tokens_of ws) l (omega (arith, number))

    first-is : leaf_first ix l ≡ run_first runs l
    first-is = packed-first ix leaf_fields [] rs packs l in-runs ∙ sym (first_word l in-runs)

    number_is : leaf_number ix l ≡ run_number runs l
    number_is = packed-number ix leaf_fields [] rs packs l in-runs ∙ sym (second_word l in-runs)

    document-is : (i : ℕ) → i < run_number runs l → posting_document ps (run_first runs l) i ≡ (get_or run i nothing).document
    document-is i h =
        ap₂ (λ (xs : List ℕ) (k : ℕ). get_or xs (3 * (k + i)) 0) (sym its-postings) (sym first-is)
        ∙ packed-document ix leaf_fields [] rs packs l in-runs nothing i (omega (arith, number_is, h))

    frequency-is : (i : ℕ) → i < run_number runs l → posting_frequency ps (run_first runs l) i ≡ (get_or run i nothing).frequency
    frequency-is i h =
        ap₂ (λ (xs : List ℕ) (k : ℕ). get_or xs (3 * (k + i) + 1) 0) (sym its-postings) (sym first-is)
        ∙ packed-frequency ix leaf_fields [] rs packs l in-runs nothing i (omega (arith, number_is, h))

    -- no token is in a document at or above n
    by-run : (d : ℕ) → frequency_in (run_for (positional fields leaf_fields l) n (tokens_of ws) l) d ≡ length (positions_at (tokens_of ws) l d)
    unfolding tokens_of
    by-run d =
        let p = positional fields leaf_fields l in
        let ts = list_to (token_count ws) (token_at ws) in
        ⊎_elim
        (λ (h : d < n). run-frequency p n ts l d h)
        (λ (h : n ≤ d).
        ap (λ (r : List Posting). frequency_in r d)
        (sym (run-below p (suc d) ts l n (omega arith)
        (λ x c k. at_none (token_at ws) l x (token_count ws) (λ j b a e. omega (arith, rising.document j b, e, c)))))
        ∙ run-frequency p (suc d) ts l d (le_refl _))
        (cmp d n)

    -- what the words say of document d is what the tokens say
    in-run : (d : ℕ) → frequency_in_run ps (run_first runs l) (run_number runs l) d ≡ length (positions_at (tokens_of ws) l d)
    unfolding frequency_in_run
    in-run d =
        sum_same (run_number runs l) (frequency_at run d) (λ i. cond (eqb (posting_document ps (run_first runs l) i) d) (posting_frequency ps (run_first runs l) i) 0)
        (λ i h. ap₂ (λ (a b : ℕ). cond (eqb a d) b 0) (document-is i h) (frequency-is i h))
        ∙ ap (λ (k : ℕ). sum_below k (frequency_at run d)) (second_word l in-runs)
        ∙ added run d
        ∙ ap (λ (r : List Posting). frequency_in r d) run_is
        ∙ by-run d

    documents-up : (i j : ℕ) → i < j → j < length run → (get_or run i nothing).document < (get_or run j nothing).document
    documents-up i j h b =
        subst (λ (r : List Posting). (get_or r i nothing).document < (get_or r j nothing).document) (sym run_is)
        (documents-rise (positional fields leaf_fields l) n (tokens_of ws) l nothing i j h (subst (λ (r : List Posting). j < length r) run_is b))

    run_ok : RunOk ps (run_first runs l) (run_number runs l)
    run_ok =
        record {
          room = omega (arith, packed-room ix leaf_fields [] rs packs l in-runs, first-is, number_is, ap length its-postings);
          rising =
              λ i j h b.
              omega (
                arith,
                document-is i (omega arith),
                document-is j b,
                documents-up i j h (omega (arith, b, second_word l in-runs)),
              );
        }

  -- ---- all leaves
  abbrev inside : (l : ℕ) → l < length leaf_fields → l < length rs
  inside l h = omega (arith, number)

  lengths : (f d : ℕ) → length_in leaf_fields ps runs f d ≡ field_tokens leaf_fields (tokens_of ws) f d
  unfolding length_in in_leaf tokens_of
  lengths f d =
      sum_same (length leaf_fields) (of_leaf leaf_fields f d (tokens_of ws)) (in_leaf leaf_fields ps runs f d)
      (λ l h. ap (λ (k : ℕ). cond (eqb (get_or leaf_fields l 0) f) k 0) (in-run l (inside l h) d))
      ∙ by-leaves leaf_fields f d (token_count ws) (token_at ws) rising.leaf

  pub runs-ok : RunsOk leaf_fields ps runs
  runs-ok =
      record {
        few = few-leaves n fields leaf_fields ws right;
        words = words;
        run = λ l h. run_ok l (inside l h);
        fits = λ f d. omega (arith, lengths f d, field-tokens-fit n fields leaf_fields ws right f d);
      }

  pub norms-are : norm_bytes n fields leaf_fields ps runs ≡ token_norms n fields leaf_fields (tokens_of ws)
  unfolding norm_bytes token_norms
  norms-are =
      join-same (length fields / 3) _ _
      (λ f h.
      ap (λ (xs : List ℕ). cond (has_norms (fields_lent n fields) f) xs [])
      (list_to-same n (λ d. int_to_byte4 (length_in leaf_fields ps runs f d)) (norm_for leaf_fields (tokens_of ws) f) (λ d b. ap int_to_byte4 (lengths f d))))
