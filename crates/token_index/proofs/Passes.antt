-- The loader refuses no index that was written from tokens for its own words: numbers 1 to 5. Assumes nothing.
use mathlib.Core.Path.{◌≡◌, refl, sym, ap, ap₂, ◌∙◌}
use mathlib.Core.Logic.{◌⊎◌, ⊎_elim}
use mathlib.Core.Bool.{Bool, true, false, not, cond, ◌&&◌, ◌||◌, or-true}
use mathlib.Core.List.{List, []}
use Prim.Native.Nat.{ℕ, zero, suc, ◌+◌, ◌-◌, ◌*◌, ◌/◌, ◌%◌, ◌≤◌, ◌<◌}
use native.Mathlib.Nat.{le_refl}
use native.Mathlib.Omega.{arith}
use borrow.Author.Tests.{eq-eqb, ne_eqb, lt-leb, lt-ltb, le-ltb}
use lib.Dec.{eqb, leb, ltb}
use lib.ListN.{length, get_or, length-append}
use Rattle.meaning.specs.Below.{any_below, count_below, list_to}
use Rattle.meaning.specs.Limits.{no_more_docs, max_leaves, largest_idf, largest_frequency}
use Rattle.meaning.specs.Lent.{Index, field_count, has_norms, has_positions, leaf_count, leaf_field, leaf_first, leaf_number, leaf_idf, posting_count, leaf_document, leaf_frequency, leaf_positions_index, leaf_position}
use Rattle.meaning.specs.Packed.{Posting, run_of, join_to}
use Rattle.meaning.specs.Tokens.{Token, token_count, tokens_of, positional, fields_lent, positions_at, run_for, norm_for, token_runs, token_norms, index_of_tokens}
use Rattle.meaning.specs.IndexRefusals.{not_whole, wrong1, wrong_field, wrong2, wrong3, wrong_leaf, wrong4, wrong_position, wrong_positions, wrong_posting, wrong5}
use Rattle.meaning.specs.TokenRefusals.{Outputs, wrong15, write_refusal}
use Rattle.meaning.proofs.Below.{any_none, length-list_to, get_or-list_to}
use Rattle.packed.specs.Packs.{Packs}
use Rattle.packed.proofs.Back.{packed-words, packed-number, packed-idf, packed-whole, packed-room, packed-document, packed-frequency, packed-no-index, packed-within}
use Rattle.token_index.proofs.Order.{fine-number, fine-fields, fine-tokens, few-leaves, leaf-field, tokens-ok}
use Rattle.token_index.proofs.Frequencies.{posting-at, document-below, documents-rise, frequency-fits, position-fits, positions-rise}
use Rattle.token_index.proofs.Written.{runs-at, written-packs, written-leaves, in-runs, written-field, written-positional, written-run}

-- neither of two
neither : (a b : Bool) → a ≡ false → b ≡ false → (a || b) ≡ false
neither a b e g = rw (e, g)

none-of-5 : (a b c d e : Bool) → a ≡ false → b ≡ false → c ≡ false → d ≡ false → e ≡ false → (a || b || c || d || e) ≡ false
none-of-5 a b c d e p q r s t = rw (p, q, r, s, t)

-- no value below the one before, and each above it
not-falling : (f : ℕ → ℕ) (j : ℕ) → ((k : ℕ) → suc k ≡ j → f k ≤ f j) → (ltb 0 j && ltb (f j) (f (j - 1))) ≡ false
not-falling f zero h = ap (λ (b : Bool). b && ltb (f 0) (f (0 - 1))) (le-ltb 0 0 (le_refl 0))
not-falling f (suc j) h =
    let e : suc j - 1 ≡ j = omega arith in
    ap₂ (λ (a b : Bool). a && b) (lt-ltb 0 (suc j) (omega arith)) (ap (λ (k : ℕ). ltb (f (suc j)) (f k)) e ∙ le-ltb (f (suc j)) (f j) (h j refl))

rising : (f : ℕ → ℕ) (j : ℕ) → ((k : ℕ) → suc k ≡ j → f k < f j) → (ltb 0 j && leb (f j) (f (j - 1))) ≡ false
rising f zero h = ap (λ (b : Bool). b && leb (f 0) (f (0 - 1))) (le-ltb 0 0 (le_refl 0))
rising f (suc j) h =
    let e : suc j - 1 ≡ j = omega arith in
    ap₂ (λ (a b : Bool). a && b) (lt-ltb 0 (suc j) (omega arith)) (ap (λ (k : ℕ). leb (f (suc j)) (f k)) e ∙ lt-leb (f (suc j)) (f j) (h j refl))

whole : (words size : ℕ) → words % size ≡ 0 → not_whole words size ≡ false
whole words size e = ap not (eq-eqb (words % size) 0 e)

-- ---- norms: n for each field that has them
norms-rows : (c n : ℕ) (p : ℕ → Bool) (f : ℕ → ℕ → ℕ) → length (join_to c (λ i. cond (p i) (list_to n (f i)) [])) ≡ count_below c p * n
unfolding join_to count_below
norms-rows zero n p f = zero-times n
  where
    zero-times : (n : ℕ) → 0 ≡ 0 * n
    zero-times n = omega arith
norms-rows (suc c) n p f =
    length-append (join_to c (λ i. cond (p i) (list_to n (f i)) [])) (cond (p c) (list_to n (f c)) [])
    ∙ ap₂ (λ (a b : ℕ). a + b) (norms-rows c n p f) (row (p c))
    ∙ more (count_below c p) (p c)
  where
    row : (b : Bool) → length (cond b (list_to n (f c)) []) ≡ cond b n 0
    row true = length-list_to n (f c)
    row false = refl

    more : (k : ℕ) (b : Bool) → k * n + cond b n 0 ≡ (k + cond b 1 0) * n
    more k true = omega arith
    more k false = omega arith

pub norms-number : (n : ℕ) (fields leaf_fields : List ℕ) (ts : List Token)
    → length (token_norms n fields leaf_fields ts) ≡ count_below (field_count (fields_lent n fields)) (has_norms (fields_lent n fields)) * n
unfolding token_norms
norms-number n fields leaf_fields ts = norms-rows (field_count (fields_lent n fields)) n (has_norms (fields_lent n fields)) (norm_for leaf_fields ts)

-- what stands for a posting past the end of a run
abbrev nothing : Posting
nothing = record { document = 0; frequency = 0; positions = [] }

-- posting i of leaf l as the index has it
abbrev read_at : Index → ℕ → ℕ → Posting
read_at ix l i =
    record { document = leaf_document ix l i; frequency = leaf_frequency ix l i; positions = cond (has_positions ix (leaf_field ix l)) (list_to (leaf_frequency ix l i) (leaf_position ix l i)) [] }

-- ---- where 15 does not hold
module _ (n : ℕ) (fields leaf_fields ws : List ℕ) (fine : wrong15 n fields leaf_fields ws ≡ false) (idfs live columns values : List ℕ) where
  abbrev ix : Index
  ix = index_of_tokens n fields ws leaf_fields idfs live columns values

  abbrev rs : List (List Posting)
  rs = token_runs n fields leaf_fields (tokens_of ws)

  pub passes-3 : (length live ≡ 0) ⊎ (length live ≡ (n + 63) / 64) → wrong3 (index_of_tokens n fields ws leaf_fields idfs live columns values) ≡ false
  unfolding wrong3 index_of_tokens
  passes-3 words =
      neither (not (eqb (length (token_norms n fields leaf_fields (tokens_of ws))) (count_below (field_count ix) (has_norms ix) * n))) (not (eqb (length live) 0 || eqb (length live) ((n + 63) / 64)))
      (ap not (eq-eqb (length (token_norms n fields leaf_fields (tokens_of ws))) (count_below (field_count ix) (has_norms ix) * n) (norms-number n fields leaf_fields (tokens_of ws))))
      (⊎_elim
      (λ (e : length live ≡ 0). ap (λ (b : Bool). not (b || eqb (length live) ((n + 63) / 64))) (eq-eqb (length live) 0 e))
      (λ (e : length live ≡ (n + 63) / 64). ap (λ (b : Bool). not (eqb (length live) 0 || b)) (eq-eqb (length live) ((n + 63) / 64) e) ∙ ap not (or-true (eqb (length live) 0)))
      words)

  packs : Packs ix leaf_fields idfs rs
  packs = written-packs n fields leaf_fields ws idfs live columns values

  leaves : leaf_count ix ≡ length leaf_fields
  leaves = written-leaves n fields leaf_fields ws idfs live columns values

  same-fields : field_count ix ≡ field_count (fields_lent 0 fields)
  unfolding index_of_tokens
  same-fields = refl

  same-documents : ix.max_doc ≡ n
  unfolding index_of_tokens
  same-documents = refl

  -- ---- leaf l
  module _ (l : ℕ) (below : l < length leaf_fields) where
    abbrev own : l < length rs
    own = in-runs n fields leaf_fields ws idfs live columns values l below

    leaf-passes : get_or idfs l 0 ≤ largest_idf → wrong_leaf ix l ≡ false
    unfolding wrong_leaf
    leaf-passes small =
        neither (leb (field_count ix) (leaf_field ix l) || ltb (posting_count ix) (leaf_first ix l + leaf_number ix l)) (ltb largest_idf (leaf_idf ix l))
        (neither (leb (field_count ix) (leaf_field ix l)) (ltb (posting_count ix) (leaf_first ix l + leaf_number ix l))
        (lt-leb (field_count ix) (leaf_field ix l) (omega (arith, same-fields, written-field n fields leaf_fields ws idfs live columns values l below, leaf-field n fields leaf_fields ws fine l below)))
        (le-ltb (posting_count ix) (leaf_first ix l + leaf_number ix l) (packed-room ix leaf_fields idfs rs packs l own)))
        (le-ltb largest_idf (leaf_idf ix l) (omega (arith, packed-idf ix leaf_fields idfs rs packs l own, small)))

    abbrev has : Bool
    has = positional fields leaf_fields l

    abbrev run : List Posting
    run = run_for has n (tokens_of ws) l

    run_is : get_or rs l [] ≡ run
    run_is = runs-at n fields leaf_fields (tokens_of ws) l below

    -- ---- its posting i
    module _ (i : ℕ) (in_leaf : i < leaf_number ix l) where
      abbrev x : Posting
      x = get_or run i nothing

      in-run : i < length run
      in-run = omega (arith, packed-number ix leaf_fields idfs rs packs l own, ap length run_is, in_leaf)

      document-is : leaf_document ix l i ≡ x.document
      document-is = packed-document ix leaf_fields idfs rs packs l own nothing i in_leaf ∙ ap (λ (r : List Posting). (get_or r i nothing).document) run_is

      frequency-is : leaf_frequency ix l i ≡ x.frequency
      frequency-is = packed-frequency ix leaf_fields idfs rs packs l own nothing i in_leaf ∙ ap (λ (r : List Posting). (get_or r i nothing).frequency) run_is

      -- the positions that are read are those of the leaf's tokens in the document
      abbrev places : List ℕ
      places = positions_at (tokens_of ws) l x.document

      positions-are : has_positions ix (leaf_field ix l) ≡ true → list_to (leaf_frequency ix l i) (leaf_position ix l i) ≡ places
      unfolding run_of
      positions-are e =
          let chosen : has ≡ true = sym (written-positional n fields leaf_fields ws idfs live columns values l below) ∙ e in
          sym (ap (λ (b : Bool). cond b (list_to (leaf_frequency ix l i) (leaf_position ix l i)) []) e)
          ∙ sym (ap (λ (y : Posting). y.positions) (get_or-list_to (leaf_number ix l) (read_at ix l) nothing i in_leaf))
          ∙ ap (λ (r : List Posting). (get_or r i nothing).positions) (written-run n fields leaf_fields ws idfs live columns values l below)
          ∙ ap (λ (y : Posting). y.positions) (posting-at has n (tokens_of ws) l nothing i in-run)
          ∙ ap (λ (b : Bool). cond b places []) chosen

      position-is : has_positions ix (leaf_field ix l) ≡ true → (j : ℕ) → j < leaf_frequency ix l i → leaf_position ix l i j ≡ get_or places j 0
      position-is e j h =
          sym (get_or-list_to (leaf_frequency ix l i) (leaf_position ix l i) 0 j h) ∙ ap (λ (xs : List ℕ). get_or xs j 0) (positions-are e)

      places-number : has_positions ix (leaf_field ix l) ≡ true → length places ≡ leaf_frequency ix l i
      places-number e = sym (ap length (positions-are e)) ∙ length-list_to (leaf_frequency ix l i) (leaf_position ix l i)

      place-fits : (j : ℕ) → j < length places → get_or places j 0 ≤ no_more_docs
      unfolding tokens_of
      place-fits j g = position-fits n (length leaf_fields) ws (tokens-ok n fields leaf_fields ws fine) l x.document (token_count ws) j (le_refl _) g

      places-rise : (j : ℕ) → suc j < length places → get_or places j 0 ≤ get_or places (suc j) 0
      unfolding tokens_of
      places-rise j g = positions-rise n (length leaf_fields) ws (tokens-ok n fields leaf_fields ws fine) l x.document (token_count ws) j (le_refl _) g

      position-passes : has_positions ix (leaf_field ix l) ≡ true → (j : ℕ) → j < leaf_frequency ix l i → wrong_position ix l i j ≡ false
      unfolding wrong_position
      position-passes e j h =
          neither (ltb no_more_docs (leaf_position ix l i j)) (ltb 0 j && ltb (leaf_position ix l i j) (leaf_position ix l i (j - 1)))
          (le-ltb no_more_docs (leaf_position ix l i j) (omega (arith, position-is e j h, place-fits j (omega (arith, places-number e, h)))))
          (not-falling (leaf_position ix l i) j
          (λ k g.
          omega (
            arith,
            position-is e j h,
            position-is e k (omega (arith, g, h)),
            ap (λ (m : ℕ). get_or places m 0) g,
            places-rise k (omega (arith, places-number e, g, h)),
          )))

      positions-pass : wrong_positions ix l i ≡ false
      unfolding wrong_positions
      positions-pass = go (has_positions ix (leaf_field ix l)) refl
        where
          past : Bool
          past = ltb (length ix.positions) (leaf_positions_index ix l i + leaf_frequency ix l i)

          go : (b : Bool)
              → has_positions ix (leaf_field ix l) ≡ b
              → cond b (past || any_below (leaf_frequency ix l i) (wrong_position ix l i)) (not (eqb (leaf_positions_index ix l i) 0)) ≡ false
          go true e =
              neither past (any_below (leaf_frequency ix l i) (wrong_position ix l i))
              (le-ltb (length ix.positions) (leaf_positions_index ix l i + leaf_frequency ix l i) (packed-within ix leaf_fields idfs rs packs l own i in_leaf e))
              (any_none (leaf_frequency ix l i) (wrong_position ix l i) (position-passes e))
          go false e = ap not (eq-eqb (leaf_positions_index ix l i) 0 (packed-no-index ix leaf_fields idfs rs packs l own i in_leaf e))

    document-passes : (i : ℕ) → i < leaf_number ix l → (ltb 0 i && leb (leaf_document ix l i) (leaf_document ix l (i - 1))) ≡ false
    document-passes i h =
        rising (leaf_document ix l) i
        (λ k g.
        let b : k < leaf_number ix l = omega (arith, g, h) in
        omega (arith, document-is k b, document-is i h, documents-rise has n (tokens_of ws) l nothing k i (omega (arith, g)) (in-run i h)))

    posting-passes : (i : ℕ) → i < leaf_number ix l → wrong_posting ix l i ≡ false
    unfolding wrong_posting
    posting-passes i h =
        let fit = frequency-fits n fields leaf_fields ws fine has l nothing i (in-run i h) in
        none-of-5 (leb ix.max_doc (leaf_document ix l i)) (ltb 0 i && leb (leaf_document ix l i) (leaf_document ix l (i - 1)))
        (eqb (leaf_frequency ix l i) 0) (ltb largest_frequency (leaf_frequency ix l i)) (wrong_positions ix l i)
        (lt-leb ix.max_doc (leaf_document ix l i) (omega (arith, same-documents, document-is i h, document-below has n (tokens_of ws) l nothing i (in-run i h))))
        (document-passes i h)
        (ne_eqb (leaf_frequency ix l i) 0 (λ e. absurd (omega (arith, e, frequency-is i h, fit.0))))
        (le-ltb largest_frequency (leaf_frequency ix l i) (omega (arith, frequency-is i h, fit.1)))
        (positions-pass i h)

  pub passes-4 : ((l : ℕ) → l < length leaf_fields → get_or idfs l 0 ≤ largest_idf) → wrong4 (index_of_tokens n fields ws leaf_fields idfs live columns values) ≡ false
  unfolding wrong4
  passes-4 small =
      neither (not_whole (length ix.leaves) 4 || ltb max_leaves (leaf_count ix)) (any_below (leaf_count ix) (wrong_leaf ix))
      (neither (not_whole (length ix.leaves) 4) (ltb max_leaves (leaf_count ix))
      (whole (length ix.leaves) 4 (omega (arith, packed-words ix leaf_fields idfs rs packs)))
      (le-ltb max_leaves (leaf_count ix) (omega (arith, leaves, few-leaves n fields leaf_fields ws fine))))
      (any_none (leaf_count ix) (wrong_leaf ix) (λ l h. let b : l < length leaf_fields = omega (arith, h, leaves) in leaf-passes l b (small l b)))

  pub passes-5 : wrong5 (index_of_tokens n fields ws leaf_fields idfs live columns values) ≡ false
  unfolding wrong5
  passes-5 =
      neither (not_whole (length ix.postings) 3) (any_below (leaf_count ix) (λ l. any_below (leaf_number ix l) (wrong_posting ix l)))
      (whole (length ix.postings) 3 (omega (arith, packed-whole ix leaf_fields idfs rs packs)))
      (any_none (leaf_count ix) (λ l. any_below (leaf_number ix l) (wrong_posting ix l))
      (λ l h. any_none (leaf_number ix l) (wrong_posting ix l) (posting-passes l (omega (arith, h, leaves)))))

-- ---- where the writer does not refuse
-- each number of the loader, by what is asked of what is lent beside; 6 is about columns and values alone
pub record WrittenPasses (n : ℕ) (fields leaf_fields ws : List ℕ) : Type 0 where
  pub one : (idfs live columns values : List ℕ) → wrong1 (index_of_tokens n fields ws leaf_fields idfs live columns values) ≡ false
  pub two : (idfs live columns values : List ℕ) → wrong2 (index_of_tokens n fields ws leaf_fields idfs live columns values) ≡ false
  pub three : (idfs live columns values : List ℕ)
      → (length live ≡ 0) ⊎ (length live ≡ (n + 63) / 64)
      → wrong3 (index_of_tokens n fields ws leaf_fields idfs live columns values) ≡ false
  pub four : (idfs live columns values : List ℕ)
      → ((l : ℕ) → l < length leaf_fields → get_or idfs l 0 ≤ largest_idf)
      → wrong4 (index_of_tokens n fields ws leaf_fields idfs live columns values) ≡ false
  pub five : (idfs live columns values : List ℕ) → wrong5 (index_of_tokens n fields ws leaf_fields idfs live columns values) ≡ false

pub written-passes : (n : ℕ) (fields leaf_fields ws : List ℕ) (o : Outputs) → write_refusal n fields leaf_fields ws o ≡ 0 → WrittenPasses n fields leaf_fields ws
unfolding wrong1 wrong2 wrong_field index_of_tokens
written-passes n fields leaf_fields ws o accepted =
    let fine = fine-tokens n fields leaf_fields ws o accepted in
    record {
      one = λ idfs live columns values. fine-number n fields leaf_fields ws o accepted;
      two = λ idfs live columns values. fine-fields n fields leaf_fields ws o accepted;
      three = passes-3 n fields leaf_fields ws fine;
      four = passes-4 n fields leaf_fields ws fine;
      five = passes-5 n fields leaf_fields ws fine;
    }
