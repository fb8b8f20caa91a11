-- The length of a field in a document, as the leaves' runs say it; what the contracts of this crate lean on.
-- Assumes nothing: these are definitions.
use Rattle.std.specs.Prelude.{◌≡◌, cond, List, [], ℕ, ◌+◌, ◌*◌, ◌≤◌, ◌<◌, eqb, ltb, length, get_or}
use Rattle.meaning.specs.Below.{count_below, sum_below, list_to}
use Rattle.meaning.specs.Limits.{max_leaves, max_tokens}
use Rattle.meaning.specs.Lent.{field_count, has_norms}
use Rattle.meaning.specs.SmallFloat.{int_to_byte4}
use Rattle.meaning.specs.Packed.{join_to}
use Rattle.index.specs.Runs.{posting_document, posting_frequency, run_length}
use Rattle.index.specs.Slices.{fields_only}
use Rattle.token_norms.specs.declared.TheConstants.{RUN_WORDS}

-- a leaf's run: first posting, number of postings
abbrev pub run_first : List ℕ → ℕ → ℕ
run_first runs l = get_or runs (RUN_WORDS * l) 0

abbrev pub run_number : List ℕ → ℕ → ℕ
run_number runs l = get_or runs (RUN_WORDS * l + 1) 0

-- the frequency of document d in a run of postings
unfoldable pub frequency_in_run : List ℕ → ℕ → ℕ → ℕ → ℕ
frequency_in_run postings first number d =
    sum_below number
    (λ i. cond (eqb (posting_document postings first i) d) (posting_frequency postings first i) 0)

-- the same of leaf l, where its field is f
unfoldable pub in_leaf : List ℕ → List ℕ → List ℕ → ℕ → ℕ → ℕ → ℕ
in_leaf leaf_fields postings runs f d l =
    cond (eqb (get_or leaf_fields l 0) f) (frequency_in_run postings (run_first runs l) (run_number runs l) d) 0

-- the frequencies of all leaves of field f in document d together
unfoldable pub length_in : List ℕ → List ℕ → List ℕ → ℕ → ℕ → ℕ
length_in leaf_fields postings runs f d = sum_below (length leaf_fields) (in_leaf leaf_fields postings runs f d)

-- how many postings of a run lie before document d
unfoldable pub before : List ℕ → ℕ → ℕ → ℕ → ℕ
before postings first number d = count_below number (λ i. ltb (posting_document postings first i) d)

-- the norm bytes of n documents for each field with norms, in field order
unfoldable pub norm_bytes : ℕ → List ℕ → List ℕ → List ℕ → List ℕ → List ℕ
norm_bytes n fields leaf_fields postings runs =
    join_to (field_count (fields_only fields))
    (λ f. cond (has_norms (fields_only fields) f)
    (list_to n (λ d. int_to_byte4 (length_in leaf_fields postings runs f d))) [])

-- a run within the postings, its documents rising
pub record RunOk (postings : List ℕ) (first number : ℕ) : Type 0 where
  pub room : first + number ≤ run_length postings
  pub rising : (i j : ℕ) → i < j → j < number → posting_document postings first i < posting_document postings first j

-- the leaves' runs, and no length above the number of tokens that there may be
pub record RunsOk (leaf_fields postings runs : List ℕ) : Type 0 where
  pub few : length leaf_fields ≤ max_leaves
  pub words : length runs ≡ RUN_WORDS * length leaf_fields
  pub run : (l : ℕ) → l < length leaf_fields → RunOk postings (run_first runs l) (run_number runs l)
  pub fits : (f d : ℕ) → length_in leaf_fields postings runs f d ≤ max_tokens

-- the cursors of the leaves of field f stand behind the postings before document d; 512 of them, the others 0
unfoldable pub cursors_at : List ℕ → List ℕ → List ℕ → ℕ → ℕ → ℕ → ℕ
cursors_at leaf_fields postings runs f d l =
    cond (ltb l (length leaf_fields))
    (cond (eqb (get_or leaf_fields l 0) f) (before postings (run_first runs l) (run_number runs l) d) 0) 0
