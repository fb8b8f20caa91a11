-- Request 2026-02 on small lists of tokens: one table, one theorem over it, computed. Assumes nothing.
use mathlib.Core.Path.{◌≡◌, refl, ap}
use mathlib.Core.List.{List, [], ◌∷◌, ◌++◌, map}
use Prim.Native.Nat.{ℕ}
use lib.Ieee.{size}
use lib.ListN.{get_or}
use Rattle.meaning.specs.Below.{any_below, count_below, list_below, list_to}
use Rattle.meaning.specs.SmallFloat.{long_to_int4, max_int4, num_free_values, int_to_byte4}
use Rattle.meaning.specs.Packed.{run_of, join_to, positions_in, pack_run, pack_postings, pack_positions, postings_in, pack_firsts, pack_leaves, pack_runs}
use Rattle.meaning.specs.Tokens.{Token, tokens_of, not_after, positions_at, run_for, field_tokens, token_runs, token_norms, token_postings, token_positions, index_of_tokens, tokens_in, tokens_back, kept as kept_of}
use Rattle.meaning.specs.Refusals.{lowest}
use Rattle.meaning.specs.IndexRefusals.{wrong1, wrong_field, wrong2}
use Rattle.meaning.specs.TokenRefusals.{Outputs, wrong_token, wrong_leaf_field, wrong15, wrong16, write_refusal, write_answer, written_norms, written_postings, written_positions, written_runs}
use Rattle.token_index.proofs.TokensBack.{tokens-back}
use Rattle.token_index.proofs.Passes.{WrittenPasses, written-passes}

-- ---- N 3; field 0 norms and positions, field 1 norms only
abbrev fields : List ℕ
fields = 0x3f80_0000 ∷ 1 ∷ 1 ∷ 0x3f80_0000 ∷ 1 ∷ 0 ∷ []

abbrev leaf_fields : List ℕ
leaf_fields = 0 ∷ 1 ∷ 0 ∷ 0 ∷ []

-- leaf, document, position
abbrev tokens : List ℕ
tokens =
    0 ∷ 0 ∷ 0 ∷ 0 ∷ 0 ∷ 5 ∷ 0 ∷ 0 ∷ 5 ∷ 0 ∷ 2 ∷ 1 ∷ 1 ∷ 2 ∷ 7 ∷ 1 ∷ 2 ∷ 7 ∷ 3 ∷ 0 ∷ 6 ∷ []

-- one token more at the end
abbrev more : ℕ → ℕ → ℕ → List ℕ
more l d p = tokens ++ (l ∷ d ∷ p ∷ [])

-- outputs that are long enough, the postings of so many words
abbrev outputs : ℕ → Outputs
outputs postings = record { norms = 6; postings = postings; positions = 6; runs = 8 }

abbrev refusal_of : List ℕ → List ℕ → ℕ → List ℕ
refusal_of ls ws postings = write_refusal 3 fields ls ws (outputs postings) ∷ []

-- three words a token
abbrev words_of : List Token → List ℕ
words_of [] = []
words_of (t ∷ ts) = t.leaf ∷ t.document ∷ t.position ∷ words_of ts

abbrev seven : ℕ → List ℕ
seven n = list_to n (λ i. 7)

pub record Row : Type 0 where
  pub computed : List ℕ
  pub expected : List ℕ

abbrev ◌gives◌ : List ℕ → List ℕ → Row
x gives y = record { computed = x; expected = y }

infix 5 ◌gives◌
pub data Example : Type 0 where
  codes postings positions runs norms leaves back answer : Example
  repeat backwards falling absent_leaf absent_document large_position absent_field short exact : Example
  none none_runs kept refused : Example

unfoldable pub table : Example → Row
table codes =
    int_to_byte4 23 ∷ int_to_byte4 24 ∷ int_to_byte4 40 ∷ int_to_byte4 41 ∷ int_to_byte4 42 ∷ int_to_byte4 16777216 ∷ [] gives 23 ∷ 24 ∷ 40 ∷ 40 ∷ 41 ∷ 199 ∷ []
table postings = token_postings 3 fields leaf_fields (tokens_of tokens) gives 0 ∷ 3 ∷ 0 ∷ 2 ∷ 1 ∷ 3 ∷ 2 ∷ 2 ∷ 0 ∷ 0 ∷ 1 ∷ 4 ∷ []
table positions = token_positions 3 fields leaf_fields (tokens_of tokens) gives 0 ∷ 5 ∷ 5 ∷ 1 ∷ 6 ∷ []
table runs = pack_runs (token_runs 3 fields leaf_fields (tokens_of tokens)) gives 0 ∷ 2 ∷ 2 ∷ 1 ∷ 3 ∷ 0 ∷ 3 ∷ 1 ∷ []
table norms = token_norms 3 fields leaf_fields (tokens_of tokens) gives 4 ∷ 0 ∷ 1 ∷ 0 ∷ 0 ∷ 2 ∷ []
table leaves = (index_of_tokens 3 fields tokens leaf_fields (8 ∷ 9 ∷ []) [] [] []).leaves gives 0 ∷ 0 ∷ 2 ∷ 8 ∷ 1 ∷ 2 ∷ 1 ∷ 9 ∷ 0 ∷ 3 ∷ 0 ∷ 0 ∷ 0 ∷ 3 ∷ 1 ∷ 0 ∷ []
table back = words_of (tokens_back (index_of_tokens 3 fields tokens leaf_fields [] [] [] [])) gives 0 ∷ 0 ∷ 0 ∷ 0 ∷ 0 ∷ 5 ∷ 0 ∷ 0 ∷ 5 ∷ 0 ∷ 2 ∷ 1 ∷ 1 ∷ 2 ∷ 0 ∷ 1 ∷ 2 ∷ 0 ∷ 3 ∷ 0 ∷ 6 ∷ []
table answer = write_answer 3 fields leaf_fields tokens (outputs 12) gives 0 ∷ 4 ∷ 5 ∷ []
-- ---- one token more
table repeat = refusal_of leaf_fields (more 3 0 6) 12 gives 0 ∷ []
table backwards = refusal_of leaf_fields (more 2 0 6) 12 gives 15 ∷ []
table falling = refusal_of leaf_fields (more 3 0 5) 12 gives 15 ∷ []
table absent_leaf = refusal_of leaf_fields (more 4 0 6) 12 gives 15 ∷ []
table absent_document = refusal_of leaf_fields (more 3 3 6) 12 gives 15 ∷ []
table large_position = refusal_of leaf_fields (more 3 0 2147483648) 12 gives 15 ∷ []
table absent_field = refusal_of (0 ∷ 2 ∷ 0 ∷ 0 ∷ []) tokens 12 gives 15 ∷ []
-- ---- outputs
table short = refusal_of leaf_fields tokens 11 gives 16 ∷ []
table exact = refusal_of leaf_fields tokens 12 gives 0 ∷ []
table none = token_norms 3 fields [] (tokens_of []) gives 0 ∷ 0 ∷ 0 ∷ 0 ∷ 0 ∷ 0 ∷ []
table none_runs = write_answer 3 fields [] [] (outputs 0) gives 0 ∷ 0 ∷ 0 ∷ []
table kept = written_positions 0 3 fields leaf_fields tokens (seven 7) gives 0 ∷ 5 ∷ 5 ∷ 1 ∷ 6 ∷ 7 ∷ 7 ∷ []
table refused = written_positions 16 3 fields leaf_fields tokens (seven 7) gives 7 ∷ 7 ∷ 7 ∷ 7 ∷ 7 ∷ 7 ∷ 7 ∷ []

-- every row gives what it says
pub table-holds : (e : Example) → (table e).computed ≡ (table e).expected
unfolding table size any_below count_below list_below list_to long_to_int4 max_int4 num_free_values int_to_byte4 run_of join_to positions_in pack_run pack_postings pack_positions postings_in pack_firsts pack_leaves pack_runs tokens_of not_after positions_at run_for field_tokens token_runs token_norms token_postings token_positions index_of_tokens tokens_in tokens_back lowest wrong1 wrong_field wrong2 wrong_token wrong_leaf_field wrong15 wrong16 write_refusal write_answer written_norms written_postings written_positions written_runs
table-holds codes = refl
table-holds postings = refl
table-holds positions = refl
table-holds runs = refl
table-holds norms = refl
table-holds leaves = refl
table-holds back = refl
table-holds answer = refl
table-holds repeat = refl
table-holds backwards = refl
table-holds falling = refl
table-holds absent_leaf = refl
table-holds absent_document = refl
table-holds large_position = refl
table-holds absent_field = refl
table-holds short = refl
table-holds exact = refl
table-holds none = refl
table-holds none_runs = refl
table-holds kept = refl
table-holds refused = refl

-- the premise of the two theorems can be met
accepted : write_refusal 3 fields leaf_fields tokens (outputs 12) ≡ 0
unfolding table
accepted = ap (λ (l : List ℕ). get_or l 0 0) (table-holds exact)

example-back : tokens_back (index_of_tokens 3 fields tokens leaf_fields [] [] [] []) ≡ map (kept_of fields leaf_fields) (tokens_of tokens)
example-back = tokens-back 3 fields leaf_fields tokens (outputs 12) accepted [] [] [] []

example-passes : WrittenPasses 3 fields leaf_fields tokens
example-passes = written-passes 3 fields leaf_fields tokens (outputs 12) accepted
