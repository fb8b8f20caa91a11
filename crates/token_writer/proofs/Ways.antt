-- The writer's numbers 1, 2, 15 and 16, and its answer by them. Assumes nothing.
use Rattle.std.proofs.Common.{Result, Ok, Err, IsErrAnd}
use mathlib.Core.Path.{◌≡◌, refl, sym, ◌∙◌}
use mathlib.Core.Bool.{Bool, true, false, ◌||◌}
use mathlib.Core.List.{List, []}
use Prim.Native.Nat.{ℕ, ◌*◌, ◌/◌, ◌≤◌}
use native.Mathlib.Omega.{arith}
use lib.Dec.{ltb}
use lib.ListN.{length}
use Rattle.meaning.specs.Below.{count_below}
use Rattle.meaning.specs.Lent.{has_norms}
use Rattle.meaning.specs.Refusals.{lowest}
use Rattle.meaning.specs.IndexRefusals.{wrong1, wrong2, wrong_field}
use Rattle.meaning.specs.Tokens.{fields_lent, token_count}
use Rattle.meaning.specs.TokenRefusals.{Outputs, wrong15, wrong16, posting_number, position_number, write_refusal, write_answer}
use Rattle.meaning.proofs.Below.{count-le}
use Rattle.meaning.proofs.Lowest.{lowest-here, lowest-past, answered-refused}
use Rattle.index.specs.Slices.{lent, fields_only}
use Rattle.refusal.specs.declared.Refusal.{Refusal}
use Rattle.refusal.specs.Numbers.{number_of}
use Rattle.tokens.specs.declared.Numbers.{Numbers}
use Rattle.tokens.specs.Counts.{begins_posting, Counts}
use Rattle.token_writer.specs.Answers.{written_numbers, outputs}
use Rattle.token_writer.proofs.Counts.{postings-counted, positions-counted}

-- 1 and 2 are asked of N and the fields alone
pub one-is : (n : ℕ) (fields : List ℕ) → wrong1 (lent n [] [] [] [] [] [] [] []) ≡ wrong1 (fields_lent n fields)
unfolding wrong1
one-is n fields = refl

pub two_is : (n : ℕ) (fields : List ℕ) → wrong2 (fields_only fields) ≡ wrong2 (fields_lent n fields)
unfolding wrong2 wrong_field
two_is n fields = refl

module _ (n : ℕ) (fields leaf_fields ws : List ℕ) where
  -- ---- the numbers that were counted, where the tokens are right
  module _ (counted : Numbers) (counts : Counts fields leaf_fields ws counted) where
    pub few-postings : counted.postings ≤ token_count ws
    few-postings = omega (arith, counts.postings, count-le (token_count ws) (begins_posting ws))

    module _ (right-tokens : wrong15 n fields leaf_fields ws ≡ false) where
      pub postings-are : counted.postings ≡ posting_number n fields leaf_fields ws
      postings-are = counts.postings ∙ postings-counted n fields leaf_fields ws right-tokens

      pub positions-are : counted.positions ≡ position_number n fields leaf_fields ws
      positions-are = counts.positions ∙ positions-counted n fields leaf_fields ws right-tokens

      -- 16
      pub short-is : (norms postings positions runs bytes : ℕ) → bytes ≡ count_below (length fields / 3) (has_norms (fields_only fields)) * n
          → (ltb norms bytes || ltb postings (3 * counted.postings) || ltb positions counted.positions || ltb runs (2 * length leaf_fields)) ≡ wrong16 n fields leaf_fields ws (outputs norms postings positions runs)
      unfolding wrong16
      short-is norms postings positions runs bytes e = rw (e, postings-are, positions-are)

  module _ (norms postings positions runs : ℕ) where
    abbrev o : Outputs
    o = outputs norms postings positions runs

    abbrev Answer : Result Numbers Refusal → Type 0
    Answer r = written_numbers r ≡ write_answer n fields leaf_fields ws o

    refused : (r : Refusal) → (number_of r ≡ 0 → ⊥) → number_of r ≡ write_refusal n fields leaf_fields ws o → Answer (Err r)
    unfolding written_numbers write_answer
    refused r h is = rw (← is) (answered-refused _ _ (number_of r) h)

    -- ---- each way out
    pub refused-1 : wrong1 (fields_lent n fields) ≡ true → Answer (Err Refusal.MaxDoc)
    unfolding write_refusal
    refused-1 h = refused Refusal.MaxDoc (λ z. omega (arith, z)) (lowest-here 1 _ _ h)

    module _ (few : wrong1 (fields_lent n fields) ≡ false) where
      pub refused-2 : wrong2 (fields_lent n fields) ≡ true → Answer (Err Refusal.Fields)
      unfolding write_refusal
      refused-2 h = refused Refusal.Fields (λ z. omega (arith, z)) (lowest-past 1 _ _ 2 few (lowest-here 2 _ _ h))

      module _ (right-fields : wrong2 (fields_lent n fields) ≡ false) where
        refused-15 : (r : Refusal) → r ≡ Refusal.Tokens → wrong15 n fields leaf_fields ws ≡ true → Answer (Err r)
        unfolding write_refusal
        refused-15 r is h =
            rw is (refused Refusal.Tokens (λ z. omega (arith, z)) (lowest-past 1 _ _ 15 few (lowest-past 2 _ _ 15 right-fields (lowest-here 15 _ _ h))))

        -- the answer that `?` hands on
        pub handed-on : (r : Result Numbers Refusal) (e : Refusal) → IsErrAnd r (λ x. x ≡ e) → e ≡ Refusal.Tokens → wrong15 n fields leaf_fields ws ≡ true → Answer r
        handed-on (Ok x) e h is w = absurd h
        handed-on (Err x) e h is w = refused-15 x (h ∙ is) w

        module _ (right-tokens : wrong15 n fields leaf_fields ws ≡ false) where
          pub refused-16 : (b : Bool) → b ≡ wrong16 n fields leaf_fields ws o → b ≡ true → Answer (Err Refusal.Outputs)
          unfolding write_refusal
          refused-16 b is h =
              refused Refusal.Outputs (λ z. omega (arith, z))
              (lowest-past 1 _ _ 16 few (lowest-past 2 _ _ 16 right-fields (lowest-past 15 _ _ 16 right-tokens (lowest-here 16 _ _ (sym is ∙ h)))))

          pub accepted : (b : Bool) → b ≡ wrong16 n fields leaf_fields ws o → b ≡ false → (counted : Numbers) → Counts fields leaf_fields ws counted → Answer (Ok counted)
          unfolding written_numbers write_answer write_refusal lowest
          accepted b is h counted counts =
              rw (few, right-fields, right-tokens, sym is ∙ h, postings-are counted counts right-tokens, positions-are counted counts right-tokens)
