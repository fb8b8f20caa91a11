-- The writer's entry: what it knows by its answer, and what its outputs hold. Assumes nothing.
use Rattle.std.proofs.Common.{Result, Ok, Err, IsErrAnd}
use mathlib.Core.Path.{◌≡◌, refl, sym, ap, ◌∙◌}
use mathlib.Core.Bool.{false}
use mathlib.Core.List.{List, [], ◌∷◌}
use Prim.Native.Nat.{ℕ, zero, suc, ◌*◌, ◌≤◌}
use native.Mathlib.Omega.{arith}
use lib.Dec.{ltb, lit<}
use lib.ListN.{length, get_or, take, drop, length-append}
use lib.Seq.{take_at}
use borrow.Author.Tests.{ltb-false}
use Rattle.meaning.specs.Below.{count_below, list_to}
use Rattle.meaning.specs.Limits.{max_documents, max_fields}
use Rattle.meaning.specs.Lent.{field_count, has_norms}
use Rattle.meaning.specs.IndexRefusals.{wrong1, wrong2}
use Rattle.meaning.specs.Packed.{pack_runs}
use Rattle.meaning.specs.Tokens.{fields_lent, tokens_of, positional, token_runs, token_norms, token_postings}
use Rattle.meaning.specs.TokenRefusals.{Outputs, wrong15, wrong16, posting_number, position_number, write_refusal, write_answer, written_norms, written_postings, written_positions, written_runs}
use Rattle.meaning.specs.Entries.{answered, written}
use Rattle.meaning.proofs.Tests.{or-4}
use Rattle.meaning.proofs.Below.{length-list_to}
use Rattle.meaning.proofs.Lowest.{lowest-zero, answered-refused, answered-accepted}
use Rattle.index.specs.Slices.{fields_only}
use Rattle.index.proofs.Known.{fields-few}
use Rattle.packed.proofs.Longer.{postings-length}
use Rattle.token_index.proofs.Written.{runs_number}
use Rattle.token_norms.specs.Lengths.{norm_bytes, RunsOk}
use Rattle.refusal.specs.declared.Refusal.{Refusal}
use Rattle.refusal.specs.Numbers.{number_of}
use Rattle.tokens.specs.declared.Numbers.{Numbers}
use Rattle.token_writer.specs.Answers.{written_numbers, outputs, WritesIndex}
use Rattle.token_writer.specs.Writing.{RunsPre, RunsPost}
use Rattle.token_writer.proofs.Norms.{runs-ok, norms-are}

-- ---- an answer by its shape
-- one number is a refusal, three are an answer
one_number : (k r a b : ℕ) → k ∷ [] ≡ answered r (0 ∷ a ∷ b ∷ []) (λ n. n ∷ []) → (k ≡ r) × (r ≡ 0 → ⊥)
one_number k zero a b e = absurd (omega (arith, ap length e))
one_number k (suc r) a b e = (ap (λ (xs : List ℕ). get_or xs 0 0) e, λ z. omega (arith, z))

three-numbers : (p q r a b : ℕ) → 0 ∷ p ∷ q ∷ [] ≡ answered r (0 ∷ a ∷ b ∷ []) (λ n. n ∷ []) → (r ≡ 0) × (p ≡ a)
three-numbers p q zero a b e = (refl, ap (λ (xs : List ℕ). get_or xs 1 0) e)
three-numbers p q (suc r) a b e = absurd (omega (arith, ap length e))

module _ (n : ℕ) (fields leaf_fields ws norms postings positions runs : List ℕ) where
  abbrev o : Outputs
  o = outputs (length norms) (length postings) (length positions) (length runs)

  abbrev refusal : ℕ
  refusal = write_refusal n fields leaf_fields ws o

  -- a refused call leaves the outputs
  entry-refused : (k : Refusal) → written_numbers (Err k) ≡ write_answer n fields leaf_fields ws o → WritesIndex n fields leaf_fields ws norms postings positions runs norms postings positions runs (Err k)
  unfolding written_numbers write_answer written_norms written_postings written_positions written_runs
  entry-refused k e =
      let h = (one_number (number_of k) refusal _ _ e).1 in
      record { answer = e; norm_bytes = answered-refused _ _ refusal h; posting_words = answered-refused _ _ refusal h; position_words = answered-refused _ _ refusal h; run_words = answered-refused _ _ refusal h }

  -- the answer that `?` hands on
  pub entry-handed-on : (r : Result Numbers Refusal) (k : Refusal) → IsErrAnd r (λ x. x ≡ k) → written_numbers (Err k) ≡ write_answer n fields leaf_fields ws o → WritesIndex n fields leaf_fields ws norms postings positions runs norms postings positions runs r
  entry-handed-on (Ok x) k h e = absurd h
  entry-handed-on (Err x) k h e = entry-refused x (ap (λ (y : Refusal). written_numbers (Err y)) h ∙ e)

  -- what a call that is not refused knows
  pub record Accepted (numbers : Numbers) : Type 0 where
    pub answer : written_numbers (Ok numbers) ≡ write_answer n fields leaf_fields ws o
    pub accepted : refusal ≡ 0
    pub number : numbers.postings ≡ posting_number n fields leaf_fields ws
    pub few_documents : n ≤ max_documents
    pub few_fields : field_count (fields_only fields) ≤ max_fields
    pub norms_fit : count_below (field_count (fields_only fields)) (has_norms (fields_only fields)) * n ≤ length norms
    pub runs_pre : RunsPre n fields leaf_fields ws (length postings) (length positions) (length runs)

  module _ (numbers : Numbers) (e : written_numbers (Ok numbers) ≡ write_answer n fields leaf_fields ws o) where
    not-refused : (refusal ≡ 0) × (numbers.postings ≡ posting_number n fields leaf_fields ws)
    unfolding written_numbers write_answer
    not-refused = three-numbers _ _ refusal _ _ e

    -- none of the conditions holds
    none-holds : (wrong1 (fields_lent n fields) ≡ false) × (wrong2 (fields_lent n fields) ≡ false) × (wrong15 n fields leaf_fields ws ≡ false) × (wrong16 n fields leaf_fields ws o ≡ false)
    unfolding write_refusal
    none-holds =
        let a = lowest-zero 1 _ _ (lit< tt) not-refused.0 in
        let b = lowest-zero 2 _ _ (lit< tt) a.1 in
        let f = lowest-zero 15 _ _ (lit< tt) b.1 in
        let g = lowest-zero 16 _ _ (lit< tt) f.1 in
        (a.0, b.0, f.0, g.0)

    documents : n ≤ max_documents
    unfolding wrong1
    documents = ltb-false max_documents n none-holds.0

    abbrev bytes : ℕ
    bytes = count_below (field_count (fields_only fields)) (has_norms (fields_only fields)) * n

    room : (bytes ≤ length norms) × (3 * posting_number n fields leaf_fields ws ≤ length postings) × (position_number n fields leaf_fields ws ≤ length positions) × (2 * length leaf_fields ≤ length runs)
    unfolding wrong16
    room =
        let h = or-4 (ltb (length norms) bytes) (ltb (length postings) (3 * posting_number n fields leaf_fields ws))
        (ltb (length positions) (position_number n fields leaf_fields ws)) (ltb (length runs) (2 * length leaf_fields)) none-holds.3 in
        (ltb-false _ _ h.0, ltb-false _ _ h.1, ltb-false _ _ h.2, ltb-false _ _ h.3)

    pub accepted-call : Accepted numbers
    accepted-call =
        record {
          answer = e;
          accepted = not-refused.0;
          number = not-refused.1;
          few_documents = documents;
          few_fields = fields-few (fields_lent n fields) none-holds.1;
          norms_fit = room.0;
          runs_pre = record { few_documents = documents; right = none-holds.2; postings_fit = room.1; positions_fit = room.2; runs_fit = room.3 };
        }

  module _ (numbers : Numbers) (k : Accepted numbers) where
    pub postings-room : 3 * numbers.postings ≤ length postings
    postings-room = omega (arith, k.number, k.runs_pre.postings_fit)

    -- ---- postings and runs are written
    module _ (postings' positions' runs' : List ℕ) (post : RunsPost n fields leaf_fields ws postings positions runs postings' positions' runs') where
      abbrev ps : List ℕ
      ps = token_postings n fields leaf_fields (tokens_of ws)

      abbrev rs : List ℕ
      rs = pack_runs (token_runs n fields leaf_fields (tokens_of ws))

      postings-long : length ps ≡ 3 * numbers.postings
      unfolding token_postings
      postings-long =
          postings-length (list_to (length leaf_fields) (positional fields leaf_fields)) 0 (token_runs n fields leaf_fields (tokens_of ws))
          (length-list_to (length leaf_fields) (positional fields leaf_fields) ∙ sym (runs_number n fields leaf_fields (tokens_of ws)))
          ∙ ap (λ (j : ℕ). 3 * j) (sym k.number)

      runs-long : length rs ≡ 2 * length leaf_fields
      runs-long = (runs-ok n fields leaf_fields ws k.runs_pre.right).words

      pub postings-inside : 3 * numbers.postings ≤ length postings'
      postings-inside = omega (arith, ap length post.postings_are, postings-long, length-append ps (drop (length ps) postings))

      pub runs-inside : 2 * length leaf_fields ≤ length runs'
      runs-inside = omega (arith, ap length post.runs_are, runs-long, length-append rs (drop (length rs) runs))

      -- their written parts
      postings-part : take (3 * numbers.postings) postings' ≡ ps
      postings-part = ap (take (3 * numbers.postings)) post.postings_are ∙ take_at _ _ (3 * numbers.postings) postings-long

      runs-part : take (2 * length leaf_fields) runs' ≡ rs
      runs-part = ap (take (2 * length leaf_fields)) post.runs_are ∙ take_at _ _ (2 * length leaf_fields) runs-long

      pub parts-ok : RunsOk leaf_fields (take (3 * numbers.postings) postings') (take (2 * length leaf_fields) runs')
      parts-ok = rw (postings-part, runs-part) (runs-ok n fields leaf_fields ws k.runs_pre.right)

      coded : norm_bytes n fields leaf_fields (take (3 * numbers.postings) postings') (take (2 * length leaf_fields) runs') ≡ token_norms n fields leaf_fields (tokens_of ws)
      coded = rw (postings-part, runs-part) (norms-are n fields leaf_fields ws k.runs_pre.right)

      pub entry_done : (norms' : List ℕ)
          → norms' ≡ written (norm_bytes n fields leaf_fields (take (3 * numbers.postings) postings') (take (2 * length leaf_fields) runs')) norms
          → WritesIndex n fields leaf_fields ws norms postings positions runs norms' postings' positions' runs' (Ok numbers)
      unfolding written_norms written_postings written_positions written_runs
      entry_done norms' w =
          let z = k.accepted in
          record {
            answer = k.answer;
            norm_bytes = w ∙ ap (λ (xs : List ℕ). written xs norms) coded ∙ answered-accepted _ _ refusal z;
            posting_words = post.postings_are ∙ answered-accepted _ _ refusal z;
            position_words = post.positions_are ∙ answered-accepted _ _ refusal z;
            run_words = post.runs_are ∙ answered-accepted _ _ refusal z;
          }
