-- The runs of all leaves written one after the other: what is written after some of them, at the start, after one more, at the end. Assumes nothing.
use mathlib.Core.Path.{◌≡◌, refl, sym, ap, ap₂, ◌∙◌, subst}
use mathlib.Core.Logic.{⊎_elim}
use mathlib.Core.Bool.{Bool, false}
use mathlib.Core.List.{List, [], ◌∷◌, ◌++◌, append-nil}
use Prim.Native.Nat.{ℕ, zero, suc, ◌+◌, ◌-◌, ◌*◌, ◌≤◌, ◌<◌}
use native.Mathlib.Nat.{zero-add}
use native.Mathlib.Numerals.{add-one}
use native.Mathlib.Omega.{arith}
use lib.ListN.{length, get_or, take, length-append}
use lib.Seq.{sets, length-sets, take_all, take-append-le}
use borrow.Author.Tests.{lt-leb}
use Rattle.meaning.specs.Below.{list_to}
use Rattle.meaning.specs.Lent.{field_count}
use Rattle.meaning.specs.Packed.{Posting, join_to, positions_in, pack_run, pack_postings, pack_positions, postings_in, pack_firsts, pack_runs}
use Rattle.meaning.specs.Tokens.{tokens_of, fields_lent, positional, run_for, token_runs, token_postings, token_positions}
use Rattle.meaning.specs.TokenRefusals.{wrong15, wrong_leaf_field}
use Rattle.meaning.proofs.Below.{list_to-next, length-list_to, get_or-list_to}
use Rattle.meaning.proofs.Tests.{cmp}
use Rattle.packed.proofs.Joined.{join-next, join-same, rows-length}
use Rattle.packed.proofs.Longer.{postings-append, pack-positions-append, postings-in-append, postings-length, firsts_at}
use Rattle.token_index.proofs.Order.{tokens-ok, leaf-field}
use Rattle.token_writer.specs.declared.postings.Cursor.{Cursor}
use Rattle.token_writer.specs.Writing.{Begins, WriteRunPre, WriteRunPost, RunsPre, RunsPost}
use Rattle.meaning.proofs.Stores.{sets_behind, sets-front}

take-list_to {ℓ} : {A : Type ℓ} (f : ℕ → A) (l n : ℕ) → l ≤ n → take l (list_to n f) ≡ list_to l f
unfolding list_to
take-list_to f l zero h = let e : l ≡ 0 = omega (arith, h) in rw e
take-list_to f l (suc n) h =
    ⊎_elim
    (λ (g : n < l). let e : l ≡ suc n = omega (arith, g, h) in take_all l (list_to (suc n) f) (omega (arith, e, length-list_to (suc n) f)) ∙ ap (λ (k : ℕ). list_to k f) (sym e))
    (λ (g : l ≤ n). take-append-le l (list_to n f) (f n ∷ []) (omega (arith, g, length-list_to n f)) ∙ take-list_to f l n g)
    (cmp n l)

-- where 15 does not hold, a leaf's field is there
pub field-there : (n : ℕ) (fields leaf_fields ws : List ℕ) → wrong15 n fields leaf_fields ws ≡ false → (l : ℕ) → l < length leaf_fields → wrong_leaf_field fields leaf_fields l ≡ false
unfolding wrong_leaf_field
field-there n fields leaf_fields ws e l h = lt-leb (field_count (fields_lent 0 fields)) (get_or leaf_fields l 0) (leaf-field n fields leaf_fields ws e l h)

module _ (n : ℕ) (fields leaf_fields ws : List ℕ) where
  -- leaf l's run
  abbrev pub run_at : ℕ → List Posting
  run_at l = run_for (positional fields leaf_fields l) n (tokens_of ws) l

  -- the runs before leaf l, and the two words of its run
  abbrev pub runs_to : ℕ → List (List Posting)
  runs_to l = list_to l run_at

  abbrev pub positional_to : ℕ → List Bool
  positional_to l = list_to l (positional fields leaf_fields)

  abbrev pub words : ℕ → List ℕ
  words l = postings_in (runs_to l) ∷ length (run_at l) ∷ []

  -- postings, positions and runs with those of the leaves before `leaf` written to them
  pub record Filled (postings₀ positions₀ runs₀ postings positions runs : List ℕ) (token posting position leaf : ℕ) : Type 0 where
    pub within : leaf ≤ length leaf_fields
    pub begins : Begins ws leaf token
    pub few_postings : posting ≤ token
    pub few_positions : position ≤ token
    pub posting_is : posting ≡ postings_in (runs_to leaf)
    pub position_is : position ≡ length (pack_positions (runs_to leaf))
    pub written : postings ≡ sets postings₀ 0 (pack_postings (positional_to leaf) 0 (runs_to leaf))
    pub placed : positions ≡ sets positions₀ 0 (pack_positions (runs_to leaf))
    pub listed : runs ≡ sets runs₀ 0 (join_to leaf words)

  -- one run more
  postings-more : (l : ℕ) → postings_in (runs_to (l + 1)) ≡ postings_in (runs_to l) + length (run_at l)
  unfolding postings_in
  postings-more l =
      ap postings_in (list_to-next run_at l) ∙ postings-in-append (runs_to l) (run_at l ∷ []) ∙ omega arith

  positions-more : (l : ℕ) → pack_positions (runs_to (l + 1)) ≡ pack_positions (runs_to l) ++ positions_in (run_at l)
  unfolding pack_positions
  positions-more l =
      ap pack_positions (list_to-next run_at l)
      ∙ pack-positions-append (runs_to l) (run_at l ∷ [])
      ∙ ap (λ (xs : List ℕ). pack_positions (runs_to l) ++ xs) (append-nil (positions_in (run_at l)))

  number_more : (l : ℕ) → length (pack_positions (runs_to (l + 1))) ≡ length (pack_positions (runs_to l)) + length (positions_in (run_at l))
  number_more l = ap length (positions-more l) ∙ length-append (pack_positions (runs_to l)) (positions_in (run_at l))

  as_many : (l : ℕ) → length (positional_to l) ≡ length (runs_to l)
  as_many l = length-list_to l (positional fields leaf_fields) ∙ sym (length-list_to l run_at)

  words_more : (l : ℕ) → pack_postings (positional_to (l + 1)) 0 (runs_to (l + 1)) ≡ pack_postings (positional_to l) 0 (runs_to l) ++ pack_run (positional fields leaf_fields l) (length (pack_positions (runs_to l))) (run_at l)
  unfolding pack_postings
  words_more l =
      ap₂ (λ (ps : List Bool) (rs : List (List Posting)). pack_postings ps 0 rs) (list_to-next (positional fields leaf_fields) l) (list_to-next run_at l)
      ∙ postings-append (positional_to l) (positional fields leaf_fields l ∷ []) 0 (runs_to l) (run_at l ∷ []) (as_many l)
      ∙ ap (λ (xs : List ℕ). pack_postings (positional_to l) 0 (runs_to l) ++ xs) (append-nil (pack_run (positional fields leaf_fields l) (0 + length (pack_positions (runs_to l))) (run_at l)) ∙ ap (λ (k : ℕ). pack_run (positional fields leaf_fields l) k (run_at l)) (zero-add (length (pack_positions (runs_to l)))))

  -- more runs have no fewer postings and positions
  postings-grow : (k l : ℕ) → k ≤ l → postings_in (runs_to k) ≤ postings_in (runs_to l)
  postings-grow k zero h = let e : k ≡ 0 = omega (arith, h) in omega (arith, ap (λ (i : ℕ). postings_in (runs_to i)) e)
  postings-grow k (suc l) h =
      ⊎_elim
      (λ (g : l < k). let e : k ≡ suc l = omega (arith, g, h) in omega (arith, ap (λ (i : ℕ). postings_in (runs_to i)) e))
      (λ (g : k ≤ l). omega (arith, postings-grow k l g, postings-more l, ap (λ (i : ℕ). postings_in (runs_to i)) (add-one l)))
      (cmp l k)

  positions-grow : (k l : ℕ) → k ≤ l → length (pack_positions (runs_to k)) ≤ length (pack_positions (runs_to l))
  positions-grow k zero h = let e : k ≡ 0 = omega (arith, h) in omega (arith, ap (λ (i : ℕ). length (pack_positions (runs_to i))) e)
  positions-grow k (suc l) h =
      ⊎_elim
      (λ (g : l < k). let e : k ≡ suc l = omega (arith, g, h) in omega (arith, ap (λ (i : ℕ). length (pack_positions (runs_to i))) e))
      (λ (g : k ≤ l). omega (arith, positions-grow k l g, number_more l, ap (λ (i : ℕ). length (pack_positions (runs_to i))) (add-one l)))
      (cmp l k)

  -- all leaves' runs
  all_runs : token_runs n fields leaf_fields (tokens_of ws) ≡ runs_to (length leaf_fields)
  unfolding token_runs
  all_runs = refl

  all-postings : token_postings n fields leaf_fields (tokens_of ws) ≡ pack_postings (positional_to (length leaf_fields)) 0 (runs_to (length leaf_fields))
  unfolding token_postings token_runs
  all-postings = refl

  all-positions : token_positions n fields leaf_fields (tokens_of ws) ≡ pack_positions (runs_to (length leaf_fields))
  unfolding token_positions token_runs
  all-positions = refl

  words-length : (l : ℕ) → length (join_to l words) ≡ 2 * l
  words-length l = rows-length 2 l words (λ i h. refl)

  all_words : pack_runs (token_runs n fields leaf_fields (tokens_of ws)) ≡ join_to (length leaf_fields) words
  unfolding pack_runs
  all_words =
      ap (λ (rs : List (List Posting)). join_to (length rs) (λ l. get_or (pack_firsts 0 rs) l 0 ∷ length (get_or rs l []) ∷ [])) all_runs
      ∙ ap (λ (k : ℕ). join_to k rows) (length-list_to m run_at)
      ∙ join-same m rows words each
    where
      m : ℕ
      m = length leaf_fields

      rows : ℕ → List ℕ
      rows l = get_or (pack_firsts 0 (runs_to m)) l 0 ∷ length (get_or (runs_to m) l []) ∷ []

      each : (l : ℕ) → l < m → rows l ≡ words l
      each l h =
          ap₂ (λ (a b : ℕ). a ∷ b ∷ [])
          (firsts_at 0 (runs_to m) l (omega (arith, h, length-list_to m run_at)) ∙ zero-add (postings_in (take l (runs_to m))) ∙ ap postings_in (take-list_to run_at l m (omega (arith, h))))
          (ap length (get_or-list_to m run_at [] l h))

  module _ (postings₀ positions₀ runs₀ : List ℕ) where
    pub filled-start : Filled postings₀ positions₀ runs₀ postings₀ positions₀ runs₀ 0 0 0 0
    unfolding list_to postings_in pack_positions pack_postings join_to
    filled-start =
        record {
          within = omega arith;
          begins = record { within = omega arith; lower = λ k h. absurd (omega (arith, h)); higher = λ k g h. omega arith };
          few_postings = omega arith;
          few_positions = omega arith;
          posting_is = refl;
          position_is = refl;
          written = refl;
          placed = refl;
          listed = refl;
        }

    module _ (pre : RunsPre n fields leaf_fields ws (length postings₀) (length positions₀) (length runs₀)) (postings positions runs : List ℕ) (token posting position leaf : ℕ) (done : Filled postings₀ positions₀ runs₀ postings positions runs token posting position leaf) where
      -- the stores kept the lengths
      pub filled-lengths : (length postings ≡ length postings₀) × (length positions ≡ length positions₀) × (length runs ≡ length runs₀)
      filled-lengths = (
        ap length done.written ∙ length-sets postings₀ 0 (pack_postings (positional_to leaf) 0 (runs_to leaf)),
        ap length done.placed ∙ length-sets positions₀ 0 (pack_positions (runs_to leaf)),
        ap length done.listed ∙ length-sets runs₀ 0 (join_to leaf words),
      )

      -- the next leaf's run can be written
      pub run_fits : leaf < length leaf_fields → (b : Bool) → b ≡ positional fields leaf_fields leaf → WriteRunPre n (length leaf_fields) ws leaf b token posting position (length postings) (length positions)
      run_fits h b is =
          rw is (record {
            few_documents = pre.few_documents;
            tokens = tokens-ok n fields leaf_fields ws pre.right;
            begins = done.begins;
            few_postings = done.few_postings;
            few_positions = done.few_positions;
            postings_fit = omega (arith, done.posting_is, postings-more leaf, postings-grow (leaf + 1) (length leaf_fields) (omega (arith, h)), ap postings_in all_runs, pre.postings_fit, filled-lengths.0);
            positions_fit = omega (arith, done.position_is, number_more leaf, positions-grow (leaf + 1) (length leaf_fields) (omega (arith, h)), ap length all-positions, pre.positions_fit, filled-lengths.1);
          })

      -- and has been
      pub filled_next : leaf < length leaf_fields
          → (b : Bool) (first : ℕ) (postings' positions' runs' : List ℕ) (r : Cursor)
          → b ≡ positional fields leaf_fields leaf
          → first ≡ posting
          → WriteRunPost n ws leaf b posting position postings positions postings' positions' r
          → runs' ≡ sets runs (2 * leaf) (first ∷ (r.posting - posting) ∷ [])
          → Filled postings₀ positions₀ runs₀ postings' positions' runs' r.token r.posting r.position (leaf + 1)
      filled_next h b first postings' positions' runs' r is at post' e =
          record {
            within = omega (arith, h);
            begins = post.begins;
            few_postings = post.few_postings;
            few_positions = post.few_positions;
            posting_is = omega (arith, post.posting_end, done.posting_is, postings-more leaf);
            position_is = omega (arith, post.position_end, done.position_is, number_more leaf);
            written = post.written ∙ sets_behind postings₀ postings 0 (3 * posting) (pack_postings (positional_to leaf) 0 (runs_to leaf)) (pack_run p position (run_at leaf)) done.written (omega (arith, done.posting_is, postings-length (positional_to leaf) 0 (runs_to leaf) (as_many leaf))) ∙ ap (λ (k : ℕ). sets postings₀ 0 (pack_postings (positional_to leaf) 0 (runs_to leaf) ++ pack_run p k (run_at leaf))) done.position_is ∙ ap (sets postings₀ 0) (sym (words_more leaf));
            placed = post.placed ∙ sets_behind positions₀ positions 0 position (pack_positions (runs_to leaf)) (positions_in (run_at leaf)) done.placed (omega (arith, done.position_is)) ∙ ap (sets positions₀ 0) (sym (positions-more leaf));
            listed = e ∙ ap₂ (λ (x y : ℕ). sets runs (2 * leaf) (x ∷ y ∷ [])) (at ∙ done.posting_is) number ∙ sets_behind runs₀ runs 0 (2 * leaf) (join_to leaf words) (words leaf) done.listed (omega (arith, words-length leaf)) ∙ ap (sets runs₀ 0) (sym (join-next words leaf));
          }
        where
          p : Bool
          p = positional fields leaf_fields leaf

          post : WriteRunPost n ws leaf p posting position postings positions postings' positions' r
          post = subst (λ (q : Bool). WriteRunPost n ws leaf q posting position postings positions postings' positions' r) is post'

          number : r.posting - posting ≡ length (run_at leaf)
          number = omega (arith, post.posting_end)

      -- after the last leaf
      pub filled-end : length leaf_fields ≤ leaf → RunsPost n fields leaf_fields ws postings₀ positions₀ runs₀ postings positions runs
      filled-end h =
          record {
            postings_are = done.written ∙ ap (λ (k : ℕ). sets postings₀ 0 (pack_postings (positional_to k) 0 (runs_to k))) last ∙ ap (sets postings₀ 0) (sym all-postings) ∙ sets-front (token_postings n fields leaf_fields (tokens_of ws)) postings₀ (omega (arith, ap length all-postings, postings-length (positional_to (length leaf_fields)) 0 (runs_to (length leaf_fields)) (as_many (length leaf_fields)), ap postings_in all_runs, pre.postings_fit));
            positions_are = done.placed ∙ ap (λ (k : ℕ). sets positions₀ 0 (pack_positions (runs_to k))) last ∙ ap (sets positions₀ 0) (sym all-positions) ∙ sets-front (token_positions n fields leaf_fields (tokens_of ws)) positions₀ pre.positions_fit;
            runs_are = done.listed ∙ ap (λ (k : ℕ). sets runs₀ 0 (join_to k words)) last ∙ ap (sets runs₀ 0) (sym all_words) ∙ sets-front (pack_runs (token_runs n fields leaf_fields (tokens_of ws))) runs₀ (omega (arith, ap length all_words, words-length (length leaf_fields), pre.runs_fit));
          }
        where
          last : leaf ≡ length leaf_fields
          last = omega (arith, done.within, h)
