-- No call is refused because a bit was cleared, nor accepted. Assumes nothing.
use mathlib.Core.Path.{◌≡◌, refl, sym, ap, ap₂, ◌∙◌}
use mathlib.Core.Logic.{inl, inr}
use mathlib.Core.Bool.{Bool, false, ◌||◌}
use mathlib.Core.List.{List, [], ◌∷◌, ◌++◌}
use mathlib.Core.Option.{Option, none, some}
use Prim.Native.Nat.{ℕ, ◌+◌, ◌/◌, ◌≤◌, ◌<◌}
use native.Mathlib.Omega.{arith}
use borrow.Author.Tests.{eqb-true, eqb-false, eq-eqb, ltb-false, le-ltb}
use lib.Dec.{eqb, ltb, lit<}
use lib.ListN.{length}
use Rattle.meaning.specs.Limits.{max_hits}
use Rattle.meaning.specs.Lent.{Index}
use Rattle.meaning.specs.Query.{Kind, a_term, a_phrase, a_boolean, a_range, a_match_all, a_constant_score, a_boost, a_match_none, a_phrase_term, kind_of, record_count, record_kind}
use Rattle.meaning.specs.Refusals.{Condition, ◌when◌, lowest}
use Rattle.meaning.specs.IndexRefusals.{wrong1, wrong_field, wrong2, wrong3, wrong_leaf, wrong4, wrong_position, wrong_positions, wrong_posting, wrong5, wrong_column, wrong6}
use Rattle.meaning.specs.QueryRefusals.{wrong_range, other_field, wrong_kind, wrong_values, wrong8, wrong10}
use Rattle.meaning.specs.CallRefusals.{Work, wrong11, largest_in, starts_needed, ranges_needed, starts_short, work_short, wrong12_search, wrong12_page, wrong13_page, wrong13_place}
use Rattle.meaning.specs.Entries.{order_conditions, search_refusal, page_refusal, place_refusal}
use Rattle.meaning.proofs.Tests.{decided, or_left, or_right, true-left, true-right}
use Rattle.meaning.proofs.Below.{any-like}
use Rattle.meaning.proofs.Lowest.{lowest-zero}
use Rattle.index.proofs.Refused.{lowest-none}
use Rattle.demands.proofs.Accepting.{search-accepts}
use Rattle.demands_withdrawals.specs.Withdrawal.{live_words, withdrawn}
use Rattle.demands_withdrawals.proofs.Live.{length-cleared, words-lent, words-written}

lowest-same : {cs cs' ds ds' : List Condition} → cs ≡ cs' → ds ≡ ds' → lowest (cs ++ ds) ≡ lowest (cs' ++ ds')
lowest-same e f = ap₂ (λ (cs ds : List Condition). lowest (cs ++ ds)) e f

module _ (ix : Index) (d : ℕ) where
  -- 3: so many live words are right
  abbrev length_right : ℕ → Bool
  length_right n = eqb n 0 || eqb n ((ix.max_doc + 63) / 64)

  -- no words and N ÷ 64 rounded up words are both right, and words of another length stay wrong
  lengths-same : length_right (length (live_words ix)) ≡ length_right (length ix.live)
  lengths-same = elim (decided (eqb (length ix.live) 0)) [
    | inl e ↦
        let written = words-written ix (eqb-true (length ix.live) 0 e) in
        true-right (eqb (length (live_words ix)) 0) (eqb (length (live_words ix)) ((ix.max_doc + 63) / 64)) (eq-eqb (length (live_words ix)) ((ix.max_doc + 63) / 64) written)
        ∙ sym (true-left (eqb (length ix.live) 0) (eqb (length ix.live) ((ix.max_doc + 63) / 64)) e)
    | inr e ↦ ap (λ (words : List ℕ). length_right (length words)) (words-lent ix (eqb-false (length ix.live) 0 e))
  ]

  wrong3-same : wrong3 (withdrawn ix d) ≡ wrong3 ix
  unfolding wrong3 withdrawn
  wrong3-same = rw (length-cleared d (live_words ix), lengths-same)

  -- 8: a record's values
  values_same : (q : List ℕ) (r : ℕ) (kind : Option Kind) → wrong_values (withdrawn ix d) q r kind ≡ wrong_values ix q r kind
  unfolding wrong_values wrong_kind wrong_range other_field withdrawn
  values_same q r none = refl
  values_same q r (some a_term) = refl
  values_same q r (some a_phrase) = refl
  values_same q r (some a_boolean) = refl
  values_same q r (some a_range) = refl
  values_same q r (some a_match_all) = refl
  values_same q r (some a_constant_score) = refl
  values_same q r (some a_boost) = refl
  values_same q r (some a_match_none) = refl
  values_same q r (some a_phrase_term) = refl

  wrong8-same : (q : List ℕ) → wrong8 (withdrawn ix d) q ≡ wrong8 ix q
  unfolding wrong8
  wrong8-same q =
      any-like (record_count q) (λ r. wrong_values (withdrawn ix d) q r (kind_of (record_kind q r))) (λ r. wrong_values ix q r (kind_of (record_kind q r))) (λ r l. values_same q r (kind_of (record_kind q r)))

  -- 1 to 10
  order_same : (q : List ℕ) → order_conditions (withdrawn ix d) q ≡ order_conditions ix q
  unfolding wrong1 wrong2 wrong_field wrong4 wrong_leaf wrong5 wrong_posting wrong_positions wrong_position wrong6 wrong_column wrong10 withdrawn
  order_same q = rw (wrong3-same, wrong8-same q)

  -- what a call has to lend: 12
  short-same : (q : List ℕ) (w : Work) → starts_short (withdrawn ix d) q w ≡ starts_short ix q w
  unfolding starts_short starts_needed largest_in withdrawn
  short-same q w = refl

  work-same : (q : List ℕ) (w : Work) → work_short (withdrawn ix d) q w ≡ work_short ix q w
  unfolding work_short ranges_needed withdrawn
  work-same q w = rw (short-same q w)

  search-same : (q : List ℕ) (k : ℕ) (w : Work) (places : ℕ) → search_refusal (withdrawn ix d) q k w places ≡ search_refusal ix q k w places
  unfolding search_refusal wrong12_search
  search-same q k w places = lowest-same (order_same q) (rw (work-same q w))

  page-same : (q : List ℕ) (target : ℕ) (w : Work) (documents scores : ℕ) → page_refusal (withdrawn ix d) q target w documents scores ≡ page_refusal ix q target w documents scores
  unfolding page_refusal wrong12_page wrong13_page withdrawn
  page-same q target w documents scores = lowest-same (order_same q) (rw (work-same q w))

  place_same : (q : List ℕ) (r x : ℕ) (w : Work) → place_refusal (withdrawn ix d) q r x w ≡ place_refusal ix q r x w
  unfolding place_refusal wrong13_place withdrawn
  place_same q r x w = lowest-same (order_same q) (rw (short-same q w))

-- Search, Page and Place give the numbers that they gave, whatever else they are lent
pub record SameRefusals (ix : Index) (d : ℕ) : Type 0 where
  pub search-refusal : (q : List ℕ) (k : ℕ) (w : Work) (places : ℕ) → search_refusal (withdrawn ix d) q k w places ≡ search_refusal ix q k w places
  pub page-refusal : (q : List ℕ) (target : ℕ) (w : Work) (documents scores : ℕ) → page_refusal (withdrawn ix d) q target w documents scores ≡ page_refusal ix q target w documents scores
  pub place-refusal : (q : List ℕ) (r x : ℕ) (w : Work) → place_refusal (withdrawn ix d) q r x w ≡ place_refusal ix q r x w

pub withdrawn-refusals : (ix : Index) (d : ℕ) → SameRefusals ix d
withdrawn-refusals ix d = record { search-refusal = search-same ix d; page-refusal = page-same ix d; place-refusal = place_same ix d }

-- ---- a search for k + 1 that is not refused
module _ (ix : Index) (q : List ℕ) (k : ℕ) (w : Work) (places : ℕ) (r : search_refusal ix q (k + 1) w places ≡ 0) where
  -- the numbers behind those of index and query
  later : (ds : List Condition) → lowest (order_conditions ix q ++ ds) ≡ lowest ds
  later ds =
      lowest-none (order_conditions ix q) ds (lit< tt, (lit< tt, (lit< tt, (lit< tt, (lit< tt, (lit< tt, (lit< tt, (lit< tt, (lit< tt, (lit< tt, tt)))))))))) (search-accepts ix q (k + 1) w places r)

  neither : (wrong11 (k + 1) ≡ false) × (wrong12_search ix q w (k + 1) places ≡ false)
  unfolding search_refusal
  neither =
      let from11 = lowest-zero 11 (wrong11 (k + 1)) _ (lit< tt) (sym (later _) ∙ r) in
      (from11.0, (lowest-zero 12 (wrong12_search ix q w (k + 1) places) [] (lit< tt) from11.1).0)

  -- "for k up to 1,023"
  pub k-at-most : k ≤ 1023
  unfolding wrong11
  k-at-most = omega (arith, ltb-false max_hits (k + 1) (or_right (ltb (k + 1) 1) (ltb max_hits (k + 1)) neither.0))

  -- the search for k after a lot was withdrawn is not refused either, with the same buffers
  pub still-accepted : (d : ℕ) → 0 < k → search_refusal (withdrawn ix d) q k w places ≡ 0
  unfolding search_refusal wrong11 wrong12_search lowest
  still-accepted d h =
      let room = ltb-false places (k + 1) (or_right (work_short ix q w) (ltb places (k + 1)) neither.1) in
      (withdrawn-refusals ix d).search-refusal q k w places
      ∙ later ((11 when wrong11 k) ∷ (12 when wrong12_search ix q w k places) ∷ [])
      ∙ rw (le-ltb k 1 (omega arith), le-ltb max_hits k (omega (arith, k-at-most)), or_left (work_short ix q w) (ltb places (k + 1)) neither.1, le-ltb places k (omega (arith, room)))
