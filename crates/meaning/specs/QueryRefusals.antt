-- Document 01, "Who causes which refusal": the author of the query's numbers, 7 to 10, and the Range entry's 8.
-- None has to make sense where a lower one holds. Assumes nothing: these are definitions.
use Rattle.std.specs.Prelude.{Bool, true, false, not, ◌&&◌, ◌||◌, List, ℕ, ◌+◌, ◌/◌, ◌%◌, eqb, leb, ltb, length, Float}
use Rattle.std.proofs.Math.Option.{Option, none, some}
use Rattle.std.specs.Float.{binary32}
use Rattle.std.specs.Float.Ieee.{lt, of_bits}
use Rattle.meaning.specs.Below.{any_below}
use Rattle.meaning.specs.Limits.{no_more_docs, max_records, largest_boost}
use Rattle.meaning.specs.Lent.{Index, field_count, has_positions, leaf_count, leaf_field, column_count}
use Rattle.meaning.specs.Ieee754.{zero_float}
use Rattle.meaning.specs.Bm25.{one}
use Rattle.meaning.specs.Range.{NumericRange}
use Rattle.meaning.specs.Query.{Kind, a_term, a_phrase, a_boolean, a_range, a_match_all, a_constant_score, a_boost, a_match_none, a_phrase_term, kind_of, record_count, record_kind, record_children, record_value, range_of, Decoded, decode_query, query_tree, Tree, term, phrase, boolean, range, match_all, constant_score, boost, match_none, Clauses, empty, clause}
use Rattle.meaning.specs.Score.{boosted, passed}
use Rattle.meaning.specs.IndexRefusals.{not_whole}

-- "kind or occurrence unknown or out of place, wrong child counts, children missing, too deep", where nothing is decoded, or "records left over"
unfoldable pub wrong_records : List ℕ → Option Decoded → Bool
wrong_records q none = true
wrong_records q (some t) = not (eqb t.next (record_count q))

-- 7, "records not whole, none, too many, .."
unfoldable pub wrong7 : List ℕ → Bool
wrong7 q = not_whole (length q) 9 || eqb (record_count q) 0 || ltb max_records (record_count q) || wrong_records q (decode_query q)

-- "an unused .. value not 0": one of a record's six values from the v-th on
unfoldable pub unused_from : List ℕ → ℕ → ℕ → Bool
unused_from q r v = any_below 6 (λ j. leb v j && not (eqb (record_value q r j) 0))

-- the Range entry's 8: "a .. column absent, .. a range kind above 8, .. an .. unbounded value not 0"
unfoldable pub wrong_range : Index → NumericRange → Bool
wrong_range ix r =
    leb (column_count ix) r.column || ltb 8 r.kinds || (eqb (r.kinds % 3) 0 && not (eqb r.lower 0)) || (eqb (r.kinds / 3) 0 && not (eqb r.upper 0))

-- "a phrase leaf of another field": the j-th term of the phrase at record r
unfoldable pub other_field : Index → List ℕ → ℕ → ℕ → Bool
other_field ix q r j = not (eqb (leaf_field ix (record_value q (r + 1 + j) 0)) (record_value q r 0))

-- "a leaf, field or column absent, a phrase leaf of another field, a range kind above 8, an offset above 2147483647, a boost outside, an unused or unbounded value not 0"
unfoldable pub wrong_kind : Index → List ℕ → ℕ → Kind → Bool
wrong_kind ix q r a_term = leb (leaf_count ix) (record_value q r 0) || unused_from q r 1
wrong_kind ix q r a_phrase = leb (field_count ix) (record_value q r 0) || unused_from q r 1 || any_below (record_children q r) (other_field ix q r)
wrong_kind ix q r a_boolean = unused_from q r 1
wrong_kind ix q r a_range = wrong_range ix (range_of q r)
wrong_kind ix q r a_match_all = unused_from q r 0
wrong_kind ix q r a_constant_score = unused_from q r 0
wrong_kind ix q r a_boost = ltb largest_boost (record_value q r 0) || unused_from q r 1
wrong_kind ix q r a_match_none = unused_from q r 0
wrong_kind ix q r a_phrase_term = leb (leaf_count ix) (record_value q r 0) || ltb no_more_docs (record_value q r 1) || unused_from q r 2

unfoldable pub wrong_values : Index → List ℕ → ℕ → Option Kind → Bool
wrong_values ix q r none = false
wrong_values ix q r (some kind) = wrong_kind ix q r kind

-- 8, in some record of the query
unfoldable pub wrong8 : Index → List ℕ → Bool
wrong8 ix q = any_below (record_count q) (λ r. wrong_values ix q r (kind_of (record_kind q r)))

-- "above 65,536"
unfoldable pub above_limit : Float → Bool
above_limit b = lt (of_bits binary32 largest_boost) b

unfoldable mutual
  -- "a boost carried down a path above 65,536": the f32 product that reaches this node, or one below it
  pub carries_above : Tree → Float → Bool
  carries_above (term l) b = above_limit b
  carries_above (phrase f ts) b = above_limit b
  carries_above (boolean msm cs) b = above_limit b || clauses_above cs b
  carries_above (range r) b = above_limit b
  carries_above match_all b = above_limit b
  carries_above (constant_score t) b = above_limit b || carries_above t zero_float
  carries_above (boost v t) b = above_limit b || carries_above t (boosted b v)
  carries_above match_none b = above_limit b

  pub clauses_above : Clauses → Float → Bool
  clauses_above empty b = false
  clauses_above (clause o t cs) b = carries_above t (passed o b) || clauses_above cs b

-- 9
unfoldable pub wrong9 : List ℕ → Bool
wrong9 q = carries_above (query_tree q) one

-- 10, "a phrase in a field without positions"
unfoldable pub wrong10 : Index → List ℕ → Bool
wrong10 ix q = any_below (record_count q) (λ r. eqb (record_kind q r) 2 && not (has_positions ix (record_value q r 0)))
