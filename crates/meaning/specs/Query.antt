-- Document 01, "What a caller lends": the query's records, and the tree that they stand for. Assumes nothing: these are definitions.
use Rattle.std.specs.Prelude.{Bool, true, false, not, ◌&&◌, ◌||◌, List, [], ◌∷◌, ℕ, zero, suc, ◌+◌, ◌*◌, ◌/◌, eqb, leb, ltb, length, get_or}
use Rattle.std.proofs.Math.Option.{Option, none, some}
use Rattle.meaning.specs.Below.{any_below, list_to}
use Rattle.meaning.specs.Limits.{max_depth, max_phrase_terms, max_clauses}
use Rattle.meaning.specs.Lent.{joined}
use Rattle.meaning.specs.Range.{NumericRange}
use Rattle.meaning.specs.Phrase.{PhraseTerm}

-- Occurrence below a Boolean: 1 Must, 2 Should, 3 MustNot, 4 Filter
pub data Occur : Type 0 where
  must should must_not filter : Occur

-- "every Must and Filter": the clauses without which a Boolean takes nothing
abbrev pub is_required : Occur → Bool
is_required must = true
is_required should = false
is_required must_not = false
is_required filter = true

abbrev pub is_must : Occur → Bool
is_must must = true
is_must should = false
is_must must_not = false
is_must filter = false

abbrev pub is_should : Occur → Bool
is_should must = false
is_should should = true
is_should must_not = false
is_should filter = false

abbrev pub is_must_not : Occur → Bool
is_must_not must = false
is_must_not should = false
is_must_not must_not = true
is_must_not filter = false

-- a query, of the kinds 1 to 8; kind 9 stands within a phrase
mutual
  pub data Tree : Type 0 where
    term : ℕ → Tree
    phrase : ℕ → List PhraseTerm → Tree
    boolean : ℕ → Clauses → Tree
    range : NumericRange → Tree
    match_all : Tree
    constant_score : Tree → Tree
    boost : ℕ → Tree → Tree
    match_none : Tree

  pub data Clauses : Type 0 where
    empty : Clauses
    clause : Occur → Tree → Clauses → Clauses

-- some clause is a Must or a Filter
unfoldable pub has_required : Clauses → Bool
has_required empty = false
has_required (clause o t cs) = is_required o || has_required cs

-- ---- Query record, 9: kind, occurrence, number of direct children, then six values
abbrev pub record_count : List ℕ → ℕ
record_count q = length q / 9

abbrev pub record_kind : List ℕ → ℕ → ℕ
record_kind q r = get_or q (9 * r) 0

abbrev pub record_occurrence : List ℕ → ℕ → ℕ
record_occurrence q r = get_or q (9 * r + 1) 0

abbrev pub record_children : List ℕ → ℕ → ℕ
record_children q r = get_or q (9 * r + 2) 0

abbrev pub record_value : List ℕ → ℕ → ℕ → ℕ
record_value q r v = get_or q (9 * r + 3 + v) 0

-- Kinds: 1 Term, 2 Phrase, 3 Boolean, 4 Range, 5 MatchAll, 6 ConstantScore, 7 Boost, 8 MatchNone, 9 PhraseTerm
pub data Kind : Type 0 where
  a_term a_phrase a_boolean a_range a_match_all a_constant_score a_boost a_match_none a_phrase_term : Kind

abbrev pub kind_of : ℕ → Option Kind
kind_of n =
    get_or (none ∷ some a_term ∷ some a_phrase ∷ some a_boolean ∷ some a_range ∷ some a_match_all ∷ some a_constant_score ∷ some a_boost ∷ some a_match_none ∷ some a_phrase_term ∷ []) n none

abbrev pub occur_of : ℕ → Option Occur
occur_of n = get_or (none ∷ some must ∷ some should ∷ some must_not ∷ some filter ∷ []) n none

-- "Kinds 6 and 7 have one child, Phrase 1 to 32, Boolean 0 to 64, others none"
abbrev pub children_fit : Kind → ℕ → Bool
children_fit a_term n = eqb n 0
children_fit a_phrase n = leb 1 n && leb n max_phrase_terms
children_fit a_boolean n = leb n max_clauses
children_fit a_range n = eqb n 0
children_fit a_match_all n = eqb n 0
children_fit a_constant_score n = eqb n 1
children_fit a_boost n = eqb n 1
children_fit a_match_none n = eqb n 0
children_fit a_phrase_term n = eqb n 0

-- the range that a record's values say
abbrev pub range_of : List ℕ → ℕ → NumericRange
range_of q r =
    record { column = record_value q r 0; kinds = record_value q r 1; lower = joined (record_value q r 2) (record_value q r 3); upper = joined (record_value q r 4) (record_value q r 5) }

-- the terms of the phrase at record r: the records after it, as many as it has children
abbrev pub phrase_terms_of : List ℕ → ℕ → List PhraseTerm
phrase_terms_of q r = list_to (record_children q r) (λ j. record { leaf = record_value q (r + 1 + j) 0; offset = record_value q (r + 1 + j) 1 })

-- "9 PhraseTerm (leaf, offset), only below Phrase": a record there is one, its occurrence 0, without children
abbrev pub is_phrase_term : List ℕ → ℕ → Bool
is_phrase_term q r = eqb (record_kind q r) 9 && eqb (record_occurrence q r) 0 && eqb (record_children q r) 0

-- ---- "After a record stand the whole trees of its children, in turn"
-- a decoded tree, and the record after it
pub record Decoded : Type 0 where
  pub tree : Tree
  pub next : ℕ

pub record DecodedClauses : Type 0 where
  pub clauses : Clauses
  pub next : ℕ

infixl 10 ◌>>=◌
abbrev pub ◌>>=◌ : {A B : Type 0} → Option A → (A → Option B) → Option B
none >>= f = none
some a >>= f = f a

-- go on where the test passes
abbrev pub guard : Bool → Option Bool
guard true = some true
guard false = none

-- n clauses from record r on, each with its occurrence 1 to 4; `at` decodes the tree at a record
unfoldable pub decode_clauses : List ℕ → (ℕ → Option Decoded) → ℕ → ℕ → Option DecodedClauses
decode_clauses q at zero r = some (record { clauses = empty; next = r })
decode_clauses q at (suc n) r = do
  o ← occur_of (record_occurrence q r)
  t ← at r
  cs ← decode_clauses q at n t.next
  some (record { clauses = clause o t.tree cs.clauses; next = cs.next })

-- the only child of record r, of occurrence 0
unfoldable pub decode_child : List ℕ → (ℕ → Option Decoded) → ℕ → Option Decoded
decode_child q at r = do
  ok ← guard (eqb (record_occurrence q (r + 1)) 0)
  at (r + 1)

-- the phrase at record r, whose terms are one level deeper
unfoldable pub decode_phrase : List ℕ → ℕ → ℕ → Option Decoded
decode_phrase q depth r = do
  ok ← guard (ltb 0 depth && leb (r + 1 + record_children q r) (record_count q))
  ok ← guard (not (any_below (record_children q r) (λ j. not (is_phrase_term q (r + 1 + j)))))
  some (record { tree = phrase (record_value q r 0) (phrase_terms_of q r); next = r + 1 + record_children q r })

-- the tree of a record of a kind, whose children `at` decodes, with `depth` levels left below it
unfoldable pub decode_kind : List ℕ → (ℕ → Option Decoded) → ℕ → ℕ → Kind → Option Decoded
decode_kind q at depth r a_term = some (record { tree = term (record_value q r 0); next = r + 1 })
decode_kind q at depth r a_phrase = decode_phrase q depth r
decode_kind q at depth r a_boolean = do
  cs ← decode_clauses q at (record_children q r) (r + 1)
  some (record { tree = boolean (record_value q r 0) cs.clauses; next = cs.next })
decode_kind q at depth r a_range = some (record { tree = range (range_of q r); next = r + 1 })
decode_kind q at depth r a_match_all = some (record { tree = match_all; next = r + 1 })
decode_kind q at depth r a_constant_score = do
  t ← decode_child q at r
  some (record { tree = constant_score t.tree; next = t.next })
decode_kind q at depth r a_boost = do
  t ← decode_child q at r
  some (record { tree = boost (record_value q r 0) t.tree; next = t.next })
decode_kind q at depth r a_match_none = some (record { tree = match_none; next = r + 1 })
decode_kind q at depth r a_phrase_term = none

-- the tree at record r, at most so many levels deep: none where the record is missing, its kind unknown or out of place, or its child count wrong
unfoldable pub decode : List ℕ → ℕ → ℕ → Option Decoded
decode q zero r = none
decode q (suc depth) r = do
  ok ← guard (ltb r (record_count q))
  kind ← kind_of (record_kind q r)
  ok ← guard (children_fit kind (record_children q r))
  decode_kind q (decode q depth) depth r kind

-- the whole query: "depth 16, the root 1"
unfoldable pub decode_query : List ℕ → Option Decoded
decode_query q = do
  ok ← guard (eqb (record_occurrence q 0) 0)
  decode q max_depth 0

-- the query's tree, where its records decode
abbrev pub tree_of : Option Decoded → Tree
tree_of none = match_none
tree_of (some t) = t.tree

unfoldable pub query_tree : List ℕ → Tree
query_tree q = tree_of (decode_query q)
