-- Where the fields of a query's records have their inverses, those of its scorer tree have them. Assumes nothing.
use mathlib.Core.Path.{◌≡◌, subst}
use mathlib.Core.Bool.{Bool, true, false, cond}
use mathlib.Core.List.{List, [], ◌∷◌}
use mathlib.Core.Option.{Option, none, some}
use Prim.Native.Nat.{ℕ, zero, suc, ◌+◌, ◌<◌}
use lib.Ieee.{Float}
use Rattle.meaning.specs.Lent.{Index, leaf_field}
use Rattle.meaning.specs.Ieee754.{zero_float}
use Rattle.meaning.specs.Phrase.{PhraseTerm}
use Rattle.meaning.specs.Query
use Rattle.meaning.specs.Query.{record_count, record_kind, record_children, record_value, phrase_terms_of, is_required, is_should, is_must_not, Tree, Clauses, empty, Decoded, DecodedClauses, decode, decode_clauses, query_tree}
use Rattle.meaning.specs.Scorer.{has_scorer}
use Rattle.meaning.specs.Score.{boosted, passed}
use Rattle.query.proofs.Inverse.{one-clause, some_same, record-here, term-at, phrase-at, boolean-at, range_at, all-at, constant-at, boost-at, none-at, kind-is, KindIs, is-term, is-phrase, is-boolean, is-range, is_all, is-constant, is-boost, is_none}
use Rattle.query.proofs.Spans.{nothing, no-depth}
use Rattle.query.proofs.Whole.{whole}
use Rattle.tree_weight.specs.ScorerTree.{Scorer}
use Rattle.tree_weight.specs.Weigh.{kept_or_boost, Ready, cheapest_first, chosen, scorers_of, boolean_of, no_scorer, weigh, readied}
use Rattle.tree_weight.specs.Measured.{AcceptedOrder}
use Rattle.tree_weight.specs.Sound.{FieldTable, LeafTable, Tables, TablesOf}
use Rattle.tree_weight.proofs.Ready.{Every, every-sorted, every-chosen}
use Rattle.score_inverses.specs.Inverses.{FieldTables}

module _ (ix : Index) (table : List Float) where
  -- ---- a tree's scorer from its parts'
  abbrev ReadyTabled : Ready → Type 0
  ReadyTabled r = Tables ix table r.scorer

  tables-of : (rs : List Ready) → Every ReadyTabled rs → TablesOf ix table (scorers_of rs)
  unfolding TablesOf scorers_of Every
  tables-of [] e = tt
  tables-of (r ∷ rs) e = (e.0, tables-of rs e.1)

  parts-tables : (msm : ℕ) (cs : Clauses) (c : Option Float) (rs : List Ready) → Every ReadyTabled rs → Tables ix table (boolean_of ix msm cs c rs)
  unfolding Tables boolean_of
  parts-tables msm cs c rs e =
      (tables-of (cheapest_first (chosen is_required rs)) (every-sorted ReadyTabled (chosen is_required rs) (every-chosen ReadyTabled is_required rs e)), tables-of (chosen is_should rs) (every-chosen ReadyTabled is_should rs e), tables-of (chosen is_must_not rs) (every-chosen ReadyTabled is_must_not rs e))

  -- a scorer, or none
  either : (h : Bool) (s : Scorer) → Tables ix table s → Tables ix table (cond h s no_scorer)
  unfolding Tables LeafTable
  either true s a = a
  either false s a = tt

  term-tables : (l : ℕ) (b : Float) (c : Option Float) → FieldTable ix table (leaf_field ix l) → Tables ix table (weigh ix (Query.term l) b c)
  unfolding weigh Tables LeafTable
  term-tables l b none h = either (has_scorer ix (Query.term l)) _ h
  term-tables l b (some x) h = either (has_scorer ix (Query.term l)) _ tt

  phrase-tables : (f : ℕ) (ts : List PhraseTerm) (b : Float) (c : Option Float) → FieldTable ix table f → Tables ix table (weigh ix (Query.phrase f ts) b c)
  unfolding weigh Tables LeafTable
  phrase-tables f ts b none h = either (has_scorer ix (Query.phrase f ts)) _ h
  phrase-tables f ts b (some x) h = either (has_scorer ix (Query.phrase f ts)) _ tt

  boolean-tables : (msm : ℕ) (cs : Clauses) (b : Float) (c : Option Float) → Every ReadyTabled (readied ix cs b) → Tables ix table (weigh ix (Query.boolean msm cs) b c)
  unfolding weigh
  boolean-tables msm cs b c e = either (has_scorer ix (Query.boolean msm cs)) (boolean_of ix msm cs c (readied ix cs b)) (parts-tables msm cs c (readied ix cs b) e)

  -- ---- a tree that is decoded
  abbrev TreeTabled : Tree → Type 0
  TreeTabled t = (b : Float) (c : Option Float) → Tables ix table (weigh ix t b c)

  module _ (q : List ℕ) (all : FieldTables ix q table) where
    term-table : (r : ℕ) → r < record_count q → record_kind q r ≡ 1 → FieldTable ix table (leaf_field ix (record_value q r 0))
    term-table r here h = rw h at (all r here (rw h))

    phrase-table : (r : ℕ) → r < record_count q → record_kind q r ≡ 2 → FieldTable ix table (record_value q r 0)
    phrase-table r here h = rw h at (all r here (rw h))

    clauses-tables : (at : ℕ → Option Decoded) → ((r : ℕ) (D : Decoded) → at r ≡ some D → TreeTabled D.tree) → (n r : ℕ) (C : DecodedClauses) → decode_clauses q at n r ≡ some C → (b : Float) → Every ReadyTabled (readied ix C.clauses b)
    unfolding decode_clauses readied Every
    clauses-tables at f zero r C e b = subst (λ (c : DecodedClauses). Every ReadyTabled (readied ix c.clauses b)) (some_same (record { clauses = empty; next = r }) C e) tt
    clauses-tables at f (suc n) r C e b =
        let o = one-clause q at n r C e in
        rw o.clauses-are (f r o.first o.first-is (passed o.occur b) none, clauses-tables at f n o.first.next o.rest o.rest-is b)

    tree-tables : (k r : ℕ) (D : Decoded) → decode q k r ≡ some D → TreeTabled D.tree
    unfolding weigh Tables LeafTable
    tree-tables zero r D e = nothing D (no-depth q r D e)
    tree-tables (suc k) r D e = go (tree-tables k) (kind-is q k r D e)
      where
        here : r < record_count q
        here = record-here q k r D e

        go : ((r : ℕ) (D : Decoded) → decode q k r ≡ some D → TreeTabled D.tree) → KindIs (record_kind q r) → TreeTabled D.tree
        go f (is-term h) b c = rw (term-at q k r D e h).tree_is (term-tables (record_value q r 0) b c (term-table r here h))
        go f (is-phrase h) b c = rw (phrase-at q k r D e h).tree_is (phrase-tables (record_value q r 0) (phrase_terms_of q r) b c (phrase-table r here h))
        go f (is-boolean h) b c = let a = boolean-at q k r D e h in rw a.tree_is (boolean-tables (record_value q r 0) a.inside.clauses b c (clauses-tables (decode q k) f (record_children q r) (r + 1) a.inside a.decoded b))
        go f (is-range h) b c = rw (range_at q k r D e h).tree_is tt
        go f (is_all h) b c = rw (all-at q k r D e h).tree_is tt
        go f (is-constant h) b c = let a = constant-at q k r D e h in rw a.tree_is (f (r + 1) a.child a.decoded zero_float (some (kept_or_boost c b)))
        go f (is-boost h) b c = let a = boost-at q k r D e h in rw a.tree_is (f (r + 1) a.child a.decoded (boosted b (record_value q r 0)) c)
        go f (is_none h) b c = rw (none-at q k r D e h).tree_is tt

-- THE theorem
pub query-tables : (ix : Index) (q : List ℕ) (table : List Float) → AcceptedOrder ix q → FieldTables ix q table → (b : Float) (c : Option Float) → Tables ix table (weigh ix (query_tree q) b c)
query-tables ix q table a all b c = let w = whole q a.records-right in rw w.tree_is (tree-tables ix table q all 16 0 w.root w.root_is b c)
