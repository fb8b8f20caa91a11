-- What refusals 7 and 8 let through, said of the tree: what it names is present, and its values are within their
-- limits. Assumes nothing.
use mathlib.Core.Path.{◌≡◌, sym, subst}
use mathlib.Core.Bool.{true, false}
use mathlib.Core.List.{List}
use mathlib.Core.Option.{Option, some}
use Prim.Native.Nat.{ℕ, zero, suc, ◌+◌, ◌≤◌, ◌<◌}
use native.Mathlib.Omega.{arith}
use lib.ListN.{length, get_or}
use borrow.Author.Tests.{eqb-true}
use Rattle.meaning.specs.Limits.{no_more_docs, largest_boost}
use Rattle.meaning.specs.Lent.{Index, field_count, leaf_count, leaf_field}
use Rattle.meaning.specs.Phrase.{PhraseTerm}
use Rattle.meaning.specs.Query.{record_count, record_kind, record_children, record_value, phrase_terms_of, is_phrase_term, Tree, term, phrase, boolean, range, match_all, constant_score, boost, match_none, Clauses, empty, clause, Decoded, DecodedClauses, decode, decode_clauses, query_tree}
use Rattle.meaning.specs.QueryRefusals.{wrong7, wrong8, wrong_range}
pub use Rattle.meaning.proofs.Below.{length-list_to, get_or-list_to}
use Rattle.query.proofs.Inverse.{both_true, one-clause, record-here, term-at, phrase-at, boolean-at, range_at, all-at, constant-at, boost-at, none-at, kind-is, KindIs, is-term, is-phrase, is-boolean, is-range, is_all, is-constant, is-boost, is_none, some_same}
use Rattle.query.proofs.Spans.{no-depth, nothing}
use Rattle.query.proofs.Whole.{whole}
use Rattle.query.proofs.Accepted.{term-leaf, phrase-right, range-right, boost-within, phrase-term-right}

-- ---- a phrase's terms
pub record RightTerm (ix : Index) (field : ℕ) (t : PhraseTerm) : Type 0 where
  pub leaf-present : t.leaf < leaf_count ix
  pub same-field : leaf_field ix t.leaf ≡ field
  pub offset-within : t.offset ≤ no_more_docs

abbrev pub no_term : PhraseTerm
no_term = record { leaf = 0; offset = 0 }

pub record RightPhrase (ix : Index) (field : ℕ) (ts : List PhraseTerm) : Type 0 where
  pub field-present : field < field_count ix
  pub some-terms : 1 ≤ length ts
  pub few-terms : length ts ≤ 32
  pub terms-right : (j : ℕ) → j < length ts → RightTerm ix field (get_or ts j no_term)

-- ---- a tree
unfoldable mutual
  pub Right : Index → Tree → Type 0
  Right ix (term l) = l < leaf_count ix
  Right ix (phrase f ts) = RightPhrase ix f ts
  Right ix (boolean m cs) = Rights ix cs
  Right ix (range r) = wrong_range ix r ≡ false
  Right ix match_all = Unit {0}
  Right ix (constant_score t) = Right ix t
  Right ix (boost v t) = (v ≤ largest_boost) × Right ix t
  Right ix match_none = Unit {0}

  pub Rights : Index → Clauses → Type 0
  Rights ix empty = Unit {0}
  Rights ix (clause o t cs) = Right ix t × Rights ix cs

clauses-right : (ix : Index) (q : List ℕ) (at : ℕ → Option Decoded) → ((r : ℕ) (D : Decoded) → at r ≡ some D → Right ix D.tree) → (n r : ℕ) (C : DecodedClauses) → decode_clauses q at n r ≡ some C → Rights ix C.clauses
unfolding decode_clauses Right
clauses-right ix q at f zero r C e = subst (λ (c : DecodedClauses). Rights ix c.clauses) (some_same (record { clauses = empty; next = r }) C e) tt
clauses-right ix q at f (suc n) r C e =
    let o = one-clause q at n r C e in
    rw o.clauses-are (f r o.first o.first-is, clauses-right ix q at f n o.first.next o.rest o.rest-is)

phrase-is-right : (ix : Index) (q : List ℕ) → wrong8 ix q ≡ false → (k r : ℕ) (D : Decoded) → decode q (suc k) r ≡ some D → record_kind q r ≡ 2 → RightPhrase ix (record_value q r 0) (phrase_terms_of q r)
phrase-is-right ix q e k r D f h =
    let p = phrase-at q k r D f h in
    let v = phrase-right ix q e r (record-here q k r D f) h in
    let n = record_children q r in
    let long = length-list_to n (λ j. term_at j) in
    let least = p.some-terms in
    let most = p.few-terms in
    record {
      field-present = v.field-present;
      some-terms = omega (arith, long, least);
      few-terms = omega (arith, long, most);
      terms-right = λ j g. subst (RightTerm ix (record_value q r 0)) (sym (get_or-list_to n (λ j. term_at j) no_term j (omega (arith, long, g)))) (one v.same-field p.terms-are p.terms-here j (omega (arith, long, g)));
    }
  where
    term_at : ℕ → PhraseTerm
    term_at j = record { leaf = record_value q (r + 1 + j) 0; offset = record_value q (r + 1 + j) 1 }

    one : ((j : ℕ) → j < record_children q r → leaf_field ix (record_value q (r + 1 + j) 0) ≡ record_value q r 0) → ((j : ℕ) → j < record_children q r → is_phrase_term q (r + 1 + j) ≡ true) → r + 1 + record_children q r ≤ record_count q → (j : ℕ) → j < record_children q r → RightTerm ix (record_value q r 0) (term_at j)
    one same are here j g =
        let nine = eqb-true (record_kind q (r + 1 + j)) 9 (both_true _ _ (both_true _ _ (are j g)).0).0 in
        let v = phrase-term-right ix q e (r + 1 + j) (omega (arith, here, g)) nine in
        record { leaf-present = v.leaf-present; same-field = same j g; offset-within = v.offset-within }

pub tree-right : (ix : Index) (q : List ℕ) → wrong8 ix q ≡ false → (k r : ℕ) (D : Decoded) → decode q k r ≡ some D → Right ix D.tree
unfolding Right
tree-right ix q e zero r D f = nothing D (no-depth q r D f)
tree-right ix q e (suc k) r D f = go (tree-right ix q e k) (kind-is q k r D f)
  where
    here : r < record_count q
    here = record-here q k r D f

    go : ((r : ℕ) (D : Decoded) → decode q k r ≡ some D → Right ix D.tree) → KindIs (record_kind q r) → Right ix D.tree
    go g (is-term h) = rw (term-at q k r D f h).tree_is (term-leaf ix q e r here h)
    go g (is-phrase h) = rw (phrase-at q k r D f h).tree_is (phrase-is-right ix q e k r D f h)
    go g (is-boolean h) = let b = boolean-at q k r D f h in rw b.tree_is (clauses-right ix q (decode q k) g (record_children q r) (r + 1) b.inside b.decoded)
    go g (is-range h) = rw (range_at q k r D f h).tree_is (range-right ix q e r here h)
    go g (is_all h) = rw (all-at q k r D f h).tree_is tt
    go g (is-constant h) = let c = constant-at q k r D f h in rw c.tree_is (g (r + 1) c.child c.decoded)
    go g (is-boost h) = let c = boost-at q k r D f h in rw c.tree_is (boost-within ix q e r here h, g (r + 1) c.child c.decoded)
    go g (is_none h) = rw (none-at q k r D f h).tree_is tt

pub query-right : (ix : Index) (q : List ℕ) → wrong7 q ≡ false → wrong8 ix q ≡ false → Right ix (query_tree q)
query-right ix q e f = let w = whole q e in rw w.tree_is (tree-right ix q f 16 0 w.root w.root_is)
