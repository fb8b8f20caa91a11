-- The tree of a query that is not refused: its records, its levels, and that it is sound. Assumes nothing.
use mathlib.Core.Path.{◌≡◌, refl, sym, ap, subst}
use mathlib.Core.Bool.{Bool, true, false, not, cond, ◌&&◌, false≢true}
use mathlib.Core.List.{List, [], ◌∷◌}
use mathlib.Core.Option.{Option, none, some}
use Prim.Native.Nat.{ℕ, zero, suc, suc-le-suc, zero-le, ◌+◌, ◌≤◌, ◌<◌}
use native.Mathlib.Nat.{le_trans}
use native.Mathlib.Omega.{arith}
use lib.Dec.{eqb}
use lib.ListN.{length, get_or}
use lib.Ieee.{Float}
use borrow.Author.Tests.{eqb-true, eq-eqb}
use Rattle.meaning.specs.Lent.{Index, has_positions}
use Rattle.meaning.specs.Bm25.{one}
use Rattle.meaning.specs.Phrase.{PhraseTerm}
use Rattle.meaning.specs.Query.{record_count, record_kind, record_children, record_value, phrase_terms_of, is_phrase_term, Tree, empty, Decoded, DecodedClauses, decode, decode_clauses, query_tree}
use Rattle.meaning.specs.QueryRefusals.{wrong7, wrong8, wrong9, wrong10}
use Rattle.meaning.specs.CallRefusals.{states_needed, largest_in, starts_needed}
use Rattle.index.specs.Accepted.{Accepted}
use Rattle.meaning.proofs.Below.{none_below, largest-at, length-list_to, get_or-list_to}
use Rattle.query.proofs.Inverse.{both_true, one-clause, some_same, record-here, term-at, phrase-at, boolean-at, range_at, all-at, constant-at, boost-at, none-at, kind-is, KindIs, is-term, is-phrase, is-boolean, is-range, is_all, is-constant, is-boost, is_none}
use Rattle.query.proofs.Spans.{nothing, no-depth}
use Rattle.query.proofs.Whole.{whole}
use Rattle.query.proofs.Accepted.{term-leaf, boost-within}
use Rattle.query.proofs.Right.{RightPhrase, Right, tree-right}
use Rattle.tree_weight.specs.ScorerTree.{phrase}
use Rattle.tree_weight.specs.Weigh.{weigh}
use Rattle.tree_weight.specs.State.{size_of}
use Rattle.tree_weight.specs.Sound.{PhraseTermIs, EachTerm, LeafSound, Sound, nodes}
use Rattle.tree_weight.proofs.Sizes.{records, records_of, weigh-size, weigh-nodes}
use Rattle.tree_weight.proofs.Heights.{height, levels, levels_of, weigh-height}
use Rattle.tree_weight.proofs.Sounds.{TreeSound, TreeSounds, weigh-sound}
use Rattle.tree_weight.proofs.Weights.{Weighted, carried-one, weigh-weighted}

-- ---- records and levels
-- a tree decoded at record r with k levels: it ends after its records, and has at most so many levels
pub record Shape (k r : ℕ) (t : Tree) (next : ℕ) : Type 0 where
  pub span : r + records t ≡ next
  pub low : levels t ≤ k

clauses-shape : (q : List ℕ) (at : ℕ → Option Decoded) (k : ℕ) → ((r : ℕ) (D : Decoded) → at r ≡ some D → Shape k r D.tree D.next) → (n r : ℕ) (C : DecodedClauses) → decode_clauses q at n r ≡ some C → (r + records_of C.clauses ≡ C.next) × (levels_of C.clauses ≤ k)
unfolding decode_clauses records levels
clauses-shape q at k f zero r C e =
    subst (λ (c : DecodedClauses). (r + records_of c.clauses ≡ c.next) × (levels_of c.clauses ≤ k)) (some_same (record { clauses = empty; next = r }) C e) (omega arith, omega arith)
clauses-shape q at k f (suc n) r C e =
    let o = one-clause q at n r C e in
    let s = f r o.first o.first-is in
    let i = clauses-shape q at k f n o.first.next o.rest o.rest-is in
    let a = s.span in
    let b = s.low in
    let m = o.next-is in
    rw o.clauses-are (omega (arith, a, i.0, m), omega (arith, b, i.1))

pub tree_shape : (q : List ℕ) (k r : ℕ) (D : Decoded) → decode q k r ≡ some D → Shape k r D.tree D.next
unfolding records levels
tree_shape q zero r D e = nothing D (no-depth q r D e)
tree_shape q (suc k) r D e = go (tree_shape q k) (kind-is q k r D e)
  where
    go : ((r : ℕ) (D : Decoded) → decode q k r ≡ some D → Shape k r D.tree D.next) → KindIs (record_kind q r) → Shape (suc k) r D.tree D.next
    go f (is-term h) = let a = term-at q k r D e h in let n = a.next-is in rw a.tree_is (record { span = omega (arith, n); low = omega arith })
    go f (is-phrase h) =
        let a = phrase-at q k r D e h in
        let n = a.next-is in
        let d = a.deep in
        let l = length-list_to {A = PhraseTerm} (record_children q r) (λ j. record { leaf = record_value q (r + 1 + j) 0; offset = record_value q (r + 1 + j) 1 }) in
        rw a.tree_is (record { span = omega (arith, n, l); low = omega (arith, d) })
    go f (is-boolean h) =
        let a = boolean-at q k r D e h in
        let n = a.next-is in
        let i = clauses-shape q (decode q k) k f (record_children q r) (r + 1) a.inside a.decoded in
        rw a.tree_is (record { span = omega (arith, n, i.0); low = omega (arith, i.1) })
    go f (is-range h) = let a = range_at q k r D e h in let n = a.next-is in rw a.tree_is (record { span = omega (arith, n); low = omega arith })
    go f (is_all h) = let a = all-at q k r D e h in let n = a.next-is in rw a.tree_is (record { span = omega (arith, n); low = omega arith })
    go f (is-constant h) =
        let a = constant-at q k r D e h in
        let n = a.next-is in
        let i = f (r + 1) a.child a.decoded in
        let s = i.span in
        let l = i.low in
        rw a.tree_is (record { span = omega (arith, n, s); low = omega (arith, l) })
    go f (is-boost h) =
        let a = boost-at q k r D e h in
        let n = a.next-is in
        let i = f (r + 1) a.child a.decoded in
        let s = i.span in
        let l = i.low in
        rw a.tree_is (record { span = omega (arith, n, s); low = omega (arith, l) })
    go f (is_none h) = let a = none-at q k r D e h in let n = a.next-is in rw a.tree_is (record { span = omega (arith, n); low = omega arith })

module _ (q : List ℕ) (whole7 : wrong7 q ≡ false) where
  query-shape : Shape 16 0 (query_tree q) (record_count q)
  query-shape = let w = whole q whole7 in rw (w.tree_is, ← w.none_left) (tree_shape q 16 0 w.root w.root_is)

  pub query-records : records (query_tree q) ≡ record_count q
  query-records = let s = query-shape.span in omega (arith, s)

  pub query-levels : levels (query_tree q) ≤ 16
  query-levels = query-shape.low

  -- the node states that 12 asks for are enough
  pub query-size : (ix : Index) (b : Float) (c : Option Float) → size_of (weigh ix (query_tree q) b c) ≤ states_needed q
  unfolding states_needed
  query-size ix b c = let n = query-records in let h = weigh-size ix (query_tree q) b c in omega (arith, n, h)

  pub query-nodes : (ix : Index) (b : Float) (c : Option Float) → nodes (weigh ix (query_tree q) b c) ≤ 256
  query-nodes ix b c = let n = query-records in let h = weigh-nodes ix (query_tree q) b c in let m = (whole q whole7).few-records in omega (arith, n, h, m)

  pub query-height : (ix : Index) (b : Float) (c : Option Float) → height (weigh ix (query_tree q) b c) ≤ 16
  query-height ix b c = le_trans (weigh-height ix (query_tree q) b c) query-levels

-- ---- soundness
abbrev no_term : PhraseTerm
no_term = record { leaf = 0; offset = 0 }

each-term : (ix : Index) (f places : ℕ) (ts : List PhraseTerm) → ((j : ℕ) → j < length ts → PhraseTermIs ix f places (get_or ts j no_term)) → EachTerm ix f places ts
unfolding EachTerm
each-term ix f places [] h = tt
each-term ix f places (t ∷ ts) h = (h 0 (suc-le-suc zero-le), each-term ix f places ts (λ j g. h (suc j) (suc-le-suc g)))

module _ (ix : Index) (q : List ℕ) (places : ℕ) (values-right : wrong8 ix q ≡ false) (positions-right : wrong10 ix q ≡ false) (room : starts_needed ix q ≤ places) where
  field-positions : (r : ℕ) → r < record_count q → record_kind q r ≡ 2 → has_positions ix (record_value q r 0) ≡ true
  unfolding wrong10
  field-positions r h k =
      step (eqb (record_kind q r) 2) (has_positions ix (record_value q r 0)) (eq-eqb (record_kind q r) 2 k)
      (none_below (record_count q) (λ r. eqb (record_kind q r) 2 && not (has_positions ix (record_value q r 0))) positions-right r h)
    where
      step : (a b : Bool) → a ≡ true → (a && not b) ≡ false → b ≡ true
      step true true e f = refl
      step true false e f = sym f
      step false b e f = absurd (false≢true e)

  -- the places that a record needs
  abbrev starts : ℕ → ℕ
  starts r = cond (eqb (record_kind q r) 9) (largest_in ix (record_value q r 0)) 0

  term-room : (r : ℕ) → r < record_count q → record_kind q r ≡ 9 → largest_in ix (record_value q r 0) ≤ places
  unfolding starts_needed
  term-room r h k =
      let a = largest-at (record_count q) starts r h in
      let e : starts r ≡ largest_in ix (record_value q r 0) = ap (λ (z : Bool). cond z (largest_in ix (record_value q r 0)) 0) (eq-eqb (record_kind q r) 9 k) in
      omega (arith, a, e, room)

  phrase-sound : (k r : ℕ) (D : Decoded) → decode q (suc k) r ≡ some D → record_kind q r ≡ 2 → LeafSound ix places (phrase (record_value q r 0) (phrase_terms_of q r))
  unfolding LeafSound Right
  phrase-sound k r D e h =
      let p = phrase-at q k r D e h in
      let right : RightPhrase ix (record_value q r 0) (phrase_terms_of q r) = rw p.tree_is at (tree-right ix q values-right (suc k) r D e) in
      let l = length-list_to {A = PhraseTerm} (record_children q r) term-at-j in
      let some-terms = right.some-terms in (
        right.field-present,
        field-positions r (record-here q k r D e) h,
        some-terms,
        right.few-terms,
        each-term ix (record_value q r 0) places (phrase_terms_of q r)
            (λ j g. one right p.terms-are p.terms-here j g (omega (arith, l, g))),
      )
    where
      term-at-j : ℕ → PhraseTerm
      term-at-j j = record { leaf = record_value q (r + 1 + j) 0; offset = record_value q (r + 1 + j) 1 }

      one : RightPhrase ix (record_value q r 0) (phrase_terms_of q r) → ((j : ℕ) → j < record_children q r → is_phrase_term q (r + 1 + j) ≡ true) → r + 1 + record_children q r ≤ record_count q → (j : ℕ) → j < length (phrase_terms_of q r) → j < record_children q r → PhraseTermIs ix (record_value q r 0) places (get_or (phrase_terms_of q r) j no_term)
      one right are here j g m =
          let t = right.terms-right j g in
          let nine = eqb-true (record_kind q (r + 1 + j)) 9 (both_true _ _ (both_true _ _ (are j m)).0).0 in
          record {
            leaf-there = t.leaf-present;
            field_is = t.same-field;
            offset-small = t.offset-within;
            room = subst (λ (z : PhraseTerm). largest_in ix z.leaf ≤ places) (sym (get_or-list_to (record_children q r) term-at-j no_term j m)) (term-room (r + 1 + j) (omega (arith, here, m)) nine);
          }

  clauses-sound : (at : ℕ → Option Decoded) → ((r : ℕ) (D : Decoded) → at r ≡ some D → TreeSound ix places D.tree) → (n r : ℕ) (C : DecodedClauses) → decode_clauses q at n r ≡ some C → TreeSounds ix places C.clauses
  unfolding decode_clauses TreeSound
  clauses-sound at f zero r C e = subst (λ (c : DecodedClauses). TreeSounds ix places c.clauses) (some_same (record { clauses = empty; next = r }) C e) tt
  clauses-sound at f (suc n) r C e =
      let o = one-clause q at n r C e in
      rw o.clauses-are (f r o.first o.first-is, clauses-sound at f n o.first.next o.rest o.rest-is)

  pub tree-sound : (k r : ℕ) (D : Decoded) → decode q k r ≡ some D → TreeSound ix places D.tree
  unfolding TreeSound LeafSound Right
  tree-sound zero r D e = nothing D (no-depth q r D e)
  tree-sound (suc k) r D e = go (tree-sound k) (kind-is q k r D e)
    where
      here : r < record_count q
      here = record-here q k r D e

      go : ((r : ℕ) (D : Decoded) → decode q k r ≡ some D → TreeSound ix places D.tree) → KindIs (record_kind q r) → TreeSound ix places D.tree
      go f (is-term h) = rw (term-at q k r D e h).tree_is (term-leaf ix q values-right r here h)
      go f (is-phrase h) = rw (phrase-at q k r D e h).tree_is (phrase-sound k r D e h)
      go f (is-boolean h) = let a = boolean-at q k r D e h in rw a.tree_is (clauses-sound (decode q k) f (record_children q r) (r + 1) a.inside a.decoded)
      go f (is-range h) = rw (range_at q k r D e h).tree_is tt
      go f (is_all h) = rw (all-at q k r D e h).tree_is tt
      go f (is-constant h) = let a = constant-at q k r D e h in rw a.tree_is (f (r + 1) a.child a.decoded)
      go f (is-boost h) = let a = boost-at q k r D e h in rw a.tree_is (boost-within ix q values-right r here h, f (r + 1) a.child a.decoded)
      go f (is_none h) = rw (none-at q k r D e h).tree_is tt

  module _ (whole7 : wrong7 q ≡ false) where
    query-tree-sound : TreeSound ix places (query_tree q)
    query-tree-sound = let w = whole q whole7 in rw w.tree_is (tree-sound 16 0 w.root w.root_is)

    -- THE theorems, of a query that 7 to 10 let through, with phrase buffers as 12 asks for
    pub query-sound : (b : Float) (c : Option Float) → Sound ix places (weigh ix (query_tree q) b c)
    query-sound b c = weigh-sound ix places (query_tree q) b c query-tree-sound

    pub query-weighted : Accepted ix → wrong9 q ≡ false → Weighted (weigh ix (query_tree q) one none)
    unfolding wrong9
    query-weighted accepted e = weigh-weighted ix places accepted (query_tree q) one none query-tree-sound e carried-one tt
