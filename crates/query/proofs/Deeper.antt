-- What is decoded with some depth left is decoded the same with more. Assumes nothing.
use mathlib.Core.Path.{sym, ◌≡◌, ◌∙◌, subst}
use mathlib.Core.Bool.{◌&&◌}
use mathlib.Core.List.{List}
use mathlib.Core.Option.{Option, some}
use Prim.Native.Nat.{ℕ, zero, suc, ◌+◌, ◌-◌, ◌≤◌}
use native.Mathlib.Omega.{arith}
use lib.Dec.{eqb, leb, ltb}
use borrow.Author.Tests.{lt-ltb}
use Rattle.meaning.specs.Query.{Kind, a_term, a_phrase, a_boolean, a_range, a_match_all, a_constant_score, a_boost, a_match_none, a_phrase_term, record_count, record_occurrence, record_children, Decoded, DecodedClauses, decode, decode_kind, decode_clauses, decode_child, decode_phrase, guard}
use Rattle.query.proofs.Inverse.{bind-some, guard-some, both_true, opened, one-clause, some_same}
use Rattle.query.proofs.Steps.{decode-kind}
use Rattle.query.proofs.Spans.{no-depth, nothing}

phrase-deeper : (q : List ℕ) (k r : ℕ) (D : Decoded) → decode_phrase q k r ≡ some D → decode_phrase q (suc k) r ≡ some D
unfolding decode_phrase
phrase-deeper q k r D e =
    let a = bind-some (guard (ltb 0 k && leb (r + 1 + record_children q r) (record_count q))) _ D e in
    let deep = (both_true (ltb 0 k) (leb (r + 1 + record_children q r) (record_count q)) (guard-some (ltb 0 k && leb (r + 1 + record_children q r) (record_count q)) a.0 a.1)).0 in
    rw (lt-ltb 0 (suc k) (omega arith)) (rw deep at e)

module _ (q : List ℕ) (at more : ℕ → Option Decoded) (f : (r : ℕ) (D : Decoded) → at r ≡ some D → more r ≡ some D) where
  clauses-deeper : (n r : ℕ) (C : DecodedClauses) → decode_clauses q at n r ≡ some C → decode_clauses q more n r ≡ some C
  unfolding decode_clauses
  clauses-deeper zero r C e = e
  clauses-deeper (suc n) r C e =
      let o = one-clause q at n r C e in
      rw (o.occur-is, f r o.first o.first-is, clauses-deeper n o.first.next o.rest o.rest-is, ← o.clauses-are, ← o.next-is)

  child-deeper : (r : ℕ) (D : Decoded) → decode_child q at r ≡ some D → decode_child q more r ≡ some D
  unfolding decode_child
  child-deeper r D e =
      let a = bind-some (guard (eqb (record_occurrence q (r + 1)) 0)) (λ ok. at (r + 1)) D e in
      rw a.1 (f (r + 1) D a.2)

  kind-deeper : (k r : ℕ) (kind : Kind) (D : Decoded) → decode_kind q at k r kind ≡ some D → decode_kind q more (suc k) r kind ≡ some D
  unfolding decode_kind
  kind-deeper k r a_term D e = e
  kind-deeper k r a_phrase D e = phrase-deeper q k r D e
  kind-deeper k r a_boolean D e =
      let a = bind-some (decode_clauses q at (record_children q r) (r + 1)) _ D e in
      rw (clauses-deeper (record_children q r) (r + 1) a.0 a.1) a.2
  kind-deeper k r a_range D e = e
  kind-deeper k r a_match_all D e = e
  kind-deeper k r a_constant_score D e =
      let a = bind-some (decode_child q at r) _ D e in
      rw (child-deeper r a.0 a.1) a.2
  kind-deeper k r a_boost D e =
      let a = bind-some (decode_child q at r) _ D e in
      rw (child-deeper r a.0 a.1) a.2
  kind-deeper k r a_match_none D e = e
  kind-deeper k r a_phrase_term D e = e

pub deeper : (q : List ℕ) (k r : ℕ) (D : Decoded) → decode q k r ≡ some D → decode q (suc k) r ≡ some D
deeper q zero r D e = nothing D (no-depth q r D e)
deeper q (suc k) r D e =
    let o = opened q k r D e in
    decode-kind q r (suc k) o.kind o.here o.kind-is o.fits ∙ kind-deeper q (decode q k) (decode q (suc k)) (deeper q k) k r o.kind D o.decoded

-- so a tree that is decoded at two depths is one tree
pub deeper-by : (q : List ℕ) (k j r : ℕ) (D : Decoded) → decode q k r ≡ some D → decode q (k + j) r ≡ some D
deeper-by q k zero r D e = let same : k ≡ k + 0 = omega arith in subst (λ (z : ℕ). decode q z r ≡ some D) same e
deeper-by q k (suc j) r D e = let same : suc (k + j) ≡ k + suc j = omega arith in subst (λ (z : ℕ). decode q z r ≡ some D) same (deeper q (k + j) r D (deeper-by q k j r D e))

pub deeper-to : (q : List ℕ) (k m r : ℕ) (D : Decoded) → k ≤ m → decode q k r ≡ some D → decode q m r ≡ some D
deeper-to q k m r D h e = let same : k + (m - k) ≡ m = omega (arith, h) in subst (λ (z : ℕ). decode q z r ≡ some D) same (deeper-by q k (m - k) r D e)

pub same-tree : (q : List ℕ) (k m r : ℕ) (D E : Decoded) → decode q k r ≡ some D → decode q m r ≡ some E → D ≡ E
same-tree q k m r D E d e =
    let a = deeper-to q k (k + m) r D (omega arith) d in
    let b = deeper-to q m (k + m) r E (omega arith) e in
    some_same D E (sym a ∙ b)
