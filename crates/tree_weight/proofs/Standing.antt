-- A record of an accepted query, and the tree that is decoded there. Assumes nothing.
use mathlib.Core.Path.{◌≡◌, sym, ◌∙◌, ap, subst}
use mathlib.Core.Bool.{false}
use mathlib.Core.List.{List}
use mathlib.Core.Option.{some}
use Prim.Native.Nat.{ℕ, suc, ◌+◌, ◌-◌, ◌≤◌, ◌<◌}
use native.Mathlib.Omega.{arith}
use borrow.Author.Tests.{eqb-true}
use Rattle.meaning.specs.Query.{record_count, record_kind, record_children, Decoded, DecodedClauses, decode, decode_clauses}
use Rattle.meaning.specs.QueryRefusals.{wrong7}
use Rattle.query.proofs.Inverse.{both_true, some_same, boolean-at}
use Rattle.query.proofs.Above.{level}
use Rattle.query.proofs.Spans.{Stands, a-tree, a-phrase-term}
use Rattle.query.proofs.Whole.{record-stands, whole}
use Rattle.query.proofs.Deeper.{deeper-by}

-- a tree stands one level above what is below it
pub deep : (q : List ℕ) (k r : ℕ) (D : Decoded) → decode q k r ≡ some D → decode q (suc (k - 1)) r ≡ some D
deep q k r D e = subst (λ (z : ℕ). decode q z r ≡ some D) (level q k r D e) e

-- at any depth that decodes it, the same tree
pub same-tree : (q : List ℕ) (j k r : ℕ) (D E : Decoded) → decode q j r ≡ some D → decode q k r ≡ some E → D ≡ E
same-tree q j k r D E d e =
    some_same D E (sym (deeper-by q j k r D d) ∙ ap (λ (z : ℕ). decode q z r) (swap j k) ∙ deeper-by q k j r E e)
  where
    swap : (a b : ℕ) → a + b ≡ b + a
    swap a b = omega arith

pub record TreeAt (q : List ℕ) (r : ℕ) : Type 0 where
  pub level : ℕ
  pub tree : Decoded
  pub decoded : decode q (suc level) r ≡ some tree

pub tree-at : (q : List ℕ) (r : ℕ) → wrong7 q ≡ false → r < record_count q → (record_kind q r ≡ 9 → ⊥) → TreeAt q r
tree-at q r w h n = go (record-stands q w r h)
  where
    go : Stands q r → TreeAt q r
    go (a-tree k D e) = record { level = k; tree = D; decoded = e }
    go (a-phrase-term e) = absurd (n (eqb-true (record_kind q r) 9 (both_true _ _ (both_true _ _ e).0).0))

-- the clauses of a Boolean's record
pub record ClausesAt (q : List ℕ) (r : ℕ) : Type 0 where
  pub level : ℕ
  pub inside : DecodedClauses
  pub decoded : decode_clauses q (decode q level) (record_children q r) (r + 1) ≡ some inside
  pub few-clauses : record_children q r ≤ 64
  pub few-records : record_count q ≤ 256

pub clauses-at : (q : List ℕ) (r : ℕ) → wrong7 q ≡ false → r < record_count q → record_kind q r ≡ 3 → ClausesAt q r
clauses-at q r w h three =
    let t = tree-at q r w h (λ nine. not-nine (record_kind q r) three nine) in
    let b = boolean-at q t.level r t.tree t.decoded three in
    record { level = t.level; inside = b.inside; decoded = b.decoded; few-clauses = b.few-clauses; few-records = (whole q w).few-records }
  where
    not-nine : (n : ℕ) → n ≡ 3 → n ≡ 9 → ⊥
    not-nine n e f = omega (arith, e, f)
