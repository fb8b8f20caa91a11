-- Where a decoded tree ends, that more depth decodes the same, and that each of its records stands for a tree or a
-- phrase's term. Assumes nothing.
use mathlib.Core.Path.{◌≡◌, refl, sym, ap, subst}
use mathlib.Core.Bool.{true}
use mathlib.Core.List.{List}
use mathlib.Core.Option.{Option, none, some}
use mathlib.Core.Logic.{◌⊎◌, inl, inr}
use Prim.Native.Nat.{ℕ, zero, suc, ◌+◌, ◌-◌, ◌≤◌, ◌<◌}
use native.Mathlib.Omega.{arith}
use Rattle.meaning.specs.Query.{record_count, record_kind, record_children, Decoded, DecodedClauses, decode, decode_clauses, is_phrase_term}
use Rattle.query.proofs.Inverse.{one-clause, record-here, term-at, phrase-at, boolean-at, range_at, all-at, constant-at, boost-at, none-at, kind-is, KindIs, is-term, is-phrase, is-boolean, is-range, is_all, is-constant, is-boost, is_none, some_same}

pub nothing : {A : Type 0} {P : Type 0} (x : A) → ◌≡◌ {A = Option A} none (some x) → P
nothing x e = let z : ◌≡◌ {A = ℕ} 0 1 = cc in absurd (omega arith)

-- ---- a tree ends after its own record and within the query
pub record Span (q : List ℕ) (r next : ℕ) : Type 0 where
  pub past : r < next
  pub within : next ≤ record_count q

pub clauses-span : (q : List ℕ) (at : ℕ → Option Decoded) → ((r : ℕ) (D : Decoded) → at r ≡ some D → Span q r D.next) → (n r : ℕ) (C : DecodedClauses) → r ≤ record_count q → decode_clauses q at n r ≡ some C → (r ≤ C.next) × (C.next ≤ record_count q)
unfolding decode_clauses
clauses-span q at f zero r C h e = let same = ap DecodedClauses.next (some_same _ C e) in (omega (arith, same), omega (arith, same))
clauses-span q at f (suc n) r C h e =
    let o = one-clause q at n r C e in
    let s = f r o.first o.first-is in
    let more = clauses-span q at f n o.first.next o.rest s.within o.rest-is in
    let same = o.next-is in
    let past = s.past in
    (omega (arith, past, more.0, same), omega (arith, more.1, same))

pub no-depth : (q : List ℕ) (r : ℕ) (D : Decoded) → decode q zero r ≡ some D → none ≡ some D
unfolding decode
no-depth q r D e = e

pub tree-span : (q : List ℕ) (k r : ℕ) (D : Decoded) → decode q k r ≡ some D → Span q r D.next
tree-span q zero r D e = nothing D (no-depth q r D e)
tree-span q (suc k) r D e = go (tree-span q k) (kind-is q k r D e)
  where
    leaf : D.next ≡ r + 1 → Span q r D.next
    leaf n = let h = record-here q k r D e in record { past = omega (arith, n); within = omega (arith, n, h) }

    child : (C : Decoded) → D.next ≡ C.next → Span q (r + 1) C.next → Span q r D.next
    child C n s = let p = s.past in let w = s.within in record { past = omega (arith, n, p); within = omega (arith, n, w) }

    go : ((r : ℕ) (D : Decoded) → decode q k r ≡ some D → Span q r D.next) → KindIs (record_kind q r) → Span q r D.next
    go f (is-term h) = leaf (term-at q k r D e h).next-is
    go f (is-phrase h) = let p = phrase-at q k r D e h in let n = p.next-is in let w = p.terms-here in record { past = omega (arith, n); within = omega (arith, n, w) }
    go f (is-boolean h) =
        let b = boolean-at q k r D e h in
        let here = record-here q k r D e in
        let n = b.next-is in
        let s = clauses-span q (decode q k) f (record_children q r) (r + 1) b.inside (omega (arith, here)) b.decoded in
        record { past = omega (arith, n, s.0); within = omega (arith, n, s.1) }
    go f (is-range h) = leaf (range_at q k r D e h).next-is
    go f (is_all h) = leaf (all-at q k r D e h).next-is
    go f (is-constant h) = let c = constant-at q k r D e h in child c.child c.next-is (f (r + 1) c.child c.decoded)
    go f (is-boost h) = let c = boost-at q k r D e h in child c.child c.next-is (f (r + 1) c.child c.decoded)
    go f (is_none h) = leaf (none-at q k r D e h).next-is

-- ---- each record from a tree's to its end stands for a tree, or for a phrase's term
pub data Stands (q : List ℕ) (i : ℕ) : Type 0 where
  a-tree : (k : ℕ) (D : Decoded) → decode q (suc k) i ≡ some D → Stands q i
  a-phrase-term : is_phrase_term q i ≡ true → Stands q i

-- r itself, or one after it
from_or : (r i : ℕ) → r ≤ i → (i ≡ r) ⊎ (r + 1 ≤ i)
from_or zero zero h = inl refl
from_or zero (suc i) h = inr (omega arith)
from_or (suc r) zero h = absurd (omega (arith, h))
from_or (suc r) (suc i) h = elim (from_or r i (omega (arith, h))) [
  | inl e ↦ inl (ap suc e)
  | inr g ↦ inr (omega (arith, g))
]

before-or : (e i : ℕ) → (i < e) ⊎ (e ≤ i)
before-or zero i = inr (omega arith)
before-or (suc e) zero = inl (omega arith)
before-or (suc e) (suc i) = elim (before-or e i) [
  | inl h ↦ inl (omega (arith, h))
  | inr h ↦ inr (omega (arith, h))
]

abbrev pub Standing : List ℕ → ℕ → ℕ → Type 0
Standing q r e = (i : ℕ) → r ≤ i → i < e → Stands q i

clauses-stand : (q : List ℕ) (at : ℕ → Option Decoded) → ((r : ℕ) (D : Decoded) → at r ≡ some D → Standing q r D.next) → (n r : ℕ) (C : DecodedClauses) → decode_clauses q at n r ≡ some C → Standing q r C.next
unfolding decode_clauses
clauses-stand q at f zero r C e i h g = let same = ap DecodedClauses.next (some_same _ C e) in absurd (omega (arith, same, h, g))
clauses-stand q at f (suc n) r C e i h g =
    let o = one-clause q at n r C e in
    let same = o.next-is in
    elim (before-or o.first.next i) [
      | inl b ↦ f r o.first o.first-is i h b
      | inr b ↦ clauses-stand q at f n o.first.next o.rest o.rest-is i b (omega (arith, same, g))
    ]

pub tree-stands : (q : List ℕ) (k r : ℕ) (D : Decoded) → decode q k r ≡ some D → Standing q r D.next
tree-stands q zero r D e i h g = nothing D (no-depth q r D e)
tree-stands q (suc k) r D e i h g = here-or (tree-stands q k) (from_or r i h)
  where
    after : ((r : ℕ) (D : Decoded) → decode q k r ≡ some D → Standing q r D.next) → r + 1 ≤ i → KindIs (record_kind q r) → Stands q i
    after f b (is-term h) = let n = (term-at q k r D e h).next-is in absurd (omega (arith, n, b, g))
    after f b (is-phrase h) =
        let p = phrase-at q k r D e h in
        let n = p.next-is in
        let at : r + 1 + (i - (r + 1)) ≡ i = omega (arith, b) in
        a-phrase-term (subst (λ (z : ℕ). is_phrase_term q z ≡ true) at (p.terms-are (i - (r + 1)) (omega (arith, n, b, g))))
    after f b (is-boolean h) =
        let o = boolean-at q k r D e h in
        let n = o.next-is in
        clauses-stand q (decode q k) f (record_children q r) (r + 1) o.inside o.decoded i b (omega (arith, n, g))
    after f b (is-range h) = let n = (range_at q k r D e h).next-is in absurd (omega (arith, n, b, g))
    after f b (is_all h) = let n = (all-at q k r D e h).next-is in absurd (omega (arith, n, b, g))
    after f b (is-constant h) = let c = constant-at q k r D e h in let n = c.next-is in f (r + 1) c.child c.decoded i b (omega (arith, n, g))
    after f b (is-boost h) = let c = boost-at q k r D e h in let n = c.next-is in f (r + 1) c.child c.decoded i b (omega (arith, n, g))
    after f b (is_none h) = let n = (none-at q k r D e h).next-is in absurd (omega (arith, n, b, g))

    here-or : ((r : ℕ) (D : Decoded) → decode q k r ≡ some D → Standing q r D.next) → (i ≡ r) ⊎ (r + 1 ≤ i) → Stands q i
    here-or f (inl a) = a-tree k D (subst (λ (z : ℕ). decode q (suc k) z ≡ some D) (sym a) e)
    here-or f (inr b) = after f b (kind-is q k r D e)
