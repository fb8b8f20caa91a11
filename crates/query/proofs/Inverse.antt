-- What a decoded tree says of the records that it was decoded from. Assumes nothing.
use mathlib.Core.Path.{◌≡◌, refl, sym, ◌∙◌, ap}
use mathlib.Core.Bool.{Bool, true, false, not, ◌&&◌}
use mathlib.Core.List.{List}
use mathlib.Core.Option.{Option, none, some}
use Prim.Native.Nat.{ℕ, zero, suc, ◌+◌, ◌≤◌, ◌<◌}
use native.Mathlib.Omega.{arith}
use lib.Dec.{eqb, leb, ltb}
use borrow.Author.Tests.{ltb-true, leb-true, eqb-true, not-true, not-false}
use Rattle.meaning.specs.Below.{any_below}
use Rattle.meaning.specs.Query.{Kind, a_term, a_phrase, a_boolean, a_range, a_match_all, a_constant_score, a_boost, a_match_none, a_phrase_term, kind_of, children_fit, record_count, record_kind, record_occurrence, record_children, record_value, range_of, phrase_terms_of, Occur, must, should, must_not, filter, occur_of, Tree, term, phrase, boolean, range, match_all, constant_score, boost, match_none, clause, Decoded, DecodedClauses, decode, decode_kind, decode_clauses, decode_child, decode_phrase, is_phrase_term, guard, ◌>>=◌}
use Rattle.meaning.proofs.Below.{none_below}

-- ---- what a step of decoding that ends in something says
pub bind-some : {A B : Type 0} (o : Option A) (f : A → Option B) (b : B) → (o >>= f) ≡ some b → (a : A) × (o ≡ some a) × (f a ≡ some b)
bind-some none f b e = let z : ◌≡◌ {A = ℕ} 0 1 = cc in absurd (omega arith)
bind-some (some a) f b e = (a, refl, e)

pub guard-some : (b x : Bool) → guard b ≡ some x → b ≡ true
guard-some true x e = refl
guard-some false x e = let z : ◌≡◌ {A = ℕ} 0 1 = cc in absurd (omega arith)

pub both_true : (a b : Bool) → (a && b) ≡ true → (a ≡ true) × (b ≡ true)
both_true true b e = (refl, e)
both_true false b e = let z : ◌≡◌ {A = ℕ} 0 1 = cc in absurd (omega arith)

-- a tree is decoded at record r with k levels below it
pub record Opened (q : List ℕ) (k r : ℕ) (D : Decoded) : Type 0 where
  pub kind : Kind
  pub here : r < record_count q
  pub kind-is : kind_of (record_kind q r) ≡ some kind
  pub fits : children_fit kind (record_children q r) ≡ true
  pub decoded : decode_kind q (decode q k) k r kind ≡ some D

pub opened : (q : List ℕ) (k r : ℕ) (D : Decoded) → decode q (suc k) r ≡ some D → Opened q k r D
unfolding decode
opened q k r D e =
    let a = bind-some (guard (ltb r (record_count q))) _ D e in
    let b = bind-some (kind_of (record_kind q r)) _ D a.2 in
    let c = bind-some (guard (children_fit b.0 (record_children q r))) _ D b.2 in
    record {
      kind = b.0;
      here = ltb-true r (record_count q) (guard-some (ltb r (record_count q)) a.0 a.1);
      kind-is = b.1;
      fits = guard-some (children_fit b.0 (record_children q r)) c.0 c.1;
      decoded = c.2;
    }

-- a clause and those after it are decoded at record r, by `at`
pub record OneClause (q : List ℕ) (at : ℕ → Option Decoded) (n r : ℕ) (C : DecodedClauses) : Type 0 where
  pub occur : Occur
  pub first : Decoded
  pub rest : DecodedClauses
  pub occur-is : occur_of (record_occurrence q r) ≡ some occur
  pub first-is : at r ≡ some first
  pub rest-is : decode_clauses q at n first.next ≡ some rest
  pub clauses-are : C.clauses ≡ clause occur first.tree rest.clauses
  pub next-is : C.next ≡ rest.next

pub one-clause : (q : List ℕ) (at : ℕ → Option Decoded) (n r : ℕ) (C : DecodedClauses) → decode_clauses q at (suc n) r ≡ some C → OneClause q at n r C
unfolding decode_clauses
one-clause q at n r C e =
    let a = bind-some (occur_of (record_occurrence q r)) _ C e in
    let b = bind-some (at r) _ C a.2 in
    let c = bind-some (decode_clauses q at n b.0.next) _ C b.2 in
    record {
      occur = a.0;
      first = b.0;
      rest = c.0;
      occur-is = a.1;
      first-is = b.1;
      rest-is = c.1;
      clauses-are = sym (ap DecodedClauses.clauses (some_is _ _ c.2));
      next-is = sym (ap DecodedClauses.next (some_is _ _ c.2));
    }
  where
    some_is : (x y : DecodedClauses) → ◌≡◌ {A = Option DecodedClauses} (some x) (some y) → x ≡ y
    some_is x y e = cc

pub some_same : {A : Type 0} (x y : A) → ◌≡◌ {A = Option A} (some x) (some y) → x ≡ y
some_same x y e = cc

-- ---- each kind's, where the record's number is that kind's
module _ (q : List ℕ) (k r : ℕ) (D : Decoded) (e : decode q (suc k) r ≡ some D) where
  pub record-here : r < record_count q
  record-here = (opened q k r D e).here

  -- the kind is what the record's number says
  kind-as : (kind : Kind) → kind_of (record_kind q r) ≡ some kind → (opened q k r D e).kind ≡ kind
  kind-as kind h = some_same _ _ (sym (opened q k r D e).kind-is ∙ h)

  decoded-as : (kind : Kind) → kind_of (record_kind q r) ≡ some kind → decode_kind q (decode q k) k r kind ≡ some D
  decoded-as kind h = rw (kind-as kind h) at (opened q k r D e).decoded

  fits-as : (kind : Kind) → kind_of (record_kind q r) ≡ some kind → children_fit kind (record_children q r) ≡ true
  fits-as kind h = rw (kind-as kind h) at (opened q k r D e).fits

  pub record LeafAt (tree : Tree) : Type 0 where
    pub tree_is : D.tree ≡ tree
    pub next-is : D.next ≡ r + 1
    pub no-children : record_children q r ≡ 0

  leaf-as : (t : Tree) → some (record { tree = t; next = r + 1 }) ≡ some D → eqb (record_children q r) 0 ≡ true → LeafAt t
  leaf-as t h f =
      let same = some_same (record { tree = t; next = r + 1 }) D h in
      record {
        tree_is = sym (ap Decoded.tree same);
        next-is = sym (ap Decoded.next same);
        no-children = eqb-true (record_children q r) 0 f;
      }

  pub term-at : record_kind q r ≡ 1 → LeafAt (term (record_value q r 0))
  unfolding decode_kind
  term-at h = leaf-as (term (record_value q r 0)) (decoded-as a_term (ap kind_of h)) (fits-as a_term (ap kind_of h))

  pub range_at : record_kind q r ≡ 4 → LeafAt (range (range_of q r))
  unfolding decode_kind
  range_at h = leaf-as (range (range_of q r)) (decoded-as a_range (ap kind_of h)) (fits-as a_range (ap kind_of h))

  pub all-at : record_kind q r ≡ 5 → LeafAt match_all
  unfolding decode_kind
  all-at h = leaf-as match_all (decoded-as a_match_all (ap kind_of h)) (fits-as a_match_all (ap kind_of h))

  pub none-at : record_kind q r ≡ 8 → LeafAt match_none
  unfolding decode_kind
  none-at h = leaf-as match_none (decoded-as a_match_none (ap kind_of h)) (fits-as a_match_none (ap kind_of h))

  -- a phrase: its terms are the PhraseTerm records after it
  pub record PhraseAt : Type 0 where
    pub tree_is : D.tree ≡ phrase (record_value q r 0) (phrase_terms_of q r)
    pub next-is : D.next ≡ r + 1 + record_children q r
    pub some-terms : 1 ≤ record_children q r
    pub few-terms : record_children q r ≤ 32
    pub deep : 0 < k
    pub terms-here : r + 1 + record_children q r ≤ record_count q
    pub terms-are : (j : ℕ) → j < record_children q r → is_phrase_term q (r + 1 + j) ≡ true

  pub phrase-at : record_kind q r ≡ 2 → PhraseAt
  unfolding decode_kind decode_phrase
  phrase-at h =
      let n = record_children q r in
      let f = both_true (leb 1 n) (leb n 32) (fits-as a_phrase (ap kind_of h)) in
      let a = bind-some (guard (ltb 0 k && leb (r + 1 + n) (record_count q))) _ D (decoded-as a_phrase (ap kind_of h)) in
      let b = bind-some (guard (not (any_below n (λ j. not (is_phrase_term q (r + 1 + j)))))) _ D a.2 in
      let inside = both_true (ltb 0 k) (leb (r + 1 + n) (record_count q)) (guard-some (ltb 0 k && leb (r + 1 + n) (record_count q)) a.0 a.1) in
      let right = none_below n (λ j. not (is_phrase_term q (r + 1 + j))) (not-true (any_below n (λ j. not (is_phrase_term q (r + 1 + j)))) (guard-some (not (any_below n (λ j. not (is_phrase_term q (r + 1 + j))))) b.0 b.1)) in
      record {
        tree_is = sym (ap Decoded.tree (some_same _ _ b.2));
        next-is = sym (ap Decoded.next (some_same _ _ b.2));
        some-terms = leb-true 1 n f.0;
        few-terms = leb-true n 32 f.1;
        deep = ltb-true 0 k inside.0;
        terms-here = leb-true (r + 1 + n) (record_count q) inside.1;
        terms-are = λ j g. not-false (is_phrase_term q (r + 1 + j)) (right j g);
      }

  -- a Boolean: its clauses stand after it
  pub record BooleanAt : Type 0 where
    pub inside : DecodedClauses
    pub decoded : decode_clauses q (decode q k) (record_children q r) (r + 1) ≡ some inside
    pub tree_is : D.tree ≡ boolean (record_value q r 0) inside.clauses
    pub next-is : D.next ≡ inside.next
    pub few-clauses : record_children q r ≤ 64

  pub boolean-at : record_kind q r ≡ 3 → BooleanAt
  unfolding decode_kind
  boolean-at h =
      let a = bind-some (decode_clauses q (decode q k) (record_children q r) (r + 1)) _ D (decoded-as a_boolean (ap kind_of h)) in
      record {
        inside = a.0;
        decoded = a.1;
        tree_is = sym (ap Decoded.tree (some_same _ _ a.2));
        next-is = sym (ap Decoded.next (some_same _ _ a.2));
        few-clauses = leb-true (record_children q r) 64 (fits-as a_boolean (ap kind_of h));
      }

  -- a ConstantScore or a Boost: its only child stands after it
  pub record ChildAt (node : Tree → Tree) : Type 0 where
    pub child : Decoded
    pub decoded : decode q k (r + 1) ≡ some child
    pub tree_is : D.tree ≡ node child.tree
    pub next-is : D.next ≡ child.next
    pub one-child : record_children q r ≡ 1
    pub no-occurrence : record_occurrence q (r + 1) ≡ 0

  child-as : (node : Tree → Tree) → (decode_child q (decode q k) r >>= λ t. some (record { tree = node t.tree; next = t.next })) ≡ some D → eqb (record_children q r) 1 ≡ true → ChildAt node
  unfolding decode_child
  child-as node h f =
      let a = bind-some (decode_child q (decode q k) r) (λ t. some (record { tree = node t.tree; next = t.next })) D h in
      let b = bind-some (guard (eqb (record_occurrence q (r + 1)) 0)) _ a.0 a.1 in
      record {
        child = a.0;
        decoded = b.2;
        tree_is = sym (ap Decoded.tree (some_same _ _ a.2));
        next-is = sym (ap Decoded.next (some_same _ _ a.2));
        one-child = eqb-true (record_children q r) 1 f;
        no-occurrence = eqb-true (record_occurrence q (r + 1)) 0 (guard-some (eqb (record_occurrence q (r + 1)) 0) b.0 b.1);
      }

  pub constant-at : record_kind q r ≡ 6 → ChildAt constant_score
  unfolding decode_kind
  constant-at h = child-as constant_score (decoded-as a_constant_score (ap kind_of h)) (fits-as a_constant_score (ap kind_of h))

  pub boost-at : record_kind q r ≡ 7 → ChildAt (boost (record_value q r 0))
  unfolding decode_kind
  boost-at h = child-as (boost (record_value q r 0)) (decoded-as a_boost (ap kind_of h)) (fits-as a_boost (ap kind_of h))

-- ---- the kinds that a tree's record can have
pub data KindIs (n : ℕ) : Type 0 where
  is-term : n ≡ 1 → KindIs n
  is-phrase : n ≡ 2 → KindIs n
  is-boolean : n ≡ 3 → KindIs n
  is-range : n ≡ 4 → KindIs n
  is_all : n ≡ 5 → KindIs n
  is-constant : n ≡ 6 → KindIs n
  is-boost : n ≡ 7 → KindIs n
  is_none : n ≡ 8 → KindIs n

abbrev number_of : Kind → ℕ
number_of a_term = 1
number_of a_phrase = 2
number_of a_boolean = 3
number_of a_range = 4
number_of a_match_all = 5
number_of a_constant_score = 6
number_of a_boost = 7
number_of a_match_none = 8
number_of a_phrase_term = 9

kind-number : (n : ℕ) (kind : Kind) → kind_of n ≡ some kind → n ≡ number_of kind
kind-number zero kind e = let z : ◌≡◌ {A = ℕ} 0 1 = cc in absurd (omega arith)
kind-number (suc zero) kind e = ap number_of (some_same a_term kind e)
kind-number (suc (suc zero)) kind e = ap number_of (some_same a_phrase kind e)
kind-number (suc (suc (suc zero))) kind e = ap number_of (some_same a_boolean kind e)
kind-number (suc (suc (suc (suc zero)))) kind e = ap number_of (some_same a_range kind e)
kind-number (suc (suc (suc (suc (suc zero))))) kind e = ap number_of (some_same a_match_all kind e)
kind-number (suc (suc (suc (suc (suc (suc zero)))))) kind e = ap number_of (some_same a_constant_score kind e)
kind-number (suc (suc (suc (suc (suc (suc (suc zero))))))) kind e = ap number_of (some_same a_boost kind e)
kind-number (suc (suc (suc (suc (suc (suc (suc (suc zero)))))))) kind e = ap number_of (some_same a_match_none kind e)
kind-number (suc (suc (suc (suc (suc (suc (suc (suc (suc zero))))))))) kind e = ap number_of (some_same a_phrase_term kind e)
kind-number (suc (suc (suc (suc (suc (suc (suc (suc (suc (suc n)))))))))) kind e = let z : ◌≡◌ {A = ℕ} 0 1 = cc in absurd (omega arith)

pub kind-is : (q : List ℕ) (k r : ℕ) (D : Decoded) → decode q (suc k) r ≡ some D → KindIs (record_kind q r)
unfolding decode_kind
kind-is q k r D e = let o = opened q k r D e in go o.kind (kind-number (record_kind q r) o.kind o.kind-is) o.decoded
  where
    go : (kind : Kind) → record_kind q r ≡ number_of kind → decode_kind q (decode q k) k r kind ≡ some D → KindIs (record_kind q r)
    go a_term h d = is-term h
    go a_phrase h d = is-phrase h
    go a_boolean h d = is-boolean h
    go a_range h d = is-range h
    go a_match_all h d = is_all h
    go a_constant_score h d = is-constant h
    go a_boost h d = is-boost h
    go a_match_none h d = is_none h
    go a_phrase_term h d = let z : ◌≡◌ {A = ℕ} 0 1 = cc in absurd (omega arith)

-- ---- the number of an occurrence
abbrev pub occur_number : Occur → ℕ
occur_number must = 1
occur_number should = 2
occur_number must_not = 3
occur_number filter = 4

pub occur-number : (o : ℕ) (x : Occur) → occur_of o ≡ some x → o ≡ occur_number x
occur-number zero x e = let z : ◌≡◌ {A = ℕ} 0 1 = cc in absurd (omega arith)
occur-number (suc zero) x e = ap occur_number (some_same must x e)
occur-number (suc (suc zero)) x e = ap occur_number (some_same should x e)
occur-number (suc (suc (suc zero))) x e = ap occur_number (some_same must_not x e)
occur-number (suc (suc (suc (suc zero)))) x e = ap occur_number (some_same filter x e)
occur-number (suc (suc (suc (suc (suc o))))) x e = let z : ◌≡◌ {A = ℕ} 0 1 = cc in absurd (omega arith)
