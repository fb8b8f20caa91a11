-- Refusal 9: the boost that is carried down a tree, as the code carries it. Assumes nothing.
use mathlib.Core.Path.{◌≡◌, refl, sym, ◌∙◌, ap, subst}
use mathlib.Core.Bool.{Bool, true, false, not, cond}
use mathlib.Core.List.{List}
use Rattle.std.specs.Prelude.{Option as Answer, Some, None, is_some}
use mathlib.Core.Option.{Option, some}
use mathlib.Core.Logic.{◌⊎◌, inl, inr}
use Prim.Native.Nat.{ℕ, zero, suc, ◌+◌, ◌-◌, ◌%◌, ◌≤◌, ◌<◌}
use native.Mathlib.Omega.{arith}
use native.Mathlib.Nat.{not-suc-le-zero}
use lib.Dec.{T}
use lib.Ieee.{Float, binary32, lt, of_bits, nan_bits}
use lib.Ieee.Bits.{nan_bits_above}
use borrow.Author.Tests.{le-ltb}
use Rattle.meaning.specs.Limits.{largest_boost}
use Rattle.meaning.specs.Ieee754.{zero_float}
use Rattle.meaning.specs.Score.{boosted, passed}
use Rattle.meaning.specs.Query.{record_count, record_kind, record_children, record_value, Tree, term, phrase, boolean, range, match_all, constant_score, boost, match_none, empty, Decoded, DecodedClauses, decode, decode_clauses, tree_of, Clauses}
use Rattle.meaning.specs.Bm25.{one}
use Rattle.meaning.specs.QueryRefusals.{wrong7, above_limit, carries_above, clauses_above, wrong9}
use Rattle.query.specs.declared.kinds.Kind.{Kind}
use Rattle.query.specs.declared.kinds.Kind.TheVariants.{Term, Range, MatchAll, MatchNone}
use Rattle.query.specs.Kinds.{kind_number}
use Rattle.query.specs.Inner.{end_below_limit, clauses_below_limit}
use Rattle.meaning.proofs.Tests.{or_right}
use Rattle.query.proofs.Inverse.{OneClause, one-clause, record-here, term-at, phrase-at, boolean-at, range_at, all-at, constant-at, boost-at, none-at, kind-is, KindIs, is-term, is-phrase, is-boolean, is-range, is_all, is-constant, is-boost, is_none, some_same}
use Rattle.query.proofs.Whole.{whole}
use Rattle.query.proofs.Spans.{no-depth, nothing}

-- ---- what a ConstantScore passes on
-- the code's 0.0
zero_bits : of_bits binary32 0 ≡ zero_float
unfolding of_bits
zero_bits = refl

-- ---- a boost's pattern is no NaN's
pub boost-number : (n : ℕ) → n ≤ largest_boost → T (not (nan_bits binary32 n))
boost-number n h = rw (nan_bits_above binary32 n, le-ltb 0x7f80_0000 (n % 0x8000_0000) (omega (arith, h))) tt

-- ---- a tree
pub carries-here : (t : Tree) (b : Float) → above_limit b ≡ true → carries_above t b ≡ true
unfolding carries_above
carries-here (term l) b e = e
carries-here (phrase f ts) b e = e
carries-here (boolean m cs) b e = rw e
carries-here (range r) b e = e
carries-here match_all b e = e
carries-here (constant_score t) b e = rw e
carries-here (boost v t) b e = rw e
carries-here match_none b e = e

pub limit-passed : (o : Option Decoded) (b : Float) → above_limit b ≡ true → None ≡ end_below_limit o b
limit-passed o b e = rw (carries-here (tree_of o) b e)

-- one level at least
pub level : (q : List ℕ) (d r : ℕ) (D : Decoded) → decode q d r ≡ some D → d ≡ suc (d - 1)
level q zero r D e = nothing D (no-depth q r D e)
level q (suc d) r D e = omega arith

pub decoded-here : (q : List ℕ) (d r : ℕ) (D : Decoded) → decode q d r ≡ some D → r < record_count q
decoded-here q zero r D e = nothing D (no-depth q r D e)
decoded-here q (suc d) r D e = record-here q d r D e

module _ (q : List ℕ) (d r : ℕ) (D : Decoded) (b : Float) (e : decode q d r ≡ some D) (within : above_limit b ≡ false) where
  below : decode q (suc (d - 1)) r ≡ some D
  below = subst (λ (z : ℕ). decode q z r ≡ some D) (level q d r D e) e

  ends_as : (t : Tree) (x : ℕ) (c : Bool) → D.tree ≡ t → D.next ≡ x → carries_above t b ≡ c → cond c None (Some x) ≡ end_below_limit (decode q d r) b
  ends_as t x c p n f = rw (e, p, f, n)

  pub below-phrase : record_kind q r ≡ 2 → Some (r + 1 + record_children q r) ≡ end_below_limit (decode q d r) b
  unfolding carries_above
  below-phrase h = let p = phrase-at q (d - 1) r D below h in ends_as _ _ false p.tree_is p.next-is within

  -- the four kinds of a leaf
  pub below-leaf : (kind : Kind) → ◌⊎◌ (kind ≡ Term) (◌⊎◌ (kind ≡ Range) (◌⊎◌ (kind ≡ MatchAll) (kind ≡ MatchNone))) → record_kind q r ≡ kind_number kind → Some (r + 1) ≡ end_below_limit (decode q d r) b
  unfolding carries_above
  below-leaf kind (inl k) h = let p = term-at q (d - 1) r D below (h ∙ ap kind_number k) in ends_as _ _ false p.tree_is p.next-is within
  below-leaf kind (inr (inl k)) h = let p = range_at q (d - 1) r D below (h ∙ ap kind_number k) in ends_as _ _ false p.tree_is p.next-is within
  below-leaf kind (inr (inr (inl k))) h = let p = all-at q (d - 1) r D below (h ∙ ap kind_number k) in ends_as _ _ false p.tree_is p.next-is within
  below-leaf kind (inr (inr (inr k))) h = let p = none-at q (d - 1) r D below (h ∙ ap kind_number k) in ends_as _ _ false p.tree_is p.next-is within

  -- the root of a tree is of a kind, and no PhraseTerm
  pub kind-known : (1 ≤ record_kind q r) × (record_kind q r ≤ 8)
  kind-known = go (kind-is q (d - 1) r D below)
    where
      go : KindIs (record_kind q r) → (1 ≤ record_kind q r) × (record_kind q r ≤ 8)
      go (is-term h) = (omega (arith, h), omega (arith, h))
      go (is-phrase h) = (omega (arith, h), omega (arith, h))
      go (is-boolean h) = (omega (arith, h), omega (arith, h))
      go (is-range h) = (omega (arith, h), omega (arith, h))
      go (is_all h) = (omega (arith, h), omega (arith, h))
      go (is-constant h) = (omega (arith, h), omega (arith, h))
      go (is-boost h) = (omega (arith, h), omega (arith, h))
      go (is_none h) = (omega (arith, h), omega (arith, h))

  pub below-boolean : record_kind q r ≡ 3 → clauses_below_limit (decode_clauses q (decode q (d - 1)) (record_children q r) (r + 1)) b ≡ end_below_limit (decode q d r) b
  unfolding carries_above
  below-boolean h =
      let p = boolean-at q (d - 1) r D below h in
      rw p.decoded (ends_as (boolean (record_value q r 0) p.inside.clauses) p.inside.next (clauses_above p.inside.clauses b) p.tree_is p.next-is (rw within))

  pub below-constant : record_kind q r ≡ 6 → end_below_limit (decode q (d - 1) (r + 1)) (of_bits binary32 0) ≡ end_below_limit (decode q d r) b
  unfolding carries_above
  below-constant h =
      let p = constant-at q (d - 1) r D below h in
      rw (zero_bits, p.decoded) (ends_as (constant_score p.child.tree) p.child.next (carries_above p.child.tree zero_float) p.tree_is p.next-is (rw within))

  pub below-boost : record_kind q r ≡ 7 → end_below_limit (decode q (d - 1) (r + 1)) (boosted b (record_value q r 0)) ≡ end_below_limit (decode q d r) b
  unfolding carries_above
  below-boost h =
      let p = boost-at q (d - 1) r D below h in
      rw p.decoded (ends_as (boost (record_value q r 0) p.child.tree) p.child.next (carries_above p.child.tree (boosted b (record_value q r 0))) p.tree_is p.next-is (rw within))

  pub below-clauses : record_kind q r ≡ 3 → (cs : DecodedClauses) × (decode_clauses q (decode q (d - 1)) (record_children q r) (r + 1) ≡ some cs)
  below-clauses h = let p = boolean-at q (d - 1) r D below h in (p.inside, p.decoded)

  pub below-constant-child : record_kind q r ≡ 6 → (t : Decoded) × (decode q (d - 1) (r + 1) ≡ some t)
  below-constant-child h = let p = constant-at q (d - 1) r D below h in (p.child, p.decoded)

  pub below-boost-child : record_kind q r ≡ 7 → (t : Decoded) × (decode q (d - 1) (r + 1) ≡ some t)
  below-boost-child h = let p = boost-at q (d - 1) r D below h in (p.child, p.decoded)

-- ---- the clauses of a Boolean, one by one
abbrev pub left_below : DecodedClauses → Float → Answer ℕ
left_below C b = cond (clauses_above C.clauses b) None (Some C.next)

pub first-clause : (q : List ℕ) (at : ℕ → Option Decoded) (n r : ℕ) (C : DecodedClauses) → 0 < n → decode_clauses q at n r ≡ some C → OneClause q at (n - 1) r C
first-clause q at zero r C h e = absurd (not-suc-le-zero h)
first-clause q at (suc n) r C h e = subst (λ (z : ℕ). OneClause q at z r C) less (one-clause q at n r C e)
  where
    less : n ≡ suc n - 1
    less = omega arith

pub none-left-below : (q : List ℕ) (at : ℕ → Option Decoded) (n r : ℕ) (C : DecodedClauses) (b : Float) → n ≤ 0 → decode_clauses q at n r ≡ some C → Some r ≡ left_below C b
unfolding decode_clauses clauses_above
none-left-below q at zero r C b h e = ap (λ (D : DecodedClauses). left_below D b) (some_same (record { clauses = empty; next = r }) C e)
none-left-below q at (suc n) r C b h e = absurd (not-suc-le-zero h)

module _ (q : List ℕ) (d n r : ℕ) (x : Answer ℕ) (C : DecodedClauses) (b c : Float) (this : OneClause q (decode q d) n r C) (c-is : c ≡ passed this.occur b) (x-is : x ≡ end_below_limit (decode q d r) c) where
  at_first : x ≡ cond (carries_above this.first.tree (passed this.occur b)) None (Some this.first.next)
  at_first = rw (this.first-is, c-is) at x-is

  -- the code's result is none exactly where the limit is passed
  pub clause-above : x ≡ None → None ≡ left_below C b
  unfolding clauses_above
  clause-above z = go (carries_above this.first.tree (passed this.occur b)) refl (sym z ∙ at_first)
    where
      go : (a : Bool) → carries_above this.first.tree (passed this.occur b) ≡ a → None ≡ cond a None (Some this.first.next) → None ≡ left_below C b
      go true f w = rw (this.clauses-are, f)
      go false f w = cc

  pub clause-on : (next : ℕ) → x ≡ Some next → (next ≡ this.first.next) × (left_below this.rest b ≡ left_below C b)
  unfolding clauses_above
  clause-on next z = go (carries_above this.first.tree (passed this.occur b)) refl (sym z ∙ at_first)
    where
      go : (a : Bool) → carries_above this.first.tree (passed this.occur b) ≡ a → Some next ≡ cond a None (Some this.first.next) → (next ≡ this.first.next) × (left_below this.rest b ≡ left_below C b)
      go true f w = cc
      go false f w = (cc, rw (this.clauses-are, f, this.next-is))

-- ---- the code's test, and the whole query
pub limit : (b : Float) (a : Bool) → lt (of_bits binary32 largest_boost) b ≡ a → above_limit b ≡ a
unfolding above_limit
limit b a e = e

pub query-above : (q : List ℕ) (e : wrong7 q ≡ false) (x : Answer ℕ) → x ≡ end_below_limit (decode q 16 0) one → not (is_some x) ≡ wrong9 q
unfolding wrong9
query-above q e x f =
    let w = whole q e in
    let g : x ≡ cond (carries_above w.root.tree one) None (Some w.root.next) = rw w.root_is at f in
    rw w.tree_is (go (carries_above w.root.tree one) g)
  where
    go : (a : Bool) → x ≡ cond a None (Some (whole q e).root.next) → not (is_some x) ≡ a
    go true g = rw g
    go false g = rw g

-- ---- what refusal 9 lets through, from a node to those below it
pub within-here : (t : Tree) (b : Float) → carries_above t b ≡ false → above_limit b ≡ false
within-here t b e = go (above_limit b) refl
  where
    go : (a : Bool) → above_limit b ≡ a → above_limit b ≡ false
    go true f = let z : ◌≡◌ {A = Bool} true false = sym (carries-here t b f) ∙ e in let y : ◌≡◌ {A = ℕ} 0 1 = cc in absurd (omega arith)
    go false f = f

pub within-constant : (t : Tree) (b : Float) → carries_above (constant_score t) b ≡ false → carries_above t zero_float ≡ false
unfolding carries_above
within-constant t b e = or_right (above_limit b) (carries_above t zero_float) e

pub within-boost : (v : ℕ) (t : Tree) (b : Float) → carries_above (boost v t) b ≡ false → carries_above t (boosted b v) ≡ false
unfolding carries_above
within-boost v t b e = or_right (above_limit b) (carries_above t (boosted b v)) e

pub within-boolean : (m : ℕ) (cs : Clauses) (b : Float) → carries_above (boolean m cs) b ≡ false → clauses_above cs b ≡ false
unfolding carries_above
within-boolean m cs b e = or_right (above_limit b) (clauses_above cs b) e
