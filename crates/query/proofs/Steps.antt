-- One step of decoding: from what a record says to what is decoded there. Assumes nothing.
use mathlib.Core.Path.{◌≡◌, refl, sym, ◌∙◌, ap}
use mathlib.Core.Bool.{Bool, true, false, not, cond, ◌&&◌}
use mathlib.Core.List.{List}
use Rattle.std.specs.Prelude.{Option as Answer, Some, None}
use mathlib.Core.Option.{Option, none, some}
use Prim.Native.Nat.{ℕ, zero, suc, ◌+◌, ◌-◌, ◌≤◌, ◌<◌}
use native.Mathlib.Omega.{arith}
use lib.Dec.{eqb, ltb}
use borrow.Author.Tests.{lt-ltb, le-ltb, eq-eqb, ne_eqb, le-leb, lt-leb}
use Rattle.std.specs.Bool.{then_some}
use mathlib.Core.Logic.{◌⊎◌, inl, inr}
use Rattle.meaning.specs.Below.{any_below}
use Rattle.meaning.specs.Query.{phrase, phrase_terms_of, record_value, Kind, a_term, a_phrase, a_boolean, a_range, a_match_all, a_constant_score, a_boost, a_match_none, a_phrase_term, kind_of, children_fit, record_count, record_kind, record_occurrence, record_children, Decoded, DecodedClauses, decode, decode_kind, decode_clauses, decode_child, decode_phrase, is_phrase_term, guard, ◌>>=◌}
use Rattle.query.specs.declared.kinds.Kind.{Kind as CodeKind}
use Rattle.query.specs.declared.kinds.Kind.TheVariants.{Term, Phrase, Boolean, Range, MatchAll, ConstantScore, Boost, MatchNone, PhraseTerm}
use Rattle.query.specs.Kinds.{kind_number}
use Rattle.query.specs.Inner.{decoded_end, end_of_clauses, fitting}

pub bind-none : {A B : Type 0} (o : Option A) (f : A → Option B) → ((a : A) → f a ≡ none) → (o >>= f) ≡ none
bind-none none f h = refl
bind-none (some a) f h = h a

module _ (q : List ℕ) (r : ℕ) where
  -- a tree is decoded at a record that is there, of a kind, with children that fit it
  pub decode-kind : (k : ℕ) (kind : Kind) → r < record_count q → kind_of (record_kind q r) ≡ some kind → children_fit kind (record_children q r) ≡ true → decode q (suc k) r ≡ decode_kind q (decode q k) k r kind
  unfolding decode
  decode-kind k kind h e f = rw (lt-ltb r (record_count q) h, e, f)

  pub decode-missing : (k : ℕ) → record_count q ≤ r → decode q k r ≡ none
  unfolding decode
  decode-missing zero h = refl
  decode-missing (suc k) h = rw (le-ltb r (record_count q) h)

  pub decode-unknown : (k : ℕ) → kind_of (record_kind q r) ≡ none → decode q k r ≡ none
  unfolding decode
  decode-unknown zero e = refl
  decode-unknown (suc k) e = bind-none (guard (ltb r (record_count q))) _ (λ ok. rw e)

  pub decode-unfit : (k : ℕ) (kind : Kind) → kind_of (record_kind q r) ≡ some kind → children_fit kind (record_children q r) ≡ false → decode q k r ≡ none
  unfolding decode
  decode-unfit zero kind e f = refl
  decode-unfit (suc k) kind e f = bind-none (guard (ltb r (record_count q))) _ (λ ok. rw (e, f))

  pub decode-astray : (k : ℕ) → kind_of (record_kind q r) ≡ some a_phrase_term → decode q k r ≡ none
  unfolding decode decode_kind
  decode-astray zero e = refl
  decode-astray (suc k) e =
      bind-none (guard (ltb r (record_count q))) _
      (λ ok. rw e (bind-none (guard (eqb (record_children q r) 0)) _ (λ ok. refl)))

  -- ---- a phrase
  pub phrase-shallow : (d : ℕ) → d ≡ 0 → None ≡ decoded_end (decode_phrase q d r)
  unfolding decode_phrase
  phrase-shallow d e = rw e

  pub phrase-missing : (d : ℕ) → record_count q < r + 1 + record_children q r → None ≡ decoded_end (decode_phrase q d r)
  unfolding decode_phrase
  phrase-missing d h =
      rw (lt-leb (r + 1 + record_children q r) (record_count q) h) (unguarded (ltb 0 d) _)
    where
      unguarded : (b : Bool) (f : Bool → Option Decoded) → None ≡ decoded_end (guard (b && false) >>= f)
      unguarded true f = refl
      unguarded false f = refl

  -- where there are records enough and a level is left, the terms decide
  pub phrase-terms : (d : ℕ) → 0 < d → r + 1 + record_children q r ≤ record_count q → (right : Bool) → right ≡ not (any_below (record_children q r) (λ j. not (is_phrase_term q (r + 1 + j)))) → then_some right (r + 1 + record_children q r) ≡ decoded_end (decode_phrase q d r)
  unfolding decode_phrase
  phrase-terms d h g right e =
      rw (lt-ltb 0 d h, le-leb (r + 1 + record_children q r) (record_count q) g) (go (any_below (record_children q r) (λ j. not (is_phrase_term q (r + 1 + j)))) e)
    where
      go : (b : Bool) → right ≡ not b → then_some right (r + 1 + record_children q r) ≡ decoded_end (guard (not b) >>= λ ok. some (record { tree = phrase (record_value q r 0) (phrase_terms_of q r); next = r + 1 + record_children q r }))
      go true z = rw z
      go false z = rw z

-- where the depth left is not 0, it is one more than what is left below
pub one_less : (d : ℕ) → (d ≡ 0 → ⊥) → d ≡ suc (d - 1)
one_less zero h = absurd (h refl)
one_less (suc d) h = omega arith

-- ---- the children's number, as the code looks at it
module _ (kind : Kind) (q : List ℕ) (r : ℕ) where
  pub fit-no : (x : Answer ℕ) → children_fit kind (record_children q r) ≡ false → None ≡ fitting kind q r x
  fit-no x e = rw e

  pub fit-none : (x : Answer ℕ) → None ≡ x → None ≡ fitting kind q r x
  fit-none x e = go (children_fit kind (record_children q r))
    where
      go : (b : Bool) → None ≡ cond b x None
      go true = e
      go false = refl

  pub fit-yes : (x y : Answer ℕ) → children_fit kind (record_children q r) ≡ true → y ≡ x → y ≡ fitting kind q r x
  fit-yes x y e f = rw e f

pub terms-fit : (n : ℕ) → 0 < n → n ≤ 32 → children_fit a_phrase n ≡ true
terms-fit n h g = rw (le-leb 1 n h, le-leb n 32 g)

pub no-terms : (n : ℕ) → n ≡ 0 → children_fit a_phrase n ≡ false
no-terms n e = rw e

pub many-terms : (n : ℕ) → 32 < n → children_fit a_phrase n ≡ false
many-terms n h = rw (le-leb 1 n (omega arith), lt-leb n 32 h)

-- ---- a tree, by the kind of its record
-- what a bind ends in
end-boolean : (o : Option DecodedClauses) (f : DecodedClauses → Decoded) → ((cs : DecodedClauses) → (f cs).next ≡ cs.next) → decoded_end (o >>= λ cs. some (f cs)) ≡ end_of_clauses o
end-boolean none f e = refl
end-boolean (some cs) f e = ap Some (e cs)

end-child : (o : Option Decoded) (f : Decoded → Decoded) → ((t : Decoded) → (f t).next ≡ t.next) → decoded_end (o >>= λ t. some (f t)) ≡ decoded_end o
end-child none f e = refl
end-child (some t) f e = ap Some (e t)

module _ (q : List ℕ) (r d : ℕ) where
  pub end-root : d ≡ 0 → None ≡ decoded_end (decode q d r)
  unfolding decode
  end-root e = rw e

  pub end-missing : record_count q ≤ r → None ≡ decoded_end (decode q d r)
  end-missing h = rw (decode-missing q r d h)

  pub end-unknown : kind_of (record_kind q r) ≡ none → None ≡ decoded_end (decode q d r)
  end-unknown e = rw (decode-unknown q r d e)

  pub end-astray : kind_of (record_kind q r) ≡ some a_phrase_term → None ≡ decoded_end (decode q d r)
  end-astray e = rw (decode-astray q r d e)

  module _ (deep : d ≡ 0 → ⊥) (here : r < record_count q) where
    pub end-kind : (kind : Kind) → kind_of (record_kind q r) ≡ some kind → (x : Answer ℕ) → decoded_end (decode_kind q (decode q (d - 1)) (d - 1) r kind) ≡ x → fitting kind q r x ≡ decoded_end (decode q d r)
    end-kind kind e x f = go (children_fit kind (record_children q r)) refl
      where
        go : (b : Bool) → children_fit kind (record_children q r) ≡ b → cond b x None ≡ decoded_end (decode q d r)
        go true g = sym (ap (λ (z : ℕ). decoded_end (decode q z r)) (one_less d deep) ∙ ap decoded_end (decode-kind q r (d - 1) kind here e g) ∙ f)
        go false g = rw (decode-unfit q r d kind e g)

    pub end-term : record_kind q r ≡ 1 → fitting a_term q r (Some (r + 1)) ≡ decoded_end (decode q d r)
    unfolding decode_kind
    end-term e = end-kind a_term (ap kind_of e) (Some (r + 1)) refl

    pub end-phrase : record_kind q r ≡ 2 → fitting a_phrase q r (decoded_end (decode_phrase q (d - 1) r)) ≡ decoded_end (decode q d r)
    unfolding decode_kind
    end-phrase e = end-kind a_phrase (ap kind_of e) (decoded_end (decode_phrase q (d - 1) r)) refl

    pub end-clauses : record_kind q r ≡ 3 → fitting a_boolean q r (end_of_clauses (decode_clauses q (decode q (d - 1)) (record_children q r) (r + 1))) ≡ decoded_end (decode q d r)
    unfolding decode_kind
    end-clauses e =
        end-kind a_boolean (ap kind_of e) (end_of_clauses (decode_clauses q (decode q (d - 1)) (record_children q r) (r + 1)))
        (end-boolean (decode_clauses q (decode q (d - 1)) (record_children q r) (r + 1)) _ (λ cs. refl))

    pub end-range : record_kind q r ≡ 4 → fitting a_term q r (Some (r + 1)) ≡ decoded_end (decode q d r)
    unfolding decode_kind
    end-range e = end-kind a_range (ap kind_of e) (Some (r + 1)) refl

    pub end-all : record_kind q r ≡ 5 → fitting a_term q r (Some (r + 1)) ≡ decoded_end (decode q d r)
    unfolding decode_kind
    end-all e = end-kind a_match_all (ap kind_of e) (Some (r + 1)) refl

    pub end-constant : record_kind q r ≡ 6 → fitting a_boost q r (decoded_end (decode_child q (decode q (d - 1)) r)) ≡ decoded_end (decode q d r)
    unfolding decode_kind
    end-constant e =
        end-kind a_constant_score (ap kind_of e) (decoded_end (decode_child q (decode q (d - 1)) r))
        (end-child (decode_child q (decode q (d - 1)) r) _ (λ t. refl))

    pub end-boost : record_kind q r ≡ 7 → fitting a_boost q r (decoded_end (decode_child q (decode q (d - 1)) r)) ≡ decoded_end (decode q d r)
    unfolding decode_kind
    end-boost e =
        end-kind a_boost (ap kind_of e) (decoded_end (decode_child q (decode q (d - 1)) r))
        (end-child (decode_child q (decode q (d - 1)) r) _ (λ t. refl))

    pub end_none : record_kind q r ≡ 8 → fitting a_term q r (Some (r + 1)) ≡ decoded_end (decode q d r)
    unfolding decode_kind
    end_none e = end-kind a_match_none (ap kind_of e) (Some (r + 1)) refl

-- ---- an only child
module _ (q : List ℕ) (d r : ℕ) where
  pub child-missing : record_count q ≤ r + 1 → None ≡ decoded_end (decode_child q (decode q d) r)
  unfolding decode_child
  child-missing h =
      rw (bind-none (guard (eqb (record_occurrence q (r + 1)) 0)) (λ ok. decode q d (r + 1)) (λ ok. decode-missing q (r + 1) d h))

  pub child-placed : (record_occurrence q (r + 1) ≡ 0 → ⊥) → None ≡ decoded_end (decode_child q (decode q d) r)
  unfolding decode_child
  child-placed h = rw (ne_eqb (record_occurrence q (r + 1)) 0 h)

  pub child-there : record_occurrence q (r + 1) ≡ 0 → decoded_end (decode q d (r + 1)) ≡ decoded_end (decode_child q (decode q d) r)
  unfolding decode_child
  child-there h = rw (eq-eqb (record_occurrence q (r + 1)) 0 h)

-- ---- a tree, by its record's kind as the code names it
abbrev pub end_at : List ℕ → ℕ → ℕ → CodeKind → Answer ℕ
end_at q r below Term = fitting a_term q r (Some (r + 1))
end_at q r below Phrase = fitting a_phrase q r (decoded_end (decode_phrase q below r))
end_at q r below Boolean = fitting a_boolean q r (end_of_clauses (decode_clauses q (decode q below) (record_children q r) (r + 1)))
end_at q r below Range = fitting a_term q r (Some (r + 1))
end_at q r below MatchAll = fitting a_term q r (Some (r + 1))
end_at q r below ConstantScore = fitting a_boost q r (decoded_end (decode_child q (decode q below) r))
end_at q r below Boost = fitting a_boost q r (decoded_end (decode_child q (decode q below) r))
end_at q r below MatchNone = fitting a_term q r (Some (r + 1))
end_at q r below PhraseTerm = None

module _ (q : List ℕ) (r d : ℕ) (deep : 1 ≤ d) (here : r < record_count q) where
  some-level : d ≡ 0 → ⊥
  some-level e = omega (arith, deep, e)

  end-at : (kind : CodeKind) → record_kind q r ≡ kind_number kind → end_at q r (d - 1) kind ≡ decoded_end (decode q d r)
  end-at Term e = end-term q r d some-level here e
  end-at Phrase e = end-phrase q r d some-level here e
  end-at Boolean e = end-clauses q r d some-level here e
  end-at Range e = end-range q r d some-level here e
  end-at MatchAll e = end-all q r d some-level here e
  end-at ConstantScore e = end-constant q r d some-level here e
  end-at Boost e = end-boost q r d some-level here e
  end-at MatchNone e = end_none q r d some-level here e
  end-at PhraseTerm e = end-astray q r d (ap kind_of e)

  pub end-by-kind : (kind : CodeKind) (below : ℕ) → below ≡ d - 1 → record_kind q r ≡ kind_number kind → (x : Answer ℕ) → x ≡ end_at q r below kind → x ≡ decoded_end (decode q d r)
  end-by-kind kind below b e x f = rw (f, b) (end-at kind e)

  -- the four kinds of a leaf
  pub end-of-leaf : (kind : CodeKind) → ◌⊎◌ (kind ≡ Term) (◌⊎◌ (kind ≡ Range) (◌⊎◌ (kind ≡ MatchAll) (kind ≡ MatchNone))) → record_kind q r ≡ kind_number kind → fitting a_term q r (Some (r + 1)) ≡ decoded_end (decode q d r)
  end-of-leaf kind (inl k) e = end-at Term (e ∙ ap kind_number k)
  end-of-leaf kind (inr (inl k)) e = end-at Range (e ∙ ap kind_number k)
  end-of-leaf kind (inr (inr (inl k))) e = end-at MatchAll (e ∙ ap kind_number k)
  end-of-leaf kind (inr (inr (inr k))) e = end-at MatchNone (e ∙ ap kind_number k)
