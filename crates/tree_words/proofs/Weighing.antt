-- What `weigh` makes of a record's tree, in the words of the code, and the bound of what a leaf scores by. Assumes nothing.
use mathlib.Core.Path.{◌≡◌, refl, sym, ◌∙◌, ap}
use mathlib.Core.Bool.{Bool, true, false, cond}
use mathlib.Core.List.{List}
use mathlib.Core.Option.{some}
use Prim.Native.Nat.{ℕ, ◌+◌, ◌-◌, ◌*◌, ◌^◌, ◌≤◌}
use native.Mathlib.Nat.{le_refl}
use native.Mathlib.Omega.{arith}
use lib.Dec.{lit≤}
use lib.ListN.{length}
use lib.Ieee.{Float, binary32, of_bits}
use Rattle.meaning.specs.Limits.{node_state_words}
use Rattle.meaning.specs.Lent.{Index, leaf_idf}
use Rattle.meaning.specs.Ieee754.{zero_float}
use Rattle.meaning.specs.Bm25.{weight}
use Rattle.meaning.specs.Phrase.{PhraseTerm}
use Rattle.meaning.specs.Range.{NumericRange}
use Rattle.meaning.specs.Query.{Tree, record_kind, record_children, record_value, phrase_terms_of, Decoded, decode}
use Rattle.meaning.specs.Query
use Rattle.meaning.specs.Score.{phrase_idf, boosted}
use Rattle.meaning.specs.Scorer.{has_scorer}
use Rattle.meaning.proofs.Below.{length-list_to}
use Rattle.query.proofs.Inverse.{term-at, phrase-at}
use Rattle.ieee754.specs.Nonneg.{AtMost}
use Rattle.ieee754.proofs.Bounds.{atmost-more}
use Rattle.sim.proofs.ScoreBounds.{weight-atmost, phrase-weight-atmost}
use Rattle.tree_weight.proofs.Standing.{deep}
use Rattle.tree_weight.proofs.Presence.{absent, present}
use Rattle.tree_weight.specs.ScorerTree.{Leaf, nothing, term, phrase, range, everything, constant, Scorer, leaf, boolean}
use Rattle.tree_weight.specs.State.{leaf_size, size_of}
use Rattle.tree_weight.specs.Weigh.{weigh, no_scorer}
use Rattle.tree_words.specs.Placed.{scoring_of, kept_of}

module _ (ix : Index) (b : Float) (f : Bool) (x : Float) where
  pub weigh-term-none : (l : ℕ) → has_scorer ix (Query.term l) ≡ false → weigh ix (Query.term l) b (kept_of f x) ≡ no_scorer
  unfolding weigh
  weigh-term-none l h = rw h

  pub weigh-phrase-none : (g : ℕ) (ts : List PhraseTerm) → has_scorer ix (Query.phrase g ts) ≡ false → weigh ix (Query.phrase g ts) b (kept_of f x) ≡ no_scorer
  unfolding weigh
  weigh-phrase-none g ts h = rw h

  pub weigh-boost : (v : ℕ) (t : Tree) → weigh ix (Query.boost v t) b (kept_of f x) ≡ weigh ix t (boosted b v) (kept_of f x)
  unfolding weigh
  weigh-boost v t = refl

  pub weigh-none : weigh ix Query.match_none b (kept_of f x) ≡ no_scorer
  unfolding weigh
  weigh-none = refl

module _ (ix : Index) (b x : Float) where
  pub weigh-range : (f : Bool) (r : NumericRange) → weigh ix (Query.range r) b (kept_of f x) ≡ leaf (range r) (constant (cond f x b))
  unfolding weigh
  weigh-range true r = refl
  weigh-range false r = refl

  pub weigh-all : (f : Bool) → weigh ix Query.match_all b (kept_of f x) ≡ leaf everything (constant (cond f x b))
  unfolding weigh
  weigh-all true = refl
  weigh-all false = refl

  pub weigh-constant : (f : Bool) (t : Tree) → weigh ix (Query.constant_score t) b (kept_of f x) ≡ weigh ix t zero_float (kept_of true (cond f x b))
  unfolding weigh
  weigh-constant true t = refl
  weigh-constant false t = refl

  pub weigh-term : (f : Bool) (l : ℕ) → has_scorer ix (Query.term l) ≡ true → weigh ix (Query.term l) b (kept_of f x) ≡ leaf (term l) (scoring_of f (cond f x (weight b (of_bits binary32 (leaf_idf ix l)))))
  unfolding weigh
  weigh-term true l h = rw h
  weigh-term false l h = rw h

  pub weigh-phrase : (f : Bool) (g : ℕ) (ts : List PhraseTerm) → has_scorer ix (Query.phrase g ts) ≡ true → weigh ix (Query.phrase g ts) b (kept_of f x) ≡ leaf (phrase g ts) (scoring_of f (cond f x (weight b (phrase_idf ix ts))))
  unfolding weigh
  weigh-phrase true g ts h = rw h
  weigh-phrase false g ts h = rw h

-- a term's or a phrase's score is small
pub term-small : (f : Bool) (x b idf : Float) → AtMost (2 ^ 29) x → AtMost (2 ^ 16) b → AtMost (2 ^ 6) idf → AtMost (2 ^ 29) (cond f x (weight b idf))
term-small true x b idf k s i = k
term-small false x b idf k s i = atmost-more (lit≤ tt) (weight-atmost b idf s i)

pub phrase-small : (f : Bool) (x b idf : Float) → AtMost (2 ^ 29) x → AtMost (2 ^ 16) b → AtMost (2 ^ 11) idf → AtMost (2 ^ 29) (cond f x (weight b idf))
phrase-small true x b idf k s i = k
phrase-small false x b idf k s i = atmost-more (lit≤ tt) (phrase-weight-atmost b idf s i)

-- ---- the Term at a record
module _ (ix : Index) (q : List ℕ) (k at : ℕ) (D : Decoded) (e : decode q k at ≡ some D) (kind : record_kind q at ≡ 1) (b x : Float) (f : Bool) (here : ℕ) (is : here ≡ cond (has_scorer ix D.tree) 1 0) where
  tree_is : D.tree ≡ Query.term (record_value q at 0)
  tree_is = (term-at q (k - 1) at D (deep q k at D e) kind).tree_is

  pub term-nothing : here ≡ 0 → weigh ix D.tree b (kept_of f x) ≡ no_scorer
  term-nothing z =
      ap (λ (t : Tree). weigh ix t b (kept_of f x)) tree_is ∙ weigh-term-none ix b f x (record_value q at 0) (ap (has_scorer ix) (sym tree_is) ∙ absent here (has_scorer ix D.tree) is z)

  pub term-there : (l : ℕ) (idf score : Float) → (here ≡ 0 → ⊥) → l ≡ record_value q at 0 → idf ≡ of_bits binary32 (leaf_idf ix l) → score ≡ cond f x (weight b idf) → weigh ix D.tree b (kept_of f x) ≡ leaf (term l) (scoring_of f score)
  term-there l idf score z m i s =
      ap (λ (t : Tree). weigh ix t b (kept_of f x)) (tree_is ∙ ap Query.term (sym m))
      ∙ weigh-term ix b x f l (ap (has_scorer ix) (ap Query.term m ∙ sym tree_is) ∙ present here (has_scorer ix D.tree) is z)
      ∙ ap (λ (y : Float). leaf (term l) (scoring_of f (cond f x (weight b y)))) (sym i)
      ∙ ap (λ (y : Float). leaf (term l) (scoring_of f y)) (sym s)

-- ---- the Phrase at a record
module _ (ix : Index) (q : List ℕ) (k at : ℕ) (D : Decoded) (e : decode q k at ≡ some D) (kind : record_kind q at ≡ 2) (b x : Float) (f : Bool) (here : ℕ) (is : here ≡ cond (has_scorer ix D.tree) 1 0) where
  phrase-is : D.tree ≡ Query.phrase (record_value q at 0) (phrase_terms_of q at)
  phrase-is = (phrase-at q (k - 1) at D (deep q k at D e) kind).tree_is

  pub phrase-nothing : here ≡ 0 → weigh ix D.tree b (kept_of f x) ≡ no_scorer
  phrase-nothing z =
      ap (λ (t : Tree). weigh ix t b (kept_of f x)) phrase-is
      ∙ weigh-phrase-none ix b f x (record_value q at 0) (phrase_terms_of q at) (ap (has_scorer ix) (sym phrase-is) ∙ absent here (has_scorer ix D.tree) is z)

  phrase-weighed : (here ≡ 0 → ⊥) → weigh ix D.tree b (kept_of f x) ≡ leaf (phrase (record_value q at 0) (phrase_terms_of q at)) (scoring_of f (cond f x (weight b (phrase_idf ix (phrase_terms_of q at)))))
  phrase-weighed z =
      ap (λ (t : Tree). weigh ix t b (kept_of f x)) phrase-is
      ∙ weigh-phrase ix b x f (record_value q at 0) (phrase_terms_of q at) (ap (has_scorer ix) (sym phrase-is) ∙ present here (has_scorer ix D.tree) is z)

  pub phrase-there : (idf score : Float) → (here ≡ 0 → ⊥) → idf ≡ phrase_idf ix (phrase_terms_of q at) → score ≡ cond f x (weight b idf) → weigh ix D.tree b (kept_of f x) ≡ leaf (phrase (record_value q at 0) (phrase_terms_of q at)) (scoring_of f score)
  phrase-there idf score z i s =
      phrase-weighed z
      ∙ ap (λ (y : Float). leaf (phrase (record_value q at 0) (phrase_terms_of q at)) (scoring_of f (cond f x (weight b y)))) (sym i)
      ∙ ap (λ (y : Float). leaf (phrase (record_value q at 0) (phrase_terms_of q at)) (scoring_of f y)) (sym s)

  -- its terms have room after its record
  pub phrase-room : (words : ℕ) → size_of (weigh ix D.tree b (kept_of f x)) ≤ words → here ≡ 1 → node_state_words + node_state_words * record_children q at ≤ words
  unfolding size_of leaf_size
  phrase-room words h one =
      let many = length-list_to {A = PhraseTerm} (record_children q at) (λ j. record { leaf = record_value q (at + 1 + j) 0; offset = record_value q (at + 1 + j) 1 }) in
      let size : size_of (weigh ix D.tree b (kept_of f x)) ≡ node_state_words + node_state_words * length (phrase_terms_of q at) = ap size_of (phrase-weighed (λ z. not-both here z one)) in
      omega (arith, many, size, h)
    where
      not-both : (n : ℕ) → n ≡ 0 → n ≡ 1 → ⊥
      not-both n e f = omega (arith, e, f)

-- ---- every part has a record
leaf-least : (l : Leaf) → node_state_words ≤ leaf_size l
unfolding leaf_size
leaf-least nothing = le_refl node_state_words
leaf-least (term l) = le_refl node_state_words
leaf-least (phrase f ts) = omega arith
leaf-least (range r) = le_refl node_state_words
leaf-least everything = le_refl node_state_words

pub size-least : (s : Scorer) → node_state_words ≤ size_of s
unfolding size_of
size-least (leaf l sc) = leaf-least l
size-least (boolean c j need rs os ps) = omega arith
