-- Which of some scorers match a document: the two passes over the required, one that matches, and how many. Assumes nothing.
use Rattle.std.proofs.Common.{◌≡◌, refl, sym, ap, ◌∙◌, Bool, true, false, not, cond, ◌&&◌, ◌||◌, ℕ, ◌+◌, ◌≤◌, ◌<◌, eqb, leb, arith, le-leb, lt-ltb, le-ltb, ⊎_elim, ltb, ◌-◌}
use Rattle.std.proofs.lemmas.Bool.{lt-leb, cases_lt}
use mathlib.Core.Bool.{and-false}
use Rattle.meaning.specs.Lent.{Index}
use Rattle.tree_weight.specs.ScorerTree.{nothing, term, phrase, range, everything, Scorer, leaf, boolean, Scorers, end, more, matches, all_match, any_matches, matching}
use Rattle.tree_weight.specs.Sound.{nodes, nodes_of}
use Rattle.window_words.proofs.Laws.{kind_of}
use Rattle.window_bits.specs.Parts.{is_phrase, asked_by, all_of}

-- ---- the two passes
two-passes : (p m a b : Bool) → m && (a && b) ≡ (cond (not p) m true && a) && (cond p m true && b)
two-passes true true a b = refl
two-passes true false a b = sym (and-false a)
two-passes false true a b = refl
two-passes false false a b = refl

pub all-passes : (ix : Index) (ss : Scorers) (d : ℕ) → all_match ix ss d ≡ all_of (asked_by false) ix ss d && all_of (asked_by true) ix ss d
unfolding all_match all_of
all-passes ix end d = refl
all-passes ix (more f s ss) d = ap (λ (t : Bool). matches ix s d && t) (all-passes ix ss d) ∙ two-passes (is_phrase s) (matches ix s d) (all_of (asked_by false) ix ss d) (all_of (asked_by true) ix ss d)

pub phrase-kind : (s : Scorer) → is_phrase s ≡ eqb (kind_of s) 2
unfolding is_phrase kind_of
phrase-kind (leaf nothing sc) = refl
phrase-kind (leaf (term l) sc) = refl
phrase-kind (leaf (phrase f ts) sc) = refl
phrase-kind (leaf (range r) sc) = refl
phrase-kind (leaf everything sc) = refl
phrase-kind (boolean c j need rs os ps) = refl

-- ---- how many
one-at-least : (t : Bool) (n : ℕ) → leb 1 (cond t 1 0 + n) ≡ t || leb 1 n
one-at-least true n = le-leb 1 (1 + n) (omega arith)
one-at-least false n = let z : 0 + n ≡ n = omega arith in ap (leb 1) z

pub any-one : (ix : Index) (ss : Scorers) (d : ℕ) → leb 1 (matching ix ss d) ≡ any_matches ix ss d
unfolding matching any_matches
any-one ix end d = refl
any-one ix (more f s ss) d = one-at-least (matches ix s d) (matching ix ss d) ∙ ap (λ (t : Bool). matches ix s d || t) (any-one ix ss d)

pub nodes-some : (s : Scorer) → 1 ≤ nodes s
unfolding nodes
nodes-some (leaf l sc) = omega arith
nodes-some (boolean c j need rs os ps) = omega arith

at-most-one : (t : Bool) → cond t 1 0 ≤ 1
at-most-one true = omega arith
at-most-one false = omega arith

pub matching-few : (ix : Index) (ss : Scorers) (d : ℕ) → matching ix ss d ≤ nodes_of ss
unfolding matching nodes_of
matching-few ix end d = omega arith
matching-few ix (more f s ss) d = omega (arith, at-most-one (matches ix s d), nodes-some s, matching-few ix ss d)

-- ---- at least so many, and more than one less
pub more-than : (need m : ℕ) → 0 < need → ltb (need - 1) m ≡ leb need m
more-than need m h =
    ⊎_elim (λ (l : need - 1 < m). lt-ltb (need - 1) m l ∙ sym (le-leb need m (omega (arith, l, h)))) (λ (l : m ≤ need - 1). le-ltb (need - 1) m l ∙ sym (lt-leb need m (omega (arith, l, h)))) (cases_lt (need - 1) m)

pub too-few : (need m : ℕ) → m < need → leb need m ≡ false
too-few need m h = lt-leb need m h
