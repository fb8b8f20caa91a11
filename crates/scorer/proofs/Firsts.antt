-- The first document that has a property. Assumes nothing.
use mathlib.Core.Path.{◌≡◌, refl, sym, ap, subst, ◌∙◌}
use mathlib.Core.Logic.{⊎_elim}
use mathlib.Core.Bool.{Bool, true, false, not, cond, ◌&&◌, ◌||◌}
use mathlib.Core.Option.{Option}
use Prim.Native.Nat.{ℕ, ◌+◌, ◌-◌, ◌≤◌, ◌<◌}
use native.Mathlib.Nat.{le_refl, le_trans}
use native.Mathlib.Omega.{arith}
use lib.Dec.{leb, ltb}
use lib.Ieee.{Float}
use borrow.Author.Tests.{le-leb, lt-leb, lt-ltb, ltb-false}
use Rattle.meaning.specs.Limits.{no_more_docs}
use Rattle.meaning.specs.Lent.{Index}
use Rattle.meaning.specs.First.{First}
use Rattle.tree_weight.specs.ScorerTree.{Joining, Scorer, Scorers, end, more, boolean, matches, all_match, any_matches, matching}
use Rattle.tree_weight.specs.Held.{Cache}
use Rattle.scorer.specs.Calls.{Approximates, leads, lead_takes, LeastIs}
use Rattle.meaning.proofs.Tests.{cmp}

pub first_to : {P : ℕ → Bool} {t r : ℕ} → First P t r → (s : ℕ) → r ≡ s → First P t s
first_to {P} {t} p s e = subst (λ (j : ℕ). First P t j) e p

pub first-later : {P : ℕ → Bool} {t r : ℕ} (s : ℕ) → First P t r → t ≤ s → s ≤ r → First P s r
first-later s p a b = record { from = b; top = p.top; before = λ d g h. p.before d (le_trans a g) h; hit = p.hit }

pub cache-new : {P : ℕ → Bool} {t r : ℕ} → First P t r → Cache P t (r + 1)
cache-new {r = r} p s a b = first_to (first-later s p a (omega arith)) (r + 1 - 1) (omega arith)

and-false : (b : Bool) → b && false ≡ false
and-false true = refl
and-false false = refl

-- a pass that moves nothing, and one that moves
pub pass-done : {P : ℕ → Bool} {t d e : ℕ} → t ≤ d → ((x : ℕ) → t ≤ x → x < d → P x ≡ false) → Approximates P d d e → e ≡ d → First P t d
pass-done {P} l un p q = record { from = l; top = omega (arith, p.top); before = un; hit = λ h. subst (λ (j : ℕ). P j ≡ true) q (p.hit q (omega arith)) }

pub pass-more : {P : ℕ → Bool} {t d e : ℕ} → ((x : ℕ) → t ≤ x → x < d → P x ≡ false) → Approximates P d d e → (x : ℕ) → t ≤ x → x < e → P x ≡ false
pass-more {d = d} un p x a b = ⊎_elim (λ h. un x a h) (λ h. p.before x h b) (cmp x d)

-- a pass and then a step to the first that a second property takes
pub pass-then : {P Q : ℕ → Bool} {t e r : ℕ} → Approximates P t t e → First Q e r → Approximates (λ d. P d && Q d) t t r
pass-then {P} {Q} {t} {e} {r} p q =
    record {
      from = le_trans p.from q.from;
      top = q.top;
      before = λ d a b. ⊎_elim (λ h. ap (λ (i : Bool). i && Q d) (p.before d a h)) (λ h. ap (λ (i : Bool). P d && i) (q.before d h b) ∙ and-false (P d)) (cmp d e);
      hit = λ s h.
          let u : e ≡ r = omega (arith, p.from, q.from) in
          let x : P r ≡ true = subst (λ (j : ℕ). P j ≡ true) u (p.hit (omega (arith, p.from, q.from)) (omega arith)) in
          rw (x, q.hit h);
    }

-- a pass where the second property takes all
pub pass-only : {P Q : ℕ → Bool} {t e : ℕ} → ((d : ℕ) → Q d ≡ true) → Approximates P t t e → Approximates (λ d. P d && Q d) t t e
pass-only {P} {Q} {t} {e} all p =
    record {
      from = p.from;
      top = p.top;
      before = λ d a b. ap (λ (i : Bool). i && Q d) (p.before d a b);
      hit = λ s h. rw (p.hit s h, all e);
    }

-- ---- how many of some scorers match
module _ (ix : Index) (f : Bool) (T : Scorer) (ss : Scorers) (d : ℕ) where
  pub matching-hit : matches ix T d ≡ true → matching ix (more f T ss) d ≡ 1 + matching ix ss d
  unfolding matching
  matching-hit e = rw e

  pub matching-miss : matches ix T d ≡ false → matching ix (more f T ss) d ≡ matching ix ss d
  unfolding matching
  matching-miss e = rw e (omega arith)

  pub all-hit : matches ix T d ≡ true → all_match ix (more f T ss) d ≡ all_match ix ss d
  unfolding all_match
  all-hit e = rw e

  pub all-miss : matches ix T d ≡ false → all_match ix (more f T ss) d ≡ false
  unfolding all_match
  all-miss e = rw e

  pub all_rest : all_match ix ss d ≡ false → all_match ix (more f T ss) d ≡ false
  unfolding all_match
  all_rest e = rw e (and-false (matches ix T d))

pub matching-end : (ix : Index) (d : ℕ) → matching ix end d ≡ 0
unfolding matching
matching-end ix d = refl

pub all_end : (ix : Index) (d : ℕ) → all_match ix end d ≡ true
unfolding all_match
all_end ix d = refl

or-go : (a b : Bool) (n : ℕ) → b ≡ ltb 0 n → (a || b) ≡ ltb 0 (cond a 1 0 + n)
or-go true b n e = sym (lt-ltb 0 (1 + n) (omega arith))
or-go false b n e = let z : n ≡ 0 + n = omega arith in subst (λ (m : ℕ). b ≡ ltb 0 m) z e

pub any-matching : (ix : Index) (ss : Scorers) (d : ℕ) → any_matches ix ss d ≡ ltb 0 (matching ix ss d)
unfolding any_matches matching
any-matching ix end d = refl
any-matching ix (more f T ss) d = or-go (matches ix T d) (any_matches ix ss d) (matching ix ss d) (any-matching ix ss d)

and-swap : (a b c : Bool) → (a && c) && b ≡ a && b && c
and-swap true true true = refl
and-swap true true false = refl
and-swap true false true = refl
and-swap true false false = refl
and-swap false b c = refl

-- a Boolean's documents
pub boolean-takes : (ix : Index) (c : Option Float) (j : Joining) (need : ℕ) (rs os ps : Scorers) (d : ℕ) → lead_takes ix rs os ps need d ≡ matches ix (boolean c j need rs os ps) d
unfolding matches
boolean-takes ix c j need rs os ps d = ap (λ (i : Bool). leads ix rs os need d && not i) (sym (any-matching ix ps d)) ∙ (and-swap (all_match ix rs d) (not (any_matches ix ps d)) (leb need (matching ix os d)))

-- ---- a disjunction that wants some: from the least document and how many stand there
module _ {ix : Index} {ss : Scorers} {need target t d n : ℕ} (some : 0 < need) (lo : target ≤ t)
    (un : (x : ℕ) → target ≤ x → x < t → leb need (matching ix ss x) ≡ false) (p : LeastIs ix ss t d n) where
  enough-before : (x : ℕ) → target ≤ x → x < d → leb need (matching ix ss x) ≡ false
  enough-before x a b = ⊎_elim (λ h. un x a h) (λ h. lt-leb need (matching ix ss x) (omega (arith, ltb-false 0 (matching ix ss x) (p.first.before x h b)))) (cmp x t)

  pub enough-top : d ≡ no_more_docs → First (λ x. leb need (matching ix ss x)) target d
  enough-top e = record { from = le_trans lo p.first.from; top = p.first.top; before = enough-before; hit = λ h. absurd (omega arith) }

  pub enough-hit : need ≤ n → First (λ x. leb need (matching ix ss x)) target d
  enough-hit e = record { from = le_trans lo p.first.from; top = p.first.top; before = enough-before; hit = λ h. le-leb need (matching ix ss d) (omega (arith, p.number h)) }

  pub enough-more : d < no_more_docs → n < need → (x : ℕ) → target ≤ x → x < d + 1 → leb need (matching ix ss x) ≡ false
  enough-more h e x a b =
      ⊎_elim (λ g. enough-before x a g)
      (λ g. let s : x ≡ d = omega arith in rw s (lt-leb need (matching ix ss d) (omega (arith, p.number h))))
      (cmp x d)

-- ---- exclusion
module _ (ix : Index) (rs os ps : Scorers) (need : ℕ) {target t d : ℕ} (lo : target ≤ t)
    (un : (x : ℕ) → target ≤ x → x < t → lead_takes ix rs os ps need x ≡ false) (f : First (leads ix rs os need) t d) where
  kept-before : (x : ℕ) → target ≤ x → x < d → lead_takes ix rs os ps need x ≡ false
  kept-before x a b = ⊎_elim (λ h. un x a h) (λ h. ap (λ (i : Bool). i && not (ltb 0 (matching ix ps x))) (f.before x h b)) (cmp x t)

  pub kept_top : d ≡ no_more_docs → First (lead_takes ix rs os ps need) target d
  kept_top e = record { from = le_trans lo f.from; top = f.top; before = kept-before; hit = λ h. absurd (omega arith) }

  -- where nothing is prohibited
  pub kept-alone : ((x : ℕ) → matching ix ps x ≡ 0) → First (lead_takes ix rs os ps need) target d
  kept-alone none =
      record {
        from = le_trans lo f.from;
        top = f.top;
        before = kept-before;
        hit = λ h. ap (λ (i : Bool). i && not (ltb 0 (matching ix ps d))) (f.hit h) ∙ ap (λ (n : ℕ). not (ltb 0 n)) (none d);
      }

  pub kept-hit : (x n : ℕ) → LeastIs ix ps d x n → (x ≡ d → ⊥) → First (lead_takes ix rs os ps need) target d
  kept-hit x n g ne =
      record {
        from = le_trans lo f.from;
        top = f.top;
        before = kept-before;
        hit = λ h. ap (λ (i : Bool). i && not (ltb 0 (matching ix ps d))) (f.hit h) ∙ ap not (g.first.before d (le_refl _) (omega (arith, g.first.from)));
      }

  pub kept_more : (x n : ℕ) → d < no_more_docs → LeastIs ix ps d x n → x ≡ d → (y : ℕ) → target ≤ y → y < d + 1 → lead_takes ix rs os ps need y ≡ false
  kept_more x n h g q y a b =
      ⊎_elim (λ e. kept-before y a e)
      (λ e.
      let s : y ≡ d = omega arith in
      let u : ltb 0 (matching ix ps d) ≡ true = subst (λ (j : ℕ). ltb 0 (matching ix ps j) ≡ true) q (g.first.hit (omega arith)) in
      rw (s, u) (and-false (leads ix rs os need d)))
      (cmp y d)
