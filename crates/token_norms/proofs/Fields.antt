-- The norm bytes of a field, window by window: the cursors begin at 0, and each window adds its bytes. Assumes nothing.
use mathlib.Core.Path.{◌≡◌, refl, sym, ap, ◌∙◌}
use mathlib.Core.Bool.{Bool, true, false, cond}
use mathlib.Core.List.{List, ◌++◌, append-nil}
use Rattle.std.proofs.lemmas.List.{drop_all}
use Prim.Native.Nat.{ℕ, ◌+◌, ◌-◌, ◌≤◌, ◌<◌, min}
use native.Mathlib.Omega.{arith}
use lib.Dec.{eqb, ltb}
use lib.ListN.{length, get_or}
use lib.Seq.{sets}
use borrow.Author.Tests.{le-ltb}
use Rattle.meaning.specs.Below.{list_to}
use Rattle.meaning.proofs.Below.{length-list_to, list_to-add}
use Rattle.index.specs.Runs.{posting_document}
use Rattle.token_norms.specs.Lengths.{run_first, run_number, before, cursors_at}
use Rattle.meaning.proofs.Stores.{sets-append, sets-none, sets-front}
use Rattle.token_norms.proofs.Passed.{count-is}

-- ---- the cursors at the start
before-none : (postings : List ℕ) (first number : ℕ) → before postings first number 0 ≡ 0
unfolding before
before-none postings first number =
    sym (count-is 0 number (λ i. ltb (posting_document postings first i) 0) (omega arith) (λ k h. absurd (omega arith)) (λ k a b. le-ltb (posting_document postings first k) 0 (omega arith)))

either-zero : (b t : Bool) (x : ℕ) → x ≡ 0 → cond b (cond t x 0) 0 ≡ 0
either-zero true true x e = e
either-zero true false x e = refl
either-zero false t x e = refl

pub cursors-none : (leaf_fields postings runs : List ℕ) (field l : ℕ) → cursors_at leaf_fields postings runs field 0 l ≡ 0
unfolding cursors_at
cursors-none leaf_fields postings runs field l =
    either-zero (ltb l (length leaf_fields)) (eqb (get_or leaf_fields l 0) field) _ (before-none postings (run_first runs l) (run_number runs l))

-- ---- a window more
pub windows-none : (start : List ℕ) (n : ℕ) (f : ℕ → ℕ) → start ≡ sets start 0 (list_to (min 0 n) f)
windows-none start n f = let none : 0 ≡ min 0 n = omega arith in sets-none start 0 f ∙ ap (λ (k : ℕ). sets start 0 (list_to k f)) none

pub window_more : (start norms norms' : List ℕ) (base n : ℕ) (f : ℕ → ℕ) → norms ≡ sets start 0 (list_to (min base n) f) → base < n → norms' ≡ sets norms base (list_to (min 4096 (n - base)) (λ j. f (base + j))) → norms' ≡ sets start 0 (list_to (min (base + 4096) n) f)
window_more start norms norms' base n f e l g =
    let some : min base n ≡ base = omega arith in
    let all : base + min 4096 (n - base) ≡ min (base + 4096) n = omega arith in
    let behind : base ≡ 0 + length (list_to base f) = omega (arith, length-list_to base f) in
    g
    ∙ ap (λ (xs : List ℕ). sets xs base (list_to (min 4096 (n - base)) (λ j. f (base + j)))) (e ∙ ap (λ (k : ℕ). sets start 0 (list_to k f)) some)
    ∙ ap (λ (k : ℕ). sets (sets start 0 (list_to base f)) k (list_to (min 4096 (n - base)) (λ j. f (base + j)))) behind
    ∙ sym (sets-append start 0 (list_to base f) (list_to (min 4096 (n - base)) (λ j. f (base + j))))
    ∙ ap (sets start 0) (sym (list_to-add base (min 4096 (n - base)) f))
    ∙ ap (λ (k : ℕ). sets start 0 (list_to k f)) all

pub windows-done : (start norms : List ℕ) (base : ℕ) (f : ℕ → ℕ) → norms ≡ sets start 0 (list_to (min base (length start)) f) → length start ≤ base → norms ≡ list_to (length start) f
windows-done start norms base f e l =
    let all : min base (length start) ≡ length start = omega arith in
    let long = length-list_to (length start) f in
    e
    ∙ ap (λ (k : ℕ). sets start 0 (list_to k f)) all
    ∙ sets-front (list_to (length start) f) start (omega (arith, long))
    ∙ ap (λ (xs : List ℕ). list_to (length start) f ++ xs) (drop_all (length (list_to (length start) f)) start (omega (arith, long)))
    ∙ append-nil (list_to (length start) f)
