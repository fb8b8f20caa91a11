-- The postings of a run in a window, one after the other: the counts when those before a place are added. Assumes nothing.
use mathlib.Core.Path.{◌≡◌, refl, sym, ap, ◌∙◌}
use mathlib.Core.Logic.{⊎_elim}
use mathlib.Core.Bool.{Bool, cond}
use mathlib.Core.List.{List}
use Prim.Native.Nat.{ℕ, ◌+◌, ◌-◌, ◌≤◌, ◌<◌}
use native.Mathlib.Nat.{eq-or-lt_of_le}
use native.Mathlib.Omega.{arith}
use lib.Dec.{eqb}
use lib.ListN.{length, get_or, set}
use borrow.Author.Tests.{eq-eqb, ne_eqb}
use Rattle.meaning.specs.Below.{list_to}
use Rattle.meaning.proofs.Below.{length-list_to, get_or-list_to, list_to-same}
use Rattle.meaning.proofs.Sums.{sum_more, sum-none, sum-rest, sum-prefix}
use Rattle.index.specs.Runs.{posting_document, posting_frequency}
use Rattle.token_norms.specs.Lengths.{frequency_in_run, RunOk, before}
use Rattle.token_norms.proofs.Filled.{listed, list_to-set}
use Rattle.token_norms.proofs.Passed.{before-is, before-splits}

-- the frequencies of one document
module _ (postings : List ℕ) (first d : ℕ) where
  other : (k : ℕ) → (posting_document postings first k ≡ d → ⊥) → cond (eqb (posting_document postings first k) d) (posting_frequency postings first k) 0 ≡ 0
  other k h = ap (λ (b : Bool). cond b (posting_frequency postings first k) 0) (ne_eqb _ _ h)

  run_none : (i : ℕ) → ((k : ℕ) → k < i → posting_document postings first k ≡ d → ⊥) → frequency_in_run postings first i d ≡ 0
  unfolding frequency_in_run
  run_none i h = sum-none i _ (λ k l. other k (h k l))

  run-rest : (i n : ℕ) → i ≤ n → ((k : ℕ) → i ≤ k → k < n → posting_document postings first k ≡ d → ⊥) → frequency_in_run postings first i d ≡ frequency_in_run postings first n d
  unfolding frequency_in_run
  run-rest i n l h = sum-rest i n _ l (λ k a b. other k (h k a b))

  run-prefix : (i n : ℕ) → i ≤ n → frequency_in_run postings first i d ≤ frequency_in_run postings first n d
  unfolding frequency_in_run
  run-prefix i n l = sum-prefix i n _ l

  run-here : (i : ℕ) → posting_document postings first i ≡ d → frequency_in_run postings first (i + 1) d ≡ frequency_in_run postings first i d + posting_frequency postings first i
  unfolding frequency_in_run
  run-here i e =
      sum_more i _ ∙ ap (λ (b : Bool). frequency_in_run postings first i d + cond b (posting_frequency postings first i) 0) (eq-eqb _ _ e)

  run-other : (i : ℕ) → (posting_document postings first i ≡ d → ⊥) → frequency_in_run postings first i d ≡ frequency_in_run postings first (i + 1) d
  run-other i h =
      run-rest i (i + 1) (omega arith) (λ k a b e. let q : k ≡ i = omega arith in h (ap (posting_document postings first) (sym q) ∙ e))

-- the postings before place i are added to the counts that there were
pub record Adding (postings : List ℕ) (first number base : ℕ) (start : List ℕ) (i : ℕ) (counts : List ℕ) : Type 0 where
  pub since : before postings first number base ≤ i
  pub upto : i ≤ number
  pub inside : (k : ℕ) → k < i → posting_document postings first k < base + length start
  pub counts-are : counts ≡ list_to (length start) (λ j. get_or start j 0 + frequency_in_run postings first i (base + j))

module _ (postings : List ℕ) (first number : ℕ) (ok : RunOk postings first number) (base : ℕ) (start : List ℕ) where
  pub adding-start : (from : ℕ) → from ≡ before postings first number base → Adding postings first number base start from start
  adding-start from e =
      let s = before-splits postings first number ok base in
      record {
        since = omega (arith, e);
        upto = omega (arith, e, s.upto);
        inside = λ k a. omega (arith, s.passed k (omega (arith, e)));
        counts-are = listed start (length start) _ refl (λ j l. omega (arith, run_none postings first (base + j) from (λ k a q. omega (arith, s.passed k (omega (arith, e))))));
      }

  module _ (i : ℕ) (counts : List ℕ) (A : Adding postings first number base start i counts) where
    pub counts-long : length counts ≡ length start
    counts-long = ap length A.counts-are ∙ length-list_to (length start) _

    -- the posting at the place
    module _ (m : i < number) (d : ℕ) (is : d ≡ posting_document postings first i) where
      pub from-base : base ≤ d
      from-base = omega (arith, is, (before-splits postings first number ok base).ahead i A.since m)

      pub beyond-window : length counts ≤ d - base → base + length start ≤ posting_document postings first i
      beyond-window l = omega (arith, l, counts-long, from-base, is)

      module _ (inside : d - base < length counts) (f : ℕ) (times : f ≡ posting_frequency postings first i) where
        here : posting_document postings first i ≡ base + (d - base)
        here = omega (arith, from-base, is)

        more : get_or counts (d - base) 0 + f ≡ get_or start (d - base) 0 + frequency_in_run postings first (i + 1) (base + (d - base))
        more =
            let e = ap (λ (l : List ℕ). get_or l (d - base) 0) A.counts-are ∙ get_or-list_to (length start) _ 0 (d - base) (omega (arith, inside, counts-long)) in
            omega (arith, e, times, run-here postings first (base + (d - base)) i here)

        pub adding-fits : ((j : ℕ) → j < length start → get_or start j 0 + frequency_in_run postings first number (base + j) < 4294967296) → get_or counts (d - base) 0 + f < 4294967296
        adding-fits h =
            omega (arith, more, h (d - base) (omega (arith, inside, counts-long)), run-prefix postings first (base + (d - base)) (i + 1) number (omega arith))

        pub adding-step : Adding postings first number base start (i + 1) (set counts (d - base) (get_or counts (d - base) 0 + f))
        adding-step =
            record {
              since = omega (arith, A.since);
              upto = omega arith;
              inside = λ k a. ⊎_elim (λ (e : k ≡ i). omega (arith, ap (posting_document postings first) e, here, inside, counts-long)) (λ (e : k < i). A.inside k e) (eq-or-lt_of_le {n = k} {m = i} (omega arith));
              counts-are =
                  ap (λ (l : List ℕ). set l (d - base) (get_or counts (d - base) 0 + f)) A.counts-are
                  ∙ list_to-set (length start) _ _ (d - base) _ (omega (arith, inside, counts-long)) more
                  (λ j l q. ap (λ (x : ℕ). get_or start j 0 + x) (run-other postings first (base + j) i (λ e. q (omega (arith, here, e)))));
            }

    -- no posting of the window is left
    module _ (beyond : i < number → base + length start ≤ posting_document postings first i) where
      after : (k : ℕ) → i ≤ k → k < number → base + length start ≤ posting_document postings first k
      after k a b =
          ⊎_elim (λ (e : i ≡ k). omega (arith, ap (posting_document postings first) e, beyond (omega arith))) (λ (e : i < k). omega (arith, beyond (omega arith), ok.rising i k e b)) (eq-or-lt_of_le a)

      pub cursor-done : i ≡ before postings first number (base + length start)
      cursor-done = before-is postings first number ok (base + length start) i (record { upto = A.upto; passed = A.inside; ahead = after })

      pub adding-done : counts ≡ list_to (length start) (λ j. get_or start j 0 + frequency_in_run postings first number (base + j))
      adding-done =
          A.counts-are
          ∙ list_to-same (length start) _ _ (λ j l. ap (λ (x : ℕ). get_or start j 0 + x) (run-rest postings first (base + j) i number A.upto (λ k a b e. omega (arith, after k a b, e))))
