-- The phrase step: what is left of the candidates after one term more, and at the end. Assumes nothing.
use mathlib.Core.Path.{◌≡◌, refl, sym, subst}
use mathlib.Core.Bool.{Bool, true, false, cond}
use mathlib.Core.List.{List, [], ◌∷◌}
use Rattle.std.specs.Prelude.{Option, Some, None, SomeIff}
use Prim.Native.Nat.{ℕ, ◌+◌, ◌%◌, ◌≤◌, ◌<◌}
use native.Mathlib.Nat.{le_trans}
use native.Mathlib.Omega.{arith}
use lib.Dec.{T, eqb, eqb→eq}
use lib.IntN.{ℤ}
use lib.ListN.{length, drop}
use Rattle.meaning.specs.Phrase.{multiplicity, smallest}
use Rattle.phrase_starts.specs.Terms.{term_at, starts_of, start_lists, Good}
use Rattle.phrase_starts.specs.Common.{Ascending, Common}
use Rattle.phrase.specs.Step.{CandidatesHeld, unmet_from, Candidates, Left, Further, Meets}
use Rattle.phrase_starts.proofs.Records.{lists_at, lists-end, lists-some, smallest-at}

-- ---- the common part of lists
-- a list that has all of the candidates takes none away
common-skipped : (cs xs : List ℤ) (xss : List (List ℤ)) (zs : List ℤ) → ((s : ℤ) → multiplicity s cs ≤ multiplicity s xs) → Common (cs ∷ xss) zs → Common (cs ∷ xs ∷ xss) zs
unfolding smallest
common-skipped cs xs [] zs h k = record { counts = λ s. (let a = h s in let e = k.counts s in omega (arith, a, e)); rising = k.rising }
common-skipped cs xs (ys ∷ yss) zs h k = record { counts = λ s. (let a = h s in let e = k.counts s in omega (arith, a, e)); rising = k.rising }

-- the candidates that a list leaves stand for both
common-met : (cs xs ms : List ℤ) (xss : List (List ℤ)) (zs : List ℤ) → Common (cs ∷ xs ∷ []) ms → Common (ms ∷ xss) zs → Common (cs ∷ xs ∷ xss) zs
unfolding smallest
common-met cs xs ms [] zs m k = record { counts = λ s. (let a = m.counts s in let e = k.counts s in omega (arith, a, e)); rising = k.rising }
common-met cs xs ms (ys ∷ yss) zs m k = record { counts = λ s. (let a = m.counts s in let e = k.counts s in omega (arith, a, e)); rising = k.rising }

-- without candidates nothing is left
common-none : (xss : List (List ℤ)) → Common ([] ∷ xss) []
unfolding smallest multiplicity Ascending
common-none [] = record { counts = λ s. refl; rising = tt }
common-none (xs ∷ xss) = record { counts = λ s. omega arith; rising = tt }

-- ---- what is left of the candidates
pub left_end : (ps ts : List ℕ) (at : ℕ) (cs : List ℤ) → at ≡ length ts → Ascending cs → Left ps ts at cs cs
unfolding smallest
left_end ps ts at cs e a =
    record {
      common = rw (e, lists-end ps ts) (record { counts = λ s. refl; rising = a });
      no_more = omega arith;
    }

pub left-none : (ps ts : List ℕ) (at : ℕ) (cs : List ℤ) → length cs ≡ 0 → Left ps ts at cs cs
left-none ps ts at [] e = record { common = common-none (start_lists ps (drop at ts)); no_more = omega arith }
left-none ps ts at (c ∷ cs) e = absurd (omega (arith, e))

-- ---- the next record to meet
module _ (ps ts : List ℕ) (r : ℕ) (cs : List ℤ) (k : CandidatesHeld ps ts r cs) (at : ℕ) (w : at % 3 ≡ 0) (h : at ≤ length ts) where
  pub unmet-start : unmet_from r at % 3 ≡ 0
  unfolding unmet_from
  unmet-start = go (eqb at r)
    where
      go : (b : Bool) → cond b (at + 3) at % 3 ≡ 0
      go true = omega (arith, w)
      go false = w

  pub unmet-not-past : unmet_from r at ≤ length ts
  unfolding unmet_from
  unmet-not-past = go (eqb at r) (eqb→eq at r)
    where
      go : (b : Bool) → (T b → at ≡ r) → cond b (at + 3) at ≤ length ts
      go true e = let q = e tt in omega (arith, q, k.good.whole, k.rarest-there, k.rarest-start)
      go false e = h

  unmet-not-before : at ≤ unmet_from r at
  unfolding unmet_from
  unmet-not-before = go (eqb at r)
    where
      go : (b : Bool) → at ≤ cond b (at + 3) at
      go true = omega arith
      go false = omega arith

  -- the rarest term takes none of its own starts away
  pub left-unmet : (zs : List ℤ) → Left ps ts (unmet_from r at) cs zs → Left ps ts at cs zs
  unfolding unmet_from
  left-unmet zs l = go (eqb at r) (eqb→eq at r) l
    where
      go : (b : Bool) → (T b → at ≡ r) → Left ps ts (cond b (at + 3) at) cs zs → Left ps ts at cs zs
      go true e m =
          let q = e tt in
          let there : at + 2 < length ts = omega (arith, q, k.good.whole, k.rarest-there, k.rarest-start) in
          record {
            common = rw (lists_at ps ts at there) (common-skipped cs (starts_of ps (term_at ts at)) (start_lists ps (drop (at + 3) ts)) zs (subst (λ (n : ℕ). (s : ℤ) → multiplicity s cs ≤ multiplicity s (starts_of ps (term_at ts n))) (sym q) k.of-the-rarest) m.common);
            no_more = m.no_more;
          }
      go false e m = m

-- ---- one term met
module _ (ps ts : List ℕ) (r at : ℕ) (cs : List ℤ) (places : ℕ) (c : Candidates ps ts r at cs places) where
  -- a whole record stands at the word
  pub record-there : at + 2 < length ts
  record-there = omega (arith, c.held.good.whole, c.record-start, c.there)

  module _ (ms : List ℤ) (m : Common (cs ∷ starts_of ps (term_at ts at) ∷ []) ms) (few : length ms ≤ length cs) where
    held-met : CandidatesHeld ps ts r ms
    unfolding smallest
    held-met =
        record {
          good = c.held.good;
          rarest-start = c.held.rarest-start;
          rarest-there = c.held.rarest-there;
          of-the-rarest = λ s. (let a = m.counts s in let b = c.held.of-the-rarest s in omega (arith, a, b));
          rising = m.rising;
        }

    -- the word past the record, as the laws on the next record take it
    past-start : (at + 3) % 3 ≡ 0
    past-start = omega (arith, c.record-start)

    past-there : at + 3 ≤ length ts
    past-there = omega (arith, record-there)

    left-met : (zs : List ℤ) → Left ps ts (at + 3) ms zs → Left ps ts at cs zs
    left-met zs l =
        record {
          common = rw (lists_at ps ts at record-there) (common-met cs (starts_of ps (term_at ts at)) ms (start_lists ps (drop (at + 3) ts)) zs m l.common);
          no_more = le_trans l.no_more few;
        }

    -- the other terms are still to be met
    further : unmet_from r (at + 3) < length ts → Further ps ts r at cs ms (unmet_from r (at + 3))
    further h =
        record {
          further = (let f = unmet-not-before ps ts r ms held-met (at + 3) past-start past-there in omega (arith, f));
          on = λ zs l. left-met zs (left-unmet ps ts r ms held-met (at + 3) past-start past-there zs l);
          ready =
              record {
                held = held-met;
                record-start = unmet-start ps ts r ms held-met (at + 3) past-start past-there;
                there = h;
                room = few;
              };
        }

    -- or none is
    ended : (unmet_from r (at + 3) < length ts → ⊥) → Left ps ts at cs ms
    ended h =
        let e : unmet_from r (at + 3) ≡ length ts = (let n = unmet-not-past ps ts r ms held-met (at + 3) past-start past-there in omega (arith, n, h)) in
        left-met ms (left-unmet ps ts r ms held-met (at + 3) past-start past-there ms (left_end ps ts (unmet_from r (at + 3)) ms e m.rising))

    pub meets : (next : Option ℕ) → SomeIff next (unmet_from r (at + 3) < length ts) (unmet_from r (at + 3)) → Meets ps ts r at cs ms next
    meets None h = ended h
    meets (Some k) h = subst (λ (n : ℕ). Further ps ts r at cs ms n) (sym h.1) (further h.0)

    -- or nothing is left
    pub meets-none : length ms ≡ 0 → Meets ps ts r at cs ms None
    meets-none e = left-met ms (left-none ps ts (at + 3) ms e)

-- ---- all terms
smallest-among : (s : ℤ) (xs : List ℤ) (xss : List (List ℤ)) → 0 < length xss → smallest s xss ≤ multiplicity s xs → smallest s (xs ∷ xss) ≡ smallest s xss
unfolding smallest
smallest-among s xs [] h k = absurd (omega (arith, h))
smallest-among s xs (ys ∷ yss) h k = omega (arith, k)

-- what all terms leave of one term's starts is the common part of all
pub left-of-all : (ps ts : List ℕ) (r : ℕ) (zs : List ℤ) → Good ps ts → r % 3 ≡ 0 → r < length ts → Left ps ts 0 (starts_of ps (term_at ts r)) zs → Common (start_lists ps ts) zs
left-of-all ps ts r zs g e h l = record {
  counts = λ s. (let a = smallest-among s (starts_of ps (term_at ts r)) (start_lists ps ts) (lists-some ps ts g.whole g.some) (smallest-at s ps ts r g.whole e h) in let b = l.common.counts s in omega (arith, a, b));
  rising = l.common.rising;
}
