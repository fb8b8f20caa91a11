-- A score lies from 0 to its weight, for every frequency from 0 to 2 ^ 24, every average and every number in a byte's
-- place; and what weights are at most. Assumes nothing.
use mathlib.Core.Path.{◌≡◌, refl, sym, ap, ◌∙◌, subst}
use mathlib.Core.List.{List}
use Prim.Native.Nat.{ℕ, zero-le, ◌-◌, ◌*◌, ◌^◌, ◌≤◌, ◌<◌}
use native.Mathlib.Nat.{le_refl, le_trans, le_of_eq, lt_of_lt_of_le, mul-one, one-mul, zero-mul, mul_comm, mul_assoc, mul-le-mul_right, mul-le-mul_left, mul-pos, sub-le}
use native.Mathlib.Omega.{arith}
use mathlib.Core.Bool.{false}
use lib.IntN.{pos}
use lib.Dec.{T, lit<, lit≤}
use lib.ListN.{length}
use lib.Ieee.{Float, nan, inf, fin, binary32, round, add, sub, mul, div, le, fits, of_bits, of_int}
use lib.Ieee.Scale.{finite, round_same}
use lib.Ieee.Positive.{num, den, den_pos}
use Rattle.meaning.specs.Ieee754.{zero_float, narrowed_sum}
use Rattle.meaning.specs.Limits.{least_average, largest_average, largest_idf, largest_boost, largest_frequency, max_phrase_terms}
use Rattle.meaning.specs.Bm25.{one, length_of, inverse, weight, bm25}
use Rattle.meaning.specs.QueryRefusals.{above_limit}
use Rattle.ieee754.specs.Nonneg.{nonneg, sign_clear, AtMost}
use Rattle.ieee754.proofs.Nonneg.{round-self}
use Rattle.ieee754.proofs.Ranges.{Within, round-within, add-within, mul-within, within-self, mul_is, div_is, sub_is, round-nonneg, round-cross}
use Rattle.ieee754.proofs.Bounds.{UpTo, held-power, mul-atmost, upto-atmost, upto_le, limit-upto, pattern-atmost}
use Rattle.ieee754.proofs.Sums.{Each, narrowed-sum-atmost}
use Rattle.sim.proofs.Inverses.{two_to, most-inverse, fine-one, fine-inverse, any-inverse-within}

-- ---- the divisor of a score is 1 at least
abbrev divisor : Float → Float → Float
divisor frequency inv = add binary32 one (mul binary32 frequency inv)

fine-times : T (nonneg (mul binary32 zero_float zero_float)) × T (nonneg (mul binary32 (two_to 24) most-inverse))
unfolding of_bits mul div add sub
fine-times = (tt, tt)

fine-divisor : T (nonneg (divisor (two_to 24) most-inverse))
unfolding of_bits mul div add sub
fine-divisor = tt

divisor-one : divisor zero_float zero_float ≡ two_to 0
unfolding of_bits mul div add sub
divisor-one = refl

divisor-within : (frequency inv : Float) → Within zero_float frequency (two_to 24) → Within zero_float inv most-inverse → Within (two_to 0) (divisor frequency inv) (divisor (two_to 24) most-inverse)
divisor-within frequency inv Q I =
    subst (λ (z : Float). Within z (divisor frequency inv) (divisor (two_to 24) most-inverse)) divisor-one
    (add-within binary32 (fine-one, fine-one) (fine-times.0, fine-times.1) (within-self one fine-one) (mul-within binary32 (tt, tt) (tt, fine-inverse.1) Q I fine-times.1) fine-divisor)

pub frequency-within : (n : ℕ) → n ≤ largest_frequency → Within zero_float (of_int binary32 (pos n)) (two_to 24)
unfolding of_int round
frequency-within n h = round-within binary32 n 1 0 1 (2 ^ 24) 1 (lit< tt) (lit< tt) (lit< tt) zero-le (mul-le-mul_right 1 h) tt

-- ---- a fraction of at most w rounds to at most w
module _ (w : Float) (F : T (fits binary32 w)) (W : T (nonneg w)) where
  round-upto : (a c : ℕ) → 0 < c → a * den w ≤ num w * c → UpTo w (round binary32 false a c)
  round-upto a c C h =
      let r = round binary32 false a c in
      let self : round binary32 false (num w) (den w) ≡ w = round-self binary32 w F W in
      let fine : T (nonneg (round binary32 false (num w) (den w))) = subst (λ (z : Float). T (nonneg z)) (sym self) W in
      record {
        sign = round-nonneg binary32 a c (num w) (den w) C (den_pos w) h fine;
        most = subst (λ (z : Float). num r * den z ≤ num z * den r) self (round-cross binary32 a c (num w) (den w) C (den_pos w) h fine);
      }

  -- w by what is 1 at least, and w less what is at most w
  quotient-upto : (d : Float) → T (nonneg d) → den d ≤ num d → UpTo w (div binary32 w d)
  quotient-upto d D ge =
      let d-pos : 0 < num d = lt_of_lt_of_le (den_pos d) ge in
      subst (λ (z : Float). UpTo w z) (sym (div_is binary32 w d W D d-pos))
      (round-upto (num w * den d) (num d * den w) (mul-pos d-pos (den_pos w))
      (le_trans (le_of_eq (mul_assoc (num w) (den d) (den w))) (mul-le-mul_left (num w) (mul-le-mul_right (den w) ge))))

  rest-upto : (y : Float) → UpTo w y → UpTo w (sub binary32 w y)
  rest-upto y Y =
      let n = num w * den y - num y * den w in
      subst (λ (z : Float). UpTo w z) (sym (sub_is binary32 w y W Y.sign Y.most))
      (round-upto n (den w * den y) (mul-pos (den_pos w) (den_pos y))
      (le_trans (mul-le-mul_right (den w) (sub-le (num w * den y) (num y * den w))) (le_of_eq (mul_assoc (num w) (den y) (den w) ∙ ap (λ (z : ℕ). num w * z) (mul_comm (den y) (den w))))))

  pub bm25-upto : (frequency inv : Float) → Within zero_float frequency (two_to 24) → Within zero_float inv most-inverse → UpTo w (bm25 w frequency inv)
  bm25-upto frequency inv Q I =
      let d = divisor frequency inv in
      let i = divisor-within frequency inv Q I in
      rest-upto (div binary32 w d) (quotient-upto d i.sign (tidy (den d) (num d) i.least))
    where
      tidy : (d n : ℕ) → 1 * d ≤ n * 1 → d ≤ n
      tidy d n h = omega arith

finite-of : (x : Float) → T (nonneg x) → T (finite x)
finite-of nan p = absurd p
finite-of (inf s) p = absurd p
finite-of (fin s m e) p = tt

-- the score of a frequency n, an average's pattern and a byte, at the weight w
abbrev pub score_of : Float → ℕ → ℕ → ℕ → Float
score_of w n average norm = bm25 w (of_int binary32 (pos n)) (inverse (of_bits binary32 average) (length_of norm))

module _ (w : Float) (n average norm : ℕ) (Q : n ≤ largest_frequency) (lo : least_average ≤ average) (hi : average ≤ largest_average) where
  any-upto : T (fits binary32 w) → T (nonneg w) → UpTo w (score_of w n average norm)
  any-upto F W = bm25-upto w F W (of_int binary32 (pos n)) (inverse (of_bits binary32 average) (length_of norm)) (frequency-within n Q) (any-inverse-within average norm lo hi)

  -- whatever stands in the byte's place
  pub any-score-atmost : (p : ℕ) → T (fits binary32 w) → AtMost p w → AtMost p (score_of w n average norm)
  any-score-atmost p F i = upto-atmost p w (score_of w n average norm) i (any-upto F i.sign)

module _ (w : Float) (n average norm : ℕ) (Q : n ≤ largest_frequency) (lo : least_average ≤ average) (hi : average ≤ largest_average) (B : norm < 256) where
  pub score-upto : T (fits binary32 w) → T (nonneg w) → UpTo w (score_of w n average norm)
  score-upto F W = any-upto w n average norm Q lo hi F W

  -- THE theorem: a score is finite, at least +0, and at most its weight
  pub score-between : T (fits binary32 w) → T (nonneg w) → T (finite (score_of w n average norm)) × T (le zero_float (score_of w n average norm)) × T (le (score_of w n average norm) w)
  score-between F W =
      let u = score-upto F W in
      let l = upto_le w (score_of w n average norm) W u in
      (finite-of (score_of w n average norm) u.sign, l.0, l.1)

  pub score-atmost : (p : ℕ) → T (fits binary32 w) → AtMost p w → AtMost p (score_of w n average norm)
  score-atmost p F i = any-score-atmost w n average norm Q lo hi p F i

-- ---- frequency 0 gives +0
zero-over-one : round binary32 false 0 1 ≡ zero_float
unfolding round
zero-over-one = refl

zero-frequency : of_int binary32 (pos 0) ≡ zero_float
unfolding of_int
zero-frequency = refl

one_more : add binary32 one zero_float ≡ two_to 0
unfolding of_bits add
one_more = refl

round-zero : (c : ℕ) → 0 < c → round binary32 false 0 c ≡ zero_float
round-zero c C = round_same binary32 false 0 c 0 1 C (lit< tt) (zero-mul 1 ∙ sym (zero-mul c)) ∙ zero-over-one

pub score-zero : (w inv : Float) → T (fits binary32 w) → T (nonneg w) → T (nonneg inv) → bm25 w (of_int binary32 (pos 0)) inv ≡ zero_float
score-zero w inv F W I =
    ap (λ (z : Float). bm25 w z inv) zero-frequency
    ∙ ap (λ (z : Float). sub binary32 w (div binary32 w (add binary32 one z))) none
    ∙ ap (λ (z : Float). sub binary32 w (div binary32 w z)) one_more
    ∙ ap (λ (z : Float). sub binary32 w z) same
    ∙ sub_is binary32 w w W W (le_refl (num w * den w))
    ∙ ap (λ (z : ℕ). round binary32 false z (den w * den w)) (less (num w * den w))
    ∙ round-zero (den w * den w) (mul-pos (den_pos w) (den_pos w))
  where
    none : mul binary32 zero_float inv ≡ zero_float
    none =
        mul_is binary32 zero_float inv tt I
        ∙ ap (λ (z : ℕ). round binary32 false z (1 * den inv)) (zero-mul (num inv))
        ∙ round-zero (1 * den inv) (mul-pos {m = 1} {n = den inv} (lit< tt) (den_pos inv))

    same : div binary32 w (two_to 0) ≡ w
    same =
        div_is binary32 w (two_to 0) W tt (lit< tt)
        ∙ ap (λ (z : ℕ). round binary32 false z (1 * den w)) (mul-one (num w))
        ∙ ap (λ (z : ℕ). round binary32 false (num w) z) (one-mul (den w))
        ∙ round-self binary32 w F W

    less : (n : ℕ) → n - n ≡ 0
    less n = omega arith

-- ---- weights
ends : AtMost (2 ^ 16) (of_bits binary32 largest_boost) × AtMost (2 ^ 6) (of_bits binary32 largest_idf)
unfolding of_bits
ends = (record { sign = tt; most = lit≤ tt }, record { sign = tt; most = lit≤ tt })

pub boost-atmost : (n : ℕ) → n ≤ largest_boost → AtMost (2 ^ 16) (of_bits binary32 n)
boost-atmost n h = pattern-atmost (2 ^ 16) n largest_boost h (lit< tt) ends.0

pub idf-atmost : (n : ℕ) → n ≤ largest_idf → AtMost (2 ^ 6) (of_bits binary32 n)
idf-atmost n h = pattern-atmost (2 ^ 6) n largest_idf h (lit< tt) ends.1

-- a boost that reaches a node and is not refused
pub carried-atmost : (boost : Float) → T (sign_clear boost) → above_limit boost ≡ false → AtMost (2 ^ 16) boost
unfolding above_limit
carried-atmost boost p h = let L = of_bits binary32 largest_boost in upto-atmost (2 ^ 16) L boost ends.0 (limit-upto L boost ends.0.sign p h)

-- a term's, a phrase's idf, and a phrase's
pub weight-atmost : (boost idf : Float) → AtMost (2 ^ 16) boost → AtMost (2 ^ 6) idf → AtMost (2 ^ 22) (weight boost idf)
weight-atmost boost idf i j = mul-atmost binary32 (2 ^ 16) (2 ^ 6) boost idf i j (held-power 22 (lit≤ tt))

pub phrase-idf-atmost : (idfs : List Float) → Each (2 ^ 6) idfs → length idfs ≤ max_phrase_terms → AtMost (2 ^ 11) (narrowed_sum idfs)
phrase-idf-atmost idfs e h = narrowed-sum-atmost (2 ^ 6) (2 ^ 11) idfs e (mul-le-mul_right (2 ^ 6) h) (lit≤ tt) (held-power 11 (lit≤ tt))

pub phrase-weight-atmost : (boost idf : Float) → AtMost (2 ^ 16) boost → AtMost (2 ^ 11) idf → AtMost (2 ^ 27) (weight boost idf)
phrase-weight-atmost boost idf i j = mul-atmost binary32 (2 ^ 16) (2 ^ 11) boost idf i j (held-power 27 (lit≤ tt))
