-- What the ors over a run's records tell once a record more is gathered, and at the end. Assumes nothing.
use Rattle.std.proofs.Common.{◌≡◌, ℕ, zero, suc, ◌+◌, ◌-◌, ◌*◌, ◌%◌, ◌<◌, ◌≤◌, Bool, true, false, not, ◌&&◌, ◌||◌, eqb, ltb, leb, List, get_or, sym, refl, ap, ◌∙◌, ⊎_elim, add-one, arith, le-ltb, lt-ltb, le-leb, leb-false, lit<}
use mathlib.Core.Bool.{or-true}
use lib.Dec.{leb-suc-suc}
use lib.Bits.{bit_or}
use borrow.Author.Tests.{lt-leb}
use Rattle.meaning.specs.Below.{any_below}
use Rattle.meaning.specs.Limits.{largest_frequency}
use Rattle.check_postings.specs.Runs.{wrong_record}
use Rattle.meaning.proofs.Tests.{cmp, or_left, or_right}
use Rattle.meaning.proofs.Below.{any-zero, any-more, any-like, any-or, any-and}
use Rattle.check_positions.proofs.Gaps.{wraps, wrap_fits}
use Rattle.check_positions.proofs.High.{high-or, step-turn, frequency-flag}
use Rattle.check_positions.proofs.Places.{carried, carried-next, pred-suc}

ltb-suc : (a b : ℕ) → ltb a (b + 1) ≡ leb a b
ltb-suc a b = rw add-one (leb-suc-suc a b)

-- ---- records: the document before plus 1
abbrev floor_of : List ℕ → ℕ → ℕ
floor_of run = carried (λ i. get_or run (3 * i) 0 + 1)

floor-flag : (run : List ℕ) (d i : ℕ) → ltb d (floor_of run i) ≡ (ltb 0 i && leb d (get_or run (3 * (i - 1)) 0))
floor-flag run d zero = le-ltb d 0 (omega arith)
floor-flag run d (suc i) = let h : 0 < suc i = omega arith in rw (pred-suc, lt-ltb _ _ h) (ltb-suc d (get_or run (3 * i) 0))

-- the three things that are gathered of record j: a document too large or not above the one before, a frequency outside, an index
abbrev high_step : List ℕ → ℕ → Bool
high_step run j = leb 2147483648 (get_or run (3 * j) 0) || ltb (get_or run (3 * j) 0) (floor_of run j)

abbrev outside : List ℕ → ℕ → Bool
outside run j = eqb (get_or run (3 * j + 1) 0) 0 || ltb largest_frequency (get_or run (3 * j + 1) 0)

abbrev indexed : List ℕ → ℕ → Bool
indexed run j = ltb 0 (get_or run (3 * j + 2) 0)

pub record Records (run : List ℕ) (i steps frequencies indexes floor : ℕ) : Type 0 where
  pub step : leb 2147483648 steps ≡ any_below i (high_step run)
  pub last : leb 2147483648 steps ≡ false → floor ≡ floor_of run i
  pub small : leb 2147483648 steps ≡ false → floor ≤ 2147483648
  pub frequency : leb 16777216 frequencies ≡ any_below i (outside run)
  pub index : leb 1 indexes ≡ any_below i (indexed run)

pub records-none : (run : List ℕ) → Records run 0 0 0 0 0
records-none run = record { step = sym (any-zero (high_step run)); last = λ e. refl; small = λ e. omega arith; frequency = sym (any-zero (outside run)); index = sym (any-zero (indexed run)) }

module _ (run : List ℕ) (i s q x f : ℕ) (h : Records run i s q x f) (r t g : ℕ) (er : (r + f) % 4294967296 ≡ get_or run (3 * i) 0) (lr : r < 4294967296) (et : (t + 1) % 4294967296 ≡ get_or run (3 * i + 1) 0) (lt : t < 4294967296) (eg : g ≡ (get_or run (3 * i) 0 + 1) % 4294967296) where
  turn : leb 2147483648 (bit_or s (bit_or (get_or run (3 * i) 0) r)) ≡ (leb 2147483648 s || (leb 2147483648 (get_or run (3 * i) 0) || ltb (get_or run (3 * i) 0) f))
  turn = step-turn s (get_or run (3 * i) 0) f r h.small er lr

  -- the floor is the run's as long as no high bit is set
  exact : (b : Bool) → (b ≡ false → f ≡ floor_of run i) → (b || (leb 2147483648 (get_or run (3 * i) 0) || ltb (get_or run (3 * i) 0) f)) ≡ (b || high_step run i)
  exact true k = refl
  exact false k = rw (k refl)

  doc-small : leb 2147483648 (bit_or s (bit_or (get_or run (3 * i) 0) r)) ≡ false → get_or run (3 * i) 0 < 2147483648
  doc-small e =
      leb-false _ _ (or_left (leb 2147483648 (get_or run (3 * i) 0)) (ltb (get_or run (3 * i) 0) f) (or_right (leb 2147483648 s) (leb 2147483648 (get_or run (3 * i) 0) || ltb (get_or run (3 * i) 0) f) (sym turn ∙ e)))

  pub records-more : Records run (i + 1) (bit_or s (bit_or (get_or run (3 * i) 0) r)) (bit_or q t) (bit_or x (get_or run (3 * i + 2) 0)) g
  records-more =
      record {
        step = turn ∙ exact (leb 2147483648 s) h.last ∙ any-more i (high_step run) (leb 2147483648 s) (high_step run i) h.step refl;
        last = λ e. let k = doc-small e in let m : g ≡ get_or run (3 * i) 0 + 1 = omega arith in m ∙ carried-next (λ j. get_or run (3 * j) 0 + 1) i;
        small = λ e. let k = doc-small e in omega arith;
        frequency = high-or 24 q t ∙ any-more i (outside run) (leb 16777216 q) (leb 16777216 t) h.frequency (frequency-flag (get_or run (3 * i + 1) 0) t et lt);
        index = high-or 0 x (get_or run (3 * i + 2) 0) ∙ any-more i (indexed run) (leb 1 x) _ h.index refl;
      }

-- the same as the code writes it, with the record's words in locals
pub records-next : (run : List ℕ) (i s q x f : ℕ) → Records run i s q x f → f < 4294967296 → (d v w : ℕ) → d ≡ get_or run (3 * i) 0 → v ≡ get_or run (3 * i + 1) 0 → w ≡ get_or run (3 * i + 2) 0 → d < 4294967296 → v < 4294967296 → Records run (i + 1) (bit_or s (bit_or d ((d + (4294967296 - f)) % 4294967296))) (bit_or q ((v + (4294967296 - 1)) % 4294967296)) (bit_or x w) ((d + 1) % 4294967296)
records-next run i s q x f h lf d v w ed ev ew ld lv =
    let document : get_or run (3 * i) 0 < 4294967296 = omega arith in
    let frequency : get_or run (3 * i + 1) 0 < 4294967296 = omega arith in
    rw (ed, ev, ew) (records-more run i s q x f h _ _ _ (wraps _ _ document lf) (wrap_fits _) (wraps _ 1 frequency (lit< tt)) (wrap_fits _) refl)

-- in a run that ascends the last document is the largest: the others need not be held to N
module _ (n : ℕ) (top : n ≤ 2147483648) (run : List ℕ) where
  abbrev wrong_document : ℕ → Bool
  wrong_document j = leb n (get_or run (3 * j) 0) || ltb (get_or run (3 * j) 0) (floor_of run j)

  -- a turn: b says that a high bit was set before, f is the floor and d the document
  last_turn : (b : Bool) (f d : ℕ) → ((b || (leb 2147483648 d || ltb d f)) || ltb n (d + 1)) ≡ ((b || ltb n f) || (leb n d || ltb d f))
  last_turn true f d = refl
  last_turn false f d = ⊎_elim (λ (m : d < f). below m) (λ (m : f ≤ d). ⊎_elim (λ (g : n < d + 1). over m g) (λ (g : d + 1 ≤ n). under m g) (cmp n (d + 1))) (cmp d f)
    where
      below : d < f → ((leb 2147483648 d || ltb d f) || ltb n (d + 1)) ≡ (ltb n f || (leb n d || ltb d f))
      below m = simp (lt-ltb _ _ m, or-true)

      over : f ≤ d → n < d + 1 → ((leb 2147483648 d || ltb d f) || ltb n (d + 1)) ≡ (ltb n f || (leb n d || ltb d f))
      over m g = let k : n ≤ d = omega arith in simp (lt-ltb _ _ g, le-leb _ _ k, or-true)

      under : f ≤ d → d + 1 ≤ n → ((leb 2147483648 d || ltb d f) || ltb n (d + 1)) ≡ (ltb n f || (leb n d || ltb d f))
      under m g = let a : d < 2147483648 = omega arith in let b : d < n = omega arith in let c : f ≤ n = omega arith in simp (lt-leb _ _ a, lt-leb _ _ b, le-ltb _ _ c, le-ltb _ _ m, le-ltb _ _ g)

  pub last-enough : (i : ℕ) → (any_below i (high_step run) || ltb n (floor_of run i)) ≡ any_below i wrong_document
  unfolding any_below
  last-enough zero = le-ltb n 0 (omega arith)
  last-enough (suc i) = last_turn (any_below i (high_step run)) (floor_of run i) (get_or run (3 * i) 0) ∙ ap (λ (b : Bool). b || wrong_document i) (last-enough i)

  flagged : (positions : Bool) (j : ℕ) → ((wrong_document j || outside run j) || (indexed run j && not positions)) ≡ wrong_record n positions run j
  unfolding wrong_record
  flagged positions j = rw (floor-flag run (get_or run (3 * j) 0) j)

  -- what is gathered over all records
  pub records-all : (positions : Bool) (k s q x f : ℕ) → Records run k s q x f → (((leb 2147483648 s || ltb n f) || leb 16777216 q) || (leb 1 x && not positions)) ≡ any_below k (wrong_record n positions run)
  records-all positions k s q x f h =
      ap (λ (b : Bool). (b || leb 16777216 q) || (leb 1 x && not positions)) (floors (leb 2147483648 s) h.last ∙ ap (λ (b : Bool). b || ltb n (floor_of run k)) h.step ∙ last-enough k) ∙ ap (λ (b : Bool). (any_below k wrong_document || b) || (leb 1 x && not positions)) h.frequency ∙ ap (λ (b : Bool). (any_below k wrong_document || any_below k (outside run)) || (b && not positions)) h.index ∙ ap (λ (b : Bool). (any_below k wrong_document || any_below k (outside run)) || b) (any-and k (indexed run) (not positions)) ∙ ap (λ (b : Bool). b || any_below k (λ j. indexed run j && not positions)) (sym (any-or k wrong_document (outside run))) ∙ sym (any-or k (λ j. wrong_document j || outside run j) (λ j. indexed run j && not positions)) ∙ any-like k _ _ (λ j l. flagged positions j)
    where
      floors : (b : Bool) → (b ≡ false → f ≡ floor_of run k) → (b || ltb n f) ≡ (b || ltb n (floor_of run k))
      floors true e = refl
      floors false e = ap (λ (m : ℕ). ltb n m) (e refl)
