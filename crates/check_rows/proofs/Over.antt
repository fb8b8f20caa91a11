-- What the pass over records gathers: one record more, and rows more. Assumes nothing.
use Rattle.std.proofs.Common.{◌≡◌, ℕ, ◌+◌, ◌-◌, ◌*◌, ◌/◌, ◌%◌, ◌<◌, ◌≤◌, Bool, cond, ◌&&◌, ltb, leb, List, get_or, sym, refl, ap, ◌∙◌, subst, ⊎_elim, arith, lt-ltb}
use lib.Bits.{bit_or}
use Rattle.meaning.specs.Below.{count_below}
use Rattle.meaning.proofs.Below.{count-more, count-le, last-or-below}
use Rattle.check_positions.specs.Places.{gap}
use Rattle.check_rows.specs.Rows.{up_at, off_at, Over, document_up, index_up}
use Rattle.check_rows.specs.declared.Tally.{Tally}
use Rattle.check_positions.proofs.High.{or-ge}
use Rattle.check_positions.proofs.Gaps.{gap_is, wraps, wrap_fits, high_bit, or_right, bound-more, only}

abbrev pub tally_of : ℕ → ℕ → ℕ → ℕ → ℕ → ℕ → Tally
tally_of a b c d e f = record { ascents = a; advances = b; apart = c; docs = d; frequencies = e; indexes = f }

-- the first record
pub over-one : (run : List ℕ) → Over run 1 (tally_of 0 0 0 (get_or run 0 0) (get_or run 1 0) (get_or run 2 0))
unfolding count_below
over-one run =
    record {
      documents-up = refl;
      indexes-up = refl;
      off = λ i p l. absurd (omega arith);
      document = only (λ i. get_or run (3 * i) 0);
      frequency = only (λ i. get_or run (3 * i + 1) 0);
      index = only (λ i. get_or run (3 * i + 2) 0);
    }

-- a step that wraps, as a flag
step-up : (run : List ℕ) (k m s : ℕ) → m ≡ k - 3 → (s + get_or run k 0) % 4294967296 ≡ get_or run m 0 → s < 4294967296 → get_or run k 0 < 4294967296 → s / 2147483648 ≡ cond (up_at run k) 1 0
unfolding up_at
step-up run k m s e g l n =
    high_bit s l ∙ ap (λ (z : ℕ). cond (leb 2147483648 z) 1 0) (gap_is (get_or run (k - 3) 0) (get_or run k 0) s (g ∙ ap (λ (z : ℕ). get_or run z 0) e) l n)

step-off : (run : List ℕ) (k m n s : ℕ) → m ≡ k - 3 → n ≡ k - 4 → (s + get_or run k 0) % 4294967296 ≡ get_or run m 0 → s < 4294967296 → get_or run k 0 < 4294967296 → (s + get_or run n 0) % 4294967296 ≡ off_at run k
unfolding off_at
step-off run k m n s e f g l o =
    ap (λ (z : ℕ). (z + get_or run n 0) % 4294967296) (gap_is (get_or run (k - 3) 0) (get_or run k 0) s (g ∙ ap (λ (z : ℕ). get_or run z 0) e) l o) ∙ ap (λ (z : ℕ). (gap (get_or run (k - 3) 0) (get_or run k 0) + get_or run z 0) % 4294967296) f

count-step : (n c x : ℕ) (p : ℕ → Bool) → c ≡ count_below n (λ i. ltb 0 i && p i) → 0 < n → x ≡ cond (p n) 1 0 → c + x ≡ count_below (n + 1) (λ i. ltb 0 i && p i)
count-step n c x p e l g = rw (e, g) (sym (count-more n (λ i. ltb 0 i && p i) ∙ rw (lt-ltb 0 n l)))

module _ (run : List ℕ) (i : ℕ) (some : 0 < i) (t : Tally) (h : Over run i t) where
  -- one record more: d and s are what the document and the index before are above it, where the word wraps
  pub over-more : (d s x : ℕ) → (d + get_or run (3 * i) 0) % 4294967296 ≡ get_or run (3 * i - 3) 0 → d < 4294967296 → get_or run (3 * i) 0 < 4294967296 → (s + get_or run (3 * i + 2) 0) % 4294967296 ≡ get_or run (3 * i - 3 + 2) 0 → s < 4294967296 → get_or run (3 * i + 2) 0 < 4294967296 → x ≡ (s + get_or run (3 * i - 3 + 1) 0) % 4294967296 → Over run (i + 1) (tally_of (t.ascents + d / 2147483648) (t.advances + s / 2147483648) (bit_or t.apart x) (bit_or t.docs (get_or run (3 * i) 0)) (bit_or t.frequencies (get_or run (3 * i + 1) 0)) (bit_or t.indexes (get_or run (3 * i + 2) 0)))
  over-more d s x g l m g' l' m' f =
      record {
        documents-up = count-step i t.ascents _ (λ k. up_at run (3 * k)) h.documents-up some (step-up run (3 * i) (3 * i - 3) d refl g l m);
        indexes-up = count-step i t.advances _ (λ k. up_at run (3 * k + 2)) h.indexes-up some (step-up run (3 * i + 2) (3 * i - 3 + 2) s (omega arith) g' l' m');
        off = λ k p q. ⊎_elim (λ (e : k ≡ i). let z : off_at run (3 * k + 2) ≡ x = ap (λ (y : ℕ). off_at run (3 * y + 2)) e ∙ sym (f ∙ step-off run (3 * i + 2) (3 * i - 3 + 2) (3 * i - 3 + 1) s (omega arith) (omega arith) g' l' m') in omega (arith, z, or_right t.apart x)) (λ (b : k < i). omega (arith, h.off k p b, or-ge t.apart x)) (last-or-below k i (omega arith));
        document = bound-more (λ k. get_or run (3 * k) 0) i t.docs _ h.document refl;
        frequency = bound-more (λ k. get_or run (3 * k + 1) 0) i t.frequencies _ h.frequency refl;
        index = bound-more (λ k. get_or run (3 * k + 2) 0) i t.indexes _ h.index refl;
      }

  -- the same as the code writes the differences
  pub over-next : ((k : ℕ) → get_or run k 0 < 4294967296) → Over run (i + 1) (tally_of (t.ascents + (get_or run (3 * i - 3) 0 + (4294967296 - get_or run (3 * i) 0)) % 4294967296 / 2147483648) (t.advances + (get_or run (3 * i - 3 + 2) 0 + (4294967296 - get_or run (3 * i + 2) 0)) % 4294967296 / 2147483648) (bit_or t.apart (((get_or run (3 * i - 3 + 2) 0 + (4294967296 - get_or run (3 * i + 2) 0)) % 4294967296 + get_or run (3 * i - 3 + 1) 0) % 4294967296)) (bit_or t.docs (get_or run (3 * i) 0)) (bit_or t.frequencies (get_or run (3 * i + 1) 0)) (bit_or t.indexes (get_or run (3 * i + 2) 0)))
  over-next w =
      over-more _ _ _ (wraps _ _ (w (3 * i - 3)) (w (3 * i))) (wrap_fits _) (w (3 * i)) (wraps _ _ (w (3 * i - 3 + 2)) (w (3 * i + 2))) (wrap_fits _) (w (3 * i + 2)) refl

  pub over-few : (t.ascents ≤ i) × (t.advances ≤ i)
  over-few = (omega (arith, h.documents-up, count-le i (document_up run)), omega (arith, h.indexes-up, count-le i (index_up run)))

pub over-end : (run : List ℕ) (i n : ℕ) (t : Tally) → Over run i t → i ≡ n → Over run n t
over-end run i n t h e = subst (λ (z : ℕ). Over run z t) e h
