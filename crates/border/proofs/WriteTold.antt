-- What the border's token writer is to answer and to leave: one law for each way through it, over the writer's own contract. Assumes nothing.
use Rattle.std.proofs.Common.{Result, Ok, Err}
use mathlib.Core.Path.{◌≡◌, refl, sym, ap, ◌∙◌}
use mathlib.Core.Bool.{Bool, true, false, or-false, ◌||◌}
use mathlib.Core.List.{List, [], ◌∷◌}
use Prim.Native.Nat.{ℕ, zero, suc, ◌≤◌, ◌<◌, min}
use native.Mathlib.Omega.{arith}
use lib.ListN.{length}
use borrow.Author.Tests.{lt-ltb, le-ltb}
use Rattle.meaning.specs.Refusals.{◌when◌, lowest}
use Rattle.meaning.specs.TokenRefusals.{Outputs, wrong16, write_refusal, write_answer, written_norms, written_postings, written_positions, written_runs}
use Rattle.meaning.specs.Entries.{written, answered}
use Rattle.refusal.specs.declared.Refusal.{Refusal}
use Rattle.refusal.specs.Numbers.{number_of, refusal_of}
use Rattle.tokens.specs.declared.Numbers.{Numbers}
use Rattle.token_writer.specs.Answers.{written_numbers, outputs, WritesIndex}
use Rattle.border.specs.Write.{write_numbers, border_write, LotWritesIndex}
use Rattle.border.proofs.Told.{refused-number, found-numbers, refused-keeps}

-- 16 held by a slice that is too short: a lower number stays, and 16 is what is left
sixteen : (a b c d : Bool) → lowest ((1 when a) ∷ (2 when b) ∷ (15 when c) ∷ (16 when (d || true)) ∷ []) ≡ answered (lowest ((1 when a) ∷ (2 when b) ∷ (15 when c) ∷ (16 when d) ∷ [])) 16 (λ m. min m 16)
unfolding lowest
sixteen true b c d = refl
sixteen false true c d = refl
sixteen false false true d = refl
sixteen false false false true = refl
sixteen false false false false = refl

module _ (n : ℕ) (fields leaf_fields ws : List ℕ) (o : Outputs) (places : ℕ) where
  pub write-long : 2 ≤ places → border_write n fields leaf_fields ws o places ≡ write_refusal n fields leaf_fields ws o
  unfolding border_write write_refusal
  write-long h = rw (le-ltb places 2 h, or-false (wrong16 n fields leaf_fields ws o))

  pub write-short : places < 2 → border_write n fields leaf_fields ws o places ≡ answered (write_refusal n fields leaf_fields ws o) 16 (λ m. min m 16)
  unfolding border_write write_refusal
  write-short h = rw (lt-ltb places 2 h) (sixteen _ _ _ _)

-- ---- what the entry is to answer and to leave
module _ (n : ℕ) (fields leaf_fields ws norms postings positions runs answer : List ℕ) where
  abbrev o : Outputs
  o = outputs (length norms) (length postings) (length positions) (length runs)

  abbrev refusal : ℕ
  refusal = write_refusal n fields leaf_fields ws o

  -- the writer's answer, by its shape
  refused-is : (a : Result Numbers Refusal) (k : Refusal) → a ≡ Err k → written_numbers a ≡ write_answer n fields leaf_fields ws o → (number_of k ≡ refusal) × (0 < refusal)
  unfolding written_numbers write_answer
  refused-is a k e f = refused-number refusal (number_of k) _ _ (sym (ap written_numbers e) ∙ f)

  done-is : (a : Result Numbers Refusal) (numbers : Numbers) → a ≡ Ok numbers → written_numbers a ≡ write_answer n fields leaf_fields ws o → (refusal ≡ 0) × ((numbers.postings ∷ numbers.positions ∷ []) ≡ write_numbers n fields leaf_fields ws)
  unfolding written_numbers write_answer
  done-is a numbers e f = found-numbers refusal _ _ _ (sym (ap written_numbers e) ∙ f)

  -- a refused call leaves every buffer
  told-refused : (r : ℕ) → r ≡ border_write n fields leaf_fields ws o (length answer) → 0 < r → LotWritesIndex n fields leaf_fields ws norms postings positions runs answer norms postings positions runs answer r
  unfolding written_norms written_postings written_positions written_runs
  told-refused r e h =
      record {
        refusal = e;
        norm_bytes = refused-keeps r _ norms h;
        posting_words = refused-keeps r _ postings h;
        position_words = refused-keeps r _ positions h;
        run_words = refused-keeps r _ runs h;
        numbers = refused-keeps r _ answer h;
      }

  refusal-is : (a : Result Numbers Refusal) → written_numbers a ≡ write_answer n fields leaf_fields ws o → refusal_of a ≡ refusal
  refusal-is (Err k) f = (refused-is (Err k) k refl f).0
  refusal-is (Ok numbers) f = sym (done-is (Ok numbers) numbers refl f).0

  above : (m : ℕ) → 0 < answered m 16 (λ i. min i 16)
  above zero = omega arith
  above (suc m) = omega arith

  pub write-told-short : (a : Result Numbers Refusal) (r : ℕ) → length answer < 2 → r ≡ answered (refusal_of a) 16 (λ m. min m 16) → written_numbers a ≡ write_answer n fields leaf_fields ws o → LotWritesIndex n fields leaf_fields ws norms postings positions runs answer norms postings positions runs answer r
  write-told-short a r h is f =
      let e = is ∙ ap (λ (m : ℕ). answered m 16 (λ i. min i 16)) (refusal-is a f) in
      let p : 0 < r = rw e (above refusal) in
      told-refused r (e ∙ sym (write-short n fields leaf_fields ws o (length answer) h)) p

  module _ (a : Result Numbers Refusal) (norms' postings' positions' runs' : List ℕ) (h : 2 ≤ length answer) (w : WritesIndex n fields leaf_fields ws norms postings positions runs norms' postings' positions' runs' a) where
    by : (r : ℕ) (answer' : List ℕ) → r ≡ refusal → answer' ≡ answered r (written (write_numbers n fields leaf_fields ws) answer) (λ m. answer) → LotWritesIndex n fields leaf_fields ws norms postings positions runs answer norms' postings' positions' runs' answer' r
    by r answer' e g =
        record {
          refusal = e ∙ sym (write-long n fields leaf_fields ws o (length answer) h);
          norm_bytes = w.norm_bytes ∙ ap (λ (m : ℕ). written_norms m n fields leaf_fields ws norms) (sym e);
          posting_words = w.posting_words ∙ ap (λ (m : ℕ). written_postings m n fields leaf_fields ws postings) (sym e);
          position_words = w.position_words ∙ ap (λ (m : ℕ). written_positions m n fields leaf_fields ws positions) (sym e);
          run_words = w.run_words ∙ ap (λ (m : ℕ). written_runs m n fields leaf_fields ws runs) (sym e);
          numbers = g;
        }

    pub write-told-refused : (k : Refusal) → a ≡ Err k → LotWritesIndex n fields leaf_fields ws norms postings positions runs answer norms' postings' positions' runs' answer (number_of k)
    write-told-refused k e =
        let z = refused-is a k e w.answer in
        by (number_of k) answer z.0 (refused-keeps (number_of k) _ answer (rw z.0 z.1))

    pub write-told-done : (numbers : Numbers) (answer' : List ℕ) → a ≡ Ok numbers → answer' ≡ written (numbers.postings ∷ numbers.positions ∷ []) answer → LotWritesIndex n fields leaf_fields ws norms postings positions runs answer norms' postings' positions' runs' answer' 0
    write-told-done numbers answer' e g =
        let z = done-is a numbers e w.answer in
        by 0 answer' (sym z.0) (g ∙ ap (λ (xs : List ℕ). written xs answer) z.1)
