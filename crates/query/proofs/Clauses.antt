-- A Boolean's clauses, as the code passes them one by one. Assumes nothing.
use mathlib.Core.Path.{◌≡◌, refl, sym, subst, ap}
use mathlib.Core.List.{List}
use Rattle.std.specs.Prelude.{Some, None}
use mathlib.Core.Option.{Option, none, some}
use Prim.Native.Nat.{ℕ, zero, suc, ◌-◌, ◌≤◌, ◌<◌}
use native.Mathlib.Omega.{arith}
use native.Mathlib.Nat.{not-suc-le-zero}
use Rattle.meaning.specs.Query.{record_count, record_occurrence, Occur, occur_of, Decoded, DecodedClauses, decode, decode_clauses, ◌>>=◌}
use Rattle.query.specs.Inner.{decoded_end, end_of_clauses}
use Rattle.query.proofs.Steps.{decode-missing, bind-none}

module _ (q : List ℕ) (d : ℕ) where
  pub clause-unknown : (n r : ℕ) → 0 < n → occur_of (record_occurrence q r) ≡ none → decode_clauses q (decode q d) n r ≡ none
  unfolding decode_clauses
  clause-unknown zero r h e = absurd (not-suc-le-zero h)
  clause-unknown (suc n) r h e = rw e

  pub clause-none : (n r : ℕ) → 0 < n → decode q d r ≡ none → decode_clauses q (decode q d) n r ≡ none
  unfolding decode_clauses
  clause-none zero r h e = absurd (not-suc-le-zero h)
  clause-none (suc n) r h e = bind-none (occur_of (record_occurrence q r)) _ (λ o. rw e)

  pub clause-missing : (n r : ℕ) → 0 < n → record_count q ≤ r → decode_clauses q (decode q d) n r ≡ none
  clause-missing n r h g = clause-none n r h (decode-missing q r d g)

  pub end-none : (r : ℕ) → None ≡ decoded_end (decode q d r) → decode q d r ≡ none
  end-none r e = go (decode q d r) e
    where
      go : (o : Option Decoded) → None ≡ decoded_end o → o ≡ none
      go none z = refl
      go (some D) z = cc

  pub end-some : (r e : ℕ) → Some e ≡ decoded_end (decode q d r) → (D : Decoded) × (decode q d r ≡ some D) × (D.next ≡ e)
  end-some r e f = go (decode q d r) f
    where
      go : (o : Option Decoded) → Some e ≡ decoded_end o → (D : Decoded) × (o ≡ some D) × (D.next ≡ e)
      go none z = cc
      go (some D) z = (D, refl, cc)

  last_end : (C : Option DecodedClauses) (f : DecodedClauses → DecodedClauses) → ((cs : DecodedClauses) → (f cs).next ≡ cs.next) → end_of_clauses C ≡ end_of_clauses (C >>= λ cs. some (f cs))
  last_end none f h = refl
  last_end (some C) f h = ap Some (sym (h C))

  clause-past : (n r e : ℕ) (o : Occur) → occur_of (record_occurrence q r) ≡ some o → (D : Decoded) → decode q d r ≡ some D → D.next ≡ e → end_of_clauses (decode_clauses q (decode q d) n e) ≡ end_of_clauses (decode_clauses q (decode q d) (suc n) r)
  unfolding decode_clauses
  clause-past n r e o g D p i = rw (← i, g, p) (last_end (decode_clauses q (decode q d) n D.next) _ (λ cs. refl))

  -- past a clause, those left end where all do
  pub clause-more : (n r e : ℕ) (o : Occur) → 0 < n → occur_of (record_occurrence q r) ≡ some o → Some e ≡ decoded_end (decode q d r) → end_of_clauses (decode_clauses q (decode q d) (n - 1) e) ≡ end_of_clauses (decode_clauses q (decode q d) n r)
  clause-more zero r e o h g f = absurd (not-suc-le-zero h)
  clause-more (suc n) r e o h g f = let s = end-some r e f in subst (λ (m : ℕ). end_of_clauses (decode_clauses q (decode q d) m e) ≡ end_of_clauses (decode_clauses q (decode q d) (suc n) r)) less (clause-past n r e o g s.0 s.1 s.2)
    where
      less : n ≡ suc n - 1
      less = omega arith

pub no-clauses : (q : List ℕ) (at : ℕ → Option Decoded) (n r : ℕ) → n ≤ 0 → Some r ≡ end_of_clauses (decode_clauses q at n r)
unfolding decode_clauses
no-clauses q at zero r h = refl
no-clauses q at (suc n) r h = absurd (not-suc-le-zero h)
