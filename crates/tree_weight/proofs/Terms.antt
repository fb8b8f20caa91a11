-- A term whose cursor has passed only documents below a bound has passed only those below a larger one.
-- Assumes nothing.
use Prim.Native.Nat.{ℕ, ◌≤◌}
use native.Mathlib.Nat.{lt_of_lt_of_le}
use Rattle.meaning.specs.Lent.{Index}
use Rattle.tree_weight.specs.State.{State}
use Rattle.tree_weight.specs.Held.{RunAt, TermIs}

run-mono : {doc : ℕ → ℕ} {n u b e : ℕ} → b ≤ e → RunAt doc n u b → RunAt doc n u e
run-mono h p = record { within = p.within; passed = λ i g. lt_of_lt_of_le (p.passed i g) h }

pub term-mono : (ix : Index) (k l : ℕ) (s : State) (b e : ℕ) → b ≤ e → TermIs ix k l s b → TermIs ix k l s e
term-mono ix k l s b e h p =
    record {
      kind-is = p.kind-is;
      size_is = p.size_is;
      first-is = p.first-is;
      number_is = p.number_is;
      field_is = p.field_is;
      norms-is = p.norms-is;
      run = run-mono h p.run;
    }
