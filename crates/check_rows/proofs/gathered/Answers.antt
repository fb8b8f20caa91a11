-- The head leaves whole rows of four records: the head, one half of the rows and the other gather all records.
use Rattle.std.proofs.Common.{◌≡◌, ℕ, ◌+◌, ◌-◌, ◌*◌, ◌/◌, ◌≤◌, List, length, sym, refl, subst, arith}
use Rattle.check_rows.specs.Rows.{Over}
use Rattle.check_rows.specs.declared.Tally.{Tally}
use Rattle.check_rows.proofs.Over.{over-end}
use Rattle.check_rows.proofs.Joining.{over-rows, rows_few}
use Rattle.check_rows.proofs.gathered.Goals as goal

-- how many rows there are, and the records before them
abbrev lines : List ℕ → ℕ
lines run = (length run / 3 - 2) / 4

abbrev first : List ℕ → ℕ
first run = length run / 3 - 4 * lines run

two : (run : List ℕ) → 2 ≤ length run / 3 → 2 ≤ first run
two run l = omega arith

whole : (run : List ℕ) → 2 ≤ length run / 3 → first run + 4 * (lines run / 2) + 4 * (lines run - lines run / 2) ≡ length run / 3
whole run l = omega arith

pub with_rows-t-requires : goal.with_rows-t-requires
with_rows-t-requires c =
    let run = c.args.run.now in
    let b = rows_few run (first run) (lines run / 2) (3 * first run - 6) (3 * (first run + 4 * (lines run / 2))) c.head.result c.rows.result (two run c.requires.0) refl (omega arith) (omega arith) c.head.ensures c.rows.ensures in
    (omega (arith, b.0, c.requires), omega (arith, b.1, c.requires))

pub with_rows-requires : goal.with_rows-requires
with_rows-requires c =
    let run = c.args.run.now in
    let half : Over run (first run + 4 * (lines run / 2)) c.with_rows-t.result = subst (λ (t : Tally). Over run (first run + 4 * (lines run / 2)) t) (sym c.with_rows-t.ensures) (over-rows run (first run) (lines run / 2) (3 * first run - 6) (3 * (first run + 4 * (lines run / 2))) c.head.result c.rows.result (two run c.requires.0) refl (omega arith) (omega arith) c.head.ensures c.rows.ensures) in
    let enough : 2 ≤ first run + 4 * (lines run / 2) = omega (arith, two run c.requires.0) in
    let b = rows_few run (first run + 4 * (lines run / 2)) (lines run - lines run / 2) (3 * (first run + 4 * (lines run / 2)) - 6) (3 * (length run / 3)) c.with_rows-t.result c.rows-2.result enough refl (omega (arith, c.requires)) (omega arith) half c.rows-2.ensures in
    (omega (arith, b.0, c.requires), omega (arith, b.1, c.requires))

pub returns : goal.returns
returns c =
    let run = c.args.run.now in
    let half : Over run (first run + 4 * (lines run / 2)) c.with_rows-t.result = subst (λ (t : Tally). Over run (first run + 4 * (lines run / 2)) t) (sym c.with_rows-t.ensures) (over-rows run (first run) (lines run / 2) (3 * first run - 6) (3 * (first run + 4 * (lines run / 2))) c.head.result c.rows.result (two run c.requires.0) refl (omega arith) (omega arith) c.head.ensures c.rows.ensures) in
    let enough : 2 ≤ first run + 4 * (lines run / 2) = omega (arith, two run c.requires.0) in
    subst (λ (t : Tally). Over run (length run / 3) t) (sym c.with_rows.ensures) (over-end run _ _ _ (over-rows run (first run + 4 * (lines run / 2)) (lines run - lines run / 2) (3 * (first run + 4 * (lines run / 2)) - 6) (3 * (length run / 3)) c.with_rows-t.result c.rows-2.result enough refl (omega (arith, c.requires)) (omega arith) half c.rows-2.ensures) (whole run c.requires.0))
