-- Each turn writes one window's bytes and moves the cursors to the next window.
use Rattle.std.proofs.Common.{◌≡◌, ap, ◌∙◌, ◌+◌, ◌-◌, ◌*◌, ℕ, min, length, arith}
use Rattle.std.proofs.lemmas.List.Edits.{sets}
use Rattle.meaning.specs.Below.{list_to}
use Rattle.meaning.specs.SmallFloat.{int_to_byte4}
use Rattle.token_norms.specs.Lengths.{length_in, cursors_at}
use Rattle.token_norms.proofs.Filled.{zeros}
use Rattle.token_norms.proofs.Fields.{cursors-none, windows-none, window_more, windows-done}
use Rattle.token_norms.proofs.FieldRuns.write_field.Goals as goal

pub loop-window-init : goal.loop-window-init
loop-window-init c =
    let s = c.args.self in
    record {
      cursors_are = zeros 512 (cursors_at s.leaf_fields.now s.postings.now s.runs.now s.field 0) (λ i l. cursors-none s.leaf_fields.now s.postings.now s.runs.now s.field i);
      norms_are = windows-none c.args.norms.now (length c.args.norms.now) (λ d. int_to_byte4 (length_in s.leaf_fields.now s.postings.now s.runs.now s.field d));
    }

pub loop-window-preserved : goal.loop-window-preserved
loop-window-preserved c =
    let s = c.args.self in
    let l = c.loop-window in
    let next : l.window * 4096 + 4096 ≡ (l.window + 1) * 4096 = omega arith in
    record {
      cursors_are = c.write_window.ensures.cursors_after ∙ ap (λ (k : ℕ). list_to 512 (cursors_at s.leaf_fields.now s.postings.now s.runs.now s.field k)) next;
      norms_are = window_more c.args.norms.now l.norms _ (l.window * 4096) (length c.args.norms.now) (λ d. int_to_byte4 (length_in s.leaf_fields.now s.postings.now s.runs.now s.field d)) l.invariant.norms_are (omega (arith, c.loop-window-test.true, c.div_ceil-window-end.ensures)) (c.write_window.ensures.norms_after ∙ ap (λ (k : ℕ). sets l.norms (l.window * 4096) (list_to (min 4096 (k - l.window * 4096)) (λ j. int_to_byte4 (length_in s.leaf_fields.now s.postings.now s.runs.now s.field (l.window * 4096 + j))))) l.auto.norms)
          ∙ ap (λ (k : ℕ). sets c.args.norms.now 0 (list_to (min k (length c.args.norms.now)) (λ d. int_to_byte4 (length_in s.leaf_fields.now s.postings.now s.runs.now s.field d)))) next;
    }

pub returns : goal.returns
returns c =
    let s = c.args.self in
    let l = c.loop-window in
    windows-done c.args.norms.now l.norms (l.window * 4096) (λ d. int_to_byte4 (length_in s.leaf_fields.now s.postings.now s.runs.now s.field d)) l.invariant.norms_are (omega (arith, c.loop-window-test.false, c.div_ceil-window-end.ensures))
