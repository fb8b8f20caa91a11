-- Each turn puts one hit's line behind the others; a line has at most 30 bytes, so all fit.
use Rattle.std.proofs.Common.{rules, ◌≡◌, sym, ap, ◌∙◌, List, ◌++◌, append-nil, ℕ, length, take, length-append, slice_index_or, pos, arith, to_z, of_z, w64, ℤ}
use Rattle.hits_text.specs.Text.{hit_line, hit_lines}
use Rattle.hits_text.proofs.Putting.{put-more}
use Rattle.hits_text.proofs.Lines.{lines-none, lines_more, line-short}
use Rattle.hits_text.proofs.hit.push_hits.Goals as goal

pub loop-code-init : goal.loop-code-init
loop-code-init g c = record {
  lines = sym (ap (λ (l : List ℕ). c.args.text.now.items ++ l) lines-none ∙ append-nil c.args.text.now.items);
  short = omega arith;
}

pub loop-code-preserved : goal.loop-code-preserved
loop-code-preserved g c =
    let l = c.loop-code in
    let i = l.code-index in
    let code = slice_index_or c.args.codes.now i (pos 0) in
    let same : to_z w64 (of_z w64 code) ≡ code = search rules in
    let more = c.push_hit.ensures ∙ ap (λ (z : ℤ). l.text.items ++ hit_line z) same in
    record {
      lines = put-more c.args.text.now.items (hit_lines (take i c.args.codes.now)) (hit_line code) l.text.items _ l.invariant.lines more ∙ ap (λ (x : List ℕ). c.args.text.now.items ++ x) (sym (lines_more c.args.codes.now i c.loop-code-test.true));
      short = omega (arith, l.invariant.short, ap length more, length-append l.text.items (hit_line code), line-short code);
    }
