-- The lines of the codes so far stand behind what there was.
use Rattle.std.proofs.Common.{◌≡◌, ◌++◌, take, ◌+◌, ◌*◌, ◌≤◌, length}
use Rattle.hits_text.specs.Text.{hit_lines}
use Rattle.hits_text.proofs.hit.push_hits.Given as goal

abbrev pub invariant-loop-code : goal.invariant-loop-code
invariant-loop-code g l = record {
  lines : l.text.items ≡ l.initial.text.items ++ hit_lines (take l.code-index l.codes);
  short : length l.text.items ≤ length l.initial.text.items + 30 * l.code-index;
}
