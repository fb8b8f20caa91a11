-- No words at all have every bit set; else the word of a window has the live bits of its documents.
use Rattle.std.proofs.Common.{sym, ◌∙◌, ◌+◌}
use Rattle.bits.proofs.Laws.{full}
use Rattle.bulk_window.proofs.Live.{all-live, word-live}
use Rattle.bulk_window.proofs.live_word.Goals as goal

pub returns-then-is_empty : goal.returns-then-is_empty
returns-then-is_empty c = λ p h. full p h ∙ sym (all-live c.args.live.now (c.args.base + p) (sym c.if-is_empty.ensures))

pub returns : goal.returns
returns c = λ p h. word-live c.args.live.now c.args.base p c.requires.whole h (sym c.if-is_empty.ensures)
