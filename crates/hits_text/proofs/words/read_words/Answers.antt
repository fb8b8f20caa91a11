-- Each turn reads one word more; at the end all whole ones of the file stand at the front.
use Rattle.std.proofs.Common.{sym, ap, ◌∙◌, ℕ, List, [], ◌/◌, length, w32, arith}
use Rattle.std.specs.Int.{from_le_bytes}
use lib.ListN.{get_or}
use lib.Seq.{length-take-le}
use Rattle.meaning.proofs.Below.{list_to-zero}
use Rattle.hits_text.specs.Text.{word_at, file_words}
use Rattle.hits_text.proofs.Filling.{filled_more, filled-all, chunk-word}
use Rattle.hits_text.proofs.words.read_words.Goals as goal

pub loop-i-init : goal.loop-i-init
loop-i-init c = sym (list_to-zero (word_at c.args.bytes.now))

pub loop-i-preserved : goal.loop-i-preserved
loop-i-preserved c =
    let bytes = c.args.bytes.now in
    let n = length bytes / 4 in
    let l = c.loop-i in
    filled_more l.words l.i c.from_le_bytes.result (word_at bytes) (omega arith) l.invariant
    (c.from_le_bytes.ensures ∙ ap (λ (chunks : List (List ℕ)). from_le_bytes w32 (get_or chunks l.i [])) c.as_chunks.ensures.front ∙ chunk-word bytes n l.i (omega arith))

pub returns-clause-prefix_len : goal.returns-clause-prefix_len
returns-clause-prefix_len c = (omega arith, sym (length-take-le _ c.loop-i.words (omega arith)))

pub returns-clause-words_after : goal.returns-clause-words_after
unfolding file_words
returns-clause-words_after c = filled-all c.loop-i.words _ _ _ (word_at c.args.bytes.now) c.loop-i.invariant (omega arith) c.as_chunks.ensures.front_len
