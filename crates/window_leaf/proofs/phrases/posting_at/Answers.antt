use Rattle.std.proofs.Common.{◌≡◌, ap, ◌∙◌, ℕ, ◌+◌, ◌*◌, get_or}
use Rattle.meaning.specs.Below.{count_below}
use Rattle.bits.specs.Bit.{bit}
use Rattle.window_leaf.specs.Phrases.{rank_at}
use Rattle.window_leaf.proofs.phrases.posting_at.Goals as goal

pub returns : goal.returns
returns c =
    let a = c.args in
    let rank : c.rank-before.result ≡ rank_at a.terms.now a.at a.place = c.rank-before.ensures ∙ ap (λ (y : ℕ). count_below a.place (λ q. bit q y)) c.joined-bits.ensures.word in
    ap (λ (y : ℕ). 3 * (get_or a.terms.now (a.at + 6) 0 + get_or a.terms.now (a.at + 19) 0 + y)) rank
