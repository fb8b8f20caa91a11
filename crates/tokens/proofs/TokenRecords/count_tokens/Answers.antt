-- Each turn tests one token and counts it; the first wrong one ends the loop.
use Rattle.std.proofs.Common.{◌≡◌, false, sym, ap, ◌∙◌, arith}
use Rattle.meaning.specs.Tokens.{token_at, positional}
use Rattle.meaning.proofs.Below.{any-zero, any-more, any_some, count-zero, count-le}
use Rattle.tokens.specs.declared.Token.{Token}
use Rattle.tokens.specs.Counts.{begins_posting}
use Rattle.tokens.proofs.OneToken.{named-leaf, count-more, byte-le}
use Rattle.tokens.proofs.TokenRecords.count_tokens.Goals as goal

pub loop-i-init : goal.loop-i-init
loop-i-init c = record { right = any-zero _; postings = sym (count-zero _); positions = sym (count-zero _) }

pub returns-then-wrong_token-clause-wrong : goal.returns-then-wrong_token-clause-wrong
returns-then-wrong_token-clause-wrong c = sym (any_some _ _ c.loop-i.i (omega arith) (sym c.wrong_token.ensures ∙ c.if-wrong_token.true))

pub overflow_add-postings : goal.overflow_add-postings
overflow_add-postings c = omega (arith, byte-le _ _ c.from-postings.ensures, c.loop-i.invariant.postings, count-le c.loop-i.i (begins_posting c.args.self.tokens.now))

pub is_positional-requires : goal.is_positional-requires
is_positional-requires c =
    let s = c.args.self in
    rw c.token_at-leaf.ensures (named-leaf s.tokens.now c.loop-i.i s.max_doc s.leaf_fields.now s.fields.now _ c.requires c.wrong_token.ensures c.if-wrong_token.false)

pub overflow_add-positions : goal.overflow_add-positions
overflow_add-positions c =
    let s = c.args.self in
    omega (arith, byte-le _ _ c.from-positions.ensures, c.loop-i.invariant.positions, count-le c.loop-i.i (λ i. positional s.fields.now s.leaf_fields.now (token_at s.tokens.now i).leaf))

pub loop-i-preserved : goal.loop-i-preserved
loop-i-preserved c =
    let s = c.args.self in
    let v = c.loop-i.invariant in
    let here : c.is_positional.result ≡ positional s.fields.now s.leaf_fields.now (token_at s.tokens.now c.loop-i.i).leaf = c.is_positional.ensures ∙ ap (λ (u : Token). positional s.fields.now s.leaf_fields.now u.leaf) c.token_at-leaf.ensures in
    record {
      right = sym (any-more _ _ false false (sym v.right) (sym c.if-wrong_token.false ∙ c.wrong_token.ensures));
      postings = count-more _ _ _ v.postings _ _ c.from-postings.ensures c.begins_posting.ensures;
      positions = count-more _ _ _ v.positions _ _ c.from-positions.ensures here;
    }
