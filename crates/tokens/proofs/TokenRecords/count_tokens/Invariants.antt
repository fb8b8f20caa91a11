-- None of the tokens passed is wrong, and the numbers are the postings and positions that they fill.
use Rattle.std.proofs.Common.{◌≡◌, false}
use Rattle.meaning.specs.Below.{any_below, count_below}
use Rattle.meaning.specs.Tokens.{token_at, positional}
use Rattle.meaning.specs.TokenRefusals.{wrong_token}
use Rattle.tokens.specs.Counts.{begins_posting}
use Rattle.tokens.proofs.TokenRecords.count_tokens.Given as goal

abbrev pub invariant-loop-i : goal.invariant-loop-i
invariant-loop-i l = record {
  right : any_below l.i (wrong_token l.self.max_doc l.self.leaf_fields.now l.self.tokens.now) ≡ false;
  postings : l.postings ≡ count_below l.i (begins_posting l.self.tokens.now);
  positions : l.positions ≡ count_below l.i (λ i. positional l.self.fields.now l.self.leaf_fields.now (token_at l.self.tokens.now i).leaf);
}
