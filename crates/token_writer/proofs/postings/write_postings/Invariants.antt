-- The postings of the tokens passed are written, and the cursor stands behind them.
use Rattle.std.proofs.Common.{◌≡◌, ℕ, length}
use Rattle.token_writer.specs.Writing.{WritePostingsPre}
use Rattle.token_writer.proofs.LeafRun.{Upto}
use Rattle.token_writer.proofs.postings.write_postings.Given as goal

abbrev pub invariant-loop-token : goal.invariant-loop-token
invariant-loop-token l = record {
  upto : (n m : ℕ) → WritePostingsPre n m l.records.tokens.now l.leaf l.positional l.at.token l.at.posting l.at.position (length l.initial.postings) → Upto n l.records.tokens.now l.leaf l.positional l.at.token l.at.posting l.at.position l.initial.postings l.postings l.token l.end.posting l.start l.before;
  token_is : l.end.token ≡ l.token;
  position_is : l.end.position ≡ l.at.position;
}
