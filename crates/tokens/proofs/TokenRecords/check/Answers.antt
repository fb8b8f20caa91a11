-- Too many or broken token records, a leaf with an absent field and a wrong token are each refused with 15.
use Rattle.meaning.specs.TokenRefusals.{wrong15}
use Rattle.tokens.proofs.TokenRecords.check.Goals as goal

pub returns-then-self-token_count-clause-wrong :
    goal.returns-then-self-token_count-clause-wrong
unfolding wrong15
returns-then-self-token_count-clause-wrong c = rw (← c.token_count.ensures, c.if-self-token_count.true)

pub returns-then-wrong_leaf_fields-clause-wrong :
    goal.returns-then-wrong_leaf_fields-clause-wrong
unfolding wrong15
returns-then-wrong_leaf_fields-clause-wrong c =
    let right = rw c.token_count.ensures at c.if-self-token_count.false in
    rw (← c.wrong_leaf_fields.ensures, right, c.if-wrong_leaf_fields.true)

pub returns-clause-wrong : goal.returns-clause-wrong
unfolding wrong15
returns-clause-wrong c =
    let right = rw c.token_count.ensures at c.if-self-token_count.false in
    rw (← c.wrong_leaf_fields.ensures, right, c.if-wrong_leaf_fields.false) c.count_tokens.ensures.wrong
