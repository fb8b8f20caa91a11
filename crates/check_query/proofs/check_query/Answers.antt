-- The passes go by the numbers 7 to 10, so the first that holds is the lowest; a pass may ask for what those before let
-- through.
use Rattle.std.proofs.Common.{sym, ◌∙◌}
use Rattle.index.specs.IndexOf.{index_of}
use Rattle.query.proofs.Accepted.{boosts, phrase-fields}
use Rattle.check_query.proofs.Refused.{refused-7, refused-8, refused-9, refused-10, not-refused}
use Rattle.check_query.proofs.check_query.Goals as goal

pub returns-then-wrong_records : goal.returns-then-wrong_records
returns-then-wrong_records c =
    refused-7 (index_of c.args.lent.now) c.args.query.now (sym c.wrong_records.ensures ∙ c.if-wrong_records.true)

pub returns-then-wrong_values : goal.returns-then-wrong_values
returns-then-wrong_values c =
    refused-8 (index_of c.args.lent.now) c.args.query.now (sym c.wrong_records.ensures ∙ c.if-wrong_records.false) (sym c.wrong_values.ensures ∙ c.if-wrong_values.true)

pub wrong_boost-requires : goal.wrong_boost-requires
wrong_boost-requires c =
    (sym c.wrong_records.ensures ∙ c.if-wrong_records.false, boosts (index_of c.args.lent.now) c.args.query.now (sym c.wrong_values.ensures ∙ c.if-wrong_values.false))

pub returns-then-wrong_boost : goal.returns-then-wrong_boost
returns-then-wrong_boost c =
    refused-9 (index_of c.args.lent.now) c.args.query.now (sym c.wrong_records.ensures ∙ c.if-wrong_records.false) (sym c.wrong_values.ensures ∙ c.if-wrong_values.false) (sym c.wrong_boost.ensures ∙ c.if-wrong_boost.true)

pub wrong_positions-requires : goal.wrong_positions-requires
wrong_positions-requires c =
    phrase-fields (index_of c.args.lent.now) c.args.query.now (sym c.wrong_values.ensures ∙ c.if-wrong_values.false)

pub returns-then-wrong_positions : goal.returns-then-wrong_positions
returns-then-wrong_positions c =
    refused-10 (index_of c.args.lent.now) c.args.query.now (sym c.wrong_records.ensures ∙ c.if-wrong_records.false) (sym c.wrong_values.ensures ∙ c.if-wrong_values.false) (sym c.wrong_boost.ensures ∙ c.if-wrong_boost.false) (sym c.wrong_positions.ensures ∙ c.if-wrong_positions.true)

pub returns : goal.returns
returns c =
    not-refused (index_of c.args.lent.now) c.args.query.now (sym c.wrong_records.ensures ∙ c.if-wrong_records.false) (sym c.wrong_values.ensures ∙ c.if-wrong_values.false) (sym c.wrong_boost.ensures ∙ c.if-wrong_boost.false) (sym c.wrong_positions.ensures ∙ c.if-wrong_positions.false)
