-- The average of the one field is a number, and without a field no record has one.
use Rattle.index.specs.IndexOf.{index_of}
use Rattle.score_inverses.proofs.OneField.{first-average, one-field, no-field-lent}
use Rattle.score_inverses.proofs.first_inverses.Goals as goal

pub float_from_bits-lent : goal.float_from_bits-lent
float_from_bits-lent c = first-average (index_of c.args.lent.now) c.requires.0 c.if-lent-eq-FIELD_WORDS.true

pub returns-then-lent-eq-FIELD_WORDS : goal.returns-then-lent-eq-FIELD_WORDS
returns-then-lent-eq-FIELD_WORDS c = λ q asks. one-field (index_of c.args.lent.now) q c.new.result.cache asks c.if-lent-eq-FIELD_WORDS.true c.new.ensures

pub returns : goal.returns
returns c = λ q asks at h has. absurd (no-field-lent (index_of c.args.lent.now) q asks c.requires.1 c.if-lent-eq-FIELD_WORDS.false at h has)
