-- With one field or none the table is that field's, with more it is filled.
use Rattle.searcher.proofs.tables.over_inverses.Goals as goal

pub first_inverses-bm25-requires : goal.first_inverses-bm25-requires
first_inverses-bm25-requires g c = (c.requires.asks.accepted, c.if-lent-le-FIELD_WORDS.true)

pub f-requires : goal.f-requires
f-requires g c = c.requires.callable _ (c.first_inverses-bm25.ensures c.args.query.now c.requires.asks)

pub returns-then-lent-le-FIELD_WORDS : goal.returns-then-lent-le-FIELD_WORDS
returns-then-lent-le-FIELD_WORDS g c = (_, c.first_inverses-bm25.ensures c.args.query.now c.requires.asks, c.f.ensures)

pub f-requires-2 : goal.f-requires-2
f-requires-2 g c = c.requires.callable _ c.fill_inverses.ensures.field_table

pub returns : goal.returns
returns g c = (_, c.fill_inverses.ensures.field_table, c.f-2.ensures)
