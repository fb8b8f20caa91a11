-- Files that are not taken are refused, and the words of the others are searched.
use Rattle.std.proofs.Common.{ℕ, ◌/◌, ◌≤◌, sym, ◌∙◌, arith}
use Rattle.hits_text.specs.Contents.{files_of}
use Rattle.hits.proofs.Taken.{sizes-of, refused-files, taken-files}
use Rattle.hits.proofs.report.report.Goals as goal

-- there is room for the words of a file
quarter : (n : ℕ) → n ≤ 65536 → n / 4 ≤ 16384
quarter n h = omega arith

pub returns-then-not-taken : goal.returns-then-not-taken
returns-then-not-taken c = c.refused.ensures ∙ refused-files (files_of c.args.files) (sym c.taken.ensures ∙ c.if-not-taken.true)

pub file_words-requires : goal.file_words-requires
file_words-requires c = quarter _ (sizes-of _ (sym c.taken.ensures ∙ c.if-not-taken.false)).fields

pub file_words-requires-2 : goal.file_words-requires-2
file_words-requires-2 c = quarter _ (sizes-of _ (sym c.taken.ensures ∙ c.if-not-taken.false)).leaves

pub file_words-requires-3 : goal.file_words-requires-3
file_words-requires-3 c = quarter _ (sizes-of _ (sym c.taken.ensures ∙ c.if-not-taken.false)).postings

pub file_words-requires-4 : goal.file_words-requires-4
file_words-requires-4 c = quarter _ (sizes-of _ (sym c.taken.ensures ∙ c.if-not-taken.false)).positions

pub file_longs-requires : goal.file_longs-requires
file_longs-requires c = let s = sizes-of _ (sym c.taken.ensures ∙ c.if-not-taken.false) in omega (arith, s.live)

pub file_words-requires-5 : goal.file_words-requires-5
file_words-requires-5 c = quarter _ (sizes-of _ (sym c.taken.ensures ∙ c.if-not-taken.false)).columns

pub file_words-requires-6 : goal.file_words-requires-6
file_words-requires-6 c = quarter _ (sizes-of _ (sym c.taken.ensures ∙ c.if-not-taken.false)).values

pub file_words-requires-7 : goal.file_words-requires-7
file_words-requires-7 c = quarter _ (sizes-of _ (sym c.taken.ensures ∙ c.if-not-taken.false)).query

pub word_at-requires : goal.word_at-requires
word_at-requires c = let s = sizes-of _ (sym c.taken.ensures ∙ c.if-not-taken.false) in omega (arith, s.run)

pub word_at-k-requires : goal.word_at-k-requires
word_at-k-requires c = let s = sizes-of _ (sym c.taken.ensures ∙ c.if-not-taken.false) in omega (arith, s.run)

pub word_at-t-requires : goal.word_at-t-requires
word_at-t-requires c = let s = sizes-of _ (sym c.taken.ensures ∙ c.if-not-taken.false) in omega (arith, s.run)

pub returns : goal.returns
returns c =
    let a = c.args.files in
    let text =
    taken-files a.run.now a.fields.now a.leaves.now a.postings.now a.positions.now a.norms.now a.live.now a.columns.now a.values.now a.query.now (sym c.taken.ensures ∙ c.if-not-taken.false) c.word_at.result c.word_at-k.result c.word_at-t.result _ _ _ _ _ _ _ _ c.word_at.ensures c.word_at-k.ensures c.word_at-t.ensures c.file_words.ensures c.file_words-2.ensures c.file_words-3.ensures c.file_words-4.ensures c.file_longs.ensures c.file_words-5.ensures c.file_words-6.ensures c.file_words-7.ensures in
    c.answer.ensures ∙ text
