-- Kind by kind, what the code tests is what 8 says of a record of that kind; of an unknown kind 8 says nothing.
use Rattle.std.proofs.Common.{ap, ◌∙◌}
use Rattle.meaning.specs.Query.{record_kind}
use Rattle.meaning.specs.QueryRefusals.{wrong_kind}
use Rattle.index.specs.IndexOf.{index_of}
use Rattle.query.specs.Kinds.{kind_number}
use Rattle.query.specs.declared.kinds.Kind.TheVariants.{Term, Phrase, Boolean, Range, Boost, PhraseTerm}
use Rattle.query.proofs.Numbers.{kind-unknown}
use Rattle.check_query.proofs.Records.{value-of, value-unused, value-other}
use Rattle.check_query.proofs.values.wrong_record.Goals as goal

pub returns-in_default : goal.returns-in_default
returns-in_default c =
    let q = c.args.query.now in let at = c.args.at in
    value-other (index_of c.args.lent.now) q at (kind-unknown (record_kind q at) c.in_default.ensures)

pub returns-in-Term : goal.returns-in-Term
returns-in-Term c =
    c.wrong_term.ensures ∙ value-of (index_of c.args.lent.now) c.args.query.now c.args.at Term (c.in-Some.ensures ∙ ap kind_number c.in-Term.is)

pub returns-in-Phrase : goal.returns-in-Phrase
returns-in-Phrase c =
    c.wrong_phrase.ensures ∙ value-of (index_of c.args.lent.now) c.args.query.now c.args.at Phrase (c.in-Some.ensures ∙ ap kind_number c.in-Phrase.is)

pub returns-in-Boolean : goal.returns-in-Boolean
unfolding wrong_kind
returns-in-Boolean c =
    c.unused_from.ensures ∙ value-of (index_of c.args.lent.now) c.args.query.now c.args.at Boolean (c.in-Some.ensures ∙ ap kind_number c.in-Boolean.is)

pub returns-in-Range : goal.returns-in-Range
returns-in-Range c =
    c.wrong_range_record.ensures ∙ value-of (index_of c.args.lent.now) c.args.query.now c.args.at Range (c.in-Some.ensures ∙ ap kind_number c.in-Range.is)

pub returns-in-Boost : goal.returns-in-Boost
unfolding wrong_kind
returns-in-Boost c =
    c.wrong_boost_value.ensures ∙ value-of (index_of c.args.lent.now) c.args.query.now c.args.at Boost (c.in-Some.ensures ∙ ap kind_number c.in-Boost.is)

pub returns-in-PhraseTerm : goal.returns-in-PhraseTerm
returns-in-PhraseTerm c =
    c.wrong_phrase_term.ensures ∙ value-of (index_of c.args.lent.now) c.args.query.now c.args.at PhraseTerm (c.in-Some.ensures ∙ ap kind_number c.in-PhraseTerm.is)

pub returns-in-MatchAll : goal.returns-in-MatchAll
returns-in-MatchAll c =
    c.unused_from-in-MatchAll.ensures ∙ value-unused (index_of c.args.lent.now) c.args.query.now c.args.at _ c.in-MatchAll.is c.in-Some.ensures
