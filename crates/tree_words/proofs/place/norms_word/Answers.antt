-- Norm bytes begin below 2^32 − 1, so that one more fits the word; 0 is kept for a field without norms.
use Rattle.index.specs.IndexOf.{index_of}
use Rattle.tree_words.proofs.Norms.{few-fields, norms-none, norms-some, norms-small}
use native.Mathlib.Omega.{arith}
use mathlib.Core.Path.{ap, sym, ◌∙◌}
use borrow.Author.Tests.{eqb-true, eqb-false}
use Rattle.index.specs.declared.fields.Field.{Field}
use Rattle.tree_words.proofs.place.norms_word.Goals as goal

pub returns-then-not-has_norms : goal.returns-then-not-has_norms
returns-then-not-has_norms c =
    norms-none (index_of c.args.lent.now) c.args.field c.field_at.result.norms (ap (λ (f : Field). f.norms) c.field_at.ensures) (eqb-false _ _ (sym c.has_norms.ensures ∙ c.if-not-has_norms.true))

pub norms_offset-requires : goal.norms_offset-requires
norms_offset-requires c =
    let h = few-fields (index_of c.args.lent.now) c.args.field c.requires.0 c.requires.1 in (omega (arith, c.requires.1), omega (arith, h))

pub overflow_cast-result : goal.overflow_cast-result
overflow_cast-result c =
    let small = norms-small (index_of c.args.lent.now) c.args.field c.norms_offset.result c.requires.0 c.requires.1 c.norms_offset.ensures in omega (arith, small)

pub overflow_add-result : goal.overflow_add-result
overflow_add-result c =
    let small = norms-small (index_of c.args.lent.now) c.args.field c.norms_offset.result c.requires.0 c.requires.1 c.norms_offset.ensures in omega (arith, small)

pub returns : goal.returns
returns c =
    norms-some (index_of c.args.lent.now) c.args.field c.field_at.result.norms c.norms_offset.result (ap (λ (f : Field). f.norms) c.field_at.ensures) (eqb-true _ _ (sym c.has_norms.ensures ∙ c.if-not-has_norms.false)) c.norms_offset.ensures
