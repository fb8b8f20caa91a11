-- A word that stands for a kind is that kind's number, kind by kind: for the loops that go by a child's kind. Says
-- nothing of the words themselves.
use Rattle.std.proofs.Common.{◌≡◌, refl, sym, ap, ◌∙◌, Bool, true, false, not, eqb, eqb-true, ℕ, arith}
use Rattle.std.proofs.lemmas.Bool.{false≢true}
use denote.Enum.Bare.{sameb}
use Rattle.tree_node.specs.contracts.NodeKind.{the_type}
use Rattle.tree_node.specs.declared.NodeKind.{NodeKind}
use Rattle.tree_node.specs.declared.NodeKind.TheVariants.{Nothing, Term, Phrase, Boolean, Range, Everything, PhraseTerm}
use Rattle.tree_node.specs.Kinds.{kind_word, node_kind}
use Rattle.tree_node.proofs.KindLaws.{word-of}

pub term-word : (word : ℕ) → node_kind word ≡ Term → word ≡ 1
term-word word e = word-of word Term e (λ n. omega (arith, ap kind_word n))

pub phrase-word : (word : ℕ) → node_kind word ≡ Phrase → word ≡ 2
phrase-word word e = word-of word Phrase e (λ n. omega (arith, ap kind_word n))

pub boolean-word : (word : ℕ) → node_kind word ≡ Boolean → word ≡ 3
boolean-word word e = word-of word Boolean e (λ n. omega (arith, ap kind_word n))

pub range-word : (word : ℕ) → node_kind word ≡ Range → word ≡ 4
range-word word e = word-of word Range e (λ n. omega (arith, ap kind_word n))

pub everything-word : (word : ℕ) → node_kind word ≡ Everything → word ≡ 5
everything-word word e = word-of word Everything e (λ n. omega (arith, ap kind_word n))

-- a child's scores word, where it is read as a Must and where it is not
pub scores-one : {b : Bool} {word : ℕ} → b ≡ eqb word 1 → b ≡ true → word ≡ 1
scores-one {word = word} e h = eqb-true word 1 (sym e ∙ h)

pub scores-none : {b : Bool} {word : ℕ} → b ≡ eqb word 1 → b ≡ false → word ≡ 1 → ⊥
scores-none e h w = false≢true (sym h ∙ e ∙ ap (λ (i : ℕ). eqb i 1) w)

-- what a comparison of kinds says
pub is-phrase : (k : NodeKind) → sameb the_type k Phrase ≡ true → k ≡ Phrase
is-phrase Nothing e = absurd (false≢true e)
is-phrase Term e = absurd (false≢true e)
is-phrase Phrase e = refl
is-phrase Boolean e = absurd (false≢true e)
is-phrase Range e = absurd (false≢true e)
is-phrase Everything e = absurd (false≢true e)
is-phrase PhraseTerm e = absurd (false≢true e)

pub is-boolean : (k : NodeKind) → not (sameb the_type k Boolean) ≡ false → k ≡ Boolean
is-boolean Nothing e = absurd (false≢true (sym e))
is-boolean Term e = absurd (false≢true (sym e))
is-boolean Phrase e = absurd (false≢true (sym e))
is-boolean Boolean e = refl
is-boolean Range e = absurd (false≢true (sym e))
is-boolean Everything e = absurd (false≢true (sym e))
is-boolean PhraseTerm e = absurd (false≢true (sym e))
