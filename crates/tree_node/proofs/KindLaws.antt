-- A kind's word stands for that kind alone. Says nothing of the words themselves.
use Rattle.std.proofs.Common.{◌≡◌, refl, sym, ap, ℕ, zero, suc}
use Rattle.tree_node.specs.declared.NodeKind.{NodeKind}
use Rattle.tree_node.specs.declared.NodeKind.TheVariants.{Nothing, Term, Phrase, Boolean, Range, Everything, PhraseTerm}
use Rattle.tree_node.specs.Kinds.{kind_word, node_kind}

pub of-word : (k : NodeKind) → node_kind (kind_word k) ≡ k
of-word Nothing = refl
of-word Term = refl
of-word Phrase = refl
of-word Boolean = refl
of-word Range = refl
of-word Everything = refl
of-word PhraseTerm = refl

-- a word that stands for a kind is that kind's, but for Nothing, which many words stand for
pub word-of : (word : ℕ) (k : NodeKind) → node_kind word ≡ k → (k ≡ Nothing → ⊥) → word ≡ kind_word k
word-of zero k e some-kind = absurd (some-kind (sym e))
word-of (suc zero) k e some-kind = ap kind_word e
word-of (suc (suc zero)) k e some-kind = ap kind_word e
word-of (suc (suc (suc zero))) k e some-kind = ap kind_word e
word-of (suc (suc (suc (suc zero)))) k e some-kind = ap kind_word e
word-of (suc (suc (suc (suc (suc zero))))) k e some-kind = ap kind_word e
word-of (suc (suc (suc (suc (suc (suc zero)))))) k e some-kind = absurd (some-kind (sym e))
word-of (suc (suc (suc (suc (suc (suc (suc zero))))))) k e some-kind = absurd (some-kind (sym e))
word-of (suc (suc (suc (suc (suc (suc (suc (suc zero)))))))) k e some-kind = absurd (some-kind (sym e))
word-of (suc (suc (suc (suc (suc (suc (suc (suc (suc zero))))))))) k e some-kind = ap kind_word e
word-of (suc (suc (suc (suc (suc (suc (suc (suc (suc (suc n)))))))))) k e some-kind = absurd (some-kind (sym e))
