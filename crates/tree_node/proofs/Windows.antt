-- What a word says of the kind that was read from it, and the kind of the word. Says nothing of the words themselves.
use Rattle.std.proofs.Common.{◌≡◌, sym, ap, ◌∙◌, false, ℕ, eqb}
use Rattle.std.proofs.lemmas.Bool.{eqb-false}
use Rattle.tree_node.specs.declared.NodeKind.{NodeKind}
use Rattle.tree_node.specs.declared.NodeKind.TheVariants.{Nothing}
use Rattle.tree_node.specs.Kinds.{kind_word, node_kind}
use Rattle.tree_node.proofs.KindLaws.{of-word, word-of}

-- the word of a kind that was read
pub word-read : (word : ℕ) (k : NodeKind) → k ≡ node_kind word → eqb (kind_word k) 0 ≡ false → word ≡ kind_word k
word-read word k r some = word-of word k (sym r) (λ (n : k ≡ Nothing). eqb-false (kind_word k) 0 some (ap kind_word n))

-- another kind was read than that of a word
pub word-unread : (word : ℕ) (k other : NodeKind) → k ≡ node_kind word → (k ≡ other → ⊥) → word ≡ kind_word other → ⊥
word-unread word k other r h e = h (r ∙ ap node_kind e ∙ of-word other)
