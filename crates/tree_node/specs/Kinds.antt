-- The word of each kind of node, as `tree_weight`'s State has them, and the kind that a word stands for.
-- Assumes nothing: these are definitions.
use Rattle.std.specs.Prelude.{[], ◌∷◌, ℕ, get_or}
use Rattle.tree_node.specs.declared.NodeKind.{NodeKind}
use Rattle.tree_node.specs.declared.NodeKind.TheVariants.{Nothing, Term, Phrase, Boolean, Range, Everything, PhraseTerm}

abbrev pub kind_word : NodeKind → ℕ
kind_word Nothing = 0
kind_word Term = 1
kind_word Phrase = 2
kind_word Boolean = 3
kind_word Range = 4
kind_word Everything = 5
kind_word PhraseTerm = 9

-- a node of unknown kind matches nothing
abbrev pub node_kind : ℕ → NodeKind
node_kind word = get_or (Nothing ∷ Term ∷ Phrase ∷ Boolean ∷ Range ∷ Everything ∷ Nothing ∷ Nothing ∷ Nothing ∷ PhraseTerm ∷ []) word Nothing
