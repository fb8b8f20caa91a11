-- Document 01, "Meaning of the tree": where a phrase stands, and how often. Assumes nothing: these are definitions.
use Rattle.std.specs.Prelude.{Bool, false, cond, List, [], ◌∷◌, ◌++◌, map, ℕ, ◌+◌, min, eqb, ltb, ℤ, pos, negsuc}
use Rattle.std.proofs.Math.IntN.{sub_ℕ}
use Rattle.meaning.specs.Lent.{Index}
use Rattle.meaning.specs.Postings.{posting_at, positions_of}

-- PhraseTerm (leaf, offset)
pub record PhraseTerm : Type 0 where
  pub leaf : ℕ
  pub offset : ℕ

abbrev pub eqℤ : ℤ → ℤ → Bool
eqℤ (pos a) (pos b) = eqb a b
eqℤ (pos a) (negsuc b) = false
eqℤ (negsuc a) (pos b) = false
eqℤ (negsuc a) (negsuc b) = eqb a b

-- "the list of position − offset (signed)"
unfoldable pub starts : ℕ → List ℕ → List ℤ
starts offset ps = map (λ p. sub_ℕ p offset) ps

-- for each term of the phrase, its starts in a document
unfoldable pub term_starts : Index → List PhraseTerm → ℕ → List (List ℤ)
term_starts ix ts d = map (λ t. starts t.offset (positions_of ix t.leaf (posting_at ix t.leaf d))) ts

-- how often an entry stands in a list
unfoldable pub multiplicity : ℤ → List ℤ → ℕ
multiplicity s [] = 0
multiplicity s (x ∷ xs) = cond (eqℤ s x) 1 0 + multiplicity s xs

-- "the smallest multiplicity" of an entry over the lists
unfoldable pub smallest : ℤ → List (List ℤ) → ℕ
smallest s [] = 0
smallest s (xs ∷ []) = multiplicity s xs
smallest s (xs ∷ ys ∷ yss) = min (multiplicity s xs) (smallest s (ys ∷ yss))

-- the entries of a list, each once
unfoldable pub distinct : List ℤ → List ℤ
distinct [] = []
distinct (x ∷ xs) = cond (ltb 0 (multiplicity x xs)) [] (x ∷ []) ++ distinct xs

-- the sum, over some entries, of their smallest multiplicity in the lists
unfoldable pub sum_smallest : List ℤ → List (List ℤ) → ℕ
sum_smallest [] xss = 0
sum_smallest (s ∷ ss) xss = smallest s xss + sum_smallest ss xss

-- "the size of the lists' common part, equal entries counting with the smallest multiplicity"
unfoldable pub common_size : List (List ℤ) → ℕ
common_size [] = 0
common_size (xs ∷ xss) = sum_smallest (distinct xs) (xs ∷ xss)

-- the frequency of a phrase in a document
unfoldable pub phrase_frequency : Index → List PhraseTerm → ℕ → ℕ
phrase_frequency ix ts d = common_size (term_starts ix ts d)

-- s is a start at which the phrase stands in the document: every term's list has it
unfoldable pub stands_at : Index → List PhraseTerm → ℕ → ℤ → Bool
stands_at ix ts d s = ltb 0 (smallest s (term_starts ix ts d))
