-- The accessors of lent words, which go by the code's constants, read the words that document 01 names. Assumes nothing.
use mathlib.Core.Path.{◌≡◌, refl}
use Prim.Native.Nat.{ℕ}
use Rattle.meaning.specs.Lent.{Index, leaf_field, leaf_first, leaf_number, leaf_idf, leaf_document, leaf_frequency, leaf_positions_index}
use Rattle.index.specs.Runs.{posting_document, posting_frequency, posting_index, leaf_words_field, leaf_words_first, leaf_words_number, leaf_words_idf}

module _ (ix : Index) (l : ℕ) where
  pub field-word : leaf_words_field ix.leaves l ≡ leaf_field ix l
  field-word = refl

  pub first-word : leaf_words_first ix.leaves l ≡ leaf_first ix l
  first-word = refl

  pub number-word : leaf_words_number ix.leaves l ≡ leaf_number ix l
  number-word = refl

  pub idf-word : leaf_words_idf ix.leaves l ≡ leaf_idf ix l
  idf-word = refl

  pub document-word : (i : ℕ) → posting_document ix.postings (leaf_first ix l) i ≡ leaf_document ix l i
  document-word i = refl

  pub frequency-word : (i : ℕ) → posting_frequency ix.postings (leaf_first ix l) i ≡ leaf_frequency ix l i
  frequency-word i = refl

  pub positions-word : (i : ℕ) → posting_index ix.postings (leaf_first ix l) i ≡ leaf_positions_index ix l i
  positions-word i = refl
