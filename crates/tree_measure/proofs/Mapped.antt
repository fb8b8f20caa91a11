-- What the bitmap of a range says, as a list: the documents whose bits are set are the range's. Assumes nothing.
use Rattle.std.proofs.Common.{◌≡◌, ap, ◌∙◌, Bool, ◌&&◌, List, ℕ, ◌+◌, ◌*◌, ◌/◌, ◌%◌, get_or, arith, lt-ltb}
use Rattle.meaning.specs.Below.{list_below}
use Rattle.meaning.specs.Lent.{Index}
use Rattle.meaning.specs.Range.{in_range, range_documents}
use Rattle.meaning.specs.Query.{range_of}
use Rattle.meaning.proofs.Below.{list_same}
use Rattle.bits.specs.Bit.{bit}
use Rattle.tree_weight.specs.ScorerTree.{range, leaf_matches}
use Rattle.tree_weight.specs.Measured.{RangeListed}

whole : (d : ℕ) → 32 * (d / 32) + d % 32 ≡ d
whole d = omega arith

-- the documents below n whose bit is set, ascending
abbrev pub set_documents : List ℕ → ℕ → ℕ → List ℕ
set_documents ranges place n = list_below n (λ d. bit (d % 32) (get_or ranges (place + d / 32) 0))

pub range-mapped : (ix : Index) (q ranges : List ℕ) (r place count : ℕ) → RangeListed ix q ranges r place count → set_documents ranges place ix.max_doc ≡ range_documents ix (range_of q r)
unfolding range_documents leaf_matches
range-mapped ix q ranges r place count l =
    list_same (λ d. bit (d % 32) (get_or ranges (place + d / 32) 0)) (in_range ix (range_of q r)) ix.max_doc
    (λ d h. l.bits (d / 32) (d % 32) (omega arith) (omega arith) ∙ ap (leaf_matches ix (range (range_of q r))) (whole d) ∙ ap (λ (b : Bool). b && in_range ix (range_of q r) d) (lt-ltb d ix.max_doc h))
