-- Laws of the lines of hits: one line more, and how long a line is. Assumes nothing.
use mathlib.Core.Path.{◌≡◌, refl, sym, ap, ◌∙◌}
use mathlib.Core.List.{List, [], ◌∷◌, ◌++◌, append_assoc, append-nil}
use Prim.Native.Nat.{ℕ, ◌+◌, ◌≤◌, ◌<◌}
use native.Mathlib.Numerals.{add-one}
use native.Mathlib.Omega.{arith}
use lib.ListN.{length, take, get_or, length-append}
use lib.Seq.{take-suc}
use lib.IntN.{ℤ, pos}
use Rattle.meaning.specs.Limits.{no_more_docs}
use Rattle.meaning.specs.Hits.{to_doc}
use Rattle.hits_text.specs.Text.{decimal, hex8, score_bits, hit_line, hit_lines}
use Rattle.hits_text.proofs.Numbers.{decimal-short, length-hex}

pub lines-none : hit_lines [] ≡ []
unfolding hit_lines
lines-none = refl

pub lines-last : (cs : List ℤ) (c : ℤ) → hit_lines (cs ++ (c ∷ [])) ≡ hit_lines cs ++ hit_line c
unfolding hit_lines
lines-last [] c = append-nil (hit_line c)
lines-last (d ∷ cs) c = ap (λ (l : List ℕ). hit_line d ++ l) (lines-last cs c) ∙ sym (append_assoc (hit_line d) (hit_lines cs) (hit_line c))

-- a turn of the loop over the codes
pub lines_more : (cs : List ℤ) (i : ℕ) → i < length cs → hit_lines (take (i + 1) cs) ≡ hit_lines (take i cs) ++ hit_line (get_or cs i (pos 0))
lines_more cs i h = ap (λ (n : ℕ). hit_lines (take n cs)) (add-one i) ∙ ap hit_lines (take-suc cs i (pos 0) h) ∙ lines-last (take i cs) (get_or cs i (pos 0))

document-few : (c : ℤ) → to_doc c ≤ no_more_docs
unfolding to_doc
document-few c = omega arith

pub document-short : (c : ℤ) → length (decimal (to_doc c)) ≤ 20
document-short c = decimal-short 19 (to_doc c) (omega (arith, document-few c))

pub line-length : (c : ℤ) → length (hit_line c) ≡ length (decimal (to_doc c)) + 10
unfolding hit_line
line-length c =
    omega (arith, length-append (decimal (to_doc c)) (32 ∷ (hex8 (score_bits c) ++ (10 ∷ []))), length-append (hex8 (score_bits c)) (10 ∷ []), length-hex 8 (score_bits c))

pub line-short : (c : ℤ) → length (hit_line c) ≤ 30
line-short c = omega (arith, line-length c, document-short c)

-- the line of a document and a score's bits that are a code's
pub line-is : (c : ℤ) (d b : ℕ) → d ≡ to_doc c → b ≡ score_bits c → decimal d ++ (32 ∷ (hex8 b ++ (10 ∷ []))) ≡ hit_line c
unfolding hit_line
line-is c d b e g = ap (λ (n : ℕ). decimal n ++ (32 ∷ (hex8 b ++ (10 ∷ [])))) e ∙ ap (λ (n : ℕ). decimal (to_doc c) ++ (32 ∷ (hex8 n ++ (10 ∷ [])))) g
