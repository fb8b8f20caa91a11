-- The line of a hit shows its document and the bits of its score, where the code is of a document and an f32 score.
-- Assumes nothing.
use mathlib.Core.Path.{◌≡◌, sym}
use mathlib.Core.List.{[], ◌∷◌, ◌++◌}
use Prim.Native.Nat.{◌≤◌}
use lib.Dec.{T}
use lib.Ieee.{binary32, to_bits, fits}
use Rattle.meaning.specs.Limits.{no_more_docs}
use Rattle.meaning.specs.FullList.{ScoreDoc}
use Rattle.meaning.specs.Hits.{code}
use Rattle.collector.proofs.Ranked.{to_doc-code, high-code}
use Rattle.hits_text.specs.Text.{decimal, hex8, hit_line}
use Rattle.hits_text.proofs.Lines.{line-is}

pub line-of-hit : (h : ScoreDoc) → h.doc ≤ no_more_docs → T (fits binary32 h.score) → hit_line (code h) ≡ decimal h.doc ++ (32 ∷ (hex8 (to_bits binary32 h.score) ++ (10 ∷ [])))
line-of-hit h d f = sym (line-is (code h) h.doc (to_bits binary32 h.score) (sym (to_doc-code h d)) (sym (high-code h f)))
