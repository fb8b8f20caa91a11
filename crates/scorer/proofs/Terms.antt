-- A node that is a term, moved with the postings alone, or a range, with the range buffer. Assumes nothing.
use mathlib.Core.Path.{◌≡◌, sym, subst}
use mathlib.Core.List.{List}
use Prim.Native.Nat.{ℕ, ◌+◌, ◌≤◌}
use native.Mathlib.Omega.{arith}
use lib.ListN.{get_or, set}
use Rattle.meaning.specs.Limits.{no_more_docs}
use Rattle.meaning.specs.Lent.{Index}
use Rattle.meaning.specs.First.{First}
use Rattle.tree_weight.specs.ScorerTree.{Scorer, matches}
use Rattle.tree_weight.specs.Held.{Ok}
use Rattle.scorer_leaf.specs.Search.{SearchPre, SearchPost, SeekRangePre, SeekRangePost}
use Rattle.scorer.specs.Calls.{NodeHeld}
use Rattle.scorer_leaf.specs.Calls.{Lists}
use Rattle.scorer.proofs.Nodes.{node-leaf, node-sought}
use Rattle.scorer_leaf.proofs.Seeks.{seek-term-pre, seek-term-done, seek-range-pre, seek-range-done}

module _ {ps states : List ℕ} {t : ℕ} {E : Lists} {ix : Index} {p : ℕ} {T : Scorer} {k o : ℕ} (is : get_or states 0 0 ≡ 1) (due : get_or states 2 0 ≤ t) (same : E.postings ≡ ps) (h : NodeHeld E ix p T k o states t) where
  pub term_asks : SearchPre ps 3 states t
  term_asks = let n = node-leaf due (λ e. omega (arith, is, e)) T h in subst (λ (y : List ℕ). SearchPre y 3 states t) same (seek-term-pre E states t is ix p n.0 n.1 n.2 n.3)

  pub term-sought : t ≤ no_more_docs → (r : ℕ) (states' : List ℕ) → SearchPost ps 3 states t r states' → First (matches ix T) t r × Ok ix E.ranges T k o (set states' 2 (r + 1)) t
  term-sought top r states' post =
      let own : SearchPost E.postings 3 states t r states' = subst (λ (y : List ℕ). SearchPost y 3 states t r states') (sym same) post in
      node-sought due top (λ e. omega (arith, is, e)) r states' (seek-term-done E states t is top r states' own) T h

module _ {rs states : List ℕ} {t : ℕ} {E : Lists} {ix : Index} {p : ℕ} {T : Scorer} {k o : ℕ} (is : get_or states 0 0 ≡ 4) (due : get_or states 2 0 ≤ t) (same : E.ranges ≡ rs) (h : NodeHeld E ix p T k o states t) where
  pub range-asks : SeekRangePre rs states
  range-asks = let n = node-leaf due (λ e. omega (arith, is, e)) T h in subst (λ (y : List ℕ). SeekRangePre y states) same (seek-range-pre E states t is ix p n.0 n.1 n.2 n.3)

  pub range-sought : t ≤ no_more_docs → (r : ℕ) → SeekRangePost rs states t r → First (matches ix T) t r × Ok ix E.ranges T k o (set states 2 (r + 1)) t
  range-sought top r post =
      let own : SeekRangePost E.ranges states t r = subst (λ (y : List ℕ). SeekRangePost y states t r) (sym same) post in
      node-sought due top (λ e. omega (arith, is, e)) r states (seek-range-done E states t is top r own) T h
