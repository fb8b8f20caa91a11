-- The score of a posting, from what its node's words say. Assumes nothing.
use mathlib.Core.Path.{◌≡◌, refl, sym, ap, subst, ◌∙◌}
use mathlib.Core.Bool.{true, not, false≢true}
use mathlib.Core.List.{List}
use mathlib.Core.Option.{Option, none, some}
use Prim.Native.Nat.{ℕ, ◌^◌, ◌≤◌, ◌<◌}
use native.Mathlib.Omega.{arith}
use lib.Dec.{T}
use lib.Ieee.{Float, binary32, nan_bits, of_bits}
use Rattle.meaning.specs.Limits.{largest_frequency}
use Rattle.meaning.specs.Lent.{Index, leaf_count, leaf_field}
use Rattle.meaning.specs.Postings.{posting_at, found, frequency_of}
use Rattle.meaning.specs.Score.{field_score}
use Rattle.ieee754.specs.Nonneg.{AtMost}
use Rattle.index.specs.Accepted.{Accepted}
use Rattle.index.proofs.PostingAt.{posting-is}
use Rattle.tree_weight.specs.ScorerTree.{term, Scoring, constant, weighted, leaf_score}
use Rattle.tree_weight.specs.Sound.{LeafTable}
use Rattle.score_leaf.specs.declared.ScoreNode.{ScoreNode}
use Rattle.score_leaf.specs.Asked.{LentAt}
use Rattle.score_leaf.specs.Words.{Bytes, Weighs, weighted_score}
use Rattle.score_leaf.proofs.Leaves.{field-weighs, field-answer}
use Rattle.score_leaf.proofs.Weights.{float_back, float-number}
use Rattle.bulk_term.specs.Postings.{NodeScores, PostingAsks}

frequency-few : (ix : Index) → Accepted ix → (l doc : ℕ) → l < leaf_count ix → (o : Option ℕ) → posting_at ix l doc ≡ o → found o ≡ true → frequency_of ix l o ≤ largest_frequency
frequency-few ix A l doc there none e f = absurd (false≢true f)
frequency-few ix A l doc there (some i) e f = omega (arith, (A.posting l i there (posting-is ix l doc i e).0).most)

module _ (norms : List ℕ) (table : List Float) (n : ScoreNode) (frequency doc : ℕ) (ix : Index) (l : ℕ) where
  -- the same score for each document
  pub posting-constant : (sc : Scoring) → PostingAsks ix table norms l sc n frequency doc → n.constant ≡ 1 → T (not (nan_bits binary32 n.weight)) × ((of_bits binary32 n.weight ≡ leaf_score ix (term l) sc doc) × AtMost (2 ^ 29) (of_bits binary32 n.weight))
  unfolding NodeScores leaf_score
  posting-constant (constant c) p e =
      let f = p.scores.1 in
      (float-number c n.weight f, (float_back c n.weight f, subst (λ (z : Float). AtMost (2 ^ 29) z) (sym (float_back c n.weight f)) f.small))
  posting-constant (weighted w) p e = absurd (omega (arith, p.scores.0))

  lends-at : (sc : Scoring) → PostingAsks ix table norms l sc n frequency doc → LentAt ix ix.max_doc ix.postings ix.positions norms doc
  lends-at sc p = record { lends = record { accepted = p.accepted; documents = refl; postings-are = refl; positions-are = refl }; norms-are = p.norms-are; document = p.document }

  few : (sc : Scoring) → PostingAsks ix table norms l sc n frequency doc → frequency ≤ largest_frequency
  few sc p = omega (arith, p.frequency-is, frequency-few ix p.accepted l doc p.leaf-there (posting_at ix l doc) refl p.match)

  -- BM25
  pub posting-weighs : (sc : Scoring) → PostingAsks ix table norms l sc n frequency doc → (n.constant ≡ 1 → ⊥) → Weighs n norms table doc frequency
  unfolding NodeScores LeafTable
  posting-weighs (constant c) p m = absurd (m p.scores.0)
  posting-weighs (weighted w) p m =
      field-weighs ix ix.max_doc ix.postings ix.positions norms doc (lends-at (weighted w) p) table n (leaf_field ix l) (p.accepted.leaf l p.leaf-there).field p.tables w p.scores.1 p.field_is p.norms-is frequency (few (weighted w) p)

  pub posting-weighted : (sc : Scoring) → PostingAsks ix table norms l sc n frequency doc → (n.constant ≡ 1 → ⊥) → Bytes norms → (r : Float) → r ≡ weighted_score n norms table doc frequency → (r ≡ leaf_score ix (term l) sc doc) × AtMost (2 ^ 29) r
  unfolding NodeScores LeafTable leaf_score
  posting-weighted (constant c) p m bytes r q = absurd (m p.scores.0)
  posting-weighted (weighted w) p m bytes r q =
      let t = field-answer ix ix.max_doc ix.postings ix.positions norms doc (lends-at (weighted w) p) table n (leaf_field ix l) (p.accepted.leaf l p.leaf-there).field p.tables w p.scores.1 p.field_is p.norms-is frequency (few (weighted w) p) bytes r q in
      (t.0 ∙ ap (λ (i : ℕ). field_score ix (leaf_field ix l) w i doc) p.frequency-is, t.1)
