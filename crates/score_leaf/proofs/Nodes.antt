-- The score of a node that is constant, and of a leaf. Assumes nothing.
use mathlib.Core.Logic.{◌⊎◌, inl, inr, ⊎_elim}
use mathlib.Core.Path.{◌≡◌, sym, ap, subst, ◌∙◌}
use mathlib.Core.Bool.{Bool, true, false, not, false≢true}
use mathlib.Core.List.{List, ◌++◌}
use mathlib.Core.Option.{none, some}
use Prim.Native.Nat.{ℕ, ◌+◌, ◌-◌, ◌*◌, ◌^◌, ◌≤◌, ◌<◌, max}
use native.Mathlib.Nat.{le_refl}
use native.Mathlib.Omega.{arith}
use lib.Dec.{T}
use lib.ListN.{get_or}
use lib.Ieee.{Float, binary32, nan_bits, of_bits}
use Rattle.meaning.specs.Lent.{Index}
use Rattle.ieee754.specs.Nonneg.{AtMost}
use Rattle.ieee754.proofs.Bounds.{atmost-more}
use Rattle.tree_weight.specs.ScorerTree.{Leaf, constant, weighted, Scorer, leaf, boolean, matches, leaf_score, scorer_score}
use Rattle.tree_weight.specs.State.{State, words_of}
use Rattle.tree_weight.specs.Held.{Cache, LeafIs, ScoringIs, KeptIs, FloatIs, Ok}
use Rattle.tree_weight.specs.Sound.{Sound, Tables, nodes, nodes_of}
use Rattle.meaning.proofs.Tests.{cmp}
use Rattle.score_leaf.specs.declared.ScoreNode.{ScoreNode}
use Rattle.score_leaf.specs.Words.{ScoreNodeIs}
use Rattle.score_leaf.specs.Asked.{Scorable, ScoreIs, LeafAsks, LeafKept}
use Rattle.score_leaf.proofs.Leaves.{read, kind-read}
use Rattle.score_leaf.proofs.Weights.{float_back, float-number}

-- a node that matches the document and was asked for none beyond stands at most there
pub at-most-there : (P : ℕ → Bool) (doc cached : ℕ) → P doc ≡ true → Cache P doc cached → max doc (cached - 1) ≡ doc
at-most-there P doc cached y h = ⊎_elim (λ l. go l (h doc (le_refl _) l).from (λ m. (h doc (le_refl _) l).before doc (le_refl _) m) (cmp doc (cached - 1))) (λ l. omega arith) (cmp doc cached)
  where
    go : doc < cached → doc ≤ cached - 1 → (doc < cached - 1 → P doc ≡ false) → (doc < cached - 1) ⊎ (cached - 1 ≤ doc) → max doc (cached - 1) ≡ doc
    go l a b (inl m) = absurd (false≢true (sym (b m) ∙ y))
    go l a b (inr m) = omega arith

module _ (ix : Index) (ranges : List ℕ) (table : List Float) (places k doc : ℕ) (states : List ℕ) (n : ScoreNode) (N : ScoreNodeIs states n) where
  -- a score that is the same for each document
  pub constant-is : (S : Scorer) (sc : ℕ) → Ok ix ranges S k sc states doc → n.constant ≡ 1 → T (not (nan_bits binary32 n.weight)) × ScoreIs ix S doc (of_bits binary32 n.weight)
  unfolding Ok ScoringIs KeptIs scorer_score leaf_score nodes
  constant-is (leaf l (constant c)) sc p e =
      let R = read states p.1 p.0 n p.2 N in
      let f : FloatIs c n.weight = subst (λ (i : ℕ). FloatIs c i) (sym R.weight_is) p.5.1 in
      (float-number c n.weight f, record { is = float_back c n.weight f; small = subst (λ (z : Float). AtMost (1 * 2 ^ 29) z) (sym (float_back c n.weight f)) f.small })
  constant-is (leaf l (weighted w)) sc p e = let R = read states p.1 p.0 n p.2 N in absurd (omega (arith, R.constant-is, p.5.0))
  constant-is (boolean none j need rs os ps) sc p e = let R = read states (p.1 ++ (p.2 ++ p.3)) p.0 n p.4 N in absurd (omega (arith, R.constant-is, p.7.kept))
  constant-is (boolean (some c) j need rs os ps) sc p e =
      let R = read states (p.1 ++ (p.2 ++ p.3)) p.0 n p.4 N in
      let f : FloatIs c n.weight = subst (λ (i : ℕ). FloatIs c i) (sym R.weight_is) p.7.kept.1 in
      let m : 2 ^ 29 ≤ (1 + (nodes_of rs + (nodes_of os + nodes_of ps))) * 2 ^ 29 = omega arith in
      (float-number c n.weight f, record { is = float_back c n.weight f; small = subst (λ (z : Float). AtMost ((1 + (nodes_of rs + (nodes_of os + nodes_of ps))) * 2 ^ 29) z) (sym (float_back c n.weight f)) (atmost-more m f.small) })

  -- a leaf by BM25
  pub record LeafAt (T : Scorer) (sc : ℕ) : Type 0 where
    pub l : Leaf
    pub w : Float
    pub s : State
    pub v : List ℕ
    pub is : states ≡ words_of s ++ v
    pub asks : LeafAsks ix ranges table places l w s v doc
    pub done : (r : Float) (states' : List ℕ) → (r ≡ leaf_score ix l (weighted w) doc) × AtMost (2 ^ 29) r × LeafKept ix ranges l s doc states' → ScoreIs ix T doc r × Ok ix ranges T k sc states' doc

  pub leaf-at : (T : Scorer) (sc : ℕ) → Scorable ix table places T → matches ix T doc ≡ true → Ok ix ranges T k sc states doc → (n.constant ≡ 1 → ⊥) → (get_or states 0 0 ≡ 3 → ⊥) → LeafAt T sc
  unfolding Ok ScoringIs scorer_score nodes matches Sound Tables
  leaf-at (leaf l (constant c)) sc g m p i j = let R = read states p.1 p.0 n p.2 N in absurd (i (R.constant-is ∙ p.5.0))
  leaf-at (leaf l (weighted w)) sc g m p i j =
      let b : max doc (p.0.cached - 1) ≡ doc = at-most-there (matches ix (leaf l (weighted w))) doc p.0.cached m p.6 in
      record {
        l = l;
        w = w;
        s = p.0;
        v = p.1;
        is = p.2;
        asks = record { sound = g.sound; tables = g.tables; match = m; words = subst (λ (x : ℕ). LeafIs ix ranges l p.0 p.1 x) b p.4; weight = p.5.1 };
        done = λ r states' d. back p.0 p.3 p.5 p.6 b r states' d.0 d.1 d.2;
      }
    where
      back : (s : State) → s.scores ≡ sc → (s.constant ≡ 0) × FloatIs w s.weight → Rattle.tree_weight.specs.Held.Cache (matches ix (leaf l (weighted w))) doc s.cached → max doc (s.cached - 1) ≡ doc → (r : Float) (states' : List ℕ) → r ≡ leaf_score ix l (weighted w) doc → AtMost (2 ^ 29) r → LeafKept ix ranges l s doc states' → ScoreIs ix (leaf l (weighted w)) doc r × Ok ix ranges (leaf l (weighted w)) k sc states' doc
      back s a f c b r states' q h z =
          let e : z.s'.cached ≡ s.cached = z.kept.cached in (
            record { is = q; small = h },
            (
              z.s',
              z.v',
              z.is,
              z.kept.scores ∙ a,
              subst (λ (x : ℕ). LeafIs ix ranges l z.s' z.v' x) (sym (ap (λ (i : ℕ). max doc (i - 1)) e ∙ b)) z.words,
              (z.kept.constant ∙ f.0, subst (λ (i : ℕ). FloatIs w i) (sym z.kept.weight) f.1),
              subst (λ (i : ℕ). Rattle.tree_weight.specs.Held.Cache (matches ix (leaf l (weighted w))) doc i) (sym e) c,
            ),
          )
  leaf-at (boolean c j need rs os ps) sc g m p i h = absurd (h (kind-read states (p.1 ++ (p.2 ++ p.3)) p.0 p.4 ∙ p.7.kind-is))
