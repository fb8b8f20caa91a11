-- A Boolean's node: what its record says of its children's parts, and its score from theirs. Assumes nothing.
use Rattle.std.proofs.lemmas.Bool.{and_parts}
use mathlib.Core.Path.{◌≡◌, sym, ap, subst, ◌∙◌}
use mathlib.Core.Bool.{Bool, true, not, cond, ◌&&◌}
use mathlib.Core.List.{List, ◌++◌, append-nil}
use mathlib.Core.Option.{none, some}
use Prim.Native.Nat.{ℕ, ◌+◌, ◌-◌, ◌*◌, ◌^◌, ◌≤◌, ◌<◌, max}
use native.Mathlib.Omega.{arith}
use lib.Dec.{leb, eqb}
use lib.ListN.{get_or, length, take, drop}
use lib.Seq.{take-length, drop-length}
use lib.Ieee.{Float}
use Rattle.meaning.specs.Limits.{node_state_words}
use Rattle.meaning.specs.Lent.{Index}
use Rattle.ieee754.specs.Nonneg.{AtMost}
use Rattle.ieee754.proofs.Bounds.{atmost-more}
use Rattle.tree_weight.specs.ScorerTree.{Joining, one_more, afterwards, Scorer, leaf, boolean, Scorers, matches, all_match, any_matches, matching, scorer_score}
use Rattle.tree_weight.specs.State.{State, words_of}
use Rattle.tree_weight.specs.Held.{KeptIs, JoiningIs, Ok, Oks}
use Rattle.tree_weight.specs.Sound.{Sound, Tables, nodes, nodes_of}
use Rattle.tree_node.specs.declared.Boolean.{Boolean}
use Rattle.tree_node.specs.Words.{BooleanRead}
use Rattle.score_leaf.specs.declared.ScoreNode.{ScoreNode}
use Rattle.score_leaf.specs.Words.{ScoreNodeIs}
use Rattle.score.specs.Asked.{JoinAsks, JoinIs, JoinsAt, PartsAre}
use Rattle.score_leaf.specs.Asked.{Scorable, ScoreIs}
use Rattle.score_leaf.proofs.Nodes.{at-most-there}
use Rattle.score_leaf.proofs.Leaves.{read, kind-read}
use Rattle.scorer.proofs.Nodes.{leaf-kind}

pub joins_at : (j : Joining) (rs : Scorers) (s : State) (a : Bool) (b : ℕ) → a ≡ eqb s.afterwards 1 → b ≡ s.group_at → JoiningIs j rs s → JoinsAt j rs (cond a 1 0) b
unfolding JoiningIs JoinsAt
joins_at (one_more n) rs s a b e f p = (ap (λ (x : Bool). cond x 1 0) (e ∙ ap (λ (i : ℕ). eqb i 1) p.0), f ∙ p.1)
joins_at afterwards rs s a b e f p = ap (λ (x : Bool). cond x 1 0) (e ∙ ap (λ (i : ℕ). eqb i 1) p)

module _ (ix : Index) (ranges : List ℕ) (table : List Float) (places k doc : ℕ) (states : List ℕ) (n : ScoreNode) (N : ScoreNodeIs states n) (m : Boolean) (M : BooleanRead states m) where
  -- a Boolean
  pub record NodeAt (T : Scorer) (sc : ℕ) (kids : List ℕ) : Type 0 where
    pub j : Joining
    pub rs : Scorers
    pub os : Scorers
    pub rest : List ℕ
    pub deep : 0 < k
    pub asks : JoinAsks ix table places j rs os m doc
    pub parts : PartsAre ix ranges rs os (k - 1) doc rest kids
    pub done : (r : Float) (kids' : List ℕ) → length kids' ≡ length kids → JoinIs ix j rs os doc r → PartsAre ix ranges rs os (k - 1) doc rest kids' → ScoreIs ix T doc r × Ok ix ranges T k sc (take node_state_words states ++ (kids' ++ drop (length states - node_state_words) (drop node_state_words states))) doc

  pub score_node_at : (T : Scorer) (sc : ℕ) → Scorable ix table places T → matches ix T doc ≡ true → Ok ix ranges T k sc states doc → (n.constant ≡ 1 → ⊥) → get_or states 0 0 ≡ 3 → NodeAt T sc (take (length states - node_state_words) (drop node_state_words states))
  unfolding Ok KeptIs scorer_score nodes matches Sound Tables
  score_node_at (leaf l c) sc g y p i h = absurd (leaf-kind ix ranges l p.0 p.1 (max doc (p.0.cached - 1)) p.4 (sym (kind-read states p.1 p.0 p.2) ∙ h))
  score_node_at (boolean (some c) j need rs os ps) sc g y p i h = let R = read states (p.1 ++ (p.2 ++ p.3)) p.0 n p.4 N in absurd (i (R.constant-is ∙ p.7.kept.0))
  score_node_at (boolean none j need rs os ps) sc g y p i h =
      let S : Scorer = boolean none j need rs os ps in
      let b : max doc (p.0.cached - 1) ≡ doc = at-most-there (matches ix S) doc p.0.cached y p.8 in
      let w : List ℕ = p.1 ++ (p.2 ++ p.3) in
      let q : length states - node_state_words ≡ length w = omega (arith, ap length p.4) in
      let same : take (length states - node_state_words) (drop node_state_words states) ≡ w = rw (q, p.4, take-length) in
      let all : all_match ix rs doc ≡ true = (and_parts (all_match ix rs doc) (not (any_matches ix ps doc)) (and_parts (all_match ix rs doc && not (any_matches ix ps doc)) (leb need (matching ix os doc)) y).0).0 in
      record {
        j = j;
        rs = rs;
        os = os;
        rest = p.3;
        deep = p.6;
        asks = record {
          required = record { sound = g.sound.0; tables = g.tables.0; few = omega (arith, g.few) };
          optional = record { sound = g.sound.1; tables = g.tables.1; few = omega (arith, g.few) };
          few = omega (arith, g.few);
          all = all;
          required-end = M.required-end ∙ ap (λ (l : List ℕ). get_or l 4 0) p.4 ∙ p.7.required-end;
          optional-end = M.optional-end ∙ ap (λ (l : List ℕ). get_or l 5 0) p.4 ∙ p.7.optional-end;
          joins = joins_at j rs p.0 m.afterwards m.group_at (M.afterwards-is ∙ ap (λ (l : List ℕ). eqb (get_or l 13 0) 1) p.4) (M.group_at ∙ ap (λ (l : List ℕ). get_or l 14 0) p.4) p.7.joining;
        };
        parts = record { required = p.1; optional = p.2; is = same; required-ok = subst (λ (x : ℕ). Oks ix ranges rs (k - 1) p.1 x) b p.9; optional-ok = subst (λ (x : ℕ). Oks ix ranges os (k - 1) p.2 x) b p.10 };
        done = λ r kids' len J P. (
          record { is = J.is; small = more-nodes (nodes_of rs) (nodes_of os) (nodes_of ps) r J.small },
          (
            p.0,
            P.required,
            P.optional,
            p.3,
            rw (q, p.4, drop-length, append-nil) (ap (λ (x : List ℕ). words_of p.0 ++ x) P.is),
            p.5,
            p.6,
            p.7,
            p.8,
            subst (λ (x : ℕ). Oks ix ranges rs (k - 1) P.required x) (sym b) P.required-ok,
            subst (λ (x : ℕ). Oks ix ranges os (k - 1) P.optional x) (sym b) P.optional-ok,
            p.11,
          ),
        );
      }
    where
      more-nodes : (a b c : ℕ) (r : Float) → AtMost ((a + b) * 2 ^ 29) r → AtMost ((1 + (a + (b + c))) * 2 ^ 29) r
      more-nodes a b c r h = let m : (a + b) * 2 ^ 29 ≤ (1 + (a + (b + c))) * 2 ^ 29 = omega arith in atmost-more m h
