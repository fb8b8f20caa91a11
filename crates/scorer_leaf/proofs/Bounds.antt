-- The words of a node: a larger bound asks less of them, their number, their size word, and where the node stands. Assumes nothing.
use mathlib.Core.Path.{◌≡◌, sym, ap, ◌∙◌}
use mathlib.Core.Bool.{Bool, cond}
use mathlib.Core.List.{List, [], ◌∷◌, ◌++◌}
use Prim.Native.Nat.{ℕ, ◌+◌, ◌-◌, ◌*◌, ◌≤◌, max}
use native.Mathlib.Nat.{le_trans}
use native.Mathlib.Omega.{arith}
use lib.ListN.{get_or, length, length-append}
use Rattle.meaning.specs.Limits.{node_state_words}
use Rattle.meaning.specs.Lent.{Index}
use Rattle.meaning.specs.Phrase.{PhraseTerm}
use Rattle.tree_weight.specs.ScorerTree.{Leaf, nothing, term, phrase, range, everything, Scorer, leaf, boolean, Scorers, end, more, matches}
use Rattle.tree_weight.specs.State.{State, words_of, leaf_size, size_of, sizes_of}
use Rattle.tree_weight.specs.Held.{Cache, TermsAre, LeafIs, Ok, Oks}
use Rattle.tree_weight.proofs.Terms.{term-mono}

-- ---- a larger bound asks less
pub terms-mono : (ix : Index) (ts : List PhraseTerm) (w : List ℕ) (b e : ℕ) → b ≤ e → TermsAre ix ts w b → TermsAre ix ts w e
unfolding TermsAre
terms-mono ix [] w b e h p = p
terms-mono ix (t ∷ ts) w b e h p =
    (p.0, p.1, p.2, term-mono ix 9 t.leaf p.0 b e h p.3, p.4, terms-mono ix ts p.1 b e h p.5)

pub leaf-mono : (ix : Index) (R : List ℕ) (l : Leaf) (s : State) (w : List ℕ) (b e : ℕ) → b ≤ e → LeafIs ix R l s w b → LeafIs ix R l s w e
unfolding LeafIs
leaf-mono ix R nothing s w b e h p = p
leaf-mono ix R (term l) s w b e h p = (term-mono ix 1 l s b e h p.0, p.1)
leaf-mono ix R (phrase f ts) s w b e h p =
    record {
      kind-is = p.kind-is;
      size_is = p.size_is;
      field_is = p.field_is;
      norms-is = p.norms-is;
      terms = terms-mono ix ts w b e h p.terms;
      worked-out = p.worked-out;
    }
leaf-mono ix R (range r) s w b e h p = p
leaf-mono ix R everything s w b e h p = p

mutual
  unfolding Ok

  pub ok-mono : (ix : Index) (R : List ℕ) (T : Scorer) (k o : ℕ) (y : List ℕ) (b e : ℕ) → b ≤ e → Ok ix R T k o y b → Ok ix R T k o y e
  ok-mono ix R (leaf l sc) k o y b e h p = (
    p.0,
    p.1,
    p.2,
    p.3,
    leaf-mono ix R l p.0 p.1 (max b (p.0.cached - 1)) (max e (p.0.cached - 1)) (omega arith) p.4,
    p.5,
    λ t g. p.6 t (le_trans h g),
  )
  ok-mono ix R (boolean c j need rs os ps) k o y b e h p =
      let up : max b (p.0.cached - 1) ≤ max e (p.0.cached - 1) = omega arith in (
        p.0,
        p.1,
        p.2,
        p.3,
        p.4,
        p.5,
        p.6,
        p.7,
        (λ t g. p.8 t (le_trans h g)),
        oks-mono ix R rs (k - 1) p.1 (max b (p.0.cached - 1)) (max e (p.0.cached - 1)) up p.9,
        oks-mono ix R os (k - 1) p.2 (max b (p.0.cached - 1)) (max e (p.0.cached - 1)) up p.10,
        oks-mono ix R ps (k - 1) p.3 (max b (p.0.cached - 1)) (max e (p.0.cached - 1)) up p.11,
      )

  pub oks-mono : (ix : Index) (R : List ℕ) (ss : Scorers) (k : ℕ) (w : List ℕ) (b e : ℕ) → b ≤ e → Oks ix R ss k w b → Oks ix R ss k w e
  oks-mono ix R end k w b e h p = p
  oks-mono ix R (more f T ss) k w b e h p = (p.0, p.1, p.2, ok-mono ix R T k (cond f 1 0) p.0 b e h p.3, oks-mono ix R ss k p.1 b e h p.4)

-- ---- how many words
pub terms-length : (ix : Index) (ts : List PhraseTerm) (w : List ℕ) (b : ℕ) → TermsAre ix ts w b → length w ≡ node_state_words * length ts
unfolding TermsAre
terms-length ix [] w b p = ap length p
terms-length ix (t ∷ ts) w b p = omega (arith, ap length p.2, terms-length ix ts p.1 b p.5)

pub record Sizes (l : Leaf) (s : State) (w : List ℕ) : Type 0 where
  pub size : s.size ≡ leaf_size l
  pub words : node_state_words + length w ≡ leaf_size l

pub leaf-sizes : (ix : Index) (R : List ℕ) (l : Leaf) (s : State) (w : List ℕ) (b : ℕ) → LeafIs ix R l s w b → Sizes l s w
unfolding LeafIs leaf_size
leaf-sizes ix R nothing s w b p = record { size = p.1; words = omega (arith, ap length p.3) }
leaf-sizes ix R (term l) s w b p = record { size = p.0.size_is; words = omega (arith, ap length p.1) }
leaf-sizes ix R (phrase f ts) s w b p = record { size = p.size_is; words = omega (arith, terms-length ix ts w b p.terms) }
leaf-sizes ix R (range r) s w b p = record { size = p.0.size_is; words = omega (arith, ap length p.1) }
leaf-sizes ix R everything s w b p = record { size = p.1; words = omega (arith, ap length p.2) }

mutual
  unfolding Ok size_of

  pub ok-length : (ix : Index) (R : List ℕ) (T : Scorer) (k o : ℕ) (y : List ℕ) (b : ℕ) → Ok ix R T k o y b → length y ≡ size_of T
  ok-length ix R (leaf l sc) k o y b p =
      omega (arith, ap length p.2, (leaf-sizes ix R l p.0 p.1 (max b (p.0.cached - 1)) p.4).words)
  ok-length ix R (boolean c j need rs os ps) k o y b p =
      let e = max b (p.0.cached - 1) in
      omega (arith, ap length p.4, length-append p.1 (p.2 ++ p.3), length-append p.2 p.3, oks-length ix R rs (k - 1) p.1 e p.9, oks-length ix R os (k - 1) p.2 e p.10, oks-length ix R ps (k - 1) p.3 e p.11)

  pub oks-length : (ix : Index) (R : List ℕ) (ss : Scorers) (k : ℕ) (w : List ℕ) (b : ℕ) → Oks ix R ss k w b → length w ≡ sizes_of ss
  oks-length ix R end k w b p = ap length p
  oks-length ix R (more f T ss) k w b p =
      omega (arith, ap length p.2, length-append p.0 p.1, ok-length ix R T k (cond f 1 0) p.0 b p.3, oks-length ix R ss k p.1 b p.4)

-- ---- the record at the front
pub record Front (P : ℕ → Bool) (b : ℕ) (y : List ℕ) : Type 0 where
  pub state : State
  pub behind : List ℕ
  pub is : y ≡ words_of state ++ behind
  pub size : state.size ≡ length y
  pub cache : Cache P b state.cached

pub front_long : {P : ℕ → Bool} {b : ℕ} {y : List ℕ} → Front P b y → node_state_words ≤ length y
front_long f = omega (arith, ap length f.is)

pub front-size : {P : ℕ → Bool} {b : ℕ} {y : List ℕ} → Front P b y → get_or y 1 0 ≡ length y
front-size f = ap (λ (l : List ℕ). get_or l 1 0) f.is ∙ f.size

pub ok-front : (ix : Index) (R : List ℕ) (T : Scorer) (k o : ℕ) (y : List ℕ) (b : ℕ) → Ok ix R T k o y b → Front (matches ix T) b y
unfolding Ok size_of
ok-front ix R (leaf l sc) k o y b p =
    record {
      state = p.0;
      behind = p.1;
      is = p.2;
      size = (leaf-sizes ix R l p.0 p.1 (max b (p.0.cached - 1)) p.4).size ∙ sym (ok-length ix R (leaf l sc) k o y b p);
      cache = p.6;
    }
ok-front ix R (boolean c j need rs os ps) k o y b p =
    record {
      state = p.0;
      behind = p.1 ++ (p.2 ++ p.3);
      is = p.4;
      size = p.7.size_is ∙ sym (ok-length ix R (boolean c j need rs os ps) k o y b p);
      cache = p.8;
    }

pub ok-long : (ix : Index) (R : List ℕ) (T : Scorer) (k o : ℕ) (y : List ℕ) (b : ℕ) → Ok ix R T k o y b → node_state_words ≤ length y
ok-long ix R T k o y b p = front_long (ok-front ix R T k o y b p)

-- the document of the cached word
pub ok-cached : (ix : Index) (R : List ℕ) (T : Scorer) (k o : ℕ) (y : List ℕ) (b : ℕ) → Ok ix R T k o y b → Cache (matches ix T) b (get_or y 2 0)
ok-cached ix R T k o y b p = let f = ok-front ix R T k o y b p in rw f.is f.cache
