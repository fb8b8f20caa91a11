-- A loop over the parts of some children that adds up the scores of those that count. Assumes nothing.
use Rattle.std.proofs.lemmas.Bool.{and_parts}
use mathlib.Core.Path.{◌≡◌, refl, ap}
use mathlib.Core.Bool.{Bool, true, false, cond}
use mathlib.Core.List.{List, [], ◌∷◌, ◌++◌}
use Prim.Native.Nat.{ℕ, ◌+◌, ◌-◌, ◌*◌, ◌^◌, ◌≤◌, ◌<◌}
use native.Mathlib.Nat.{le_refl}
use native.Mathlib.Omega.{arith}
use lib.ListN.{get_or, length, take, drop}
use lib.Ieee.{Float, binary64, add}
use Rattle.meaning.specs.Lent.{Index}
use Rattle.meaning.specs.Ieee754.{sum_from}
use Rattle.ieee754.specs.Nonneg.{AtMost}
use Rattle.tree_weight.specs.ScorerTree.{Scorer, Scorers, end, more, matches, all_match, scorer_score, scoring, required_scores, optional_scores}
use Rattle.tree_weight.specs.State.{size_of}
use Rattle.tree_weight.specs.Held.{Ok, Oks}
use Rattle.tree_weight.specs.Sound.{Sounds, TablesOf, nodes, nodes_of}
use Rattle.tree_node.specs.Words.{ChildThere}
use Rattle.score_leaf.specs.Asked.{Scorable, ScoreIs}
use Rattle.score_leaf.proofs.Bounds.{scores-add, scores-more}
use Rattle.score.proofs.Parts.{Zip, zip_start, zip_end, zip-none, zip-next, zip-renewed, kind_word, ok-kind, view, child-there, part-ok}

-- the scores of the children that count
unfoldable pub counted : (Bool → Scorer → Bool) → Index → Scorers → ℕ → List Float
counted c ix end d = []
counted c ix (more f T g) d = cond (c f T) (scorer_score ix T d ∷ []) [] ++ counted c ix g d

-- those that count match
unfoldable pub Matched : (Bool → Scorer → Bool) → Index → Scorers → ℕ → Type 0
Matched c ix end d = Unit
Matched c ix (more f T g) d = (c f T ≡ true → matches ix T d ≡ true) × Matched c ix g d

-- of the required those that score, of the optional those that match
abbrev pub scores-word : Bool → Scorer → Bool
scores-word f T = f

abbrev pub matches-at : Index → ℕ → Bool → Scorer → Bool
matches-at ix d f T = matches ix T d

pub required-counted : (ix : Index) (ss : Scorers) (d : ℕ) → counted scores-word ix ss d ≡ scoring (required_scores ix ss d)
unfolding counted required_scores scoring
required-counted ix end d = refl
required-counted ix (more f T g) d = ap (λ (l : List Float). cond f (scorer_score ix T d ∷ []) [] ++ l) (required-counted ix g d)

pub optional-counted : (ix : Index) (ss : Scorers) (d : ℕ) → counted (matches-at ix d) ix ss d ≡ optional_scores ix ss d
unfolding counted optional_scores
optional-counted ix end d = refl
optional-counted ix (more f T g) d = ap (λ (l : List Float). cond (matches ix T d) (scorer_score ix T d ∷ []) [] ++ l) (optional-counted ix g d)

pub required-matched : (ix : Index) (ss : Scorers) (d : ℕ) → all_match ix ss d ≡ true → Matched scores-word ix ss d
unfolding Matched all_match
required-matched ix end d e = tt
required-matched ix (more f T g) d e = let p = and_parts (matches ix T d) (all_match ix g d) e in ((λ h. p.0), required-matched ix g d p.1)

pub optional-matched : (ix : Index) (ss : Scorers) (d : ℕ) → Matched (matches-at ix d) ix ss d
unfolding Matched
optional-matched ix end d = tt
optional-matched ix (more f T g) d = ((λ h. h), optional-matched ix g d)

-- the state of the loop: g are the children that are left
pub record SumAt (c : Bool → Scorer → Bool) (ix : Index) (ranges : List ℕ) (table : List Float) (places k doc : ℕ) (fs : Scorers) (total : Float) (most : ℕ) (g : Scorers) (kids : List ℕ) (at : ℕ) (sum : Float) : Type 0 where
  pub zip : Zip ix ranges k doc fs g kids at
  pub left : sum_from sum (counted c ix g doc) ≡ total
  pub q : ℕ
  pub small : AtMost (q * 2 ^ 29) sum
  pub few : q + nodes_of g ≤ most
  pub sound : Sounds ix places g
  pub tables : TablesOf ix table g
  pub matched : Matched c ix g doc

module _ (c : Bool → Scorer → Bool) (ix : Index) (ranges : List ℕ) (table : List Float) (places k doc : ℕ) (fs : Scorers) where
  pub sum-start : (x : Float) (p : ℕ) (w : List ℕ) → Oks ix ranges fs k w doc → AtMost (p * 2 ^ 29) x → Sounds ix places fs → TablesOf ix table fs → Matched c ix fs doc → SumAt c ix ranges table places k doc fs (sum_from x (counted c ix fs doc)) (p + nodes_of fs) fs w 0 x
  sum-start x p w o a s t m = record { zip = zip_start ix ranges k doc fs w o; left = refl; q = p; small = a; few = le_refl _; sound = s; tables = t; matched = m }

module _ {c : Bool → Scorer → Bool} {ix : Index} {ranges : List ℕ} {table : List Float} {places k doc : ℕ} {fs : Scorers} {total : Float} {most : ℕ} {kids : List ℕ} {at : ℕ} {sum : Float} where
  pub sum-end : most ≤ 256 → (g : Scorers) → SumAt c ix ranges table places k doc fs total most g kids at sum → length kids ≤ at → (sum ≡ total) × AtMost (most * 2 ^ 29) sum × Oks ix ranges fs k kids doc
  unfolding counted sum_from nodes_of
  sum-end few end p l = (p.left, scores-more p.q most sum (omega (arith, p.few)) p.small, zip_end p.zip)
  sum-end few (more f T g) p l = let v = view p.zip in absurd (omega (arith, v.long, v.fits))

  -- the child at the place
  pub sum-open : (g : Scorers) → SumAt c ix ranges table places k doc fs total most g kids at sum → at < length kids → (f : Bool) × (T : Scorer) × (g' : Scorers) × SumAt c ix ranges table places k doc fs total most (more f T g') kids at sum
  sum-open end p l = absurd (omega (arith, zip-none p.zip))
  sum-open (more f T g) p l = (f, T, g, p)

  module _ {f : Bool} {T : Scorer} {g : Scorers} (p : SumAt c ix ranges table places k doc fs total most (more f T g) kids at sum) where
    pub sum-there : ChildThere kids at
    sum-there = child-there (view p.zip)

    pub sum-scores : get_or kids (at + 15) 0 ≡ cond f 1 0
    sum-scores = (view p.zip).scores

    pub sum-size : get_or kids (at + 1) 0 ≡ size_of T
    sum-size = (view p.zip).size-of

    pub sum-kind : get_or kids at 0 ≡ kind_word T
    sum-kind = (view p.zip).kind

    pub sum-scorable : most ≤ 256 → Scorable ix table places T
    unfolding Sounds TablesOf nodes_of
    sum-scorable h = record { sound = p.sound.0; tables = p.tables.0; few = omega (arith, p.few) }

    pub sum-matched : c f T ≡ true → matches ix T doc ≡ true
    unfolding Matched
    sum-matched h = p.matched.0 h

    pub sum-part : (e : ℕ) → e ≡ at + get_or kids (at + 1) 0 → Ok ix ranges T k (cond f 1 0) (take (e - at) (drop at kids)) doc
    sum-part e stop = part-ok (view p.zip) e stop

    pub sum-part-kind : (e : ℕ) → e ≡ at + get_or kids (at + 1) 0 → get_or (take (e - at) (drop at kids)) 0 0 ≡ kind_word T
    sum-part-kind e stop = ok-kind ix ranges T k (cond f 1 0) (take (e - at) (drop at kids)) doc (sum-part e stop)

    -- the child's part after a call
    pub sum-renewed : (e : ℕ) → e ≡ at + get_or kids (at + 1) 0 → (ys : List ℕ) → Ok ix ranges T k (cond f 1 0) ys doc → SumAt c ix ranges table places k doc fs total most (more f T g) (take at kids ++ (ys ++ drop (e - at) (drop at kids))) at sum
    sum-renewed e stop ys o = record { zip = zip-renewed (view p.zip) e stop ys o; left = p.left; q = p.q; small = p.small; few = p.few; sound = p.sound; tables = p.tables; matched = p.matched }

    -- on to the next child
    pub sum-skipped : c f T ≡ false → (e : ℕ) → e ≡ at + get_or kids (at + 1) 0 → SumAt c ix ranges table places k doc fs total most g kids e sum
    unfolding Sounds TablesOf nodes_of Matched counted
    sum-skipped out e stop =
        record { zip = zip-next (view p.zip) e stop; left = (rw out at p.left); q = p.q; small = p.small; few = omega (arith, p.few); sound = p.sound.1; tables = p.tables.1; matched = p.matched.1 }

    pub sum-took : most ≤ 256 → c f T ≡ true → (e : ℕ) → e ≡ at + get_or kids (at + 1) 0 → (r : Float) → ScoreIs ix T doc r → SumAt c ix ranges table places k doc fs total most g kids e (add binary64 sum r)
    unfolding Sounds TablesOf nodes_of Matched counted sum_from
    sum-took h counts e stop r s =
        let l : sum_from (add binary64 sum (scorer_score ix T doc)) (counted c ix g doc) ≡ total = rw counts at p.left in
        record {
          zip = zip-next (view p.zip) e stop;
          left = rw s.is l;
          q = p.q + nodes T;
          small = scores-add p.q (nodes T) sum r (omega (arith, p.few)) p.small s.small;
          few = omega (arith, p.few);
          sound = p.sound.1;
          tables = p.tables.1;
          matched = p.matched.1;
        }
