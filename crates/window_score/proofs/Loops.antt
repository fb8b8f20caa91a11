-- The loops over the parts of some children, which add their scores to the sums of a window: what the children passed have added, and what is left. Assumes nothing.
use Rattle.std.proofs.lemmas.Bool.{false≢true}
use Rattle.std.proofs.Common.{◌≡◌, refl, sym, ap, ◌∙◌, Bool, true, false, cond, List, [], ◌∷◌, ◌++◌, ℕ, ◌+◌, ◌-◌, ◌≤◌, ◌<◌, length, get_or, take, drop, arith}
use Rattle.std.specs.Prelude.{Float}
use Rattle.std.specs.Float.{nan, binary64}
use Rattle.std.specs.Float.Ieee.{add}
use Rattle.meaning.specs.Limits.{node_state_words}
use Rattle.meaning.specs.Lent.{Index}
use Rattle.meaning.specs.Ieee754.{sum_from}
use Rattle.bits.specs.Bit.{bit}
use Rattle.bits.proofs.Laws.{bit-zero}
use Rattle.tree_weight.specs.ScorerTree.{Scorer, Scorers, end, more, matches, scorer_score}
use Rattle.tree_weight.specs.Sound.{Sounds, TablesOf, nodes, nodes_of}
use Rattle.score_leaf.specs.Asked.{Scorable}
use Rattle.score_leaf.proofs.Bounds.{scores-more}
use Rattle.score.proofs.Sums.{counted, Matched}
use Rattle.window_words.specs.Windowed.{Places, nowhere, Windowed, AllWindowed}
use Rattle.window_words.proofs.Laws.{kind_of, windowed-long, windowed-size, windowed-kind, windowed-scores}
use Rattle.window_words.proofs.Parts.{Part, Asked, all-each, each-all, Zip, zip-start, zip-none, zip-end, view, word-at, word-first, part-held, zip-next}
use Rattle.tree_node.specs.Words.{ChildThere}
use Rattle.window_score.specs.Sums.{Sums, At, Added}

-- ---- sums
pub sums-more : (q r : ℕ) (sums : List Float) → q ≤ r → Sums q sums → Sums r sums
sums-more q r sums h s = record { long = s.long; small = λ p l. scores-more q r (get_or sums p nan) h (s.small p l) }

-- nothing is added where nothing is wanted
pub added-none : (score : ℕ → Float) (want : ℕ) (sums : List Float) → want ≡ 0 → Added score want sums sums
added-none score want sums none = record { wanted = λ p l e. absurd (false≢true (sym (bit-zero p) ∙ ap (λ (w : ℕ). bit p w) (sym none) ∙ e)); others = λ p l e. refl }

-- a child's score, where it counts, is no longer left
left-step : (c : Bool) (s s' y : Float) (xs : List Float) (total : Float) → (c ≡ true → s' ≡ add binary64 s y) → (c ≡ false → s' ≡ s) → sum_from s (cond c (y ∷ []) [] ++ xs) ≡ total → sum_from s' xs ≡ total
unfolding sum_from
left-step true s s' y xs total h k e = ap (λ (z : Float). sum_from z xs) (h refl) ∙ e
left-step false s s' y xs total h k e = ap (λ (z : Float). sum_from z xs) (k refl) ∙ e

-- another part in the place of the one at at
abbrev pub put : List ℕ → ℕ → ℕ → List ℕ → List ℕ
put kids at e ys = take at kids ++ (ys ++ drop (e - at) (drop at kids))

-- ---- a loop: which children count at a place, the index, the parts, at which places they were asked, and the sums when it begins; most is how many leaves are summed at its end
pub record Frame : Type 0 where
  pub counts : ℕ → Bool → Scorer → Bool
  pub ix : Index
  pub ranges : List ℕ
  pub table : List Float
  pub places : ℕ
  pub depth : ℕ
  pub bound : ℕ
  pub base : ℕ
  pub asked : Places
  pub want : ℕ
  pub all : Scorers
  pub start : List Float
  pub most : ℕ

-- the parts that are left, and those passed, which can be asked of the next window
abbrev pub Left : Frame → Part
Left F = Asked F.ix F.ranges F.depth F.bound F.base F.asked

abbrev pub Passed : Frame → Part
Passed F = Asked F.ix F.ranges F.depth (F.base + 64) (F.base + 64) nowhere

-- its state: g are the children that are left, and the scores of those passed stand in the sums
pub record Walk (F : Frame) (g : Scorers) (kids : List ℕ) (at : ℕ) (sums : List Float) : Type 0 where
  pub zip : Zip (Left F) (Passed F) F.all g kids at
  pub left : (p : ℕ) → p < 64 → bit p F.want ≡ true → sum_from (get_or sums p nan) (counted (F.counts p) F.ix g (F.base + p)) ≡ sum_from (get_or F.start p nan) (counted (F.counts p) F.ix F.all (F.base + p))
  pub others : (p : ℕ) → p < 64 → bit p F.want ≡ false → get_or sums p nan ≡ get_or F.start p nan
  pub q : ℕ
  pub small : Sums q sums
  pub few : q + nodes_of g ≤ F.most
  pub sound : Sounds F.ix F.places g
  pub tables : TablesOf F.ix F.table g
  pub matched : (p : ℕ) → p < 64 → bit p F.want ≡ true → Matched (F.counts p) F.ix g (F.base + p)

pub walk-start : (F : Frame) (kids : List ℕ) (q : ℕ) → q + nodes_of F.all ≤ F.most → AllWindowed F.ix F.ranges F.all F.depth kids F.bound F.base F.asked → Sums q F.start → Sounds F.ix F.places F.all → TablesOf F.ix F.table F.all → ((p : ℕ) → p < 64 → bit p F.want ≡ true → Matched (F.counts p) F.ix F.all (F.base + p)) → Walk F F.all kids 0 F.start
walk-start F kids q few o s h t m =
    record {
      zip = zip-start (all-each F.ix F.ranges F.all F.depth kids F.bound F.base F.asked o);
      left = λ p l e. refl;
      others = λ p l e. refl;
      q = q;
      small = s;
      few = few;
      sound = h;
      tables = t;
      matched = m;
    }

-- the end of it
pub record Ended (F : Frame) (kids : List ℕ) (sums : List Float) : Type 0 where
  pub added : At (λ p x. sum_from x (counted (F.counts p) F.ix F.all (F.base + p))) F.want F.start sums
  pub small : Sums F.most sums
  pub parts : AllWindowed F.ix F.ranges F.all F.depth kids (F.base + 64) (F.base + 64) nowhere

module _ {F : Frame} {kids : List ℕ} {at : ℕ} {sums : List Float} where
  -- the child at the place
  pub walk-open : (g : Scorers) → Walk F g kids at sums → at < length kids → (f : Bool) × (T : Scorer) × (g' : Scorers) × Walk F (more f T g') kids at sums
  walk-open end w l = absurd (omega (arith, zip-none w.zip))
  walk-open (more f T g) w l = (f, T, g, w)

  pub walk-end : (g : Scorers) → Walk F g kids at sums → length kids ≤ at → Ended F kids sums
  unfolding counted sum_from nodes_of
  walk-end end w l =
      record {
        added = record { wanted = w.left; others = w.others };
        small = sums-more w.q F.most sums (omega (arith, w.few)) w.small;
        parts = each-all F.ix F.ranges F.all F.depth kids (F.base + 64) (F.base + 64) nowhere (zip-end w.zip);
      }
  walk-end (more f T g) w l =
      let v = view w.zip in
      absurd (omega (arith, l, v.fits, windowed-long F.ix F.ranges T F.depth (cond f 1 0) v.y F.bound F.base F.asked v.part-is))

  module _ {f : Bool} {T : Scorer} {g : Scorers} (w : Walk F (more f T g) kids at sums) where
    long : node_state_words ≤ length (view w.zip).y
    long = let v = view w.zip in windowed-long F.ix F.ranges T F.depth (cond f 1 0) v.y F.bound F.base F.asked v.part-is

    size : get_or kids (at + 1) 0 ≡ length (view w.zip).y
    size =
        let v = view w.zip in
        word-at v 1 (omega (arith, long)) ∙ windowed-size F.ix F.ranges T F.depth (cond f 1 0) v.y F.bound F.base F.asked v.part-is

    pub walk-there : ChildThere kids at
    walk-there = record { long = omega (arith, size, long); fits = omega (arith, size, (view w.zip).fits) }

    pub walk-kind : get_or kids at 0 ≡ kind_of T
    walk-kind =
        let v = view w.zip in
        word-first v (omega (arith, long)) ∙ windowed-kind F.ix F.ranges T F.depth (cond f 1 0) v.y F.bound F.base F.asked v.part-is

    pub walk-scores : get_or kids (at + 15) 0 ≡ cond f 1 0
    walk-scores =
        let v = view w.zip in
        word-at v 15 (omega (arith, long)) ∙ windowed-scores F.ix F.ranges T F.depth (cond f 1 0) v.y F.bound F.base F.asked v.part-is

    pub walk-scorable : F.most ≤ 256 → Scorable F.ix F.table F.places T
    unfolding Sounds TablesOf nodes_of
    walk-scorable h = record { sound = w.sound.0; tables = w.tables.0; few = omega (arith, w.few, h) }

    pub walk-few : F.most ≤ 256 → w.q + nodes T ≤ 256
    unfolding nodes_of
    walk-few h = omega (arith, w.few, h)

    pub walk-matched : (p : ℕ) → p < 64 → bit p F.want ≡ true → F.counts p f T ≡ true → matches F.ix T (F.base + p) ≡ true
    unfolding Matched
    walk-matched p l e h = (w.matched p l e).0 h

    module _ (e : ℕ) (stop : e ≡ at + get_or kids (at + 1) 0) where
      pub walk-part : Windowed F.ix F.ranges T F.depth (cond f 1 0) (take (e - at) (drop at kids)) F.bound F.base F.asked
      walk-part = part-held (view w.zip) e (stop ∙ ap (λ (n : ℕ). at + n) size)

      -- on to the next child, after the scores of this one were added where it counts
      pub walk-took : (x : ℕ) (sums' : List Float) → ((p : ℕ) → p < 64 → bit p F.want ≡ true → bit p x ≡ F.counts p f T) → ((p : ℕ) → p < 64 → bit p F.want ≡ false → bit p x ≡ false) → Added (λ p. scorer_score F.ix T (F.base + p)) x sums sums' → Sums (w.q + nodes T) sums' → (ys : List ℕ) → length ys ≡ length (take (e - at) (drop at kids)) → Windowed F.ix F.ranges T F.depth (cond f 1 0) ys (F.base + 64) (F.base + 64) nowhere → Walk F g (put kids at e ys) e sums'
      unfolding Sounds TablesOf nodes_of Matched counted
      walk-took x sums' counts out added small ys len q =
          record {
            zip = zip-next (view w.zip) e (stop ∙ ap (λ (n : ℕ). at + n) size) ys len q;
            left = λ p l i. left-step (F.counts p f T) (get_or sums p nan) (get_or sums' p nan) (scorer_score F.ix T (F.base + p)) (counted (F.counts p) F.ix g (F.base + p)) (sum_from (get_or F.start p nan) (counted (F.counts p) F.ix F.all (F.base + p))) (λ c. added.wanted p l (counts p l i ∙ c)) (λ c. added.others p l (counts p l i ∙ c)) (w.left p l i);
            others = λ p l i. added.others p l (out p l i) ∙ w.others p l i;
            q = w.q + nodes T;
            small = small;
            few = omega (arith, w.few);
            sound = w.sound.1;
            tables = w.tables.1;
            matched = λ p l i. (w.matched p l i).1;
          }
