-- The prohibited children: the loop that takes their documents away. Assumes nothing.
use Rattle.std.proofs.Common.{◌≡◌, refl, sym, ap, subst, ◌∙◌, Bool, true, false, not, cond, ◌&&◌, ◌||◌, List, ◌++◌, ℕ, ◌+◌, ◌-◌, ◌≤◌, ◌<◌, length, get_or, take, drop, arith}
use Rattle.std.proofs.lemmas.Bool.{false≢true, and_parts, and_left}
use mathlib.Core.Bool.{and-true}
use Rattle.meaning.specs.Lent.{Index}
use Rattle.bits.specs.Bit.{bit}
use Rattle.bits.proofs.Laws.{bit-zero}
use Rattle.tree_weight.specs.ScorerTree.{Scorers, end, more, matches, any_matches}
use Rattle.tree_weight.specs.Sound.{Lends, Sounds, nodes_of}
use Rattle.scorer_leaf.specs.declared.PhraseBuffers.{PhraseBuffers}
use Rattle.scorer_leaf.specs.Calls.{lists}
use Rattle.scorer_leaf.specs.Buffers.{room, other_room, SameBuffers}
use Rattle.tree_node.specs.Words.{ChildThere}
use Rattle.window_words.specs.Windowed.{nowhere, places_of, AllWindowed}
use Rattle.window_words.proofs.Laws.{windowed-less, windowed-mono}
use Rattle.window_words.proofs.Parts.{each-all, zip-none, zip-end, zip-stop, view, zip-next}
use Rattle.window_leaf.specs.Asks.{NodeAnswers, BitsPre}
use Rattle.window_bits.specs.Parts.{Called}
use Rattle.window_bits.proofs.Children.{stop-is, child-facts, child-held}
use Rattle.window_bits.proofs.Optionals.{unasked-low, unasked-fresh, Walk, walk_start, walk_there, walk_node}

pub record ExcludedLeft (ix : Index) (R : List ℕ) (k places base want : ℕ) (ss : Scorers) (kids : List ℕ) (w at : ℕ) (g : Scorers) : Type 0 where
  pub zip : Walk ix R k places base nowhere ss g kids at
  pub within : (p : ℕ) → p < 64 → bit p w ≡ true → bit p want ≡ true
  pub bits : (p : ℕ) → p < 64 → (bit p w && not (any_matches ix g (base + p))) ≡ (bit p want && not (any_matches ix ss (base + p)))

pub record ExcludedAt (ix : Index) (R : List ℕ) (k places base want : ℕ) (ss : Scorers) (kids : List ℕ) (w at : ℕ) : Type 0 where
  pub g : Scorers
  pub left : ExcludedLeft ix R k places base want ss kids w at g

pub excluded-start : {ix : Index} {R : List ℕ} {k places base want : ℕ} {ss : Scorers} {kids : List ℕ} → Sounds ix places ss → nodes_of ss ≤ 255 → AllWindowed ix R ss k kids base base nowhere → ExcludedAt ix R k places base want ss kids want 0
excluded-start {ix} {R} {k} {places} {base} {want} {ss} {kids} h n q = record { g = ss; left = record { zip = walk_start ix R k places base nowhere ss kids h n q; within = λ p l e. e; bits = λ p l. refl } }

-- one more is taken away: r has those of its documents that are wanted
less-one : (w r m z : Bool) → r ≡ (w && m) → ((w && not r) && not z) ≡ (w && not (m || z))
less-one false r m z e = refl
less-one true r true z e = ap (λ (t : Bool). not t && not z) e
less-one true r false z e = ap (λ (t : Bool). not t && not z) e

module _ {ix : Index} {R : List ℕ} {k places base want : ℕ} {ss : Scorers} {kids : List ℕ} {w at : ℕ} where
  -- nothing is left: the others are not asked
  pub excluded-stop : ExcludedAt ix R k places base want ss kids w at → w ≡ 0 → ((p : ℕ) → p < 64 → bit p w ≡ (bit p want && not (any_matches ix ss (base + p)))) × AllWindowed ix R ss k kids (base + 64) base nowhere
  excluded-stop q e =
      let none : (p : ℕ) → bit p w ≡ false = λ p. ap (bit p) e ∙ bit-zero p in (
        λ p l. none p ∙ sym (sym (q.left.bits p l) ∙ and_left (bit p w) (not (any_matches ix q.g (base + p))) (none p)),
        each-all ix R ss k kids (base + 64) base nowhere (zip-stop (λ f s y h. windowed-mono ix R s k (cond f 1 0) y base base nowhere (base + 64) (omega arith) h.1) q.left.zip),
      )

  ended : (g : Scorers) → ExcludedLeft ix R k places base want ss kids w at g → length kids ≤ at → ((p : ℕ) → p < 64 → bit p w ≡ (bit p want && not (any_matches ix ss (base + p)))) × AllWindowed ix R ss k kids (base + 64) base nowhere
  unfolding any_matches
  ended end s l = (λ p h. sym (and-true (bit p w)) ∙ s.bits p h, each-all ix R ss k kids (base + 64) base nowhere (zip-end s.zip))
  ended (more f x g) s l = let c = child-facts (unasked-low ix R k base) (view s.zip) in absurd (omega (arith, c.long, c.fits, l))

  pub excluded-end : ExcludedAt ix R k places base want ss kids w at → length kids ≤ at → ((p : ℕ) → p < 64 → bit p w ≡ (bit p want && not (any_matches ix ss (base + p)))) × AllWindowed ix R ss k kids (base + 64) base nowhere
  excluded-end q l = ended q.g q.left l

  module _ (q : ExcludedAt ix R k places base want ss kids w at) (l : at < length kids) where
    pub excluded-there : ChildThere kids at
    excluded-there = walk_there ix R k places base nowhere ss q.g kids at q.left.zip l

    module _ {postings positions : List ℕ} {n e : ℕ} (lends : Lends ix n postings positions) (i : e ≡ at + get_or kids (at + 1) 0) where
      pub excluded-node : {b b' : PhraseBuffers} → Called (lists n postings positions R) places (room b) (other_room b) base want → SameBuffers b b' → BitsPre (lists n postings positions R) (room b') (other_room b') (take (e - at) (drop at kids)) base w k
      excluded-node called s = walk_node ix R k places base nowhere ss q.g kids at q.left.zip l postings positions n called lends e i _ _ w s.starts_length s.other_starts_length q.left.within

  module _ {e : ℕ} (i : e ≡ at + get_or kids (at + 1) 0) {postings positions : List ℕ} {n : ℕ} (lends : Lends ix n postings positions) (r : ℕ) (ys : List ℕ) {w' : ℕ} (m : length ys ≡ length (take (e - at) (drop at kids))) {kids' : List ℕ} (is : kids' ≡ take at kids ++ (ys ++ drop (e - at) (drop at kids))) (o : (p : ℕ) → p < 64 → bit p w' ≡ (bit p w && not (bit p r))) (ans : NodeAnswers (lists n postings positions R) (take (e - at) (drop at kids)) base (places_of w) k r ys) where
    took : (g : Scorers) → ExcludedLeft ix R k places base want ss kids w at g → at < length kids → ExcludedAt ix R k places base want ss (take at kids ++ (ys ++ drop (e - at) (drop at kids))) w' e
    unfolding any_matches
    took end s l = absurd (omega (arith, zip-none s.zip, l))
    took (more f x g) s l =
        let v = view s.zip in
        let low = unasked-low ix R k base in
        let a = ans ix places x (cond f 1 0) (child-held low v postings positions n lends (get_or kids at 0) (unasked-fresh ix R k base (get_or kids at 0)) e i refl) in
        record {
          g = g;
          left = record {
            zip = zip-next v e (stop-is low v e i) ys m (windowed-less ix R x k (cond f 1 0) ys (base + 64) base (places_of w) nowhere (λ p b t. absurd (false≢true t)) a.1);
            within = λ p b t. s.within p b (and_parts (bit p w) (not (bit p r)) (sym (o p b) ∙ t)).0;
            bits = λ p b. ap (λ (t : Bool). t && not (any_matches ix g (base + p))) (o p b) ∙ less-one (bit p w) (bit p r) (matches ix x (base + p)) (any_matches ix g (base + p)) (a.0.bits p b) ∙ s.bits p b;
          };
        }

    pub excluded-took : ExcludedAt ix R k places base want ss kids w at → at < length kids → ExcludedAt ix R k places base want ss kids' w' e
    excluded-took q l = subst (λ (q' : List ℕ). ExcludedAt ix R k places base want ss q' w' e) (sym is) (took q.g q.left l)
