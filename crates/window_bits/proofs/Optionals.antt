-- The optional children: the loop that looks for one that matches, and the loop that counts those that match. Assumes nothing.
use Rattle.std.proofs.Common.{◌≡◌, refl, sym, ap, ◌∙◌, subst, Bool, true, false, cond, ◌&&◌, ◌||◌, ◌⊎◌, inl, inr, List, [], ◌∷◌, ◌++◌, ℕ, ◌+◌, ◌-◌, ◌^◌, ◌≤◌, ◌<◌, min, leb, ltb, lt-ltb, le-leb, length, get_or, take, drop, arith, le_refl}
use Rattle.std.proofs.lemmas.Bool.{false≢true, and_parts, or_from}
use mathlib.Core.Bool.{and-true, and-false, or-false, or_assoc, and-or_distrib_left}
use Rattle.meaning.specs.Limits.{no_more_docs}
use Rattle.meaning.specs.Lent.{Index}
use Rattle.bits.specs.Bit.{bit}
use Rattle.bits.proofs.Laws.{bit-zero}
use Rattle.window_planes.specs.Counts.{as_digit, count}
use Rattle.window_planes.proofs.Planes.{nothing-carried}
use Rattle.tree_weight.specs.ScorerTree.{Scorers, end, more, matches, any_matches, matching}
use Rattle.tree_weight.specs.Sound.{Lends, Sounds, nodes_of}
use Rattle.scorer_leaf.specs.declared.PhraseBuffers.{PhraseBuffers}
use Rattle.scorer_leaf.specs.Calls.{lists}
use Rattle.scorer_leaf.specs.Buffers.{room, other_room, SameBuffers}
use Rattle.tree_node.specs.Words.{ChildThere}
use Rattle.window_words.specs.Windowed.{Places, nowhere, places_of, optional_bound, AllWindowed}
use Rattle.window_words.proofs.Laws.{windowed-mono, all-less, all-mono}
use Rattle.window_words.proofs.Parts.{Asked, all-each, each-all, Zip, zip-start, zip-none, zip-end, view, zip-next}
use Rattle.window_leaf.specs.Asks.{Answers, NodeAnswers, BitsPre}
use Rattle.window_bits.specs.Parts.{CountsAre, Called, enough}
use Rattle.window_bits.proofs.Matching.{matching-few, any-one, more-than, too-few}
use Rattle.window_bits.proofs.Children.{AndKnown, each-known, Low, Fresh, child-there, ask-node, stop-is, child-facts, child-held, part-length, word-back}

module _ (ix : Index) (R : List ℕ) (k base : ℕ) where
  pub unasked-low : Low ix R k base (Asked ix R k base base nowhere)
  unasked-low = record { low = λ f s y q. windowed-mono ix R s k (cond f 1 0) y base base nowhere (base + 64) (omega arith) q }

  pub unasked-fresh : (kind : ℕ) → Fresh ix R k base kind (Asked ix R k base base nowhere)
  unasked-fresh kind = record { fresh = λ f s y e q. q }

-- the children left are not asked, those passed were, at the places D
abbrev pub Walk : Index → List ℕ → ℕ → ℕ → ℕ → Places → Scorers → Scorers → List ℕ → ℕ → Type 0
Walk ix R k places base D ss g kids at = Zip (AndKnown ix places (Asked ix R k base base nowhere)) (Asked ix R k (base + 64) base D) ss g kids at

pub walk_start : (ix : Index) (R : List ℕ) (k places base : ℕ) (D : Places) (ss : Scorers) (kids : List ℕ) → Sounds ix places ss → nodes_of ss ≤ 255 → AllWindowed ix R ss k kids base base nowhere → Walk ix R k places base D ss ss kids 0
walk_start ix R k places base D ss kids h n q = zip-start (each-known (Asked ix R k base base nowhere) ix places ss kids h n (all-each ix R ss k kids base base nowhere q))

-- what a call asks
module _ (ix : Index) (R : List ℕ) (k places base : ℕ) (D : Places) (ss g : Scorers) (kids : List ℕ) (at : ℕ) (zip : Walk ix R k places base D ss g kids at) (l : at < length kids) where
  pub walk_there : ChildThere kids at
  walk_there = child-there (unasked-low ix R k base) g zip l

  module _ (postings positions : List ℕ) (n : ℕ) {starts other_starts want : ℕ} (called : Called (lists n postings positions R) places starts other_starts base want) (lends : Lends ix n postings positions) (e : ℕ) (i : e ≡ at + get_or kids (at + 1) 0) where
    pub walk_node : (starts' other_starts' w : ℕ) → starts' ≡ starts → other_starts' ≡ other_starts → ((p : ℕ) → p < 64 → bit p w ≡ true → bit p want ≡ true) → BitsPre (lists n postings positions R) starts' other_starts' (take (e - at) (drop at kids)) base w k
    walk_node = ask-node (unasked-low ix R k base) postings positions n called lends (get_or kids at 0) (unasked-fresh ix R k base (get_or kids at 0)) g zip l e i refl

-- ---- one that matches
pub record AnyLeft (ix : Index) (R : List ℕ) (k places base want : ℕ) (ss : Scorers) (kids : List ℕ) (w next at : ℕ) (g : Scorers) : Type 0 where
  pub zip : Walk ix R k places base (places_of want) ss g kids at
  pub bits : (p : ℕ) → p < 64 → (bit p w || (bit p want && any_matches ix g (base + p))) ≡ (bit p want && any_matches ix ss (base + p))
  pub gap : (d : ℕ) → base + 64 ≤ d → d < next → any_matches ix g d ≡ false → any_matches ix ss d ≡ false
  pub top : next ≤ no_more_docs

pub record AnyAt (ix : Index) (R : List ℕ) (k places base want : ℕ) (ss : Scorers) (kids : List ℕ) (w next at : ℕ) : Type 0 where
  pub g : Scorers
  pub left : AnyLeft ix R k places base want ss kids w next at g

pub any-start : {ix : Index} {R : List ℕ} {k places base want : ℕ} {ss : Scorers} {kids : List ℕ} → Sounds ix places ss → nodes_of ss ≤ 255 → AllWindowed ix R ss k kids base base nowhere → AnyAt ix R k places base want ss kids 0 no_more_docs 0
any-start {ix} {R} {k} {places} {base} {want} {ss} {kids} h n q =
    record {
      g = ss;
      left = record {
        zip = walk_start ix R k places base (places_of want) ss kids h n q;
        bits = λ p l. ap (λ (t : Bool). t || (bit p want && any_matches ix ss (base + p))) (bit-zero p);
        gap = λ d a b e. e;
        top = le_refl no_more_docs;
      };
    }

module _ {ix : Index} {R : List ℕ} {k places base want : ℕ} {ss : Scorers} {kids : List ℕ} {w next at : ℕ} where
  any-ended : (g : Scorers) → AnyLeft ix R k places base want ss kids w next at g → length kids ≤ at → Answers (any_matches ix ss) base (places_of want) w next × AllWindowed ix R ss k kids (base + 64) base (places_of want)
  unfolding any_matches
  any-ended end s l = (
    record { bits = λ p h. sym (ap (λ (t : Bool). bit p w || t) (and-false (bit p want)) ∙ or-false (bit p w)) ∙ s.bits p h; gap = λ d a b. s.gap d a b refl; top = s.top },
    each-all ix R ss k kids (base + 64) base (places_of want) (zip-end s.zip),
  )
  any-ended (more f x g) s l = let c = child-facts (unasked-low ix R k base) (view s.zip) in absurd (omega (arith, c.long, c.fits, l))

  pub any-end : AnyAt ix R k places base want ss kids w next at → length kids ≤ at → Answers (any_matches ix ss) base (places_of want) w next × AllWindowed ix R ss k kids (base + 64) base (places_of want)
  any-end q l = any-ended q.g q.left l

  module _ (q : AnyAt ix R k places base want ss kids w next at) (l : at < length kids) where
    pub any-there : ChildThere kids at
    any-there = walk_there ix R k places base (places_of want) ss q.g kids at q.left.zip l

    module _ {postings positions : List ℕ} {n e : ℕ} (lends : Lends ix n postings positions) (i : e ≡ at + get_or kids (at + 1) 0) where
      pub any-node : {b b' : PhraseBuffers} → Called (lists n postings positions R) places (room b) (other_room b) base want → SameBuffers b b' → BitsPre (lists n postings positions R) (room b') (other_room b') (take (e - at) (drop at kids)) base want k
      any-node called s = walk_node ix R k places base (places_of want) ss q.g kids at q.left.zip l postings positions n called lends e i _ _ want s.starts_length s.other_starts_length (λ p b t. t)

  module _ {e : ℕ} (i : e ≡ at + get_or kids (at + 1) 0) {postings positions : List ℕ} {n : ℕ} (lends : Lends ix n postings positions) (r : ℕ) (ys : List ℕ) {w' next' : ℕ} (m : length ys ≡ length (take (e - at) (drop at kids))) {kids' : List ℕ} (is' : kids' ≡ take at kids ++ (ys ++ drop (e - at) (drop at kids))) (j : next' ≡ min next (get_or kids' (at + 22) 0)) (o : (p : ℕ) → bit p w' ≡ (bit p w || bit p r)) (ans : NodeAnswers (lists n postings positions R) (take (e - at) (drop at kids)) base (places_of want) k r ys) where
    one-took : (g : Scorers) → AnyLeft ix R k places base want ss kids w next at g → at < length kids → AnyAt ix R k places base want ss (take at kids ++ (ys ++ drop (e - at) (drop at kids))) w' next' e
    unfolding any_matches
    one-took end s l = absurd (omega (arith, zip-none s.zip, l))
    one-took (more f x g) s l =
        let v = view s.zip in
        let low = unasked-low ix R k base in
        let c : ChildThere kids at = child-facts low v in
        let a = ans ix places x (cond f 1 0) (child-held low v postings positions n lends (get_or kids at 0) (unasked-fresh ix R k base (get_or kids at 0)) e i refl) in
        let next-is : next' ≡ min next (get_or ys 22 0) = j ∙ ap (λ (q : List ℕ). min next (get_or q (at + 22) 0)) is' ∙ ap (min next) (word-back kids ys at e 22 (omega (arith, l)) (omega (arith, m, part-length kids at e c i))) in
        record {
          g = g;
          left = record {
            zip = zip-next v e (stop-is low v e i) ys m a.1;
            bits = λ p b.
                ap (λ (t : Bool). t || (bit p want && any_matches ix g (base + p))) (o p ∙ ap (λ (t : Bool). bit p w || t) (a.0.bits p b))
                ∙ or_assoc (bit p w) (bit p want && matches ix x (base + p)) (bit p want && any_matches ix g (base + p))
                ∙ ap (λ (t : Bool). bit p w || t) (sym (and-or_distrib_left (bit p want) (matches ix x (base + p)) (any_matches ix g (base + p))))
                ∙ s.bits p b;
            gap = λ d b t z. s.gap d b (omega (arith, next-is, t)) (or_from (matches ix x d) (any_matches ix g d) (a.0.gap d b (omega (arith, next-is, t))) z);
            top = omega (arith, next-is, s.top, a.0.top);
          };
        }

    pub any-took : AnyAt ix R k places base want ss kids w next at → at < length kids → AnyAt ix R k places base want ss kids' w' next' e
    any-took q l = subst (λ (q' : List ℕ). AnyAt ix R k places base want ss q' w' next' e) (sym is') (one-took q.g q.left l)

-- ---- how many match
pub record CountLeft (ix : Index) (R : List ℕ) (k places base want : ℕ) (ss : Scorers) (kids planes : List ℕ) (next at : ℕ) (g : Scorers) : Type 0 where
  pub zip : Walk ix R k places base (places_of want) ss g kids at
  pub long : length planes ≡ 8
  pub counts : (p : ℕ) → p < 64 → bit p want ≡ true → count p planes + matching ix g (base + p) ≡ matching ix ss (base + p)
  pub gap : (d : ℕ) → base + 64 ≤ d → d < next → matching ix g d ≡ 0 → matching ix ss d ≡ 0
  pub top : next ≤ no_more_docs

pub record CountAt (ix : Index) (R : List ℕ) (k places base want : ℕ) (ss : Scorers) (kids planes : List ℕ) (next at : ℕ) : Type 0 where
  pub g : Scorers
  pub left : CountLeft ix R k places base want ss kids planes next at g

pub count-start : {ix : Index} {R : List ℕ} {k places base want : ℕ} {ss : Scorers} {kids planes : List ℕ} → Sounds ix places ss → nodes_of ss ≤ 255 → AllWindowed ix R ss k kids base base nowhere → length planes ≡ 8 → ((p : ℕ) → count p planes ≡ 0) → CountAt ix R k places base want ss kids planes no_more_docs 0
count-start {ix} {R} {k} {places} {base} {want} {ss} {kids} h n q l z =
    record {
      g = ss;
      left = record {
        zip = walk_start ix R k places base (places_of want) ss kids h n q;
        long = l;
        counts = λ p b t. omega (arith, z p);
        gap = λ d a b e. e;
        top = le_refl no_more_docs;
      };
    }

-- one more is counted: no carry is lost
counted : (planes planes' : List ℕ) (carry r : ℕ) → length planes' ≡ length planes → ((p : ℕ) → count p (planes' ++ (carry ∷ [])) ≡ as_digit (bit p r) + count p planes) → (p : ℕ) (t : Bool) (z : ℕ) → length planes ≡ 8 → bit p r ≡ t → count p planes + (cond t 1 0 + z) ≤ 255 → count p planes' ≡ cond t 1 0 + count p planes
counted planes planes' carry r u o p t z long is h =
    let c : count p (planes' ++ (carry ∷ [])) ≡ cond t 1 0 + count p planes = o p ∙ ap (λ (x : Bool). as_digit x + count p planes) is in
    let size : 2 ^ length planes' ≡ 256 = ap (λ (x : ℕ). 2 ^ x) (u ∙ long) in
    nothing-carried p carry planes' (omega (arith, c, size, h)) ∙ c

module _ {ix : Index} {R : List ℕ} {k places base want : ℕ} {ss : Scorers} {kids planes : List ℕ} {next at : ℕ} where
  count-ended : (g : Scorers) → CountLeft ix R k places base want ss kids planes next at g → length kids ≤ at → CountsAre ix ss base want (λ p. count p planes) next × AllWindowed ix R ss k kids (base + 64) base (places_of want)
  unfolding matching
  count-ended end s l = (
    record { counts = λ p b t. omega (arith, s.counts p b t); gap = λ d a b. s.gap d a b refl; top = s.top },
    each-all ix R ss k kids (base + 64) base (places_of want) (zip-end s.zip),
  )
  count-ended (more f x g) s l = let c = child-facts (unasked-low ix R k base) (view s.zip) in absurd (omega (arith, c.long, c.fits, l))

  pub count-end : CountAt ix R k places base want ss kids planes next at → length kids ≤ at → CountsAre ix ss base want (λ p. count p planes) next × AllWindowed ix R ss k kids (base + 64) base (places_of want)
  count-end q l = count-ended q.g q.left l

  module _ (q : CountAt ix R k places base want ss kids planes next at) (l : at < length kids) where
    pub count-there : ChildThere kids at
    count-there = walk_there ix R k places base (places_of want) ss q.g kids at q.left.zip l

    module _ {postings positions : List ℕ} {n e : ℕ} (lends : Lends ix n postings positions) (i : e ≡ at + get_or kids (at + 1) 0) where
      pub count-node : {b b' : PhraseBuffers} → Called (lists n postings positions R) places (room b) (other_room b) base want → SameBuffers b b' → BitsPre (lists n postings positions R) (room b') (other_room b') (take (e - at) (drop at kids)) base want k
      count-node called s = walk_node ix R k places base (places_of want) ss q.g kids at q.left.zip l postings positions n called lends e i _ _ want s.starts_length s.other_starts_length (λ p b t. t)

  module _ (few : nodes_of ss ≤ 255) {e : ℕ} (i : e ≡ at + get_or kids (at + 1) 0) {postings positions : List ℕ} {n : ℕ} (lends : Lends ix n postings positions) (r : ℕ) (ys : List ℕ) (carry : ℕ) {planes' : List ℕ} {next' : ℕ} (m : length ys ≡ length (take (e - at) (drop at kids))) {kids' : List ℕ} (is' : kids' ≡ take at kids ++ (ys ++ drop (e - at) (drop at kids))) (j : next' ≡ min next (get_or kids' (at + 22) 0)) (u : length planes' ≡ length planes) (o : (p : ℕ) → count p (planes' ++ (carry ∷ [])) ≡ as_digit (bit p r) + count p planes) (ans : NodeAnswers (lists n postings positions R) (take (e - at) (drop at kids)) base (places_of want) k r ys) where
    next-took : (g : Scorers) → CountLeft ix R k places base want ss kids planes next at g → at < length kids → CountAt ix R k places base want ss (take at kids ++ (ys ++ drop (e - at) (drop at kids))) planes' next' e
    unfolding matching
    next-took end s l = absurd (omega (arith, zip-none s.zip, l))
    next-took (more f x g) s l =
        let v = view s.zip in
        let low = unasked-low ix R k base in
        let c : ChildThere kids at = child-facts low v in
        let a = ans ix places x (cond f 1 0) (child-held low v postings positions n lends (get_or kids at 0) (unasked-fresh ix R k base (get_or kids at 0)) e i refl) in
        let next-is : next' ≡ min next (get_or ys 22 0) = j ∙ ap (λ (q : List ℕ). min next (get_or q (at + 22) 0)) is' ∙ ap (min next) (word-back kids ys at e 22 (omega (arith, l)) (omega (arith, m, part-length kids at e c i))) in
        let is : (p : ℕ) → p < 64 → bit p want ≡ true → bit p r ≡ matches ix x (base + p) = λ p b t. a.0.bits p b ∙ ap (λ (y : Bool). y && matches ix x (base + p)) t in
        record {
          g = g;
          left = record {
            zip = zip-next v e (stop-is low v e i) ys m a.1;
            long = u ∙ s.long;
            counts = λ p b t. omega (arith, counted planes planes' carry r u o p (matches ix x (base + p)) (matching ix g (base + p)) s.long (is p b t) (omega (arith, s.counts p b t, matching-few ix ss (base + p), few)), s.counts p b t);
            gap = λ d b t z. s.gap d b (omega (arith, next-is, t)) (ap (λ (y : Bool). cond y 1 0 + matching ix g d) (a.0.gap d b (omega (arith, next-is, t))) ∙ omega (arith, z));
            top = omega (arith, next-is, s.top, a.0.top);
          };
        }

    pub count-took : CountAt ix R k places base want ss kids planes next at → at < length kids → CountAt ix R k places base want ss kids' planes' next' e
    count-took q l = subst (λ (q' : List ℕ). CountAt ix R k places base want ss q' planes' next' e) (sym is') (next-took q.g q.left l)

-- ---- where so many must match
bound-from : (t : Bool) (b : ℕ) → b ≤ cond t (b + 64) b
bound-from true b = omega arith
bound-from false b = omega arith

bound-to : (t : Bool) (b : ℕ) → t ≡ true → b + 64 ≤ cond t (b + 64) b
bound-to true b e = omega arith
bound-to false b e = absurd (false≢true e)

module _ (ix : Index) (R : List ℕ) (k base want : ℕ) (ss : Scorers) (kids : List ℕ) (need : ℕ) where
  -- none was asked
  raised : (D : Places) → ((p : ℕ) → p < 64 → D p ≡ true → ⊥) → AllWindowed ix R ss k kids base base nowhere → AllWindowed ix R ss k kids (optional_bound need (base + 64) base) base D
  raised D h q =
      let b : ℕ = optional_bound need (base + 64) base in
      all-less ix R ss k kids b base nowhere D (λ p l e. absurd (h p l e)) (all-mono ix R ss k kids base base nowhere b (bound-from (ltb 0 need) base) q)

  -- each was
  asked : 0 < need → (D : Places) → ((p : ℕ) → p < 64 → D p ≡ true → bit p want ≡ true) → AllWindowed ix R ss k kids (base + 64) base (places_of want) → AllWindowed ix R ss k kids (optional_bound need (base + 64) base) base D
  asked g D h q =
      let b : ℕ = optional_bound need (base + 64) base in
      all-less ix R ss k kids b base (places_of want) D h (all-mono ix R ss k kids (base + 64) base (places_of want) b (bound-to (ltb 0 need) base (lt-ltb 0 need g)) q)

  nothing-wanted : base + 64 ≤ no_more_docs → want ≡ 0 → AllWindowed ix R ss k kids base base nowhere → Answers (enough ix ss need) base (places_of want) want (base + 64) × AllWindowed ix R ss k kids (optional_bound need (base + 64) base) base (λ p. ltb 0 need && bit p want)
  nothing-wanted small e q =
      let none : (p : ℕ) → bit p want ≡ false = λ p. ap (bit p) e ∙ bit-zero p in (
        record { bits = λ p l. none p ∙ sym (ap (λ (t : Bool). t && enough ix ss need (base + p)) (none p)); gap = λ d a b. absurd (omega (arith, a, b)); top = small },
        raised (λ p. ltb 0 need && bit p want) (λ p l t. false≢true (sym (none p) ∙ (and_parts (ltb 0 need) (bit p want) t).1)) q,
      )

  pub nothing-asked : base + 64 ≤ no_more_docs → (need ≡ 0) ⊎ ((need ≡ 0 → ⊥) × (want ≡ 0)) → AllWindowed ix R ss k kids base base nowhere → Answers (enough ix ss need) base (places_of want) want (base + 64) × AllWindowed ix R ss k kids (optional_bound need (base + 64) base) base (λ p. ltb 0 need && bit p want)
  nothing-asked small (inl e) q = (
    record { bits = λ p l. sym (ap (λ (t : Bool). bit p want && t) (le-leb need (matching ix ss (base + p)) (omega (arith, e))) ∙ and-true (bit p want)); gap = λ d a b. absurd (omega (arith, a, b)); top = small },
    raised (λ p. ltb 0 need && bit p want) (λ p l t. false≢true (sym (ap (ltb 0) e) ∙ (and_parts (ltb 0 need) (bit p want) t).0)) q,
  )
  nothing-asked small (inr e) q = nothing-wanted small e.1 q

  pub too-many : base + 64 ≤ no_more_docs → nodes_of ss < need → AllWindowed ix R ss k kids base base nowhere → Answers (enough ix ss need) base (places_of want) 0 (base + 64) × AllWindowed ix R ss k kids (optional_bound need (base + 64) base) base (λ p. ltb 0 need && bit p 0)
  too-many small h q = (
    record { bits = λ p l. bit-zero p ∙ sym (ap (λ (t : Bool). bit p want && t) (too-few need (matching ix ss (base + p)) (omega (arith, matching-few ix ss (base + p), h))) ∙ and-false (bit p want)); gap = λ d a b. absurd (omega (arith, a, b)); top = small },
    raised (λ p. ltb 0 need && bit p 0) (λ p l t. false≢true (sym (bit-zero p) ∙ (and_parts (ltb 0 need) (bit p 0) t).1)) q,
  )

  pub one-enough : need ≡ 1 → (r next : ℕ) → Answers (any_matches ix ss) base (places_of want) r next × AllWindowed ix R ss k kids (base + 64) base (places_of want) → Answers (enough ix ss need) base (places_of want) r next × AllWindowed ix R ss k kids (optional_bound need (base + 64) base) base (λ p. ltb 0 need && bit p r)
  one-enough e r next q =
      let same : (d : ℕ) → enough ix ss need d ≡ any_matches ix ss d = λ d. ap (λ (n : ℕ). leb n (matching ix ss d)) e ∙ any-one ix ss d in (
        record { bits = λ p l. q.0.bits p l ∙ ap (λ (t : Bool). bit p want && t) (sym (same (base + p))); gap = λ d a b. same d ∙ q.0.gap d a b; top = q.0.top },
        asked (omega (arith, e)) (λ p. ltb 0 need && bit p r) (λ p l t. (and_parts (bit p want) (any_matches ix ss (base + p)) (sym (q.0.bits p l) ∙ (and_parts (ltb 0 need) (bit p r) t).1)).0) q.1,
      )

  counted-bit : (t : Bool) (c m : ℕ) → 0 < need → (t ≡ true → c ≡ m) → (t && ltb (need - 1) c) ≡ (t && leb need m)
  counted-bit false c m g h = refl
  counted-bit true c m g h = ap (ltb (need - 1)) (h refl) ∙ more-than need m g

  pub counted-enough : 0 < need → (planes : List ℕ) (r next : ℕ) → CountsAre ix ss base want (λ p. count p planes) next × AllWindowed ix R ss k kids (base + 64) base (places_of want) → ((p : ℕ) → p < 64 → bit p r ≡ (bit p want && ltb (need - 1) (count p planes))) → Answers (enough ix ss need) base (places_of want) r next × AllWindowed ix R ss k kids (optional_bound need (base + 64) base) base (λ p. ltb 0 need && bit p r)
  counted-enough g planes r next q h = (
    record {
      bits = λ p l. h p l ∙ counted-bit (bit p want) (count p planes) (matching ix ss (base + p)) g (q.0.counts p l);
      gap = λ d a b. ap (leb need) (q.0.gap d a b) ∙ too-few need 0 g;
      top = q.0.top;
    },
    asked g (λ p. ltb 0 need && bit p r) (λ p l t. (and_parts (bit p want) (ltb (need - 1) (count p planes)) (sym (h p l) ∙ (and_parts (ltb 0 need) (bit p r) t).1)).0) q.1,
  )
