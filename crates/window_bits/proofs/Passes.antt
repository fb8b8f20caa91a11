-- The required children, asked in two passes: the loop of a pass. Assumes nothing.
use Rattle.std.proofs.Common.{◌≡◌, refl, sym, ap, ◌∙◌, subst, inl, inr, ⊎_elim, Bool, true, false, not, cond, ◌&&◌, ◌||◌, List, ◌++◌, ℕ, ◌+◌, ◌-◌, ◌≤◌, ◌<◌, max, eqb, length, get_or, take, drop, arith, le_refl}
use Rattle.std.proofs.lemmas.Bool.{false≢true, true≢false, not-true, and_parts, and_from, and_left, and_right, cases_lt}
use mathlib.Core.Bool.{and-true, and_assoc}
use Rattle.meaning.specs.Limits.{no_more_docs}
use Rattle.meaning.specs.Lent.{Index}
use Rattle.bits.specs.Bit.{bit}
use Rattle.bits.proofs.Laws.{bit-zero}
use Rattle.tree_weight.specs.ScorerTree.{Scorer, Scorers, end, more, matches}
use Rattle.tree_weight.specs.Sound.{Lends, Sounds, nodes_of}
use Rattle.scorer_leaf.specs.declared.PhraseBuffers.{PhraseBuffers}
use Rattle.scorer_leaf.specs.Calls.{lists}
use Rattle.scorer_leaf.specs.Buffers.{room, other_room, SameBuffers}
use Rattle.tree_node.specs.Words.{ChildThere}
use Rattle.window_words.specs.Windowed.{Places, nowhere, places_of, Windowed, AllWindowed}
use Rattle.window_words.proofs.Laws.{windowed-less, windowed-mono, kind_of}
use Rattle.window_words.proofs.Parts.{Part, Each, all-each, each-all, each-map, Zip, zip-start, zip-none, zip-end, zip-stop, zip-front-map, view, zip-next, zip-skip}
use Rattle.window_leaf.specs.Asks.{Answers, NodeAnswers, BitsPre}
use Rattle.window_bits.specs.Parts.{is_phrase, asked_before, asked_by, asked_after, all_of, asks_all, Through, SomeWindowed, Called}
use Rattle.window_bits.proofs.Matching.{phrase-kind}
use Rattle.window_bits.proofs.Children.{AndKnown, each-known, Low, Fresh, child-there, ask-node, stop-is, kind-read, child-facts, child-held, part-length, word-back}

-- ---- the parts, of which those of a kind were asked
abbrev pub SomeAsked : (Scorer → Bool) → Index → List ℕ → ℕ → ℕ → Places → Part
SomeAsked A ix R k base D f s y = Windowed ix R s k (cond f 1 0) y (cond (A s) (base + 64) base) base (λ p. A s && D p)

pub some-each : (A : Scorer → Bool) (ix : Index) (R : List ℕ) (ss : Scorers) (k : ℕ) (w : List ℕ) (base : ℕ) (D : Places) → SomeWindowed A ix R ss k w base D → Each (SomeAsked A ix R k base D) ss w
unfolding SomeWindowed Each
some-each A ix R end k w base D p = p
some-each A ix R (more f s ss) k w base D p = (p.0, p.1, p.2, p.3, some-each A ix R ss k p.1 base D p.4)

pub each-some : (A : Scorer → Bool) (ix : Index) (R : List ℕ) (ss : Scorers) (k : ℕ) (w : List ℕ) (base : ℕ) (D : Places) → Each (SomeAsked A ix R k base D) ss w → SomeWindowed A ix R ss k w base D
unfolding SomeWindowed Each
each-some A ix R end k w base D p = p
each-some A ix R (more f s ss) k w base D p = (p.0, p.1, p.2, p.3, each-some A ix R ss k p.1 base D p.4)

bound-up : (t u : Bool) (e b : ℕ) → b ≤ e → (t ≡ true → u ≡ true) → cond t e b ≤ cond u e b
bound-up true true e b h i = le_refl e
bound-up true false e b h i = absurd (false≢true (i refl))
bound-up false true e b h i = h
bound-up false false e b h i = le_refl b

module _ (ix : Index) (R : List ℕ) (k base : ℕ) where
  -- more of them count as asked, at fewer places
  pub some-some : (A B : Scorer → Bool) (D D' : Places) (f : Bool) (s : Scorer) (y : List ℕ) → (A s ≡ true → B s ≡ true) → ((p : ℕ) → p < 64 → (B s && D' p) ≡ true → (A s && D p) ≡ true) → SomeAsked A ix R k base D f s y → SomeAsked B ix R k base D' f s y
  some-some A B D D' f s y i j q =
      let a : ℕ = cond (A s) (base + 64) base in
      let b : ℕ = cond (B s) (base + 64) base in
      windowed-less ix R s k (cond f 1 0) y b base (λ p. A s && D p) (λ p. B s && D' p) j (windowed-mono ix R s k (cond f 1 0) y a base (λ p. A s && D p) b (bound-up (A s) (B s) (base + 64) base (omega arith) i) q)

  -- one that was asked
  pub asked-some : (B : Scorer → Bool) (D D' : Places) (f : Bool) (s : Scorer) (y : List ℕ) → B s ≡ true → ((p : ℕ) → p < 64 → D' p ≡ true → D p ≡ true) → Windowed ix R s k (cond f 1 0) y (base + 64) base D → SomeAsked B ix R k base D' f s y
  asked-some B D D' f s y i j q =
      let b : ℕ = cond (B s) (base + 64) base in
      let up : base + 64 ≤ b = rw i (le_refl (base + 64)) in
      windowed-less ix R s k (cond f 1 0) y b base D (λ p. B s && D' p) (λ p l e. j p l (and_parts (B s) (D' p) e).1) (windowed-mono ix R s k (cond f 1 0) y (base + 64) base D b up q)

  -- one that was not
  pub some-fresh : (A : Scorer → Bool) (D : Places) (f : Bool) (s : Scorer) (y : List ℕ) → A s ≡ false → SomeAsked A ix R k base D f s y → Windowed ix R s k (cond f 1 0) y base base nowhere
  some-fresh A D f s y i q =
      let a : ℕ = cond (A s) (base + 64) base in
      let up : a ≤ base = rw i (le_refl base) in
      windowed-less ix R s k (cond f 1 0) y base base (λ p. A s && D p) nowhere (λ p l e. absurd (false≢true e)) (windowed-mono ix R s k (cond f 1 0) y a base (λ p. A s && D p) base up q)

  pub some-low : (A : Scorer → Bool) (D : Places) → Low ix R k base (SomeAsked A ix R k base D)
  some-low A D =
      record {
        low = λ f s y q.
            let a : ℕ = cond (A s) (base + 64) base in
            windowed-less ix R s k (cond f 1 0) y (base + 64) base (λ p. A s && D p) nowhere (λ p l e. absurd (false≢true e)) (windowed-mono ix R s k (cond f 1 0) y a base (λ p. A s && D p) (base + 64) (bound-up (A s) true (base + 64) base (omega arith) (λ e. refl)) q);
      }

  -- before the first pass, between the two, and after the second
  pub before-first : (ss : Scorers) (w : List ℕ) (D : Places) → AllWindowed ix R ss k w base base nowhere → SomeWindowed (asked_before false) ix R ss k w base D
  before-first ss w D q = each-some (asked_before false) ix R ss k w base D (all-each ix R ss k w base base nowhere q)

  pub between : (ss : Scorers) (w : List ℕ) (D D' : Places) → ((p : ℕ) → p < 64 → D' p ≡ true → D p ≡ true) → SomeWindowed (asked_after false) ix R ss k w base D → SomeWindowed (asked_before true) ix R ss k w base D'
  between ss w D D' h q =
      each-some (asked_before true) ix R ss k w base D' (each-map (λ f s y. some-some (asked_after false) (asked_before true) D D' f s y (λ e. e) (λ p l e. let t = and_parts (not (is_phrase s)) (D' p) e in and_from (not (is_phrase s)) (D p) t.0 (h p l t.1))) ss w (some-each (asked_after false) ix R ss k w base D q))

  pub after-last : (ss : Scorers) (w : List ℕ) (D : Places) → SomeWindowed (asked_after true) ix R ss k w base D → AllWindowed ix R ss k w (base + 64) base D
  after-last ss w D q = each-all ix R ss k w (base + 64) base D (some-each (asked_after true) ix R ss k w base D q)

before-after : (last q : Bool) → (last && q) ≡ true → (last || q) ≡ true
before-after true q e = refl
before-after false q e = absurd (false≢true e)

-- ---- the second pass where it has nothing to ask
module _ (ix : Index) (R : List ℕ) (k base want : ℕ) where
  -- no child is a phrase
  no-phrase : (ss : Scorers) → asks_all false ss ≡ true → (d : ℕ) → all_of (asked_by true) ix ss d ≡ true
  unfolding asks_all all_of
  no-phrase end h d = refl
  no-phrase (more f s ss) h d =
      let u = and_parts (not (is_phrase s)) (asks_all false ss) h in
      ap (λ (t : Bool). cond t (matches ix s d) true && all_of (asked_by true) ix ss d) (not-true (is_phrase s) u.0) ∙ no-phrase ss u.1 d

  all-asked : (ss : Scorers) (w : List ℕ) → asks_all false ss ≡ true → SomeWindowed (asked_before true) ix R ss k w base (places_of want) → SomeWindowed (asked_after true) ix R ss k w base (places_of want)
  unfolding asks_all SomeWindowed
  all-asked end w h q = q
  all-asked (more f s ss) w h q =
      let u = and_parts (not (is_phrase s)) (asks_all false ss) h in
      (q.0, q.1, q.2, some-some ix R k base (asked_before true) (asked_after true) (places_of want) (places_of want) f s q.0 (λ e. refl) (λ p l e. and_from (not (is_phrase s)) (bit p want) u.0 e) q.3, all-asked ss q.1 u.1 q.4)

  pub pass-through : (ss : Scorers) (kids : List ℕ) → base + 64 ≤ no_more_docs → Through false ss want → SomeWindowed (asked_before true) ix R ss k kids base (places_of want) → Answers (all_of (asked_by true) ix ss) base (places_of want) want (base + 64) × SomeWindowed (asked_after true) ix R ss k kids base (places_of want)
  pass-through ss kids small (inl none) q = (
    record { bits = λ p l. none p l ∙ sym (and_left (bit p want) (all_of (asked_by true) ix ss (base + p)) (none p l)); gap = λ d a b. absurd (omega (arith, a, b)); top = small },
    each-some (asked_after true) ix R ss k kids base (places_of want) (each-map (λ f s y. some-some ix R k base (asked_before true) (asked_after true) (places_of want) (places_of want) f s y (before-after true (not (is_phrase s))) (λ p l t. absurd (false≢true (sym (none p l) ∙ t)))) ss kids (some-each (asked_before true) ix R ss k kids base (places_of want) q)),
  )
  pass-through ss kids small (inr h) q = (
    record { bits = λ p l. sym (and-true (bit p want)) ∙ ap (λ (t : Bool). bit p want && t) (sym (no-phrase ss h (base + p))); gap = λ d a b. absurd (omega (arith, a, b)); top = small },
    all-asked ss kids h q,
  )

-- ---- whether a child is asked, by its kind
by-kind : (s : Scorer) (kind : ℕ) (t : Bool) → kind_of s ≡ kind → eqb kind 2 ≡ t → is_phrase s ≡ t
by-kind s kind t e h = phrase-kind s ∙ ap (λ (n : ℕ). eqb n 2) e ∙ h

asked-not-before : (last : Bool) → (last && not last) ≡ false
asked-not-before true = refl
asked-not-before false = refl

asked_by_lem : (last : Bool) → cond last last (not last) ≡ true
asked_by_lem true = refl
asked_by_lem false = refl

asked-after : (last : Bool) → (last || not last) ≡ true
asked-after true = refl
asked-after false = refl

passed_by : (last : Bool) → cond last (not last) (not (not last)) ≡ false
passed_by true = refl
passed_by false = refl

same-sides : (last : Bool) → (last || not (not last)) ≡ (last && not (not last))
same-sides true = refl
same-sides false = refl

-- ---- the loop
pub record PassLeft (ix : Index) (R : List ℕ) (k places : ℕ) (last : Bool) (base want : ℕ) (ss : Scorers) (kids : List ℕ) (w next at : ℕ) (skip : Bool) (g : Scorers) : Type 0 where
  pub zip : Zip (AndKnown ix places (SomeAsked (asked_before last) ix R k base (places_of want))) (SomeAsked (asked_after last) ix R k base (places_of w)) ss g kids at
  pub within : (p : ℕ) → p < 64 → bit p w ≡ true → bit p want ≡ true
  pub bits : (p : ℕ) → p < 64 → (bit p w && all_of (asked_by last) ix g (base + p)) ≡ (bit p want && all_of (asked_by last) ix ss (base + p))
  pub under : (d : ℕ) → all_of (asked_by last) ix g d ≡ false → all_of (asked_by last) ix ss d ≡ false
  pub gap : (d : ℕ) → base + 64 ≤ d → d < next → all_of (asked_by last) ix ss d ≡ false
  pub top : next ≤ no_more_docs
  pub none-skipped : skip ≡ false → asks_all last g ≡ true → asks_all last ss ≡ true

pub record PassAt (ix : Index) (R : List ℕ) (k places : ℕ) (last : Bool) (base want : ℕ) (ss : Scorers) (kids : List ℕ) (w next at : ℕ) (skip : Bool) : Type 0 where
  pub g : Scorers
  pub left : PassLeft ix R k places last base want ss kids w next at skip g

pub pass-start : {ix : Index} {R : List ℕ} {k places : ℕ} {last : Bool} {base want : ℕ} {ss : Scorers} {kids : List ℕ} → base + 64 ≤ no_more_docs → Sounds ix places ss → nodes_of ss ≤ 255 → SomeWindowed (asked_before last) ix R ss k kids base (places_of want) → PassAt ix R k places last base want ss kids want (base + 64) 0 false
pass-start {ix} {R} {k} {places} {last} {base} {want} {ss} {kids} small h n q =
    record {
      g = ss;
      left = record {
        zip = zip-start (each-known (SomeAsked (asked_before last) ix R k base (places_of want)) ix places ss kids h n (some-each (asked_before last) ix R ss k kids base (places_of want) q));
        within = λ p l e. e;
        bits = λ p l. refl;
        under = λ d e. e;
        gap = λ d a b. absurd (omega (arith, a, b));
        top = small;
        none-skipped = λ z t. t;
      };
    }

-- a child of a pass's kind is not asked before it
pub pass-fresh : (ix : Index) (R : List ℕ) (k base : ℕ) (last : Bool) (want kind : ℕ) → eqb kind 2 ≡ last → Fresh ix R k base kind (SomeAsked (asked_before last) ix R k base (places_of want))
pass-fresh ix R k base last want kind h = record { fresh = λ f s y e q. some-fresh ix R k base (asked_before last) (places_of want) f s y (ap (λ (t : Bool). last && not t) (by-kind s kind last e h) ∙ asked-not-before last) q }

module _ {ix : Index} {R : List ℕ} {k places : ℕ} {last : Bool} {base want : ℕ} {ss : Scorers} {kids : List ℕ} {w next at : ℕ} {skip : Bool} where
  -- nothing is wanted any more: the others are not asked
  pub pass-stop : PassAt ix R k places last base want ss kids w next at skip → w ≡ 0 → Answers (all_of (asked_by last) ix ss) base (places_of want) w next × SomeWindowed (asked_after last) ix R ss k kids base (places_of w) × Through last ss w
  pass-stop q e =
      let none : (p : ℕ) → bit p w ≡ false = λ p. ap (bit p) e ∙ bit-zero p in
      let s = q.left in (
        record { bits = λ p l. none p ∙ sym (sym (s.bits p l) ∙ and_left (bit p w) (all_of (asked_by last) ix q.g (base + p)) (none p)); gap = s.gap; top = s.top },
        each-some (asked_after last) ix R ss k kids base (places_of w) (zip-stop (λ f x y h. some-some ix R k base (asked_before last) (asked_after last) (places_of want) (places_of w) f x y (before-after last (not (is_phrase x))) (λ p l t. absurd (false≢true (sym (and_right (asked_after last x) (bit p w) (none p)) ∙ t))) h.1) s.zip),
        inl (λ p l. none p),
      )

  ended : (g : Scorers) → PassLeft ix R k places last base want ss kids w next at skip g → length kids ≤ at → Answers (all_of (asked_by last) ix ss) base (places_of want) w next × SomeWindowed (asked_after last) ix R ss k kids base (places_of w) × (skip ≡ false → Through last ss w)
  unfolding all_of asks_all
  ended end s l = (record { bits = λ p h. sym (and-true (bit p w)) ∙ s.bits p h; gap = s.gap; top = s.top }, each-some (asked_after last) ix R ss k kids base (places_of w) (zip-end s.zip), λ z. inr (s.none-skipped z refl))
  ended (more f x g) s l =
      let v = view s.zip in
      let c = child-facts (some-low ix R k base (asked_before last) (places_of want)) v in
      absurd (omega (arith, c.long, c.fits, l))

  pub pass-end : PassAt ix R k places last base want ss kids w next at skip → length kids ≤ at → Answers (all_of (asked_by last) ix ss) base (places_of want) w next × SomeWindowed (asked_after last) ix R ss k kids base (places_of w) × (skip ≡ false → Through last ss w)
  pass-end q l = ended q.g q.left l

  pub pass-there : PassAt ix R k places last base want ss kids w next at skip → at < length kids → ChildThere kids at
  pass-there q l = child-there (some-low ix R k base (asked_before last) (places_of want)) q.g q.left.zip l

  module _ {e : ℕ} (i : e ≡ at + get_or kids (at + 1) 0) where
    -- what a call of this pass asks
    module _ {postings positions : List ℕ} {n : ℕ} (lends : Lends ix n postings positions) (q : PassAt ix R k places last base want ss kids w next at skip) (l : at < length kids) (h : eqb (get_or kids at 0) 2 ≡ last) where
      pub pass-node : {b b' : PhraseBuffers} → Called (lists n postings positions R) places (room b) (other_room b) base want → SameBuffers b b' → (v : ℕ) → ((p : ℕ) → p < 64 → bit p v ≡ true → bit p want ≡ true) → BitsPre (lists n postings positions R) (room b') (other_room b') (take (e - at) (drop at kids)) base v k
      pass-node called s v within = ask-node (some-low ix R k base (asked_before last) (places_of want)) postings positions n called lends (get_or kids at 0) (pass-fresh ix R k base last want (get_or kids at 0) h) q.g q.left.zip l e i refl _ _ v s.starts_length s.other_starts_length within

    skipped : (g : Scorers) → PassLeft ix R k places last base want ss kids w next at skip g → at < length kids → eqb (get_or kids at 0) 2 ≡ not last → PassAt ix R k places last base want ss kids w next e true
    unfolding all_of
    skipped end s l h = absurd (omega (arith, zip-none s.zip, l))
    skipped (more f x g) s l h =
        let v = view s.zip in
        let low = some-low ix R k base (asked_before last) (places_of want) in
        let ph : is_phrase x ≡ not last = by-kind x (get_or kids at 0) (not last) (kind-read low v) h in
        let no : asked_by last x ≡ false = ap (λ (t : Bool). cond last t (not t)) ph ∙ passed_by last in
        let same : asked_after last x ≡ asked_before last x = ap (λ (t : Bool). last || not t) ph ∙ same-sides last ∙ sym (ap (λ (t : Bool). last && not t) ph) in
        let one : (d : ℕ) → all_of (asked_by last) ix (more f x g) d ≡ all_of (asked_by last) ix g d = λ d. ap (λ (t : Bool). cond t (matches ix x d) true && all_of (asked_by last) ix g d) no in
        record {
          g = g;
          left = record {
            zip = zip-skip v e (stop-is low v e i) (some-some ix R k base (asked_before last) (asked_after last) (places_of want) (places_of w) f x v.y (before-after last (not (is_phrase x))) (λ p b t. let u = and_parts (asked_after last x) (bit p w) t in and_from (asked_before last x) (bit p want) (sym same ∙ u.0) (s.within p b u.1)) v.part-is.1);
            within = s.within;
            bits = λ p b. ap (λ (t : Bool). bit p w && t) (sym (one (base + p))) ∙ s.bits p b;
            under = λ d t. s.under d (one d ∙ t);
            gap = s.gap;
            top = s.top;
            none-skipped = λ z. absurd (true≢false z);
          };
        }

    pub pass-skip : PassAt ix R k places last base want ss kids w next at skip → at < length kids → eqb (get_or kids at 0) 2 ≡ not last → PassAt ix R k places last base want ss kids w next e true
    pass-skip q l h = skipped q.g q.left l h

    module _ {postings positions : List ℕ} {n : ℕ} (lends : Lends ix n postings positions) (r : ℕ) (ys : List ℕ) {next' : ℕ} (m : length ys ≡ length (take (e - at) (drop at kids))) {kids' : List ℕ} (is : kids' ≡ take at kids ++ (ys ++ drop (e - at) (drop at kids))) (j : next' ≡ max next (get_or kids' (at + 22) 0)) (ans : NodeAnswers (lists n postings positions R) (take (e - at) (drop at kids)) base (places_of w) k r ys) where
      took : (g : Scorers) → PassLeft ix R k places last base want ss kids w next at skip g → at < length kids → eqb (get_or kids at 0) 2 ≡ last → PassAt ix R k places last base want ss (take at kids ++ (ys ++ drop (e - at) (drop at kids))) r next' e skip
      unfolding all_of asks_all
      took end s l h = absurd (omega (arith, zip-none s.zip, l))
      took (more f x g) s l h =
          let v = view s.zip in
          let low = some-low ix R k base (asked_before last) (places_of want) in
          let c : ChildThere kids at = child-facts low v in
          let ph : is_phrase x ≡ last = by-kind x (get_or kids at 0) last (kind-read low v) h in
          let yes : asked_by last x ≡ true = ap (λ (t : Bool). cond last t (not t)) ph ∙ asked_by_lem last in
          let after : asked_after last x ≡ true = ap (λ (t : Bool). last || not t) ph ∙ asked-after last in
          let held = child-held low v postings positions n lends (get_or kids at 0) (pass-fresh ix R k base last want (get_or kids at 0) h) e i refl in
          let a = ans ix places x (cond f 1 0) held in
          let among : (p : ℕ) → p < 64 → bit p r ≡ true → bit p w ≡ true = λ p b t. (and_parts (bit p w) (matches ix x (base + p)) (sym (a.0.bits p b) ∙ t)).0 in
          let next-is : next' ≡ max next (get_or ys 22 0) = j ∙ ap (λ (q : List ℕ). max next (get_or q (at + 22) 0)) is ∙ ap (max next) (word-back kids ys at e 22 (omega (arith, l)) (omega (arith, m, part-length kids at e c i))) in
          let one : (d : ℕ) → all_of (asked_by last) ix (more f x g) d ≡ (matches ix x d && all_of (asked_by last) ix g d) = λ d. ap (λ (t : Bool). cond t (matches ix x d) true && all_of (asked_by last) ix g d) yes in
          record {
            g = g;
            left = record {
              zip = zip-front-map (λ f' s' y'. some-some ix R k base (asked_after last) (asked_after last) (places_of w) (places_of r) f' s' y' (λ t. t) (λ p b t. let u = and_parts (asked_after last s') (bit p r) t in and_from (asked_after last s') (bit p w) u.0 (among p b u.1))) (zip-next v e (stop-is low v e i) ys m (asked-some ix R k base (asked_after last) (places_of w) (places_of w) f x ys after (λ p b t. t) a.1));
              within = λ p b t. s.within p b (among p b t);
              bits = λ p b. ap (λ (t : Bool). t && all_of (asked_by last) ix g (base + p)) (a.0.bits p b) ∙ and_assoc (bit p w) (matches ix x (base + p)) (all_of (asked_by last) ix g (base + p)) ∙ ap (λ (t : Bool). bit p w && t) (sym (one (base + p))) ∙ s.bits p b;
              under = λ d t. s.under d (one d ∙ and_right (matches ix x d) (all_of (asked_by last) ix g d) t);
              gap = λ d b t. ⊎_elim (λ o. s.gap d b o) (λ o. s.under d (one d ∙ and_left (matches ix x d) (all_of (asked_by last) ix g d) (a.0.gap d b (omega (arith, next-is, t, o))))) (cases_lt d next);
              top = omega (arith, next-is, s.top, a.0.top);
              none-skipped = λ z t. s.none-skipped z (and_from (asked_by last x) (asks_all last g) yes t);
            };
          }

      pub pass-took : PassAt ix R k places last base want ss kids w next at skip → at < length kids → eqb (get_or kids at 0) 2 ≡ last → PassAt ix R k places last base want ss kids' r next' e skip
      pass-took q l h = subst (λ (q' : List ℕ). PassAt ix R k places last base want ss q' r next' e skip) (sym is) (took q.g q.left l h)
