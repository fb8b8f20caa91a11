-- What a node without children answers of a window: a term with the postings alone, a range with the range buffer, the others with what they store. Assumes nothing.
use Rattle.std.proofs.Common.{◌≡◌, refl, sym, ap, subst, ◌∙◌, Bool, true, false, ◌&&◌, ⊎_elim, List, ◌++◌, ℕ, ◌+◌, ◌*◌, ◌≤◌, ◌<◌, ltb, length, get_or, le_refl, arith, lt-ltb}
use Rattle.std.proofs.lemmas.Bool.{eqb-false}
use mathlib.Core.Bool.{and-false}
use Rattle.meaning.specs.Limits.{no_more_docs}
use Rattle.meaning.specs.Lent.{Index}
use Rattle.meaning.proofs.Tests.{decided}
use Rattle.tree_weight.specs.ScorerTree.{nothing, term, phrase, range, everything, Scoring, Scorer, leaf, boolean, leaf_matches, matches}
use Rattle.tree_weight.specs.State.{State}
use Rattle.tree_weight.specs.Sound.{LeafSound, Sound}
use Rattle.bits.specs.Bit.{bit, Bitmap}
use Rattle.bits.proofs.Laws.{bit-zero}
use Rattle.scorer_leaf.specs.Calls.{Lists}
use Rattle.scorer_leaf.specs.Search.{SearchHeld}
use Rattle.scorer_leaf.proofs.LeafLaws.{term-run, range-over}
use Rattle.window.specs.Windows.{in_run}
use Rattle.window_words.specs.Windowed.{nowhere, places_of, Stored, LeafWindowed, Windowed}
use Rattle.window_words.proofs.Laws.{kind_of, windowed-kind, windowed-less}
use Rattle.window_leaf.specs.Asks.{Answers, everywhere, Wanted, NodeWindowed}
use Rattle.window_leaf.specs.Runs.{window_at, run_answered, PutPre, PutPost, RunMoved, RunBitsPost}
use Rattle.window_leaf.proofs.Records.{stored-bits, scoring-kept, term-run-like, term-passed, term-window}
use Rattle.window_leaf.proofs.Ranges.{range-answered}

-- ---- what a moved run answers, where it is the documents of P
module _ (words : List ℕ) (stride : ℕ) (s : State) (w : List ℕ) (base r : ℕ) (states' : List ℕ) (m : RunMoved words stride s w base r states') (P : ℕ → Bool) (like : (d : ℕ) → in_run words stride s.first s.number d ≡ P d) where
  next-read : m.next ≡ get_or states' 22 0
  next-read = sym (ap (λ (l : List ℕ). get_or l 22 0) m.words_are)

  pub run-answers : Answers P base everywhere r (get_or states' 22 0)
  run-answers =
      subst (λ (n : ℕ). Answers P base everywhere r n) next-read
      (record {
        bits = λ p h. m.bits p h ∙ like (base + p);
        gap = λ d a b. sym (like d) ∙ m.gap d a b;
        top = m.top;
      })

  pub run-stored : Stored P (window_at s m.cursor m.first r m.next) base everywhere
  run-stored p h e = stored-bits s m.cursor m.first r m.next p ∙ m.bits p h ∙ like (base + p)

-- the wanted ones of an answer for all places
pub wanted-answers : (P : ℕ → Bool) (base want r n v : ℕ) → Answers P base everywhere r n → ((q : ℕ) → bit q v ≡ bit q want && bit q r) → Answers P base (places_of want) v n
wanted-answers P base want r n v a h = record { bits = λ p g. h p ∙ ap (λ (b : Bool). bit p want && b) (a.bits p g); gap = a.gap; top = a.top }

-- of a node that was asked everywhere, the wanted places
pub wanted-windowed : (ix : Index) (R : List ℕ) (s : Scorer) (k o : ℕ) (y : List ℕ) (b base want : ℕ) → Windowed ix R s k o y b base everywhere → Windowed ix R s k o y b base (places_of want)
wanted-windowed ix R s k o y b base want h = windowed-less ix R s k o y b base everywhere (places_of want) (λ p g e. refl) h

module _ (E : Lists) (ix : Index) (places k o : ℕ) (states : List ℕ) (base : ℕ) where
  kind-is : (n : ℕ) → get_or states 0 0 ≡ n → (s : Scorer) → NodeWindowed E ix places s k o states base → kind_of s ≡ n
  kind-is n e s h = sym (windowed-kind ix E.ranges s k o states base base nowhere h.held) ∙ e

  -- the record at the front
  pub node-front : (s : Scorer) → NodeWindowed E ix places s k o states base → PutPre states
  unfolding Windowed
  node-front (leaf l sc) h = (h.held.0, h.held.1, h.held.2)
  node-front (boolean c j need rs os ps) h = (h.held.0, h.held.1 ++ (h.held.2 ++ h.held.3), h.held.4)

  -- ---- a term
  module _ (e : get_or states 0 0 ≡ 1) where
    term-held : (l : ℕ) (sc : Scoring) (h : NodeWindowed E ix places (leaf (term l) sc) k o states base) → (s : State) × (w : List ℕ) × SearchHeld ix.postings 3 s w states base
    unfolding Windowed LeafWindowed Sound LeafSound
    term-held l sc h =
        let p = h.held in
        (p.0, p.1, term-run ix h.lends.accepted 1 l h.sound p.0 base p.4.0 p.1 states p.2)

    pub term-asks : (s : Scorer) → NodeWindowed E ix places s k o states base → (s : State) × (w : List ℕ) × SearchHeld E.postings 3 s w states base
    unfolding kind_of
    term-asks (leaf nothing sc) h = absurd (eqb-false 0 1 refl (kind-is 1 e (leaf nothing sc) h))
    term-asks (leaf (term l) sc) h = subst (λ (y : List ℕ). (s : State) × (w : List ℕ) × SearchHeld y 3 s w states base) h.lends.postings-are (term-held l sc h)
    term-asks (leaf (phrase f ts) sc) h = absurd (eqb-false 2 1 refl (kind-is 1 e (leaf (phrase f ts) sc) h))
    term-asks (leaf (range r) sc) h = absurd (eqb-false 4 1 refl (kind-is 1 e (leaf (range r) sc) h))
    term-asks (leaf everything sc) h = absurd (eqb-false 5 1 refl (kind-is 1 e (leaf everything sc) h))
    term-asks (boolean c j need rs os ps) h = absurd (eqb-false 3 1 refl (kind-is 1 e (boolean c j need rs os ps) h))

    module _ (r : ℕ) (states' : List ℕ) (post : RunBitsPost E.postings 3 states base r states') where
      Answered : Scorer → Type 0
      Answered s = Answers (matches ix s) base everywhere r (get_or states' 22 0) × Windowed ix E.ranges s k o states' (base + 64) base everywhere

      term-leaf : (l : ℕ) (sc : Scoring) → NodeWindowed E ix places (leaf (term l) sc) k o states base → Answered (leaf (term l) sc)
      unfolding Answered Windowed LeafWindowed Sound LeafSound matches leaf_matches
      term-leaf l sc h =
          let p = h.held in
          let acc = h.lends.accepted in
          let own : RunBitsPost ix.postings 3 states base r states' = subst (λ (y : List ℕ). RunBitsPost y 3 states base r states') (sym h.lends.postings-are) post in
          let m = own p.0 p.1 (term-run ix acc 1 l h.sound p.0 base p.4.0 p.1 states p.2) in
          let like = term-run-like ix acc 1 l h.sound p.0 base p.4.0 in (
            run-answers ix.postings 3 p.0 p.1 base r states' m (leaf_matches ix (term l)) like,
            (
              window_at p.0 m.cursor m.first r m.next,
              p.1,
              m.words_are,
              p.3,
              (
                term-passed ix acc 1 l h.sound p.0 base p.4.0 p.1 r states' m,
                p.4.1,
                p.4.2,
                λ q g d. term-window ix acc 1 l h.sound p.0 base p.4.0 p.1 r states' m,
              ),
              scoring-kept sc p.0 m.cursor m.first r m.next p.5,
              run-stored ix.postings 3 p.0 p.1 base r states' m (leaf_matches ix (term l)) like,
            ),
          )

      pub term-answer : (s : Scorer) → NodeWindowed E ix places s k o states base → Answers (matches ix s) base everywhere r (get_or states' 22 0) × Windowed ix E.ranges s k o states' (base + 64) base everywhere
      unfolding kind_of Answered
      term-answer (leaf nothing sc) h = absurd (eqb-false 0 1 refl (kind-is 1 e (leaf nothing sc) h))
      term-answer (leaf (term l) sc) h = term-leaf l sc h
      term-answer (leaf (phrase f ts) sc) h = absurd (eqb-false 2 1 refl (kind-is 1 e (leaf (phrase f ts) sc) h))
      term-answer (leaf (range x) sc) h = absurd (eqb-false 4 1 refl (kind-is 1 e (leaf (range x) sc) h))
      term-answer (leaf everything sc) h = absurd (eqb-false 5 1 refl (kind-is 1 e (leaf everything sc) h))
      term-answer (boolean c j need rs os ps) h = absurd (eqb-false 3 1 refl (kind-is 1 e (boolean c j need rs os ps) h))

  -- ---- a range
  module _ (e : get_or states 0 0 ≡ 4) where
    pub range-asks : (s : Scorer) → NodeWindowed E ix places s k o states base → get_or states 6 0 + get_or states 7 0 ≤ length E.ranges
    unfolding kind_of Windowed LeafWindowed
    range-asks (leaf nothing sc) h = absurd (eqb-false 0 4 refl (kind-is 4 e (leaf nothing sc) h))
    range-asks (leaf (term l) sc) h = absurd (eqb-false 1 4 refl (kind-is 4 e (leaf (term l) sc) h))
    range-asks (leaf (phrase f ts) sc) h = absurd (eqb-false 2 4 refl (kind-is 4 e (leaf (phrase f ts) sc) h))
    range-asks (leaf (range x) sc) h = let p = h.held in rw p.2 p.4.0.there
    range-asks (leaf everything sc) h = absurd (eqb-false 5 4 refl (kind-is 4 e (leaf everything sc) h))
    range-asks (boolean c j need rs os ps) h = absurd (eqb-false 3 4 refl (kind-is 4 e (boolean c j need rs os ps) h))

    module _ (r : ℕ) (states' : List ℕ) (top : base + 64 ≤ no_more_docs) (post : PutPost states r (base + 64) states')
        (part : (P : ℕ → Bool) → Bitmap P E.ranges (get_or states 6 0) (get_or states 7 0) → ((d : ℕ) → 32 * get_or states 7 0 ≤ d → P d ≡ false) → (p : ℕ) → p < 64 → bit p r ≡ P (base + p)) where
      pub range-answer : (s : Scorer) → NodeWindowed E ix places s k o states base → Answers (matches ix s) base everywhere r (get_or states' 22 0) × Windowed ix E.ranges s k o states' (base + 64) base everywhere
      unfolding kind_of Windowed LeafWindowed matches
      range-answer (leaf nothing sc) h = absurd (eqb-false 0 4 refl (kind-is 4 e (leaf nothing sc) h))
      range-answer (leaf (term l) sc) h = absurd (eqb-false 1 4 refl (kind-is 4 e (leaf (term l) sc) h))
      range-answer (leaf (phrase f ts) sc) h = absurd (eqb-false 2 4 refl (kind-is 4 e (leaf (phrase f ts) sc) h))
      range-answer (leaf (range x) sc) h =
          let p = h.held in
          let acc = h.lends.accepted in
          let is = post p.0 p.1 p.2 in
          let front : get_or states 6 0 ≡ p.0.first = rw p.2 in
          let count : get_or states 7 0 ≡ p.0.number = rw p.2 in
          let bits : (q : ℕ) → q < 64 → bit q r ≡ leaf_matches ix (range x) (base + q) = part (leaf_matches ix (range x)) (rw (front, count) p.4.0.bits) (rw count (range-over ix acc E.ranges x p.0 p.4.0)) in (
            subst (λ (n : ℕ). Answers (leaf_matches ix (range x)) base everywhere r n) (sym (ap (λ (l : List ℕ). get_or l 22 0) is)) (record { bits = bits; gap = λ d a b. absurd (omega (arith, a, b)); top = top }),
            (
              run_answered p.0 r (base + 64),
              p.1,
              is,
              p.3,
              (range-answered ix E.ranges x p.0 r (base + 64) p.4.0, p.4.1, p.4.2),
              scoring-kept sc p.0 p.0.cursor p.0.window_first r (base + 64) p.5,
              λ q g d. stored-bits p.0 p.0.cursor p.0.window_first r (base + 64) q ∙ bits q g,
            ),
          )
      range-answer (leaf everything sc) h = absurd (eqb-false 5 4 refl (kind-is 4 e (leaf everything sc) h))
      range-answer (boolean c j need rs os ps) h = absurd (eqb-false 3 4 refl (kind-is 4 e (boolean c j need rs os ps) h))

  -- ---- everything: the wanted documents are there
  module _ (e : get_or states 0 0 ≡ 5) (want : ℕ) (states' : List ℕ) (top : base + 64 ≤ no_more_docs) (all : Wanted E.documents base want) (post : PutPost states want (base + 64) states') where
    wanted-there : ix.max_doc ≡ E.documents → (p : ℕ) → p < 64 → bit p want ≡ true → ltb (base + p) ix.max_doc ≡ true
    wanted-there n p h g = lt-ltb (base + p) ix.max_doc (omega (arith, n, all p h g))

    wanted-bits : ix.max_doc ≡ E.documents → (p : ℕ) → p < 64 → bit p want ≡ bit p want && ltb (base + p) ix.max_doc
    wanted-bits n p h =
        ⊎_elim (λ g. g ∙ sym (ap (λ (b : Bool). b && ltb (base + p) ix.max_doc) g ∙ wanted-there n p h g)) (λ g. g ∙ sym (ap (λ (b : Bool). b && ltb (base + p) ix.max_doc) g)) (decided (bit p want))

    pub all-answer : (s : Scorer) → NodeWindowed E ix places s k o states base → Answers (matches ix s) base (places_of want) want (get_or states' 22 0) × Windowed ix E.ranges s k o states' (base + 64) base (places_of want)
    unfolding kind_of Windowed LeafWindowed matches leaf_matches
    all-answer (leaf nothing sc) h = absurd (eqb-false 0 5 refl (kind-is 5 e (leaf nothing sc) h))
    all-answer (leaf (term l) sc) h = absurd (eqb-false 1 5 refl (kind-is 5 e (leaf (term l) sc) h))
    all-answer (leaf (phrase f ts) sc) h = absurd (eqb-false 2 5 refl (kind-is 5 e (leaf (phrase f ts) sc) h))
    all-answer (leaf (range x) sc) h = absurd (eqb-false 4 5 refl (kind-is 5 e (leaf (range x) sc) h))
    all-answer (leaf everything sc) h =
        let p = h.held in
        let n = h.lends.documents in
        let is = post p.0 p.1 p.2 in (
          subst (λ (x : ℕ). Answers (leaf_matches ix everything) base (places_of want) want x) (sym (ap (λ (l : List ℕ). get_or l 22 0) is))
              (record { bits = wanted-bits n; gap = λ d a b. absurd (omega (arith, a, b)); top = top }),
          (
            run_answered p.0 want (base + 64),
            p.1,
            is,
            p.3,
            p.4,
            scoring-kept sc p.0 p.0.cursor p.0.window_first want (base + 64) p.5,
            λ q g d. stored-bits p.0 p.0.cursor p.0.window_first want (base + 64) q ∙ d ∙ sym (wanted-there n q g d),
          ),
        )
    all-answer (boolean c j need rs os ps) h = absurd (eqb-false 3 5 refl (kind-is 5 e (boolean c j need rs os ps) h))

  -- ---- nothing
  module _ (n1 : get_or states 0 0 ≡ 1 → ⊥) (n2 : get_or states 0 0 ≡ 2 → ⊥) (n3 : get_or states 0 0 ≡ 3 → ⊥) (n4 : get_or states 0 0 ≡ 4 → ⊥) (n5 : get_or states 0 0 ≡ 5 → ⊥) (want : ℕ) (states' : List ℕ) (post : PutPost states 0 no_more_docs states') where
    kind-read : (s : Scorer) → NodeWindowed E ix places s k o states base → get_or states 0 0 ≡ kind_of s
    kind-read s h = windowed-kind ix E.ranges s k o states base base nowhere h.held

    pub none-answer : (s : Scorer) → NodeWindowed E ix places s k o states base → Answers (matches ix s) base (places_of want) 0 (get_or states' 22 0) × Windowed ix E.ranges s k o states' (base + 64) base (places_of want)
    unfolding kind_of Windowed LeafWindowed matches leaf_matches
    none-answer (leaf nothing sc) h =
        let p = h.held in
        let is = post p.0 p.1 p.2 in (
          subst (λ (x : ℕ). Answers (leaf_matches ix nothing) base (places_of want) 0 x) (sym (ap (λ (l : List ℕ). get_or l 22 0) is))
              (record { bits = λ q g. bit-zero q ∙ sym (and-false (bit q want)); gap = λ d a b. refl; top = le_refl no_more_docs }),
          (
            run_answered p.0 0 no_more_docs,
            p.1,
            is,
            p.3,
            p.4,
            scoring-kept sc p.0 p.0.cursor p.0.window_first 0 no_more_docs p.5,
            λ q g d. stored-bits p.0 p.0.cursor p.0.window_first 0 no_more_docs q ∙ bit-zero q,
          ),
        )
    none-answer (leaf (term l) sc) h = absurd (n1 (kind-read (leaf (term l) sc) h))
    none-answer (leaf (phrase f ts) sc) h = absurd (n2 (kind-read (leaf (phrase f ts) sc) h))
    none-answer (leaf (range x) sc) h = absurd (n4 (kind-read (leaf (range x) sc) h))
    none-answer (leaf everything sc) h = absurd (n5 (kind-read (leaf everything sc) h))
    none-answer (boolean c j need rs os ps) h = absurd (n3 (kind-read (boolean c j need rs os ps) h))
