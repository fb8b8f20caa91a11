-- What the words of a node's part say of its scorer while it is asked window by window, a window being 64 documents.
-- Assumes nothing: these are definitions.
use Rattle.std.specs.Prelude.{◌≡◌, Bool, true, false, cond, ◌&&◌, List, [], ◌∷◌, ◌++◌, ℕ, suc, ◌+◌, ◌-◌, ◌*◌, ◌≤◌, ◌<◌, min, ltb}
use Rattle.meaning.specs.Limits.{no_more_docs, node_state_words}
use Rattle.meaning.specs.Lent.{Index, leaf_number, leaf_document}
use Rattle.meaning.specs.Postings.{posting_at, found}
use Rattle.meaning.specs.Phrase.{PhraseTerm, phrase_frequency}
use Rattle.bits.specs.Bit.{bit}
use Rattle.tree_weight.specs.ScorerTree.{Leaf, nothing, term, phrase, range, everything, Scorer, leaf, boolean, Scorers, end, more, leaf_matches, matches}
use Rattle.tree_weight.specs.State.{State, words_of, leaf_size}
use Rattle.tree_weight.specs.Held.{norms_word, TermIs, RangeIs, ScoringIs, BooleanIs}

-- some of a window's 64 places; none of them
abbrev pub Places : Type 0
Places = ℕ → Bool

abbrev pub nowhere : Places
nowhere p = false

-- the places whose bit is set in a word
abbrev pub places_of : ℕ → Places
places_of w p = bit p w

-- a word that stands in two
abbrev pub two_words : ℕ → ℕ → ℕ
two_words low high = low + 4294967296 * high

-- the documents of the window, as the record has them
abbrev pub window_bits : State → ℕ
window_bits s = two_words s.window_low s.window_high

-- at the asked places, the record's bits are the documents that P takes
abbrev pub Stored : (ℕ → Bool) → State → ℕ → Places → Type 0
Stored P s base D = (p : ℕ) → p < 64 → D p ≡ true → bit p (window_bits s) ≡ P (base + p)

-- the postings from `window_first` to the cursor are those of the window, and its bits their documents
pub record TermWindow (ix : Index) (l : ℕ) (s : State) (base : ℕ) : Type 0 where
  pub first-within : s.window_first ≤ s.cursor
  pub within : s.cursor ≤ leaf_number ix l
  pub before : (i : ℕ) → i < s.window_first → leaf_document ix l i < base
  pub from : (i : ℕ) → s.window_first ≤ i → i < leaf_number ix l → base ≤ leaf_document ix l i
  pub inside : (i : ℕ) → i < s.cursor → leaf_document ix l i < base + 64
  pub ahead : (i : ℕ) → s.cursor ≤ i → i < leaf_number ix l → base + 64 ≤ leaf_document ix l i
  pub bits : (p : ℕ) → p < 64 → bit p (window_bits s) ≡ found (posting_at ix l (base + p))

-- where a place was asked, the term's window stands in its record
abbrev pub TermAsked : Index → ℕ → State → ℕ → Places → Type 0
TermAsked ix l s base D = (p : ℕ) → p < 64 → D p ≡ true → TermWindow ix l s base

-- the records of a phrase's terms
unfoldable pub TermsWindowed : Index → List PhraseTerm → List ℕ → ℕ → ℕ → Places → Type 0
TermsWindowed ix [] w b base D = w ≡ []
TermsWindowed ix (t ∷ ts) w b base D =
    (s : State) × (w' : List ℕ) × (w ≡ words_of s ++ w') × TermIs ix 9 t.leaf s b × (s.offset ≡ t.offset)
    × TermAsked ix t.leaf s base D × TermsWindowed ix ts w' b base D

-- the places where a phrase was asked and stands
abbrev pub phrase_places : Index → List PhraseTerm → ℕ → Places → Places
phrase_places ix ts base D p = D p && ltb 0 (phrase_frequency ix ts (base + p))

-- a frequency as its two planes have it: 3 stands for 3 and more
abbrev pub planed_frequency : State → ℕ → ℕ
planed_frequency s p =
    cond (bit p (two_words s.ones_low s.ones_high)) 1 0 + 2 * cond (bit p (two_words s.twos_low s.twos_high)) 1 0

-- the words of a phrase, w those of its terms
pub record PhraseWindowed (ix : Index) (f : ℕ) (ts : List PhraseTerm) (s : State) (w : List ℕ) (b base : ℕ)
    (D : Places) : Type 0 where
  pub kind-is : s.kind ≡ 2
  pub size_is : s.size ≡ leaf_size (phrase f ts)
  pub field_is : s.field ≡ f
  pub norms-is : s.norms ≡ norms_word ix f
  pub terms : TermsWindowed ix ts w b base (phrase_places ix ts base D)
  pub frequencies : (p : ℕ) → p < 64 → D p ≡ true → planed_frequency s p ≡ min 3 (phrase_frequency ix ts (base + p))
  -- the frequency that was last worked out
  pub worked-out : (d : ℕ) → s.frequency_of ≡ suc d → s.frequency ≡ phrase_frequency ix ts d

-- the words of a leaf, w those after its record, but for its scoring: its cursors have passed only documents below b,
-- and D are the places that were asked of the window at base
unfoldable pub LeafWindowed : Index → List ℕ → Leaf → State → List ℕ → ℕ → ℕ → Places → Type 0
LeafWindowed ix ranges nothing s w b base D =
    (s.kind ≡ 0) × (s.size ≡ node_state_words) × (s.cached ≡ suc no_more_docs) × (w ≡ [])
LeafWindowed ix ranges (term l) s w b base D = TermIs ix 1 l s b × (s.cached ≡ 0) × (w ≡ []) × TermAsked ix l s base D
LeafWindowed ix ranges (phrase f ts) s w b base D = PhraseWindowed ix f ts s w b base D × (s.cached ≡ 0)
LeafWindowed ix ranges (range r) s w b base D = RangeIs ix ranges r s × (s.cached ≡ 0) × (w ≡ [])
LeafWindowed ix ranges everything s w b base D = (s.kind ≡ 5) × (s.size ≡ node_state_words) × (s.cached ≡ 0) × (w ≡ [])

-- the places of a Boolean's required children that its score needs
abbrev pub required_places : Index → Scorer → ℕ → Places → Places
required_places ix s base D p = D p && matches ix s (base + p)

-- those of its optional children: where none is needed they are asked with the score
abbrev pub optional_places : Index → Scorer → ℕ → ℕ → Places → Places
optional_places ix s need base D p = ltb 0 need && required_places ix s base D p

-- up to where the cursors of its optional children may stand
abbrev pub optional_bound : ℕ → ℕ → ℕ → ℕ
optional_bound need b base = cond (ltb 0 need) b base

unfoldable mutual
  -- y are the words of the scorer's part, with so many levels left: its cursors have passed only documents below b, and
  -- D are the places that were asked of the window at base
  pub Windowed : Index → List ℕ → Scorer → ℕ → ℕ → List ℕ → ℕ → ℕ → Places → Type 0
  Windowed ix ranges (leaf l sc) depth scores y b base D =
      (s : State) × (w : List ℕ) × (y ≡ words_of s ++ w) × (s.scores ≡ scores)
      × LeafWindowed ix ranges l s w b base D × ScoringIs sc s × Stored (leaf_matches ix l) s base D
  Windowed ix ranges (boolean c j need rs os ps) depth scores y b base D =
      (s : State) × (x : List ℕ) × (v : List ℕ) × (z : List ℕ) × (y ≡ words_of s ++ (x ++ (v ++ z)))
      × (s.scores ≡ scores) × (0 < depth) × BooleanIs c j need rs os ps s × (s.cached ≡ 0)
      × Stored (matches ix (boolean c j need rs os ps)) s base D
      × AllWindowed ix ranges rs (depth - 1) x b base (required_places ix (boolean c j need rs os ps) base D)
      × AllWindowed ix ranges os (depth - 1) v (optional_bound need b base) base
      (optional_places ix (boolean c j need rs os ps) need base D)
      × AllWindowed ix ranges ps (depth - 1) z b base nowhere

  -- the parts of some scorers, one after the other
  pub AllWindowed : Index → List ℕ → Scorers → ℕ → List ℕ → ℕ → ℕ → Places → Type 0
  AllWindowed ix ranges end depth w b base D = w ≡ []
  AllWindowed ix ranges (more f s ss) depth w b base D =
      (y : List ℕ) × (z : List ℕ) × (w ≡ y ++ z) × Windowed ix ranges s depth (cond f 1 0) y b base D
      × AllWindowed ix ranges ss depth z b base D
