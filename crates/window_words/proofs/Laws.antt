-- The words of a tree asked by windows: what is known of them holds at a larger bound and of fewer places, may be
-- forgotten before the next window, and gives the record and the parts. Assumes nothing.
use Rattle.std.proofs.Common.{◌≡◌, refl, sym, ap, ◌∙◌, Bool, true, false, cond, ◌&&◌, List, [], ◌∷◌, ◌++◌, ℕ, ◌+◌, ◌-◌, ◌*◌, ◌≤◌, ◌<◌, min, max, ltb, length, get_or, le_refl, le_trans, length-append, arith}
use Rattle.std.proofs.lemmas.Bool.{false≢true, and_parts}
use Rattle.meaning.specs.Limits.{node_state_words}
use Rattle.meaning.specs.Lent.{Index}
use Rattle.meaning.specs.Phrase.{PhraseTerm, phrase_frequency}
use Rattle.bits.specs.Bit.{bit}
use Rattle.tree_weight.specs.ScorerTree.{Leaf, nothing, term, phrase, range, everything, Scoring, Scorer, leaf, boolean, Scorers, end, more, leaf_matches, matches}
use Rattle.tree_weight.specs.State.{State, words_of, leaf_size, size_of, sizes_of}
use Rattle.tree_weight.specs.Held.{Cache, TermsAre, LeafIs, Ok, Oks}
use Rattle.tree_weight.proofs.Terms.{term-mono}
use Rattle.window_words.specs.Windowed.{Places, nowhere, two_words, Stored, TermAsked, TermsWindowed, phrase_places, LeafWindowed, required_places, optional_places, optional_bound, Windowed, AllWindowed}

-- the places of D' are all among those of D
abbrev pub Among : Places → Places → Type 0
Among D' D = (p : ℕ) → p < 64 → D' p ≡ true → D p ≡ true

-- where the places of D' of the window at f are asked, that window is the one at base, and D has them
abbrev Kept : ℕ → Places → ℕ → Places → Type 0
Kept base D f D' = (p : ℕ) → p < 64 → D' p ≡ true → (f ≡ base) × (D p ≡ true)

-- ---- the places that are kept, of those where something matches, and under a condition
and-joined : {a b : Bool} → a ≡ true → b ≡ true → (a && b) ≡ true
and-joined {a} {b} e g = ap (λ (t : Bool). t && b) e ∙ g

module _ {base : ℕ} {D : Places} {f : ℕ} {D' : Places} (k : Kept base D f D') where
  kept-where : (M : ℕ → Bool) → Kept base (λ p. D p && M (base + p)) f (λ p. D' p && M (f + p))
  kept-where M p g e =
      let q = and_parts (D' p) (M (f + p)) e in
      let h = k p g q.0 in
      (h.0, and-joined h.1 (ap (λ (n : ℕ). M (n + p)) (sym h.0) ∙ q.1))

  kept-if : (t : Bool) → Kept base (λ p. t && D p) f (λ p. t && D' p)
  kept-if true p g e = k p g e
  kept-if false p g e = absurd (false≢true e)

  stored-kept : (P : ℕ → Bool) (s : State) → Stored P s base D → Stored P s f D'
  stored-kept P s h p g e = let q = k p g e in h p g q.1 ∙ ap (λ (n : ℕ). P (n + p)) (sym q.0)

  term-kept : (ix : Index) (l : ℕ) (s : State) → TermAsked ix l s base D → TermAsked ix l s f D'
  term-kept ix l s h p g e = let q = k p g e in rw q.0 (h p g q.1)

kept-less : (base : ℕ) (D D' : Places) → Among D' D → Kept base D base D'
kept-less base D D' a p g e = (refl, a p g e)

kept-same : (base : ℕ) (D : Places) → Kept base D base D
kept-same base D p g e = (refl, e)

kept-none : (base : ℕ) (D : Places) (f : ℕ) → Kept base D f nowhere
kept-none base D f p g e = absurd (false≢true e)

-- ---- a larger bound, and a window of which no more is asked
terms-weaker : (ix : Index) (ts : List PhraseTerm) (w : List ℕ) (b base : ℕ) (D : Places) (e f : ℕ) (D' : Places) → b ≤ e → Kept base D f D' → TermsWindowed ix ts w b base D → TermsWindowed ix ts w e f D'
unfolding TermsWindowed
terms-weaker ix [] w b base D e f D' h k p = p
terms-weaker ix (t ∷ ts) w b base D e f D' h k p =
    (p.0, p.1, p.2, term-mono ix 9 t.leaf p.0 b e h p.3, p.4, term-kept k ix t.leaf p.0 p.5, terms-weaker ix ts p.1 b base D e f D' h k p.6)

leaf-weaker : (ix : Index) (R : List ℕ) (l : Leaf) (s : State) (w : List ℕ) (b base : ℕ) (D : Places) (e f : ℕ) (D' : Places) → b ≤ e → Kept base D f D' → LeafWindowed ix R l s w b base D → LeafWindowed ix R l s w e f D'
unfolding LeafWindowed
leaf-weaker ix R nothing s w b base D e f D' h k p = p
leaf-weaker ix R (term l) s w b base D e f D' h k p = (term-mono ix 1 l s b e h p.0, p.1, p.2, term-kept k ix l s p.3)
leaf-weaker ix R (phrase g ts) s w b base D e f D' h k p = (
  record {
    kind-is = p.0.kind-is;
    size_is = p.0.size_is;
    field_is = p.0.field_is;
    norms-is = p.0.norms-is;
    terms = terms-weaker ix ts w b base (phrase_places ix ts base D) e f (phrase_places ix ts f D') h (kept-where k (λ d. ltb 0 (phrase_frequency ix ts d))) p.0.terms;
    frequencies = λ q g e. let u = k q g e in p.0.frequencies q g u.1 ∙ ap (λ (n : ℕ). min 3 (phrase_frequency ix ts (n + q))) (sym u.0);
    worked-out = p.0.worked-out;
  },
  p.1,
)
leaf-weaker ix R (range r) s w b base D e f D' h k p = p
leaf-weaker ix R everything s w b base D e f D' h k p = p

bound-more : (t : Bool) (b base e f : ℕ) → b ≤ e → base ≤ f → cond t b base ≤ cond t e f
bound-more true b base e f h g = h
bound-more false b base e f h g = g

mutual
  unfolding Windowed

  windowed-weaker : (ix : Index) (R : List ℕ) (s : Scorer) (k o : ℕ) (y : List ℕ) (b base : ℕ) (D : Places) (e f : ℕ) (D' : Places) → b ≤ e → base ≤ f → Kept base D f D' → Windowed ix R s k o y b base D → Windowed ix R s k o y e f D'
  windowed-weaker ix R (leaf l sc) k o y b base D e f D' h g u p =
      (p.0, p.1, p.2, p.3, leaf-weaker ix R l p.0 p.1 b base D e f D' h u p.4, p.5, stored-kept u (leaf_matches ix l) p.0 p.6)
  windowed-weaker ix R (boolean c j need rs os ps) k o y b base D e f D' h g u p =
      let S : Scorer = boolean c j need rs os ps in
      let r : Kept base (required_places ix S base D) f (required_places ix S f D') = kept-where u (matches ix S) in (
        p.0,
        p.1,
        p.2,
        p.3,
        p.4,
        p.5,
        p.6,
        p.7,
        p.8,
        stored-kept u (matches ix S) p.0 p.9,
        all-weaker ix R rs (k - 1) p.1 b base (required_places ix S base D) e f (required_places ix S f D') h g r p.10,
        all-weaker ix R os (k - 1) p.2 (optional_bound need b base) base (optional_places ix S need base D) (optional_bound need e f) f (optional_places ix S need f D') (bound-more (ltb 0 need) b base e f h g) g (kept-if r (ltb 0 need)) p.11,
        all-weaker ix R ps (k - 1) p.3 b base nowhere e f nowhere h g (kept-none base nowhere f) p.12,
      )

  all-weaker : (ix : Index) (R : List ℕ) (ss : Scorers) (k : ℕ) (w : List ℕ) (b base : ℕ) (D : Places) (e f : ℕ) (D' : Places) → b ≤ e → base ≤ f → Kept base D f D' → AllWindowed ix R ss k w b base D → AllWindowed ix R ss k w e f D'
  all-weaker ix R end k w b base D e f D' h g u p = p
  all-weaker ix R (more m s ss) k w b base D e f D' h g u p =
      (p.0, p.1, p.2, windowed-weaker ix R s k (cond m 1 0) p.0 b base D e f D' h g u p.3, all-weaker ix R ss k p.1 b base D e f D' h g u p.4)

-- a larger bound
pub windowed-mono : (ix : Index) (R : List ℕ) (s : Scorer) (k o : ℕ) (y : List ℕ) (b base : ℕ) (D : Places) (e : ℕ) → b ≤ e → Windowed ix R s k o y b base D → Windowed ix R s k o y e base D
windowed-mono ix R s k o y b base D e h = windowed-weaker ix R s k o y b base D e base D h (le_refl base) (kept-same base D)

pub all-mono : (ix : Index) (R : List ℕ) (ss : Scorers) (k : ℕ) (w : List ℕ) (b base : ℕ) (D : Places) (e : ℕ) → b ≤ e → AllWindowed ix R ss k w b base D → AllWindowed ix R ss k w e base D
all-mono ix R ss k w b base D e h = all-weaker ix R ss k w b base D e base D h (le_refl base) (kept-same base D)

-- fewer places
pub windowed-less : (ix : Index) (R : List ℕ) (s : Scorer) (k o : ℕ) (y : List ℕ) (b base : ℕ) (D D' : Places) → ((p : ℕ) → p < 64 → D' p ≡ true → D p ≡ true) → Windowed ix R s k o y b base D → Windowed ix R s k o y b base D'
windowed-less ix R s k o y b base D D' h = windowed-weaker ix R s k o y b base D b base D' (le_refl b) (le_refl base) (kept-less base D D' h)

pub all-less : (ix : Index) (R : List ℕ) (ss : Scorers) (k : ℕ) (w : List ℕ) (b base : ℕ) (D D' : Places) → ((p : ℕ) → p < 64 → D' p ≡ true → D p ≡ true) → AllWindowed ix R ss k w b base D → AllWindowed ix R ss k w b base D'
all-less ix R ss k w b base D D' h = all-weaker ix R ss k w b base D b base D' (le_refl b) (le_refl base) (kept-less base D D' h)

-- what was asked is forgotten, so that another window can be asked
pub windowed-forget : (ix : Index) (R : List ℕ) (s : Scorer) (k o : ℕ) (y : List ℕ) (b base : ℕ) (D : Places) (e : ℕ) → b ≤ e → base ≤ e → Windowed ix R s k o y b base D → Windowed ix R s k o y e e nowhere
windowed-forget ix R s k o y b base D e h g = windowed-weaker ix R s k o y b base D e e nowhere h g (kept-none base D e)

pub all-forget : (ix : Index) (R : List ℕ) (ss : Scorers) (k : ℕ) (w : List ℕ) (b base : ℕ) (D : Places) (e : ℕ) → b ≤ e → base ≤ e → AllWindowed ix R ss k w b base D → AllWindowed ix R ss k w e e nowhere
all-forget ix R ss k w b base D e h g = all-weaker ix R ss k w b base D e e nowhere h g (kept-none base D e)

-- ---- how many words
terms-length : (ix : Index) (ts : List PhraseTerm) (w : List ℕ) (b base : ℕ) (D : Places) → TermsWindowed ix ts w b base D → length w ≡ node_state_words * length ts
unfolding TermsWindowed
terms-length ix [] w b base D p = ap length p
terms-length ix (t ∷ ts) w b base D p = omega (arith, ap length p.2, terms-length ix ts p.1 b base D p.6)

record Sizes (l : Leaf) (s : State) (w : List ℕ) : Type 0 where
  size : s.size ≡ leaf_size l
  words : node_state_words + length w ≡ leaf_size l

leaf-sizes : (ix : Index) (R : List ℕ) (l : Leaf) (s : State) (w : List ℕ) (b base : ℕ) (D : Places) → LeafWindowed ix R l s w b base D → Sizes l s w
unfolding LeafWindowed leaf_size
leaf-sizes ix R nothing s w b base D p = record { size = p.1; words = omega (arith, ap length p.3) }
leaf-sizes ix R (term l) s w b base D p = record { size = p.0.size_is; words = omega (arith, ap length p.2) }
leaf-sizes ix R (phrase f ts) s w b base D p = record { size = p.0.size_is; words = omega (arith, terms-length ix ts w b base (phrase_places ix ts base D) p.0.terms) }
leaf-sizes ix R (range r) s w b base D p = record { size = p.0.size_is; words = omega (arith, ap length p.2) }
leaf-sizes ix R everything s w b base D p = record { size = p.1; words = omega (arith, ap length p.3) }

mutual
  unfolding Windowed size_of

  pub windowed-length : (ix : Index) (R : List ℕ) (s : Scorer) (k o : ℕ) (y : List ℕ) (b base : ℕ) (D : Places) → Windowed ix R s k o y b base D → length y ≡ size_of s
  windowed-length ix R (leaf l sc) k o y b base D p =
      omega (arith, ap length p.2, (leaf-sizes ix R l p.0 p.1 b base D p.4).words)
  windowed-length ix R (boolean c j need rs os ps) k o y b base D p =
      let S : Scorer = boolean c j need rs os ps in
      omega (arith, ap length p.4, length-append p.1 (p.2 ++ p.3), length-append p.2 p.3, all-length ix R rs (k - 1) p.1 b base (required_places ix S base D) p.10, all-length ix R os (k - 1) p.2 (optional_bound need b base) base (optional_places ix S need base D) p.11, all-length ix R ps (k - 1) p.3 b base nowhere p.12)

  pub all-length : (ix : Index) (R : List ℕ) (ss : Scorers) (k : ℕ) (w : List ℕ) (b base : ℕ) (D : Places) → AllWindowed ix R ss k w b base D → length w ≡ sizes_of ss
  all-length ix R end k w b base D p = ap length p
  all-length ix R (more m s ss) k w b base D p =
      omega (arith, ap length p.2, length-append p.0 p.1, windowed-length ix R s k (cond m 1 0) p.0 b base D p.3, all-length ix R ss k p.1 b base D p.4)

-- ---- the record at the front
-- a scorer's kind, as the first word has it
unfoldable pub kind_of : Scorer → ℕ
kind_of (leaf nothing sc) = 0
kind_of (leaf (term l) sc) = 1
kind_of (leaf (phrase f ts) sc) = 2
kind_of (leaf (range r) sc) = 4
kind_of (leaf everything sc) = 5
kind_of (boolean c j need rs os ps) = 3

pub leaf-no-boolean : (l : Leaf) (sc : Scoring) → kind_of (leaf l sc) ≡ 3 → ⊥
unfolding kind_of
leaf-no-boolean nothing sc e = omega (arith, e)
leaf-no-boolean (term l) sc e = omega (arith, e)
leaf-no-boolean (phrase f ts) sc e = omega (arith, e)
leaf-no-boolean (range r) sc e = omega (arith, e)
leaf-no-boolean everything sc e = omega (arith, e)

record Front (P : ℕ → Bool) (kind size o base : ℕ) (D : Places) (y : List ℕ) : Type 0 where
  state : State
  behind : List ℕ
  is : y ≡ words_of state ++ behind
  kind-is : state.kind ≡ kind
  size_is : state.size ≡ size
  scores-is : state.scores ≡ o
  stored : Stored P state base D

leaf-kind : (ix : Index) (R : List ℕ) (l : Leaf) (sc : Scoring) (s : State) (w : List ℕ) (b base : ℕ) (D : Places) → LeafWindowed ix R l s w b base D → s.kind ≡ kind_of (leaf l sc)
unfolding LeafWindowed kind_of
leaf-kind ix R nothing sc s w b base D p = p.0
leaf-kind ix R (term l) sc s w b base D p = p.0.kind-is
leaf-kind ix R (phrase f ts) sc s w b base D p = p.0.kind-is
leaf-kind ix R (range r) sc s w b base D p = p.0.kind-is
leaf-kind ix R everything sc s w b base D p = p.0

front : (ix : Index) (R : List ℕ) (s : Scorer) (k o : ℕ) (y : List ℕ) (b base : ℕ) (D : Places) → Windowed ix R s k o y b base D → Front (matches ix s) (kind_of s) (size_of s) o base D y
unfolding Windowed size_of kind_of matches
front ix R (leaf l sc) k o y b base D p = record { state = p.0; behind = p.1; is = p.2; kind-is = leaf-kind ix R l sc p.0 p.1 b base D p.4; size_is = (leaf-sizes ix R l p.0 p.1 b base D p.4).size; scores-is = p.3; stored = p.6 }
front ix R (boolean c j need rs os ps) k o y b base D p = record { state = p.0; behind = p.1 ++ (p.2 ++ p.3); is = p.4; kind-is = p.7.kind-is; size_is = p.7.size_is; scores-is = p.5; stored = p.9 }

module _ (ix : Index) (R : List ℕ) (s : Scorer) (k o : ℕ) (y : List ℕ) (b base : ℕ) (D : Places) (p : Windowed ix R s k o y b base D) where
  head : Front (matches ix s) (kind_of s) (size_of s) o base D y
  head = front ix R s k o y b base D p

  pub windowed-long : node_state_words ≤ length y
  windowed-long = omega (arith, ap length head.is)

  pub windowed-size : get_or y 1 0 ≡ length y
  windowed-size = ap (λ (l : List ℕ). get_or l 1 0) head.is ∙ head.size_is ∙ sym (windowed-length ix R s k o y b base D p)

  pub windowed-kind : get_or y 0 0 ≡ kind_of s
  windowed-kind = ap (λ (l : List ℕ). get_or l 0 0) head.is ∙ head.kind-is

  pub windowed-scores : get_or y 15 0 ≡ o
  windowed-scores = ap (λ (l : List ℕ). get_or l 15 0) head.is ∙ head.scores-is

  pub windowed-bits : (q : ℕ) → q < 64 → D q ≡ true → bit q (two_words (get_or y 20 0) (get_or y 21 0)) ≡ matches ix s (base + q)
  windowed-bits q g e = ap (λ (l : List ℕ). bit q (two_words (get_or l 20 0) (get_or l 21 0))) head.is ∙ head.stored q g e

-- a node that is neither a phrase nor a Boolean: its part is one record
-- ---- the words of a tree that is asked by documents
terms-are : (ix : Index) (ts : List PhraseTerm) (w : List ℕ) (b base : ℕ) (D : Places) (e : ℕ) → b ≤ e → TermsWindowed ix ts w b base D → TermsAre ix ts w e
unfolding TermsWindowed TermsAre
terms-are ix [] w b base D e h p = p
terms-are ix (t ∷ ts) w b base D e h p = (p.0, p.1, p.2, term-mono ix 9 t.leaf p.0 b e h p.3, p.4, terms-are ix ts p.1 b base D e h p.6)

leaf-is : (ix : Index) (R : List ℕ) (l : Leaf) (s : State) (w : List ℕ) (b base : ℕ) (D : Places) (e : ℕ) → b ≤ e → LeafWindowed ix R l s w b base D → LeafIs ix R l s w e
unfolding LeafWindowed LeafIs
leaf-is ix R nothing s w b base D e h p = p
leaf-is ix R (term l) s w b base D e h p = (term-mono ix 1 l s b e h p.0, p.2)
leaf-is ix R (phrase f ts) s w b base D e h p =
    record {
      kind-is = p.0.kind-is;
      size_is = p.0.size_is;
      field_is = p.0.field_is;
      norms-is = p.0.norms-is;
      terms = terms-are ix ts w b base (phrase_places ix ts base D) e h p.0.terms;
      worked-out = p.0.worked-out;
    }
leaf-is ix R (range r) s w b base D e h p = (p.0, p.2)
leaf-is ix R everything s w b base D e h p = (p.0, p.1, p.3)

no-cache : (P : ℕ → Bool) (b c : ℕ) → c ≡ 0 → Cache P b c
no-cache P b c e t h g = absurd (omega (arith, e, g))

leaf-cache : (ix : Index) (R : List ℕ) (l : Leaf) (sc : Scoring) (s : State) (w : List ℕ) (b base : ℕ) (D : Places) → LeafWindowed ix R l s w b base D → Cache (matches ix (leaf l sc)) b s.cached
unfolding LeafWindowed matches leaf_matches
leaf-cache ix R nothing sc s w b base D p = λ t h g. record { from = omega (arith, g, p.2); top = omega (arith, p.2); before = λ i a c. refl; hit = λ c. absurd (omega (arith, p.2, c)) }
leaf-cache ix R (term l) sc s w b base D p = no-cache (λ d. matches ix (leaf (term l) sc) d) b s.cached p.1
leaf-cache ix R (phrase f ts) sc s w b base D p = no-cache (λ d. matches ix (leaf (phrase f ts) sc) d) b s.cached p.1
leaf-cache ix R (range r) sc s w b base D p = no-cache (λ d. matches ix (leaf (range r) sc) d) b s.cached p.1
leaf-cache ix R everything sc s w b base D p = no-cache (λ d. matches ix (leaf everything sc) d) b s.cached p.2

bound-below : (t : Bool) (b base n : ℕ) → b ≤ n → base ≤ n → cond t b base ≤ n
bound-below true b base n h g = h
bound-below false b base n h g = g

mutual
  unfolding Windowed Ok

  ok-at : (ix : Index) (R : List ℕ) (s : Scorer) (k o : ℕ) (y : List ℕ) (b base : ℕ) (D : Places) (e : ℕ) → b ≤ e → base ≤ e → Windowed ix R s k o y b base D → Ok ix R s k o y e
  ok-at ix R (leaf l sc) k o y b base D e h g p =
      let c = max e (p.0.cached - 1) in
      (p.0, p.1, p.2, p.3, leaf-is ix R l p.0 p.1 b base D c (omega (arith, h)) p.4, p.5, λ t a. leaf-cache ix R l sc p.0 p.1 b base D p.4 t (le_trans h a))
  ok-at ix R (boolean c j need rs os ps) k o y b base D e h g p =
      let S : Scorer = boolean c j need rs os ps in
      let n : ℕ = max e (p.0.cached - 1) in
      let up : b ≤ n = omega (arith, h) in
      let from : base ≤ n = omega (arith, g) in (
        p.0,
        p.1,
        p.2,
        p.3,
        p.4,
        p.5,
        p.6,
        p.7,
        no-cache (matches ix S) e p.0.cached p.8,
        oks-at ix R rs (k - 1) p.1 b base (required_places ix S base D) n up from p.10,
        oks-at ix R os (k - 1) p.2 (optional_bound need b base) base (optional_places ix S need base D) n (bound-below (ltb 0 need) b base n up from) from p.11,
        oks-at ix R ps (k - 1) p.3 b base nowhere n up from p.12,
      )

  oks-at : (ix : Index) (R : List ℕ) (ss : Scorers) (k : ℕ) (w : List ℕ) (b base : ℕ) (D : Places) (e : ℕ) → b ≤ e → base ≤ e → AllWindowed ix R ss k w b base D → Oks ix R ss k w e
  oks-at ix R end k w b base D e h g p = p
  oks-at ix R (more m s ss) k w b base D e h g p =
      (p.0, p.1, p.2, ok-at ix R s k (cond m 1 0) p.0 b base D e h g p.3, oks-at ix R ss k p.1 b base D e h g p.4)

pub windowed-ok : (ix : Index) (R : List ℕ) (s : Scorer) (k o : ℕ) (y : List ℕ) (b base : ℕ) (D : Places) → base ≤ b → Windowed ix R s k o y b base D → Ok ix R s k o y b
windowed-ok ix R s k o y b base D h = ok-at ix R s k o y b base D b (le_refl b) h

pub all-ok : (ix : Index) (R : List ℕ) (ss : Scorers) (k : ℕ) (w : List ℕ) (b base : ℕ) (D : Places) → base ≤ b → AllWindowed ix R ss k w b base D → Oks ix R ss k w b
all-ok ix R ss k w b base D h = oks-at ix R ss k w b base D b (le_refl b) h
