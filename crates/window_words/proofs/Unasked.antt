-- The words of a tree that was not asked yet, as they are written: its records and children's parts, and that it stands
-- with more levels left too. Assumes nothing.
use Rattle.std.proofs.Common.{◌≡◌, refl, sym, subst, Bool, true, false, cond, List, [], ◌∷◌, ℕ, ◌-◌, ◌≤◌, ltb, arith}
use Rattle.std.proofs.lemmas.Bool.{false≢true, and_parts}
use Rattle.meaning.specs.Lent.{Index}
use Rattle.meaning.specs.Phrase.{PhraseTerm}
use Rattle.tree_weight.specs.ScorerTree.{Scorer, leaf, boolean, Scorers, end, more}
use Rattle.tree_weight.specs.State.{State}
use Rattle.tree_weight.specs.Held.{TermsAre}
use Rattle.window_words.specs.Windowed.{Places, nowhere, Stored, TermAsked, TermsWindowed, required_places, optional_places, optional_bound, Windowed, AllWindowed}
use Rattle.window_words.proofs.Laws.{all-less}

-- ---- nothing is known of places that were not asked
pub unasked-stored : (P : ℕ → Bool) (s : State) (base : ℕ) → Stored P s base nowhere
unasked-stored P s base p g e = absurd (false≢true e)

pub unasked-term : (ix : Index) (l : ℕ) (s : State) (base : ℕ) → TermAsked ix l s base nowhere
unasked-term ix l s base p g e = absurd (false≢true e)

pub unasked-terms : (ix : Index) (ts : List PhraseTerm) (w : List ℕ) (b base : ℕ) → TermsAre ix ts w b → TermsWindowed ix ts w b base nowhere
unfolding TermsAre TermsWindowed
unasked-terms ix [] w b base p = p
unasked-terms ix (t ∷ ts) w b base p = (p.0, p.1, p.2, p.3, p.4, unasked-term ix t.leaf p.0 base, unasked-terms ix ts p.1 b base p.5)

-- ---- the optional children of a Boolean that was not asked: one bound is that of all its children
one_bound : (t : Bool) (b : ℕ) → b ≡ cond t b b
one_bound true b = refl
one_bound false b = refl

pub unasked-optional : (ix : Index) (R : List ℕ) (s : Scorer) (need : ℕ) (os : Scorers) (k : ℕ) (v : List ℕ) (b : ℕ) → AllWindowed ix R os k v b b nowhere → AllWindowed ix R os k v (optional_bound need b b) b (optional_places ix s need b nowhere)
unasked-optional ix R s need os k v b p =
    let D = optional_places ix s need b nowhere in
    subst (λ (c : ℕ). AllWindowed ix R os k v c b D) (one_bound (ltb 0 need) b) (all-less ix R os k v b b nowhere D (λ q g e. (and_parts (ltb 0 need) false e).1) p)

-- and from there back
pub optional-unasked : (ix : Index) (R : List ℕ) (s : Scorer) (need : ℕ) (os : Scorers) (k : ℕ) (v : List ℕ) (b : ℕ) → AllWindowed ix R os k v (optional_bound need b b) b (optional_places ix s need b nowhere) → AllWindowed ix R os k v b b nowhere
optional-unasked ix R s need os k v b p =
    let D = optional_places ix s need b nowhere in
    subst (λ (c : ℕ). AllWindowed ix R os k v c b nowhere) (sym (one_bound (ltb 0 need) b)) (all-less ix R os k v (optional_bound need b b) b D nowhere (λ q g e. absurd (false≢true e)) p)

-- ---- words that hold a tree with some levels left hold it with more, as below a Boost or a ConstantScore, which have
-- no record
module _ (ix : Index) (R : List ℕ) where
  mutual
    unfolding Windowed

    pub windowed-deeper : (s : Scorer) (k m o : ℕ) (y : List ℕ) (b base : ℕ) (D : Places) → k ≤ m → Windowed ix R s k o y b base D → Windowed ix R s m o y b base D
    windowed-deeper (leaf l sc) k m o y b base D h p = p
    windowed-deeper (boolean c j need rs os ps) k m o y b base D h p =
        let S : Scorer = boolean c j need rs os ps in
        let some_left = p.6 in (
          p.0,
          p.1,
          p.2,
          p.3,
          p.4,
          p.5,
          omega (arith, some_left, h),
          p.7,
          p.8,
          p.9,
          all-deeper rs (k - 1) (m - 1) p.1 b base (required_places ix S base D) (omega (arith, h)) p.10,
          all-deeper os (k - 1) (m - 1) p.2 (optional_bound need b base) base (optional_places ix S need base D) (omega (arith, h)) p.11,
          all-deeper ps (k - 1) (m - 1) p.3 b base nowhere (omega (arith, h)) p.12,
        )

    pub all-deeper : (ss : Scorers) (k m : ℕ) (w : List ℕ) (b base : ℕ) (D : Places) → k ≤ m → AllWindowed ix R ss k w b base D → AllWindowed ix R ss m w b base D
    all-deeper end k m w b base D h p = p
    all-deeper (more f s ss) k m w b base D h p = (p.0, p.1, p.2, windowed-deeper s k m (cond f 1 0) p.0 b base D h p.3, all-deeper ss k m p.1 b base D h p.4)
