-- The words of a leaf's part, as the code writes them. Assumes nothing.
use mathlib.Core.Path.{◌≡◌, refl, sym, ◌∙◌, ap, subst}
use mathlib.Core.Bool.{Bool, true, false, cond}
use mathlib.Core.List.{List, [], ◌∷◌, ◌++◌, append_assoc}
use Prim.Native.Nat.{ℕ, suc, ◌+◌, ◌^◌, ◌≤◌, ◌<◌}
use native.Mathlib.Nat.{le_refl}
use native.Mathlib.Omega.{arith}
use native.Mathlib.Numerals.{add-one}
use lib.Dec.{T}
use lib.ListN.{length, get_or, set, take, drop, length-append, length-take, length-drop}
use lib.Ieee.{Float, binary32, fits, to_bits}
use Rattle.meaning.specs.Limits.{node_state_words}
use Rattle.meaning.specs.Lent.{Index, leaf_first, leaf_number, leaf_field}
use Rattle.meaning.specs.Query.{range_of}
use Rattle.meaning.specs.Ieee754.{zero_float}
use Rattle.ieee754.specs.Nonneg.{AtMost}
use Rattle.ieee754.proofs.Bounds.{zero-atmost}
use Rattle.tree_weight.specs.ScorerTree.{Leaf, nothing, term, range, everything, Scoring, constant, Scorer, leaf, leaf_matches}
use Rattle.tree_weight.specs.State.{State, words_of, leaf_size, size_of}
use Rattle.tree_weight.specs.Weigh.{no_scorer}
use Rattle.tree_weight.specs.Held.{ScoringIs, FloatIs, norms_word, Ok}
use Rattle.window_words.specs.Windowed.{nowhere, LeafWindowed, Windowed}
use Rattle.window_words.proofs.Laws.{windowed-ok}
use Rattle.window_words.proofs.Unasked.{unasked-stored, unasked-term}
use Rattle.tree_weight.specs.Measured.{RangeListed}
use Rattle.bits.specs.Bit.{bitmap_words}
use Rattle.tree_words.specs.Placed.{Placed, scoring_of}
use Rattle.tree_words.specs.Words.{zero_state}
use lib.Seq.{take-suc, drop-cons, set-append_seam, take_all}

-- ---- one word more of a record
pub put-more : (words states₀ states : List ℕ) (i : ℕ) → i < length words → i < length states₀ → states ≡ take i words ++ drop i states₀ → set states i (get_or words i 0) ≡ take (i + 1) words ++ drop (i + 1) states₀
put-more words states₀ states i h g e =
    let long : length (take i words) ≡ i = let l = length-take i words in omega (arith, l, h) in
    ap (λ (z : List ℕ). set z i (get_or words i 0)) (e ∙ ap (λ (z : List ℕ). take i words ++ z) (drop-cons states₀ i 0 g))
    ∙ subst (λ (n : ℕ). set (take i words ++ (get_or states₀ i 0 ∷ drop (suc i) states₀)) n (get_or words i 0) ≡ take i words ++ (get_or words i 0 ∷ drop (suc i) states₀)) long (set-append_seam (take i words) (get_or states₀ i 0) (drop (suc i) states₀) (get_or words i 0))
    ∙ sym (append_assoc (take i words) (get_or words i 0 ∷ []) (drop (suc i) states₀))
    ∙ ap (λ (z : List ℕ). z ++ drop (suc i) states₀) (sym (take-suc words i 0 h))
    ∙ ap (λ (n : ℕ). take n words ++ drop n states₀) (sym (add-one i))

pub put-none : (words states : List ℕ) → states ≡ take 0 words ++ drop 0 states
put-none words states = refl

pub put-long : (words states₀ states : List ℕ) (i : ℕ) → i ≤ length words → i ≤ length states₀ → states ≡ take i words ++ drop i states₀ → length states ≡ length states₀
put-long words states₀ states i h g e =
    let a = length-append (take i words) (drop i states₀) in
    let b = length-take i words in
    let d = length-drop i states₀ in
    let s = ap length e in
    omega (arith, a, b, d, s, h, g)

pub put_all : (words states₀ states : List ℕ) (i : ℕ) → i ≡ node_state_words → length words ≡ node_state_words → states ≡ take i words ++ drop i states₀ → states ≡ words ++ drop node_state_words states₀
put_all words states₀ states i h g e = e ∙ ap (λ (n : ℕ). take n words ++ drop n states₀) h ∙ ap (λ (z : List ℕ). z ++ drop node_state_words states₀) (take_all node_state_words words (omega (arith, g)))

pub put_same : (words states₀ states : List ℕ) → states ≡ words ++ drop node_state_words states₀ → length words ≡ node_state_words → node_state_words ≤ length states₀ → length states ≡ length states₀
put_same words states₀ states e f h = let a = ap length e ∙ length-append words (drop node_state_words states₀) in let d = length-drop node_state_words states₀ in omega (arith, a, d, f, h)

pub score-is : (x : Float) → T (fits binary32 x) → AtMost (2 ^ 29) x → FloatIs x (to_bits binary32 x)
score-is x f a = record { held = f; small = a; bits_are = refl }

-- ---- a part that was not asked yet can be asked by documents
pub placed-ok : (ix : Index) (ranges : List ℕ) (s : Scorer) (d scores r : ℕ) (words : List ℕ) → Placed ix ranges s d scores r words → Ok ix ranges s d scores (take r words) 0
placed-ok ix ranges s d scores r words p = windowed-ok ix ranges s d scores (take r words) 0 0 nowhere (le_refl 0) p.held

-- ---- a leaf's part
-- the words of a leaf's record; the others are 0
abbrev pub leaf_state : ℕ → ℕ → ℕ → ℕ → ℕ → ℕ → ℕ → ℕ → ℕ → ℕ → State
leaf_state kind cached first number offset field fixed weight scores norms =
    record zero_state { kind = kind; size = node_state_words; cached = cached; first = first; number = number; offset = offset; field = field; constant = fixed; weight = weight; scores = scores; norms = norms }

pub scored : (x : Float) (bits : ℕ) → FloatIs x bits → (b : Bool) (s : State) → s.constant ≡ cond b 1 0 → s.weight ≡ bits → ScoringIs (scoring_of b x) s
unfolding ScoringIs
scored x bits is true s e f = (e, rw f is)
scored x bits is false s e f = (e, rw f is)

module _ (ix : Index) (ranges states₀ states : List ℕ) (d scores : ℕ) (room : node_state_words ≤ length states₀) where
  record-long : (s : State) → states ≡ words_of s ++ drop node_state_words states₀ → node_state_words ≤ length states
  record-long s e = let a = ap length e ∙ length-append (words_of s) (drop node_state_words states₀) in omega (arith, a)

  pub placed-leaf : (l : Leaf) (sc : Scoring) (s : State) → states ≡ words_of s ++ drop node_state_words states₀ → node_state_words ≡ leaf_size l → s.scores ≡ scores → LeafWindowed ix ranges l s [] 0 0 nowhere → ScoringIs sc s → Placed ix ranges (leaf l sc) d scores node_state_words states
  unfolding size_of Windowed
  placed-leaf l sc s e size scored is scoring =
      record {
        size_is = size;
        within = record-long s e;
        held = (s, [], ap (take node_state_words) e, scored, is, scoring, unasked-stored (leaf_matches ix l) s 0);
      }

  pub placed-nothing : states ≡ words_of (leaf_state 0 2147483648 0 0 0 0 1 0 scores 0) ++ drop node_state_words states₀ → Placed ix ranges no_scorer d scores node_state_words states
  unfolding leaf_size LeafWindowed ScoringIs fits to_bits
  placed-nothing e =
      placed-leaf nothing (constant zero_float) (leaf_state 0 2147483648 0 0 0 0 1 0 scores 0) e refl refl (refl, refl, refl, refl) (refl, record { held = tt; small = zero-atmost (2 ^ 29); bits_are = refl })

  module _ (x : Float) (bits : ℕ) (is : FloatIs x bits) where
    pub placed-everything : states ≡ words_of (leaf_state 5 0 0 0 0 0 1 bits scores 0) ++ drop node_state_words states₀ → Placed ix ranges (leaf everything (constant x)) d scores node_state_words states
    unfolding leaf_size LeafWindowed ScoringIs
    placed-everything e =
        placed-leaf everything (constant x) (leaf_state 5 0 0 0 0 0 1 bits scores 0) e refl refl (refl, refl, refl, refl) (refl, is)

    pub placed-range : (q : List ℕ) (at first number count : ℕ) → number ≡ bitmap_words ix.max_doc → RangeListed ix q ranges at first count → states ≡ words_of (leaf_state 4 0 first number 0 0 1 bits scores 0) ++ drop node_state_words states₀ → Placed ix ranges (leaf (range (range_of q at)) (constant x)) d scores node_state_words states
    unfolding leaf_size LeafWindowed ScoringIs
    placed-range q at first number count words listed e =
        placed-leaf (range (range_of q at)) (constant x) (leaf_state 4 0 first number 0 0 1 bits scores 0) e refl refl
        (record { kind-is = refl; size_is = refl; number_is = words; there = omega (arith, listed.there, words); bits = λ i p h. listed.bits i p (omega (arith, h, words)) }, refl, refl)
        (refl, is)

    pub placed-term : (b : Bool) (l fixed first number field norms : ℕ) → fixed ≡ cond b 1 0 → first ≡ leaf_first ix l → number ≡ leaf_number ix l → field ≡ leaf_field ix l → norms ≡ norms_word ix field → states ≡ words_of (leaf_state 1 0 first number 0 field fixed bits scores norms) ++ drop node_state_words states₀ → Placed ix ranges (leaf (term l) (scoring_of b x)) d scores node_state_words states
    unfolding leaf_size LeafWindowed
    placed-term b l fixed first number field norms k f n g m e =
        placed-leaf (term l) (scoring_of b x) (leaf_state 1 0 first number 0 field fixed bits scores norms) e refl refl
        (record { kind-is = refl; size_is = refl; first-is = f; number_is = n; field_is = g; norms-is = m ∙ ap (norms_word ix) g; run = record { within = omega arith; passed = λ i h. absurd (omega (arith, h)) } }, refl, refl, unasked-term ix l (leaf_state 1 0 first number 0 field fixed bits scores norms) 0)
        (scored x bits is b (leaf_state 1 0 first number 0 field fixed bits scores norms) k refl)
