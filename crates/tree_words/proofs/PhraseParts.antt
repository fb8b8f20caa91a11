-- The words of a phrase's part, as the code writes them. Assumes nothing.
use mathlib.Core.Path.{◌≡◌, refl, sym, ◌∙◌, ap, subst}
use mathlib.Core.Bool.{Bool, cond, false≢true}
use mathlib.Core.List.{List, [], ◌∷◌, ◌++◌, append_assoc}
use Prim.Native.Nat.{ℕ, suc, ◌+◌, ◌*◌, ◌≤◌}
use native.Mathlib.Omega.{arith}
use native.Mathlib.Numerals.{add-one}
use lib.ListN.{length, take, drop, length-append, length-take}
use lib.Seq.{take_at, drop_at, take-append-le}
use lib.Ieee.{Float}
use Rattle.meaning.specs.Limits.{node_state_words}
use Rattle.meaning.specs.Below.{list_to}
use Rattle.meaning.specs.Lent.{Index, leaf_first, leaf_number, leaf_field}
use Rattle.meaning.specs.Phrase.{PhraseTerm}
use Rattle.meaning.specs.Query.{record_children, record_value, phrase_terms_of}
use Rattle.query.proofs.Right.{length-list_to}
use Rattle.tree_weight.specs.ScorerTree.{phrase, leaf, leaf_matches}
use Rattle.tree_weight.specs.State.{State, words_of, leaf_size, size_of}
use Rattle.tree_weight.specs.Held.{TermIs, TermsAre, FloatIs, norms_word}
use Rattle.window_words.specs.Windowed.{LeafWindowed, Windowed}
use Rattle.window_words.proofs.Unasked.{unasked-stored, unasked-terms}
use Rattle.tree_words.specs.Placed.{Placed, PhraseTermPlaced, scoring_of}
use Rattle.tree_words.specs.Words.{zero_state}
use Rattle.tree_words.proofs.Placing.{leaf_state, scored}

-- ---- a term's record
pub phrase-term : (ix : Index) (before after : List ℕ) (l offset first number field norms : ℕ) → first ≡ leaf_first ix l → number ≡ leaf_number ix l → field ≡ leaf_field ix l → norms ≡ norms_word ix field → after ≡ words_of (leaf_state 9 0 first number offset field 0 0 0 norms) ++ drop node_state_words before → PhraseTermPlaced ix (record { leaf = l; offset = offset }) before after
phrase-term ix before after l offset first number field norms f n g m e =
    (leaf_state 9 0 first number offset field 0 0 0 norms, e, record { kind-is = refl; size_is = refl; first-is = f; number_is = n; field_is = g; norms-is = m ∙ ap (norms_word ix) g; run = record { within = omega arith; passed = λ i h. absurd (omega (arith, h)) } }, refl)

-- ---- one term more
terms-last : (ix : Index) (ts : List PhraseTerm) (t : PhraseTerm) (w : List ℕ) (s : State) (b : ℕ) → TermsAre ix ts w b → TermIs ix 9 t.leaf s b → s.offset ≡ t.offset → TermsAre ix (ts ++ (t ∷ [])) (w ++ words_of s) b
unfolding TermsAre
terms-last ix [] t w s b a is off = (s, [], ap (λ (z : List ℕ). z ++ words_of s) a, is, off, refl)
terms-last ix (u ∷ us) t w s b a is off =
    (a.0, a.1 ++ words_of s, ap (λ (z : List ℕ). z ++ words_of s) a.2 ∙ append_assoc (words_of a.0) a.1 (words_of s), a.3, a.4, terms-last ix us t a.1 s b a.5 is off)

no-terms : (ix : Index) (f : ℕ → PhraseTerm) (states : List ℕ) → TermsAre ix (list_to 0 f) (take (node_state_words * 0) states) 0
unfolding TermsAre list_to
no-terms ix f states = refl

words_more : (states out part post : List ℕ) (s : State) (j : ℕ) → node_state_words * j ≤ length states → out ≡ words_of s ++ drop node_state_words part → take (node_state_words * (j + 1)) (take (node_state_words * j) states ++ (out ++ post)) ≡ take (node_state_words * j) states ++ words_of s
words_more states out part post s j h e =
    let long : length (take (node_state_words * j) states) ≡ node_state_words * j = let l = length-take (node_state_words * j) states in omega (arith, l, h) in
    let both = length-append (take (node_state_words * j) states) (words_of s) in
    ap (λ (z : List ℕ). take (node_state_words * (j + 1)) (take (node_state_words * j) states ++ (z ++ post))) e
    ∙ ap (λ (z : List ℕ). take (node_state_words * (j + 1)) (take (node_state_words * j) states ++ z)) (append_assoc (words_of s) (drop node_state_words part) post)
    ∙ ap (take (node_state_words * (j + 1))) (sym (append_assoc (take (node_state_words * j) states) (words_of s) (drop node_state_words part ++ post)))
    ∙ take_at (take (node_state_words * j) states ++ words_of s) (drop node_state_words part ++ post) (node_state_words * (j + 1)) (omega (arith, both, long))

module _ (ix : Index) (q : List ℕ) (at : ℕ) where
  abbrev pub term_at : ℕ → PhraseTerm
  term_at j = record { leaf = record_value q (at + 1 + j) 0; offset = record_value q (at + 1 + j) 1 }

  pub terms-begin : (states : List ℕ) → TermsAre ix (list_to 0 term_at) (take (node_state_words * 0) states) 0
  terms-begin states = no-terms ix term_at states

  pub terms-more : (states out part post : List ℕ) (j l o : ℕ) → node_state_words * j ≤ length states → l ≡ record_value q (at + 1 + j) 0 → o ≡ record_value q (at + 1 + j) 1 → PhraseTermPlaced ix (record { leaf = l; offset = o }) part out → TermsAre ix (list_to j term_at) (take (node_state_words * j) states) 0 → TermsAre ix (list_to (j + 1) term_at) (take (node_state_words * (j + 1)) (take (node_state_words * j) states ++ (out ++ post))) 0
  unfolding list_to
  terms-more states out part post j l o h el eo p a =
      rw (words_more states out part post p.0 j h p.1, add-one j)
      (terms-last ix (list_to j term_at) (term_at j) (take (node_state_words * j) states) p.0 0 a (subst (λ (z : ℕ). TermIs ix 9 z p.0 0) el p.2) (p.3 ∙ eo))

  pub terms-all : (states : List ℕ) (j n : ℕ) → j ≡ record_children q at → TermsAre ix (list_to j term_at) (take (node_state_words * j) states) 0 → TermsAre ix (phrase_terms_of q at) (take (node_state_words * record_children q at) states) 0
  terms-all states j n e a = subst (λ (z : ℕ). TermsAre ix (list_to z term_at) (take (node_state_words * z) states) 0) e a

-- ---- the whole part: the record, then the terms
abbrev pub phrase_state : ℕ → ℕ → ℕ → ℕ → ℕ → ℕ → State
phrase_state size field fixed bits scores norms =
    record zero_state { kind = 2; size = size; field = field; constant = fixed; weight = bits; scores = scores; norms = norms }

-- the words after the record stay as they are when the record is written
take-both : (s : State) (zs : List ℕ) (n : ℕ) → take (node_state_words + n) (words_of s ++ zs) ≡ words_of s ++ take n zs
take-both s zs n = rw (record-and n)
  where
    record-and : (n : ℕ) → node_state_words + n ≡ suc (suc (suc (suc (suc (suc (suc (suc (suc (suc (suc (suc (suc (suc (suc (suc (suc (suc (suc (suc (suc (suc (suc (suc (suc (suc (suc (suc (suc (suc (suc (suc n)))))))))))))))))))))))))))))))
    record-and n = omega arith

module _ (ix : Index) (ranges q states₀ out post states : List ℕ) (at d scores size : ℕ) (x : Float) (bits : ℕ) (is : FloatIs x bits) where
  pub placed-phrase : (b : Bool) (fixed field norms : ℕ) → node_state_words ≤ length states₀ → states ≡ words_of (phrase_state size field fixed bits scores norms) ++ drop node_state_words (take node_state_words states₀ ++ (out ++ post)) → node_state_words + node_state_words * record_children q at ≤ length states → size ≡ node_state_words + node_state_words * record_children q at → fixed ≡ cond b 1 0 → field ≡ record_value q at 0 → norms ≡ norms_word ix field → node_state_words * record_children q at ≤ length out → TermsAre ix (phrase_terms_of q at) (take (node_state_words * record_children q at) out) 0 → Placed ix ranges (leaf (phrase (record_value q at 0) (phrase_terms_of q at)) (scoring_of b x)) d scores size states
  unfolding size_of leaf_size Windowed LeafWindowed
  placed-phrase b fixed field norms room e within sized k f m enough terms =
      let n = node_state_words * record_children q at in
      let s = phrase_state size field fixed bits scores norms in
      let long : length (take node_state_words states₀) ≡ node_state_words = let l = length-take node_state_words states₀ in omega (arith, l, room) in
      let many = length-list_to (record_children q at) (term_at ix q at) in
      let whole : size ≡ node_state_words + node_state_words * length (phrase_terms_of q at) = omega (arith, sized, many) in
      let rest = drop_at (take node_state_words states₀) (out ++ post) node_state_words long in
      record {
        size_is = whole;
        within = omega (arith, sized, within);
        held = (s, take n out, ap (λ (z : ℕ). take z states) sized ∙ ap (take (node_state_words + n)) (e ∙ ap (λ (z : List ℕ). words_of s ++ z) rest) ∙ take-both s (out ++ post) n ∙ ap (λ (z : List ℕ). words_of s ++ z) (take-append-le n out post enough), refl, (record { kind-is = refl; size_is = whole; field_is = f; norms-is = m ∙ ap (norms_word ix) f; terms = unasked-terms ix (phrase_terms_of q at) (take n out) 0 0 terms; frequencies = λ p g e. absurd (false≢true e); worked-out = λ d z. absurd (no-work d z) }, refl), scored x bits is b s k refl, unasked-stored (leaf_matches ix (phrase (record_value q at 0) (phrase_terms_of q at))) s 0);
      }
    where
      no-work : (d : ℕ) → 0 ≡ suc d → ⊥
      no-work d e = omega (arith, e)
