-- The frequency of a phrase at a place of a window, and the frequencies of the window noted in two planes. Assumes nothing.
use Rattle.std.proofs.lemmas.Bool.{and_parts}
use Rattle.std.proofs.Common.{◌≡◌, refl, sym, ap, ap₂, subst, ◌∙◌, Bool, true, false, cond, not, ◌&&◌, ◌||◌, ⊎_elim, List, ℕ, zero, suc, ◌+◌, ◌*◌, ◌≤◌, ◌<◌, min, eqb, eqb-true, eq-eqb, [], get_or, arith}
use mathlib.Core.Bool.{and-true, and-false, or-false, false≢true}
use Rattle.meaning.proofs.Tests.{decided}
use Rattle.meaning.specs.Lent.{Index}
use Rattle.meaning.specs.Phrase.{PhraseTerm, phrase_frequency}
use Rattle.scorer_leaf.specs.Phrases.{PostingsHeld}
use Rattle.window_words.specs.Windowed.{Places}
use Rattle.bits.specs.Bit.{bit, LowestBit}
use Rattle.bits.proofs.Laws.{bit-zero}
use Rattle.window_leaf.specs.Phrases.{rank_at, PhraseAsked, Noted, PlanesAre}
use Rattle.window_leaf.proofs.TermLaws.{asked_terms}

-- ---- the frequency at a place
pub asked-postings : {postings positions : List ℕ} {ix : Index} {places f : ℕ} {ts : List PhraseTerm} {base : ℕ} {D : Places} {terms : List ℕ} (place : ℕ) {P : ℕ → ℕ → Type 0} → place < 64 → D place ≡ true → ((at p : ℕ) → P at p → p ≡ 3 * (get_or terms (at + 6) 0 + get_or terms (at + 19) 0 + rank_at terms at place)) → PhraseAsked postings positions ix places f ts base D terms → PostingsHeld postings positions ix places f ts (base + place) terms P
asked-postings {ix = ix} {ts = ts} {base = base} {D = D} {terms = terms} place {P = P} low on read h =
    let a = h.asked in
    record {
      accepted = a.accepted;
      postings-are = a.postings-are;
      positions-are = h.positions-are;
      sound = h.sound;
      at = asked_terms ix a.accepted a.bound base place low D on terms P read ts [] terms refl a.held a.there (a.all place low on);
    }

-- ---- one more frequency
-- the two digits of a number up to 3
digits : (n : ℕ) → n ≤ 3 → cond (bit 0 n) 1 0 + 2 * cond (bit 1 n) 1 0 ≡ n
unfolding bit
digits zero h = refl
digits (suc zero) h = refl
digits (suc (suc zero)) h = refl
digits (suc (suc (suc zero))) h = refl
digits (suc (suc (suc (suc n)))) h = absurd (omega arith)

pub one-digits : (bit 0 1 ≡ true) × (bit 1 1 ≡ false)
unfolding bit
one-digits = (refl, refl)

pub two-digits : (bit 0 2 ≡ false) × (bit 1 2 ≡ true)
unfolding bit
two-digits = (refl, refl)

pub three-digits : (bit 0 3 ≡ true) × (bit 1 3 ≡ true)
unfolding bit
three-digits = (refl, refl)

-- a plane as it was, where the digit is not set
kept : (e a b : Bool) → b ≡ false → a ≡ (a || e && b)
kept e a b h = rw (h, and-false e, or-false a)

-- and with the place, where it is
marked : (e a b r : Bool) → b ≡ true → r ≡ (a || e) → r ≡ (a || e && b)
marked e a b r h g = rw (h, and-true e) g

module _ (ones twos place frequency n : ℕ) (least : min 3 frequency ≡ n) where
  pub noted-none : n ≡ 0 → Noted ones twos place frequency ones twos
  noted-none z =
      record {
        ones-are = λ q. kept (eqb q place) (bit q ones) (bit 0 (min 3 frequency)) (ap (bit 0) (least ∙ z) ∙ bit-zero 0);
        twos-are = λ q. kept (eqb q place) (bit q twos) (bit 1 (min 3 frequency)) (ap (bit 1) (least ∙ z) ∙ bit-zero 1);
      }

  pub noted-one : n ≡ 1 → (ones' : ℕ) → ((q : ℕ) → bit q ones' ≡ (bit q ones || eqb q place)) → Noted ones twos place frequency ones' twos
  noted-one z ones' set =
      record {
        ones-are = λ q. marked (eqb q place) (bit q ones) (bit 0 (min 3 frequency)) (bit q ones') (ap (bit 0) (least ∙ z) ∙ one-digits.0) (set q);
        twos-are = λ q. kept (eqb q place) (bit q twos) (bit 1 (min 3 frequency)) (ap (bit 1) (least ∙ z) ∙ one-digits.1);
      }

  pub noted-two : n ≡ 2 → (twos' : ℕ) → ((q : ℕ) → bit q twos' ≡ (bit q twos || eqb q place)) → Noted ones twos place frequency ones twos'
  noted-two z twos' set =
      record {
        ones-are = λ q. kept (eqb q place) (bit q ones) (bit 0 (min 3 frequency)) (ap (bit 0) (least ∙ z) ∙ two-digits.0);
        twos-are = λ q. marked (eqb q place) (bit q twos) (bit 1 (min 3 frequency)) (bit q twos') (ap (bit 1) (least ∙ z) ∙ two-digits.1) (set q);
      }

  pub noted-more : n ≡ 3 → (ones' twos' : ℕ) → ((q : ℕ) → bit q ones' ≡ (bit q ones || eqb q place)) → ((q : ℕ) → bit q twos' ≡ (bit q twos || eqb q place)) → Noted ones twos place frequency ones' twos'
  noted-more z ones' twos' first second =
      record {
        ones-are = λ q. marked (eqb q place) (bit q ones) (bit 0 (min 3 frequency)) (bit q ones') (ap (bit 0) (least ∙ z) ∙ three-digits.0) (first q);
        twos-are = λ q. marked (eqb q place) (bit q twos) (bit 1 (min 3 frequency)) (bit q twos') (ap (bit 1) (least ∙ z) ∙ three-digits.1) (second q);
      }

-- ---- the candidates, one after the other: those that are left are not noted yet
pub record Noting (ix : Index) (ts : List PhraseTerm) (base candidates left ones twos : ℕ) : Type 0 where
  pub done : (p : ℕ) → p < 64 → bit p candidates ≡ true → bit p left ≡ false → cond (bit p ones) 1 0 + 2 * cond (bit p twos) 1 0 ≡ min 3 (phrase_frequency ix ts (base + p))
  pub no-ones : (p : ℕ) → p < 64 → (bit p candidates && not (bit p left)) ≡ false → bit p ones ≡ false
  pub no-twos : (p : ℕ) → p < 64 → (bit p candidates && not (bit p left)) ≡ false → bit p twos ≡ false

module _ {ix : Index} {ts : List PhraseTerm} {base candidates : ℕ} where
  pub noting-start : Noting ix ts base candidates candidates 0 0
  noting-start = record { done = λ p l c n. absurd (false≢true (sym n ∙ c)); no-ones = λ p l e. bit-zero p; no-twos = λ p l e. bit-zero p }

  pub noting-end : {left ones twos : ℕ} → left ≡ 0 → Noting ix ts base candidates left ones twos → PlanesAre ix ts base candidates ones twos
  noting-end {left} z q =
      record {
        there = λ p l c. q.done p l c (off p);
        no-ones = λ p l c. q.no-ones p l (ap (λ (b : Bool). b && not (bit p left)) c);
        no-twos = λ p l c. q.no-twos p l (ap (λ (b : Bool). b && not (bit p left)) c);
      }
    where
      off : (p : ℕ) → bit p left ≡ false
      off p = ap (bit p) z ∙ bit-zero p

  -- the lowest of those left is noted
  module _ {left ones twos : ℕ} (q : Noting ix ts base candidates left ones twos) (t : ℕ) (low : LowestBit left t) (f : ℕ) (is : f ≡ phrase_frequency ix ts (base + t)) (one : bit t candidates ≡ true)
      (left' ones' twos' : ℕ) (others : (p : ℕ) → bit p left' ≡ (bit p left && not (eqb p t))) (noted : Noted ones twos t f ones' twos') where
    -- the place itself was not noted
    fresh : (bit t candidates && not (bit t left)) ≡ false
    fresh = rw (one, low.set)

    -- at another place nothing changes
    same-left : (p : ℕ) → eqb p t ≡ false → bit p left' ≡ bit p left
    same-left p e = others p ∙ ap (λ (b : Bool). bit p left && not b) e ∙ and-true (bit p left)

    same-ones : (p : ℕ) → eqb p t ≡ false → bit p ones' ≡ bit p ones
    same-ones p e = noted.ones-are p ∙ ap (λ (b : Bool). bit p ones || b && bit 0 (min 3 f)) e ∙ or-false (bit p ones)

    same-twos : (p : ℕ) → eqb p t ≡ false → bit p twos' ≡ bit p twos
    same-twos p e = noted.twos-are p ∙ ap (λ (b : Bool). bit p twos || b && bit 1 (min 3 f)) e ∙ or-false (bit p twos)

    -- at the place stand the digits of its frequency
    here-ones : bit t ones' ≡ bit 0 (min 3 f)
    here-ones = noted.ones-are t ∙ ap₂ (λ (a b : Bool). a || b && bit 0 (min 3 f)) (q.no-ones t low.within fresh) (eq-eqb t t refl)

    here-twos : bit t twos' ≡ bit 1 (min 3 f)
    here-twos = noted.twos-are t ∙ ap₂ (λ (a b : Bool). a || b && bit 1 (min 3 f)) (q.no-twos t low.within fresh) (eq-eqb t t refl)

    here : cond (bit t ones') 1 0 + 2 * cond (bit t twos') 1 0 ≡ min 3 (phrase_frequency ix ts (base + t))
    here = rw (here-ones, here-twos) (digits (min 3 f) (omega arith) ∙ ap (min 3) is)

    -- and it is not left
    gone : (bit t candidates && not (bit t left')) ≡ true
    gone = rw (one, others t, eq-eqb t t refl, and-false (bit t left))

    pub noting-next : Noting ix ts base candidates left' ones' twos'
    noting-next =
        record {
          done = λ p l c n.
              ⊎_elim
              (λ (e : eqb p t ≡ true). let z : t ≡ p = sym (eqb-true p t e) in subst (λ (x : ℕ). cond (bit x ones') 1 0 + 2 * cond (bit x twos') 1 0 ≡ min 3 (phrase_frequency ix ts (base + x))) z here)
              (λ (e : eqb p t ≡ false). ap₂ (λ (a b : Bool). cond a 1 0 + 2 * cond b 1 0) (same-ones p e) (same-twos p e) ∙ q.done p l c (sym (same-left p e) ∙ n))
              (decided (eqb p t));
          no-ones = λ p l n.
              ⊎_elim
              (λ (e : eqb p t ≡ true). absurd (there p e n))
              (λ (e : eqb p t ≡ false). same-ones p e ∙ q.no-ones p l (sym (ap (λ (b : Bool). bit p candidates && not b) (same-left p e)) ∙ n))
              (decided (eqb p t));
          no-twos = λ p l n.
              ⊎_elim
              (λ (e : eqb p t ≡ true). absurd (there p e n))
              (λ (e : eqb p t ≡ false). same-twos p e ∙ q.no-twos p l (sym (ap (λ (b : Bool). bit p candidates && not b) (same-left p e)) ∙ n))
              (decided (eqb p t));
        }
      where
        there : (p : ℕ) → eqb p t ≡ true → (bit p candidates && not (bit p left')) ≡ false → ⊥
        there p e n = false≢true (sym (subst (λ (x : ℕ). (bit x candidates && not (bit x left')) ≡ false) (eqb-true p t e) n) ∙ gone)

-- those left are among the candidates
pub left-among : (candidates left left' t : ℕ) → ((p : ℕ) → bit p left' ≡ (bit p left && not (eqb p t))) → ((p : ℕ) → bit p left ≡ true → bit p candidates ≡ true) → (p : ℕ) → bit p left' ≡ true → bit p candidates ≡ true
left-among candidates left left' t others among p e = among p (and_parts (bit p left) (not (eqb p t)) (sym (others p) ∙ e)).0
