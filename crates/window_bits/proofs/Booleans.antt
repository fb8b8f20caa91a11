-- A Boolean's children, asked for a window: the words of its three groups, and the four questions one after the other. Assumes nothing.
use Rattle.std.proofs.Common.{◌≡◌, refl, sym, ap, ap₂, ◌∙◌, subst, inl, inr, ⊎_elim, Bool, true, false, not, cond, ◌&&◌, List, [], ◌++◌, ℕ, ◌+◌, ◌-◌, ◌≤◌, ◌<◌, max, ltb, length, take, drop, take_at, drop_at, append_assoc, append-nil, length-append, arith}
use Rattle.std.proofs.lemmas.Bool.{false≢true, and_parts, and_from, cases_lt, false_from_ne_true}
use mathlib.Core.Bool.{and-false}
use Rattle.meaning.specs.Limits.{no_more_docs}
use Rattle.meaning.specs.Lent.{Index}
use Rattle.bits.specs.Bit.{bit}
use Rattle.tree_weight.specs.ScorerTree.{Scorers, any_matches}
use Rattle.scorer_leaf.specs.declared.PhraseBuffers.{PhraseBuffers}
use Rattle.scorer_leaf.specs.Calls.{Lists, RoomIn}
use Rattle.scorer_leaf.specs.Buffers.{room, other_room, SameBuffers}
use Rattle.scorer_leaf.proofs.Loops.{same_refl, same_then}
use Rattle.window_words.specs.Windowed.{nowhere, places_of, optional_bound, AllWindowed}
use Rattle.window_words.proofs.Laws.{all-less, all-mono, all-length}
use Rattle.window_leaf.specs.Asks.{Answers, Wanted, lent_at}
use Rattle.window_bits.specs.Parts.{asked_before, asked_by, asked_after, all_of, Through, SomeWindowed, Called, RequiredBitsPre, RequiredBitsPost, PhrasesPost, PartsBitsPre, enough, OptionalBitsPost, ExcludedPost, BooleanWindowed, parts_take, BooleanKnown}
use Rattle.window_bits.proofs.Matching.{all-passes}
use Rattle.window_bits.proofs.Passes.{before-first, between, after-last}

-- ---- words of three groups, with where the first and the second end
pub record Three (kids x v z : List ℕ) (e o : ℕ) : Type 0 where
  pub is : kids ≡ x ++ (v ++ z)
  pub first-end : e ≡ length x
  pub second-end : o ≡ length x + length v

module _ {kids x v z : List ℕ} {e o : ℕ} (s : Three kids x v z e o) where
  pub three-length : length kids ≡ length x + (length v + length z)
  three-length = omega (arith, ap length s.is, length-append x (v ++ z), length-append v z)

  pub three-first : take e kids ≡ x
  three-first = rw (s.is, take_at x (v ++ z) e (sym s.first-end)) refl

  after-first : drop e kids ≡ v ++ z
  after-first = rw (s.is, drop_at x (v ++ z) e (sym s.first-end)) refl

  pub three-second : take (o - e) (drop e kids) ≡ v
  three-second = let h : length v ≡ o - e = omega (arith, s.first-end, s.second-end) in rw (after-first, take_at v z (o - e) h) refl

  joined-two : kids ≡ (x ++ v) ++ z
  joined-two = s.is ∙ sym (append_assoc x v z)

  two-end : length (x ++ v) ≡ o
  two-end = omega (arith, length-append x v, s.second-end)

  third-words : drop o kids ≡ z
  third-words = ap (drop o) joined-two ∙ drop_at (x ++ v) z o two-end

  pub three-third : take (length kids - o) (drop o kids) ≡ z
  three-third = let h : length z ≡ length kids - o = omega (arith, three-length, s.second-end) in ap (take (length kids - o)) (third-words ∙ sym (append-nil z)) ∙ take_at z [] (length kids - o) h

  -- other words in the first group, the second or the third
  pub put-first : (x' : List ℕ) → length x' ≡ length (take e kids) → Three (x' ++ drop e kids) x' v z e o
  put-first x' m =
      let l : length x' ≡ length x = m ∙ ap length three-first in
      record { is = ap (λ (q : List ℕ). x' ++ q) after-first; first-end = s.first-end ∙ sym l; second-end = omega (arith, s.second-end, l) }

  pub put-second : (v' : List ℕ) → length v' ≡ length (take (o - e) (drop e kids)) → Three (take e kids ++ (v' ++ drop (o - e) (drop e kids))) x v' z e o
  put-second v' m =
      let l : length v' ≡ length v = m ∙ ap length three-second in
      let h : length v ≡ o - e = omega (arith, s.first-end, s.second-end) in
      let d : drop (o - e) (drop e kids) ≡ z = ap (drop (o - e)) after-first ∙ drop_at v z (o - e) h in
      record { is = ap₂ (λ (p q : List ℕ). p ++ (v' ++ q)) three-first d; first-end = s.first-end; second-end = omega (arith, s.second-end, l) }

  pub put-third : (z' : List ℕ) → Three (take o kids ++ (z' ++ drop (length kids - o) (drop o kids))) x v z' e o
  put-third z' =
      let t : take o kids ≡ x ++ v = ap (take o) joined-two ∙ take_at (x ++ v) z o two-end in
      let h : length z ≡ length kids - o = omega (arith, three-length, s.second-end) in
      let d : drop (length kids - o) (drop o kids) ≡ [] = ap (drop (length kids - o)) (third-words ∙ sym (append-nil z)) ∙ drop_at z [] (length kids - o) h in
      record {
        is = ap₂ (λ (p q : List ℕ). p ++ (z' ++ q)) t d ∙ ap (λ (q : List ℕ). (x ++ v) ++ q) (append-nil z') ∙ append_assoc x v z';
        first-end = s.first-end;
        second-end = s.second-end;
      }

-- ---- what is left of the wanted
taken : (w a b n e : Bool) → ((((w && a) && e) && n) && b) ≡ (w && ((a && b) && n && e))
taken false a b n e = refl
taken true false b n e = refl
taken true true b n false = sym (and-false (b && n))
taken true true true true true = refl
taken true true false true true = refl
taken true true true false true = refl
taken true true false false true = refl

not-first : (a b n e : Bool) → a ≡ false → ((a && b) && n && e) ≡ false
not-first a b n e h = ap (λ (t : Bool). (t && b) && n && e) h

not-second : (a b n e : Bool) → b ≡ false → ((a && b) && n && e) ≡ false
not-second true b n e h = ap (λ (t : Bool). t && n && e) h
not-second false b n e h = refl

not-enough : (a b n e : Bool) → e ≡ false → ((a && b) && n && e) ≡ false
not-enough a b n e h = ap (λ (t : Bool). (a && b) && n && t) h ∙ and-false ((a && b) && n)

bound-same : (t : Bool) (b : ℕ) → cond t b b ≤ b
bound-same true b = omega arith
bound-same false b = omega arith

-- ---- the four questions
-- what was asked of a Boolean's children: room for a phrase is needed where they are asked, and not for what they answer
pub record Entry (E : Lists) (kids : List ℕ) (e o need base want k : ℕ) : Type 0 where
  pub n : ℕ
  pub ix : Index
  pub places : ℕ
  pub rs : Scorers
  pub os : Scorers
  pub ps : Scorers
  pub small : base + 64 ≤ no_more_docs
  pub wanted : Wanted n base want
  pub known : BooleanKnown (lent_at E n) ix places rs os ps
  pub held : BooleanWindowed ix E.ranges rs os ps k e o need kids base base nowhere

-- .. and what each question leaves
pub record FirstPass (E : Lists) (b b' : PhraseBuffers) (kids : List ℕ) (base want k r next : ℕ) (skip : Bool) (kids' : List ℕ) : Type 0 where
  pub same_length : length kids' ≡ length kids
  pub post : RequiredBitsPost E (room b) (other_room b) kids false base want k r next skip kids'
  pub same_buffers : SameBuffers b b'

pub record OptionalAsked (E : Lists) (b b' : PhraseBuffers) (kids : List ℕ) (need base want k r next : ℕ) (kids' : List ℕ) : Type 0 where
  pub same_length : length kids' ≡ length kids
  pub post : OptionalBitsPost E (room b) (other_room b) kids need base want k r next kids'
  pub same_buffers : SameBuffers b b'

pub record ExcludedAsked (E : Lists) (b b' : PhraseBuffers) (kids : List ℕ) (base want k r : ℕ) (kids' : List ℕ) : Type 0 where
  pub post : ExcludedPost E (room b) (other_room b) kids base want k r kids'
  pub same_buffers : SameBuffers b b'

pub record SecondPass (E : Lists) (b : PhraseBuffers) (kids : List ℕ) (skip : Bool) (base want k r next : ℕ) (kids' : List ℕ) : Type 0 where
  pub same_length : length kids' ≡ length kids
  pub post : PhrasesPost E (room b) (other_room b) kids skip base want k r next kids'

called-on : (E : Lists) {n places base want : ℕ} {b b' : PhraseBuffers} → base + 64 ≤ no_more_docs → Wanted n base want → RoomIn places (room b) (other_room b) → SameBuffers b b' → Called (lent_at E n) places (room b') (other_room b') base want
called-on E h w r s = record { small = h; wanted = w; room = record { in-starts = omega (arith, r.in-starts, s.starts_length); in-other = omega (arith, r.in-other, s.other_starts_length) } }

module _ {E : Lists} {kids : List ℕ} {e o need base want k : ℕ} (s : Entry E kids e o need base want k) where
  pub words₀ : Three kids s.held.x s.held.v s.held.z e o
  words₀ =
      let l = all-length s.ix E.ranges s.rs k s.held.x base base nowhere s.held.required in
      let m = all-length s.ix E.ranges s.os k s.held.v (optional_bound need base base) base (λ p. ltb 0 need && nowhere p) s.held.optional in
      record { is = s.held.is; first-end = s.held.required-end ∙ sym l; second-end = omega (arith, s.held.optional-end, l, m) }

  held₁ : SomeWindowed (asked_before false) s.ix E.ranges s.rs k (take e kids) base (places_of want)
  held₁ = subst (λ (q : List ℕ). SomeWindowed (asked_before false) s.ix E.ranges s.rs k q base (places_of want)) (sym (three-first words₀)) (before-first s.ix E.ranges k base s.rs s.held.x (places_of want) s.held.required)

  pub first-pre : (b : PhraseBuffers) → RoomIn s.places (room b) (other_room b) → RequiredBitsPre E (room b) (other_room b) (take e kids) false base want k
  first-pre b h = (s.n, s.ix, s.places, s.rs, called-on E s.small s.wanted h (same_refl b), s.known.required, held₁)

  module _ {b b₁ : PhraseBuffers} {r₁ next₁ : ℕ} {skip : Bool} {x₁ : List ℕ} (q₁ : FirstPass E b b₁ (take e kids) base want k r₁ next₁ skip x₁) where
    pub done₁ : Answers (all_of (asked_by false) s.ix s.rs) base (places_of want) r₁ next₁ × SomeWindowed (asked_after false) s.ix E.ranges s.rs k x₁ base (places_of r₁) × (skip ≡ false → Through false s.rs r₁)
    done₁ = q₁.post s.n s.ix s.places s.rs s.wanted s.known.required held₁

    kids₁ : List ℕ
    kids₁ = x₁ ++ drop e kids

    pub words₁ : Three (x₁ ++ drop e kids) x₁ s.held.v s.held.z e o
    words₁ = put-first words₀ x₁ q₁.same_length

    within₁ : (p : ℕ) → p < 64 → bit p r₁ ≡ true → bit p want ≡ true
    within₁ p l t = (and_parts (bit p want) (all_of (asked_by false) s.ix s.rs (base + p)) (sym (done₁.0.bits p l) ∙ t)).0

    wanted₁ : Wanted s.n base r₁
    wanted₁ p l t = s.wanted p l (within₁ p l t)

    held₂ : AllWindowed s.ix E.ranges s.os k (take (o - e) (drop e (x₁ ++ drop e kids))) base base nowhere
    held₂ =
        let c : ℕ = optional_bound need base base in
        subst (λ (q : List ℕ). AllWindowed s.ix E.ranges s.os k q base base nowhere) (sym (three-second words₁)) (all-less s.ix E.ranges s.os k s.held.v base base (λ p. ltb 0 need && nowhere p) nowhere (λ p l t. absurd (false≢true t)) (all-mono s.ix E.ranges s.os k s.held.v c base (λ p. ltb 0 need && nowhere p) base (bound-same (ltb 0 need) base) s.held.optional))

    pub optional-pre : RoomIn s.places (room b) (other_room b) → PartsBitsPre E (room b₁) (other_room b₁) (take (o - e) (drop e (x₁ ++ drop e kids))) base r₁ k
    optional-pre h = (s.n, s.ix, s.places, s.os, called-on E s.small wanted₁ h q₁.same_buffers, s.known.optional, held₂)

    module _ {b₂ : PhraseBuffers} {r₂ next₂ : ℕ} {v₂ : List ℕ} (q₂ : OptionalAsked E b₁ b₂ (take (o - e) (drop e (x₁ ++ drop e kids))) need base r₁ k r₂ next₂ v₂) {kids₂ : List ℕ} (is₂ : kids₂ ≡ take e (x₁ ++ drop e kids) ++ (v₂ ++ drop (o - e) (drop e (x₁ ++ drop e kids)))) where
      done₂ : Answers (enough s.ix s.os need) base (places_of r₁) r₂ next₂ × AllWindowed s.ix E.ranges s.os k v₂ (optional_bound need (base + 64) base) base (λ p. ltb 0 need && bit p r₂)
      done₂ = q₂.post s.n s.ix s.places s.os wanted₁ s.known.optional held₂

      pub words₂ : Three kids₂ x₁ v₂ s.held.z e o
      words₂ = subst (λ (q : List ℕ). Three q x₁ v₂ s.held.z e o) (sym is₂) (put-second words₁ v₂ q₂.same_length)

      within₂ : (p : ℕ) → p < 64 → bit p r₂ ≡ true → bit p r₁ ≡ true
      within₂ p l t = (and_parts (bit p r₁) (enough s.ix s.os need (base + p)) (sym (done₂.0.bits p l) ∙ t)).0

      wanted₂ : Wanted s.n base r₂
      wanted₂ p l t = wanted₁ p l (within₂ p l t)

      held₃ : AllWindowed s.ix E.ranges s.ps k (take (length kids₂ - o) (drop o kids₂)) base base nowhere
      held₃ = subst (λ (q : List ℕ). AllWindowed s.ix E.ranges s.ps k q base base nowhere) (sym (three-third words₂)) s.held.prohibited

      pub excluded-pre : RoomIn s.places (room b) (other_room b) → PartsBitsPre E (room b₂) (other_room b₂) (take (length kids₂ - o) (drop o kids₂)) base r₂ k
      excluded-pre h = (s.n, s.ix, s.places, s.ps, called-on E s.small wanted₂ h (same_then q₁.same_buffers q₂.same_buffers), s.known.prohibited, held₃)

      module _ {b₃ : PhraseBuffers} {r₃ : ℕ} {z₃ : List ℕ} (q₃ : ExcludedAsked E b₂ b₃ (take (length kids₂ - o) (drop o kids₂)) base r₂ k r₃ z₃) {kids₃ : List ℕ} (is₃ : kids₃ ≡ take o kids₂ ++ (z₃ ++ drop (length kids₂ - o) (drop o kids₂))) where
        done₃ : ((p : ℕ) → p < 64 → bit p r₃ ≡ (bit p r₂ && not (any_matches s.ix s.ps (base + p)))) × AllWindowed s.ix E.ranges s.ps k z₃ (base + 64) base nowhere
        done₃ = q₃.post s.n s.ix s.places s.ps wanted₂ s.known.prohibited held₃

        pub words₃ : Three kids₃ x₁ v₂ z₃ e o
        words₃ = subst (λ (q : List ℕ). Three q x₁ v₂ z₃ e o) (sym is₃) (put-third words₂ z₃)

        within₃ : (p : ℕ) → p < 64 → bit p r₃ ≡ true → bit p r₂ ≡ true
        within₃ p l t = (and_parts (bit p r₂) (not (any_matches s.ix s.ps (base + p))) (sym (done₃.0 p l) ∙ t)).0

        wanted₃ : Wanted s.n base r₃
        wanted₃ p l t = wanted₂ p l (within₃ p l t)

        held₄ : SomeWindowed (asked_before true) s.ix E.ranges s.rs k (take e kids₃) base (places_of r₃)
        held₄ = subst (λ (q : List ℕ). SomeWindowed (asked_before true) s.ix E.ranges s.rs k q base (places_of r₃)) (sym (three-first words₃)) (between s.ix E.ranges k base s.rs x₁ (places_of r₁) (places_of r₃) (λ p l t. within₂ p l (within₃ p l t)) done₁.1)

        through₄ : skip ≡ false → Through false s.rs r₃
        through₄ h = ⊎_elim (λ none. inl (λ p l. false_from_ne_true (bit p r₃) (λ t. false≢true (sym (none p l) ∙ within₂ p l (within₃ p l t))))) (λ t. inr t) (done₁.2 h)

        pub second-pre : RoomIn s.places (room b) (other_room b) → RequiredBitsPre E (room b₃) (other_room b₃) (take e kids₃) true base r₃ k
        second-pre h = (s.n, s.ix, s.places, s.rs, called-on E s.small wanted₃ h (same_then q₁.same_buffers (same_then q₂.same_buffers q₃.same_buffers)), s.known.required, held₄)

        module _ {r₄ next₄ : ℕ} {x₄ : List ℕ} (q₄ : SecondPass E b₃ (take e kids₃) skip base r₃ k r₄ next₄ x₄) {next₃ next : ℕ} (j₃ : next₃ ≡ max next₁ next₂) (j₄ : next ≡ max next₃ next₄) where
          done₄ : Answers (all_of (asked_by true) s.ix s.rs) base (places_of r₃) r₄ next₄ × SomeWindowed (asked_after true) s.ix E.ranges s.rs k x₄ base (places_of r₄)
          done₄ = q₄.post s.n s.ix s.places s.rs wanted₃ s.known.required held₄ through₄

          within₄ : (p : ℕ) → p < 64 → bit p r₄ ≡ true → bit p r₂ ≡ true
          within₄ p l t = within₃ p l (and_parts (bit p r₃) (all_of (asked_by true) s.ix s.rs (base + p)) (sym (done₄.0.bits p l) ∙ t)).0

          abbrev A : ℕ → Bool
          A d = all_of (asked_by false) s.ix s.rs d

          abbrev B : ℕ → Bool
          B d = all_of (asked_by true) s.ix s.rs d

          abbrev N : ℕ → Bool
          N d = not (any_matches s.ix s.ps d)

          taken-is : (d : ℕ) → parts_take s.ix s.rs s.os s.ps need d ≡ ((A d && B d) && N d && enough s.ix s.os need d)
          taken-is d = ap (λ (t : Bool). t && N d && enough s.ix s.os need d) (all-passes s.ix s.rs d)

          left : (p : ℕ) → p < 64 → bit p r₄ ≡ (bit p want && parts_take s.ix s.rs s.os s.ps need (base + p))
          left p l =
              let d : ℕ = base + p in
              done₄.0.bits p l
              ∙ ap (λ (t : Bool). t && B d) (done₃.0 p l ∙ ap (λ (t : Bool). t && N d) (done₂.0.bits p l ∙ ap (λ (t : Bool). t && enough s.ix s.os need d) (done₁.0.bits p l)))
              ∙ taken (bit p want) (A d) (B d) (N d) (enough s.ix s.os need d)
              ∙ ap (λ (t : Bool). bit p want && t) (sym (taken-is d))

          gap : (d : ℕ) → base + 64 ≤ d → d < next → parts_take s.ix s.rs s.os s.ps need d ≡ false
          gap d u t =
              taken-is d
              ∙ ⊎_elim
              (λ (h : d < next₁). not-first (A d) (B d) (N d) (enough s.ix s.os need d) (done₁.0.gap d u h))
              (λ (h : next₁ ≤ d).
              ⊎_elim (λ (h' : d < next₂). not-enough (A d) (B d) (N d) (enough s.ix s.os need d) (done₂.0.gap d u h')) (λ (h' : next₂ ≤ d). not-second (A d) (B d) (N d) (enough s.ix s.os need d) (done₄.0.gap d u (omega (arith, t, j₃, j₄, h, h')))) (cases_lt d next₂))
              (cases_lt d next₁)

          pub boolean-answers : Answers (parts_take s.ix s.rs s.os s.ps need) base (places_of want) r₄ next × BooleanWindowed s.ix E.ranges s.rs s.os s.ps k e o need (x₄ ++ drop e kids₃) (base + 64) base (places_of r₄)
          boolean-answers =
              let w = put-first words₃ x₄ q₄.same_length in (
                record { bits = left; gap = gap; top = omega (arith, j₃, j₄, done₁.0.top, done₂.0.top, done₄.0.top) },
                record {
                  x = x₄;
                  v = v₂;
                  z = z₃;
                  is = w.is;
                  required-end = s.held.required-end;
                  optional-end = s.held.optional-end;
                  required = after-last s.ix E.ranges k base s.rs x₄ (places_of r₄) done₄.1;
                  optional = all-less s.ix E.ranges s.os k v₂ (optional_bound need (base + 64) base) base (λ p. ltb 0 need && bit p r₂) (λ p. ltb 0 need && bit p r₄) (λ p l t. let u = and_parts (ltb 0 need) (bit p r₄) t in and_from (ltb 0 need) (bit p r₂) u.0 (within₄ p l u.1)) done₂.1;
                  prohibited = done₃.1;
                },
              )
