-- What a loop that moves the words of a tree keeps. Assumes nothing.
use mathlib.Core.Path.{◌≡◌, refl, sym, ◌∙◌}
use mathlib.Core.Bool.{Bool, false}
use mathlib.Core.List.{List, ◌++◌}
use Prim.Native.Nat.{ℕ, ◌-◌, ◌≤◌, ◌<◌}
use native.Mathlib.Nat.{le_refl}
use native.Mathlib.Omega.{arith}
use lib.ListN.{length, take, drop, length-append, length-take, length-drop}
use Rattle.meaning.specs.First.{First}
use Rattle.scorer_leaf.specs.declared.PhraseBuffers.{PhraseBuffers}
use Rattle.scorer_leaf.specs.Buffers.{room, other_room, SameBuffers}
use Rattle.scorer_leaf.specs.Calls.{RoomIn}

-- the words that a loop moves, and the buffers, stay as long as they were
pub record Lengths (kids kids₀ : ℕ) (b₀ b : PhraseBuffers) : Type 0 where
  pub kids-same : kids ≡ kids₀
  pub buffers-same : SameBuffers b₀ b

pub same_refl : (b : PhraseBuffers) → SameBuffers b b
same_refl b = record { starts_length = refl; other_starts_length = refl; starts = refl; other_starts = refl }

pub same_then : {b b' b'' : PhraseBuffers} → SameBuffers b b' → SameBuffers b' b'' → SameBuffers b b''
same_then s t = record { starts_length = t.starts_length ∙ s.starts_length; other_starts_length = t.other_starts_length ∙ s.other_starts_length; starts = t.starts ∙ s.starts; other_starts = t.other_starts ∙ s.other_starts }

pub same_room : {p : ℕ} {b b' : PhraseBuffers} → RoomIn p (room b) (other_room b) → SameBuffers b b' → RoomIn p (room b') (other_room b')
same_room h s = record { in-starts = omega (arith, h.in-starts, s.starts_length); in-other = omega (arith, h.in-other, s.other_starts_length) }

-- a loop that has come to t: the property takes nothing from the target up to it
pub record Going (P : ℕ → Bool) (target t : ℕ) (H : Type 0) : Type 0 where
  pub lo : target ≤ t
  pub before : (x : ℕ) → target ≤ x → x < t → P x ≡ false
  pub held : H

pub going_start : {P : ℕ → Bool} {t : ℕ} {H : Type 0} → H → Going P t t H
going_start h = record { lo = le_refl _; before = λ x a b. absurd (omega arith); held = h }

-- a part put back
pub back-length : (kids ys : List ℕ) (at e : ℕ) → length ys ≡ length (take (e - at) (drop at kids)) → length (take at kids ++ (ys ++ drop (e - at) (drop at kids))) ≡ length kids
back-length kids ys at e h = simp (length-append, length-take, length-drop, h) (omega arith)

-- .. and the buffers lent with it
pub part_back : (kids : List ℕ) {n : ℕ} {b₀ b b' : PhraseBuffers} → Lengths (length kids) n b₀ b → (ys : List ℕ) (at e : ℕ) → length ys ≡ length (take (e - at) (drop at kids)) → SameBuffers b b' → Lengths (length (take at kids ++ (ys ++ drop (e - at) (drop at kids)))) n b₀ b'
part_back kids l ys at e h s = record { kids-same = back-length kids ys at e h ∙ l.kids-same; buffers-same = same_then l.buffers-same s }

-- the first document that has a property, of one that is the same
pub first-like : {P Q : ℕ → Bool} {t r : ℕ} → ((d : ℕ) → P d ≡ Q d) → First P t r → First Q t r
first-like {r = r} e p = record { from = p.from; top = p.top; before = λ d g h. sym (e d) ∙ p.before d g h; hit = λ h. sym (e r) ∙ p.hit h }
