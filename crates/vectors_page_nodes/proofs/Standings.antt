-- A page that is not refused leaves the tree standing at its next match. Assumes nothing.
use mathlib.Core.Path.{◌≡◌, refl, sym, ap, subst}
use mathlib.Core.List.{List, [], ◌∷◌}
use Prim.Native.Nat.{ℕ, zero, suc}
use native.Mathlib.Omega.{arith}
use lib.ListN.{length, get_or}
use Rattle.meaning.specs.Limits.{no_more_docs}
use Rattle.meaning.specs.Lent.{Index}
use Rattle.meaning.specs.Entries.{answered, page_answer}
use Rattle.std.specs.Prelude.{Bool, true, false, cond, eqb, Some, None, IfSome, Result, Ok, Err}
use Rattle.walk.specs.declared.Listed.{Listed}
use Rattle.refusal.specs.declared.Refusal.{Refusal}
use Rattle.searcher.specs.Answers.{paged_numbers}
use Rattle.searcher.specs.declared.buffers.Buffers.{Buffers}
use Rattle.searcher.specs.WorkBuffers.{records_room}
use Rattle.tree_words.specs.declared.state.NodeState.{NodeState}
use Rattle.tree_records.specs.Records.{record_words}
use Rattle.tree_records.specs.Standing.{Standing}
use Rattle.searcher.specs.Pages.{Pages}
use Rattle.vectors_page_nodes.specs.Next.{next_of, StandsNext}

-- three numbers are an accepted call's answer
given-answer : (z g n given next : ℕ) → (0 ∷ g ∷ n ∷ []) ≡ answered z (0 ∷ given ∷ next ∷ []) (λ m. m ∷ []) → (z ≡ 0) × (n ≡ next)
given-answer zero g n given next e = (refl, ap (λ (l : List ℕ). get_or l 2 0) e)
given-answer (suc z) g n given next e = let l = ap length e in absurd (omega (arith, l))

module _ (ix : Index) (q : List ℕ) (target : ℕ) (b b' : Buffers NodeState) (documents documents' scores scores' : List ℕ) where
  stands : (r : Result Listed Refusal) → Pages ix q target (records_room b) (record_words b'.states.now) b b' documents documents' scores scores' r → IfSome (next_of r) (Standing ix q b'.ranges.now (record_words b'.states.now))
  unfolding paged_numbers page_answer
  stands (Err x) g = tt
  stands (Ok l) g = at_most (eqb l.next no_more_docs)
    where
      there : Standing ix q b'.ranges.now (record_words b'.states.now) l.next
      there = let s = given-answer _ l.given l.next _ _ g.numbers in subst (λ (m : ℕ). Standing ix q b'.ranges.now (record_words b'.states.now) m) (sym s.1) (g.standing s.0)

      at_most : (h : Bool) → IfSome (cond h None (Some l.next)) (Standing ix q b'.ranges.now (record_words b'.states.now))
      at_most true = tt
      at_most false = there

  pub stands-next : (r : Result Listed Refusal) → Pages ix q target (records_room b) (record_words b'.states.now) b b' documents documents' scores scores' r → StandsNext ix q r b'
  stands-next r g = record { stands = stands r g }
