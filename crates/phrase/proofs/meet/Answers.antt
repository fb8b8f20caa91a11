-- One more term leaves of the candidates what they have in common with its starts.
use Rattle.std.proofs.Common.{◌≡◌, subst, List, [], ◌∷◌, ℕ, ◌≤◌, length, take, length-take, ℤ, arith}
use Rattle.phrase_starts.specs.declared.Term.{Term}
use Rattle.phrase_starts.specs.Terms.{term_at, starts_of}
use Rattle.phrase_starts.specs.Common.{Common}
use Rattle.phrase.proofs.Steps.{meets, meets-none}
use Rattle.phrase.proofs.meet.Goals.{then-n-eq0, else-n-eq0}
use Rattle.phrase.proofs.meet.Goals as goal

-- of the term that was read
met : (ps ts : List ℕ) (at : ℕ) (cs ms : List ℤ) (t : Term) → t ≡ term_at ts at → Common (cs ∷ starts_of ps t ∷ []) ms → Common (cs ∷ starts_of ps (term_at ts at) ∷ []) ms
met ps ts at cs ms t e k = subst (λ x. Common (cs ∷ starts_of ps x ∷ []) ms) e k

few : (n : ℕ) (out cs : List ℤ) → n ≤ length cs → length (take n out) ≤ length cs
few n out cs h = omega (arith, length-take n out, h)

none : (n : ℕ) (out : List ℤ) → n ≡ 0 → length (take n out) ≡ 0
none n out h = omega (arith, length-take n out, h)

pub returns : goal.returns
returns c =
    let a = c.args in
    let i = c.intersect-n in
    let t = c.term_at in
    let ms = take i.result i.new.out in
    let m = met a.positions.now a.terms.now a.at a.cands.now ms t.result t.ensures i.ensures.1 in
    let f = few i.result i.new.out a.cands.now i.ensures.0 in
    elim c.if-n-eq0.branch [
      | then-n-eq0 w ↦ rw w.next-is (meets-none a.positions.now a.terms.now a.rarest a.at a.cands.now (length a.spare.now) c.requires ms m f (none i.result i.new.out w.if-n-eq0.true))
      | else-n-eq0 w ↦ rw w.next-is (meets a.positions.now a.terms.now a.rarest a.at a.cands.now (length a.spare.now) c.requires ms m f w.unmet-next.result w.unmet-next.ensures)
    ]
