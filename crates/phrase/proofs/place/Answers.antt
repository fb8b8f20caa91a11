-- The common part ascends, so its first start is the least.
use Rattle.std.proofs.Common.{sym, subst, ◌∙◌, Option, ℤ}
use Rattle.phrase_starts.specs.Terms.{start_lists}
use Rattle.phrase_starts.proofs.Records.{lists-some}
use Rattle.phrase.specs.Place.{PlacedIn}
use Rattle.phrase.proofs.Places.{first-placed}
use Rattle.phrase.proofs.place.Goals as goal

pub returns : goal.returns
returns c =
    let a = c.args in
    let k = c.common in
    let g = c.requires.0 in
    let xss = start_lists a.positions.now a.terms.now in
    subst (λ (o : Option ℤ). PlacedIn xss o) (sym (c.copied.ensures ∙ c.first.ensures.value)) (first-placed xss k.result.now (lists-some a.positions.now a.terms.now g.whole g.some) k.ensures.0)
