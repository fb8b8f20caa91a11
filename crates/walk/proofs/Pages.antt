-- The live matches from a document on: the first, and those behind it. Assumes nothing.
use Rattle.std.proofs.lemmas.Bool.{and_parts}
use mathlib.Core.Path.{◌≡◌, refl, sym, ap, ◌∙◌}
use mathlib.Core.Bool.{Bool, true, false, ◌&&◌}
use mathlib.Core.List.{List, [], ◌∷◌, ◌++◌}
use Prim.Native.Nat.{ℕ, suc, ◌≤◌, ◌<◌}
use native.Mathlib.Omega.{arith}
use lib.Dec.{ltb}
use lib.ListN.{length, drop, set, get_or, length-append}
use lib.Seq.{take_at, drop_at, drop-cons, set_at, append_snoc}
use borrow.Author.Tests.{lt-ltb, ltb-true}
use Rattle.meaning.specs.Limits.{no_more_docs}
use Rattle.meaning.specs.Lent.{Index}
use Rattle.meaning.specs.Live.{is_live}
use Rattle.meaning.specs.First.{First}
use Rattle.meaning.specs.FullList.{ScoreDoc}
use Rattle.meaning.specs.Pages.{page, from_target, first_doc}
use Rattle.meaning.specs.Entries.{written}
use Rattle.tree_weight.specs.ScorerTree.{Scorer, matches}
use Rattle.walk.specs.Walks.{live_match, scored, live_scored}
use Rattle.walk.proofs.Left.{none_left, first-left}

-- ---- of an index and a scorer
module _ (ix : Index) (s : Scorer) where
  pub match-below : (d : ℕ) → d < ix.max_doc → live_match ix s d ≡ false → is_live ix d && matches ix s d ≡ false
  unfolding live_match
  match-below d l e = sym (ap (λ (b : Bool). b && (is_live ix d && matches ix s d)) (lt-ltb d ix.max_doc l)) ∙ e

  pub match_is : (d : ℕ) → live_match ix s d ≡ true → (d < ix.max_doc) × (is_live ix d && matches ix s d ≡ true) × (matches ix s d ≡ true)
  unfolding live_match
  match_is d e = let a = and_parts (ltb d ix.max_doc) (is_live ix d && matches ix s d) e in (ltb-true d ix.max_doc a.0, a.1, (and_parts (is_live ix d) (matches ix s d) a.1).1)

  pub walk_end : ix.max_doc ≤ no_more_docs → (t r : ℕ) → First (live_match ix s) t r → (r < no_more_docs → ⊥) → from_target t (live_scored ix s) ≡ []
  unfolding live_scored
  walk_end few t r f m = none_left (scored ix s) (λ d. refl) (λ d. is_live ix d && matches ix s d) ix.max_doc t (λ d a b. match-below d b (f.before d a (omega arith)))

  pub walk-next : (t r : ℕ) → First (live_match ix s) t r → r < no_more_docs → from_target t (live_scored ix s) ≡ scored ix s r ∷ from_target (suc r) (live_scored ix s)
  unfolding live_scored
  walk-next t r f m =
      let h = match_is r (f.hit m) in
      first-left (scored ix s) (λ d. refl) (λ d. is_live ix d && matches ix s d) ix.max_doc t r f.from h.0 h.1 (λ d a b. match-below d (omega (arith, h.0)) (f.before d a b))

-- ---- the page, from what is given and what is left
pub page-given : (t m : ℕ) (list xs ys : List ScoreDoc) → from_target t list ≡ xs ++ ys → length xs ≡ m → page t m list ≡ record { given = xs; next = first_doc ys }
unfolding page
page-given t m list xs ys e l = rw (e, take_at xs ys m l, drop_at xs ys m l)

pub page-all : (t m : ℕ) (list xs : List ScoreDoc) → from_target t list ≡ xs → length xs ≤ m → page t m list ≡ record { given = xs; next = no_more_docs }
unfolding page first_doc
page-all t m list xs e l = rw (e, lib.Seq.take_all m xs l, lib.ListN.drop_of_length-le xs l)

-- one more written behind what is written
pub write-next : (xs l : List ℕ) (v g : ℕ) → length xs ≡ g → g < length l → set (written xs l) g v ≡ written (xs ++ (v ∷ [])) l
write-next xs l v g e h =
    let a : drop (length xs) l ≡ get_or l (length xs) 0 ∷ drop (suc (length xs)) l = drop-cons l (length xs) 0 (omega arith) in
    let n : length (xs ++ (v ∷ [])) ≡ suc (length xs) = omega (arith, length-append xs (v ∷ [])) in
    ap (λ (i : List ℕ). set (xs ++ i) g v) a ∙ set_at xs (get_or l (length xs) 0) (drop (suc (length xs)) l) v g e ∙ sym (append_snoc xs v (drop (suc (length xs)) l)) ∙ sym (ap (λ (i : ℕ). (xs ++ (v ∷ [])) ++ drop i l) n)
