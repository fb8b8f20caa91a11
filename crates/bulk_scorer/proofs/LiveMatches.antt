-- Which documents are live matches, from what is looked at one after the other. Assumes nothing.
use mathlib.Core.Path.{◌≡◌, refl, ap}
use mathlib.Core.Bool.{Bool, true, false, ◌&&◌}
use mathlib.Core.List.{List}
use Prim.Native.Nat.{ℕ, ◌*◌, ◌≤◌, ◌<◌}
use native.Mathlib.Omega.{arith}
use borrow.Author.Tests.{lt-ltb, le-ltb}
use lib.Dec.{ltb}
use lib.ListN.{length}
use Rattle.meaning.specs.Lent.{Index}
use Rattle.meaning.specs.Live.{is_live}
use Rattle.index.specs.Accepted.{Accepted}
use Rattle.index.specs.Slices.{live_only}
use Rattle.tree_weight.specs.ScorerTree.{Scorer, matches}
use Rattle.walk.specs.Walks.{live_match}

and-false : (a : Bool) → a && false ≡ false
and-false true = refl
and-false false = refl

pub live_of : (ix : Index) (live : List ℕ) (d : ℕ) → ix.live ≡ live → is_live (live_only live) d ≡ is_live ix d
unfolding is_live
live_of ix live d e = rw (← e)

-- the live words have the document's bit, where there are any
pub live-there : (ix : Index) (live : List ℕ) (d : ℕ) → Accepted ix → ix.live ≡ live → d < ix.max_doc → 0 < length live → d < 64 * length live
live-there ix live d A e l h = let n : length ix.live ≡ length live = ap length e in omega (arith, A.live_bit (omega arith) d l)

pub not-match : (ix : Index) (s : Scorer) (d : ℕ) → matches ix s d ≡ false → live_match ix s d ≡ false
unfolding live_match
not-match ix s d e = rw (e, and-false (is_live ix d)) (and-false (ltb d ix.max_doc))

pub not_live : (ix : Index) (s : Scorer) (d : ℕ) → is_live ix d ≡ false → live_match ix s d ≡ false
unfolding live_match
not_live ix s d e = rw e (and-false (ltb d ix.max_doc))

pub not-below : (ix : Index) (s : Scorer) (d : ℕ) → ix.max_doc ≤ d → live_match ix s d ≡ false
unfolding live_match
not-below ix s d l = rw (le-ltb d ix.max_doc l)

pub is-match : (ix : Index) (s : Scorer) (d : ℕ) → d < ix.max_doc → is_live ix d ≡ true → matches ix s d ≡ true → live_match ix s d ≡ true
unfolding live_match
is-match ix s d l a b = rw (lt-ltb d ix.max_doc l, a, b)
