-- What the first pass found, as one list of structs. Assumes nothing.
use mathlib.Core.Path.{◌≡◌, refl, sym, ◌∙◌, ap, subst}
use mathlib.Core.Bool.{true}
use mathlib.Core.List.{List}
use Prim.Native.Nat.{ℕ, ◌-◌, ◌≤◌}
use native.Mathlib.Nat.{le_refl}
use native.Mathlib.Omega.{arith}
use borrow.Rule.Slice.PartMut.{mid_of, put_mid, mid_len, same_len_mid}
use lib.ListN.{length, get_or, take, drop, length-drop}
use lib.Seq.{take_all}
use Rattle.tree_weight.specs.Measured.{Measured}
use Rattle.tree_measure.specs.declared.Measure.{Measure}
use Rattle.tree_measure.specs.Measures.{nexts_measured, presents_measured, costs_measured, AllMeasured}
use Rattle.tree_measure.proofs.Arrays.{no_measure, present-at, presents-long}
use Rattle.tree_words.proofs.Kept.{not-none}
use Rattle.tree_words.specs.declared.place.Records.{Records}
use Rattle.tree_words.specs.Prepared.{GivenRecords, given}

abbrev pub MeasuresAre : GivenRecords → List Measure → Type 0
MeasuresAre E ms = (E.nexts ≡ nexts_measured ms) × (E.presents ≡ presents_measured ms) × (E.costs ≡ costs_measured ms)

-- what a call is given
pub found : (r : Records) → MeasuresAre (given r) r.measures.now
found r = (refl, refl, refl)

pub all-measured : (E : GivenRecords) (ms : List Measure) → MeasuresAre E ms → Measured E.index E.query E.nexts E.presents E.costs 0 → AllMeasured E.index E.query ms 0
all-measured E ms are m =
    let ix = E.index in
    subst (λ (z : List ℕ). Measured ix E.query z (presents_measured ms) (costs_measured ms) 0) are.0
    (subst (λ (z : List ℕ). Measured ix E.query E.nexts z (costs_measured ms) 0) are.1
    (subst (λ (z : List ℕ). Measured ix E.query E.nexts E.presents z 0) are.2 m))

pub measures-long : (E : GivenRecords) (ms : List Measure) → MeasuresAre E ms → (n : ℕ) → n ≤ length E.presents → n ≤ length ms
measures-long E ms are n h = let a = ap length are.1 in let b = presents-long ms in omega (arith, h, a, b)

-- one that is measured as present is marked so
pub marked : (ms : List Measure) (at : ℕ) → (get_or ms at no_measure).present ≡ true → get_or (presents_measured ms) at 0 ≡ 0 → ⊥
marked ms at e z = not-none (get_or ms at no_measure).present e (sym (present-at ms at) ∙ z)

-- the words behind a place are as many as are left, and others may stand there
abbrev pub words_behind : ℕ → List ℕ → List ℕ
words_behind a xs = mid_of a (length xs - a) xs

abbrev pub put_behind : ℕ → List ℕ → List ℕ → List ℕ
put_behind a xs ys = put_mid a (length xs - a) xs ys

pub behind-long : (a : ℕ) (xs : List ℕ) {n : ℕ} → length xs ≡ n → length (words_behind a xs) ≡ n - a
behind-long a xs e = mid_len a (length xs) xs (le_refl (length xs)) ∙ ap (λ (z : ℕ). z - a) e

pub put-long : (a : ℕ) (xs ys : List ℕ) {n : ℕ} → length xs ≡ n → length ys ≡ length (words_behind a xs) → length (put_behind a xs ys) ≡ n
put-long a xs ys e g = same_len_mid a (length xs - a) xs ys g ∙ e

-- the part of a list from a place on
pub from-there : (list : List ℕ) (n : ℕ) → take (length list - n) (drop n list) ≡ drop n list
from-there list n = let d = length-drop n list in take_all (length list - n) (drop n list) (omega (arith, d))
