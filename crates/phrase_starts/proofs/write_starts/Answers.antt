-- Each turn writes one start more behind the others.
use Rattle.std.proofs.Common.{◌≡◌, sym, ap, ◌∙◌, subst, List, ℕ, ◌+◌, ◌<◌, length, take, set, get_or, take-suc-set, take_all, add-one, ℤ, arith, w32}
use Rattle.std.proofs.Math.IntN.{sub_ℕ}
use mir.ValLaws.{to_z-of_z}
use Rattle.phrase_starts.specs.declared.Term.{Term}
use Rattle.phrase_starts.specs.Terms.{starts_of}
use Rattle.phrase_starts.proofs.Records.{starts-length, starts-take}
use Rattle.phrase_starts.proofs.write_starts.Goals as goal

-- one more start is written
written : (ps : List ℕ) (t : Term) (out : List ℤ) (i : ℕ) (z : ℤ) → i < t.freq → i < length out → z ≡ sub_ℕ (get_or ps (t.first + i) 0) t.offset → take i out ≡ take i (starts_of ps t) → take (i + 1) (set out i z) ≡ take (i + 1) (starts_of ps t)
written ps t out i z h k e w =
    ap (λ (n : ℕ). take n (set out i z)) (add-one i)
    ∙ take-suc-set out i z k
    ∙ rw (w, e) (sym (starts-take ps t i h))

all-written : (ps : List ℕ) (t : Term) (out : List ℤ) (i : ℕ) → i ≡ t.freq → take i out ≡ take i (starts_of ps t) → take t.freq out ≡ starts_of ps t
all-written ps t out i e w =
    subst (λ (n : ℕ). take n out ≡ take n (starts_of ps t)) e w
    ∙ take_all t.freq (starts_of ps t) (omega (arith, starts-length ps t))

pub loop-j-preserved : goal.loop-j-preserved
loop-j-preserved c =
    let a = c.args in
    let l = c.loop-j in
    let h = c.loop-j-test.true in
    written a.positions.now a.t l.out l.j _ h (omega (arith, h, l.auto.out, c.requires.1)) (to_z-of_z w32 c.start.result (record { sfits = c.start.type_inv }) ∙ c.start.ensures) l.invariant

pub returns : goal.returns
returns c =
    let a = c.args in
    let l = c.loop-j in
    all-written a.positions.now a.t l.out l.j (omega (arith, l.auto.j-end, c.loop-j-test.false)) l.invariant
