-- The rarest term's starts are the first candidates; what the other terms leave of them is the common part of all.
use Rattle.std.proofs.Common.{◌≡◌, sym, ap, subst, ◌∙◌, List, ℕ, ◌+◌, ◌≤◌, ◌<◌, length, take, get_or, ℤ, arith}
use native.Mathlib.Nat.{le_trans}
use Rattle.meaning.specs.Phrase.{multiplicity}
use Rattle.phrase_starts.specs.Terms.{term_at, starts_of, start_lists, Good, Room, Rarest}
use Rattle.phrase_starts.specs.Common.{Ascending, Common}
use Rattle.phrase_starts.proofs.Records.{starts-length, starts-ascending}
use Rattle.phrase.specs.Step.{CandidatesHeld, unmet_from, Candidates, Left}
use Rattle.phrase.proofs.Steps.{left_end, unmet-start, unmet-not-past, left-unmet, left-of-all}
use Rattle.phrase.proofs.common.Goals.{After-write_starts}
use Rattle.phrase.proofs.common.Goals as goal

-- the rarest term's starts have room where some term's have
enough-room : (ts : List ℕ) (r places : ℕ) → Rarest ts r → Room ts places → get_or ts (r + 1) 0 ≤ places
enough-room ts r places h m = le_trans (h.least m.term m.record-start m.one-of-them) m.enough

module _ {ps ts : List ℕ} (g : Good ps ts) {r : ℕ} (h : Rarest ts r) {cs : List ℤ} (e : cs ≡ starts_of ps (term_at ts r)) where
  long : length cs ≡ get_or ts (r + 1) 0
  long = ap length e ∙ starts-length ps (term_at ts r)

  held : CandidatesHeld ps ts r cs
  held =
      record {
        good = g;
        rarest-start = h.record-start;
        rarest-there = h.one-of-them;
        of-the-rarest = λ s. (let q = ap (multiplicity s) e in omega (arith, q));
        rising = subst Ascending (sym e) (starts-ascending ps (term_at ts r) (g.each r h.record-start h.one-of-them));
      }

  begun : (at places : ℕ) → Room ts places → (unmet_from r 0 < length ts) × (at ≡ unmet_from r 0) → Candidates ps ts r at cs places
  begun at places m u =
      record {
        held = held;
        record-start = (let q = unmet-start ps ts r cs held 0 (omega arith) (omega arith) in omega (arith, q, u.1));
        there = omega (arith, u.0, u.1);
        room = (let q = enough-room ts r places h m in omega (arith, q, long));
      }

  -- what the other terms leave is the common part of all
  ended : (zs : List ℤ) → Left ps ts (unmet_from r 0) cs zs → Common (start_lists ps ts) zs
  ended zs l =
      left-of-all ps ts r zs g h.record-start h.one-of-them
      (subst (λ (k : List ℤ). Left ps ts 0 k zs) e (left-unmet ps ts r cs held 0 (omega arith) (omega arith) zs l))

  -- without others that is the term's own starts
  alone : (unmet_from r 0 < length ts → ⊥) → Common (start_lists ps ts) cs
  alone n =
      let q = unmet-not-past ps ts r cs held 0 (omega arith) (omega arith) in
      ended cs (left_end ps ts (unmet_from r 0) cs (omega (arith, q, n)) held.rising)

  left-common : (at : ℕ) (zs : List ℤ) → at ≡ unmet_from r 0 → Left ps ts at cs zs → get_or ts (r + 1) 0 < 4294967296 → Common (start_lists ps ts) zs × (length zs < 4294967296)
  left-common at zs u l b = (ended zs (subst (λ (n : ℕ). Left ps ts n cs zs) u l), omega (arith, l.no_more, long, b))

-- what was written are the rarest term's starts
are : (c : After-write_starts) → take c.term_at-t.result.freq c.write_starts.new.out ≡ starts_of c.args.positions.now (term_at c.args.terms.now c.rarest-best.result)
are c = c.write_starts.ensures ∙ ap (starts_of c.args.positions.now) c.term_at-t.ensures

pub returns-in_default : goal.returns-in_default
returns-in_default c =
    let e = are (goal.at.returns-in_default c).After-write_starts in
    let k = c.type_inv.terms (c.rarest-best.result + 1) in
    (alone c.requires.0 c.rarest-best.ensures e c.in_default.ensures, omega (arith, long c.requires.0 c.rarest-best.ensures e, k.fits))

pub meet-left-requires : goal.meet-left-requires
meet-left-requires c =
    begun c.requires.0 c.rarest-best.ensures (are (goal.at.meet-left-requires c).After-write_starts) c.in-Some.at (length c.args.other_starts.now) c.requires.1.1 c.in-Some.ensures

pub returns-in-None : goal.returns-in-None
returns-in-None c =
    let k = c.type_inv.terms (c.rarest-best.result + 1) in
    let l = rw c.in-None.is at c.meet-left.ensures in
    left-common c.requires.0 c.rarest-best.ensures (are (goal.at.returns-in-None c).After-write_starts) c.in-Some.at c.meet-left.result.0.now c.in-Some.ensures.1 l k.fits

pub returns-in-Some-next : goal.returns-in-Some-next
returns-in-Some-next c =
    let k = c.type_inv.terms (c.rarest-best.result + 1) in
    let f = rw c.in-Some-next.is at c.meet-left.ensures in
    left-common c.requires.0 c.rarest-best.ensures (are (goal.at.returns-in-Some-next c).After-write_starts) c.in-Some.at c.survivors.result.now c.in-Some.ensures.1 (f.on c.survivors.result.now c.survivors.ensures) k.fits
