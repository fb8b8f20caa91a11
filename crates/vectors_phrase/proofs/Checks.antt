-- What the checks of a term's positions tell, and what has been seen of a phrase's terms while they are checked one by
-- one. Assumes nothing.
use Rattle.std.proofs.Common.{◌≡◌, ℕ, suc, ◌+◌, ◌-◌, ◌%◌, ◌<◌, ◌≤◌, List, length, get_or, take, drop, length-take, length-drop, get_or-take, get_or-drop, ap, ◌∙◌, arith}
use Rattle.std.specs.List.{AllWithin}
use Rattle.std.specs.List.Sorted.{IsNonDecreasing}
use Rattle.phrase_starts.specs.declared.Term.{Term}
use Rattle.phrase.specs.Terms.{GoodTerm, term_at}

-- the part that is the term's own does not fall and is small
module _ (ps : List ℕ) (t : Term) (own : List ℕ) (e : own ≡ take (t.first + t.freq - t.first) (drop t.first ps)) (within : t.first + t.freq ≤ length ps) where
  long : length own ≡ t.freq
  long = let a = ap length e ∙ length-take (t.first + t.freq - t.first) (drop t.first ps) in omega (arith, a, length-drop t.first ps, within)

  same : (j : ℕ) → j < t.freq → get_or own j 0 ≡ get_or ps (t.first + j) 0
  same j h = ap (λ (xs : List ℕ). get_or xs j 0) e ∙ get_or-take (t.first + t.freq - t.first) (drop t.first ps) j 0 (omega (arith, h)) ∙ get_or-drop t.first ps j 0

  pub good-term : t.offset ≤ 2147483647 → IsNonDecreasing own → AllWithin (λ (x : ℕ). x ≤ 2147483647) own 0 (length own) → GoodTerm ps t
  good-term small sorted all =
      record {
        within = within;
        rising = λ j h. (let a = same j (omega (arith, h)) in let b = same (suc j) h in omega (arith, a, b, sorted j (suc j) 0 (omega arith) (omega (arith, h, long))));
        small = λ j h. (let a = same j h in omega (arith, a, all j 0 (omega arith) (omega (arith, h, long))));
        offset-small = small;
      }

-- the terms below a word are good, the first one's starts have room, and the rest is of whole records
pub record Seen (ps ts : List ℕ) (places at : ℕ) : Type 0 where
  pub some : 0 < length ts
  pub whole : length ts % 3 ≡ 0
  pub record-start : at % 3 ≡ 0
  pub not-past : at ≤ length ts
  pub enough : get_or ts 1 0 ≤ places
  pub each : (k : ℕ) → k % 3 ≡ 0 → k < at → GoodTerm ps (term_at ts k)
