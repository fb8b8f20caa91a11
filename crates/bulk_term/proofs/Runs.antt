-- The words of a run, cut out of the postings. Assumes nothing.
use Rattle.std.proofs.Common.{◌≡◌, ap, ◌∙◌, ℕ, ◌+◌, ◌-◌, ◌*◌, ◌/◌, ◌≤◌, ◌<◌, List, [], length, get_or, take, drop, length-take, length-drop, get_or-take, get_or-drop, arith}
use Rattle.std.specs.Simd.{first_chunks}
use Rattle.index.proofs.Chains.{chunk_word}

-- the run of m postings from posting f on
abbrev pub run-words : List ℕ → ℕ → ℕ → List ℕ
run-words ps f m = take (3 * f + 3 * m - 3 * f) (drop (3 * f) ps)

pub run_length : (ps : List ℕ) (f m : ℕ) → 3 * (f + m) ≤ length ps → length (run-words ps f m) ≡ 3 * m
run_length ps f m h = simp (length-take, length-drop) (omega (arith, h))

pub run-word : (ps : List ℕ) (f m i j : ℕ) → i < m → j < 3 → get_or (run-words ps f m) (3 * i + j) 0 ≡ get_or ps (3 * (f + i) + j) 0
run-word ps f m i j h k =
    let e : 3 * f + (3 * i + j) ≡ 3 * (f + i) + j = omega arith in
    get_or-take (3 * f + 3 * m - 3 * f) (drop (3 * f) ps) (3 * i + j) 0 (omega (arith, h, k)) ∙ get_or-drop (3 * f) ps (3 * i + j) 0 ∙ ap (λ (x : ℕ). get_or ps x 0) e

-- word j of posting i among the run's chunks
pub record-word : (records : List (List ℕ)) (ps : List ℕ) (f m : ℕ) → records ≡ first_chunks 3 (length (run-words ps f m) / 3) (run-words ps f m) → 3 * (f + m) ≤ length ps → (i j : ℕ) → i < m → j < 3 → get_or (get_or records i []) j 0 ≡ get_or ps (3 * (f + i) + j) 0
record-word records ps f m e h i j l k =
    let w : i < length (run-words ps f m) / 3 = omega (arith, run_length ps f m h, l) in
    ap (λ (rs : List (List ℕ)). get_or (get_or rs i []) j 0) e ∙ chunk_word 3 (length (run-words ps f m) / 3) (run-words ps f m) i j w k ∙ run-word ps f m i j l k
