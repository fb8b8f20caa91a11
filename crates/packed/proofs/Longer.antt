-- Packed words of two lists one after the other: of postings and of runs; so one posting or one run more at the end.
-- Assumes nothing.
use mathlib.Core.Path.{◌≡◌, refl, sym, ap, ◌∙◌}
use mathlib.Core.Bool.{Bool, cond}
use mathlib.Core.List.{List, [], ◌∷◌, ◌++◌, append_assoc}
use Prim.Native.Nat.{ℕ, zero, suc, ◌+◌, ◌*◌, ◌<◌}
use native.Mathlib.Nat.{add-zero, add_assoc, suc_inj, le_of_suc-le-suc}
use native.Mathlib.Omega.{arith}
use lib.ListN.{length, get_or, take, length-append}
use Rattle.meaning.specs.Packed.{Posting, positions_in, pack_run, pack_postings, pack_positions, postings_in, pack_firsts}

both : (at : ℕ) (a b : List ℕ) → at + length a + length b ≡ at + length (a ++ b)
both at a b = omega (arith, length-append a b)

-- ---- one run
pub positions-append : (xs ys : List Posting) → positions_in (xs ++ ys) ≡ positions_in xs ++ positions_in ys
unfolding positions_in
positions-append [] ys = refl
positions-append (x ∷ xs) ys =
    ap (λ (zs : List ℕ). x.positions ++ zs) (positions-append xs ys) ∙ sym (append_assoc x.positions (positions_in xs) (positions_in ys))

pub run-append : (p : Bool) (at : ℕ) (xs ys : List Posting) → pack_run p at (xs ++ ys) ≡ pack_run p at xs ++ pack_run p (at + length (positions_in xs)) ys
unfolding pack_run positions_in
run-append p at [] ys = ap (λ (k : ℕ). pack_run p k ys) (sym (add-zero at))
run-append p at (x ∷ xs) ys =
    ap (λ (zs : List ℕ). x.document ∷ x.frequency ∷ cond p at 0 ∷ zs)
    (run-append p (at + length x.positions) xs ys
    ∙ ap (λ (k : ℕ). pack_run p (at + length x.positions) xs ++ pack_run p k ys) (both at x.positions (positions_in xs)))

pub run_length : (p : Bool) (at : ℕ) (xs : List Posting) → length (pack_run p at xs) ≡ 3 * length xs
unfolding pack_run
run_length p at [] = refl
run_length p at (x ∷ xs) = omega (arith, run_length p (at + length x.positions) xs)

-- ---- several runs
pub postings-append : (ps qs : List Bool) (at : ℕ) (rs ss : List (List Posting))
    → length ps ≡ length rs
    → pack_postings (ps ++ qs) at (rs ++ ss) ≡ pack_postings ps at rs ++ pack_postings qs (at + length (pack_positions rs)) ss
unfolding pack_postings pack_positions
postings-append [] qs at [] ss e = ap (λ (k : ℕ). pack_postings qs k ss) (sym (add-zero at))
postings-append (p ∷ ps) qs at [] ss e = absurd (omega arith)
postings-append [] qs at (r ∷ rs) ss e = absurd (omega arith)
postings-append (p ∷ ps) qs at (r ∷ rs) ss e =
    let next = at + length (positions_in r) in
    ap (λ (zs : List ℕ). pack_run p at r ++ zs) (postings-append ps qs next rs ss (suc_inj e))
    ∙ sym (append_assoc (pack_run p at r) (pack_postings ps next rs) (pack_postings qs (next + length (pack_positions rs)) ss))
    ∙ ap (λ (k : ℕ). pack_run p at r ++ pack_postings ps next rs ++ pack_postings qs k ss) (both at (positions_in r) (pack_positions rs))

pub pack-positions-append : (rs ss : List (List Posting)) → pack_positions (rs ++ ss) ≡ pack_positions rs ++ pack_positions ss
unfolding pack_positions
pack-positions-append [] ss = refl
pack-positions-append (r ∷ rs) ss =
    ap (λ (zs : List ℕ). positions_in r ++ zs) (pack-positions-append rs ss) ∙ sym (append_assoc (positions_in r) (pack_positions rs) (pack_positions ss))

pub postings-in-append : (rs ss : List (List Posting)) → postings_in (rs ++ ss) ≡ postings_in rs + postings_in ss
unfolding postings_in
postings-in-append [] ss = omega arith
postings-in-append (r ∷ rs) ss = omega (arith, postings-in-append rs ss)

pub postings-length : (ps : List Bool) (at : ℕ) (rs : List (List Posting)) → length ps ≡ length rs → length (pack_postings ps at rs) ≡ 3 * postings_in rs
unfolding pack_postings postings_in
postings-length [] at [] e = refl
postings-length (p ∷ ps) at [] e = refl
postings-length [] at (r ∷ rs) e = absurd (omega arith)
postings-length (p ∷ ps) at (r ∷ rs) e =
    let next = at + length (positions_in r) in
    omega (arith, length-append (pack_run p at r) (pack_postings ps next rs), run_length p at r, postings-length ps next rs (suc_inj e))

-- the first posting of a run is behind those of all runs before it
pub firsts_at : (at : ℕ) (rs : List (List Posting)) (l : ℕ) → l < length rs → get_or (pack_firsts at rs) l 0 ≡ at + postings_in (take l rs)
unfolding pack_firsts postings_in
firsts_at at [] l h = absurd (omega arith)
firsts_at at (r ∷ rs) zero h = sym (add-zero at)
firsts_at at (r ∷ rs) (suc l) h =
    firsts_at (at + length r) rs l (le_of_suc-le-suc h) ∙ add_assoc at (length r) (postings_in (take l rs))
