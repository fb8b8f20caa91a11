-- To look for an absent field among the leaves' fields is to look among the leaf numbers.
use Rattle.std.proofs.Common.{◌≡◌, ℕ, ◌<◌, ◌≤◌, ◌/◌, Bool, true, false, List, length, MatchBool, sym, arith, rules, tests}
use Rattle.std.specs.List.{HoldsAt, AllWithin}
use Rattle.std.proofs.lemmas.Iterator.{cases_from_any, YieldsList-from_slice}
use borrow.Author.Tests.{le-leb, lt-leb}
use Rattle.meaning.specs.Below.{any_below}
use Rattle.meaning.specs.TokenRefusals.{wrong_leaf_field}
use Rattle.meaning.proofs.Below.{any_some, any_none}
use Rattle.tokens.proofs.TokenRecords.wrong_leaf_fields.Goals as goal

by_cases : (fields leaf_fields : List ℕ) (b : Bool) → MatchBool b ((k : ℕ) × (k < length leaf_fields) × HoldsAt (λ f. length fields / 3 ≤ f) leaf_fields k) (AllWithin (λ f. f < length fields / 3) leaf_fields 0 (length leaf_fields)) → b ≡ any_below (length leaf_fields) (wrong_leaf_field fields leaf_fields)
unfolding wrong_leaf_field
by_cases fields leaf_fields true h = sym (any_some (length leaf_fields) (wrong_leaf_field fields leaf_fields) h.0 h.1 (le-leb _ _ (h.2 0)))
by_cases fields leaf_fields false h = sym (any_none (length leaf_fields) (wrong_leaf_field fields leaf_fields) (λ l k. lt-leb _ _ (h l 0 (omega arith) k)))

pub returns : goal.returns
returns c =
    let s = c.args.self in
    let xs = s.leaf_fields.now in
    let n = length s.fields.now / 3 in
    by_cases s.fields.now xs c.any.result (cases_from_any _ _ _ (λ x. n ≤ x) (λ x. x < n) c.any.ensures.ran (YieldsList-from_slice xs cc) (λ x q k. search (rules, tests)) (λ x q k. search (rules, tests)))
