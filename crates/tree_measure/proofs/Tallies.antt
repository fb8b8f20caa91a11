-- The tally of a Boolean's clauses says whether it has a scorer, and its cost. Assumes nothing.
use mathlib.Core.Path.{◌≡◌, refl, sym, ◌∙◌, ap, subst}
use mathlib.Core.Bool.{Bool, true, false, not, cond, ◌&&◌, ◌||◌}
use mathlib.Core.List.{List, [], ◌∷◌, ◌++◌}
use mathlib.Core.Option.{some}
use Rattle.std.specs.Prelude.{Option, Some, None}
use Prim.Native.Nat.{ℕ, zero, suc, ◌+◌, ◌-◌, ◌*◌, ◌≤◌, ◌<◌, min, max}
use native.Mathlib.Omega.{arith}
use lib.Dec.{eqb, leb, ltb}
use lib.ListN.{get_or}
use borrow.Author.Tests.{eqb-true, eqb-false, lt-ltb, le-ltb}
use Rattle.meaning.specs.Lent.{Index}
use Rattle.meaning.specs.Takes.{required_hold, shoulds_holding, shoulds_needed}
use Rattle.meaning.specs.Query.{record_count, record_children, record_value, record_kind, record_occurrence, occur_of, Tree, Occur, must, should, must_not, filter, is_required, is_should, Clauses, empty, clause, boolean, has_required, Decoded, DecodedClauses, decode, decode_clauses}
use Rattle.meaning.specs.Scorer.{has_scorer, scorers_of}
use Rattle.meaning.specs.Cost.{least, costs_of, sum, disjunction_cost, conjunction_cost, cost, costs}
use Rattle.query.proofs.Inverse.{some_same, BooleanAt, boolean-at}
use Rattle.query.proofs.Above.{first-clause}
use Rattle.query.proofs.Spans.{tree-span}
use Rattle.tree_weight.specs.Measured.{AcceptedOrder}
use Rattle.tree_weight.proofs.Standing.{deep, clauses-at}
use Rattle.tree_measure.specs.declared.Tally.{Tally}
use Rattle.tree_measure.specs.declared.Measure.{Measure}
use Rattle.tree_measure.specs.Measures.{AllMeasured, TreeMeasured}
use Rattle.tree_measure.specs.Tallied.{less, tallied, tally_present, conjunction, tally_cost}
use Rattle.tree_measure.proofs.Arrays.{no_measure, tree_measured, same_bool}

-- no clause yet
abbrev pub untallied : Tally
untallied = record { required = false; missing = false; least = None; shoulds = 0; group = 0 }

-- the tally after some clauses more
unfoldable pub after : Index → Tally → Clauses → Tally
after ix t empty = t
after ix t (clause o x cs) = after ix (tallied t o (has_scorer ix x) (cost ix x)) cs

-- ---- Bool
or_assoc : (a b c : Bool) → ((a || b) || c) ≡ (a || (b || c))
or_assoc true b c = refl
or_assoc false b c = refl

or-true : (a : Bool) → true ≡ (a || true)
or-true true = refl
or-true false = refl

or-false : (a : Bool) → a ≡ (a || false)
or-false true = refl
or-false false = refl

and_assoc : (a b c : Bool) → ((a && b) && c) ≡ (a && (b && c))
and_assoc true b c = refl
and_assoc false b c = refl

and-true : (a : Bool) → a ≡ (a && true)
and-true true = refl
and-true false = refl

and-false : (a : Bool) → false ≡ (a && false)
and-false true = refl
and-false false = refl

-- ---- one clause
step-required : (t : Tally) (o : Occur) (p : Bool) (c : ℕ) → (tallied t o p c).required ≡ (t.required || is_required o)
step-required t must true c = or-true t.required
step-required t must false c = or-true t.required
step-required t filter true c = or-true t.required
step-required t filter false c = or-true t.required
step-required t should true c = or-false t.required
step-required t should false c = or-false t.required
step-required t must_not p c = or-false t.required

step-missing : (t : Tally) (o : Occur) (p : Bool) (c : ℕ) → not (tallied t o p c).missing ≡ (not t.missing && (not (is_required o) || p))
step-missing t must true c = and-true (not t.missing)
step-missing t must false c = and-false (not t.missing)
step-missing t filter true c = and-true (not t.missing)
step-missing t filter false c = and-false (not t.missing)
step-missing t should true c = and-true (not t.missing)
step-missing t should false c = and-true (not t.missing)
step-missing t must_not p c = and-true (not t.missing)

step-shoulds : (t : Tally) (o : Occur) (p : Bool) (c : ℕ) → (tallied t o p c).shoulds ≡ t.shoulds + cond (is_should o && p) 1 0
step-shoulds t must true c = omega arith
step-shoulds t must false c = omega arith
step-shoulds t filter true c = omega arith
step-shoulds t filter false c = omega arith
step-shoulds t should true c = refl
step-shoulds t should false c = omega arith
step-shoulds t must_not p c = omega arith

step-group : (t : Tally) (o : Occur) (p : Bool) (c : ℕ) → (tallied t o p c).group ≡ t.group + cond (is_should o && p) c 0
step-group t must true c = omega arith
step-group t must false c = omega arith
step-group t filter true c = omega arith
step-group t filter false c = omega arith
step-group t should true c = refl
step-group t should false c = omega arith
step-group t must_not p c = omega arith

abbrev pub or_zero : Option ℕ → ℕ
or_zero (Some l) = l
or_zero None = 0

less-small : (f : Option ℕ) (c : ℕ) → less f c ≤ max (or_zero f) c
less-small (Some l) c = omega arith
less-small None c = omega arith

step-least : (t : Tally) (o : Occur) (p : Bool) (c : ℕ) → or_zero (tallied t o p c).least ≤ max (or_zero t.least) c
step-least t must true c = less-small t.least c
step-least t must false c = omega arith
step-least t filter true c = less-small t.least c
step-least t filter false c = omega arith
step-least t should true c = omega arith
step-least t should false c = omega arith
step-least t must_not p c = omega arith

-- ---- all clauses
pub after-required : (ix : Index) (t : Tally) (cs : Clauses) → (after ix t cs).required ≡ (t.required || has_required cs)
unfolding after has_required
after-required ix t empty = or-false t.required
after-required ix t (clause o x cs) =
    after-required ix (tallied t o (has_scorer ix x) (cost ix x)) cs
    ∙ ap (λ (b : Bool). b || has_required cs) (step-required t o (has_scorer ix x) (cost ix x))
    ∙ or_assoc t.required (is_required o) (has_required cs)

after-missing : (ix : Index) (t : Tally) (cs : Clauses) → not (after ix t cs).missing ≡ (not t.missing && required_hold (scorers_of ix cs))
unfolding after scorers_of required_hold
after-missing ix t empty = and-true (not t.missing)
after-missing ix t (clause o x cs) =
    after-missing ix (tallied t o (has_scorer ix x) (cost ix x)) cs
    ∙ ap (λ (b : Bool). b && required_hold (scorers_of ix cs)) (step-missing t o (has_scorer ix x) (cost ix x))
    ∙ and_assoc (not t.missing) (not (is_required o) || has_scorer ix x) (required_hold (scorers_of ix cs))

after-shoulds : (ix : Index) (t : Tally) (cs : Clauses) → (after ix t cs).shoulds ≡ t.shoulds + shoulds_holding (scorers_of ix cs)
unfolding after scorers_of shoulds_holding
after-shoulds ix t empty = omega arith
after-shoulds ix t (clause o x cs) =
    let e = after-shoulds ix (tallied t o (has_scorer ix x) (cost ix x)) cs in
    let f = step-shoulds t o (has_scorer ix x) (cost ix x) in
    omega (arith, e, f)

sum_step : (o : Occur) (p : Bool) (c : ℕ) (xs : List ℕ) → sum (cond (is_should o && p) (c ∷ []) [] ++ xs) ≡ cond (is_should o && p) c 0 + sum xs
unfolding sum
sum_step o p c xs = go (is_should o && p)
  where
    go : (b : Bool) → sum (cond b (c ∷ []) [] ++ xs) ≡ cond b c 0 + sum xs
    go true = refl
    go false = omega arith

after-group : (ix : Index) (t : Tally) (cs : Clauses) → (after ix t cs).group ≡ t.group + sum (costs_of is_should (costs ix cs))
unfolding after costs costs_of sum
after-group ix t empty = omega arith
after-group ix t (clause o x cs) =
    let e = after-group ix (tallied t o (has_scorer ix x) (cost ix x)) cs in
    let f = step-group t o (has_scorer ix x) (cost ix x) in
    let g = sum_step o (has_scorer ix x) (cost ix x) (costs_of is_should (costs ix cs)) in
    omega (arith, e, f, g)

-- the least of what the tally found and some costs more
abbrev join_least : Option ℕ → List ℕ → ℕ
join_least (Some l) xs = least (l ∷ xs)
join_least None xs = least xs

least-two : (a b : ℕ) (xs : List ℕ) → least (min a b ∷ xs) ≡ least (a ∷ b ∷ xs)
unfolding least
least-two a b [] = refl
least-two a b (x ∷ xs) = omega arith

join-less : (f : Option ℕ) (c : ℕ) (xs : List ℕ) → least (less f c ∷ xs) ≡ join_least f (c ∷ xs)
join-less (Some l) c xs = least-two l c xs
join-less None c xs = refl

step-found : (t : Tally) (o : Occur) (p : Bool) (c : ℕ) (xs : List ℕ) → join_least (tallied t o p c).least xs ≡ join_least t.least (cond (is_required o && p) (c ∷ []) [] ++ xs)
step-found t must true c xs = join-less t.least c xs
step-found t must false c xs = refl
step-found t filter true c xs = join-less t.least c xs
step-found t filter false c xs = refl
step-found t should true c xs = refl
step-found t should false c xs = refl
step-found t must_not true c xs = refl
step-found t must_not false c xs = refl

append-once : (b : Bool) (c : ℕ) (xs ys : List ℕ) → (cond b (c ∷ []) [] ++ xs) ++ ys ≡ cond b (c ∷ []) [] ++ (xs ++ ys)
append-once true c xs ys = refl
append-once false c xs ys = refl

after-least : (ix : Index) (t : Tally) (cs : Clauses) (ys : List ℕ) → join_least (after ix t cs).least ys ≡ join_least t.least (costs_of is_required (costs ix cs) ++ ys)
unfolding after costs costs_of
after-least ix t empty ys = refl
after-least ix t (clause o x cs) ys =
    after-least ix (tallied t o (has_scorer ix x) (cost ix x)) cs ys
    ∙ step-found t o (has_scorer ix x) (cost ix x) (costs_of is_required (costs ix cs) ++ ys)
    ∙ ap (join_least t.least) (sym (append-once (is_required o && has_scorer ix x) (cost ix x) (costs_of is_required (costs ix cs)) ys))

module _ (ix : Index) (msm : ℕ) (cs : Clauses) where
  pub tally-present : tally_present (after ix untallied cs) msm ≡ has_scorer ix (boolean msm cs)
  unfolding has_scorer shoulds_needed
  tally-present =
      ap (λ (b : Bool). b && leb (cond (after ix untallied cs).required msm (max 1 msm)) (after ix untallied cs).shoulds) (after-missing ix untallied cs)
      ∙ ap (λ (b : Bool). required_hold (scorers_of ix cs) && leb (cond b msm (max 1 msm)) (after ix untallied cs).shoulds) (after-required ix untallied cs)
      ∙ ap (λ (n : ℕ). required_hold (scorers_of ix cs) && leb (cond (has_required cs) msm (max 1 msm)) n) (shoulds (after ix untallied cs).shoulds (after-shoulds ix untallied cs))
    where
      shoulds : (n : ℕ) → n ≡ 0 + shoulds_holding (scorers_of ix cs) → n ≡ shoulds_holding (scorers_of ix cs)
      shoulds n e = omega (arith, e)

  group-is : (after ix untallied cs).group ≡ disjunction_cost (costs ix cs)
  unfolding disjunction_cost
  group-is = let e = after-group ix untallied cs in omega (arith, e)

  least-none : (f : Option ℕ) (g : ℕ) → conjunction f 0 g ≡ join_least f []
  unfolding least
  least-none (Some l) g = refl
  least-none None g = refl

  least-group : (f : Option ℕ) (g : ℕ) → eqb msm 0 ≡ false → conjunction f msm g ≡ join_least f (g ∷ [])
  unfolding least
  least-group (Some l) g e = rw e
  least-group None g e = rw e

  conjunction-is : (z : Bool) → eqb msm 0 ≡ z → conjunction (after ix untallied cs).least msm (after ix untallied cs).group ≡ conjunction_cost msm (costs ix cs)
  unfolding conjunction_cost
  conjunction-is true e =
      ap (λ (m : ℕ). conjunction (after ix untallied cs).least m (after ix untallied cs).group) (eqb-true msm 0 e)
      ∙ least-none (after ix untallied cs).least (after ix untallied cs).group
      ∙ after-least ix untallied cs []
      ∙ ap (λ (b : Bool). least (costs_of is_required (costs ix cs) ++ cond b (disjunction_cost (costs ix cs) ∷ []) [])) (sym (zero-ltb msm (eqb-true msm 0 e)))
    where
      zero-ltb : (m : ℕ) → m ≡ 0 → ltb 0 m ≡ false
      zero-ltb m e = le-ltb 0 m (omega (arith, e))
  conjunction-is false e =
      least-group (after ix untallied cs).least (after ix untallied cs).group e
      ∙ after-least ix untallied cs ((after ix untallied cs).group ∷ [])
      ∙ ap (λ (g : ℕ). least (costs_of is_required (costs ix cs) ++ (g ∷ []))) group-is
      ∙ ap (λ (b : Bool). least (costs_of is_required (costs ix cs) ++ cond b (disjunction_cost (costs ix cs) ∷ []) [])) (sym (lt-ltb 0 msm (above msm (eqb-false msm 0 e))))
    where
      above : (m : ℕ) → (m ≡ 0 → ⊥) → 0 < m
      above zero h = absurd (h refl)
      above (suc m) h = omega arith

  pub tally-cost : tally_cost (after ix untallied cs) msm ≡ cost ix (boolean msm cs)
  unfolding cost
  tally-cost =
      ap (λ (b : Bool). cond b (conjunction (after ix untallied cs).least msm (after ix untallied cs).group) (after ix untallied cs).group) (after-required ix untallied cs)
      ∙ ap (λ (x : ℕ). cond (has_required cs) x (after ix untallied cs).group) (conjunction-is (eqb msm 0) refl)
      ∙ ap (λ (g : ℕ). cond (has_required cs) (conjunction_cost msm (costs ix cs)) g) group-is

-- ---- the clauses as the code passes them: those left, and the tally so far
pub record Left (ix : Index) (q : List ℕ) (k at left next : ℕ) (t : Tally) (C : DecodedClauses) : Type 0 where
  pub rest : DecodedClauses
  pub rest-is : decode_clauses q (decode q k) left next ≡ some rest
  pub end_is : rest.next ≡ C.next
  pub tally-is : after ix t rest.clauses ≡ after ix untallied C.clauses
  pub group-small : t.group + 4294967296 * (at + 1) ≤ 4294967296 * next
  pub least-small : or_zero t.least + 4294967296 * (at + 1) ≤ 4294967296 * next
  pub few : t.shoulds + left ≤ record_children q at
  pub within : next ≤ record_count q

-- what the code asks at a clause
pub record OneLeft (q : List ℕ) (next : ℕ) (t : Tally) (m : Measure) : Type 0 where
  pub here : next < record_count q
  pub few-records : record_count q ≤ 256
  pub fits : t.group + m.cost < 18446744073709551616
  pub few : t.shoulds < 1000

module _ (ix : Index) (q : List ℕ) (k at : ℕ) (C : DecodedClauses) where
  pub left-begins : at < record_count q → decode_clauses q (decode q k) (record_children q at) (at + 1) ≡ some C → Left ix q k at (record_children q at) (at + 1) untallied C
  left-begins h e =
      record { rest = C; rest-is = e; end_is = refl; tally-is = refl; group-small = omega arith; least-small = omega arith; few = omega arith; within = omega (arith, h) }

  pub left-on : (ms : List Measure) (left next : ℕ) (t t' : Tally) → AllMeasured ix q ms (at + 1) → Left ix q k at left next t C → 0 < left → (m : Measure) → m ≡ get_or ms next no_measure → ((o : Occur) → occur_of (record_occurrence q next) ≡ some o → t' ≡ tallied t o m.present m.cost) → Left ix q k at (left - 1) m.next t' C
  unfolding after
  left-on ms left next t t' all l h m read f =
      let o = first-clause q (decode q k) left next l.rest h l.rest-is in
      let ahead = l.group-small in
      let is : TreeMeasured ix next o.first m = subst (λ (x : Measure). TreeMeasured ix next o.first x) (sym read) (tree_measured ix q ms (at + 1) all k next o.first (omega (arith, ahead)) o.first-is) in
      let span = tree-span q k next o.first o.first-is in
      let c = m.cost in
      let e = f o.occur o.occur-is ∙ ap (λ (p : Bool). tallied t o.occur p c) (same_bool m.present (has_scorer ix o.first.tree) is.present-is) in
      let small = is.small in
      let more = is.next-is in
      let inside = span.within in
      let group = ap Tally.group e ∙ step-group t o.occur (has_scorer ix o.first.tree) c in
      let fewest = step-least t o.occur (has_scorer ix o.first.tree) c in
      let some-least = ap (λ (x : Tally). or_zero x.least) e in
      let shoulds = ap Tally.shoulds e ∙ step-shoulds t o.occur (has_scorer ix o.first.tree) c in
      let one = at_most (is_should o.occur && has_scorer ix o.first.tree) 1 in
      let none_or = at_most (is_should o.occur && has_scorer ix o.first.tree) c in
      let least-was = l.least-small in
      let few = l.few in
      record {
        rest = o.rest;
        rest-is = rw is.next-is o.rest-is;
        end_is = sym o.next-is ∙ l.end_is;
        tally-is = rw (e, is.cost-is) (sym (ap (after ix t) o.clauses-are) ∙ l.tally-is);
        group-small = omega (arith, group, none_or, small, ahead);
        least-small = omega (arith, some-least, fewest, small, least-was, ahead);
        few = omega (arith, shoulds, one, few, h);
        within = omega (arith, more, inside);
      }
    where
      at_most : (b : Bool) (n : ℕ) → cond b n 0 ≤ n
      at_most true n = omega arith
      at_most false n = omega arith

  -- no clause is left
  pub left-ends : (left next : ℕ) (t : Tally) → left ≤ 0 → Left ix q k at left next t C → (next ≡ C.next) × (t ≡ after ix untallied C.clauses)
  unfolding after decode_clauses
  left-ends zero next t h l =
      let same = some_same (record { clauses = empty; next = next }) l.rest l.rest-is in
      (ap DecodedClauses.next same ∙ l.end_is, ap (λ (D : DecodedClauses). after ix t D.clauses) same ∙ l.tally-is)
  left-ends (suc left) next t h l = absurd (omega (arith, h))

  one_left : (ms : List Measure) (left next : ℕ) (t : Tally) → record_count q ≤ 256 → record_children q at ≤ 64 → AllMeasured ix q ms (at + 1) → Left ix q k at left next t C → 0 < left → OneLeft q next t (get_or ms next no_measure)
  one_left ms left next t records clauses m l h =
      let o = first-clause q (decode q k) left next l.rest h l.rest-is in
      let ahead = l.group-small in
      let is = tree_measured ix q ms (at + 1) m k next o.first (omega (arith, ahead)) o.first-is in
      let span = tree-span q k next o.first o.first-is in
      let small = is.small in
      let more = is.next-is in
      let inside = span.within in
      let past = span.past in
      let few = l.few in
      record { here = omega (arith, inside, past); few-records = records; fits = omega (arith, ahead, small, more, inside, records); few = omega (arith, few, clauses) }

-- at the clause that a loop comes to
pub clause-left : {q : List ℕ} {at : ℕ} (ms : List Measure) (a : (ix : Index) × AcceptedOrder ix q × AllMeasured ix q ms (at + 1)) → at < record_count q → record_kind q at ≡ 3 → {left next : ℕ} {t : Tally} → ((ix : Index) (k : ℕ) (C : DecodedClauses) → AllMeasured ix q ms (at + 1) → decode_clauses q (decode q k) (record_children q at) (at + 1) ≡ some C → Left ix q k at left next t C) → 0 < left → OneLeft q next t (get_or ms next no_measure)
clause-left {q} {at} ms a here kind {left} {next} {t} l more =
    let ks = clauses-at q at a.1.records-right here kind in
    one_left a.0 q ks.level at ks.inside ms left next t ks.few-records ks.few-clauses a.2 (l a.0 ks.level ks.inside a.2 ks.decoded) more

-- the tally's cost is no more than the costs in it
conjunction-small : (f : Option ℕ) (msm group : ℕ) → conjunction f msm group ≤ max (or_zero f) group
conjunction-small (Some l) msm group = go (eqb msm 0)
  where
    go : (z : Bool) → cond z l (min l group) ≤ max l group
    go true = omega arith
    go false = omega arith
conjunction-small None msm group = go (eqb msm 0)
  where
    go : (z : Bool) → cond z 0 group ≤ max 0 group
    go true = omega arith
    go false = omega arith

tally-small : (t : Tally) (msm : ℕ) → tally_cost t msm ≤ max (or_zero t.least) t.group
tally-small t msm = go t.required (conjunction t.least msm t.group) (conjunction-small t.least msm t.group)
  where
    go : (r : Bool) (n : ℕ) → n ≤ max (or_zero t.least) t.group → cond r n t.group ≤ max (or_zero t.least) t.group
    go true n h = h
    go false n h = omega arith

module _ (ix : Index) (q : List ℕ) (k at : ℕ) (D : Decoded) (e : decode q k at ≡ some D) (kind : record_kind q at ≡ 3) where
  -- the clauses of the Boolean at a record
  pub clauses-in : BooleanAt q (k - 1) at D (deep q k at D e)
  clauses-in = boolean-at q (k - 1) at D (deep q k at D e) kind

  pub boolean-measured : (left next : ℕ) (t : Tally) (msm : ℕ) (m : Measure) → Left ix q (k - 1) at left next t clauses-in.inside → left ≤ 0 → msm ≡ record_value q at 0 → m.next ≡ next → m.present ≡ tally_present t msm → m.cost ≡ tally_cost t msm → TreeMeasured ix at D m
  boolean-measured left next t msm m l z v n p s =
      let end = left-ends ix q (k - 1) at clauses-in.inside left next t z l in
      let cs = clauses-in.inside.clauses in
      let group = l.group-small in
      let fewest = l.least-small in
      let most = tally-small t msm in
      record {
        next-is = n ∙ end.0 ∙ sym clauses-in.next-is;
        present-is = ap (λ (b : Bool). cond b 1 0) (p ∙ ap (λ (x : Tally). tally_present x msm) end.1 ∙ tally-present ix msm cs ∙ ap (λ (n : ℕ). has_scorer ix (boolean n cs)) v ∙ ap (λ (x : Tree). has_scorer ix x) (sym clauses-in.tree_is));
        cost-is = s ∙ ap (λ (x : Tally). tally_cost x msm) end.1 ∙ tally-cost ix msm cs ∙ ap (λ (n : ℕ). cost ix (boolean n cs)) v ∙ ap (cost ix) (sym clauses-in.tree_is);
        small = omega (arith, n, s, most, group, fewest);
      }
