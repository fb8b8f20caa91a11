-- What is known of a record whose tree is to be placed, and of a tree without trees below it. Assumes nothing.
use mathlib.Core.Path.{◌≡◌, sym, ◌∙◌, ap, subst}
use mathlib.Core.Bool.{Bool, true, false, cond, false≢true}
use mathlib.Core.List.{List}
use Prim.Native.Nat.{ℕ, zero-le, ◌+◌, ◌-◌, ◌*◌, ◌^◌, ◌≤◌, ◌<◌}
use native.Mathlib.Nat.{le_trans}
use native.Mathlib.Omega.{arith}
use lib.Dec.{lit≤}
use lib.ListN.{length, get_or}
use lib.Ieee.{Float}
use Rattle.meaning.specs.Limits.{node_state_words}
use Rattle.meaning.specs.Lent.{Index}
use Rattle.index.specs.IndexOf.{index_of}
use Rattle.meaning.specs.Query.{record_count, record_kind, record_children, range_of, Tree, Decoded}
use Rattle.meaning.specs.Scorer.{has_scorer}
use Rattle.ieee754.specs.Nonneg.{AtMost}
use Rattle.ieee754.proofs.Bounds.{atmost-more}
use Rattle.query.proofs.Above.{within-here, level}
use Rattle.query.proofs.Inverse.{record-here, range_at, all-at, none-at, kind-is, KindIs, is-term, is-phrase, is-boolean, is-range, is_all, is-constant, is-boost, is_none}
use Rattle.query.proofs.Whole.{whole}
use Rattle.sim.proofs.ScoreBounds.{carried-atmost}
use Rattle.tree_weight.proofs.Standing.{deep}
use Rattle.tree_weight.proofs.Presence.{absent}
use Rattle.tree_weight.specs.ScorerTree.{range, everything, constant, leaf}
use Rattle.tree_weight.specs.Measured.{AcceptedOrder}
use Rattle.tree_weight.specs.Weigh.{weigh, no_scorer}
use Rattle.tree_measure.proofs.Arrays.{same_bool, presents-long, places-long}
use Rattle.std.specs.Prelude.{Option as Maybe, is_some}
use Rattle.std.specs.Option.{unwrap_or}
use Rattle.tree_words.proofs.Kept.{kept-or}
use Rattle.tree_words.specs.declared.place.Records.{Records}
use Rattle.tree_words.specs.Placed.{kept_of, kept_score}
use Rattle.tree_words.specs.Prepared.{GivenRecords, given, given_with, Prepared, TreeAsked, TreePre}
use Rattle.tree_measure.specs.Measures.{nexts_measured, costs_measured}
use Rattle.tree_words.proofs.Weighing.{weigh-range, weigh-all, weigh-none, term-nothing, phrase-nothing, phrase-room, size-least}

-- a score that is kept, or the boost
kept_small : (fixed : Bool) (kept boost : Float) → AtMost (2 ^ 29) kept → AtMost (2 ^ 16) boost → AtMost (2 ^ 29) (cond fixed kept boost)
kept_small true kept boost k b = k
kept_small false kept boost k b = atmost-more (lit≤ tt) b

bit-small : (x : ℕ) (b : Bool) → x ≡ cond b 1 0 → x ≤ 1
bit-small x true e = omega (arith, e)
bit-small x false e = omega (arith, e)

module _ (E : GivenRecords) (ranges : List ℕ) (k at : ℕ) (D : Decoded) (fixed : Bool) (kept boost : Float) (words : ℕ) (p : Prepared E ranges) (a : TreeAsked E.index E.query k at D fixed kept boost words) where
  abbrev ix : Index
  ix = E.index

  pub at_here : at < record_count E.query
  at_here = record-here E.query (k - 1) at D (deep E.query k at D a.decoded)

  pub few-records : record_count E.query ≤ 256
  few-records = (whole E.query p.asks.records-right).few-records

  -- the words of its part, and at least those of its record
  pub record-room : node_state_words ≤ words
  record-room = le_trans (size-least (weigh ix D.tree boost (kept_of fixed kept))) a.room

  pub boost-small : AtMost (2 ^ 16) boost
  boost-small = carried-atmost boost a.boost-clear (within-here D.tree boost a.within)

  pub score-small : (x : Float) → x ≡ cond fixed kept boost → AtMost (2 ^ 29) x
  score-small x e = subst (λ (z : Float). AtMost (2 ^ 29) z) (sym e) (kept_small fixed kept boost a.kept_small boost-small)

  pub present-word : get_or E.presents at 0 ≡ cond (has_scorer ix D.tree) 1 0
  present-word = (p.measured k at D zero-le a.decoded).present-is

  pub present-small : get_or E.presents at 0 ≤ 1
  present-small = bit-small (get_or E.presents at 0) (has_scorer ix D.tree) present-word

  pub terms-room : record_kind E.query at ≡ 2 → get_or E.presents at 0 ≡ 1 → node_state_words + node_state_words * record_children E.query at ≤ words
  terms-room kind = phrase-room ix E.query k at D a.decoded kind boost kept fixed (get_or E.presents at 0) present-word words a.room

  -- ---- what is written where it has no trees below it
  pub range-weighed : (score : Float) → record_kind E.query at ≡ 4 → score ≡ cond fixed kept boost → weigh ix D.tree boost (kept_of fixed kept) ≡ leaf (range (range_of E.query at)) (constant score)
  range-weighed score kind e =
      ap (λ (t : Tree). weigh ix t boost (kept_of fixed kept)) (range_at E.query (k - 1) at D (deep E.query k at D a.decoded) kind).tree_is
      ∙ weigh-range ix boost kept fixed (range_of E.query at)
      ∙ ap (λ (z : Float). leaf (range (range_of E.query at)) (constant z)) (sym e)

  pub all-weighed : (score : Float) → record_kind E.query at ≡ 5 → score ≡ cond fixed kept boost → weigh ix D.tree boost (kept_of fixed kept) ≡ leaf everything (constant score)
  all-weighed score kind e =
      ap (λ (t : Tree). weigh ix t boost (kept_of fixed kept)) (all-at E.query (k - 1) at D (deep E.query k at D a.decoded) kind).tree_is
      ∙ weigh-all ix boost kept fixed
      ∙ ap (λ (z : Float). leaf everything (constant z)) (sym e)

  -- where it has no scorer, nothing
  pub absent-weighed : get_or E.presents at 0 ≡ 0 → (record_kind E.query at ≡ 3 → ⊥) → (record_kind E.query at ≡ 6 → ⊥) → (record_kind E.query at ≡ 7 → ⊥) → weigh ix D.tree boost (kept_of fixed kept) ≡ no_scorer
  unfolding has_scorer
  absent-weighed none n3 n6 n7 = go (kind-is E.query (k - 1) at D (deep E.query k at D a.decoded))
    where
      lacks : has_scorer ix D.tree ≡ false
      lacks = absent (get_or E.presents at 0) (has_scorer ix D.tree) present-word none

      go : KindIs (record_kind E.query at) → weigh ix D.tree boost (kept_of fixed kept) ≡ no_scorer
      go (is-term h) = term-nothing ix E.query k at D a.decoded h boost kept fixed (get_or E.presents at 0) present-word none
      go (is-phrase h) = phrase-nothing ix E.query k at D a.decoded h boost kept fixed (get_or E.presents at 0) present-word none
      go (is-boolean h) = absurd (n3 h)
      go (is-range h) = absurd (false≢true (sym lacks ∙ ap (has_scorer ix) (range_at E.query (k - 1) at D (deep E.query k at D a.decoded) h).tree_is))
      go (is_all h) = absurd (false≢true (sym lacks ∙ ap (has_scorer ix) (all-at E.query (k - 1) at D (deep E.query k at D a.decoded) h).tree_is))
      go (is-constant h) = absurd (n6 h)
      go (is-boost h) = absurd (n7 h)
      go (is_none h) =
          ap (λ (t : Tree). weigh ix t boost (kept_of fixed kept)) (none-at E.query (k - 1) at D (deep E.query k at D a.decoded) h).tree_is ∙ weigh-none ix boost fixed kept

  pub scorer-here : (b : Bool) → get_or E.presents at 0 ≡ cond b 1 0 → b ≡ true → has_scorer ix D.tree ≡ true
  scorer-here b is e = sym (same_bool b (has_scorer ix D.tree) (sym is ∙ present-word)) ∙ e

  -- no other kind is left
  pub none-weighed : (record_kind E.query at ≡ 1 → ⊥) → (record_kind E.query at ≡ 2 → ⊥) → (record_kind E.query at ≡ 3 → ⊥) → (record_kind E.query at ≡ 4 → ⊥) → (record_kind E.query at ≡ 5 → ⊥) → (record_kind E.query at ≡ 6 → ⊥) → (record_kind E.query at ≡ 7 → ⊥) → weigh ix D.tree boost (kept_of fixed kept) ≡ no_scorer
  none-weighed n1 n2 n3 n4 n5 n6 n7 = go (kind-is E.query (k - 1) at D (deep E.query k at D a.decoded))
    where
      go : KindIs (record_kind E.query at) → weigh ix D.tree boost (kept_of fixed kept) ≡ no_scorer
      go (is-term h) = absurd (n1 h)
      go (is-phrase h) = absurd (n2 h)
      go (is-boolean h) = absurd (n3 h)
      go (is-range h) = absurd (n4 h)
      go (is_all h) = absurd (n5 h)
      go (is-constant h) = absurd (n6 h)
      go (is-boost h) = absurd (n7 h)
      go (is_none h) =
          ap (λ (t : Tree). weigh ix t boost (kept_of fixed kept)) (none-at E.query (k - 1) at D (deep E.query k at D a.decoded) h).tree_is ∙ weigh-none ix boost fixed kept

-- ---- what a call that places the tree at a record knows of it
pub record TreeHere (r : Records) (at : ℕ) (kept : Maybe Float) (boost : Float) (words depth : ℕ) : Type 0 where
  pub here : at < record_count r.query.now
  pub few : record_count r.query.now ≤ 256
  pub measured : at < length r.measures.now
  pub listed : at < length r.listed.now
  pub room : node_state_words ≤ words
  pub levels : 1 ≤ depth
  pub kept-small : AtMost (2 ^ 29) (kept_score kept)
  pub boost-small : AtMost (2 ^ 16) boost
  pub score-small : AtMost (2 ^ 29) (unwrap_or kept boost)
  pub asks : AcceptedOrder (index_of r.lent.now) r.query.now

pub tree-with : (r : Records) (nexts costs : List ℕ) (at : ℕ) (kept : Maybe Float) (boost : Float) (words depth : ℕ) → TreePre (given_with r nexts costs) at (is_some kept) (kept_score kept) boost words depth → TreeHere r at kept boost words depth
tree-with r nexts costs at kept boost words depth t =
    let E = given_with r nexts costs in
    let p = t.3 in
    let a = t.4 in
    let here = at_here E t.0 t.1 at t.2 (is_some kept) (kept_score kept) boost words p a in
    let presents = p.presents-long in
    let places = p.places-long in
    let deep = level E.query t.1 at t.2 a.decoded in
    let below = t.5 in
    record {
      here = here;
      few = few-records E t.0 t.1 at t.2 (is_some kept) (kept_score kept) boost words p a;
      measured = omega (arith, here, presents, presents-long r.measures.now);
      listed = omega (arith, here, places, places-long r.listed.now);
      room = record-room E t.0 t.1 at t.2 (is_some kept) (kept_score kept) boost words p a;
      levels = omega (arith, deep, below);
      kept-small = a.kept_small;
      boost-small = boost-small E t.0 t.1 at t.2 (is_some kept) (kept_score kept) boost words p a;
      score-small = score-small E t.0 t.1 at t.2 (is_some kept) (kept_score kept) boost words p a (unwrap_or kept boost) (kept-or kept boost);
      asks = p.asks;
    }

pub tree-here : (r : Records) (at : ℕ) (kept : Maybe Float) (boost : Float) (words depth : ℕ) → TreePre (given r) at (is_some kept) (kept_score kept) boost words depth → TreeHere r at kept boost words depth
tree-here r = tree-with r (nexts_measured r.measures.now) (costs_measured r.measures.now)
