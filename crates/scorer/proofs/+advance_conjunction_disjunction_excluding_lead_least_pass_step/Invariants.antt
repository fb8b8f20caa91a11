-- Children are one level deeper. No document from the target up to where a loop stands is a match, and the children can
-- be asked from there on.
use Prim.Native.Nat.{◌+◌, ◌-◌, ◌*◌, ◌≤◌, ℕ}
use lib.ListN.{length}
use lib.Dec.{leb}
use Rattle.meaning.specs.Limits.{no_more_docs}
use Rattle.meaning.specs.Lent.{Index}
use Rattle.tree_weight.specs.ScorerTree.{Scorers, matching}
use Rattle.scorer.specs.Calls.{PartsHeld, LeadHeld, BooleanHeld, leads, lead_takes}
use Rattle.scorer_leaf.specs.Calls.{lists_of}
use Rattle.scorer.proofs.Loops.{LeastAt, PassAt}
use Rattle.scorer_leaf.proofs.Loops.{Lengths, Going}
use Rattle.scorer.proofs.+advance_conjunction_disjunction_excluding_lead_least_pass_step.Given as goal

abbrev pub decreases-advance : goal.decreases-advance
decreases-advance l = l.depth * 16 + 1

abbrev pub decreases-conjunction : goal.decreases-conjunction
decreases-conjunction l = l.depth * 16 + 5

abbrev pub decreases-disjunction : goal.decreases-disjunction
decreases-disjunction l = l.depth * 16 + 3

abbrev pub decreases-excluding : goal.decreases-excluding
decreases-excluding l = l.depth * 16 + 7

abbrev pub decreases-lead : goal.decreases-lead
decreases-lead l = l.depth * 16 + 6

abbrev pub decreases-least : goal.decreases-least
decreases-least l = l.depth * 16 + 2

abbrev pub decreases-pass : goal.decreases-pass
decreases-pass l = l.depth * 16 + 2

abbrev pub decreases-step : goal.decreases-step
decreases-step l = l.depth * 16 + 4

abbrev pub invariant-conjunction-loop-d : goal.invariant-conjunction-loop-d
invariant-conjunction-loop-d l = Lengths (length l.kids) (length l.initial.kids) l.initial.buffers l.buffers × (l.d ≤ no_more_docs) × ((ix : Index) (p : ℕ) (rs os : Scorers) → LeadHeld (lists_of l.reader) ix p rs os l.depth l.n.required_end l.initial.kids l.target → Going (leads ix rs os l.n.need) l.target l.d (LeadHeld (lists_of l.reader) ix p rs os l.depth l.n.required_end l.kids l.d))

abbrev pub decreases-conjunction-loop-d : goal.decreases-conjunction-loop-d
decreases-conjunction-loop-d l = no_more_docs - l.d

abbrev pub invariant-disjunction-loop-x : goal.invariant-disjunction-loop-x
invariant-disjunction-loop-x l = Lengths (length l.kids) (length l.initial.kids) l.initial.buffers l.buffers × (l.t ≤ no_more_docs) × ((ix : Index) (p : ℕ) (ss : Scorers) → PartsHeld (lists_of l.reader) ix p ss l.depth l.initial.kids l.target → Going (λ x. leb l.need (matching ix ss x)) l.target l.t (PartsHeld (lists_of l.reader) ix p ss l.depth l.kids l.t))

abbrev pub decreases-disjunction-loop-x : goal.decreases-disjunction-loop-x
decreases-disjunction-loop-x l = no_more_docs - l.t

abbrev pub invariant-excluding-loop-n : goal.invariant-excluding-loop-n
invariant-excluding-loop-n l = Lengths (length l.kids) (length l.initial.kids) l.initial.buffers l.buffers × (l.t ≤ no_more_docs) × ((ix : Index) (p : ℕ) (rs os ps : Scorers) → BooleanHeld (lists_of l.reader) ix p rs os ps l.depth l.n.required_end l.n.optional_end l.initial.kids l.target → Going (lead_takes ix rs os ps l.n.need) l.target l.t (BooleanHeld (lists_of l.reader) ix p rs os ps l.depth l.n.required_end l.n.optional_end l.kids l.t))

abbrev pub decreases-excluding-loop-n : goal.decreases-excluding-loop-n
decreases-excluding-loop-n l = no_more_docs - l.t

abbrev pub invariant-least-loop-at : goal.invariant-least-loop-at
invariant-least-loop-at l = Lengths (length l.kids) (length l.initial.kids) l.initial.buffers l.buffers × ((ix : Index) (p : ℕ) (ss : Scorers) → PartsHeld (lists_of l.reader) ix p ss l.depth l.initial.kids l.target → LeastAt (lists_of l.reader) ix p l.depth ss l.kids l.target l.least.doc l.least.count l.at)

abbrev pub decreases-least-loop-at : goal.decreases-least-loop-at
decreases-least-loop-at l = length l.kids - l.at

abbrev pub invariant-pass-loop-at : goal.invariant-pass-loop-at
invariant-pass-loop-at l = Lengths (length l.kids) (length l.initial.kids) l.initial.buffers l.buffers × ((ix : Index) (p : ℕ) (ss : Scorers) → PartsHeld (lists_of l.reader) ix p ss l.depth l.initial.kids l.target → PassAt (lists_of l.reader) ix p l.depth ss l.target l.kids l.d l.at)

abbrev pub decreases-pass-loop-at : goal.decreases-pass-loop-at
decreases-pass-loop-at l = length l.kids - l.at
