-- The steps of `collect` on the state. Assumes nothing.
use mathlib.Core.Path.{◌≡◌, refl, sym, ap, ◌∙◌}
use mathlib.Core.Bool.{Bool, true, false, cond, ◌&&◌}
use mathlib.Core.List.{List}
use Prim.Native.Nat.{ℕ, ◌≤◌, ◌<◌}
use borrow.Author.Tests.{lt-ltb, le-ltb}
use lib.Dec.{ltb}
use lib.ListN.{length}
use lib.IntN.{ℤ}
use lib.Ieee.{Float, inf, lt, binary32, of_bits}
use Rattle.meaning.specs.Ieee754.{zero_float, next_up}
use Rattle.meaning.specs.Hits.{to_score}
use Rattle.collector.specs.declared.TopScoreDocCollector.{TopScoreDocCollector}
use Rattle.collector.specs.Heap.{at}
use Rattle.collector.specs.State.{top_score, updated}
use Rattle.collector.proofs.Marks.{new_least, new_mark}

-- ---- the state, field by field
abbrev pub state_of : ℕ → ℕ → ℕ → Float → Float → Bool → TopScoreDocCollector
state_of held total t top low m =
    record { held = held; total_hits = total; total_hits_threshold = t; top_score = top; min_competitive_score = low; hits_lower_bound = m }

pub updated-is : (held total t : ℕ) (top low : Float) (m : Bool) → updated (state_of held total t top low m) ≡ state_of held total t top (new_least (ltb t total) low top) (new_mark (ltb t total) low top m)
updated-is held total t top low m = go (ltb t total && lt low (next_up top))
  where
    go : (b : Bool) → cond b (state_of held total t top (next_up top) true) (state_of held total t top low m) ≡ state_of held total t top (cond b (next_up top) low) (cond b true m)
    go true = refl
    go false = refl

module _ (c : TopScoreDocCollector) (x : Float) (i : x ≡ next_up c.top_score) where
  abbrev test : Bool
  test = ltb c.total_hits_threshold c.total_hits && lt c.min_competitive_score (next_up c.top_score)

  test-is : {p q : Bool} → ltb c.total_hits_threshold c.total_hits ≡ p → lt c.min_competitive_score x ≡ q → test ≡ (p && q)
  test-is {p} {q} e f = ap (λ (z : Bool). z && lt c.min_competitive_score (next_up c.top_score)) e ∙ ap (λ (y : Float). p && lt c.min_competitive_score y) (sym i) ∙ ap (λ (z : Bool). p && z) f

  abbrev raised : TopScoreDocCollector
  raised = state_of c.held c.total_hits c.total_hits_threshold c.top_score (next_up c.top_score) true

  pub updated-yes : c.total_hits_threshold < c.total_hits → lt c.min_competitive_score x ≡ true → state_of c.held c.total_hits c.total_hits_threshold c.top_score x true ≡ updated c
  updated-yes h e =
      ap (λ (y : Float). state_of c.held c.total_hits c.total_hits_threshold c.top_score y true) i
      ∙ sym (ap (λ (z : Bool). cond z raised c) (test-is (lt-ltb c.total_hits_threshold c.total_hits h) e))

  pub updated-no : c.total_hits_threshold < c.total_hits → lt c.min_competitive_score x ≡ false → c ≡ updated c
  updated-no h e = sym (ap (λ (z : Bool). cond z raised c) (test-is (lt-ltb c.total_hits_threshold c.total_hits h) e))

pub updated-early : (c : TopScoreDocCollector) → c.total_hits ≤ c.total_hits_threshold → c ≡ updated c
updated-early c h =
    sym (ap (λ (z : Bool). cond (z && lt c.min_competitive_score (next_up c.top_score)) (raised c (next_up c.top_score) refl) c) (le-ltb c.total_hits_threshold c.total_hits h))

-- ---- the top score
pub top-few : (held : ℕ) (heap : List ℤ) → held < length heap → top_score held heap ≡ inf true
top-few held heap h = ap (λ (b : Bool). cond b (inf true) (to_score (at heap 0))) (lt-ltb held (length heap) h)

pub top-full : (held : ℕ) (heap : List ℤ) → length heap ≤ held → top_score held heap ≡ to_score (at heap 0)
top-full held heap h = ap (λ (b : Bool). cond b (inf true) (to_score (at heap 0))) (le-ltb held (length heap) h)

pub lowest : of_bits binary32 0xff80_0000 ≡ inf true
unfolding of_bits
lowest = refl

pub zero_is : of_bits binary32 0 ≡ zero_float
unfolding of_bits
zero_is = refl
