-- The loops over children: the least document where some stand, and a pass over all. Assumes nothing.
use mathlib.Core.Path.{◌≡◌, sym, subst, ◌∙◌}
use mathlib.Core.Logic.{⊎_elim}
use mathlib.Core.Bool.{Bool, true, false, cond}
use mathlib.Core.List.{List, ◌++◌}
use Prim.Native.Nat.{ℕ, ◌+◌, ◌-◌, ◌≤◌, ◌<◌}
use native.Mathlib.Nat.{le_trans}
use native.Mathlib.Omega.{arith}
use lib.ListN.{get_or, length, take, drop}
use borrow.Author.Tests.{lt-ltb, le-ltb}
use Rattle.meaning.specs.Limits.{no_more_docs, node_state_words}
use Rattle.meaning.specs.Lent.{Index}
use Rattle.meaning.specs.First.{First}
use Rattle.tree_weight.specs.ScorerTree.{Scorer, Scorers, end, more, matches, all_match, matching}
use Rattle.tree_weight.specs.Held.{Ok}
use Rattle.scorer.specs.Calls.{NodeHeld, AdvancePost, PartsHeld, Tally, LeastIs, Approximates}
use Rattle.scorer_leaf.specs.Calls.{Lists, RoomIn}
use Rattle.scorer_leaf.specs.Buffers.{room, other_room}
use Rattle.scorer_leaf.specs.declared.PhraseBuffers.{PhraseBuffers}
use Rattle.scorer_leaf.proofs.Loops.{Lengths, same_room}
use Rattle.meaning.proofs.Tests.{cmp}
use Rattle.scorer.proofs.Firsts.{matching-hit, matching-miss, matching-end, all-hit, all-miss, all_rest, all_end}
use Rattle.scorer.proofs.Children.{ChildHere, child-here, Zip, zip-later, zip_end, zip-none, view, zip-took, zip-skip, held, of-advance, of-cached}

-- ---- the least document
pub record LeastAt (E : Lists) (ix : Index) (p k : ℕ) (fs : Scorers) (kids : List ℕ) (t best n at : ℕ) : Type 0 where
  pub left : Scorers
  pub zip : Zip E ix p k fs left kids at t
  pub lo : t ≤ best
  pub top : best ≤ no_more_docs
  pub few : n ≤ at
  pub none' : (d : ℕ) → t ≤ d → d < best → matching ix fs d ≡ matching ix left d
  pub here : best < no_more_docs → matching ix fs best ≡ n + matching ix left best
  pub some' : best < no_more_docs → 0 < n

module _ {E : Lists} {ix : Index} {p k : ℕ} {fs : Scorers} where
  pub least-end : {kids : List ℕ} {t best n at : ℕ} → LeastAt E ix p k fs kids t best n at → length kids ≤ at → LeastIs ix fs t best n × PartsHeld E ix p fs k kids t
  least-end {kids} {t} {best} {n} {at} q l = go q.left q.zip q.none' q.here
    where
      go : (g : Scorers) → Zip E ix p k fs g kids at t → ((d : ℕ) → t ≤ d → d < best → matching ix fs d ≡ matching ix g d) → (best < no_more_docs → matching ix fs best ≡ n + matching ix g best) → LeastIs ix fs t best n × PartsHeld E ix p fs k kids t
      go end z u h = (
        record {
          first = record {
            from = q.lo;
            top = q.top;
            before = λ d a b. le-ltb 0 (matching ix fs d) (omega (arith, u d a b, matching-end ix d));
            hit = λ m. lt-ltb 0 (matching ix fs best) (omega (arith, h m, q.some' m));
          };
          number = λ m. omega (arith, h m, matching-end ix best);
        },
        zip_end end z,
      )
      go (more f T g) z u h = absurd (omega (arith, (view z).fits, (view z).long))

  -- one child more, which stands at d
  least-next : {kids' : List ℕ} {t best n at : ℕ} (f : Bool) (T : Scorer) (g : Scorers) (e d best' n' : ℕ) → at + node_state_words ≤ e → t ≤ best → best ≤ no_more_docs → n ≤ at
      → ((x : ℕ) → t ≤ x → x < best → matching ix fs x ≡ matching ix (more f T g) x) → (best < no_more_docs → matching ix fs best ≡ n + matching ix (more f T g) best) → (best < no_more_docs → 0 < n)
      → Zip E ix p k fs g kids' e t → First (matches ix T) t d → Tally best n d best' n' → LeastAt E ix p k fs kids' t best' n' e
  least-next {kids'} {t} {best} {n} {at} f T g e d best' n' far lo top few u h so z first tally = ⊎_elim below (λ c. ⊎_elim above same (cmp best d)) (cmp d best)
    where
      miss : (x : ℕ) → t ≤ x → x < d → x < best → matching ix fs x ≡ matching ix g x
      miss x a b c = u x a c ∙ matching-miss ix f T g x (first.before x a b)

      below : d < best → LeastAt E ix p k fs kids' t best' n' e
      below c =
          let v = tally.below c in
          let b : best' ≡ d = v.0 in
          let m : n' ≡ 1 = v.1 in
          rw (b, m) (record {
            left = g;
            zip = z;
            lo = first.from;
            top = first.top;
            few = omega arith;
            none' = λ x i j. miss x i j (omega arith);
            here = λ i. u d first.from c ∙ matching-hit ix f T g d (first.hit i);
            some' = λ i. omega arith;
          })

      above : best < d → LeastAt E ix p k fs kids' t best' n' e
      above c =
          let v = tally.above c in
          let b : best' ≡ best = v.0 in
          let m : n' ≡ n = v.1 in
          rw (b, m) (record {
            left = g;
            zip = z;
            lo = lo;
            top = top;
            few = omega arith;
            none' = λ x i j. miss x i (omega arith) j;
            here = λ i. omega (arith, h i, matching-miss ix f T g best (first.before best lo c));
            some' = so;
          })

      same : d ≤ best → LeastAt E ix p k fs kids' t best' n' e
      same c = ⊎_elim below equal (cmp d best)
        where
          equal : best ≤ d → LeastAt E ix p k fs kids' t best' n' e
          equal a =
              let s : d ≡ best = omega arith in
              let v = tally.same s in
              let b : best' ≡ best = v.0 in
              let m : n' ≡ n + 1 = v.1 in
              rw (b, m) (record {
                left = g;
                zip = z;
                lo = lo;
                top = top;
                few = omega arith;
                none' = λ x i j. miss x i (omega arith) j;
                here = λ i. omega (arith, h i, matching-hit ix f T g best (subst (λ (y : ℕ). matches ix T y ≡ true) s (first.hit (omega arith))));
                some' = λ i. omega arith;
              })

  module _ {kids : List ℕ} {t best n at : ℕ} (q : LeastAt E ix p k fs kids t best n at) (l : at < length kids) (e : ℕ) (stop : e ≡ at + get_or kids (at + 1) 0) where
    pub least_skip : (c best' n' : ℕ) → c ≡ get_or kids (at + 2) 0 → t < c → Tally best n (c - 1) best' n' → LeastAt E ix p k fs kids t best' n' e
    least_skip c best' n' i h w = go q.left q.zip q.none' q.here
      where
        go : (g : Scorers) → Zip E ix p k fs g kids at t → ((d : ℕ) → t ≤ d → d < best → matching ix fs d ≡ matching ix g d) → (best < no_more_docs → matching ix fs best ≡ n + matching ix g best) → LeastAt E ix p k fs kids t best' n' e
        go end z u r = absurd (omega (arith, zip-none z))
        go (more f T g) z u r =
            least-next f T g e (c - 1) best' n' (omega (arith, (view z).long, (view z).size)) q.lo q.top q.few u r q.some' (zip-skip (view z) e stop) (of-cached (view z) e stop c i h) w

    pub least-took : (r best' n' : ℕ) (ys : List ℕ) → length ys ≡ length (take (e - at) (drop at kids)) → AdvancePost E (take (e - at) (drop at kids)) t k r ys → Tally best n r best' n' → LeastAt E ix p k fs (take at kids ++ (ys ++ drop (e - at) (drop at kids))) t best' n' e
    least-took r best' n' ys len post w = go q.left q.zip q.none' q.here
      where
        go : (g : Scorers) → Zip E ix p k fs g kids at t → ((d : ℕ) → t ≤ d → d < best → matching ix fs d ≡ matching ix g d) → (best < no_more_docs → matching ix fs best ≡ n + matching ix g best) → LeastAt E ix p k fs (take at kids ++ (ys ++ drop (e - at) (drop at kids))) t best' n' e
        go end z u h = absurd (omega (arith, zip-none z))
        go (more f T g) z u h =
            let a = of-advance (view z) e stop r ys post in
            least-next f T g e r best' n' (omega (arith, (view z).long, (view z).size)) q.lo q.top q.few u h q.some' (zip-took (view z) e stop ys len a.1) a.0 w

pub least-child : {E : Lists} {k : ℕ} {kids₀ kids : List ℕ} {b₀ b : PhraseBuffers} {t best n at : ℕ} → ((ix : Index) × (p : ℕ) × (ss : Scorers) × RoomIn p (room b₀) (other_room b₀) × PartsHeld E ix p ss k kids₀ t) → Lengths (length kids) (length kids₀) b₀ b × ((ix : Index) (p : ℕ) (ss : Scorers) → PartsHeld E ix p ss k kids₀ t → LeastAt E ix p k ss kids t best n at) → at < length kids → ChildHere E (room b) (other_room b) k kids at t
least-child P now l = let q = now.1 P.0 P.1 P.2 P.4 in child-here (le_trans q.lo q.top) (same_room P.3 now.0.buffers-same) q.left q.zip l

-- ---- a pass
pub record PassAt (E : Lists) (ix : Index) (p k : ℕ) (fs : Scorers) (from : ℕ) (kids : List ℕ) (d at : ℕ) : Type 0 where
  pub left : Scorers
  pub zip : Zip E ix p k fs left kids at d
  pub lo : from ≤ d
  pub top : d ≤ no_more_docs
  pub before : (x : ℕ) → from ≤ x → x < d → all_match ix fs x ≡ false
  pub fails : (x : ℕ) → all_match ix left x ≡ false → all_match ix fs x ≡ false
  pub holds : d ≡ from → d < no_more_docs → all_match ix left d ≡ true → all_match ix fs d ≡ true

-- what stands at r was asked
asks-first : {P : ℕ → Bool} {t d r : ℕ} → First P d r → Approximates P t d r
asks-first first = record { from = first.from; top = first.top; before = first.before; hit = λ a b. first.hit b }

module _ {E : Lists} {ix : Index} {p k : ℕ} {fs : Scorers} {from : ℕ} where
  pub pass-end : {kids : List ℕ} {d at : ℕ} → PassAt E ix p k fs from kids d at → length kids ≤ at → Approximates (all_match ix fs) from from d × PartsHeld E ix p fs k kids d
  pass-end {kids} {d} {at} q l = go q.left q.zip q.holds
    where
      go : (g : Scorers) → Zip E ix p k fs g kids at d → (d ≡ from → d < no_more_docs → all_match ix g d ≡ true → all_match ix fs d ≡ true) → Approximates (all_match ix fs) from from d × PartsHeld E ix p fs k kids d
      go end z y = (record { from = q.lo; top = q.top; before = q.before; hit = λ a b. y a b (all_end ix d) }, zip_end end z)
      go (more f T g) z y = absurd (omega (arith, (view z).fits, (view z).long))

  -- one child more, asked at d, where the pass comes to r
  pass-next : {kids' : List ℕ} {d : ℕ} (f : Bool) (T : Scorer) (g : Scorers) (e r : ℕ) → from ≤ d → ((x : ℕ) → from ≤ x → x < d → all_match ix fs x ≡ false) → ((x : ℕ) → all_match ix (more f T g) x ≡ false → all_match ix fs x ≡ false) → (d ≡ from → d < no_more_docs → all_match ix (more f T g) d ≡ true → all_match ix fs d ≡ true)
      → Zip E ix p k fs g kids' e r → Approximates (matches ix T) from d r → PassAt E ix p k fs from kids' r e
  pass-next {kids'} {d} f T g e r lo before fails holds z asks =
      record {
        left = g;
        zip = z;
        lo = le_trans lo asks.from;
        top = asks.top;
        before = λ x a b. ⊎_elim (λ h. before x a h) (λ h. fails x (all-miss ix f T g x (asks.before x h b))) (cmp x d);
        fails = λ x h. fails x (all_rest ix f T g x h);
        holds = λ a b h.
            let up : d ≤ r = asks.from in
            let s : d ≡ r = omega arith in
            subst (λ (j : ℕ). all_match ix fs j ≡ true) s (holds (omega arith) (omega arith) (subst (λ (j : ℕ). all_match ix (more f T g) j ≡ true) (sym s) (all-hit ix f T g r (asks.hit a b) ∙ h)));
      }

  module _ {kids : List ℕ} {d at : ℕ} (q : PassAt E ix p k fs from kids d at) (l : at < length kids) (e : ℕ) (stop : e ≡ at + get_or kids (at + 1) 0) where
    pub pass-skip : (c : ℕ) → c ≡ get_or kids (at + 2) 0 → d < c → PassAt E ix p k fs from kids (c - 1) e
    pass-skip c i h = go q.left q.zip q.fails q.holds
      where
        go : (g : Scorers) → Zip E ix p k fs g kids at d → ((x : ℕ) → all_match ix g x ≡ false → all_match ix fs x ≡ false) → (d ≡ from → d < no_more_docs → all_match ix g d ≡ true → all_match ix fs d ≡ true) → PassAt E ix p k fs from kids (c - 1) e
        go end z u r = absurd (omega (arith, zip-none z))
        go (more f T g) z u r =
            let a = of-cached (view z) e stop c i h in
            pass-next f T g e (c - 1) q.lo q.before u r (zip-later (c - 1) a.from (zip-skip (view z) e stop)) (asks-first a)

    pub pass-took : (r : ℕ) (ys : List ℕ) → length ys ≡ length (take (e - at) (drop at kids)) → AdvancePost E (take (e - at) (drop at kids)) d k r ys → PassAt E ix p k fs from (take at kids ++ (ys ++ drop (e - at) (drop at kids))) r e
    pass-took r ys len post = go q.left q.zip q.fails q.holds
      where
        go : (g : Scorers) → Zip E ix p k fs g kids at d → ((x : ℕ) → all_match ix g x ≡ false → all_match ix fs x ≡ false) → (d ≡ from → d < no_more_docs → all_match ix g d ≡ true → all_match ix fs d ≡ true) → PassAt E ix p k fs from (take at kids ++ (ys ++ drop (e - at) (drop at kids))) r e
        go end z u h = absurd (omega (arith, zip-none z))
        go (more f T g) z u h =
            let a = of-advance (view z) e stop r ys post in
            pass-next f T g e r q.lo q.before u h (zip-later r a.0.from (zip-took (view z) e stop ys len a.1)) (asks-first a.0)

    -- a child that was asked and may be left beyond d
    pub pass-asked : (r : ℕ) (ys : List ℕ) → length ys ≡ length (take (e - at) (drop at kids)) → ((ix : Index) (p : ℕ) (T : Scorer) (o : ℕ) → NodeHeld E ix p T k o (take (e - at) (drop at kids)) d → Approximates (matches ix T) from d r × Ok ix E.ranges T k o ys r) → PassAt E ix p k fs from (take at kids ++ (ys ++ drop (e - at) (drop at kids))) r e
    pass-asked r ys len post = go q.left q.zip q.fails q.holds
      where
        go : (g : Scorers) → Zip E ix p k fs g kids at d → ((x : ℕ) → all_match ix g x ≡ false → all_match ix fs x ≡ false) → (d ≡ from → d < no_more_docs → all_match ix g d ≡ true → all_match ix fs d ≡ true) → PassAt E ix p k fs from (take at kids ++ (ys ++ drop (e - at) (drop at kids))) r e
        go end z u h = absurd (omega (arith, zip-none z))
        go (more f T g) z u h =
            let a = post ix p T (cond f 1 0) (held (view z) e stop) in
            pass-next f T g e r q.lo q.before u h (zip-took (view (zip-later r a.0.from z)) e stop ys len a.1) a.0

pub pass-child : {E : Lists} {k : ℕ} {kids₀ kids : List ℕ} {b₀ b : PhraseBuffers} {t d at : ℕ} → ((ix : Index) × (p : ℕ) × (ss : Scorers) × RoomIn p (room b₀) (other_room b₀) × PartsHeld E ix p ss k kids₀ t) → Lengths (length kids) (length kids₀) b₀ b × ((ix : Index) (p : ℕ) (ss : Scorers) → PartsHeld E ix p ss k kids₀ t → PassAt E ix p k ss t kids d at) → at < length kids → ChildHere E (room b) (other_room b) k kids at d
pass-child P now l = let q = now.1 P.0 P.1 P.2 P.4 in child-here q.top (same_room P.3 now.0.buffers-same) q.left q.zip l
