-- Parts that stand one after the other: those of some clauses, as a list of their records is gone through. Assumes nothing.
use mathlib.Core.Path.{◌≡◌, refl, sym, ◌∙◌, ap, subst}
use mathlib.Core.Bool.{Bool, false, cond}
use mathlib.Core.List.{List, [], ◌∷◌, ◌++◌, append-nil}
use mathlib.Core.Option.{none, some}
use Prim.Native.Nat.{ℕ, zero, suc, ◌+◌, ◌-◌, ◌^◌, ◌≤◌, ◌<◌}
use native.Mathlib.Omega.{arith}
use lib.Dec.{T}
use lib.ListN.{length, take, get_or, length-append}
use lib.Seq.{take-append-add, take-append-le, take_all, length-take-le}
use lib.Ieee.{Float, binary32, of_bits}
use Rattle.meaning.specs.Lent.{Index}
use Rattle.meaning.specs.Query.{record_count, record_occurrence, Occur, must, should, must_not, filter, is_must, occur_of}
use Rattle.meaning.specs.QueryRefusals.{carries_above}
use Rattle.meaning.specs.Score.{passed}
use Rattle.ieee754.specs.Nonneg.{sign_clear, AtMost}
use Rattle.ieee754.proofs.Bounds.{zero-atmost}
use Rattle.query.specs.Kinds.{IsOccur}
use Rattle.tree_measure.proofs.Occurrences.{Read, occur-read}
use Rattle.tree_weight.specs.Weigh.{Ready, scorers_of, weigh}
use Rattle.tree_weight.specs.State.{size_of, sizes_of}
use Rattle.window_words.specs.Windowed.{nowhere, AllWindowed}
use Rattle.tree_words.specs.Placed.{Placed}
use Rattle.tree_words.specs.Prepared.{GivenRecords, Prepared, TreeAsked, TreePre, TreePost}
use Rattle.tree_build.specs.Parts.{passed_at, PlacedAll, PlaceListPre, PlaceListPost}
use Rattle.tree_clauses.specs.Clauses.{ReadOccur, wanted_at, ReadyAt, ReadiesAt}
use Rattle.tree_build.proofs.BooleanParts.{all-append, sizes-append}
use Rattle.tree_clauses.proofs.ClauseLaws.{readies-length, readies-here}

-- ---- parts one after the other
module _ (ix : Index) (ranges : List ℕ) (d : ℕ) where
  placed-none : (words : List ℕ) → PlacedAll ix ranges [] d 0 words
  unfolding scorers_of sizes_of AllWindowed
  placed-none words = record { size_is = refl; within = omega arith; held = refl }

  placed_one : (one : Ready) (r : ℕ) (words : List ℕ) → Placed ix ranges one.scorer d (cond (is_must one.occur) 1 0) r words → PlacedAll ix ranges (one ∷ []) d r words
  unfolding scorers_of sizes_of AllWindowed
  placed_one one r words p =
      let is = p.size_is in
      record { size_is = omega (arith, is); within = p.within; held = (take r words, [], sym (append-nil (take r words)), p.held, refl) }

  pub placed-both : (xs ys : List Ready) (a b : ℕ) (states out : List ℕ) → PlacedAll ix ranges xs d a states → PlacedAll ix ranges ys d b out → PlacedAll ix ranges (xs ++ ys) d (a + b) (take a states ++ out)
  placed-both xs ys a b states out p q =
      let long = length-take-le a states p.within in
      let both = length-append (take a states) out in
      let x = p.size_is in
      let y = q.size_is in
      let w = q.within in
      let sum = sizes-append xs ys in
      let words : take (a + b) (take a states ++ out) ≡ take a states ++ take b out = ap (λ (z : ℕ). take (z + b) (take a states ++ out)) (sym long) ∙ take-append-add (take a states) out b in
      record {
        size_is = omega (arith, x, y, sum);
        within = omega (arith, long, both, w);
        held = subst (λ (z : List ℕ). AllWindowed ix ranges (scorers_of (xs ++ ys)) d z 0 0 nowhere) (sym words) (all-append ix ranges xs ys d (take a states) (take b out) 0 0 nowhere p.held q.held);
      }

  -- what stands after the words does not matter
  pub placed-longer : (rs : List Ready) (r : ℕ) (out post : List ℕ) → PlacedAll ix ranges rs d r out → PlacedAll ix ranges rs d r (out ++ post)
  placed-longer rs r out post p =
      let w = p.within in
      let both = length-append out post in
      record {
        size_is = p.size_is;
        within = omega (arith, w, both);
        held = subst (λ (z : List ℕ). AllWindowed ix ranges (scorers_of rs) d z 0 0 nowhere) (sym (take-append-le r out post p.within)) p.held;
      }

-- ---- the clause at a place of a list
pub record ReadyThere (ix : Index) (q : List ℕ) (k : ℕ) (b : Float) (at : ℕ) (rs : List Ready) (i : ℕ) : Type 0 where
  pub one : Ready
  pub ready : ReadyAt ix q k b at one
  pub next-is : take (i + 1) rs ≡ take i rs ++ (one ∷ [])
  pub room : sizes_of (scorers_of (take i rs)) + size_of one.scorer ≤ sizes_of (scorers_of rs)

module _ (ix : Index) (q : List ℕ) (k : ℕ) (b : Float) where
  pub ready-there : (ats : List ℕ) (rs : List Ready) → ReadiesAt ix q k b ats rs → (i : ℕ) → i < length ats → ReadyThere ix q k b (get_or ats i 0) rs i
  unfolding ReadiesAt scorers_of sizes_of
  ready-there [] rs h i g = absurd (omega (arith, g))
  ready-there (at ∷ ats) rs h zero g =
      rw h.2 (record { one = h.0; ready = h.3; next-is = refl; room = omega arith })
  ready-there (at ∷ ats) rs h (suc i) g =
      let t = ready-there ats h.1 h.4 i (omega (arith, g)) in
      let room = t.room in
      rw h.2 (record { one = t.one; ready = t.ready; next-is = ap (λ (n : ℕ). take n (h.0 ∷ h.1)) (suc-add i) ∙ ap (λ (zs : List Ready). h.0 ∷ zs) t.next-is; room = omega (arith, room) })
    where
      suc-add : (i : ℕ) → suc i + 1 ≡ suc (i + 1)
      suc-add i = omega arith

-- ---- the loop over a list of records: the parts of the first i stand in the first `used` words
pub record ListAt (E : GivenRecords) (list : List ℕ) (boost : Float) (words depth i used : ℕ) (states : List ℕ) : Type 0 where
  pub placed : (ranges : List ℕ) (k : ℕ) (rs : List Ready) → Prepared E ranges → ReadiesAt E.index E.query k boost list rs → sizes_of (scorers_of rs) ≤ words → k ≤ depth → PlacedAll E.index ranges (take i rs) depth used states

clear-passed : (o : Occur) (b : Float) → T (sign_clear b) → T (sign_clear (passed o b))
clear-passed must b c = c
clear-passed should b c = c
clear-passed must_not b c = tt
clear-passed filter b c = tt

module _ {E : GivenRecords} (list : List ℕ) (boost : Float) {words depth : ℕ} (pre : PlaceListPre E list boost words depth) where
  pub list-starts : (states : List ℕ) → ListAt E list boost words depth 0 0 states
  list-starts states = record { placed = λ ranges k rs p h room levels. placed-none E.index ranges depth states }

  -- the record is one of the query's
  pub list-here : {i : ℕ} → i < length list → get_or list i 0 < record_count E.query
  list-here {i} h = readies-here E.index E.query pre.1 boost list pre.2 pre.4 i h

  module _ {i used : ℕ} {states : List ℕ} (l : ListAt E list boost words depth i used states) where
    pub list-within : used ≤ length states
    list-within = (l.placed pre.0 pre.1 pre.2 pre.3 pre.4 pre.6 pre.7).within

    pub list-ends : length list ≤ i → PlaceListPost E list boost words depth used states
    list-ends h ranges k rs p readies room levels =
        let same = readies-length E.index E.query k boost list rs readies in
        subst (λ (zs : List Ready). PlacedAll E.index ranges zs depth used states) (take_all i rs (omega (arith, same, h))) (l.placed ranges k rs p readies room levels)

    -- the clause at the next record: what the code reads of it, and the boost that reaches it
    module _ {at : ℕ} (occurrence : ReadOccur) {kept x : Float} (there : i < length list) (at-is : at ≡ get_or list i 0) (occurrence-is : IsOccur (record_occurrence E.query at) occurrence) (x-is : x ≡ passed_at occurrence boost) (kept_small : AtMost (2 ^ 29) kept) (clear : T (sign_clear boost)) (all : length states ≡ words) {n : ℕ} (n-is : n ≡ length states - used) where
      -- the clause's occurrence is what the code read
      read : (o : Occur) → occur_of (record_occurrence E.query at) ≡ some o → Read occurrence o
      read o is = occur-read (record_occurrence E.query at) occurrence o occurrence-is is

      reached : (o : Occur) → occur_of (record_occurrence E.query at) ≡ some o → x ≡ passed o boost
      reached o is = let r = read o is in x-is ∙ ap (λ (z : ReadOccur). passed_at z boost) r.read-is ∙ ap (λ (z : Occur). passed z boost) r.meant-is

      asked : (ranges : List ℕ) (k : ℕ) (rs : List Ready) → Prepared E ranges → (readies : ReadiesAt E.index E.query k boost list rs) → sizes_of (scorers_of rs) ≤ words → k ≤ depth → (t : ReadyThere E.index E.query k boost at rs i) → TreeAsked E.index E.query k at t.ready.tree false kept x n
      asked ranges k rs p readies room levels t =
          let boost-is : x ≡ passed t.one.occur boost = reached t.one.occur t.ready.occur-is in
          let placed = l.placed ranges k rs p readies room levels in
          let used-is = placed.size_is in
          let more = t.room in
          let size : size_of (weigh E.index t.ready.tree.tree x none) ≡ size_of t.one.scorer =
          ap (λ (z : Float). size_of (weigh E.index t.ready.tree.tree z none)) boost-is ∙ sym (ap size_of t.ready.scorer-is) in
          record {
            decoded = t.ready.decoded;
            within = subst (λ (z : Float). carries_above t.ready.tree.tree z ≡ false) (sym boost-is) t.ready.within;
            boost-clear = subst (λ (z : Float). T (sign_clear z)) (sym boost-is) (clear-passed t.one.occur boost clear);
            kept_small = kept_small;
            room = omega (arith, used-is, more, n-is, size, all, room);
          }

      at_there : (k : ℕ) (rs : List Ready) → ReadiesAt E.index E.query k boost list rs → ReadyThere E.index E.query k boost at rs i
      at_there k rs readies = subst (λ (z : ℕ). ReadyThere E.index E.query k boost z rs i) (sym at-is) (ready-there E.index E.query k boost list rs readies i there)

      pub list-tree : TreePre E at false kept x n depth
      list-tree =
          let t = at_there pre.1 pre.2 pre.4 in
          (pre.0, pre.1, t.ready.tree, pre.3, asked pre.0 pre.1 pre.2 pre.3 pre.4 pre.6 pre.7 t, pre.7)

      -- its part ends within the words
      pub list-fits : {scores r : ℕ} {out : List ℕ} → length out ≡ n → TreePost E at false kept x n depth scores r out → used + r ≤ length states
      list-fits long tree =
          let t = at_there pre.1 pre.2 pre.4 in
          let part = (tree pre.0 pre.1 t.ready.tree pre.3 (asked pre.0 pre.1 pre.2 pre.3 pre.4 pre.6 pre.7 t) pre.7).within in
          let before = list-within in
          omega (arith, part, before, long, n-is)

      pub list-more : {scores r : ℕ} {out : List ℕ} (post : List ℕ) → scores ≡ cond (wanted_at is_must occurrence) 1 0 → TreePost E at false kept x n depth scores r out → ListAt E list boost words depth (i + 1) (used + r) (take used states ++ (out ++ post))
      list-more {scores} {r} {out} post s tree = record { placed = one_more }
        where
          one_more : (ranges : List ℕ) (k : ℕ) (rs : List Ready) → Prepared E ranges → ReadiesAt E.index E.query k boost list rs → sizes_of (scorers_of rs) ≤ words → k ≤ depth → PlacedAll E.index ranges (take (i + 1) rs) depth (used + r) (take used states ++ (out ++ post))
          one_more ranges k rs p readies room levels =
              let t = at_there k rs readies in
              let boost-is : x ≡ passed t.one.occur boost = reached t.one.occur t.ready.occur-is in
              let placed = tree ranges k t.ready.tree p (asked ranges k rs p readies room levels t) levels in
              let scorer-is : weigh E.index t.ready.tree.tree x none ≡ t.one.scorer = ap (λ (z : Float). weigh E.index t.ready.tree.tree z none) boost-is ∙ sym t.ready.scorer-is in
              let scores-is : scores ≡ cond (is_must t.one.occur) 1 0 = let r = read t.one.occur t.ready.occur-is in s ∙ ap (λ (z : Bool). cond z 1 0) (ap (wanted_at is_must) r.read-is ∙ ap is_must r.meant-is) in
              rw t.next-is (placed-both E.index ranges depth (take i rs) (t.one ∷ []) used r states (out ++ post) (l.placed ranges k rs p readies room levels) (placed-longer E.index ranges depth (t.one ∷ []) r out post (placed_one E.index ranges depth t.one r out (rw (scorer-is, scores-is) at placed))))

-- the code's 0.0, for a clause without a score of its own
pub kept-nothing : AtMost (2 ^ 29) (of_bits binary32 0)
unfolding of_bits
kept-nothing = zero-atmost (2 ^ 29)
