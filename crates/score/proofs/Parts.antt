-- The parts of a node's children, one after the other: what is read at a place, and a part put back. Assumes nothing.
use mathlib.Core.Path.{◌≡◌, refl, sym, ap, subst, ◌∙◌}
use mathlib.Core.Bool.{Bool, cond}
use mathlib.Core.List.{List, [], ◌++◌, append_assoc}
use Prim.Native.Nat.{ℕ, ◌+◌, ◌-◌, ◌≤◌, max}
use native.Mathlib.Omega.{arith}
use lib.ListN.{get_or, length, take, drop, length-append, length-take, length-drop, take-append-drop}
use lib.Seq.{take_at, drop_at, get_or-append-add}
use Rattle.meaning.specs.Limits.{node_state_words}
use Rattle.meaning.specs.Lent.{Index}
use Rattle.tree_weight.specs.ScorerTree.{Leaf, nothing, term, phrase, range, everything, Scorer, leaf, boolean, Scorers, end, more}
use Rattle.tree_weight.specs.State.{State, words_of, size_of}
use Rattle.tree_weight.specs.Held.{LeafIs, Ok, Oks}
use Rattle.scorer_leaf.proofs.Bounds.{leaf-sizes, ok-length, ok-long}
use Rattle.tree_node.specs.Words.{ChildThere}

-- ---- the kind in the first word of a scorer's part
unfoldable pub leaf_kind : Leaf → ℕ
leaf_kind nothing = 0
leaf_kind (term l) = 1
leaf_kind (phrase f ts) = 2
leaf_kind (range r) = 4
leaf_kind everything = 5

unfoldable pub kind_word : Scorer → ℕ
kind_word (leaf l c) = leaf_kind l
kind_word (boolean c j need rs os ps) = 3

leaf-kind : (ix : Index) (ranges : List ℕ) (l : Leaf) (s : State) (w : List ℕ) (b : ℕ) → LeafIs ix ranges l s w b → s.kind ≡ leaf_kind l
unfolding LeafIs leaf_kind
leaf-kind ix ranges nothing s w b p = p.0
leaf-kind ix ranges (term l) s w b p = p.0.kind-is
leaf-kind ix ranges (phrase f ts) s w b p = p.kind-is
leaf-kind ix ranges (range r) s w b p = p.0.kind-is
leaf-kind ix ranges everything s w b p = p.0

-- ---- the record at the head of a part
pub record Head (T : Scorer) (sc : ℕ) (y : List ℕ) : Type 0 where
  pub s : State
  pub w : List ℕ
  pub is : y ≡ words_of s ++ w
  pub kind-is : s.kind ≡ kind_word T
  pub size_is : s.size ≡ size_of T
  pub scores-is : s.scores ≡ sc

pub head : (ix : Index) (ranges : List ℕ) (T : Scorer) (k sc : ℕ) (y : List ℕ) (b : ℕ) → Ok ix ranges T k sc y b → Head T sc y
unfolding Ok size_of kind_word
head ix ranges (leaf l c) k sc y b p = record { s = p.0; w = p.1; is = p.2; kind-is = leaf-kind ix ranges l p.0 p.1 (max b (p.0.cached - 1)) p.4; size_is = (leaf-sizes ix ranges l p.0 p.1 (max b (p.0.cached - 1)) p.4).size; scores-is = p.3 }
head ix ranges (boolean c j need rs os ps) k sc y b p = record { s = p.0; w = p.1 ++ (p.2 ++ p.3); is = p.4; kind-is = p.7.kind-is; size_is = p.7.size_is; scores-is = p.5 }

pub ok-kind : (ix : Index) (ranges : List ℕ) (T : Scorer) (k sc : ℕ) (y : List ℕ) (b : ℕ) → Ok ix ranges T k sc y b → get_or y 0 0 ≡ kind_word T
ok-kind ix ranges T k sc y b p = let h = head ix ranges T k sc y b p in ap (λ (l : List ℕ). get_or l 0 0) h.is ∙ h.kind-is

-- ---- a place in the list of parts: g are the children that are left
pub record Zip (ix : Index) (ranges : List ℕ) (k doc : ℕ) (fs g : Scorers) (kids : List ℕ) (at : ℕ) : Type 0 where
  pub x : List ℕ
  pub z : List ℕ
  pub is : kids ≡ x ++ z
  pub place : at ≡ length x
  pub rest : Oks ix ranges g k z doc
  pub back : (z' : List ℕ) → Oks ix ranges g k z' doc → Oks ix ranges fs k (x ++ z') doc

pub zip_start : (ix : Index) (ranges : List ℕ) (k doc : ℕ) (fs : Scorers) (w : List ℕ) → Oks ix ranges fs k w doc → Zip ix ranges k doc fs fs w 0
zip_start ix ranges k doc fs w p = record { x = []; z = w; is = refl; place = refl; rest = p; back = λ z' q. q }

pub zip_end : {ix : Index} {ranges : List ℕ} {k doc : ℕ} {fs : Scorers} {g : Scorers} {kids : List ℕ} {at : ℕ} → Zip ix ranges k doc fs g kids at → Oks ix ranges fs k kids doc
zip_end {ix} {ranges} {k} {doc} {fs} q = subst (λ (l : List ℕ). Oks ix ranges fs k l doc) (sym q.is) (q.back q.z q.rest)

pub zip-none : {ix : Index} {ranges : List ℕ} {k doc : ℕ} {fs : Scorers} {kids : List ℕ} {at : ℕ} → Zip ix ranges k doc fs end kids at → length kids ≡ at
unfolding Oks
zip-none q = omega (arith, ap length q.is, length-append q.x q.z, ap length q.rest, q.place)

-- what is read of the child at a place
pub record View (ix : Index) (ranges : List ℕ) (k doc : ℕ) (fs : Scorers) (f : Bool) (T : Scorer) (g : Scorers) (kids : List ℕ) (at : ℕ) : Type 0 where
  pub x : List ℕ
  pub y : List ℕ
  pub z : List ℕ
  pub is : kids ≡ x ++ (y ++ z)
  pub place : at ≡ length x
  pub ok : Ok ix ranges T k (cond f 1 0) y doc
  pub rest : Oks ix ranges g k z doc
  pub kind : get_or kids at 0 ≡ kind_word T
  pub size : get_or kids (at + 1) 0 ≡ length y
  pub size-of : get_or kids (at + 1) 0 ≡ size_of T
  pub scores : get_or kids (at + 15) 0 ≡ cond f 1 0
  pub long : node_state_words ≤ length y
  pub fits : at + length y ≤ length kids
  pub back : (ys z' : List ℕ) → Ok ix ranges T k (cond f 1 0) ys doc → Oks ix ranges g k z' doc → Oks ix ranges fs k (x ++ (ys ++ z')) doc

word-at : (x y kids : List ℕ) (at i : ℕ) → kids ≡ x ++ y → at ≡ length x → get_or kids (at + i) 0 ≡ get_or y i 0
word-at x y kids at i e a = rw (e, a, get_or-append-add)

head-kind : {T : Scorer} {sc : ℕ} {y : List ℕ} (h : Head T sc y) (z : List ℕ) → get_or (y ++ z) 0 0 ≡ h.s.kind
head-kind {y = y} h z = ap (λ (l : List ℕ). get_or (l ++ z) 0 0) h.is

head-size : {T : Scorer} {sc : ℕ} {y : List ℕ} (h : Head T sc y) (z : List ℕ) → get_or (y ++ z) 1 0 ≡ h.s.size
head-size {y = y} h z = ap (λ (l : List ℕ). get_or (l ++ z) 1 0) h.is

head-scores : {T : Scorer} {sc : ℕ} {y : List ℕ} (h : Head T sc y) (z : List ℕ) → get_or (y ++ z) 15 0 ≡ h.s.scores
head-scores {y = y} h z = ap (λ (l : List ℕ). get_or (l ++ z) 15 0) h.is

pub view : {ix : Index} {ranges : List ℕ} {k doc : ℕ} {fs : Scorers} {f : Bool} {T : Scorer} {g : Scorers} {kids : List ℕ} {at : ℕ} → Zip ix ranges k doc fs (more f T g) kids at → View ix ranges k doc fs f T g kids at
unfolding Oks
view {ix} {ranges} {k} {doc} {fs} {f} {T} {g} {kids} {at} q =
    let y : List ℕ = q.rest.0 in
    let z : List ℕ = q.rest.1 in
    let e : kids ≡ q.x ++ (y ++ z) = q.is ∙ ap (λ (l : List ℕ). q.x ++ l) q.rest.2 in
    let p : Ok ix ranges T k (cond f 1 0) y doc = q.rest.3 in
    let h : Head T (cond f 1 0) y = head ix ranges T k (cond f 1 0) y doc p in
    let n : length y ≡ size_of T = ok-length ix ranges T k (cond f 1 0) y doc p in
    let a : at ≡ length q.x = q.place in
    let w : get_or kids (at + 1) 0 ≡ h.s.size = word-at q.x (y ++ z) kids at 1 e a ∙ head-size h z in
    let o : at ≡ at + 0 = omega arith in
    let m : get_or kids (at + 0) 0 ≡ h.s.kind = word-at q.x (y ++ z) kids at 0 e a ∙ head-kind h z in
    let v : get_or kids (at + 15) 0 ≡ h.s.scores = word-at q.x (y ++ z) kids at 15 e a ∙ head-scores h z in
    record {
      x = q.x;
      y = y;
      z = z;
      is = e;
      place = a;
      ok = p;
      rest = q.rest.4;
      kind = ap (λ (i : ℕ). get_or kids i 0) o ∙ m ∙ h.kind-is;
      size = w ∙ h.size_is ∙ sym n;
      size-of = w ∙ h.size_is;
      scores = v ∙ h.scores-is;
      long = ok-long ix ranges T k (cond f 1 0) y doc p;
      fits = omega (arith, ap length e, length-append q.x (y ++ z), length-append y z);
      back = λ ys z' o r. q.back (ys ++ z') (ys, z', refl, o, r);
    }

module _ {ix : Index} {ranges : List ℕ} {k doc : ℕ} {fs : Scorers} {f : Bool} {T : Scorer} {g : Scorers} {kids : List ℕ} {at : ℕ} (v : View ix ranges k doc fs f T g kids at) where
  pub child-there : ChildThere kids at
  child-there = record { long = omega (arith, v.long, v.size); fits = omega (arith, v.fits, v.size) }

  pub zip-next : (e : ℕ) → e ≡ at + get_or kids (at + 1) 0 → Zip ix ranges k doc fs g kids e
  zip-next e stop =
      record {
        x = v.x ++ v.y;
        z = v.z;
        is = v.is ∙ sym (append_assoc v.x v.y v.z);
        place = omega (arith, stop, v.size, v.place, length-append v.x v.y);
        rest = v.rest;
        back = λ z' r. rw append_assoc (v.back v.y z' v.ok r);
      }

  module _ (e : ℕ) (stop : e ≡ at + get_or kids (at + 1) 0) where
    pub span : e - at ≡ length v.y
    span = omega (arith, v.size)

    pub part : take (e - at) (drop at kids) ≡ v.y
    part = rw (v.is, drop_at v.x (v.y ++ v.z) at (sym v.place), take_at v.y v.z (e - at) (sym span))

    pub part-ok : Ok ix ranges T k (cond f 1 0) (take (e - at) (drop at kids)) doc
    part-ok = subst (λ (l : List ℕ). Ok ix ranges T k (cond f 1 0) l doc) (sym part) v.ok

    pub part-back : (ys : List ℕ) → take at kids ++ (ys ++ drop (e - at) (drop at kids)) ≡ v.x ++ (ys ++ v.z)
    part-back ys = rw (v.is, take_at v.x (v.y ++ v.z) at (sym v.place), drop_at v.x (v.y ++ v.z) at (sym v.place), drop_at v.y v.z (e - at) (sym span))

    -- another part of the same child in its place
    pub zip-renewed : (ys : List ℕ) → Ok ix ranges T k (cond f 1 0) ys doc → Zip ix ranges k doc fs (more f T g) (take at kids ++ (ys ++ drop (e - at) (drop at kids))) at
    unfolding Oks
    zip-renewed ys o =
        record {
          x = v.x;
          z = ys ++ v.z;
          is = part-back ys;
          place = v.place;
          rest = (ys, v.z, refl, o, v.rest);
          back = λ z' r. rw r.2 (v.back r.0 r.1 r.3 r.4);
        }

pub back_length : (kids ys : List ℕ) (at e : ℕ) → length ys ≡ length (take (e - at) (drop at kids)) → length (take at kids ++ (ys ++ drop (e - at) (drop at kids))) ≡ length kids
back_length kids ys at e h = simp (length-append, length-take, length-drop, h) (omega arith)

-- a part put back as it was
pub part_same : (kids : List ℕ) (at e : ℕ) → take at kids ++ (take (e - at) (drop at kids) ++ drop (e - at) (drop at kids)) ≡ kids
part_same kids at e = ap (λ (l : List ℕ). take at kids ++ l) (take-append-drop (e - at) (drop at kids)) ∙ take-append-drop at kids
