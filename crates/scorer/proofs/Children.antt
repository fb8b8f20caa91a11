-- A loop's place among the parts of some children: those left, and how those passed are put back. Assumes nothing.
use mathlib.Core.Path.{◌≡◌, refl, sym, ap, ◌∙◌}
use mathlib.Core.Bool.{Bool, cond}
use mathlib.Core.List.{List, [], ◌++◌, append_assoc}
use Prim.Native.Nat.{ℕ, ◌+◌, ◌-◌, ◌≤◌, ◌<◌}
use native.Mathlib.Nat.{le_refl, le_trans}
use native.Mathlib.Omega.{arith}
use lib.ListN.{get_or, length, take, drop, length-append, get_or-append}
use lib.Seq.{take_at, drop_at, get_or-append-add, get_or-take, get_or-drop}
use Rattle.meaning.specs.Limits.{no_more_docs, node_state_words}
use Rattle.meaning.specs.Lent.{Index}
use Rattle.meaning.specs.First.{First}
use Rattle.tree_weight.specs.ScorerTree.{Scorer, Scorers, end, more, matches}
use Rattle.tree_weight.specs.Held.{Ok, Oks}
use Rattle.tree_weight.specs.Sound.{Lends, Sound, Sounds}
use Rattle.tree_node.specs.Words.{ChildThere, ChildRead}
use Rattle.tree_node.specs.declared.Child.{Child}
use Rattle.tree_node.specs.declared.NodeKind.TheVariants.{Term, Range}
use Rattle.tree_node.proofs.Scorers.{term-word, range-word}
use Rattle.scorer.specs.Calls.{NodeHeld, AdvancePre, AdvancePost, AskPre, AdvanceTermPre, AdvanceRangePre, PartsHeld}
use Rattle.scorer_leaf.specs.Calls.{Lists, RoomIn}
use Rattle.scorer_leaf.proofs.Bounds.{front_long, front-size, ok-mono, oks-mono, ok-front, ok-cached}

-- g are the children that are left, whose words are z; the words before them are x. Nothing is said of those passed but how to put them back.
pub record Zip (E : Lists) (ix : Index) (p k : ℕ) (fs g : Scorers) (kids : List ℕ) (at t : ℕ) : Type 0 where
  pub x : List ℕ
  pub z : List ℕ
  pub is : kids ≡ x ++ z
  pub place : at ≡ length x
  pub lends : Lends ix E.documents E.postings E.positions
  pub whole : Sounds ix p fs
  pub sounds : Sounds ix p g
  pub rest : Oks ix E.ranges g k z t
  pub back : (e : ℕ) → t ≤ e → (z' : List ℕ) → Oks ix E.ranges g k z' e → Oks ix E.ranges fs k (x ++ z') e

-- the next child
pub record View (E : Lists) (ix : Index) (p k : ℕ) (fs : Scorers) (f : Bool) (T : Scorer) (g : Scorers) (kids : List ℕ) (at t : ℕ) : Type 0 where
  pub x : List ℕ
  pub y : List ℕ
  pub z : List ℕ
  pub is : kids ≡ x ++ (y ++ z)
  pub place : at ≡ length x
  pub lends : Lends ix E.documents E.postings E.positions
  pub whole : Sounds ix p fs
  pub sound : Sound ix p T
  pub sounds : Sounds ix p g
  pub ok : Ok ix E.ranges T k (cond f 1 0) y t
  pub rest : Oks ix E.ranges g k z t
  pub long : node_state_words ≤ length y
  pub fits : at + length y ≤ length kids
  pub size : get_or kids (at + 1) 0 ≡ length y
  pub cached : get_or kids (at + 2) 0 ≡ get_or y 2 0
  pub back : (ys : List ℕ) → Ok ix E.ranges T k (cond f 1 0) ys t → (e : ℕ) → t ≤ e → (z' : List ℕ) → Oks ix E.ranges g k z' e → Oks ix E.ranges fs k ((x ++ ys) ++ z') e

module _ {E : Lists} {ix : Index} {p k : ℕ} {fs : Scorers} {kids : List ℕ} where
  pub zip_start : {t : ℕ} → PartsHeld E ix p fs k kids t → Zip E ix p k fs fs kids 0 t
  zip_start q = record { x = []; z = kids; is = refl; place = refl; lends = q.lends; whole = q.sounds; sounds = q.sounds; rest = q.oks; back = λ e h z' r. r }

  pub zip-later : {g : Scorers} {at t : ℕ} (e : ℕ) → t ≤ e → Zip E ix p k fs g kids at t → Zip E ix p k fs g kids at e
  zip-later {g} {at} {t} e h q =
      record { x = q.x; z = q.z; is = q.is; place = q.place; lends = q.lends; whole = q.whole; sounds = q.sounds; rest = oks-mono ix E.ranges g k q.z t e h q.rest; back = λ e' h'. q.back e' (le_trans h h') }

  pub zip_end : (g : Scorers) {at t : ℕ} → Zip E ix p k fs g kids at t → PartsHeld E ix p fs k kids t
  zip_end g {at} {t} q = record { lends = q.lends; sounds = q.whole; oks = rw q.is (q.back t (le_refl _) q.z q.rest) }

  pub zip-none : {at t : ℕ} → Zip E ix p k fs end kids at t → length kids ≡ at
  unfolding Oks
  zip-none q = omega (arith, ap length q.is, length-append q.x q.z, ap length q.rest, q.place)

  pub view : {f : Bool} {T : Scorer} {g : Scorers} {at t : ℕ} → Zip E ix p k fs (more f T g) kids at t → View E ix p k fs f T g kids at t
  unfolding Oks Sounds
  view {f} {T} {g} {at} {t} q =
      let y : List ℕ = q.rest.0 in
      let z : List ℕ = q.rest.1 in
      let e : kids ≡ q.x ++ (y ++ z) = q.is ∙ ap (λ (l : List ℕ). q.x ++ l) q.rest.2 in
      let h = ok-front ix E.ranges T k (cond f 1 0) y t q.rest.3 in
      record {
        x = q.x;
        y = y;
        z = z;
        is = e;
        place = q.place;
        lends = q.lends;
        whole = q.whole;
        sound = q.sounds.0;
        sounds = q.sounds.1;
        ok = q.rest.3;
        rest = q.rest.4;
        long = front_long h;
        fits = omega (arith, ap length e, length-append q.x (y ++ z), length-append y z, q.place);
        size = rw (e, q.place, get_or-append-add) (get_or-append y z 0 1 (omega (arith, front_long h)) ∙ front-size h);
        cached = rw (e, q.place, get_or-append-add) (get_or-append y z 0 2 (omega (arith, front_long h)));
        back = λ ys o e' l z' r. rw append_assoc (q.back e' l (ys ++ z') (ys, z', refl, ok-mono ix E.ranges T k (cond f 1 0) ys t e' l o, r));
      }

module _ {E : Lists} {ix : Index} {p k : ℕ} {fs : Scorers} {f : Bool} {T : Scorer} {g : Scorers} {kids : List ℕ} {at t : ℕ} (v : View E ix p k fs f T g kids at t) (e : ℕ) (end : e ≡ at + get_or kids (at + 1) 0) where
  pub span : e - at ≡ length v.y
  span = omega (arith, v.size)

  pub part : take (e - at) (drop at kids) ≡ v.y
  part = rw (v.is, drop_at v.x (v.y ++ v.z) at (sym v.place), take_at v.y v.z (e - at) (sym span))

  pub part-back : (ys : List ℕ) → take at kids ++ (ys ++ drop (e - at) (drop at kids)) ≡ v.x ++ (ys ++ v.z)
  part-back ys = rw (v.is, take_at v.x (v.y ++ v.z) at (sym v.place), drop_at v.x (v.y ++ v.z) at (sym v.place), drop_at v.y v.z (e - at) (sym span))

  pub zip-took : (ys : List ℕ) → length ys ≡ length (take (e - at) (drop at kids)) → Ok ix E.ranges T k (cond f 1 0) ys t → Zip E ix p k fs g (take at kids ++ (ys ++ drop (e - at) (drop at kids))) e t
  zip-took ys l o =
      record {
        x = v.x ++ ys;
        z = v.z;
        is = part-back ys ∙ sym (append_assoc v.x ys v.z);
        place = omega (arith, end, v.size, v.place, length-append v.x ys, l, ap length part);
        lends = v.lends;
        whole = v.whole;
        sounds = v.sounds;
        rest = v.rest;
        back = v.back ys o;
      }

  pub zip-skip : Zip E ix p k fs g kids e t
  zip-skip =
      record {
        x = v.x ++ v.y;
        z = v.z;
        is = v.is ∙ sym (append_assoc v.x v.y v.z);
        place = omega (arith, end, v.size, v.place, length-append v.x v.y);
        lends = v.lends;
        whole = v.whole;
        sounds = v.sounds;
        rest = v.rest;
        back = v.back v.y v.ok;
      }

  pub held : NodeHeld E ix p T k (cond f 1 0) (take (e - at) (drop at kids)) t
  held = record { lends = v.lends; sound = v.sound; ok = rw part v.ok }

  pub of-advance : (r : ℕ) (ys : List ℕ) → AdvancePost E (take (e - at) (drop at kids)) t k r ys → First (matches ix T) t r × Ok ix E.ranges T k (cond f 1 0) ys t
  of-advance r ys post = post ix p T (cond f 1 0) held

  -- where the child stands
  pub of-cached : (c : ℕ) → c ≡ get_or kids (at + 2) 0 → t < c → First (matches ix T) t (c - 1)
  of-cached c h l =
      let s : c ≡ get_or v.y 2 0 = h ∙ v.cached in
      rw s (ok-cached ix E.ranges T k (cond f 1 0) v.y t v.ok t (le_refl _) (rw s at l))

module _ {E : Lists} {ix : Index} {p k : ℕ} {fs : Scorers} {kids : List ℕ} {at t : ℕ} where
  pub child-facts : (g : Scorers) → Zip E ix p k fs g kids at t → at < length kids → ChildThere kids at
  child-facts end q l = absurd (omega (arith, zip-none q))
  child-facts (more f T g) q l = record { long = omega (arith, (view q).long, (view q).size); fits = omega (arith, (view q).fits, (view q).size) }

-- the first word of a child's part is its kind
pub child-kind : (kids : List ℕ) (at e : ℕ) → ChildThere kids at → e ≡ at + get_or kids (at + 1) 0 → get_or (take (e - at) (drop at kids)) 0 0 ≡ get_or kids at 0
child-kind kids at e c h = let z : at + 0 ≡ at = omega arith in get_or-take (e - at) (drop at kids) 0 0 (omega (arith, c.long, h)) ∙ get_or-drop at kids 0 0 ∙ ap (λ (i : ℕ). get_or kids i 0) z

-- its third the document where it stands, + 1
pub child-cached : (kids : List ℕ) (at e : ℕ) → ChildThere kids at → e ≡ at + get_or kids (at + 1) 0 → (c : ℕ) → c ≡ get_or kids (at + 2) 0 → {t : ℕ} → c ≤ t → get_or (take (e - at) (drop at kids)) 2 0 ≤ t
child-cached kids at e k h c i l = omega (arith, get_or-take (e - at) (drop at kids) 2 0 (omega (arith, k.long, h)), get_or-drop at kids 2 0)

-- what a child's kind says of its first word
pub child-is-term : {kids : List ℕ} {at : ℕ} {c : Child} → ChildRead kids at c → c.kind ≡ Term → get_or kids at 0 ≡ 1
child-is-term is e = term-word _ (sym is.kind-is ∙ e)

pub child-is-range : {kids : List ℕ} {at : ℕ} {c : Child} → ChildRead kids at c → c.kind ≡ Range → get_or kids at 0 ≡ 4
child-is-range is e = range-word _ (sym is.kind-is ∙ e)

-- the child where a loop stands, asked for documents from t on
pub record ChildHere (E : Lists) (starts other_starts k : ℕ) (kids : List ℕ) (at t : ℕ) : Type 0 where
  pub ix : Index
  pub places : ℕ
  pub scorer : Scorer
  pub scores : ℕ
  pub top : t ≤ no_more_docs
  pub room : RoomIn places starts other_starts
  pub there : ChildThere kids at
  pub held : (e : ℕ) → e ≡ at + get_or kids (at + 1) 0 → NodeHeld E ix places scorer k scores (take (e - at) (drop at kids)) t

pub child-here : {E : Lists} {ix : Index} {p k starts other_starts : ℕ} {fs : Scorers} {kids : List ℕ} {at t : ℕ} → t ≤ no_more_docs → RoomIn p starts other_starts → (g : Scorers) → Zip E ix p k fs g kids at t → at < length kids → ChildHere E starts other_starts k kids at t
child-here top room end q l = absurd (omega (arith, zip-none q))
child-here {ix = ix} {p = p} top room (more f T g) q l =
    record {
      ix = ix;
      places = p;
      scorer = T;
      scores = cond f 1 0;
      top = top;
      room = room;
      there = child-facts (more f T g) q l;
      held = held (view q);
    }

-- .. what is asked of it: c is what its record says
module _ {E : Lists} {starts other_starts k : ℕ} {kids : List ℕ} {at t : ℕ} (h : ChildHere E starts other_starts k kids at t) {c : Child} (is : ChildRead kids at c) where
  pub child-asked : AdvancePre E starts other_starts (take (c.end - at) (drop at kids)) t k
  child-asked = (h.top, (h.ix, h.places, h.scorer, h.scores, h.room, h.held _ is.end_is))

  pub phrase-asked : get_or kids at 0 ≡ 2 → c.cached ≤ t → AskPre E.postings E.positions starts other_starts (take (c.end - at) (drop at kids)) t
  phrase-asked w due = (h.top, child-kind kids at _ h.there is.end_is ∙ w, child-cached kids at _ h.there is.end_is _ is.cached-is due, (E, refl, refl, h.ix, h.places, h.scorer, k, h.scores, h.room, h.held _ is.end_is))

  pub term-asked : c.kind ≡ Term → AdvanceTermPre E.postings (take (c.end - at) (drop at kids)) t
  term-asked e = (h.top, child-kind kids at _ h.there is.end_is ∙ child-is-term is e, (E, refl, h.ix, h.places, h.scorer, k, h.scores, h.held _ is.end_is))

  pub range-asked : c.kind ≡ Range → AdvanceRangePre E.ranges (take (c.end - at) (drop at kids)) t
  range-asked e = (h.top, child-kind kids at _ h.there is.end_is ∙ child-is-range is e, (E, refl, h.ix, h.places, h.scorer, k, h.scores, h.held _ is.end_is))
