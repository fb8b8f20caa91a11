-- The parts of some children, one after the other, each with something known of it, and a walk along them: what is
-- known of the children passed and of those left, and a part put back. Assumes nothing.
use Rattle.std.proofs.Common.{◌≡◌, refl, sym, ap, subst, ◌∙◌, Bool, cond, List, [], ◌++◌, ℕ, ◌+◌, ◌-◌, ◌≤◌, ◌<◌, length, get_or, take, drop, append_assoc, append-nil, length-append, length-take, length-drop, take_at, drop_at, get_or-append-add, arith}
use lib.ListN.{get_or-append}
use Rattle.meaning.specs.Lent.{Index}
use Rattle.tree_weight.specs.ScorerTree.{Scorer, Scorers, end, more}
use Rattle.tree_weight.specs.Sound.{Sound, Sounds}
use Rattle.window_words.specs.Windowed.{Places, Windowed, AllWindowed}

-- what may be known of a child: whether it scores, its scorer, the words of its part
abbrev pub Part : Type 1
Part = Bool → Scorer → List ℕ → Type 0

-- known of each
unfoldable pub Each : Part → Scorers → List ℕ → Type 0
Each P end w = w ≡ []
Each P (more f s ss) w = (y : List ℕ) × (z : List ℕ) × (w ≡ y ++ z) × P f s y × Each P ss z

pub each-map : {P Q : Part} → ((f : Bool) (s : Scorer) (y : List ℕ) → P f s y → Q f s y) → (ss : Scorers) (w : List ℕ) → Each P ss w → Each Q ss w
unfolding Each
each-map h end w p = p
each-map h (more f s ss) w p = (p.0, p.1, p.2, h f s p.0 p.3, each-map h ss p.1 p.4)

-- ---- the parts of a tree that is asked by windows
abbrev pub Asked : Index → List ℕ → ℕ → ℕ → ℕ → Places → Part
Asked ix R k b base D f s y = Windowed ix R s k (cond f 1 0) y b base D

pub all-each : (ix : Index) (R : List ℕ) (ss : Scorers) (k : ℕ) (w : List ℕ) (b base : ℕ) (D : Places) → AllWindowed ix R ss k w b base D → Each (Asked ix R k b base D) ss w
unfolding AllWindowed Each
all-each ix R end k w b base D p = p
all-each ix R (more f s ss) k w b base D p = (p.0, p.1, p.2, p.3, all-each ix R ss k p.1 b base D p.4)

pub each-all : (ix : Index) (R : List ℕ) (ss : Scorers) (k : ℕ) (w : List ℕ) (b base : ℕ) (D : Places) → Each (Asked ix R k b base D) ss w → AllWindowed ix R ss k w b base D
unfolding AllWindowed Each
each-all ix R end k w b base D p = p
each-all ix R (more f s ss) k w b base D p = (p.0, p.1, p.2, p.3, each-all ix R ss k p.1 b base D p.4)

-- sound too
abbrev pub AndSound : Index → ℕ → Part → Part
AndSound ix places P f s y = Sound ix places s × P f s y

pub each-sound : (P : Part) (ix : Index) (places : ℕ) (ss : Scorers) (w : List ℕ) → Sounds ix places ss → Each P ss w → Each (AndSound ix places P) ss w
unfolding Each Sounds
each-sound P ix places end w h p = p
each-sound P ix places (more f s ss) w h p = (p.0, p.1, p.2, (h.0, p.3), each-sound P ix places ss p.1 h.1 p.4)

-- ---- some children after others
unfoldable pub appended : Scorers → Scorers → Scorers
appended end g = g
appended (more f s h) g = more f s (appended h g)

pub appended-end : (h : Scorers) → appended h end ≡ h
unfolding appended
appended-end end = refl
appended-end (more f s h) = ap (more f s) (appended-end h)

pub appended-more : (h : Scorers) (f : Bool) (s : Scorer) (g : Scorers) → appended (appended h (more f s end)) g ≡ appended h (more f s g)
unfolding appended
appended-more end f s g = refl
appended-more (more f' s' h) f s g = ap (more f' s') (appended-more h f s g)

pub each-append : (P : Part) (h g : Scorers) (x z : List ℕ) → Each P h x → Each P g z → Each P (appended h g) (x ++ z)
unfolding Each appended
each-append P end g x z p q = subst (λ (l : List ℕ). Each P g (l ++ z)) (sym p) q
each-append P (more f s h) g x z p q = (p.0, p.1 ++ z, ap (λ (l : List ℕ). l ++ z) p.2 ∙ append_assoc p.0 p.1 z, p.3, each-append P h g p.1 z p.4 q)

pub each-snoc : (P : Part) (h : Scorers) (f : Bool) (s : Scorer) (x y : List ℕ) → Each P h x → P f s y → Each P (appended h (more f s end)) (x ++ y)
unfolding Each
each-snoc P h f s x y p q = each-append P h (more f s end) x y p (y, [], sym (append-nil y), q, refl)

-- ---- a walk along the children: Q is known of those passed, which are h, and P of those left, which are g
pub record Zip (P Q : Part) (ss g : Scorers) (kids : List ℕ) (at : ℕ) : Type 0 where
  pub h : Scorers
  pub whole : appended h g ≡ ss
  pub x : List ℕ
  pub z : List ℕ
  pub is : kids ≡ x ++ z
  pub place : length x ≡ at
  pub front : Each Q h x
  pub rest : Each P g z

module _ {P Q : Part} {ss : Scorers} {kids : List ℕ} where
  pub zip-start : Each P ss kids → Zip P Q ss ss kids 0
  unfolding Each appended
  zip-start p = record { h = end; whole = refl; x = []; z = kids; is = refl; place = refl; front = refl; rest = p }

  pub zip-none : {at : ℕ} → Zip P Q ss end kids at → length kids ≡ at
  unfolding Each
  zip-none q = omega (arith, ap length q.is, length-append q.x q.z, ap length q.rest, q.place)

  pub zip-end : {at : ℕ} → Zip P Q ss end kids at → Each Q ss kids
  unfolding Each
  zip-end q =
      let e : q.h ≡ ss = sym (appended-end q.h) ∙ q.whole in
      let l : kids ≡ q.x = q.is ∙ ap (λ (z : List ℕ). q.x ++ z) q.rest ∙ append-nil q.x in
      rw (sym e, l) q.front

  pub zip-front-map : {Q' : Part} → ((f : Bool) (s : Scorer) (y : List ℕ) → Q f s y → Q' f s y) → {g : Scorers} {at : ℕ} → Zip P Q ss g kids at → Zip P Q' ss g kids at
  zip-front-map m q = record { h = q.h; whole = q.whole; x = q.x; z = q.z; is = q.is; place = q.place; front = each-map m q.h q.x q.front; rest = q.rest }

  -- the walk stops here: what is known of those left serves for those passed
  pub zip-stop : ((f : Bool) (s : Scorer) (y : List ℕ) → P f s y → Q f s y) → {g : Scorers} {at : ℕ} → Zip P Q ss g kids at → Each Q ss kids
  zip-stop m {g} q = rw (sym q.whole, q.is) (each-append Q q.h g q.x q.z q.front (each-map m g q.z q.rest))

-- the next child
pub record View (P Q : Part) (ss : Scorers) (f : Bool) (s : Scorer) (g : Scorers) (kids : List ℕ) (at : ℕ) : Type 0 where
  pub h : Scorers
  pub whole : appended h (more f s g) ≡ ss
  pub x : List ℕ
  pub y : List ℕ
  pub z : List ℕ
  pub is : kids ≡ x ++ (y ++ z)
  pub place : length x ≡ at
  pub front : Each Q h x
  pub part-is : P f s y
  pub rest : Each P g z
  pub fits : at + length y ≤ length kids

pub view : {P Q : Part} {ss : Scorers} {f : Bool} {s : Scorer} {g : Scorers} {kids : List ℕ} {at : ℕ} → Zip P Q ss (more f s g) kids at → View P Q ss f s g kids at
unfolding Each
view q =
    let e = q.is ∙ ap (λ (l : List ℕ). q.x ++ l) q.rest.2 in
    record {
      h = q.h;
      whole = q.whole;
      x = q.x;
      y = q.rest.0;
      z = q.rest.1;
      is = e;
      place = q.place;
      front = q.front;
      part-is = q.rest.3;
      rest = q.rest.4;
      fits = omega (arith, ap length e, length-append q.x (q.rest.0 ++ q.rest.1), length-append q.rest.0 q.rest.1, q.place);
    }

module _ {P Q : Part} {ss : Scorers} {f : Bool} {s : Scorer} {g : Scorers} {kids : List ℕ} {at : ℕ} (v : View P Q ss f s g kids at) where
  -- a word of its part
  pub word-at : (i : ℕ) → i < length v.y → get_or kids (at + i) 0 ≡ get_or v.y i 0
  word-at i l = rw (v.is, sym v.place, get_or-append-add) (get_or-append v.y v.z 0 i l)

  pub word-first : 0 < length v.y → get_or kids at 0 ≡ get_or v.y 0 0
  word-first l = let z : at ≡ at + 0 = omega arith in ap (λ (i : ℕ). get_or kids i 0) z ∙ word-at 0 l

  module _ (e : ℕ) (stop : e ≡ at + length v.y) where
    span : e - at ≡ length v.y
    span = omega (arith, stop)

    pub part : take (e - at) (drop at kids) ≡ v.y
    part = rw (v.is, drop_at v.x (v.y ++ v.z) at v.place, take_at v.y v.z (e - at) (sym span))

    -- what is known of the part that is lent
    pub part-held : P f s (take (e - at) (drop at kids))
    part-held = subst (P f s) (sym part) v.part-is

    pub part-back : (ys : List ℕ) → take at kids ++ (ys ++ drop (e - at) (drop at kids)) ≡ v.x ++ (ys ++ v.z)
    part-back ys = rw (v.is, take_at v.x (v.y ++ v.z) at v.place, drop_at v.x (v.y ++ v.z) at v.place, drop_at v.y v.z (e - at) (sym span))

    -- the child is passed, with other words in its part
    pub zip-next : (ys : List ℕ) → length ys ≡ length (take (e - at) (drop at kids)) → Q f s ys → Zip P Q ss g (take at kids ++ (ys ++ drop (e - at) (drop at kids))) e
    zip-next ys l q =
        record {
          h = appended v.h (more f s end);
          whole = appended-more v.h f s g ∙ v.whole;
          x = v.x ++ ys;
          z = v.z;
          is = part-back ys ∙ sym (append_assoc v.x ys v.z);
          place = omega (arith, stop, v.place, length-append v.x ys, l, ap length part);
          front = each-snoc Q v.h f s v.x ys v.front q;
          rest = v.rest;
        }

    -- with its part as it was
    pub zip-skip : Q f s v.y → Zip P Q ss g kids e
    zip-skip q =
        record {
          h = appended v.h (more f s end);
          whole = appended-more v.h f s g ∙ v.whole;
          x = v.x ++ v.y;
          z = v.z;
          is = v.is ∙ sym (append_assoc v.x v.y v.z);
          place = omega (arith, stop, v.place, length-append v.x v.y);
          front = each-snoc Q v.h f s v.x v.y v.front q;
          rest = v.rest;
        }

pub back-length : (kids ys : List ℕ) (at e : ℕ) → length ys ≡ length (take (e - at) (drop at kids)) → length (take at kids ++ (ys ++ drop (e - at) (drop at kids))) ≡ length kids
back-length kids ys at e h = simp (length-append, length-take, length-drop, h) (omega arith)
