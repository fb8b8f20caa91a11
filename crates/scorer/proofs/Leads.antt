-- The children of a Boolean in their three lists: the parts of a slice that its routines lend, and how they come back. Assumes nothing.
use mathlib.Core.Path.{◌≡◌, refl, sym, ap, ◌∙◌}
use mathlib.Core.Bool.{Bool, true, cond, ◌&&◌}
use mathlib.Core.List.{List, [], ◌∷◌, ◌++◌, append-nil}
use Prim.Native.Nat.{ℕ, ◌-◌, ◌≤◌}
use native.Mathlib.Nat.{le_refl}
use native.Mathlib.Omega.{arith}
use lib.Dec.{leb}
use lib.ListN.{length, take, drop, length-append, length-take, length-drop}
use lib.Seq.{take_at, drop_at, take-length, drop-length}
use borrow.Author.Tests.{le-leb}
use Rattle.meaning.specs.Limits.{no_more_docs}
use Rattle.meaning.specs.Lent.{Index}
use Rattle.meaning.specs.First.{First}
use Rattle.tree_weight.specs.ScorerTree.{Scorers, end, more, all_match, matching}
use Rattle.tree_weight.specs.State.{sizes_of}
use Rattle.tree_weight.specs.Held.{Oks}
use Rattle.scorer.specs.Calls.{PartsHeld, Approximates, PassPost, LeadHeld, LeadPost, BooleanHeld, leads}
use Rattle.scorer_leaf.specs.Calls.{Lists}
use Rattle.scorer_leaf.proofs.Bounds.{oks-mono, oks-length, ok-long}
use Rattle.scorer.proofs.Firsts.{all_end, matching-end}
use Rattle.scorer_leaf.proofs.Loops.{first-like}

-- a list in two: the part up to the seam, the part from it on, and each put back
module _ (kids x v : List ℕ) (n : ℕ) (is : kids ≡ x ++ v) (seam : length x ≡ n) where
  pub front-part : take n kids ≡ x
  front-part = rw (is, take_at x v n seam)

  pub front-back : (ys : List ℕ) → ys ++ drop n kids ≡ ys ++ v
  front-back ys = rw (is, drop_at x v n seam)

  rest-length : length kids - n ≡ length v
  rest-length = omega (arith, ap length is, length-append x v)

  pub rest_part : take (length kids - n) (drop n kids) ≡ v
  rest_part = rw (rest-length, is, drop_at x v n seam, take-length)

  pub rest_back : (ys : List ℕ) → take n kids ++ (ys ++ drop (length kids - n) (drop n kids)) ≡ x ++ ys
  rest_back ys = rw (rest-length, is, take_at x v n seam, drop_at x v n seam, drop-length, append-nil)

pub front_length : (kids ys : List ℕ) (n : ℕ) → length ys ≡ length (take n kids) → length (ys ++ drop n kids) ≡ length kids
front_length kids ys n h = simp (length-append, length-take, length-drop, h) (omega arith)

pub parts-later : {E : Lists} {ix : Index} {p k : ℕ} {ss : Scorers} {w : List ℕ} {b : ℕ} (e : ℕ) → b ≤ e → PartsHeld E ix p ss k w b → PartsHeld E ix p ss k w e
parts-later {E} {ix} {p} {k} {ss} {w} {b} e h q = record { lends = q.lends; sounds = q.sounds; oks = oks-mono ix E.ranges ss k w b e h q.oks }

pub parts-length : {E : Lists} {ix : Index} {p k : ℕ} {ss : Scorers} {w : List ℕ} {b : ℕ} → PartsHeld E ix p ss k w b → length w ≡ sizes_of ss
parts-length {E} {ix} {p} {k} {ss} {w} {b} q = oks-length ix E.ranges ss k w b q.oks

-- ---- the required and the optional
module _ {E : Lists} {ix : Index} {p k : ℕ} {rs os : Scorers} {n : ℕ} {kids : List ℕ} {t : ℕ} (h : LeadHeld E ix p rs os k n kids t) where
  seam : length h.x ≡ n
  seam = parts-length h.required ∙ sym h.required-end

  pub lead-fits : n ≤ length kids
  lead-fits = omega (arith, seam, ap length h.is, length-append h.x h.v)

  pub lead-required : PartsHeld E ix p rs k (take n kids) t
  lead-required = rw (front-part kids h.x h.v n h.is seam) h.required

  lead-passed : (ys : List ℕ) (e : ℕ) → t ≤ e → PartsHeld E ix p rs k ys e → LeadHeld E ix p rs os k n (ys ++ drop n kids) e
  lead-passed ys e l q = record { x = ys; v = h.v; is = front-back kids h.x h.v n h.is seam ys; required-end = h.required-end; required = q; optional = parts-later e l h.optional }

  pub lead-turn : (ys : List ℕ) (r : ℕ) → PassPost E (take n kids) t k r ys → Approximates (all_match ix rs) t t r × LeadHeld E ix p rs os k n (ys ++ drop n kids) r
  lead-turn ys r post = let q = post ix p rs lead-required in (q.0, lead-passed ys r q.0.from q.1)

  pub lead-optional : PartsHeld E ix p os k (take (length kids - n) (drop n kids)) t
  lead-optional = rw (rest_part kids h.x h.v n h.is seam) h.optional

  pub lead-joined : (ys : List ℕ) (e : ℕ) → t ≤ e → PartsHeld E ix p os k ys e → LeadHeld E ix p rs os k n (take n kids ++ (ys ++ drop (length kids - n) (drop n kids))) e
  lead-joined ys e l q = record { x = h.x; v = ys; is = rest_back kids h.x h.v n h.is seam ys; required-end = h.required-end; required = parts-later e l h.required; optional = q }

  pub lead-later : (e : ℕ) → t ≤ e → LeadHeld E ix p rs os k n kids e
  lead-later e l = record { x = h.x; v = h.v; is = h.is; required-end = h.required-end; required = parts-later e l h.required; optional = parts-later e l h.optional }

-- without required children
no-parts : {E : Lists} {ix : Index} {p k : ℕ} {t : ℕ} (rs : Scorers) (x : List ℕ) → PartsHeld E ix p rs k x t → length x ≡ 0 → (d : ℕ) → all_match ix rs d ≡ true
unfolding Oks
no-parts {E} {ix} {p} {k} {t} end x q e d = all_end ix d
no-parts {E} {ix} {p} {k} {t} (more f T ss) x q e d =
    let o = q.oks in
    absurd (omega (arith, ap length o.2, length-append o.0 o.1, ok-long ix E.ranges T k (cond f 1 0) o.0 t o.3))

-- without prohibited children
none-match : {E : Lists} {ix : Index} {p k : ℕ} {t : ℕ} (ps : Scorers) (x : List ℕ) → PartsHeld E ix p ps k x t → length x ≡ 0 → (d : ℕ) → matching ix ps d ≡ 0
unfolding Oks
none-match {E} {ix} {p} {k} {t} end x q e d = matching-end ix d
none-match {E} {ix} {p} {k} {t} (more f T ss) x q e d =
    let o = q.oks in
    absurd (omega (arith, ap length o.2, length-append o.0 o.1, ok-long ix E.ranges T k (cond f 1 0) o.0 t o.3))

nil-of : (x : List ℕ) → length x ≡ 0 → x ≡ []
nil-of [] e = refl
nil-of (a ∷ x) e = absurd (omega (arith, e))

module _ {E : Lists} {ix : Index} {p k : ℕ} {rs os : Scorers} {n : ℕ} {kids : List ℕ} {t : ℕ} (h : LeadHeld E ix p rs os k n kids t) (e : n ≡ 0) where
  pub alone-all : (d : ℕ) → all_match ix rs d ≡ true
  alone-all = no-parts rs h.x h.required (seam h ∙ e)

  alone-nil : h.x ≡ []
  alone-nil = nil-of h.x (seam h ∙ e)

  pub alone-optional : PartsHeld E ix p os k kids t
  alone-optional = let s : kids ≡ h.v = h.is ∙ ap (λ (l : List ℕ). l ++ h.v) alone-nil in rw s h.optional

  pub alone-joined : (ys : List ℕ) (r : ℕ) → t ≤ r → PartsHeld E ix p os k ys r → LeadHeld E ix p rs os k n ys r
  alone-joined ys r l q = record { x = h.x; v = ys; is = ap (λ (z : List ℕ). z ++ ys) (sym alone-nil); required-end = h.required-end; required = parts-later r l h.required; optional = q }

  pub alone-first : (need r : ℕ) → First (λ d. leb need (matching ix os d)) t r → First (leads ix rs os need) t r
  alone-first need r f = first-like (λ d. ap (λ (i : Bool). i && leb need (matching ix os d)) (sym (alone-all d))) f

  -- and where none of the optional is needed, each document leads
  pub alone-here : (need : ℕ) → need ≡ 0 → t ≤ no_more_docs → First (leads ix rs os need) t t
  alone-here need z top = record { from = le_refl _; top = top; before = λ d a b. absurd (omega arith); hit = λ _. rw (alone-all t) (le-leb need (matching ix os t) (omega arith)) }

-- ---- and the prohibited
module _ {E : Lists} {ix : Index} {p k : ℕ} {rs os ps : Scorers} {n m : ℕ} {kids : List ℕ} {t : ℕ} (h : BooleanHeld E ix p rs os ps k n m kids t) where
  pub boolean-lead : LeadHeld E ix p rs os k n (take m kids) t
  boolean-lead = rw (front-part kids h.w h.z m h.is (sym h.optional-end)) h.lead

  boolean-led : (ys : List ℕ) (e : ℕ) → t ≤ e → length ys ≡ length (take m kids) → LeadHeld E ix p rs os k n ys e → BooleanHeld E ix p rs os ps k n m (ys ++ drop m kids) e
  boolean-led ys e l len q =
      record {
        w = ys;
        z = h.z;
        is = front-back kids h.w h.z m h.is (sym h.optional-end) ys;
        optional-end = omega (arith, h.optional-end, len, ap length (front-part kids h.w h.z m h.is (sym h.optional-end)));
        lead = q;
        prohibited = parts-later e l h.prohibited;
      }

  -- a step of the lead in front of the prohibited
  pub boolean-turn : (need : ℕ) (ys : List ℕ) (r : ℕ) → length ys ≡ length (take m kids) → LeadPost E (take m kids) n need t k r ys → First (leads ix rs os need) t r × BooleanHeld E ix p rs os ps k n m (ys ++ drop m kids) r
  boolean-turn need ys r len post = let q = post ix p rs os boolean-lead in (q.0, boolean-led ys r q.0.from len q.1)

  pub boolean-prohibited : PartsHeld E ix p ps k (take (length kids - m) (drop m kids)) t
  boolean-prohibited = rw (rest_part kids h.w h.z m h.is (sym h.optional-end)) h.prohibited

  pub boolean-joined : (ys : List ℕ) → PartsHeld E ix p ps k ys t → BooleanHeld E ix p rs os ps k n m (take m kids ++ (ys ++ drop (length kids - m) (drop m kids))) t
  boolean-joined ys q = record { w = h.w; z = ys; is = rest_back kids h.w h.z m h.is (sym h.optional-end) ys; optional-end = h.optional-end; lead = h.lead; prohibited = q }

  pub boolean-later : (e : ℕ) → t ≤ e → BooleanHeld E ix p rs os ps k n m kids e
  boolean-later e l = record { w = h.w; z = h.z; is = h.is; optional-end = h.optional-end; lead = lead-later h.lead e l; prohibited = parts-later e l h.prohibited }

  pub boolean-none : m ≡ length kids → (d : ℕ) → matching ix ps d ≡ 0
  boolean-none e = none-match ps h.z h.prohibited (omega (arith, h.optional-end, ap length h.is, length-append h.w h.z))
