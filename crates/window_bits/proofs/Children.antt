-- A child of a node that is asked by windows: what a question of its part needs, and what the answer says of it. Assumes nothing.
use Rattle.std.proofs.Common.{◌≡◌, refl, sym, ap, ◌∙◌, subst, Bool, true, cond, ◌&&◌, List, ◌++◌, ℕ, ◌+◌, ◌-◌, ◌≤◌, ◌<◌, length, get_or, take, drop, length-take, length-drop, arith, get_or-append-add}
use lib.ListN.{get_or-append}
use Rattle.meaning.specs.Limits.{node_state_words}
use Rattle.meaning.specs.Lent.{Index}
use Rattle.bits.specs.Bit.{bit}
use Rattle.tree_weight.specs.ScorerTree.{Scorer, Scorers, end, more, matches}
use Rattle.tree_weight.specs.Sound.{Lends, Sound, Sounds, nodes, nodes_of}
use Rattle.scorer_leaf.specs.Calls.{lists}
use Rattle.tree_node.specs.Words.{ChildThere}
use Rattle.window_words.specs.Windowed.{nowhere, places_of, Windowed}
use Rattle.window_words.proofs.Laws.{windowed-long, windowed-size, windowed-kind, kind_of}
use Rattle.window_words.proofs.Parts.{Part, Each, Zip, View, zip-none, view, word-at, word-first, part}
use Rattle.window_leaf.specs.Asks.{NodeWindowed, NodeAnswers, BitsPre, TermBitsPost}
use Rattle.window_leaf.proofs.Nodes.{wanted-answers, wanted-windowed}
use Rattle.window_bits.specs.Parts.{Called}

-- ---- what is known of each child that is left
pub record Known (ix : Index) (places : ℕ) (s : Scorer) : Type 0 where
  pub sound : Sound ix places s
  pub few : nodes s ≤ 255

abbrev pub AndKnown : Index → ℕ → Part → Part
AndKnown ix places P f s y = Known ix places s × P f s y

pub each-known : (P : Part) (ix : Index) (places : ℕ) (ss : Scorers) (w : List ℕ) → Sounds ix places ss → nodes_of ss ≤ 255 → Each P ss w → Each (AndKnown ix places P) ss w
unfolding Each Sounds nodes_of
each-known P ix places end w h n p = p
each-known P ix places (more f s ss) w h n p = (p.0, p.1, p.2, (record { sound = h.0; few = omega (arith, n) }, p.3), each-known P ix places ss p.1 h.1 (omega (arith, n)) p.4)

-- its cursors have passed only documents below the next window
pub record Low (ix : Index) (R : List ℕ) (k base : ℕ) (P : Part) : Type 0 where
  pub low : (f : Bool) (s : Scorer) (y : List ℕ) → P f s y → Windowed ix R s k (cond f 1 0) y (base + 64) base nowhere

-- a child whose first word is so is not asked yet
pub record Fresh (ix : Index) (R : List ℕ) (k base kind : ℕ) (P : Part) : Type 0 where
  pub fresh : (f : Bool) (s : Scorer) (y : List ℕ) → kind_of s ≡ kind → P f s y → Windowed ix R s k (cond f 1 0) y base base nowhere

module _ {ix : Index} {R : List ℕ} {k base places : ℕ} {P Q : Part} (low : Low ix R k base P) {ss : Scorers} {kids : List ℕ} {at : ℕ} where
  module _ {f : Bool} {s : Scorer} {g : Scorers} (v : View (AndKnown ix places P) Q ss f s g kids at) where
    held : Windowed ix R s k (cond f 1 0) v.y (base + 64) base nowhere
    held = low.low f s v.y v.part-is.1

    long : node_state_words ≤ length v.y
    long = windowed-long ix R s k (cond f 1 0) v.y (base + 64) base nowhere held

    pub size-read : get_or kids (at + 1) 0 ≡ length v.y
    size-read = word-at v 1 (omega (arith, long)) ∙ windowed-size ix R s k (cond f 1 0) v.y (base + 64) base nowhere held

    pub kind-read : kind_of s ≡ get_or kids at 0
    kind-read = sym (word-first v (omega (arith, long)) ∙ windowed-kind ix R s k (cond f 1 0) v.y (base + 64) base nowhere held)

    pub stop-is : (e : ℕ) → e ≡ at + get_or kids (at + 1) 0 → e ≡ at + length v.y
    stop-is e h = h ∙ ap (λ (n : ℕ). at + n) size-read

    pub child-facts : ChildThere kids at
    child-facts = record { long = omega (arith, long, size-read); fits = omega (arith, size-read, v.fits) }

    pub child-held : (postings positions : List ℕ) (n : ℕ) → Lends ix n postings positions → (kind : ℕ) → Fresh ix R k base kind P → (e : ℕ) → e ≡ at + get_or kids (at + 1) 0 → kind ≡ get_or kids at 0 → NodeWindowed (lists n postings positions R) ix places s k (cond f 1 0) (take (e - at) (drop at kids)) base
    child-held postings positions n h kind fresh e i j =
        record { lends = h; sound = v.part-is.0.sound; few = omega (arith, v.part-is.0.few); held = subst (λ (y : List ℕ). Windowed ix R s k (cond f 1 0) y base base nowhere) (sym (part v e (stop-is e i))) (fresh.fresh f s v.y (kind-read ∙ sym j) v.part-is.1) }

  pub child-there : (g : Scorers) → Zip (AndKnown ix places P) Q ss g kids at → at < length kids → ChildThere kids at
  child-there end q l = absurd (omega (arith, zip-none q, l))
  child-there (more f s g) q l = child-facts (view q)

  pub child-node : (postings positions : List ℕ) (n : ℕ) → Lends ix n postings positions → (kind : ℕ) → Fresh ix R k base kind P → (g : Scorers) → Zip (AndKnown ix places P) Q ss g kids at → at < length kids → (e : ℕ) → e ≡ at + get_or kids (at + 1) 0 → kind ≡ get_or kids at 0 → (s : Scorer) × (scores : ℕ) × NodeWindowed (lists n postings positions R) ix places s k scores (take (e - at) (drop at kids)) base
  child-node postings positions n h kind fresh end q l e i j = absurd (omega (arith, zip-none q, l))
  child-node postings positions n h kind fresh (more f s g) q l e i j = (s, cond f 1 0, child-held (view q) postings positions n h kind fresh e i j)

-- ---- what a call asks
pub bits-pre : {n places starts other_starts base want : ℕ} (postings positions ranges : List ℕ) → Called (lists n postings positions ranges) places starts other_starts base want → (starts' other_starts' w : ℕ) → starts' ≡ starts → other_starts' ≡ other_starts → ((p : ℕ) → p < 64 → bit p w ≡ true → bit p want ≡ true) → (ix : Index) (q : List ℕ) (depth : ℕ) → (s : Scorer) × (scores : ℕ) × NodeWindowed (lists n postings positions ranges) ix places s depth scores q base → BitsPre (lists n postings positions ranges) starts' other_starts' q base w depth
bits-pre {n} {places} {starts} {other_starts} {base} {want} postings positions ranges c starts' other_starts' w e f within ix q depth h =
    (c.small, (n, ix, places, h.0, h.1, λ p l t. c.wanted p l (within p l t), record { in-starts = omega (arith, c.room.in-starts, e); in-other = omega (arith, c.room.in-other, f) }, h.2))

module _ {ix : Index} {R : List ℕ} {k base places : ℕ} {P Q : Part} (low : Low ix R k base P) {ss : Scorers} {kids : List ℕ} {at : ℕ} (postings positions : List ℕ) (n : ℕ) {starts other_starts want : ℕ} (called : Called (lists n postings positions R) places starts other_starts base want) (lends : Lends ix n postings positions) (kind : ℕ) (fresh : Fresh ix R k base kind P) (g : Scorers) (zip : Zip (AndKnown ix places P) Q ss g kids at) (l : at < length kids) (e : ℕ) (i : e ≡ at + get_or kids (at + 1) 0) (j : kind ≡ get_or kids at 0) where
  pub ask-node : (starts' other_starts' w : ℕ) → starts' ≡ starts → other_starts' ≡ other_starts → ((p : ℕ) → p < 64 → bit p w ≡ true → bit p want ≡ true) → BitsPre (lists n postings positions R) starts' other_starts' (take (e - at) (drop at kids)) base w k
  ask-node starts' other_starts' w f h within = bits-pre postings positions R called starts' other_starts' w f h within ix (take (e - at) (drop at kids)) k (child-node low postings positions n lends kind fresh g zip l e i j)

-- ---- what a call answers: a term's answer, cut to what is wanted
pub term-answers : (w : ℕ) (ys : List ℕ) {n : ℕ} {postings positions ranges q : List ℕ} {base depth t r : ℕ} → ((p : ℕ) → bit p r ≡ bit p w && bit p t) → TermBitsPost postings q base t ys → NodeAnswers (lists n postings positions ranges) q base (places_of w) depth r ys
term-answers w ys {n} {postings} {positions} {ranges} {q} {base} {depth} {t} {r} e post ix places s scores h =
    let a = post (lists n postings positions ranges) depth refl ix places s scores h in
    (wanted-answers (matches ix s) base w t _ r a.0 e, wanted-windowed ix ranges s depth scores ys (base + 64) base w a.1)

-- ---- words of a part that was put back
pub word-back : (kids ys : List ℕ) (at e i : ℕ) → at ≤ length kids → i < length ys → get_or (take at kids ++ (ys ++ drop (e - at) (drop at kids))) (at + i) 0 ≡ get_or ys i 0
word-back kids ys at e i h l =
    let n : length (take at kids) ≡ at = length-take at kids ∙ omega (arith, h) in
    ap (λ (j : ℕ). get_or (take at kids ++ (ys ++ drop (e - at) (drop at kids))) (j + i) 0) (sym n) ∙ get_or-append-add (take at kids) (ys ++ drop (e - at) (drop at kids)) i 0 ∙ get_or-append ys (drop (e - at) (drop at kids)) 0 i l

pub part-length : (kids : List ℕ) (at e : ℕ) → ChildThere kids at → e ≡ at + get_or kids (at + 1) 0 → node_state_words ≤ length (take (e - at) (drop at kids))
part-length kids at e c h = omega (arith, length-take (e - at) (drop at kids), length-drop at kids, c.long, c.fits, h)
