-- A node: where it stands, its move as a leaf and as a Boolean, and its words with a new cached document. Assumes nothing.
use mathlib.Core.Path.{◌≡◌, refl, sym, ap, subst, ◌∙◌}
use mathlib.Core.Bool.{true}
use mathlib.Core.List.{List, ◌++◌, append_assoc, append-nil}
use mathlib.Core.Option.{Option, none, some}
use Prim.Native.Nat.{ℕ, ◌+◌, ◌-◌, ◌≤◌, ◌<◌, max}
use native.Mathlib.Nat.{le_refl}
use native.Mathlib.Omega.{arith}
use lib.ListN.{get_or, length, take, drop, set, length-append}
use lib.Seq.{take-length, drop-length}
use lib.Ieee.{Float}
use Rattle.meaning.specs.Limits.{no_more_docs, node_state_words}
use Rattle.meaning.specs.Lent.{Index}
use Rattle.meaning.specs.First.{First}
use Rattle.tree_weight.specs.ScorerTree.{Leaf, nothing, term, phrase, range, everything, Scoring, constant, weighted, Joining, one_more, afterwards, Scorer, leaf, boolean, Scorers, matches, leaf_matches}
use Rattle.tree_weight.specs.State.{State, words_of, sizes_of}
use Rattle.tree_weight.specs.Held.{LeafIs, ScoringIs, KeptIs, JoiningIs, Ok}
use Rattle.tree_weight.specs.Sound.{Sound}
use Rattle.tree_node.specs.Words.{BooleanRead}
use Rattle.tree_node.specs.declared.Boolean.{Boolean}
use Rattle.scorer.specs.Calls.{NodeHeld, BooleanHeld, ExcludingPost}
use Rattle.scorer_leaf.specs.Calls.{Lists, LeafHeld, LeafMoved, SeekPost, Approximates}
use Rattle.scorer_leaf.proofs.Bounds.{leaf-mono, oks-length, ok-long, ok-cached}
use Rattle.scorer.proofs.Firsts.{cache-new, boolean-takes}
use Rattle.scorer_leaf.proofs.Loops.{first-like}

-- a record with another cached document
abbrev pub cached_at : State → ℕ → State
cached_at s c = record s { cached = c }

-- ---- leaves
pub leaf-kind : (ix : Index) (R : List ℕ) (l : Leaf) (s : State) (w : List ℕ) (b : ℕ) → LeafIs ix R l s w b → s.kind ≡ 3 → ⊥
unfolding LeafIs
leaf-kind ix R nothing s w b p e = omega (arith, p.0)
leaf-kind ix R (term l) s w b p e = omega (arith, p.0.kind-is)
leaf-kind ix R (phrase f ts) s w b p e = omega (arith, p.kind-is)
leaf-kind ix R (range r) s w b p e = omega (arith, p.0.kind-is)
leaf-kind ix R everything s w b p e = omega (arith, p.0)

-- its cache is no part of what a leaf says, but where it matches nothing
pub leaf-recached : (ix : Index) (R : List ℕ) (l : Leaf) (s : State) (w : List ℕ) (b c : ℕ) → s.cached ≤ no_more_docs → LeafIs ix R l s w b → LeafIs ix R l (cached_at s c) w b
unfolding LeafIs
leaf-recached ix R nothing s w b c h p = absurd (omega (arith, p.2))
leaf-recached ix R (term l) s w b c h p = (
  record {
    kind-is = p.0.kind-is;
    size_is = p.0.size_is;
    first-is = p.0.first-is;
    number_is = p.0.number_is;
    field_is = p.0.field_is;
    norms-is = p.0.norms-is;
    run = p.0.run;
  },
  p.1,
)
leaf-recached ix R (phrase f ts) s w b c h p =
    record {
      kind-is = p.kind-is;
      size_is = p.size_is;
      field_is = p.field_is;
      norms-is = p.norms-is;
      terms = p.terms;
      worked-out = p.worked-out;
    }
leaf-recached ix R (range r) s w b c h p = (
  record {
    kind-is = p.0.kind-is;
    size_is = p.0.size_is;
    number_is = p.0.number_is;
    there = p.0.there;
    bits = p.0.bits;
  },
  p.1,
)
leaf-recached ix R everything s w b c h p = p

scoring-kept : (sc : Scoring) (s s' : State) → s'.constant ≡ s.constant → s'.weight ≡ s.weight → ScoringIs sc s → ScoringIs sc s'
unfolding ScoringIs
scoring-kept (constant x) s s' c w p = (c ∙ p.0, record { held = p.1.held; small = p.1.small; bits_are = w ∙ p.1.bits_are })
scoring-kept (weighted x) s s' c w p = (c ∙ p.0, record { held = p.1.held; small = p.1.small; bits_are = w ∙ p.1.bits_are })

kept-recached : (o : Option Float) (s : State) (c : ℕ) → KeptIs o s → KeptIs o (cached_at s c)
unfolding KeptIs
kept-recached none s c p = p
kept-recached (some x) s c p = p

joining-recached : (j : Joining) (rs : Scorers) (s : State) (c : ℕ) → JoiningIs j rs s → JoiningIs j rs (cached_at s c)
unfolding JoiningIs
joining-recached (one_more n) rs s c p = p
joining-recached afterwards rs s c p = p

-- the children's words put back behind the record, and the cached word stored
joined_words : (s : State) (rest states w' w : List ℕ) (c : ℕ) → states ≡ words_of s ++ rest → w' ≡ w → set (take node_state_words states ++ (w' ++ drop (length states - node_state_words) (drop node_state_words states))) 2 c ≡ words_of (cached_at s c) ++ w
joined_words s rest states w' w c e f = let size : length states - node_state_words ≡ length rest = omega (arith, ap length e) in rw (size, e, drop-length, append-nil, f)

-- ---- a Boolean's children, which can be asked up to the document where it stands
module _ {E : Lists} {ix : Index} {p k o : ℕ} {states : List ℕ} {t : ℕ} (due : get_or states 2 0 ≤ t) (b : Boolean) (is : BooleanRead states b) where
  boolean-children : (x : Option Float) (j : Joining) (need : ℕ) (rs os ps : Scorers) → NodeHeld E ix p (boolean x j need rs os ps) k o states t → BooleanHeld E ix p rs os ps (k - 1) b.required_end b.optional_end (take (length states - node_state_words) (drop node_state_words states)) t
  unfolding Ok Sound
  boolean-children x j need rs os ps h =
      let q = h.ok in
      let rest : List ℕ = q.1 ++ (q.2 ++ q.3) in
      let d : q.0.cached ≤ t = rw q.4 at due in
      let m : max t (q.0.cached - 1) ≡ t = omega arith in
      let size : length states - node_state_words ≡ length rest = omega (arith, ap length q.4) in
      let l : length q.1 ≡ sizes_of rs = oks-length ix E.ranges rs (k - 1) q.1 (max t (q.0.cached - 1)) q.9 in
      let n : length q.2 ≡ sizes_of os = oks-length ix E.ranges os (k - 1) q.2 (max t (q.0.cached - 1)) q.10 in
      let r4 : b.required_end ≡ q.0.required_end = rw (is.required-end, q.4) in
      let r5 : b.optional_end ≡ q.0.optional_end = rw (is.optional-end, q.4) in
      record {
        w = q.1 ++ q.2;
        z = q.3;
        is = rw (size, q.4, take-length) (sym (append_assoc q.1 q.2 q.3));
        optional-end = omega (arith, r5, q.7.optional-end, l, n, length-append q.1 q.2);
        lead = record {
          x = q.1;
          v = q.2;
          is = refl;
          required-end = r4 ∙ q.7.required-end;
          required = record { lends = h.lends; sounds = h.sound.0; oks = rw m at q.9 };
          optional = record { lends = h.lends; sounds = h.sound.1; oks = rw m at q.10 };
        };
        prohibited = record { lends = h.lends; sounds = h.sound.2; oks = rw m at q.11 };
      }

-- a leaf that was asked about the target alone
abbrev pub LeafAsked : Lists → List ℕ → ℕ → ℕ → List ℕ → Type 0
LeafAsked E states t r states' = (ix : Index) (p : ℕ) (l : Leaf) (s : State) (w : List ℕ) → LeafHeld E ix p l s w states t → Approximates (leaf_matches ix l) t t r × LeafMoved E ix l s states' r

-- ---- advance
module _ {E : Lists} {ix : Index} {p k o : ℕ} {states : List ℕ} {t : ℕ} where
  pub node-long : {T : Scorer} → NodeHeld E ix p T k o states t → node_state_words ≤ length states
  node-long {T} h = ok-long ix E.ranges T k o states t h.ok

  pub node-cached : {T : Scorer} → NodeHeld E ix p T k o states t → t < get_or states 2 0 → First (matches ix T) t (get_or states 2 0 - 1)
  node-cached {T} h l = ok-cached ix E.ranges T k o states t h.ok t (le_refl _) l

  module _ (due : get_or states 2 0 ≤ t) where
    leaf-held : (l : Leaf) (sc : Scoring) → (h : NodeHeld E ix p (leaf l sc) k o states t) → (s : State) × (w : List ℕ) × LeafHeld E ix p l s w states t
    unfolding Ok Sound
    leaf-held l sc h =
        let q = h.ok in
        let d : q.0.cached ≤ t = rw q.2 at due in
        let m : max t (q.0.cached - 1) ≡ t = omega arith in
        (q.0, q.1, record { lends = h.lends; sound = h.sound; words = q.2; due = d; is = rw m at q.4 })

    pub node-leaf : (get_or states 0 0 ≡ 3 → ⊥) → (T : Scorer) → NodeHeld E ix p T k o states t → (l : Leaf) × (s : State) × (w : List ℕ) × LeafHeld E ix p l s w states t
    unfolding Ok
    node-leaf e (leaf l sc) h = let q = leaf-held l sc h in (l, q.0, q.1, q.2)
    node-leaf e (boolean x j need rs os ps) h = absurd (e (rw h.ok.4 h.ok.7.kind-is))

    pub node-sought : t ≤ no_more_docs → (get_or states 0 0 ≡ 3 → ⊥) → (r : ℕ) (states' : List ℕ) → SeekPost E states t r states' → (T : Scorer) → NodeHeld E ix p T k o states t → First (matches ix T) t r × Ok ix E.ranges T k o (set states' 2 (r + 1)) t
    unfolding Ok matches leaf-held
    node-sought top e r states' post (leaf l sc) h =
        let q = leaf-held l sc h in
        let v = post ix p l q.0 q.1 q.2 in
        let f : First (matches ix (leaf l sc)) t r = first-like (λ d. refl) v.0 in
        let s' = v.1.state in
        let low : s'.cached ≤ no_more_docs = omega (arith, v.1.kept.cached, q.2.due) in (
          f,
          (
            cached_at s' (r + 1),
            v.1.behind,
            rw v.1.words,
            v.1.kept.scores ∙ h.ok.3,
            leaf-mono ix E.ranges l (cached_at s' (r + 1)) v.1.behind r (max t (r + 1 - 1)) (omega arith) (leaf-recached ix E.ranges l s' v.1.behind r (r + 1) low v.1.is),
            scoring-kept sc h.ok.0 (cached_at s' (r + 1)) v.1.kept.constant v.1.kept.weight h.ok.5,
            cache-new f,
          ),
        )
    node-sought top e r states' post (boolean x j need rs os ps) h = absurd (e (rw h.ok.4 h.ok.7.kind-is))

    -- asked about the target alone, the document is cached where it stands there
    pub node-asked : (get_or states 0 0 ≡ 3 → ⊥) → (r : ℕ) (states' : List ℕ) → LeafAsked E states t r states' → (T : Scorer) → NodeHeld E ix p T k o states t
        → Approximates (matches ix T) t t r × (r ≡ t → Ok ix E.ranges T k o (set states' 2 (t + 1)) t) × ((r ≡ t → ⊥) → Ok ix E.ranges T k o states' r)
    unfolding Ok matches leaf-held
    node-asked e r states' post (leaf l sc) h =
        let q = leaf-held l sc h in
        let v = post ix p l q.0 q.1 q.2 in
        let s' = v.1.state in
        let due' : s'.cached ≤ t = omega (arith, v.1.kept.cached, q.2.due) in
        let up : t ≤ r = v.0.from in
        let low : s'.cached ≤ no_more_docs = omega (arith, v.0.top) in (
          record { from = v.0.from; top = v.0.top; before = v.0.before; hit = v.0.hit },
          λ same.
              let f : First (matches ix (leaf l sc)) t t = record { from = le_refl _; top = omega (arith, v.0.top); before = λ x a b. absurd (omega arith); hit = λ g. subst (λ (y : ℕ). leaf_matches ix l y ≡ true) same (v.0.hit same (omega arith)) } in (
                cached_at s' (t + 1),
                v.1.behind,
                rw v.1.words,
                v.1.kept.scores ∙ h.ok.3,
                leaf-mono ix E.ranges l (cached_at s' (t + 1)) v.1.behind r (max t (t + 1 - 1)) (omega arith) (leaf-recached ix E.ranges l s' v.1.behind r (t + 1) low v.1.is),
                scoring-kept sc h.ok.0 (cached_at s' (t + 1)) v.1.kept.constant v.1.kept.weight h.ok.5,
                cache-new f,
              ),
          λ other. (
            s',
            v.1.behind,
            v.1.words,
            v.1.kept.scores ∙ h.ok.3,
            leaf-mono ix E.ranges l s' v.1.behind r (max r (s'.cached - 1)) (omega arith) v.1.is,
            scoring-kept sc h.ok.0 s' v.1.kept.constant v.1.kept.weight h.ok.5,
            λ x a b. absurd (omega arith),
          ),
        )
    node-asked e r states' post (boolean x j need rs os ps) h = absurd (e (rw h.ok.4 h.ok.7.kind-is))

    module _ (is-3 : get_or states 0 0 ≡ 3) (b : Boolean) (is : BooleanRead states b) where
      pub node-boolean : (T : Scorer) → NodeHeld E ix p T k o states t → (0 < k) × ((rs : Scorers) × (os : Scorers) × (ps : Scorers) × BooleanHeld E ix p rs os ps (k - 1) b.required_end b.optional_end (take (length states - node_state_words) (drop node_state_words states)) t)
      unfolding Ok
      node-boolean (leaf l sc) h = absurd (leaf-kind ix E.ranges l h.ok.0 h.ok.1 (max t (h.ok.0.cached - 1)) h.ok.4 (sym (rw h.ok.2 at (sym is-3))))
      node-boolean (boolean x j need rs os ps) h = (h.ok.6, (rs, os, ps, boolean-children due b is x j need rs os ps h))

      pub node-joined : (r : ℕ) (w' : List ℕ) → ExcludingPost E (take (length states - node_state_words) (drop node_state_words states)) b.required_end b.optional_end b.need t (k - 1) r w' → (T : Scorer) → NodeHeld E ix p T k o states t
          → First (matches ix T) t r × Ok ix E.ranges T k o (set (take node_state_words states ++ (w' ++ drop (length states - node_state_words) (drop node_state_words states))) 2 (r + 1)) t
      unfolding Ok
      node-joined r w' post (leaf l sc) h = absurd (leaf-kind ix E.ranges l h.ok.0 h.ok.1 (max t (h.ok.0.cached - 1)) h.ok.4 (sym (rw h.ok.2 at (sym is-3))))
      node-joined r w' post (boolean x j need rs os ps) h =
          let q = h.ok in
          let v = post ix p rs os ps (boolean-children due b is x j need rs os ps h) in
          let nn : b.need ≡ need = rw (is.need-is, q.4) q.7.need-is in
          let f : First (matches ix (boolean x j need rs os ps)) t r = first-like (λ d. boolean-takes ix x j need rs os ps d) (rw nn at v.0) in
          let words : w' ≡ v.1.lead.x ++ (v.1.lead.v ++ v.1.z) = v.1.is ∙ ap (λ (l : List ℕ). l ++ v.1.z) v.1.lead.is ∙ append_assoc v.1.lead.x v.1.lead.v v.1.z in
          let m : max t (r + 1 - 1) ≡ r = omega (arith, f.from) in (
            f,
            (
              cached_at q.0 (r + 1),
              v.1.lead.x,
              v.1.lead.v,
              v.1.z,
              joined_words q.0 (q.1 ++ (q.2 ++ q.3)) states w' (v.1.lead.x ++ (v.1.lead.v ++ v.1.z)) (r + 1) q.4 words,
              q.5,
              q.6,
              record {
                kind-is = q.7.kind-is;
                size_is = q.7.size_is;
                need-is = q.7.need-is;
                required-end = q.7.required-end;
                optional-end = q.7.optional-end;
                kept = kept-recached x q.0 (r + 1) q.7.kept;
                joining = joining-recached j rs q.0 (r + 1) q.7.joining;
              },
              cache-new f,
              rw m v.1.lead.required.oks,
              rw m v.1.lead.optional.oks,
              rw m v.1.prohibited.oks,
            ),
          )
