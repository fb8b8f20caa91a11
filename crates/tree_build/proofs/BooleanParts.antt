-- The words of a Boolean's part: its record, then the required, the optional and the prohibited. Assumes nothing.
use mathlib.Core.Path.{◌≡◌, refl, sym, ◌∙◌, ap, subst}
use mathlib.Core.Bool.{Bool, true, false, cond, ◌&&◌}
use mathlib.Core.List.{List, [], ◌∷◌, ◌++◌, append_assoc}
use Prim.Native.Nat.{ℕ, zero, suc, ◌+◌, ◌-◌, ◌^◌, ◌≤◌, ◌<◌}
use native.Mathlib.Omega.{arith}
use lib.Dec.{T, eqb}
use lib.ListN.{length, take, drop, length-append, length-take}
use lib.Seq.{drop_at, take-append-le}
use lib.Ieee.{Float, binary32, fits, to_bits}
use Rattle.meaning.specs.Limits.{node_state_words}
use Rattle.meaning.specs.Lent.{Index}
use Rattle.meaning.specs.Query.{is_required, is_should, is_must_not, Clauses, has_required}
use Rattle.meaning.specs.Takes.{shoulds_needed}
use Rattle.meaning.specs.Cost.{costs, disjunction_cost}
use Rattle.ieee754.specs.Nonneg.{AtMost}
use Rattle.tree_weight.specs.ScorerTree.{Scorer, matches}
use Rattle.tree_weight.specs.State.{State, words_of, size_of, sizes_of, sizes_of_first}
use Rattle.tree_weight.specs.Weigh.{Ready, cheapest_first, chosen, scorers_of, up_to_cost, joining_of, boolean_of, readied}
use Rattle.tree_weight.specs.Held.{FloatIs, KeptIs, JoiningIs}
use Rattle.window_words.specs.Windowed.{Places, nowhere, Windowed, AllWindowed}
use Rattle.window_words.proofs.Unasked.{unasked-stored, unasked-optional}
use Rattle.tree_words.specs.Placed.{Placed, kept_of, boolean_state}
use Rattle.tree_build.specs.Parts.{PlacedAll}
use Rattle.tree_words.proofs.Placing.{score-is}

-- ---- one list after another
pub all-append : (ix : Index) (ranges : List ℕ) (xs ys : List Ready) (d : ℕ) (x y : List ℕ) (b base : ℕ) (D : Places) → AllWindowed ix ranges (scorers_of xs) d x b base D → AllWindowed ix ranges (scorers_of ys) d y b base D → AllWindowed ix ranges (scorers_of (xs ++ ys)) d (x ++ y) b base D
unfolding scorers_of AllWindowed
all-append ix ranges [] ys d x y b base D o p = subst (λ (z : List ℕ). AllWindowed ix ranges (scorers_of ys) d (z ++ y) b base D) (sym o) p
all-append ix ranges (r ∷ rs) ys d x y b base D o p =
    (o.0, o.1 ++ y, ap (λ (z : List ℕ). z ++ y) o.2 ∙ append_assoc o.0 o.1 y, o.3, all-append ix ranges rs ys d o.1 y b base D o.4 p)

pub sizes-append : (xs ys : List Ready) → sizes_of (scorers_of (xs ++ ys)) ≡ sizes_of (scorers_of xs) + sizes_of (scorers_of ys)
unfolding scorers_of sizes_of
sizes-append [] ys = omega arith
sizes-append (r ∷ rs) ys = let i = sizes-append rs ys in omega (arith, i)

pub sizes-first : (n : ℕ) (rs : List Ready) → sizes_of_first n (scorers_of rs) ≡ sizes_of (scorers_of (take n rs))
unfolding scorers_of sizes_of sizes_of_first
sizes-first zero rs = refl
sizes-first (suc n) [] = refl
sizes-first (suc n) (r ∷ rs) = ap (λ (z : ℕ). size_of r.scorer + z) (sizes-first n rs)

-- ---- the words of three lists, each written after the one before it, and then a record before them
take-mid : (xs ys post : List ℕ) (a n : ℕ) → length xs ≡ a → n ≤ length ys → take (a + n) (xs ++ (ys ++ post)) ≡ xs ++ take n ys
take-mid [] ys post a n e h = subst (λ (m : ℕ). take m (ys ++ post) ≡ take n ys) (sym (none_before a n (sym e))) (take-append-le n ys post h)
  where
    none_before : (a n : ℕ) → a ≡ 0 → a + n ≡ n
    none_before a n e = omega (arith, e)
take-mid (x ∷ xs) ys post a n e h =
    subst (λ (m : ℕ). take m (x ∷ (xs ++ (ys ++ post))) ≡ x ∷ (xs ++ take n ys)) (sym (one-before a (length xs) n (sym e))) (ap (λ (zs : List ℕ). x ∷ zs) (take-mid xs ys post (length xs) n refl h))
  where
    one-before : (a m n : ℕ) → a ≡ suc m → a + n ≡ suc (m + n)
    one-before a m n e = omega (arith, e)

module _ (states out₁ out₂ out₃ post₁ post₂ post₃ : List ℕ) (e₁ e₂ e₃ : ℕ) (room : node_state_words ≤ length states) (long₁ : e₁ ≤ length out₁) (long₂ : e₂ ≤ length out₂) (long₃ : e₃ ≤ length out₃) where
  abbrev pub after_required : List ℕ
  after_required = take node_state_words states ++ (out₁ ++ post₁)

  abbrev pub after_optional : List ℕ
  after_optional = take (node_state_words + e₁) after_required ++ (out₂ ++ post₂)

  abbrev pub after_prohibited : List ℕ
  after_prohibited = take (node_state_words + (e₁ + e₂)) after_optional ++ (out₃ ++ post₃)

  record-long : length (take node_state_words states) ≡ node_state_words
  record-long = let l = length-take node_state_words states in omega (arith, l, room)

  first_part : take (node_state_words + e₁) after_required ≡ take node_state_words states ++ take e₁ out₁
  first_part = take-mid (take node_state_words states) out₁ post₁ node_state_words e₁ record-long long₁

  second-part : take (node_state_words + (e₁ + e₂)) after_optional ≡ take node_state_words states ++ (take e₁ out₁ ++ take e₂ out₂)
  second-part =
      let l = ap length first_part ∙ length-append (take node_state_words states) (take e₁ out₁) in
      let m = length-take e₁ out₁ in
      let r = record-long in
      ap (λ (n : ℕ). take n after_optional) (shift e₁ e₂)
      ∙ take-mid (take (node_state_words + e₁) after_required) out₂ post₂ (node_state_words + e₁) e₂ (omega (arith, l, m, r, long₁)) long₂
      ∙ ap (λ (zs : List ℕ). zs ++ take e₂ out₂) first_part
      ∙ append_assoc (take node_state_words states) (take e₁ out₁) (take e₂ out₂)
    where
      shift : (a b : ℕ) → node_state_words + (a + b) ≡ (node_state_words + a) + b
      shift a b = omega arith

  after-record : drop node_state_words after_prohibited ≡ (take e₁ out₁ ++ take e₂ out₂) ++ (out₃ ++ post₃)
  after-record =
      ap (λ (zs : List ℕ). drop node_state_words (zs ++ (out₃ ++ post₃))) second-part
      ∙ ap (drop node_state_words) (append_assoc (take node_state_words states) (take e₁ out₁ ++ take e₂ out₂) (out₃ ++ post₃))
      ∙ drop_at (take node_state_words states) ((take e₁ out₁ ++ take e₂ out₂) ++ (out₃ ++ post₃)) node_state_words record-long

  both_long : length (take e₁ out₁ ++ take e₂ out₂) ≡ e₁ + e₂
  both_long =
      let l = length-append (take e₁ out₁) (take e₂ out₂) in
      let m = length-take e₁ out₁ in
      let n = length-take e₂ out₂ in
      omega (arith, l, m, n, long₁, long₂)

  pub parts_are : (w : List ℕ) → length w ≡ node_state_words → take (node_state_words + (e₁ + e₂) + e₃) (w ++ drop node_state_words after_prohibited) ≡ w ++ (take e₁ out₁ ++ (take e₂ out₂ ++ take e₃ out₃))
  parts_are w e =
      let l = length-append w (take e₁ out₁ ++ take e₂ out₂) in
      let b = both_long in
      ap (λ (zs : List ℕ). take (node_state_words + (e₁ + e₂) + e₃) (w ++ zs)) after-record
      ∙ ap (take (node_state_words + (e₁ + e₂) + e₃)) (sym (append_assoc w (take e₁ out₁ ++ take e₂ out₂) (out₃ ++ post₃)))
      ∙ take-mid (w ++ (take e₁ out₁ ++ take e₂ out₂)) out₃ post₃ (node_state_words + (e₁ + e₂)) e₃ (omega (arith, l, b, e)) long₃
      ∙ append_assoc w (take e₁ out₁ ++ take e₂ out₂) (take e₃ out₃)
      ∙ ap (λ (zs : List ℕ). w ++ zs) (append_assoc (take e₁ out₁) (take e₂ out₂) (take e₃ out₃))

  pub parts-long : (w : List ℕ) → length w ≡ node_state_words → node_state_words + (e₁ + e₂) + e₃ ≤ length (w ++ drop node_state_words after_prohibited)
  parts-long w e =
      let l = length-append w (drop node_state_words after_prohibited) in
      let m = ap length after-record ∙ length-append (take e₁ out₁ ++ take e₂ out₂) (out₃ ++ post₃) in
      let n = length-append out₃ post₃ in
      let b = both_long in
      omega (arith, l, m, n, b, e, long₃)

-- ---- the record
kept-is : (fixed : Bool) (x : Float) (s : State) → s.constant ≡ cond fixed 1 0 → FloatIs x s.weight → KeptIs (kept_of fixed x) s
unfolding KeptIs
kept-is true x s e is = (e, is)
kept-is false x s e is = e

joining-is : (after : Bool) (group : ℕ) (rs : List Ready) (s : State) → s.afterwards ≡ cond after 1 0 → s.group_at ≡ sizes_of_first (up_to_cost group rs) (scorers_of rs) → JoiningIs (joining_of after group rs) (scorers_of rs) s
unfolding joining_of JoiningIs
joining-is true group rs s e f = e
joining-is false group rs s e f = (e, f)

module _ (ix : Index) (ranges : List ℕ) (msm : ℕ) (cs : Clauses) (fixed : Bool) (kept boost : Float) where
  abbrev pub required_here : List Ready
  required_here = cheapest_first (chosen is_required (readied ix cs boost))

  abbrev pub optional_here : List Ready
  optional_here = chosen is_should (readied ix cs boost)

  abbrev pub prohibited_here : List Ready
  prohibited_here = chosen is_must_not (readied ix cs boost)

  pub boolean-placed : (depth scores size need required_end optional_end group_at : ℕ) (after : Bool) (x v z : List ℕ) → 0 < depth → T (fits binary32 kept) → AtMost (2 ^ 29) kept → size ≡ node_state_words + (sizes_of (scorers_of required_here) + (sizes_of (scorers_of optional_here) + sizes_of (scorers_of prohibited_here))) → need ≡ shoulds_needed msm cs → required_end ≡ sizes_of (scorers_of required_here) → optional_end ≡ sizes_of (scorers_of required_here) + sizes_of (scorers_of optional_here) → after ≡ (has_required cs && eqb msm 0) → group_at ≡ sizes_of_first (up_to_cost (disjunction_cost (costs ix cs)) required_here) (scorers_of required_here) → AllWindowed ix ranges (scorers_of required_here) (depth - 1) x 0 0 nowhere → AllWindowed ix ranges (scorers_of optional_here) (depth - 1) v 0 0 nowhere → AllWindowed ix ranges (scorers_of prohibited_here) (depth - 1) z 0 0 nowhere → Windowed ix ranges (boolean_of ix msm cs (kept_of fixed kept) (readied ix cs boost)) depth scores (words_of (boolean_state size need required_end optional_end fixed (to_bits binary32 kept) after group_at scores) ++ (x ++ (v ++ z))) 0 0 nowhere
  unfolding boolean_of Windowed size_of
  boolean-placed depth scores size need required_end optional_end group_at after x v z levels held small sized needed required optional joins group a b c =
      let s = boolean_state size need required_end optional_end fixed (to_bits binary32 kept) after group_at scores in
      let T : Scorer = boolean_of ix msm cs (kept_of fixed kept) (readied ix cs boost) in
      (s, x, v, z, refl, refl, levels, record { kind-is = refl; size_is = sized; need-is = needed; required-end = required; optional-end = optional; kept = kept-is fixed kept s refl (score-is kept held small); joining = joining-is (has_required cs && eqb msm 0) (disjunction_cost (costs ix cs)) required_here s (ap (λ (t : Bool). cond t 1 0) joins) group }, refl, unasked-stored (matches ix T) s 0, a, unasked-optional ix ranges T (shoulds_needed msm cs) (scorers_of optional_here) (depth - 1) v 0 b, c)

  -- the whole part, as the code writes it
  pub boolean-whole : (states out₁ out₂ out₃ post₁ post₂ post₃ states' : List ℕ) (depth scores need e₁ e₂ e₃ group_at : ℕ) (after : Bool) → node_state_words ≤ length states → 0 < depth → T (fits binary32 kept) → AtMost (2 ^ 29) kept → PlacedAll ix ranges required_here (depth - 1) e₁ out₁ → PlacedAll ix ranges optional_here (depth - 1) e₂ out₂ → PlacedAll ix ranges prohibited_here (depth - 1) e₃ out₃ → need ≡ shoulds_needed msm cs → after ≡ (has_required cs && eqb msm 0) → group_at ≡ sizes_of_first (up_to_cost (disjunction_cost (costs ix cs)) required_here) (scorers_of required_here) → states' ≡ words_of (boolean_state (node_state_words + (e₁ + e₂) + e₃) need e₁ (e₁ + e₂) fixed (to_bits binary32 kept) after group_at scores) ++ drop node_state_words (take (node_state_words + (e₁ + e₂)) (take (node_state_words + e₁) (take node_state_words states ++ (out₁ ++ post₁)) ++ (out₂ ++ post₂)) ++ (out₃ ++ post₃)) → Placed ix ranges (boolean_of ix msm cs (kept_of fixed kept) (readied ix cs boost)) depth scores (node_state_words + (e₁ + e₂) + e₃) states'
  unfolding boolean_of size_of
  boolean-whole states out₁ out₂ out₃ post₁ post₂ post₃ states' depth scores need e₁ e₂ e₃ group_at after room levels held small a b c needed joins group is =
      let size = node_state_words + (e₁ + e₂) + e₃ in
      let w = words_of (boolean_state size need e₁ (e₁ + e₂) fixed (to_bits binary32 kept) after group_at scores) in
      let required = a.size_is in
      let optional = b.size_is in
      let prohibited = c.size_is in
      let sized : size ≡ node_state_words + (sizes_of (scorers_of required_here) + (sizes_of (scorers_of optional_here) + sizes_of (scorers_of prohibited_here))) = omega (arith, required, optional, prohibited) in
      record {
        size_is = sized;
        within = subst (λ (zs : List ℕ). size ≤ length zs) (sym is) (parts-long states out₁ out₂ out₃ post₁ post₂ post₃ e₁ e₂ e₃ room a.within b.within c.within w refl);
        held = subst (λ (zs : List ℕ). Windowed ix ranges (boolean_of ix msm cs (kept_of fixed kept) (readied ix cs boost)) depth scores zs 0 0 nowhere) (sym (ap (take size) is ∙ parts_are states out₁ out₂ out₃ post₁ post₂ post₃ e₁ e₂ e₃ room a.within b.within c.within w refl)) (boolean-placed depth scores size need e₁ (e₁ + e₂) group_at after (take e₁ out₁) (take e₂ out₂) (take e₃ out₃) levels held small sized needed required (omega (arith, required, optional)) joins group a.held b.held c.held);
      }
