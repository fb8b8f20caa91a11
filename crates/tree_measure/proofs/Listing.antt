-- The documents of a query's ranges, one record's after the other's. Assumes nothing.
use mathlib.Core.Path.{◌≡◌, refl, sym, ◌∙◌, ap, subst}
use mathlib.Core.Bool.{Bool, true, false, cond, ◌&&◌}
use mathlib.Core.List.{List, ◌++◌}
use mathlib.Core.Logic.{◌⊎◌, inl, inr}
use Prim.Native.Nat.{ℕ, zero, suc, ◌+◌, ◌-◌, ◌*◌, ◌≤◌, ◌<◌, min}
use native.Mathlib.Omega.{arith}
use native.Mathlib.Nat.{mul-le-mul, mul-add, mul-one}
use lib.Dec.{eqb, ltb}
use lib.ListN.{length, get_or, set, take, length-take, get_or-append}
use lib.Seq.{get_or-set_same, get_or-set_other, get_or-take, get_or-append-add}
use borrow.Author.Tests.{le-ltb, eq-eqb, eqb-true}
use Rattle.meaning.specs.Below.{count_below}
use Rattle.meaning.specs.Limits.{max_documents}
use Rattle.meaning.specs.Lent.{Index, column_count, column_type, value_present}
use Rattle.meaning.specs.Range.{NumericRange, in_range, range_documents}
use Rattle.meaning.specs.IndexRefusals.{wrong1, wrong6, wrong_column}
use Rattle.meaning.specs.QueryRefusals.{wrong_range}
use Rattle.meaning.specs.CallRefusals.{range_records, ranges_needed}
use Rattle.meaning.specs.Query.{record_count, record_kind, range_of}
use Rattle.index.specs.Accepted.{Accepted}
use Rattle.index.proofs.Below.{count-more, count-lt, count_none, count-le}
use Rattle.doc_values.specs.RangeRight.{RangeRight}
use Rattle.doc_values.proofs.Lists.{any_none}
use Rattle.doc_values.proofs.Ranges.{columns_of, range-of-columns, in-range-of-columns, wrong1-of-columns, wrong6-of-columns, wrong_range-of-columns}
use Rattle.query.proofs.Accepted.{range-right}
use Rattle.query.proofs.Whole.{whole as whole_query}
use Rattle.tree_weight.proofs.Measures.{from_or}
use Rattle.tree_weight.specs.ScorerTree.{range, leaf_matches}
use Rattle.bits.specs.Bit.{bit, bitmap_words, Bitmap}
use Rattle.tree_weight.specs.Measured.{AcceptedOrder, RangeListed, RangesListed}
use Rattle.tree_measure.specs.declared.RangeList.{RangeList}
use Rattle.tree_measure.specs.Measures.{range_places, range_counts}
use Rattle.tree_measure.proofs.Arrays.{places-set, counts-set, places-long, counts-long}

-- ---- an accepted index has neither 1 nor 6
right1 : (ix : Index) → Accepted ix → wrong1 ix ≡ false
unfolding wrong1
right1 ix a = le-ltb max_documents ix.max_doc a.documents

column-right : (ix : Index) → Accepted ix → (c : ℕ) → c < column_count ix → wrong_column ix c ≡ false
unfolding wrong_column
column-right ix a c h =
    let k = a.column c h in
    rw (le-ltb 1 (column_type ix c) k.type) (any_none ix.max_doc (λ d. ltb 1 (value_present ix c d)) (λ d g. le-ltb 1 (value_present ix c d) (k.present d g)))

right6 : (ix : Index) → Accepted ix → wrong6 ix ≡ false
unfolding wrong6
right6 ix a =
    rw (le-ltb 8 (column_count ix) a.few_columns, eq-eqb (length ix.values) (3 * (column_count ix * ix.max_doc)) a.whole_values) (any_none (column_count ix) (wrong_column ix) (column-right ix a))

-- ---- the range of a record
module _ (ix : Index) (q : List ℕ) (at : ℕ) (a : AcceptedOrder ix q) (h : at < record_count q) (kind : record_kind q at ≡ 4) where
  module _ (said : NumericRange) (said-is : said ≡ range_of q at) where
    pub range-asks : RangeRight (columns_of ix) said
    range-asks = record {
      documents = sym (wrong1-of-columns ix) ∙ right1 ix a.accepted;
      columns = sym (wrong6-of-columns ix) ∙ right6 ix a.accepted;
      range = ap (wrong_range (columns_of ix)) said-is ∙ sym (wrong_range-of-columns ix (range_of q at)) ∙ range-right ix q a.values-right at h kind;
    }

    pub range_gives : range_documents (columns_of ix) said ≡ range_documents ix (range_of q at)
    range_gives = ap (range_documents (columns_of ix)) said-is ∙ sym (range-of-columns ix (range_of q at))

    takes-same : (d : ℕ) → in_range (columns_of ix) said d ≡ in_range ix (range_of q at) d
    takes-same d = ap (λ (r : NumericRange). in_range (columns_of ix) r d) said-is ∙ sym (in-range-of-columns ix (range_of q at) d)

    pub range-bitmap : (out : List ℕ) (k : ℕ) → Bitmap (λ d. ltb d ix.max_doc && in_range (columns_of ix) said d) out 0 k → Bitmap (leaf_matches ix (range (range_of q at))) out 0 k
    unfolding leaf_matches
    range-bitmap out k b i p h l = b i p h l ∙ ap (λ (x : Bool). ltb (32 * i + p) ix.max_doc && x) (takes-same (32 * i + p))

-- ---- the words used in the range buffer
abbrev pub is_range : List ℕ → ℕ → Bool
is_range q r = eqb (record_kind q r) 4

abbrev pub words_to : List ℕ → ℕ → ℕ → ℕ
words_to q n at = n * count_below at (is_range q)

pub no_words : (q : List ℕ) (n : ℕ) → 0 ≡ words_to q n 0
no_words q n = rw (count_none (is_range q)) (none n)
  where
    none : (n : ℕ) → 0 ≡ n * 0
    none n = omega arith

plus_none : (n : ℕ) → n + 0 ≡ n
plus_none n = omega arith

pub words_more : (q : List ℕ) (n at used step : ℕ) → used ≡ words_to q n at → step ≡ cond (is_range q at) n 0 → used + step ≡ words_to q n (at + 1)
words_more q n at used step e f = rw (count-more at (is_range q)) (go (is_range q at) f)
  where
    go : (b : Bool) → step ≡ cond b n 0 → used + step ≡ n * (count_below at (is_range q) + cond b 1 0)
    go true g = ap (λ (z : ℕ). z + step) e ∙ ap (λ (z : ℕ). n * count_below at (is_range q) + z) g ∙ one (count_below at (is_range q))
      where
        one : (k : ℕ) → n * k + n ≡ n * (k + 1)
        one k = sym (mul-add n k 1 ∙ ap (λ (z : ℕ). n * k + z) (mul-one n))
    go false g = ap (λ (z : ℕ). z + step) e ∙ ap (λ (z : ℕ). n * count_below at (is_range q) + z) g ∙ same (count_below at (is_range q))
      where
        same : (k : ℕ) → n * k + 0 ≡ n * (k + 0)
        same k = plus_none (n * k) ∙ ap (λ (z : ℕ). n * z) (sym (plus_none k))

-- the bitmap of each Range record below `at`, in the words used
pub record Listing (ix : Index) (q places counts ranges : List ℕ) (used at : ℕ) : Type 0 where
  pub lists : RangesListed ix q places counts ranges at
  pub below : (r : ℕ) → r < at → record_kind q r ≡ 4 → get_or places r 0 + bitmap_words ix.max_doc ≤ used

-- what the code asks of the words used, before the record at `at`
pub record Room (q : List ℕ) (n at used : ℕ) (ranges : List ℕ) : Type 0 where
  pub within : used ≤ length ranges
  pub enough : record_kind q at ≡ 4 → bitmap_words n ≤ length ranges - used
  pub small : used ≤ 268435456

needed-enough : (ix : Index) (q : List ℕ) → ix.max_doc * range_records q ≤ ranges_needed ix q
unfolding ranges_needed
needed-enough ix q = go (eqb (range_records q) 0) refl
  where
    go : (b : Bool) → eqb (range_records q) 0 ≡ b → ix.max_doc * range_records q ≤ cond b 0 (ix.max_doc * (range_records q + 1))
    go true e = let z = ap (λ (k : ℕ). ix.max_doc * k) (eqb-true (range_records q) 0 e) in let none = times_none ix.max_doc in omega (arith, z, none)
      where
        times_none : (n : ℕ) → n * 0 ≡ 0
        times_none n = omega arith
    go false e = more ix.max_doc (range_records q)
      where
        more : (n k : ℕ) → n * k ≤ n * (k + 1)
        more n k = mul-le-mul (omega arith) (omega arith)

count-mono : (a b : ℕ) (p : ℕ → Bool) → a ≤ b → count_below a p ≤ count_below b p
unfolding count_below
count-mono zero b p h = omega arith
count-mono (suc a) zero p h = absurd (omega (arith, h))
count-mono (suc a) (suc b) p h = elim (from_or a b (omega (arith, h))) [
  | inl e ↦ rw e (omega arith)
  | inr g ↦ let k = count-mono (suc a) b p (omega (arith, g)) in omega (arith, k)
]

pub room : {ix : Index} {q : List ℕ} → AcceptedOrder ix q → (ranges : List ℕ) (at used : ℕ) → ranges_needed ix q ≤ length ranges → at < record_count q → used ≡ words_to q (bitmap_words ix.max_doc) at → Room q ix.max_doc at used ranges
unfolding range_records
room {ix} {q} a ranges at used need h e =
    let n = ix.max_doc in
    let p = is_range q in
    let all = count_below (record_count q) p in
    let enough = needed-enough ix q in
    let w = bitmap_words n in
    let narrow : w ≤ n = omega arith in
    let whole : w * all ≤ n * all = mul-le-mul narrow (same-le all) in
    let some-less : w * count_below at p ≤ w * all = mul-le-mul (same-le w) (count-mono at (record_count q) p (omega (arith, h))) in
    let docs = a.accepted.documents in
    let few-words : w ≤ 1048576 = omega (arith, narrow, docs) in
    let least-words : w * count_below at p ≤ 1048576 * 256 = mul-le-mul few-words (few-count (count-le at p)) in
    record {
      within = omega (arith, e, some-less, whole, enough, need);
      enough = λ kind. let more : w * (count_below at p + 1) ≤ w * all = mul-le-mul (same-le w) (count-lt at (record_count q) p h (eq-eqb (record_kind q at) 4 kind)) in let apart = mul-add w (count_below at p) 1 in let one = mul-one w in omega (arith, e, more, apart, one, whole, enough, need);
      small = omega (arith, e, least-words);
    }
  where
    same-le : (m : ℕ) → m ≤ m
    same-le m = omega arith

    few-count : count_below at (is_range q) ≤ at → count_below at (is_range q) ≤ 256
    few-count k = omega (arith, k, h, (whole_query q a.records-right).few-records)

front : (xs zs : List ℕ) (n j : ℕ) → j < n → n ≤ length xs → get_or (take n xs ++ zs) j 0 ≡ get_or xs j 0
front xs zs n j h g = get_or-append (take n xs) zs 0 j (rw (length-take n xs) (omega (arith, h, g))) ∙ get_or-take n xs j 0 h

back : (xs ys zs : List ℕ) (n j : ℕ) → n ≤ length xs → j < length ys → get_or (take n xs ++ (ys ++ zs)) (n + j) 0 ≡ get_or ys j 0
back xs ys zs n j g h =
    ap (λ (z : ℕ). get_or (take n xs ++ (ys ++ zs)) (z + j) 0) (sym (long (length-take n xs))) ∙ get_or-append-add (take n xs) (ys ++ zs) j 0 ∙ get_or-append ys zs 0 j h
  where
    long : length (take n xs) ≡ min n (length xs) → length (take n xs) ≡ n
    long e = omega (arith, e, g)

below_or : (r n : ℕ) → r < n + 1 → (r ≡ n) ⊎ (r < n)
below_or r n h = elim (from_or r n (omega (arith, h))) [
  | inl e ↦ inl (sym e)
  | inr g ↦ inr (omega (arith, g))
]

start : (i : ℕ) → i ≡ 0 + i
start i = omega arith

-- one record more
module _ (ix : Index) (q places counts ranges out rest : List ℕ) (used at k step : ℕ) (l : Listing ix q places counts ranges used at) where
  abbrev words : ℕ
  words = bitmap_words ix.max_doc

  abbrev docs : List ℕ
  docs = range_documents ix (range_of q at)

  abbrev after : List ℕ
  after = take used ranges ++ (out ++ rest)

  pub listing-more : at < length places → at < length counts → used ≤ length ranges → (record_kind q at ≡ 4 → words ≤ length ranges - used) → (record_kind q at ≡ 4 → words ≤ length out) → length after ≡ length ranges → (record_kind q at ≡ 4 → k ≡ length docs) → (record_kind q at ≡ 4 → Bitmap (leaf_matches ix (range (range_of q at))) out 0 words) → step ≡ cond (is_range q at) words 0 → Listing ix q (set places at used) (set counts at k) after (used + step) (at + 1)
  listing-more hp hc within enough fits long counted bits stepped =
      record { lists = λ r g kind. (one r g kind).0; below = λ r g kind. (one r g kind).1 }
    where
      other : (i j : ℕ) → j < i → j ≡ i → ⊥
      other i j g e = omega (arith, g, e)

      old : (r : ℕ) → r < at → record_kind q r ≡ 4 → RangeListed ix q after r (get_or places r 0) (get_or counts r 0) × (get_or places r 0 + bitmap_words ix.max_doc ≤ used + step)
      old r g kind =
          let was = l.lists r g kind in
          let low = l.below r g kind in
          (record { count-is = was.count-is; there = omega (arith, low, within, long); bits = λ i p h m. ap (bit p) (front ranges (out ++ rest) used (get_or places r 0 + i) (omega (arith, h, low)) within) ∙ was.bits i p h m }, omega (arith, low))

      new : record_kind q at ≡ 4 → RangeListed ix q after at used k × (used + bitmap_words ix.max_doc ≤ used + step)
      new kind =
          let room = enough kind in
          let fit : step ≡ words = stepped ∙ rw (eq-eqb (record_kind q at) 4 kind) in
          let size = fits kind in (
            record {
              count-is = counted kind;
              there = omega (arith, long, within, room);
              bits = λ i p h m. ap (bit p) (back ranges out rest used i within (omega (arith, h, size)) ∙ ap (λ (j : ℕ). get_or out j 0) (start i)) ∙ bits kind i p h m;
            },
            omega (arith, fit),
          )

      one : (r : ℕ) → r < at + 1 → record_kind q r ≡ 4 → RangeListed ix q after r (get_or (set places at used) r 0) (get_or (set counts at k) r 0) × (get_or (set places at used) r 0 + bitmap_words ix.max_doc ≤ used + step)
      one r g kind = elim (below_or r at g) [
        | inl e ↦ subst (λ (z : ℕ). RangeListed ix q after z (get_or (set places at used) z 0) (get_or (set counts at k) z 0) × (get_or (set places at used) z 0 + bitmap_words ix.max_doc ≤ used + step)) (sym e) (rw (get_or-set_same places at used 0 hp, get_or-set_same counts at k 0 hc) (new (subst (λ (z : ℕ). record_kind q z ≡ 4) e kind)))
        | inr h ↦ rw (get_or-set_other places at r used 0 (other at r h), get_or-set_other counts at r k 0 (other at r h)) (old r h kind)
      ]

pub step_small : (b : Bool) (n step : ℕ) → step ≡ cond b n 0 → step ≤ n
step_small true n step e = omega (arith, e)
step_small false n step e = omega (arith, e)

pub listed-more : (ix : Index) (q ranges out rest : List ℕ) (ls : List RangeList) (used at k step : ℕ) → Listing ix q (range_places ls) (range_counts ls) ranges used at → at < length ls → used ≤ length ranges → (record_kind q at ≡ 4 → bitmap_words ix.max_doc ≤ length ranges - used) → (record_kind q at ≡ 4 → bitmap_words ix.max_doc ≤ length out) → length (take used ranges ++ (out ++ rest)) ≡ length ranges → (record_kind q at ≡ 4 → k ≡ length (range_documents ix (range_of q at))) → (record_kind q at ≡ 4 → Bitmap (leaf_matches ix (range (range_of q at))) out 0 (bitmap_words ix.max_doc)) → step ≡ cond (is_range q at) (bitmap_words ix.max_doc) 0 → Listing ix q (range_places (set ls at (record { place = used; count = k }))) (range_counts (set ls at (record { place = used; count = k }))) (take used ranges ++ (out ++ rest)) (used + step) (at + 1)
listed-more ix q ranges out rest ls used at k step l h within enough fits long counted bits stepped =
    rw (places-set ls at (record { place = used; count = k }), counts-set ls at (record { place = used; count = k }))
    (listing-more ix q (range_places ls) (range_counts ls) ranges out rest used at k step l (omega (arith, h, places-long ls)) (omega (arith, h, counts-long ls)) within enough fits long counted bits stepped)
