-- An index that holds some runs gives them back: a leaf's words say its run's place and number, and the run read there
-- is the one packed. Assumes nothing.
use mathlib.Core.Path.{◌≡◌, refl, sym, ap, ap₂, ◌∙◌, subst}
use mathlib.Core.Bool.{Bool, true, false, cond}
use mathlib.Core.List.{List, [], ◌∷◌, ◌++◌, append_assoc}
use Prim.Native.Nat.{ℕ, zero, suc, ◌+◌, ◌*◌, ◌≤◌, ◌<◌}
use native.Mathlib.Nat.{add-zero, zero-add, mul-add, le_of_suc-le-suc}
use native.Mathlib.Omega.{arith}
use lib.ListN.{length, get_or, take, drop, length-append, get_or-append}
use lib.Seq.{length-take-le, split_at, drop-drop, drop_at, get_or-drop, ext_get_or}
use Rattle.meaning.specs.Below.{list_to}
use Rattle.meaning.specs.Lent.{Index, has_positions, leaf_count, leaf_field, leaf_first, leaf_number, leaf_idf, posting_count}
use Rattle.meaning.specs.Lent.{leaf_document, leaf_frequency, leaf_positions_index}
use Rattle.meaning.specs.Packed.{Posting, run_of, positions_in, pack_run, pack_postings, pack_positions, postings_in, pack_firsts, pack_leaves}
use Rattle.meaning.proofs.Below.{length-list_to, get_or-list_to}
use Rattle.packed.specs.Packs.{Packable, Packs}
use Rattle.packed.proofs.Joined.{rows-length, rows_at}
use Rattle.packed.proofs.Longer.{positions-append, run-append, run_length}
use Rattle.packed.proofs.Longer.{postings-append, pack-positions-append, postings-in-append, postings-length, firsts_at}

-- stands for a posting where there is none; it is never read
abbrev nothing : Posting
nothing = record { document = 0; frequency = 0; positions = [] }

-- ---- a part of a list that is joined of two
-- what stands at an index where only the rest of the list is known
from-rest : {A : Type 0} (xs ys : List A) (n : ℕ) → drop n xs ≡ ys → (c : ℕ) (d : A) → get_or xs (n + c) d ≡ get_or ys c d
from-rest {A} xs ys n e c d = sym (get_or-drop n xs c d) ∙ ap (λ (zs : List A). get_or zs c d) e

-- the rest behind a front that is n long
behind : {A : Type 0} (xs pre rest : List A) (n : ℕ) → xs ≡ pre ++ rest → length pre ≡ n → drop n xs ≡ rest
behind {A} xs pre rest n e g = ap (drop n) e ∙ drop_at pre rest n g

-- a front read element by element is the front
front_read : (xs other places : List ℕ) (at : ℕ) → drop at places ≡ xs ++ other → list_to (length xs) (λ j. get_or places (at + j) 0) ≡ xs
front_read xs other places at e =
    let n = length xs in
    let f : ℕ → ℕ = λ j. get_or places (at + j) 0 in
    let each : (j : ℕ) → j < n → f j ≡ get_or xs j 0 = λ j h. from-rest places (xs ++ other) at e j 0 ∙ get_or-append xs other 0 j h in
    let read : (j : ℕ) → j < n → get_or (list_to n f) j 0 ≡ get_or xs j 0 = λ j h. get_or-list_to n f 0 j h ∙ each j h in
    ext_get_or 0 (list_to n f) xs (length-list_to n f) (λ j h. read j (subst (λ (k : ℕ). j < k) (length-list_to n f) h))

-- ---- posting i of a run in the words
module _ (p : Bool) (r : List Posting) (d : Posting) (i : ℕ) (in-run : i < length r) where
  -- where its positions begin, the run's at `at`
  abbrev place : ℕ → ℕ
  place at = at + length (positions_in (take i r))

  abbrev own : ℕ → List ℕ
  own at = pack_run p (place at) (get_or r i d ∷ drop (suc i) r)

  -- what is left of the words from its record on is the packed rest of the run
  run-rest : (words post : List ℕ) (n at : ℕ) → drop (3 * n) words ≡ pack_run p at r ++ post → drop (3 * (n + i)) words ≡ own at ++ post
  run-rest words post n at e =
      let xs = pack_run p at (take i r) in
      let split : pack_run p at r ≡ xs ++ own at = ap (pack_run p at) (split_at r i d in-run) ∙ run-append p at (take i r) (get_or r i d ∷ drop (suc i) r) in
      let whole : drop (3 * n) words ≡ xs ++ (own at ++ post) = e ∙ ap (λ (zs : List ℕ). zs ++ post) split ∙ append_assoc xs (own at) post in
      let size : length xs ≡ 3 * i = run_length p at (take i r) ∙ ap (λ (k : ℕ). 3 * k) (length-take-le i r (omega arith)) in
      ap (λ (k : ℕ). drop k words) (mul-add 3 n i) ∙ sym (drop-drop (3 * i) (3 * n) words) ∙ behind (drop (3 * n) words) xs (own at ++ post) (3 * i) whole size

  -- its three words
  module _ (words post : List ℕ) (n at : ℕ) (e : drop (3 * n) words ≡ pack_run p at r ++ post) where
    word : (c : ℕ) → get_or words (3 * (n + i) + c) 0 ≡ get_or (own at ++ post) c 0
    word c = from-rest words (own at ++ post) (3 * (n + i)) (run-rest words post n at e) c 0

    document-word : get_or words (3 * (n + i)) 0 ≡ (get_or r i d).document
    unfolding pack_run
    document-word = ap (λ (k : ℕ). get_or words k 0) (sym (add-zero (3 * (n + i)))) ∙ word 0

    frequency-word : get_or words (3 * (n + i) + 1) 0 ≡ (get_or r i d).frequency
    unfolding pack_run
    frequency-word = word 1

    index_word : get_or words (3 * (n + i) + 2) 0 ≡ cond p (place at) 0
    unfolding pack_run
    index_word = word 2

  -- the run's positions: those before it, its own, those behind it
  positions-split : positions_in r ≡ positions_in (take i r) ++ ((get_or r i d).positions ++ positions_in (drop (suc i) r))
  unfolding positions_in
  positions-split = ap positions_in (split_at r i d in-run) ∙ positions-append (take i r) (get_or r i d ∷ drop (suc i) r)

  positions-rest : (places other : List ℕ) (at : ℕ)
      → drop at places ≡ positions_in r ++ other
      → drop (place at) places ≡ (get_or r i d).positions ++ (positions_in (drop (suc i) r) ++ other)
  positions-rest places other at e =
      let xs = positions_in (take i r) in
      let ys = (get_or r i d).positions in
      let zs = positions_in (drop (suc i) r) in
      let inner : ys ++ zs ++ other ≡ ys ++ (zs ++ other) = append_assoc ys zs other in
      let whole : xs ++ (ys ++ zs) ++ other ≡ xs ++ (ys ++ (zs ++ other)) = append_assoc xs (ys ++ zs) other ∙ ap (λ (l : List ℕ). xs ++ l) inner in
      sym (drop-drop (length xs) at places)
      ∙ behind (drop at places) xs (ys ++ (zs ++ other)) (length xs) (e ∙ ap (λ (l : List ℕ). l ++ other) positions-split ∙ whole) refl

-- each posting has as many positions as it should
packable-at : (p : Bool) (r : List Posting) (d : Posting) (i : ℕ)
    → i < length r
    → Packable p r
    → length (get_or r i d).positions ≡ cond p (get_or r i d).frequency 0
packable-at p [] d i h g = absurd (omega arith)
packable-at p (x ∷ xs) d zero h g = g.0
packable-at p (x ∷ xs) d (suc i) h g = packable-at p xs d i (le_of_suc-le-suc h) g.1

-- its positions, read by its words
positions-read : (p : Bool) (xs other places : List ℕ) (frequency at w k : ℕ)
    → length xs ≡ cond p frequency 0
    → drop at places ≡ xs ++ other
    → w ≡ frequency
    → k ≡ cond p at 0
    → cond p (list_to w (λ j. get_or places (k + j) 0)) [] ≡ xs
positions-read true xs other places frequency at w k n e a b =
    ap₂ (λ (m h : ℕ). list_to m (λ j. get_or places (h + j) 0)) (a ∙ sym n) b ∙ front_read xs other places at e
positions-read false [] other places frequency at w k n e a b = refl
positions-read false (x ∷ xs) other places frequency at w k n e a b = absurd (omega arith)

-- the posting that is read at record n of the words
abbrev read_at : Bool → List ℕ → List ℕ → ℕ → Posting
read_at p words places n =
    record {
      document = get_or words (3 * n) 0;
      frequency = get_or words (3 * n + 1) 0;
      positions = cond p (list_to (get_or words (3 * n + 1) 0) (λ j. get_or places (get_or words (3 * n + 2) 0 + j) 0)) [];
    }

same-posting : (x y : Posting) → x.document ≡ y.document → x.frequency ≡ y.frequency → x.positions ≡ y.positions → x ≡ y
same-posting x y a b c = λ i. record { document = a i; frequency = b i; positions = c i }

-- a run is read back where the words from record n on and the positions from `at` on begin with its own
run-back : (p : Bool) (r : List Posting) (words places post other : List ℕ) (n at : ℕ)
    → Packable p r
    → drop (3 * n) words ≡ pack_run p at r ++ post
    → drop at places ≡ positions_in r ++ other
    → list_to (length r) (λ i. read_at p words places (n + i)) ≡ r
run-back p r words places post other n at f e g =
    ext_get_or nothing (list_to (length r) read) r (length-list_to (length r) read) (λ i h. each i (subst (λ (k : ℕ). i < k) (length-list_to (length r) read) h))
  where
    read : ℕ → Posting
    read i = read_at p words places (n + i)

    positions-here : (i : ℕ) → i < length r → (read_at p words places (n + i)).positions ≡ (get_or r i nothing).positions
    positions-here i b =
        let x = get_or r i nothing in
        let rest = positions_in (drop (suc i) r) ++ other in
        positions-read p x.positions rest places x.frequency (place p r nothing i b at) (get_or words (3 * (n + i) + 1) 0) (get_or words (3 * (n + i) + 2) 0)
        (packable-at p r nothing i b f)
        (positions-rest p r nothing i b places other at g)
        (frequency-word p r nothing i b words post n at e)
        (index_word p r nothing i b words post n at e)

    each : (i : ℕ) → i < length r → get_or (list_to (length r) read) i nothing ≡ get_or r i nothing
    each i b =
        get_or-list_to (length r) read nothing i b
        ∙ same-posting (read_at p words places (n + i)) (get_or r i nothing)
        (document-word p r nothing i b words post n at e)
        (frequency-word p r nothing i b words post n at e)
        (positions-here i b)

-- ---- run l of several in the words
module _ (rs : List (List Posting)) (l : ℕ) (in-runs : l < length rs) where
  -- where its positions begin, those of the first run at `at`
  abbrev run-place : ℕ → ℕ
  run-place at = at + length (pack_positions (take l rs))

  -- the words of the runs behind it, whose positions begin at `at`
  abbrev later-words : List Bool → ℕ → List ℕ
  later-words ps at = pack_postings (drop (suc l) ps) (at + length (positions_in (get_or rs l []))) (drop (suc l) rs)

  runs-rest : (ps : List Bool) (at : ℕ)
      → length ps ≡ length rs
      → drop (3 * postings_in (take l rs)) (pack_postings ps at rs) ≡ pack_run (get_or ps l false) (run-place at) (get_or rs l []) ++ later-words ps (run-place at)
  unfolding pack_postings
  runs-rest ps at e =
      let ps₁ = take l ps in
      let ps₂ = get_or ps l false ∷ drop (suc l) ps in
      let rs₁ = take l rs in
      let rs₂ = get_or rs l [] ∷ drop (suc l) rs in
      let sizes : length ps₁ ≡ length rs₁ = length-take-le l ps (omega arith) ∙ sym (length-take-le l rs (omega arith)) in
      let by_flags : pack_postings ps at rs ≡ pack_postings (ps₁ ++ ps₂) at rs = ap (λ (bs : List Bool). pack_postings bs at rs) (split_at ps l false (omega arith)) in
      let by_runs : pack_postings (ps₁ ++ ps₂) at rs ≡ pack_postings (ps₁ ++ ps₂) at (rs₁ ++ rs₂) = ap (pack_postings (ps₁ ++ ps₂) at) (split_at rs l [] in-runs) in
      behind (pack_postings ps at rs) (pack_postings ps₁ at rs₁) (pack_postings ps₂ (run-place at) rs₂) (3 * postings_in rs₁)
      (by_flags ∙ by_runs ∙ postings-append ps₁ ps₂ at rs₁ rs₂ sizes) (postings-length ps₁ at rs₁ sizes)

  all-positions-split : pack_positions rs ≡ pack_positions (take l rs) ++ (positions_in (get_or rs l []) ++ pack_positions (drop (suc l) rs))
  unfolding pack_positions
  all-positions-split = ap pack_positions (split_at rs l [] in-runs) ∙ pack-positions-append (take l rs) (get_or rs l [] ∷ drop (suc l) rs)

-- ---- an index that holds runs
module _ (ix : Index) (leaf_fields idfs : List ℕ) (rs : List (List Posting)) (packs : Packs ix leaf_fields idfs rs) where
  -- the words of the leaves
  abbrev row : ℕ → List ℕ
  row l = get_or leaf_fields l 0 ∷ get_or (pack_firsts 0 rs) l 0 ∷ length (get_or rs l []) ∷ get_or idfs l 0 ∷ []

  pub packed-words : length ix.leaves ≡ 4 * length rs
  unfolding pack_leaves
  packed-words = ap length packs.leaves ∙ rows-length 4 (length rs) row (λ l h. refl)

  pub packed-count : leaf_count ix ≡ length rs
  packed-count = omega (arith, packed-words)

  leaf-word : (l c : ℕ) → l < length rs → c < 4 → get_or ix.leaves (4 * l + c) 0 ≡ get_or (row l) c 0
  unfolding pack_leaves
  leaf-word l c h k = ap (λ (xs : List ℕ). get_or xs (4 * l + c) 0) packs.leaves ∙ rows_at 4 (length rs) row 0 (λ i g. refl) l c h k

  pub packed-field : (l : ℕ) → l < length rs → leaf_field ix l ≡ get_or leaf_fields l 0
  packed-field l h = ap (λ (k : ℕ). get_or ix.leaves k 0) (sym (add-zero (4 * l))) ∙ leaf-word l 0 h (omega arith)

  pub packed-first : (l : ℕ) → l < length rs → leaf_first ix l ≡ get_or (pack_firsts 0 rs) l 0
  packed-first l h = leaf-word l 1 h (omega arith)

  pub packed-number : (l : ℕ) → l < length rs → leaf_number ix l ≡ length (get_or rs l [])
  packed-number l h = leaf-word l 2 h (omega arith)

  pub packed-idf : (l : ℕ) → l < length rs → leaf_idf ix l ≡ get_or idfs l 0
  packed-idf l h = leaf-word l 3 h (omega arith)

  -- the words of the postings
  abbrev has-at : ℕ → Bool
  has-at l = has_positions ix (get_or leaf_fields l 0)

  abbrev has_all : List Bool
  has_all = list_to (length rs) has-at

  pub packed-whole : length ix.postings ≡ 3 * postings_in rs
  packed-whole = ap length packs.postings ∙ postings-length has_all 0 rs (length-list_to (length rs) has-at)

  pub packed-postings : posting_count ix ≡ postings_in rs
  packed-postings = omega (arith, packed-whole)

  -- ---- leaf l
  module _ (l : ℕ) (in-runs : l < length rs) where
    abbrev run : List Posting
    run = get_or rs l []

    abbrev has : Bool
    has = has_positions ix (leaf_field ix l)

    -- where its positions begin
    abbrev begin : ℕ
    begin = length (pack_positions (take l rs))

    -- its first posting is behind those of the leaves before it
    first-is : leaf_first ix l ≡ postings_in (take l rs)
    first-is = packed-first l in-runs ∙ firsts_at 0 rs l in-runs ∙ zero-add (postings_in (take l rs))

    pub packed-room : leaf_first ix l + leaf_number ix l ≤ posting_count ix
    unfolding postings_in
    packed-room =
        let split : postings_in rs ≡ postings_in (take l rs ++ run ∷ drop (suc l) rs) = ap postings_in (split_at rs l [] in-runs) in
        omega (arith, packed-postings, first-is, packed-number l in-runs, split, postings-in-append (take l rs) (run ∷ drop (suc l) rs))

    has-is : has ≡ has-at l
    has-is = ap (has_positions ix) (packed-field l in-runs)

    packable-here : Packable has run
    packable-here = subst (λ (p : Bool). Packable p run) (sym has-is) (packs.packable l in-runs)

    -- the words from its first posting on begin with its run's, the positions from `begin` on with those of its
    -- postings
    abbrev words-behind : List ℕ
    words-behind = later-words rs l in-runs has_all begin

    abbrev positions-behind : List ℕ
    positions-behind = pack_positions (drop (suc l) rs)

    words-here : drop (3 * leaf_first ix l) ix.postings ≡ pack_run has begin run ++ words-behind
    words-here =
        let has_here : get_or has_all l false ≡ has = get_or-list_to (length rs) has-at false l in-runs ∙ sym has-is in
        ap₂ (λ (k : ℕ) (xs : List ℕ). drop (3 * k) xs) first-is packs.postings
        ∙ runs-rest rs l in-runs has_all 0 (length-list_to (length rs) has-at)
        ∙ ap₂ (λ (p : Bool) (k : ℕ). pack_run p k run ++ later-words rs l in-runs has_all k) has_here (zero-add begin)

    positions-are : ix.positions ≡ pack_positions (take l rs) ++ (positions_in run ++ positions-behind)
    positions-are = packs.positions ∙ all-positions-split rs l in-runs

    positions-here : drop begin ix.positions ≡ positions_in run ++ positions-behind
    positions-here = behind ix.positions (pack_positions (take l rs)) (positions_in run ++ positions-behind) begin positions-are refl

    -- the run that is read is the one packed
    pub packed-back : run_of ix l ≡ get_or rs l []
    unfolding run_of
    packed-back =
        ap (λ (k : ℕ). list_to k (λ i. read_at has ix.postings ix.positions (leaf_first ix l + i))) (packed-number l in-runs)
        ∙ run-back has run ix.postings ix.positions words-behind positions-behind (leaf_first ix l) begin packable-here words-here positions-here

    -- ---- its posting i, by the run's
    in-length : (i : ℕ) → i < leaf_number ix l → i < length run
    in-length i h = omega (arith, packed-number l in-runs)

    pub packed-document : (d : Posting) (i : ℕ) → i < leaf_number ix l → leaf_document ix l i ≡ (get_or (get_or rs l []) i d).document
    packed-document d i h = document-word has run d i (in-length i h) ix.postings words-behind (leaf_first ix l) begin words-here

    pub packed-frequency : (d : Posting) (i : ℕ) → i < leaf_number ix l → leaf_frequency ix l i ≡ (get_or (get_or rs l []) i d).frequency
    packed-frequency d i h = frequency-word has run d i (in-length i h) ix.postings words-behind (leaf_first ix l) begin words-here

    -- the index is the number of positions before its own, in the runs before and in its run
    abbrev index_of : ℕ → ℕ
    index_of i = length (pack_positions (take l rs)) + length (positions_in (take i (get_or rs l [])))

    packed-index : (i : ℕ) → i < leaf_number ix l → (b : Bool) → has_positions ix (leaf_field ix l) ≡ b → leaf_positions_index ix l i ≡ cond b (index_of i) 0
    packed-index i h b e =
        index_word has run nothing i (in-length i h) ix.postings words-behind (leaf_first ix l) begin words-here ∙ ap (λ (p : Bool). cond p (index_of i) 0) e

    pub packed-no-index : (i : ℕ) → i < leaf_number ix l → has_positions ix (leaf_field ix l) ≡ false → leaf_positions_index ix l i ≡ 0
    packed-no-index i h e = packed-index i h false e

    -- its positions are within those of the index
    pub packed-within : (i : ℕ)
        → i < leaf_number ix l
        → has_positions ix (leaf_field ix l) ≡ true
        → leaf_positions_index ix l i + leaf_frequency ix l i ≤ length ix.positions
    packed-within i h e =
        let x = get_or run i nothing in
        let as-packed = packable-at has run nothing i (in-length i h) packable-here in
        let number : length x.positions ≡ x.frequency = as-packed ∙ ap (λ (p : Bool). cond p x.frequency 0) e in
        let x-behind = positions_in (drop (suc i) run) in
        omega (
          arith,
          packed-index i h true e,
          packed-frequency nothing i h,
          number,
          ap length positions-are,
          length-append (pack_positions (take l rs)) (positions_in run ++ positions-behind),
          length-append (positions_in run) positions-behind,
          ap length (positions-split has run nothing i (in-length i h)),
          length-append (positions_in (take i run)) (x.positions ++ x-behind),
          length-append x.positions x-behind,
        )
