-- The leaves of a field in a window, one after the other: cursors and counts when those before a leaf are added. Assumes nothing.
use mathlib.Core.Path.{◌≡◌, refl, sym, ap, ◌∙◌}
use mathlib.Core.Logic.{⊎_elim}
use mathlib.Core.Bool.{cond}
use mathlib.Core.List.{List}
use Prim.Native.Nat.{ℕ, ◌+◌, ◌≤◌, ◌<◌}
use native.Mathlib.Omega.{arith}
use lib.Dec.{ltb}
use lib.ListN.{length, get_or, set}
use borrow.Author.Tests.{eq-eqb, ne_eqb, lt-ltb, le-ltb}
use Rattle.meaning.specs.Below.{list_to, sum_below}
use Rattle.meaning.proofs.Below.{length-list_to, get_or-list_to, list_to-same}
use Rattle.meaning.proofs.Tests.{cmp, ltb-as-ltb}
use Rattle.meaning.proofs.Sums.{sum-zero, sum_more, sum-prefix}
use Rattle.token_norms.specs.Lengths.{run_first, run_number, frequency_in_run, in_leaf, length_in, before, RunOk, RunsOk, cursors_at}
use Rattle.token_norms.proofs.Filled.{same_or_not, list_to-set}

module _ (leaf_fields postings runs : List ℕ) (field base width : ℕ) where
  -- a leaf's cursor when the leaves before l are added
  abbrev pub cursor_after : ℕ → ℕ → ℕ
  cursor_after l m = cond (ltb m l) (cursors_at leaf_fields postings runs field (base + width) m) (cursors_at leaf_fields postings runs field base m)

  after-passed : (l m : ℕ) → m < l → cursor_after l m ≡ cursors_at leaf_fields postings runs field (base + width) m
  after-passed l m h = rw (lt-ltb m l h)

  after-ahead : (l m : ℕ) → l ≤ m → cursor_after l m ≡ cursors_at leaf_fields postings runs field base m
  after-ahead l m h = rw (le-ltb m l h)

  after-other : (l m : ℕ) → (m ≡ l → ⊥) → cursor_after l m ≡ cursor_after (l + 1) m
  after-other l m h = rw (ltb-as-ltb m l m (l + 1) (λ a. omega arith) (λ a. omega (arith, h)))

-- the cursor of a leaf of the field, and of another
module _ (leaf_fields postings runs : List ℕ) (field l : ℕ) where
  cursor-of : (d : ℕ) → l < length leaf_fields → get_or leaf_fields l 0 ≡ field → cursors_at leaf_fields postings runs field d l ≡ before postings (run_first runs l) (run_number runs l) d
  unfolding cursors_at
  cursor-of d h e = rw (lt-ltb l (length leaf_fields) h, eq-eqb (get_or leaf_fields l 0) field e)

  cursor-other : (d e : ℕ) → (get_or leaf_fields l 0 ≡ field → ⊥) → cursors_at leaf_fields postings runs field d l ≡ cursors_at leaf_fields postings runs field e l
  unfolding cursors_at
  cursor-other d e h = rw (ne_eqb (get_or leaf_fields l 0) field h)

  cursor-beyond : (d e : ℕ) → length leaf_fields ≤ l → cursors_at leaf_fields postings runs field d l ≡ cursors_at leaf_fields postings runs field e l
  unfolding cursors_at
  cursor-beyond d e h = rw (le-ltb l (length leaf_fields) h)

  leaf-of : (d : ℕ) → get_or leaf_fields l 0 ≡ field → in_leaf leaf_fields postings runs field d l ≡ frequency_in_run postings (run_first runs l) (run_number runs l) d
  unfolding in_leaf
  leaf-of d e = rw (eq-eqb (get_or leaf_fields l 0) field e)

  leaf-other : (d : ℕ) → (get_or leaf_fields l 0 ≡ field → ⊥) → in_leaf leaf_fields postings runs field d l ≡ 0
  unfolding in_leaf
  leaf-other d h = rw (ne_eqb (get_or leaf_fields l 0) field h)

length-is : (leaf_fields postings runs : List ℕ) (field d : ℕ) → length_in leaf_fields postings runs field d ≡ sum_below (length leaf_fields) (in_leaf leaf_fields postings runs field d)
unfolding length_in
length-is leaf_fields postings runs field d = refl

-- the leaves before l are added
pub record Added (leaf_fields postings runs : List ℕ) (field base width l : ℕ) (cursors counts : List ℕ) : Type 0 where
  pub upto : l ≤ length leaf_fields
  pub cursors-are : cursors ≡ list_to 512 (cursor_after leaf_fields postings runs field base width l)
  pub counts-are : counts ≡ list_to width (λ j. sum_below l (in_leaf leaf_fields postings runs field (base + j)))

module _ (leaf_fields postings runs : List ℕ) (ok : RunsOk leaf_fields postings runs) (field base width : ℕ) where
  pub added-start : (cursors counts : List ℕ) → cursors ≡ list_to 512 (cursors_at leaf_fields postings runs field base) → counts ≡ list_to width (λ j. 0) → Added leaf_fields postings runs field base width 0 cursors counts
  added-start cursors counts e g =
      record {
        upto = omega arith;
        cursors-are = e ∙ list_to-same 512 _ _ (λ m h. sym (after-ahead leaf_fields postings runs field base width 0 m (omega arith)));
        counts-are = g ∙ list_to-same width _ _ (λ j h. sym (sum-zero _));
      }

  module _ (l : ℕ) (cursors counts : List ℕ) (A : Added leaf_fields postings runs field base width l cursors counts) where
    pub cursors-long : length cursors ≡ 512
    cursors-long = ap length A.cursors-are ∙ length-list_to 512 _

    pub counts-long : length counts ≡ width
    counts-long = ap length A.counts-are ∙ length-list_to width _

    module _ (m : l < length leaf_fields) where
      below : l < 512
      below = omega (arith, ok.few)

      -- leaf l is of the field
      module _ (is : get_or leaf_fields l 0 ≡ field) where
        count_at : (j : ℕ) → j < width → get_or counts j 0 ≡ sum_below l (in_leaf leaf_fields postings runs field (base + j))
        count_at j h = ap (λ (xs : List ℕ). get_or xs j 0) A.counts-are ∙ get_or-list_to width _ 0 j h

        more : (j : ℕ) → j < width → get_or counts j 0 + frequency_in_run postings (run_first runs l) (run_number runs l) (base + j) ≡ sum_below (l + 1) (in_leaf leaf_fields postings runs field (base + j))
        more j h =
            omega (arith, count_at j h, sum_more l (in_leaf leaf_fields postings runs field (base + j)), leaf-of leaf_fields postings runs field l (base + j) is)

        module _ (first number : ℕ) (first-is : first ≡ run_first runs l) (number_is : number ≡ run_number runs l) where
          pub run_ok : RunOk postings first number
          run_ok = rw (first-is, number_is) (ok.run l m)

          pub cursor-here : get_or cursors l 0 ≡ before postings first number base
          cursor-here =
              rw (first-is, number_is)
              (ap (λ (xs : List ℕ). get_or xs l 0) A.cursors-are
              ∙ get_or-list_to 512 _ 0 l below
              ∙ after-ahead leaf_fields postings runs field base width l l (omega arith)
              ∙ cursor-of leaf_fields postings runs field l base m is)

          -- no sum is above the number of tokens
          pub room-here : (j : ℕ) → j < length counts → get_or counts j 0 + frequency_in_run postings first number (base + j) < 4294967296
          room-here j h =
              rw (first-is, number_is)
              (omega (arith, more j (omega (arith, counts-long)), sum-prefix (l + 1) (length leaf_fields) (in_leaf leaf_fields postings runs field (base + j)) (omega arith), length-is leaf_fields postings runs field (base + j), ok.fits field (base + j)))

          pub added-leaf : (r : ℕ) (cursors' counts' : List ℕ) → r ≡ before postings first number (base + length counts) → cursors' ≡ set cursors l r → counts' ≡ list_to (length counts) (λ j. get_or counts j 0 + frequency_in_run postings first number (base + j)) → Added leaf_fields postings runs field base width (l + 1) cursors' counts'
          added-leaf r cursors' counts' e o g =
              record {
                upto = omega arith;
                cursors-are =
                    o
                    ∙ ap (λ (xs : List ℕ). set xs l r) A.cursors-are
                    ∙ list_to-set 512 _ _ l r below
                    (e ∙ ap (λ (n : ℕ). before postings first number (base + n)) counts-long
                    ∙ ap (λ (n : ℕ). before postings n number (base + width)) first-is
                    ∙ ap (λ (n : ℕ). before postings (run_first runs l) n (base + width)) number_is
                    ∙ sym (cursor-of leaf_fields postings runs field l (base + width) m is)
                    ∙ sym (after-passed leaf_fields postings runs field base width (l + 1) l (omega arith)))
                    (λ k h q. after-other leaf_fields postings runs field base width l k q);
                counts-are =
                    g
                    ∙ ap (λ (n : ℕ). list_to n (λ j. get_or counts j 0 + frequency_in_run postings first number (base + j))) counts-long
                    ∙ list_to-same width _ _ (λ j h. ap (λ (n : ℕ). get_or counts j 0 + frequency_in_run postings n number (base + j)) first-is ∙ ap (λ (n : ℕ). get_or counts j 0 + frequency_in_run postings (run_first runs l) n (base + j)) number_is ∙ more j h);
              }

      -- leaf l is of another field
      pub added-other : (get_or leaf_fields l 0 ≡ field → ⊥) → (cursors' counts' : List ℕ) → cursors' ≡ cursors → counts' ≡ counts → Added leaf_fields postings runs field base width (l + 1) cursors' counts'
      added-other h cursors' counts' o e =
          record {
            upto = omega arith;
            cursors-are = o ∙ A.cursors-are ∙ list_to-same 512 _ _ (λ k g. ⊎_elim (λ (q : k ≡ l). at k q) (λ (q : k ≡ l → ⊥). after-other leaf_fields postings runs field base width l k q) (same_or_not k l));
            counts-are = e ∙ A.counts-are ∙ list_to-same width _ _ (λ j g. omega (arith, sum_more l (in_leaf leaf_fields postings runs field (base + j)), leaf-other leaf_fields postings runs field l (base + j) h));
          }
        where
          at : (k : ℕ) → k ≡ l → cursor_after leaf_fields postings runs field base width l k ≡ cursor_after leaf_fields postings runs field base width (l + 1) k
          at k q =
              rw q
              (after-ahead leaf_fields postings runs field base width l l (omega arith)
              ∙ cursor-other leaf_fields postings runs field l base (base + width) h
              ∙ sym (after-passed leaf_fields postings runs field base width (l + 1) l (omega arith)))

    -- all leaves are added
    module _ (all : length leaf_fields ≤ l) where
      pub cursors-done : cursors ≡ list_to 512 (cursors_at leaf_fields postings runs field (base + width))
      cursors-done =
          A.cursors-are
          ∙ list_to-same 512 _ _
          (λ k g.
          ⊎_elim
          (λ (h : k < l). after-passed leaf_fields postings runs field base width l k h)
          (λ (h : l ≤ k). after-ahead leaf_fields postings runs field base width l k h ∙ cursor-beyond leaf_fields postings runs field k base (base + width) (omega arith))
          (cmp k l))

      pub counts-done : counts ≡ list_to width (λ j. length_in leaf_fields postings runs field (base + j))
      counts-done =
          let e : l ≡ length leaf_fields = omega (arith, A.upto) in
          A.counts-are
          ∙ list_to-same width _ _ (λ j g. ap (λ (n : ℕ). sum_below n (in_leaf leaf_fields postings runs field (base + j))) e ∙ sym (length-is leaf_fields postings runs field (base + j)))
