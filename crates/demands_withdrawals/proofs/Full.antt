-- The full list, its length and its pages after a lot was withdrawn. Nothing is asked of the index, the query or the
-- lot. Assumes nothing.
use mathlib.Core.Path.{◌≡◌, refl, sym, ap, ◌∙◌}
use mathlib.Core.Bool.{Bool, true, false, not, cond, ◌&&◌, and-true, and-false, and_assoc}
use mathlib.Core.List.{List, [], ◌∷◌, map, map_congr_left}
use Prim.Native.Nat.{ℕ, ◌+◌, ◌<◌}
use native.Mathlib.Omega.{arith}
use borrow.Author.Tests.{eqb-true, lt-ltb}
use lib.Dec.{eqb, ltb}
use lib.ListN.{length, length-map}
use Rattle.meaning.specs.Below.{list_below}
use Rattle.meaning.specs.Lent.{Index}
use Rattle.meaning.specs.Live.{is_live}
use Rattle.meaning.specs.Bm25.{one}
use Rattle.meaning.specs.Query.{Tree, query_tree}
use Rattle.meaning.specs.Takes.{takes}
use Rattle.meaning.specs.Score.{score}
use Rattle.meaning.specs.FullList.{ScoreDoc, matches, full_list}
use Rattle.meaning.specs.Pages.{page}
use Rattle.meaning.specs.Entries.{page_of}
use Rattle.meaning.proofs.Below.{list_same}
use Rattle.demands.proofs.Lists.{All}
use Rattle.demands_withdrawals.specs.Withdrawal.{withdrawn, live_and_taken, without}
use Rattle.demands_withdrawals.proofs.Live.{live-exactly}
use Rattle.demands_withdrawals.proofs.Same.{same_otherwise}
use Rattle.demands_withdrawals.proofs.Lists.{others, without-map, without-listed, length-others}

-- a live match of a query, and a document with the root's score
abbrev matching : Index → Tree → ℕ → Bool
matching ix t x = is_live ix x && takes ix t x

abbrev scored : Index → Tree → ℕ → ScoreDoc
scored ix t x = record { doc = x; score = score ix t one x }

every : (xs : List ℕ) (P : ℕ → Type 0) → ((x : ℕ) → P x) → All P xs
every [] P h = tt
every (x ∷ xs) P h = (h x, every xs P h)

module _ (ix : Index) (d : ℕ) (t : Tree) where
  -- among the documents below N, those that match are those that matched, but for d
  matching-others : (x : ℕ) → x < ix.max_doc → matching (withdrawn ix d) t x ≡ others (matching ix t) d x
  matching-others x l =
      ap (λ (b : Bool). b && takes (withdrawn ix d) t x) (live-exactly ix d x l)
      ∙ ap (λ (b : Bool). is_live ix x && not (eqb x d) && b) ((same_otherwise ix d).same_takes t x)
      ∙ swap (is_live ix x) (not (eqb x d)) (takes ix t x)
    where
      swap : (a b c : Bool) → (a && b && c) ≡ (a && c && b)
      swap true true c = sym (and-true c)
      swap true false true = refl
      swap true false false = refl
      swap false b c = refl

  withdrawn-matches : matches (withdrawn ix d) t ≡ list_below ix.max_doc (others (matching ix t) d)
  unfolding matches withdrawn
  withdrawn-matches = list_same (matching (withdrawn ix d) t) (others (matching ix t) d) ix.max_doc matching-others

  without-full : without d (full_list ix t) ≡ map (scored ix t) (list_below ix.max_doc (others (matching ix t) d))
  unfolding full_list matches without
  without-full =
      without-map (scored ix t) (λ x. x) (λ h. h.doc) d (matches ix t) (every (matches ix t) (λ x. (scored ix t x).doc ≡ x) (λ x. refl))
      ∙ ap (map (scored ix t)) (without-listed (matching ix t) d ix.max_doc)

  -- "clearing one live bit removes that document from the full list and changes no other document or score"
  pub withdrawn-list : full_list (withdrawn ix d) t ≡ without d (full_list ix t)
  unfolding full_list
  withdrawn-list =
      map_congr_left {l = matches (withdrawn ix d) t} (λ x m. ap (λ s. record { doc = x; score = s }) ((same_otherwise ix d).same-score t one x))
      ∙ ap (map (scored ix t)) withdrawn-matches ∙ sym without-full

  -- the list is shorter by one exactly where d was a live match; the count and the mark are functions of this length
  pub withdrawn-count : length (full_list (withdrawn ix d) t) + cond (live_and_taken ix t d) 1 0 ≡ length (full_list ix t)
  unfolding live_and_taken full_list matches
  withdrawn-count =
      ap (λ (n : ℕ). n + cond (live_and_taken ix t d) 1 0) (ap length (withdrawn-list ∙ without-full) ∙ length-map (list_below ix.max_doc (others (matching ix t) d)) (scored ix t))
      ∙ ap (λ (b : Bool). length (list_below ix.max_doc (others (matching ix t) d)) + cond b 1 0) (and_assoc (ltb d ix.max_doc) (is_live ix d) (takes ix t d))
      ∙ length-others (matching ix t) d ix.max_doc ∙ sym (length-map (matches ix t) (scored ix t))

  -- where d was no live match, the list stays
  pub withdrawn-no-match : live_and_taken ix t d ≡ false → full_list (withdrawn ix d) t ≡ full_list ix t
  unfolding live_and_taken full_list matches
  withdrawn-no-match e =
      withdrawn-list ∙ without-full ∙ ap (map (scored ix t)) (list_same (others (matching ix t) d) (matching ix t) ix.max_doc stays)
    where
      stays : (x : ℕ) → x < ix.max_doc → others (matching ix t) d x ≡ matching ix t x
      stays x l = go (eqb x d) refl
        where
          go : (b : Bool) → eqb x d ≡ b → (matching ix t x && not b) ≡ matching ix t x
          go true g =
              let here : x ≡ d = eqb-true x d g in
              let below : ltb d ix.max_doc ≡ true = lt-ltb d ix.max_doc (omega (arith, l, here)) in
              let none : (ltb d ix.max_doc && matching ix t d) ≡ false = sym (and_assoc (ltb d ix.max_doc) (is_live ix d) (takes ix t d)) ∙ e in
              and-false (matching ix t x) ∙ sym (ap (matching ix t) here ∙ (rw below at none))
          go false g = and-true (matching ix t x)

  -- .. so a lot that was withdrawn already changes nothing
  pub withdrawn-dead : is_live ix d ≡ false → full_list (withdrawn ix d) t ≡ full_list ix t
  unfolding live_and_taken
  withdrawn-dead e = withdrawn-no-match (rw e (ap (λ (b : Bool). b && takes ix t d) (and-false (ltb d ix.max_doc))))

-- a page after a lot was withdrawn is the page of the list without it
pub withdrawn-page : (ix : Index) (d : ℕ) (q : List ℕ) (target m : ℕ) → page_of (withdrawn ix d) q target m ≡ page target m (without d (full_list ix (query_tree q)))
withdrawn-page ix d q target m = ap (page target m) (withdrawn-list ix d (query_tree q))
