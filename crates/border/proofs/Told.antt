-- What an entry's answer says of its refusal and of its numbers, and what follows at the border. Assumes nothing.
use mathlib.Core.Path.{◌≡◌, refl, sym, ap, ◌∙◌}
use mathlib.Core.List.{List, [], ◌∷◌, map}
use Prim.Native.Nat.{ℕ, zero, suc, ◌≤◌, ◌<◌}
use native.Mathlib.Omega.{arith}
use lib.ListN.{length, get_or, set}
use lib.IntN.{ℤ}
use lib.Ieee.{binary32, to_bits}
use Rattle.meaning.specs.Lent.{Index}
use Rattle.meaning.specs.Query.{query_tree}
use Rattle.meaning.specs.FullList.{full_list}
use Rattle.meaning.specs.Hits.{hits}
use Rattle.meaning.specs.CallRefusals.{Work}
use Rattle.meaning.specs.Entries.{answered, written, search_refusal, search_answer, search_hits, page_of, page_refusal, page_answer, page_documents, page_scores, picked_list, pick_refusal, pick_answer, pick_hits}
use Rattle.collector.specs.declared.TopDocs.{TopDocs}
use Rattle.walk.specs.declared.Listed.{Listed}
use Rattle.std.specs.Prelude.{Result, Ok, Err}
use Rattle.refusal.specs.declared.Refusal.{Refusal}
use Rattle.refusal.specs.Numbers.{number_of, refusal_of}
use Rattle.searcher.specs.Answers.{searched_numbers, paged_numbers}
use Rattle.searcher.specs.declared.buffers.Buffers.{Buffers}
use Rattle.searcher.specs.WorkBuffers.{KeptBuffers}
use Rattle.searcher.specs.Searches.{Searches}
use Rattle.searcher.specs.Pages.{Pages}
use Rattle.searcher.proofs.OnRecords.{search-told as search-refused, page-told as page-refused}
use Rattle.entry_pick.specs.Answers.{picked_numbers}
use Rattle.border.specs.Border.{short_answer, top_answer, LotSearches, LotPages, LotPicks, LotKept}
use Rattle.border.proofs.Short.{short-refuses, search-short, search-long, page-short, page-long, pick-short, pick-long}

-- ---- an answer as a list of numbers
-- the numbers after the first
rest : List ℕ → List ℕ
rest [] = []
rest (x ∷ xs) = xs

-- a refusal's number alone was answered
pub refused-number : (z n v : ℕ) (vs : List ℕ) → (n ∷ []) ≡ answered z (0 ∷ v ∷ vs) (λ m. m ∷ []) → (n ≡ z) × (0 < z)
refused-number zero n v vs e = absurd (let l = ap length e in omega (arith, l))
refused-number (suc z) n v vs e = (ap (λ (xs : List ℕ). get_or xs 0 0) e, omega arith)

-- 0 and numbers were answered
pub found-numbers : (z v : ℕ) (vs ys : List ℕ) → (0 ∷ v ∷ vs) ≡ answered z (0 ∷ ys) (λ m. m ∷ []) → (z ≡ 0) × ((v ∷ vs) ≡ ys)
unfolding rest
found-numbers zero v vs ys e = (refl, ap rest e)
found-numbers (suc z) v vs ys e = absurd (let l = ap length e in omega (arith, l))

-- ---- what a buffer holds afterwards
-- a refused call leaves what it was to write to
pub refused-keeps : {A : Type 0} (n : ℕ) (accepted kept : A) → 0 < n → kept ≡ answered n accepted (λ m. kept)
refused-keeps zero accepted kept h = absurd (omega arith)
refused-keeps (suc n) accepted kept h = refl

-- the work buffers of a call that did not come to them
pub unmoved : (r : ℕ) (states : List ℕ) (starts other_starts : List ℤ) (ranges : List ℕ) → LotKept r states states starts starts other_starts other_starts ranges ranges
unmoved r states starts other_starts ranges = record { states_kept = λ h. refl; starts_kept = λ h. refl; other_starts_kept = λ h. refl; ranges_kept = λ h. refl }

-- what the entry's refusal keeps, the number that is returned keeps
pub kept-by : (r z : ℕ) (b b' : Buffers ℕ) → r ≡ z → KeptBuffers z b b' → LotKept r b.states.now b'.states.now b.starts.now b'.starts.now b.other_starts.now b'.other_starts.now b.ranges.now b'.ranges.now
kept-by r z b b' e k = record { states_kept = λ h. k.states (rw e at h); starts_kept = λ h. k.starts (rw e at h); other_starts_kept = λ h. k.other_starts (rw e at h); ranges_kept = λ h. k.ranges (rw e at h) }

-- numbers stored at the first places
pub three-written : (a b c : ℕ) (xs : List ℕ) → 3 ≤ length xs → set (set (set xs 0 a) 1 b) 2 c ≡ written (a ∷ b ∷ c ∷ []) xs
three-written a b c [] h = absurd (omega (arith, h))
three-written a b c (x ∷ []) h = absurd (omega (arith, h))
three-written a b c (x ∷ y ∷ []) h = absurd (omega (arith, h))
three-written a b c (x ∷ y ∷ z ∷ xs) h = refl

pub two-written : (a b : ℕ) (xs : List ℕ) → 2 ≤ length xs → set (set xs 0 a) 1 b ≡ written (a ∷ b ∷ []) xs
two-written a b [] h = absurd (omega (arith, h))
two-written a b (x ∷ []) h = absurd (omega (arith, h))
two-written a b (x ∷ y ∷ xs) h = refl

-- ---- Pick
module _ (documents scores : List ℕ) (k t : ℕ) (heap : List ℤ) (answer : List ℕ) where
  abbrev pick-number : ℕ
  pick-number = pick_refusal documents scores k (length heap)

  pub pick-told-short : (z r : ℕ) → length answer < 3 → z ≡ pick-number → r ≡ short_answer z → LotPicks documents scores k t heap heap answer answer r
  pick-told-short z r h e f =
      let s = pick-short documents scores k (length heap) (length answer) h in
      let p : 0 < r = rw (f ∙ ap short_answer e) (short-refuses pick-number) in
      record { refusal = f ∙ ap short_answer e ∙ sym s; hits_after = refused-keeps r _ heap p; answer_after = refused-keeps r _ answer p }

  pub pick-written : (b : ℕ) → b ≡ pick-number → pick_hits documents scores k heap ≡ answered b (written (hits k (picked_list documents scores)) heap) (λ n. heap)
  unfolding pick_hits
  pick-written b e = rw e refl

  pub pick-told : (heap' : List ℤ) (answer' : List ℕ) (a : Result TopDocs Refusal) (n : ℕ) → 3 ≤ length answer → n ≡ refusal_of a → answer' ≡ top_answer a answer → picked_numbers a ≡ pick_answer documents scores k t (length heap) → heap' ≡ pick_hits documents scores k heap → LotPicks documents scores k t heap heap' answer answer' n
  unfolding picked_numbers pick_answer
  pick-told heap' answer' (Err s) n h m v f g =
      let l = pick-long documents scores k (length heap) (length answer) h in
      let y = refused-number pick-number (number_of s) _ _ f in
      let z = m ∙ y.0 in
      let p : 0 < n = rw z y.1 in
      record { refusal = z ∙ sym l; hits_after = g ∙ pick-written _ z; answer_after = v ∙ refused-keeps _ _ answer p }
  pick-told heap' answer' (Ok top) n h m v f g =
      let l = pick-long documents scores k (length heap) (length answer) h in
      let z = found-numbers pick-number top.held _ _ f in
      rw m (record { refusal = sym (l ∙ z.0); hits_after = g ∙ pick-written _ (sym z.0); answer_after = v ∙ ap (λ (xs : List ℕ). written xs answer) z.1 })

-- ---- Search, by the lengths of its work buffers
module _ (ix : Index) (q : List ℕ) (k t : ℕ) (w : Work) (heap : List ℤ) (answer : List ℕ) where
  abbrev search-number : ℕ
  search-number = search_refusal ix q k w (length heap)

  pub search-told-short : (z r : ℕ) (v : Work) → length answer < 3 → z ≡ search_refusal ix q k v (length heap) → v ≡ w → r ≡ short_answer z → LotSearches ix q k t w heap heap answer answer r
  search-told-short z r v h s same f =
      let e : z ≡ search-number = s ∙ ap (λ (u : Work). search_refusal ix q k u (length heap)) same in
      let s = search-short ix q k w (length heap) (length answer) h in
      let p : 0 < r = rw (f ∙ ap short_answer e) (short-refuses search-number) in
      record { refusal = f ∙ ap short_answer e ∙ sym s; hits_after = refused-keeps r _ heap p; answer_after = refused-keeps r _ answer p }

  pub search-written : (b : ℕ) → b ≡ search-number → search_hits ix q k w heap ≡ answered b (written (hits k (full_list ix (query_tree q))) heap) (λ n. heap)
  unfolding search_hits
  search-written b e = rw e refl

  pub search-told : (heap' : List ℤ) (answer' : List ℕ) (a : Result TopDocs Refusal) (n : ℕ) → 3 ≤ length answer → n ≡ refusal_of a → answer' ≡ top_answer a answer → searched_numbers a ≡ search_answer ix q k t w (length heap) → heap' ≡ search_hits ix q k w heap → LotSearches ix q k t w heap heap' answer answer' n
  unfolding searched_numbers search_answer
  search-told heap' answer' (Err s) n h m v f g =
      let l = search-long ix q k w (length heap) (length answer) h in
      let y = refused-number search-number (number_of s) _ _ f in
      let z = m ∙ y.0 in
      let p : 0 < n = rw z y.1 in
      record { refusal = z ∙ sym l; hits_after = g ∙ search-written _ z; answer_after = v ∙ refused-keeps _ _ answer p }
  search-told heap' answer' (Ok top) n h m v f g =
      let l = search-long ix q k w (length heap) (length answer) h in
      let z = found-numbers search-number top.held _ _ f in
      rw m (record { refusal = sym (l ∙ z.0); hits_after = g ∙ search-written _ (sym z.0); answer_after = v ∙ ap (λ (xs : List ℕ). written xs answer) z.1 })

  pub search-kept : {words' : List ℕ} {b b' : Buffers ℕ} {heap' : List ℤ} (a : Result TopDocs Refusal) (n : ℕ) → n ≡ refusal_of a → Searches ix q k t w words' b b' heap heap' a → LotKept n b.states.now b'.states.now b.starts.now b'.starts.now b.other_starts.now b'.other_starts.now b.ranges.now b'.ranges.now
  search-kept a n m s = kept-by n search-number _ _ (m ∙ search-refused ix q w k t (length heap) a s.numbers) s.kept

-- ---- Page, by the lengths of its work buffers
module _ (ix : Index) (q : List ℕ) (target : ℕ) (w : Work) (documents scores answer : List ℕ) where
  abbrev page-number : ℕ
  page-number = page_refusal ix q target w (length documents) (length scores)

  pub page-told-short : (z r : ℕ) (v : Work) → length answer < 2 → z ≡ page_refusal ix q target v (length documents) (length scores) → v ≡ w → r ≡ short_answer z → LotPages ix q target w documents documents scores scores answer answer r
  page-told-short z r v h s same f =
      let e : z ≡ page-number = s ∙ ap (λ (u : Work). page_refusal ix q target u (length documents) (length scores)) same in
      let s = page-short ix q target w (length documents) (length scores) (length answer) h in
      let p : 0 < r = rw (f ∙ ap short_answer e) (short-refuses page-number) in
      record { refusal = f ∙ ap short_answer e ∙ sym s; documents_after = refused-keeps r _ documents p; scores_after = refused-keeps r _ scores p; answer_after = refused-keeps r _ answer p }

  pub documents-written : (b : ℕ) → b ≡ page-number → page_documents ix q target w documents scores ≡ answered b (written (map (λ h. h.doc) (page_of ix q target (length documents)).given) documents) (λ n. documents)
  unfolding page_documents
  documents-written b e = rw e refl

  pub scores-written : (b : ℕ) → b ≡ page-number → page_scores ix q target w documents scores ≡ answered b (written (map (λ h. to_bits binary32 h.score) (page_of ix q target (length documents)).given) scores) (λ n. scores)
  unfolding page_scores
  scores-written b e = rw e refl

  pub page-kept : {words' : List ℕ} {b b' : Buffers ℕ} {documents' scores' : List ℕ} (a : Result Listed Refusal) (n : ℕ) → n ≡ refusal_of a → Pages ix q target w words' b b' documents documents' scores scores' a → LotKept n b.states.now b'.states.now b.starts.now b'.starts.now b.other_starts.now b'.other_starts.now b.ranges.now b'.ranges.now
  page-kept a n m s = kept-by n page-number _ _ (m ∙ page-refused ix q w target (length documents) (length scores) a s.numbers) s.kept

  module _ (documents' scores' : List ℕ) (a : Result Listed Refusal) (h : 2 ≤ length answer) (f : paged_numbers a ≡ page_answer ix q target w (length documents) (length scores)) (g : documents' ≡ page_documents ix q target w documents scores) (i : scores' ≡ page_scores ix q target w documents scores) where
    pub page-told-refused : (s : Refusal) (n : ℕ) → a ≡ Err s → n ≡ number_of s → LotPages ix q target w documents documents' scores scores' answer answer n
    unfolding paged_numbers page_answer
    page-told-refused s n e m =
        let l = page-long ix q target w (length documents) (length scores) (length answer) h in
        let y = refused-number page-number (number_of s) _ _ (sym (ap paged_numbers e) ∙ f) in
        let z = m ∙ y.0 in
        let p : 0 < n = rw z y.1 in
        record { refusal = z ∙ sym l; documents_after = g ∙ documents-written _ z; scores_after = i ∙ scores-written _ z; answer_after = refused-keeps _ _ answer p }

    pub page-told-given : (listed : Listed) → a ≡ Ok listed → LotPages ix q target w documents documents' scores scores' answer (set (set answer 0 listed.given) 1 listed.next) 0
    unfolding paged_numbers page_answer
    page-told-given listed e =
        let l = page-long ix q target w (length documents) (length scores) (length answer) h in
        let z = found-numbers page-number listed.given _ _ (sym (ap paged_numbers e) ∙ f) in
        record {
          refusal = sym (l ∙ z.0);
          documents_after = g ∙ documents-written _ (sym z.0);
          scores_after = i ∙ scores-written _ (sym z.0);
          answer_after = two-written listed.given listed.next answer h ∙ ap (λ (xs : List ℕ). written xs answer) z.1;
        }
