-- Demand 3, of lot_search and lot_pick: what a call that returned 0 gave, and what stands in its `answer`. Assumes nothing.
use mathlib.Core.Path.{◌≡◌, refl, sym, ap, ◌∙◌, subst}
use mathlib.Core.Bool.{false}
use mathlib.Core.List.{List, [], ◌∷◌, ◌++◌}
use Prim.Native.Nat.{ℕ, ◌≤◌}
use lib.Dec.{lit<}
use lib.ListN.{length, take, drop, get_or}
use lib.Seq.{take_at}
use lib.IntN.{ℤ}
use Rattle.meaning.specs.Lent.{Index}
use Rattle.meaning.specs.Query.{query_tree}
use Rattle.meaning.specs.FullList.{ScoreDoc, full_list}
use Rattle.meaning.specs.Hits.{hits as hits_of}
use Rattle.meaning.specs.CallRefusals.{Work, wrong11, wrong12_pick, wrong14}
use Rattle.meaning.specs.Entries.{written, answered, top_docs, search_refusal, picked_list, pick_refusal}
use Rattle.meaning.proofs.Lowest.{lowest-zero}
use Rattle.demands.proofs.Search.{hits-length, hits-begin, answer-is, held-is, wrote-is, held_by, hits_by, search-grows, MarkExactly, marked, mark-exactly}
use Rattle.demands.proofs.Ranked.{hits-are}
use Rattle.demands.proofs.Rankable.{picked-rankable}
use Rattle.demands.proofs.Hits.{FirstHits, search-hits}
use Rattle.border.specs.Border.{top_numbers}
use Rattle.demands_border.specs.Calls.{SearchCall, PickCall, hits_given, Begin}
use Rattle.demands_border.proofs.Entries.{search-work, search-entry, pick-entry}

-- what stands in `answer` after the number returned, whatever stands behind it
mark-told : (k t n : ℕ) (list : List ScoreDoc) (rest : List ℕ) → MarkExactly k t n (top_docs k t list) → MarkExactly k t n (0 ∷ (top_numbers k t list ++ rest))
mark-told k t n list rest m = record { held = m.held; count = m.count; set = m.set; above = m.above; filled = m.filled; else = m.else }

first-told : (list : List ScoreDoc) (k t : ℕ) (wrote : List ℤ) (rest : List ℕ) → FirstHits list k t wrote (top_docs k t list) → FirstHits list k t wrote (0 ∷ (top_numbers k t list ++ rest))
first-told list k t wrote rest h = record {
  best = h.best;
  same = h.same;
  order = h.order;
  codes = h.codes;
  documents = h.documents;
  scores = h.scores;
  accepted = refl;
  numbers = mark-told k t (length list) list rest h.numbers;
}

-- ---- one call that returned 0, by its list of documents with scores
module _ (list : List ScoreDoc) (k t : ℕ) (hits hits' : List ℤ) (answer answer' : List ℕ) (returned : ℕ) (r : returned ≡ 0)
    (h : hits' ≡ answered returned (written (hits_of k list) hits) (λ n. hits))
    (a : answer' ≡ answered returned (written (top_numbers k t list) answer) (λ n. answer)) where
  answer-told : (returned ∷ answer') ≡ (0 ∷ (top_numbers k t list ++ drop 3 answer))
  answer-told = ap (λ (n : ℕ). n ∷ answer') r ∙ ap (λ (l : List ℕ). 0 ∷ l) (rw r at a)

  given-told : hits_given hits' answer' ≡ hits_of k list
  unfolding hits_given
  given-told =
      let a' : answer' ≡ written (top_numbers k t list) answer = rw r at a in
      let h' : hits' ≡ written (hits_of k list) hits = rw r at h in
      ap (λ (n : ℕ). take n hits') (ap (λ (l : List ℕ). get_or l 0 0) a')
      ∙ ap (take (length (hits_of k list))) h'
      ∙ take_at (hits_of k list) (drop (length (hits_of k list)) hits) (length (hits_of k list)) refl

-- ---- lot_search
module _ (ix : Index) (q : List ℕ) (k t : ℕ) (c : SearchCall ix q k t) (r : c.returned ≡ 0) where
  abbrev all : List ScoreDoc
  all = full_list ix (query_tree q)

  abbrev w : Work
  w = search-work ix q k t c

  search-accepted : search_refusal ix q k w (length c.hits) ≡ 0
  search-accepted = (search-entry ix q k t c r).entry

  search-answer : (c.returned ∷ c.answer') ≡ (0 ∷ (top_numbers k t all ++ drop 3 c.answer))
  search-answer = answer-told all k t c.hits c.hits' c.answer c.answer' c.returned r c.told.hits_after c.told.answer_after

  search-told : hits_given c.hits' c.answer' ≡ hits_of k all
  search-told = given-told all k t c.hits c.hits' c.answer c.answer' c.returned r c.told.hits_after c.told.answer_after

  -- the hits given are those that Search wrote, and as many
  search-given : hits_given c.hits' c.answer' ≡ hits_by ix q k t w c.hits
  search-given = search-told ∙ sym (wrote-is ix q k t w c.hits search-accepted)

  search-held : length (hits_given c.hits' c.answer') ≡ held_by ix q k t w c.hits
  search-held = ap length search-told ∙ sym (held-is ix q k t w (length c.hits) search-accepted)

  -- the first k of all live matches in their order stand in the hits buffer, and how many, their count and the mark in `answer`
  pub lot-search-hits : FirstHits all k t (hits_given c.hits' c.answer') (c.returned ∷ c.answer')
  lot-search-hits =
      let entry = subst (λ (l : List ℕ). FirstHits all k t (hits_by ix q k t w c.hits) l) (answer-is ix q k t w (length c.hits) search-accepted) (search-hits ix q k t w c.hits search-accepted) in
      let here = first-told all k t (hits_by ix q k t w c.hits) (drop 3 c.answer) entry in
      subst (λ (l : List ℕ). FirstHits all k t (hits_given c.hits' c.answer') l) (sym search-answer)
      (subst (λ (l : List ℤ). FirstHits all k t l (0 ∷ (top_numbers k t all ++ drop 3 c.answer))) (sym search-given) here)

  -- the mark stands in `answer` exactly where the count is above t and at least k
  pub lot-search-mark : MarkExactly k t (length all) (c.returned ∷ c.answer')
  lot-search-mark =
      let entry = subst (λ (l : List ℕ). MarkExactly k t (length all) l) (answer-is ix q k t w (length c.hits) search-accepted) (mark-exactly ix q k t w (length c.hits) search-accepted) in
      subst (λ (l : List ℕ). MarkExactly k t (length all) l) (sym search-answer) (mark-told k t (length all) all (drop 3 c.answer) entry)

-- the hits given for k are the beginning of those given for a larger k, whatever the thresholds and the buffers
pub lot-search-grows : (ix : Index) (q : List ℕ) (k k' t t' : ℕ) (c : SearchCall ix q k t) (c' : SearchCall ix q k' t') → k ≤ k' → c.returned ≡ 0 → c'.returned ≡ 0 → Begin (hits_given c.hits' c.answer') (hits_given c'.hits' c'.answer')
unfolding Begin
lot-search-grows ix q k k' t t' c c' l r r' =
    ap (λ (n : ℕ). take n (hits_given c'.hits' c'.answer')) (search-held ix q k t c r)
    ∙ ap (take (held_by ix q k t (search-work ix q k t c) c.hits)) (search-given ix q k' t' c' r')
    ∙ search-grows ix q k k' t t' (search-work ix q k t c) (search-work ix q k' t' c') c.hits c'.hits l (search-accepted ix q k t c r) (search-accepted ix q k' t' c' r')
    ∙ sym (search-given ix q k t c r)

-- ---- lot_pick
-- lists that Pick does not refuse can be ranked
picked-right : (documents scores : List ℕ) (k places : ℕ) → pick_refusal documents scores k places ≡ 0 → wrong14 documents scores ≡ false
unfolding pick_refusal
picked-right documents scores k places e =
    let from12 = (lowest-zero 11 (wrong11 k) _ (lit< tt) e).1 in
    let from14 = (lowest-zero 12 (wrong12_pick k places) _ (lit< tt) from12).1 in
    (lowest-zero 14 (wrong14 documents scores) [] (lit< tt) from14).0

module _ (documents scores : List ℕ) (k t : ℕ) (c : PickCall documents scores k t) (r : c.returned ≡ 0) where
  abbrev picked : List ScoreDoc
  picked = picked_list documents scores

  pick-given : hits_given c.hits' c.answer' ≡ hits_of k picked
  pick-given = given-told picked k t c.hits c.hits' c.answer c.answer' c.returned r c.told.hits_after c.told.answer_after

  -- as lot_search, of the lists lent
  pub lot-pick-hits : FirstHits picked k t (hits_given c.hits' c.answer') (c.returned ∷ c.answer')
  lot-pick-hits =
      let h = hits-are picked (picked-rankable documents scores (picked-right documents scores k (length c.hits) (pick-entry documents scores k t c r).entry)) in
      let entry : FirstHits picked k t (hits_of k picked) (top_docs k t picked) = record {
        best = h.best;
        same = h.same;
        order = h.order;
        codes = h.codes k;
        documents = h.documents k;
        scores = h.scores k;
        accepted = refl;
        numbers = marked k t (length picked) (length (hits_of k picked)) (hits-length k picked);
      } in
      subst (λ (l : List ℕ). FirstHits picked k t (hits_given c.hits' c.answer') l)
      (sym (answer-told picked k t c.hits c.hits' c.answer c.answer' c.returned r c.told.hits_after c.told.answer_after))
      (subst (λ (l : List ℤ). FirstHits picked k t l (0 ∷ (top_numbers k t picked ++ drop 3 c.answer))) (sym pick-given) (first-told picked k t (hits_of k picked) (drop 3 c.answer) entry))

  pub lot-pick-mark : MarkExactly k t (length picked) (c.returned ∷ c.answer')
  lot-pick-mark = lot-pick-hits.numbers

pub lot-pick-grows : (documents scores : List ℕ) (k k' t t' : ℕ) (c : PickCall documents scores k t) (c' : PickCall documents scores k' t') → k ≤ k' → c.returned ≡ 0 → c'.returned ≡ 0 → Begin (hits_given c.hits' c.answer') (hits_given c'.hits' c'.answer')
unfolding Begin
lot-pick-grows documents scores k k' t t' c c' l r r' =
    ap (λ (n : ℕ). take n (hits_given c'.hits' c'.answer')) (ap length (pick-given documents scores k t c r))
    ∙ ap (take (length (hits_of k (picked_list documents scores)))) (pick-given documents scores k' t' c' r')
    ∙ hits-begin k k' (picked_list documents scores) l
    ∙ sym (pick-given documents scores k t c r)
