-- Demand 3, of pages: calls of which each begins at the next match that the one before it named give, joined, the
-- beginning of the full list. Assumes nothing.
use mathlib.Core.Path.{◌≡◌, refl, sym, ap, ◌∙◌}
use mathlib.Core.Logic.{inl, inr}
use mathlib.Core.List.{List, [], ◌∷◌, ◌++◌, map}
use Prim.Native.Nat.{ℕ, ◌+◌, ◌≤◌, ◌<◌}
use native.Mathlib.Nat.{not-suc-le-zero, add-zero, zero-add}
use native.Mathlib.Omega.{arith}
use borrow.Author.Tests.{eqb-true, ltb-false}
use lib.Dec.{eqb}
use lib.ListN.{length, take, drop, get_or, length-map}
use lib.Seq.{take-add, take_at, drop-drop}
use lib.Ieee.{binary32, to_bits}
use Rattle.meaning.specs.Limits.{no_more_docs, max_documents}
use Rattle.meaning.specs.Lent.{Index}
use Rattle.meaning.specs.Query.{query_tree}
use Rattle.meaning.specs.FullList.{ScoreDoc, full_list}
use Rattle.meaning.specs.Pages.{from_target, first_doc, page}
use Rattle.meaning.specs.Refusals.{lowest}
use Rattle.meaning.specs.IndexRefusals.{wrong1}
use Rattle.meaning.specs.Entries.{page_answer, page_documents, page_scores}
use Rattle.doc_values.proofs.Lists.{decided}
use Rattle.demands.specs.Demands.{Accepts, Call, call_refusal, answer_of, given_by, next_by, documents_by, scores_by, answered_calls, Follow, joined_documents, joined_scores, places_of_calls, last_next}
use Rattle.demands.proofs.Lists.{map-take, map-drop}
use Rattle.demands.proofs.Rising.{full-rises, from_all, from_next, none-next, next-none}

-- an accepted index has at most 1,048,576 documents
pub accepted-few : (ix : Index) (q : List ℕ) → Accepts ix q → ix.max_doc ≤ max_documents
unfolding lowest wrong1
accepted-few ix q a = elim (decided (wrong1 ix)) [
  | inl e ↦ let z : ◌≡◌ {A = ℕ} 1 0 = rw e at a in absurd (omega (arith, z))
  | inr e ↦ ltb-false max_documents ix.max_doc e
]

-- every call of the list was answered
abbrev AllAnswered : Index → List ℕ → List Call → Type 0
AllAnswered ix q [] = Unit
AllAnswered ix q (c ∷ cs) = (call_refusal ix q c ≡ 0) × AllAnswered ix q cs

all-answered : (ix : Index) (q : List ℕ) (cs : List Call) → AllAnswered ix q (answered_calls ix q cs)
unfolding answered_calls
all-answered ix q [] = tt
all-answered ix q (c ∷ cs) = elim (decided (eqb (call_refusal ix q c) 0)) [
  | inl e ↦ rw e (eqb-true (call_refusal ix q c) 0 e, all-answered ix q cs)
  | inr e ↦ rw e (all-answered ix q cs)
]

-- ---- one call that was answered
module _ (ix : Index) (q : List ℕ) (c : Call) (r : call_refusal ix q c ≡ 0) where
  abbrev asked : List ScoreDoc
  asked = from_target c.target (full_list ix (query_tree q))

  abbrev places : ℕ
  places = length c.documents

  answer-is : answer_of ix q c ≡ 0 ∷ length (take places asked) ∷ first_doc (drop places asked) ∷ []
  unfolding answer_of page_answer call_refusal page
  answer-is = rw r

  next-is : next_by ix q c ≡ first_doc (drop places asked)
  next-is = ap (λ (l : List ℕ). get_or l 2 0) answer-is

  documents-are : documents_by ix q c ≡ take places (map (λ h. h.doc) asked)
  unfolding documents_by page_documents call_refusal page
  documents-are =
      let given = take places asked in
      let xs = map (λ (h : ScoreDoc). h.doc) given in
      rw r
      (take_at xs (drop (length xs) c.documents) (given_by ix q c) (length-map given (λ h. h.doc) ∙ sym (ap (λ (l : List ℕ). get_or l 1 0) answer-is)) ∙ map-take (λ h. h.doc) places asked)

  scores-are : scores_by ix q c ≡ take places (map (λ h. to_bits binary32 h.score) asked)
  unfolding scores_by page_scores call_refusal page
  scores-are =
      let given = take places asked in
      let xs = map (λ (h : ScoreDoc). to_bits binary32 h.score) given in
      rw r
      (take_at xs (drop (length xs) c.scores) (given_by ix q c) (length-map given (λ h. to_bits binary32 h.score) ∙ sym (ap (λ (l : List ℕ). get_or l 1 0) answer-is)) ∙ map-take (λ h. to_bits binary32 h.score) places asked)

-- what two pages wrote, joined: f is what is written of a match
page-then {ℓ} : {B : Type ℓ} (f : ScoreDoc → B) (list : List ScoreDoc) (p m n : ℕ) (xs ys : List B) → xs ≡ take m (map f (drop p list)) → ys ≡ take n (map f (drop (p + m) list)) → xs ++ ys ≡ take (m + n) (map f (drop p list))
page-then {B} f list p m n xs ys e g =
    ap (λ (l : List B). l ++ ys) e
    ∙ ap (λ (l : List B). take m (map f (drop p list)) ++ l) (g ∙ ap (take n) (sym (ap (map f) (drop-drop m p list)) ∙ map-drop f m (drop p list)))
    ∙ sym (take-add m n (map f (drop p list)))

-- ---- calls that follow each other, from where p matches are given
module _ (ix : Index) (q : List ℕ) (a : Accepts ix q) where
  abbrev all : List ScoreDoc
  all = full_list ix (query_tree q)

  record Joined (p : ℕ) (calls : List Call) : Type 0 where
    documents : joined_documents ix q calls ≡ take (places_of_calls calls) (map (λ h. h.doc) (drop p all))
    scores : joined_scores ix q calls ≡ take (places_of_calls calls) (map (λ h. to_bits binary32 h.score) (drop p all))
    next : last_next ix q (first_doc (drop p all)) calls ≡ first_doc (drop (p + places_of_calls calls) all)

  low : ix.max_doc ≤ no_more_docs
  low = omega (arith, accepted-few ix q a)

  joined-from : (p s : ℕ) (calls : List Call) → from_target s all ≡ drop p all → AllAnswered ix q calls → Follow ix q s calls → Joined p calls
  unfolding joined_documents joined_scores places_of_calls last_next Follow
  joined-from p s [] e r f = record { documents = refl; scores = refl; next = ap (λ (n : ℕ). first_doc (drop n all)) (sym (add-zero p)) }
  joined-from p s (c ∷ cs) e r f =
      let m = length c.documents in
      let from : from_target c.target all ≡ drop p all = ap (λ (t : ℕ). from_target t all) f.0 ∙ e in
      let named : next_by ix q c ≡ first_doc (drop (p + m) all) = next-is ix q c r.0 ∙ ap (λ (l : List ScoreDoc). first_doc (drop m l)) from ∙ ap first_doc (drop-drop m p all) in
      let later = joined-from (p + m) (next_by ix q c) cs (ap (λ (t : ℕ). from_target t all) named ∙ from_next 0 ix.max_doc (p + m) all low (full-rises ix (query_tree q))) r.1 f.1 in
      record {
        documents = page-then (λ h. h.doc) all p m (places_of_calls cs) (documents_by ix q c) (joined_documents ix q cs)
            (documents-are ix q c r.0 ∙ ap (λ (l : List ScoreDoc). take m (map (λ h. h.doc) l)) from) later.documents;
        scores = page-then (λ h. to_bits binary32 h.score) all p m (places_of_calls cs) (scores_by ix q c) (joined_scores ix q cs)
            (scores-are ix q c r.0 ∙ ap (λ (l : List ScoreDoc). take m (map (λ h. to_bits binary32 h.score) l)) from) later.scores;
        next = ap (λ (t : ℕ). last_next ix q t cs) named ∙ later.next ∙ ap (λ (n : ℕ). first_doc (drop n all)) (sum p m (places_of_calls cs));
      }
    where
      sum : (x y z : ℕ) → x + y + z ≡ x + (y + z)
      sum x y z = omega arith

  last-is : (calls : List Call) → 0 < length calls → Joined 0 calls → last_next ix q 0 calls ≡ first_doc (drop (places_of_calls calls) all)
  unfolding last_next
  last-is [] h j = absurd (not-suc-le-zero h)
  last-is (c ∷ cs) h j = j.next ∙ ap (λ (n : ℕ). first_doc (drop n all)) (zero-add (places_of_calls (c ∷ cs)))

-- ---- the theorem
-- "joined": the documents and the scores' bits are the beginning of the full list's, as many as places were lent, and
-- the last call names no next match exactly where they are the whole
pub record PagesJoined (ix : Index) (q : List ℕ) (calls : List Call) : Type 0 where
  pub documents : joined_documents ix q calls ≡ take (places_of_calls calls) (map (λ h. h.doc) (full_list ix (query_tree q)))
  pub scores : joined_scores ix q calls ≡ take (places_of_calls calls) (map (λ h. to_bits binary32 h.score) (full_list ix (query_tree q)))
  pub ended : 0 < length calls → last_next ix q 0 calls ≡ no_more_docs → length (full_list ix (query_tree q)) ≤ places_of_calls calls
  pub whole : 0 < length calls → length (full_list ix (query_tree q)) ≤ places_of_calls calls → last_next ix q 0 calls ≡ no_more_docs

-- for every list of calls, whatever they ask for and lend: those that were refused change nothing
pub pages-joined : (ix : Index) (q : List ℕ) (cs : List Call) → Accepts ix q → Follow ix q 0 (answered_calls ix q cs) → PagesJoined ix q (answered_calls ix q cs)
pages-joined ix q cs a f =
    let calls = answered_calls ix q cs in
    let rising = full-rises ix (query_tree q) in
    let j = joined-from ix q a 0 0 calls (from_all 0 0 ix.max_doc (all ix q a) (omega arith) rising) (all-answered ix q cs) f in
    record {
      documents = j.documents;
      scores = j.scores;
      ended = λ h e. next-none 0 ix.max_doc (places_of_calls calls) (all ix q a) (low ix q a) rising (sym (last-is ix q a calls h j) ∙ e);
      whole = λ h e. last-is ix q a calls h j ∙ none-next (places_of_calls calls) (all ix q a) e;
    }
