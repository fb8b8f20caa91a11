-- What Search and Page answer and leave in their outputs, refused or not. Assumes nothing.
use mathlib.Core.Path.{◌≡◌, refl, ap, ◌∙◌, subst}
use mathlib.Core.List.{List, [], ◌∷◌, ◌++◌, map}
use Prim.Native.Nat.{ℕ}
use native.Mathlib.Omega.{arith}
use lib.ListN.{length, take, drop, length-take}
use lib.IntN.{ℤ}
use lib.Ieee.{binary32, to_bits}
use Rattle.meaning.specs.Limits.{no_more_docs}
use Rattle.meaning.specs.Lent.{Index}
use Rattle.meaning.specs.Query.{query_tree}
use Rattle.meaning.specs.FullList.{full_list}
use Rattle.meaning.specs.Hits.{hits}
use Rattle.meaning.specs.CallRefusals.{Work}
use Rattle.meaning.specs.Entries.{written, top_docs, search_refusal, search_answer, search_hits, page_of, page_refusal, page_answer, page_documents, page_scores}
use Rattle.collector.specs.declared.TopDocs.{TopDocs}
use Rattle.collector.specs.Collected.{top_docs_of, numbers}
use Rattle.collector.proofs.Best.{written-part}
use Rattle.walk.specs.declared.Listed.{Listed}
use Rattle.walk.specs.Walks.{PageIs}
use Rattle.std.specs.Prelude.{Result, Ok, Err}
use Rattle.refusal.specs.declared.Refusal.{Refusal}
use Rattle.refusal.specs.Numbers.{number_of}
use Rattle.check_order.proofs.Answered.{number-above}
use Rattle.check_order.proofs.CallConditions.{Searches as SearchLends, search-lends, Pages as PageLends, page-lends}
use Rattle.tree_records.specs.Standing.{Standing}
use Rattle.searcher.specs.Answers.{searched_numbers, paged_numbers}
use Rattle.searcher.specs.declared.buffers.Buffers.{Buffers}
use Rattle.searcher.specs.WorkBuffers.{lengths_of, SameWorkBuffers}
use Rattle.searcher.specs.Searches.{Searches}
use Rattle.searcher.specs.Pages.{Pages}
use Rattle.searcher.proofs.Preparing.{untouched, not-kept, unmoved}
use Rattle.meaning.proofs.Lowest.{answered-refused, answered-accepted}

-- ---- Search
module _ (ix : Index) (q : List ℕ) (k t : ℕ) (b : Buffers ℕ) (buffer : List ℤ) where
  abbrev found : ℕ
  found = search_refusal ix q k (lengths_of b) (length buffer)

  -- what a call promises
  abbrev Searched : Buffers ℕ → List ℤ → Result TopDocs Refusal → Type 0
  Searched b' buffer' r = Searches ix q k t (lengths_of b) b'.states.now b b' buffer buffer' r

  pub search-refused : (w : Work) → w ≡ lengths_of b → (s : Refusal) → number_of s ≡ search_refusal ix q k w (length buffer) → (a : Result TopDocs Refusal) → a ≡ Err s → Searched b buffer a
  unfolding searched_numbers search_answer search_hits
  search-refused w same s e a f =
      let h = number-above s in
      let e = e ∙ ap (λ (v : Work). search_refusal ix q k v (length buffer)) same in
      record {
        numbers = rw (f, ← e) (answered-refused (top_docs k t (full_list ix (query_tree q))) (λ n. n ∷ []) (number_of s) h);
        hits_after = rw (← e) (answered-refused (written (hits k (full_list ix (query_tree q))) buffer) (λ n. buffer) (number_of s) h);
        kept = untouched _ b;
        standing = λ z. absurd (h (e ∙ z));
        same_buffers = unmoved b;
      }

  module _ (w : Work) (same : w ≡ lengths_of b) (e : 0 ≡ search_refusal ix q k w (length buffer)) where
    accepted : 0 ≡ found
    accepted = e ∙ ap (λ (v : Work). search_refusal ix q k v (length buffer)) same

    pub search-known : SearchLends ix q k (lengths_of b) (length buffer)
    search-known = search-lends ix q k (lengths_of b) (length buffer) 0 accepted refl

    -- the hits stand in the first k places
    pub search-found : (b' : Buffers ℕ) → SameWorkBuffers b b' → Standing ix q b'.ranges.now b'.states.now no_more_docs → (top : TopDocs) (out : List ℤ) → top ≡ top_docs_of (length (take k buffer)) t (full_list ix (query_tree q)) → out ≡ written (hits (length (take k buffer)) (full_list ix (query_tree q))) (take k buffer) → Searched b' (out ++ drop k buffer) (Ok top)
    unfolding searched_numbers search_answer search_hits
    search-found b' s stands top out f g =
        let l = search-known.room in
        let n : length (take k buffer) ≡ k = length-take k buffer ∙ omega arith in
        let list = full_list ix (query_tree q) in
        record {
          numbers = rw (← accepted) (ap numbers (f ∙ ap (λ (i : ℕ). top_docs_of i t list) n) ∙ answered-accepted (top_docs k t list) (λ n. n ∷ []) 0 refl);
          hits_after = rw (← accepted) (ap (λ (o : List ℤ). o ++ drop k buffer) (g ∙ ap (λ (i : ℕ). written (hits i list) (take k buffer)) n) ∙ written-part k list buffer l ∙ answered-accepted (written (hits k list) buffer) (λ n. buffer) 0 refl);
          kept = not-kept _ b b' (λ h. omega (arith, h, accepted));
          standing = λ z. stands;
          same_buffers = s;
        }

-- ---- Page
module _ (ix : Index) (q : List ℕ) (target : ℕ) (b : Buffers ℕ) (docs bits : List ℕ) where
  abbrev refused : ℕ
  refused = page_refusal ix q target (lengths_of b) (length docs) (length bits)

  abbrev docs-given : List ℕ
  docs-given = written (map (λ h. h.doc) (page_of ix q target (length docs)).given) docs

  abbrev bits-given : List ℕ
  bits-given = written (map (λ h. to_bits binary32 h.score) (page_of ix q target (length docs)).given) bits

  abbrev given : List ℕ
  given = 0 ∷ length (page_of ix q target (length docs)).given ∷ (page_of ix q target (length docs)).next ∷ []

  -- what a call promises
  abbrev Paged : Buffers ℕ → List ℕ → List ℕ → Result Listed Refusal → Type 0
  Paged b' docs' bits' r = Pages ix q target (lengths_of b) b'.states.now b b' docs docs' bits bits' r

  pub page-refused : (w : Work) → w ≡ lengths_of b → (s : Refusal) → number_of s ≡ page_refusal ix q target w (length docs) (length bits) → (a : Result Listed Refusal) → a ≡ Err s → Paged b docs bits a
  unfolding paged_numbers page_answer page_documents page_scores
  page-refused w same s e a f =
      let h = number-above s in
      let e = e ∙ ap (λ (v : Work). page_refusal ix q target v (length docs) (length bits)) same in
      record {
        numbers = rw (f, ← e) (answered-refused given (λ n. n ∷ []) (number_of s) h);
        documents_after = rw (← e) (answered-refused docs-given (λ n. docs) (number_of s) h);
        scores_after = rw (← e) (answered-refused bits-given (λ n. bits) (number_of s) h);
        kept = untouched _ b;
        standing = λ z. absurd (h (e ∙ z));
        same_buffers = unmoved b;
      }

  module _ (w : Work) (same : w ≡ lengths_of b) (e : 0 ≡ page_refusal ix q target w (length docs) (length bits)) where
    pub page-accepted : 0 ≡ refused
    page-accepted = e ∙ ap (λ (v : Work). page_refusal ix q target v (length docs) (length bits)) same

    pub page-known : PageLends ix q target (lengths_of b) (length docs) (length bits)
    page-known = page-lends ix q target (lengths_of b) (length docs) (length bits) 0 page-accepted refl

    pub page-given : (b' : Buffers ℕ) → SameWorkBuffers b b' → (l : Listed) → Standing ix q b'.ranges.now b'.states.now l.next → (docs' bits' : List ℕ) → PageIs (page_of ix q target (length docs)) docs bits l docs' bits' → Paged b' docs' bits' (Ok l)
    unfolding paged_numbers page_answer page_documents page_scores
    page-given b' s l stands docs' bits' p =
        record {
          numbers = rw (← page-accepted) (ap (λ (i : ℕ). 0 ∷ i ∷ l.next ∷ []) p.given_is ∙ ap (λ (i : ℕ). 0 ∷ length (page_of ix q target (length docs)).given ∷ i ∷ []) p.next-is ∙ answered-accepted given (λ n. n ∷ []) 0 refl);
          documents_after = rw (← page-accepted) (p.documents-are ∙ answered-accepted docs-given (λ n. docs) 0 refl);
          scores_after = rw (← page-accepted) (p.scores-are ∙ answered-accepted bits-given (λ n. bits) 0 refl);
          kept = not-kept _ b b' (λ h. omega (arith, h, page-accepted));
          standing = λ z. subst (λ (i : ℕ). Standing ix q b'.ranges.now b'.states.now i) p.next-is stands;
          same_buffers = s;
        }
