-- Demand 3, of lot_page: calls of which each accepted one begins where the one before it says to go on give, joined, the beginning of the full list; refused calls may stand anywhere among them. Assumes nothing.
use mathlib.Core.Path.{◌≡◌, refl, sym, ap, ◌∙◌, subst}
use mathlib.Core.List.{List, [], ◌∷◌, ◌++◌, map}
use Prim.Native.Nat.{ℕ, zero, suc, ◌≤◌, ◌<◌}
use native.Mathlib.Omega.{arith}
use borrow.Author.Tests.{eq-eqb}
use lib.ListN.{length, take, drop, get_or, length-map}
use lib.Seq.{take_all}
use lib.Ieee.{binary32, to_bits}
use Rattle.meaning.specs.Limits.{no_more_docs}
use Rattle.meaning.specs.Lent.{Index}
use Rattle.meaning.specs.Query.{query_tree}
use Rattle.meaning.specs.FullList.{ScoreDoc, full_list}
use Rattle.meaning.specs.Entries.{page_of, page_refusal, page_answer}
use Rattle.meaning.proofs.Lowest.{answered-accepted}
use Rattle.demands.specs.Demands as demands
use Rattle.demands.proofs.Accepting.{page-accepts}
use Rattle.demands.proofs.Pages as entry
use Rattle.border.specs.Border.{page_numbers}
use Rattle.border.proofs.Told.{documents-written, scores-written}
use Rattle.demands_border.specs.Calls.{PageCall}
use Rattle.demands_border.specs.Pages.{given, next, documents_given, scores_given, places_lent, goes_on, Follow, joined_documents, joined_scores, joined_places, accepted_calls, goes_on_after}
use Rattle.demands_border.proofs.Entries.{page-work, page-entry}

-- ---- one call, as a call of Page
module _ {ix : Index} {q : List ℕ} (c : PageCall ix q) where
  abbrev asked : demands.Call
  asked = record { target = c.target; documents = c.documents; scores = c.scores; work = page-work c }

  module _ (r : c.returned ≡ 0) where
    asked-accepted : demands.call_refusal ix q asked ≡ 0
    unfolding demands.call_refusal
    asked-accepted = (page-entry c r).entry

    same-refusal : c.returned ≡ page_refusal ix q c.target (page-work c) (length c.documents) (length c.scores)
    same-refusal = r ∙ sym (page-entry c r).entry

    -- what stands in `answer` is what Page answers after its 0
    answer-is : demands.answer_of ix q asked ≡ 0 ∷ page_numbers (page_of ix q c.target (length c.documents))
    unfolding demands.answer_of page_answer
    answer-is = rw (page-entry c r).entry

    answer-told : c.answer' ≡ page_numbers (page_of ix q c.target (length c.documents)) ++ drop 2 c.answer
    answer-told = let told = c.told.answer_after in rw r at told

    given_is : given c ≡ demands.given_by ix q asked
    given_is = ap (λ (l : List ℕ). get_or l 0 0) answer-told ∙ sym (ap (λ (l : List ℕ). get_or l 1 0) answer-is)

    next-is : next c ≡ demands.next_by ix q asked
    next-is = ap (λ (l : List ℕ). get_or l 1 0) answer-told ∙ sym (ap (λ (l : List ℕ). get_or l 2 0) answer-is)

    documents-are : documents_given c ≡ demands.documents_by ix q asked
    unfolding documents_given demands.documents_by
    documents-are =
        let told = c.told.documents_after ∙ sym (documents-written ix q c.target (page-work c) c.documents c.scores c.answer c.returned same-refusal) in
        sym (answered-accepted (take (given c) c.documents') (λ n. []) c.returned r)
        ∙ ap (λ (n : ℕ). take n c.documents') given_is
        ∙ ap (take (demands.given_by ix q asked)) told

    scores-are : scores_given c ≡ demands.scores_by ix q asked
    unfolding scores_given demands.scores_by
    scores-are =
        let told = c.told.scores_after ∙ sym (scores-written ix q c.target (page-work c) c.documents c.scores c.answer c.returned same-refusal) in
        sym (answered-accepted (take (given c) c.scores') (λ n. []) c.returned r)
        ∙ ap (λ (n : ℕ). take n c.scores') given_is
        ∙ ap (take (demands.given_by ix q asked)) told

    places-are : places_lent c ≡ length c.documents
    unfolding places_lent
    places-are = sym (answered-accepted (length c.documents) (λ n. 0) c.returned r)

    goes_on_lem : (s : ℕ) → goes_on s c ≡ demands.next_by ix q asked
    unfolding goes_on
    goes_on_lem s = rw r next-is

-- ---- a list of calls, as the calls of Page that are its accepted ones
module _ {ix : Index} {q : List ℕ} where
  record Lifted (s : ℕ) (cs : List (PageCall ix q)) (ds : List demands.Call) : Type 0 where
    all-answered : demands.answered_calls ix q ds ≡ ds
    follow : Follow s cs → demands.Follow ix q s ds
    documents : joined_documents cs ≡ demands.joined_documents ix q ds
    scores : joined_scores cs ≡ demands.joined_scores ix q ds
    places : joined_places cs ≡ demands.places_of_calls ds
    calls : accepted_calls cs ≡ length ds
    last : goes_on_after s cs ≡ demands.last_next ix q s ds

  no-calls : (s : ℕ) → Lifted s [] []
  unfolding Follow joined_documents joined_scores joined_places accepted_calls goes_on_after demands.answered_calls demands.Follow demands.joined_documents demands.joined_scores demands.places_of_calls demands.last_next
  no-calls s = record { all-answered = refl; follow = λ f. tt; documents = refl; scores = refl; places = refl; calls = refl; last = refl }

  -- an accepted call first
  accepted-call : (s : ℕ) (c : PageCall ix q) (cs : List (PageCall ix q)) (ds : List demands.Call) → c.returned ≡ 0 → Lifted (demands.next_by ix q (asked c)) cs ds → Lifted s (c ∷ cs) (asked c ∷ ds)
  unfolding Follow joined_documents joined_scores joined_places accepted_calls goes_on_after demands.answered_calls demands.Follow demands.joined_documents demands.joined_scores demands.places_of_calls demands.last_next
  accepted-call s c cs ds r later = record {
    all-answered = rw (eq-eqb (demands.call_refusal ix q (asked c)) 0 (asked-accepted c r)) (ap (λ (l : List demands.Call). asked c ∷ l) later.all-answered);
    follow = λ f. (f.0 r, later.follow (subst (λ (n : ℕ). Follow n cs) (goes_on_lem c r s) f.1));
    documents = ap (λ (l : List ℕ). l ++ joined_documents cs) (documents-are c r) ∙ ap (λ (l : List ℕ). demands.documents_by ix q (asked c) ++ l) later.documents;
    scores = ap (λ (l : List ℕ). l ++ joined_scores cs) (scores-are c r) ∙ ap (λ (l : List ℕ). demands.scores_by ix q (asked c) ++ l) later.scores;
    places = omega (arith, places-are c r, later.places);
    calls = rw r (omega (arith, later.calls));
    last = ap (λ (n : ℕ). goes_on_after n cs) (goes_on_lem c r s) ∙ later.last;
  }

  -- a refused call first: it gives nothing, and the next goes on from the same target
  refused-call : (s : ℕ) (c : PageCall ix q) (cs : List (PageCall ix q)) (ds : List demands.Call) (n : ℕ) → c.returned ≡ suc n → Lifted s cs ds → Lifted s (c ∷ cs) ds
  unfolding Follow joined_documents joined_scores joined_places documents_given scores_given places_lent goes_on accepted_calls goes_on_after
  refused-call s c cs ds n r later = record {
    all-answered = later.all-answered;
    follow = λ f. later.follow (let g = f.1 in rw r at g);
    documents = rw r later.documents;
    scores = rw r later.scores;
    places = rw r (omega (arith, later.places));
    calls = rw r (omega (arith, later.calls));
    last = rw r later.last;
  }

  record Asked (s : ℕ) (cs : List (PageCall ix q)) : Type 0 where
    entries : List demands.Call
    lifted : Lifted s cs entries

  lift : (s : ℕ) (cs : List (PageCall ix q)) → Asked s cs
  lift s [] = record { entries = []; lifted = no-calls s }
  lift s (c ∷ cs) = go c.returned refl (λ n. lift n cs)
    where
      go : (n : ℕ) → c.returned ≡ n → ((n : ℕ) → Asked n cs) → Asked s (c ∷ cs)
      go zero r later = let l = later (demands.next_by ix q (asked c)) in record { entries = asked c ∷ l.entries; lifted = accepted-call s c cs l.entries r l.lifted }
      go (suc n) r later = let l = later s in record { entries = l.entries; lifted = refused-call s c cs l.entries n r l.lifted }

  -- one accepted call, and the index and the query are accepted
  some-accepted : (cs : List (PageCall ix q)) → 0 < accepted_calls cs → demands.Accepts ix q
  unfolding accepted_calls
  some-accepted [] h = absurd (omega (arith, h))
  some-accepted (c ∷ cs) h = go c.returned refl (some-accepted cs)
    where
      go : (n : ℕ) → c.returned ≡ n → (0 < accepted_calls cs → demands.Accepts ix q) → demands.Accepts ix q
      go zero r later = page-accepts ix q c.target (page-work c) (length c.documents) (length c.scores) (page-entry c r).entry
      go (suc n) r later = later (let g = h in omega (arith, rw r at g))

-- ---- the theorem
-- "joined": the documents and the scores' bits given are the beginning of the full list's, as many as places were lent; NO_MORE_DOCS is
-- where to go on exactly where they are the whole list, once a call was accepted
pub record PagesJoined (ix : Index) (q : List ℕ) (calls : List (PageCall ix q)) : Type 0 where
  pub documents : joined_documents calls ≡ take (joined_places calls) (map (λ h. h.doc) (full_list ix (query_tree q)))
  pub scores : joined_scores calls ≡ take (joined_places calls) (map (λ h. to_bits binary32 h.score) (full_list ix (query_tree q)))
  pub all-documents : goes_on_after 0 calls ≡ no_more_docs → joined_documents calls ≡ map (λ h. h.doc) (full_list ix (query_tree q))
  pub all-scores : goes_on_after 0 calls ≡ no_more_docs → joined_scores calls ≡ map (λ h. to_bits binary32 h.score) (full_list ix (query_tree q))
  pub ended : goes_on_after 0 calls ≡ no_more_docs → length (full_list ix (query_tree q)) ≤ joined_places calls
  pub whole : 0 < accepted_calls calls → length (full_list ix (query_tree q)) ≤ joined_places calls → goes_on_after 0 calls ≡ no_more_docs

whole_of : (n : ℕ) (xs ys : List ℕ) → xs ≡ take n ys → length ys ≤ n → xs ≡ ys
whole_of n xs ys e h = e ∙ take_all n ys h

module _ (ix : Index) (q : List ℕ) (cs : List (PageCall ix q)) (f : Follow 0 cs) where
  abbrev all : List ScoreDoc
  all = full_list ix (query_tree q)

  -- none was accepted
  none-joined : Lifted 0 cs [] → PagesJoined ix q cs
  unfolding demands.joined_documents demands.joined_scores demands.places_of_calls demands.last_next
  none-joined l =
      let last : goes_on_after 0 cs ≡ 0 = l.last in
      let never : goes_on_after 0 cs ≡ no_more_docs → ⊥ = λ e. omega (arith, last, e) in
      record {
        documents = l.documents ∙ sym (ap (λ (n : ℕ). take n (map (λ h. h.doc) all)) l.places);
        scores = l.scores ∙ sym (ap (λ (n : ℕ). take n (map (λ h. to_bits binary32 h.score) all)) l.places);
        all-documents = λ e. absurd (never e);
        all-scores = λ e. absurd (never e);
        ended = λ e. absurd (never e);
        whole = λ h e. absurd (omega (arith, h, l.calls));
      }

  -- some were: Page's own theorem about them
  some-joined : (ds : List demands.Call) → 0 < length ds → Lifted 0 cs ds → PagesJoined ix q cs
  some-joined ds h l =
      let follow = subst (λ (l : List demands.Call). demands.Follow ix q 0 l) (sym l.all-answered) (l.follow f) in
      let accepts = some-accepted cs (omega (arith, h, l.calls)) in
      let j = subst (λ (l : List demands.Call). entry.PagesJoined ix q l) l.all-answered (entry.pages-joined ix q ds accepts follow) in
      let documents : joined_documents cs ≡ take (joined_places cs) (map (λ h. h.doc) all) = l.documents ∙ j.documents ∙ ap (λ (n : ℕ). take n (map (λ h. h.doc) all)) (sym l.places) in
      let scores : joined_scores cs ≡ take (joined_places cs) (map (λ h. to_bits binary32 h.score) all) = l.scores ∙ j.scores ∙ ap (λ (n : ℕ). take n (map (λ h. to_bits binary32 h.score) all)) (sym l.places) in
      let ended : goes_on_after 0 cs ≡ no_more_docs → length all ≤ joined_places cs = λ e. omega (arith, j.ended h (sym l.last ∙ e), l.places) in
      record {
        documents = documents;
        scores = scores;
        all-documents = λ e. whole_of (joined_places cs) (joined_documents cs) (map (λ h. h.doc) all) documents (omega (arith, ended e, length-map all (λ h. h.doc)));
        all-scores = λ e. whole_of (joined_places cs) (joined_scores cs) (map (λ h. to_bits binary32 h.score) all) scores (omega (arith, ended e, length-map all (λ h. to_bits binary32 h.score)));
        ended = ended;
        whole = λ g e. l.last ∙ j.whole h (omega (arith, e, l.places));
      }

  by_entries : (ds : List demands.Call) → Lifted 0 cs ds → PagesJoined ix q cs
  by_entries [] l = none-joined l
  by_entries (d ∷ ds) l = some-joined (d ∷ ds) (omega arith) l

-- for every list of calls on an index and a query, whatever they ask for and lend
pub lot-pages-joined : (ix : Index) (q : List ℕ) (calls : List (PageCall ix q)) → Follow 0 calls → PagesJoined ix q calls
lot-pages-joined ix q calls f = let l = lift 0 calls in by_entries ix q calls f l.entries l.lifted
