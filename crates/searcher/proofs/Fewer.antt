-- 12 with the states of the first 256 records is 12 with all, so what a call answers is the same; the tree in the words of records. Assumes nothing.
use mathlib.Core.Path.{◌≡◌, refl, sym, ap, ◌∙◌, subst}
use mathlib.Core.Logic.{⊎_elim}
use mathlib.Core.Bool.{Bool, true, false, not, ◌||◌}
use mathlib.Core.List.{List, [], ◌∷◌, ◌++◌, map}
use Prim.Native.Nat.{ℕ, ◌*◌, ◌≤◌}
use native.Mathlib.Nat.{eq-or-lt_of_le}
use native.Mathlib.Omega.{arith}
use borrow.Author.Tests.{lt-ltb, le-ltb, ltb-true, ltb-false}
use lib.Dec.{ltb, eqb}
use lib.ListN.{length, take, drop, take-append-drop, length-append}
use lib.Seq.{take-append-le}
use lib.IntN.{ℤ}
use lib.Ieee.{binary32, to_bits}
use Rattle.meaning.specs.Limits.{node_state_words, max_records}
use Rattle.meaning.specs.Lent.{Index}
use Rattle.meaning.specs.Query.{query_tree, record_count}
use Rattle.meaning.specs.FullList.{full_list}
use Rattle.meaning.specs.Hits.{hits as hits_of}
use Rattle.meaning.specs.Refusals.{◌when◌, lowest}
use Rattle.meaning.specs.CallRefusals.{Work, wrong11, states_needed, starts_needed, ranges_needed, starts_short, work_short, wrong12_search, wrong12_page, wrong13_page}
use Rattle.meaning.specs.Entries.{answered, written, top_docs, order_conditions, search_refusal, search_answer, search_hits, page_of, page_refusal, page_answer, page_documents, page_scores}
use Rattle.query.proofs.Whole.{whole}
use Rattle.tree_weight.specs.State.{size_of}
use Rattle.tree_weight.specs.Held as Held
use Rattle.check_order.specs.WorkOf.{work}
use Rattle.check_order.proofs.Refusing.{order-asks, order-refused}
use Rattle.tree_words.specs.declared.state.NodeState.{NodeState}
use Rattle.tree_records.specs.Records.{record_words, held}
use Rattle.tree_records.specs.Standing.{Standing, order_tree}
use Rattle.tree_records.proofs.Turns.{words_append}

-- ---- the refusals
few-same : (m c : ℕ) → c ≤ max_records → (s : Bool) → ltb (node_state_words * m) (node_state_words * c) ≡ s → ltb (node_state_words * held m) (node_state_words * c) ≡ s
few-same m c few true e = lt-ltb (node_state_words * held m) (node_state_words * c) (omega (arith, few, ltb-true (node_state_words * m) (node_state_words * c) e))
few-same m c few false e = le-ltb (node_state_words * held m) (node_state_words * c) (omega (arith, few, ltb-false (node_state_words * m) (node_state_words * c) e))

module _ (ix : Index) (q : List ℕ) (a b ranges m : ℕ) where
  short-same : record_count q ≤ max_records → work_short ix q (work (node_state_words * held m) a b ranges) ≡ work_short ix q (work (node_state_words * m) a b ranges)
  unfolding work_short starts_short states_needed
  short-same few =
      ap (λ (s : Bool). s || (ltb a (starts_needed ix q) || ltb b (starts_needed ix q)) || ltb ranges (ranges_needed ix q)) (few-same m (record_count q) few (ltb (node_state_words * m) (node_state_words * record_count q)) refl)

  module _ (k places : ℕ) where
    places-same : record_count q ≤ max_records → wrong12_search ix q (work (node_state_words * held m) a b ranges) k places ≡ wrong12_search ix q (work (node_state_words * m) a b ranges) k places
    unfolding wrong12_search
    places-same few = ap (λ (s : Bool). s || ltb places k) (short-same few)

    -- where an order is refused before it, 12 does not matter, and else it has 256 records at most
    pub search-refusal-same : search_refusal ix q k (work (node_state_words * held m) a b ranges) places ≡ search_refusal ix q k (work (node_state_words * m) a b ranges) places
    unfolding search_refusal
    search-refusal-same =
        let cs = order_conditions ix q in
        ⊎_elim
        (λ z. ap (λ (s : Bool). lowest (cs ++ ((11 when wrong11 k) ∷ (12 when s) ∷ []))) (places-same (whole q (order-asks ix q (sym z)).records-right).few-records))
        (λ l. sym (order-refused ix q _ (lowest cs) refl (λ z. absurd (omega (arith, z, l)))) ∙ order-refused ix q _ (lowest cs) refl (λ z. absurd (omega (arith, z, l))))
        (eq-or-lt_of_le {n = 0} {m = lowest cs} (omega arith))

  module _ (target documents scores : ℕ) where
    outputs-same : record_count q ≤ max_records → wrong12_page ix q (work (node_state_words * held m) a b ranges) documents scores ≡ wrong12_page ix q (work (node_state_words * m) a b ranges) documents scores
    unfolding wrong12_page
    outputs-same few = ap (λ (s : Bool). s || not (eqb documents scores)) (short-same few)

    pub page-refusal-same : page_refusal ix q target (work (node_state_words * held m) a b ranges) documents scores ≡ page_refusal ix q target (work (node_state_words * m) a b ranges) documents scores
    unfolding page_refusal
    page-refusal-same =
        let cs = order_conditions ix q in
        ⊎_elim
        (λ z. ap (λ (s : Bool). lowest (cs ++ ((12 when s) ∷ (13 when wrong13_page ix target) ∷ []))) (outputs-same (whole q (order-asks ix q (sym z)).records-right).few-records))
        (λ l. sym (order-refused ix q _ (lowest cs) refl (λ z. absurd (omega (arith, z, l)))) ∙ order-refused ix q _ (lowest cs) refl (λ z. absurd (omega (arith, z, l))))
        (eq-or-lt_of_le {n = 0} {m = lowest cs} (omega arith))

-- ---- the same refusal gives the same answer
module _ (ix : Index) (q : List ℕ) (v w : Work) where
  pub search-answer-by : (k t places : ℕ) → search_refusal ix q k v places ≡ search_refusal ix q k w places → search_answer ix q k t v places ≡ search_answer ix q k t w places
  unfolding search_answer
  search-answer-by k t places e = ap (λ (z : ℕ). answered z (top_docs k t (full_list ix (query_tree q))) (λ i. i ∷ [])) e

  pub search-hits-by : (k : ℕ) (hits : List ℤ) → search_refusal ix q k v (length hits) ≡ search_refusal ix q k w (length hits) → search_hits ix q k v hits ≡ search_hits ix q k w hits
  unfolding search_hits
  search-hits-by k hits e = ap (λ (z : ℕ). answered z (written (hits_of k (full_list ix (query_tree q))) hits) (λ i. hits)) e

  pub page-answer-by : (target documents scores : ℕ) → page_refusal ix q target v documents scores ≡ page_refusal ix q target w documents scores → page_answer ix q target v documents scores ≡ page_answer ix q target w documents scores
  unfolding page_answer
  page-answer-by target documents scores e =
      let p = page_of ix q target documents in
      ap (λ (z : ℕ). answered z (0 ∷ length p.given ∷ p.next ∷ []) (λ i. i ∷ [])) e

  module _ (target : ℕ) (documents scores : List ℕ) (e : page_refusal ix q target v (length documents) (length scores) ≡ page_refusal ix q target w (length documents) (length scores)) where
    pub page-documents-by : page_documents ix q target v documents scores ≡ page_documents ix q target w documents scores
    unfolding page_documents
    page-documents-by = ap (λ (z : ℕ). answered z (written (map (λ h. h.doc) (page_of ix q target (length documents)).given) documents) (λ i. documents)) e

    pub page-scores-by : page_scores ix q target v documents scores ≡ page_scores ix q target w documents scores
    unfolding page_scores
    page-scores-by = ap (λ (z : ℕ). answered z (written (map (λ h. to_bits binary32 h.score) (page_of ix q target (length documents)).given) scores) (λ i. scores)) e

-- ---- the tree in the words of records
module _ (ix : Index) (q ranges words more : List ℕ) (from : ℕ) where
  pub standing-front : Standing ix q ranges words from → Standing ix q ranges (words ++ more) from
  standing-front s = record {
    within = let l = length-append words more in omega (arith, s.within, l);
    ok = subst (λ (w : List ℕ). Held.Ok ix ranges (order_tree ix q) 16 0 w from) (sym (take-append-le (size_of (order_tree ix q)) words more s.within)) s.ok;
  }

  -- with room in the front
  pub standing-cut : size_of (order_tree ix q) ≤ length words → Standing ix q ranges (words ++ more) from → Standing ix q ranges words from
  standing-cut h s = record {
    within = h;
    ok = subst (λ (w : List ℕ). Held.Ok ix ranges (order_tree ix q) 16 0 w from) (take-append-le (size_of (order_tree ix q)) words more h) s.ok;
  }

-- all records begin with the first n
front-records : (n : ℕ) (nodes : List NodeState) → record_words nodes ≡ record_words (take n nodes) ++ record_words (drop n nodes)
front-records n nodes = ap record_words (sym (take-append-drop n nodes)) ∙ words_append (take n nodes) (drop n nodes)

module _ (ix : Index) (q ranges words : List ℕ) (from n : ℕ) (nodes : List NodeState) (e : record_words (take n nodes) ≡ words) where
  pub standing-records : Standing ix q ranges words from → Standing ix q ranges (record_words nodes) from
  standing-records s =
      subst (λ (w : List ℕ). Standing ix q ranges w from) (sym (front-records n nodes))
      (standing-front ix q ranges (record_words (take n nodes)) (record_words (drop n nodes)) from (subst (λ (w : List ℕ). Standing ix q ranges w from) (sym e) s))

  pub records-standing : size_of (order_tree ix q) ≤ length words → Standing ix q ranges (record_words nodes) from → Standing ix q ranges words from
  records-standing h s =
      subst (λ (w : List ℕ). Standing ix q ranges w from) e
      (standing-cut ix q ranges (record_words (take n nodes)) (record_words (drop n nodes)) from (subst (λ (w : List ℕ). size_of (order_tree ix q) ≤ length w) (sym e) h) (subst (λ (w : List ℕ). Standing ix q ranges w from) (front-records n nodes) s))
