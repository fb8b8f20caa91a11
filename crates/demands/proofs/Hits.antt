-- Demand 3, of Search: what a call that is not refused wrote and answered. Assumes nothing.
use mathlib.Core.Path.{◌≡◌, ap, ◌∙◌}
use mathlib.Core.Bool.{true}
use mathlib.Core.List.{List, map, Perm}
use Prim.Native.Nat.{ℕ, ◌<◌}
use lib.ListN.{length, take, get_or}
use lib.IntN.{ℤ}
use Rattle.meaning.specs.Lent.{Index}
use Rattle.meaning.specs.Query.{query_tree}
use Rattle.meaning.specs.FullList.{ScoreDoc, full_list}
use Rattle.meaning.specs.Hits.{code, to_doc, to_score}
use Rattle.meaning.specs.CallRefusals.{Work}
use Rattle.meaning.specs.Entries.{search_refusal, search_answer}
use Rattle.demands.specs.Demands.{ranks_before}
use Rattle.demands.proofs.Ranked.{hits-are}
use Rattle.demands.proofs.Rankable.{full-rankable}
use Rattle.demands.proofs.Accepting.{search-accepts}
use Rattle.demands.proofs.Search.{answer-is, wrote-is, hits_by, MarkExactly, mark-exactly}

-- the list in another order, larger score first and lower document first among equals; what was written are the first k
-- of it, or all where there are fewer: the codes, and so the documents and the scores; the numbers answered are how
-- many, the list's length and the mark
pub record FirstHits (list : List ScoreDoc) (k t : ℕ) (wrote : List ℤ) (answer : List ℕ) : Type 0 where
  pub best : List ScoreDoc
  pub same : Perm best list
  pub order : (i j : ℕ) (d : ScoreDoc) → i < j → j < length best → ranks_before (get_or best i d) (get_or best j d) ≡ true
  pub codes : wrote ≡ map code (take k best)
  pub documents : map to_doc wrote ≡ map (λ h. h.doc) (take k best)
  pub scores : map to_score wrote ≡ map (λ h. h.score) (take k best)
  pub accepted : get_or answer 0 1 ≡ 0
  pub numbers : MarkExactly k t (length list) answer

-- for every call of Search that is not refused, whatever it asks for and lends: of the live documents that the query
-- takes, each with its score
pub search-hits : (ix : Index) (q : List ℕ) (k t : ℕ) (w : Work) (buffer : List ℤ) → search_refusal ix q k w (length buffer) ≡ 0 → FirstHits (full_list ix (query_tree q)) k t (hits_by ix q k t w buffer) (search_answer ix q k t w (length buffer))
search-hits ix q k t w buffer r =
    let h = hits-are (full_list ix (query_tree q)) (full-rankable ix q (search-accepts ix q k w (length buffer) r)) in
    let e = wrote-is ix q k t w buffer r in
    record {
      best = h.best;
      same = h.same;
      order = h.order;
      codes = e ∙ h.codes k;
      documents = ap (map to_doc) e ∙ h.documents k;
      scores = ap (map to_score) e ∙ h.scores k;
      accepted = ap (λ (l : List ℕ). get_or l 0 1) (answer-is ix q k t w (length buffer) r);
      numbers = mark-exactly ix q k t w (length buffer) r;
    }
