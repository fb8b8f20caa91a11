-- Two calls of Search, before and after a lot was withdrawn: what the second wrote. Assumes nothing.
use mathlib.Core.Path.{◌≡◌, sym, ap, ◌∙◌}
use mathlib.Core.List.{List}
use Prim.Native.Nat.{ℕ, ◌+◌}
use lib.ListN.{length}
use lib.IntN.{ℤ}
use Rattle.meaning.specs.Lent.{Index}
use Rattle.meaning.specs.Query.{query_tree}
use Rattle.meaning.specs.FullList.{full_list}
use Rattle.meaning.specs.Hits.{hits}
use Rattle.meaning.specs.CallRefusals.{Work}
use Rattle.meaning.specs.Entries.{search_refusal}
use Rattle.demands.proofs.Accepting.{search-accepts}
use Rattle.demands.proofs.Rankable.{full-rankable}
use Rattle.demands.proofs.Search.{wrote-is, hits_by}
use Rattle.demands_withdrawals.specs.Withdrawal.{withdrawn, afterwards}
use Rattle.demands_withdrawals.proofs.Full.{withdrawn-list}
use Rattle.demands_withdrawals.proofs.Hits.{hits-without}

-- "The k hits afterwards are the first k of the k + 1 hits before, that lot taken out", whatever the thresholds and the
-- buffers.
-- "for k up to 1,023" follows from the first premise, and so does the second where k is above 0 and the buffers are the
-- same (`k-at-most`, `still-accepted` of Refusals)
pub withdrawn-hits : (ix : Index) (d : ℕ) (q : List ℕ) (k t t' : ℕ) (w w' : Work) (buffer buffer' : List ℤ) → search_refusal ix q (k + 1) w (length buffer) ≡ 0 → search_refusal (withdrawn ix d) q k w' (length buffer') ≡ 0 → hits_by (withdrawn ix d) q k t' w' buffer' ≡ afterwards k d (hits_by ix q (k + 1) t w buffer)
withdrawn-hits ix d q k t t' w w' buffer buffer' r r' =
    let list = full_list ix (query_tree q) in
    wrote-is (withdrawn ix d) q k t' w' buffer' r'
    ∙ ap (hits k) (withdrawn-list ix d (query_tree q))
    ∙ hits-without k d list (full-rankable ix q (search-accepts ix q (k + 1) w (length buffer) r)).rises
    ∙ ap (afterwards k d) (sym (wrote-is ix q (k + 1) t w buffer r))
