-- Between a call at the border and the entry behind it: an accepted call lent an `answer` that is long enough, and the entry accepts it too. Assumes nothing.
use mathlib.Core.Path.{◌≡◌, sym, ◌∙◌}
use mathlib.Core.List.{List}
use Prim.Native.Nat.{ℕ, ◌≤◌, ◌<◌}
use native.Mathlib.Decide.{dec_lt}
use native.Mathlib.Omega.{arith}
use lib.ListN.{length}
use Rattle.meaning.specs.Lent.{Index}
use Rattle.meaning.specs.CallRefusals.{Work}
use Rattle.meaning.specs.Entries.{search_refusal, page_refusal, pick_refusal}
use Rattle.check_order.specs.WorkOf.{work}
use Rattle.border.specs.Border.{short_answer}
use Rattle.border.proofs.Short.{short-of-none, short-refuses, search-short, search-long, page-short, page-long, pick-short, pick-long}
use Rattle.demands_border.specs.Calls.{SearchCall, PageCall, PickCall}

-- ---- by an entry's refusal z: r is what the border returns for an `answer` of some length, of which it needs the least
pub record Accepted (z r answer least : ℕ) : Type 0 where
  pub room : least ≤ answer
  pub entry : z ≡ 0

accepted : (z r answer least : ℕ) → (answer < least → r ≡ short_answer z) → (least ≤ answer → r ≡ z) → r ≡ 0 → Accepted z r answer least
accepted z r answer least short long e = elim (dec_lt answer least) [
  | yes h ↦ absurd (omega (arith, short h, short-refuses z, e))
  | no h ↦ record { room = omega (arith, h); entry = sym (long (omega (arith, h))) ∙ e }
]

-- ---- lot_search
module _ (ix : Index) (q : List ℕ) (k t : ℕ) (c : SearchCall ix q k t) where
  abbrev pub search-work : Work
  search-work = work (length c.states) (length c.starts) (length c.other_starts) (length c.ranges)

  pub search-entry : c.returned ≡ 0 → Accepted (search_refusal ix q k search-work (length c.hits)) c.returned (length c.answer) 3
  search-entry = accepted _ _ _ _ (λ h. c.told.refusal ∙ search-short ix q k search-work (length c.hits) (length c.answer) h) (λ h. c.told.refusal ∙ search-long ix q k search-work (length c.hits) (length c.answer) h)

  -- refused for its `answer` alone
  pub search-answer-alone : length c.answer < 3 → search_refusal ix q k search-work (length c.hits) ≡ 0 → c.returned ≡ 12
  search-answer-alone h e = c.told.refusal ∙ search-short ix q k search-work (length c.hits) (length c.answer) h ∙ short-of-none _ e

-- ---- lot_page
module _ {ix : Index} {q : List ℕ} (c : PageCall ix q) where
  abbrev pub page-work : Work
  page-work = work (length c.states) (length c.starts) (length c.other_starts) (length c.ranges)

  pub page-entry : c.returned ≡ 0 → Accepted (page_refusal ix q c.target page-work (length c.documents) (length c.scores)) c.returned (length c.answer) 2
  page-entry = accepted _ _ _ _ (λ h. c.told.refusal ∙ page-short ix q c.target page-work (length c.documents) (length c.scores) (length c.answer) h) (λ h. c.told.refusal ∙ page-long ix q c.target page-work (length c.documents) (length c.scores) (length c.answer) h)

  pub page-answer-alone : length c.answer < 2 → page_refusal ix q c.target page-work (length c.documents) (length c.scores) ≡ 0 → c.returned ≡ 12
  page-answer-alone h e = c.told.refusal ∙ page-short ix q c.target page-work (length c.documents) (length c.scores) (length c.answer) h ∙ short-of-none _ e

-- ---- lot_pick
module _ (documents scores : List ℕ) (k t : ℕ) (c : PickCall documents scores k t) where
  pub pick-entry : c.returned ≡ 0 → Accepted (pick_refusal documents scores k (length c.hits)) c.returned (length c.answer) 3
  pick-entry = accepted _ _ _ _ (λ h. c.told.refusal ∙ pick-short documents scores k (length c.hits) (length c.answer) h) (λ h. c.told.refusal ∙ pick-long documents scores k (length c.hits) (length c.answer) h)

  pub pick-answer-alone : length c.answer < 3 → pick_refusal documents scores k (length c.hits) ≡ 0 → c.returned ≡ 12
  pick-answer-alone h e = c.told.refusal ∙ pick-short documents scores k (length c.hits) (length c.answer) h ∙ short-of-none _ e
