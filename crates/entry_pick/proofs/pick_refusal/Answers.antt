-- The tests go by the numbers 11, 12 and 14, so the first that holds is the lowest.
use Rattle.std.proofs.Common.{sym, ◌∙◌}
use Rattle.entry_pick.proofs.PickEntry.{pick-hits, pick-short, pick-wrong, pick-0}
use Rattle.entry_pick.proofs.pick_refusal.Goals as goal

pub returns-then-wrong_hits : goal.returns-then-wrong_hits
returns-then-wrong_hits c = pick-hits _ _ _ _ (sym c.wrong_hits.ensures ∙ c.if-wrong_hits.true)

pub returns-then-places-k : goal.returns-then-places-k
returns-then-places-k c = pick-short _ _ _ _ (sym c.wrong_hits.ensures ∙ c.if-wrong_hits.false) c.if-places-k.true

pub returns-then-wrong_lists : goal.returns-then-wrong_lists
returns-then-wrong_lists c =
    pick-wrong _ _ _ _ (sym c.wrong_hits.ensures ∙ c.if-wrong_hits.false) c.if-places-k.false (sym c.wrong_lists.ensures ∙ c.if-wrong_lists.true)

pub returns : goal.returns
returns c =
    pick-0 _ _ _ _ (sym c.wrong_hits.ensures ∙ c.if-wrong_hits.false) c.if-places-k.false (sym c.wrong_lists.ensures ∙ c.if-wrong_lists.false)
