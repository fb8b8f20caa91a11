-- Each term's cursor stands at its posting of the document, so the frequency is gathered from there.
use Rattle.std.proofs.Common.{rules}
use Rattle.scorer_leaf.proofs.PhraseLaws.{standing-postings}
use Rattle.scorer_leaf.proofs.frequency.Goals as goal

pub frequency_by-requires-clause-held : goal.frequency_by-requires-clause-held
frequency_by-requires-clause-held c = let P = c.requires in (P.0, P.1, P.2, P.3, P.4, P.5, P.6, standing-postings (λ at p k. search rules) P.7)

pub returns-clause-frequency_post : goal.returns-clause-frequency_post
returns-clause-frequency_post c = λ ix p f ts d h. c.frequency_by.ensures.frequency_post ix p f ts d (standing-postings (λ at p k. search rules) h)
