use Rattle.std.proofs.Common.{◌+◌, rules}
use Rattle.window_leaf.proofs.PlaneLaws.{asked-postings}
use Rattle.window_leaf.proofs.phrases.frequency_at.Goals as goal

pub frequency_by-requires-clause-held : goal.frequency_by-requires-clause-held
frequency_by-requires-clause-held c =
    let P = c.requires.1 in
    (P.0, P.1, P.2, P.3, c.args.window.now.base + c.args.place, P.5, P.6, asked-postings c.args.place c.requires.0 P.7 (λ at p k. search rules) P.8)

pub returns-clause-frequency_post : goal.returns-clause-frequency_post
returns-clause-frequency_post c = λ ix places f ts D on h. c.frequency_by.ensures.frequency_post ix places f ts (c.args.window.now.base + c.args.place) (asked-postings c.args.place c.requires.0 on (λ at p k. search rules) h)
