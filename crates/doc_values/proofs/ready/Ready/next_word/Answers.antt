-- By keys or by bits, the same documents are let in; of at least 32 that are left the word has the first 32.
use Rattle.std.proofs.Common.{◌≡◌, sym, ap, ◌∙◌, Bool, ◌&&◌, ℕ, ◌+◌, ◌-◌, ◌≤◌, ◌<◌, ltb, rules, arith, lt-ltb}
use Rattle.doc_values.specs.Listed.{listed}
use Rattle.doc_values.proofs.ready.Ready.next_word.Goals as goal

-- of at least 32 that are left, the first 32
whole : (p left : ℕ) (b : Bool) → p < 32 → 32 ≤ left → (ltb p 32 && b) ≡ (ltb p left && b)
whole p left b h l = ap (λ (t : Bool). t && b) (lt-ltb p 32 h ∙ sym (lt-ltb p left (omega arith)))

pub returns-then-left-lt32 : goal.returns-then-left-lt32
returns-then-left-lt32 c = c.word_of.ensures (listed c.args.self) (λ d b h. search rules)

pub returns-in-Some : goal.returns-in-Some
returns-in-Some c = λ p h. c.word_of-in-Some.ensures (listed c.args.self) (λ d b h. search rules) p h ∙ whole p (c.args.self.max_doc - c.args.first) (listed c.args.self (c.args.first + p)) h c.if-left-lt32.false

pub returns-in-None : goal.returns-in-None
returns-in-None c = λ p h. c.word_of-in-None.ensures (listed c.args.self) (λ d b h. search rules) p h ∙ whole p (c.args.self.max_doc - c.args.first) (listed c.args.self (c.args.first + p)) h c.if-left-lt32.false
