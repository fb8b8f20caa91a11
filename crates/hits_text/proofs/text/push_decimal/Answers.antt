-- What `itoa` writes are the decimal digits.
use Rattle.std.proofs.Common.{ap, ◌∙◌, List, ◌++◌, ℕ, length, arith}
use Rattle.hits_text.proofs.Numbers.{decimal-std}
use Rattle.hits_text.proofs.text.push_decimal.Goals as goal

pub push_bytes-requires : goal.push_bytes-requires
push_bytes-requires g c = omega (arith, ap length (c.as_bytes.ensures.value ∙ c.format.ensures.text ∙ decimal-std c.args.n (omega (arith, c.ranges.n))), c.requires)

pub returns : goal.returns
returns g c = c.push_bytes.ensures ∙ ap (λ (l : List ℕ). c.args.text.now.items ++ l) (c.as_bytes.ensures.value ∙ c.format.ensures.text ∙ decimal-std c.args.n (omega (arith, c.ranges.n)))
