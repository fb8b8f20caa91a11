-- The word, the number and the line's end, one after the other.
use Rattle.std.proofs.Common.{◌≡◌, ap, ◌∙◌, [], ◌∷◌, ◌++◌, length, length-append, arith, ℕ}
use Rattle.hits_text.specs.Text.{decimal, refused_word, refused_text}
use Rattle.hits_text.proofs.Putting.{put-first, put-more}
use Rattle.hits_text.proofs.Numbers.{decimal-short}
use Rattle.hits_text.proofs.hit.refused.Goals as goal

pub push_decimal-requires : goal.push_decimal-requires
push_decimal-requires g c =
    let n : length c.push_bytes.new.text.items ≡ 8 = ap length (put-first refused_word _ _ c.new-text.ensures c.push_bytes.ensures) in
    omega (arith, decimal-short 19 c.from.result (omega (arith, c.from.ensures, c.ranges.number)), n)

pub push-requires : goal.push-requires
push-requires g c =
    let n : length c.push_bytes.new.text.items ≡ 8 = ap length (put-first refused_word _ _ c.new-text.ensures c.push_bytes.ensures) in
    omega (arith, decimal-short 19 c.from.result (omega (arith, c.from.ensures, c.ranges.number)), ap length c.push_decimal.ensures, length-append c.push_bytes.new.text.items (decimal c.from.result), n)

pub returns : goal.returns
unfolding refused_text
returns g c =
    let number = decimal c.from.result in
    put-more [] refused_word (number ++ (10 ∷ [])) _ _ (put-first refused_word _ _ c.new-text.ensures c.push_bytes.ensures) (put-more _ number (10 ∷ []) _ _ c.push_decimal.ensures c.push.ensures.items)
    ∙ ap (λ (n : ℕ). refused_word ++ (decimal n ++ (10 ∷ []))) c.from.ensures
