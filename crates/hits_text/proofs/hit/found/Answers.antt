-- The word, the count, the line's end and the lines, one after the other.
use Rattle.std.proofs.Common.{◌≡◌, ap, ◌∙◌, Bool, true, false, cond, List, [], ◌∷◌, ◌++◌, ℕ, ◌^◌, ◌≤◌, ◌<◌, length, length-append, arith}
use Rattle.hits_text.specs.Text.{decimal, count_word, hit_lines, found_text}
use Rattle.hits_text.proofs.Putting.{put-first, put-more}
use Rattle.hits_text.proofs.Numbers.{decimal-short}
use Rattle.hits_text.proofs.hit.found.Goals as goal

abbrev end_of : Bool → List ℕ
end_of mark = cond mark (43 ∷ 10 ∷ []) (10 ∷ [])

end-short : (mark : Bool) → length (end_of mark) ≤ 2
end-short true = omega arith
end-short false = omega arith

pub push_decimal-requires : goal.push_decimal-requires
push_decimal-requires g c =
    let n : length c.push_bytes.new.text.items ≡ 6 = ap length (put-first count_word _ _ c.new-text.ensures c.push_bytes.ensures) in
    omega (arith, decimal-short 19 c.args.top.count (omega arith), n)

-- how long the text is behind the count
behind : (word new : List ℕ) (count : ℕ) → word ≡ count_word → count < 2 ^ 64 → new ≡ word ++ decimal count → length new ≤ 26
behind word new count e h g =
    let n : length word ≡ 6 = ap length e in
    omega (arith, decimal-short 19 count (omega (arith, h)), ap length g, length-append word (decimal count), n)

pub push_bytes-requires-2 : goal.push_bytes-requires-2
push_bytes-requires-2 g c = omega (arith, behind _ _ _ (put-first count_word _ _ c.new-text.ensures c.push_bytes.ensures) (omega arith) c.push_decimal.ensures, ap length c.line_end.ensures, end-short c.args.top.mark)

pub push_hits-requires : goal.push_hits-requires
push_hits-requires g c =
    omega (arith, behind _ _ _ (put-first count_word _ _ c.new-text.ensures c.push_bytes.ensures) (omega arith) c.push_decimal.ensures, ap length c.line_end.ensures, end-short c.args.top.mark, ap length c.push_bytes-2.ensures, length-append c.push_decimal.new.text.items c.line_end.result.now, c.requires)

pub returns : goal.returns
unfolding found_text
returns g c =
    let count = decimal c.args.top.count in
    let end = c.line_end.result.now in
    let lines = hit_lines c.args.codes.now in
    put-more [] count_word (count ++ (end ++ lines)) _ _ (put-first count_word _ _ c.new-text.ensures c.push_bytes.ensures) (put-more _ count (end ++ lines) _ _ c.push_decimal.ensures (put-more _ end lines _ _ c.push_bytes-2.ensures c.push_hits.ensures))
    ∙ ap (λ (e : List ℕ). count_word ++ (count ++ (e ++ lines))) c.line_end.ensures
