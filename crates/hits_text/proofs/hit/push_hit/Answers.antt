-- The document, a blank, the score's bits and the line's end, one after the other.
use Rattle.std.proofs.Common.{◌≡◌, ℕ, ap, ◌∙◌, ◌+◌, ◌≤◌, length, List, [], ◌∷◌, ◌++◌, length-append, arith, w64, ℤ}
use mir.ValLaws.{to_z-of_z}
use Rattle.meaning.specs.Hits.{to_doc}
use Rattle.hits_text.specs.Text.{decimal, hex8, score_bits}
use Rattle.hits_text.proofs.Putting.{put-more}
use Rattle.hits_text.proofs.Numbers.{length-hex}
use Rattle.hits_text.proofs.Lines.{document-short, line-is}
use Rattle.hits_text.proofs.hit.push_hit.Goals as goal

-- a document has at most 20 digits
few : (d n : ℕ) (z : ℤ) → d ≡ n → n ≡ to_doc z → length (decimal d) ≤ 20
few d n z e f = let g : d ≡ to_doc z = e ∙ f in omega (arith, ap (λ (m : ℕ). length (decimal m)) g, document-short z)

pub push_decimal-requires : goal.push_decimal-requires
push_decimal-requires g c = omega (arith, few _ _ _ c.from.ensures c.to_doc.ensures, c.requires)

-- how long the text is behind the document
behind : (old new : List ℕ) (d : ℕ) → length (decimal d) ≤ 20 → new ≡ old ++ decimal d → length new ≤ length old + 20
behind old new d f e = omega (arith, f, ap length e, length-append old (decimal d))

pub push-requires : goal.push-requires
push-requires g c = omega (arith, behind _ _ _ (few _ _ _ c.from.ensures c.to_doc.ensures) c.push_decimal.ensures, c.requires)

pub push_hex-requires : goal.push_hex-requires
push_hex-requires g c = omega (arith, behind _ _ _ (few _ _ _ c.from.ensures c.to_doc.ensures) c.push_decimal.ensures, c.push.ensures.len, c.requires)

pub push-requires-2 : goal.push-requires-2
push-requires-2 g c =
    omega (arith, behind _ _ _ (few _ _ _ c.from.ensures c.to_doc.ensures) c.push_decimal.ensures, c.push.ensures.len, ap length c.push_hex.ensures, length-append c.push.new.self.items (hex8 c.from-2.result), length-hex 8 c.from-2.result, c.requires)

pub returns : goal.returns
returns g c =
    let same = to_z-of_z w64 c.args.code c.ranges.code in
    let old = c.args.text.now.items in
    let hex = hex8 c.from-2.result in
    put-more old (decimal c.from.result) (32 ∷ (hex ++ (10 ∷ []))) _ _ c.push_decimal.ensures
    (put-more _ (32 ∷ []) (hex ++ (10 ∷ [])) _ _ c.push.ensures.items (put-more _ hex (10 ∷ []) _ _ c.push_hex.ensures c.push-2.ensures.items))
    ∙ ap (λ (l : List ℕ). old ++ l) (line-is c.args.code c.from.result c.from-2.result (c.from.ensures ∙ c.to_doc.ensures ∙ ap to_doc same) (c.from-2.ensures ∙ c.score_bits.ensures ∙ ap score_bits same))
