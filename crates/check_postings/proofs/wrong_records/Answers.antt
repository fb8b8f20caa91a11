-- A wrong record leaves its mark in the or of one of its words: a high bit, 2^24 or more, or a bit at all.
use Rattle.std.proofs.Common.{◌≡◌, ℕ, ◌+◌, ◌*◌, ◌/◌, ◌<◌, List, [], eqb, length, get_or, ap, ◌∙◌, lit<, add-zero, arith}
use Rattle.meaning.proofs.Below.{any-done}
use Rattle.index.proofs.Chains.{chunk_word}
use Rattle.check_postings.proofs.Records.{records-none, records-next, records-all}
use Rattle.check_postings.proofs.wrong_records.Goals as goal

pub loop-doc-init : goal.loop-doc-init
loop-doc-init c = records-none _

pub loop-doc-preserved : goal.loop-doc-preserved
loop-doc-preserved c =
    let run = c.args.run.now in
    let i = c.loop-doc.doc-index in
    let n = length c.args.run.now / 3 in
    let records = c.as_chunks.result.0.now in
    let within : i < length c.args.run.now / 3 = omega (arith, c.as_chunks.ensures.front_len, c.loop-doc-test.true) in
    let front = c.as_chunks.ensures.front in
    let document : get_or (get_or records i []) 0 0 ≡ get_or run (3 * i) 0 = ap (λ (rs : List (List ℕ)). get_or (get_or rs i []) 0 0) front ∙ chunk_word 3 n run i 0 within (lit< tt) ∙ ap (λ (k : ℕ). get_or run k 0) (add-zero (3 * i)) in
    let frequency : get_or (get_or records i []) 1 0 ≡ get_or run (3 * i + 1) 0 = ap (λ (rs : List (List ℕ)). get_or (get_or rs i []) 1 0) front ∙ chunk_word 3 n run i 1 within (lit< tt) in
    let index : get_or (get_or records i []) 2 0 ≡ get_or run (3 * i + 2) 0 = ap (λ (rs : List (List ℕ)). get_or (get_or rs i []) 2 0) front ∙ chunk_word 3 n run i 2 within (lit< tt) in
    let small : get_or (get_or records i []) 0 0 < 4294967296 = omega (arith, document, c.type_inv.run (3 * i)) in
    let low : get_or (get_or records i []) 1 0 < 4294967296 = omega (arith, frequency, c.type_inv.run (3 * i + 1)) in
    let floor : c.loop-doc.floor < 4294967296 = omega (arith, c.loop-doc.auto.floor-fits) in
    records-next run i _ _ _ c.loop-doc.floor c.loop-doc.invariant floor _ _ _ document frequency index small low

pub returns : goal.returns
returns c =
    rw c.has_positions.ensures (any-done _ _ _ _ (records-all c.args.max_doc c.requires c.args.run.now (eqb c.args.field.positions 1) _ _ _ _ _ c.loop-doc.invariant) (omega (arith, c.as_chunks.ensures.front_len, c.loop-doc.auto.doc-index-end)) (omega (arith, c.as_chunks.ensures.front_len, c.loop-doc-test.false)))
