-- A PhraseTerm names a leaf that is there, whose run is a part of the postings; another record asks for nothing.
use Rattle.std.proofs.Common.{◌≡◌, ℕ, ◌-◌, ◌*◌, take, drop, rules, ap, ◌∙◌}
use Rattle.meaning.specs.Lent.{leaf_first, leaf_number}
use Rattle.meaning.specs.Query.{record_kind}
use Rattle.index.specs.IndexOf.{index_of}
use Rattle.check_query.proofs.Needs.{run-within, run-largest, leaf-starts}
use Rattle.check_query.proofs.buffers.term_starts.Goals as goal

pub returns : goal.returns
returns c =
    let q = c.args.query.now in let ix = index_of c.args.lent.now in let at = c.args.at in
    let kind : record_kind q at ≡ 9 = search rules in
    let leaf = c.leaf_at-leaf.result in
    let first : leaf.first ≡ leaf_first ix c.value.result = search rules in
    let number : leaf.number ≡ leaf_number ix c.value.result = search rules in
    let within = run-within ix q at c.value.result leaf.first leaf.number kind c.value.ensures first number c.requires.0 c.requires.1 in
    let run = run-largest ix.postings _ leaf.first leaf.number (ap (λ (z : ℕ). take (3 * z - 3 * leaf.first) (drop (3 * leaf.first) ix.postings)) c.end.ensures) within in
    c.largest_in.ensures ∙ run ∙ leaf-starts ix q at c.value.result leaf.first leaf.number kind c.value.ensures first number
