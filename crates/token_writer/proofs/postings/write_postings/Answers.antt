-- Each turn begins a posting or writes the last one again, with one token more.
use Rattle.std.proofs.Common.{rules, ◌≡◌, refl, sym, ap, ◌∙◌, inl, inr, ◌+◌, ◌-◌, ◌*◌, ◌≤◌, ℕ, true, false, not, cond, eqb, Option, Some, None, length, lit<, arith}
use Rattle.std.specs.Option.{option_eq}
use Rattle.std.proofs.lemmas.Bool.{true≢false, false≢true}
use borrow.Author.Tests.{eq-eqb, eqb-true, not-false}
use Rattle.tokens.specs.declared.Token.{Token}
use Rattle.token_writer.specs.declared.postings.Cursor.{Cursor}
use Rattle.token_writer.proofs.LeafRun.{inner, upto-length, upto-start, turn, room, upto_next, upto-end}
use Rattle.token_writer.proofs.postings.write_postings.Goals.{then-ne, else-ne, else-loop-token-test, then-loop-token-test+then-here-leaf}
use Rattle.token_writer.proofs.postings.write_postings.Goals as goal

-- whether the document before is another
other : (o : Option ℕ) (d : ℕ) → not (option_eq eqb o (Some d)) ≡ true → Some d ≡ o → ⊥
other None d t = λ e. cc
other (Some b) d t = λ e. false≢true (ap not (sym (eq-eqb b d (sym (inner e)))) ∙ t)

same : (o : Option ℕ) (d : ℕ) → not (option_eq eqb o (Some d)) ≡ false → Some d ≡ o
same None d t = absurd (true≢false t)
same (Some b) d t = ap Some (sym (eqb-true b d (not-false _ t)))

pub loop-token-init : goal.loop-token-init
loop-token-init c =
    let r = c.args.records in
    let a = c.args.at in
    record {
      upto = λ n m pre. upto-start n m r.tokens.now c.args.leaf c.args.positional a.token a.posting a.position (length c.args.postings.now) pre c.args.postings.now;
      token_is = refl;
      position_is = refl;
    }

pub overflow_add-end : goal.overflow_add-end
overflow_add-end c = omega (arith, (c.loop-token.invariant.upto _ _ c.requires.2).few_next, c.loop-token.auto.token-end)

pub overflow_sub-frequency : goal.overflow_sub-frequency
overflow_sub-frequency c = elim c.if-ne.branch [
  | then-ne w ↦ omega (arith, w.start-is)
  | else-ne w ↦ omega (arith, w.start-is, (c.loop-token.invariant.upto _ _ c.requires.2).order)
]

pub overflow_sub-start : goal.overflow_sub-start
overflow_sub-start c =
    let u = c.loop-token.invariant.upto _ _ c.requires.2 in
    elim c.if-ne.branch [
      | then-ne w ↦ omega (arith, w.start-is, u.first, u.order)
      | else-ne w ↦ omega (arith, w.start-is, u.first)
    ]

pub overflow_cast-index : goal.overflow_cast-index
overflow_cast-index c =
    let u = c.loop-token.invariant.upto _ _ c.requires.2 in
    search (rules, c.requires.2.few_positions, u.first, u.order)

pub overflow_sub-end : goal.overflow_sub-end
overflow_sub-end c =
    let v = c.loop-token in
    let n = c.requires.0 in
    let m = c.requires.1 in
    let pre = c.requires.2 in
    let t = turn n m _ _ _ _ _ _ _ pre _ v.postings v.token v.end.posting v.start v.before (v.invariant.upto n m pre) (omega arith)
    (sym (ap (λ (w : Token). w.leaf) c.token_at-here.ensures) ∙ c.if-here-leaf.false) c.token_at-here.result c.if-ne.end.posting c.if-ne.start c.token_at-here.ensures
    (elim c.if-ne.branch [
      | then-ne w ↦ inl (other _ _ (sym c.ne.ensures ∙ w.if-ne.true), ap (λ (e : Cursor). e.posting) w.end-is, w.start-is)
      | else-ne w ↦ inr (same _ _ (sym c.ne.ensures ∙ w.if-ne.false), ap (λ (e : Cursor). e.posting) w.end-is, w.start-is)
    ]) in
    omega (arith, t.next_is)

pub write_record-requires : goal.write_record-requires
write_record-requires c =
    let v = c.loop-token in
    let n = c.requires.0 in
    let m = c.requires.1 in
    let pre = c.requires.2 in
    let t = turn n m _ _ _ _ _ _ _ pre _ v.postings v.token v.end.posting v.start v.before (v.invariant.upto n m pre) (omega arith)
    (sym (ap (λ (w : Token). w.leaf) c.token_at-here.ensures) ∙ c.if-here-leaf.false) c.token_at-here.result c.if-ne.end.posting c.if-ne.start c.token_at-here.ensures
    (elim c.if-ne.branch [
      | then-ne w ↦ inl (other _ _ (sym c.ne.ensures ∙ w.if-ne.true), ap (λ (e : Cursor). e.posting) w.end-is, w.start-is)
      | else-ne w ↦ inr (same _ _ (sym c.ne.ensures ∙ w.if-ne.false), ap (λ (e : Cursor). e.posting) w.end-is, w.start-is)
    ]) in
    let fits : 3 * (c.if-ne.end.posting - 1) + 3 ≤ length v.postings = omega (arith, upto-length _ _ _ _ _ _ _ _ _ _ _ _ _ (v.invariant.upto n m pre), room _ _ _ _ _ _ _ _ _ pre _ _ _ _ _ t) in
    (lit< tt, fits)

pub loop-token-preserved : goal.loop-token-preserved
loop-token-preserved c =
    let v = c.loop-token in
    record {
      upto = λ n m pre.
          let t = turn n m _ _ _ _ _ _ _ pre _ v.postings v.token v.end.posting v.start v.before (v.invariant.upto n m pre) (omega arith)
          (sym (ap (λ (w : Token). w.leaf) c.token_at-here.ensures) ∙ c.if-here-leaf.false) c.token_at-here.result c.if-ne.end.posting c.if-ne.start c.token_at-here.ensures
          (elim c.if-ne.branch [
            | then-ne w ↦ inl (other _ _ (sym c.ne.ensures ∙ w.if-ne.true), ap (λ (e : Cursor). e.posting) w.end-is, w.start-is)
            | else-ne w ↦ inr (same _ _ (sym c.ne.ensures ∙ w.if-ne.false), ap (λ (e : Cursor). e.posting) w.end-is, w.start-is)
          ]) in
          upto_next _ _ _ _ _ _ _ _ _ pre _ _ _ _ _ t _ _ _ c.token_at-here.ensures c.where_positional-index.ensures c.write_record.ensures;
      token_is = refl;
      position_is = elim c.if-ne.branch [
        | then-ne w ↦ ap (λ (e : Cursor). e.position) w.end-is ∙ v.invariant.position_is
        | else-ne w ↦ ap (λ (e : Cursor). e.position) w.end-is ∙ v.invariant.position_is
      ];
    }

pub returns : goal.returns
returns c =
    let r = c.args.records in
    let a = c.args.at in
    let v = c.loop-token in
    let number = c.where_positional.result in
    λ n m pre.
    upto-end n m r.tokens.now c.args.leaf c.args.positional a.token a.posting a.position (length c.args.postings.now) pre c.args.postings.now v.postings v.token v.end.posting v.start v.before (v.invariant.upto n m pre)
    (elim c.loop-token-test.branch [
      | else-loop-token-test w ↦ (λ h _. absurd (omega (arith, h, w.loop-token-test.false)))
      | then-loop-token-test+then-here-leaf w ↦ (λ _ e. w.if-here-leaf.true (ap (λ (x : Token). x.leaf) w.token_at-here.ensures ∙ e))
    ])
    _ number (c.where_positional.ensures ∙ ap (λ k. cond c.args.positional (k - a.token) 0) v.invariant.token_is) v.invariant.token_is refl (ap (λ k. k + number) v.invariant.position_is)
