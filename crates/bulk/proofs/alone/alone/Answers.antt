-- Each word that is looked at, as the tests before a return leave it.
use Rattle.std.proofs.Common.{sym, ◌∙◌, get_or, eqb-true}
use Rattle.tree_node.proofs.Scorers.{boolean-word, is-boolean}
use Rattle.bulk.proofs.alone.alone.Goals as goal

pub returns-then-root-eq0 : goal.returns-then-root-eq0
returns-then-root-eq0 c = λ e.
    let r = c.boolean_at-root.ensures in
    record {
      long = c.if-states.false;
      kind-is = boolean-word _ (sym c.from.ensures ∙ is-boolean _ (sym c.ne.ensures ∙ c.if-ne.false));
      kept = sym c.score_node_at.ensures.constant-is ∙ c.if-score_node_at-ne0.false;
      optional-end = sym r.optional-end ∙ c.if-root-ne-NODE_STATE_WORDS.false;
      optional = λ z. sym r.need-is ∙ eqb-true c.boolean_at-root.result.need 1 e;
      need-is = λ n. absurd (n (sym r.required-end ∙ c.if-root-eq0.true));
      scores = λ n. absurd (n (sym r.required-end ∙ c.if-root-eq0.true));
    }

pub returns : goal.returns
returns c = λ e.
    let r = c.boolean_at-root.ensures in
    record {
      long = c.if-states.false;
      kind-is = boolean-word _ (sym c.from.ensures ∙ is-boolean _ (sym c.ne.ensures ∙ c.if-ne.false));
      kept = sym c.score_node_at.ensures.constant-is ∙ c.if-score_node_at-ne0.false;
      optional-end = sym r.optional-end ∙ c.if-root-ne-NODE_STATE_WORDS.false;
      optional = λ z. absurd (c.if-root-eq0.false (r.required-end ∙ z));
      need-is = λ n. sym r.need-is ∙ c.if-root-ne0.false;
      scores = λ n. eqb-true (get_or c.args.states.now 47 0) 1 e;
    }
