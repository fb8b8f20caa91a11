-- Which children a pass asks, by the kind that is read of them. Assumes nothing.
use Rattle.std.proofs.Common.{◌≡◌, refl, sym, ap, ◌∙◌, Bool, true, false, not, cond, ℕ, eqb, ⊎_elim}
use Rattle.std.proofs.lemmas.Bool.{eqb-false, false≢true, true≢false}
use Rattle.std.proofs.lemmas.Bool.Decides.{eqb_tells}
use Rattle.tree_node.specs.declared.NodeKind.{NodeKind}
use Rattle.tree_node.specs.declared.NodeKind.TheVariants.{Nothing, Term, Phrase, Boolean, Range, Everything, PhraseTerm}
use Rattle.tree_node.specs.Kinds.{node_kind, kind_word}
use Rattle.tree_node.proofs.KindLaws.{word-of}
use Rattle.window_bits.specs.declared.Asks.{Asks}
use Rattle.window_bits.specs.Parts.{phrase_kind, phrases_only}

pub no-phrase : (k : NodeKind) → (k ≡ Phrase → ⊥) → phrase_kind k ≡ false
no-phrase Nothing n = refl
no-phrase Term n = refl
no-phrase Phrase n = absurd (n refl)
no-phrase Boolean n = refl
no-phrase Range n = refl
no-phrase Everything n = refl
no-phrase PhraseTerm n = refl

phrase-word : (word : ℕ) → phrase_kind (node_kind word) ≡ eqb word 2
phrase-word word =
    ⊎_elim
    (λ h. ap (λ (w : ℕ). phrase_kind (node_kind w)) h.1 ∙ sym h.0)
    (λ h. no-phrase (node_kind word) (λ e. h.1 (word-of word Phrase e (λ n. eqb-false 2 0 refl (ap kind_word n)))) ∙ sym h.0)
    (eqb_tells word 2)

same-test : (last x : Bool) → cond last x (not x) ≡ true → x ≡ last
same-test true x e = e
same-test false true e = absurd (false≢true e)
same-test false false e = refl

other-test : (last x : Bool) → cond last x (not x) ≡ false → x ≡ not last
other-test true x e = e
other-test false true e = refl
other-test false false e = absurd (true≢false e)

-- a child that the pass asks, by the word of its kind, and one that it doesn't
module _ (asks : Asks) (k : NodeKind) (word : ℕ) (t : Bool) (read : k ≡ node_kind word) (e : t ≡ cond (phrases_only asks) (phrase_kind k) (not (phrase_kind k))) where
  word-kind : eqb word 2 ≡ phrase_kind k
  word-kind = sym (phrase-word word) ∙ ap phrase_kind (sym read)

  pub asked-kind : t ≡ true → eqb word 2 ≡ phrases_only asks
  asked-kind h = word-kind ∙ same-test (phrases_only asks) (phrase_kind k) (sym e ∙ h)

  pub unasked-kind : t ≡ false → eqb word 2 ≡ not (phrases_only asks)
  unasked-kind h = word-kind ∙ other-test (phrases_only asks) (phrase_kind k) (sym e ∙ h)
