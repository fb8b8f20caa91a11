-- Kind by kind: a search in the postings, a phrase, the next bit of a bitmap, or the target itself.
use Rattle.scorer_leaf.proofs.Seeks.{seek-term-pre, seek-term-done, seek-range-pre, seek-range-done, seek-phrase-pre, seek-phrase-done, seek-any-done}
use mathlib.Core.Path.{sym, ap, ◌∙◌}
use Rattle.tree_node.specs.Kinds.{node_kind}
use Rattle.tree_node.proofs.Scorers.{term-word, phrase-word, range-word}
use Rattle.scorer_leaf.specs.Calls.{lists_of}
use Rattle.scorer_leaf.proofs.seek.Goals as goal

pub search_postings-requires : goal.search_postings-requires
search_postings-requires c = let s = c in let P = s.requires.1 in seek-term-pre (lists_of s.args.reader.now) s.args.states.now s.args.target (term-word _ (sym c.in-Term.ensures)) P.0 P.1 P.2 P.3 P.4 P.6

pub returns-in-Term-clause-leaf_post : goal.returns-in-Term-clause-leaf_post
returns-in-Term-clause-leaf_post c = let s = c in let g = c.search_postings in seek-term-done (lists_of s.args.reader.now) s.args.states.now s.args.target (term-word _ (sym c.in-Term.ensures)) s.requires.0 g.result g.new.states g.ensures

pub seek_phrase-requires : goal.seek_phrase-requires
seek_phrase-requires c = let s = c in let P = s.requires.1 in let n = seek-phrase-pre (lists_of s.args.reader.now) s.args.states.now s.args.target (phrase-word _ (sym c.in-Phrase.ensures)) P.0 P.1 P.2 P.3 P.4 P.6 in (s.requires.0, (P.0, P.1, n.0, n.1, P.3, P.4, P.5.in-starts, P.5.in-other, n.2))

pub returns-in-Phrase-clause-leaf_post : goal.returns-in-Phrase-clause-leaf_post
returns-in-Phrase-clause-leaf_post c = let s = c in let g = c.seek_phrase in seek-phrase-done (lists_of s.args.reader.now) s.args.states.now s.args.target (phrase-word _ (sym c.in-Phrase.ensures)) g.result g.new.states g.ensures.phrase_post

pub seek_range-requires : goal.seek_range-requires
seek_range-requires c = let s = c in let P = s.requires.1 in seek-range-pre (lists_of s.args.reader.now) s.args.states.now s.args.target (range-word _ (sym c.in-Range.ensures)) P.0 P.1 P.2 P.3 P.4 P.6

pub returns-in-Range-clause-leaf_post : goal.returns-in-Range-clause-leaf_post
returns-in-Range-clause-leaf_post c = let s = c in let g = c.seek_range in seek-range-done (lists_of s.args.reader.now) s.args.states.now s.args.target (range-word _ (sym c.in-Range.ensures)) s.requires.0 g.result g.ensures

pub returns-in_default-clause-leaf_post : goal.returns-in_default-clause-leaf_post
returns-in_default-clause-leaf_post c = let s = c in let g = c.everything in seek-any-done (lists_of s.args.reader.now) s.args.states.now s.args.target (λ e. c.in_default.not-Term (c.from.ensures ∙ ap node_kind e)) (λ e. c.in_default.not-Phrase (c.from.ensures ∙ ap node_kind e)) (λ e. c.in_default.not-Range (c.from.ensures ∙ ap node_kind e)) s.requires.0 g.result g.ensures
