-- What is stored for the document is its frequency; where nothing is stored for it, the search stops at it and stores
-- it.
use native.Mathlib.Omega.{arith}
use Prim.Native.Nat.{ℕ, suc, ◌+◌, ◌<◌}
use mathlib.Core.Path.{◌≡◌, sym, ap, subst, ◌∙◌}
use mathlib.Core.List.{List}
use lib.ListN.{get_or}
use mathlib.Core.Bool.{Bool, true, false≢true}
use mathlib.Core.Logic.{⊎_elim}
use native.Mathlib.Nat.{le_refl, eq-or-lt_of_le}
use lib.Dec.{ltb}
use borrow.Author.Tests.{lt-ltb}
use Rattle.meaning.specs.Limits.{no_more_docs}
use Rattle.meaning.specs.First.{First}
use Rattle.meaning.specs.Phrase.{phrase_frequency}
use Rattle.tree_weight.specs.Held.{PhraseIs}
use Rattle.scorer_leaf.specs.Phrases.{SeekPhrasePost}
use Rattle.score_leaf.specs.Asked.{PhraseFrequencyPost}
use Rattle.score_leaf.proofs.phrase_frequency.Goals as goal

more : (d : ℕ) → d + 1 ≡ suc d
more d = omega arith

-- a phrase that stands in the document is found there
stays : (P : ℕ → Bool) (doc r : ℕ) → First P doc r → P doc ≡ true → r ≡ doc
stays P doc r f y = ⊎_elim (λ e. sym e) (λ l. absurd (false≢true (sym (f.before doc (le_refl _) l) ∙ y))) (eq-or-lt_of_le f.from)

worked-out-now : (states states' : List ℕ) (postings positions : List ℕ) (doc r : ℕ) → doc < no_more_docs → SeekPhrasePost postings positions states doc r states' → PhraseFrequencyPost postings positions states doc (get_or states' 17 0) states'
worked-out-now states states' postings positions doc r few post ix places f ts s w H m =
    let q = post ix places f ts s w H in
    let z = q.1 in
    let e : r ≡ doc = stays (λ d. ltb 0 (phrase_frequency ix ts d)) doc r q.0 (lt-ltb 0 (phrase_frequency ix ts doc) m) in
    let a : z.state.frequency_of ≡ suc r = sym (ap (λ (l : List ℕ). get_or l 16 0) z.words) ∙ q.2 (omega arith) ∙ more r in
    (ap (λ (l : List ℕ). get_or l 17 0) z.words ∙ z.is.worked-out r a ∙ ap (λ (d : ℕ). phrase_frequency ix ts d) e, (z.state, z.behind, z.words, z.kept, subst (λ (d : ℕ). PhraseIs ix f ts z.state z.behind d) e z.is))

pub returns-clause-frequency_post : goal.returns-clause-frequency_post
returns-clause-frequency_post c = worked-out-now c.args.states.now c.seek_phrase-d.new.states c.args.reader.now.postings.now c.args.reader.now.positions.now c.args.doc c.seek_phrase-d.result c.requires.0 c.seek_phrase-d.ensures.phrase_post
