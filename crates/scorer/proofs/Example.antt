-- What `advance` requires can be met: a Boolean with a required term, an optional phrase and a prohibited scorer that matches nothing, over two terms in three documents.
-- Assumes nothing.
use mathlib.Core.Path.{◌≡◌, refl}
use mathlib.Core.Bool.{true, false}
use mathlib.Core.List.{List, [], ◌∷◌, ◌++◌}
use mathlib.Core.Option.{none}
use Prim.Native.Nat.{ℕ, ◌*◌}
use native.Mathlib.Omega.{arith}
use lib.Dec.{lit≤, lit<}
use lib.Ieee.{fits, to_bits}
use Rattle.meaning.specs.Below.{any_below, count_below, largest_below}
use Rattle.meaning.specs.Limits.{node_state_words}
use Rattle.meaning.specs.Lent.{Index}
use Rattle.meaning.specs.Ieee754.{zero_float}
use Rattle.meaning.specs.Phrase.{PhraseTerm}
use Rattle.meaning.specs.CallRefusals.{largest_in}
use Rattle.meaning.specs.IndexRefusals.{wrong1, wrong_field, wrong2, wrong3, wrong_leaf, wrong4, wrong_position, wrong_positions, wrong_posting, wrong5, wrong_column, wrong6}
use Rattle.index.specs.Accepted.{Accepted}
use Rattle.index.proofs.Accepted.{accepted}
use Rattle.tree_weight.specs.ScorerTree.{nothing, term, phrase, constant, one_more, Scorer, leaf, boolean, end, more, leaf_matches, matches}
use Rattle.tree_weight.specs.State.{State, words_of, leaf_size, size_of, sizes_of_first}
use Rattle.tree_weight.specs.Held.{TermIs, TermsAre, norms_word, LeafIs, ScoringIs, FloatIs, KeptIs, JoiningIs, Ok}
use Rattle.tree_weight.specs.Sound.{EachTerm, LeafSound, Sound}
use Rattle.scorer.specs.Calls.{AdvancePre}
use Rattle.scorer_leaf.specs.Calls.{lists}

abbrev postings : List ℕ
postings = 0 ∷ 1 ∷ 0 ∷ 2 ∷ 1 ∷ 1 ∷ 2 ∷ 1 ∷ 2 ∷ []

abbrev positions : List ℕ
positions = 0 ∷ 4 ∷ 5 ∷ []

abbrev index : Index
index =
    record {
      max_doc = 3;
      fields = 0x3f80_0000 ∷ 0 ∷ 1 ∷ [];
      leaves = 0 ∷ 0 ∷ 2 ∷ 0 ∷ 0 ∷ 2 ∷ 1 ∷ 0 ∷ [];
      postings = postings;
      positions = positions;
      norms = [];
      live = [];
      columns = [];
      values = [];
    }

index-accepted : Accepted index
unfolding wrong1 wrong_field wrong2 wrong3 wrong_leaf wrong4 wrong_position wrong_positions wrong_posting wrong5 wrong_column wrong6 any_below count_below
index-accepted = accepted index refl refl refl refl refl refl

abbrev terms : List PhraseTerm
terms = record { leaf = 0; offset = 0 } ∷ record { leaf = 1; offset = 1 } ∷ []

abbrev tree : Scorer
tree =
    boolean none (one_more 0) 1 (more true (leaf (term 0) (constant zero_float)) end) (more true (leaf (phrase 0 terms) (constant zero_float)) end) (more false (leaf nothing (constant zero_float)) end)

-- a record that has not been positioned: kind, size, cached, need, the two ends, first, number, offset, constant, scores
abbrev fresh : ℕ → ℕ → ℕ → ℕ → ℕ → ℕ → ℕ → ℕ → ℕ → ℕ → ℕ → State
fresh kind size cached need re oe first number offset same scores =
    record {
      kind = kind;
      size = size;
      cached = cached;
      need = need;
      required_end = re;
      optional_end = oe;
      first = first;
      number = number;
      cursor = 0;
      offset = offset;
      field = 0;
      constant = same;
      weight = 0;
      afterwards = 0;
      group_at = 0;
      scores = scores;
      frequency_of = 0;
      frequency = 0;
      norms = 0;
      window_first = 0;
      window_low = 0;
      window_high = 0;
      window_next = 0;
      ones_low = 0;
      ones_high = 0;
      twos_low = 0;
      twos_high = 0;
      spare1 = 0;
      spare2 = 0;
      spare3 = 0;
      spare4 = 0;
      spare5 = 0;
    }

abbrev root : State
root = fresh 3 (6 * node_state_words) 0 1 node_state_words (4 * node_state_words) 0 0 0 0 1

abbrev required : State
required = fresh 1 node_state_words 0 0 0 0 0 2 0 1 1

abbrev optional : State
optional = fresh 2 (3 * node_state_words) 0 0 0 0 0 0 0 1 1

abbrev first-term : State
first-term = fresh 9 node_state_words 0 0 0 0 0 2 0 0 0

abbrev second-term : State
second-term = fresh 9 node_state_words 0 0 0 0 2 1 1 0 0

abbrev prohibited : State
prohibited = fresh 0 node_state_words 2147483648 0 0 0 0 0 0 1 0

abbrev words : List ℕ
words = words_of root ++ (words_of required ++ ((words_of optional ++ (words_of first-term ++ words_of second-term)) ++ words_of prohibited))

score-held : FloatIs zero_float 0
unfolding fits to_bits
score-held = record { held = tt; small = record { sign = tt; most = lit≤ tt }; bits_are = refl }

term-held : (kind l offset same scores b : ℕ) (s : State) → s ≡ fresh kind node_state_words 0 0 0 0 0 2 offset same scores → l ≡ 0 → TermIs index kind l s b
unfolding norms_word count_below
term-held kind l offset same scores b s e z = rw (e, z) (record { kind-is = refl; size_is = refl; first-is = refl; number_is = refl; field_is = refl; norms-is = refl; run = record { within = lit≤ tt; passed = λ i h. absurd (omega arith) } })

second-held : (b : ℕ) → TermIs index 9 1 second-term b
unfolding norms_word count_below
second-held b = record { kind-is = refl; size_is = refl; first-is = refl; number_is = refl; field_is = refl; norms-is = refl; run = record { within = lit≤ tt; passed = λ i h. absurd (omega arith) } }

tree-sound : Sound index 1 tree
unfolding Sound LeafSound EachTerm largest_in largest_below
tree-sound =
    ((lit< tt, tt), ((lit< tt, refl, lit< tt, lit≤ tt, (record { leaf-there = lit< tt; field_is = refl; offset-small = lit≤ tt; room = lit≤ tt }, (record { leaf-there = lit< tt; field_is = refl; offset-small = lit≤ tt; room = lit≤ tt }, tt))), tt), (tt, tt))

tree-ok : Ok index [] tree 1 1 words 0
unfolding Ok LeafIs ScoringIs KeptIs JoiningIs TermsAre norms_word count_below size_of leaf_size sizes_of_first matches leaf_matches
tree-ok = (
  root,
  words_of required,
  words_of optional ++ (words_of first-term ++ words_of second-term),
  words_of prohibited,
  refl,
  refl,
  lit< tt,
  record { kind-is = refl; size_is = refl; need-is = refl; required-end = refl; optional-end = refl; kept = refl; joining = (refl, refl) },
  (λ t g h. absurd (omega arith)),
  (words_of required, [], refl, (required, [], refl, refl, (term-held 1 0 0 1 1 0 required refl refl, refl), (refl, score-held), λ t g h. absurd (omega arith)), refl),
  (
    words_of optional ++ (words_of first-term ++ words_of second-term),
    [],
    refl,
    (
      optional,
      words_of first-term ++ words_of second-term,
      refl,
      refl,
      record {
        kind-is = refl;
        size_is = refl;
        field_is = refl;
        norms-is = refl;
        terms = (first-term, words_of second-term, refl, term-held 9 0 0 0 0 0 first-term refl refl, refl, (second-term, [], refl, second-held 0, refl, refl));
        worked-out = λ d e. absurd (omega arith);
      },
      (refl, score-held),
      λ t g h. absurd (omega arith),
    ),
    refl,
  ),
  (words_of prohibited, [], refl, (prohibited, [], refl, refl, (refl, refl, refl, refl), (refl, score-held), λ t g h. record { from = omega arith; top = lit≤ tt; before = λ d a b. refl; hit = λ i. absurd (omega arith) }), refl),
)

-- two buffers of one place, from document 0 on, one level of children
pub met : AdvancePre (lists 3 postings positions []) 1 1 words 0 1
met = (lit≤ tt, (index, 1, tree, 1, record { in-starts = lit≤ tt; in-other = lit≤ tt }, record { lends = record { accepted = index-accepted; documents = refl; postings-are = refl; positions-are = refl }; sound = tree-sound; ok = tree-ok }))
