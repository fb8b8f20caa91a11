-- Records to words and back, one record in a turn. Assumes nothing.
use mathlib.Core.Path.{◌≡◌, refl, sym, ◌∙◌, ap}
use mathlib.Core.List.{List, [], ◌∷◌, ◌++◌, append_assoc, append-nil}
use Prim.Native.Nat.{ℕ, zero, suc, ◌+◌, ◌-◌, ◌*◌, ◌≤◌, ◌<◌}
use native.Mathlib.Omega.{arith}
use native.Mathlib.Numerals.{add-one}
use lib.ListN.{length, get_or, set, take, drop, length-append, length-drop, length-set}
use lib.Seq.{take_all, drop-length, take-suc, take-suc-set, drop-set-lt, take-add, drop-drop, take_at, drop-append-add, length-take-le}
use Rattle.meaning.specs.Limits.{node_state_words}
use Rattle.tree_weight.specs.State.{words_of}
use Rattle.tree_words.specs.declared.state.NodeState.{NodeState}
use Rattle.tree_records.specs.Records.{state_of, record_words, node_from}

-- the words with a record at i
abbrev pub put_node : List ℕ → ℕ → NodeState → List ℕ
put_node w i s = take (node_state_words * i) w ++ (words_of (state_of s) ++ drop (node_state_words * i + node_state_words) w)

abbrev pub none : NodeState
none = node_from []

-- a part from `at` to the end, and what its first words are afterwards
pub whole_part : (w : List ℕ) (at : ℕ) → take (length w - at) (drop at w) ≡ drop at w
whole_part w at = let d = length-drop at w in take_all (length w - at) (drop at w) (omega (arith, d))

pub part-put : (w out words : List ℕ) (at : ℕ) → at ≤ length w → out ≡ words ++ drop node_state_words (take (length w - at) (drop at w)) → take at w ++ (out ++ drop (length w - at) (drop at w)) ≡ take at w ++ (words ++ drop (at + node_state_words) w)
part-put w out words at h e =
    let end : drop (length w - at) (drop at w) ≡ [] = drop-drop (length w - at) at w ∙ ap (λ (n : ℕ). drop n w) (sums at (length w) h) ∙ drop-length w in
    ap (λ (l : List ℕ). take at w ++ (out ++ l)) end ∙ ap (λ (l : List ℕ). take at w ++ l) (append-nil out ∙ e ∙ ap (λ (l : List ℕ). words ++ drop node_state_words l) (whole_part w at) ∙ ap (λ (l : List ℕ). words ++ l) (drop-drop node_state_words at w))
  where
    sums : (a n : ℕ) → a ≤ n → a + (n - a) ≡ n
    sums a n h = omega arith

-- the words after the first n turns
abbrev pub put_all : List NodeState → ℕ → List ℕ → List ℕ
put_all ns zero w = w
put_all ns (suc n) w = put_node (put_all ns n w) n (get_or ns n none)

-- the records after the first n turns
abbrev pub take_nodes : List ℕ → ℕ → List NodeState → List NodeState
take_nodes w zero ns = ns
take_nodes w (suc n) ns = set (take_nodes w n ns) n (node_from (drop (node_state_words * n) w))

pub taken-length : (w : List ℕ) (n : ℕ) (ns : List NodeState) → length (take_nodes w n ns) ≡ length ns
taken-length w zero ns = refl
taken-length w (suc n) ns = length-set (take_nodes w n ns) n (node_from (drop (node_state_words * n) w)) ∙ taken-length w n ns

pub words_append : (xs ys : List NodeState) → record_words (xs ++ ys) ≡ record_words xs ++ record_words ys
unfolding record_words
words_append [] ys = refl
words_append (x ∷ xs) ys = ap (λ (l : List ℕ). words_of (state_of x) ++ l) (words_append xs ys) ∙ sym (append_assoc (words_of (state_of x)) (record_words xs) (record_words ys))

words-none : record_words [] ≡ []
unfolding record_words
words-none = refl

words-one : (x : NodeState) → record_words (x ∷ []) ≡ words_of (state_of x)
unfolding record_words
words-one x = refl

pub words-length : (xs : List NodeState) → length (record_words xs) ≡ node_state_words * length xs
unfolding record_words
words-length [] = refl
words-length (x ∷ xs) = let e = words-length xs in let a = length-append (words_of (state_of x)) (record_words xs) in omega (arith, a, e)

pub words_take : (ns : List NodeState) (n : ℕ) → n ≤ length ns → length (record_words (take n ns)) ≡ node_state_words * n
words_take ns n h = words-length (take n ns) ∙ ap (λ (m : ℕ). node_state_words * m) (length-take-le n ns h)

words_more : (ns : List NodeState) (n : ℕ) → n < length ns → record_words (take (suc n) ns) ≡ record_words (take n ns) ++ words_of (state_of (get_or ns n none))
words_more ns n h = ap record_words (take-suc ns n none h) ∙ words_append (take n ns) (get_or ns n none ∷ []) ∙ ap (λ (l : List ℕ). record_words (take n ns) ++ l) (words-one (get_or ns n none))

-- the words tell the records
pub same-records : (xs ys : List NodeState) → length xs ≡ length ys → record_words xs ≡ record_words ys → xs ≡ ys
unfolding record_words
same-records [] [] l e = refl
same-records [] (y ∷ ys) l e = absurd (omega (arith, l))
same-records (x ∷ xs) [] l e = absurd (omega (arith, l))
same-records (x ∷ xs) (y ∷ ys) l e =
    let first : x ≡ y = ap node_from e in
    let others = same-records xs ys (omega (arith, l)) (ap (λ (w : List ℕ). drop node_state_words w) e) in
    ap (λ (z : NodeState). z ∷ xs) first ∙ ap (λ (zs : List NodeState). y ∷ zs) others

-- all turns of `unpack`
pub all-put : (ns : List NodeState) (n : ℕ) (w : List ℕ) → n ≤ length ns → node_state_words * n ≤ length w → put_all ns n w ≡ record_words (take n ns) ++ drop (node_state_words * n) w
all-put ns zero w h g = ap (λ (l : List ℕ). l ++ w) (sym words-none)
all-put ns (suc n) w h g =
    let s = get_or ns n none in
    let X = record_words (take n ns) in
    let D = drop (node_state_words * n) w in
    let long = words_take ns n (omega (arith, h)) in
    let e = all-put ns n w (omega (arith, h)) (omega (arith, g)) in
    ap (λ (l : List ℕ). put_node l n s) e
    ∙ ap (λ (l : List ℕ). l ++ (words_of (state_of s) ++ drop (node_state_words * n + node_state_words) (X ++ D))) (take_at X D (node_state_words * n) long)
    ∙ ap (λ (l : List ℕ). X ++ (words_of (state_of s) ++ l)) (after X D (node_state_words * n) long ∙ drop-drop node_state_words (node_state_words * n) w ∙ ap (λ (m : ℕ). drop m w) (next n))
    ∙ sym (append_assoc X (words_of (state_of s)) (drop (node_state_words * suc n) w))
    ∙ ap (λ (l : List ℕ). l ++ drop (node_state_words * suc n) w) (sym (words_more ns n (omega (arith, h))))
  where
    after : (X D : List ℕ) (k : ℕ) → length X ≡ k → drop (k + node_state_words) (X ++ D) ≡ drop node_state_words D
    after X D k e = ap (λ (m : ℕ). drop (m + node_state_words) (X ++ D)) (sym e) ∙ drop-append-add X D node_state_words

    next : (n : ℕ) → node_state_words * n + node_state_words ≡ node_state_words * suc n
    next n = omega arith

-- the first j words, one after the other
abbrev prefix : ℕ → List ℕ → List ℕ
prefix zero y = []
prefix (suc j) y = prefix j y ++ (get_or y j 0 ∷ [])

prefix-is : (j : ℕ) (y : List ℕ) → j ≤ length y → take j y ≡ prefix j y
prefix-is zero y h = refl
prefix-is (suc j) y h = take-suc y j 0 (omega (arith, h)) ∙ ap (λ (l : List ℕ). l ++ (get_or y j 0 ∷ [])) (prefix-is j y (omega (arith, h)))

-- the words of a record that was read are those it was read from
pub from-words : (y : List ℕ) → node_state_words ≤ length y → words_of (state_of (node_from y)) ≡ take node_state_words y
from-words y h = sym (prefix-is node_state_words y h)

-- all turns of `pack`
pub all-taken : (w : List ℕ) (n : ℕ) (ns : List NodeState) → n ≤ length ns → node_state_words * n ≤ length w → record_words (take n (take_nodes w n ns)) ≡ take (node_state_words * n) w
all-taken w zero ns h g = words-none
all-taken w (suc n) ns h g =
    let T = take_nodes w n ns in
    let x = node_from (drop (node_state_words * n) w) in
    let long = taken-length w n ns in
    let d = length-drop (node_state_words * n) w in
    ap record_words (take-suc-set T n x (omega (arith, long, h)))
    ∙ words_append (take n T) (x ∷ [])
    ∙ ap (λ (l : List ℕ). record_words (take n T) ++ l) (words-one x ∙ from-words (drop (node_state_words * n) w) (omega (arith, d, g)))
    ∙ ap (λ (l : List ℕ). l ++ take node_state_words (drop (node_state_words * n) w)) (all-taken w n ns (omega (arith, h)) (omega (arith, g)))
    ∙ sym (take-add (node_state_words * n) node_state_words w)
    ∙ ap (λ (m : ℕ). take m w) (next n)
  where
    next : (n : ℕ) → node_state_words * n + node_state_words ≡ node_state_words * suc n
    next n = omega arith

pub rest-stays : (w : List ℕ) (n : ℕ) (ns : List NodeState) → drop n (take_nodes w n ns) ≡ drop n ns
rest-stays w zero ns = refl
rest-stays w (suc n) ns =
    drop-set-lt (suc n) (take_nodes w n ns) n (node_from (drop (node_state_words * n) w)) (omega arith)
    ∙ further n (take_nodes w n ns) ∙ ap (λ (l : List NodeState). drop 1 l) (rest-stays w n ns) ∙ sym (further n ns)
  where
    further : (n : ℕ) (l : List NodeState) → drop (suc n) l ≡ drop 1 (drop n l)
    further n l = ap (λ (m : ℕ). drop m l) (sym (add-one n)) ∙ sym (drop-drop 1 n l)
