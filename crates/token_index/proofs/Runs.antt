-- A leaf's run over the first i tokens: how it grows, how long it is, how many positions it has. Assumes nothing.
use mathlib.Core.Path.{◌≡◌, refl, sym, ap, ap₂, ◌∙◌}
use mathlib.Core.Logic.{⊎_elim}
use mathlib.Core.Bool.{Bool, true, false, cond, ◌&&◌, and-true}
use mathlib.Core.List.{List, [], ◌∷◌, ◌++◌, map, map-append, append-nil}
use Prim.Native.Nat.{ℕ, zero, suc, ◌+◌, ◌-◌, ◌≤◌, ◌<◌}
use native.Mathlib.Nat.{le_refl, eq-or-lt_of_le, add-zero, zero-add, not-suc-le-zero}
use native.Mathlib.Omega.{arith}
use borrow.Author.Tests.{eq-eqb, ne_eqb, lt-ltb, le-ltb, ltb-true, ltb-false}
use lib.Dec.{eqb, ltb}
use lib.ListN.{length, length-append}
use Rattle.meaning.specs.Below.{count_below, sum_below, list_below, list_to}
use Rattle.meaning.specs.Packed.{Posting, positions_in}
use Rattle.meaning.specs.Tokens.{Token, token_at, positions_at, posting_for, run_for}
use Rattle.meaning.proofs.Below.{last-or-below, length-list_to}
use Rattle.meaning.proofs.Sums.{sum_same, sum-none, sum-plus, sum_one}
use Rattle.meaning.proofs.Tests.{decided, cmp}
use Rattle.index.proofs.Chains.{count-like}
use Rattle.packed.proofs.Longer.{positions-append}
use Rattle.token_index.proofs.Positions.{tokens_to, is_at, not-here, at_leaf, at-document, at-nil, at_next, at-grows, at-longer, at_same, at_none, at_some}

-- ---- by the number of documents
-- leaf l is in document d
abbrev pub is_in : List Token → ℕ → ℕ → Bool
is_in ts l d = ltb 0 (length (positions_at ts l d))

-- its posting there, if it is
abbrev pub posting_if : Bool → List Token → ℕ → ℕ → List Posting
posting_if p ts l d = cond (is_in ts l d) (posting_for p ts l d ∷ []) []

pub run-zero : (p : Bool) (ts : List Token) (l : ℕ) → run_for p 0 ts l ≡ []
unfolding run_for list_below
run-zero p ts l = refl

-- one document more
pub run-next : (p : Bool) (n : ℕ) (ts : List Token) (l : ℕ) → run_for p (suc n) ts l ≡ run_for p n ts l ++ posting_if p ts l n
unfolding run_for list_below
run-next p n ts l =
    map-append (posting_for p ts l) (list_below n (is_in ts l)) (cond (is_in ts l n) (n ∷ []) [])
    ∙ ap (λ (xs : List Posting). map (posting_for p ts l) (list_below n (is_in ts l)) ++ xs) (own (is_in ts l n))
  where
    own : (b : Bool) → map (posting_for p ts l) (cond b (n ∷ []) []) ≡ cond b (posting_for p ts l n ∷ []) []
    own true = refl
    own false = refl

none-if : (p : Bool) (ts : List Token) (l d : ℕ) → positions_at ts l d ≡ [] → posting_if p ts l d ≡ []
none-if p ts l d e = ap (λ (b : Bool). cond b (posting_for p ts l d ∷ []) []) (ap (λ (xs : List ℕ). ltb 0 (length xs)) e ∙ le-ltb 0 0 (le_refl 0))

some-if : (p : Bool) (ts : List Token) (l d : ℕ) → 0 < length (positions_at ts l d) → posting_if p ts l d ≡ posting_for p ts l d ∷ []
some-if p ts l d h = ap (λ (b : Bool). cond b (posting_for p ts l d ∷ []) []) (lt-ltb 0 (length (positions_at ts l d)) h)

-- the posting of d by the positions there
abbrev pub posting_by : Bool → ℕ → List ℕ → Posting
posting_by p d xs = record { document = d; frequency = length xs; positions = cond p xs [] }

abbrev pub posting_by_if : Bool → ℕ → List ℕ → List Posting
posting_by_if p d xs = cond (ltb 0 (length xs)) (posting_by p d xs ∷ []) []

-- what is so of it with positions and without
pub by-if : {A : Type 0} (f : List Posting → A) (p : Bool) (d : ℕ) (xs : List ℕ) (v : A)
    → f (posting_by p d xs ∷ []) ≡ v
    → (length xs ≡ 0 → f [] ≡ v)
    → f (posting_by_if p d xs) ≡ v
by-if f p d xs v some none =
    ⊎_elim
    (λ (e : ltb 0 (length xs) ≡ true). ap (λ (b : Bool). f (cond b (posting_by p d xs ∷ []) [])) e ∙ some)
    (λ (e : ltb 0 (length xs) ≡ false). ap (λ (b : Bool). f (cond b (posting_by p d xs ∷ []) [])) e ∙ none (omega (arith, ltb-false 0 (length xs) e)))
    (decided (ltb 0 (length xs)))

-- two lists of tokens with the same positions in each document
pub run-same : (p : Bool) (n : ℕ) (us vs : List Token) (l : ℕ)
    → ((d : ℕ) → d < n → positions_at us l d ≡ positions_at vs l d)
    → run_for p n us l ≡ run_for p n vs l
run-same p zero us vs l h = run-zero p us l ∙ sym (run-zero p vs l)
run-same p (suc n) us vs l h =
    run-next p n us l
    ∙ ap₂ (λ (xs : List Posting) (ys : List ℕ). xs ++ posting_by_if p n ys) (run-same p n us vs l (λ d k. h d (omega arith))) (h n (le_refl _))
    ∙ sym (run-next p n vs l)

-- documents from m on in which the leaf is not
pub run-below : (p : Bool) (n : ℕ) (ts : List Token) (l m : ℕ)
    → m ≤ n
    → ((d : ℕ) → m ≤ d → d < n → positions_at ts l d ≡ [])
    → run_for p n ts l ≡ run_for p m ts l
run-below p zero ts l m b h = let e : m ≡ 0 = omega arith in ap (λ (k : ℕ). run_for p k ts l) (sym e)
run-below p (suc n) ts l m b h =
    ⊎_elim
    (λ (e : m ≡ suc n). ap (λ (k : ℕ). run_for p k ts l) (sym e))
    (λ (g : m < suc n). step g (run-below p n ts l m (omega (arith, g)) (λ d c k. h d c (omega arith))))
    (eq-or-lt_of_le b)
  where
    step : m < suc n → run_for p n ts l ≡ run_for p m ts l → run_for p (suc n) ts l ≡ run_for p m ts l
    step g ih =
        run-next p n ts l
        ∙ ap (λ (xs : List Posting). run_for p n ts l ++ xs) (none-if p ts l n (h n (omega arith) (le_refl _)))
        ∙ append-nil (run_for p n ts l)
        ∙ ih

pub run_none : (p : Bool) (n l : ℕ) → run_for p n [] l ≡ []
run_none p n l = run-below p n [] l 0 (omega arith) (λ d c k. at-nil l d) ∙ run-zero p [] l

-- ---- by the number of tokens
-- tokens of leaf l in document d, and none of l beyond d before them: what is before d stays, and d's posting is the
-- last
module _ (p : Bool) (n : ℕ) (ws : List ℕ) (l d i e : ℕ)
    (order : i < e)
    (below : d < n)
    (own : (k : ℕ) → i ≤ k → k < e → ((token_at ws k).leaf ≡ l) × ((token_at ws k).document ≡ d))
    (before : (k : ℕ) → k < i → (token_at ws k).leaf ≡ l → (token_at ws k).document ≤ d)
  where
    -- no token of the leaf beyond d
    none-beyond : (c : ℕ) → c ≤ e → (x : ℕ) → d < x → positions_at (tokens_to ws c) l x ≡ []
    none-beyond c b x g =
        at_none (token_at ws) l x c
        (λ j h a f. ⊎_elim (λ (r : j < i). absurd (omega (arith, before j r a, f, g))) (λ (r : i ≤ j). absurd (omega (arith, (own j r (omega arith)).1, f, g))) (cmp j i))

    pub run-split-before : run_for p n (tokens_to ws i) l ≡ run_for p d (tokens_to ws i) l ++ posting_if p (tokens_to ws i) l d
    run-split-before =
        run-below p n (tokens_to ws i) l (suc d) below (λ x c k. none-beyond i (omega arith) x c)
        ∙ run-next p d (tokens_to ws i) l

    pub run-split-after : run_for p n (tokens_to ws e) l ≡ run_for p d (tokens_to ws i) l ++ (posting_for p (tokens_to ws e) l d ∷ [])
    run-split-after =
        run-below p n (tokens_to ws e) l (suc d) below (λ x c k. none-beyond e (le_refl e) x c)
        ∙ run-next p d (tokens_to ws e) l
        ∙ ap₂ (λ (xs ys : List Posting). xs ++ ys)
        (run-same p d (tokens_to ws e) (tokens_to ws i) l (λ x g. at_same ws l x i e (omega arith) (λ k a b c f. absurd (omega (arith, (own k a b).1, f, g)))))
        (some-if p (tokens_to ws e) l d (at_some ws l d e i order (own i (le_refl i) order).0 (own i (le_refl i) order).1))

-- tokens of leaf l in document d, behind all others of the leaf: one posting more
pub run-longer : (p : Bool) (n : ℕ) (ws : List ℕ) (l d i e : ℕ)
    → i < e
    → d < n
    → ((k : ℕ) → i ≤ k → k < e → ((token_at ws k).leaf ≡ l) × ((token_at ws k).document ≡ d))
    → ((k : ℕ) → k < i → (token_at ws k).leaf ≡ l → (token_at ws k).document < d)
    → run_for p n (list_to e (token_at ws)) l ≡
    run_for p n (list_to i (token_at ws)) l ++ (record { document = d; frequency = e - i; positions = cond p (list_to (e - i) (λ j. (token_at ws (i + j)).position)) [] } ∷ [])
run-longer p n ws l d i e order below own before =
    let us = tokens_to ws i in
    let xs = list_to (e - i) (λ j. (token_at ws (i + j)).position) in
    let empty : positions_at us l d ≡ [] = at_none (token_at ws) l d i (λ j h a f. absurd (omega (arith, before j h a, f))) in
    let here : positions_at (tokens_to ws e) l d ≡ xs = at-longer ws l d i e (omega arith) own ∙ ap (λ (ys : List ℕ). ys ++ xs) empty in
    let up_to : (k : ℕ) → k < i → (token_at ws k).leaf ≡ l → (token_at ws k).document ≤ d = λ k h a. omega (arith, before k h a) in
    let same : run_for p n us l ≡ run_for p d us l =
    run-split-before p n ws l d i e order below own up_to ∙ ap (λ (ys : List Posting). run_for p d us l ++ ys) (none-if p us l d empty) ∙ append-nil (run_for p d us l) in
    run-split-after p n ws l d i e order below own up_to
    ∙ ap₂ (λ (rs : List Posting) (x : Posting). rs ++ (x ∷ []))
    (sym same)
    (ap (posting_by p d) here ∙ ap (λ (f : ℕ). record { document = d; frequency = f; positions = cond p xs [] }) (length-list_to (e - i) (λ j. (token_at ws (i + j)).position)))

-- tokens of other leaves
pub run-other : (p : Bool) (n : ℕ) (ws : List ℕ) (l i e : ℕ)
    → i ≤ e
    → ((k : ℕ) → i ≤ k → k < e → (token_at ws k).leaf ≡ l → ⊥)
    → run_for p n (list_to e (token_at ws)) l ≡ run_for p n (list_to i (token_at ws)) l
run-other p n ws l i e order h = run-same p n (tokens_to ws e) (tokens_to ws i) l (λ d g. at_same ws l d i e order (λ k a b c f. h k a b c))

-- ---- how long it is
-- a posting for each document in which the leaf is
pub run-number : (p : Bool) (n : ℕ) (ts : List Token) (l : ℕ) → length (run_for p n ts l) ≡ count_below n (is_in ts l)
unfolding count_below
run-number p zero ts l = ap length (run-zero p ts l)
run-number p (suc n) ts l =
    ap length (run-next p n ts l)
    ∙ length-append (run_for p n ts l) (posting_if p ts l n)
    ∙ ap₂ (λ (a b : ℕ). a + b) (run-number p n ts l) (one (is_in ts l n))
  where
    one : (b : Bool) → length (cond b (posting_for p ts l n ∷ []) []) ≡ cond b 1 0
    one true = refl
    one false = refl

count-more-of : (n : ℕ) (p q : ℕ → Bool) → ((i : ℕ) → i < n → p i ≡ true → q i ≡ true) → count_below n p ≤ count_below n q
unfolding count_below
count-more-of zero p q h = omega arith
count-more-of (suc n) p q h = omega (arith, count-more-of n p q (λ i l. h i (omega arith)), step (p n) (q n) (h n (le_refl _)))
  where
    step : (a b : Bool) → (a ≡ true → b ≡ true) → cond a 1 0 ≤ cond b 1 0
    step true b g = let e : ◌≡◌ {A = ℕ} (cond b 1 0) 1 = ap (λ (c : Bool). cond c 1 0) (g refl) in omega (arith, e)
    step false b g = omega arith

pub run-grows : (p : Bool) (n : ℕ) (ws : List ℕ) (l i e : ℕ)
    → i ≤ e
    → length (run_for p n (list_to i (token_at ws)) l) ≤ length (run_for p n (list_to e (token_at ws)) l)
run-grows p n ws l i e order =
    let us = tokens_to ws i in
    let vs = tokens_to ws e in
    let more = count-more-of n (is_in us l) (is_in vs l) (λ d g h. lt-ltb 0 (length (positions_at vs l d)) (omega (arith, at-grows ws l d i e order, ltb-true 0 (length (positions_at us l d)) h))) in
    omega (arith, run-number p n us l, run-number p n vs l, more)

-- a token of a leaf and a document that were there
pub run-repeat : (p : Bool) (n : ℕ) (ws : List ℕ) (l i k : ℕ)
    → k < i
    → (token_at ws k).leaf ≡ (token_at ws i).leaf
    → (token_at ws k).document ≡ (token_at ws i).document
    → length (run_for p n (list_to (suc i) (token_at ws)) l) ≡ length (run_for p n (list_to i (token_at ws)) l)
run-repeat p n ws l i k order a b =
    run-number p n (tokens_to ws (suc i)) l
    ∙ count-like n (is_in (tokens_to ws (suc i)) l) (is_in (tokens_to ws i) l) each
    ∙ sym (run-number p n (tokens_to ws i) l)
  where
    each : (d : ℕ) → d < n → is_in (tokens_to ws (suc i)) l d ≡ is_in (tokens_to ws i) l d
    each d g = go (is_at (token_at ws i) l d) refl
      where
        go : (c : Bool) → is_at (token_at ws i) l d ≡ c → is_in (tokens_to ws (suc i)) l d ≡ is_in (tokens_to ws i) l d
        go true e =
            let here = at_some ws l d i k order (a ∙ at_leaf (token_at ws i) l d e) (b ∙ at-document (token_at ws i) l d e) in
            lt-ltb 0 (length (positions_at (tokens_to ws (suc i)) l d)) (omega (arith, here, at-grows ws l d i (suc i) (omega arith)))
            ∙ sym (lt-ltb 0 (length (positions_at (tokens_to ws i) l d)) here)
        go false e =
            ap (λ (xs : List ℕ). ltb 0 (length xs))
            (at_next (token_at ws) l d i ∙ ap (λ (c : Bool). positions_at (tokens_to ws i) l d ++ cond c ((token_at ws i).position ∷ []) []) e ∙ append-nil (positions_at (tokens_to ws i) l d))

-- ---- how many positions it has
zeros : (b : Bool) → ◌≡◌ {A = ℕ} (cond b 0 0) 0
zeros true = refl
zeros false = refl

-- the positions of a run, those of each document in turn
run-positions : (p : Bool) (n : ℕ) (ts : List Token) (l : ℕ) → length (positions_in (run_for p n ts l)) ≡ cond p (sum_below n (λ d. length (positions_at ts l d))) 0
unfolding positions_in sum_below
run-positions p zero ts l = ap (λ (rs : List Posting). length (positions_in rs)) (run-zero p ts l) ∙ sym (zeros p)
run-positions p (suc n) ts l =
    let r = run_for p n ts l in
    let x = posting_if p ts l n in
    ap (λ (rs : List Posting). length (positions_in rs)) (run-next p n ts l)
    ∙ ap length (positions-append r x)
    ∙ length-append (positions_in r) (positions_in x)
    ∙ ap₂ (λ (a b : ℕ). a + b) (run-positions p n ts l) (own p (positions_at ts l n))
    ∙ plus p (sum_below n (λ d. length (positions_at ts l d))) (length (positions_at ts l n))
  where
    plus : (b : Bool) (x y : ℕ) → cond b x 0 + cond b y 0 ≡ cond b (x + y) 0
    plus true x y = refl
    plus false x y = refl

    chosen : (b : Bool) (xs : List ℕ) → length (positions_in (posting_by b n xs ∷ [])) ≡ cond b (length xs) 0
    chosen true xs = ap length (append-nil xs)
    chosen false xs = refl

    own : (b : Bool) (xs : List ℕ) → length (positions_in (posting_by_if b n xs)) ≡ cond b (length xs) 0
    own b xs = by-if (λ r. length (positions_in r)) b n xs (cond b (length xs) 0) (chosen b xs) (λ z. sym (ap (λ (k : ℕ). cond b k 0) z ∙ zeros b))

-- every token of the leaf is in one of the documents
tokens-of-leaf : (n : ℕ) (ws : List ℕ) (l i : ℕ)
    → ((k : ℕ) → k < i → (token_at ws k).document < n)
    → sum_below n (λ d. length (positions_at (tokens_to ws i) l d)) ≡ count_below i (λ k. eqb (token_at ws k).leaf l)
unfolding count_below list_to
tokens-of-leaf n ws l zero h = sum-none n (λ d. length (positions_at [] l d)) (λ d g. ap length (at-nil l d))
tokens-of-leaf n ws l (suc i) h =
    sum_same n (λ d. length (positions_at (tokens_to ws i) l d) + own d) (λ d. length (positions_at (tokens_to ws (suc i)) l d)) (λ d g. longer d)
    ∙ sum-plus n (λ d. length (positions_at (tokens_to ws i) l d)) own
    ∙ ap₂ (λ (a b : ℕ). a + b) (tokens-of-leaf n ws l i (λ k g. h k (omega arith))) once
  where
    own : ℕ → ℕ
    own d = cond (is_at (token_at ws i) l d) 1 0

    longer : (d : ℕ) → length (positions_at (tokens_to ws (suc i)) l d) ≡ length (positions_at (tokens_to ws i) l d) + own d
    longer d =
        ap length (at_next (token_at ws) l d i)
        ∙ length-append (positions_at (tokens_to ws i) l d) (cond (is_at (token_at ws i) l d) ((token_at ws i).position ∷ []) [])
        ∙ ap (λ (k : ℕ). length (positions_at (tokens_to ws i) l d) + k) (one (is_at (token_at ws i) l d))
      where
        one : (b : Bool) → length (cond b ((token_at ws i).position ∷ []) []) ≡ cond b 1 0
        one true = refl
        one false = refl

    once : sum_below n own ≡ cond (eqb (token_at ws i).leaf l) 1 0
    once =
        sum_one n own (token_at ws i).document (cond (eqb (token_at ws i).leaf l) 1 0) (h i (le_refl _))
        (ap (λ (b : Bool). cond b 1 0) (ap (λ (b : Bool). eqb (token_at ws i).leaf l && b) (eq-eqb (token_at ws i).document (token_at ws i).document refl) ∙ and-true (eqb (token_at ws i).leaf l)))
        (λ d ne. ap (λ (b : Bool). cond b 1 0) (not-here (token_at ws i) l d (λ a b. ne (sym b))))

pub positions-number : (p : Bool) (n : ℕ) (ws : List ℕ) (l i : ℕ)
    → ((k : ℕ) → k < i → (token_at ws k).document < n)
    → length (positions_in (run_for p n (list_to i (token_at ws)) l)) ≡ cond p (count_below i (λ k. eqb (token_at ws k).leaf l)) 0
positions-number p n ws l i h = run-positions p n (tokens_to ws i) l ∙ ap (λ (k : ℕ). cond p k 0) (tokens-of-leaf n ws l i h)

-- ---- its frequencies
-- the frequencies of a run's postings of document d, added
unfoldable pub frequency_in : List Posting → ℕ → ℕ
frequency_in [] d = 0
frequency_in (x ∷ xs) d = cond (eqb x.document d) x.frequency 0 + frequency_in xs d

frequency-append : (xs ys : List Posting) (d : ℕ) → frequency_in (xs ++ ys) d ≡ frequency_in xs d + frequency_in ys d
unfolding frequency_in
frequency-append [] ys d = sym (zero-add (frequency_in ys d))
frequency-append (x ∷ xs) ys d = omega (arith, frequency-append xs ys d)

-- one document more
frequency-next : (p : Bool) (n : ℕ) (ts : List Token) (l d : ℕ) → frequency_in (run_for p (suc n) ts l) d ≡ frequency_in (run_for p n ts l) d + cond (eqb n d) (length (positions_at ts l n)) 0
unfolding frequency_in
frequency-next p n ts l d =
    ap (λ (rs : List Posting). frequency_in rs d) (run-next p n ts l)
    ∙ frequency-append (run_for p n ts l) (posting_if p ts l n) d
    ∙ ap (λ (k : ℕ). frequency_in (run_for p n ts l) d + k) (own (positions_at ts l n))
  where
    own : (xs : List ℕ) → frequency_in (posting_by_if p n xs) d ≡ cond (eqb n d) (length xs) 0
    own xs =
        let v = cond (eqb n d) (length xs) 0 in
        by-if (λ r. frequency_in r d) p n xs v (add-zero v) (λ z. sym (ap (λ (k : ℕ). cond (eqb n d) k 0) z ∙ zeros (eqb n d)))

frequency-above : (p : Bool) (n : ℕ) (ts : List Token) (l d : ℕ) → n ≤ d → frequency_in (run_for p n ts l) d ≡ 0
unfolding frequency_in
frequency-above p zero ts l d h = ap (λ (rs : List Posting). frequency_in rs d) (run-zero p ts l)
frequency-above p (suc n) ts l d h =
    frequency-next p n ts l d
    ∙ ap₂ (λ (a : ℕ) (b : Bool). a + cond b (length (positions_at ts l n)) 0) (frequency-above p n ts l d (omega arith)) (ne_eqb n d (λ e. absurd (omega (arith, e, h))))

pub run-frequency : (p : Bool) (n : ℕ) (ts : List Token) (l d : ℕ) → d < n → frequency_in (run_for p n ts l) d ≡ length (positions_at ts l d)
run-frequency p zero ts l d h = absurd (not-suc-le-zero h)
run-frequency p (suc n) ts l d h = ⊎_elim here (λ (g : d < n). before g (run-frequency p n ts l d g)) (last-or-below d n h)
  where
    added : ℕ → Bool → ℕ
    added a b = a + cond b (length (positions_at ts l n)) 0

    here : d ≡ n → frequency_in (run_for p (suc n) ts l) d ≡ length (positions_at ts l d)
    here e =
        frequency-next p n ts l d
        ∙ ap₂ added (frequency-above p n ts l d (omega (arith, e))) (eq-eqb n d (sym e))
        ∙ zero-add (length (positions_at ts l n))
        ∙ ap (λ (k : ℕ). length (positions_at ts l k)) (sym e)

    before : d < n → frequency_in (run_for p n ts l) d ≡ length (positions_at ts l d) → frequency_in (run_for p (suc n) ts l) d ≡ length (positions_at ts l d)
    before g ih =
        frequency-next p n ts l d ∙ ap₂ added ih (ne_eqb n d (λ e. absurd (omega (arith, e, g)))) ∙ add-zero (length (positions_at ts l d))
