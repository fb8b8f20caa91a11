-- A leaf's run written token by token: what is written after some of its tokens, at the start, after a token more, at the end. Assumes nothing.
use mathlib.Core.Path.{◌≡◌, refl, sym, ap, ap₂, ◌∙◌, subst}
use mathlib.Core.Logic.{◌⊎◌, ⊎_elim}
use mathlib.Core.Bool.{Bool, true, false, cond}
use mathlib.Core.List.{List, [], ◌∷◌, ◌++◌, append-nil, append_assoc}
use Prim.Native.Nat.{ℕ, zero, suc, ◌+◌, ◌-◌, ◌*◌, ◌≤◌, ◌<◌}
use native.Mathlib.Nat.{le_refl, eq-or-lt_of_le, add-zero}
use native.Mathlib.Omega.{arith}
use lib.ListN.{length, length-append}
use lib.Seq.{sets, length-sets}
use Rattle.meaning.specs.Below.{list_to}
use Rattle.std.proofs.Common.{Option, Some, None}
use Rattle.meaning.specs.Packed.{Posting, positions_in, pack_run}
use Rattle.meaning.specs.Tokens.{token_count, token_at, tokens_of, run_for}
use Rattle.meaning.proofs.Below.{list_to-zero, length-list_to}
use Rattle.meaning.proofs.Tests.{cmp}
use Rattle.packed.proofs.Longer.{positions-append, run-append, run_length}
use Rattle.token_index.proofs.Runs.{run_none, run-longer, run-other, run-grows}
use Rattle.tokens.specs.declared.Token.{Token}
use Rattle.tokens.specs.Records.{token_of}
use Rattle.token_writer.specs.declared.postings.Cursor.{Cursor}
use Rattle.token_writer.specs.Writing.{Begins, WritePostingsPre, WritePostingsPost, WriteRunPre, WriteRunPost}
use Rattle.meaning.proofs.Stores.{sets_behind, sets_over}

-- the run of leaf l in the first i tokens
abbrev pub run_to : Bool → ℕ → List ℕ → ℕ → ℕ → List Posting
run_to p n ws l i = run_for p n (list_to i (token_at ws)) l

run-whole : (p : Bool) (n : ℕ) (ws : List ℕ) (l : ℕ) → run_for p n (tokens_of ws) l ≡ run_to p n ws l (token_count ws)
unfolding tokens_of
run-whole p n ws l = refl

-- a list in two parts
list_to-parts {ℓ} : {A : Type ℓ} (f g : ℕ → A) (a b : ℕ) → ((j : ℕ) → g j ≡ f (a + j)) → list_to (a + b) f ≡ list_to a f ++ list_to b g
unfolding list_to
list_to-parts f g a zero h = ap (λ (k : ℕ). list_to k f) (add-zero a) ∙ sym (append-nil (list_to a f))
list_to-parts f g a (suc b) h =
    let e : a + suc b ≡ suc (a + b) = omega arith in
    ap (λ (k : ℕ). list_to k f) e
    ∙ ap₂ (λ xs x. xs ++ (x ∷ [])) (list_to-parts f g a b h) (sym (h b))
    ∙ append_assoc (list_to a f) (list_to b g) (g b ∷ [])

-- the numbers of two equal `Some`s
pub inner : {a b : ℕ} → Some a ≡ Some b → a ≡ b
inner e = cc

-- there are no more positions than tokens
pub number-le : (p : Bool) (k : ℕ) → cond p k 0 ≤ k
number-le true k = le_refl k
number-le false k = omega arith

-- postings with the run of the tokens before `token` written to them: `start` the first token of the last posting, `next` the posting behind it, `before` the document of the last token, where there is one
pub record Upto (n : ℕ) (ws : List ℕ) (l : ℕ) (p : Bool) (from posting position : ℕ) (postings₀ postings : List ℕ) (token next start : ℕ) (before : Option ℕ) : Type 0 where
  pub first : from ≤ start
  pub order : start ≤ token
  pub within : token ≤ token_count ws
  pub some : from < token → start < token
  pub none : token ≡ from → before ≡ None
  pub last : from < token → before ≡ Some (token_at ws (token - 1)).document
  pub own : (k : ℕ) → from ≤ k → k < token → (token_at ws k).leaf ≡ l
  pub same : (k : ℕ) → start ≤ k → k < token → (token_at ws k).document ≡ (token_at ws start).document
  pub lower : (k : ℕ) → k < start → (token_at ws k).leaf ≡ l → (token_at ws k).document < (token_at ws start).document
  pub places : positions_in (run_to p n ws l start) ≡ list_to (cond p (start - from) 0) (λ j. (token_at ws (from + j)).position)
  pub next_is : next ≡ posting + length (run_to p n ws l token)
  pub few_next : next ≤ token
  pub written : postings ≡ sets postings₀ (3 * posting) (pack_run p position (run_to p n ws l token))

-- the token is of the leaf, and its posting begins at `start` and has the number next - 1; its three words take the place of those there
pub record Turn (n : ℕ) (ws : List ℕ) (l : ℕ) (p : Bool) (from posting position : ℕ) (postings₀ postings : List ℕ) (token next start : ℕ) : Type 0 where
  pub first : from ≤ start
  pub order : start ≤ token
  pub within : token < token_count ws
  pub own : (k : ℕ) → from ≤ k → k < token + 1 → (token_at ws k).leaf ≡ l
  pub same : (k : ℕ) → start ≤ k → k < token + 1 → (token_at ws k).document ≡ (token_at ws start).document
  pub lower : (k : ℕ) → k < start → (token_at ws k).leaf ≡ l → (token_at ws k).document < (token_at ws start).document
  pub places : positions_in (run_to p n ws l start) ≡ list_to (cond p (start - from) 0) (λ j. (token_at ws (from + j)).position)
  pub next_is : next ≡ posting + length (run_to p n ws l start) + 1
  pub few_next : next ≤ token + 1
  pub stored : (a b c : ℕ) → sets postings (3 * (next - 1)) (a ∷ b ∷ c ∷ []) ≡ sets postings₀ (3 * posting) (pack_run p position (run_to p n ws l start) ++ (a ∷ b ∷ c ∷ []))

-- the stores kept the length
pub upto-length : (n : ℕ) (ws : List ℕ) (l : ℕ) (p : Bool) (from posting position : ℕ) (postings₀ postings : List ℕ) (token next start : ℕ) (before : Option ℕ) → Upto n ws l p from posting position postings₀ postings token next start before → length postings ≡ length postings₀
upto-length n ws l p from posting position postings₀ postings token next start before h = ap length h.written ∙ length-sets postings₀ (3 * posting) (pack_run p position (run_to p n ws l token))

module _ (n m : ℕ) (ws : List ℕ) (l : ℕ) (p : Bool) (from posting position a : ℕ) (pre : WritePostingsPre n m ws l p from posting position a) (postings₀ : List ℕ) where
  -- the position of the leaf's token j
  abbrev place : ℕ → ℕ
  place j = (token_at ws (from + j)).position

  -- no token before `from` is of the leaf
  none_yet : run_to p n ws l from ≡ []
  none_yet =
      run-other p n ws l 0 from (omega arith) (λ k _ h e. absurd (omega (arith, pre.begins.lower k h, e)))
      ∙ ap (λ ts. run_for p n ts l) (list_to-zero (token_at ws))
      ∙ run_none p n l

  pub upto-start : Upto n ws l p from posting position postings₀ postings₀ from posting from None
  unfolding pack_run positions_in
  upto-start =
      record {
        first = le_refl from;
        order = le_refl from;
        within = pre.begins.within;
        some = λ h. h;
        none = λ _. refl;
        last = λ h. absurd (omega (arith, h));
        own = λ k x y. absurd (omega (arith, x, y));
        same = λ k x y. absurd (omega (arith, x, y));
        lower = λ k h e. absurd (omega (arith, pre.begins.lower k h, e));
        places = ap positions_in none_yet ∙ sym (ap (λ (k : ℕ). list_to k place) (nothing p) ∙ list_to-zero place);
        next_is = sym (ap (λ (r : List Posting). posting + length r) none_yet ∙ add-zero posting);
        few_next = pre.few_postings;
        written = sym (ap (λ (r : List Posting). sets postings₀ (3 * posting) (pack_run p position r)) none_yet);
      }
    where
      nothing : (q : Bool) → cond q (from - from) 0 ≡ 0
      nothing true = omega arith
      nothing false = refl

  -- the tokens s up to e are all of one posting, its first ones
  module _ (s e : ℕ) (first : from ≤ s) (some : s < e) (within : e ≤ token_count ws)
      (own : (k : ℕ) → s ≤ k → k < e → (token_at ws k).leaf ≡ l)
      (same : (k : ℕ) → s ≤ k → k < e → (token_at ws k).document ≡ (token_at ws s).document)
      (lower : (k : ℕ) → k < s → (token_at ws k).leaf ≡ l → (token_at ws k).document < (token_at ws s).document)
      (places : positions_in (run_to p n ws l s) ≡ list_to (cond p (s - from) 0) place)
    where
      -- the posting
      abbrev added : Posting
      added = record { document = (token_at ws s).document; frequency = e - s; positions = cond p (list_to (e - s) (λ j. (token_at ws (s + j)).position)) [] }

      one_more : run_to p n ws l e ≡ run_to p n ws l s ++ (added ∷ [])
      one_more =
          run-longer p n ws l (token_at ws s).document s e some (pre.tokens.document s (omega (arith, some, within)))
          (λ k x y. (own k x y, same k x y))
          lower

      length_more : length (run_to p n ws l e) ≡ length (run_to p n ws l s) + 1
      length_more = ap length one_more ∙ length-append (run_to p n ws l s) (added ∷ [])

      words_more : pack_run p position (run_to p n ws l e) ≡ pack_run p position (run_to p n ws l s) ++ ((token_at ws s).document ∷ (e - s) ∷ cond p (position + (s - from)) 0 ∷ [])
      unfolding pack_run
      words_more =
          ap (pack_run p position) one_more
          ∙ run-append p position (run_to p n ws l s) (added ∷ [])
          ∙ ap (λ (k : ℕ). pack_run p position (run_to p n ws l s) ++ ((token_at ws s).document ∷ (e - s) ∷ k ∷ [])) (index p (length (positions_in (run_to p n ws l s))) (ap length places ∙ length-list_to (cond p (s - from) 0) place))
        where
          index : (q : Bool) (x : ℕ) → x ≡ cond q (s - from) 0 → cond q (position + x) 0 ≡ cond q (position + (s - from)) 0
          index true x h = ap (λ (k : ℕ). position + k) h
          index false x h = refl

      places-more : positions_in (run_to p n ws l e) ≡ list_to (cond p (e - from) 0) place
      unfolding positions_in
      places-more =
          ap positions_in one_more
          ∙ positions-append (run_to p n ws l s) (added ∷ [])
          ∙ ap (λ (xs : List ℕ). xs ++ (cond p (list_to (e - s) (λ j. (token_at ws (s + j)).position)) [] ++ [])) places
          ∙ joined p
        where
          joined : (q : Bool) → list_to (cond q (s - from) 0) place ++ (cond q (list_to (e - s) (λ j. (token_at ws (s + j)).position)) [] ++ []) ≡ list_to (cond q (e - from) 0) place
          joined true =
              let whole : (s - from) + (e - s) ≡ e - from = omega (arith, first, some) in
              let at : (j : ℕ) → s + j ≡ from + ((s - from) + j) = λ j. omega (arith, first) in
              ap (λ (xs : List ℕ). list_to (s - from) place ++ xs) (append-nil (list_to (e - s) (λ j. (token_at ws (s + j)).position)))
              ∙ sym (list_to-parts place (λ j. (token_at ws (s + j)).position) (s - from) (e - s) (λ j. ap (λ (k : ℕ). (token_at ws k).position) (at j)))
              ∙ ap (λ (k : ℕ). list_to k place) whole
          joined false = append-nil (list_to 0 place)

  -- the positions of the tokens passed
  places-now : (postings : List ℕ) (i next start : ℕ) (before : Option ℕ) → Upto n ws l p from posting position postings₀ postings i next start before → positions_in (run_to p n ws l i) ≡ list_to (cond p (i - from) 0) place
  places-now postings i next start before done =
      ⊎_elim
      (λ (e : start ≡ i). subst (λ (k : ℕ). positions_in (run_to p n ws l k) ≡ list_to (cond p (k - from) 0) place) e done.places)
      (λ (h : start < i). places-more start i done.first h done.within (λ k x y. done.own k (omega (arith, x, done.first)) y) done.same done.lower done.places)
      (eq-or-lt_of_le done.order)

  -- a token of the leaf
  module _ (postings : List ℕ) (i next start : ℕ) (before : Option ℕ) (done : Upto n ws l p from posting position postings₀ postings i next start before) (inside : i < token_count ws) (here : (token_at ws i).leaf ≡ l) where
    own-more : (k : ℕ) → from ≤ k → k < i + 1 → (token_at ws k).leaf ≡ l
    own-more k x y =
        ⊎_elim
        (λ (g : k < i). done.own k x g)
        (λ (g : i ≤ k). let e : k ≡ i = omega (arith, g, y) in ap (λ (j : ℕ). (token_at ws j).leaf) e ∙ here)
        (cmp k i)

    -- it is not of the document before: it begins a posting
    turn-begins : (Some (token_at ws i).document ≡ before → ⊥) → Turn n ws l p from posting position postings₀ postings i (next + 1) i
    turn-begins begins =
        record {
          first = omega (arith, done.first, done.order);
          order = le_refl i;
          within = inside;
          own = own-more;
          same = λ k x y. let e : k ≡ i = omega (arith, x, y) in ap (λ (j : ℕ). (token_at ws j).document) e;
          lower = lower;
          places = places-now postings i next start before done;
          next_is = omega (arith, done.next_is);
          few_next = omega (arith, done.few_next);
          stored = λ x y z. sets_behind postings₀ postings (3 * posting) (3 * (next + 1 - 1)) (pack_run p position (run_to p n ws l i)) (x ∷ y ∷ z ∷ []) done.written (omega (arith, done.next_is, run_length p position (run_to p n ws l i)));
        }
      where
        lower : (k : ℕ) → k < i → (token_at ws k).leaf ≡ l → (token_at ws k).document < (token_at ws i).document
        lower k g own =
            ⊎_elim
            (λ (h : k < from). absurd (omega (arith, pre.begins.lower k h, own)))
            (λ (h : from ≤ k).
            let leaf = done.own (i - 1) (omega (arith, h, g)) (omega (arith, g)) in
            let to = pre.tokens.documents k (i - 1) (omega (arith, g)) (omega (arith, inside)) (own ∙ sym leaf) in
            let on = pre.tokens.documents (i - 1) i (omega arith) inside (leaf ∙ sym here) in
            let not : (token_at ws i).document ≡ (token_at ws (i - 1)).document → ⊥ = λ e. begins (ap Some e ∙ sym (done.last (omega (arith, h, g)))) in
            omega (arith, to, on, not))
            (cmp k from)

    -- it is: it begins none, and is not the leaf's first, which no document is before
    turn-goes : Some (token_at ws i).document ≡ before → Turn n ws l p from posting position postings₀ postings i next start
    turn-goes goes =
        let later : from < i =
        ⊎_elim
        (λ (e : from ≡ i). let other : Some (token_at ws i).document ≡ None = goes ∙ done.none (sym e) in cc)
        (λ (g : from < i). g)
        (eq-or-lt_of_le (omega (arith, done.first, done.order))) in
        let as-before : (token_at ws i).document ≡ (token_at ws (i - 1)).document = inner (goes ∙ done.last later) in
        let has = done.some later in
        let own : (k : ℕ) → start ≤ k → k < i → (token_at ws k).leaf ≡ l = λ k x y. done.own k (omega (arith, x, done.first)) y in
        let longer = length_more start i done.first has done.within own done.same done.lower done.places in
        let words = words_more start i done.first has done.within own done.same done.lower done.places in
        record {
          first = done.first;
          order = done.order;
          within = inside;
          own = own-more;
          same = λ k x y.
              ⊎_elim
              (λ (g : k < i). done.same k x g)
              (λ (g : i ≤ k). let e : k ≡ i = omega (arith, g, y) in ap (λ (j : ℕ). (token_at ws j).document) e ∙ as-before ∙ done.same (i - 1) (omega (arith, has)) (omega (arith, has)))
              (cmp k i);
          lower = done.lower;
          places = done.places;
          next_is = omega (arith, done.next_is, longer);
          few_next = omega (arith, done.few_next);
          stored = λ x y z. sets_over postings₀ postings (3 * posting) (3 * (next - 1)) (pack_run p position (run_to p n ws l start)) ((token_at ws start).document ∷ (i - start) ∷ cond p (position + (start - from)) 0 ∷ []) (x ∷ y ∷ z ∷ []) (done.written ∙ ap (sets postings₀ (3 * posting)) words) (omega (arith, done.next_is, longer, run_length p position (run_to p n ws l start))) refl;
        }

    -- the two ways as the code takes them
    pub turn : (w : Token) (next' start' : ℕ)
        → w ≡ token_of ws i
        → ((Some w.document ≡ before → ⊥) × (next' ≡ next + 1) × (start' ≡ i)) ⊎ ((Some w.document ≡ before) × (next' ≡ next) × (start' ≡ start))
        → Turn n ws l p from posting position postings₀ postings i next' start'
    turn v next' start' b came =
        let document : v.document ≡ (token_at ws i).document = ap (λ (t : Token). t.document) b in
        ⊎_elim
        (λ w. subst (λ (k : ℕ). Turn n ws l p from posting position postings₀ postings i k start') (sym w.1) (subst (Turn n ws l p from posting position postings₀ postings i (next + 1)) (sym w.2) (turn-begins (λ e. w.0 (ap Some document ∙ e)))))
        (λ w. subst (λ (k : ℕ). Turn n ws l p from posting position postings₀ postings i k start') (sym w.1) (subst (Turn n ws l p from posting position postings₀ postings i next) (sym w.2) (turn-goes (sym (ap Some document) ∙ w.0))))
        came

  -- its posting is stored
  module _ (postings : List ℕ) (i next start : ℕ) (t : Turn n ws l p from posting position postings₀ postings i next start) where
    own-here : (k : ℕ) → start ≤ k → k < i + 1 → (token_at ws k).leaf ≡ l
    own-here k x y = t.own k (omega (arith, x, t.first)) y

    now-more : length (run_to p n ws l (i + 1)) ≡ length (run_to p n ws l start) + 1
    now-more = length_more start (i + 1) t.first (omega (arith, t.order)) (omega (arith, t.within)) own-here t.same t.lower t.places

    -- there is room for it
    pub room : 3 * (next - 1) + 3 ≤ a
    room = omega (arith, t.next_is, now-more, run-grows p n ws l (i + 1) (token_count ws) (omega (arith, t.within)), ap length (run-whole p n ws l), pre.postings_fit)

    pub upto_next : (w : Token) (index : ℕ) (postings' : List ℕ)
        → w ≡ token_of ws i
        → index ≡ cond p (position + (start - from)) 0
        → postings' ≡ sets postings (3 * (next - 1)) (w.document ∷ (i - start + 1) ∷ index ∷ [])
        → Upto n ws l p from posting position postings₀ postings' (i + 1) next start (Some w.document)
    upto_next w index postings' x y z =
        let document = ap (λ (v : Token). v.document) x ∙ t.same i t.order (omega arith) in
        let frequency : i - start + 1 ≡ i + 1 - start = omega (arith, t.order) in
        let words = words_more start (i + 1) t.first (omega (arith, t.order)) (omega (arith, t.within)) own-here t.same t.lower t.places in
        record {
          first = t.first;
          order = omega (arith, t.order);
          within = omega (arith, t.within);
          some = λ _. omega (arith, t.order);
          none = λ e. absurd (omega (arith, e, t.first, t.order));
          last = λ _. let back : i ≡ i + 1 - 1 = omega arith in ap Some (ap (λ (v : Token). v.document) x ∙ ap (λ (k : ℕ). (token_at ws k).document) back);
          own = t.own;
          same = t.same;
          lower = t.lower;
          places = t.places;
          next_is = omega (arith, t.next_is, now-more);
          few_next = t.few_next;
          written = z
              ∙ t.stored w.document (i - start + 1) index
              ∙ ap (λ (d : ℕ). sets postings₀ (3 * posting) (pack_run p position (run_to p n ws l start) ++ (d ∷ (i - start + 1) ∷ index ∷ []))) document
              ∙ ap₂ (λ (f v : ℕ). sets postings₀ (3 * posting) (pack_run p position (run_to p n ws l start) ++ ((token_at ws start).document ∷ f ∷ v ∷ []))) frequency y
              ∙ ap (sets postings₀ (3 * posting)) (sym words);
        }

  -- no token from i on is of the leaf
  module _ (postings : List ℕ) (i next start : ℕ) (before : Option ℕ) (done : Upto n ws l p from posting position postings₀ postings i next start before) (stop : i < token_count ws → (token_at ws i).leaf ≡ l → ⊥) where
    later : (k : ℕ) → i ≤ k → k < token_count ws → l + 1 ≤ (token_at ws k).leaf
    later k x y =
        let h : i < token_count ws = omega (arith, x, y) in
        let low = pre.begins.higher i (omega (arith, done.first, done.order)) h in
        let other = stop h in
        let up = pre.tokens.leaves i k x y in
        omega (arith, low, other, up)

    all-written : run_to p n ws l i ≡ run_for p n (tokens_of ws) l
    all-written = sym (run-whole p n ws l ∙ run-other p n ws l i (token_count ws) done.within (λ k x y e. absurd (omega (arith, later k x y, e))))

    all-places : positions_in (run_for p n (tokens_of ws) l) ≡ list_to (cond p (i - from) 0) place
    all-places = ap positions_in (sym all-written) ∙ places-now postings i next start before done

    pub upto-end : (r : Cursor) (number : ℕ) → number ≡ cond p (i - from) 0 → r.token ≡ i → r.posting ≡ next → r.position ≡ position + number → WritePostingsPost n ws l p from posting position postings₀ postings r
    upto-end r number e x y z =
        let few = number-le p (i - from) in
        let behind = done.first in
        let order = done.order in
        let number_is : r.position - position ≡ cond p (i - from) 0 = omega (arith, z, e) in
        record {
          begins = subst (Begins ws (l + 1)) (sym x) (record { within = done.within; lower = λ k g. ⊎_elim (λ (h : k < from). omega (arith, pre.begins.lower k h)) (λ (h : from ≤ k). omega (arith, done.own k h g)) (cmp k from); higher = later });
          few_postings = omega (arith, x, y, done.few_next);
          few_positions = omega (arith, x, z, e, few, behind, order, pre.few_positions);
          posting_end = y ∙ done.next_is ∙ ap (λ (s : List Posting). posting + length s) all-written;
          position_end = z ∙ ap (λ (k : ℕ). position + k) (e ∙ sym (ap length all-places ∙ length-list_to (cond p (i - from) 0) place));
          written = done.written ∙ ap (λ (s : List Posting). sets postings₀ (3 * posting) (pack_run p position s)) all-written;
          within = omega (arith, number_is, few, behind, order, done.within);
          places = all-places ∙ ap (λ (k : ℕ). list_to k place) (sym number_is);
        }

-- ---- the postings and then the positions
pub run-postings : (n m : ℕ) (ws : List ℕ) (l : ℕ) (p : Bool) (from posting position a b : ℕ) → WriteRunPre n m ws l p from posting position a b → WritePostingsPre n m ws l p from posting position a
run-postings n m ws l p from posting position a b h = record { few_documents = h.few_documents; tokens = h.tokens; begins = h.begins; few_postings = h.few_postings; few_positions = h.few_positions; postings_fit = h.postings_fit }

pub run-placed : (n : ℕ) (ws : List ℕ) (l : ℕ) (p : Bool) (from posting position : ℕ) (postings positions postings' positions' : List ℕ) (r : Cursor)
    → WritePostingsPost n ws l p from posting position postings postings' r
    → positions' ≡ sets positions position (list_to (r.position - position) (λ j. (token_at ws (from + j)).position))
    → WriteRunPost n ws l p posting position postings positions postings' positions' r
run-placed n ws l p from posting position postings positions postings' positions' r h e =
    record { begins = h.begins; few_postings = h.few_postings; few_positions = h.few_positions; posting_end = h.posting_end; position_end = h.position_end; written = h.written; placed = e ∙ ap (sets positions position) (sym h.places) }
