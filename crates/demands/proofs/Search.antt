-- Demand 3, of Search: a larger k only adds hits, and when the mark is set. Assumes nothing.
use mathlib.Core.Path.{◌≡◌, refl, sym, ap, ◌∙◌, subst}
use mathlib.Core.Bool.{Bool, true, false, cond, ◌&&◌}
use mathlib.Core.List.{List, [], ◌∷◌}
use Prim.Native.Nat.{ℕ, ◌≤◌, ◌<◌, min}
use native.Mathlib.Omega.{arith}
use borrow.Author.Tests.{lt-ltb, le-leb, ltb-true, leb-true}
use lib.Dec.{ltb, leb}
use lib.ListN.{length, take, drop, get_or, length-take}
use lib.Seq.{take-take, take_at, take-length}
use lib.IntN.{ℤ}
use Rattle.meaning.specs.Lent.{Index}
use Rattle.meaning.specs.Query.{query_tree}
use Rattle.meaning.specs.FullList.{ScoreDoc, full_list}
use Rattle.meaning.specs.Hits.{hits, mark}
use Rattle.meaning.specs.CallRefusals.{Work}
use Rattle.meaning.specs.Entries.{top_docs, search_refusal, search_answer, search_hits}
use Rattle.collector.proofs.Best.{ranked, ranked-length, hits-is, hits_few, hits-prefix}

pub hits-length : (k : ℕ) (list : List ScoreDoc) → length (hits k list) ≡ min k (length list)
hits-length k list = ap length (hits-is k list) ∙ length-take k (ranked list) ∙ ap (min k) (ranked-length list)

-- the hits for k are the beginning of those for a larger k
pub hits-grow : (k k' : ℕ) (list : List ScoreDoc) → k ≤ k' → take k (hits k' list) ≡ hits k list
hits-grow = hits-prefix

-- .. as many as there are
pub hits-begin : (k k' : ℕ) (list : List ScoreDoc) → k ≤ k' → take (length (hits k list)) (hits k' list) ≡ hits k list
hits-begin k k' list l =
    sym (take-take (length (hits k list)) k (hits k' list) (hits_few k list))
    ∙ ap (take (length (hits k list))) (hits-grow k k' list l)
    ∙ take-length (hits k list)

-- ---- one call that was not refused
module _ (ix : Index) (q : List ℕ) (k t : ℕ) (w : Work) where
  abbrev all : List ScoreDoc
  all = full_list ix (query_tree q)

  pub answer-is : (places : ℕ) → search_refusal ix q k w places ≡ 0 → search_answer ix q k t w places ≡ top_docs k t all
  unfolding search_answer
  answer-is places r = rw r

  pub held-is : (places : ℕ) → search_refusal ix q k w places ≡ 0 → get_or (search_answer ix q k t w places) 1 0 ≡ length (hits k all)
  held-is places r = ap (λ (l : List ℕ). get_or l 1 0) (answer-is places r)

  pub wrote-is : (buffer : List ℤ) → search_refusal ix q k w (length buffer) ≡ 0 → take (get_or (search_answer ix q k t w (length buffer)) 1 0) (search_hits ix q k w buffer) ≡ hits k all
  unfolding search_hits
  wrote-is buffer r = rw r (take_at (hits k all) (drop (length (hits k all)) buffer) (get_or (search_answer ix q k t w (length buffer)) 1 0) (sym (held-is (length buffer) r)))

-- how many hits a call of Search answers that it wrote, and those hits: the front of its buffer afterwards
abbrev pub held_by : Index → List ℕ → ℕ → ℕ → Work → List ℤ → ℕ
held_by ix q k t w buffer = get_or (search_answer ix q k t w (length buffer)) 1 0

abbrev pub hits_by : Index → List ℕ → ℕ → ℕ → Work → List ℤ → List ℤ
hits_by ix q k t w buffer = take (held_by ix q k t w buffer) (search_hits ix q k w buffer)

-- what Search wrote for k is the beginning of what it wrote for a larger k, whatever the thresholds and the buffers
pub search-grows : (ix : Index) (q : List ℕ) (k k' t t' : ℕ) (w w' : Work) (buffer buffer' : List ℤ) → k ≤ k' → search_refusal ix q k w (length buffer) ≡ 0 → search_refusal ix q k' w' (length buffer') ≡ 0 → take (held_by ix q k t w buffer) (hits_by ix q k' t' w' buffer') ≡ hits_by ix q k t w buffer
search-grows ix q k k' t t' w w' buffer buffer' l r r' =
    let list = full_list ix (query_tree q) in
    ap (take (held_by ix q k t w buffer)) (wrote-is ix q k' t' w' buffer' r')
    ∙ ap (λ (n : ℕ). take n (hits k' list)) (held-is ix q k t w (length buffer) r)
    ∙ hits-begin k k' list l
    ∙ sym (wrote-is ix q k t w buffer r)

-- ---- the numbers that Search answers: hits held, count, and the mark, which is 1 exactly where the count is above t
-- and at least k
pub record MarkExactly (k t n : ℕ) (answer : List ℕ) : Type 0 where
  pub held : get_or answer 1 0 ≡ min k n
  pub count : get_or answer 2 0 ≡ n
  pub set : t < n → k ≤ n → get_or answer 3 0 ≡ 1
  pub above : get_or answer 3 0 ≡ 1 → t < n
  pub filled : get_or answer 3 0 ≡ 1 → k ≤ n
  pub else : (t < n → k ≤ n → ⊥) → get_or answer 3 0 ≡ 0

pub marked : (k t n held : ℕ) → held ≡ min k n → MarkExactly k t n (0 ∷ held ∷ n ∷ cond (mark k t n) 1 0 ∷ [])
unfolding mark
marked k t n held e = record {
  held = e;
  count = refl;
  set = λ a b. rw (lt-ltb t n a, le-leb k n b);
  above = λ m. (both (ltb t n) (leb k n) refl refl m).0;
  filled = λ m. (both (ltb t n) (leb k n) refl refl m).1;
  else = λ never. neither (ltb t n) (leb k n) refl refl never;
}
  where
    both : (a b : Bool) → ltb t n ≡ a → leb k n ≡ b → ◌≡◌ {A = ℕ} (cond (a && b) 1 0) 1 → (t < n) × (k ≤ n)
    both true true p r m = (ltb-true t n p, leb-true k n r)
    both true false p r m = absurd (omega (arith, m))
    both false b p r m = absurd (omega (arith, m))

    neither : (a b : Bool) → ltb t n ≡ a → leb k n ≡ b → (t < n → k ≤ n → ⊥) → ◌≡◌ {A = ℕ} (cond (a && b) 1 0) 0
    neither true true p r never = absurd (never (ltb-true t n p) (leb-true k n r))
    neither true false p r never = refl
    neither false b p r never = refl

pub mark-exactly : (ix : Index) (q : List ℕ) (k t : ℕ) (w : Work) (places : ℕ) → search_refusal ix q k w places ≡ 0 → MarkExactly k t (length (full_list ix (query_tree q))) (search_answer ix q k t w places)
mark-exactly ix q k t w places r =
    let list = full_list ix (query_tree q) in
    subst (λ (l : List ℕ). MarkExactly k t (length list) l) (sym (answer-is ix q k t w places r)) (marked k t (length list) (length (hits k list)) (hits-length k list))
