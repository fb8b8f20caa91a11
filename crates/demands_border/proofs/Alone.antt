-- A call of lot_page that is refused for its `answer` alone, though Page itself would refuse nothing of it. Assumes nothing.
use mathlib.Core.Path.{◌≡◌, refl, sym, ap, ◌∙◌, subst}
use mathlib.Core.List.{List, [], ◌∷◌, ◌++◌}
use Prim.Native.Nat.{ℕ, ◌<◌}
use native.Mathlib.Omega.{arith}
use Rattle.meaning.specs.Lent.{Index}
use Rattle.meaning.proofs.Lowest.{answered-refused}
use Rattle.demands_border.specs.Calls.{PageCall}
use Rattle.demands_border.specs.Pages.{next, documents_given, scores_given, goes_on, Follow, joined_documents, joined_scores, goes_on_after, AnswerAlone}
use Rattle.demands_border.proofs.Entries.{page-answer-alone}

-- it is refused with 12, and leaves every buffer as it was
pub record GivesNothing {ix : Index} {q : List ℕ} (c : PageCall ix q) : Type 0 where
  pub twelve : c.returned ≡ 12
  pub documents : c.documents' ≡ c.documents
  pub scores : c.scores' ≡ c.scores
  pub answer : c.answer' ≡ c.answer
  pub states : c.states' ≡ c.states
  pub starts : c.starts' ≡ c.starts
  pub other_starts : c.other_starts' ≡ c.other_starts
  pub ranges : c.ranges' ≡ c.ranges

pub answer-alone : {ix : Index} {q : List ℕ} (c : PageCall ix q) → AnswerAlone c → GivesNothing c
answer-alone c h =
    let r = page-answer-alone c h.short h.else-right in
    let p : 0 < c.returned = omega (arith, r) in
    let not-0 : c.returned ≡ 0 → ⊥ = λ e. omega (arith, r, e) in
    record {
      twelve = r;
      documents = c.told.documents_after ∙ sym (answered-refused _ (λ n. c.documents) c.returned not-0);
      scores = c.told.scores_after ∙ sym (answered-refused _ (λ n. c.scores) c.returned not-0);
      answer = c.told.answer_after ∙ sym (answered-refused _ (λ n. c.answer) c.returned not-0);
      states = c.kept.states_kept p;
      starts = c.kept.starts_kept p;
      other_starts = c.kept.other_starts_kept p;
      ranges = c.kept.ranges_kept p;
    }

-- it may stand anywhere among other calls: those go on as if it were not there, and what is given in all is the same
pub record Anywhere {ix : Index} {q : List ℕ} (s : ℕ) (xs : List (PageCall ix q)) (c : PageCall ix q) (ys : List (PageCall ix q)) : Type 0 where
  pub follow : Follow s (xs ++ ys) → Follow s (xs ++ (c ∷ ys))
  pub documents : joined_documents (xs ++ (c ∷ ys)) ≡ joined_documents (xs ++ ys)
  pub scores : joined_scores (xs ++ (c ∷ ys)) ≡ joined_scores (xs ++ ys)
  pub last : goes_on_after s (xs ++ (c ∷ ys)) ≡ goes_on_after s (xs ++ ys)

module _ {ix : Index} {q : List ℕ} (c : PageCall ix q) (h : AnswerAlone c) (ys : List (PageCall ix q)) where
  twelve : c.returned ≡ 12
  twelve = page-answer-alone c h.short h.else-right

  stays : (s : ℕ) → goes_on s c ≡ s
  unfolding goes_on
  stays s = sym (answered-refused (next c) (λ n. s) c.returned (λ e. omega (arith, e, twelve)))

  pub alone-anywhere : (s : ℕ) (xs : List (PageCall ix q)) → Anywhere s xs c ys
  unfolding Follow joined_documents joined_scores goes_on_after documents_given scores_given goes_on
  alone-anywhere s [] = record {
    follow = λ f. ((λ e. absurd (omega (arith, e, twelve))), subst (λ (n : ℕ). Follow n ys) (sym (stays s)) f);
    documents = rw twelve refl;
    scores = rw twelve refl;
    last = ap (λ (n : ℕ). goes_on_after n ys) (stays s);
  }
  alone-anywhere s (x ∷ xs) =
      let later = alone-anywhere (goes_on s x) xs in
      record {
        follow = λ f. (f.0, later.follow f.1);
        documents = ap (λ (l : List ℕ). documents_given x ++ l) later.documents;
        scores = ap (λ (l : List ℕ). scores_given x ++ l) later.scores;
        last = later.last;
      }
