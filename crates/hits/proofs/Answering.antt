-- From the numbers that Search answers to the text that is printed. Assumes nothing.
use mathlib.Core.Path.{◌≡◌, refl, sym, ap, ◌∙◌}
use mathlib.Core.Bool.{Bool, true, false, cond}
use mathlib.Core.List.{List, [], ◌∷◌}
use Prim.Native.Nat.{ℕ, zero, suc, ◌≤◌}
use native.Mathlib.Omega.{arith}
use lib.ListN.{length, take, drop, length-append, length-drop}
use lib.Seq.{take-append_seam}
use lib.IntN.{ℤ}
use Rattle.meaning.specs.Lent.{Index}
use Rattle.meaning.specs.Query.{query_tree}
use Rattle.meaning.specs.FullList.{full_list}
use Rattle.meaning.specs.Hits.{hits, mark}
use Rattle.meaning.specs.CallRefusals.{Work}
use Rattle.meaning.specs.Entries.{written, answered, search_refusal, search_answer, search_hits}
use Rattle.collector.specs.declared.TopDocs.{TopDocs}
use Rattle.std.specs.Prelude.{Result, Ok, Err}
use Rattle.refusal.specs.declared.Refusal.{Refusal}
use Rattle.refusal.specs.Numbers.{number_of}
use Rattle.searcher.specs.Answers.{searched_numbers}
use Rattle.hits_text.specs.Text.{found_text, refused_text}
use Rattle.hits.specs.Text.{list_text, own_work, own_places, search_text}

same-mark : (a b : Bool) → ◌≡◌ {A = ℕ} (cond a 1 0) (cond b 1 0) → a ≡ b
same-mark true true e = refl
same-mark true false e = absurd (omega (arith, e))
same-mark false true e = absurd (omega (arith, e))
same-mark false false e = refl

-- a refusal's number alone
refused-number : (refusal n h c m : ℕ) (text : List ℕ) → n ∷ [] ≡ answered refusal (0 ∷ h ∷ c ∷ m ∷ []) (λ r. r ∷ []) → refused_text n ≡ answered refusal text refused_text
refused-number zero n h c m text e = absurd (omega (arith, ap length e))
refused-number (suc r) n h c m text e = let s : n ≡ suc r = cc in ap refused_text s

-- 0 and the values: nothing is refused, and they are those of the list
record Values (refusal held count marked h c m : ℕ) : Type 0 where
  accepted : refusal ≡ 0
  held-is : held ≡ h
  count-is : count ≡ c
  marked-is : marked ≡ m

found-numbers : (refusal held count marked h c m : ℕ) → 0 ∷ held ∷ count ∷ marked ∷ [] ≡ answered refusal (0 ∷ h ∷ c ∷ m ∷ []) (λ r. r ∷ []) → Values refusal held count marked h c m
found-numbers zero held count marked h c m e = record { accepted = refl; held-is = cc; count-is = cc; marked-is = cc }
found-numbers (suc r) held count marked h c m e = absurd (omega (arith, ap length e))

-- the hits at the front of a buffer
front : (codes buffer after : List ℤ) (held : ℕ) → held ≡ length codes → after ≡ written codes buffer → take held after ≡ codes
front codes buffer after held h e = ap (λ (l : List ℤ). take held l) e ∙ ap (λ (n : ℕ). take n (written codes buffer)) h ∙ take-append_seam codes (drop (length codes) buffer)

-- how many codes there are, and the text
pub record Shown (ix : Index) (q : List ℕ) (k t held count : ℕ) (marked : Bool) (after : List ℤ) : Type 0 where
  pub few : held ≤ length after
  pub text : found_text count marked (take held after) ≡ search_text ix q k t

-- ---- what Search answers with the program's buffers, and the codes that it leaves
module _ (ix : Index) (q : List ℕ) (k t : ℕ) (w : Work) (places : ℕ) (own : w ≡ own_work) (room : places ≡ own_places) where
  own-refusal : search_refusal ix q k w places ≡ search_refusal ix q k own_work own_places
  own-refusal = ap (λ (v : Work). search_refusal ix q k v places) own ∙ ap (search_refusal ix q k own_work) room

  text-is : answered (search_refusal ix q k w places) (list_text k t (full_list ix (query_tree q))) refused_text ≡ search_text ix q k t
  unfolding search_text
  text-is = ap (λ (r : ℕ). answered r (list_text k t (full_list ix (query_tree q))) refused_text) own-refusal

  pub refused-text : (r : Result TopDocs Refusal) (s : Refusal) (n : ℕ) → r ≡ Err s → n ≡ number_of s → searched_numbers r ≡ search_answer ix q k t w places → refused_text n ≡ search_text ix q k t
  unfolding search_answer searched_numbers
  refused-text r s n is m numbers =
      let e : n ∷ [] ≡ search_answer ix q k t w places = ap (λ (i : ℕ). i ∷ []) m ∙ ap searched_numbers (sym is) ∙ numbers in
      let list = full_list ix (query_tree q) in
      refused-number (search_refusal ix q k w places) n (length (hits k list)) (length list) (cond (mark k t (length list)) 1 0) (list_text k t list) e ∙ text-is

  pub found-text : (r : Result TopDocs Refusal) (top : TopDocs) (buffer after : List ℤ) → length buffer ≡ places → r ≡ Ok top → searched_numbers r ≡ search_answer ix q k t w places → after ≡ search_hits ix q k w buffer → Shown ix q k t top.held top.count top.mark after
  unfolding search_answer search_hits searched_numbers
  found-text r top buffer after long is numbers g =
      let held = top.held in
      let count = top.count in
      let marked = top.mark in
      let e : 0 ∷ held ∷ count ∷ cond marked 1 0 ∷ [] ≡ search_answer ix q k t w places = ap searched_numbers (sym is) ∙ numbers in
      let list = full_list ix (query_tree q) in
      let v = found-numbers (search_refusal ix q k w places) held count (cond marked 1 0) (length (hits k list)) (length list) (cond (mark k t (length list)) 1 0) e in
      let here : search_refusal ix q k w (length buffer) ≡ 0 = ap (search_refusal ix q k w) long ∙ v.accepted in
      let codes : after ≡ written (hits k list) buffer = g ∙ ap (λ (r : ℕ). answered r (written (hits k list) buffer) (λ n. buffer)) here in
      let f = front (hits k list) buffer after held v.held-is codes in
      let m : marked ≡ mark k t (length list) = same-mark marked (mark k t (length list)) v.marked-is in
      record {
        few = omega (arith, v.held-is, ap length codes, length-append (hits k list) (drop (length (hits k list)) buffer), length-drop (length (hits k list)) buffer);
        text = ap (λ (n : ℕ). found_text n marked (take held after)) v.count-is
            ∙ ap (λ (b : Bool). found_text (length list) b (take held after)) m
            ∙ ap (found_text (length list) (mark k t (length list))) f
            ∙ ap (λ (r : ℕ). answered r (list_text k t list) refused_text) (sym v.accepted)
            ∙ text-is;
      }
