-- A list that is filled place by place from the front, by the words of a file. Assumes nothing.
use Rattle.std.proofs.Common.{◌≡◌, ap, ◌∙◌, List, [], ◌∷◌, ◌++◌, length, lit<, take, ℕ, ◌+◌, ◌*◌, ◌<◌, sym, arith, w32, w64}
use Rattle.std.specs.Simd.{first_chunks}
use Rattle.std.specs.Int.{from_le_bytes}
use Rattle.std.proofs.Math.ListN.{set}
use native.Mathlib.Numerals.{add-one}
use lib.ListN.{get_or}
use lib.Seq.{take-suc-set}
use Rattle.meaning.specs.Below.{list_to}
use Rattle.meaning.proofs.Below.{list_to-next}
use Rattle.index.proofs.Chains.{chunk_word}
use Rattle.hits_text.specs.Text.{word_at, long_at}

-- one place more
pub filled_more : (xs : List ℕ) (i x : ℕ) (f : ℕ → ℕ) → i < length xs → take i xs ≡ list_to i f → x ≡ f i → take (i + 1) (set xs i x) ≡ list_to (i + 1) f
filled_more xs i x f h front here =
    ap (λ (n : ℕ). take n (set xs i x)) (add-one i)
    ∙ take-suc-set xs i x h
    ∙ ap (λ (l : List ℕ). l ++ (x ∷ [])) front
    ∙ ap (λ (y : ℕ). list_to i f ++ (y ∷ [])) here
    ∙ sym (list_to-next f i)

-- a byte of a chunk
byte : (size n : ℕ) (bytes : List ℕ) (i k p : ℕ) → i < n → k < size → size * i + k ≡ p → get_or (get_or (first_chunks size n bytes) i []) k 0 ≡ get_or bytes p 0
byte size n bytes i k p h l e = chunk_word size n bytes i k h l ∙ ap (λ (q : ℕ). get_or bytes q 0) e

-- a chunk of four bytes is a word
pub chunk-word : (bytes : List ℕ) (n i : ℕ) → i < n → from_le_bytes w32 (get_or (first_chunks 4 n bytes) i []) ≡ word_at bytes i
chunk-word bytes n i h =
    let at : (k p : ℕ) → k < 4 → 4 * i + k ≡ p → get_or (get_or (first_chunks 4 n bytes) i []) k 0 ≡ get_or bytes p 0 = λ k p. byte 4 n bytes i k p h in
    omega (arith, at 0 (4 * i) (lit< tt) (omega arith), at 1 (4 * i + 1) (lit< tt) (omega arith), at 2 (4 * i + 2) (lit< tt) (omega arith), at 3 (4 * i + 3) (lit< tt) (omega arith))

-- a chunk of eight is a long word
pub chunk-long : (bytes : List ℕ) (n i : ℕ) → i < n → from_le_bytes w64 (get_or (first_chunks 8 n bytes) i []) ≡ long_at bytes i
chunk-long bytes n i h =
    let at : (k p : ℕ) → k < 8 → 8 * i + k ≡ p → get_or (get_or (first_chunks 8 n bytes) i []) k 0 ≡ get_or bytes p 0 = λ k p. byte 8 n bytes i k p h in
    let low = 4 * (2 * i) in
    let high = 4 * (2 * i + 1) in
    omega (arith, at 0 low (lit< tt) (omega arith), at 1 (low + 1) (lit< tt) (omega arith), at 2 (low + 2) (lit< tt) (omega arith), at 3 (low + 3) (lit< tt) (omega arith), at 4 high (lit< tt) (omega arith), at 5 (high + 1) (lit< tt) (omega arith), at 6 (high + 2) (lit< tt) (omega arith), at 7 (high + 3) (lit< tt) (omega arith))

-- all places
pub filled-all : (xs : List ℕ) (i m n : ℕ) (f : ℕ → ℕ) → take i xs ≡ list_to i f → i ≡ m → m ≡ n → take m xs ≡ list_to n f
filled-all xs i m n f e g h = ap (λ (k : ℕ). take k xs) (sym g) ∙ e ∙ ap (λ (k : ℕ). list_to k f) (g ∙ h)
