-- Document 01, "BM25 and the hits" and "Sizes": the words of the files of `hits`, and its lines.
-- Assumes nothing: these are definitions.
use Rattle.std.specs.Prelude.{Bool, cond, ◌&&◌, List, [], ◌∷◌, ◌++◌, ℕ, zero, suc, ◌+◌, ◌*◌, ◌/◌, ◌%◌, ◌^◌, eqb, leb, ltb, length, get_or, ℤ}
use Rattle.std.specs.Int.Signed.{shr_z}
use Rattle.meaning.specs.Below.{list_to}
use Rattle.meaning.specs.Lent.{joined}
use Rattle.meaning.specs.Ieee754.{sortable_bits}
use Rattle.meaning.specs.Hits.{to_doc}

-- ---- the words of a file
-- "in files the words are little-endian": the i-th of 32 bits
abbrev pub word_at : List ℕ → ℕ → ℕ
word_at bytes i =
    get_or bytes (4 * i) 0 + 256 * get_or bytes (4 * i + 1) 0 + 65536 * get_or bytes (4 * i + 2) 0
    + 16777216 * get_or bytes (4 * i + 3) 0

-- the i-th of 64 bits
abbrev pub long_at : List ℕ → ℕ → ℕ
long_at bytes i = joined (word_at bytes (2 * i)) (word_at bytes (2 * i + 1))

-- all whole words of a file
unfoldable pub file_words : List ℕ → List ℕ
file_words bytes = list_to (length bytes / 4) (word_at bytes)

-- all of "live.rec of 8 bytes"
unfoldable pub longs_of : List ℕ → List ℕ
longs_of bytes = list_to (length bytes / 8) (long_at bytes)

-- ---- numbers as text
-- the ASCII code of a digit below 16: `0` to `9`, then `a` to `f`
abbrev pub digit_of : ℕ → ℕ
digit_of d = cond (ltb d 10) (48 + d) (87 + d)

-- the decimal digits of a number, the last one at the end; at most so many
unfoldable pub digits_to : ℕ → ℕ → List ℕ
digits_to zero n = []
digits_to (suc most) n = cond (ltb n 10) [] (digits_to most (n / 10)) ++ (digit_of (n % 10) ∷ [])

-- all decimal digits: a number has no more of them than its own size and one
unfoldable pub decimal : ℕ → List ℕ
decimal n = digits_to (suc n) n

-- the last so many hexadecimal digits
unfoldable pub hex_digits : ℕ → ℕ → List ℕ
hex_digits zero n = []
hex_digits (suc k) n = hex_digits k (n / 16) ++ (digit_of (n % 16) ∷ [])

-- "8 hexadecimal digits"
abbrev pub hex8 : ℕ → List ℕ
hex8 n = hex_digits 8 n

-- ---- the lines
-- "prints `count`", and a blank
abbrev pub count_word : List ℕ
count_word = 99 ∷ 111 ∷ 117 ∷ 110 ∷ 116 ∷ 32 ∷ []

-- "prints `refused`", and a blank
abbrev pub refused_word : List ℕ
refused_word = 114 ∷ 101 ∷ 102 ∷ 117 ∷ 115 ∷ 101 ∷ 100 ∷ 32 ∷ []

-- the bits of a code's score, as `to_score` has them
abbrev pub score_bits : ℤ → ℕ
score_bits c = sortable_bits (shr_z c (2 ^ 32))

-- "per hit the document and the score's bits as 8 hexadecimal digits"
unfoldable pub hit_line : ℤ → List ℕ
hit_line c = decimal (to_doc c) ++ (32 ∷ (hex8 (score_bits c) ++ (10 ∷ [])))

-- the lines of all hits, the best first
unfoldable pub hit_lines : List ℤ → List ℕ
hit_lines [] = []
hit_lines (c ∷ cs) = hit_line c ++ hit_lines cs

-- "prints `count`, the count, `+` when marked; then per hit .."
unfoldable pub found_text : ℕ → Bool → List ℤ → List ℕ
found_text count marked codes =
    count_word ++ (decimal count ++ (cond marked (43 ∷ 10 ∷ []) (10 ∷ []) ++ hit_lines codes))

-- "A refusal prints `refused` and its number alone"
unfoldable pub refused_text : ℕ → List ℕ
refused_text n = refused_word ++ (decimal n ++ (10 ∷ []))

-- ---- the ten files
-- what was read of each; 65,537 bytes stand for a file that is longer than 64 KiB, or missing
pub record Files : Type 0 where
  pub run : List ℕ
  pub fields : List ℕ
  pub leaves : List ℕ
  pub postings : List ℕ
  pub positions : List ℕ
  pub norms : List ℕ
  pub live : List ℕ
  pub columns : List ℕ
  pub values : List ℕ
  pub query : List ℕ

-- the ten in document 01's order
abbrev pub files : List ℕ → List ℕ → List ℕ → List ℕ → List ℕ → List ℕ → List ℕ → List ℕ → List ℕ → List ℕ → Files
files run fields leaves postings positions norms live columns values query =
    record {
      run = run;
      fields = fields;
      leaves = leaves;
      postings = postings;
      positions = positions;
      norms = norms;
      live = live;
      columns = columns;
      values = values;
      query = query;
    }

-- "takes files up to 64 KiB", and of whole words of so many bytes
abbrev pub whole : ℕ → List ℕ → Bool
whole size bytes = leb (length bytes) 65536 && eqb (length bytes % size) 0

-- "a longer or missing one, one not of whole words (live.rec of 8 bytes, norms.rec free),
-- or a run.rec of another length" is not taken
unfoldable pub taken : Files → Bool
taken f =
    eqb (length f.run) 12 && whole 4 f.fields && whole 4 f.leaves && whole 4 f.postings && whole 4 f.positions
    && whole 1 f.norms && whole 8 f.live && whole 4 f.columns && whole 4 f.values && whole 4 f.query
