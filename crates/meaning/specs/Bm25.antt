-- Document 01, "BM25 and the hits": BM25 in the operations of binary32, each rounded once. Assumes nothing: these are definitions.
use Rattle.std.specs.Prelude.{ℕ, pos, Float}
use Rattle.std.specs.Float.{binary32}
use Rattle.std.specs.Float.Ieee.{add, sub, mul, div, of_int, of_bits}
use Rattle.meaning.specs.SmallFloat.{byte4_to_int}

abbrev pub one : Float
one = of_bits binary32 0x3f80_0000

-- K1 = 1.2
abbrev pub k1 : Float
k1 = of_bits binary32 0x3f99_999a

-- B = 0.75
abbrev pub b : Float
b = of_bits binary32 0x3f40_0000

-- L(b) is `byte4_to_int` rounded to the nearest f32, ties to even
unfoldable pub length_of : ℕ → Float
length_of n = of_int binary32 (pos (byte4_to_int n))

-- the inverse for a length: 1 ÷ (K1 × ((1 − B) + (B × L) ÷ average)), in f32
abbrev pub inverse : Float → Float → Float
inverse average len = div binary32 one (mul binary32 k1 (add binary32 (sub binary32 one b) (div binary32 (mul binary32 b len) average)))

-- w = boost × idf
abbrev pub weight : Float → Float → Float
weight boost idf = mul binary32 boost idf

-- Score = w − w ÷ (1 + frequency × inverse)
abbrev pub bm25 : Float → Float → Float → Float
bm25 w frequency inv = sub binary32 w (div binary32 w (add binary32 one (mul binary32 frequency inv)))
