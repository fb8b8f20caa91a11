-- What is known of files that the program takes, and their text. Assumes nothing.
use mathlib.Core.Path.{◌≡◌, refl, sym, ap}
use mathlib.Core.Bool.{Bool, true, false, cond, ◌&&◌, false≢true}
use mathlib.Core.List.{List}
use Prim.Native.Nat.{ℕ, ◌%◌, ◌≤◌}
use lib.Dec.{eqb, leb}
use lib.ListN.{length}
use borrow.Author.Tests.{eqb-true, leb-true}
use Rattle.index.specs.Slices.{lent}
use Rattle.hits_text.specs.Text.{Files, files, whole, taken, word_at, file_words, longs_of, refused_text}
use Rattle.hits.specs.Text.{files_index, search_text, hits_text}

-- both of two, and each of ten
both : (a b : Bool) → (a && b) ≡ true → (a ≡ true) × (b ≡ true)
both true b e = (refl, e)
both false b e = absurd (false≢true e)

each : (a b c d e f g h i j : Bool) → (a && b && c && d && e && f && g && h && i && j) ≡ true → (a ≡ true) × (b ≡ true) × (c ≡ true) × (d ≡ true) × (e ≡ true) × (f ≡ true) × (g ≡ true) × (h ≡ true) × (i ≡ true) × (j ≡ true)
each a b c d e f g h i j t =
    let u = both (a && b && c && d && e && f && g && h && i) j t in
    let v = both (a && b && c && d && e && f && g && h) i u.0 in
    let w = both (a && b && c && d && e && f && g) h v.0 in
    let x = both (a && b && c && d && e && f) g w.0 in
    let y = both (a && b && c && d && e) f x.0 in
    let z = both (a && b && c && d) e y.0 in
    let p = both (a && b && c) d z.0 in
    let q = both (a && b) c p.0 in
    let r = both a b q.0 in
    (r.0, r.1, q.1, p.1, z.1, y.1, x.1, w.1, v.1, u.1)

-- no file is too long
pub record Sizes (f : Files) : Type 0 where
  pub run : length f.run ≡ 12
  pub fields : length f.fields ≤ 65536
  pub leaves : length f.leaves ≤ 65536
  pub postings : length f.postings ≤ 65536
  pub positions : length f.positions ≤ 65536
  pub live : length f.live ≤ 65536
  pub columns : length f.columns ≤ 65536
  pub values : length f.values ≤ 65536
  pub query : length f.query ≤ 65536

few : (size : ℕ) (bytes : List ℕ) → whole size bytes ≡ true → length bytes ≤ 65536
few size bytes e = leb-true (length bytes) 65536 (both (leb (length bytes) 65536) (eqb (length bytes % size) 0) e).0

pub sizes-of : (f : Files) → taken f ≡ true → Sizes f
unfolding taken
sizes-of f e =
    let t = each (eqb (length f.run) 12) (whole 4 f.fields) (whole 4 f.leaves) (whole 4 f.postings) (whole 4 f.positions) (whole 1 f.norms) (whole 8 f.live) (whole 4 f.columns) (whole 4 f.values) (whole 4 f.query) e in
    record {
      run = eqb-true (length f.run) 12 t.0;
      fields = few 4 f.fields t.1;
      leaves = few 4 f.leaves t.2;
      postings = few 4 f.postings t.3;
      positions = few 4 f.positions t.4;
      live = few 8 f.live t.6;
      columns = few 4 f.columns t.7;
      values = few 4 f.values t.8;
      query = few 4 f.query t.9;
    }

-- ---- the text
pub refused-files : (f : Files) → taken f ≡ false → refused_text 0 ≡ hits_text f
unfolding hits_text
refused-files f e = ap (λ (b : Bool). cond b (search_text (files_index f) (file_words f.query) (word_at f.run 1) (word_at f.run 2)) (refused_text 0)) (sym e)

module _ (run fields leaves postings positions norms live columns values query : List ℕ) where
  abbrev pub all-files : Files
  all-files = files run fields leaves postings positions norms live columns values query

  -- the words that were read of them
  pub taken-files : taken all-files ≡ true → (n k t : ℕ) (fs ls ps qs vs cs xs os : List ℕ) → n ≡ word_at run 0 → k ≡ word_at run 1 → t ≡ word_at run 2 → fs ≡ file_words fields → ls ≡ file_words leaves → ps ≡ file_words postings → qs ≡ file_words positions → vs ≡ longs_of live → cs ≡ file_words columns → xs ≡ file_words values → os ≡ file_words query → search_text (lent n fs ls ps qs norms vs cs xs) os k t ≡ hits_text all-files
  unfolding hits_text files_index
  taken-files e n k t fs ls ps qs vs cs xs os en ek et e1 e2 e3 e4 e5 e6 e7 e8 =
      rw (en, ek, et, e1, e2, e3, e4, e5, e6, e7, e8)
      (ap (λ (b : Bool). cond b (search_text (files_index all-files) (file_words query) (word_at run 1) (word_at run 2)) (refused_text 0)) (sym e))
