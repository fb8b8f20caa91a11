-- Document 01, "BM25 and the hits" and "Sizes": what the program `hits` prints for the bytes of its ten files.
-- Assumes nothing: these are definitions.
use Rattle.std.specs.Prelude.{cond, List, ℕ, ◌*◌, length}
use Rattle.meaning.specs.Limits.{max_hits, max_records, node_state_words}
use Rattle.meaning.specs.Lent.{Index}
use Rattle.meaning.specs.Query.{query_tree}
use Rattle.meaning.specs.FullList.{ScoreDoc, full_list}
use Rattle.meaning.specs.Hits.{hits, mark}
use Rattle.meaning.specs.CallRefusals.{Work}
use Rattle.meaning.specs.Entries.{answered, search_refusal}
use Rattle.hits_text.specs.Text.{word_at, file_words, longs_of, found_text, refused_text, Files, taken}

-- ---- the program's search
-- "`hits` has a range buffer of 16,384 words"; it never lacks states, starts or places for hits
abbrev pub own_work : Work
own_work = record { states = max_records * node_state_words; starts = 16384; other_starts = 16384; ranges = 16384 }

-- places for as many hits as a k may ask
abbrev pub own_places : ℕ
own_places = max_hits

-- the text of the full list
abbrev pub list_text : ℕ → ℕ → List ScoreDoc → List ℕ
list_text k t list = found_text (length list) (mark k t (length list)) (hits k list)

-- the text of an index and a query that were lent
unfoldable pub search_text : Index → List ℕ → ℕ → ℕ → List ℕ
search_text ix q k t =
    answered (search_refusal ix q k own_work own_places) (list_text k t (full_list ix (query_tree q))) refused_text

-- ---- what it prints
-- the index of the files; "run.rec (N, k, t as words)"
unfoldable pub files_index : Files → Index
files_index f =
    record {
      max_doc = word_at f.run 0;
      fields = file_words f.fields;
      leaves = file_words f.leaves;
      postings = file_words f.postings;
      positions = file_words f.positions;
      norms = f.norms;
      live = longs_of f.live;
      columns = file_words f.columns;
      values = file_words f.values;
    }

-- what the program prints; "prints `refused 0`" where a file is not taken
unfoldable pub hits_text : Files → List ℕ
hits_text f =
    cond (taken f) (search_text (files_index f) (file_words f.query) (word_at f.run 1) (word_at f.run 2)) (refused_text 0)
