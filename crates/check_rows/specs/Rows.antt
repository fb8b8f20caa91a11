-- What the pass over records in rows gathers. Assumes nothing: these are definitions.
use Rattle.std.specs.Prelude.{◌≡◌, ℕ, ◌+◌, ◌-◌, ◌*◌, ◌%◌, ◌<◌, ◌≤◌, Bool, ◌&&◌, List, bit_or, nat_le, nat_lt, slice_index}
use Rattle.meaning.specs.Below.{count_below}
use Rattle.index.specs.Runs.{run_document, run_frequency, run_index}
use Rattle.index.specs.declared.postings.TheConstants.{POSTING_WORDS, FREQUENCY, POSITIONS}
use Rattle.check_positions.specs.Places.{gap}
use Rattle.check_rows.specs.declared.TheConstants.{ROW_WORDS}
use Rattle.check_rows.specs.declared.Lanes.{Lanes}
use Rattle.check_rows.specs.declared.Tally.{Tally}

-- the word at k is above that of the record before: so where neither has its high bit set
unfoldable pub up_at : List ℕ → ℕ → Bool
up_at words k = nat_le 2147483648 (gap (slice_index words (k - POSTING_WORDS)) (slice_index words k))

-- an index less the index and the frequency of the record before, with the sign changed
unfoldable pub off_at : List ℕ → ℕ → ℕ
off_at words k =
    (gap (slice_index words (k - POSTING_WORDS)) (slice_index words k)
    + slice_index words (k - (POSTING_WORDS + POSITIONS - FREQUENCY))) % 4294967296

-- what is gathered of n words from `at` on, each a row after the one before
pub record Lane (words : List ℕ) (at n rises apart all : ℕ) : Type 0 where
  pub count : rises ≡ count_below n (λ i. up_at words (at + ROW_WORDS * i))
  pub off : (i : ℕ) → i < n → off_at words (at + ROW_WORDS * i) ≤ apart
  pub most : (i : ℕ) → i < n → slice_index words (at + ROW_WORDS * i) ≤ all

-- the document, or the index, of record i is above that of the record before
abbrev pub document_up : List ℕ → ℕ → Bool
document_up run i = nat_lt 0 i && up_at run (POSTING_WORDS * i)

abbrev pub index_up : List ℕ → ℕ → Bool
index_up run i = nat_lt 0 i && up_at run (POSTING_WORDS * i + POSITIONS)

-- what is gathered of the first n records
pub record Over (run : List ℕ) (n : ℕ) (t : Tally) : Type 0 where
  pub documents-up : t.ascents ≡ count_below n (document_up run)
  pub indexes-up : t.advances ≡ count_below n (index_up run)
  pub off : (i : ℕ) → 0 < i → i < n → off_at run (POSTING_WORDS * i + POSITIONS) ≤ t.apart
  pub document : (i : ℕ) → i < n → run_document run i ≤ t.docs
  pub frequency : (i : ℕ) → i < n → run_frequency run i ≤ t.frequencies
  pub index : (i : ℕ) → i < n → run_index run i ≤ t.indexes

-- the rises of a row's documents, and of its indexes
abbrev pub lane_documents : Lanes → ℕ
lane_documents l =
    slice_index l.rises 0 + slice_index l.rises POSTING_WORDS + slice_index l.rises (2 * POSTING_WORDS)
    + slice_index l.rises (3 * POSTING_WORDS)

abbrev pub lane_indexes : Lanes → ℕ
lane_indexes l =
    slice_index l.rises POSITIONS + slice_index l.rises (POSTING_WORDS + POSITIONS)
    + slice_index l.rises (2 * POSTING_WORDS + POSITIONS) + slice_index l.rises (3 * POSTING_WORDS + POSITIONS)

-- a word of each of a row's four records, joined to what was gathered
abbrev pub or_of : ℕ → List ℕ → ℕ → ℕ
or_of x xs w =
    bit_or (bit_or (bit_or (bit_or x (slice_index xs w)) (slice_index xs (POSTING_WORDS + w)))
    (slice_index xs (2 * POSTING_WORDS + w))) (slice_index xs (3 * POSTING_WORDS + w))

-- rows beside what was gathered before them
abbrev pub joined_of : Tally → Lanes → Tally
joined_of t l =
    record {
      ascents = t.ascents + lane_documents l;
      advances = t.advances + lane_indexes l;
      apart = or_of t.apart l.apart POSITIONS;
      docs = or_of t.docs l.all 0;
      frequencies = or_of t.frequencies l.all FREQUENCY;
      indexes = or_of t.indexes l.all POSITIONS;
    }
