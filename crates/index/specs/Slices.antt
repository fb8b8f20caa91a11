-- The index as the slices that a function is lent: what it is not lent it does not look at, and stands here as nothing.
-- Assumes nothing: these are definitions.
use Rattle.std.specs.Prelude.{List, [], ℕ}
use Rattle.meaning.specs.Lent.{Index}

-- the record of all that is lent
abbrev pub lent : ℕ → List ℕ → List ℕ → List ℕ → List ℕ → List ℕ → List ℕ → List ℕ → List ℕ → Index
lent n fs ls ps qs ns vs cs xs =
    record {
      max_doc = n;
      fields = fs;
      leaves = ls;
      postings = ps;
      positions = qs;
      norms = ns;
      live = vs;
      columns = cs;
      values = xs;
    }

-- the field records alone
abbrev pub fields_only : List ℕ → Index
fields_only fs = lent 0 fs [] [] [] [] [] [] []

-- the live words alone
abbrev pub live_only : List ℕ → Index
live_only vs = lent 0 [] [] [] [] [] vs [] []

-- what 3 looks at: N, fields, norm bytes, live words
abbrev pub lengths_only : ℕ → List ℕ → List ℕ → List ℕ → Index
lengths_only n fs ns vs = lent n fs [] [] [] ns vs [] []

-- what 4 looks at: fields, leaves, postings
abbrev pub leaves_only : List ℕ → List ℕ → List ℕ → Index
leaves_only fs ls ps = lent 0 fs ls ps [] [] [] [] []

-- what 5 looks at: N, fields, leaves, postings, positions
abbrev pub runs_only : ℕ → List ℕ → List ℕ → List ℕ → List ℕ → Index
runs_only n fs ls ps qs = lent n fs ls ps qs [] [] [] []
