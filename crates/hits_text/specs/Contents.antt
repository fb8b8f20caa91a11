-- The ten files that were read, as the record of their bytes. Assumes nothing: these are definitions.
use Rattle.hits_text.specs.Text.{Files, files}
use Rattle.hits_text.specs.declared.files.Contents.{Contents}

abbrev pub files_of : Contents → Files
files_of c =
    files c.run.now c.fields.now c.leaves.now c.postings.now c.positions.now c.norms.now c.live.now
    c.columns.now c.values.now c.query.now
