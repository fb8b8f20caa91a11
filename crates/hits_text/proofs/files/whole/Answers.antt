-- A file that is not too long is taken where it is of whole words.
use Rattle.std.proofs.Common.{arith, length, le-leb, refl}
use Rattle.hits_text.proofs.files.whole.Goals as goal

pub returns-then-bytes-le-MAX_BYTES : goal.returns-then-bytes-le-MAX_BYTES
returns-then-bytes-le-MAX_BYTES c = rw (le-leb (length c.args.bytes.now) 65536 (omega (arith, c.if-bytes-le-MAX_BYTES.true))) refl
