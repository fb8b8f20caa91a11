-- The live documents before `doc` are collected.
use Rattle.std.proofs.Common.{◌≡◌, length}
use Rattle.bulk.proofs.AnyRoot.{AnysAt}
use Rattle.bulk.proofs.everything.collect_everything.Given as goal

abbrev pub invariant-loop-doc : goal.invariant-loop-doc
invariant-loop-doc l =
    record {
      long : length l.heap ≡ length l.fn.heap;
      collected : AnysAt l.fn.reader.max_doc l.fn.reader.live.now l.s l.doc_base l.fn.c l.fn.heap l.c l.heap l.doc;
    }
