-- The first `given` live matches with their scores stand at the front, and `next` is the one after them.
use Rattle.scorer_leaf.specs.Buffers.{places_in, SameBuffers}
use Rattle.walk.proofs.Walking.{GivenAt}
use Rattle.walk.proofs.list.Given as goal

abbrev pub invariant-loop-given : goal.invariant-loop-given
invariant-loop-given l =
    record {
      same_buffers : SameBuffers l.fn.buffers l.buffers;
      page : GivenAt l.reader (places_in l.fn.buffers) l.fn.states l.from l.depth l.fn.docs l.fn.bits l.states l.docs l.bits l.given l.next;
    }
