-- The ranges are listed, then the records measured, then the root is placed: each pass gives what the next asks for.
use Rattle.std.proofs.Common.{length, arith}
use Rattle.index.specs.IndexOf.{index_of}
use Rattle.tree_build.proofs.Root.{root-pre, root-placed}
use Rattle.tree_build.proofs.build_in.Goals as goal

pub list_ranges-requires : goal.list_ranges-requires
list_ranges-requires g c =
    record { query_in_bounds = omega (arith, c.requires.few.0); asks = c.requires.asks; room = c.requires.room.1 }

pub measure_all-requires : goal.measure_all-requires
measure_all-requires g c =
    let lr = c.list_ranges in
    let few = c.requires.few.0 in
    record {
      query_in_bounds = (omega (arith, few, lr.ensures.listed_len_unchanged.0), omega (arith, few));
      asks = c.requires.asks;
      counted = λ r h kind. (lr.ensures.ranges_listed r h kind).count-is;
    }

pub place-requires : goal.place-requires
place-requires g c =
    let lr = c.list_ranges in
    let ma = c.measure_all in
    let few = c.requires.few.0 in
    root-pre (index_of c.args.lent.now) c.args.query.now ma.new.measures lr.new.listed lr.new.ranges (length c.args.states.now) (omega (arith, few, ma.ensures.measures_len_unchanged)) (omega (arith, few, lr.ensures.listed_len_unchanged.0)) c.requires.room.0 c.requires.asks ma.ensures.measured lr.ensures.ranges_listed

pub returns-clause-placed : goal.returns-clause-placed
returns-clause-placed g c =
    let lr = c.list_ranges in
    let ma = c.measure_all in
    let few = c.requires.few.0 in
    root-placed (index_of c.args.lent.now) c.args.query.now ma.new.measures lr.new.listed lr.new.ranges (length c.args.states.now) (omega (arith, few, ma.ensures.measures_len_unchanged)) (omega (arith, few, lr.ensures.listed_len_unchanged.0)) c.requires.room.0 c.requires.asks ma.ensures.measured lr.ensures.ranges_listed c.place.result c.place.new.states c.place.ensures.tree_post
