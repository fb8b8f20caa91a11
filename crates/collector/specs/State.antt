-- A collector's state from one document to the next. Assumes nothing: these are definitions.
use Rattle.std.specs.Prelude.{Bool, true, cond, ◌&&◌, List, ℕ, ◌+◌, ltb, eqb, length, ℤ, Float}
use Rattle.std.specs.Float.{inf}
use Rattle.std.specs.Float.Ieee.{lt}
use Rattle.meaning.specs.Ieee754.{zero_float, next_up}
use Rattle.meaning.specs.Hits.{to_score}
use Rattle.collector.specs.declared.TopScoreDocCollector.{TopScoreDocCollector}
use Rattle.collector.specs.Heap.{at}

-- minus infinity until every place is held, and from then on the score of the least code
abbrev pub top_score : ℕ → List ℤ → Float
top_score held heap = cond (ltb held (length heap)) (inf true) (to_score (at heap 0))

-- 0 until the mark is set, and from then on the next score above `top`
abbrev pub competitive : Bool → Float → Float
competitive marked top = cond marked (next_up top) zero_float

-- one more hit, with so many held and this top score
abbrev pub counted : TopScoreDocCollector → ℕ → Float → TopScoreDocCollector
counted c held top =
    record {
      held = held;
      total_hits = c.total_hits + 1;
      total_hits_threshold = c.total_hits_threshold;
      top_score = top;
      min_competitive_score = c.min_competitive_score;
      hits_lower_bound = c.hits_lower_bound;
    }

-- past the threshold, the next score above the top score is the least competitive one, and the count a lower bound
abbrev pub updated : TopScoreDocCollector → TopScoreDocCollector
updated c =
    cond (ltb c.total_hits_threshold c.total_hits && lt c.min_competitive_score (next_up c.top_score))
    (record {
      held = c.held;
      total_hits = c.total_hits;
      total_hits_threshold = c.total_hits_threshold;
      top_score = c.top_score;
      min_competitive_score = next_up c.top_score;
      hits_lower_bound = true;
    })
    c

-- a document that does not enter: only the first one past the threshold can change the mark
abbrev pub not_entered : TopScoreDocCollector → TopScoreDocCollector
not_entered c =
    cond (eqb c.total_hits c.total_hits_threshold) (updated (counted c c.held c.top_score))
    (counted c c.held c.top_score)
