-- The ladder stands for the senses that were made since the look, and each sense that it asks for
-- is one more of at most 168.
use Rattle.std.proofs.Common.{◌≡◌, ◌-◌, length}
use Rattle.chan_calls.specs.Caller.{SameCaller}
use Rattle.chan_calls.specs.Climbing.{HasClimbed, IsLadderOf}
use Rattle.chan_tables.specs.TablesState.{senses_had}
use Rattle.ssd_geo.specs.Coding.{word_bytes_in}
use Rattle.chan_calls.proofs.climb.climb.Given as goal

abbrev pub invariant-loop-place : goal.invariant-loop-place
invariant-loop-place g l = record {
  ladder : IsLadderOf l.fn.ladder l.ladder;
  decoder : l.decoder.decoder ≡ l.fn.decoder.decoder;
  caller : SameCaller (g.S.Steps.view l.fn.steps) (g.S.Steps.view l.steps);
  word : length l.word ≡ word_bytes_in l.fn.ladder.shape;
  climbed : HasClimbed l.ladder l.fn.decoder.decoder.code l.fn.decoder.decoder.limit
      (g.S.Steps.view l.fn.steps) (g.S.Steps.view l.steps) (g.S.Steps.stands l.fn.steps)
      (g.S.Steps.stands l.steps) l.tag l.look;
}

abbrev pub decreases-loop-place : goal.decreases-loop-place
decreases-loop-place g l = 168 - senses_had (g.S.Steps.view l.steps).seen l.look.at
