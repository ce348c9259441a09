use Rattle.std.proofs.Common.{◌+◌, ◌≤◌, map, vec_capacity}
use Rattle.ssd_geo.specs.Coding.{word_bytes_in}
use Rattle.chan_dies.specs.DiesState.{AreMounted}
use Rattle.chan_dies.specs.Erasing.{ErasesFirst}
use Rattle.chan_dies.proofs.erasing.erase_dies.Given as goal

abbrev pub invariant-loop-die : goal.invariant-loop-die
invariant-loop-die g l = record {
  erased : ErasesFirst l.die l.sb (map g.D.Die.state l.initial.dies.items) (map g.D.Die.state l.dies.items);
  mounted : AreMounted l.shape (map g.D.Die.state l.dies.items);
  has_room : word_bytes_in l.shape + 7 ≤ vec_capacity l.cycles;
  room : vec_capacity l.initial.cycles ≤ vec_capacity l.cycles;
}
