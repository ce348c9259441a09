use Rattle.std.proofs.Common.{◌<◌, ◌≤◌, ℕ}
use Rattle.chan_dies.specs.DiesState.{blocks_in}
use Rattle.onfi_cmd.specs.DieState.{programmed_in}
use Rattle.channel_ends.proofs.counts.count_in_die.Given as goal

abbrev pub invariant-loop-sb : goal.invariant-loop-sb
invariant-loop-sb g l = (sb : ℕ) → sb < l.sb → programmed_in (blocks_in (g.D.Die.state l.die)) sb ≤ l.shape.pages
