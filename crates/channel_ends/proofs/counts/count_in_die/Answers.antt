use Rattle.std.proofs.Common.{◌≤◌, ℕ, arith}
use Rattle.chan_dies.specs.DiesState.{blocks_in}
use Rattle.onfi_cmd.specs.DieState.{programmed_in}
use borrow.Author.Count.{below_more}
use Rattle.channel_ends.proofs.counts.count_in_die.Goals as goal

pub loop-sb-preserved : goal.loop-sb-preserved
loop-sb-preserved g c =
    below_more (λ (sb : ℕ). programmed_in (blocks_in (g.D.Die.state c.args.die.now)) sb ≤ c.args.shape.now.pages) c.loop-sb.sb
    c.loop-sb.invariant c.count_in_block.ensures

pub returns : goal.returns
returns g c = λ sb below. c.loop-sb.invariant sb (omega (arith, below))
