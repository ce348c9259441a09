use Rattle.std.proofs.Common.{◌<◌, ℕ, length, map, subst, sym, arith}
use Rattle.std.proofs.lemmas.List.{length-map}
use borrow.Author.Count.{below_more}
use Rattle.chan_dies.proofs.HeldDies.{seen_at}
use Rattle.chan_dies.specs.DiesState.{IsMountedDie, die_at}
use Rattle.channel_ends.proofs.PageCounts.{shape_of_die}
use Rattle.channel_ends.specs.ChannelEnds.{HasFewPages}
use Rattle.channel_ends.proofs.counts.count_pages.Goals as goal

pub count_in_die-requires-clause-mounted : goal.count_in_die-requires-clause-mounted
count_in_die-requires-clause-mounted g c =
    let within : c.loop-die.die < length c.args.dies.now =
    omega (arith, length-map c.args.dies.now g.D.Die.state, c.requires.count_is, c.loop-die-test.true) in
    shape_of_die c.args.shape.now c.loop-die.die (g.D.Die.state c.index-dies-die.result)
    (subst (IsMountedDie c.args.shape.now c.loop-die.die)
    (seen_at g.D.Die.state c.args.dies.now c.loop-die.die c.index-dies-die.result within c.index-dies-die.is)
    (c.requires.each c.loop-die.die c.loop-die-test.true))

pub count_in_die-requires-clause-tells : goal.count_in_die-requires-clause-tells
count_in_die-requires-clause-tells g c =
    let within : c.loop-die.die < length c.args.dies.now =
    omega (arith, length-map c.args.dies.now g.D.Die.state, c.requires.count_is, c.loop-die-test.true) in
    (subst (IsMountedDie c.args.shape.now c.loop-die.die)
    (seen_at g.D.Die.state c.args.dies.now c.loop-die.die c.index-dies-die.result within c.index-dies-die.is)
    (c.requires.each c.loop-die.die c.loop-die-test.true)).tells

pub loop-die-preserved : goal.loop-die-preserved
loop-die-preserved g c =
    let within : c.loop-die.die < length c.args.dies.now =
    omega (arith, length-map c.args.dies.now g.D.Die.state, c.requires.count_is, c.loop-die-test.true) in
    below_more (λ (die : ℕ). HasFewPages c.args.shape.now (die_at (map g.D.Die.state c.args.dies.now) die)) c.loop-die.die
    c.loop-die.invariant
    (subst (HasFewPages c.args.shape.now)
    (sym (seen_at g.D.Die.state c.args.dies.now c.loop-die.die c.index-dies-die.result within c.index-dies-die.is))
    c.count_in_die.ensures)
