use Rattle.std.proofs.Common.{◌<◌, length, map, set, arith}
use Rattle.std.proofs.lemmas.List.{length-map}
use Rattle.chan_dies.specs.OneDie.{PutsPage}
use Rattle.chan_dies.specs.Operations.{EndsAs}
use Rattle.chan_dies.proofs.HeldDies.{changed_mounted, ended_mounted, one_changed, put_mounted}
use Rattle.chan_dies.proofs.programming.program_at.Goals as goal

pub returns-clause-end : goal.returns-clause-end
returns-clause-end g c =
    let state = g.D.Die.state in
    let within : c.args.place.die < length c.args.dies.now.items =
    omega (arith, length-map c.args.dies.now.items state, c.requires.mounted.count_is, c.requires.place.die) in
    one_changed state c.args.dies.now.items c.args.place.die c.index_mut-die.result.now c.program_page.new.die
    (EndsAs (PutsPage c.args.place.sb c.args.place.page c.args.word.now) c.args.place.sb c.program_page.result) within
    c.index_mut-die.ensures.value c.program_page.ensures.end

pub returns-clause-mounted : goal.returns-clause-mounted
returns-clause-mounted g c =
    changed_mounted c.args.shape.now c.args.place.die
    (EndsAs (PutsPage c.args.place.sb c.args.place.page c.args.word.now) c.args.place.sb c.program_page.result)
    (map g.D.Die.state c.args.dies.now.items) (map g.D.Die.state (set c.args.dies.now.items c.args.place.die c.program_page.new.die))
    (ended_mounted c.args.shape.now c.args.place.die (PutsPage c.args.place.sb c.args.place.page c.args.word.now) c.args.place.sb
    c.program_page.result (put_mounted c.args.shape.now c.args.place.die c.args.place.sb c.args.place.page c.args.word.now))
    c.requires.place.die c.requires.mounted (returns-clause-end g c)
