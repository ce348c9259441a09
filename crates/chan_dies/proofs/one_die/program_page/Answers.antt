use Rattle.chan_dies.proofs.ChangedBlocks.{program_ends}
use Rattle.chan_dies.proofs.Mounted.{can_program}
use Rattle.chan_dies.proofs.one_die.program_page.Goals as goal

pub run_op-requires-clause-can : goal.run_op-requires-clause-can
run_op-requires-clause-can g c =
    can_program c.args.shape.now c.args.place.die c.args.place c.row_address-row.result c.args.word.now (g.D.Die.state c.args.die.now)
    c.requires.mounted
    (record { within = c.requires.place; block_is = c.row_address-row.ensures.same_block; page_is = c.row_address-row.ensures.same_page })
    c.requires.word c.requires.next

pub returns-in-Ok-clause-end : goal.returns-in-Ok-clause-end
returns-in-Ok-clause-end g c =
    program_ends c.args.shape.now c.args.place.die c.args.place c.row_address-row.result c.args.word.now (g.D.Die.state c.args.die.now)
    (g.D.Die.state c.run_op.new.die) c.in-Ok.status c.run_op.new.out c.end_of.result c.requires.mounted
    (record { within = c.requires.place; block_is = c.row_address-row.ensures.same_block; page_is = c.row_address-row.ensures.same_page })
    c.in-Ok.ensures.call c.in-Ok.ensures.ok c.end_of.ensures
