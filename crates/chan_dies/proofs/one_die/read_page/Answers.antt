use Rattle.std.proofs.Common.{length}
use Rattle.chan_dies.proofs.Mounted.{can_read}
use Rattle.chan_dies.proofs.one_die.read_page.Goals as goal

pub run_op-requires-clause-can : goal.run_op-requires-clause-can
run_op-requires-clause-can g c =
    can_read c.args.shape.now c.args.place.die c.args.place c.row_address-row.result (length c.args.out.now) (g.D.Die.state c.args.die.now)
    c.requires.mounted
    (record { within = c.requires.place; block_is = c.row_address-row.ensures.same_block; page_is = c.row_address-row.ensures.same_page })
    c.requires.word
