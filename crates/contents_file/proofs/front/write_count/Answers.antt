use Rattle.std.proofs.Common.{ap, sym, ◌∙◌}
use Rattle.std.specs.Int.{to_le_bytes, w16}
use Rattle.ssd_formats.specs.ImageContents.{pages_at}
use Rattle.chan_dies.specs.DiesState.{blocks_in}
use Rattle.ssd_io.proofs.WriteSteps.{writes_is}
use Rattle.contents_file.specs.BlockParts.{count_bytes}
use Rattle.contents_file.proofs.DieSteps.{count_told}
use Rattle.contents_file.proofs.front.write_count.Goals as goal

pub returns : goal.returns
returns g c =
    writes_is (count_bytes (pages_at c.args.sb (blocks_in (g.D.Die.state c.args.die.now))))
    (ap (to_le_bytes w16) (sym (count_told (g.D.Die.state c.args.die.now) c.args.sb c.programmed-count.result c.requires.tells c.programmed-count.ensures.told))
    ∙ sym c.to_le_bytes.ensures)
    c.put.ensures
