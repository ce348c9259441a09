use Rattle.std.proofs.Common.{◌<◌, [], map, get_or, length, ap, arith}
use Rattle.std.proofs.lemmas.List.{length-map}
use Rattle.ssd_formats.specs.ImageContents.{pages_at}
use Rattle.ssd_io.proofs.WriteSteps.{writes_is}
use Rattle.contents_file.specs.BlockParts.{count_bytes}
use Rattle.contents_file.specs.DiesCopied.{cells_told}
use Rattle.contents_file.proofs.DieSteps.{block_of_shape, one_tells, pages_of_one}
use Rattle.contents_file.proofs.front.write_count_at.Goals as goal

pub write_count-requires-clause-block : goal.write_count-requires-clause-block
write_count-requires-clause-block g c =
    let within : c.args.die < length c.args.dies.now = omega (arith, length-map c.args.dies.now g.D.Die.state, c.requires.dies.count_is, c.requires.die) in
    block_of_shape c.args.shape.now _ c.args.sb
    (one_tells g.D.Die.state c.args.shape.now c.args.dies.now c.args.die c.index-dies-die.result c.requires.dies c.requires.die within c.index-dies-die.is) c.requires.sb

pub write_count-requires-clause-tells : goal.write_count-requires-clause-tells
write_count-requires-clause-tells g c =
    let within : c.args.die < length c.args.dies.now = omega (arith, length-map c.args.dies.now g.D.Die.state, c.requires.dies.count_is, c.requires.die) in
    (one_tells g.D.Die.state c.args.shape.now c.args.dies.now c.args.die c.index-dies-die.result c.requires.dies c.requires.die within c.index-dies-die.is).tells

pub returns : goal.returns
returns g c =
    let within : c.args.die < length c.args.dies.now = omega (arith, length-map c.args.dies.now g.D.Die.state, c.requires.dies.count_is, c.requires.die) in
    writes_is (count_bytes (get_or (map (pages_at c.args.sb) (cells_told (map g.D.Die.state c.args.dies.now))) c.args.die []))
    (ap count_bytes (pages_of_one g.D.Die.state c.args.dies.now c.args.sb c.args.die c.index-dies-die.result within c.index-dies-die.is))
    c.write_count.ensures
