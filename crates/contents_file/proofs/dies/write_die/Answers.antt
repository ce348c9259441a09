use Rattle.std.proofs.Common.{◌<◌, [], get_or, map, length, ap, arith}
use Rattle.std.proofs.lemmas.List.{length-map}
use Rattle.ssd_formats.specs.ImageContents.{pages_at, pages_bytes}
use Rattle.contents_file.specs.DiesCopied.{cells_told}
use Rattle.contents_file.proofs.DieSteps.{block_of_shape, one_becomes, one_tells, page_of_shape, pages_of_one}
use Rattle.contents_file.proofs.PutSteps.{puts_is}
use Rattle.contents_file.proofs.dies.write_die.Goals as goal

pub write_pages-requires-clause-block : goal.write_pages-requires-clause-block
write_pages-requires-clause-block g c =
    let one = get_or c.args.dies.now c.args.die c.index-dies-die.result in
    let is = ap (λ x. get_or c.args.dies.now c.args.die x) c.index-dies-die.is in
    let within : c.args.die < length c.args.dies.now = omega (arith, length-map c.args.dies.now g.D.Die.state, c.requires.dies.count_is, c.requires.die) in
    block_of_shape c.args.shape.now _ c.args.sb
    (one_tells g.D.Die.state c.args.shape.now c.args.dies.now c.args.die one c.requires.dies c.requires.die within is) c.requires.sb

pub write_pages-requires-clause-tells : goal.write_pages-requires-clause-tells
write_pages-requires-clause-tells g c =
    let one = get_or c.args.dies.now c.args.die c.index-dies-die.result in
    let is = ap (λ x. get_or c.args.dies.now c.args.die x) c.index-dies-die.is in
    let within : c.args.die < length c.args.dies.now = omega (arith, length-map c.args.dies.now g.D.Die.state, c.requires.dies.count_is, c.requires.die) in
    (one_tells g.D.Die.state c.args.shape.now c.args.dies.now c.args.die one c.requires.dies c.requires.die within is).tells

pub write_pages-requires-clause-cells : goal.write_pages-requires-clause-cells
write_pages-requires-clause-cells g c =
    let one = get_or c.args.dies.now c.args.die c.index-dies-die.result in
    let is = ap (λ x. get_or c.args.dies.now c.args.die x) c.index-dies-die.is in
    let within : c.args.die < length c.args.dies.now = omega (arith, length-map c.args.dies.now g.D.Die.state, c.requires.dies.count_is, c.requires.die) in
    page_of_shape c.args.shape.now _ _
    (one_tells g.D.Die.state c.args.shape.now c.args.dies.now c.args.die one c.requires.dies c.requires.die within is) c.requires.cells

pub returns-clause-puts : goal.returns-clause-puts
returns-clause-puts g c =
    let one = get_or c.args.dies.now c.args.die c.index-dies-die.result in
    let is = ap (λ x. get_or c.args.dies.now c.args.die x) c.index-dies-die.is in
    let within : c.args.die < length c.args.dies.now = omega (arith, length-map c.args.dies.now g.D.Die.state, c.requires.dies.count_is, c.requires.die) in
    puts_is (pages_bytes (get_or (map (pages_at c.args.sb) (cells_told (map g.D.Die.state c.args.dies.now))) c.args.die []))
    (ap pages_bytes (pages_of_one g.D.Die.state c.args.dies.now c.args.sb c.args.die one within is))
    c.write_pages.ensures.puts

pub returns-clause-dies : goal.returns-clause-dies
returns-clause-dies g c =
    let one = get_or c.args.dies.now c.args.die c.index-dies-die.result in
    let is = ap (λ x. get_or c.args.dies.now c.args.die x) c.index-dies-die.is in
    let within : c.args.die < length c.args.dies.now = omega (arith, length-map c.args.dies.now g.D.Die.state, c.requires.dies.count_is, c.requires.die) in
    one_becomes g.D.Die.state c.args.dies.now c.args.die one c.write_pages.new.die c.args.first c.write_pages.result within is c.write_pages.ensures.die
