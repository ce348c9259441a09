use Rattle.std.proofs.Common.{ℤ, ◌<◌, List, ap, get_or, length, arith}
use Rattle.drive_dies.specs.Mounting.{die_count}
use Rattle.contents_tests.proofs.DriveDies.{has_cells, has_page}
use Rattle.contents_tests.proofs.images.levels_on.Goals as goal

pub levels-requires-clause-place : goal.levels-requires-clause-place
levels-requires-clause-place g c =
    let below : c.args.number < die_count c.args.head.now = omega arith in
    let die = get_or c.args.dies.now c.args.number c.index-dies-number.result in
    has_page g.D.Die.state c.args.head.now c.args.dies.now c.args.number die c.requires below
    (ap (λ other. get_or c.args.dies.now c.args.number other) c.index-dies-number.is)
    c.args.sb c.args.page (omega arith) (omega arith)

pub levels-requires-clause-cells : goal.levels-requires-clause-cells
levels-requires-clause-cells g c =
    let below : c.args.number < die_count c.args.head.now = omega arith in
    let die = get_or c.args.dies.now c.args.number c.index-dies-number.result in
    let long = ap (λ (all : List ℤ). length all) c.deref_mut.ensures.value in
    has_cells g.D.Die.state c.args.head.now c.args.dies.now c.args.number die c.requires below
    (ap (λ other. get_or c.args.dies.now c.args.number other) c.index-dies-number.is)
    (length c.deref_mut.result.now) (omega (arith, long, c.in_ok-levels.ensures.len, c.word_bytes.ensures.bits))
