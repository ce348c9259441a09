use Rattle.std.proofs.Common.{◌*◌, ◌≤◌, arith}
use Rattle.std.proofs.lemmas.Nat.{mul-le}
use Rattle.image_file.proofs.sizes.cells.Goals as goal

pub overflow_mul-result-4 : goal.overflow_mul-result-4
overflow_mul-result-4 c =
    let blocks : c.args.channels * c.args.dies * c.args.superblocks ≤ 64 * 256 =
    mul-le _ _ _ _ (mul-le _ _ 8 8 c.requires.channels c.requires.dies) c.requires.superblocks in
    let cells : c.args.channels * c.args.dies * c.args.superblocks * c.args.pages * c.args.page_cells ≤ 64 * 256 * 256 * 524288 =
    mul-le _ _ _ _ (mul-le _ _ _ _ blocks c.requires.pages) c.requires.page_cells in
    omega arith
