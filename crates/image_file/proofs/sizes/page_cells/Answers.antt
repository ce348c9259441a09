use Rattle.std.proofs.Common.{◌*◌, ◌≤◌}
use Rattle.std.proofs.lemmas.Nat.{mul-le}
use Rattle.image_file.proofs.sizes.page_cells.Goals as goal

pub returns-clause-bound : goal.returns-clause-bound
returns-clause-bound c =
    let bits : c.args.nb * c.args.z ≤ 128 * 1024 = mul-le _ _ 128 1024 c.requires.nb c.requires.lifting in
    let all : c.args.words * (c.args.nb * c.args.z) ≤ 4 * 131072 = mul-le _ _ 4 131072 c.requires.words bits in
    all
