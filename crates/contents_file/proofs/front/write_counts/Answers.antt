use Rattle.std.proofs.Common.{◌≡◌, ℤ, List, [], map, length, ap, sym, arith}
use Rattle.std.specs.Prelude.{flat_map}
use Rattle.std.proofs.lemmas.List.{take_all}
use Rattle.ssd_formats.specs.ImageContents.{pages_at}
use Rattle.ssd_io.proofs.WriteSteps.{piece_fails, piece_wrote, writes_all}
use Rattle.contents_file.specs.BlockParts.{count_bytes}
use Rattle.contents_file.specs.DiesCopied.{cells_told}
use Rattle.contents_file.proofs.DieSteps.{pages_count}
use Rattle.contents_file.proofs.front.write_counts.Goals as goal

pub loop-die-preserved : goal.loop-die-preserved
loop-die-preserved g c =
    let pages : List (List (List ℤ)) = map (pages_at c.args.sb) (cells_told (map g.D.Die.state c.args.dies.now)) in
    let count : length pages ≡ c.args.shape.now.dies = pages_count c.args.shape.now (map g.D.Die.state c.args.dies.now) c.args.sb c.requires.dies in
    piece_wrote count_bytes pages c.loop-die.die [] (omega (arith, count)) c.loop-die.invariant c.in_ok-write_count_at.ensures

pub returns-in_err-write_count_at : goal.returns-in_err-write_count_at
returns-in_err-write_count_at g c =
    let pages : List (List (List ℤ)) = map (pages_at c.args.sb) (cells_told (map g.D.Die.state c.args.dies.now)) in
    let count : length pages ≡ c.args.shape.now.dies = pages_count c.args.shape.now (map g.D.Die.state c.args.dies.now) c.args.sb c.requires.dies in
    piece_fails count_bytes pages c.loop-die.die [] _ c.from_residual.ensures.0 (omega (arith, count)) c.loop-die.invariant c.in_err-write_count_at.ensures

pub returns : goal.returns
returns g c =
    let pages : List (List (List ℤ)) = map (pages_at c.args.sb) (cells_told (map g.D.Die.state c.args.dies.now)) in
    let count : length pages ≡ c.args.shape.now.dies = pages_count c.args.shape.now (map g.D.Die.state c.args.dies.now) c.args.sb c.requires.dies in
    writes_all (flat_map count_bytes pages) (ap (flat_map count_bytes) (sym (take_all c.loop-die.die pages (omega (arith, count))))) c.loop-die.invariant
