use Rattle.std.proofs.Common.{List, ℕ, [], Err, ap, map, sym}
use Rattle.std.specs.Prelude.{flat_map, if◌then◌else◌}
use Rattle.ssd_geo.specs.BlockCells.{BlockCells}
use Rattle.ssd_geo.specs.Limits.{Sizes}
use Rattle.ssd_geo.specs.Shape.{sizes_of}
use Rattle.ssd_formats.specs.ImageContents.{block_bytes, is_stripe_open, pages_at, pages_bytes, saved_block}
use Rattle.ssd_io.proofs.WriteSteps.{writes_is, wrote}
use Rattle.contents_file.specs.DiesCopied.{cells_told}
use Rattle.contents_file.specs.declared.stop.WriteStop.TheVariants.{WriteFault}
use Rattle.contents_file.proofs.BlockBytes.{block_in_parts}
use Rattle.contents_file.proofs.PutSteps.{both_wrote, put_early, put_wrote, puts_all, puts_is, puts_then, sink_fails}
use Rattle.contents_file.proofs.block.write_block.Goals as goal

pub returns-in-Err-clause-puts : goal.returns-in-Err-clause-puts
returns-in-Err-clause-puts g c =
    let sizes : Sizes = sizes_of c.args.base.now.shape in
    let cells : List (List BlockCells) = cells_told (map g.D.Die.state c.args.dies.now) in
    let sum : List ℕ = if is_stripe_open sizes c.args.block then c.args.base.now.sum else [] in
    puts_is (block_bytes (saved_block sizes c.args.base.now.sum cells (c.args.sb, c.args.block)))
    (block_in_parts sizes c.args.base.now.sum cells c.args.sb c.args.block)
    (put_early WriteFault sum (put_early WriteFault (flat_map pages_bytes (map (pages_at c.args.sb) cells)) (sink_fails c.in-Err.ensures)))

pub returns-in-Err-write_dies-clause-puts : goal.returns-in-Err-write_dies-clause-puts
returns-in-Err-write_dies-clause-puts g c =
    let sizes : Sizes = sizes_of c.args.base.now.shape in
    let cells : List (List BlockCells) = cells_told (map g.D.Die.state c.args.dies.now) in
    let sum : List ℕ = if is_stripe_open sizes c.args.block then c.args.base.now.sum else [] in
    puts_is (block_bytes (saved_block sizes c.args.base.now.sum cells (c.args.sb, c.args.block)))
    (block_in_parts sizes c.args.base.now.sum cells c.args.sb c.args.block)
    (put_early c.in-Err-write_dies.stop sum (puts_then (Err c.in-Err-write_dies.stop) (wrote c.in-Ok.ensures) c.in-Err-write_dies.ensures.puts))

pub returns-in-Ok-write_sum-clause-puts : goal.returns-in-Ok-write_sum-clause-puts
returns-in-Ok-write_sum-clause-puts g c =
    let sizes : Sizes = sizes_of c.args.base.now.shape in
    let cells : List (List BlockCells) = cells_told (map g.D.Die.state c.args.dies.now) in
    let sum : List ℕ = if is_stripe_open sizes c.args.block then c.args.base.now.sum else [] in
    let same = ap (λ (l : List ℕ). if is_stripe_open sizes c.args.block then l else []) (sym c.as_slice.ensures) in
    puts_all (block_bytes (saved_block sizes c.args.base.now.sum cells (c.args.sb, c.args.block)))
    (block_in_parts sizes c.args.base.now.sum cells c.args.sb c.args.block)
    (both_wrote (both_wrote (wrote c.in-Ok.ensures) (put_wrote c.in-Ok-write_dies.ensures.puts)) (wrote (writes_is sum same c.in-Ok-write_sum.ensures)))

pub returns-in-Err-write_sum-clause-puts : goal.returns-in-Err-write_sum-clause-puts
returns-in-Err-write_sum-clause-puts g c =
    let sizes : Sizes = sizes_of c.args.base.now.shape in
    let cells : List (List BlockCells) = cells_told (map g.D.Die.state c.args.dies.now) in
    let sum : List ℕ = if is_stripe_open sizes c.args.block then c.args.base.now.sum else [] in
    let same = ap (λ (l : List ℕ). if is_stripe_open sizes c.args.block then l else []) (sym c.as_slice.ensures) in
    puts_is (block_bytes (saved_block sizes c.args.base.now.sum cells (c.args.sb, c.args.block)))
    (block_in_parts sizes c.args.base.now.sum cells c.args.sb c.args.block)
    (puts_then (Err WriteFault) (both_wrote (wrote c.in-Ok.ensures) (put_wrote c.in-Ok-write_dies.ensures.puts)) (sink_fails (writes_is sum same c.in-Err-write_sum.ensures)))
