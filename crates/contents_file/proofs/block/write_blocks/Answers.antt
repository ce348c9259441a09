use Rattle.std.proofs.Common.{◌≡◌, ◌<◌, ◌∙◌, ◌*◌, List, ℕ, Err, map, length, get_or, subst, sym, ap, arith}
use Rattle.std.specs.Prelude.{flat_map}
use Rattle.std.proofs.lemmas.List.{take_all}
use Rattle.ssd_geo.specs.BlockCells.{BlockCells}
use Rattle.ssd_geo.specs.Limits.{Sizes}
use Rattle.ssd_geo.specs.Shape.{sizes_of}
use Rattle.ssd_geo.specs.declared.base.BlockBase.{BlockBase}
use Rattle.ssd_formats.specs.ImageContents.{SavedBlock, block_bytes, saved_block, saved_channel}
use Rattle.onfi_cmd.specs.DieState.{DieState}
use Rattle.contents_file.specs.DiesCopied.{AllTellPages, cells_told}
use Rattle.contents_file.proofs.BlockBytes.{saved_at, saved_count}
use Rattle.contents_file.proofs.DieSteps.{later_become}
use Rattle.contents_file.proofs.PutSteps.{item_put, item_stops, puts_all, puts_is}
use Rattle.contents_file.proofs.block.write_blocks.Goals as goal

pub write_block-requires-clause-dies : goal.write_block-requires-clause-dies
write_block-requires-clause-dies g c =
    subst (λ (dies : List DieState). AllTellPages c.args.base.now.shape dies) (sym c.loop-sb.invariant.stays) c.requires.dies

pub loop-sb-preserved : goal.loop-sb-preserved
loop-sb-preserved g c =
    let sizes : Sizes = sizes_of c.args.base.now.shape in
    let sum : List ℕ = c.args.base.now.sum in
    let cells : List (List BlockCells) = cells_told (map g.D.Die.state c.args.dies.now) in
    let blocks : List BlockBase = c.args.base.now.blocks in
    let saved : List SavedBlock = (saved_channel c.args.base.now cells).blocks in
    let count : length saved ≡ length blocks = saved_count sizes sum cells blocks in
    let sb : ℕ = c.loop-sb.sb in
    let below : sb < length blocks = omega (arith, c.requires.blocks, c.loop-sb-test.true) in
    let block : BlockBase = c.block_of.result in
    let at : block ≡ get_or blocks sb block = c.block_of.ensures in
    let own : SavedBlock = saved_block sizes sum cells (sb, block) in
    let now : List (List BlockCells) = cells_told (map g.D.Die.state c.loop-sb.dies) in
    let same : now ≡ cells = ap cells_told c.loop-sb.invariant.stays in
    let item : block_bytes (get_or saved sb own) ≡ block_bytes (saved_block sizes sum now (sb, block)) =
    ap block_bytes (saved_at sizes sum cells blocks sb block own below at ∙ ap (λ (l : List (List BlockCells)). saved_block sizes sum l (sb, block)) (sym same)) in
    record {
      wrote =
          item_put block_bytes saved sb own (omega (arith, count, below)) c.loop-sb.invariant.wrote
          (puts_is (block_bytes (get_or saved sb own)) item c.in-Ok.ensures.puts);
      stays = c.in-Ok.ensures.dies ∙ c.loop-sb.invariant.stays;
      length = c.write_block.ensures.length ∙ c.loop-sb.invariant.length;
    }

pub returns-in-Err-clause-puts : goal.returns-in-Err-clause-puts
returns-in-Err-clause-puts g c =
    let sizes : Sizes = sizes_of c.args.base.now.shape in
    let sum : List ℕ = c.args.base.now.sum in
    let cells : List (List BlockCells) = cells_told (map g.D.Die.state c.args.dies.now) in
    let blocks : List BlockBase = c.args.base.now.blocks in
    let saved : List SavedBlock = (saved_channel c.args.base.now cells).blocks in
    let count : length saved ≡ length blocks = saved_count sizes sum cells blocks in
    let sb : ℕ = c.loop-sb.sb in
    let below : sb < length blocks = omega (arith, c.requires.blocks, c.loop-sb-test.true) in
    let block : BlockBase = c.block_of.result in
    let at : block ≡ get_or blocks sb block = c.block_of.ensures in
    let own : SavedBlock = saved_block sizes sum cells (sb, block) in
    let now : List (List BlockCells) = cells_told (map g.D.Die.state c.loop-sb.dies) in
    let same : now ≡ cells = ap cells_told c.loop-sb.invariant.stays in
    let item : block_bytes (get_or saved sb own) ≡ block_bytes (saved_block sizes sum now (sb, block)) =
    ap block_bytes (saved_at sizes sum cells blocks sb block own below at ∙ ap (λ (l : List (List BlockCells)). saved_block sizes sum l (sb, block)) (sym same)) in
    item_stops c.in-Err.stop block_bytes saved sb own (omega (arith, count, below)) c.loop-sb.invariant.wrote
    (puts_is (block_bytes (get_or saved sb own)) item c.in-Err.ensures.puts)

pub returns-in-Err-clause-dies : goal.returns-in-Err-clause-dies
returns-in-Err-clause-dies g c =
    later_become {T = Unit {0}} (c.args.base.now.channel * c.args.base.now.shape.dies) (map g.D.Die.state c.args.dies.now) (map g.D.Die.state c.loop-sb.dies) (map g.D.Die.state c.write_block.new.dies) (Err c.in-Err.stop)
    c.loop-sb.invariant.stays c.in-Err.ensures.dies

pub returns-clause-puts : goal.returns-clause-puts
returns-clause-puts g c =
    let saved : List SavedBlock = (saved_channel c.args.base.now (cells_told (map g.D.Die.state c.args.dies.now))).blocks in
    let count : length saved ≡ length c.args.base.now.blocks = saved_count (sizes_of c.args.base.now.shape) c.args.base.now.sum (cells_told (map g.D.Die.state c.args.dies.now)) c.args.base.now.blocks in
    puts_all (flat_map block_bytes saved) (ap (flat_map block_bytes) (sym (take_all c.loop-sb.sb saved (omega (arith, count, c.requires.blocks))))) c.loop-sb.invariant.wrote
