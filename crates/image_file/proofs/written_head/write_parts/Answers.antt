use Rattle.std.proofs.Common.{◌++◌, List, ℕ}
use Rattle.std.specs.Int.{to_le_bytes, w8}
use Rattle.std.specs.Prelude.{if◌then◌else◌}
use Rattle.ssd_formats.specs.ImageHead.{head_of}
use Rattle.image_file.specs.HeadBytes.{block_bytes, code_bytes}
use Rattle.image_file.proofs.SpelledFields.{bytes_in_parts}
use Rattle.ssd_io.proofs.WriteSteps.{fails_early, writes_then, wrote}
use Rattle.image_file.proofs.written_head.write_parts.Goals as goal

pub returns-in_err-write_fixed : goal.returns-in_err-write_fixed
returns-in_err-write_fixed g c =
    let head = head_of c.args.head.now in
    let contents : List ℕ = to_le_bytes w8 (if head.full then 1 else 0) in
    rw (bytes_in_parts head) (fails_early (code_bytes head ++ (block_bytes head ++ contents)) _ c.from_residual.ensures.0 c.in_err-write_fixed.ensures)

pub returns-in_err-write_code : goal.returns-in_err-write_code
returns-in_err-write_code g c =
    let head = head_of c.args.head.now in
    let contents : List ℕ = to_le_bytes w8 (if head.full then 1 else 0) in
    rw (bytes_in_parts head) (writes_then _ (wrote c.in_ok-write_fixed.ensures)
    (fails_early (block_bytes head ++ contents) _ c.from_residual-in_err-write_code.ensures.0 c.in_err-write_code.ensures))

pub returns-in_err-write_blocks : goal.returns-in_err-write_blocks
returns-in_err-write_blocks g c =
    let head = head_of c.args.head.now in
    let contents : List ℕ = to_le_bytes w8 (if head.full then 1 else 0) in
    rw (bytes_in_parts head) (writes_then _ (wrote c.in_ok-write_fixed.ensures)
    (writes_then _ (wrote c.in_ok-write_code.ensures)
    (fails_early contents _ c.from_residual-in_err-write_blocks.ensures.0 c.in_err-write_blocks.ensures)))

pub returns : goal.returns
returns g c =
    let head = head_of c.args.head.now in
    let contents : List ℕ = to_le_bytes w8 (if head.full then 1 else 0) in
    rw (bytes_in_parts head) (writes_then _ (wrote c.in_ok-write_fixed.ensures)
    (writes_then _ (wrote c.in_ok-write_code.ensures)
    (writes_then _ (wrote c.in_ok-write_blocks.ensures) c.write_contents.ensures)))
