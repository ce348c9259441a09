-- The base matrix of a head has no fault.
use Rattle.ssd_formats.specs.ImageHead.{head_of}
use Rattle.ssd_top.proofs.DriveCodes.{no_diagonal}
use Rattle.ssd_top.proofs.worker.code_of.Goals as goal

pub unreachable-requires-in-Err-Diagonal : goal.unreachable-requires-in-Err-Diagonal
unreachable-requires-in-Err-Diagonal c =
    no_diagonal (head_of c.args.head.now) c.requires c.as_slice.result.now c.as_slice.ensures c.in-Err-Diagonal.field-0
    c.in-Err-Diagonal.field-0-0 c.in-Err-Diagonal.field-0-1
    c.in-Err-Diagonal.ensures.err c.in-Err-Diagonal.field-0-is
