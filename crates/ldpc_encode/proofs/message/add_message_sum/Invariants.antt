use Rattle.std.proofs.Common.{take}
use Rattle.ssd_bits.specs.Runs.{AddsBits}
use Rattle.ldpc_encode.specs.Encoding.{low_bit}
use Rattle.ldpc_encode.proofs.Sums.{sum_blocks}
use Rattle.ldpc_encode.proofs.message.add_message_sum.Given as goal

-- the blocks of the message so far are added
abbrev pub invariant-loop-block : goal.invariant-loop-block
invariant-loop-block l =
    AddsBits l.initial.sum l.sum 0 l.z (λ r. sum_blocks (low_bit l.columns l.z l.payload r) (take l.block-index l.block-items))
