-- Each block of the layer adds its bits where it stands in the message.
use Rattle.std.proofs.Common.{◌≡◌, ℕ, ◌+◌, ◌-◌, List, get_or, take, ap, sym, ◌∙◌, subst, arith}
use Rattle.std.proofs.lemmas.List.{take_all}
use Rattle.ssd_geo.specs.BaseMatrix.{BaseMatrix, layer_of, message_columns}
use Rattle.ssd_bits.specs.Runs.{AddsBits}
use Rattle.ssd_geo.specs.Bits.{bit_sum}
use Rattle.qc_matrix.proofs.Accepted.{IsBlock, layer-block_of}
use Rattle.ldpc_encode.proofs.LowBlocks.{low-blocks}
use Rattle.ldpc_encode.proofs.Steps.{AddsBits-add, AddsBits-same}
use Rattle.ldpc_encode.proofs.Sums.{sum_blocks, sum_blocks-more}
use Rattle.ldpc_encode.specs.Encoding.{low_bit, message_sum_bit}
use Rattle.ldpc_encode.proofs.message.add_message_sum.Goals as goal

pub add_block-requires-clause-turned : goal.add_block-requires-clause-turned
add_block-requires-clause-turned c =
    let block : IsBlock c.args.code.now (get_or c.layer-block-items.result.now c.loop-block.block-index (0, 0)) =
    layer-block_of c.args.code.now c.args.i c.loop-block.block-index (0, 0) c.layer-block-items.result.now c.z-z.ensures.accepted c.requires.row
    c.layer-block-items.ensures c.loop-block-test.true in
    omega (arith, block, c.z-z.ensures.value)

pub loop-block-preserved : goal.loop-block-preserved
loop-block-preserved c =
    let kb : ℕ = c.nb.result - c.mb.result in
    let blocks : List (ℕ × ℕ) = c.layer-block-items.result.now in
    let k : ℕ = c.loop-block.block-index in
    AddsBits-same c.args.sum.now c.add_block.new.sum 0 c.z-z.result
    (λ r. bit_sum (sum_blocks (low_bit kb c.z-z.result c.args.payload.now r) (take k blocks)) (low_bit kb c.z-z.result c.args.payload.now r (get_or blocks k (0, 0))))
    (λ r. sum_blocks (low_bit kb c.z-z.result c.args.payload.now r) (take (k + 1) blocks))
    (AddsBits-add c.args.sum.now c.loop-block.sum c.add_block.new.sum 0 c.z-z.result
    (λ r. sum_blocks (low_bit kb c.z-z.result c.args.payload.now r) (take k blocks))
    (λ r. low_bit kb c.z-z.result c.args.payload.now r (get_or blocks k (0, 0))) c.loop-block.invariant c.add_block.ensures)
    (λ r _. sym (sum_blocks-more (low_bit kb c.z-z.result c.args.payload.now r) blocks k (0, 0) c.loop-block-test.true))

pub returns : goal.returns
returns c =
    let m : BaseMatrix = c.args.code.now in
    let blocks : List (ℕ × ℕ) = c.layer-block-items.result.now in
    let all : take c.loop-block.block-index blocks ≡ layer_of m c.args.i = take_all c.loop-block.block-index blocks c.loop-block-test.false ∙ c.layer-block-items.ensures in
    let kb : c.nb.result - c.mb.result ≡ message_columns m = omega (arith, c.nb.ensures.value, c.mb.ensures.value) in
    let z : c.z-z.result ≡ m.z = c.z-z.ensures.value in
    let added : AddsBits c.args.sum.now c.loop-block.sum 0 m.z (λ r. sum_blocks (low_bit (message_columns m) m.z c.args.payload.now r) (take c.loop-block.block-index blocks)) =
    subst (λ (n : ℕ). AddsBits c.args.sum.now c.loop-block.sum 0 m.z (λ r. sum_blocks (low_bit n m.z c.args.payload.now r) (take c.loop-block.block-index blocks))) kb
    (subst (λ (n : ℕ). AddsBits c.args.sum.now c.loop-block.sum 0 n (λ r. sum_blocks (low_bit (c.nb.result - c.mb.result) n c.args.payload.now r) (take c.loop-block.block-index blocks))) z
    c.loop-block.invariant) in
    AddsBits-same c.args.sum.now c.loop-block.sum 0 m.z (λ r. sum_blocks (low_bit (message_columns m) m.z c.args.payload.now r) (take c.loop-block.block-index blocks))
    (message_sum_bit m c.args.payload.now c.args.i) added
    (λ r low. ap (sum_blocks (low_bit (message_columns m) m.z c.args.payload.now r)) all ∙ low-blocks m c.z-z.ensures.accepted c.args.payload.now c.args.i r low)
