-- Each block of the layer is turned and added; the sum has a 1 for each row that is odd.
use Rattle.std.proofs.Common.{◌≡◌, ℕ, ◌+◌, ◌*◌, ◌≤◌, Bool, List, get_or, length, take, refl, ap, sym, ◌∙◌, subst, arith, inr}
use Rattle.std.specs.Prelude.{count_by}
use Rattle.std.specs.List.{range_with_len}
use Rattle.std.proofs.lemmas.List.{take_all}
use Rattle.std.proofs.lemmas.Nat.{row_fits}
use Rattle.ssd_geo.specs.BaseMatrix.{BaseMatrix, layer_of}
use Rattle.ssd_geo.specs.Bits.{bits_of}
use Rattle.ssd_geo.specs.Codewords.{is_odd_row, is_odd_sum, word_bits}
use Rattle.ssd_geo.specs.Layer.{variables_of}
use Rattle.ssd_bits.specs.Runs.{AddsRotated}
use Rattle.ssd_bits.proofs.Counting.{count_to_le}
use Rattle.qc_matrix.proofs.Accepted.{IsBlock, layer-block_of}
use Rattle.qc_matrix.proofs.OddSums.{bit_of-zeros, count_by-range, sums-more, weight_of-block}
use Rattle.qc_matrix.proofs.code.Code.odd_rows.Goals as goal

-- the block of this turn
block_here : (c : goal.After-row_known-in-loop-column-1) → IsBlock c.args.self.now (get_or c.layer-column-items.result.now c.loop-column.column-index (0, 0))
block_here c =
    layer-block_of c.args.self.now c.args.i c.loop-column.column-index (0, 0) c.layer-column-items.result.now c.z-z.ensures.accepted c.requires.row
    c.layer-column-items.ensures c.loop-column-test.true

pub loop-column-init : goal.loop-column-init
loop-column-init c = record {
  inside = λ r _. bit_of-zeros 128 r;
  outside = λ r _. bit_of-zeros 128 r;
}

pub rotate_xor_into-requires-clause-turned : goal.rotate_xor_into-requires-clause-turned
rotate_xor_into-requires-clause-turned c = omega (arith, block_here c)

pub rotate_xor_into-requires-clause-src_room : goal.rotate_xor_into-requires-clause-src_room
rotate_xor_into-requires-clause-src_room c =
    let column : ℕ = (get_or c.layer-column-items.result.now c.loop-column.column-index (0, 0)).0 in
    let size : c.z-z.result ≡ c.args.self.now.z = c.z-z.ensures.value in
    subst (λ (z : ℕ). column * z + z ≤ 8 * length c.args.word.now) (sym size)
    (omega (arith, row_fits column c.args.self.now.z c.args.self.now.nb c.args.self.now.z (block_here c).0 (omega arith)))

pub loop-column-preserved : goal.loop-column-preserved
loop-column-preserved c =
    let m : BaseMatrix = c.args.self.now in
    let block : ℕ × ℕ = get_or c.layer-column-items.result.now c.loop-column.column-index (0, 0) in
    let is_block : IsBlock m block =
    layer-block_of m c.args.i c.loop-column.column-index (0, 0) c.layer-column-items.result.now c.z-z.ensures.accepted c.requires.row
    c.layer-column-items.ensures c.loop-column-test.true in
    let adds : AddsRotated c.loop-column.sums c.rotate_xor_into.new.dst 0 c.args.word.now (block.0 * m.z) m.z block.1 =
    subst (λ (z : ℕ). AddsRotated c.loop-column.sums c.rotate_xor_into.new.dst 0 c.args.word.now (block.0 * z) z block.1) c.z-z.ensures.value
    c.rotate_xor_into.ensures in
    record {
      inside =
          sums-more c.loop-column.sums c.rotate_xor_into.new.dst c.args.word.now c.layer-column-items.result.now m.z (word_bits m) c.loop-column.column-index block.0 block.1
          refl c.loop-column-test.true (omega (arith, c.z-z.ensures.accepted.within.z_low))
          (omega (arith, row_fits block.0 m.z m.nb m.z is_block.0 (omega arith))) adds c.loop-column.invariant.inside;
      outside = λ r past. adds.outside r (inr (omega arith)) ∙ c.loop-column.invariant.outside r past;
    }

ones_are : (c : goal.After-weight) → c.weight.result ≡ count_by (is_odd_row c.args.self.now (bits_of (word_bits c.args.self.now) c.args.word.now) c.args.i) (range_with_len 0 c.args.self.now.z)
ones_are c =
    let m : BaseMatrix = c.args.self.now in
    let bits : List Bool = bits_of (word_bits m) c.args.word.now in
    let whole : take c.loop-column.column-index c.layer-column-items.result.now ≡ layer_of m c.args.i =
    take_all c.loop-column.column-index c.layer-column-items.result.now c.loop-column-test.false ∙ c.layer-column-items.ensures in
    let high : m.z ≤ 1024 = c.z-z.ensures.accepted.within.z_high in
    c.weight.ensures
    ∙ weight_of-block c.loop-column.sums (is_odd_row m bits c.args.i) m.z (8 * length c.loop-column.sums)
    (omega (arith, c.loop-column-test.array_long))
    (λ r low. c.loop-column.invariant.inside r low ∙ ap (λ (layer : List (ℕ × ℕ)). is_odd_sum bits (variables_of layer m.z r)) whole)
    c.loop-column.invariant.outside

pub returns-clause-value : goal.returns-clause-value
returns-clause-value c = ones_are c

pub returns-clause-bound : goal.returns-clause-bound
returns-clause-bound c =
    let m : BaseMatrix = c.args.self.now in
    let test : ℕ → Bool = is_odd_row m (bits_of (word_bits m) c.args.word.now) c.args.i in
    omega (arith, ones_are c, count_by-range test m.z, count_to_le test m.z)
