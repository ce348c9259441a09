use Rattle.std.proofs.Common.{◌-◌, length, get_or, pos, w16, SFits, ◌∙◌, rules, arith}
use Rattle.std.proofs.lemmas.Int.{to_z-of_z}
use Rattle.ldpc_decode.proofs.Packing.{number_fits, number_more, one_bit, sign_bit}
use Rattle.ldpc_decode.proofs.decision.packed.Goals as goal

pub overflow_mul-byte : goal.overflow_mul-byte
overflow_mul-byte c = omega (arith, number_fits c.args.numbers.now c.loop-k.k c.loop-k.byte c.requires (omega arith) c.loop-k.invariant)

pub overflow_add-byte : goal.overflow_add-byte
overflow_add-byte c = omega (arith, number_fits c.args.numbers.now c.loop-k.k c.loop-k.byte c.requires (omega arith) c.loop-k.invariant, one_bit c.from.result _ c.from.ensures)

pub loop-k-preserved : goal.loop-k-preserved
loop-k-preserved c =
    let xs = c.args.numbers.now in
    let number = get_or xs (length xs - 1 - c.loop-k.k) (pos 0) in
    let fits : SFits w16 number = search rules in
    let bit = simp to_z-of_z at c.from.ensures in
    number_more xs c.loop-k.k c.loop-k.byte c.from.result (omega arith) c.loop-k.invariant (bit ∙ sign_bit number)
