use Rattle.std.proofs.Common.{◌≡◌, ◌∙◌, [], ◌∷◌, List, ap, map, length, ℤ, to_z, of_z, w8, arith}
use Rattle.std.specs.List.{range_with_len}
use Rattle.ssd_geo.specs.Senses.{soft_value, zeros_at}
use Rattle.soft_sense.proofs.LaneLemmas.{few_of_five, sums_of_five}
use Rattle.soft_sense.proofs.ValueLemmas.{kept, soft_value_fits}
use Rattle.soft_sense.proofs.soft.eight_soft.Goals as goal

pub values_of-requires : goal.values_of-requires
values_of-requires c =
    let long : length c.args.five.now ≡ 5 = omega arith in
    few_of_five c.args.five.now _ long
    (sums_of_five c.args.five.now _ _ _ _ _ long c.zero_lanes.ensures c.zero_lanes-2.ensures c.zero_lanes-3.ensures c.zero_lanes-4.ensures c.zero_lanes-5.ensures)

pub returns : goal.returns
returns c =
    let long : length c.args.five.now ≡ 5 = omega arith in
    ap (λ (values : List ℤ). map (to_z w8) (map (of_z w8) values))
    (c.values_of.ensures
    ∙ ap (map soft_value)
    (sums_of_five c.args.five.now _ _ _ _ _ long c.zero_lanes.ensures c.zero_lanes-2.ensures c.zero_lanes-3.ensures c.zero_lanes-4.ensures c.zero_lanes-5.ensures))
    ∙ kept soft_value (map (zeros_at (map (λ byte. byte ∷ []) c.args.five.now)) (range_with_len 0 8)) soft_value_fits
