-- The law of cells that an image's head tells is in range.
use Rattle.std.proofs.Common.{◌≡◌, true, ◌&&◌, ℤ, pos, negsuc, ◌≤ℤ◌, ◌<ℤ◌, int_le, int_lt, ◌≤◌, arith}
use Rattle.std.proofs.lemmas.Grind.{common_steps}
use Rattle.ssd_formats.proofs.HeadLaws.{within_is as within_high}
use Rattle.ssd_formats.specs.ImageHead.{Head, IsHead}
use Rattle.ssd_geo.specs.Cells.{IsCellLaw}
use Rattle.std.proofs.lemmas.Bool.{and_parts}

pub law_of_head : (head : Head) → IsHead head → IsCellLaw head.law
law_of_head head is =
    let erased = and_parts (int_le (negsuc 8191) head.law.erased) (int_le head.law.erased (pos 8190)) is.erased in
    let programmed = and_parts (int_lt head.law.erased head.law.programmed) (int_le head.law.programmed (pos 8191)) is.programmed in
    record {
      erased_low = grind (arith, common_steps);
      programmed_low = grind (arith, common_steps);
      programmed_high = grind (arith, common_steps);
      spread_high = within_high 0 4095 head.law.spread is.spread;
    }
