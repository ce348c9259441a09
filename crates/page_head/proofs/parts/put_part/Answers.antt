use Rattle.std.proofs.Common.{◌∙◌}
use Rattle.ssd_geo.specs.Shape.{sizes_of}
use Rattle.page_head.proofs.PutParts.{AreHalves, halves_are_put, others_stay, put_is_there}
use Rattle.page_head.proofs.parts.put_part.Goals as goal

abbrev AreCopied : goal.After-slice_known-3-1 → Type 0
AreCopied c =
    AreHalves (sizes_of c.args.shape.now) c.args.part c.standing_of-at.result.part c.standing_of-at.result.part_bytes
    c.standing_of-at.result.parity c.standing_of-at.result.parity_bytes c.args.word.now c.args.code.now
    c.copy_from_slice.new.self c.copy_from_slice-2.new.self

are_copied : (c : goal.After-slice_known-3-1) → AreCopied c
are_copied c = record {
  below = c.requires.part;
  word_bytes = c.requires.word;
  code_bytes = c.requires.code;
  part_from = c.standing_of-at.ensures.part;
  part_width = c.standing_of-at.ensures.part_bytes;
  parity_from = c.standing_of-at.ensures.parity;
  parity_width = c.standing_of-at.ensures.parity_bytes;
  part_is = c.copy_from_slice.ensures.after;
  parity_is = c.copy_from_slice-2.ensures.after;
}

pub returns-clause-put : goal.returns-clause-put
returns-clause-put c =
    let put = halves_are_put _ _ _ _ _ _ _ _ _ _ (are_copied c) in
    put_is_there _ _ _ _ _ _ _ _ _ put.0 ∙ put.1

pub returns-clause-others : goal.returns-clause-others
returns-clause-others c =
    let put = halves_are_put _ _ _ _ _ _ _ _ _ _ (are_copied c) in others_stay _ _ _ _ _ _ _ _ _ put.0
