use Rattle.std.proofs.Common.{◌≡◌, ◌+◌, ◌-◌, ◌*◌, ◌^◌, ◌≤◌, List, [], length, map}
use Rattle.std.specs.Prelude.{vec_len}
use Rattle.ssd_formats.specs.ImageContents.{SavedBlock, blocks_fields, blocks_of_saved}
use Rattle.ssd_formats.specs.ImageHead.{head_of}
use Rattle.ssd_geo.specs.Limits.{page_cells_of}
use Rattle.ssd_geo.specs.Shape.{sizes_of}
use Rattle.ssd_io.specs.Told.{IsTold}
use Rattle.drive_dies.specs.Mounting.{EachBecomes}
use Rattle.image_file.specs.Gives.{rest_at}
use Rattle.image_contents.proofs.DiesLoop.{KeepsLoads}
use Rattle.image_contents.specs.Taken.{AreTaken}
use Rattle.image_contents.proofs.blocks.read_blocks.Given as goal

-- so many superblocks were taken over, and what is left to read
abbrev pub invariant-loop : goal.invariant-loop
invariant-loop g l = record {
  taken :
      (saved : List SavedBlock) × (l.blocks.items ≡ blocks_of_saved saved) × (length saved ≡ l.counter)
      × AreTaken (head_of l.head) l.channel saved (map g.D.Die.state l.dies) l.sum
      × (IsTold (g.S.Source.left l.initial.input) → IsTold (g.S.Source.left l.input)
      × (blocks_fields (head_of l.head) l.channel (l.head.shape.superblocks - l.counter) saved (rest_at l.place (g.S.Source.left l.input))
      ≡ blocks_fields (head_of l.head) l.channel l.head.shape.superblocks [] (rest_at l.initial.place (g.S.Source.left l.initial.input))));
  stays : g.S.Source.faults l.input ≡ g.S.Source.faults l.initial.input;
  keeps :
      EachBecomes (λ number old new. KeepsLoads old new) (map g.D.Die.state l.initial.dies)
      (map g.D.Die.state l.dies);
  count : vec_len l.blocks ≡ l.counter;
  place_low : l.initial.place ≤ l.place;
  place_high : l.place ≤ l.initial.place + l.counter * 2 ^ 32;
  cells : vec_len l.work.levels ≡ page_cells_of (sizes_of l.head.shape);
}
