use Rattle.std.proofs.Common.{◌≡◌, ◌+◌, ◌-◌, ◌*◌, ◌^◌, ◌≤◌, List, [], drop, map}
use Rattle.drive_dies.specs.Mounting.{EachBecomes}
use Rattle.image_contents.proofs.DiesLoop.{KeepsLoads}
use Rattle.image_file.specs.Gives.{rest_at}
use Rattle.ssd_formats.specs.ImageContents.{ChannelImage, read_channels}
use Rattle.ssd_formats.specs.ImageHead.{head_of}
use Rattle.ssd_io.specs.Told.{IsTold}
use Rattle.drive_contents.specs.LoadedDrive.{AreLoadedBelow}
use Rattle.drive_contents.proofs.loading.load_channels.Given as goal

-- so many channels were read, and what is left to read; their dies have their contents, and those behind are as they were
abbrev pub invariant-loop-channel : goal.invariant-loop-channel
invariant-loop-channel g l = record {
  loaded :
      (saved : List ChannelImage)
      × AreLoadedBelow (head_of l.initial.head) l.channel saved l.bases.items (map g.D.Die.state l.dies)
      × (IsTold (g.S.Source.left l.initial.input) → IsTold (g.S.Source.left l.input)
      × (read_channels (head_of l.initial.head) (l.initial.head.shape.channels - l.channel) saved
      (rest_at l.head.place (g.S.Source.left l.input))
      ≡ read_channels (head_of l.initial.head) l.initial.head.shape.channels []
      (rest_at l.initial.head.place (g.S.Source.left l.initial.input))));
  stays : g.S.Source.faults l.input ≡ g.S.Source.faults l.initial.input;
  keeps :
      EachBecomes (λ number old new. KeepsLoads old new) (map g.D.Die.state l.initial.dies)
      (map g.D.Die.state l.dies);
  behind :
      drop (l.channel * l.initial.head.shape.dies) (map g.D.Die.state l.dies)
      ≡ drop (l.channel * l.initial.head.shape.dies) (map g.D.Die.state l.initial.dies);
  head : l.head ≡ record l.initial.head { place = l.head.place };
  place_high : l.head.place ≤ l.initial.head.place + l.channel * 2 ^ 41;
}
