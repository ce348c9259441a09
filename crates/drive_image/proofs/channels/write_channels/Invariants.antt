use Rattle.std.proofs.Common.{◌≡◌, map, take}
use Rattle.std.specs.Prelude.{flat_map, vec_len}
use Rattle.ssd_formats.specs.ImageContents.{channel_bytes}
use Rattle.ssd_io.specs.Writes.{Wrote}
use Rattle.drive_image.specs.WholeImage.{saved_channels_of}
use Rattle.drive_image.proofs.channels.write_channels.Given as goal

-- so many channels were saved, and the dies stay
abbrev pub invariant-loop-channel : goal.invariant-loop-channel
invariant-loop-channel g l = record {
  wrote :
      Wrote g.O.Sink.written g.O.Sink.faults l.initial.output l.output
      (flat_map channel_bytes (take l.channel (saved_channels_of l.shape l.bases (map g.D.Die.state l.initial.dies))));
  stays : map g.D.Die.state l.dies ≡ map g.D.Die.state l.initial.dies;
  length : vec_len l.work.levels ≡ vec_len l.initial.work.levels;
}
