-- Of which input is a run? Of a head, what an image tells of each channel of the drive, and a trace.
use Rattle.std.specs.Prelude.{ℕ, List, map}
use Rattle.std.specs.List.{range_with_len}
use Rattle.ssd_formats.specs.ImageContents.{ChannelImage}
use Rattle.ssd_formats.specs.ImageHead.{Head}
use Rattle.ssd_formats.specs.Input.{Input}
use Rattle.ssd_geo.specs.declared.trace.Trace.{Trace}

-- what an image tells of each channel of a drive, by its number
abbrev pub saved_channels : Head → (ℕ → ChannelImage) → List ChannelImage
saved_channels head saved = map saved (range_with_len 0 head.sizes.channels)

-- the input of a drive with these contents, and a trace
abbrev pub input_of : Head → (ℕ → ChannelImage) → Trace → Input
input_of head saved trace = record { head = head; channels = saved_channels head saved; calls = trace }
