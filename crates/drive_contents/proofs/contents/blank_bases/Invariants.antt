use Rattle.ssd_formats.specs.ImageHead.{head_of}
use Rattle.drive_contents.specs.LoadedDrive.{AreBlankBelow}
use Rattle.drive_contents.proofs.contents.blank_bases.Given as goal

-- the bases so far are those of blank channels
abbrev pub invariant-loop-channel : goal.invariant-loop-channel
invariant-loop-channel l = record { blank : AreBlankBelow (head_of l.head) l.channel l.bases.items }
