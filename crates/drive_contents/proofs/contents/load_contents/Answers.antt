use Rattle.std.proofs.Common.{ℕ, List, [], Option, map, refl}
use Rattle.image_contents.proofs.Stops.{all_read}
use Rattle.image_file.specs.Gives.{rest_at}
use Rattle.saved_drive.proofs.MountedDies.{ready_dies_are_mounted}
use Rattle.ssd_formats.specs.ImageContents.{read_channels}
use Rattle.ssd_formats.specs.ImageHead.{Head, head_of}
use Rattle.drive_contents.proofs.BlankDrives.{blank_channels, blank_channels_read, blank_drive_is}
use Rattle.drive_contents.proofs.contents.load_contents.Goals as goal

pub returns-in-Ok-clause-read : goal.returns-in-Ok-clause-read
returns-in-Ok-clause-read g c =
    let head : Head = head_of c.args.head.now in
    let left : Option (List ℕ) = g.S.Source.left c.args.input.now in
    let place : ℕ = c.args.head.now.place in
    all_read _ left left _ _ place place c.in-Ok.bases (blank_channels head) (read_channels head c.args.head.now.shape.channels [])
    refl
    (blank_drive_is c.args.head.now c.in-Ok.bases.items (map g.D.Die.state c.args.dies.now.items) c.requires.head c.requires.dies
    c.in-Ok.ensures)
    (λ told. (told, blank_channels_read head (rest_at place left) c.if-head.false))

pub returns-in-Ok-clause-mounted : goal.returns-in-Ok-clause-mounted
returns-in-Ok-clause-mounted g c =
    ready_dies_are_mounted c.args.head.now (map g.D.Die.state c.args.dies.now.items) c.requires.dies
