use Rattle.std.proofs.Common.{map}
use Rattle.std.specs.Prelude.{flat_map}
use Rattle.ssd_formats.specs.ImageContents.{channel_bytes}
use Rattle.ssd_io.proofs.WriteSteps.{wrote}
use Rattle.drive_image.specs.WholeImage.{saved_channels_of}
use Rattle.drive_image.proofs.SaveSteps.{saves_then, saving_fails}
use Rattle.drive_image.proofs.drive.write_drive.Goals as goal

pub returns-in-Err-clause-saves : goal.returns-in-Err-clause-saves
returns-in-Err-clause-saves g c =
    saving_fails
    (flat_map channel_bytes (saved_channels_of c.args.head.now.shape c.args.bases.now (map g.D.Die.state c.args.dies.now)))
    (record { all = c.in-Err.ensures.all; front = c.in-Err.ensures.front; cause = c.in-Err.ensures.cause })

pub returns-clause-saves : goal.returns-clause-saves
returns-clause-saves g c =
    saves_then c.write_channels.result
    (wrote (record { all = c.in-Ok.ensures.all; front = c.in-Ok.ensures.front; cause = c.in-Ok.ensures.cause }))
    c.write_channels.ensures.saves
