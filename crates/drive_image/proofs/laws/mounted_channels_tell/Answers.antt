use Rattle.final_dies.specs.FinalDies.{dies_of_channel}
use Rattle.drive_image.proofs.MountedDies.{mounted_tell}
use Rattle.drive_image.proofs.laws.mounted_channels_tell.Goals as goal

pub returns : goal.returns
returns c = λ shape dies mounted channel within. mounted_tell shape (dies_of_channel shape.dies dies channel) (mounted channel within)
