use Rattle.channel_ends.proofs.HeldImages.{ended_channels_hold_their_image, ended_runs_hold_their_images}
use Rattle.channel_ends.proofs.ends.ended_channels_hold_their_images.Goals as goal

pub returns : goal.returns
returns c = record { channel = ended_channels_hold_their_image; run = ended_runs_hold_their_images }
