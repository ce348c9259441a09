use Rattle.channel_ends.proofs.EndedStarts.{ended_channels_are_saved, ended_channels_start_again}
use Rattle.channel_ends.proofs.ends.ended_channels_start_again.Goals as goal

pub returns : goal.returns
returns c = record { starts = ended_channels_start_again; saved = ended_channels_are_saved }
