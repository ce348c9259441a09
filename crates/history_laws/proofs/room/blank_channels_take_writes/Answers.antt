use Rattle.history_laws.proofs.BlankChannels.{blank_channels_take_writes, none_is_refused}
use Rattle.history_laws.proofs.room.blank_channels_take_writes.Goals as goal

pub returns : goal.returns
returns c = record { takes = blank_channels_take_writes; refused = none_is_refused }
