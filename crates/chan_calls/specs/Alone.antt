-- What does a caller that is alone on a channel know of it? All of its past: no step of another
-- comes between its own.
use Rattle.std.specs.Prelude.{ℕ, ◌≡◌, None}
use Rattle.ssd_histories.specs.History.{open_looks}
use Rattle.chan_state.specs.ChannelState.{ChannelState}
use Rattle.chan_calls.specs.Caller.{CallerView}

-- what a caller that is alone knows of the channel that it was lent by a reference
abbrev pub view_of_lent : ChannelState → ℕ → CallerView
view_of_lent channel reference = record {
  seen = channel.past;
  limit = channel.limit;
  shape = channel.shape;
  session = channel.session;
  number = None;
  bound = None;
  reference = reference;
}

-- the open looks that a channel keeps are those of its past
abbrev pub KeepsOpenLooks : ChannelState → Type 0
KeepsOpenLooks channel = channel.looks ≡ open_looks channel.past
