-- What do contracts see of a channel? What it keeps, and the view that its policy tells, if it tells one.
use Rattle.std.specs.Prelude.{ℕ, List, map, Option}
use Rattle.chan_state.specs.ChannelState.{ChannelState, StandsFor}
use Rattle.ssd_histories.specs.Start.{Start}
use Rattle.ssd_geo.specs.declared.entry.Entry.{Entry}
use Rattle.ssd_geo.specs.declared.policy_view.PolicyView.{PolicyView}
use Rattle.ssd_geo.specs.declared.tag.Tag.{Tag}

pub record SeenChannel : Type 0 where
  pub kept : ChannelState
  pub view : Option PolicyView

abbrev pub seen : ChannelState → Option PolicyView → SeenChannel
seen kept view = record { kept = kept; view = view }

-- it stands for a start and contents
abbrev pub Stands : SeenChannel → Start → List (Tag × List ℕ) → Type 0
Stands channel start contents = StandsFor channel.kept channel.view start contents

-- the pasts of channels
abbrev pub pasts_of : List SeenChannel → List (List Entry)
pasts_of channels = map (λ channel. channel.kept.past) channels
