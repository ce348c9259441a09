-- What has each channel of a drive before a race? It has begun with its base, its dies and its policy, and knows the start that
-- these and the limit give it.
use Rattle.std.specs.Prelude.{ℕ, ◌≡◌, List, slice_get, slice_index_or, Option, Some, None}
use Rattle.chan_state.specs.Starting.{HasBegun, start_of}
use Rattle.final_dies.specs.FinalDies.{dies_of_channel}
use Rattle.onfi_cmd.specs.DieState.{DieState}
use Rattle.shared_steps.specs.Tracing.{TracedState}
use Rattle.ssd_geo.specs.declared.base.ChannelBase.{ChannelBase}
use Rattle.ssd_geo.specs.declared.policy_view.PolicyView.{PolicyView}

-- a channel has begun with the base of its number, with these dies and this view of its policy, and knows its start
pub record HasBegunTraced (bases : List ChannelBase) (limit number : ℕ) (dies : List DieState) (view : Option PolicyView)
    (channel : TracedState) : Type 0 where
  pub base : ChannelBase
  pub base_is : slice_get bases number ≡ Some base
  pub has_begun : HasBegun base limit dies view channel.channel
  pub told_is : channel.told ≡ view
  pub start_is : channel.start ≡ start_of base limit dies view

-- so have channels from the first on, with so many dies each of the drive's, and the views of their policies
abbrev pub HaveBegunTraced : List ChannelBase → ℕ → ℕ → List DieState → List (Option PolicyView) → List TracedState → Type 0
HaveBegunTraced bases limit count dies views channels =
    (number : ℕ) (channel : TracedState) → slice_get channels number ≡ Some channel →
    HasBegunTraced bases limit number (dies_of_channel count dies number) (slice_index_or views number None) channel
