-- With what may a channel begin? Its base is a start's with what its dies and its policy tell, and each die is the one that
-- the base says it is.
use Rattle.std.specs.Prelude.{ℕ, ◌≡◌, ◌<◌, true, is_some, List, [], length, map, Option, Some}
use Rattle.chan_dies.specs.DiesState.{blocks_in, die_at}
use Rattle.chan_fits.specs.DiesFit.{plan_of}
use Rattle.onfi_cmd.specs.DieState.{DieState}
use Rattle.ssd_histories.specs.Standing.{IsStart}
use Rattle.ssd_histories.specs.Start.{Start}
use Rattle.ssd_geo.specs.declared.base.ChannelBase.{ChannelBase}
use Rattle.ssd_geo.specs.declared.policy_view.PolicyView.{PolicyView}
use Rattle.ssd_geo.specs.declared.tag.Tag.{Tag}
use Rattle.chan_state.specs.ChannelState.{ChannelState, StandsFor}

-- the start of a channel, from what its dies and its policy tell
abbrev pub start_of : ChannelBase → ℕ → List DieState → Option PolicyView → Start
start_of base limit dies view = record {
  base = base;
  limit = limit;
  cells = map blocks_in dies;
  work_faults = map (λ (die : DieState). die.work_count) dies;
  load_faults = map (λ (die : DieState). die.load_count) dies;
  view = view;
}

-- a die is mounted as one of a base's channel, and tells all its blocks
pub record IsDieOf (base : ChannelBase) (number : ℕ) (die : DieState) : Type 0 where
  pub plan_is : die.plan ≡ Some (plan_of base number)
  pub tells : is_some die.told ≡ true
  pub blocks_count : length (blocks_in die) ≡ base.shape.superblocks

-- a channel may begin with this base, limit, dies and view
pub record MayBegin (base : ChannelBase) (limit : ℕ) (dies : List DieState) (view : Option PolicyView) : Type 0 where
  pub is_start : IsStart (start_of base limit dies view)
  pub dies_are : (die : ℕ) → die < base.shape.dies → IsDieOf base die (die_at dies die)

-- a channel that has begun: it has no entry, and stands for its start
pub record HasBegun (base : ChannelBase) (limit : ℕ) (dies : List DieState) (view : Option PolicyView) (channel : ChannelState) : Type 0 where
  pub no_entry : channel.past ≡ []
  pub limit_is : channel.limit ≡ limit
  pub shape_is : channel.shape ≡ base.shape
  pub dies_are : channel.dies ≡ dies
  pub stands : (contents : List (Tag × List ℕ)) → StandsFor channel view (start_of base limit dies view) contents
