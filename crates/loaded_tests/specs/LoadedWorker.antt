-- With which worker are whole calls of the loaded channel made, and what lets it make them?
use Rattle.std.specs.Prelude.{◌≡◌, [], Option}
use Rattle.ssd_geo.specs.BaseMatrix.{BaseMatrix}
use Rattle.ssd_geo.specs.declared.policy_view.PolicyView.{PolicyView}
use Rattle.ssd_geo.specs.declared.shape.Shape.{Shape}
use Rattle.chan_state.specs.ChannelState.{ChannelState}
use Rattle.chan_calls.specs.Workers.{WorkerState}
use Rattle.loaded_tests.specs.LoadedChannel.{HasBegunLoaded, loaded_entries, loaded_levels}

-- the base matrix of the drive
abbrev pub loaded_code : BaseMatrix
loaded_code = record { z = 64; mb = 3; nb = 6; entries = loaded_entries }

-- what whole calls of a drive with these sizes need
abbrev pub loaded_worker : Shape → WorkerState
loaded_worker shape = record {
  shape = shape;
  session = 1;
  code = loaded_code;
  iterations = 8;
  levels = loaded_levels;
  step = 10;
  data_bytes = [];
}

-- a worker may make calls of a channel, of whose policy this view is told
pub record MayCollect (worker : WorkerState) (channel : ChannelState) (view : Option PolicyView) : Type 0 where
  pub shape : Shape
  pub worker_is : worker ≡ loaded_worker shape
  pub begun : HasBegunLoaded shape channel view
