-- On what are whole calls tried, and what stays so from call to call? A worker and the channel of a small drive that is blank
-- and without noise, whose caller is alone. The first call writes a page, so the channel stands for contents with its data.
use Rattle.std.specs.Prelude.{ℕ, ◌≡◌, List, None, Option, replicate}
use Rattle.ssd_formats.specs.ImageContents.{IsBaseOf, blank_channel}
use Rattle.ssd_formats.specs.ImageExamples.{small_head}
use Rattle.ssd_formats.specs.ImageHead.{matrix_of_head}
use Rattle.ssd_geo.specs.Shape.{sizes_of}
use Rattle.ssd_geo.specs.declared.policy_view.PolicyView.{PolicyView}
use Rattle.ssd_geo.specs.declared.tag.Tag.{Tag}
use Rattle.ssd_histories.specs.Start.{Start, data_of}
use Rattle.chan_state.specs.ChannelState.{ChannelState, StandsFor}
use Rattle.chan_calls.specs.Caller.{CallerView}
use Rattle.chan_calls.specs.Stepping.{Standing}
use Rattle.chan_calls.specs.Workers.{MayCall, WorkerState}

-- a worker is that of the small drive
pub record IsSmallWorker (worker : WorkerState) : Type 0 where
  pub sizes_are : sizes_of worker.shape ≡ small_head.sizes
  pub session_is : worker.session ≡ small_head.session
  pub code_is : worker.code ≡ matrix_of_head small_head
  pub iterations_are : worker.iterations ≡ small_head.iterations
  pub levels_are : worker.levels ≡ small_head.read_levels
  pub step_is : worker.step ≡ small_head.step

-- a channel, of whose policy this view is told, has begun as that of the small drive, whatever the contents are
pub record StandsBlank (channel : ChannelState) (view : Option PolicyView) : Type 0 where
  pub start : Start
  pub is_base : IsBaseOf small_head 0 (blank_channel small_head 0) start.base
  pub stands : (contents : List (Tag × List ℕ)) → StandsFor channel view start contents

-- the tag and the data of the first call
abbrev pub first_tag : Tag
first_tag = record { actor = 0; call = 0 }

abbrev pub first_data : List ℕ
first_data = replicate 8 7

-- the worker may make each of the calls that are tried
pub record MayTry (worker : WorkerState) (caller : CallerView) (stands : Standing) : Type 0 where
  pub may : MayCall worker caller stands
  pub own_data : data_of may.contents first_tag ≡ first_data
  pub sizes_are : sizes_of worker.shape ≡ small_head.sizes
  pub alone : caller.number ≡ None
  pub free : caller.bound ≡ None
