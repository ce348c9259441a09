-- What is a channel that stands for one start and for one list of contents? It knows its start, which it began from, and
-- its contents are those of all its callers. As a caller of its own steps it is alone, and bound to both.
use Rattle.std.specs.Prelude.{ℕ, ◌≡◌, List, Option, None, Some}
use Rattle.chan_calls.specs.Caller.{CallerView}
use Rattle.chan_calls.specs.Stepping.{Standing}
use Rattle.chan_state.specs.ChannelState.{ChannelState, StandsFor}
use Rattle.ssd_histories.specs.Start.{Start}
use Rattle.ssd_geo.specs.declared.policy_view.PolicyView.{PolicyView}
use Rattle.ssd_geo.specs.declared.tag.Tag.{Tag}

-- a channel, the view that its policy tells, if it tells any, and its start
pub record TracedState : Type 0 where
  pub channel : ChannelState
  pub told : Option PolicyView
  pub start : Start

-- it stands for its start and these contents
abbrev pub IsTraced : TracedState → List (Tag × List ℕ) → Type 0
IsTraced traced contents = StandsFor traced.channel traced.told traced.start contents

-- what stands for this start and these contents, and for no others
abbrev pub stands_just_for : Start → List (Tag × List ℕ) → Standing
stands_just_for start contents = λ other listed. (other ≡ start) × (listed ≡ contents)

-- what it knows as the caller of its own steps
abbrev pub view_of_traced : TracedState → List (Tag × List ℕ) → CallerView
view_of_traced traced contents = record {
  seen = traced.channel.past;
  limit = traced.channel.limit;
  shape = traced.channel.shape;
  session = traced.channel.session;
  number = None;
  bound = Some (traced.start, contents);
  reference = 0;
}
