-- When may the row of a look be made lost, and for which starts and contents does the channel stand then?
use Rattle.std.specs.Prelude.{ℕ, ◌≡◌, IsFalse, List, Option}
use Rattle.chan_tables.specs.TablesState.{ends_uncorrectable}
use Rattle.ssd_geo.specs.Coding.{coding_of}
use Rattle.ssd_geo.specs.Ladder.{uncorrectable}
use Rattle.ssd_histories.specs.PastPages.{ladder_of}
use Rattle.ssd_histories.specs.Start.{Start}
use Rattle.ssd_geo.specs.declared.policy_view.PolicyView.{PolicyView}
use Rattle.ssd_geo.specs.declared.tag.Tag.{Tag}
use Rattle.chan_state.specs.ChannelState.{ChannelState, StandsFor}
use Rattle.chan_state.specs.Steps.{IsOpen}

-- a look's row may be condemned: the look is open, and no entry ended its copy as that of a page that can't be recovered
pub record MayCondemn (channel : ChannelState) (tag : Tag) (at : ℕ) : Type 0 where
  pub is_open : IsOpen channel tag at
  pub not_uncorrectable : IsFalse (ends_uncorrectable channel.past at)

-- where the ladder of the look can't recover the page, the channel goes on standing
abbrev pub CondemnsFor : ChannelState → ChannelState → ℕ → Type 0
CondemnsFor old new at =
    (view : Option PolicyView) (start : Start) (contents : List (Tag × List ℕ)) → StandsFor old view start contents →
    ladder_of (coding_of start.base) start contents old.past at ≡ uncorrectable → StandsFor new view start contents
