-- Which superblock becomes the victim, when does a collection find a live page in it, and when may it be erased?
use Rattle.std.specs.Prelude.{ℕ, ◌≡◌, ◌≢◌, ◌≤◌, ◌<◌, true, false, IsTrue, IfSome, List, Option, Some, None, option_map}
use Rattle.ssd_histories.specs.Blocks.{free_blocks_in, victim_in}
use Rattle.ssd_histories.specs.OpenLooks.{looks_in}
use Rattle.ssd_histories.specs.PageMap.{first_live_in, live_in}
use Rattle.ssd_histories.specs.Policies.{answer_of, count_of_candidates, is_candidate_at, view_after_erase, view_after_pick}
use Rattle.ssd_histories.specs.Start.{Start}
use Rattle.ssd_geo.specs.declared.kind.Kind.{Kind}
use Rattle.ssd_geo.specs.declared.policy_view.PolicyView.{PolicyView}
use Rattle.ssd_geo.specs.declared.tag.Tag.{Tag}
use Rattle.chan_state.specs.ChannelState.{ChannelState, StandsFor}
use Rattle.chan_state.specs.Steps.{AddsEntry, LooksAt}
use Rattle.chan_state.specs.Writing.{table_now}
use Rattle.chan_state.specs.declared.answers.EraseAnswer.{EraseAnswer}
use Rattle.chan_state.specs.declared.answers.EraseAnswer.TheVariants as erase
use Rattle.chan_state.specs.declared.answers.PickAnswer.{PickAnswer}
use Rattle.chan_state.specs.declared.answers.PickAnswer.TheVariants as pick
use Rattle.chan_tables.specs.declared.answers.LiveAnswer.{LiveAnswer}
use Rattle.chan_tables.specs.declared.answers.LiveAnswer.TheVariants.{NotVictim, NoneLive, Found}
use Rattle.chan_tables.specs.declared.answers.LookAnswer.TheVariants as looks

-- when each answer to a pick comes, and what it adds
abbrev pub Picks : ChannelState → ChannelState → Tag → PickAnswer → Type 0
Picks old new tag (pick.Busy sb) = (victim_in old.blocks ≡ Some sb) × (new ≡ old)
Picks old new tag pick.ReadOnly = (victim_in old.blocks ≡ None) × (free_blocks_in old.blocks ≡ 0) × (new ≡ old)
Picks old new tag pick.NoGarbage =
    (victim_in old.blocks ≡ None) × (1 ≤ free_blocks_in old.blocks) × (count_of_candidates (table_now old) ≡ 0) × (new ≡ old)
Picks old new tag (pick.Picked sb) =
    (victim_in old.blocks ≡ None) × (1 ≤ free_blocks_in old.blocks) × IsTrue (is_candidate_at (table_now old) sb)
    × AddsEntry old new tag (Kind.Pick sb)

-- where the policy tells its view, the superblock picked is the view's answer
abbrev pub IsPickedBy : ChannelState → Option PolicyView → PickAnswer → Type 0
IsPickedBy old told (pick.Picked sb) = IfSome told (λ view. sb ≡ answer_of view (table_now old))
IsPickedBy old told _ = Unit {0}

-- the view moves on at a pick, and stays at any other answer
abbrev pub view_of_pick : ChannelState → Option PolicyView → PickAnswer → Option PolicyView
view_of_pick old told (pick.Picked sb) = option_map (λ view. view_after_pick view (table_now old)) told
view_of_pick old told _ = told

-- a look of the victim's first live page is one of the row that names it; elsewhere nothing changes
abbrev pub LooksLive : ChannelState → ChannelState → Tag → ℕ → LiveAnswer → Type 0
LooksLive old new tag sb NotVictim = (victim_in old.blocks ≢ Some sb) × (new ≡ old)
LooksLive old new tag sb NoneLive = (victim_in old.blocks ≡ Some sb) × (live_in old.rows sb ≡ 0) × (new ≡ old)
LooksLive old new tag sb (Found look) =
    (victim_in old.blocks ≡ Some sb) × (first_live_in old.rows sb ≡ Some look.slot)
    × LooksAt old new tag look.row (looks.Found look)

-- a superblock may be erased: it is the victim without a live page, and no open look stands in it
pub record MayErase (channel : ChannelState) (sb : ℕ) : Type 0 where
  pub is_victim : victim_in channel.blocks ≡ Some sb
  pub no_live : live_in channel.rows sb ≡ 0
  pub no_pin : looks_in channel.looks sb ≡ 0

-- when each answer to an erase comes, and what it adds: just one of the cases holds, but that an erase may also fail
abbrev pub Erases : ChannelState → ChannelState → Tag → ℕ → EraseAnswer → Type 0
Erases old new tag sb erase.NotVictim = (victim_in old.blocks ≢ Some sb) × (new ≡ old)
Erases old new tag sb (erase.Live count) =
    (victim_in old.blocks ≡ Some sb) × (count ≡ live_in old.rows sb) × (0 < count) × (new ≡ old)
Erases old new tag sb (erase.Pinned count) =
    (victim_in old.blocks ≡ Some sb) × (live_in old.rows sb ≡ 0) × (count ≡ looks_in old.looks sb) × (0 < count) × (new ≡ old)
Erases old new tag sb erase.Erased = MayErase old sb × AddsEntry old new tag (Kind.Erase sb)
Erases old new tag sb (erase.FailedErase die) =
    MayErase old sb × (die < old.shape.dies) × AddsEntry old new tag (Kind.BadErase sb die false)
Erases old new tag sb (erase.DieFault die) =
    MayErase old sb × (die < old.shape.dies) × AddsEntry old new tag (Kind.BadErase sb die true)

-- the die that an erase names as failed in its call, if it names one
abbrev pub fault_of_erase : EraseAnswer → Option ℕ
fault_of_erase (erase.DieFault die) = Some die
fault_of_erase _ = None

-- the view moves on where the superblock was erased, and stays at any other answer
abbrev pub view_of_erase : Option PolicyView → ℕ → EraseAnswer → Option PolicyView
view_of_erase told sb erase.Erased = option_map (λ view. view_after_erase view sb) told
view_of_erase told sb _ = told

-- whatever a channel stood for with one view, it stands for after a step with another
abbrev pub MovesView : ChannelState → Option PolicyView → ChannelState → Option PolicyView → Type 0
MovesView old was new now =
    (start : Start) (contents : List (Tag × List ℕ)) → StandsFor old was start contents → StandsFor new now start contents
