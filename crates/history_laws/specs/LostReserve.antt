-- What do the words say of a worked history in which programs fail? The small channel has four superblocks of four slots and
-- eight rows, which are as many as fit beside none that is bad. Two of its superblocks have a weak block: the ninth write
-- fails in one of them, and later a copy out of the victim in the other. Each example is the contract of a function without a
-- body.
use Rattle.std.specs.Prelude.{ℕ, ◌≡◌, Bool, true, false, List, [], take}
use Rattle.ssd_geo.specs.declared.base.ChannelBase.{ChannelBase}
use Rattle.ssd_geo.specs.declared.entry.Entry.{Entry}
use Rattle.ssd_histories.specs.History.{past_of}
use Rattle.ssd_histories.specs.HistoryExamples.{AreWithinLimits, small_channel, weak_on_die_0, worn_history}
use Rattle.ssd_histories.specs.Reserve.{has_reserve}
use Rattle.ssd_histories.specs.Room.{is_full, is_worn, live_of_victim}
use Rattle.history_laws.specs.BlankChannels.{IsBlankAndSound}
use Rattle.history_laws.specs.EmptiedVictims.{slots_to_fill}
use Rattle.history_laws.specs.NeverFull.{count_of_bad}

-- what is told of a channel: how many superblocks are bad, whether the reserve holds, and whether it is worn or full
pub record Tells (base : ChannelBase) (past : List Entry) (bad : ℕ) (reserve worn full : Bool) : Type 0 where
  pub bad_are : count_of_bad base past ≡ bad
  pub reserve_is : has_reserve base past ≡ reserve
  pub worn_is : is_worn base past ≡ worn
  pub full_is : is_full base past ≡ full

-- what is told of the small channel after so many entries of that history
abbrev pub TellsAfter : ℕ → ℕ → Bool → Bool → Bool → Type 0
TellsAfter entries bad reserve worn full =
    (within : AreWithinLimits) →
    Tells (small_channel weak_on_die_0 within) (past_of (take entries worn_history)) bad reserve worn full

-- before the write fails the reserve holds
abbrev pub BeforeBadWrite : Type 0
BeforeBadWrite = TellsAfter 8 0 true false false

-- once a superblock is bad the rows don't fit any more, and the channel is full at once, though the reserve still holds
abbrev pub AfterBadWrite : Type 0
AfterBadWrite = TellsAfter 9 1 true false true

-- after a copy out of the picked victim its two live pages fit into the frontier's three slots, the only ones left
abbrev pub AfterCopy : Type 0
AfterCopy = TellsAfter 15 1 true false false

abbrev pub FitsAfterCopy : Type 0
FitsAfterCopy =
    (within : AreWithinLimits) →
    (live_of_victim (small_channel weak_on_die_0 within) (past_of (take 15 worn_history)) ≡ 2)
    × (slots_to_fill (small_channel weak_on_die_0 within) (past_of (take 15 worn_history)) ≡ 3)

-- when the next copy fails they are gone: the reserve is lost, and the channel is worn
abbrev pub AfterBadCopy : Type 0
AfterBadCopy = TellsAfter 19 2 false true false

-- without its weak blocks the small channel is one that takes writes as long as no call of a die fails
abbrev pub SmallChannelIsBlank : Type 0
SmallChannelIsBlank = (within : AreWithinLimits) → IsBlankAndSound (small_channel [] within)
