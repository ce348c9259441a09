-- Are the bounds reached? On the small channel, where no row names a page, one superblock is the victim, all others are sealed,
-- and two of these can't be erased. A write then makes four rounds: as many as there are superblocks, and two more than turn
-- bad. Each example is the contract of a function without a body.
use Rattle.std.specs.Prelude.{ℕ, ◌≡◌, false, List, [], ◌∷◌}
use Rattle.ssd_geo.specs.Ladder.{LadderState, uncorrectable}
use Rattle.ssd_geo.specs.declared.base.ChannelBase.{ChannelBase}
use Rattle.ssd_geo.specs.declared.entry.Entry.{Entry}
use Rattle.ssd_geo.specs.declared.kind.Kind.{Kind}
use Rattle.ssd_geo.specs.declared.superblock.SbState.TheVariants.{Sealed, Victim}
use Rattle.ssd_histories.specs.Blocks.{AreSound}
use Rattle.ssd_histories.specs.History.{past_of}
use Rattle.ssd_histories.specs.HistoryExamples.{AreWithinLimits, small_channel, step, tag_of, weak_on_die_0}
use Rattle.ssd_histories.specs.Lawful.{IsLawfulBy}
use Rattle.ssd_histories.specs.PageMap.{slot_at}
use Rattle.ssd_histories.specs.PastBlocks.{slots_in}
use Rattle.ssd_histories.specs.RoomExamples.{block}
use Rattle.ssd_histories.specs.SerialCalls.{SerialWrite}
use Rattle.history_laws.specs.NeverFull.{count_of_bad}
use Rattle.round_bounds.specs.RoundBounds.{rounds_in}

-- the small channel full of garbage, with a victim
abbrev pub garbage_channel : AreWithinLimits → ChannelBase
garbage_channel within = record (small_channel weak_on_die_0 within) {
  blocks = block Victim 0 4 ∷ block Sealed 0 4 ∷ block Sealed 0 4 ∷ block Sealed 0 4 ∷ [];
}

-- no page is read in it
abbrev pub unread : List Entry → ℕ → LadderState
unread past at = uncorrectable

-- a write that erases the victim, fails to erase the two weak superblocks, and has room once the last one is erased
abbrev pub garbage_history : List Entry
garbage_history =
    step 0 0 (Kind.Erase 0)
    ∷ step 0 0 (Kind.Pick 2)
    ∷ step 0 0 (Kind.BadErase 2 0 false)
    ∷ step 0 0 (Kind.Pick 3)
    ∷ step 0 0 (Kind.BadErase 3 0 false)
    ∷ step 0 0 (Kind.Pick 1)
    ∷ step 0 0 (Kind.Erase 1)
    ∷ step 0 0 (Kind.Write 0 (slot_at 0 0))
    ∷ []

-- the channel may begin so, and the history is lawful
abbrev pub GarbageIsSound : Type 0
GarbageIsSound = (within : AreWithinLimits) → AreSound (slots_in (garbage_channel within)) (garbage_channel within).blocks

abbrev pub GarbageIsLawful : Type 0
GarbageIsLawful = (within : AreWithinLimits) → IsLawfulBy unread (garbage_channel within) (past_of garbage_history)

-- it is one write that makes four rounds, on four superblocks
abbrev pub GarbageTakesFourRounds : Type 0
GarbageTakesFourRounds =
    (within : AreWithinLimits) →
    (write : SerialWrite unread (garbage_channel within) (tag_of 0 0) 0 [] (past_of garbage_history)) × (rounds_in write ≡ 4)
    × ((garbage_channel within).shape.superblocks ≡ 4)

-- two superblocks turn bad in it
abbrev pub GarbageTurnsTwoBad : Type 0
GarbageTurnsTwoBad =
    (within : AreWithinLimits) →
    (count_of_bad (garbage_channel within) [] ≡ 0) × (count_of_bad (garbage_channel within) (past_of garbage_history) ≡ 2)
