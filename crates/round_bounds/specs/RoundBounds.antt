-- How many rounds does a write make that is served alone? At most as many as its channel had superblocks that weren't bad, and
-- at most two more than turn bad by it, whatever the dies answer. A round that it goes on after ends in an erase, a failed
-- erase or a stay. After an erase the host has room, unless a superblock turned bad since the pick or the victim stood there
-- before the write; after a stay the channel is worn; and where a victim is picked another superblock is free. Each law is the
-- contract of a function without a body.
use Rattle.std.specs.Prelude.{ℕ, ◌≡◌, ◌+◌, ◌≤◌, Bool, true, false, IsTrue, List, None, count_by}
use Rattle.ssd_geo.specs.Ladder.{LadderState}
use Rattle.ssd_geo.specs.declared.base.ChannelBase.{ChannelBase}
use Rattle.ssd_geo.specs.declared.entry.Entry.{Entry}
use Rattle.ssd_geo.specs.declared.kind.Kind.{Kind}
use Rattle.ssd_geo.specs.declared.tag.Tag.{Tag}
use Rattle.ssd_histories.specs.Blocks.{AreSound}
use Rattle.ssd_histories.specs.Lawful.{IsLawfulBy}
use Rattle.ssd_histories.specs.PastBlocks.{slots_in}
use Rattle.ssd_histories.specs.Room.{victim_of}
use Rattle.ssd_histories.specs.Rounds.{needs_room}
use Rattle.ssd_histories.specs.SerialCalls.{RoundEnd, SerialRound, SerialWrite, is_faultless, is_refused, makes_room, round_faults, write_faults, writes, writes_again}
use Rattle.history_laws.specs.NeverFull.{count_of_bad}

-- how many rounds a write made
abbrev pub rounds_in : {ladder : List Entry → ℕ → LadderState} {base : ChannelBase} {tag : Tag} {row : ℕ}
    {before after : List Entry} → SerialWrite ladder base tag row before after → ℕ
rounds_in (writes room) = 0
rounds_in (write_faults room) = 0
rounds_in (writes_again room rest) = rounds_in rest
rounds_in (is_refused no_room refuses) = 0
rounds_in (makes_room needs round faultless rest) = 1 + rounds_in rest
rounds_in (round_faults needs round) = 1

-- whether an entry ends a round: it is an erase, a failed erase or a stay
abbrev pub is_round_end : Kind → Bool
is_round_end (Kind.Erase sb) = true
is_round_end (Kind.BadErase sb die fault) = true
is_round_end (Kind.Stay at worn) = true
is_round_end _ = false

-- how many entries of a past do
abbrev pub round_ends_in : List Entry → ℕ
round_ends_in past = count_by (λ entry. is_round_end entry.kind) past

-- a round that a write makes and goes on after has just one such entry
abbrev pub RoundsEndOnce : Type 0
RoundsEndOnce =
    (ladder : List Entry → ℕ → LadderState) (base : ChannelBase) (tag : Tag) (before after : List Entry) (end : RoundEnd) →
    AreSound (slots_in base) base.blocks → IsLawfulBy ladder base after → IsTrue (needs_room base before) →
    SerialRound ladder base tag before after end → IsTrue (is_faultless end) →
    round_ends_in after ≡ round_ends_in before + 1

-- a write makes at most as many rounds as superblocks weren't bad before it
abbrev pub WritesMakeFewRounds : Type 0
WritesMakeFewRounds =
    (ladder : List Entry → ℕ → LadderState) (base : ChannelBase) (tag : Tag) (row : ℕ) (before after : List Entry) →
    AreSound (slots_in base) base.blocks → IsLawfulBy ladder base after →
    (write : SerialWrite ladder base tag row before after) →
    rounds_in write + count_of_bad base before ≤ base.shape.superblocks

-- and has at most so many entries that end a round
abbrev pub WritesHaveFewEnds : Type 0
WritesHaveFewEnds =
    (ladder : List Entry → ℕ → LadderState) (base : ChannelBase) (tag : Tag) (row : ℕ) (before after : List Entry) →
    AreSound (slots_in base) base.blocks → IsLawfulBy ladder base after → SerialWrite ladder base tag row before after →
    round_ends_in after + count_of_bad base before ≤ round_ends_in before + base.shape.superblocks

-- it makes at most two more than superblocks turn bad by it
abbrev pub WritesMakeTwoMore : Type 0
WritesMakeTwoMore =
    (ladder : List Entry → ℕ → LadderState) (base : ChannelBase) (tag : Tag) (row : ℕ) (before after : List Entry) →
    AreSound (slots_in base) base.blocks → IsLawfulBy ladder base after →
    (write : SerialWrite ladder base tag row before after) →
    rounds_in write + count_of_bad base before ≤ count_of_bad base after + 2

-- and at most one more where no victim stood there before it
abbrev pub WritesMakeOneMore : Type 0
WritesMakeOneMore =
    (ladder : List Entry → ℕ → LadderState) (base : ChannelBase) (tag : Tag) (row : ℕ) (before after : List Entry) →
    AreSound (slots_in base) base.blocks → IsLawfulBy ladder base after → victim_of base before ≡ None →
    (write : SerialWrite ladder base tag row before after) →
    rounds_in write + count_of_bad base before ≤ count_of_bad base after + 1
