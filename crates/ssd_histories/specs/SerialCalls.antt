-- Which entries does a call make that is served alone? Its entries stand together. At each point the rule leaves one thing
-- to do: only which superblock is picked, and which die calls fail, is free. Each relation holds between the past
-- before and the past after; that the entries are lawful is said apart.
use Rattle.std.specs.Prelude.{ℕ, ◌≡◌, ◌<◌, nat_lt, nat_le, Bool, true, false, ◌&&◌, ◌||◌, IsTrue, IsFalse, List, [], ◌∷◌, Some, None, is_none}
use Rattle.ssd_histories.specs.CallSteps.{CallStep}
use Rattle.ssd_geo.specs.Ladder.{LadderState}
use Rattle.ssd_histories.specs.Room.{count_of_free, count_of_garbage, has_host_room, is_full, is_worn, live_of_victim, victim_of}
use Rattle.ssd_histories.specs.Rounds.{IsVictimCopy, ends_round, has_fault, is_idle_note, is_note, needs_room}
use Rattle.ssd_geo.specs.declared.base.ChannelBase.{ChannelBase}
use Rattle.ssd_geo.specs.declared.entry.Entry.{Entry}
use Rattle.ssd_geo.specs.declared.kind.Kind.{Kind}
use Rattle.ssd_geo.specs.declared.slot.Slot.{Slot}
use Rattle.ssd_geo.specs.declared.tag.Tag.{Tag}

-- an entry of a call
abbrev pub entry_of : Tag → Kind → Entry
entry_of tag kind = record { tag = tag; kind = kind }

-- a call made these steps one after the other, from one past to another
abbrev pub AreStepsFrom : Tag → List Entry → List CallStep → List Entry → Type 0
AreStepsFrom tag before [] after = before ≡ after
AreStepsFrom tag before (step ∷ steps) after =
    (step.past ≡ before) × (step.entry.tag ≡ tag) × AreStepsFrom tag (step.entry ∷ before) steps after

-- whether a pick is lawful: there is no victim, and there are a free superblock and garbage
abbrev pub may_pick : ChannelBase → List Entry → Bool
may_pick base past =
    is_none (victim_of base past) && nat_le 1 (count_of_free base past) && nat_lt 0 (count_of_garbage base past)

-- how a round ended: it left its victim or found none, it erased one, its erase answered FAIL, or a die's call failed
pub data RoundEnd : Type 0 where
  left : RoundEnd
  erased : RoundEnd
  retired : RoundEnd
  faulted : RoundEnd

-- a copy of the victim's first live page, with whether it ends its round, and whether a die's call failed in it
pub record IsSerialCopy (ladder : List Entry → ℕ → LadderState) (base : ChannelBase) (tag : Tag) (before after : List Entry) (ends fault : Bool) : Type 0 where
  pub steps : List CallStep
  pub are_steps : AreStepsFrom tag before steps after
  pub has_live : 0 < live_of_victim base before
  pub is_copy : IsVictimCopy ladder base steps
  pub ends_is : ends_round steps ≡ ends
  pub fault_is : has_fault steps ≡ fault

-- the part of a round after its pick: copies while the victim has a live page and none of them ended the round; then the
-- erase of a victim without live pages
pub data SerialCopies (ladder : List Entry → ℕ → LadderState) (base : ChannelBase) (tag : Tag) : List Entry → List Entry → RoundEnd → Type 0 where
  goes_on : {before between after : List Entry} {end : RoundEnd} → IsSerialCopy ladder base tag before between false false
      → SerialCopies ladder base tag between after end → SerialCopies ladder base tag before after end
  stays : {before after : List Entry} → IsSerialCopy ladder base tag before after true false
      → SerialCopies ladder base tag before after left
  copy_faults : {before after : List Entry} → IsSerialCopy ladder base tag before after true true
      → SerialCopies ladder base tag before after faulted
  erases : {before : List Entry} {sb : ℕ} → victim_of base before ≡ Some sb → live_of_victim base before ≡ 0
      → SerialCopies ladder base tag before (entry_of tag (Kind.Erase sb) ∷ before) erased
  retires : {before : List Entry} {sb die : ℕ} → victim_of base before ≡ Some sb → live_of_victim base before ≡ 0
      → SerialCopies ladder base tag before (entry_of tag (Kind.BadErase sb die false) ∷ before) retired
  erase_faults : {before : List Entry} {sb die : ℕ} → victim_of base before ≡ Some sb → live_of_victim base before ≡ 0
      → SerialCopies ladder base tag before (entry_of tag (Kind.BadErase sb die true) ∷ before) faulted
  finds_none : {before : List Entry} → victim_of base before ≡ None → SerialCopies ladder base tag before before left

-- a round: it begins with a pick just where one is lawful
pub data SerialRound (ladder : List Entry → ℕ → LadderState) (base : ChannelBase) (tag : Tag) : List Entry → List Entry → RoundEnd → Type 0 where
  picks : {before after : List Entry} {sb : ℕ} {end : RoundEnd} → IsTrue (may_pick base before)
      → SerialCopies ladder base tag (entry_of tag (Kind.Pick sb) ∷ before) after end
      → SerialRound ladder base tag before after end
  takes : {before after : List Entry} {end : RoundEnd} → IsFalse (may_pick base before)
      → SerialCopies ladder base tag before after end → SerialRound ladder base tag before after end

-- whether a call goes on after a round: no die's call failed in it
abbrev pub is_faultless : RoundEnd → Bool
is_faultless left = true
is_faultless erased = true
is_faultless retired = true
is_faultless faulted = false

-- a write of a row takes the first that holds: with room it is written, or its program fails, and after a FAIL it tries
-- again; where the channel is worn or full it is refused; else it makes a round, and goes on if no die's call failed
pub data SerialWrite (ladder : List Entry → ℕ → LadderState) (base : ChannelBase) (tag : Tag) (row : ℕ) : List Entry → List Entry → Type 0 where
  writes : {before : List Entry} {slot : Slot} → IsTrue (has_host_room base before)
      → SerialWrite ladder base tag row before (entry_of tag (Kind.Write row slot) ∷ before)
  write_faults : {before : List Entry} {slot : Slot} {die : ℕ} → IsTrue (has_host_room base before)
      → SerialWrite ladder base tag row before (entry_of tag (Kind.BadWrite row slot die true) ∷ before)
  writes_again : {before after : List Entry} {slot : Slot} {die : ℕ} → IsTrue (has_host_room base before)
      → SerialWrite ladder base tag row (entry_of tag (Kind.BadWrite row slot die false) ∷ before) after
      → SerialWrite ladder base tag row before after
  is_refused : {before : List Entry} {worn : Bool} → IsFalse (has_host_room base before)
      → IsTrue (is_worn base before || is_full base before)
      → SerialWrite ladder base tag row before (entry_of tag (Kind.Refused row worn) ∷ before)
  makes_room : {before between after : List Entry} {end : RoundEnd} → IsTrue (needs_room base before)
      → SerialRound ladder base tag before between end → IsTrue (is_faultless end)
      → SerialWrite ladder base tag row between after → SerialWrite ladder base tag row before after
  round_faults : {before after : List Entry} → IsTrue (needs_room base before)
      → SerialRound ladder base tag before after faulted → SerialWrite ladder base tag row before after

-- whether a round decides the reply of a collect: it erased, its erase answered FAIL, or a die's call failed
abbrev pub decides_collect : RoundEnd → Bool
decides_collect left = false
decides_collect erased = true
decides_collect retired = true
decides_collect faulted = true

-- a collect: rounds until one decides its reply; after one that doesn't, a note, which ends it where it is idle
pub data SerialCollect (ladder : List Entry → ℕ → LadderState) (base : ChannelBase) (tag : Tag) : List Entry → List Entry → Type 0 where
  decides : {before after : List Entry} {end : RoundEnd} → SerialRound ladder base tag before after end
      → IsTrue (decides_collect end) → SerialCollect ladder base tag before after
  is_idle : {before between : List Entry} {note : Kind} → SerialRound ladder base tag before between left
      → IsTrue (is_idle_note note) → SerialCollect ladder base tag before (entry_of tag note ∷ between)
  collects_again : {before between after : List Entry} {note : Kind} → SerialRound ladder base tag before between left
      → IsTrue (is_note note) → IsFalse (is_idle_note note)
      → SerialCollect ladder base tag (entry_of tag note ∷ between) after → SerialCollect ladder base tag before after
