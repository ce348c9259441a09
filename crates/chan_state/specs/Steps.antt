-- What does each step of a channel answer, what does it add to the history, and when may it come? A step that isn't made
-- leaves everything as it was. The room of a history is this project's own: each open look has 256 entries set aside.
use Rattle.std.specs.Prelude.{ℕ, ◌≡◌, ◌+◌, ◌≤◌, ◌<◌, ◌||◌, false, IsTrue, IsFalse, List, ◌∷◌, length, ℤ, Option, Some, None, Result, Ok, Err, IsSome}
use Rattle.chan_dies.specs.DiesState.{levels_at}
use Rattle.chan_tables.specs.TablesState.{IsStopped, is_closed_row, room_of_look, room_of_step, senses_had}
use Rattle.ssd_geo.specs.Cells.{sensed}
use Rattle.ssd_histories.specs.BlockLaws.{blocks_after}
use Rattle.ssd_geo.specs.Coding.{coding_of}
use Rattle.ssd_histories.specs.History.{look_by, looks_after}
use Rattle.ssd_histories.specs.HistoryLaws.{rows_after}
use Rattle.ssd_geo.specs.Ladder.{asks, has_answer}
use Rattle.ssd_histories.specs.Lawful.{has_fault_sense}
use Rattle.ssd_histories.specs.OpenLooks.{look_at}
use Rattle.ssd_histories.specs.PageMap.{row_at}
use Rattle.ssd_histories.specs.PastPages.{ladder_of, sense_of}
use Rattle.ssd_histories.specs.PastRows.{row_change, serial_of}
use Rattle.ssd_histories.specs.Ranges.{has_slot}
use Rattle.ssd_histories.specs.SerialCalls.{entry_of}
use Rattle.ssd_histories.specs.Start.{Start, data_of}
use Rattle.ssd_geo.specs.Superblock.{slots_of}
use Rattle.ssd_geo.specs.declared.kind.Kind.{Kind}
use Rattle.ssd_geo.specs.declared.place.Place.{Place}
use Rattle.ssd_geo.specs.declared.policy_view.PolicyView.{PolicyView}
use Rattle.ssd_geo.specs.declared.row.Row.{Row}
use Rattle.ssd_geo.specs.declared.stop.StepStop.{StepStop}
use Rattle.ssd_geo.specs.declared.tag.Tag.{Tag}
use Rattle.chan_state.specs.ChannelState.{ChannelState, Count, SameDrive, StandsFor}
use Rattle.chan_state.specs.declared.answers.AgeAnswer.{AgeAnswer}
use Rattle.chan_state.specs.declared.answers.AgeAnswer.TheVariants as age
use Rattle.chan_state.specs.declared.answers.SenseAnswer.{SenseAnswer}
use Rattle.chan_state.specs.declared.answers.SenseAnswer.TheVariants as sense
use Rattle.chan_tables.specs.declared.answers.LookAnswer.{LookAnswer}
use Rattle.chan_tables.specs.declared.answers.LookAnswer.TheVariants.{Empty, Lost, Found}

-- the history has room for a look, and for a step outside a look
abbrev pub HasLookRoom : ChannelState → Type 0
HasLookRoom channel = length channel.past + room_of_look channel.looks ≤ channel.limit

abbrev pub HasStepRoom : ChannelState → Type 0
HasStepRoom channel = length channel.past + room_of_step channel.looks ≤ channel.limit

-- a step is refused for want of room in the history, with its length, exactly where there is none; refused for want of
-- memory it may be anywhere else
abbrev pub IsRefused : {A : Type 0} → Type 0 → ChannelState → Result A StepStop → Type 0
IsRefused has_room old result = IsStopped has_room (length old.past) result

-- an entry is added by a call, and the drive is the same; the page map, the superblocks and the open looks are what the
-- entry makes of them
pub record AddsEntry (old new : ChannelState) (tag : Tag) (kind : Kind) : Type 0 where
  pub past_is : new.past ≡ entry_of tag kind ∷ old.past
  pub same_drive : SameDrive old new
  pub rows_are : new.rows ≡ rows_after (row_change old.session old.past tag kind) old.rows
  pub blocks_are : new.blocks ≡ blocks_after (slots_of old.shape.pages old.shape.dies) kind old.blocks
  pub looks_are : new.looks ≡ looks_after (length old.past) tag kind old.looks

-- the look of this call that began at a position is open
abbrev pub IsOpen : ChannelState → Tag → ℕ → Type 0
IsOpen channel tag at = IsSome (look_by tag (look_at channel.looks at))

-- a look of a row answers what the page map holds; where that is a page, it is one of the channel's slots, and the look is
-- open from then on
abbrev pub LooksAt : ChannelState → ChannelState → Tag → ℕ → LookAnswer → Type 0
LooksAt old new tag row Empty = (row_at old.rows row ≡ Row.Empty) × AddsEntry old new tag (Kind.Look row Row.Empty false)
LooksAt old new tag row Lost = (row_at old.rows row ≡ Row.Lost) × AddsEntry old new tag (Kind.Look row Row.Lost false)
LooksAt old new tag row (Found look) =
    (row_at old.rows row ≡ Row.Page look.slot look.serial) × (look.at ≡ length old.past) × (look.row ≡ row)
    × AddsEntry old new tag (Kind.Look row (Row.Page look.slot look.serial) look.closed)
    × (look_by tag (look_at new.looks look.at) ≡ Some look)
    × (look.closed ≡ is_closed_row old.shape old.blocks (Row.Page look.slot look.serial))
    × IsTrue (has_slot old.shape look.slot)

-- how many senses a look has had
abbrev pub senses_made : ChannelState → ℕ → ℕ
senses_made channel at = senses_had channel.past at

-- a sense may be made for a look: it is open, and has had fewer senses than any ladder asks for, of which none failed
pub record MaySense (channel : ChannelState) (tag : Tag) (at : ℕ) : Type 0 where
  pub is_open : IsOpen channel tag at
  pub few : senses_made channel at < 168
  pub no_fault : IsFalse (has_fault_sense channel.past at)

-- a sense that the die made adds its entry and gives the bits of the page; where the die of the place failed, an entry
-- says so, and the bits given are as they were
abbrev pub Senses : ChannelState → ChannelState → Tag → ℕ → Place → ℤ → SenseAnswer → Type 0
Senses old new tag at place level sense.Sensed = AddsEntry old new tag (Kind.Sense at place level)
Senses old new tag at place level (sense.DieFault die) = (die ≡ place.die) × AddsEntry old new tag (Kind.FaultSense at place level)

abbrev pub GivesBits : ChannelState → Place → ℤ → List ℕ → List ℕ → SenseAnswer → Type 0
GivesBits old place level was out sense.Sensed = out ≡ sensed level (levels_at old.dies place)
GivesBits old place level was out (sense.DieFault die) = out ≡ was

-- the die that a sense names as failed, if it names one
abbrev pub fault_of_sense : SenseAnswer → Option ℕ
fault_of_sense sense.Sensed = None
fault_of_sense (sense.DieFault die) = Some die

-- the bits of a sense are what the definitions say
abbrev pub AreSensed : Start → List (Tag × List ℕ) → ChannelState → Place → ℤ → List ℕ → SenseAnswer → Type 0
AreSensed start contents old place level out sense.Sensed = out ≡ sense_of (coding_of start.base) start contents old.past place level
AreSensed start contents old place level out (sense.DieFault die) = Unit {0}

-- where the ladder of the look asked just for this sense, it gives what the definitions say, and the channel goes on standing
abbrev pub SensesFor : ChannelState → ChannelState → ℕ → Place → ℤ → List ℕ → SenseAnswer → Type 0
SensesFor old new at place level out answer =
    (view : Option PolicyView) (start : Start) (contents : List (Tag × List ℕ)) → StandsFor old view start contents →
    ladder_of (coding_of start.base) start contents old.past at ≡ asks place level →
    AreSensed start contents old place level out answer × StandsFor new view start contents

-- where the ladder of the look had its answer, or a sense of it failed, the channel goes on standing
abbrev pub LeavesFor : ChannelState → ChannelState → ℕ → Type 0
LeavesFor old new at =
    (view : Option PolicyView) (start : Start) (contents : List (Tag × List ℕ)) → StandsFor old view start contents →
    IsTrue (has_answer (ladder_of (coding_of start.base) start contents old.past at) || has_fault_sense old.past at) →
    StandsFor new view start contents

-- the word is that of a call's write of a row
abbrev pub IsWordOf : Start → List (Tag × List ℕ) → Tag → ℕ → List ℕ → Type 0
IsWordOf start contents tag row word =
    word ≡ (coding_of start.base).encoded (serial_of start.base.session tag) row (data_of contents tag)

-- an ageing of a block adds its entry, or one that says that its die failed
abbrev pub Ages : ChannelState → ChannelState → Tag → ℕ → ℕ → ℕ → AgeAnswer → Type 0
Ages old new tag die sb amount age.Aged = AddsEntry old new tag (Kind.Age die sb amount)
Ages old new tag die sb amount (age.DieFault named) = (named ≡ die) × AddsEntry old new tag (Kind.FaultAge die sb amount)

abbrev pub fault_of_age : AgeAnswer → Option ℕ
fault_of_age age.Aged = None
fault_of_age (age.DieFault die) = Some die

-- a step that adds no entry counts no fault
abbrev pub CountAt : {A : Type 0} → (A → Option ℕ) → ChannelState → ChannelState → Result A StepStop → Type 0
CountAt named old new (Ok answer) = Count (named answer) old new
CountAt named old new (Err stop) = new ≡ old
