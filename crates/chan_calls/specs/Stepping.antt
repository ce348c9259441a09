-- What does a step of a caller answer, and what does it add? Each step finds a past, which begins
-- with what the caller had seen, and adds one entry to it or none; the caller has then seen that.
-- What the channel stood for, it goes on standing for: so an entry that was added is lawful over the
-- past that the step found, which is why it came. Why a step added none is said of that past too.
use Rattle.std.specs.Prelude.{ℕ, ◌≡◌, false, true, IsFalse, IsTrue, List, ◌∷◌, length, Result, Ok, Err}
use Rattle.chan_state.specs.Steps.{IsWordOf}
use Rattle.chan_state.specs.declared.answers.AgeAnswer.{AgeAnswer}
use Rattle.chan_state.specs.declared.answers.AgeAnswer.TheVariants as age
use Rattle.chan_state.specs.declared.answers.WriteAnswer.{WriteAnswer}
use Rattle.chan_state.specs.declared.answers.WriteAnswer.TheVariants.{DieFault, Failed, Full, NeedRoom, ReadOnly, Written}
use Rattle.chan_tables.specs.declared.answers.LookAnswer.{LookAnswer}
use Rattle.chan_tables.specs.declared.answers.LookAnswer.TheVariants.{Empty, Found, Lost}
use Rattle.ssd_histories.specs.ServedCalls.{after_age, after_lone_look, after_look, after_trim, after_write}
use Rattle.ssd_histories.specs.Ranges.{has_slot}
use Rattle.ssd_histories.specs.Room.{has_host_room, is_full, is_worn}
use Rattle.ssd_histories.specs.Rounds.{needs_room}
use Rattle.ssd_histories.specs.SerialCalls.{entry_of}
use Rattle.ssd_histories.specs.Start.{Start}
use Rattle.ssd_geo.specs.declared.base.ChannelBase.{ChannelBase}
use Rattle.ssd_geo.specs.declared.entry.Entry.{Entry}
use Rattle.ssd_geo.specs.declared.kind.Kind.{Kind}
use Rattle.ssd_geo.specs.declared.row.Row.{Row}
use Rattle.ssd_geo.specs.declared.shape.Shape.{Shape}
use Rattle.ssd_geo.specs.declared.slot.Slot.{Slot}
use Rattle.ssd_geo.specs.declared.stop.StepStop.{StepStop}
use Rattle.ssd_geo.specs.declared.tag.Tag.{Tag}
use Rattle.chan_calls.specs.Caller.{CallerView, Comes, IsOf}

-- which starts and contents a channel stands for
abbrev pub Standing : Type 1
Standing = Start → List (Tag × List ℕ) → Type 0

-- what a channel stood for, it stands for
abbrev pub GoesOn : CallerView → CallerView → Standing → Standing → Type 0
GoesOn old new stood stands =
    (start : Start) (contents : List (Tag × List ℕ)) → IsOf old start contents →
    stood start contents →
    IsOf new start contents × stands start contents

-- a fact of the base of a start that a channel may have
abbrev pub BaseFact : Type 1
BaseFact = ChannelBase → Type 0

-- the fact holds of the base of each start for which a channel stood, of which a caller had seen a
-- part
abbrev pub OfEachBase : CallerView → Standing → BaseFact → Type 0
OfEachBase old stood fact =
    (start : Start) (contents : List (Tag × List ℕ)) → IsOf old start contents →
    stood start contents → fact start.base

-- a step that wants room found a past: where that had room it made what it answers; else it was
-- refused with the past's length. Refused for want of memory it may be wherever there was room.
abbrev pub IsStepped : {A : Type 0} → (ℕ → List Entry → Type 0) →
    (List Entry → A → List Entry → Type 0) → Tag → CallerView → CallerView → Result A StepStop →
    Type 0
IsStepped has_room makes tag old new (Ok answer) =
    (now : List Entry) × Comes old tag now × has_room old.limit now × makes now answer new.seen
IsStepped has_room makes tag old new (Err (StepStop.HistoryFull told)) =
    (now : List Entry) × Comes old tag now × (¬ has_room old.limit now) × (told ≡ length now)
    × (new.seen ≡ now)
IsStepped has_room makes tag old new (Err StepStop.Memory) =
    (now : List Entry) × Comes old tag now × has_room old.limit now × (new.seen ≡ now)

-- a look of a row adds what it found; a page that it found is one of the channel's, and the look is
-- open
abbrev pub MakesLook : Shape → Tag → ℕ → List Entry → LookAnswer → List Entry → Type 0
MakesLook shape tag row now Empty seen = seen ≡ after_lone_look tag row Row.Empty now
MakesLook shape tag row now Lost seen = seen ≡ after_lone_look tag row Row.Lost now
MakesLook shape tag row now (Found look) seen =
    (look.at ≡ length now) × (look.row ≡ row) × IsTrue (has_slot shape look.slot)
    × (seen ≡ after_look tag row look.slot look.serial look.closed now)

-- A write adds its slot, a program that failed, or that it was refused; where it needs room it adds
-- nothing. The first argument says a fact of each base for which the channel stood.
abbrev pub MakesWrite : (BaseFact → Type 0) → Tag → ℕ → List Entry → WriteAnswer → List Entry →
    Type 0
MakesWrite of_each tag row now (Written slot) seen =
    (seen ≡ after_write tag row slot now) × of_each (λ base. IsTrue (has_host_room base now))
MakesWrite of_each tag row now (Failed sb) seen =
    (slot : Slot) × (die : ℕ) × (slot.sb ≡ sb)
    × (seen ≡ entry_of tag (Kind.BadWrite row slot die false) ∷ now)
    × of_each (λ base. IsTrue (has_host_room base now))
MakesWrite of_each tag row now (DieFault die) seen =
    (slot : Slot) × (seen ≡ entry_of tag (Kind.BadWrite row slot die true) ∷ now)
    × of_each (λ base. IsTrue (has_host_room base now))
MakesWrite of_each tag row now ReadOnly seen =
    (seen ≡ entry_of tag (Kind.Refused row true) ∷ now)
    × of_each (λ base. IsFalse (has_host_room base now) × IsTrue (is_worn base now))
MakesWrite of_each tag row now Full seen =
    (seen ≡ entry_of tag (Kind.Refused row false) ∷ now)
    × of_each (λ base. IsFalse (has_host_room base now) × IsFalse (is_worn base now)
    × IsTrue (is_full base now))
MakesWrite of_each tag row now NeedRoom seen =
    (seen ≡ now) × of_each (λ base. IsTrue (needs_room base now))

-- a trim and an ageing add their entry, and an ageing in which the die failed one that says so
abbrev pub MakesTrim : Tag → ℕ → List Entry → Unit {0} → List Entry → Type 0
MakesTrim tag row now answer seen = seen ≡ after_trim tag row now

abbrev pub MakesAge : Tag → ℕ → ℕ → ℕ → List Entry → AgeAnswer → List Entry → Type 0
MakesAge tag die sb amount now age.Aged seen = seen ≡ after_age tag die sb amount now
MakesAge tag die sb amount now (age.DieFault failed) seen =
    (failed ≡ die) × (seen ≡ entry_of tag (Kind.FaultAge die sb amount) ∷ now)

-- what a channel stood for it stands for after a write, where the word is the call's
abbrev pub WritesOn : CallerView → CallerView → Standing → Standing → Tag → ℕ → List ℕ → Type 0
WritesOn old new stood stands tag row word =
    (start : Start) (contents : List (Tag × List ℕ)) → IsOf old start contents →
    stood start contents →
    IsWordOf start contents tag row word → IsOf new start contents × stands start contents
