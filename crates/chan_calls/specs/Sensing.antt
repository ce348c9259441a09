-- What do the senses of a look give, and when is it left? A sense adds its entry, or the one that
-- says that the die failed; no sense is made after that. A look is left when its ladder has its
-- answer, or when a sense failed.
use Rattle.std.specs.Prelude.{ℕ, ◌≡◌, ◌<◌, ◌||◌, IsFalse, IsSome, IsTrue, List, ◌∷◌, ℤ, ⊤}
use Rattle.chan_state.specs.declared.answers.SenseAnswer.{SenseAnswer}
use Rattle.chan_state.specs.declared.answers.SenseAnswer.TheVariants.{DieFault, Sensed}
use Rattle.chan_tables.specs.TablesState.{senses_had}
use Rattle.ssd_geo.specs.Coding.{coding_of}
use Rattle.ssd_geo.specs.Ladder.{asks, has_answer}
use Rattle.ssd_histories.specs.Lawful.{has_fault_sense}
use Rattle.ssd_histories.specs.PastPages.{ladder_of, sense_of}
use Rattle.ssd_histories.specs.SerialCalls.{entry_of}
use Rattle.ssd_histories.specs.Start.{Start}
use Rattle.ssd_geo.specs.declared.entry.Entry.{Entry}
use Rattle.ssd_geo.specs.declared.kind.Kind.{Kind}
use Rattle.ssd_geo.specs.declared.place.Place.{Place}
use Rattle.ssd_geo.specs.declared.tag.Tag.{Tag}
use Rattle.chan_calls.specs.Caller.{CallerView, Comes, IsOf, LookStays, own_look}
use Rattle.chan_calls.specs.Stepping.{Standing}

-- a sense may be made for a look of a call: it is open, and has had fewer senses than any ladder
-- asks for, of which none failed
pub record MaySense (caller : CallerView) (tag : Tag) (at : ℕ) : Type 0 where
  pub is_open : IsSome (own_look tag caller.seen at)
  pub few : senses_had caller.seen at < 168
  pub no_fault : IsFalse (has_fault_sense caller.seen at)

-- the entry of a sense
abbrev pub kind_of_sense : ℕ → Place → ℤ → SenseAnswer → Kind
kind_of_sense at place level Sensed = Kind.Sense at place level
kind_of_sense at place level (DieFault die) = Kind.FaultSense at place level

-- where a die failed, it is that of the place, and the word that was to take the bits is as before
abbrev pub FailsAt : Place → List ℕ → List ℕ → SenseAnswer → Type 0
FailsAt place before bits Sensed = ⊤
FailsAt place before bits (DieFault die) = (die ≡ place.die) × (bits ≡ before)

-- where none did, the sense gives what the definitions say
abbrev pub GivesBits : Start → List (Tag × List ℕ) → List Entry → Place → ℤ → List ℕ →
    SenseAnswer → Type 0
GivesBits start contents now place level bits Sensed =
    bits ≡ sense_of (coding_of start.base) start contents now place level
GivesBits start contents now place level bits (DieFault die) = ⊤

-- a sense of a place at a level was made for a look, for which the look's ladder asked
pub record Senses (old new : CallerView) (stood stands : Standing) (tag : Tag) (at : ℕ)
    (place : Place) (level : ℤ) (before bits : List ℕ) (answer : SenseAnswer) : Type 0 where
  pub now : List Entry
  pub comes : Comes old tag now
  pub seen_is : new.seen ≡ entry_of tag (kind_of_sense at place level answer) ∷ now
  pub fails : FailsAt place before bits answer
  pub goes_on :
      (start : Start) (contents : List (Tag × List ℕ)) → IsOf old start contents →
      stood start contents →
      ladder_of (coding_of start.base) start contents old.seen at ≡ asks place level →
      LookStays start contents old.seen now at
      × GivesBits start contents now place level bits answer
      × IsOf new start contents × stands start contents

-- a look was left, whose ladder had its answer, or of which a sense failed
pub record Leaves (old new : CallerView) (stood stands : Standing) (tag : Tag) (at : ℕ)
    : Type 0 where
  pub now : List Entry
  pub comes : Comes old tag now
  pub seen_is : new.seen ≡ entry_of tag (Kind.Leave at) ∷ now
  pub goes_on :
      (start : Start) (contents : List (Tag × List ℕ)) → IsOf old start contents →
      stood start contents →
      IsTrue (has_answer (ladder_of (coding_of start.base) start contents old.seen at)
      || has_fault_sense old.seen at) →
      LookStays start contents old.seen now at × IsOf new start contents × stands start contents
