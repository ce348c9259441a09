-- How many rounds does a write make whose caller is alone on its channel? Its turns tell: where it needed room, a turn made a
-- round, and no other turn did. Each law is the contract of a function without a body.
use mathlib.Core.Logic.{inl, inr}
use Rattle.std.specs.Prelude.{ℕ, ◌≡◌, ◌+◌, ◌≤◌, ◌⊎◌, List, [], None, Result, Ok, Err}
use Rattle.chan_calls.specs.Caller.{CallerView}
use Rattle.ssd_geo.specs.declared.entry.Entry.{Entry}
use Rattle.ssd_geo.specs.declared.stop.StepStop.{StepStop}
use Rattle.ssd_geo.specs.declared.tag.Tag.{Tag}
use Rattle.ssd_histories.specs.History.{open_looks}
use Rattle.ssd_histories.specs.Lawful.{IsLawful}
use Rattle.ssd_histories.specs.Standing.{IsStart}
use Rattle.ssd_histories.specs.Start.{Start}
use Rattle.history_laws.specs.NeverFull.{count_of_bad}
use Rattle.collector.specs.Writes.{EndsWrite, HasMadeRoom, IsToWrite, MakesWriteFor, TurnsWriteFor, WritesOften, WritesOn, by_fail, by_room, by_round, by_write, last_try, none_yet, one_more}
use Rattle.collector.specs.declared.replies.WriteReply.{WriteReply}

-- how many rounds a turn made after which the write went on, and all such turns
abbrev pub rounds_of_turn : {start : Start} {contents : List (Tag × List ℕ)} {caller : CallerView} {tag : Tag} {row : ℕ}
    {before after : List Entry} → WritesOn start contents caller tag row before after → ℕ
rounds_of_turn (by_fail sb tried) = 0
rounds_of_turn (by_room reply made goes_on) = 1

abbrev pub rounds_of_turns : {start : Start} {contents : List (Tag × List ℕ)} {caller : CallerView} {tag : Tag} {row : ℕ}
    {before after : List Entry} → WritesOften start contents caller tag row before after → ℕ
rounds_of_turns none_yet = 0
rounds_of_turns (one_more turns turn) = rounds_of_turns turns + rounds_of_turn turn

-- how many a turn made that ended the write, and one that was stopped
abbrev pub rounds_of_end : {start : Start} {contents : List (Tag × List ℕ)} {caller : CallerView} {tag : Tag} {row : ℕ}
    {before after : List Entry} {reply : WriteReply} → EndsWrite start contents caller tag row before after reply → ℕ
rounds_of_end (by_write answer tried ends) = 0
rounds_of_end (by_round ended made ends) = 1

abbrev pub rounds_of_stop : {start : Start} {contents : List (Tag × List ℕ)} {caller : CallerView} {tag : Tag} {row : ℕ}
    {before after : List Entry} {stop : StepStop} →
    IsToWrite start.base caller tag row before after (Err stop)
    ⊎ HasMadeRoom start contents caller tag row before after (Err stop) → ℕ
rounds_of_stop (inl tried) = 0
rounds_of_stop (inr made) = 1

-- how many the last turn made
abbrev pub rounds_of_last : (start : Start) (contents : List (Tag × List ℕ)) (caller : CallerView) (tag : Tag) (row : ℕ)
    (before after : List Entry) (result : Result WriteReply StepStop) →
    TurnsWriteFor start contents caller tag row before after (last_try result) → ℕ
rounds_of_last start contents caller tag row before after (Ok reply) last = rounds_of_end last
rounds_of_last start contents caller tag row before after (Err stop) last = rounds_of_stop last

-- how many a write made
abbrev pub rounds_made : (start : Start) (contents : List (Tag × List ℕ)) (caller : CallerView) (tag : Tag) (row : ℕ)
    (before after : List Entry) (result : Result WriteReply StepStop) →
    MakesWriteFor start contents caller tag row before after result → ℕ
rounds_made start contents caller tag row before after result made =
    rounds_of_turns made.turns + rounds_of_last start contents caller tag row made.between after result made.last

-- a write of a caller that is alone makes at most as many as superblocks weren't bad before it
abbrev pub AloneWritesMakeFewRounds : Type 0
AloneWritesMakeFewRounds =
    (start : Start) (contents : List (Tag × List ℕ)) (caller : CallerView) (tag : Tag) (row : ℕ) (before after : List Entry)
    (result : Result WriteReply StepStop) →
    caller.number ≡ None → IsStart start → IsLawful start contents after → open_looks before ≡ [] →
    (made : MakesWriteFor start contents caller tag row before after result) →
    rounds_made start contents caller tag row before after result made + count_of_bad start.base before
    ≤ start.base.shape.superblocks

-- and at most two more than turn bad by it
abbrev pub AloneWritesMakeTwoMore : Type 0
AloneWritesMakeTwoMore =
    (start : Start) (contents : List (Tag × List ℕ)) (caller : CallerView) (tag : Tag) (row : ℕ) (before after : List Entry)
    (result : Result WriteReply StepStop) →
    caller.number ≡ None → IsStart start → IsLawful start contents after → open_looks before ≡ [] →
    (made : MakesWriteFor start contents caller tag row before after result) →
    rounds_made start contents caller tag row before after result made + count_of_bad start.base before
    ≤ count_of_bad start.base after + 2
