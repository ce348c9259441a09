-- What does a collect come to? It makes rounds, with a note after each that leaves its victim or finds none, until a round
-- decides its reply or a note says that there is nothing to do.
use Rattle.std.specs.Prelude.{ℕ, ◌≡◌, ◌⊎◌, Bool, true, false, IsFalse, IsTrue, List, Option, Some, None, Result, Ok, Err}
use Rattle.chan_calls.specs.Caller.{CallerView, HasStepRoom}
use Rattle.chan_calls.specs.Collecting.{MakesNote}
use Rattle.chan_calls.specs.Stepping.{IsStepped, Standing}
use Rattle.chan_calls.specs.Workers.{WorkerState}
use Rattle.chan_tables.specs.declared.answers.Note.{Note}
use Rattle.ssd_geo.specs.declared.entry.Entry.{Entry}
use Rattle.ssd_geo.specs.declared.kind.Kind.{Kind}
use Rattle.ssd_geo.specs.declared.stop.StepStop.{StepStop}
use Rattle.ssd_geo.specs.declared.tag.Tag.{Tag}
use Rattle.ssd_histories.specs.Rounds.{is_idle_note}
use Rattle.ssd_histories.specs.Start.{Start}
use Rattle.collector.specs.Emptying.{OfEach, having_seen}
use Rattle.collector.specs.Rounds.{MakesRoundFor}
use Rattle.collector.specs.declared.replies.CollectReply.{CollectReply}
use Rattle.collector.specs.declared.replies.CollectReply.TheVariants as collect
use Rattle.collector.specs.declared.replies.RoundReply.{RoundReply}
use Rattle.collector.specs.declared.replies.RoundReply.TheVariants.{DieFault, Erased, Left, Retired}

-- whether a note says that there is nothing to do
abbrev pub is_idle : Note → Bool
is_idle note = is_idle_note (Kind.Note note.free note.victim note.live note.pins note.garbage)

-- the reply that a round decides, if it decides one
abbrev pub decided_by : RoundReply → Option CollectReply
decided_by (Erased sb) = Some (collect.Collected sb)
decided_by (Retired sb) = Some (collect.Retired sb)
decided_by (DieFault die) = Some (collect.DieFault die)
decided_by Left = None

-- the reply that a note gives after such a round, if it gives one
abbrev pub reply_of_note : Note → Option CollectReply
reply_of_note note = elim (is_idle note) [ true ↦ Some collect.Idle | false ↦ None ]

-- the channel's fill was to be noted
abbrev pub IsToNote : CallerView → Tag → List Entry → List Entry → Result Note StepStop → Type 0
IsToNote caller tag before after result =
    IsStepped HasStepRoom (MakesNote tag) tag (having_seen caller before) (having_seen caller after) result

-- the channel's fill was noted, which gives a collect its reply or none
abbrev pub result_of_note : Result Note StepStop → Result (Option CollectReply) StepStop
result_of_note (Ok note) = Ok (reply_of_note note)
result_of_note (Err stop) = Err stop

abbrev pub Notes : CallerView → Tag → List Entry → Result (Option CollectReply) StepStop → Type 0
Notes old tag new result =
    (noting : Result Note StepStop)
    × IsStepped HasStepRoom (MakesNote tag) tag old (having_seen old new) noting
    × (result ≡ result_of_note noting)

-- a round that decided nothing, and the note after it
pub record HasNoted (start : Start) (contents : List (Tag × List ℕ)) (caller : CallerView) (tag : Tag)
    (before after : List Entry) (noting : Result Note StepStop) : Type 0 where
  pub left : List Entry
  pub round : MakesRoundFor start contents caller tag before left (Ok Left)
  pub notes : IsToNote caller tag left after noting

-- how the last round of a collect gave its reply: it decided it, or the note after it is idle
pub data DecidesCollect (start : Start) (contents : List (Tag × List ℕ)) (caller : CallerView) (tag : Tag)
    (before after : List Entry) (reply : CollectReply) : Type 0 where
  by_round : {ended : RoundReply} → MakesRoundFor start contents caller tag before after (Ok ended)
      → decided_by ended ≡ Some reply → DecidesCollect start contents caller tag before after reply
  by_note : {note : Note} → HasNoted start contents caller tag before after (Ok note) → IsTrue (is_idle note)
      → reply ≡ collect.Idle → DecidesCollect start contents caller tag before after reply

-- a round that leaves the collect to go on: the note after it isn't idle
pub record LeavesOff (start : Start) (contents : List (Tag × List ℕ)) (caller : CallerView) (tag : Tag)
    (before after : List Entry) : Type 0 where
  pub note : Note
  pub noted : HasNoted start contents caller tag before after (Ok note)
  pub not_idle : IsFalse (is_idle note)

-- one round of a collect, with its note: it decides the reply, or leaves the collect to go on, or a step is refused
abbrev pub MakesTurnFor : Start → List (Tag × List ℕ) → CallerView → Tag → List Entry → List Entry →
    Result (Option CollectReply) StepStop → Type 0
MakesTurnFor start contents caller tag before after (Ok (Some reply)) =
    DecidesCollect start contents caller tag before after reply
MakesTurnFor start contents caller tag before after (Ok None) = LeavesOff start contents caller tag before after
MakesTurnFor start contents caller tag before after (Err stop) =
    MakesRoundFor start contents caller tag before after (Err stop)
    ⊎ HasNoted start contents caller tag before after (Err stop)

abbrev pub MakesTurn : WorkerState → CallerView → Standing → Tag → List Entry → Result (Option CollectReply) StepStop → Type 0
MakesTurn worker old stood tag new result =
    OfEach worker old stood (λ start contents. MakesTurnFor start contents old tag old.seen new result)

-- rounds one after the other, each of which left the collect to go on
pub data LeavesRounds (start : Start) (contents : List (Tag × List ℕ)) (caller : CallerView) (tag : Tag)
    (before : List Entry) : List Entry → Type 0 where
  none_yet : LeavesRounds start contents caller tag before before
  one_more : {between after : List Entry} → LeavesRounds start contents caller tag before between
      → LeavesOff start contents caller tag between after → LeavesRounds start contents caller tag before after

-- the last turn of a collect
abbrev pub last_turn : Result CollectReply StepStop → Result (Option CollectReply) StepStop
last_turn (Ok reply) = Ok (Some reply)
last_turn (Err stop) = Err stop

-- a collect: rounds that left it to go on, and the last one
pub record MakesCollectFor (start : Start) (contents : List (Tag × List ℕ)) (caller : CallerView) (tag : Tag)
    (before after : List Entry) (result : Result CollectReply StepStop) : Type 0 where
  pub between : List Entry
  pub rounds : LeavesRounds start contents caller tag before between
  pub last : MakesTurnFor start contents caller tag between after (last_turn result)

abbrev pub MakesCollect : WorkerState → CallerView → Standing → Tag → List Entry → Result CollectReply StepStop → Type 0
MakesCollect worker old stood tag new result =
    OfEach worker old stood (λ start contents. MakesCollectFor start contents old tag old.seen new result)
