-- What does a caller come to that empties a victim? It copies the live page of least index, again and again, until a copy
-- ends the round or the victim has no live page; then it erases it. Between its steps other callers may make theirs: so
-- each step tells of the past that it found. All is said for one start and contents.
use Rattle.std.specs.Prelude.{ℕ, ◌≡◌, true, IsFalse, IsTrue, List, Result, Ok, Err}
use Rattle.chan_calls.specs.Caller.{CallerView, HasLookRoom, HasStepRoom, IsOf}
use Rattle.chan_calls.specs.Collecting.{MakesErase, MakesLive}
use Rattle.chan_calls.specs.Copied.{CopiesFor, is_round_end}
use Rattle.chan_calls.specs.Stepping.{BaseFact, IsStepped, OfEachBase, Standing}
use Rattle.chan_calls.specs.Workers.{WorkerState, WorksFor}
use Rattle.chan_calls.specs.declared.copy_reply.CopyReply.{CopyReply}
use Rattle.chan_calls.specs.declared.copy_reply.CopyReply.TheVariants as copy
use Rattle.chan_state.specs.declared.answers.EraseAnswer.{EraseAnswer}
use Rattle.chan_state.specs.declared.answers.EraseAnswer.TheVariants as erase
use Rattle.chan_tables.specs.declared.answers.LiveAnswer.{LiveAnswer}
use Rattle.chan_tables.specs.declared.answers.LiveAnswer.TheVariants as live
use Rattle.ssd_geo.specs.declared.base.ChannelBase.{ChannelBase}
use Rattle.ssd_geo.specs.declared.entry.Entry.{Entry}
use Rattle.ssd_geo.specs.declared.look.Look.{Look}
use Rattle.ssd_geo.specs.declared.stop.StepStop.{StepStop}
use Rattle.ssd_geo.specs.declared.tag.Tag.{Tag}
use Rattle.ssd_histories.specs.Start.{Start}
use Rattle.collector.specs.declared.emptying.Next.{Next}
use Rattle.collector.specs.declared.emptying.Next.TheVariants.{Copied, Ended, NoneLive}
use Rattle.collector.specs.declared.replies.RoundReply.{RoundReply}
use Rattle.collector.specs.declared.replies.RoundReply.TheVariants.{DieFault, Erased, Left, Retired}

-- a fact of a start and contents holds of all for which the worker works and the channel stood
abbrev pub OfEach : WorkerState → CallerView → Standing → (Start → List (Tag × List ℕ) → Type 0) → Type 0
OfEach worker old stood fact =
    (start : Start) (contents : List (Tag × List ℕ)) → WorksFor worker start → IsOf old start contents →
    stood start contents → fact start contents

-- a caller that has seen another past
abbrev pub having_seen : CallerView → List Entry → CallerView
having_seen caller seen = record caller { seen = seen }

-- a fact of one base
abbrev pub OfBase : ChannelBase → BaseFact → Type 0
OfBase base fact = fact base

-- the victim's live page of least index was looked for, and a superblock was to be erased
abbrev pub LooksLive : ChannelBase → CallerView → Tag → ℕ → List Entry → List Entry → Result LiveAnswer StepStop → Type 0
LooksLive base caller tag sb before after result =
    IsStepped HasLookRoom (MakesLive (OfBase base) caller.shape tag sb) tag
    (having_seen caller before) (having_seen caller after) result

abbrev pub IsToErase : ChannelBase → CallerView → Tag → ℕ → List Entry → List Entry → Result EraseAnswer StepStop → Type 0
IsToErase base caller tag sb before after result =
    IsStepped HasStepRoom (MakesErase (OfBase base) tag sb) tag
    (having_seen caller before) (having_seen caller after) result

-- the live page of least index was found and copied, which gave this reply
pub record CopiesLive (start : Start) (contents : List (Tag × List ℕ)) (caller : CallerView) (tag : Tag) (sb : ℕ)
    (before after : List Entry) (reply : CopyReply) : Type 0 where
  pub look : Look
  pub looked : List Entry
  pub finds : LooksLive start.base caller tag sb before looked (Ok (live.Found look))
  pub copies : CopiesFor start contents (having_seen caller looked) tag look.at true after reply

-- such copies one after the other, of which none ended the round
pub data CopiesPages (start : Start) (contents : List (Tag × List ℕ)) (caller : CallerView) (tag : Tag) (sb : ℕ)
    (before : List Entry) : List Entry → Type 0 where
  none_yet : CopiesPages start contents caller tag sb before before
  one_more : {between after : List Entry} {reply : CopyReply}
      → CopiesPages start contents caller tag sb before between
      → CopiesLive start contents caller tag sb between after reply
      → IsFalse (is_round_end reply)
      → CopiesPages start contents caller tag sb before after

-- the reply of a round that a copy ended, and of one that came to the erase of a superblock
abbrev pub reply_of_copy : CopyReply → RoundReply
reply_of_copy (copy.DieFault die) = DieFault die
reply_of_copy _ = Left

abbrev pub reply_of_erase : ℕ → EraseAnswer → RoundReply
reply_of_erase sb erase.NotVictim = Left
reply_of_erase sb (erase.Live count) = Left
reply_of_erase sb (erase.Pinned count) = Left
reply_of_erase sb erase.Erased = Erased sb
reply_of_erase sb (erase.FailedErase die) = Retired sb
reply_of_erase sb (erase.DieFault die) = DieFault die

abbrev pub result_of_erase : ℕ → Result EraseAnswer StepStop → Result RoundReply StepStop
result_of_erase sb (Ok answer) = Ok (reply_of_erase sb answer)
result_of_erase sb (Err stop) = Err stop

-- how a round comes to its end after its copies: by one copy more, since the superblock is the victim no longer, or where it
-- has no live page by its erase; a step that was refused stops it
pub data EndsRound (start : Start) (contents : List (Tag × List ℕ)) (caller : CallerView) (tag : Tag) (sb : ℕ)
    (before after : List Entry) (result : Result RoundReply StepStop) : Type 0 where
  by_copy : {reply : CopyReply} → CopiesLive start contents caller tag sb before after reply
      → IsTrue (is_round_end reply) → result ≡ Ok (reply_of_copy reply)
      → EndsRound start contents caller tag sb before after result
  no_victim : LooksLive start.base caller tag sb before after (Ok live.NotVictim) → result ≡ Ok Left
      → EndsRound start contents caller tag sb before after result
  by_erase : (emptied : List Entry) (erasing : Result EraseAnswer StepStop)
      → LooksLive start.base caller tag sb before emptied (Ok live.NoneLive)
      → IsToErase start.base caller tag sb emptied after erasing → result ≡ result_of_erase sb erasing
      → EndsRound start contents caller tag sb before after result
  stops : (stop : StepStop) → LooksLive start.base caller tag sb before after (Err stop) → result ≡ Err stop
      → EndsRound start contents caller tag sb before after result

-- what a copy's reply says of its page: it ends the round, or the next one follows
abbrev pub next_of_copy : CopyReply → Next
next_of_copy copy.NoRoom = Ended Left
next_of_copy copy.ReadOnly = Ended Left
next_of_copy (copy.DieFault die) = Ended (DieFault die)
next_of_copy copy.Moved = Copied
next_of_copy copy.Changed = Copied
next_of_copy copy.Condemned = Copied
next_of_copy copy.Uncorrectable = Copied
next_of_copy copy.Failed = Copied

-- what came of the next live page of a victim
abbrev pub TakesNextFor : Start → List (Tag × List ℕ) → CallerView → Tag → ℕ → List Entry → List Entry →
    Result Next StepStop → Type 0
TakesNextFor start contents caller tag sb before after (Ok Copied) =
    (reply : CopyReply) × CopiesLive start contents caller tag sb before after reply × IsFalse (is_round_end reply)
TakesNextFor start contents caller tag sb before after (Ok NoneLive) =
    LooksLive start.base caller tag sb before after (Ok live.NoneLive)
TakesNextFor start contents caller tag sb before after (Ok (Ended reply)) =
    EndsRound start contents caller tag sb before after (Ok reply)
TakesNextFor start contents caller tag sb before after (Err stop) =
    LooksLive start.base caller tag sb before after (Err stop)

abbrev pub TakesNext : WorkerState → CallerView → Standing → Tag → ℕ → List Entry → Result Next StepStop → Type 0
TakesNext worker old stood tag sb new result =
    OfEach worker old stood (λ start contents. TakesNextFor start contents old tag sb old.seen new result)

-- a superblock was to be erased, which gave a reply
abbrev pub Erases : CallerView → Standing → Tag → ℕ → List Entry → Result RoundReply StepStop → Type 0
Erases old stood tag sb new result =
    (erasing : Result EraseAnswer StepStop)
    × IsStepped HasStepRoom (MakesErase (OfEachBase old stood) tag sb) tag old (having_seen old new) erasing
    × (result ≡ result_of_erase sb erasing)

-- a victim was to be emptied and erased: copies, and then the end of the round
pub record EmptiesFor (start : Start) (contents : List (Tag × List ℕ)) (caller : CallerView) (tag : Tag) (sb : ℕ)
    (before after : List Entry) (result : Result RoundReply StepStop) : Type 0 where
  pub copied : List Entry
  pub copies : CopiesPages start contents caller tag sb before copied
  pub ends : EndsRound start contents caller tag sb copied after result

abbrev pub Empties : WorkerState → CallerView → Standing → Tag → ℕ → List Entry → Result RoundReply StepStop → Type 0
Empties worker old stood tag sb new result =
    OfEach worker old stood (λ start contents. EmptiesFor start contents old tag sb old.seen new result)
