-- What does a whole copy of a look's page come to? The look is one that was just made. The copy adds
-- the senses that its ladder asks for, what became of the page, and the leave. A page that can't be
-- recovered is lost where the call condemns it, and is else left as it is.
use Rattle.std.specs.Prelude.{ℕ, ◌≡◌, ◌⊎◌, Bool, true, false, IsFalse, IsTrue, List, length, None, Some}
use Rattle.chan_state.specs.declared.answers.MoveAnswer.{MoveAnswer}
use Rattle.chan_state.specs.declared.answers.MoveAnswer.TheVariants as move
use Rattle.chan_tables.specs.TablesState.{ends_recovered, ends_uncorrectable, senses_had}
use Rattle.chan_tables.specs.declared.answers.CondemnAnswer.{CondemnAnswer}
use Rattle.chan_tables.specs.declared.answers.CondemnAnswer.TheVariants as condemn
use Rattle.ssd_geo.specs.Coding.{coding_of}
use Rattle.ssd_geo.specs.Ladder.{LadderState, is_recovered, is_uncorrectable}
use Rattle.ssd_histories.specs.CallSteps.{CallStep}
use Rattle.ssd_histories.specs.Copies.{IsCopy, IsRefresh}
use Rattle.ssd_histories.specs.History.{look_of}
use Rattle.ssd_histories.specs.Lawful.{has_fault_sense}
use Rattle.ssd_histories.specs.PastPages.{ladder_of}
use Rattle.ssd_histories.specs.Ranges.{has_slot}
use Rattle.ssd_histories.specs.Replies.{refresh_reply}
use Rattle.ssd_histories.specs.Rounds.{ends_round, has_fault}
use Rattle.ssd_histories.specs.SerialCalls.{AreStepsFrom, entry_of}
use Rattle.ssd_histories.specs.ServedCalls.{after_look}
use Rattle.ssd_histories.specs.Start.{Start}
use Rattle.ssd_geo.specs.declared.entry.Entry.{Entry}
use Rattle.ssd_geo.specs.declared.kind.Kind.{Kind}
use Rattle.ssd_geo.specs.declared.look.Look.{Look}
use Rattle.ssd_geo.specs.declared.reply.RefreshReply.{RefreshReply}
use Rattle.ssd_geo.specs.declared.row.Row.{Row}
use Rattle.ssd_geo.specs.declared.tag.Tag.{Tag}
use Rattle.chan_calls.specs.Caller.{CallerView, Comes, IsOf, own_look}
use Rattle.chan_calls.specs.Calls.{HasFailed, HasSenses, IsLeft}
use Rattle.chan_calls.specs.Moving.{MakesCondemn, MakesMove}
use Rattle.chan_calls.specs.Stepping.{Standing}
use Rattle.chan_calls.specs.Workers.{WorkerState, WorksFor}
use Rattle.chan_calls.specs.declared.copy_reply.CopyReply.{CopyReply}
use Rattle.chan_calls.specs.declared.copy_reply.CopyReply.TheVariants.{Changed, Condemned, DieFault, Failed, Moved, NoRoom, ReadOnly, Uncorrectable}

-- a look of a call is open and its slot one of the channel's, and nothing was done for it yet
pub record IsFresh (caller : CallerView) (tag : Tag) (look : Look) : Type 0 where
  pub in_range : IsTrue (has_slot caller.shape look.slot)
  pub is_own : own_look tag caller.seen look.at ≡ Some look
  pub is_look : look_of caller.seen look.at ≡ Some look
  pub none_had : senses_had caller.seen look.at ≡ 0
  pub none_failed : IsFalse (has_fault_sense caller.seen look.at)
  pub not_recovered : IsFalse (ends_recovered caller.seen look.at)
  pub not_uncorrectable : IsFalse (ends_uncorrectable caller.seen look.at)

-- the reply that the answer to a move gives, and that to a condemnation
abbrev pub reply_of_move : MoveAnswer → CopyReply
reply_of_move (move.Changed row) = Changed
reply_of_move move.ReadOnly = ReadOnly
reply_of_move move.NoRoom = NoRoom
reply_of_move (move.Moved slot) = Moved
reply_of_move (move.Failed sb) = Failed
reply_of_move (move.DieFault die) = DieFault die

abbrev pub reply_of_condemn : CondemnAnswer → CopyReply
reply_of_condemn (condemn.Changed row) = Changed
reply_of_condemn condemn.Condemned = Condemned

-- the ladder of a look recovered its page, which was to be moved
pub record IsMoved (start : Start) (contents : List (Tag × List ℕ)) (caller : CallerView) (tag : Tag)
    (at : ℕ) (before ended : List Entry) (reply : CopyReply) : Type 0 where
  pub at_move : List Entry
  pub comes : Comes (record caller { seen = before }) tag at_move
  pub is_recovered :
      IsTrue (is_recovered (ladder_of (coding_of start.base) start contents at_move at))
  pub answer : MoveAnswer
  pub made : MakesMove tag at at_move answer ended
  pub reply_is : reply ≡ reply_of_move answer

-- it can't recover the page, whose row was to be condemned
pub record IsCondemned (start : Start) (contents : List (Tag × List ℕ)) (caller : CallerView)
    (tag : Tag) (at : ℕ) (before ended : List Entry) (reply : CopyReply) : Type 0 where
  pub at_condemn : List Entry
  pub comes : Comes (record caller { seen = before }) tag at_condemn
  pub is_uncorrectable :
      IsTrue (is_uncorrectable (ladder_of (coding_of start.base) start contents at_condemn at))
  pub answer : CondemnAnswer
  pub made : MakesCondemn tag at at_condemn answer ended
  pub reply_is : reply ≡ reply_of_condemn answer

-- it can't recover the page, and nothing was done
pub record IsGivenUp (start : Start) (contents : List (Tag × List ℕ)) (at : ℕ)
    (before ended : List Entry) (reply : CopyReply) : Type 0 where
  pub is_uncorrectable :
      IsTrue (is_uncorrectable (ladder_of (coding_of start.base) start contents before at))
  pub ended_is : ended ≡ before
  pub reply_is : reply ≡ Uncorrectable

-- what became of a page that can't be recovered, where the call condemns it and where it doesn't
abbrev pub IsLost : Start → List (Tag × List ℕ) → CallerView → Tag → ℕ → Bool → List Entry →
    List Entry → CopyReply → Type 0
IsLost start contents caller tag at true before ended reply =
    IsCondemned start contents caller tag at before ended reply
IsLost start contents caller tag at false before ended reply =
    IsGivenUp start contents at before ended reply

-- what became of a page at the ladder's answer
abbrev pub IsEnded : Start → List (Tag × List ℕ) → CallerView → Tag → ℕ → Bool → List Entry →
    List Entry → CopyReply → Type 0
IsEnded start contents caller tag at condemns before ended reply =
    IsMoved start contents caller tag at before ended reply
    ⊎ IsLost start contents caller tag at condemns before ended reply

-- what becomes of a page where the ladder of its look has come to a state; the ladder stays there
abbrev pub EndsCopy : CallerView → CallerView → Standing → Standing → Tag → ℕ → Bool → LadderState →
    CopyReply → Type 0
EndsCopy old new stood stands tag at condemns state reply =
    (start : Start) (contents : List (Tag × List ℕ)) → IsOf old start contents →
    stood start contents →
    ladder_of (coding_of start.base) start contents old.seen at ≡ state →
    IsEnded start contents old tag at condemns old.seen new.seen reply
    × (ladder_of (coding_of start.base) start contents new.seen at ≡ state)
    × IsOf new start contents × stands start contents

-- a copy whose ladder had its answer
pub record HasCopied (start : Start) (contents : List (Tag × List ℕ)) (caller : CallerView)
    (tag : Tag) (at : ℕ) (condemns : Bool) (new : List Entry) (reply : CopyReply) : Type 0 where
  pub senses : HasSenses caller tag at caller.seen
  pub ended : List Entry
  pub ends : IsEnded start contents caller tag at condemns senses.after ended reply
  pub leaves : IsLeft caller tag at ended new

-- a copy in which a die failed in a sense
pub record HasCopyFailed (caller : CallerView) (tag : Tag) (at : ℕ) (new : List Entry)
    (reply : CopyReply) : Type 0 where
  pub senses : HasSenses caller tag at caller.seen
  pub die : ℕ
  pub fails : HasFailed caller tag at senses.after new die
  pub reply_is : reply ≡ DieFault die

-- a copy gave this reply, for one start and contents
abbrev pub CopiesFor : Start → List (Tag × List ℕ) → CallerView → Tag → ℕ → Bool → List Entry →
    CopyReply → Type 0
CopiesFor start contents caller tag at condemns new reply =
    HasCopied start contents caller tag at condemns new reply
    ⊎ HasCopyFailed caller tag at new reply

-- and so whatever the worker works for and the channel stood for
abbrev pub CopiesPage : WorkerState → CallerView → Standing → Tag → ℕ → Bool → List Entry →
    CopyReply → Type 0
CopiesPage worker old stood tag at condemns new reply =
    (start : Start) (contents : List (Tag × List ℕ)) → WorksFor worker start →
    IsOf old start contents → stood start contents →
    CopiesFor start contents old tag at condemns new reply

-- a caller has just looked at a row and found a page, upon this past
pub record HasJustLooked (caller : CallerView) (tag : Tag) (look : Look) (before : List Entry)
    : Type 0 where
  pub at_is : look.at ≡ length before
  pub seen_is :
      caller.seen ≡ after_look tag look.row look.slot look.serial look.closed before

-- the step of such a look
abbrev pub step_of_look : Tag → Look → List Entry → CallStep
step_of_look tag look before = record {
  past = before;
  entry =
      entry_of tag (Kind.Look look.row (Row.Page look.slot look.serial) look.closed);
}

-- whether a reply of a copy ends the round of a collection: no slot was found, or a die failed
abbrev pub is_round_end : CopyReply → Bool
is_round_end ReadOnly = true
is_round_end NoRoom = true
is_round_end (DieFault die) = true
is_round_end _ = false

abbrev pub is_die_fault : CopyReply → Bool
is_die_fault (DieFault die) = true
is_die_fault _ = false

-- the steps that a call made from a look's past to another are a copy of the look's page, which ends
-- its round where the reply says so
pub record IsCopyBy (start : Start) (contents : List (Tag × List ℕ)) (tag : Tag) (look : Look)
    (before after : List Entry) (reply : CopyReply) : Type 0 where
  pub steps : List CallStep
  pub are_steps : AreStepsFrom tag before steps after
  pub is_copy : IsCopy (ladder_of (coding_of start.base) start contents) steps
      (step_of_look tag look before)
  pub ends_is : ends_round steps ≡ is_round_end reply
  pub fault_is : has_fault steps ≡ is_die_fault reply

-- the reply of a refresh that copies a page, and none where the copy condemned it
abbrev pub refresh_of_copy : CopyReply → RefreshReply
refresh_of_copy Moved = RefreshReply.Moved
refresh_of_copy Changed = RefreshReply.Changed
refresh_of_copy Condemned = RefreshReply.Uncorrectable
refresh_of_copy Uncorrectable = RefreshReply.Uncorrectable
refresh_of_copy NoRoom = RefreshReply.NoRoom
refresh_of_copy ReadOnly = RefreshReply.ReadOnly
refresh_of_copy Failed = RefreshReply.Failed
refresh_of_copy (DieFault die) = RefreshReply.DieFault die

-- they are a refresh of the look's row, which has this reply
pub record IsRefreshBy (start : Start) (contents : List (Tag × List ℕ)) (tag : Tag) (look : Look)
    (before after : List Entry) (reply : CopyReply) : Type 0 where
  pub steps : List CallStep
  pub are_steps : AreStepsFrom tag before steps after
  pub is_refresh : IsRefresh (ladder_of (coding_of start.base) start contents) look.row steps
  pub reply_is :
      refresh_reply (ladder_of (coding_of start.base) start contents) steps
      ≡ Some (refresh_of_copy reply)

-- Laws, each the contract of a function without a body. Where a caller that is alone copies the page
-- of a look that it has just made, the steps from the look on are a copy, if it condemns pages that
-- can't be recovered, and else a refresh.
abbrev pub CopiesAloneAreCopies : Type 0
CopiesAloneAreCopies =
    (start : Start) (contents : List (Tag × List ℕ)) (caller : CallerView) (tag : Tag) (look : Look)
    (before new : List Entry) (reply : CopyReply) →
    caller.number ≡ None → HasJustLooked caller tag look before →
    CopiesFor start contents caller tag look.at true new reply →
    IsCopyBy start contents tag look before new reply

abbrev pub CopiesAloneAreRefreshes : Type 0
CopiesAloneAreRefreshes =
    (start : Start) (contents : List (Tag × List ℕ)) (caller : CallerView) (tag : Tag) (look : Look)
    (before new : List Entry) (reply : CopyReply) →
    caller.number ≡ None → HasJustLooked caller tag look before →
    CopiesFor start contents caller tag look.at false new reply →
    IsRefreshBy start contents tag look before new reply
