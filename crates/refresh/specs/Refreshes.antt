-- What does a refresh come to? It looks at a row, and copies the page that the row names; a page that can't be recovered
-- stays as it is. Between its look and the steps of its copy other callers may make theirs: so each step tells of the past
-- that it found. All is said for one start and contents.
use Rattle.std.specs.Prelude.{ℕ, ◌≡◌, false, List, Result, Ok, Err}
use Rattle.chan_calls.specs.Caller.{CallerView, HasLookRoom, IsOf, SameCaller}
use Rattle.chan_calls.specs.Copied.{CopiesFor, refresh_of_copy}
use Rattle.chan_calls.specs.Stepping.{IsStepped, MakesLook, Standing}
use Rattle.chan_calls.specs.Workers.{WorkerState, WorksFor}
use Rattle.chan_calls.specs.declared.copy_reply.CopyReply.{CopyReply}
use Rattle.chan_tables.specs.declared.answers.LookAnswer.{LookAnswer}
use Rattle.chan_tables.specs.declared.answers.LookAnswer.TheVariants.{Empty, Found, Lost}
use Rattle.ssd_geo.specs.declared.entry.Entry.{Entry}
use Rattle.ssd_geo.specs.declared.reply.RefreshReply.{RefreshReply}
use Rattle.ssd_geo.specs.declared.stop.StepStop.{StepStop}
use Rattle.ssd_geo.specs.declared.tag.Tag.{Tag}
use Rattle.ssd_histories.specs.Start.{Start}

-- a row was to be looked at: what the caller knows before and after
abbrev pub LooksAt : Tag → ℕ → CallerView → CallerView → Result LookAnswer StepStop → Type 0
LooksAt tag row caller looked result = IsStepped HasLookRoom (MakesLook caller.shape tag row) tag caller looked result

-- the page of a look was copied, without condemning it, and its copy's reply is that of the refresh
pub record CopiesFound (start : Start) (contents : List (Tag × List ℕ)) (looked : CallerView) (tag : Tag) (at : ℕ)
    (after : List Entry) (reply : RefreshReply) : Type 0 where
  pub copied : CopyReply
  pub copies : CopiesFor start contents looked tag at false after copied
  pub reply_is : reply ≡ refresh_of_copy copied

-- what follows the answer to the look: the page that it found is copied
abbrev pub FollowsLook : Start → List (Tag × List ℕ) → CallerView → Tag → LookAnswer → List Entry → RefreshReply → Type 0
FollowsLook start contents looked tag Empty after reply = (after ≡ looked.seen) × (reply ≡ RefreshReply.Empty)
FollowsLook start contents looked tag Lost after reply = (after ≡ looked.seen) × (reply ≡ RefreshReply.Uncorrectable)
FollowsLook start contents looked tag (Found look) after reply = CopiesFound start contents looked tag look.at after reply

-- a look was answered, and what follows was done
pub record HasRefreshed (start : Start) (contents : List (Tag × List ℕ)) (caller : CallerView) (tag : Tag) (row : ℕ)
    (after : List Entry) (reply : RefreshReply) : Type 0 where
  pub answer : LookAnswer
  pub looked : CallerView
  pub same : SameCaller caller looked
  pub looks : LooksAt tag row caller looked (Ok answer)
  pub follows : FollowsLook start contents looked tag answer after reply

-- a refresh: it stops at its look where that is refused
abbrev pub MakesRefreshFor : Start → List (Tag × List ℕ) → CallerView → Tag → ℕ → List Entry →
    Result RefreshReply StepStop → Type 0
MakesRefreshFor start contents caller tag row after (Ok reply) = HasRefreshed start contents caller tag row after reply
MakesRefreshFor start contents caller tag row after (Err stop) =
    LooksAt tag row caller (record caller { seen = after }) (Err stop)

-- and so whatever the worker works for and the channel stood for
abbrev pub MakesRefresh : WorkerState → CallerView → Standing → Tag → ℕ → List Entry → Result RefreshReply StepStop → Type 0
MakesRefresh worker old stood tag row new result =
    (start : Start) (contents : List (Tag × List ℕ)) → WorksFor worker start → IsOf old start contents →
    stood start contents → MakesRefreshFor start contents old tag row new result
