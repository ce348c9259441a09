-- What becomes of the page of a look when it is copied, and when its row is condemned? Each adds one
-- entry, for a look whose copy no entry ended before.
use Rattle.std.specs.Prelude.{ℕ, ◌≡◌, false, true, IsFalse, IsSome, List, ◌∷◌}
use Rattle.chan_state.specs.declared.answers.MoveAnswer.{MoveAnswer}
use Rattle.chan_state.specs.declared.answers.MoveAnswer.TheVariants as move
use Rattle.chan_tables.specs.TablesState.{ends_recovered, ends_uncorrectable}
use Rattle.chan_tables.specs.declared.answers.CondemnAnswer.{CondemnAnswer}
use Rattle.chan_tables.specs.declared.answers.CondemnAnswer.TheVariants as condemn
use Rattle.ssd_geo.specs.Coding.{coding_of}
use Rattle.ssd_geo.specs.Ladder.{LadderState, recovered, uncorrectable}
use Rattle.ssd_histories.specs.PastPages.{ladder_of}
use Rattle.ssd_histories.specs.SerialCalls.{entry_of}
use Rattle.ssd_histories.specs.Start.{Start}
use Rattle.ssd_geo.specs.declared.entry.Entry.{Entry}
use Rattle.ssd_geo.specs.declared.kind.Kind.{Kind}
use Rattle.ssd_geo.specs.declared.slot.Slot.{Slot}
use Rattle.ssd_geo.specs.declared.tag.Tag.{Tag}
use Rattle.chan_calls.specs.Caller.{CallerView, Comes, IsOf, LookStays, own_look}
use Rattle.chan_calls.specs.Stepping.{Standing}

-- the page of a look may be copied: the look is open, and no entry ended its copy
pub record MayMove (caller : CallerView) (tag : Tag) (at : ℕ) : Type 0 where
  pub is_open : IsSome (own_look tag caller.seen at)
  pub not_recovered : IsFalse (ends_recovered caller.seen at)
  pub not_uncorrectable : IsFalse (ends_uncorrectable caller.seen at)

-- its row may be condemned: the look is open, and no entry ended its copy as that of a page that
-- can't be recovered
pub record MayCondemn (caller : CallerView) (tag : Tag) (at : ℕ) : Type 0 where
  pub is_open : IsSome (own_look tag caller.seen at)
  pub not_uncorrectable : IsFalse (ends_uncorrectable caller.seen at)

-- a ladder recovered just this word
abbrev pub IsRecoveredAs : List ℕ → LadderState → Type 0
IsRecoveredAs word state = (rung : ℕ) × (state ≡ recovered rung word)

-- a move adds what became of the copy
abbrev pub MakesMove : Tag → ℕ → List Entry → MoveAnswer → List Entry → Type 0
MakesMove tag at now (move.Changed row) seen = seen ≡ entry_of tag (Kind.Changed at row) ∷ now
MakesMove tag at now move.ReadOnly seen = seen ≡ entry_of tag (Kind.Stay at true) ∷ now
MakesMove tag at now move.NoRoom seen = seen ≡ entry_of tag (Kind.Stay at false) ∷ now
MakesMove tag at now (move.Moved slot) seen = seen ≡ entry_of tag (Kind.Move at slot) ∷ now
MakesMove tag at now (move.Failed sb) seen =
    (slot : Slot) × (die : ℕ) × (slot.sb ≡ sb)
    × (seen ≡ entry_of tag (Kind.BadCopy at slot die false) ∷ now)
MakesMove tag at now (move.DieFault die) seen =
    (slot : Slot) × (seen ≡ entry_of tag (Kind.BadCopy at slot die true) ∷ now)

-- a condemnation adds that the row is lost, or what it holds now
abbrev pub MakesCondemn : Tag → ℕ → List Entry → CondemnAnswer → List Entry → Type 0
MakesCondemn tag at now (condemn.Changed row) seen = seen ≡ entry_of tag (Kind.Changed at row) ∷ now
MakesCondemn tag at now condemn.Condemned seen = seen ≡ entry_of tag (Kind.Condemn at) ∷ now

-- what a channel stood for it stands for after a step for a look whose ladder has come to this
abbrev pub GoesOnFrom : CallerView → CallerView → Standing → Standing → ℕ → List Entry →
    (LadderState → Type 0) → Type 0
GoesOnFrom old new stood stands at now has_come =
    (start : Start) (contents : List (Tag × List ℕ)) → IsOf old start contents →
    stood start contents →
    has_come (ladder_of (coding_of start.base) start contents old.seen at) →
    LookStays start contents old.seen now at × IsOf new start contents × stands start contents

-- the page of a look was to be copied, whose ladder recovered this word
pub record Moves (old new : CallerView) (stood stands : Standing) (tag : Tag) (at : ℕ)
    (word : List ℕ) (answer : MoveAnswer) : Type 0 where
  pub now : List Entry
  pub comes : Comes old tag now
  pub made : MakesMove tag at now answer new.seen
  pub goes_on : GoesOnFrom old new stood stands at now (IsRecoveredAs word)

-- the row of a look was to be condemned, whose ladder can't recover the page
pub record Condemns (old new : CallerView) (stood stands : Standing) (tag : Tag) (at : ℕ)
    (answer : CondemnAnswer) : Type 0 where
  pub now : List Entry
  pub comes : Comes old tag now
  pub made : MakesCondemn tag at now answer new.seen
  pub goes_on : GoesOnFrom old new stood stands at now (λ state. state ≡ uncorrectable)
