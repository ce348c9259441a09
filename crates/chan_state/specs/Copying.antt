-- What becomes of the page of an open look: is it copied, does it stay for want of room, has its row changed meanwhile, or did
-- its copy fail? A copy goes to the next slot. A look in the victim takes it wherever there is one; any other needs room for
-- a host's page.
use Rattle.std.specs.Prelude.{ℕ, ◌≡◌, ◌≢◌, true, false, IsTrue, IsFalse, IsSomeAnd, List, Option, Some, None}
use Rattle.chan_tables.specs.Copying.{KeepsPage, copy_slot_of, is_in_victim}
use Rattle.chan_tables.specs.TablesState.{ends_recovered, ends_uncorrectable}
use Rattle.ssd_geo.specs.Coding.{coding_of}
use Rattle.ssd_geo.specs.Ladder.{recovered}
use Rattle.ssd_histories.specs.Lawful.{page_looked_at}
use Rattle.ssd_histories.specs.PageMap.{row_at}
use Rattle.ssd_histories.specs.PastPages.{ladder_of}
use Rattle.ssd_histories.specs.Start.{Start}
use Rattle.ssd_geo.specs.declared.kind.Kind.{Kind}
use Rattle.ssd_geo.specs.declared.look.Look.{Look}
use Rattle.ssd_geo.specs.declared.policy_view.PolicyView.{PolicyView}
use Rattle.ssd_geo.specs.declared.tag.Tag.{Tag}
use Rattle.chan_state.specs.ChannelState.{ChannelState, StandsFor}
use Rattle.chan_state.specs.Steps.{AddsEntry, IsOpen}
use Rattle.chan_state.specs.Writing.{FailsIn, StopsAt, is_worn_now, uses_die}
use Rattle.chan_state.specs.declared.answers.MoveAnswer.{MoveAnswer}
use Rattle.chan_state.specs.declared.answers.MoveAnswer.TheVariants.{Changed, ReadOnly, NoRoom, Moved, Failed, DieFault}

-- when each answer to a move comes: just one of the cases holds, but that a copy may also fail
abbrev pub IsMoveAnswer : ChannelState → Look → MoveAnswer → Type 0
IsMoveAnswer old look (Changed row) = (row ≡ row_at old.rows look.row) × (row ≢ page_looked_at look)
IsMoveAnswer old look ReadOnly = KeepsPage old.rows look × (copy_slot_of old.blocks look ≡ None) × IsTrue (is_worn_now old)
IsMoveAnswer old look NoRoom =
    KeepsPage old.rows look × (copy_slot_of old.blocks look ≡ None) × IsFalse (is_worn_now old)
    × IsFalse (is_in_victim old.blocks look)
IsMoveAnswer old look (Moved slot) = KeepsPage old.rows look × (copy_slot_of old.blocks look ≡ Some slot)
IsMoveAnswer old look (Failed sb) =
    KeepsPage old.rows look × IsSomeAnd (copy_slot_of old.blocks look) (λ slot. slot.sb ≡ sb)
IsMoveAnswer old look (DieFault die) =
    KeepsPage old.rows look × IsSomeAnd (copy_slot_of old.blocks look) (λ slot. IsTrue (uses_die old.shape slot die))

-- what a move adds
abbrev pub Moves : ChannelState → ChannelState → Tag → ℕ → MoveAnswer → Type 0
Moves old new tag at (Changed row) = AddsEntry old new tag (Kind.Changed at row)
Moves old new tag at ReadOnly = AddsEntry old new tag (Kind.Stay at true)
Moves old new tag at NoRoom = AddsEntry old new tag (Kind.Stay at false)
Moves old new tag at (Moved slot) = AddsEntry old new tag (Kind.Move at slot)
Moves old new tag at (Failed sb) = FailsIn old new tag sb (Kind.BadCopy at)
Moves old new tag at (DieFault die) = StopsAt old new tag die (Kind.BadCopy at)

-- the die that a move names as failed, if it names one
abbrev pub fault_of_move : MoveAnswer → Option ℕ
fault_of_move (Changed row) = None
fault_of_move ReadOnly = None
fault_of_move NoRoom = None
fault_of_move (Moved slot) = None
fault_of_move (Failed sb) = None
fault_of_move (DieFault die) = Some die

-- a move may be made for a look: it is open, and no entry ended its copy
pub record MayMove (channel : ChannelState) (tag : Tag) (at : ℕ) : Type 0 where
  pub is_open : IsOpen channel tag at
  pub not_recovered : IsFalse (ends_recovered channel.past at)
  pub not_uncorrectable : IsFalse (ends_uncorrectable channel.past at)

-- where the ladder of the look recovered just this word, the channel goes on standing
abbrev pub MovesFor : ChannelState → ChannelState → ℕ → List ℕ → Type 0
MovesFor old new at word =
    (view : Option PolicyView) (start : Start) (contents : List (Tag × List ℕ)) → StandsFor old view start contents →
    (rung : ℕ) → ladder_of (coding_of start.base) start contents old.past at ≡ recovered rung word →
    StandsFor new view start contents
