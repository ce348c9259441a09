-- What is kept of a channel beside its policy? Its tables, its dies, and the items of the table that a policy is told. The dies
-- are those of the tables' sizes, and what they hold is due by the tables.
use Rattle.std.specs.Prelude.{ℕ, ◌≡◌, ◌^◌, ◌≤◌, true, false, length, All, Option, option_map}
use Rattle.chan_dies.specs.DiesState.{DiesState}
use Rattle.chan_dies.specs.declared.ends.EraseEnd.{EraseEnd}
use Rattle.chan_dies.specs.declared.ends.EraseEnd.TheVariants as erase
use Rattle.chan_dies.specs.declared.ends.ProgramEnd.{ProgramEnd}
use Rattle.chan_dies.specs.declared.ends.ProgramEnd.TheVariants as program
use Rattle.chan_fits.specs.DiesFit.{AreDue}
use Rattle.chan_tables.specs.TablesState.{HasFewErases, TablesState}
use Rattle.ssd_histories.specs.Policies.{view_after_erase}
use Rattle.ssd_geo.specs.declared.kind.Kind.{Kind}
use Rattle.ssd_geo.specs.declared.policy_view.PolicyView.{PolicyView}
use Rattle.ssd_geo.specs.declared.slot.Slot.{Slot}
use Rattle.chan_state.specs.ChannelState.{ChannelState}
use Rattle.chan_state.specs.declared.answers.EraseAnswer.{EraseAnswer}
use Rattle.chan_state.specs.declared.answers.MoveAnswer.{MoveAnswer}
use Rattle.chan_state.specs.declared.answers.WriteAnswer.{WriteAnswer}

-- a channel from its tables and its dies
abbrev pub channel_of : TablesState → DiesState → ChannelState
channel_of tables dies = record {
  shape = tables.shape;
  session = tables.session;
  limit = tables.limit;
  rows = tables.rows;
  blocks = tables.blocks;
  looks = tables.looks;
  dies = dies.dies;
  sum = dies.sum;
  past = tables.past;
}

-- tables and dies fit each other, and so many items tell of each superblock
pub record AreFitting (tables : TablesState) (dies : DiesState) (items : ℕ) : Type 0 where
  pub same_shape : dies.shape ≡ tables.shape
  pub items_count : items ≡ tables.shape.superblocks
  pub blocks_count : length tables.blocks ≡ tables.shape.superblocks
  pub few_superblocks : tables.shape.superblocks ≤ 256
  pub limit_high : tables.limit ≤ 2 ^ 22
  pub few_erases : All (HasFewErases (length tables.past)) tables.blocks
  pub due : AreDue tables.shape tables.blocks dies.dies

-- the entry that a write adds, and a copy and an erase, as the operation of the dies ended, and what each answers
abbrev pub kind_of_write : ℕ → Slot → ProgramEnd → Kind
kind_of_write row slot program.Programmed = Kind.Write row slot
kind_of_write row slot (program.Failed die) = Kind.BadWrite row slot die false
kind_of_write row slot (program.Fault die) = Kind.BadWrite row slot die true

abbrev pub answer_of_write : Slot → ProgramEnd → WriteAnswer
answer_of_write slot program.Programmed = WriteAnswer.Written slot
answer_of_write slot (program.Failed die) = WriteAnswer.Failed slot.sb
answer_of_write slot (program.Fault die) = WriteAnswer.DieFault die

abbrev pub kind_of_copy : ℕ → Slot → ProgramEnd → Kind
kind_of_copy at slot program.Programmed = Kind.Move at slot
kind_of_copy at slot (program.Failed die) = Kind.BadCopy at slot die false
kind_of_copy at slot (program.Fault die) = Kind.BadCopy at slot die true

abbrev pub answer_of_copy : Slot → ProgramEnd → MoveAnswer
answer_of_copy slot program.Programmed = MoveAnswer.Moved slot
answer_of_copy slot (program.Failed die) = MoveAnswer.Failed slot.sb
answer_of_copy slot (program.Fault die) = MoveAnswer.DieFault die

abbrev pub kind_of_erase : ℕ → EraseEnd → Kind
kind_of_erase sb erase.Erased = Kind.Erase sb
kind_of_erase sb (erase.Failed die) = Kind.BadErase sb die false
kind_of_erase sb (erase.Fault die) = Kind.BadErase sb die true

abbrev pub answer_of_end : EraseEnd → EraseAnswer
answer_of_end erase.Erased = EraseAnswer.Erased
answer_of_end (erase.Failed die) = EraseAnswer.FailedErase die
answer_of_end (erase.Fault die) = EraseAnswer.DieFault die

-- the view that a policy tells after an erase of a superblock, as it ended
abbrev pub view_after_end : Option PolicyView → ℕ → EraseEnd → Option PolicyView
view_after_end told sb erase.Erased = option_map (λ view. view_after_erase view sb) told
view_after_end told sb _ = told
