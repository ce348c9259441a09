-- What do the tables of a channel hold, and what does an entry make of them? They are all that a channel keeps but its
-- cells. What an entry does to them follows from its kind alone, for every kind.
use Rattle.std.specs.Prelude.{ℕ, ◌≡◌, ◌+◌, ◌-◌, ◌*◌, ◌^◌, ◌≤◌, ◌<◌, Bool, false, List, ◌∷◌, length, count_by, sum_by, if◌then◌else◌, Result, Ok, Err, All, ⊤}
use Rattle.std.specs.List.{list_any}
use Rattle.allocator.specs.Superblocks.{Superblocks}
use Rattle.map_rows.specs.PageMap.{PageMap}
use Rattle.ssd_histories.specs.BlockLaws.{blocks_after}
use Rattle.ssd_histories.specs.Blocks.{AreSound, block_at}
use Rattle.ssd_histories.specs.CallSteps.{is_sense_of}
use Rattle.ssd_histories.specs.Copies.{is_after_recovered, is_after_uncorrectable}
use Rattle.ssd_histories.specs.History.{looks_after, open_looks}
use Rattle.ssd_histories.specs.HistoryLaws.{rows_after}
use Rattle.ssd_histories.specs.Lawful.{has_fault_sense}
use Rattle.ssd_histories.specs.PageMap.{NameApart, NameWithin, row_at}
use Rattle.ssd_histories.specs.PastRows.{row_change}
use Rattle.ssd_histories.specs.Policies.{table_in}
use Rattle.ssd_histories.specs.SerialCalls.{entry_of}
use Rattle.ssd_geo.specs.Stripe.{is_closed, stripe_of_index}
use Rattle.ssd_geo.specs.Superblock.{slots_of}
use Rattle.ssd_geo.specs.declared.base.BlockBase.{BlockBase}
use Rattle.ssd_geo.specs.declared.entry.Entry.{Entry}
use Rattle.ssd_geo.specs.declared.kind.Kind.{Kind}
use Rattle.ssd_geo.specs.declared.look.Look.{Look}
use Rattle.ssd_geo.specs.declared.row.Row.{Row}
use Rattle.ssd_geo.specs.declared.shape.Shape.{Shape}
use Rattle.ssd_geo.specs.declared.stop.StepStop.{StepStop}
use Rattle.ssd_geo.specs.declared.superblock.SbInfo.{SbInfo}
use Rattle.ssd_geo.specs.declared.tag.Tag.{Tag}
use Rattle.chan_tables.specs.declared.answers.LookAnswer.{LookAnswer}
use Rattle.chan_tables.specs.declared.answers.LookAnswer.TheVariants.{Empty, Lost, Found}

-- a history: its entries, newest first, their limit, and for how many entries memory was taken
pub record HistoryState : Type 0 where
  pub past : List Entry
  pub limit : ℕ
  pub room : ℕ

-- the tables of a channel, with the limit of its history and for how many entries memory was taken
pub record TablesState : Type 0 where
  pub shape : Shape
  pub session : ℕ
  pub limit : ℕ
  pub rows : List Row
  pub blocks : List BlockBase
  pub looks : List (Tag × Look)
  pub past : List Entry
  pub room : ℕ

-- the tables after one more entry
abbrev pub tables_after : TablesState → Tag → Kind → TablesState
tables_after tables tag kind = record {
  shape = tables.shape;
  session = tables.session;
  limit = tables.limit;
  rows = rows_after (row_change tables.session tables.past tag kind) tables.rows;
  blocks = blocks_after (slots_of tables.shape.pages tables.shape.dies) kind tables.blocks;
  looks = looks_after (length tables.past) tag kind tables.looks;
  past = entry_of tag kind ∷ tables.past;
  room = tables.room;
}

-- what a policy is told of each superblock
abbrev pub table_of : TablesState → List SbInfo
table_of tables = table_in (slots_of tables.shape.pages tables.shape.dies) tables.blocks tables.rows tables.looks

-- a step is refused for want of room, with the history's length, exactly where there is none; refused for want of
-- memory it may be anywhere else
abbrev pub IsStopped : {A : Type 0} → Type 0 → ℕ → Result A StepStop → Type 0
IsStopped has_room full (Ok answer) = has_room
IsStopped has_room full (Err (StepStop.HistoryFull told)) = (¬ has_room) × (told ≡ full)
IsStopped has_room full (Err StepStop.Memory) = has_room

-- for how many entries the limit is to leave room, so that a look may be made, and a step outside a look: each open look
-- has 256
abbrev pub room_of_look : List (Tag × Look) → ℕ
room_of_look looks = 256 * (length looks + 1)

abbrev pub room_of_step : List (Tag × Look) → ℕ
room_of_step looks = 256 * length looks + 1

-- whether what a row names is a page of a closed stripe
abbrev pub is_closed_row : Shape → List BlockBase → Row → Bool
is_closed_row shape blocks (Row.Page slot serial) =
    is_closed shape.dies (block_at blocks slot.sb).used (stripe_of_index shape.dies slot.index)
is_closed_row shape blocks _ = false

-- the entry that a look of a row adds
abbrev pub kind_of_look : TablesState → ℕ → Kind
kind_of_look tables row =
    Kind.Look row (row_at tables.rows row) (is_closed_row tables.shape tables.blocks (row_at tables.rows row))

-- what a look answers, by what the row holds
abbrev pub answer_of_look : ℕ → ℕ → Bool → Row → LookAnswer
answer_of_look at row closed (Row.Page slot serial) =
    Found (record { at = at; row = row; slot = slot; serial = serial; closed = closed })
answer_of_look at row closed Row.Empty = Empty
answer_of_look at row closed Row.Lost = Lost

-- a look of a row answers what the row holds, and adds its entry; it may take memory
pub record LooksIn (old new : TablesState) (tag : Tag) (row : ℕ) (answer : LookAnswer) : Type 0 where
  pub answer_is :
      answer ≡ answer_of_look (length old.past) row (is_closed_row old.shape old.blocks (row_at old.rows row)) (row_at old.rows row)
  pub new_is : new ≡ tables_after (record old { room = new.room }) tag (kind_of_look old row)

-- how many senses a look that began at a position has had
abbrev pub senses_had : List Entry → ℕ → ℕ
senses_had past at = count_by (λ entry. is_sense_of at entry.kind) past

-- whether an entry ended the copy of a look's page as one that was recovered, and as one that can't be
abbrev pub ends_recovered : List Entry → ℕ → Bool
ends_recovered past at = list_any (λ entry. is_after_recovered at entry.kind) past

abbrev pub ends_uncorrectable : List Entry → ℕ → Bool
ends_uncorrectable past at = list_any (λ entry. is_after_uncorrectable at entry.kind) past

-- how many entries an open look still has set aside: at first 255. They are for its senses, for a sense that fails, for an
-- entry of each kind that ends a copy, and for its leave, with some to spare.
abbrev pub set_aside : List Entry → Tag × Look → ℕ
set_aside past pin =
    84 + (168 - senses_had past pin.1.at) + (if ends_recovered past pin.1.at then 0 else 1)
    + (if ends_uncorrectable past pin.1.at then 0 else 1) + (if has_fault_sense past pin.1.at then 0 else 1)

-- the entries of a history, with those that its open looks have set aside
abbrev pub needed_for : List Entry → List (Tag × Look) → ℕ
needed_for past looks = length past + sum_by (set_aside past) looks

-- beside what is set aside, the limit and the memory taken have room for one more entry
pub record HasSpare (tables : TablesState) : Type 0 where
  pub in_limit : needed_for tables.past tables.looks + 1 ≤ tables.limit
  pub in_room : needed_for tables.past tables.looks + 1 ≤ tables.room

-- an entry opens no look and leaves none
abbrev pub KeepsLooks : Tag → Kind → Type 0
KeepsLooks tag kind = (at : ℕ) (looks : List (Tag × Look)) → looks_after at tag kind looks ≡ looks

-- an entry uses one of those that the look that began at a position has set aside
abbrev pub UsesOne : List Entry → Entry → ℕ → Type 0
UsesOne past entry at = (pin : Tag × Look) → pin.1.at ≡ at → set_aside (entry ∷ past) pin + 1 ≤ set_aside past pin

-- a row, if it names a slot, names one that is used
abbrev pub NamesUsedIn : List BlockBase → Row → Type 0
NamesUsedIn blocks (Row.Page slot serial) = slot.index < (block_at blocks slot.sb).used
NamesUsedIn blocks Row.Empty = ⊤
NamesUsedIn blocks Row.Lost = ⊤

-- rows may be those of a page map: each names a slot of it, and no two name one slot
pub record AreRowsOf (superblocks slots : ℕ) (rows : List Row) : Type 0 where
  pub within : NameWithin superblocks slots rows
  pub apart : NameApart rows

-- superblocks and rows fit each other and the sizes
pub record AreWhole (shape : Shape) (blocks : List BlockBase) (rows : List Row) : Type 0 where
  pub blocks_count : length blocks ≡ shape.superblocks
  pub blocks_sound : AreSound (slots_of shape.pages shape.dies) blocks
  pub rows_count : length rows ≡ shape.rows
  pub rows_are : AreRowsOf shape.superblocks (slots_of shape.pages shape.dies) rows
  pub rows_used : (row : ℕ) → NamesUsedIn blocks (row_at rows row)

-- a look is of one of so many rows
abbrev pub IsOfRow : ℕ → Tag × Look → Type 0
IsOfRow rows pin = pin.1.row < rows

-- a superblock was erased at most once for each of so many entries, beside its erases before them
abbrev pub HasFewErases : ℕ → BlockBase → Type 0
HasFewErases entries block = block.erases ≤ 2 ^ 31 + entries

-- the tables fit each other and the sizes, and the history has room for what is set aside
pub record FitTogether (shape : Shape) (session : ℕ) (map : PageMap) (superblocks : Superblocks) (looks : List (Tag × Look)) (history : HistoryState) : Type 0 where
  pub few_sessions : session < 2 ^ 24
  pub rows_count : length map.rows ≡ shape.rows
  pub map_superblocks : map.superblocks ≡ shape.superblocks
  pub map_slots : map.slots ≡ slots_of shape.pages shape.dies
  pub blocks_count : length superblocks.blocks ≡ shape.superblocks
  pub blocks_slots : superblocks.slots ≡ slots_of shape.pages shape.dies
  pub names_used : (row : ℕ) → NamesUsedIn superblocks.blocks (row_at map.rows row)
  pub few_erases : All (HasFewErases (length history.past)) superblocks.blocks
  pub looks_are : looks ≡ open_looks history.past
  pub looks_rows : All (IsOfRow shape.rows) looks
  pub limit_high : history.limit ≤ 2 ^ 22
  pub in_limit : needed_for history.past looks ≤ history.limit
  pub in_room : needed_for history.past looks ≤ history.room
