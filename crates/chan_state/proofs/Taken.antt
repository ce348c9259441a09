-- A step that was taken: the tables have one more entry, and the dies changed as that says. The entry is then added to the
-- channel, and tables and dies fit each other as before.
use Rattle.std.proofs.Common.{◌≡◌, ℕ, ◌+◌, ◌≤◌, ◌^◌, List, ◌∷◌, length, set, Option, Some, None, All, ◌∙◌, refl, subst, sym, length-set, inl, inr, arith}
use Rattle.std.proofs.lemmas.List.{get_or_past}
use Rattle.std.proofs.lemmas.List.Elements.{All-set, All-weaker}
use Rattle.std.proofs.lemmas.Bool.{cases_lt}
use Rattle.chan_dies.specs.DiesState.{DiesState}
use Rattle.chan_fits.specs.FitLaws.{DiesChange, TableAllows}
use Rattle.chan_fits.proofs.EntryFits.{due_after_entry}
use Rattle.chan_tables.specs.TablesState.{HasFewErases, TablesState, tables_after}
use Rattle.ssd_histories.specs.BlockLaws.{blocks_after}
use Rattle.ssd_histories.specs.Blocks.{blank_block, block_at, next_superblock, used_in}
use Rattle.ssd_histories.specs.SerialCalls.{entry_of}
use Rattle.ssd_geo.specs.Superblock.{slots_of}
use Rattle.ssd_geo.specs.declared.base.BlockBase.{BlockBase}
use Rattle.ssd_geo.specs.declared.kind.Kind.{Kind}
use Rattle.ssd_geo.specs.declared.tag.Tag.{Tag}
use Rattle.chan_state.specs.Kept.{AreFitting, channel_of}
use Rattle.chan_state.specs.Steps.{AddsEntry}

-- a step was taken that added an entry of this kind, and that programmed this word if it programmed one
pub record Taken (old : TablesState) (dies : DiesState) (new : TablesState) (after : DiesState) (tag : Tag) (kind : Kind) (word : List ℕ) : Type 0 where
  pub tables_are : new ≡ tables_after (record old { room = new.room }) tag kind
  pub shape_stays : after.shape ≡ dies.shape
  pub change : DiesChange old.shape kind word dies.dies after.dies dies.sum after.sum
  pub allows : TableAllows old.shape old.blocks kind

pub adds : (old : TablesState) (dies : DiesState) (new : TablesState) (after : DiesState) (tag : Tag) (kind : Kind) (word : List ℕ) → Taken old dies new after tag kind word
    → AddsEntry (channel_of old dies) (channel_of new after) tag kind
adds old dies new after tag kind word taken =
    subst (λ (t : TablesState). AddsEntry (channel_of old dies) (channel_of t after) tag kind) (sym taken.tables_are) (record {
      past_is = refl;
      same_drive = record { shape_stays = refl; session_stays = refl; limit_stays = refl };
      rows_are = refl;
      blocks_are = refl;
      looks_are = refl;
    })

-- ---- superblocks after an entry

-- how often a superblock was erased, wherever it is
pub few_at : (entries : ℕ) (blocks : List BlockBase) (sb : ℕ) → All (HasFewErases entries) blocks → (block_at blocks sb).erases ≤ 2 ^ 31 + entries
few_at entries blocks sb few = elim (cases_lt sb (length blocks)) [
  | inl lt ↦ few sb blank_block lt
  | inr le ↦ let e : block_at blocks sb ≡ blank_block = get_or_past blocks sb blank_block le in
      subst (λ (block : BlockBase). block.erases ≤ 2 ^ 31 + entries) (sym e) (omega arith)
]

more : (entries : ℕ) (blocks : List BlockBase) → All (HasFewErases entries) blocks → All (HasFewErases (entries + 1)) blocks
more entries blocks few = All-weaker (HasFewErases entries) (HasFewErases (entries + 1)) (λ block h. omega (arith, h)) blocks few

-- with one changed, which was erased at most once more
changed : (entries : ℕ) (blocks : List BlockBase) (sb : ℕ) (to : BlockBase) → to.erases ≤ (block_at blocks sb).erases + 1
    → All (HasFewErases entries) blocks → All (HasFewErases (entries + 1)) (set blocks sb to)
changed entries blocks sb to le few =
    All-set (HasFewErases (entries + 1)) blocks sb to (omega (arith, le, few_at entries blocks sb few)) (more entries blocks few)

-- what becomes of the number of superblocks and of their erases
record Lasts (entries : ℕ) (blocks after : List BlockBase) : Type 0 where
  pub count : length after ≡ length blocks
  pub few : All (HasFewErases (entries + 1)) after

same_blocks : (entries : ℕ) (blocks : List BlockBase) → All (HasFewErases entries) blocks → Lasts entries blocks blocks
same_blocks entries blocks few = record { count = refl; few = more entries blocks few }

one_block : (entries : ℕ) (blocks : List BlockBase) (sb : ℕ) (to : BlockBase) → to.erases ≤ (block_at blocks sb).erases + 1
    → All (HasFewErases entries) blocks → Lasts entries blocks (set blocks sb to)
one_block entries blocks sb to le few = record { count = length-set blocks sb to; few = changed entries blocks sb to le few }

next_used : (entries slots : ℕ) (blocks : List BlockBase) (next : Option ℕ) → All (HasFewErases entries) blocks → Lasts entries blocks (used_in slots blocks next)
next_used entries slots blocks None few = same_blocks entries blocks few
next_used entries slots blocks (Some sb) few = one_block entries blocks sb _ (omega arith) few

lasts : (entries slots : ℕ) (kind : Kind) (blocks : List BlockBase) → All (HasFewErases entries) blocks → Lasts entries blocks (blocks_after slots kind blocks)
lasts entries slots (Kind.Write row slot) blocks few = next_used entries slots blocks (next_superblock blocks) few
lasts entries slots (Kind.Move at slot) blocks few = next_used entries slots blocks (next_superblock blocks) few
lasts entries slots (Kind.BadWrite row slot die fault) blocks few = one_block entries blocks slot.sb _ (omega arith) few
lasts entries slots (Kind.BadCopy at slot die fault) blocks few = one_block entries blocks slot.sb _ (omega arith) few
lasts entries slots (Kind.BadErase sb die fault) blocks few = one_block entries blocks sb _ (omega arith) few
lasts entries slots (Kind.Pick sb) blocks few = one_block entries blocks sb _ (omega arith) few
lasts entries slots (Kind.Erase sb) blocks few = one_block entries blocks sb _ (omega arith) few
lasts entries slots (Kind.Look row found closed) blocks few = same_blocks entries blocks few
lasts entries slots (Kind.Sense at place level) blocks few = same_blocks entries blocks few
lasts entries slots (Kind.FaultSense at place level) blocks few = same_blocks entries blocks few
lasts entries slots (Kind.Leave at) blocks few = same_blocks entries blocks few
lasts entries slots (Kind.Trim row) blocks few = same_blocks entries blocks few
lasts entries slots (Kind.Changed at found) blocks few = same_blocks entries blocks few
lasts entries slots (Kind.Condemn at) blocks few = same_blocks entries blocks few
lasts entries slots (Kind.Stay at worn) blocks few = same_blocks entries blocks few
lasts entries slots (Kind.Age die sb amount) blocks few = same_blocks entries blocks few
lasts entries slots (Kind.FaultAge die sb amount) blocks few = same_blocks entries blocks few
lasts entries slots (Kind.Refused row worn) blocks few = same_blocks entries blocks few
lasts entries slots (Kind.Note free victim live pins garbage) blocks few = same_blocks entries blocks few

-- ---- tables and dies

pub fitting : (old : TablesState) (dies : DiesState) (new : TablesState) (after : DiesState) (tag : Tag) (kind : Kind) (word : List ℕ) (items : ℕ) → AreFitting old dies items
    → Taken old dies new after tag kind word → AreFitting new after items
fitting old dies new after tag kind word items fit taken =
    let slots : ℕ = slots_of old.shape.pages old.shape.dies in
    let last : Lasts (length old.past) old.blocks (blocks_after slots kind old.blocks) = lasts (length old.past) slots kind old.blocks fit.few_erases in
    subst (λ (t : TablesState). AreFitting t after items) (sym taken.tables_are) (record {
      same_shape = taken.shape_stays ∙ fit.same_shape;
      items_count = fit.items_count;
      blocks_count = last.count ∙ fit.blocks_count;
      few_superblocks = fit.few_superblocks;
      limit_high = fit.limit_high;
      few_erases = All-weaker (HasFewErases (length old.past + 1)) (HasFewErases (length (entry_of tag kind ∷ old.past))) (λ block h. omega (arith, h)) (blocks_after slots kind old.blocks) last.few;
      due =
          due_after_entry slots old.shape old.blocks kind word dies.dies after.dies dies.sum after.sum fit.blocks_count taken.allows taken.change fit.due;
    })

-- and where the tables only took memory
pub roomier : (old : TablesState) (dies : DiesState) (new : TablesState) (items : ℕ) → AreFitting old dies items → new ≡ record old { room = new.room } → AreFitting new dies items
roomier old dies new items fit e = subst (λ (t : TablesState). AreFitting t dies items) (sym e) (record {
  same_shape = fit.same_shape;
  items_count = fit.items_count;
  blocks_count = fit.blocks_count;
  few_superblocks = fit.few_superblocks;
  limit_high = fit.limit_high;
  few_erases = fit.few_erases;
  due = fit.due;
})

-- as many items tell of the superblocks
pub recounted : (tables : TablesState) (dies : DiesState) (before now : ℕ) → now ≡ before → AreFitting tables dies before → AreFitting tables dies now
recounted tables dies before now e fit = subst (AreFitting tables dies) (sym e) fit
