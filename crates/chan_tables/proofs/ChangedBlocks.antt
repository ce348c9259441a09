-- Tables still fit each other after one superblock was retired, or was made the victim.
use Rattle.std.proofs.Common.{◌≡◌, ℕ, ◌<◌, ◌≤◌, ◌&&◌, Bool, true, false, List, length, set, Option, Some, None, refl, ◌∙◌, ap, arith, length-set}
use Rattle.std.specs.Prelude.{if◌then◌else◌}
use Rattle.std.proofs.lemmas.List.Quantifiers.{position-Some}
use Rattle.allocator.specs.Superblocks.{Superblocks}
use Rattle.map_rows.specs.PageMap.{PageMap}
use Rattle.ssd_histories.specs.Blocks.{blank_block, block_at, first_some, freshest_of, frontier_of, is_free_block, is_freshest, is_frontier_block, is_no_fresher, is_victim_block, next_slot_of, next_superblock, retired_block, with_retired}
use Rattle.std.specs.List.{list_all}
use Rattle.ssd_histories.specs.PageMap.{row_at}
use Rattle.ssd_histories.specs.States.{is_free, is_frontier, is_victim}
use Rattle.ssd_histories.proofs.PinnedWords.{slot_block}
use Rattle.ssd_geo.specs.declared.base.BlockBase.{BlockBase}
use Rattle.ssd_geo.specs.declared.look.Look.{Look}
use Rattle.ssd_geo.specs.declared.shape.Shape.{Shape}
use Rattle.ssd_geo.specs.declared.slot.Slot.{Slot}
use Rattle.ssd_geo.specs.declared.superblock.SbState.{SbState}
use Rattle.ssd_geo.specs.declared.superblock.SbState.TheVariants.{Free, Frontier, Sealed, Bad, Victim}
use Rattle.ssd_geo.specs.declared.tag.Tag.{Tag}
use Rattle.chan_tables.specs.TablesState.{FitTogether, HistoryState, NamesUsedIn}
use Rattle.chan_tables.proofs.Fits.{erases_kept}
use Rattle.chan_tables.proofs.UsedRows.{names_more, used_set}
use Rattle.ssd_histories.proofs.UsedSlots.{first_holds}

-- a superblock has another state, and the rows still name used slots
fit_block : (shape : Shape) (session : ℕ) (map : PageMap) (blocks : Superblocks) (looks : List (Tag × Look)) (history : HistoryState) (sb : ℕ) (to : BlockBase)
    → FitTogether shape session map blocks looks history → sb < length blocks.blocks → to.erases ≡ (block_at blocks.blocks sb).erases
    → ((row : ℕ) → NamesUsedIn (set blocks.blocks sb to) (row_at map.rows row))
    → FitTogether shape session map (record blocks { blocks = set blocks.blocks sb to }) looks history
fit_block shape session map blocks looks history sb to fit lt same named = record {
  few_sessions = fit.few_sessions;
  rows_count = fit.rows_count;
  map_superblocks = fit.map_superblocks;
  map_slots = fit.map_slots;
  blocks_count = length-set blocks.blocks sb to ∙ fit.blocks_count;
  blocks_slots = fit.blocks_slots;
  names_used = named;
  few_erases = erases_kept (length history.past) blocks.blocks sb to lt same fit.few_erases;
  looks_are = fit.looks_are;
  looks_rows = fit.looks_rows;
  limit_high = fit.limit_high;
  in_limit = fit.in_limit;
  in_room = fit.in_room;
}

-- the superblock of the next slot is one of the superblocks, and isn't the victim
record IsNext (blocks : List BlockBase) (sb : ℕ) : Type 0 where
  in_range : sb < length blocks
  not_victim : is_victim_block (block_at blocks sb) ≡ false

frontier_no_victim : (state : SbState) → is_frontier state ≡ true → is_victim state ≡ false
frontier_no_victim Free e = refl
frontier_no_victim Frontier e = refl
frontier_no_victim Sealed e = refl
frontier_no_victim Bad e = refl
frontier_no_victim Victim e = cc

free_no_victim : (state : SbState) → is_free state ≡ true → is_victim state ≡ false
free_no_victim Free e = refl
free_no_victim Frontier e = refl
free_no_victim Sealed e = refl
free_no_victim Bad e = refl
free_no_victim Victim e = cc

is_next : (blocks : List BlockBase) (slot : Slot) → next_slot_of blocks ≡ Some slot → IsNext blocks slot.sb
is_next blocks slot next = by_frontier (frontier_of blocks) refl (slot_block blocks (next_superblock blocks) slot next)
  where
    by_frontier : (o : Option ℕ) → frontier_of blocks ≡ o → first_some o (freshest_of blocks) ≡ Some slot.sb → IsNext blocks slot.sb
    by_frontier (Some sb) is e =
        let found = position-Some is_frontier_block blocks slot.sb blank_block (is ∙ e) in
        record { in_range = found.0; not_victim = frontier_no_victim (block_at blocks slot.sb).state found.1 }
    by_frontier None is e =
        let found = position-Some (is_freshest blocks) blocks slot.sb blank_block e in
        record {
          in_range = found.0;
          not_victim =
              free_no_victim (block_at blocks slot.sb).state
              (first_holds (is_free_block (block_at blocks slot.sb)) (list_all (is_no_fresher (block_at blocks slot.sb)) blocks) found.1);
        }

retired_used : (block : BlockBase) → is_victim_block block ≡ false → block.used ≤ (retired_block block).used
retired_used block e =
    let same : (retired_block block).used ≡ block.used = ap {B = ℕ} (λ (b : Bool). if b then 0 else block.used) e in
    omega (arith, same)

-- the superblock of the next slot is retired, and keeps its used slots
pub fit_retired : (shape : Shape) (session : ℕ) (map : PageMap) (blocks : Superblocks) (looks : List (Tag × Look)) (history : HistoryState) (slot : Slot)
    → FitTogether shape session map blocks looks history → next_slot_of blocks.blocks ≡ Some slot
    → FitTogether shape session map (record blocks { blocks = with_retired blocks.blocks slot.sb }) looks history
fit_retired shape session map blocks looks history slot fit next =
    let is : IsNext blocks.blocks slot.sb = is_next blocks.blocks slot next in
    let to : BlockBase = retired_block (block_at blocks.blocks slot.sb) in
    fit_block shape session map blocks looks history slot.sb to fit is.in_range refl
    (λ row.
    names_more blocks.blocks (set blocks.blocks slot.sb to)
    (used_set blocks.blocks slot.sb to (retired_used (block_at blocks.blocks slot.sb) is.not_victim)) (row_at map.rows row) (fit.names_used row))
