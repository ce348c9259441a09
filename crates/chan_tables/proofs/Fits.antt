-- Tables that fit each other still do after what a step changes of them.
use Rattle.std.proofs.Common.{◌≡◌, ℕ, ◌<◌, ◌≤◌, ◌^◌, List, length, set, Some, None, ◌∙◌, refl, ap, subst, sym, length-set, All, arith}
use Rattle.std.proofs.lemmas.List.Elements.{All-set, All-weaker}
use Rattle.map_rows.specs.PageMap.{PageMap}
use Rattle.allocator.specs.Superblocks.{Superblocks}
use Rattle.ssd_histories.specs.Blocks.{block_at, blank_block, next_slot_of, with_next_used, with_slot_used}
use Rattle.ssd_histories.specs.OpenLooks.{look_at}
use Rattle.ssd_geo.specs.declared.base.BlockBase.{BlockBase}
use Rattle.ssd_geo.specs.declared.look.Look.{Look}
use Rattle.ssd_geo.specs.declared.row.Row.{Row}
use Rattle.ssd_geo.specs.declared.shape.Shape.{Shape}
use Rattle.ssd_geo.specs.declared.slot.Slot.{Slot}
use Rattle.ssd_geo.specs.declared.tag.Tag.{Tag}
use Rattle.chan_tables.specs.TablesState.{FitTogether, HasFewErases, HistoryState, NamesUsedIn}
use Rattle.chan_tables.proofs.EarlierLooks.{none_began}
use Rattle.chan_tables.proofs.Longer.{HasLooks, IsLonger}
use Rattle.chan_tables.proofs.UsedRows.{names_set, names_written}
use Rattle.ssd_histories.proofs.NextSlots.{next_used}

-- another history
pub fit_history : (shape : Shape) (session : ℕ) (map : PageMap) (blocks : Superblocks) (before : List (Tag × Look)) (old : HistoryState) (looks : List (Tag × Look)) (history : HistoryState)
    → FitTogether shape session map blocks before old → IsLonger shape.rows old looks history → FitTogether shape session map blocks looks history
fit_history shape session map blocks before old looks history fit longer = record {
  few_sessions = fit.few_sessions;
  rows_count = fit.rows_count;
  map_superblocks = fit.map_superblocks;
  map_slots = fit.map_slots;
  blocks_count = fit.blocks_count;
  blocks_slots = fit.blocks_slots;
  names_used = fit.names_used;
  few_erases =
      All-weaker (HasFewErases (length old.past)) (HasFewErases (length history.past)) (λ block few. omega (arith, longer.longer, few)) blocks.blocks fit.few_erases;
  looks_are = longer.looks_are;
  looks_rows = longer.looks_rows;
  limit_high = subst (λ (n : ℕ). n ≤ 2 ^ 22) (sym longer.limit_stays) fit.limit_high;
  in_limit = longer.in_limit;
  in_room = longer.in_room;
}

-- a row that names no slot
pub fit_row : (shape : Shape) (session : ℕ) (map : PageMap) (blocks : Superblocks) (looks : List (Tag × Look)) (history : HistoryState) (row : ℕ) (to : Row)
    → FitTogether shape session map blocks looks history → NamesUsedIn blocks.blocks to
    → FitTogether shape session (record map { rows = set map.rows row to }) blocks looks history
fit_row shape session map blocks looks history row to fit named = record {
  few_sessions = fit.few_sessions;
  rows_count = length-set map.rows row to ∙ fit.rows_count;
  map_superblocks = fit.map_superblocks;
  map_slots = fit.map_slots;
  blocks_count = fit.blocks_count;
  blocks_slots = fit.blocks_slots;
  names_used = names_set blocks.blocks map.rows row to named fit.names_used;
  few_erases = fit.few_erases;
  looks_are = fit.looks_are;
  looks_rows = fit.looks_rows;
  limit_high = fit.limit_high;
  in_limit = fit.in_limit;
  in_room = fit.in_room;
}

-- superblocks of which one was changed, with the same number of erases, were erased as seldom
pub erases_kept : (entries : ℕ) (blocks : List BlockBase) (sb : ℕ) (to : BlockBase) → sb < length blocks → to.erases ≡ (block_at blocks sb).erases
    → All (HasFewErases entries) blocks → All (HasFewErases entries) (set blocks sb to)
erases_kept entries blocks sb to lt same few =
    All-set (HasFewErases entries) blocks sb to (omega (arith, same, few sb blank_block lt)) few

-- the next slot, used by a row
pub fit_slot : (shape : Shape) (session : ℕ) (map : PageMap) (blocks : Superblocks) (looks : List (Tag × Look)) (history : HistoryState) (row : ℕ) (slot : Slot) (serial : ℕ)
    → FitTogether shape session map blocks looks history → next_slot_of blocks.blocks ≡ Some slot → slot.sb < length blocks.blocks
    → FitTogether shape session (record map { rows = set map.rows row (Row.Page slot serial) }) (record blocks { blocks = with_next_used blocks.slots blocks.blocks }) looks history
fit_slot shape session map blocks looks history row slot serial fit next lt =
    let block : BlockBase = with_slot_used blocks.slots (block_at blocks.blocks slot.sb) in
    let after : with_next_used blocks.slots blocks.blocks ≡ set blocks.blocks slot.sb block = next_used blocks.slots blocks.blocks slot next in
    let count : length (with_next_used blocks.slots blocks.blocks) ≡ length blocks.blocks = ap length after ∙ length-set blocks.blocks slot.sb block in
    record {
      few_sessions = fit.few_sessions;
      rows_count = length-set map.rows row (Row.Page slot serial) ∙ fit.rows_count;
      map_superblocks = fit.map_superblocks;
      map_slots = fit.map_slots;
      blocks_count = count ∙ fit.blocks_count;
      blocks_slots = fit.blocks_slots;
      names_used = names_written blocks.slots blocks.blocks map.rows row slot serial next lt fit.names_used;
      few_erases =
          subst (λ (list : List BlockBase). All (HasFewErases (length history.past)) list) (sym after)
          (erases_kept (length history.past) blocks.blocks slot.sb block lt refl fit.few_erases);
      looks_are = fit.looks_are;
      looks_rows = fit.looks_rows;
      limit_high = fit.limit_high;
      in_limit = fit.in_limit;
      in_room = fit.in_room;
    }

-- the looks of tables are those of their history
pub looks_of_tables : (shape : Shape) (session : ℕ) (map : PageMap) (blocks : Superblocks) (looks : List (Tag × Look)) (history : HistoryState)
    → FitTogether shape session map blocks looks history → HasLooks shape.rows looks history
looks_of_tables shape session map blocks looks history fit = record {
  looks_are = fit.looks_are;
  looks_rows = fit.looks_rows;
  in_limit = fit.in_limit;
  in_room = fit.in_room;
}

-- so no look began at the history's end
pub none_at_end : (shape : Shape) (session : ℕ) (map : PageMap) (blocks : Superblocks) (looks : List (Tag × Look)) (history : HistoryState)
    → FitTogether shape session map blocks looks history → look_at looks (length history.past) ≡ None
none_at_end shape session map blocks looks history fit =
    subst (λ (list : List (Tag × Look)). look_at list (length history.past) ≡ None) (sym fit.looks_are) (none_began history.past)
