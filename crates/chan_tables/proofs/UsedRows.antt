-- Rows that name used slots still do after a change of a row, and after one more slot is used.
use Rattle.std.proofs.Common.{◌≡◌, ℕ, zero, suc, ◌+◌, ◌<◌, ◌≤◌, ◌==◌, ◌&&◌, true, List, [], ◌∷◌, length, set, Option, Some, None, refl, sym, ◌∙◌, ap, subst, arith, get_or-set_same}
use Rattle.std.specs.Prelude.{unwrap_or}
use Rattle.ssd_histories.specs.Blocks.{blank_block, block_at, next_slot_of, next_superblock, slot_after_used, slot_in, used_in, with_next_used, with_slot_used}
use Rattle.std.proofs.lemmas.Bool.Decides.{nat_tests}
use Rattle.ssd_histories.specs.PageMap.{NoOtherNames, names_slot, row_at}
use Rattle.ssd_geo.specs.declared.base.BlockBase.{BlockBase}
use Rattle.ssd_geo.specs.declared.row.Row.{Row}
use Rattle.ssd_geo.specs.declared.slot.Slot.{Slot}
use Rattle.ssd_histories.proofs.PinnedWords.{slot_block}
use Rattle.chan_tables.specs.TablesState.{NamesUsedIn}
use Rattle.ssd_histories.proofs.NextSlots.{next_index, next_used}

pub names_set : (blocks : List BlockBase) (rows : List Row) (row : ℕ) (to : Row) → NamesUsedIn blocks to
    → ((r : ℕ) → NamesUsedIn blocks (row_at rows r)) → (r : ℕ) → NamesUsedIn blocks (row_at (set rows row to) r)
names_set blocks [] row to named h r = h r
names_set blocks (x ∷ rows) zero to named h zero = named
names_set blocks (x ∷ rows) zero to named h (suc r) = h (suc r)
names_set blocks (x ∷ rows) (suc row) to named h zero = h zero
names_set blocks (x ∷ rows) (suc row) to named h (suc r) = names_set blocks rows row to named (λ n. h (suc n)) r

pub used_set : (blocks : List BlockBase) (k : ℕ) (to : BlockBase) → (block_at blocks k).used ≤ to.used → (sb : ℕ)
    → (block_at blocks sb).used ≤ (block_at (set blocks k to) sb).used
used_set [] k to le sb = omega arith
used_set (x ∷ blocks) zero to le zero = le
used_set (x ∷ blocks) zero to le (suc sb) = omega arith
used_set (x ∷ blocks) (suc k) to le zero = omega arith
used_set (x ∷ blocks) (suc k) to le (suc sb) = used_set blocks k to le sb

pub names_more : (before after : List BlockBase) → ((sb : ℕ) → (block_at before sb).used ≤ (block_at after sb).used)
    → (row : Row) → NamesUsedIn before row → NamesUsedIn after row
names_more before after le Row.Empty h = h
names_more before after le Row.Lost h = h
names_more before after le (Row.Page slot serial) h = omega (arith, le slot.sb)

-- rows after a write name used slots
pub names_written : (slots : ℕ) (blocks : List BlockBase) (rows : List Row) (row : ℕ) (slot : Slot) (serial : ℕ) → next_slot_of blocks ≡ Some slot → slot.sb < length blocks
    → ((r : ℕ) → NamesUsedIn blocks (row_at rows r))
    → (r : ℕ) → NamesUsedIn (with_next_used slots blocks) (row_at (set rows row (Row.Page slot serial)) r)
names_written slots blocks rows row slot serial next lt h =
    let after : List BlockBase = with_next_used slots blocks in
    let to : BlockBase = with_slot_used slots (block_at blocks slot.sb) in
    let more : (sb : ℕ) → (block_at blocks sb).used ≤ (block_at after sb).used =
    λ sb. subst (λ (list : List BlockBase). (block_at blocks sb).used ≤ (block_at list sb).used) (sym (next_used slots blocks slot next))
    (used_set blocks slot.sb to (omega arith) sb) in
    let here : block_at after slot.sb ≡ to =
    ap (λ (list : List BlockBase). block_at list slot.sb) (next_used slots blocks slot next) ∙ get_or-set_same blocks slot.sb to blank_block lt in
    let one_more : (block_at after slot.sb).used ≡ (block_at blocks slot.sb).used + 1 = ap (λ (block : BlockBase). block.used) here in
    names_set after rows row (Row.Page slot serial) (omega (arith, one_more, next_index blocks slot next))
    (λ r. names_more blocks after more (row_at rows r) (h r))

-- and no row names the next slot, which isn't used
same_slot : (p q r s : ℕ) → (p == q && r == s) ≡ true → (p ≡ q) × (r ≡ s)
same_slot p q r s e = (grind (arith, nat_tests), grind (arith, nat_tests))

pub none_names_next : (blocks : List BlockBase) (rows : List Row) (row : ℕ) (slot : Slot) (serial : ℕ) → next_slot_of blocks ≡ Some slot
    → ((r : ℕ) → NamesUsedIn blocks (row_at rows r)) → NoOtherNames rows row (Row.Page slot serial)
none_names_next blocks rows row slot serial next used other names = absurd (by_row (row_at rows other) names (used other))
  where
    by_row : (to : Row) → names_slot slot to ≡ true → NamesUsedIn blocks to → ⊥
    by_row Row.Empty e h = cc
    by_row Row.Lost e h = cc
    by_row (Row.Page named other_serial) e h =
        let same : (slot.sb ≡ named.sb) × (slot.index ≡ named.index) = same_slot slot.sb named.sb slot.index named.index e in
        let more : (block_at blocks slot.sb).used ≡ (block_at blocks named.sb).used = ap {B = ℕ} (λ (sb : ℕ). (block_at blocks sb).used) same.0 in
        omega (arith, h, more, same.1, next_index blocks slot next)
