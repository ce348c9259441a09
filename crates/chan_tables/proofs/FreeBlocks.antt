-- Where there is no next slot, no superblock is free, and a victim with a live page can't be emptied.
use Rattle.std.proofs.Common.{◌≡◌, ℕ, zero, suc, ◌<◌, ◌==◌, nat_lt, nat_le, not, ◌&&◌, ◌||◌, cond, Bool, true, false, List, [], ◌∷◌, length, get_or, refl, sym, ◌∙◌, ap, subst, Option, Some, None, arith}
use Rattle.std.specs.Prelude.{count_by, is_some, is_none, position, if◌then◌else◌}
use Rattle.std.specs.List.{list_all}
use Rattle.std.proofs.lemmas.Bool.Decides.{nat_tests}
use Rattle.std.proofs.lemmas.List.Sums.{fails_before_first, sum_by-cons}
use Rattle.ssd_histories.specs.Blocks.{blank_block, block_at, free_blocks_in, first_some, freshest_of, frontier_of, blocks_have_room, is_free_block, is_freshest, is_no_fresher, left_in, next_slot_of, next_superblock, slot_in, victim_in}
use Rattle.ssd_histories.specs.PageMap.{live_in, names_superblock, row_at}
use Rattle.ssd_geo.specs.declared.base.BlockBase.{BlockBase}
use Rattle.ssd_geo.specs.declared.look.Look.{Look}
use Rattle.ssd_geo.specs.declared.row.Row.{Row}
use Rattle.ssd_geo.specs.declared.slot.Slot.{Slot}
use Rattle.chan_tables.specs.Copying.{IsMoveRoom, KeepsPage, copy_slot_of, is_in_victim, is_worn_with, live_in_victim}
use Rattle.chan_tables.specs.declared.rooms.MoveRoom.{MoveRoom}
use Rattle.chan_tables.specs.declared.rooms.MoveRoom.TheVariants.{ReadOnly, NoRoom}
use Rattle.std.proofs.lemmas.Bool.{false_from_ne_true}
use Rattle.ssd_histories.proofs.FreeBlocks.{fresher, neither, none_counted, none_found, none_free, none_next}

-- an item that fails, where not all pass
abbrev FailsAt : (BlockBase → Bool) → List BlockBase → ℕ → Type 0
FailsAt p xs k = (k < length xs) × (p (get_or xs k blank_block) ≡ false)

fails_later : (p : BlockBase → Bool) (x : BlockBase) (xs : List BlockBase) → (k : ℕ) × FailsAt p xs k → (k : ℕ) × FailsAt p (x ∷ xs) k
fails_later p x xs found = (suc found.0, (omega (arith, found.1.0), found.1.1))

-- a row that names a slot of a superblock is a live page of it
pub live_row : (rows : List Row) (row sb : ℕ) → names_superblock sb (row_at rows row) ≡ true → 0 < live_in rows sb
live_row [] row sb e = absurd (grind (arith, e))
live_row (x ∷ rows) zero sb e =
    let one : ◌≡◌ {A = ℕ} (cond (names_superblock sb x) 1 0) 1 = ap {B = ℕ} (λ (b : Bool). cond b 1 0) e in
    omega (arith, one, sum_by-cons (λ (y : Row). cond (names_superblock sb y) 1 0) x rows)
live_row (x ∷ rows) (suc row) sb e =
    omega (arith, live_row rows row sb e, sum_by-cons (λ (y : Row). cond (names_superblock sb y) 1 0) x rows)

worn_by : (slots free live : ℕ) (blocks : List BlockBase) (frontier : Option ℕ) (victim : Option ℕ) (sb : ℕ) → free ≡ 0 → frontier ≡ None → victim ≡ Some sb → 0 < live
    → (free == 0 && (is_none victim || nat_lt (left_in slots blocks frontier) live)) ≡ true
worn_by slots free live blocks frontier victim sb none closed is some =
    rw (none, closed, is) (less live some)
  where
    less : (n : ℕ) → 0 < n → nat_lt 0 n ≡ true
    less n lt = grind (arith, nat_tests)

-- a look in the victim, whose page has no slot to go to, finds the channel worn
pub worn_in_victim : (slots : ℕ) (blocks : List BlockBase) (rows : List Row) (look : Look) → is_in_victim blocks look ≡ true → copy_slot_of blocks look ≡ None → KeepsPage rows look
    → is_worn_with slots blocks rows ≡ true
worn_in_victim slots blocks rows look inside none keeps = by_victim (victim_in blocks) refl inside
  where
    either : (a b : Bool) → b ≡ true → (a || b) ≡ true
    either true b e = refl
    either false b e = e

    no_slot : next_slot_of blocks ≡ None
    no_slot = sym (ap {B = Option Slot} (λ (b : Bool). if b then next_slot_of blocks else None) (either (blocks_have_room blocks) (is_in_victim blocks look) inside)) ∙ none

    both : (frontier_of blocks ≡ None) × (freshest_of blocks ≡ None)
    both = neither (frontier_of blocks) (freshest_of blocks) (none_next blocks (next_superblock blocks) no_slot)

    by_victim : (o : Option ℕ) → victim_in blocks ≡ o → (elim o as (λ _. Bool) [ Some victim ↦ victim == look.slot.sb | None ↦ false ]) ≡ true
        → is_worn_with slots blocks rows ≡ true
    by_victim None is here = absurd (grind (arith, here))
    by_victim (Some sb) is here =
        let names : names_superblock sb (row_at rows look.row) ≡ true = ap {B = Bool} (names_superblock sb) keeps ∙ turned sb look.slot.sb here in
        let live : live_in_victim blocks rows ≡ live_in rows sb = ap {B = ℕ} (λ (o : Option ℕ). elim o [ Some sb ↦ live_in rows sb | None ↦ 0 ]) is in
        worn_by slots (free_blocks_in blocks) (live_in_victim blocks rows) blocks (frontier_of blocks) (victim_in blocks) sb
        (none_free blocks both.1) both.0 is (omega (arith, live, live_row rows look.row sb names))
      where
        turned : (a b : ℕ) → (a == b) ≡ true → (b == a) ≡ true
        turned a b e = grind (arith, nat_tests)

-- so where there is no slot for a copy, the answer tells whether the channel is worn
pub no_room_answers : (slots : ℕ) (blocks : List BlockBase) (rows : List Row) (look : Look) (answer : MoveRoom) → KeepsPage rows look → copy_slot_of blocks look ≡ None
    → answer ≡ (if is_worn_with slots blocks rows then ReadOnly else NoRoom) → IsMoveRoom slots blocks rows look answer
no_room_answers slots blocks rows look answer keeps none is =
    subst (IsMoveRoom slots blocks rows look) (sym is) (by_worn (is_worn_with slots blocks rows) refl)
  where
    outside : (inside : Bool) → is_worn_with slots blocks rows ≡ false → (inside ≡ true → is_worn_with slots blocks rows ≡ true) → inside ≡ false
    outside true e h = absurd (apart (is_worn_with slots blocks rows) e (h refl))
      where
        apart : (b : Bool) → b ≡ false → b ≡ true → ⊥
        apart b e f = grind (arith, e, f)
    outside false e h = refl

    by_worn : (b : Bool) → is_worn_with slots blocks rows ≡ b → IsMoveRoom slots blocks rows look (if b then ReadOnly else NoRoom)
    by_worn true e = (keeps, none, e)
    by_worn false e = (keeps, none, e, outside (is_in_victim blocks look) e (λ inside. worn_in_victim slots blocks rows look inside none keeps))
