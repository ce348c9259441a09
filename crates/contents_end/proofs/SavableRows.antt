-- The rows of a page map have a spelling, where each names a used slot and no two name one slot.
use Rattle.std.proofs.Common.{◌≡◌, refl, ap, sym, subst, ◌∙◌, ℕ, zero, suc, ◌^◌, ◌<◌, ◌&&◌, ◌||◌, ◌==◌, nat_lt, not, Bool, true, false, List, [], ◌∷◌, ◌++◌, length, take, arith, append-nil, append_assoc}
use Rattle.std.specs.List.{list_any}
use Rattle.ssd_geo.specs.Limits.{Sizes}
use Rattle.ssd_geo.specs.declared.base.BlockBase.{BlockBase}
use Rattle.ssd_geo.specs.declared.row.Row.{Row}
use Rattle.ssd_geo.specs.declared.row.Row.TheVariants.{Empty, Lost, Page}
use Rattle.ssd_geo.specs.declared.slot.Slot.{Slot}
use Rattle.ssd_histories.specs.Blocks.{block_at}
use Rattle.ssd_histories.specs.PageMap.{NameApart, NameWithin, names_slot, names_within, row_at}
use Rattle.ssd_formats.specs.Fields.{is_below}
use Rattle.ssd_formats.specs.ImageContents.{are_saved_rows, is_saved_row, may_name}
use Rattle.ssd_formats.proofs.HeadLaws.{below_is}
use Rattle.contents_start.proofs.SavedRows.{is_used_in}
use Rattle.run_laws.specs.Serials.{HasSmallSerial}
use Rattle.contents_end.proofs.Tests.{below_if, both_true, equal_if}
use Rattle.std.proofs.lemmas.Bool.{and_parts}
use Rattle.ssd_geo.proofs.Sizes.{whole_from_tests}
use Rattle.contents_end.proofs.SavableBlocks.{not_false}

-- rows may stand, where each may stand behind those before it
rows_may_stand : (sizes : Sizes) (blocks : List BlockBase) (rows before : List Row)
    → ((row : ℕ) → row < length rows → is_saved_row sizes blocks (before ++ take row rows) (row_at rows row) ≡ true)
    → are_saved_rows sizes blocks before rows ≡ true
rows_may_stand sizes blocks [] before each = refl
rows_may_stand sizes blocks (of ∷ rows) before each =
    let first : is_saved_row sizes blocks before of ≡ true =
    ap (λ (earlier : List Row). is_saved_row sizes blocks earlier of) (sym (append-nil before)) ∙ each 0 (omega arith) in
    ap (λ (b : Bool). b && are_saved_rows sizes blocks (before ++ of ∷ []) rows) first
    ∙ rows_may_stand sizes blocks rows (before ++ of ∷ [])
    (λ row below.
    ap (λ (earlier : List Row). is_saved_row sizes blocks earlier (row_at rows row))
    (append_assoc before (of ∷ []) (take row rows))
    ∙ each (suc row) (omega (arith, below)))

-- none of the first rows names a slot, where none of their numbers does
none_before : (rows : List Row) (slot : Slot) (n : ℕ)
    → ((other : ℕ) → other < n → names_slot slot (row_at rows other) ≡ false) → list_any (names_slot slot) (take n rows) ≡ false
none_before [] slot zero none = refl
none_before [] slot (suc n) none = refl
none_before (of ∷ rows) slot zero none = refl
none_before (of ∷ rows) slot (suc n) none =
    ap (λ (b : Bool). b || list_any (names_slot slot) (take n rows)) (none 0 (omega arith))
    ∙ none_before rows slot n (λ other below. none (suc other) (omega (arith, below)))

-- no row before a row names its slot
not_before : (rows : List Row) (slot : Slot) (row other : ℕ) → NameApart rows → names_slot slot (row_at rows row) ≡ true
    → other < row → names_slot slot (row_at rows other) ≡ false
not_before rows slot row other apart named earlier = by_test (names_slot slot (row_at rows other)) refl
  where
    by_test : (b : Bool) → names_slot slot (row_at rows other) ≡ b → b ≡ false
    by_test true e = let same : other ≡ row = apart slot other row e named in absurd (omega (arith, earlier, same))
    by_test false e = refl

-- what is known of the rows of a page map
pub record AreNames (sizes : Sizes) (blocks : List BlockBase) (slots : ℕ) (rows : List Row) : Type 0 where
  pub within : NameWithin sizes.superblocks slots rows
  pub apart : NameApart rows
  pub used : (row : ℕ) → row < length rows → is_used_in blocks (row_at rows row) ≡ true
  pub serials : (row : ℕ) → HasSmallSerial (row_at rows row)
  pub slots_few : slots < 2 ^ 32

row_may_stand : (sizes : Sizes) (blocks : List BlockBase) (slots : ℕ) (rows : List Row) → AreNames sizes blocks slots rows
    → (row : ℕ) (of : Row) → row < length rows → row_at rows row ≡ of → is_saved_row sizes blocks (take row rows) of ≡ true
row_may_stand sizes blocks slots rows are row Empty below e = refl
row_may_stand sizes blocks slots rows are row Lost below e = refl
row_may_stand sizes blocks slots rows are row (Page slot serial) below e =
    let in_map : names_within sizes.superblocks slots (Page slot serial) ≡ true =
    ap (λ (of : Row). names_within sizes.superblocks slots of) (sym e) ∙ are.within row in
    let both = and_parts (nat_lt slot.sb sizes.superblocks) (nat_lt slot.index slots) in_map in
    let used : nat_lt slot.index (block_at blocks slot.sb).used ≡ true =
    ap (λ (of : Row). is_used_in blocks of) (sym e) ∙ are.used row below in
    let index : slot.index < slots = below_is slots slot.index both.1 in
    let few : slot.index < 2 ^ 32 = omega (arith, index, are.slots_few) in
    let serial_fits : serial < 2 ^ 64 = subst (λ (of : Row). HasSmallSerial of) e (are.serials row) in
    let itself : names_slot slot (Page slot serial) ≡ true =
    both_true (slot.sb == slot.sb) (slot.index == slot.index) (equal_if slot.sb slot.sb refl) (equal_if slot.index slot.index refl) in
    let named : names_slot slot (row_at rows row) ≡ true = ap (names_slot slot) e ∙ itself in
    let none : list_any (names_slot slot) (take row rows) ≡ false =
    none_before rows slot row (λ other earlier. not_before rows slot row other are.apart named earlier) in
    whole_from_tests (is_below sizes.superblocks slot.sb) (is_below (2 ^ 32) slot.index) (is_below (2 ^ 64) serial)
    (may_name blocks (take row rows) slot) both.0 (below_if (2 ^ 32) slot.index few) (below_if (2 ^ 64) serial serial_fits)
    (both_true (nat_lt slot.index (block_at blocks slot.sb).used) (not (list_any (names_slot slot) (take row rows))) used
    (not_false (list_any (names_slot slot) (take row rows)) none))

pub rows_are_saved : (sizes : Sizes) (blocks : List BlockBase) (slots : ℕ) (rows : List Row) → AreNames sizes blocks slots rows
    → are_saved_rows sizes blocks [] rows ≡ true
rows_are_saved sizes blocks slots rows are =
    rows_may_stand sizes blocks rows []
    (λ row below. row_may_stand sizes blocks slots rows are row (row_at rows row) below refl)
