-- What is known of the rows of contents that have a spelling: those that name slots name used ones, and no two name one slot.
use Rattle.std.proofs.Common.{◌≡◌, refl, ap, sym, ◌∙◌, ℕ, zero, suc, ◌^◌, ◌<◌, ◌≤◌, ◌&&◌, ◌||◌, nat_lt, not, Bool, true, false, List, [], ◌∷◌, ◌++◌, take, inl, inr, arith, append-nil, append_assoc}
use Rattle.std.specs.List.{list_any}
use Rattle.std.proofs.lemmas.Bool.{cases_lt, lt-ltb, and_parts, ltb-true, not-true, eqb-true}
use Rattle.std.proofs.lemmas.Bool.Decides.{nat_tests}
use Rattle.ssd_geo.specs.Limits.{Sizes}
use Rattle.ssd_geo.specs.declared.base.BlockBase.{BlockBase}
use Rattle.ssd_geo.specs.declared.row.Row.{Row}
use Rattle.ssd_geo.specs.declared.row.Row.TheVariants.{Empty, Lost, Page}
use Rattle.ssd_geo.specs.declared.slot.Slot.{Slot}
use Rattle.ssd_histories.specs.Blocks.{block_at}
use Rattle.ssd_histories.specs.PageMap.{NameApart, NameWithin, is_slot, names_slot, names_within, row_at}
use Rattle.ssd_formats.specs.Fields.{is_below}
use Rattle.ssd_formats.specs.ImageContents.{are_saved_rows, is_saved_row, may_name}
use Rattle.ssd_formats.proofs.SpelledHeads.{never}
use Rattle.ssd_histories.proofs.SameSlots.{slots_agree}

-- each row may stand behind those before it
pub saved_row_at : (sizes : Sizes) (blocks : List BlockBase) (rows before : List Row)
    → are_saved_rows sizes blocks before rows ≡ true → (row : ℕ)
    → is_saved_row sizes blocks (before ++ take row rows) (row_at rows row) ≡ true
saved_row_at sizes blocks [] before e row = refl
saved_row_at sizes blocks (of ∷ rows) before e zero =
    let both = and_parts (is_saved_row sizes blocks before of) (are_saved_rows sizes blocks (before ++ of ∷ []) rows) e in
    ap (λ (earlier : List Row). is_saved_row sizes blocks earlier of) (append-nil before) ∙ both.0
saved_row_at sizes blocks (of ∷ rows) before e (suc row) =
    let both = and_parts (is_saved_row sizes blocks before of) (are_saved_rows sizes blocks (before ++ of ∷ []) rows) e in
    ap (λ (earlier : List Row). is_saved_row sizes blocks earlier (row_at rows row))
    (sym (append_assoc before (of ∷ []) (take row rows)))
    ∙ saved_row_at sizes blocks rows (before ++ of ∷ []) both.1 row

-- what is known of a row that names a slot
pub record NamesUsed (sizes : Sizes) (blocks : List BlockBase) (before : List Row) (slot : Slot) : Type 0 where
  pub within : slot.sb < sizes.superblocks
  pub used : slot.index < (block_at blocks slot.sb).used
  pub new : list_any (names_slot slot) before ≡ false

pub names_used_slot : (sizes : Sizes) (blocks : List BlockBase) (before : List Row) (slot : Slot) (serial : ℕ)
    → is_saved_row sizes blocks before (Page slot serial) ≡ true → NamesUsed sizes blocks before slot
names_used_slot sizes blocks before slot serial e =
    let t1 : Bool = is_below sizes.superblocks slot.sb in
    let t2 : Bool = is_below (2 ^ 32) slot.index in
    let t3 : Bool = is_below (2 ^ 64) serial in
    let used : Bool = nat_lt slot.index (block_at blocks slot.sb).used in
    let named : Bool = list_any (names_slot slot) before in
    let e4 = and_parts (t1 && t2 && t3) (may_name blocks before slot) e in
    let e3 = and_parts (t1 && t2) t3 e4.0 in
    let e2 = and_parts t1 t2 e3.0 in
    let may = and_parts used (not named) e4.1 in
    record {
      within = ltb-true slot.sb sizes.superblocks e2.0;
      used = ltb-true slot.index (block_at blocks slot.sb).used may.0;
      new = not-true named may.1;
    }

-- so the rows name slots of the channel
within_if_used : (sizes : Sizes) (blocks : List BlockBase) (slots : ℕ) → ((sb : ℕ) → (block_at blocks sb).used ≤ slots)
    → (before : List Row) (of : Row) → is_saved_row sizes blocks before of ≡ true
    → names_within sizes.superblocks slots of ≡ true
within_if_used sizes blocks slots fits before Empty e = refl
within_if_used sizes blocks slots fits before Lost e = refl
within_if_used sizes blocks slots fits before (Page slot serial) e =
    let known = names_used_slot sizes blocks before slot serial e in
    let low : slot.index < slots = omega (arith, known.used, fits slot.sb) in
    ap (λ (b : Bool). b && nat_lt slot.index slots) (lt-ltb slot.sb sizes.superblocks known.within)
    ∙ lt-ltb slot.index slots low

pub rows_name_within : (sizes : Sizes) (blocks : List BlockBase) (rows : List Row) (slots : ℕ)
    → ((sb : ℕ) → (block_at blocks sb).used ≤ slots) → are_saved_rows sizes blocks [] rows ≡ true
    → NameWithin sizes.superblocks slots rows
rows_name_within sizes blocks rows slots fits e =
    λ row. within_if_used sizes blocks slots fits (take row rows) (row_at rows row) (saved_row_at sizes blocks rows [] e row)

-- and used ones
abbrev pub is_used_in : List BlockBase → Row → Bool
is_used_in blocks Empty = true
is_used_in blocks Lost = true
is_used_in blocks (Page slot serial) = nat_lt slot.index (block_at blocks slot.sb).used

pub row_is_used : (sizes : Sizes) (blocks : List BlockBase) (before : List Row) (of : Row)
    → is_saved_row sizes blocks before of ≡ true → is_used_in blocks of ≡ true
row_is_used sizes blocks before Empty e = refl
row_is_used sizes blocks before Lost e = refl
row_is_used sizes blocks before (Page slot serial) e =
    lt-ltb slot.index (block_at blocks slot.sb).used (names_used_slot sizes blocks before slot serial e).used

-- a row before another is among those before it
named_before : (rows : List Row) (slot : Slot) (row other : ℕ) → row < other → names_slot slot (row_at rows row) ≡ true
    → list_any (names_slot slot) (take other rows) ≡ true
named_before [] slot row other earlier named = absurd (never named)
named_before (of ∷ rows) slot row zero earlier named = absurd (omega (arith, earlier))
named_before (of ∷ rows) slot zero (suc other) earlier named =
    ap (λ (b : Bool). b || list_any (names_slot slot) (take other rows)) named
named_before (of ∷ rows) slot (suc row) (suc other) earlier named =
    or_true (names_slot slot of) (list_any (names_slot slot) (take other rows))
    (named_before rows slot row other (omega (arith, earlier)) named)
  where
    or_true : (a b : Bool) → b ≡ true → (a || b) ≡ true
    or_true true b e = refl
    or_true false b e = e

-- so no row before names the slot that a row names
not_named : (sizes : Sizes) (blocks : List BlockBase) (before : List Row) (slot : Slot) (of : Row)
    → is_saved_row sizes blocks before of ≡ true → names_slot slot of ≡ true → list_any (names_slot slot) before ≡ false
not_named sizes blocks before slot Empty e named = absurd (never named)
not_named sizes blocks before slot Lost e named = absurd (never named)
not_named sizes blocks before slot (Page other serial) e named =
    ap (λ (of : Slot). list_any (names_slot of) before) (slots_agree slot other named)
    ∙ (names_used_slot sizes blocks before other serial e).new

apart : (sizes : Sizes) (blocks : List BlockBase) (rows : List Row) → are_saved_rows sizes blocks [] rows ≡ true → (slot : Slot)
    (row other : ℕ) → row < other → names_slot slot (row_at rows row) ≡ true → names_slot slot (row_at rows other) ≡ true → ⊥
apart sizes blocks rows e slot row other earlier named other_named =
    never (
    sym (not_named sizes blocks (take other rows) slot (row_at rows other) (saved_row_at sizes blocks rows [] e other) other_named)
    ∙ named_before rows slot row other earlier named
    )

pub rows_name_apart : (sizes : Sizes) (blocks : List BlockBase) (rows : List Row) → are_saved_rows sizes blocks [] rows ≡ true
    → NameApart rows
rows_name_apart sizes blocks rows e = λ slot row other named other_named.
    elim (cases_lt row other) [
      | inl earlier ↦ absurd (apart sizes blocks rows e slot row other earlier named other_named)
      | inr not_earlier ↦ elim (cases_lt other row) [
        | inl later ↦ absurd (apart sizes blocks rows e slot other row later other_named named)
        | inr not_later ↦ omega (arith, not_earlier, not_later)
      ]
    ]
