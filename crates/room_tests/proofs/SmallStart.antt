-- The blank channel of the small drive may begin.
use Rattle.std.proofs.Common.{◌≡◌, ℕ, zero, suc, ◌<◌, ◌≤◌, ◌^◌, Bool, false, List, [], ◌∷◌, length, get_or, replicate}
use Rattle.std.proofs.Common.{refl, sym, ◌∙◌, ap, subst, lit<, lit≤, arith, All, inl, inr}
use Rattle.std.specs.Prelude.{IsTrue, ℤ, Option, is_some, map}
use Rattle.std.specs.Option.{unwrap_or}
use Rattle.std.proofs.lemmas.Bool.{cases_lt}
use Rattle.std.proofs.lemmas.List.{get_or-replicate, get_or_past, length-replicate}
use Rattle.std.proofs.lemmas.List.Elements.{All-nil, All-replicate}
use Rattle.ssd_geo.specs.BlockCells.{blank_cells, BlockCells}
use Rattle.ssd_geo.specs.Bits.{bit_sum}
use Rattle.ssd_geo.specs.BaseMatrix.{IsAccepted, layer_of}
use Rattle.ssd_histories.specs.Blocks.{blank_block, block_at}
use Rattle.ssd_geo.specs.Coding.{matrix_of}
use Rattle.ssd_geo.specs.Codewords.{IsCodeword, is_odd_sum}
use Rattle.ssd_geo.specs.Layer.{variables_of}
use Rattle.ssd_geo.specs.Limits.{IsWithinLimits, Sizes, page_cells_of}
use Rattle.ssd_histories.specs.HistoryExamples.{small_sizes}
use Rattle.ssd_histories.specs.PageMap.{names_slot, names_within, row_at}
use Rattle.ssd_geo.specs.PageWord.{code_in}
use Rattle.ssd_geo.specs.Shape.{HasSizes, sizes_of}
use Rattle.ssd_histories.specs.Standing.{HasFields, IsDueBlock, IsStart, names_used}
use Rattle.ssd_histories.specs.Start.{Start, cells_at_start}
use Rattle.ssd_geo.specs.Superblock.{due_pages}
use Rattle.ssd_geo.specs.declared.base.BlockBase.{BlockBase}
use Rattle.ssd_geo.specs.declared.row.Row.{Row}
use Rattle.ssd_geo.specs.declared.shape.Shape.{Shape}
use Rattle.ssd_geo.specs.declared.slot.Slot.{Slot}
use Rattle.ssd_geo.proofs.Stripes.{due_pages_ends}
use Rattle.ssd_geo.specs.declared.weak.Weak.{Weak}
use Rattle.ssd_geo.specs.declared.policy_view.PolicyView.{PolicyView}
use Rattle.onfi_cmd.specs.DieState.{DieState}
use Rattle.chan_dies.specs.DiesState.{blocks_in, die_at}
use Rattle.chan_state.specs.Starting.{IsDieOf, MayBegin, start_of}
use Rattle.room_tests.specs.SmallChannel.{AreSmallBlocks, IsStartDie, small_base}
use Rattle.shared_lemmas.proofs.Lists.{no_mark}

-- an item of a list of equal ones
each_blank : (n k : ℕ) → block_at (replicate n blank_block) k ≡ blank_block
each_blank n k =
    elim (cases_lt k n) [
      | inl lt ↦ get_or-replicate n k blank_block blank_block lt
      | inr le ↦ get_or_past (replicate n blank_block) k blank_block (omega (arith, length-replicate n blank_block))
    ]

each_empty : (n row : ℕ) → row_at (replicate n Row.Empty) row ≡ Row.Empty
each_empty n row =
    elim (cases_lt row n) [
      | inl lt ↦ get_or-replicate n row Row.Empty Row.Empty lt
      | inr le ↦ get_or_past (replicate n Row.Empty) row Row.Empty (omega (arith, length-replicate n Row.Empty))
    ]

-- no sum of bits that are 0 is odd
even_zeros : (n : ℕ) (variables : List ℕ) → is_odd_sum (replicate n false) variables ≡ false
even_zeros n [] = refl
even_zeros n (variable ∷ variables) = λ i. bit_sum (no_mark n variable i) (even_zeros n variables i)

-- three dies that were just mounted
pub record AreStartDies (shape : Shape) (weak : List Weak) (zeroth one two : DieState) : Type 0 where
  pub first_is : IsStartDie shape weak 0 zeroth
  pub second_is : IsStartDie shape weak 1 one
  pub third_is : IsStartDie shape weak 2 two

each_start : (shape : Shape) (weak : List Weak) (zeroth one two : DieState) → AreStartDies shape weak zeroth one two
    → (die : ℕ) → die < 3 → IsStartDie shape weak die (die_at (zeroth ∷ one ∷ two ∷ []) die)
each_start shape weak zeroth one two starts zero below = starts.first_is
each_start shape weak zeroth one two starts (suc zero) below = starts.second_is
each_start shape weak zeroth one two starts (suc (suc zero)) below = starts.third_is
each_start shape weak zeroth one two starts (suc (suc (suc die))) below = absurd (omega arith)

-- what such a die tells
blocks_of_die : (shape : Shape) (weak : List Weak) (die : ℕ) (state : DieState) → IsStartDie shape weak die state
    → blocks_in state ≡ replicate shape.superblocks blank_cells
blocks_of_die shape weak die state start = ap (λ (told : Option (List BlockCells)). unwrap_or told []) start.told_are

-- a drive with these sizes
abbrev pub SmallLimits : Type 0
SmallLimits = IsWithinLimits small_sizes

abbrev small_shape : SmallLimits → Shape
small_shape within = record {
  words = 1;
  channels = 1;
  dies = 3;
  superblocks = 4;
  pages = 2;
  z = 64;
  mb = 3;
  nb = 6;
  bytes = 8;
  rows = 8;
  within = within;
}

-- dies of the small drive
abbrev StartDies : SmallLimits → List Weak → DieState → DieState → DieState → Type 0
StartDies within weak zeroth one two = AreStartDies (small_shape within) weak zeroth one two

small_accepted : (within : SmallLimits) (weak : List Weak) → IsAccepted (matrix_of (small_base (small_shape within) weak))
small_accepted within weak = record {
  within = record {
    z_low = lit≤ tt;
    z_high = lit≤ tt;
    mb_low = lit≤ tt;
    mb_high = lit≤ tt;
    nb_low = lit< tt;
    nb_high = lit≤ tt;
    entries = refl;
  };
  faultless = refl;
}

small_fields : (within : SmallLimits) (weak : List Weak) → AreSmallBlocks weak
    → HasFields (small_base (small_shape within) weak)
small_fields within weak small = record {
  channel = lit< tt;
  session = lit< tt;
  matrix = small_accepted within weak;
  levels_count = refl;
  levels = refl;
  iterations = refl;
  step = refl;
  erased = refl;
  programmed = refl;
  spread = lit≤ tt;
  weak = small;
}

blank_at : (within : SmallLimits) (weak : List Weak) (zeroth one two : DieState) → StartDies within weak zeroth one two
    → (limit : ℕ) (view : Option PolicyView) (die sb : ℕ) → die < 3 → sb < 4
    → cells_at_start (start_of (small_base (small_shape within) weak) limit (zeroth ∷ one ∷ two ∷ []) view) die sb ≡ blank_cells
blank_at within weak zeroth one two starts limit view die sb low below =
    ap {B = BlockCells} (λ (blocks : List BlockCells). get_or blocks sb blank_cells) (blocks_at die low)
    ∙ get_or-replicate 4 sb blank_cells blank_cells below
  where
    blocks_at : (die : ℕ) → die < 3 → get_or (map blocks_in (zeroth ∷ one ∷ two ∷ [])) die [] ≡ replicate 4 blank_cells
    blocks_at zero below = blocks_of_die (small_shape within) weak 0 zeroth starts.first_is
    blocks_at (suc zero) below = blocks_of_die (small_shape within) weak 1 one starts.second_is
    blocks_at (suc (suc zero)) below = blocks_of_die (small_shape within) weak 2 two starts.third_is
    blocks_at (suc (suc (suc die))) below = absurd (omega arith)

small_due : (within : SmallLimits) (weak : List Weak) (zeroth one two : DieState) → StartDies within weak zeroth one two
    → (limit : ℕ) (view : Option PolicyView) (die sb : ℕ) → die < 3 → sb < 4
    → IsDueBlock (start_of (small_base (small_shape within) weak) limit (zeroth ∷ one ∷ two ∷ []) view) die sb
small_due within weak zeroth one two starts limit view die sb low below =
    let start : Start = start_of (small_base (small_shape within) weak) limit (zeroth ∷ one ∷ two ∷ []) view in
    let cells = blank_at within weak zeroth one two starts limit view die sb low below in
    let block = each_blank 4 sb in
    let none : due_pages 3 sb (block_at (replicate 4 blank_block) sb).used die ≡ 0 =
    ap {B = ℕ} (λ (b : BlockBase). due_pages 3 sb b.used die) block ∙ (due_pages_ends 3 sb 2 die (lit≤ tt)).none in
    let count : length (cells_at_start start die sb).pages ≡ 0 = ap {B = ℕ} (λ (c : BlockCells). length c.pages) cells in
    let erased : (cells_at_start start die sb).erases ≡ (block_at (replicate 4 blank_block) sb).erases =
    ap {B = ℕ} (λ (c : BlockCells). c.erases) cells ∙ sym (ap {B = ℕ} (λ (b : BlockBase). b.erases) block) in
    record {
      at_least = omega (arith, none, count);
      at_most = omega (arith, count);
      exact = λ good. count ∙ sym none;
      erases = λ good. erased;
      whole = subst (λ (c : BlockCells). All (λ levels. length levels ≡ page_cells_of small_sizes) c.pages) (sym cells)
          (All-nil (λ (levels : List ℤ). length levels ≡ page_cells_of small_sizes));
    }

small_is_start : (within : SmallLimits) (weak : List Weak) → AreSmallBlocks weak → (zeroth one two : DieState)
    → StartDies within weak zeroth one two → (limit : ℕ) → 256 ≤ limit → limit ≤ 2 ^ 22 → (view : Option PolicyView)
    → IsStart (start_of (small_base (small_shape within) weak) limit (zeroth ∷ one ∷ two ∷ []) view)
small_is_start within weak small zeroth one two starts limit low high view = record {
  blocks_count = refl;
  blocks_sound = record { some_slots = lit≤ tt; few = lit≤ tt; one_frontier = lit≤ tt; one_victim = lit≤ tt; due = refl };
  few_erases = All-replicate (λ (block : BlockBase). block.erases ≤ 2 ^ 31) 4 blank_block (lit≤ tt);
  rows_count = refl;
  rows_within = λ row. ap {B = Bool} (names_within 4 4) (each_empty 8 row);
  rows_apart = λ slot row other named also. absurd (unnamed slot row named);
  rows_used = All-replicate (λ (row : Row). IsTrue (names_used (small_base (small_shape within) weak) row)) 8 Row.Empty refl;
  sum_bytes = refl;
  sum_of_none = λ none. refl;
  sum_codewords = sum_is;
  fields = small_fields within weak small;
  limit_low = low;
  limit_high = high;
  dies_count = refl;
  blocks_due = small_due within weak zeroth one two starts limit view;
}
  where
    sum_is : (f : ℕ) → f < 1
        → IsCodeword (matrix_of (small_base (small_shape within) weak)) (code_in small_sizes (replicate 48 0) f)
    sum_is zero below =
        λ i r row low. even_zeros 384 (variables_of (layer_of (matrix_of (small_base (small_shape within) weak)) i) 64 r)
    sum_is (suc f) below = absurd (omega arith)

    unnamed : (slot : Slot) (row : ℕ) → IsTrue (names_slot slot (row_at (replicate 8 Row.Empty) row)) → ⊥
    unnamed slot row named =
        let none : names_slot slot (row_at (replicate 8 Row.Empty) row) ≡ false =
        ap {B = Bool} (names_slot slot) (each_empty 8 row) in
        cc

-- each die is the one that the base says it is
each_die_of : (within : SmallLimits) (weak : List Weak) (zeroth one two : DieState) → StartDies within weak zeroth one two
    → (die : ℕ) → die < 3 → IsDieOf (small_base (small_shape within) weak) die (die_at (zeroth ∷ one ∷ two ∷ []) die)
each_die_of within weak zeroth one two starts die below =
    let start = each_start (small_shape within) weak zeroth one two starts die below in
    record {
      plan_is = start.plan_is;
      tells = ap {B = Bool} (λ (told : Option (List BlockCells)). is_some told) start.told_are;
      blocks_count =
          ap {B = ℕ} (λ (blocks : List BlockCells). length blocks)
          (blocks_of_die (small_shape within) weak die (die_at (zeroth ∷ one ∷ two ∷ []) die) start);
    }

-- the blank channel of a drive with the small sizes may begin
abbrev BeginsWith : List Weak → DieState → DieState → DieState → ℕ → Option PolicyView → Shape → Type 0
BeginsWith weak zeroth one two limit view shape =
    AreStartDies shape weak zeroth one two → MayBegin (small_base shape weak) limit (zeroth ∷ one ∷ two ∷ []) view

abbrev shape_with : (sizes : Sizes) → IsWithinLimits sizes → Shape
shape_with sizes within = record {
  words = sizes.words;
  channels = sizes.channels;
  dies = sizes.dies;
  superblocks = sizes.superblocks;
  pages = sizes.pages;
  z = sizes.z;
  mb = sizes.mb;
  nb = sizes.nb;
  bytes = sizes.bytes;
  rows = sizes.rows;
  within = within;
}

pub small_may_begin : (shape : Shape) (weak : List Weak) (zeroth one two : DieState) (limit : ℕ) (view : Option PolicyView)
    → HasSizes shape small_sizes → AreSmallBlocks weak → AreStartDies shape weak zeroth one two → 256 ≤ limit → limit ≤ 2 ^ 22
    → MayBegin (small_base shape weak) limit (zeroth ∷ one ∷ two ∷ []) view
small_may_begin shape weak zeroth one two limit view sizes small starts low high =
    let same : small_sizes ≡ sizes_of shape =
    λ i. record {
      words = sym sizes.words_are i;
      channels = sym sizes.channels_are i;
      dies = sym sizes.dies_are i;
      superblocks = sym sizes.superblocks_are i;
      pages = sym sizes.pages_are i;
      z = sym sizes.lifting_is i;
      mb = sym sizes.base_rows_are i;
      nb = sym sizes.base_columns_are i;
      bytes = sym sizes.bytes_are i;
      rows = sym sizes.rows_are i;
    } in
    let concrete : (within : IsWithinLimits small_sizes)
    → BeginsWith weak zeroth one two limit view (shape_with small_sizes within) =
    λ within starts. record {
      is_start = small_is_start within weak small zeroth one two starts limit low high view;
      dies_are = each_die_of within weak zeroth one two starts;
    } in
    subst
    (λ (sizes : Sizes). (within : IsWithinLimits sizes) → BeginsWith weak zeroth one two limit view (shape_with sizes within))
    same concrete shape.within starts
