-- The channel with a superblock to collect may begin.
use Rattle.std.proofs.Common.{◌≡◌, ℕ, zero, suc, ◌*◌, ◌-◌, ◌/◌, ◌<◌, ◌≤◌, ◌^◌, ◌&&◌, nat_lt, Bool, false, List, [], ◌∷◌, length}
use Rattle.std.proofs.Common.{get_or, replicate, refl, sym, ◌∙◌, ap, subst, lit<, lit≤, arith, All, Option, inl, inr}
use Rattle.std.specs.Prelude.{IsTrue, ℤ, is_some, map}
use Rattle.std.specs.List.{list_all}
use Rattle.std.specs.Option.{unwrap_or}
use Rattle.std.proofs.lemmas.Bool.{cases_lt}
use Rattle.std.proofs.lemmas.List.{get_or-map, get_or-replicate, get_or_past, length-map, length-replicate}
use Rattle.std.proofs.lemmas.List.Elements.{All-cons, All-nil, All-replicate}
use Rattle.ssd_geo.proofs.Stripes.{due_pages_ends}
use Rattle.ssd_geo.specs.BaseMatrix.{IsAccepted}
use Rattle.ssd_geo.specs.BlockCells.{BlockCells, blank_cells}
use Rattle.ssd_geo.specs.Coding.{matrix_of, word_bytes_in}
use Rattle.ssd_geo.specs.Limits.{page_cells_of}
use Rattle.ssd_geo.specs.Shape.{HasSizes, sizes_of}
use Rattle.ssd_geo.specs.StripeSum.{zero_word}
use Rattle.ssd_geo.specs.Superblock.{due_pages}
use Rattle.ssd_geo.specs.declared.base.BlockBase.{BlockBase}
use Rattle.ssd_geo.specs.declared.base.ChannelBase.{ChannelBase}
use Rattle.ssd_geo.specs.declared.policy_view.PolicyView.{PolicyView}
use Rattle.ssd_geo.specs.declared.row.Row.{Row}
use Rattle.ssd_geo.specs.declared.shape.Shape.{Shape}
use Rattle.ssd_geo.specs.declared.slot.Slot.{Slot}
use Rattle.ssd_geo.specs.declared.weak.Weak.{Weak}
use Rattle.ssd_histories.specs.Blocks.{AreSound, blank_block, block_at}
use Rattle.ssd_histories.specs.HistoryExamples.{small_sizes}
use Rattle.ssd_histories.specs.PageMap.{NameApart, NameWithin, names_slot, names_within, row_at}
use Rattle.ssd_histories.specs.PastBlocks.{slots_in}
use Rattle.ssd_histories.specs.Standing.{HasFields, IsDueBlock, IsStart, is_weak_block, names_used}
use Rattle.ssd_histories.specs.Start.{Start, cells_at_start}
use Rattle.onfi_cmd.specs.DieState.{DieState}
use Rattle.channel_base.proofs.ZeroWords.{zero_codewords}
use Rattle.chan_dies.specs.DiesState.{blocks_in, die_at, no_die}
use Rattle.chan_state.specs.ChannelState.{ChannelState, StandsFor}
use Rattle.chan_state.specs.Starting.{HasBegun, IsDieOf, MayBegin, start_of}
use Rattle.loaded_tests.specs.LoadedChannel.{HasBegunLoaded, live_row, loaded_base, loaded_block}
use Rattle.loaded_tests.specs.LoadedDies.{AreLoadedDies, loaded_cells}

-- no row but row 0 names a slot
no_page : (row : ℕ) → row_at (replicate 7 Row.Empty) row ≡ Row.Empty
no_page row =
    elim (cases_lt row 7) [
      | inl lt ↦ get_or-replicate 7 row Row.Empty Row.Empty lt
      | inr le ↦ get_or_past (replicate 7 Row.Empty) row Row.Empty (omega (arith, length-replicate 7 Row.Empty))
    ]

unnamed : (slot : Slot) (row : ℕ) → IsTrue (names_slot slot (row_at (replicate 7 Row.Empty) row)) → ⊥
unnamed slot row named =
    let none : names_slot slot (row_at (replicate 7 Row.Empty) row) ≡ false =
    ap {B = Bool} (names_slot slot) (no_page row) in
    cc

apart : NameApart (live_row ∷ replicate 7 Row.Empty)
apart slot zero zero named also = refl
apart slot zero (suc other) named also = absurd (unnamed slot other also)
apart slot (suc row) other named also = absurd (unnamed slot row named)

within : (superblocks slots : ℕ) → superblocks ≡ 4 → slots ≡ 4
    → NameWithin superblocks slots (live_row ∷ replicate 7 Row.Empty)
within superblocks slots four also zero = λ i. nat_lt 0 (four i) && nat_lt 1 (also i)
within superblocks slots four also (suc row) = ap {B = Bool} (names_within superblocks slots) (no_page row)

module _ (shape : Shape) (weak : List Weak) (sizes : HasSizes shape small_sizes)
    (small : IsTrue (list_all (is_weak_block shape) weak)) where
  abbrev base : ChannelBase
  base = loaded_base shape weak

  -- each superblock has four slots, a page 384 cells, and a word 48 bytes
  slots_are : slots_in base ≡ 4
  slots_are =
      ap (λ (pages : ℕ). pages * (shape.dies - 1)) sizes.pages_are ∙ ap (λ (dies : ℕ). 2 * (dies - 1)) sizes.dies_are

  cells_count : page_cells_of (sizes_of shape) ≡ 384
  cells_count =
      ap (λ (words : ℕ). words * (shape.nb * shape.z)) sizes.words_are
      ∙ ap (λ (nb : ℕ). 1 * (nb * shape.z)) sizes.base_columns_are ∙ ap (λ (z : ℕ). 1 * (6 * z)) sizes.lifting_is

  bytes_count : word_bytes_in shape ≡ 48
  bytes_count =
      ap (λ (words : ℕ). words * (shape.nb * shape.z / 8)) sizes.words_are
      ∙ ap (λ (nb : ℕ). 1 * (nb * shape.z / 8)) sizes.base_columns_are ∙ ap (λ (z : ℕ). 1 * (6 * z / 8)) sizes.lifting_is

  accepted : IsAccepted (matrix_of base)
  accepted =
      subst IsAccepted
      (λ i. record {
        z = sym sizes.lifting_is i;
        mb = sym sizes.base_rows_are i;
        nb = sym sizes.base_columns_are i;
        entries = base.entries;
      })
      (record {
        within = record {
          z_low = lit≤ tt;
          z_high = lit≤ tt;
          mb_low = lit≤ tt;
          mb_high = lit≤ tt;
          nb_low = lit< tt;
          nb_high = lit≤ tt;
          entries = refl;
        };
        faultless = refl;
      })

  fields : HasFields base
  fields =
      let one = sizes.channels_are in
      record {
        channel = omega (arith, one);
        session = lit< tt;
        matrix = accepted;
        levels_count = refl;
        levels = refl;
        iterations = refl;
        step = refl;
        erased = refl;
        programmed = refl;
        spread = lit≤ tt;
        weak = small;
      }

  module _ (limit : ℕ) (low : 256 ≤ limit) (high : limit ≤ 2 ^ 22) (view : Option PolicyView) (levels : List ℤ)
      (whole : length levels ≡ 384) (dies : List DieState) (loaded : AreLoadedDies shape weak levels dies) where
    abbrev start : Start
    start = start_of base limit dies view

    blocks_of : (die : ℕ) → die < 3 → blocks_in (die_at dies die) ≡ loaded_cells levels
    blocks_of die below =
        ap (λ (told : Option (List BlockCells)). unwrap_or told []) (loaded.each die below).told_are

    blocks_at : (die : ℕ) → die < 3 → get_or (map blocks_in dies) die [] ≡ loaded_cells levels
    blocks_at die below =
        let three = loaded.count in
        get_or-map blocks_in dies die no_die [] (omega (arith, three)) ∙ blocks_of die below

    cells_are : (die sb : ℕ) → die < 3 → cells_at_start start die sb ≡ get_or (loaded_cells levels) sb blank_cells
    cells_are die sb below =
        ap {B = BlockCells} (λ (blocks : List BlockCells). get_or blocks sb blank_cells) (blocks_at die below)

    -- a block with just the pages that are due and the erases of its superblock
    due_block : (die sb : ℕ) (block : BlockBase) (cells : BlockCells) → block_at base.blocks sb ≡ block
        → cells_at_start start die sb ≡ cells → length cells.pages ≤ shape.pages
        → length cells.pages ≡ due_pages shape.dies sb block.used die → cells.erases ≡ block.erases
        → All (λ levels. length levels ≡ page_cells_of (sizes_of shape)) cells.pages → IsDueBlock start die sb
    due_block die sb block cells block_is cells_is few due erased all_whole =
        let due_is : due_pages shape.dies sb (block_at base.blocks sb).used die ≡ due_pages shape.dies sb block.used die =
        ap {B = ℕ} (λ (b : BlockBase). due_pages shape.dies sb b.used die) block_is in
        let count : length (cells_at_start start die sb).pages ≡ length cells.pages =
        ap {B = ℕ} (λ (c : BlockCells). length c.pages) cells_is in
        let erases_are : (cells_at_start start die sb).erases ≡ (block_at base.blocks sb).erases =
        ap {B = ℕ} (λ (c : BlockCells). c.erases) cells_is ∙ erased ∙ sym (ap {B = ℕ} (λ (b : BlockBase). b.erases) block_is) in
        record {
          at_least = omega (arith, due_is, count, due);
          at_most = omega (arith, count, few);
          exact = λ good. count ∙ due ∙ sym due_is;
          erases = λ good. erases_are;
          whole =
              subst (λ (c : BlockCells). All (λ levels. length levels ≡ page_cells_of (sizes_of shape)) c.pages) (sym cells_is)
              all_whole;
        }

    two_dies : 2 ≤ shape.dies
    two_dies = let three = sizes.dies_are in omega (arith, three)

    -- all pages of superblock 0 are due, and none of another
    blocks_due : (die sb : ℕ) → die < shape.dies → sb < shape.superblocks → IsDueBlock start die sb
    blocks_due die zero low below =
        let three = sizes.dies_are in
        let two = sizes.pages_are in
        let all : due_pages shape.dies 0 4 die ≡ 2 =
        ap (λ (used : ℕ). due_pages shape.dies 0 used die) (sym slots_are)
        ∙ (due_pages_ends shape.dies 0 shape.pages die two_dies).all ∙ sizes.pages_are in
        let page : length levels ≡ page_cells_of (sizes_of shape) = whole ∙ sym cells_count in
        let P : List ℤ → Type 0 = λ levels. length levels ≡ page_cells_of (sizes_of shape) in
        due_block die 0 loaded_block (record { erases = 7; pages = levels ∷ levels ∷ [] }) refl
        (cells_are die 0 (omega (arith, three))) (omega (arith, two)) (sym all) refl
        (All-cons P levels (levels ∷ []) page (All-cons P levels [] page (All-nil P)))
    blocks_due die (suc sb) low below =
        let three = sizes.dies_are in
        let four = sizes.superblocks_are in
        let lt : sb < 3 = omega (arith, four) in
        due_block die (suc sb) blank_block blank_cells (get_or-replicate 3 sb blank_block blank_block lt)
        (cells_are die (suc sb) (omega (arith, three)) ∙ get_or-replicate 3 sb blank_cells blank_cells lt) (omega arith)
        (sym (due_pages_ends shape.dies (suc sb) shape.pages die two_dies).none) refl
        (All-nil (λ (levels : List ℤ). length levels ≡ page_cells_of (sizes_of shape)))

    is_start : IsStart start
    is_start = record {
      blocks_count = sym sizes.superblocks_are;
      blocks_sound =
          subst (λ (slots : ℕ). AreSound slots base.blocks) (sym slots_are)
          (record { some_slots = lit≤ tt; few = lit≤ tt; one_frontier = lit≤ tt; one_victim = lit≤ tt; due = refl });
      few_erases =
          All-cons (λ (block : BlockBase). block.erases ≤ 2 ^ 31) loaded_block (replicate 3 blank_block) (lit≤ tt)
          (All-replicate (λ (block : BlockBase). block.erases ≤ 2 ^ 31) 3 blank_block (lit≤ tt));
      rows_count = sym sizes.rows_are;
      rows_within = within shape.superblocks (slots_in base) sizes.superblocks_are slots_are;
      rows_apart = apart;
      rows_used =
          All-cons (λ (row : Row). IsTrue (names_used base row)) live_row (replicate 7 Row.Empty) refl
          (All-replicate (λ (row : Row). IsTrue (names_used base row)) 7 Row.Empty refl);
      sum_bytes = sym bytes_count;
      sum_of_none = λ none. ap zero_word (sym bytes_count);
      sum_codewords = λ f below. zero_codewords (sizes_of shape) (matrix_of base) 48 f;
      fields = fields;
      limit_low = low;
      limit_high = high;
      dies_count = length-map dies blocks_in ∙ loaded.count ∙ sym sizes.dies_are;
      blocks_due = blocks_due;
    }

    -- each die is the one that the base says it is
    die_of : (die : ℕ) → die < shape.dies → IsDieOf base die (die_at dies die)
    die_of die below =
        let three = sizes.dies_are in
        let low : die < 3 = omega (arith, three) in
        let is = loaded.each die low in
        record {
          plan_is = is.plan_is;
          tells = ap {B = Bool} (λ (told : Option (List BlockCells)). is_some told) is.told_are;
          blocks_count =
              ap {B = ℕ} (λ (blocks : List BlockCells). length blocks) (blocks_of die low) ∙ sym sizes.superblocks_are;
        }

    pub loaded_may_begin : MayBegin base limit dies view
    loaded_may_begin = record { is_start = is_start; dies_are = die_of }

-- three weak blocks of superblock 0 are some of such a drive
pub three_weak : (shape : Shape) (zeroth one two : Weak) (from also last : ℕ) → HasSizes shape small_sizes
    → zeroth ≡ record { channel = 0; die = 0; sb = 0; from = from } → one ≡ record { channel = 0; die = 1; sb = 0; from = also }
    → two ≡ record { channel = 0; die = 2; sb = 0; from = last }
    → IsTrue (list_all (is_weak_block shape) (zeroth ∷ one ∷ two ∷ []))
three_weak shape zeroth one two from also last sizes first second third = λ i.
    list_all
    (λ w. nat_lt w.channel (sizes.channels_are i) && nat_lt w.die (sizes.dies_are i) && nat_lt w.sb (sizes.superblocks_are i))
    (first i ∷ second i ∷ third i ∷ [])

-- the channel has begun so
pub has_begun : (shape : Shape) (weak : List Weak) (base : ChannelBase) (limit : ℕ) (dies : List DieState)
    (was view : Option PolicyView) (channel : ChannelState) → HasSizes shape small_sizes → base ≡ loaded_base shape weak
    → HasBegun base limit dies was channel → view ≡ was → HasBegunLoaded shape channel view
has_begun shape weak base limit dies was view channel sizes is begun same = record {
  start = start_of base limit dies was;
  weak = weak;
  sizes = sizes;
  is_base = is;
  stands = λ contents.
      subst (λ (v : Option PolicyView). StandsFor channel v (start_of base limit dies was) contents) (sym same)
      (begun.stands contents);
}
