-- What a channel has at its end is a start, and is read again once it is saved: the proofs of the laws of specs/ChannelEnds.antt.
use Rattle.std.proofs.Common.{◌≡◌, refl, ap, sym, subst, ◌∙◌, ℕ, ◌<◌, ◌≤◌, ◌||◌, not, Bool, true, false, List, [], length, Option, Some, None, option_map, is_some, ℤ, inl, inr, arith}
use Rattle.std.specs.Prelude.{All, IsTrue}
use Rattle.std.specs.List.{list_all, list_any}
use Rattle.std.proofs.lemmas.Bool.{cases_lt}
use Rattle.std.proofs.lemmas.List.{get_or-map, length-map}
use Rattle.std.proofs.lemmas.List.Elements.{All-from_get_or}
use Rattle.ssd_geo.specs.BlockCells.{BlockCells, cells_at}
use Rattle.ssd_geo.specs.Coding.{coding_of, word_bytes_in}
use Rattle.ssd_geo.specs.Limits.{is_level, page_cells_of}
use Rattle.ssd_geo.specs.Shape.{sizes_of}
use Rattle.ssd_geo.specs.StripeSum.{zero_word}
use Rattle.ssd_geo.specs.Superblock.{due_pages}
use Rattle.ssd_geo.specs.declared.base.BlockBase.{BlockBase}
use Rattle.ssd_geo.specs.declared.base.ChannelBase.{ChannelBase}
use Rattle.ssd_geo.specs.declared.entry.Entry.{Entry}
use Rattle.ssd_geo.specs.declared.place.Place.{Place}
use Rattle.ssd_geo.specs.declared.policy_view.PolicyView.{PolicyView}
use Rattle.ssd_geo.specs.declared.row.Row.{Row}
use Rattle.ssd_geo.specs.declared.shape.Shape.{Shape}
use Rattle.ssd_geo.specs.declared.tag.Tag.{Tag}
use Rattle.onfi_cmd.specs.DieState.{programmed_in}
use Rattle.ssd_histories.specs.Blocks.{block_at}
use Rattle.ssd_histories.specs.PageMap.{row_at}
use Rattle.ssd_histories.specs.PastBlocks.{slots_in, turns_bad, used_of}
use Rattle.ssd_histories.specs.PastPages.{StoredPage, ladder_of, page_of}
use Rattle.ssd_histories.specs.Ranges.{has_place}
use Rattle.ssd_histories.specs.Standing.{HasFields, IsDueBlock, IsStart, names_used}
use Rattle.ssd_histories.specs.Start.{Start, cells_at_start}
use Rattle.ssd_histories.specs.States.{is_bad}
use Rattle.ssd_histories.proofs.UsedSlots.{block_is}
use Rattle.chan_dies.specs.DiesState.{AreMounted, blocks_in, blocks_told, no_die}
use Rattle.chan_fits.specs.DiesFit.{AreDue, stored_levels, told_page}
use Rattle.chan_fits.proofs.PlacesInRange.{place_has_range}
use Rattle.chan_fits.proofs.WeakDies.{bad_is}
use Rattle.chan_state.specs.ChannelState.{ChannelState}
use Rattle.chan_state.proofs.Beginning.{law_of_base}
use Rattle.chan_tables.specs.TablesState.{AreWhole, NamesUsedIn}
use Rattle.contents_start.proofs.SavedBlocks.{used_fits}
use Rattle.ssd_formats.proofs.SpelledContents.{due_at_most}
use Rattle.contents_end.proofs.SavableStarts.{starts_are_saved}
use Rattle.contents_end.proofs.Tests.{below_if}
use Rattle.channel_ends.specs.ChannelEnds.{EndedChannelsAreSaved, EndedChannelsStartAgain, HasEnded, HasFewErases, base_at_end, start_at_end}
use Rattle.run_laws.specs.Serials.{HasSmallSerial}
use Rattle.channel_ends.proofs.EndedSums.{has_open, no_sum_at_end, not_open, running_has}
use Rattle.channel_ends.proofs.LevelsInRange.{LevelsIn, from_list, in_list, levels_in_range}
use Rattle.channel_ends.proofs.SmallSerials.{table_stays_small}
use Rattle.channel_ends.proofs.UsedPages.{ends_there, used_pages_stand}
use Rattle.channel_ends.proofs.WholePages.{HasLevels, from_pages, levels_have, pages_are_whole}
use Rattle.channel_ends.proofs.WholeWords.{IsWhole, no_sum_is_whole}

-- a row names a used slot
names_if : (base : ChannelBase) (of : Row) → NamesUsedIn base.blocks of → names_used base of ≡ true
names_if base Row.Empty used = refl
names_if base Row.Lost used = refl
names_if base (Row.Page slot serial) used = below_if (block_at base.blocks slot.sb).used slot.index used

levels_stand : (page : Option StoredPage) → is_some page ≡ true
    → is_some (option_map (λ (stored : StoredPage). stored.levels) page) ≡ true
levels_stand None e = e
levels_stand (Some page) e = refl

-- a channel that has ended
module _ (view next : Option PolicyView) (start : Start) (contents : List (Tag × List ℕ)) (channel : ChannelState)
    (has : HasEnded view start contents channel) where
  begun : IsStart start
  begun = has.stands.is_past.is_start

  tables : AreWhole start.base.shape channel.blocks channel.rows
  tables = subst (λ (shape : Shape). AreWhole shape channel.blocks channel.rows) has.stands.shape_is has.whole.tables

  mounted : AreMounted start.base.shape channel.dies
  mounted = subst (λ (shape : Shape). AreMounted shape channel.dies) has.stands.shape_is has.whole.mounted

  due : AreDue start.base.shape channel.blocks channel.dies
  due = subst (λ (shape : Shape). AreDue shape channel.blocks channel.dies) has.stands.shape_is has.whole.due

  rows_used : All (λ (row : Row). IsTrue (names_used (base_at_end start.base channel) row)) channel.rows
  rows_used =
      All-from_get_or (λ (row : Row). IsTrue (names_used (base_at_end start.base channel) row)) channel.rows Row.Empty
      (λ row below. names_if (base_at_end start.base channel) (row_at channel.rows row) (tables.rows_used row))

  no_sum : IsTrue (not (list_any (has_open start.base.shape) channel.blocks))
      → channel.sum ≡ zero_word (word_bytes_in start.base.shape)
  no_sum none =
      has.stands.dies_fit.sum_is
      ∙ no_sum_at_end start contents channel.past
      (ap (λ (blocks : List BlockBase). not (list_any (has_open start.base.shape) blocks)) (sym has.stands.blocks_are) ∙ none)

  sum_whole : IsWhole start.base begun.fields channel.sum
  sum_whole =
      subst (λ (sum : List ℕ). IsWhole start.base begun.fields sum) (sym has.stands.dies_fit.sum_is)
      (running_has (IsWhole start.base begun.fields) start contents channel.past (no_sum_is_whole start.base begun.fields)
      (pages_are_whole start contents begun channel.past has.stands.is_past.is_lawful).sums)

  -- the cells of a block of the next start
  cells_are : (die sb : ℕ) → die < start.base.shape.dies
      → cells_at_start (start_at_end start channel next) die sb ≡ cells_at (blocks_told channel.dies die) sb
  cells_are die sb below =
      ap (λ (blocks : List BlockCells). cells_at blocks sb)
      (get_or-map blocks_in channel.dies die no_die [] (omega (arith, below, mounted.count_is)))

  -- a superblock that is bad has the pages of its used slots, too
  at_least : (die sb : ℕ) → die < start.base.shape.dies → sb < start.base.shape.superblocks
      → due_pages start.base.shape.dies sb (block_at channel.blocks sb).used die ≤ programmed_in (blocks_told channel.dies die) sb
  at_least die sb in_dies in_blocks =
      let n : ℕ = programmed_in (blocks_told channel.dies die) sb in
      let due_now : ℕ = due_pages start.base.shape.dies sb (block_at channel.blocks sb).used die in
      let used : (block_at channel.blocks sb).used ≡ used_of start.base channel.past sb =
      ap (λ (blocks : List BlockBase). (block_at blocks sb).used) has.stands.blocks_are
      ∙ ap (λ (block : BlockBase). block.used) (block_is start.base channel.past sb in_blocks) in
      let most : due_now ≤ start.base.shape.pages =
      due_at_most start.base.shape.pages start.base.shape.dies sb (block_at channel.blocks sb).used die
      (used_fits (slots_in start.base) channel.blocks tables.blocks_sound.due sb) in
      elim (cases_lt n due_now) [
        | inr more ↦ omega (arith, more)
        | inl less ↦
            let place : Place = record { die = die; sb = sb; page = n } in
            let range : IsTrue (has_place start.base.shape place) =
            place_has_range start.base.shape place (record { die = in_dies; superblock = in_blocks; page = omega (arith, less, most) }) in
            let due_then : n < due_pages start.base.shape.dies sb (used_of start.base channel.past sb) die =
            subst (λ (slots : ℕ). n < due_pages start.base.shape.dies sb slots die) used less in
            let stands : is_some (page_of (coding_of start.base) start contents channel.past place) ≡ true =
            used_pages_stand (ladder_of (coding_of start.base) start contents) (coding_of start.base) start contents channel.past begun
            has.stands.is_past.is_lawful die sb n in_dies in_blocks due_then in
            let told : is_some (told_page channel.dies place) ≡ true =
            ap (λ (page : Option (List ℤ)). is_some page) (has.stands.dies_fit.pages_are place range)
            ∙ levels_stand (page_of (coding_of start.base) start contents channel.past place) stands in
            let none : is_some (told_page channel.dies place) ≡ false = ends_there (cells_at (blocks_told channel.dies die) sb).pages in
            let both : true ≡ false = sym told ∙ none in
            absurd (cc)
      ]

  -- each page has a level for each cell
  whole_at_end : (die sb : ℕ) → die < start.base.shape.dies → sb < start.base.shape.superblocks
      → All (λ (levels : List ℤ). length levels ≡ page_cells_of (sizes_of start.base.shape)) (cells_at (blocks_told channel.dies die) sb).pages
  whole_at_end die sb in_dies in_blocks = λ page d below.
      let most : programmed_in (blocks_told channel.dies die) sb ≤ start.base.shape.pages =
      has.few_pages die in_dies sb in_blocks in
      let count : ℕ = page_cells_of (sizes_of start.base.shape) in
      let place : Place = record { die = die; sb = sb; page = page } in
      let range : IsTrue (has_place start.base.shape place) =
      place_has_range start.base.shape place (record { die = in_dies; superblock = in_blocks; page = omega (arith, below, most) }) in
      let stored : HasLevels count (stored_levels start contents channel.past place) =
      levels_have count (page_of (coding_of start.base) start contents channel.past place)
      ((pages_are_whole start contents begun channel.past has.stands.is_past.is_lawful).pages place range) in
      from_pages count (cells_at (blocks_told channel.dies die) sb).pages page d below
      (subst (λ (of : Option (List ℤ)). HasLevels count of) (sym (has.stands.dies_fit.pages_are place range)) stored)

  block_due : (die sb : ℕ) → die < start.base.shape.dies → sb < start.base.shape.superblocks
      → IsDueBlock (start_at_end start channel next) die sb
  block_due die sb in_dies in_blocks =
      let most : programmed_in (blocks_told channel.dies die) sb ≤ start.base.shape.pages =
      has.few_pages die in_dies sb in_blocks in
      let long : length (cells_at_start (start_at_end start channel next) die sb).pages
      ≡ length (cells_at (blocks_told channel.dies die) sb).pages =
      ap (λ (cells : BlockCells). length cells.pages) (cells_are die sb in_dies) in
      record {
        at_least = omega (arith, at_least die sb in_dies in_blocks, long);
        at_most = omega (arith, most, long);
        exact = λ sound. long
            ∙ due.pages_due die sb in_dies in_blocks (not_open (is_bad (block_at channel.blocks sb).state) sound);
        erases = λ sound. ap (λ (cells : BlockCells). cells.erases) (cells_are die sb in_dies)
            ∙ due.erases_due die sb in_dies in_blocks (not_open (is_bad (block_at channel.blocks sb).state) sound);
        whole = subst (λ (cells : BlockCells). All (λ (levels : List ℤ). length levels ≡ page_cells_of (sizes_of start.base.shape)) cells.pages) (sym (cells_are die sb in_dies)) (whole_at_end die sb in_dies in_blocks);
      }

  fields : HasFields (base_at_end start.base channel)
  fields = record {
    channel = begun.fields.channel;
    session = begun.fields.session;
    matrix = begun.fields.matrix;
    levels_count = begun.fields.levels_count;
    levels = begun.fields.levels;
    iterations = begun.fields.iterations;
    step = begun.fields.step;
    erased = begun.fields.erased;
    programmed = begun.fields.programmed;
    spread = begun.fields.spread;
    weak = begun.fields.weak;
  }

  pub starts_again : HasFewErases channel.blocks → IsStart (start_at_end start channel next)
  starts_again few_erases = record {
    blocks_count = tables.blocks_count;
    blocks_sound = tables.blocks_sound;
    few_erases = few_erases;
    rows_count = tables.rows_count;
    rows_within = tables.rows_are.within;
    rows_apart = tables.rows_are.apart;
    rows_used = rows_used;
    sum_bytes = has.whole.sum_bytes ∙ ap (λ (shape : Shape). word_bytes_in shape) has.stands.shape_is;
    sum_of_none = no_sum;
    sum_codewords = sum_whole.codewords;
    fields = fields;
    limit_low = begun.limit_low;
    limit_high = begun.limit_high;
    dies_count = length-map channel.dies blocks_in ∙ mounted.count_is;
    blocks_due = block_due;
  }

  -- the levels of its pages
  pub levels_at_end : (die sb : ℕ) → die < start.base.shape.dies → sb < start.base.shape.superblocks
      → All (λ (page : List ℤ). list_all is_level page ≡ true) (cells_at_start start die sb).pages
      → All (λ (page : List ℤ). list_all is_level page ≡ true) (cells_at (blocks_told channel.dies die) sb).pages
  levels_at_end die sb in_dies in_blocks levels = λ page d below.
      let most : programmed_in (blocks_told channel.dies die) sb ≤ start.base.shape.pages =
      has.few_pages die in_dies sb in_blocks in
      let place : Place = record { die = die; sb = sb; page = page } in
      let range : IsTrue (has_place start.base.shape place) =
      place_has_range start.base.shape place (record { die = in_dies; superblock = in_blocks; page = omega (arith, below, most) }) in
      let stored : LevelsIn (stored_levels start contents channel.past place) =
      levels_in_range (coding_of start.base) start contents channel.past place (law_of_base start.base begun.fields)
      (in_list (cells_at_start start die sb).pages page levels) in
      from_list (cells_at (blocks_told channel.dies die) sb).pages page d below
      (subst (λ (of : Option (List ℤ)). LevelsIn of) (sym (has.stands.dies_fit.pages_are place range)) stored)

  -- a superblock that was bad at the start is bad
  pub stays_bad : (sb : ℕ) → sb < start.base.shape.superblocks → is_bad (block_at start.base.blocks sb).state ≡ true
      → is_bad (block_at channel.blocks sb).state ≡ true
  stays_bad sb below bad =
      ap (λ (blocks : List BlockBase). is_bad (block_at blocks sb).state) has.stands.blocks_are
      ∙ ap (λ (block : BlockBase). is_bad block.state) (block_is start.base channel.past sb below)
      ∙ bad_is start.base channel.past sb
      ∙ ap (λ (b : Bool). b || list_any (λ (entry : Entry). turns_bad sb entry.kind) channel.past) bad

pub ended_channels_start_again : EndedChannelsStartAgain
ended_channels_start_again view next start contents channel has few = starts_again view next start contents channel has few

pub ended_channels_are_saved : EndedChannelsAreSaved
ended_channels_are_saved head number view start contents channel h can has few small =
    starts_are_saved head number (start_at_end start channel view) h (starts_again view view start contents channel has few)
    (record {
      of_head = record {
        shape = can.of_head.shape;
        session = can.of_head.session;
        number = can.of_head.number;
        entries = can.of_head.entries;
        read_levels = can.of_head.read_levels;
        iterations = can.of_head.iterations;
        step = can.of_head.step;
        law = can.of_head.law;
        weak = can.of_head.weak;
      };
      listed_bad = λ sb below is. stays_bad view view start contents channel has sb below (can.listed_bad sb below is);
      serials = λ row.
          subst (λ (rows : List Row). HasSmallSerial (row_at rows row)) (sym has.stands.rows_are)
          (table_stays_small start contents has.stands.is_past.is_start.fields.session can.serials channel.past
          has.stands.is_past.is_lawful small row);
      levels = λ die sb in_dies in_blocks.
          subst (λ (cells : BlockCells). All (λ (page : List ℤ). list_all is_level page ≡ true) cells.pages)
          (sym (cells_are view view start contents channel has die sb in_dies))
          (levels_at_end view view start contents channel has die sb in_dies in_blocks (can.levels die sb in_dies in_blocks));
    })
