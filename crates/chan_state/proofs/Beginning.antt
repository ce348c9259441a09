-- A channel that begins stands for its start.
use Rattle.std.proofs.Common.{◌≡◌, ℕ, ◌+◌, ◌<◌, ◌≤◌, ◌^◌, ◌&&◌, Bool, true, false, List, [], length, Option, Some, None, refl, sym, ◌∙◌, subst, inl, inr, arith, All}
use Rattle.std.specs.Prelude.{IsTrue, IsSomeAnd, pos, neg_ℤ, int_le, int_lt, option_map}
use Rattle.std.proofs.lemmas.Int.{ints}
use Rattle.std.proofs.lemmas.Bool.{cases_lt, ltb-true, and_parts}
use Rattle.std.proofs.lemmas.List.{ext_get_or, get_or-map, get_or_past, length-map}
use Rattle.std.proofs.lemmas.List.Elements.{All-weaker}
use Rattle.std.proofs.lemmas.List.FromFn.{get_or-map-range_with_len, length-map-range_with_len}
use Rattle.chan_dies.specs.DiesState.{AreMounted, DiesState, IsPlanOf, blocks_in, die_at, no_die}
use Rattle.chan_fits.specs.DiesFit.{AreDiesOfStart, plan_of}
use Rattle.chan_fits.specs.FitLaws.{FitsItsStart}
use Rattle.chan_fits.proofs.EntryFits.{dies_fit_their_start}
use Rattle.chan_fits.proofs.Frontiers.{state_at_start}
use Rattle.chan_tables.specs.TablesState.{HasFewErases, NamesUsedIn, TablesState}
use Rattle.onfi_cmd.specs.DieState.{DieState}
use Rattle.onfi_cmd.specs.declared.plan.DiePlan.{DiePlan}
use Rattle.ssd_histories.specs.Blocks.{blank_block, block_at}
use Rattle.ssd_geo.specs.Cells.{IsCellLaw}
use Rattle.ssd_histories.specs.PageMap.{row_at}
use Rattle.ssd_histories.specs.PastBlocks.{block_of, blocks_of}
use Rattle.ssd_histories.specs.PastRows.{row_of, rows_of}
use Rattle.ssd_histories.specs.FollowedViews.{FollowsTold, view_of}
use Rattle.ssd_histories.specs.Standing.{HasFields, IsDueBlock, IsStart, names_used}
use Rattle.ssd_histories.specs.Start.{Start}
use Rattle.ssd_geo.specs.declared.base.BlockBase.{BlockBase}
use Rattle.ssd_geo.specs.declared.base.ChannelBase.{ChannelBase}
use Rattle.ssd_geo.specs.declared.policy_view.PolicyView.{PolicyView}
use Rattle.ssd_geo.specs.declared.row.Row.{Row}
use Rattle.chan_state.specs.Kept.{AreFitting, channel_of}
use Rattle.chan_state.specs.Starting.{HasBegun, MayBegin, start_of}
use Rattle.ssd_histories.proofs.StartRows.{rows_at_start}

-- rows that name used slots
names_used_in : (base : ChannelBase) (row : Row) → IsTrue (names_used base row) → NamesUsedIn base.blocks row
names_used_in base Row.Empty h = tt
names_used_in base Row.Lost h = tt
names_used_in base (Row.Page slot serial) h = ltb-true slot.index (block_at base.blocks slot.sb).used h

pub used_rows : (start : Start) → IsStart start → (row : ℕ) → NamesUsedIn start.base.blocks (row_at start.base.rows row)
used_rows start is_start row =
    elim (cases_lt row (length start.base.rows)) [
      | inl lt ↦ names_used_in start.base (row_at start.base.rows row) (is_start.rows_used row Row.Empty lt)
      | inr le ↦ subst (NamesUsedIn start.base.blocks) (sym (get_or_past start.base.rows row Row.Empty le)) tt
    ]

no_erase : (n : ℕ) → n ≡ n + 0
no_erase n = omega arith

blocks_at_start : (start : Start) → IsStart start → start.base.blocks ≡ blocks_of start.base []
blocks_at_start start is_start =
    ext_get_or blank_block start.base.blocks (blocks_of start.base [])
    (is_start.blocks_count ∙ sym (length-map-range_with_len (block_of start.base []) 0 start.base.shape.superblocks))
    (λ sb lt.
    let within : sb < start.base.shape.superblocks = omega (arith, is_start.blocks_count) in
    let block : BlockBase = block_at start.base.blocks sb in
    let same : block ≡ block_of start.base [] sb =
    λ i. record { state = sym (state_at_start start sb is_start within) i; erases = no_erase block.erases i; used = block.used } in
    same ∙ sym (get_or-map-range_with_len (block_of start.base []) 0 start.base.shape.superblocks sb sb blank_block within (omega arith)))

-- the cell law of a base is one
pub law_of_base : (base : ChannelBase) → HasFields base → IsCellLaw base.law
law_of_base base fields =
    let erased = and_parts (int_le (neg_ℤ (pos 8192)) base.law.erased) (int_le base.law.erased (pos 8190)) fields.erased in
    let programmed = and_parts (int_lt base.law.erased base.law.programmed) (int_le base.law.programmed (pos 8191)) fields.programmed in
    record {
      erased_low = grind (arith, ints, erased.0);
      programmed_low = grind (arith, ints, programmed.0);
      programmed_high = grind (arith, ints, programmed.1);
      spread_high = fields.spread;
    }

-- ---- the dies

pub dies_of_start : (base : ChannelBase) (limit : ℕ) (dies : List DieState) (view : Option PolicyView) → MayBegin base limit dies view → AreDiesOfStart (start_of base limit dies view) dies
dies_of_start base limit dies view may die lt =
    let low : die < length dies = omega (arith, may.is_start.dies_count, length-map dies blocks_in, lt) in
    record {
      plan_is = (may.dies_are die lt).plan_is;
      blocks_are = sym (get_or-map blocks_in dies die no_die [] low);
      blocks_count = (may.dies_are die lt).blocks_count;
      works_are = sym (get_or-map (λ (d : DieState). d.work_count) dies die no_die 0 low);
      loads_are = sym (get_or-map (λ (d : DieState). d.load_count) dies die no_die 0 low);
    }

planned : (base : ChannelBase) (die : ℕ) (plan : Option DiePlan) → HasFields base → die < base.shape.dies → plan ≡ Some (plan_of base die) → IsSomeAnd plan (IsPlanOf base.shape die)
planned base die plan fields lt e =
    subst (λ (p : Option DiePlan). IsSomeAnd p (IsPlanOf base.shape die)) (sym e) (record {
      is_plan = record { channel = fields.channel; die = lt; law = law_of_base base fields };
      shape_is = refl;
      number_is = refl;
    })

pub mounted : (base : ChannelBase) (limit : ℕ) (dies : List DieState) (view : Option PolicyView) → MayBegin base limit dies view → AreMounted base.shape dies
mounted base limit dies view may = record {
  count_is = sym (length-map dies blocks_in) ∙ may.is_start.dies_count;
  each = λ die lt. record {
    mounted = planned base die (die_at dies die).plan may.is_start.fields lt (may.dies_are die lt).plan_is;
    tells = (may.dies_are die lt).tells;
  };
}

-- ---- the channel

-- the tables of a channel that begins, with the memory that they took
abbrev pub first_tables : ChannelBase → ℕ → ℕ → TablesState
first_tables base limit room = record {
  shape = base.shape;
  session = base.session;
  limit = limit;
  rows = base.rows;
  blocks = base.blocks;
  looks = [];
  past = [];
  room = room;
}

abbrev pub first_dies : ChannelBase → List DieState → DiesState
first_dies base dies = record { shape = base.shape; dies = dies; sum = base.sum }

told_first : (base : ChannelBase) (view : Option PolicyView) → FollowsTold base view []
told_first base None = tt
told_first base (Some v) = tt

view_first : (start : Start) (o : Option PolicyView) → o ≡ option_map (λ v. view_of start.base v []) o
view_first start None = refl
view_first start (Some v) = refl

pub begun : (base : ChannelBase) (limit room : ℕ) (dies : List DieState) (view : Option PolicyView) → MayBegin base limit dies view
    → HasBegun base limit dies view (channel_of (first_tables base limit room) (first_dies base dies))
begun base limit room dies view may = record {
  no_entry = refl;
  limit_is = refl;
  shape_is = refl;
  dies_are = refl;
  stands = λ contents.
      let start : Start = start_of base limit dies view in
      let fits : FitsItsStart start contents dies = dies_fit_their_start start contents dies may.is_start (dies_of_start base limit dies view may) in
      record {
        is_past = record { is_start = may.is_start; is_lawful = tt; follows = told_first base view };
        shape_is = refl;
        session_is = refl;
        limit_is = refl;
        rows_are = rows_at_start start may.is_start;
        blocks_are = blocks_at_start start may.is_start;
        looks_are = refl;
        dies_fit = fits.fits;
        view_is = view_first start view;
      };
}

pub few_at_start : (base : ChannelBase) → All (λ (block : BlockBase). block.erases ≤ 2 ^ 31) base.blocks → All (HasFewErases 0) base.blocks
few_at_start base few = All-weaker (λ (block : BlockBase). block.erases ≤ 2 ^ 31) (HasFewErases 0) (λ block h. omega (arith, h)) base.blocks few

pub begun_fitting : (base : ChannelBase) (limit room : ℕ) (dies : List DieState) (view : Option PolicyView) (items : ℕ) → MayBegin base limit dies view → items ≡ base.shape.superblocks
    → AreFitting (first_tables base limit room) (first_dies base dies) items
begun_fitting base limit room dies view items may count =
    let start : Start = start_of base limit dies view in
    record {
      same_shape = refl;
      items_count = count;
      blocks_count = may.is_start.blocks_count;
      few_superblocks = omega (arith, may.is_start.blocks_count, may.is_start.blocks_sound.few);
      limit_high = may.is_start.limit_high;
      few_erases = few_at_start base may.is_start.few_erases;
      due = (dies_fit_their_start start [] dies may.is_start (dies_of_start base limit dies view may)).due;
    }

-- what the policy tells doesn't matter for whether a channel may begin
pub any_view : (base : ChannelBase) (limit : ℕ) (dies : List DieState) (was now : Option PolicyView) → MayBegin base limit dies was → MayBegin base limit dies now
any_view base limit dies was now may = record {
  is_start = record {
    blocks_count = may.is_start.blocks_count;
    blocks_sound = may.is_start.blocks_sound;
    few_erases = may.is_start.few_erases;
    rows_count = may.is_start.rows_count;
    rows_within = may.is_start.rows_within;
    rows_apart = may.is_start.rows_apart;
    rows_used = may.is_start.rows_used;
    sum_bytes = may.is_start.sum_bytes;
    sum_of_none = may.is_start.sum_of_none;
    sum_codewords = may.is_start.sum_codewords;
    fields = may.is_start.fields;
    limit_low = may.is_start.limit_low;
    limit_high = may.is_start.limit_high;
    dies_count = may.is_start.dies_count;
    blocks_due = λ die sb lt within.
        let due : IsDueBlock (start_of base limit dies was) die sb = may.is_start.blocks_due die sb lt within in
        record { at_least = due.at_least; at_most = due.at_most; exact = due.exact; erases = due.erases; whole = due.whole };
  };
  dies_are = may.dies_are;
}
