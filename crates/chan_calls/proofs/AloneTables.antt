-- What the tables of a channel say is what the past says of which each base for which the channel
-- stands was the beginning.
use Rattle.std.proofs.Common.{◌≡◌, ℕ, suc, zero, ◌+◌, ◌<◌, ◌&&◌, cond, Bool, true, false, List, [], ◌∷◌, Option, None, Some, refl, sym, ap, subst, ◌∙◌, arith}
use Rattle.std.specs.Prelude.{IsTrue, IsFalse, nat_le, nat_lt, is_none, not}
use Rattle.std.proofs.lemmas.Bool.Decides.{nat_tests}
use Rattle.std.proofs.lemmas.List.Sums.{sum_by-cons}
use Rattle.chan_tables.specs.Copying.{is_worn_with}
use Rattle.chan_state.specs.ChannelState.{ChannelState, StandsFor}
use Rattle.chan_state.specs.Collecting as tables
use Rattle.chan_state.specs.Writing.{is_full_now, is_worn_now, table_now}
use Rattle.ssd_histories.specs.Blocks.{are_blocks_full, blocks_have_room, free_blocks_in, victim_in}
use Rattle.ssd_histories.specs.Lawful.{MayErase}
use Rattle.ssd_histories.specs.OpenLooks.{looks_in}
use Rattle.ssd_histories.specs.PageMap.{live_in}
use Rattle.ssd_histories.specs.PastBlocks.{blocks_of, slots_in}
use Rattle.ssd_histories.specs.PastRows.{rows_of}
use Rattle.ssd_histories.specs.Policies.{count_of_candidates, is_candidate, is_candidate_at, table_in}
use Rattle.ssd_histories.specs.Room.{count_of_free, count_of_garbage, has_host_room, is_full, is_worn, live_of, pins_of, table_of, victim_of}
use Rattle.ssd_histories.specs.Rounds.{needs_room}
use Rattle.ssd_histories.specs.SerialCalls.{may_pick}
use Rattle.ssd_histories.specs.Start.{Start}
use Rattle.ssd_geo.specs.Superblock.{slots_of}
use Rattle.ssd_geo.specs.declared.base.BlockBase.{BlockBase}
use Rattle.ssd_geo.specs.declared.look.Look.{Look}
use Rattle.ssd_geo.specs.declared.policy_view.PolicyView.{PolicyView}
use Rattle.ssd_geo.specs.declared.row.Row.{Row}
use Rattle.ssd_geo.specs.declared.shape.Shape.{Shape}
use Rattle.ssd_geo.specs.declared.superblock.SbInfo.{SbInfo}
use Rattle.ssd_geo.specs.declared.tag.Tag.{Tag}
use Rattle.chan_calls.specs.Alone.{view_of_lent}
use Rattle.chan_calls.specs.Stepping.{BaseFact, OfEachBase}

-- none of three tests
none_of : (a b c : Bool) → IsFalse a → IsFalse b → IsFalse c → IsTrue (not a && not b && not c)
none_of false false false x y z = refl
none_of false false true x y z = absurd (cc)
none_of false true c x y z = absurd (cc)
none_of true b c x y z = absurd (cc)

-- a candidate counts
more : (b : Bool) (n : ℕ) → IsTrue b → 0 < cond b 1 0 + n
more true n h = omega arith
more false n h = absurd (cc)

also : (b : Bool) (n : ℕ) → 0 < n → 0 < cond b 1 0 + n
also true n h = omega arith
also false n h = omega arith

pub candidate_counts : (table : List SbInfo) (sb : ℕ) → IsTrue (is_candidate_at table sb) →
    0 < count_of_candidates table
candidate_counts [] zero h = absurd (cc)
candidate_counts [] (suc sb) h = absurd (cc)
candidate_counts (info ∷ table) zero h =
    subst (λ (n : ℕ). 0 < n)
    (sym (sum_by-cons (λ (i : SbInfo). cond (is_candidate i) 1 0) info table))
    (more (is_candidate info) (count_of_candidates table) h)
candidate_counts (info ∷ table) (suc sb) h =
    subst (λ (n : ℕ). 0 < n)
    (sym (sum_by-cons (λ (i : SbInfo). cond (is_candidate i) 1 0) info table))
    (also (is_candidate info) (count_of_candidates table) (candidate_counts table sb h))

may_pick_of : (victim : Option ℕ) (free garbage : ℕ) → victim ≡ None → 0 < free → 0 < garbage →
    IsTrue (is_none victim && nat_le 1 free && nat_lt 0 garbage)
may_pick_of None free garbage none some_free some_garbage = grind (arith, nat_tests)
may_pick_of (Some sb) free garbage none some_free some_garbage = absurd (cc)

module _ (channel : ChannelState) (was : Option PolicyView) (start : Start)
    (contents : List (Tag × List ℕ)) (stands : StandsFor channel was start contents) where
  pub room_is : blocks_have_room channel.blocks ≡ has_host_room start.base channel.past
  room_is = ap blocks_have_room stands.blocks_are

  pub victim_is : victim_in channel.blocks ≡ victim_of start.base channel.past
  victim_is = ap victim_in stands.blocks_are

  pub free_is : free_blocks_in channel.blocks ≡ count_of_free start.base channel.past
  free_is = ap free_blocks_in stands.blocks_are

  pub live_is : (sb : ℕ) → live_in channel.rows sb ≡ live_of start.base channel.past sb
  live_is sb = ap (λ (rows : List Row). live_in rows sb) stands.rows_are

  pub pins_are : (sb : ℕ) → looks_in channel.looks sb ≡ pins_of channel.past sb
  pins_are sb = ap (λ (looks : List (Tag × Look)). looks_in looks sb) stands.looks_are

  slots_are : slots_of channel.shape.pages channel.shape.dies ≡ slots_in start.base
  slots_are = ap (λ (shape : Shape). slots_of shape.pages shape.dies) stands.shape_is

  pub worn_is : is_worn_now channel ≡ is_worn start.base channel.past
  worn_is =
      ap (λ (slots : ℕ). is_worn_with slots channel.blocks channel.rows) slots_are
      ∙ ap (λ (blocks : List BlockBase). is_worn_with (slots_in start.base) blocks channel.rows)
      stands.blocks_are
      ∙ ap (λ (rows : List Row). is_worn_with (slots_in start.base)
      (blocks_of start.base channel.past) rows) stands.rows_are

  pub table_is : table_now channel ≡ table_of start.base channel.past
  table_is =
      ap (λ (slots : ℕ). table_in slots channel.blocks channel.rows channel.looks) slots_are
      ∙ ap (λ (blocks : List BlockBase). table_in (slots_in start.base) blocks channel.rows
      channel.looks) stands.blocks_are
      ∙ ap (λ (rows : List Row). table_in (slots_in start.base) (blocks_of start.base channel.past)
      rows channel.looks) stands.rows_are
      ∙ ap (λ (looks : List (Tag × Look)). table_in (slots_in start.base)
      (blocks_of start.base channel.past) (rows_of start.base channel.past) looks) stands.looks_are

  pub garbage_is : count_of_candidates (table_now channel)
      ≡ count_of_garbage start.base channel.past
  garbage_is = ap count_of_candidates table_is

  pub full_is : is_full_now channel ≡ is_full start.base channel.past
  full_is =
      ap (λ (blocks : List BlockBase). are_blocks_full blocks
      (count_of_candidates (table_now channel))) stands.blocks_are
      ∙ ap (are_blocks_full (blocks_of start.base channel.past)) garbage_is

  pub needs_room_of : IsFalse (blocks_have_room channel.blocks) → IsFalse (is_worn_now channel) →
      IsFalse (is_full_now channel) → IsTrue (needs_room start.base channel.past)
  needs_room_of no_room not_worn not_full =
      none_of (has_host_room start.base channel.past) (is_worn start.base channel.past)
      (is_full start.base channel.past) (sym room_is ∙ no_room) (sym worn_is ∙ not_worn)
      (sym full_is ∙ not_full)

  pub may_pick_now : (sb : ℕ) → victim_in channel.blocks ≡ None →
      0 < free_blocks_in channel.blocks → IsTrue (is_candidate_at (table_now channel) sb) →
      IsTrue (may_pick start.base channel.past)
  may_pick_now sb none some_free is =
      may_pick_of (victim_of start.base channel.past) (count_of_free start.base channel.past)
      (count_of_garbage start.base channel.past) (sym victim_is ∙ none)
      (subst (λ (n : ℕ). 0 < n) free_is some_free)
      (subst (λ (n : ℕ). 0 < n) garbage_is (candidate_counts (table_now channel) sb is))

  pub may_erase_of : (sb : ℕ) → tables.MayErase channel sb →
      MayErase start.base channel.past sb
  may_erase_of sb may = record {
    is_victim = sym victim_is ∙ may.is_victim;
    no_live = sym (live_is sb) ∙ may.no_live;
    no_pin = sym (pins_are sb) ∙ may.no_pin;
  }

-- a fact of each base for which a channel stands
pub of_each : (channel : ChannelState) (was : Option PolicyView) (reference : ℕ) (fact : BaseFact) →
    ((start : Start) (contents : List (Tag × List ℕ)) → StandsFor channel was start contents →
    fact start.base) → OfEachBase (view_of_lent channel reference) (StandsFor channel was) fact
of_each channel was reference fact each = λ start contents of stands. each start contents stands
