-- Picks: what each answer adds and keeps, and where the policy's view moves on.
use Rattle.std.proofs.Common.{◌≡◌, ℕ, ◌+◌, ◌<◌, ◌≤◌, nat_le, nat_lt, ◌&&◌, Bool, true, false, List, [], ◌∷◌, length, ◌∙◌, ap, subst, Option, Some, None, Result, Ok, Err, refl, inl, inr, arith}
use Rattle.std.specs.Prelude.{IfOk, IfSome, IsTrue, OnErr, option_map}
use Rattle.std.specs.Prelude.{slice_index_or}
use Rattle.std.proofs.lemmas.Bool.{cases_lt, lt-ltb}
use Rattle.std.proofs.lemmas.Bool.Decides.{nat_tests}
use Rattle.std.proofs.lemmas.List.{get_or_past}
use Rattle.std.proofs.lemmas.List.FromFn.{get_or-map-range_with_len, length-map-range_with_len}
use Rattle.chan_dies.specs.DiesState.{DiesState}
use Rattle.chan_tables.specs.Collecting.{IsPickRoom}
use Rattle.chan_tables.specs.TablesState.{IsStopped, TablesState, room_of_step, table_of, tables_after}
use Rattle.chan_tables.specs.declared.rooms.PickRoom.TheVariants as pick_room
use Rattle.ssd_histories.specs.Blocks as Blocks
use Rattle.ssd_histories.specs.FollowedViews.{FollowsTold, view_of}
use Rattle.ssd_histories.specs.PageMap.{live_in}
use Rattle.ssd_histories.specs.Policies.{answer_of, info_of, is_candidate, is_candidate_at, no_info, table_in, view_after_pick}
use Rattle.ssd_histories.specs.Room as Room
use Rattle.ssd_histories.specs.SerialCalls.{entry_of}
use Rattle.ssd_histories.specs.Standing.{view_told}
use Rattle.ssd_histories.specs.Start.{Start}
use Rattle.ssd_histories.specs.States.{is_sealed}
use Rattle.ssd_geo.specs.Superblock.{slots_of}
use Rattle.ssd_geo.specs.declared.base.BlockBase.{BlockBase}
use Rattle.ssd_geo.specs.declared.base.ChannelBase.{ChannelBase}
use Rattle.ssd_geo.specs.declared.entry.Entry.{Entry}
use Rattle.ssd_geo.specs.declared.kind.Kind.{Kind}
use Rattle.ssd_geo.specs.declared.policy_view.PolicyView.{PolicyView}
use Rattle.ssd_geo.specs.declared.shape.Shape.{Shape}
use Rattle.ssd_geo.specs.declared.stop.StepStop.{StepStop}
use Rattle.ssd_geo.specs.declared.superblock.SbInfo.{SbInfo}
use Rattle.ssd_geo.specs.declared.tag.Tag.{Tag}
use Rattle.chan_state.specs.ChannelState.{ChannelState, DiesStay, StandsFor}
use Rattle.chan_state.specs.Collecting.{IsPickedBy, MovesView, Picks, view_of_pick}
use Rattle.chan_state.specs.Kept.{AreFitting, channel_of}
use Rattle.chan_state.specs.Steps.{HasStepRoom, IsRefused}
use Rattle.chan_state.specs.declared.answers.PickAnswer.{PickAnswer}
use Rattle.chan_state.specs.declared.answers.PickAnswer.TheVariants as pick
use Rattle.chan_state.proofs.DieSteps.{both_after}
use Rattle.chan_state.proofs.LookSteps.{dies_stay}
use Rattle.chan_state.proofs.Standing.{same_channel, stands_with}
use Rattle.chan_state.proofs.Taken.{Taken, adds, fitting}
use Rattle.chan_state.proofs.MovedViews.{same_moves, twice}
use Rattle.ssd_histories.proofs.UsedSlots.{first_holds}

pub record PickClauses (old : ChannelState) (was : Option PolicyView) (new : ChannelState) (now : Option PolicyView) (tag : Tag) (result : Result PickAnswer StepStop) : Type 0 where
  pub room : IsRefused (HasStepRoom old) old result
  pub ok : IfOk result (λ answer. Picks old new tag answer)
  pub choice : IfOk result (λ answer. IsPickedBy old was answer)
  pub view : IfOk result (λ answer. now ≡ view_of_pick old was answer)
  pub err : OnErr result (new ≡ old)
  pub err_view : OnErr result (now ≡ was)
  pub dies : DiesStay old new
  pub stands : MovesView old was new now

pub unpicked_clauses : (old : TablesState) (dies : DiesState) (new : TablesState) (was : Option PolicyView) (tag : Tag) (stop : StepStop)
    → IsStopped {A = PickAnswer} (length old.past + room_of_step old.looks ≤ old.limit) (length old.past) (Err stop) → new ≡ record old { room = new.room }
    → PickClauses (channel_of old dies) was (channel_of new dies) was tag (Err stop)
unpicked_clauses old dies new was tag stop room same = record {
  room = room;
  ok = tt;
  choice = tt;
  view = tt;
  err = same_channel old dies new same;
  err_view = refl;
  dies = dies_stay old dies new;
  stands = same_moves old dies new was was same refl;
}

pub busy_clauses : (old : TablesState) (dies : DiesState) (new : TablesState) (was : Option PolicyView) (tag : Tag) (sb : ℕ)
    → length old.past + room_of_step old.looks ≤ old.limit → new ≡ record old { room = new.room } → IsPickRoom new (pick_room.Busy sb)
    → PickClauses (channel_of old dies) was (channel_of new dies) was tag (Ok (pick.Busy sb))
busy_clauses old dies new was tag sb room same is = record {
  room = room;
  ok = (subst (λ (t : TablesState). Blocks.victim_in t.blocks ≡ Some sb) same is, same_channel old dies new same);
  choice = tt;
  view = refl;
  err = tt;
  err_view = tt;
  dies = dies_stay old dies new;
  stands = same_moves old dies new was was same refl;
}

pub none_free_clauses : (old : TablesState) (dies : DiesState) (new : TablesState) (was : Option PolicyView) (tag : Tag)
    → length old.past + room_of_step old.looks ≤ old.limit → new ≡ record old { room = new.room } → IsPickRoom new pick_room.ReadOnly
    → PickClauses (channel_of old dies) was (channel_of new dies) was tag (Ok pick.ReadOnly)
none_free_clauses old dies new was tag room same is =
    let before : IsPickRoom old pick_room.ReadOnly = subst (λ (t : TablesState). IsPickRoom t pick_room.ReadOnly) same is in
    record {
      room = room;
      ok = (before.0, before.1, same_channel old dies new same);
      choice = tt;
      view = refl;
      err = tt;
      err_view = tt;
      dies = dies_stay old dies new;
      stands = same_moves old dies new was was same refl;
    }

pub no_garbage_clauses : (old : TablesState) (dies : DiesState) (new : TablesState) (was : Option PolicyView) (tag : Tag)
    → length old.past + room_of_step old.looks ≤ old.limit → new ≡ record old { room = new.room } → IsPickRoom new pick_room.NoGarbage
    → PickClauses (channel_of old dies) was (channel_of new dies) was tag (Ok pick.NoGarbage)
no_garbage_clauses old dies new was tag room same is =
    let before : IsPickRoom old pick_room.NoGarbage = subst (λ (t : TablesState). IsPickRoom t pick_room.NoGarbage) same is in
    record {
      room = room;
      ok = (before.0, omega (arith, before.1), before.2, same_channel old dies new same);
      choice = tt;
      view = refl;
      err = tt;
      err_view = tt;
      dies = dies_stay old dies new;
      stands = same_moves old dies new was was same refl;
    }

-- a candidate of a channel's table is one of its superblocks, and is sealed
pub record IsSealedOne (old : TablesState) (sb : ℕ) : Type 0 where
  pub in_range : sb < old.shape.superblocks
  pub sealed : IsTrue (is_sealed (Blocks.block_at old.blocks sb).state)

pub candidate_is : (old : TablesState) (sb : ℕ) → length old.blocks ≡ old.shape.superblocks → IsTrue (is_candidate_at (table_of old) sb) → IsSealedOne old sb
candidate_is old sb count is = elim (cases_lt sb (length old.blocks)) [
  | inl lt ↦ let here : slice_index_or (table_of old) sb no_info ≡ info_of (slots_of old.shape.pages old.shape.dies) old.blocks old.rows old.looks sb =
      get_or-map-range_with_len (info_of (slots_of old.shape.pages old.shape.dies) old.blocks old.rows old.looks) 0 (length old.blocks) sb sb no_info lt (omega arith) in
      let candidate : is_candidate (info_of (slots_of old.shape.pages old.shape.dies) old.blocks old.rows old.looks sb) ≡ true = subst (λ (info : SbInfo). is_candidate info ≡ true) here is in
      record {
        in_range = omega (arith, count, lt);
        sealed = first_holds (is_sealed (Blocks.block_at old.blocks sb).state) (nat_lt (live_in old.rows sb) (slots_of old.shape.pages old.shape.dies)) candidate;
      }
  | inr le ↦ let size : length (table_of old) ≡ length old.blocks = length-map-range_with_len (info_of (slots_of old.shape.pages old.shape.dies) old.blocks old.rows old.looks) 0 (length old.blocks) in
      let there : slice_index_or (table_of old) sb no_info ≡ no_info = get_or_past (table_of old) sb no_info (omega (arith, size, le)) in
      let none : is_candidate no_info ≡ true = subst (λ (info : SbInfo). is_candidate info ≡ true) there is in
      absurd (apart none)
]
  where
    apart : false ≡ true → ⊥
    apart e = cc

pick_taken : (old : TablesState) (dies : DiesState) (roomy new : TablesState) (tag : Tag) (sb items : ℕ) → AreFitting old dies items → IsTrue (is_candidate_at (table_of old) sb)
    → roomy ≡ record old { room = roomy.room } → new ≡ tables_after roomy tag (Kind.Pick sb) → Taken old dies new dies tag (Kind.Pick sb) []
pick_taken old dies roomy new tag sb items fit candidate same e = record {
  tables_are = both_after old roomy new tag (Kind.Pick sb) same e;
  shape_stays = refl;
  change = record { dies = refl; sum_is = refl };
  allows = (candidate_is old sb fit.blocks_count candidate).sealed;
}

-- the table of a channel that stands for a start is the past's
table_is : (old : TablesState) (dies : DiesState) (view : Option PolicyView) (start : Start) (contents : List (Tag × List ℕ)) → StandsFor (channel_of old dies) view start contents
    → table_of old ≡ Room.table_of start.base old.past
table_is old dies view start contents stands =
    λ i. table_in (slots_of (stands.shape_is i).pages (stands.shape_is i).dies) (stands.blocks_are i) (stands.rows_are i) (stands.looks_are i)

-- a pick follows the view that is told, where it is that view's answer
pick_follows : (start : Start) (past : List Entry) (tag : Tag) (sb : ℕ) (was : Option PolicyView) (table : List SbInfo) → FollowsTold start.base start.view past → was ≡ view_told start past
    → table ≡ Room.table_of start.base past → IfSome was (λ view. sb ≡ answer_of view table) → FollowsTold start.base start.view (entry_of tag (Kind.Pick sb) ∷ past)
pick_follows start past tag sb was table follows view_is table_is choice = by_view start.view follows (subst (λ (o : Option PolicyView). IfSome o (λ view. sb ≡ answer_of view table)) view_is choice)
  where
    by_view : (o : Option PolicyView) → FollowsTold start.base o past → IfSome (option_map (λ view. view_of start.base view past) o) (λ view. sb ≡ answer_of view table)
        → FollowsTold start.base o (entry_of tag (Kind.Pick sb) ∷ past)
    by_view None f h = tt
    by_view (Some view) f h = (f, subst (λ (t : List SbInfo). sb ≡ answer_of (view_of start.base view past) t) table_is h)

pub picked_clauses : (old : TablesState) (dies : DiesState) (roomy new : TablesState) (was now : Option PolicyView) (table : List SbInfo) (tag : Tag) (sb items : ℕ) → AreFitting old dies items
    → length old.past + room_of_step old.looks ≤ old.limit → roomy ≡ record old { room = roomy.room } → IsPickRoom roomy pick_room.Candidates → table ≡ table_of roomy
    → IsTrue (is_candidate_at table sb) → IfSome was (λ view. sb ≡ answer_of view table) → now ≡ option_map (λ view. view_after_pick view table) was
    → new ≡ tables_after roomy tag (Kind.Pick sb) → PickClauses (channel_of old dies) was (channel_of new dies) now tag (Ok (pick.Picked sb))
picked_clauses old dies roomy new was now table tag sb items fit room same is table_are candidate choice view e =
    let before : IsPickRoom old pick_room.Candidates = subst (λ (t : TablesState). IsPickRoom t pick_room.Candidates) same is in
    let told : table ≡ table_of old = table_are ∙ ap {B = List SbInfo} table_of same in
    let candidate_then : IsTrue (is_candidate_at (table_of old) sb) = subst (λ (t : List SbInfo). IsTrue (is_candidate_at t sb)) told candidate in
    let choice_then : IfSome was (λ v. sb ≡ answer_of v (table_of old)) = subst (λ (t : List SbInfo). IfSome was (λ v. sb ≡ answer_of v t)) told choice in
    let view_then : now ≡ option_map (λ v. view_after_pick v (table_of old)) was = subst (λ (t : List SbInfo). now ≡ option_map (λ v. view_after_pick v t) was) told view in
    let taken : Taken old dies new dies tag (Kind.Pick sb) [] = pick_taken old dies roomy new tag sb items fit candidate_then same e in
    record {
      room = room;
      ok = (before.0, omega (arith, before.1), candidate_then, adds old dies new dies tag (Kind.Pick sb) [] taken);
      choice = choice_then;
      view = view_then;
      err = tt;
      err_view = tt;
      dies = dies_stay old dies new;
      stands = λ start contents stands.
          let base : ChannelBase = start.base in
          let past : List Entry = old.past in
          let tables : table_of old ≡ Room.table_of base past = table_is old dies was start contents stands in
          let sb_low : sb < base.shape.superblocks =
          subst (λ (shape : Shape). sb < shape.superblocks) stands.shape_is (candidate_is old sb fit.blocks_count candidate_then).in_range in
          let moved : option_map (λ v. view_after_pick v (table_of old)) was ≡ view_told start (entry_of tag (Kind.Pick sb) ∷ past) =
          (λ i. option_map (λ v. view_after_pick v (tables i)) (stands.view_is i)) ∙ twice (λ v. view_after_pick v (Room.table_of base past)) (λ v. view_of base v past) start.view in
          stands_with old dies new dies tag (Kind.Pick sb) [] items was now start contents fit taken stands
          (record {
            lawful = record {
              in_range = lt-ltb sb base.shape.superblocks sb_low;
              meets = record {
                no_victim = subst (λ (list : List BlockBase). Blocks.victim_in list ≡ None) stands.blocks_are before.0;
                has_free = subst (λ (list : List BlockBase). nat_le 1 (Blocks.free_blocks_in list) ≡ true) stands.blocks_are (at_least (Blocks.free_blocks_in old.blocks) before.1);
                is_candidate = subst (λ (t : List SbInfo). IsTrue (is_candidate_at t sb)) tables candidate_then;
              };
            };
            word_is = refl;
          })
          (pick_follows start past tag sb was (table_of old) stands.is_past.follows stands.view_is tables choice_then)
          (view_then ∙ moved);
    }
  where
    at_least : (n : ℕ) → 0 < n → nat_le 1 n ≡ true
    at_least n lt = grind (arith, nat_tests)

pub picked_fitting : (old : TablesState) (dies : DiesState) (roomy new : TablesState) (table : List SbInfo) (tag : Tag) (sb items : ℕ) → AreFitting old dies items
    → roomy ≡ record old { room = roomy.room } → table ≡ table_of roomy → IsTrue (is_candidate_at table sb)
    → new ≡ tables_after roomy tag (Kind.Pick sb) → AreFitting new dies items
picked_fitting old dies roomy new table tag sb items fit same table_are candidate e =
    let told : table ≡ table_of old = table_are ∙ ap {B = List SbInfo} table_of same in
    fitting old dies new dies tag (Kind.Pick sb) [] items fit
    (pick_taken old dies roomy new tag sb items fit (subst (λ (t : List SbInfo). IsTrue (is_candidate_at t sb)) told candidate) same e)

-- the one picked may be picked, over the tables that took memory
pub picked_allowed : (roomy : TablesState) (dies : DiesState) (table : List SbInfo) (sb items : ℕ) → AreFitting roomy dies items → table ≡ table_of roomy → IsTrue (is_candidate_at table sb)
    → IsSealedOne roomy sb
picked_allowed roomy dies table sb items fit table_are candidate =
    candidate_is roomy sb fit.blocks_count (subst (λ (t : List SbInfo). IsTrue (is_candidate_at t sb)) table_are candidate)

-- a channel's table has an item for each superblock
pub table_size : (tables : TablesState) → length (table_of tables) ≡ length tables.blocks
table_size tables = length-map-range_with_len (info_of (slots_of tables.shape.pages tables.shape.dies) tables.blocks tables.rows tables.looks) 0 (length tables.blocks)
