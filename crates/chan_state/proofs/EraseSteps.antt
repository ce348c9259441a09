-- Erases: what each answer adds and keeps, which die counted a fault, and where the policy's view moves on.
use Rattle.std.proofs.Common.{◌≡◌, ℕ, ◌+◌, ◌-◌, ◌^◌, ◌<◌, ◌≤◌, nat_lt, List, [], ◌∷◌, length, sym, ◌∙◌, ap, subst, Option, Some, None, Result, Ok, Err, refl, arith}
use Rattle.std.specs.Prelude.{IfOk, OnErr, option_map}
use Rattle.chan_dies.specs.DiesState.{DiesState}
use Rattle.chan_dies.specs.Erasing.{CanCountErases, EndsErase, ErasesBlocks}
use Rattle.chan_dies.specs.declared.ends.EraseEnd.{EraseEnd}
use Rattle.chan_fits.specs.FitLaws.{DiesChange, TableAllows}
use Rattle.chan_fits.proofs.DueDies.{can_count_erases, victim_is_good}
use Rattle.chan_fits.proofs.EndedPrograms as Ended
use Rattle.chan_tables.specs.Collecting.{IsEraseRoom, MayErase}
use Rattle.chan_tables.specs.TablesState.{HasSpare, IsStopped, TablesState, room_of_step, tables_after}
use Rattle.chan_tables.specs.declared.rooms.EraseRoom.TheVariants as erase_room
use Rattle.onfi_cmd.specs.DieState.{DieState}
use Rattle.ssd_geo.specs.Coding.{coding_of}
use Rattle.ssd_geo.specs.Ladder.{LadderState}
use Rattle.ssd_histories.specs.Blocks as Blocks
use Rattle.ssd_histories.specs.FollowedViews.{FollowsTold, view_of}
use Rattle.ssd_histories.specs.Lawful as Lawful
use Rattle.ssd_histories.specs.Lawful.{IsLawfulEntry}
use Rattle.ssd_histories.specs.OpenLooks.{looks_in}
use Rattle.ssd_histories.specs.PageMap.{live_in}
use Rattle.ssd_histories.specs.PastPages.{ladder_of, senses_of, word_programmed}
use Rattle.ssd_histories.specs.Policies.{view_after_erase}
use Rattle.ssd_histories.specs.Room as Room
use Rattle.ssd_histories.specs.SerialCalls.{entry_of}
use Rattle.ssd_histories.specs.Standing.{view_told}
use Rattle.ssd_histories.specs.Start.{Start}
use Rattle.ssd_geo.specs.declared.base.BlockBase.{BlockBase}
use Rattle.ssd_geo.specs.declared.base.ChannelBase.{ChannelBase}
use Rattle.ssd_geo.specs.declared.entry.Entry.{Entry}
use Rattle.ssd_geo.specs.declared.look.Look.{Look}
use Rattle.ssd_geo.specs.declared.policy_view.PolicyView.{PolicyView}
use Rattle.ssd_geo.specs.declared.row.Row.{Row}
use Rattle.ssd_geo.specs.declared.shape.Shape.{Shape}
use Rattle.ssd_geo.specs.declared.stop.StepStop.{StepStop}
use Rattle.ssd_geo.specs.declared.tag.Tag.{Tag}
use Rattle.chan_state.specs.ChannelState.{ChannelState, Count}
use Rattle.chan_state.specs.Collecting as Collecting
use Rattle.chan_state.specs.Collecting.{Erases, IsPickedBy, MovesView, Picks, fault_of_erase, view_of_erase, view_of_pick}
use Rattle.chan_state.specs.Kept.{AreFitting, answer_of_end, channel_of, kind_of_erase, view_after_end}
use Rattle.chan_state.specs.Steps.{AddsEntry, CountAt, HasStepRoom, IsRefused}
use Rattle.chan_state.specs.declared.answers.EraseAnswer.{EraseAnswer}
use Rattle.chan_state.specs.declared.answers.EraseAnswer.TheVariants as erase
use Rattle.chan_state.proofs.DieSteps.{both_after, counts}
use Rattle.chan_state.proofs.Standing.{same_channel, stands_with}
use Rattle.chan_state.proofs.Taken.{Taken, adds, few_at, fitting}
use Rattle.chan_state.proofs.WriteSteps.{no_counts}
use Rattle.chan_state.proofs.MovedViews.{same_moves, twice}
use Rattle.std.proofs.lemmas.Bool.{lt-ltb, and_from}

pub record EraseClauses (old : ChannelState) (was : Option PolicyView) (new : ChannelState) (now : Option PolicyView) (tag : Tag) (sb : ℕ) (result : Result EraseAnswer StepStop) : Type 0 where
  pub room : IsRefused (HasStepRoom old) old result
  pub ok : IfOk result (λ answer. Erases old new tag sb answer)
  pub faults : CountAt fault_of_erase old new result
  pub view : IfOk result (λ answer. now ≡ view_of_erase was sb answer)
  pub err_view : OnErr result (now ≡ was)
  pub stands : MovesView old was new now

pub unerased_clauses : (old : TablesState) (dies : DiesState) (new : TablesState) (was : Option PolicyView) (tag : Tag) (sb : ℕ) (stop : StepStop)
    → IsStopped {A = EraseAnswer} (length old.past + room_of_step old.looks ≤ old.limit) (length old.past) (Err stop) → new ≡ record old { room = new.room }
    → EraseClauses (channel_of old dies) was (channel_of new dies) was tag sb (Err stop)
unerased_clauses old dies new was tag sb stop room same = record {
  room = room;
  ok = tt;
  faults = same_channel old dies new same;
  view = tt;
  err_view = refl;
  stands = same_moves old dies new was was same refl;
}

pub no_victim_clauses : (old : TablesState) (dies : DiesState) (new : TablesState) (was : Option PolicyView) (tag : Tag) (sb : ℕ)
    → length old.past + room_of_step old.looks ≤ old.limit → new ≡ record old { room = new.room } → IsEraseRoom new.blocks new.rows new.looks sb erase_room.NotVictim
    → EraseClauses (channel_of old dies) was (channel_of new dies) was tag sb (Ok erase.NotVictim)
no_victim_clauses old dies new was tag sb room same is = record {
  room = room;
  ok = (subst (λ (t : TablesState). IsEraseRoom t.blocks t.rows t.looks sb erase_room.NotVictim) same is, same_channel old dies new same);
  faults = no_counts old dies new;
  view = refl;
  err_view = tt;
  stands = same_moves old dies new was was same refl;
}

pub live_left_clauses : (old : TablesState) (dies : DiesState) (new : TablesState) (was : Option PolicyView) (tag : Tag) (sb count : ℕ)
    → length old.past + room_of_step old.looks ≤ old.limit → new ≡ record old { room = new.room } → IsEraseRoom new.blocks new.rows new.looks sb (erase_room.Live count)
    → EraseClauses (channel_of old dies) was (channel_of new dies) was tag sb (Ok (erase.Live count))
live_left_clauses old dies new was tag sb count room same is =
    let before : IsEraseRoom old.blocks old.rows old.looks sb (erase_room.Live count) = subst (λ (t : TablesState). IsEraseRoom t.blocks t.rows t.looks sb (erase_room.Live count)) same is in
    record {
      room = room;
      ok = (before.0, before.1, before.2, same_channel old dies new same);
      faults = no_counts old dies new;
      view = refl;
      err_view = tt;
      stands = same_moves old dies new was was same refl;
    }

pub pinned_clauses : (old : TablesState) (dies : DiesState) (new : TablesState) (was : Option PolicyView) (tag : Tag) (sb count : ℕ)
    → length old.past + room_of_step old.looks ≤ old.limit → new ≡ record old { room = new.room } → IsEraseRoom new.blocks new.rows new.looks sb (erase_room.Pinned count)
    → EraseClauses (channel_of old dies) was (channel_of new dies) was tag sb (Ok (erase.Pinned count))
pinned_clauses old dies new was tag sb count room same is =
    let before : IsEraseRoom old.blocks old.rows old.looks sb (erase_room.Pinned count) = subst (λ (t : TablesState). IsEraseRoom t.blocks t.rows t.looks sb (erase_room.Pinned count)) same is in
    record {
      room = room;
      ok = (before.0, before.1, before.2, before.3, same_channel old dies new same);
      faults = no_counts old dies new;
      view = refl;
      err_view = tt;
      stands = same_moves old dies new was was same refl;
    }

erase_change : (shape : Shape) (sb : ℕ) (end : EraseEnd) (old new : List DieState) (sum after : List ℕ) → EndsErase shape.dies sb old new end → after ≡ sum
    → DiesChange shape (kind_of_erase sb end) [] old new sum after
erase_change shape sb EraseEnd.Erased old new sum after ends e = record { dies = ends; sum_is = e }
erase_change shape sb (EraseEnd.Failed die) old new sum after ends e = record { dies = ends; sum_is = e }
erase_change shape sb (EraseEnd.Fault die) old new sum after ends e = record { dies = ends; sum_is = e }

erase_allows : (shape : Shape) (blocks : List BlockBase) (sb : ℕ) (end : EraseEnd) → Blocks.victim_in blocks ≡ Some sb → TableAllows shape blocks (kind_of_erase sb end)
erase_allows shape blocks sb EraseEnd.Erased victim = victim
erase_allows shape blocks sb (EraseEnd.Failed die) victim = victim
erase_allows shape blocks sb (EraseEnd.Fault die) victim = victim

erase_taken : (old : TablesState) (dies : DiesState) (new : TablesState) (after : DiesState) (tag : Tag) (sb : ℕ) (end : EraseEnd) (items : ℕ) → AreFitting old dies items
    → Blocks.victim_in old.blocks ≡ Some sb → new ≡ tables_after (record old { room = new.room }) tag (kind_of_erase sb end) → ErasesBlocks dies after sb end
    → Taken old dies new after tag (kind_of_erase sb end) []
erase_taken old dies new after tag sb end items fit victim e erases = record {
  tables_are = e;
  shape_stays = erases.shape_stays;
  change =
      erase_change old.shape sb end dies.dies after.dies dies.sum after.sum
      (subst (λ (shape : Shape). EndsErase shape.dies sb dies.dies after.dies end) fit.same_shape erases.dies) erases.sum_stays;
  allows = erase_allows old.shape old.blocks sb end victim;
}

-- the die at which an erase stopped, if it stopped, is one of the channel's
abbrev pub EndsLow : Shape → EraseEnd → Type 0
EndsLow shape EraseEnd.Erased = Unit {0}
EndsLow shape (EraseEnd.Failed die) = die < shape.dies
EndsLow shape (EraseEnd.Fault die) = die < shape.dies

ends_low : (shape : Shape) (sb : ℕ) (old new : List DieState) (end : EraseEnd) → EndsErase shape.dies sb old new end → EndsLow shape end
ends_low shape sb old new EraseEnd.Erased ends = tt
ends_low shape sb old new (EraseEnd.Failed die) ends = ends.in_range
ends_low shape sb old new (EraseEnd.Fault die) ends = ends.in_range

erase_answers : (old new : ChannelState) (tag : Tag) (sb : ℕ) (end : EraseEnd) → Collecting.MayErase old sb → EndsLow old.shape end → AddsEntry old new tag (kind_of_erase sb end)
    → Erases old new tag sb (answer_of_end end)
erase_answers old new tag sb EraseEnd.Erased may low entry = (may, entry)
erase_answers old new tag sb (EraseEnd.Failed die) may low entry = (may, low, entry)
erase_answers old new tag sb (EraseEnd.Fault die) may low entry = (may, low, entry)

erase_fault : (end : EraseEnd) → fault_of_erase (answer_of_end end) ≡ Ended.fault_of_erase end
erase_fault EraseEnd.Erased = refl
erase_fault (EraseEnd.Failed die) = refl
erase_fault (EraseEnd.Fault die) = refl

view_ended : (was : Option PolicyView) (sb : ℕ) (end : EraseEnd) → view_after_end was sb end ≡ view_of_erase was sb (answer_of_end end)
view_ended was sb EraseEnd.Erased = refl
view_ended was sb (EraseEnd.Failed die) = refl
view_ended was sb (EraseEnd.Fault die) = refl

lawful_erase : (state : ℕ → LadderState) (base : ChannelBase) (past : List Entry) (tag : Tag) (sb : ℕ) (end : EraseEnd) → sb < base.shape.superblocks → Lawful.MayErase base past sb
    → Ended.IsLawfulEnd base past sb end → EndsLow base.shape end → IsLawfulEntry state base past (entry_of tag (kind_of_erase sb end))
lawful_erase state base past tag sb EraseEnd.Erased lt may lawful low =
    record { in_range = lt-ltb sb base.shape.superblocks lt; meets = record { may_erase = may; none_weak = lawful } }
lawful_erase state base past tag sb (EraseEnd.Failed die) lt may lawful low = record {
  in_range = and_from (nat_lt sb base.shape.superblocks) (nat_lt die base.shape.dies) (lt-ltb sb base.shape.superblocks lt) (lt-ltb die base.shape.dies low);
  meets = record { may_erase = may; may_fail = lawful };
}
lawful_erase state base past tag sb (EraseEnd.Fault die) lt may lawful low = record {
  in_range = and_from (nat_lt sb base.shape.superblocks) (nat_lt die base.shape.dies) (lt-ltb sb base.shape.superblocks lt) (lt-ltb die base.shape.dies low);
  meets = record { may_erase = may; may_fail = lawful };
}

no_word : (start : Start) (contents : List (Tag × List ℕ)) (past : List Entry) (tag : Tag) (sb : ℕ) (end : EraseEnd)
    → ◌≡◌ {A = List ℕ} [] (word_programmed (coding_of start.base) start contents (senses_of (coding_of start.base) start contents past) past tag (kind_of_erase sb end))
no_word start contents past tag sb EraseEnd.Erased = refl
no_word start contents past tag sb (EraseEnd.Failed die) = refl
no_word start contents past tag sb (EraseEnd.Fault die) = refl

erase_follows : (start : Start) (past : List Entry) (tag : Tag) (sb : ℕ) (end : EraseEnd) → FollowsTold start.base start.view past
    → FollowsTold start.base start.view (entry_of tag (kind_of_erase sb end) ∷ past)
erase_follows start past tag sb end follows = by_view start.view end follows
  where
    by_view : (o : Option PolicyView) (e : EraseEnd) → FollowsTold start.base o past → FollowsTold start.base o (entry_of tag (kind_of_erase sb e) ∷ past)
    by_view None e f = tt
    by_view (Some view) EraseEnd.Erased f = (f, tt)
    by_view (Some view) (EraseEnd.Failed die) f = (f, tt)
    by_view (Some view) (EraseEnd.Fault die) f = (f, tt)

erase_view : (start : Start) (past : List Entry) (tag : Tag) (was : Option PolicyView) (sb : ℕ) (end : EraseEnd) → was ≡ view_told start past
    → view_after_end was sb end ≡ view_told start (entry_of tag (kind_of_erase sb end) ∷ past)
erase_view start past tag was sb EraseEnd.Erased e =
    ap {B = Option PolicyView} (λ (o : Option PolicyView). option_map (λ v. view_after_erase v sb) o) e ∙ twice (λ v. view_after_erase v sb) (λ v. view_of start.base v past) start.view
erase_view start past tag was sb (EraseEnd.Failed die) e = e
erase_view start past tag was sb (EraseEnd.Fault die) e = e

pub erase_clauses : (old : TablesState) (dies : DiesState) (roomy new : TablesState) (after : DiesState) (was now : Option PolicyView) (tag : Tag) (sb : ℕ) (end : EraseEnd) (answer : EraseAnswer) (items : ℕ)
    → AreFitting old dies items → length old.past + room_of_step old.looks ≤ old.limit → roomy ≡ record old { room = roomy.room }
    → MayErase roomy.blocks roomy.rows roomy.looks sb → sb < roomy.shape.superblocks
    → new ≡ tables_after roomy tag (kind_of_erase sb end) → ErasesBlocks dies after sb end → now ≡ view_after_end was sb end → answer ≡ answer_of_end end
    → EraseClauses (channel_of old dies) was (channel_of new after) now tag sb (Ok answer)
erase_clauses old dies roomy new after was now tag sb end answer items fit room same may_roomy low_roomy e erases view answer_is =
    let may : MayErase old.blocks old.rows old.looks sb = subst (λ (t : TablesState). MayErase t.blocks t.rows t.looks sb) same may_roomy in
    let within : sb < old.shape.superblocks = subst (λ (t : TablesState). sb < t.shape.superblocks) same low_roomy in
    let taken : Taken old dies new after tag (kind_of_erase sb end) [] =
    erase_taken old dies new after tag sb end items fit may.is_victim (both_after old roomy new tag (kind_of_erase sb end) same e) erases in
    let ends : EndsErase old.shape.dies sb dies.dies after.dies end =
    subst (λ (shape : Shape). EndsErase shape.dies sb dies.dies after.dies end) fit.same_shape erases.dies in
    let low : EndsLow old.shape end = ends_low old.shape sb dies.dies after.dies end ends in
    record {
      room = room;
      ok =
          subst (Erases (channel_of old dies) (channel_of new after) tag sb) (sym answer_is)
          (erase_answers (channel_of old dies) (channel_of new after) tag sb end (record { is_victim = may.is_victim; no_live = may.none_live; no_pin = may.none_open }) low
          (adds old dies new after tag (kind_of_erase sb end) [] taken));
      faults =
          subst (λ (named : Option ℕ). Count named (channel_of old dies) (channel_of new after)) (sym (ap {B = Option ℕ} fault_of_erase answer_is ∙ erase_fault end))
          (counts (Ended.fault_of_erase end) (channel_of old dies) (channel_of new after) (Ended.erase_counts old.shape.dies sb dies.dies after.dies end ends));
      view = view ∙ view_ended was sb end ∙ ap {B = Option PolicyView} (view_of_erase was sb) (sym answer_is);
      err_view = tt;
      stands = λ start contents stands.
          let base : ChannelBase = start.base in
          let past : List Entry = old.past in
          let victim : Room.victim_of base past ≡ Some sb = subst (λ (list : List BlockBase). Blocks.victim_in list ≡ Some sb) stands.blocks_are may.is_victim in
          let ends_there : EndsErase base.shape.dies sb dies.dies after.dies end =
          subst (λ (shape : Shape). EndsErase shape.dies sb dies.dies after.dies end) stands.shape_is ends in
          stands_with old dies new after tag (kind_of_erase sb end) [] items was now start contents fit taken stands
          (record {
            lawful =
                lawful_erase (ladder_of (coding_of base) start contents past) base past tag sb end (subst (λ (shape : Shape). sb < shape.superblocks) stands.shape_is within)
                (record {
                  is_victim = victim;
                  no_live = subst (λ (rows : List Row). live_in rows sb ≡ 0) stands.rows_are may.none_live;
                  no_pin = subst (λ (looks : List (Tag × Look)). looks_in looks sb ≡ 0) stands.looks_are may.none_open;
                })
                (Ended.erase_is_lawful start contents past sb dies.sum dies.dies after.dies end stands.dies_fit victim ends_there)
                (subst (λ (shape : Shape). EndsLow shape end) stands.shape_is low);
            word_is = no_word start contents past tag sb end;
          })
          (erase_follows start past tag sb end stands.is_past.follows)
          (view ∙ erase_view start past tag was sb end stands.view_is);
    }

pub erase_fitting : (old : TablesState) (dies : DiesState) (roomy new : TablesState) (after : DiesState) (tag : Tag) (sb : ℕ) (end : EraseEnd) (items : ℕ) → AreFitting old dies items
    → roomy ≡ record old { room = roomy.room } → Blocks.victim_in roomy.blocks ≡ Some sb → new ≡ tables_after roomy tag (kind_of_erase sb end) → ErasesBlocks dies after sb end
    → AreFitting new after items
erase_fitting old dies roomy new after tag sb end items fit same victim e erases =
    fitting old dies new after tag (kind_of_erase sb end) [] items fit
    (erase_taken old dies new after tag sb end items fit (subst (λ (t : TablesState). Blocks.victim_in t.blocks ≡ Some sb) same victim)
    (both_after old roomy new tag (kind_of_erase sb end) same e) erases)

-- the victim's blocks can be erased once more
pub can_erase : (tables : TablesState) (dies : DiesState) (sb items : ℕ) → AreFitting tables dies items → HasSpare tables → Blocks.victim_in tables.blocks ≡ Some sb → sb < tables.shape.superblocks
    → CanCountErases dies.shape.dies sb dies.dies
can_erase tables dies sb items fit spare victim within =
    let few : (Blocks.block_at tables.blocks sb).erases < 2 ^ 32 - 1 =
    omega (arith, few_at (length tables.past) tables.blocks sb fit.few_erases, spare.in_limit, fit.limit_high) in
    subst (λ (shape : Shape). CanCountErases shape.dies sb dies.dies) (sym fit.same_shape)
    (can_count_erases tables.shape tables.blocks dies.dies sb fit.due within (victim_is_good tables.blocks sb victim) few)
