-- The replies of a caller that is alone are those of its entries: the copies of a round decide nothing but for a die's call
-- that failed, which ends it; its erase decides a collect, and the last entry of a write the write.
use Rattle.std.proofs.Common.{◌≡◌, ℕ, Bool, true, false, List, [], ◌∷◌, ◌++◌, Option, Some, None, refl, sym, ap, subst, ◌∙◌, inl, inr}
use Rattle.std.specs.Prelude.{◌⊎◌, Result, Ok, Err, ℤ, unwrap_or}
use Rattle.std.proofs.lemmas.Bool.{false≢true}
use Rattle.std.proofs.lemmas.Option.{none-some}
use Rattle.chan_calls.specs.Caller.{AddsKinds, CallerView}
use Rattle.chan_calls.specs.Calls.{IsLeft, sense_kinds}
use Rattle.chan_calls.specs.Collecting.{MakesErase, MakesPick}
use Rattle.chan_calls.specs.Copied.{CopiesFor, IsCondemned, IsMoved, is_round_end, reply_of_condemn, reply_of_move}
use Rattle.chan_calls.specs.Moving.{MakesCondemn, MakesMove}
use Rattle.chan_calls.specs.Stepping.{MakesWrite}
use Rattle.chan_calls.specs.declared.copy_reply.CopyReply.{CopyReply}
use Rattle.chan_calls.specs.declared.copy_reply.CopyReply.TheVariants as copy
use Rattle.chan_calls.proofs.SensedSteps.{is_seen, step_with}
use Rattle.chan_state.specs.declared.answers.EraseAnswer.{EraseAnswer}
use Rattle.chan_state.specs.declared.answers.EraseAnswer.TheVariants as erase
use Rattle.chan_state.specs.declared.answers.MoveAnswer.{MoveAnswer}
use Rattle.chan_state.specs.declared.answers.MoveAnswer.TheVariants as move
use Rattle.chan_state.specs.declared.answers.PickAnswer.{PickAnswer}
use Rattle.chan_state.specs.declared.answers.PickAnswer.TheVariants as pick
use Rattle.chan_state.specs.declared.answers.WriteAnswer.{WriteAnswer}
use Rattle.chan_state.specs.declared.answers.WriteAnswer.TheVariants as write
use Rattle.chan_tables.specs.declared.answers.CondemnAnswer.{CondemnAnswer}
use Rattle.chan_tables.specs.declared.answers.CondemnAnswer.TheVariants as condemn
use Rattle.chan_tables.specs.declared.answers.LiveAnswer.TheVariants as live
use Rattle.chan_tables.specs.declared.answers.Note.{Note}
use Rattle.ssd_geo.specs.declared.entry.Entry.{Entry}
use Rattle.ssd_geo.specs.declared.kind.Kind.{Kind}
use Rattle.ssd_geo.specs.declared.place.Place.{Place}
use Rattle.ssd_geo.specs.declared.reply.Reply.{Reply}
use Rattle.ssd_geo.specs.declared.row.Row.{Row}
use Rattle.ssd_geo.specs.declared.slot.Slot.{Slot}
use Rattle.ssd_geo.specs.declared.stop.StepStop.{StepStop}
use Rattle.ssd_geo.specs.declared.tag.Tag.{Tag}
use Rattle.ssd_histories.specs.CallSteps.{CallStep}
use Rattle.ssd_histories.specs.Replies.{collect_decided, first_reply, write_decided}
use Rattle.ssd_histories.specs.SerialCalls.{AreStepsFrom, entry_of}
use Rattle.ssd_histories.specs.Start.{Start}
use Rattle.collector.specs.AloneReplies.{AreRepliedCollect, CollectsAloneAreReplied, RoundsAloneAreReplied, WritesAloneAreReplied, reply_to_collect, reply_to_round, reply_to_write}
use Rattle.collector.specs.Collects.{DecidesCollect, HasNoted, LeavesRounds, MakesCollectFor, by_note, by_round, decided_by}
use Rattle.collector.specs.Collects as collects
use Rattle.collector.specs.Emptying.{CopiesLive, CopiesPages, EmptiesFor, EndsRound, IsToErase, OfBase, by_copy, by_erase, having_seen, no_victim, none_yet, one_more, reply_of_copy, reply_of_erase, result_of_erase, stops}
use Rattle.collector.specs.Rounds.{FollowsPick, HasPicked}
use Rattle.collector.specs.Writes.{EndsWrite, HasMadeRoom, IsToWrite, MakesWriteFor, WritesOften, WritesOn, by_fail, by_room, by_write, reply_of_round, reply_of_write}
use Rattle.collector.specs.Writes as turns
use Rattle.collector.specs.declared.replies.CollectReply.{CollectReply}
use Rattle.collector.specs.declared.replies.CollectReply.TheVariants as collect
use Rattle.collector.specs.declared.replies.RoundReply.{RoundReply}
use Rattle.collector.specs.declared.replies.RoundReply.TheVariants as round
use Rattle.collector.specs.declared.replies.WriteReply.{WriteReply}
use Rattle.collector.specs.declared.replies.WriteReply.TheVariants as written
use Rattle.collector.proofs.AloneRounds.{no_stop, ok_is}

-- steps that decide nothing, and more steps
first_then : (decides : CallStep → Option Reply) (steps more : List CallStep) → first_reply decides steps ≡ None →
    first_reply decides (steps ++ more) ≡ first_reply decides more
first_then decides [] more none = refl
first_then decides (step ∷ steps) more none = by_option (decides step) (first_then decides steps more) none
  where
    by_option : (option : Option Reply) →
        (first_reply decides steps ≡ None → first_reply decides (steps ++ more) ≡ first_reply decides more) →
        ◌≡◌ {A = Option Reply} (elim option as (λ (o : Option Reply). Option Reply)
        [ Some reply ↦ Some reply | None ↦ first_reply decides steps ]) None →
        ◌≡◌ {A = Option Reply} (elim option as (λ (o : Option Reply). Option Reply)
        [ Some reply ↦ Some reply | None ↦ first_reply decides (steps ++ more) ]) (first_reply decides more)
    by_option (Some reply) rest is = absurd (none-some reply (sym is))
    by_option None rest is = rest is

-- one step, and one before a step that decides nothing
first_of_one : (option : Option Reply) →
    ◌≡◌ {A = Option Reply} (elim option as (λ (o : Option Reply). Option Reply)
    [ Some reply ↦ Some reply | None ↦ None ]) option
first_of_one (Some reply) = refl
first_of_one None = refl

first_of_two : (option next : Option Reply) → next ≡ None →
    ◌≡◌ {A = Option Reply} (elim option as (λ (o : Option Reply). Option Reply) [
      | Some reply ↦ Some reply
      | None ↦ elim next as (λ (o : Option Reply). Option Reply) [ Some reply ↦ Some reply | None ↦ None ]
    ]) option
first_of_two (Some reply) next none = refl
first_of_two None next none = first_of_one next ∙ none

-- the steps of two parts of a call
joined : (tag : Tag) (steps more : List CallStep) (before between after : List Entry) → AreStepsFrom tag before steps between →
    AreStepsFrom tag between more after → AreStepsFrom tag before (steps ++ more) after
joined tag [] more before between after same rest =
    subst (λ (past : List Entry). AreStepsFrom tag past more after) (sym same) rest
joined tag (step ∷ steps) more before between after made rest =
    (made.0, made.1, joined tag steps more (step.entry ∷ before) between after made.2 rest)

-- what the entries of a round decide, by how it ended
record DecidesRounds (decided : Kind → Option Reply) (of_round : RoundReply → Option Reply) : Type 0 where
  of_look : (row : ℕ) (slot : Slot) (serial : ℕ) (closed : Bool) → decided (Kind.Look row (Row.Page slot serial) closed) ≡ None
  of_sense : (at : ℕ) (place : Place) (level : ℤ) → decided (Kind.Sense at place level) ≡ None
  of_failed_sense : (at : ℕ) (place : Place) (level : ℤ) →
      decided (Kind.FaultSense at place level) ≡ of_round (round.DieFault place.die)
  of_leave : (at : ℕ) → decided (Kind.Leave at) ≡ None
  of_move : (at : ℕ) (slot : Slot) → decided (Kind.Move at slot) ≡ None
  of_changed : (at : ℕ) (found : Row) → decided (Kind.Changed at found) ≡ None
  of_stay : (at : ℕ) (worn : Bool) → decided (Kind.Stay at worn) ≡ None
  of_failed_copy : (at : ℕ) (slot : Slot) (die : ℕ) → decided (Kind.BadCopy at slot die false) ≡ None
  of_copy_fault : (at : ℕ) (slot : Slot) (die : ℕ) → decided (Kind.BadCopy at slot die true) ≡ of_round (round.DieFault die)
  of_condemn : (at : ℕ) → decided (Kind.Condemn at) ≡ None
  of_pick : (sb : ℕ) → decided (Kind.Pick sb) ≡ None
  of_erase : (sb : ℕ) → decided (Kind.Erase sb) ≡ of_round (round.Erased sb)
  of_failed_erase : (sb die : ℕ) → decided (Kind.BadErase sb die false) ≡ of_round (round.Retired sb)
  of_erase_fault : (sb die : ℕ) → decided (Kind.BadErase sb die true) ≡ of_round (round.DieFault die)
  of_left : of_round round.Left ≡ None

module _ (caller : CallerView) (tag : Tag) (alone : caller.number ≡ None) (decided : Kind → Option Reply) where
  -- the steps of a part of a call, and what they decide
  record Decides (before after : List Entry) (reply : Option Reply) : Type 0 where
    steps : List CallStep
    are_steps : AreStepsFrom tag before steps after
    reply_is : first_reply (λ (step : CallStep). decided step.entry.kind) steps ≡ reply

  nothing : (before after : List Entry) → after ≡ before → Decides before after None
  nothing before after same = record { steps = []; are_steps = sym same; reply_is = refl }

  followed : {before between after : List Entry} {reply : Option Reply} → Decides before between None →
      Decides between after reply → Decides before after reply
  followed {before} {between} {after} first rest = record {
    steps = first.steps ++ rest.steps;
    are_steps = joined tag first.steps rest.steps before between after first.are_steps rest.are_steps;
    reply_is =
        first_then (λ (step : CallStep). decided step.entry.kind) first.steps rest.steps first.reply_is ∙ rest.reply_is;
  }

  one_step : (kind : Kind) (before after : List Entry) (reply : Option Reply) → after ≡ entry_of tag kind ∷ before →
      decided kind ≡ reply → Decides before after reply
  one_step kind before after reply is decides = record {
    steps = step_with tag kind before ∷ [];
    are_steps = (refl, refl, sym is);
    reply_is = first_of_one (decided kind) ∙ decides;
  }

  so : {before after : List Entry} {one other : Option Reply} → Decides before after one → one ≡ other →
      Decides before after other
  so {before} {after} made is = subst (λ (reply : Option Reply). Decides before after reply) is made

  module _ (of_round : RoundReply → Option Reply) (decides : DecidesRounds decided of_round) where
    sensed : (at : ℕ) (senses : List (Place × ℤ)) (before after : List Entry) →
        AddsKinds caller tag (sense_kinds at senses) before after → Decides before after None
    sensed at [] before after is = nothing before after is
    sensed at (asked ∷ senses) before after adds =
        let next : List Entry = entry_of tag (Kind.Sense at asked.0 asked.1) ∷ before in
        followed (one_step (Kind.Sense at asked.0 asked.1) before next None refl (decides.of_sense at asked.0 asked.1))
        (sensed at senses next after
        (subst (λ (past : List Entry). AddsKinds caller tag (sense_kinds at senses)
        (entry_of tag (Kind.Sense at asked.0 asked.1) ∷ past) after)
        (is_seen caller tag alone before adds.0 adds.1) adds.2))

    -- an entry that ends a copy, and the leave after it
    left_after : (seen : List Entry) (at : ℕ) (kind : Kind) (past ended after : List Entry) (reply : Option Reply) →
        ended ≡ entry_of tag kind ∷ past → decided kind ≡ reply →
        IsLeft (having_seen caller seen) tag at ended after → Decides past after reply
    left_after seen at kind past ended after reply is given leaves =
        let left : leaves.at_leave ≡ entry_of tag kind ∷ past =
        is_seen caller tag alone ended leaves.at_leave leaves.comes ∙ is in
        record {
          steps = step_with tag kind past ∷ step_with tag (Kind.Leave at) (entry_of tag kind ∷ past) ∷ [];
          are_steps = (
            refl,
            refl,
            (
              refl,
              refl,
              ap {B = List Entry} (λ (now : List Entry). entry_of tag (Kind.Leave at) ∷ now) (sym left) ∙ sym leaves.new_is,
            ),
          );
          reply_is = first_of_two (decided kind) (decided (Kind.Leave at)) (decides.of_leave at) ∙ given;
        }

    -- a copy decides nothing but for a die's call that failed
    by_move : (seen : List Entry) (at : ℕ) (past ended after : List Entry) (answer : MoveAnswer) →
        MakesMove tag at past answer ended →
        IsLeft (having_seen caller seen) tag at ended after →
        Decides past after (of_round (reply_of_copy (reply_of_move answer)))
    by_move seen at past ended after (move.Changed row) made leaves =
        left_after seen at (Kind.Changed at row) past ended after _ made
        (decides.of_changed at row ∙ sym decides.of_left) leaves
    by_move seen at past ended after move.ReadOnly made leaves =
        left_after seen at (Kind.Stay at true) past ended after _ made (decides.of_stay at true ∙ sym decides.of_left) leaves
    by_move seen at past ended after move.NoRoom made leaves =
        left_after seen at (Kind.Stay at false) past ended after _ made (decides.of_stay at false ∙ sym decides.of_left) leaves
    by_move seen at past ended after (move.Moved slot) made leaves =
        left_after seen at (Kind.Move at slot) past ended after _ made (decides.of_move at slot ∙ sym decides.of_left) leaves
    by_move seen at past ended after (move.Failed sb) made leaves =
        left_after seen at (Kind.BadCopy at made.0 made.1 false) past ended after _ made.3
        (decides.of_failed_copy at made.0 made.1 ∙ sym decides.of_left) leaves
    by_move seen at past ended after (move.DieFault die) made leaves =
        left_after seen at (Kind.BadCopy at made.0 die true) past ended after _ made.1
        (decides.of_copy_fault at made.0 die) leaves

    by_condemn : (seen : List Entry) (at : ℕ) (past ended after : List Entry) (answer : CondemnAnswer) →
        MakesCondemn tag at past answer ended →
        IsLeft (having_seen caller seen) tag at ended after →
        Decides past after (of_round (reply_of_copy (reply_of_condemn answer)))
    by_condemn seen at past ended after (condemn.Changed row) made leaves =
        left_after seen at (Kind.Changed at row) past ended after _ made
        (decides.of_changed at row ∙ sym decides.of_left) leaves
    by_condemn seen at past ended after condemn.Condemned made leaves =
        left_after seen at (Kind.Condemn at) past ended after _ made (decides.of_condemn at ∙ sym decides.of_left) leaves

    module _ (start : Start) (contents : List (Tag × List ℕ)) where
      by_copy_of : (at : ℕ) (looked after : List Entry) (reply : CopyReply) →
          CopiesFor start contents (having_seen caller looked) tag at true after reply →
          Decides looked after (of_round (reply_of_copy reply))
      by_copy_of at looked after reply (inl copied) = ended copied.ends
        where
          ended : IsMoved start contents (having_seen caller looked) tag at copied.senses.after copied.ended reply
              ⊎ IsCondemned start contents (having_seen caller looked) tag at copied.senses.after copied.ended reply →
              Decides looked after (of_round (reply_of_copy reply))
          ended (inl moved) =
              followed (sensed at copied.senses.senses looked copied.senses.after copied.senses.are_senses)
              (so (by_move looked at copied.senses.after copied.ended after moved.answer
              (subst (λ (past : List Entry). MakesMove tag at past moved.answer copied.ended)
              (is_seen caller tag alone copied.senses.after moved.at_move moved.comes) moved.made) copied.leaves)
              (ap (λ (given : CopyReply). of_round (reply_of_copy given)) (sym moved.reply_is)))
          ended (inr condemned) =
              followed (sensed at copied.senses.senses looked copied.senses.after copied.senses.are_senses)
              (so (by_condemn looked at copied.senses.after copied.ended after condemned.answer
              (subst (λ (past : List Entry). MakesCondemn tag at past condemned.answer copied.ended)
              (is_seen caller tag alone copied.senses.after condemned.at_condemn condemned.comes) condemned.made) copied.leaves)
              (ap (λ (given : CopyReply). of_round (reply_of_copy given)) (sym condemned.reply_is)))
      by_copy_of at looked after reply (inr failed) =
          let place : Place = failed.fails.place in
          let level : ℤ = failed.fails.level in
          followed (sensed at failed.senses.senses looked failed.senses.after failed.senses.are_senses)
          (so (left_after looked at (Kind.FaultSense at place level) failed.senses.after
          (entry_of tag (Kind.FaultSense at place level) ∷ failed.fails.at_sense) after (of_round (round.DieFault place.die))
          (ap {B = List Entry} (λ (past : List Entry). entry_of tag (Kind.FaultSense at place level) ∷ past)
          (is_seen caller tag alone failed.senses.after failed.fails.at_sense failed.fails.comes))
          (decides.of_failed_sense at place level) failed.fails.leaves)
          (ap (λ (die : ℕ). of_round (round.DieFault die)) (sym failed.fails.die_is)
          ∙ ap (λ (given : CopyReply). of_round (reply_of_copy given)) (sym failed.reply_is)))

      by_page : (sb : ℕ) (before after : List Entry) (reply : CopyReply) →
          CopiesLive start contents caller tag sb before after reply → Decides before after (of_round (reply_of_copy reply))
      by_page sb before after reply page =
          let look = page.look in
          followed (one_step (Kind.Look look.row (Row.Page look.slot look.serial) look.closed) before page.looked None
          (page.finds.3.0.3
          ∙ ap {B = List Entry} (λ (past : List Entry).
          entry_of tag (Kind.Look look.row (Row.Page look.slot look.serial) look.closed) ∷ past)
          (is_seen caller tag alone before page.finds.0 page.finds.1))
          (decides.of_look look.row look.slot look.serial look.closed))
          (by_copy_of look.at page.looked after reply page.copies)

      goes_on : (reply : CopyReply) → is_round_end reply ≡ false → of_round (reply_of_copy reply) ≡ None
      goes_on (copy.DieFault die) e = absurd (false≢true (sym e))
      goes_on copy.Moved e = decides.of_left
      goes_on copy.Changed e = decides.of_left
      goes_on copy.Condemned e = decides.of_left
      goes_on copy.Uncorrectable e = decides.of_left
      goes_on copy.NoRoom e = decides.of_left
      goes_on copy.ReadOnly e = decides.of_left
      goes_on copy.Failed e = decides.of_left

      by_pages : (sb : ℕ) {before after : List Entry} → CopiesPages start contents caller tag sb before after →
          Decides before after None
      by_pages sb {before} none_yet = nothing before before refl
      by_pages sb {before} {after} (one_more {between = between} {reply = reply} copies page on) =
          followed (by_pages sb copies) (so (by_page sb between after reply page) (goes_on reply on))

      by_erasing : (sb : ℕ) (now after : List Entry) (answer : EraseAnswer) →
          MakesErase (OfBase start.base) tag sb now answer after → Decides now after (of_round (reply_of_erase sb answer))
      by_erasing sb now after erase.NotVictim made = so (nothing now after made.0) (sym decides.of_left)
      by_erasing sb now after (erase.Live count) made = so (nothing now after made.0) (sym decides.of_left)
      by_erasing sb now after (erase.Pinned count) made = so (nothing now after made.0) (sym decides.of_left)
      by_erasing sb now after erase.Erased made = one_step (Kind.Erase sb) now after _ made.0 (decides.of_erase sb)
      by_erasing sb now after (erase.FailedErase die) made =
          one_step (Kind.BadErase sb die false) now after _ made.0 (decides.of_failed_erase sb die)
      by_erasing sb now after (erase.DieFault die) made =
          one_step (Kind.BadErase sb die true) now after _ made.0 (decides.of_erase_fault sb die)

      by_tried : (sb : ℕ) (before after : List Entry) (reply : RoundReply) (erasing : Result EraseAnswer StepStop) →
          IsToErase start.base caller tag sb before after erasing →
          ◌≡◌ {A = Result RoundReply StepStop} (Ok reply) (result_of_erase sb erasing) → Decides before after (of_round reply)
      by_tried sb before after reply (Ok answer) tried is =
          so (by_erasing sb before after answer
          (subst (λ (past : List Entry). MakesErase (OfBase start.base) tag sb past answer after)
          (is_seen caller tag alone before tried.0 tried.1) tried.3))
          (ap of_round (sym (ok_is reply (reply_of_erase sb answer) is)))
      by_tried sb before after reply (Err stop) tried is = absurd (no_stop reply stop is)

      by_end : (sb : ℕ) (before after : List Entry) (reply : RoundReply) →
          EndsRound start contents caller tag sb before after (Ok reply) → Decides before after (of_round reply)
      by_end sb before after reply (by_copy {reply = given} page ends is) =
          so (by_page sb before after given page) (ap of_round (sym (ok_is reply (reply_of_copy given) is)))
      by_end sb before after reply (no_victim looks is) =
          so (nothing before after (looks.3.0 ∙ is_seen caller tag alone before looks.0 looks.1))
          (sym decides.of_left ∙ ap of_round (sym (ok_is reply round.Left is)))
      by_end sb before after reply (by_erase emptied erasing looks tried is) =
          followed (nothing before emptied (looks.3.0 ∙ is_seen caller tag alone before looks.0 looks.1))
          (by_tried sb emptied after reply erasing tried is)
      by_end sb before after reply (stops stop looks is) = absurd (no_stop reply stop is)

      by_emptying : (sb : ℕ) (before after : List Entry) (reply : RoundReply) →
          EmptiesFor start contents caller tag sb before after (Ok reply) → Decides before after (of_round reply)
      by_emptying sb before after reply empties =
          followed (by_pages sb empties.copies) (by_end sb empties.copied after reply empties.ends)

      by_pick : (before picked after : List Entry) (answer : PickAnswer) (reply : RoundReply) →
          MakesPick (OfBase start.base) tag before answer picked →
          FollowsPick start contents caller tag answer picked after (Ok reply) → Decides before after (of_round reply)
      by_pick before picked after (pick.Busy sb) reply made follow =
          followed (nothing before picked made.0) (by_emptying sb picked after reply follow)
      by_pick before picked after pick.ReadOnly reply made follow =
          so (nothing before after (follow.0 ∙ made.0))
          (sym decides.of_left ∙ ap of_round (sym (ok_is reply round.Left follow.1)))
      by_pick before picked after pick.NoGarbage reply made follow =
          so (nothing before after (follow.0 ∙ made.0))
          (sym decides.of_left ∙ ap of_round (sym (ok_is reply round.Left follow.1)))
      by_pick before picked after (pick.Picked sb) reply made follow =
          followed (one_step (Kind.Pick sb) before picked None made.0 (decides.of_pick sb))
          (by_emptying sb picked after reply follow)

      -- a round decides what its reply says
      by_round_of : (before after : List Entry) (reply : RoundReply) →
          HasPicked start contents caller tag before after (Ok reply) → Decides before after (of_round reply)
      by_round_of before after reply has =
          by_pick before has.picked after has.answer reply
          (subst (λ (past : List Entry). MakesPick (OfBase start.base) tag past has.answer has.picked)
          (is_seen caller tag alone before has.picks.0 has.picks.1) has.picks.3) has.follows

-- what the entries of a round decide of a write, and of a collect
unfoldable pub in_write : RoundReply → Option Reply
in_write (round.Erased sb) = None
in_write (round.Retired sb) = None
in_write (round.DieFault die) = Some (Reply.DieFault die)
in_write round.Left = None

unfoldable pub in_collect : RoundReply → Option Reply
in_collect (round.Erased sb) = Some (Reply.Collected sb)
in_collect (round.Retired sb) = Some (Reply.Retired sb)
in_collect (round.DieFault die) = Some (Reply.DieFault die)
in_collect round.Left = None

of_write : DecidesRounds write_decided in_write
unfolding in_write
of_write = record {
  of_look = λ row slot serial closed. refl;
  of_sense = λ at place level. refl;
  of_failed_sense = λ at place level. refl;
  of_leave = λ at. refl;
  of_move = λ at slot. refl;
  of_changed = λ at found. refl;
  of_stay = λ at worn. refl;
  of_failed_copy = λ at slot die. refl;
  of_copy_fault = λ at slot die. refl;
  of_condemn = λ at. refl;
  of_pick = λ sb. refl;
  of_erase = λ sb. refl;
  of_failed_erase = λ sb die. refl;
  of_erase_fault = λ sb die. refl;
  of_left = refl;
}

of_collect : DecidesRounds collect_decided in_collect
unfolding in_collect
of_collect = record {
  of_look = λ row slot serial closed. refl;
  of_sense = λ at place level. refl;
  of_failed_sense = λ at place level. refl;
  of_leave = λ at. refl;
  of_move = λ at slot. refl;
  of_changed = λ at found. refl;
  of_stay = λ at worn. refl;
  of_failed_copy = λ at slot die. refl;
  of_copy_fault = λ at slot die. refl;
  of_condemn = λ at. refl;
  of_pick = λ sb. refl;
  of_erase = λ sb. refl;
  of_failed_erase = λ sb die. refl;
  of_erase_fault = λ sb die. refl;
  of_left = refl;
}

-- what a write's answer to its caller decides
as_write : Option WriteReply → Option Reply
as_write None = None
as_write (Some reply) = Some (reply_to_write reply)

pub round_goes_on : (reply : RoundReply) → reply_of_round reply ≡ None → in_write reply ≡ None
unfolding in_write
round_goes_on (round.Erased sb) e = refl
round_goes_on (round.Retired sb) e = refl
round_goes_on (round.DieFault die) e = absurd (none-some (written.DieFault die) (sym e))
round_goes_on round.Left e = refl

pub round_faults : (ended : RoundReply) (reply : WriteReply) → reply_of_round ended ≡ Some reply →
    in_write ended ≡ Some (reply_to_write reply)
unfolding in_write as_write
round_faults (round.Erased sb) reply e = absurd (none-some reply e)
round_faults (round.Retired sb) reply e = absurd (none-some reply e)
round_faults (round.DieFault die) reply e = ap as_write e
round_faults round.Left reply e = absurd (none-some reply e)

module _ (start : Start) (contents : List (Tag × List ℕ)) (caller : CallerView) (tag : Tag)
    (alone : caller.number ≡ None) (row : ℕ) where
  abbrev OfWrite : List Entry → List Entry → Option Reply → Type 0
  OfWrite = Decides caller tag alone write_decided

  written_so : (before after : List Entry) (answer : WriteAnswer) (reply : WriteReply) → reply_of_write answer ≡ Some reply →
      MakesWrite (OfBase start.base) tag row before answer after → OfWrite before after (Some (reply_to_write reply))
  unfolding as_write
  written_so before after (write.Written slot) reply is made =
      one_step caller tag alone write_decided (Kind.Write row slot) before after _ made.0 (ap as_write is)
  written_so before after (write.DieFault die) reply is made =
      one_step caller tag alone write_decided (Kind.BadWrite row made.0 die true) before after _ made.1 (ap as_write is)
  written_so before after write.ReadOnly reply is made =
      one_step caller tag alone write_decided (Kind.Refused row true) before after _ made.0 (ap as_write is)
  written_so before after write.Full reply is made =
      one_step caller tag alone write_decided (Kind.Refused row false) before after _ made.0 (ap as_write is)
  written_so before after (write.Failed sb) reply is made = absurd (none-some reply is)
  written_so before after write.NeedRoom reply is made = absurd (none-some reply is)

  -- what a write's step made, upon what the caller had seen
  wrote : (before after : List Entry) (answer : WriteAnswer) → IsToWrite start.base caller tag row before after (Ok answer) →
      MakesWrite (OfBase start.base) tag row before answer after
  wrote before after answer tried =
      subst (λ (past : List Entry). MakesWrite (OfBase start.base) tag row past answer after)
      (is_seen caller tag alone before tried.0 tried.1) tried.3

  made_room : (before after : List Entry) (reply : RoundReply) →
      HasMadeRoom start contents caller tag row before after (Ok reply) → OfWrite before after (in_write reply)
  made_room before after reply made =
      followed caller tag alone write_decided
      (nothing caller tag alone write_decided before made.needed (wrote before made.needed write.NeedRoom made.tried).0)
      (by_round_of caller tag alone write_decided in_write of_write start contents made.needed after reply made.round)

  by_turn : (before after : List Entry) → WritesOn start contents caller tag row before after → OfWrite before after None
  by_turn before after (by_fail sb tried) =
      let made = wrote before after (write.Failed sb) tried in
      one_step caller tag alone write_decided (Kind.BadWrite row made.0 made.1 false) before after None made.3 refl
  by_turn before after (by_room reply made is) =
      so caller tag alone write_decided (made_room before after reply made) (round_goes_on reply is)

  by_turns : {before after : List Entry} → WritesOften start contents caller tag row before after → OfWrite before after None
  by_turns {before} turns.none_yet = nothing caller tag alone write_decided before before refl
  by_turns {before} {after} (turns.one_more {between = between} often on) =
      followed caller tag alone write_decided (by_turns often) (by_turn between after on)

  by_last : (before after : List Entry) (reply : WriteReply) → EndsWrite start contents caller tag row before after reply →
      OfWrite before after (Some (reply_to_write reply))
  by_last before after reply (by_write answer tried is) =
      written_so before after answer reply is (wrote before after answer tried)
  by_last before after reply (turns.by_round ended made is) =
      so caller tag alone write_decided (made_room before after ended made) (round_faults ended reply is)

  by_whole : (before after : List Entry) (reply : WriteReply) →
      MakesWriteFor start contents caller tag row before after (Ok reply) → OfWrite before after (Some (reply_to_write reply))
  by_whole before after reply made =
      followed caller tag alone write_decided (by_turns made.turns) (by_last made.between after reply made.last)

pub writes_are_replied : WritesAloneAreReplied
writes_are_replied start contents caller tag row before after reply alone made =
    let whole = by_whole start contents caller tag alone row before after reply made in
    record { steps = whole.steps; are_steps = whole.are_steps; reply_is = whole.reply_is }

-- the reply of a collect that decided something, or nothing
as_collect : Option CollectReply → Reply
as_collect None = Reply.Idle
as_collect (Some reply) = reply_to_collect reply

pub collected_so : (ended : RoundReply) (reply : CollectReply) → decided_by ended ≡ Some reply →
    unwrap_or (in_collect ended) Reply.Idle ≡ reply_to_collect reply
unfolding in_collect as_collect
collected_so (round.Erased sb) reply e = ap as_collect e
collected_so (round.Retired sb) reply e = ap as_collect e
collected_so (round.DieFault die) reply e = ap as_collect e
collected_so round.Left reply e = absurd (none-some reply e)

pub round_so : (ended : RoundReply) → unwrap_or (in_collect ended) Reply.Idle ≡ reply_to_round ended
unfolding in_collect
round_so (round.Erased sb) = refl
round_so (round.Retired sb) = refl
round_so (round.DieFault die) = refl
round_so round.Left = refl

module _ (start : Start) (contents : List (Tag × List ℕ)) (caller : CallerView) (tag : Tag)
    (alone : caller.number ≡ None) where
  abbrev OfCollect : List Entry → List Entry → Option Reply → Type 0
  OfCollect = Decides caller tag alone collect_decided

  noted : (before after : List Entry) (note : Note) → HasNoted start contents caller tag before after (Ok note) →
      OfCollect before after None
  noted before after note has =
      let kind : Kind = Kind.Note note.free note.victim note.live note.pins note.garbage in
      followed caller tag alone collect_decided
      (so caller tag alone collect_decided
      (by_round_of caller tag alone collect_decided in_collect of_collect start contents before has.left round.Left has.round)
      of_collect.of_left)
      (one_step caller tag alone collect_decided kind has.left after None
      (has.notes.3
      ∙ ap {B = List Entry} (λ (past : List Entry). entry_of tag kind ∷ past)
      (is_seen caller tag alone has.left has.notes.0 has.notes.1)) refl)

  by_rounds : {before after : List Entry} → LeavesRounds start contents caller tag before after → OfCollect before after None
  by_rounds {before} collects.none_yet = nothing caller tag alone collect_decided before before refl
  by_rounds {before} {after} (collects.one_more {between = between} rounds off) =
      followed caller tag alone collect_decided (by_rounds rounds) (noted between after off.note off.noted)

  -- the end of a collect
  record IsCollected (before after : List Entry) (reply : CollectReply) : Type 0 where
    decided : Option Reply
    made : OfCollect before after decided
    gives : unwrap_or decided Reply.Idle ≡ reply_to_collect reply

  by_decision : (before after : List Entry) (reply : CollectReply) →
      DecidesCollect start contents caller tag before after reply → IsCollected before after reply
  by_decision before after reply (by_round {ended = ended} picked is) = record {
    decided = in_collect ended;
    made = by_round_of caller tag alone collect_decided in_collect of_collect start contents before after ended picked;
    gives = collected_so ended reply is;
  }
  by_decision before after reply (by_note {note = note} has idle is) = record {
    decided = None;
    made = noted before after note has;
    gives = ap reply_to_collect (sym is);
  }

pub rounds_are_replied : RoundsAloneAreReplied
rounds_are_replied start contents caller tag before after reply alone made =
    let whole =
    by_round_of caller tag alone collect_decided in_collect of_collect start contents before after reply made in
    record {
      steps = whole.steps;
      are_steps = whole.are_steps;
      reply_is = ap (λ (decided : Option Reply). unwrap_or decided Reply.Idle) whole.reply_is ∙ round_so reply;
    }

pub collects_are_replied : CollectsAloneAreReplied
collects_are_replied start contents caller tag before after reply alone made =
    let last = by_decision start contents caller tag alone made.between after reply made.last in
    let whole = followed caller tag alone collect_decided (by_rounds start contents caller tag alone made.rounds) last.made in
    record {
      steps = whole.steps;
      are_steps = whole.are_steps;
      reply_is = ap (λ (decided : Option Reply). unwrap_or decided Reply.Idle) whole.reply_is ∙ last.gives;
    }
