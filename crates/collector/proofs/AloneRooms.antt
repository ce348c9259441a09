-- Each entry of a caller that is alone found room: a step outside a look asked for it, an erase stands right behind the look for a
-- live page, and what stands inside a look has its room set aside.
use Rattle.std.proofs.Common.{◌≡◌, ℕ, ◌+◌, ◌*◌, ◌≤◌, ◌&&◌, nat_le, Bool, true, false, List, [], ◌∷◌, ◌++◌, length, refl, sym, ap, subst, ◌∙◌, inl, inr, arith}
use Rattle.std.specs.Prelude.{Result, Ok, Err, None, Option, Some}
use Rattle.std.specs.List.{list_all}
use Rattle.std.proofs.lemmas.Bool.{and_parts, false≢true, and_from}
use Rattle.std.proofs.lemmas.Bool.Decides.{nat_tests}
use Rattle.chan_calls.specs.Caller.{CallerView, HasLookRoom, HasStepRoom}
use Rattle.chan_calls.specs.Collecting.{MakesErase, MakesPick}
use Rattle.chan_calls.specs.Copied.{CopiesAloneAreCopies, is_die_fault, is_round_end}
use Rattle.chan_calls.specs.Stepping.{MakesWrite}
use Rattle.chan_calls.specs.declared.copy_reply.CopyReply.{CopyReply}
use Rattle.chan_calls.proofs.SensedSteps.{is_seen}
use Rattle.chan_state.specs.declared.answers.EraseAnswer.{EraseAnswer}
use Rattle.chan_state.specs.declared.answers.EraseAnswer.TheVariants as erase
use Rattle.chan_state.specs.declared.answers.PickAnswer.{PickAnswer}
use Rattle.chan_state.specs.declared.answers.PickAnswer.TheVariants as pick
use Rattle.chan_state.specs.declared.answers.WriteAnswer.{WriteAnswer}
use Rattle.chan_state.specs.declared.answers.WriteAnswer.TheVariants as write
use Rattle.chan_tables.specs.declared.answers.Note.{Note}
use Rattle.ssd_geo.specs.Coding.{coding_of}
use Rattle.ssd_geo.specs.Ladder.{LadderState}
use Rattle.ssd_geo.specs.declared.entry.Entry.{Entry}
use Rattle.ssd_geo.specs.declared.kind.Kind.{Kind}
use Rattle.ssd_geo.specs.declared.stop.StepStop.{StepStop}
use Rattle.ssd_geo.specs.declared.tag.Tag.{Tag}
use Rattle.ssd_histories.specs.CallSteps.{CallStep, is_look_of_page}
use Rattle.ssd_histories.specs.History.{open_looks}
use Rattle.ssd_histories.specs.HistoryRoom.{found_room, has_look_room, has_room_for, has_step_room}
use Rattle.ssd_histories.specs.PastPages.{ladder_of}
use Rattle.ssd_histories.specs.SerialCalls.{AreStepsFrom, IsSerialCopy, entry_of}
use Rattle.ssd_histories.specs.Start.{Start}
use Rattle.serial_laws.proofs.CutCalls.{AreInner, IsLookMade, inner_behind, inner_has_room, is_inner, of_copy}
use Rattle.collector.specs.Collects.{DecidesCollect, HasNoted, IsToNote, LeavesOff, LeavesRounds, MakesCollectFor, MakesTurnFor, by_note, by_round}
use Rattle.collector.specs.Collects as collects
use Rattle.collector.specs.Emptying.{CopiesLive, CopiesPages, EmptiesFor, EndsRound, IsToErase, OfBase, by_copy, by_erase, having_seen, no_victim, none_yet, one_more, stops}
use Rattle.collector.specs.Rooms.{CollectsAloneFindRoom, WritesAloneFindRoom}
use Rattle.collector.specs.Rounds.{FollowsPick, HasPicked, MakesRoundFor}
use Rattle.collector.specs.Writes.{EndsWrite, HasMadeRoom, IsToWrite, MakesWriteFor, TurnsWriteFor, WritesOften, WritesOn, by_fail, by_room, by_write}
use Rattle.collector.specs.Writes as turns
use Rattle.collector.specs.declared.replies.CollectReply.{CollectReply}
use Rattle.collector.specs.declared.replies.RoundReply.{RoundReply}
use Rattle.collector.specs.declared.replies.RoundReply.TheVariants as round
use Rattle.collector.specs.declared.replies.WriteReply.{WriteReply}
use Rattle.collector.proofs.AloneRounds.{copied, found_none}

-- room, as a caller and as a history tells it
step_room : (limit caller_limit entries looks : ℕ) → caller_limit ≡ limit → entries + (256 * looks + 1) ≤ caller_limit →
    nat_le (entries + 256 * looks + 1) limit ≡ true
step_room limit caller_limit entries looks same room = grind (arith, nat_tests, same)

look_room : (limit caller_limit entries looks : ℕ) → caller_limit ≡ limit → entries + 256 * (looks + 1) ≤ caller_limit →
    nat_le (entries + 256 * (looks + 1)) limit ≡ true
look_room limit caller_limit entries looks same room = grind (arith, nat_tests, same)

module _ (start : Start) (contents : List (Tag × List ℕ)) (caller : CallerView) (tag : Tag)
    (copies_are : CopiesAloneAreCopies) (alone : caller.number ≡ None) (limit_is : caller.limit ≡ start.limit) where
  abbrev Found : List Entry → Type 0
  Found past = found_room start.limit past ≡ true

  has_step : (past : List Entry) → HasStepRoom caller.limit past → has_step_room start.limit past ≡ true
  has_step past room = step_room start.limit caller.limit (length past) (length (open_looks past)) limit_is room

  has_look : (past : List Entry) → HasLookRoom caller.limit past → has_look_room start.limit past ≡ true
  has_look past room = look_room start.limit caller.limit (length past) (length (open_looks past)) limit_is room

  -- an entry that found room, added to a past
  added : (entry : Entry) (before after : List Entry) → after ≡ entry ∷ before → has_room_for start.limit before entry.kind ≡ true →
      Found before → Found after
  added entry before after is room found =
      subst Found (sym is) (and_from (found_room start.limit before) (has_room_for start.limit before entry.kind) found room)

  unchanged : (before after : List Entry) → after ≡ before → Found before → Found after
  unchanged before after is found = subst Found (sym is) found

  -- the steps of a look
  look_has_room : (past : List Entry) (kind : Kind) → is_look_of_page kind ≡ true → has_look_room start.limit past ≡ true →
      has_room_for start.limit past kind ≡ true
  look_has_room past (Kind.Look row found closed) is room = room
  look_has_room past kind is room = absurd (false≢true is)

  inner_found : (steps : List CallStep) (past after : List Entry) → AreStepsFrom tag past steps after → AreInner steps → Found past →
      Found after
  inner_found [] past after are inner found = subst Found are found
  inner_found (step ∷ steps) past after are inner found =
      let parts = and_parts (is_inner step.entry.kind) (list_all (λ one. is_inner one.entry.kind) steps) inner in
      inner_found steps (step.entry ∷ past) after are.2 parts.1
      (added step.entry past (step.entry ∷ past) refl (inner_has_room start.limit past step.entry.kind parts.0) found)

  look_found : (before after : List Entry) → IsLookMade tag before after → has_look_room start.limit before ≡ true → Found before →
      Found after
  look_found before after look room found =
      let behind = inner_behind tag before after look in
      inner_found ((look.is_list.senses ++ look.ending ∷ []) ++ look.leave ∷ []) (look.look.entry ∷ before) after behind.are_steps behind.inner
      (added look.look.entry before (look.look.entry ∷ before) refl
      (look_has_room before look.look.entry.kind look.is_list.finds_page room) found)

  module _ (sb : ℕ) where
    page_found : (before after : List Entry) (reply : CopyReply) → CopiesLive start contents caller tag sb before after reply →
        Found before → Found after
    page_found before after reply page found =
        let seen : page.finds.0 ≡ before = is_seen caller tag alone before page.finds.0 page.finds.1 in
        look_found before after
        (of_copy (ladder_of (coding_of start.base) start contents) start.base tag
        (copied start contents caller tag copies_are alone sb before after reply page).made)
        (has_look before (subst (λ (past : List Entry). HasLookRoom caller.limit past) seen page.finds.2)) found

    pages_found : {before after : List Entry} → CopiesPages start contents caller tag sb before after → Found before → Found after
    pages_found none_yet found = found
    pages_found {before} {after} (one_more {between = between} {reply = reply} copies page goes) found =
        page_found between after reply page (pages_found copies found)

    erase_found : (before after : List Entry) (answer : EraseAnswer) → has_look_room start.limit before ≡ true →
        MakesErase (OfBase start.base) tag sb before answer after → Found before → Found after
    erase_found before after erase.NotVictim room made found = unchanged before after made.0 found
    erase_found before after (erase.Live count) room made found = unchanged before after made.0 found
    erase_found before after (erase.Pinned count) room made found = unchanged before after made.0 found
    erase_found before after erase.Erased room made found = added (entry_of tag (Kind.Erase sb)) before after made.0 room found
    erase_found before after (erase.FailedErase die) room made found =
        added (entry_of tag (Kind.BadErase sb die false)) before after made.0 room found
    erase_found before after (erase.DieFault die) room made found =
        added (entry_of tag (Kind.BadErase sb die true)) before after made.0 room found

    erasing_found : (before after : List Entry) (erasing : Result EraseAnswer StepStop) → has_look_room start.limit before ≡ true →
        IsToErase start.base caller tag sb before after erasing → Found before → Found after
    erasing_found before after (Ok answer) room tried found =
        erase_found before after answer room
        (subst (λ (past : List Entry). MakesErase (OfBase start.base) tag sb past answer after)
        (is_seen caller tag alone before tried.0 tried.1) tried.3) found
    erasing_found before after (Err (StepStop.HistoryFull told)) room tried found =
        unchanged before after (tried.4 ∙ is_seen caller tag alone before tried.0 tried.1) found
    erasing_found before after (Err StepStop.Memory) room tried found =
        unchanged before after (tried.3 ∙ is_seen caller tag alone before tried.0 tried.1) found

    end_found : (before after : List Entry) (result : Result RoundReply StepStop) →
        EndsRound start contents caller tag sb before after result → Found before → Found after
    end_found before after result (by_copy {reply = reply} page ends is) found = page_found before after reply page found
    end_found before after result (no_victim looks is) found =
        unchanged before after (looks.3.0 ∙ is_seen caller tag alone before looks.0 looks.1) found
    end_found before after result (by_erase emptied erasing looks tried is) found =
        let same : emptied ≡ before = (found_none start contents caller tag copies_are alone sb before emptied looks).0 in
        let seen : looks.0 ≡ before = is_seen caller tag alone before looks.0 looks.1 in
        erasing_found before after erasing
        (has_look before (subst (λ (past : List Entry). HasLookRoom caller.limit past) seen looks.2))
        (subst (λ (past : List Entry). IsToErase start.base caller tag sb past after erasing) same tried) found
    end_found before after result (stops (StepStop.HistoryFull told) looks is) found =
        unchanged before after (looks.4 ∙ is_seen caller tag alone before looks.0 looks.1) found
    end_found before after result (stops StepStop.Memory looks is) found =
        unchanged before after (looks.3 ∙ is_seen caller tag alone before looks.0 looks.1) found

    emptied_found : (before after : List Entry) (result : Result RoundReply StepStop) →
        EmptiesFor start contents caller tag sb before after result → Found before → Found after
    emptied_found before after result empties found =
        end_found empties.copied after result empties.ends (pages_found empties.copies found)

  -- a round
  pick_found : (before after : List Entry) (answer : PickAnswer) → has_step_room start.limit before ≡ true →
      MakesPick (OfBase start.base) tag before answer after → Found before → Found after
  pick_found before after (pick.Busy sb) room made found = unchanged before after made.0 found
  pick_found before after pick.ReadOnly room made found = unchanged before after made.0 found
  pick_found before after pick.NoGarbage room made found = unchanged before after made.0 found
  pick_found before after (pick.Picked sb) room made found = added (entry_of tag (Kind.Pick sb)) before after made.0 room found

  follows_found : (answer : PickAnswer) (before after : List Entry) (result : Result RoundReply StepStop) →
      FollowsPick start contents caller tag answer before after result → Found before → Found after
  follows_found (pick.Busy sb) before after result follows found = emptied_found sb before after result follows found
  follows_found pick.ReadOnly before after result follows found = unchanged before after follows.0 found
  follows_found pick.NoGarbage before after result follows found = unchanged before after follows.0 found
  follows_found (pick.Picked sb) before after result follows found = emptied_found sb before after result follows found

  picked_found : (before after : List Entry) (result : Result RoundReply StepStop) →
      HasPicked start contents caller tag before after result → Found before → Found after
  picked_found before after result picked found =
      let seen : picked.picks.0 ≡ before = is_seen caller tag alone before picked.picks.0 picked.picks.1 in
      follows_found picked.answer picked.picked after result picked.follows
      (pick_found before picked.picked picked.answer
      (has_step before (subst (λ (past : List Entry). HasStepRoom caller.limit past) seen picked.picks.2))
      (subst (λ (past : List Entry). MakesPick (OfBase start.base) tag past picked.answer picked.picked) seen picked.picks.3) found)

  round_found : (before after : List Entry) (result : Result RoundReply StepStop) →
      MakesRoundFor start contents caller tag before after result → Found before → Found after
  round_found before after (Ok reply) picked found = picked_found before after (Ok reply) picked found
  round_found before after (Err (StepStop.HistoryFull told)) (inl tried) found =
      unchanged before after (tried.4 ∙ is_seen caller tag alone before tried.0 tried.1) found
  round_found before after (Err StepStop.Memory) (inl tried) found =
      unchanged before after (tried.3 ∙ is_seen caller tag alone before tried.0 tried.1) found
  round_found before after (Err stop) (inr picked) found = picked_found before after (Err stop) picked found

  -- a write
  module _ (row : ℕ) where
    write_found : (before after : List Entry) (answer : WriteAnswer) → has_step_room start.limit before ≡ true →
        MakesWrite (OfBase start.base) tag row before answer after → Found before → Found after
    write_found before after (write.Written slot) room made found =
        added (entry_of tag (Kind.Write row slot)) before after made.0 room found
    write_found before after (write.Failed sb) room made found =
        added (entry_of tag (Kind.BadWrite row made.0 made.1 false)) before after made.3 room found
    write_found before after (write.DieFault die) room made found =
        added (entry_of tag (Kind.BadWrite row made.0 die true)) before after made.1 room found
    write_found before after write.ReadOnly room made found =
        added (entry_of tag (Kind.Refused row true)) before after made.0 room found
    write_found before after write.Full room made found =
        added (entry_of tag (Kind.Refused row false)) before after made.0 room found
    write_found before after write.NeedRoom room made found = unchanged before after made.0 found

    tried_found : (before after : List Entry) (result : Result WriteAnswer StepStop) →
        IsToWrite start.base caller tag row before after result → Found before → Found after
    tried_found before after (Ok answer) tried found =
        let seen : tried.0 ≡ before = is_seen caller tag alone before tried.0 tried.1 in
        write_found before after answer
        (has_step before (subst (λ (past : List Entry). HasStepRoom caller.limit past) seen tried.2))
        (subst (λ (past : List Entry). MakesWrite (OfBase start.base) tag row past answer after) seen tried.3) found
    tried_found before after (Err (StepStop.HistoryFull told)) tried found =
        unchanged before after (tried.4 ∙ is_seen caller tag alone before tried.0 tried.1) found
    tried_found before after (Err StepStop.Memory) tried found =
        unchanged before after (tried.3 ∙ is_seen caller tag alone before tried.0 tried.1) found

    room_found : (before after : List Entry) (result : Result RoundReply StepStop) →
        HasMadeRoom start contents caller tag row before after result → Found before → Found after
    room_found before after result made found =
        round_found made.needed after result made.round (tried_found before made.needed (Ok write.NeedRoom) made.tried found)

    goes_on_found : (before after : List Entry) → WritesOn start contents caller tag row before after → Found before → Found after
    goes_on_found before after (by_fail sb tried) found = tried_found before after (Ok (write.Failed sb)) tried found
    goes_on_found before after (by_room reply made is) found = room_found before after (Ok reply) made found

    often_found : {before after : List Entry} → WritesOften start contents caller tag row before after → Found before → Found after
    often_found turns.none_yet found = found
    often_found {before} {after} (turns.one_more {between = between} often on) found =
        goes_on_found between after on (often_found often found)

    ends_found : (before after : List Entry) (reply : WriteReply) → EndsWrite start contents caller tag row before after reply →
        Found before → Found after
    ends_found before after reply (by_write answer tried is) found = tried_found before after (Ok answer) tried found
    ends_found before after reply (turns.by_round ended made is) found = room_found before after (Ok ended) made found

    stops_found : (before after : List Entry) (stop : StepStop) →
        TurnsWriteFor start contents caller tag row before after (Err stop) → Found before → Found after
    stops_found before after stop (inl tried) found = tried_found before after (Err stop) tried found
    stops_found before after stop (inr made) found = room_found before after (Err stop) made found

    whole_found : (before after : List Entry) (result : Result WriteReply StepStop) →
        MakesWriteFor start contents caller tag row before after result → Found before → Found after
    whole_found before after (Ok reply) made found = ends_found made.between after reply made.last (often_found made.turns found)
    whole_found before after (Err stop) made found = stops_found made.between after stop made.last (often_found made.turns found)

  -- a collect
  noting_found : (before after : List Entry) (result : Result Note StepStop) → IsToNote caller tag before after result →
      Found before → Found after
  noting_found before after (Ok note) tried found =
      let seen : tried.0 ≡ before = is_seen caller tag alone before tried.0 tried.1 in
      let entry : Entry = entry_of tag (Kind.Note note.free note.victim note.live note.pins note.garbage) in
      added entry before after (tried.3 ∙ ap {B = List Entry} (λ (past : List Entry). entry ∷ past) seen)
      (has_step before (subst (λ (past : List Entry). HasStepRoom caller.limit past) seen tried.2)) found
  noting_found before after (Err (StepStop.HistoryFull told)) tried found =
      unchanged before after (tried.4 ∙ is_seen caller tag alone before tried.0 tried.1) found
  noting_found before after (Err StepStop.Memory) tried found =
      unchanged before after (tried.3 ∙ is_seen caller tag alone before tried.0 tried.1) found

  noted_found : (before after : List Entry) (noting : Result Note StepStop) →
      HasNoted start contents caller tag before after noting → Found before → Found after
  noted_found before after noting noted found =
      noting_found noted.left after noting noted.notes (picked_found before noted.left (Ok round.Left) noted.round found)

  rounds_found : {before after : List Entry} → LeavesRounds start contents caller tag before after → Found before → Found after
  rounds_found collects.none_yet found = found
  rounds_found {before} {after} (collects.one_more {between = between} rounds off) found =
      noted_found between after (Ok off.note) off.noted (rounds_found rounds found)

  decides_found : (before after : List Entry) (reply : CollectReply) → DecidesCollect start contents caller tag before after reply →
      Found before → Found after
  decides_found before after reply (by_round {ended = ended} picked is) found = picked_found before after (Ok ended) picked found
  decides_found before after reply (by_note {note = note} noted idle is) found = noted_found before after (Ok note) noted found

  rest_found : (before after : List Entry) (stop : StepStop) → MakesTurnFor start contents caller tag before after (Err stop) →
      Found before → Found after
  rest_found before after stop (inl rounds) found = round_found before after (Err stop) rounds found
  rest_found before after stop (inr noted) found = noted_found before after (Err stop) noted found

  collect_found : (before after : List Entry) (result : Result CollectReply StepStop) →
      MakesCollectFor start contents caller tag before after result → Found before → Found after
  collect_found before after (Ok reply) made found = decides_found made.between after reply made.last (rounds_found made.rounds found)
  collect_found before after (Err stop) made found = rest_found made.between after stop made.last (rounds_found made.rounds found)

pub writes_find_room : CopiesAloneAreCopies → WritesAloneFindRoom
writes_find_room copies_are start contents caller tag row before after result alone limit_is made found =
    whole_found start contents caller tag copies_are alone limit_is row before after result made found

pub collects_find_room : CopiesAloneAreCopies → CollectsAloneFindRoom
collects_find_room copies_are start contents caller tag before after result alone limit_is made found =
    collect_found start contents caller tag copies_are alone limit_is before after result made found
