-- Each step of a caller adds to the past that it had seen: so what stood before a lawful past is lawful, and what a round adds
-- makes the past longer.
use Rattle.std.proofs.Common.{◌≡◌, ℕ, ◌+◌, ◌*◌, ◌<◌, ◌≤◌, ◌-◌, true, List, [], ◌∷◌, ◌++◌, length, refl, sym, ap, ◌∙◌, append_assoc, inl, inr, arith}
use Rattle.std.specs.Prelude.{Result, Ok, Err}
use Rattle.chan_calls.specs.Caller.{AddsKinds, CallerView, Comes, HasLookRoom, HasStepRoom}
use Rattle.chan_calls.specs.Calls.{HasFailed, IsLeft}
use Rattle.chan_calls.specs.Collecting.{MakesErase, MakesLive, MakesNote, MakesPick}
use Rattle.chan_calls.specs.Copied.{CopiesFor, IsEnded}
use Rattle.chan_calls.specs.Moving.{MakesCondemn, MakesMove}
use Rattle.chan_calls.specs.Stepping.{BaseFact, IsStepped, MakesWrite}
use Rattle.chan_calls.specs.declared.copy_reply.CopyReply.{CopyReply}
use Rattle.chan_state.specs.declared.answers.EraseAnswer.{EraseAnswer}
use Rattle.chan_state.specs.declared.answers.EraseAnswer.TheVariants as erase
use Rattle.chan_state.specs.declared.answers.MoveAnswer.{MoveAnswer}
use Rattle.chan_state.specs.declared.answers.MoveAnswer.TheVariants as move
use Rattle.chan_state.specs.declared.answers.PickAnswer.{PickAnswer}
use Rattle.chan_state.specs.declared.answers.PickAnswer.TheVariants as pick
use Rattle.chan_tables.specs.declared.answers.CondemnAnswer.{CondemnAnswer}
use Rattle.chan_tables.specs.declared.answers.CondemnAnswer.TheVariants as condemn
use Rattle.chan_tables.specs.declared.answers.LiveAnswer.{LiveAnswer}
use Rattle.chan_tables.specs.declared.answers.LiveAnswer.TheVariants as live
use Rattle.chan_tables.specs.declared.answers.Note.{Note}
use Rattle.ssd_geo.specs.Ladder.{LadderState}
use Rattle.ssd_geo.specs.declared.base.ChannelBase.{ChannelBase}
use Rattle.ssd_geo.specs.declared.entry.Entry.{Entry}
use Rattle.ssd_geo.specs.declared.kind.Kind.{Kind}
use Rattle.ssd_geo.specs.declared.shape.Shape.{Shape}
use Rattle.ssd_geo.specs.declared.stop.StepStop.{StepStop}
use Rattle.ssd_geo.specs.declared.tag.Tag.{Tag}
use Rattle.ssd_histories.specs.History.{open_looks}
use Rattle.ssd_histories.specs.Lawful.{IsLawfulBy}
use Rattle.ssd_histories.specs.SerialCalls.{entry_of}
use Rattle.ssd_histories.specs.Start.{Start}
use Rattle.collector.specs.Collects.{DecidesCollect, HasNoted, LeavesOff, LeavesRounds, MakesCollectFor, MakesTurnFor, by_note, by_round, last_turn}
use Rattle.collector.specs.Collects as collects
use Rattle.collector.specs.Emptying.{CopiesLive, CopiesPages, EmptiesFor, EndsRound, OfBase, by_copy, by_erase, having_seen, no_victim, none_yet, one_more, stops}
use Rattle.collector.specs.Rounds.{FollowsPick, HasPicked}
use Rattle.collector.specs.declared.replies.CollectReply.{CollectReply}
use Rattle.collector.specs.Writes.{EndsWrite, HasMadeRoom, IsToWrite, WritesOften, WritesOn, by_fail, by_room, by_write}
use Rattle.collector.specs.Writes as turns
use Rattle.collector.specs.declared.replies.RoundReply.{RoundReply}
use Rattle.collector.specs.declared.replies.WriteReply.{WriteReply}
use Rattle.chan_state.specs.declared.answers.WriteAnswer.{WriteAnswer}
use Rattle.chan_state.specs.declared.answers.WriteAnswer.TheVariants as write

-- a past has more entries than another, upon it
pub record Grows (before after : List Entry) : Type 0 where
  pub more : List Entry
  pub after_is : after ≡ more ++ before

stays : (past : List Entry) → Grows past past
stays past = record { more = []; after_is = refl }

pub is_same : (before after : List Entry) → after ≡ before → Grows before after
is_same before after same = record { more = []; after_is = same }

pub adds : (entry : Entry) (before after : List Entry) → after ≡ entry ∷ before → Grows before after
adds entry before after is = record { more = entry ∷ []; after_is = is }

pub over : (a b c : List Entry) → Grows a b → Grows b c → Grows a c
over a b c first second = record {
  more = second.more ++ first.more;
  after_is =
      second.after_is ∙ ap {B = List Entry} (λ (past : List Entry). second.more ++ past) first.after_is
      ∙ sym (append_assoc second.more first.more a);
}

pub comes_grows : (caller : CallerView) (tag : Tag) (now : List Entry) → Comes caller tag now → Grows caller.seen now
comes_grows caller tag now comes = record { more = comes.others; after_is = comes.now_is }

-- what stands in a lawful past is lawful, and no longer
within : (ladder : List Entry → ℕ → LadderState) (base : ChannelBase) (more before : List Entry) →
    IsLawfulBy ladder base (more ++ before) → IsLawfulBy ladder base before
within ladder base [] before lawful = lawful
within ladder base (entry ∷ more) before lawful = within ladder base more before lawful.0

pub lawful_within : (ladder : List Entry → ℕ → LadderState) (base : ChannelBase) (before after : List Entry) →
    Grows before after → IsLawfulBy ladder base after → IsLawfulBy ladder base before
lawful_within ladder base before after grows lawful =
    within ladder base grows.more before (rw grows.after_is at lawful)

no_shorter : (more before : List Entry) → length before ≤ length (more ++ before)
no_shorter [] before = omega arith
no_shorter (entry ∷ more) before = let rest = no_shorter more before in omega (arith, rest)

pub longer : (before after : List Entry) → Grows before after → length before ≤ length after
longer before after grows =
    let same : length after ≡ length (grows.more ++ before) = ap (λ (past : List Entry). length past) grows.after_is in
    let more = no_shorter grows.more before in
    omega (arith, same, more)

-- the steps
pub kinds_grow : (caller : CallerView) (tag : Tag) (kinds : List Kind) (seen new : List Entry) →
    AddsKinds caller tag kinds seen new → Grows seen new
kinds_grow caller tag [] seen new is = is_same seen new is
kinds_grow caller tag (kind ∷ kinds) seen new made =
    over seen made.0 new (comes_grows (record caller { seen = seen }) tag made.0 made.1)
    (over made.0 (entry_of tag kind ∷ made.0) new (adds (entry_of tag kind) made.0 (entry_of tag kind ∷ made.0) refl)
    (kinds_grow caller tag kinds (entry_of tag kind ∷ made.0) new made.2))

move_grows : (tag : Tag) (at : ℕ) (now seen : List Entry) (answer : MoveAnswer) → MakesMove tag at now answer seen →
    Grows now seen
move_grows tag at now seen (move.Changed row) made = adds _ now seen made
move_grows tag at now seen move.ReadOnly made = adds _ now seen made
move_grows tag at now seen move.NoRoom made = adds _ now seen made
move_grows tag at now seen (move.Moved slot) made = adds _ now seen made
move_grows tag at now seen (move.Failed sb) made = adds _ now seen made.3
move_grows tag at now seen (move.DieFault die) made = adds _ now seen made.1

condemn_grows : (tag : Tag) (at : ℕ) (now seen : List Entry) (answer : CondemnAnswer) → MakesCondemn tag at now answer seen →
    Grows now seen
condemn_grows tag at now seen (condemn.Changed row) made = adds _ now seen made
condemn_grows tag at now seen condemn.Condemned made = adds _ now seen made

module _ (start : Start) (contents : List (Tag × List ℕ)) (caller : CallerView) (tag : Tag) where
  ended_grows : (at : ℕ) (before ended : List Entry) (reply : CopyReply) →
      IsEnded start contents caller tag at true before ended reply →
      Grows before ended
  ended_grows at before ended reply (inl moved) =
      over before moved.at_move ended (comes_grows (having_seen caller before) tag moved.at_move moved.comes)
      (move_grows tag at moved.at_move ended moved.answer moved.made)
  ended_grows at before ended reply (inr lost) =
      over before lost.at_condemn ended (comes_grows (having_seen caller before) tag lost.at_condemn lost.comes)
      (condemn_grows tag at lost.at_condemn ended lost.answer lost.made)

  left_grows : (at : ℕ) (before new : List Entry) → IsLeft caller tag at before new → Grows before new
  left_grows at before new leaves =
      over before leaves.at_leave new (comes_grows (having_seen caller before) tag leaves.at_leave leaves.comes)
      (adds (entry_of tag (Kind.Leave at)) leaves.at_leave new leaves.new_is)

  failed_grows : (at die : ℕ) (before new : List Entry) → HasFailed caller tag at before new die → Grows before new
  failed_grows at die before new fails =
      let fault : Entry = entry_of tag (Kind.FaultSense at fails.place fails.level) in
      over before fails.at_sense new (comes_grows (having_seen caller before) tag fails.at_sense fails.comes)
      (over fails.at_sense (fault ∷ fails.at_sense) new (adds fault fails.at_sense (fault ∷ fails.at_sense) refl)
      (left_grows at (fault ∷ fails.at_sense) new fails.leaves))

  pub copy_grows : (at : ℕ) (new : List Entry) (reply : CopyReply) → CopiesFor start contents caller tag at true new reply →
      Grows caller.seen new
  copy_grows at new reply (inl copied) =
      over caller.seen copied.senses.after new
      (kinds_grow caller tag _ caller.seen copied.senses.after copied.senses.are_senses)
      (over copied.senses.after copied.ended new (ended_grows at copied.senses.after copied.ended reply copied.ends)
      (left_grows at copied.ended new copied.leaves))
  copy_grows at new reply (inr failed) =
      over caller.seen failed.senses.after new
      (kinds_grow caller tag _ caller.seen failed.senses.after failed.senses.are_senses)
      (failed_grows at failed.die failed.senses.after new failed.fails)

-- a step that wants room
pub stepped_grows : {A : Type 0} (has_room : ℕ → List Entry → Type 0) (makes : List Entry → A → List Entry → Type 0) →
    ((now : List Entry) (answer : A) (seen : List Entry) → makes now answer seen → Grows now seen) →
    (tag : Tag) (old new : CallerView) (result : Result A StepStop) → IsStepped has_room makes tag old new result →
    Grows old.seen new.seen
stepped_grows has_room makes grow tag old new (Ok answer) stepped =
    over old.seen stepped.0 new.seen (comes_grows old tag stepped.0 stepped.1) (grow stepped.0 answer new.seen stepped.3)
stepped_grows has_room makes grow tag old new (Err (StepStop.HistoryFull told)) stepped =
    over old.seen stepped.0 new.seen (comes_grows old tag stepped.0 stepped.1) (is_same stepped.0 new.seen stepped.4)
stepped_grows has_room makes grow tag old new (Err StepStop.Memory) stepped =
    over old.seen stepped.0 new.seen (comes_grows old tag stepped.0 stepped.1) (is_same stepped.0 new.seen stepped.3)

live_grows : (of_each : BaseFact → Type 0) (shape : Shape) (tag : Tag) (sb : ℕ) (now : List Entry) (answer : LiveAnswer)
    (seen : List Entry) → MakesLive of_each shape tag sb now answer seen → Grows now seen
live_grows of_each shape tag sb now live.NotVictim seen made = is_same now seen made.0
live_grows of_each shape tag sb now live.NoneLive seen made = is_same now seen made.0
live_grows of_each shape tag sb now (live.Found look) seen made = adds _ now seen made.0.3

erase_grows : (of_each : BaseFact → Type 0) (tag : Tag) (sb : ℕ) (now : List Entry) (answer : EraseAnswer)
    (seen : List Entry) → MakesErase of_each tag sb now answer seen → Grows now seen
erase_grows of_each tag sb now erase.NotVictim seen made = is_same now seen made.0
erase_grows of_each tag sb now (erase.Live count) seen made = is_same now seen made.0
erase_grows of_each tag sb now (erase.Pinned count) seen made = is_same now seen made.0
erase_grows of_each tag sb now erase.Erased seen made = adds _ now seen made.0
erase_grows of_each tag sb now (erase.FailedErase die) seen made = adds _ now seen made.0
erase_grows of_each tag sb now (erase.DieFault die) seen made = adds _ now seen made.0

pick_grows : (of_each : BaseFact → Type 0) (tag : Tag) (now : List Entry) (answer : PickAnswer)
    (seen : List Entry) → MakesPick of_each tag now answer seen → Grows now seen
pick_grows of_each tag now (pick.Busy sb) seen made = is_same now seen made.0
pick_grows of_each tag now pick.ReadOnly seen made = is_same now seen made.0
pick_grows of_each tag now pick.NoGarbage seen made = is_same now seen made.0
pick_grows of_each tag now (pick.Picked sb) seen made = adds _ now seen made.0

note_grows : (tag : Tag) (now : List Entry) (note : Note) (seen : List Entry) → MakesNote tag now note seen → Grows now seen
note_grows tag now note seen made = adds _ now seen made

one_longer : (entry : Entry) (before after : List Entry) → after ≡ entry ∷ before → length after ≡ length before + 1
one_longer entry before after is =
    let same : length after ≡ length (entry ∷ before) = ap (λ (past : List Entry). length past) is in
    omega (arith, same)

-- a past grew, and had been below the limit
pub record Advances (limit : ℕ) (before after : List Entry) : Type 0 where
  pub is_longer : length before < length after
  pub is_below : length before < limit

pub less_left : (limit : ℕ) (before after : List Entry) → Advances limit before after →
    limit - length after < limit - length before
less_left limit before after advances = omega (arith, advances.is_longer, advances.is_below)

pub advances_on : (limit : ℕ) (first before after : List Entry) → Grows first before → Advances limit before after →
    Advances limit first after
advances_on limit first before after grows advances =
    let low = longer first before grows in
    record {
      is_longer = omega (arith, low, advances.is_longer);
      is_below = omega (arith, low, advances.is_below);
    }

-- a step that wants room adds an entry
pub step_advances : (limit : ℕ) (entry : Entry) (before after : List Entry) → HasStepRoom limit before →
    after ≡ entry ∷ before →
    Advances limit before after
step_advances limit entry before after room is =
    let more = one_longer entry before after is in
    let low : length before + (256 * length (open_looks before) + 1) ≤ limit = room in
    record { is_longer = omega (arith, more); is_below = omega (arith, low) }

pub advances_then : (limit : ℕ) (before between after : List Entry) → Grows between after → Advances limit before between →
    Advances limit before after
advances_then limit before between after grows advances =
    let more = longer between after grows in
    record { is_longer = omega (arith, more, advances.is_longer); is_below = advances.is_below }

module _ (start : Start) (contents : List (Tag × List ℕ)) (caller : CallerView) (tag : Tag) where
  module _ (sb : ℕ) where
    pub looks_grow : (before after : List Entry) (result : Result LiveAnswer StepStop) →
        IsStepped HasLookRoom (MakesLive (OfBase start.base) caller.shape tag sb) tag (having_seen caller before)
        (having_seen caller after) result → Grows before after
    looks_grow before after result looks =
        stepped_grows HasLookRoom (MakesLive (OfBase start.base) caller.shape tag sb)
        (live_grows (OfBase start.base) caller.shape tag sb) tag (having_seen caller before) (having_seen caller after) result
        looks

    pub erasing_grows : (before after : List Entry) (result : Result EraseAnswer StepStop) →
        IsStepped HasStepRoom (MakesErase (OfBase start.base) tag sb) tag (having_seen caller before)
        (having_seen caller after) result → Grows before after
    erasing_grows before after result erases =
        stepped_grows HasStepRoom (MakesErase (OfBase start.base) tag sb)
        (erase_grows (OfBase start.base) tag sb) tag (having_seen caller before) (having_seen caller after) result erases

    pub page_grows : (before after : List Entry) (reply : CopyReply) →
        CopiesLive start contents caller tag sb before after reply →
        Grows before after
    page_grows before after reply page =
        over before page.looked after (looks_grow before page.looked (Ok (live.Found page.look)) page.finds)
        (copy_grows start contents (having_seen caller page.looked) tag page.look.at after reply page.copies)

    pub page_advances : (before after : List Entry) (reply : CopyReply) →
        CopiesLive start contents caller tag sb before after reply →
        Advances caller.limit before after
    page_advances before after reply page =
        let now : List Entry = page.finds.0 in
        let first = longer before now (comes_grows (having_seen caller before) tag now page.finds.1) in
        let looked : length page.looked ≡ length now + 1 =
        one_longer _ now page.looked page.finds.3.0.3 in
        let last = longer page.looked after
        (copy_grows start contents (having_seen caller page.looked) tag page.look.at after reply page.copies) in
        let room : length now + 256 * (length (open_looks now) + 1) ≤ caller.limit = page.finds.2 in
        record { is_longer = omega (arith, first, looked, last); is_below = omega (arith, first, room) }

    pub pages_grow : {before after : List Entry} → CopiesPages start contents caller tag sb before after → Grows before after
    pages_grow {before} none_yet = stays before
    pages_grow {before} {after} (one_more {between = between} {reply = reply} copies page goes) =
        over before between after (pages_grow copies) (page_grows between after reply page)

    pub end_grows : (before after : List Entry) (result : Result RoundReply StepStop) →
        EndsRound start contents caller tag sb before after result → Grows before after
    end_grows before after result (by_copy {reply = reply} page ends is) = page_grows before after reply page
    end_grows before after result (no_victim looks is) = looks_grow before after (Ok live.NotVictim) looks
    end_grows before after result (by_erase emptied erasing looks erases is) =
        over before emptied after (looks_grow before emptied (Ok live.NoneLive) looks) (erasing_grows emptied after erasing
        erases)
    end_grows before after result (stops stop looks is) = looks_grow before after (Err stop) looks

    pub emptying_grows : (before after : List Entry) (result : Result RoundReply StepStop) →
        EmptiesFor start contents caller tag sb before after result → Grows before after
    emptying_grows before after result empties =
        over before empties.copied after (pages_grow empties.copies) (end_grows empties.copied after result empties.ends)

  follows_grows : (answer : PickAnswer) (before after : List Entry) (result : Result RoundReply StepStop) →
      FollowsPick start contents caller tag answer before after result → Grows before after
  follows_grows (pick.Busy sb) before after result follows = emptying_grows sb before after result follows
  follows_grows pick.ReadOnly before after result follows = is_same before after follows.0
  follows_grows pick.NoGarbage before after result follows = is_same before after follows.0
  follows_grows (pick.Picked sb) before after result follows = emptying_grows sb before after result follows

  picking_grows : (before after : List Entry) (result : Result PickAnswer StepStop) →
      IsStepped HasStepRoom (MakesPick (OfBase start.base) tag) tag (having_seen caller before) (having_seen caller after)
      result →
      Grows before after
  picking_grows before after result picks =
      stepped_grows HasStepRoom (MakesPick (OfBase start.base) tag) (pick_grows (OfBase start.base) tag) tag
      (having_seen caller before) (having_seen caller after) result picks

  pub picked_grows : (before after : List Entry) (result : Result RoundReply StepStop) →
      HasPicked start contents caller tag before after result → Grows before after
  picked_grows before after result picked =
      over before picked.picked after (picking_grows before picked.picked (Ok picked.answer) picked.picks)
      (follows_grows picked.answer picked.picked after result picked.follows)

  pub noting_grows : (before after : List Entry) (result : Result Note StepStop) →
      IsStepped HasStepRoom (MakesNote tag) tag (having_seen caller before) (having_seen caller after) result →
      Grows before after
  noting_grows before after result notes =
      stepped_grows HasStepRoom (MakesNote tag) (note_grows tag) tag (having_seen caller before) (having_seen caller after)
      result
      notes

  -- a round with a note after it
  pub noted_grows : (before after : List Entry) (noting : Result Note StepStop) →
      HasNoted start contents caller tag before after noting →
      Grows before after
  noted_grows before after noting noted =
      over before noted.left after (picked_grows before noted.left _ noted.round) (noting_grows noted.left after noting
      noted.notes)

  pub noted_advances : (before after : List Entry) (note : Note) → HasNoted start contents caller tag before after (Ok note) →
      Advances caller.limit before after
  noted_advances before after note noted =
      let now : List Entry = noted.notes.0 in
      let first = longer before noted.left (picked_grows before noted.left _ noted.round) in
      let second = longer noted.left now (comes_grows (having_seen caller noted.left) tag now noted.notes.1) in
      let last : length after ≡ length now + 1 = one_longer _ now after noted.notes.3 in
      let room : length now + (256 * length (open_looks now) + 1) ≤ caller.limit = noted.notes.2 in
      record { is_longer = omega (arith, first, second, last); is_below = omega (arith, first, second, room) }

  pub rounds_grow : {before after : List Entry} → LeavesRounds start contents caller tag before after → Grows before after
  rounds_grow {before} collects.none_yet = stays before
  rounds_grow {before} {after} (collects.one_more {between = between} rounds off) =
      over before between after (rounds_grow rounds) (noted_grows between after (Ok off.note) off.noted)

  pub decided_grows : (before after : List Entry) (reply : CollectReply) →
      DecidesCollect start contents caller tag before after reply →
      Grows before after
  decided_grows before after reply (by_round {ended = ended} round is) = picked_grows before after (Ok ended) round
  decided_grows before after reply (by_note {note = note} noted idle is) = noted_grows before after (Ok note) noted

-- the turns of a write
module _ (start : Start) (contents : List (Tag × List ℕ)) (caller : CallerView) (tag : Tag) (row : ℕ) where
  write_grows : (of_each : BaseFact → Type 0) (now : List Entry) (answer : WriteAnswer) (seen : List Entry) →
      MakesWrite of_each tag row now answer seen → Grows now seen
  write_grows of_each now (write.Written slot) seen made = adds _ now seen made.0
  write_grows of_each now (write.Failed sb) seen made = adds _ now seen made.3
  write_grows of_each now (write.DieFault die) seen made = adds _ now seen made.1
  write_grows of_each now write.ReadOnly seen made = adds _ now seen made.0
  write_grows of_each now write.Full seen made = adds _ now seen made.0
  write_grows of_each now write.NeedRoom seen made = is_same now seen made.0

  pub writing_grows : (before after : List Entry) (result : Result WriteAnswer StepStop) →
      IsToWrite start.base caller tag row before after result → Grows before after
  writing_grows before after result tried =
      stepped_grows HasStepRoom (MakesWrite (OfBase start.base) tag row) (write_grows (OfBase start.base)) tag
      (having_seen caller before) (having_seen caller after) result tried

  room_grows : (before after : List Entry) (reply : RoundReply) →
      HasMadeRoom start contents caller tag row before after (Ok reply) → Grows before after
  room_grows before after reply made =
      over before made.needed after (writing_grows before made.needed (Ok write.NeedRoom) made.tried)
      (picked_grows start contents caller tag made.needed after (Ok reply) made.round)

  pub writes_on_grow : (before after : List Entry) → WritesOn start contents caller tag row before after → Grows before after
  writes_on_grow before after (by_fail sb tried) = writing_grows before after (Ok (write.Failed sb)) tried
  writes_on_grow before after (by_room reply made is) = room_grows before after reply made

  pub writes_often_grow : {before after : List Entry} → WritesOften start contents caller tag row before after →
      Grows before after
  writes_often_grow {before} turns.none_yet = stays before
  writes_often_grow {before} {after} (turns.one_more {between = between} often on) =
      over before between after (writes_often_grow often) (writes_on_grow between after on)

  pub ends_write_grow : (before after : List Entry) (reply : WriteReply) →
      EndsWrite start contents caller tag row before after reply → Grows before after
  ends_write_grow before after reply (by_write answer tried is) = writing_grows before after (Ok answer) tried
  ends_write_grow before after reply (turns.by_round ended made is) = room_grows before after ended made
