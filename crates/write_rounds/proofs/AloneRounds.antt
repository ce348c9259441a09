-- The rounds of a write whose caller is alone: the proofs of the laws of specs/AloneRounds.antt.
use Rattle.std.proofs.Common.{◌≡◌, ℕ, ◌+◌, ◌≤◌, true, false, List, [], None, refl, sym, subst, inl, inr, arith}
use Rattle.std.specs.Prelude.{Result, Ok, Err}
use Rattle.std.proofs.lemmas.Option.{none-some}
use Rattle.chan_calls.specs.Caller.{CallerView, HasStepRoom}
use Rattle.chan_calls.specs.Collecting.{MakesPick}
use Rattle.chan_calls.specs.Stepping.{IsStepped, MakesWrite}
use Rattle.chan_calls.proofs.SensedSteps.{is_seen}
use Rattle.chan_state.specs.declared.answers.WriteAnswer.{WriteAnswer}
use Rattle.chan_state.specs.declared.answers.WriteAnswer.TheVariants as write
use Rattle.ssd_geo.specs.Coding.{coding_of}
use Rattle.ssd_geo.specs.Ladder.{LadderState}
use Rattle.ssd_geo.specs.declared.entry.Entry.{Entry}
use Rattle.ssd_geo.specs.declared.stop.StepStop.{StepStop}
use Rattle.ssd_geo.specs.declared.tag.Tag.{Tag}
use Rattle.ssd_histories.specs.History.{open_looks}
use Rattle.ssd_histories.specs.Lawful.{IsLawful}
use Rattle.ssd_histories.specs.PastPages.{ladder_of}
use Rattle.ssd_histories.specs.Rounds.{needs_room}
use Rattle.ssd_histories.specs.SerialCalls.{is_faultless}
use Rattle.ssd_histories.specs.Standing.{IsStart}
use Rattle.ssd_histories.specs.Start.{Start}
use Rattle.history_laws.specs.NeverFull.{count_of_bad}
use Rattle.round_bounds.proofs.BadBlocks.{bad_stays_bad_over}
use Rattle.round_bounds.proofs.DueRounds.{few_are_due}
use Rattle.round_bounds.proofs.RoundBounds.{HasMade, IsBounded, bounded_last, bounded_now, made_fail, made_none, made_round}
use Rattle.collector.specs.Alone.{IsRoundAlone, RoundsAloneAreRounds, end_of}
use Rattle.collector.specs.Emptying.{OfBase, having_seen}
use Rattle.collector.specs.Rounds.{MakesRoundFor}
use Rattle.collector.specs.Writes.{HasMadeRoom, IsToWrite, MakesWriteFor, TurnsWriteFor, WritesOften, WritesOn, by_fail, by_room, by_round, by_write, last_try, none_yet, one_more, reply_of_round}
use Rattle.collector.specs.declared.replies.RoundReply.{RoundReply}
use Rattle.collector.specs.declared.replies.RoundReply.TheVariants as round
use Rattle.collector.specs.declared.replies.WriteReply.{WriteReply}
use Rattle.collector.proofs.GrownPasts.{Grows, comes_grows, ends_write_grow, is_same, lawful_within, over, picked_grows, writes_on_grow, writing_grows}
use Rattle.write_rounds.specs.AloneRounds.{AloneWritesMakeFewRounds, AloneWritesMakeTwoMore, rounds_made, rounds_of_last, rounds_of_turn, rounds_of_turns}
use Rattle.collector.proofs.AloneWrites.{faultless_so}

-- a step that was refused leaves a past that grew
stopped_grows : {A : Type 0} (has_room : ℕ → List Entry → Type 0) (makes : List Entry → A → List Entry → Type 0) (tag : Tag)
    (old new : CallerView) (stop : StepStop) → IsStepped has_room makes tag old new (Err stop) → Grows old.seen new.seen
stopped_grows has_room makes tag old new (StepStop.HistoryFull told) stepped =
    over old.seen stepped.0 new.seen (comes_grows old tag stepped.0 stepped.1) (is_same stepped.0 new.seen stepped.4)
stopped_grows has_room makes tag old new StepStop.Memory stepped =
    over old.seen stepped.0 new.seen (comes_grows old tag stepped.0 stepped.1) (is_same stepped.0 new.seen stepped.3)

module _ (start : Start) (contents : List (Tag × List ℕ)) (caller : CallerView) (tag : Tag) (row : ℕ)
    (alone : caller.number ≡ None) (is_start : IsStart start) (rounds_are : RoundsAloneAreRounds) where
  abbrev ladder : List Entry → ℕ → LadderState
  ladder = ladder_of (coding_of start.base) start contents

  -- what a write's step made, upon what the caller had seen
  wrote : (before after : List Entry) (answer : WriteAnswer) → IsToWrite start.base caller tag row before after (Ok answer) →
      MakesWrite (OfBase start.base) tag row before answer after
  wrote before after answer tried =
      subst (λ (past : List Entry). MakesWrite (OfBase start.base) tag row past answer after)
      (is_seen caller tag alone before tried.0 tried.1) tried.3

  abbrev Made : List Entry → ℕ → List Entry → Type 0
  Made = HasMade ladder start.base is_start.blocks_sound tag

  -- turns after which the write went on: so many rounds were made, and no look is open
  record HasTurned (before : List Entry) (rounds : ℕ) (now : List Entry) : Type 0 where
    made : Made before rounds now
    none_open : open_looks now ≡ []

  failed_turn : (before : List Entry) (rounds : ℕ) (now after : List Entry) (sb : ℕ) → HasTurned before rounds now →
      IsLawful start contents after → MakesWrite (OfBase start.base) tag row now (write.Failed sb) after →
      HasTurned before rounds after
  failed_turn before rounds now after sb turned lawful wrote_it =
      subst (HasTurned before rounds) (sym wrote_it.3)
      (record {
        made =
            made_fail ladder start.base is_start.blocks_sound tag before rounds now row wrote_it.0 wrote_it.1 false turned.made
            wrote_it.4 (subst (IsLawful start contents) wrote_it.3 lawful);
        none_open = turned.none_open;
      })

  room_turn : (before : List Entry) (rounds : ℕ) (now after : List Entry) (reply : RoundReply) → HasTurned before rounds now →
      IsLawful start contents after → HasMadeRoom start contents caller tag row now after (Ok reply) →
      reply_of_round reply ≡ None → HasTurned before (rounds + 1) after
  room_turn before rounds now after reply turned lawful room goes =
      let tried = wrote now room.needed write.NeedRoom room.tried in
      let alone_round : IsRoundAlone start contents tag now after reply =
      rounds_are start contents caller tag now after reply alone lawful turned.none_open
      (subst (λ (past : List Entry). MakesRoundFor start contents caller tag past after (Ok reply)) tried.0 room.round) in
      record {
        made =
            made_round ladder start.base is_start.blocks_sound tag before rounds turned.made tried.1 alone_round.is_round
            (faultless_so reply goes) lawful;
        none_open = alone_round.none_open;
      }

  -- the same past with as many rounds
  as_many : (before now : List Entry) (a b : ℕ) → a ≡ b → HasTurned before a now → HasTurned before b now
  as_many before now a b same turned = subst (λ (n : ℕ). HasTurned before n now) same turned

  turn_made : (before : List Entry) (rounds : ℕ) (now after : List Entry)
      (turn : WritesOn start contents caller tag row now after) → HasTurned before rounds now → IsLawful start contents after →
      HasTurned before (rounds + rounds_of_turn turn) after
  turn_made before rounds now after (by_fail sb tried) turned lawful =
      as_many before after rounds (rounds + 0) (omega arith)
      (failed_turn before rounds now after sb turned lawful (wrote now after (write.Failed sb) tried))
  turn_made before rounds now after (by_room reply made goes) turned lawful =
      room_turn before rounds now after reply turned lawful made goes

  turns_made : {before now : List Entry} (turns : WritesOften start contents caller tag row before now) →
      open_looks before ≡ [] → IsLawful start contents now → HasTurned before (rounds_of_turns turns) now
  turns_made {before} none_yet none lawful = record
      { made = made_none ladder start.base is_start.blocks_sound tag before; none_open = none }
  turns_made {before} {now} (one_more {between = between} turns turn) none lawful =
      let there : IsLawful start contents between =
      lawful_within ladder start.base between now (writes_on_grow start contents caller tag row between now turn) lawful in
      turn_made before (rounds_of_turns turns) between now turn (turns_made turns none there) lawful

  -- ---- the last turn

  round_grows : (before after : List Entry) (stop : StepStop) →
      MakesRoundFor start contents caller tag before after (Err stop) → Grows before after
  round_grows before after stop (inl picks) =
      stopped_grows HasStepRoom (MakesPick (OfBase start.base) tag) tag (having_seen caller before) (having_seen caller after)
      stop picks
  round_grows before after stop (inr picked) = picked_grows start contents caller tag before after (Err stop) picked

  last_grows : (before after : List Entry) (result : Result WriteReply StepStop) →
      TurnsWriteFor start contents caller tag row before after (last_try result) → Grows before after
  last_grows before after (Ok reply) last = ends_write_grow start contents caller tag row before after reply last
  last_grows before after (Err stop) (inl tried) = writing_grows start contents caller tag row before after (Err stop) tried
  last_grows before after (Err stop) (inr made) =
      over before made.needed after
      (writing_grows start contents caller tag row before made.needed (Ok write.NeedRoom) made.tried)
      (round_grows made.needed after stop made.round)

  -- a round of the last turn was needed
  room_is_needed : (now after : List Entry) (result : Result RoundReply StepStop) →
      HasMadeRoom start contents caller tag row now after result → needs_room start.base now ≡ true
  room_is_needed now after result room = (wrote now room.needed write.NeedRoom room.tried).1

  -- ---- the whole write

  never_fewer : (before after : List Entry) → Grows before after → IsLawful start contents after →
      count_of_bad start.base before ≤ count_of_bad start.base after
  never_fewer before after grows lawful =
      subst (λ (past : List Entry). count_of_bad start.base before ≤ count_of_bad start.base past) (sym grows.after_is)
      (bad_stays_bad_over ladder start.base grows.more before (subst (IsLawful start contents) grows.after_is lawful))

  abbrev Bounded : List Entry → ℕ → List Entry → Type 0
  Bounded = IsBounded ladder start.base is_start.blocks_sound tag

  module _ (before : List Entry) (rounds : ℕ) (now after : List Entry) (made : Made before rounds now)
      (more : count_of_bad start.base now ≤ count_of_bad start.base after) where
    no_more : Bounded before (rounds + 0) after
    no_more =
        subst (λ (n : ℕ). Bounded before n after) plus_none
        (bounded_now ladder start.base is_start.blocks_sound tag before rounds now after made more)
      where
        plus_none : rounds ≡ rounds + 0
        plus_none = omega arith

    one_last : needs_room start.base now ≡ true → Bounded before (rounds + 1) after
    one_last needs = bounded_last ladder start.base is_start.blocks_sound tag before rounds now after made needs more

    last_made : (result : Result WriteReply StepStop)
        (last : TurnsWriteFor start contents caller tag row now after (last_try result)) →
        Bounded before (rounds + rounds_of_last start contents caller tag row now after result last) after
    last_made (Ok reply) (by_write answer tried ends) = no_more
    last_made (Ok reply) (by_round ended room ends) = one_last (room_is_needed now after (Ok ended) room)
    last_made (Err stop) (inl tried) = no_more
    last_made (Err stop) (inr room) = one_last (room_is_needed now after (Err stop) room)

  pub write_is_bounded : (before after : List Entry) (result : Result WriteReply StepStop) → open_looks before ≡ [] →
      IsLawful start contents after → (made : MakesWriteFor start contents caller tag row before after result) →
      Bounded before (rounds_made start contents caller tag row before after result made) after
  write_is_bounded before after result none lawful made =
      let grows : Grows made.between after = last_grows made.between after result made.last in
      let there : IsLawful start contents made.between = lawful_within ladder start.base made.between after grows lawful in
      last_made before (rounds_of_turns made.turns) made.between after (turns_made made.turns none there).made
      (never_fewer made.between after grows lawful) result made.last

pub few_rounds : RoundsAloneAreRounds → AloneWritesMakeFewRounds
few_rounds rounds_are start contents caller tag row before after result alone is_start lawful none made =
    (write_is_bounded start contents caller tag row alone is_start rounds_are before after result none lawful made).few

pub two_more : RoundsAloneAreRounds → AloneWritesMakeTwoMore
two_more rounds_are start contents caller tag row before after result alone is_start lawful none made =
    omega (
      arith,
      (write_is_bounded start contents caller tag row alone is_start rounds_are before after result none lawful made).due,
      few_are_due start.base before,
    )
