-- How many rounds a write makes: the proofs of the laws of specs/RoundBounds.antt, by the rounds that it made so far.
use Rattle.std.proofs.Common.{◌≡◌, ℕ, ◌+◌, ◌≤◌, Bool, true, false, List, ◌∷◌, refl, ap, sym, ◌∙◌, Option, Some, None, arith, ◌⊎◌, inl, inr}
use Rattle.std.specs.Prelude.{is_some}
use Rattle.std.proofs.lemmas.Bool.{false≢true, or_right}
use Rattle.std.proofs.lemmas.Option.{none-some}
use Rattle.ssd_geo.specs.Ladder.{LadderState}
use Rattle.ssd_geo.specs.declared.base.ChannelBase.{ChannelBase}
use Rattle.ssd_geo.specs.declared.entry.Entry.{Entry}
use Rattle.ssd_geo.specs.declared.kind.Kind.{Kind}
use Rattle.ssd_geo.specs.declared.slot.Slot.{Slot}
use Rattle.ssd_geo.specs.declared.tag.Tag.{Tag}
use Rattle.ssd_histories.specs.Blocks as Blocks
use Rattle.ssd_histories.specs.Lawful.{IsLawfulBy}
use Rattle.ssd_histories.specs.PastBlocks.{slots_in, state_of}
use Rattle.ssd_histories.specs.Room.{has_host_room, is_full, is_worn, victim_of}
use Rattle.ssd_histories.specs.Rounds.{needs_room}
use Rattle.ssd_histories.specs.SerialCalls.{RoundEnd, SerialRound, SerialWrite, entry_of, is_faultless, is_refused, makes_room, may_pick, round_faults, write_faults, writes, writes_again}
use Rattle.ssd_histories.specs.States as States
use Rattle.ssd_histories.proofs.OneOfEach.{found_block}
use Rattle.ssd_histories.proofs.UsedSlots.{made}
use Rattle.history_laws.specs.NeverFull.{count_of_bad}
use Rattle.round_bounds.specs.RoundBounds.{RoundsEndOnce, WritesHaveFewEnds, WritesMakeFewRounds, WritesMakeOneMore, WritesMakeTwoMore, round_ends_in, rounds_in}
use Rattle.round_bounds.proofs.BadBlocks.{bad_at_most, bad_is_more, bad_stays_bad, one_is_filled}
use Rattle.round_bounds.proofs.CopyParts.{ends_after}
use Rattle.round_bounds.proofs.VictimSteps.{victim_is_left}
use Rattle.round_bounds.proofs.DoneRounds.{failed_write, round_is_worth}
use Rattle.round_bounds.proofs.DueRounds.{IsOver, due_without_victim, few_are_due, has_due, has_victim, isnt_worn, room_and_worn, rounds_due, two_where_picked}
use Rattle.round_bounds.proofs.EarlierPasts.{before_round, lawful_before}
use Rattle.round_bounds.proofs.RoundEnds.{round_ends}

module _ (ladder : List Entry → ℕ → LadderState) (base : ChannelBase) (sound : Blocks.AreSound (slots_in base) base.blocks)
    (tag : Tag) where
  -- a write has made so many rounds since a past: no more than were due and than superblocks turned bad, and no more than
  -- superblocks weren't bad
  pub record HasMade (before : List Entry) (rounds : ℕ) (now : List Entry) : Type 0 where
    pub due : rounds + rounds_due base now + count_of_bad base before ≤ rounds_due base before + count_of_bad base now
    pub few : rounds + count_of_bad base before ≤ base.shape.superblocks
    pub more_bad : count_of_bad base before ≤ count_of_bad base now
    pub over : (rounds ≡ 0) ⊎ IsOver base now

  pub made_none : (past : List Entry) → HasMade past 0 past
  made_none past = record
      { due = omega arith; few = omega (arith, bad_at_most base past); more_bad = omega arith; over = inl refl }

  -- where room is needed and there is no victim, a superblock is free and another sealed
  two_are_good : (past : List Entry) → needs_room base past ≡ true → victim_of base past ≡ None →
      count_of_bad base past + 2 ≤ base.shape.superblocks
  two_are_good past needs none = by_pick (may_pick base past) refl
    where
      by_pick : (b : Bool) → may_pick base past ≡ b → count_of_bad base past + 2 ≤ base.shape.superblocks
      by_pick false may_not =
          absurd (false≢true (sym (ap {B = Bool} is_some none) ∙ has_victim base past needs may_not))
      by_pick true may = two_where_picked base past may

  -- one more round has a superblock: after a first round there is no victim, so that two aren't bad
  next_round_fits : (before : List Entry) (rounds : ℕ) (now : List Entry) → HasMade before rounds now →
      needs_room base now ≡ true → rounds + 1 + count_of_bad base before ≤ base.shape.superblocks
  next_round_fits before rounds now made needs = by_victim (victim_of base now) refl made.over
    where
      by_victim : (o : Option ℕ) → victim_of base now ≡ o → (rounds ≡ 0) ⊎ IsOver base now →
          rounds + 1 + count_of_bad base before ≤ base.shape.superblocks
      by_victim None is over =
          omega (arith, made.due, has_due base now needs, few_are_due base before, two_are_good now needs is)
      by_victim (Some sb) is (inl first) =
          let found = found_block base now Blocks.is_victim_block sb is in
          omega (
            arith,
            first,
            made.more_bad,
            one_is_filled base now sb found.0
                (or_right (States.is_sealed (state_of base now sb)) (States.is_victim (state_of base now sb)) found.1),
          )
      by_victim (Some sb) is (inr (inl none)) = absurd (none-some sb (sym none ∙ is))
      by_victim (Some sb) is (inr (inr worn)) =
          absurd (isnt_worn (has_host_room base now) (is_worn base now) (is_full base now) needs worn)

  pub made_round : (before : List Entry) (rounds : ℕ) {now after : List Entry} {end : RoundEnd} → HasMade before rounds now →
      needs_room base now ≡ true → SerialRound ladder base tag now after end → is_faultless end ≡ true →
      IsLawfulBy ladder base after → HasMade before (rounds + 1) after
  made_round before rounds {now} {after} made needs round goes lawful =
      let worth = round_is_worth ladder base sound tag needs round goes lawful in
      record {
        due = omega (arith, made.due, worth.due);
        few = next_round_fits before rounds now made needs;
        more_bad = omega (arith, made.more_bad, (before_round ladder base tag round lawful).no_more_bad);
        over = inr worth.over;
      }

  pub made_fail : (before : List Entry) (rounds : ℕ) (now : List Entry) (row : ℕ) (slot : Slot) (die : ℕ) (fault : Bool) →
      HasMade before rounds now → has_host_room base now ≡ true →
      IsLawfulBy ladder base (entry_of tag (Kind.BadWrite row slot die fault) ∷ now) →
      HasMade before rounds (entry_of tag (Kind.BadWrite row slot die fault) ∷ now)
  made_fail before rounds now row slot die fault made room lawful =
      let more = bad_is_more ladder base now tag (Kind.BadWrite row slot die fault) lawful refl in
      record {
        due = omega (arith, made.due, more, failed_write ladder base sound tag row slot die fault now room lawful);
        few = made.few;
        more_bad = omega (arith, made.more_bad, more);
        over = elim made.over [
          | inl first ↦ inl first
          | inr (inl none) ↦
              inr (inl (victim_is_left ladder base now tag (Kind.BadWrite row slot die fault) lawful refl ∙ none))
          | inr (inr worn) ↦ absurd (room_and_worn base now room worn)
        ];
      }

  -- what holds of a write at its end
  pub record IsBounded (before : List Entry) (rounds : ℕ) (after : List Entry) : Type 0 where
    pub due : rounds + count_of_bad base before ≤ rounds_due base before + count_of_bad base after
    pub few : rounds + count_of_bad base before ≤ base.shape.superblocks

  -- it makes no more rounds, or a last one in which a die's call failed or that was stopped
  pub bounded_now : (before : List Entry) (rounds : ℕ) (now after : List Entry) → HasMade before rounds now →
      count_of_bad base now ≤ count_of_bad base after → IsBounded before rounds after
  bounded_now before rounds now after made more = record { due = omega (arith, made.due, more); few = made.few }

  pub bounded_last : (before : List Entry) (rounds : ℕ) (now after : List Entry) → HasMade before rounds now →
      needs_room base now ≡ true → count_of_bad base now ≤ count_of_bad base after → IsBounded before (rounds + 1) after
  bounded_last before rounds now after made needs more = record
      { due = omega (arith, made.due, has_due base now needs, more); few = next_round_fits before rounds now made needs }

  none_more : {before after : List Entry} {rounds : ℕ} → IsBounded before rounds after → IsBounded before (rounds + 0) after
  none_more bounded = record { due = omega (arith, bounded.due); few = omega (arith, bounded.few) }

  write_is_bounded : {row : ℕ} {now after : List Entry} (before : List Entry) (rounds : ℕ) → HasMade before rounds now →
      (write : SerialWrite ladder base tag row now after) → IsLawfulBy ladder base after →
      IsBounded before (rounds + rounds_in write) after
  write_is_bounded {row} {now} {after} before rounds made (writes {slot = slot} room) lawful =
      none_more (bounded_now before rounds now after made
      (bad_stays_bad ladder base (entry_of tag (Kind.Write row slot)) now lawful))
  write_is_bounded {row} {now} {after} before rounds made (write_faults {slot = slot} {die = die} room) lawful =
      none_more (bounded_now before rounds now after made
      (bad_stays_bad ladder base (entry_of tag (Kind.BadWrite row slot die true)) now lawful))
  write_is_bounded {row} {now} before rounds made (writes_again {slot = slot} {die = die} room rest) lawful =
      write_is_bounded before rounds
      (made_fail before rounds now row slot die false made room (lawful_before ladder base tag rest lawful)) rest lawful
  write_is_bounded {row} {now} {after} before rounds made (is_refused {worn = worn} room cause) lawful =
      none_more (bounded_now before rounds now after made
      (bad_stays_bad ladder base (entry_of tag (Kind.Refused row worn)) now lawful))
  write_is_bounded {now = now} {after = after} before rounds made (makes_room needs round goes rest) lawful =
      let bounded = write_is_bounded before (rounds + 1)
      (made_round before rounds made needs round goes (lawful_before ladder base tag rest lawful)) rest lawful in
      record { due = omega (arith, bounded.due); few = omega (arith, bounded.few) }
  write_is_bounded {now = now} {after = after} before rounds made (round_faults needs round) lawful =
      bounded_last before rounds now after made needs (before_round ladder base tag round lawful).no_more_bad

  -- its rounds have so many ends at most
  write_ends : {row : ℕ} {before after : List Entry} (write : SerialWrite ladder base tag row before after) →
      IsLawfulBy ladder base after → round_ends_in after ≤ round_ends_in before + rounds_in write
  write_ends {row} {before} (writes {slot = slot} room) lawful =
      omega (arith, ends_after (entry_of tag (Kind.Write row slot)) before)
  write_ends {row} {before} (write_faults {slot = slot} {die = die} room) lawful =
      omega (arith, ends_after (entry_of tag (Kind.BadWrite row slot die true)) before)
  write_ends {row} {before} (writes_again {slot = slot} {die = die} room rest) lawful =
      omega (arith, write_ends rest lawful, ends_after (entry_of tag (Kind.BadWrite row slot die false)) before)
  write_ends {row} {before} (is_refused {worn = worn} room cause) lawful =
      omega (arith, ends_after (entry_of tag (Kind.Refused row worn)) before)
  write_ends (makes_room needs round goes rest) lawful =
      omega (
        arith,
        write_ends rest lawful,
        (round_is_worth ladder base sound tag needs round goes (lawful_before ladder base tag rest lawful)).ends,
      )
  write_ends (round_faults needs round) lawful = round_ends ladder base tag round

-- ---- the laws

pub rounds_end_once : RoundsEndOnce
rounds_end_once ladder base tag before after end sound lawful needs round goes =
    (round_is_worth ladder base sound tag needs round goes lawful).ends

bounded : (ladder : List Entry → ℕ → LadderState) (base : ChannelBase) (tag : Tag) (row : ℕ) (before after : List Entry)
    (sound : Blocks.AreSound (slots_in base) base.blocks) → IsLawfulBy ladder base after →
    (write : SerialWrite ladder base tag row before after) → IsBounded ladder base sound tag before (0 + rounds_in write) after
bounded ladder base tag row before after sound lawful write =
    write_is_bounded ladder base sound tag before 0 (made_none ladder base sound tag before) write lawful

pub writes_make_few_rounds : WritesMakeFewRounds
writes_make_few_rounds ladder base tag row before after sound lawful write =
    omega (arith, (bounded ladder base tag row before after sound lawful write).few)

pub writes_make_two_more : WritesMakeTwoMore
writes_make_two_more ladder base tag row before after sound lawful write =
    omega (arith, (bounded ladder base tag row before after sound lawful write).due, few_are_due base before)

pub writes_make_one_more : WritesMakeOneMore
writes_make_one_more ladder base tag row before after sound lawful none write =
    omega (
      arith,
      (bounded ladder base tag row before after sound lawful write).due,
      due_without_victim (is_worn base before) (victim_of base before) (has_host_room base before) none,
    )

pub writes_have_few_ends : WritesHaveFewEnds
writes_have_few_ends ladder base tag row before after sound lawful write =
    omega (
      arith,
      write_ends ladder base sound tag write lawful,
      writes_make_few_rounds ladder base tag row before after sound lawful write,
    )
