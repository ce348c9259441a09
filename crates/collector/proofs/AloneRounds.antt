-- The rounds and collects of a caller that is alone are those of calls that are served one after the other. At each step the
-- caller finds what it had seen, no look is open, and the victim is the one that was picked.
use Rattle.std.proofs.Common.{◌≡◌, ℕ, ◌<◌, ◌==◌, ◌&&◌, nat_le, nat_lt, Bool, true, false, List, [], ◌∷◌, Option, Some, None, refl, sym, ap, subst, ◌∙◌, arith}
use Rattle.std.specs.Prelude.{Result, Ok, Err, is_none}
use Rattle.std.proofs.lemmas.Bool.{false≢true}
use Rattle.std.proofs.lemmas.Bool.Decides.{nat_tests}
use Rattle.std.proofs.lemmas.Option.{none-some}
use Rattle.chan_calls.specs.Caller.{CallerView}
use Rattle.chan_calls.specs.Collecting.{MakesErase, MakesPick}
use Rattle.chan_calls.specs.Copied.{CopiesAloneAreCopies, IsCopyBy, is_die_fault, is_round_end, step_of_look}
use Rattle.chan_calls.specs.declared.copy_reply.CopyReply.{CopyReply}
use Rattle.chan_calls.specs.declared.copy_reply.CopyReply.TheVariants as copy
use Rattle.chan_calls.proofs.SensedSteps.{is_seen}
use Rattle.chan_state.specs.declared.answers.EraseAnswer.{EraseAnswer}
use Rattle.chan_state.specs.declared.answers.EraseAnswer.TheVariants as erase
use Rattle.chan_state.specs.declared.answers.PickAnswer.{PickAnswer}
use Rattle.chan_state.specs.declared.answers.PickAnswer.TheVariants as pick
use Rattle.chan_tables.specs.declared.answers.LiveAnswer.TheVariants as live
use Rattle.chan_tables.specs.declared.answers.Note.{Note}
use Rattle.ssd_geo.specs.Coding.{coding_of}
use Rattle.ssd_geo.specs.Ladder.{LadderState}
use Rattle.ssd_geo.specs.declared.entry.Entry.{Entry}
use Rattle.ssd_geo.specs.declared.kind.Kind.{Kind}
use Rattle.ssd_geo.specs.declared.slot.Slot.{Slot}
use Rattle.ssd_geo.specs.declared.stop.StepStop.{StepStop}
use Rattle.ssd_geo.specs.declared.tag.Tag.{Tag}
use Rattle.ssd_histories.specs.History.{open_looks}
use Rattle.ssd_histories.specs.Lawful.{IsLawful, MayErase}
use Rattle.ssd_histories.specs.OpenLooks.{looks_in}
use Rattle.ssd_histories.specs.PageMap.{first_live_in, is_slot}
use Rattle.ssd_histories.specs.PastPages.{ladder_of}
use Rattle.ssd_histories.specs.PastRows.{rows_of}
use Rattle.ssd_histories.specs.Room.{count_of_free, count_of_garbage, live_of, live_of_victim, pins_of, victim_of}
use Rattle.ssd_histories.specs.Rounds.{first_live_of_victim, is_that_slot}
use Rattle.ssd_histories.specs.SerialCalls.{IsSerialCopy, RoundEnd, SerialCollect, SerialCopies, SerialRound, collects_again, copy_faults, decides, decides_collect, entry_of, erase_faults, erases, finds_none, goes_on, is_idle, left, may_pick, picks, retires, stays, takes}
use Rattle.ssd_histories.specs.Start.{Start}
use Rattle.collector.specs.Alone.{CollectsAloneAreCollects, IsCollectAlone, IsRoundAlone, RoundsAloneAreRounds, end_of}
use Rattle.collector.specs.Collects.{DecidesCollect, HasNoted, LeavesOff, LeavesRounds, MakesCollectFor, by_note, by_round, decided_by}
use Rattle.collector.specs.Collects as collects
use Rattle.collector.specs.Emptying.{CopiesLive, CopiesPages, EmptiesFor, EndsRound, IsToErase, LooksLive, OfBase, by_copy, by_erase, having_seen, no_victim, none_yet, one_more, reply_of_copy, reply_of_erase, result_of_erase, stops}
use Rattle.collector.specs.Rounds.{FollowsPick, HasPicked}
use Rattle.collector.specs.declared.replies.CollectReply.{CollectReply}
use Rattle.collector.specs.declared.replies.RoundReply.{RoundReply}
use Rattle.collector.specs.declared.replies.RoundReply.TheVariants as round
use Rattle.collector.proofs.GrownPasts.{Grows, decided_grows, end_grows, lawful_within, noted_grows, noting_grows, page_grows, emptying_grows}
use Rattle.collector.proofs.KeptVictims.{LeavesAll, copy_leaves, picked_is_victim}
use Rattle.collector.proofs.LiveSlots.{first_is_live}
use Rattle.ssd_histories.proofs.SameSlots.{is_slot-same}
use Rattle.shared_lemmas.proofs.Tests.{same_number as same}

pub positive : (n : ℕ) → 0 < n → n ≡ 0 → ⊥
positive n some none = omega arith

-- without an open look none stands in a superblock
pub pinned : (now : List Entry) (sb : ℕ) → open_looks now ≡ [] → pins_of now sb ≡ 0
pinned now sb none = ap (λ looks. looks_in looks sb) none

-- what an Ok has, and that it is no Err
pub ok_is : (a b : RoundReply) → ◌≡◌ {A = Result RoundReply StepStop} (Ok a) (Ok b) → a ≡ b
ok_is a b e = ap (λ (r : Result RoundReply StepStop). elim r as (λ (r : Result RoundReply StepStop). RoundReply) [
  | Ok reply ↦
      reply
  | Err stop ↦ a
]) e

pub no_stop : (a : RoundReply) (stop : StepStop) → ◌≡◌ {A = Result RoundReply StepStop} (Ok a) (Err stop) → ⊥
no_stop a stop e = grind arith

module _ (start : Start) (contents : List (Tag × List ℕ)) (caller : CallerView) (tag : Tag)
    (copies_are : CopiesAloneAreCopies) (alone : caller.number ≡ None) where
  abbrev ladder : List Entry → ℕ → LadderState
  ladder = ladder_of (coding_of start.base) start contents

  -- no look is open, and a superblock is the victim
  pub record Stands (sb : ℕ) (past : List Entry) : Type 0 where
    pub none_open : open_looks past ≡ []
    pub victim_is : victim_of start.base past ≡ Some sb

  live_is : (sb : ℕ) (past : List Entry) → victim_of start.base past ≡ Some sb →
      live_of_victim start.base past ≡ live_of start.base past sb
  live_is sb past is = rw (is, live_of_victim) refl

  module _ (sb : ℕ) where
    -- a copy of the victim's first live page
    pub record IsCopied (before after : List Entry) (reply : CopyReply) : Type 0 where
      pub made : IsSerialCopy ladder start.base tag before after (is_round_end reply) (is_die_fault reply)
      pub leaves : IsLawful start contents after → Stands sb before → Stands sb after

    pub copied : (before after : List Entry) (reply : CopyReply) → CopiesLive start contents caller tag sb before after reply →
        IsCopied before after reply
    copied before after reply page =
        let now : List Entry = page.finds.0 in
        let made = page.finds.3 in
        let victim : victim_of start.base now ≡ Some sb = made.1.0 in
        let first : first_live_in (rows_of start.base now) sb ≡ Some page.look.slot = made.1.1 in
        let is_copy : IsCopyBy start contents tag page.look now after reply =
        copies_are start contents (having_seen caller page.looked) tag page.look now after reply alone
        (record { at_is = made.0.0; seen_is = made.0.3 }) page.copies in
        let named : first_live_of_victim start.base now ≡ Some page.look.slot = rw (victim, first_live_of_victim) first in
        subst (λ (past : List Entry). IsCopied past after reply) (is_seen caller tag alone before now page.finds.1) (record {
          made = record {
            steps = is_copy.steps;
            are_steps = is_copy.are_steps;
            has_live =
                subst (λ (n : ℕ). 0 < n) (sym (live_is sb now victim))
                (first_is_live (rows_of start.base now) sb page.look.slot first);
            is_copy = record {
              look = step_of_look tag page.look now;
              is_copy = is_copy.is_copy;
              is_first =
                  subst (λ (found : Option Slot). is_that_slot found page.look.slot ≡ true) (sym named) (is_slot-same page.look.slot);
            };
            ends_is = is_copy.ends_is;
            fault_is = is_copy.fault_is;
          };
          leaves = λ lawful stands.
              let all : LeavesAll start.base now after =
              copy_leaves ladder start.base tag now after is_copy.steps (step_of_look tag page.look now) is_copy.is_copy
              is_copy.are_steps lawful stands.none_open in
              record { none_open = all.none_open; victim_is = all.same_victim ∙ stands.victim_is };
        })

    -- the copies before the end of a round
    pub stands_on : {before after : List Entry} → CopiesPages start contents caller tag sb before after →
        IsLawful start contents after →
        Stands sb before → Stands sb after
    stands_on none_yet lawful stands = stands
    stands_on {before} {after} (one_more {between = between} {reply = reply} copies page goes) lawful stands =
        (copied between after reply page).leaves lawful
        (stands_on copies (lawful_within ladder start.base between after (page_grows start contents caller tag sb between
        after reply page) lawful) stands)

    no_fault : (reply : CopyReply) → is_round_end reply ≡ false → is_die_fault reply ≡ false
    no_fault (copy.DieFault die) e = absurd (false≢true (sym e))
    no_fault copy.Moved e = refl
    no_fault copy.Changed e = refl
    no_fault copy.Condemned e = refl
    no_fault copy.Uncorrectable e = refl
    no_fault copy.NoRoom e = refl
    no_fault copy.ReadOnly e = refl
    no_fault copy.Failed e = refl

    pub then_ends : {before between after : List Entry} {end : RoundEnd} → CopiesPages start contents caller tag sb before between →
        SerialCopies ladder start.base tag between after end → SerialCopies ladder start.base tag before after end
    then_ends none_yet rest = rest
    then_ends {before} {between} {after} {end} (one_more {between = older} {reply = reply} copies page goes) rest =
        then_ends copies (goes_on
        (subst (λ (ends : Bool). IsSerialCopy ladder start.base tag older between ends false) goes
        (subst (λ (fault : Bool). IsSerialCopy ladder start.base tag older between (is_round_end reply) fault) (no_fault reply
        goes)
        (copied older between reply page).made)) rest)

    -- the end of a round
    record IsDone (before after : List Entry) (reply : RoundReply) : Type 0 where
      made : SerialCopies ladder start.base tag before after (end_of reply)
      none_open : open_looks after ≡ []

    last_copy : (before after : List Entry) (reply : CopyReply) → is_round_end reply ≡ true →
        IsSerialCopy ladder start.base tag before after (is_round_end reply) (is_die_fault reply) →
        SerialCopies ladder start.base tag before after (end_of (reply_of_copy reply))
    last_copy before after copy.ReadOnly ends made = stays made
    last_copy before after copy.NoRoom ends made = stays made
    last_copy before after (copy.DieFault die) ends made = copy_faults made
    last_copy before after copy.Moved ends made = absurd (false≢true ends)
    last_copy before after copy.Changed ends made = absurd (false≢true ends)
    last_copy before after copy.Condemned ends made = absurd (false≢true ends)
    last_copy before after copy.Uncorrectable ends made = absurd (false≢true ends)
    last_copy before after copy.Failed ends made = absurd (false≢true ends)

    none_live : (now : List Entry) → MayErase start.base now sb → live_of_victim start.base now ≡ 0
    none_live now may = live_is sb now may.is_victim ∙ may.no_live

    erased_so : (now after : List Entry) (answer : EraseAnswer) → Stands sb now → live_of start.base now sb ≡ 0 →
        MakesErase (OfBase start.base) tag sb now answer after → IsDone now after (reply_of_erase sb answer)
    erased_so now after erase.NotVictim stands none made = absurd (made.1 stands.victim_is)
    erased_so now after (erase.Live count) stands none made = absurd (positive count made.1 (made.2.1 ∙ none))
    erased_so now after (erase.Pinned count) stands none made =
        absurd (positive count made.1 (made.2.2 ∙ pinned now sb stands.none_open))
    erased_so now after erase.Erased stands none made =
        subst (λ (past : List Entry). IsDone now past (round.Erased sb)) (sym made.0)
        (record { made = erases made.1.is_victim (none_live now made.1); none_open = stands.none_open })
    erased_so now after (erase.FailedErase die) stands none made =
        subst (λ (past : List Entry). IsDone now past (round.Retired sb)) (sym made.0)
        (record { made = retires made.1.is_victim (none_live now made.1); none_open = stands.none_open })
    erased_so now after (erase.DieFault die) stands none made =
        subst (λ (past : List Entry). IsDone now past (round.DieFault die)) (sym made.0)
        (record { made = erase_faults made.1.is_victim (none_live now made.1); none_open = stands.none_open })

    -- what a step found is what the caller had seen
    pub found_none : (before emptied : List Entry) → LooksLive start.base caller tag sb before emptied (Ok live.NoneLive) →
        (emptied ≡ before) × (live_of start.base before sb ≡ 0)
    found_none before emptied looks =
        let seen : looks.0 ≡ before = is_seen caller tag alone before looks.0 looks.1 in
        (looks.3.0 ∙ seen, subst (λ (past : List Entry). live_of start.base past sb ≡ 0) seen looks.3.1.1)

    erased_then : (before after : List Entry) (reply : RoundReply) (erasing : Result EraseAnswer StepStop) → Stands sb before →
        live_of start.base before sb ≡ 0 → IsToErase start.base caller tag sb before after erasing →
        ◌≡◌ {A = Result RoundReply StepStop} (Ok reply) (result_of_erase sb erasing) → IsDone before after reply
    erased_then before after reply (Ok answer) stands none tried is =
        subst (λ (given : RoundReply). IsDone before after given) (sym (ok_is reply (reply_of_erase sb answer) is))
        (erased_so before after answer stands none
        (subst (λ (past : List Entry). MakesErase (OfBase start.base) tag sb past answer after)
        (is_seen caller tag alone before tried.0 tried.1) tried.3))
    erased_then before after reply (Err stop) stands none tried is = absurd (no_stop reply stop is)

    ended : (before after : List Entry) (reply : RoundReply) → Stands sb before → IsLawful start contents after →
        EndsRound start contents caller tag sb before after (Ok reply) → IsDone before after reply
    ended before after reply stands lawful (by_copy {reply = given} page ends is) =
        let made = copied before after given page in
        subst (λ (one : RoundReply). IsDone before after one) (sym (ok_is reply (reply_of_copy given) is)) (record {
          made = last_copy before after given ends made.made;
          none_open = (made.leaves lawful stands).none_open;
        })
    ended before after reply stands lawful (no_victim looks is) =
        absurd (looks.3.1 (subst (λ (past : List Entry). victim_of start.base past ≡ Some sb)
        (sym (is_seen caller tag alone before looks.0 looks.1)) stands.victim_is))
    ended before after reply stands lawful (by_erase emptied erasing looks tried is) =
        let none = found_none before emptied looks in
        erased_then before after reply erasing stands none.1
        (subst (λ (past : List Entry). IsToErase start.base caller tag sb past after erasing) none.0 tried) is
    ended before after reply stands lawful (stops stop looks is) = absurd (no_stop reply stop is)

    emptied_alone : (before after : List Entry) (reply : RoundReply) → Stands sb before → IsLawful start contents after →
        EmptiesFor start contents caller tag sb before after (Ok reply) → IsDone before after reply
    emptied_alone before after reply stands lawful empties =
        let there : IsLawful start contents empties.copied =
        lawful_within ladder start.base empties.copied after
        (end_grows start contents caller tag sb empties.copied after (Ok reply) empties.ends) lawful in
        let done : IsDone empties.copied after reply =
        ended empties.copied after reply (stands_on empties.copies there stands) lawful empties.ends in
        record { made = then_ends empties.copies done.made; none_open = done.none_open }

  -- whether a victim may be picked, by what a pick answered
  pub may_not_busy : (sb : ℕ) (past : List Entry) → victim_of start.base past ≡ Some sb → may_pick start.base past ≡ false
  may_not_busy sb past is = rw (is, may_pick) refl

  none_free : (a b : Bool) (free : ℕ) → free ≡ 0 → (a && nat_le 1 free && b) ≡ false
  none_free true b free e = rw e refl
  none_free false b free e = refl

  none_to_collect : (a b : Bool) (garbage : ℕ) → garbage ≡ 0 → (a && b && nat_lt 0 garbage) ≡ false
  none_to_collect true true garbage e = rw e refl
  none_to_collect true false garbage e = refl
  none_to_collect false b garbage e = refl

  -- a round, by the answer to its pick
  follows : (before picked after : List Entry) (answer : PickAnswer) (reply : RoundReply) → open_looks before ≡ [] →
      IsLawful start contents after → MakesPick (OfBase start.base) tag before answer picked →
      FollowsPick start contents caller tag answer picked after (Ok reply) → IsRoundAlone start contents tag before after reply
  follows before picked after (pick.Busy sb) reply none lawful made follow =
      let done : IsDone sb before after reply =
      emptied_alone sb before after reply (record { none_open = none; victim_is = made.1 }) lawful
      (subst (λ (past : List Entry). EmptiesFor start contents caller tag sb past after (Ok reply)) made.0 follow) in
      record { is_round = takes (may_not_busy sb before made.1) done.made; none_open = done.none_open }
  follows before picked after pick.ReadOnly reply none lawful made follow =
      let same : after ≡ before = follow.0 ∙ made.0 in
      subst (λ (past : List Entry). IsRoundAlone start contents tag before past reply) (sym same)
      (subst (λ (one : RoundReply). IsRoundAlone start contents tag before before one) (sym (ok_is reply round.Left follow.1))
      (record {
        is_round =
            takes
            (none_free (is_none (victim_of start.base before)) (nat_lt 0 (count_of_garbage start.base before))
            (count_of_free start.base before) made.1.1) (finds_none made.1.0);
        none_open = none;
      }))
  follows before picked after pick.NoGarbage reply none lawful made follow =
      let same : after ≡ before = follow.0 ∙ made.0 in
      subst (λ (past : List Entry). IsRoundAlone start contents tag before past reply) (sym same)
      (subst (λ (one : RoundReply). IsRoundAlone start contents tag before before one) (sym (ok_is reply round.Left follow.1))
      (record {
        is_round =
            takes
            (none_to_collect (is_none (victim_of start.base before)) (nat_le 1 (count_of_free start.base before))
            (count_of_garbage start.base before) made.1.2) (finds_none made.1.0);
        none_open = none;
      }))
  follows before picked after (pick.Picked sb) reply none lawful made follow =
      let after_pick : List Entry = entry_of tag (Kind.Pick sb) ∷ before in
      let empties : EmptiesFor start contents caller tag sb after_pick after (Ok reply) =
      subst (λ (past : List Entry). EmptiesFor start contents caller tag sb past after (Ok reply)) made.0 follow in
      let there : IsLawful start contents after_pick =
      lawful_within ladder start.base after_pick after
      (emptying_grows start contents caller tag sb after_pick after (Ok reply) empties) lawful in
      let done : IsDone sb after_pick after reply =
      emptied_alone sb after_pick after reply
      (record { none_open = none; victim_is = picked_is_victim ladder start.base tag sb before there }) lawful empties in
      record { is_round = picks made.1 done.made; none_open = done.none_open }

  pub round_alone : (before after : List Entry) (reply : RoundReply) → open_looks before ≡ [] → IsLawful start contents after →
      HasPicked start contents caller tag before after (Ok reply) → IsRoundAlone start contents tag before after reply
  round_alone before after reply none lawful picked =
      follows before picked.picked after picked.answer reply none lawful
      (subst (λ (past : List Entry). MakesPick (OfBase start.base) tag past picked.answer picked.picked)
      (is_seen caller tag alone before picked.picks.0 picked.picks.1) picked.picks.3) picked.follows

  -- a note after a round that left its victim or found none
  record IsNoted (note : Note) (before after : List Entry) : Type 0 where
    between : List Entry
    is_round : SerialRound ladder start.base tag before between left
    after_is : after ≡ entry_of tag (Kind.Note note.free note.victim note.live note.pins note.garbage) ∷ between
    none_open : open_looks after ≡ []

  noted_alone : (before after : List Entry) (note : Note) → open_looks before ≡ [] → IsLawful start contents after →
      HasNoted start contents caller tag before after (Ok note) → IsNoted note before after
  noted_alone before after note none lawful noted =
      let made : IsRoundAlone start contents tag before noted.left round.Left =
      round_alone before noted.left round.Left none
      (lawful_within ladder start.base noted.left after
      (noting_grows start contents caller tag noted.left after (Ok note) noted.notes) lawful) noted.round in
      let entry : Entry = entry_of tag (Kind.Note note.free note.victim note.live note.pins note.garbage) in
      let is : after ≡ entry ∷ noted.left =
      noted.notes.3
      ∙ ap {B = List Entry} (λ (past : List Entry). entry ∷ past)
      (is_seen caller tag alone noted.left noted.notes.0 noted.notes.1) in
      record {
        between = noted.left;
        is_round = made.is_round;
        after_is = is;
        none_open = ap open_looks is ∙ made.none_open;
      }

  -- the rounds before the last one
  pub none_open_on : {before after : List Entry} → LeavesRounds start contents caller tag before after → open_looks before ≡ [] →
      IsLawful start contents after → open_looks after ≡ []
  none_open_on collects.none_yet none lawful = none
  none_open_on {before} {after} (collects.one_more {between = between} rounds off) none lawful =
      let grows : Grows between after = noted_grows start contents caller tag between after (Ok off.note) off.noted in
      (noted_alone between after off.note
      (none_open_on rounds none (lawful_within ladder start.base between after grows lawful)) lawful off.noted).none_open

  pub then_decides : {before between after : List Entry} → LeavesRounds start contents caller tag before between →
      open_looks before ≡ [] → IsLawful start contents between →
      SerialCollect ladder start.base tag between after → SerialCollect ladder start.base tag before after
  then_decides collects.none_yet none lawful rest = rest
  then_decides {before} {between} {after} (collects.one_more {between = older} rounds off) none lawful rest =
      let grows : Grows older between = noted_grows start contents caller tag older between (Ok off.note) off.noted in
      let there : IsLawful start contents older = lawful_within ladder start.base older between grows lawful in
      let noted : IsNoted off.note older between =
      noted_alone older between off.note (none_open_on rounds none there) lawful off.noted in
      then_decides rounds none there
      (collects_again noted.is_round refl off.not_idle
      (subst (λ (past : List Entry). SerialCollect ladder start.base tag past after) noted.after_is rest))

  decides_so : (ended : RoundReply) (reply : CollectReply) → decided_by ended ≡ Some reply →
      decides_collect (end_of ended) ≡ true
  decides_so (round.Erased sb) reply e = refl
  decides_so (round.Retired sb) reply e = refl
  decides_so (round.DieFault die) reply e = refl
  decides_so round.Left reply e = absurd (none-some reply e)

  decided_alone : (before after : List Entry) (reply : CollectReply) → open_looks before ≡ [] → IsLawful start contents after →
      DecidesCollect start contents caller tag before after reply → IsCollectAlone start contents tag before after reply
  decided_alone before after reply none lawful (by_round {ended = ended} picked is) =
      let made : IsRoundAlone start contents tag before after ended = round_alone before after ended none lawful picked in
      record { is_collect = decides made.is_round (decides_so ended reply is); none_open = made.none_open }
  decided_alone before after reply none lawful (by_note {note = note} noted idle is) =
      let made : IsNoted note before after = noted_alone before after note none lawful noted in
      record {
        is_collect =
            subst (λ (past : List Entry). SerialCollect ladder start.base tag before past) (sym made.after_is)
            (is_idle made.is_round idle);
        none_open = made.none_open;
      }

  collect_alone : (before after : List Entry) (reply : CollectReply) → open_looks before ≡ [] → IsLawful start contents after →
      MakesCollectFor start contents caller tag before after (Ok reply) → IsCollectAlone start contents tag before after reply
  collect_alone before after reply none lawful made =
      let there : IsLawful start contents made.between =
      lawful_within ladder start.base made.between after
      (decided_grows start contents caller tag made.between after reply made.last) lawful in
      let last : IsCollectAlone start contents tag made.between after reply =
      decided_alone made.between after reply (none_open_on made.rounds none there) lawful made.last in
      record { is_collect = then_decides made.rounds none there last.is_collect; none_open = last.none_open }

pub rounds_are_rounds : CopiesAloneAreCopies → RoundsAloneAreRounds
rounds_are_rounds copies_are start contents caller tag before after reply alone lawful none made =
    round_alone start contents caller tag copies_are alone before after reply none lawful made

pub collects_are_collects : CopiesAloneAreCopies → CollectsAloneAreCollects
collects_are_collects copies_are start contents caller tag before after reply alone lawful none made =
    collect_alone start contents caller tag copies_are alone before after reply none lawful made
