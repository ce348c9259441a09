-- Where the first entry of a call found room in the history, each of its entries did.
use Rattle.std.proofs.Common.{ℕ, ◌≡◌, ◌/◌, Bool, true, false, ◌&&◌, List, [], ◌∷◌, length, refl, ap, ◌∙◌, inl, inr}
use Rattle.ssd_histories.specs.HistoryRoom.{found_room, has_look_room, has_step_room}
use Rattle.ssd_histories.specs.SerialCalls.{entry_of}
use Rattle.ssd_histories.specs.ServedCalls.{IsServedBy, after_look, after_senses, after_sensing}
use Rattle.ssd_histories.specs.Start.{Start}
use Rattle.ssd_geo.specs.declared.entry.Entry.{Entry}
use Rattle.ssd_geo.specs.declared.kind.Kind.{Kind}
use Rattle.ssd_geo.specs.declared.place.Place.{Place}
use Rattle.ssd_geo.specs.declared.reply.Reply.{Reply}
use Rattle.ssd_geo.specs.declared.tag.Tag.{Tag}
use Rattle.ssd_geo.specs.declared.trace.Verb.{Verb}
use Rattle.run_laws.specs.RepliedCalls.{HasFailedRead, IsRepliedBy, after_failed_sense}
use Rattle.run_laws.specs.StoppedRuns.{HaveFoundRoom, has_first_room}
use Rattle.run_laws.proofs.RefreshedPasts.{refreshed_finds_room}
use Rattle.ssd_histories.specs.CallsInOrder.{is_age_of}
use Rattle.std.proofs.lemmas.Bool.{and_from, false≢true}
use Rattle.std.specs.Prelude.{ℤ}

module _ (start : Start) (contents : List (Tag × List ℕ)) (channels : ℕ) (tag : Tag) (reply : Reply)
    (before after : List Entry) where
  module _ (limit : ℕ) where
    and_true : (b : Bool) → (b && true) ≡ b
    and_true true = refl
    and_true false = refl

    room_of_senses : (at : ℕ) (senses : List (Place × ℤ)) (past : List Entry) →
        found_room limit (after_senses tag at senses past) ≡ found_room limit past
    room_of_senses at [] past = refl
    room_of_senses at (sensed ∷ more) past =
        room_of_senses at more (entry_of tag (Kind.Sense at sensed.0 sensed.1) ∷ past)
        ∙ and_true (found_room limit past)

    -- each entry found room after a served call, if each did before and the call's first does
    pub serves_find_room : (verb : Verb) →
        IsServedBy start contents channels tag verb reply before after →
        found_room limit before ≡ true → has_first_room limit before verb ≡ true →
        found_room limit after ≡ true
    serves_find_room (Verb.Write page content) served found room =
        ap (found_room limit) served.1.after_is ∙ and_from (found_room limit before) _ found room
    serves_find_room (Verb.Read page) served found room =
        elim served [
          | inl lone ↦ ap (found_room limit) lone.after_is ∙ and_from (found_room limit before) _ found room
          | inr read ↦ ap (found_room limit) read.after_is
              ∙ and_true (found_room limit (after_sensing tag (page / channels) read.slot read.serial read.closed read.senses before))
              ∙ room_of_senses (length before) read.senses
              (after_look tag (page / channels) read.slot read.serial read.closed before)
              ∙ and_from (found_room limit before) _ found room
        ]
    serves_find_room (Verb.Trim page) served found room =
        ap (found_room limit) served.1 ∙ and_from (found_room limit before) _ found room
    serves_find_room (Verb.Age channel die sb amount) served found room =
        ap (found_room limit) served.1 ∙ and_from (found_room limit before) _ found room
    serves_find_room (Verb.Refresh page) served found room = absurd served
    serves_find_room (Verb.Collect channel) served found room = absurd served
    serves_find_room (Verb.Drain count) served found room = absurd served

    -- so it does after a call that was replied to
    of_failed_read : (row : ℕ) → HasFailedRead tag row before after reply → found_room limit before ≡ true →
        has_look_room limit before ≡ true → found_room limit after ≡ true
    of_failed_read row read found room =
        ap (found_room limit) read.after_is
        ∙ and_true (found_room limit
        (after_failed_sense tag row read.slot read.serial read.closed read.senses read.place read.level before))
        ∙ and_true (found_room limit (after_sensing tag row read.slot read.serial read.closed read.senses before))
        ∙ room_of_senses (length before) read.senses (after_look tag row read.slot read.serial read.closed before)
        ∙ and_from (found_room limit before) _ found room

    of_age : (die sb amount : ℕ) (last : Kind) → is_age_of die sb amount last ≡ true → found_room limit before ≡ true →
        has_step_room limit before ≡ true → found_room limit (entry_of tag last ∷ before) ≡ true
    of_age die sb amount (Kind.Age named block by) is found room = and_from (found_room limit before) _ found room
    of_age die sb amount (Kind.FaultAge named block by) is found room = and_from (found_room limit before) _ found room
    of_age die sb amount last is found room = absurd (false≢true is)

    pub replies_find_room : (verb : Verb) →
        IsRepliedBy start contents channels tag verb reply before after →
        found_room limit before ≡ true → HaveFoundRoom limit before after verb →
        found_room limit after ≡ true
    replies_find_room (Verb.Write page content) replied found room = room found
    replies_find_room (Verb.Read page) replied found room =
        elim replied [
          | inl lone ↦ serves_find_room (Verb.Read page) (inl lone) found room
          | inr other ↦ elim other [
            | inl read ↦ serves_find_room (Verb.Read page) (inr read) found room
            | inr read ↦ of_failed_read (page / channels) read found room
          ]
        ]
    replies_find_room (Verb.Trim page) replied found room = serves_find_room (Verb.Trim page) replied found room
    replies_find_room (Verb.Age channel die sb amount) aged found room =
        ap (found_room limit) aged.after_is ∙ of_age die sb amount aged.last aged.is_age found room
    replies_find_room (Verb.Refresh page) refreshed found room =
        refreshed_finds_room start contents tag (page / channels) before after refreshed.told refreshed.was_refreshed limit found room
    replies_find_room (Verb.Collect channel) replied found room = room found
    replies_find_room (Verb.Drain count) replied found room = absurd replied
