-- Channels that stand for some starts, one of which makes a call or a refresh: what they stood for they stand for after it,
-- and the room of their histories is kept.
use Rattle.std.proofs.Common.{ℕ, ◌≡◌, ◌/◌, ◌%◌, ◌<◌, ◌≤◌, false, true, List, length, Some, refl, sym, ap, subst, ◌∙◌, inl, inr, length-set}
use Rattle.std.specs.Prelude.{slice_get, slice_set, option_map}
use Rattle.std.proofs.lemmas.List.{map-set}
use Rattle.std.proofs.Math.Seq.{map-set_same}
use Rattle.std.proofs.lemmas.Option.{get_or_from_slice_get, slice_get-map, slice_get_within, same_Some}
use Rattle.chan_calls.specs.Workers.{WorkerState, WorksFor}
use Rattle.ctl.specs.Asked.{HasOwnData}
use Rattle.ctl.specs.BrokenOff.{IsBrokenOffBy, IsBrokenOffOnOne}
use Rattle.ctl.specs.ChannelCalls.{ForEach, HasNoRoomOn, IsFullFor, IsRefreshedOn, IsRefusedOn, IsServedOn}
use Rattle.ctl.specs.Seen.{SeenChannel, Stands, pasts_of}
use Rattle.ctl.specs.Served.{AreStanding, KeepRooms, KeepsRoom}
use Rattle.run_laws.proofs.ChangedRuns.{get_set, one_or_other}
use Rattle.run_laws.proofs.RoomForCalls.{replies_find_room}
use Rattle.run_laws.proofs.ShortCalls.{replies_short, stops_short}
use Rattle.run_laws.specs.RepliedCalls.{HasRefreshed, IsRepliedBy, WasRefreshed}
use Rattle.run_laws.specs.ServedRuns.{IsServedOnOne, LeadsOn, RefreshesOn, channel_of, hints_after}
use Rattle.run_laws.specs.StoppedRuns.{HasNoRoomToLook, IsStoppedBy, IsStoppedOnOne}
use Rattle.serial_laws.proofs.Lists.{IsItemAt, get_set_other, item_at}
use Rattle.ssd_geo.specs.declared.entry.Entry.{Entry}
use Rattle.ssd_geo.specs.declared.reply.RefreshReply.{RefreshReply}
use Rattle.ssd_geo.specs.declared.reply.Reply.{Reply}
use Rattle.ssd_geo.specs.declared.tag.Tag.{Tag}
use Rattle.ssd_geo.specs.declared.trace.TraceCall.{TraceCall}
use Rattle.ssd_geo.specs.declared.trace.Verb.{Verb}
use Rattle.ssd_histories.specs.HistoryRoom.{found_room, has_look_room}
use Rattle.ssd_histories.specs.Replies.{reply_of_refresh}
use Rattle.ssd_histories.specs.Start.{Start}

-- the past of a channel
abbrev past_in : SeenChannel → List Entry
past_in channel = channel.kept.past

-- a channel keeps its own room
pub keeps_itself : (channel : SeenChannel) → KeepsRoom channel channel
keeps_itself channel = record { limit_stays = refl; has_room = λ found short. (found, short) }

-- what holds of an item that was set and of each that stays holds of each pair of items at one place
both_at : (R : SeenChannel → SeenChannel → Type 0) (channels : List SeenChannel) (k : ℕ) (old new : SeenChannel) →
    slice_get channels k ≡ Some old → ((channel : SeenChannel) → R channel channel) → R old new →
    (n : ℕ) (before after : SeenChannel) → slice_get channels n ≡ Some before →
    slice_get (slice_set channels k new) n ≡ Some after → R before after
both_at R channels k old new is itself changed n before after was now =
    elim (one_or_other n k) [
      | inl same ↦
          let old_is : before ≡ old = same_Some before old (sym was ∙ ap (slice_get channels) same ∙ is) in
          let new_is : after ≡ new =
          same_Some after new (sym now ∙ ap (slice_get (slice_set channels k new)) same
          ∙ get_set channels k new (slice_get_within channels k old is)) in
          subst (λ (channel : SeenChannel). R channel after) (sym old_is)
          (subst (λ (channel : SeenChannel). R old channel) (sym new_is) changed)
      | inr differs ↦
          let stays : after ≡ before =
          same_Some after before (sym now ∙ get_set_other channels n k new differs ∙ was) in
          subst (λ (channel : SeenChannel). R before channel) (sym stays) (itself before)
    ]

module _ (worker : WorkerState) (channels : List SeenChannel) (k : ℕ) (old : SeenChannel) (is : slice_get channels k ≡ Some old) where
  -- the room of each channel is kept where that of this one is
  pub rooms_kept : (new : SeenChannel) → KeepsRoom old new → KeepRooms channels (slice_set channels k new)
  rooms_kept new keeps = record {
    as_many = length-set channels k new;
    each = both_at KeepsRoom channels k old new is keeps_itself keeps;
  }

  -- the pasts stay where this one's does
  pub pasts_stay : (new : SeenChannel) → new.kept.past ≡ old.kept.past → pasts_of (slice_set channels k new) ≡ pasts_of channels
  pasts_stay new stays =
      map-set_same past_in channels k new old (stays ∙ ap past_in (sym (get_or_from_slice_get channels k old old is)))

  module _ (starts : List Start) (contents : List (Tag × List ℕ)) (standing : AreStanding worker channels starts contents) where
    pub there : IsItemAt starts k
    there = item_at starts k (subst (λ (n : ℕ). k < n) standing.as_many (slice_get_within channels k old is))

    abbrev pub start : Start
    start = there.item

    has_past : slice_get (pasts_of channels) k ≡ Some old.kept.past
    has_past = slice_get-map past_in channels k ∙ ap (option_map past_in) is

    pub stood : Stands old start contents
    stood = standing.stand k start old there.is_there is

    pub works : WorksFor worker start
    works = standing.works k start there.is_there

    -- the channels with one that stands for its start
    module _ (new : SeenChannel) (stands : Stands new start contents) where
      stand_after : AreStanding worker (slice_set channels k new) starts contents
      stand_after = record {
        as_many = length-set channels k new ∙ standing.as_many;
        works = standing.works;
        stand = λ n other channel has_start has_channel.
            elim (one_or_other n k) [
              | inl same ↦
                  let found : channel ≡ new =
                  same_Some channel new (sym has_channel ∙ ap (slice_get (slice_set channels k new)) same
                  ∙ get_set channels k new (slice_get_within channels k old is)) in
                  let started : other ≡ start =
                  same_Some other start (sym has_start ∙ ap (slice_get starts) same ∙ there.is_there) in
                  subst (λ (s : Start). Stands channel s contents) (sym started)
                  (subst (λ (c : SeenChannel). Stands c start contents) (sym found) stands)
              | inr differs ↦ standing.stand n other channel has_start
                  (sym (get_set_other channels n k new differs) ∙ has_channel)
            ];
      }

      limit_stays : new.kept.limit ≡ old.kept.limit
      limit_stays = stands.limit_is ∙ sym stood.limit_is

      -- it keeps its room where each entry found room, and the past is then short
      keeps_room : (found_room old.kept.limit old.kept.past ≡ true → found_room old.kept.limit new.kept.past ≡ true) →
          (length old.kept.past ≤ start.limit → found_room start.limit new.kept.past ≡ true →
          length new.kept.past ≤ start.limit) → KeepsRoom old new
      keeps_room finds short = record {
        limit_stays = limit_stays;
        has_room = λ found was.
            let found_now = finds found in (
              found_now,
              subst (λ (limit : ℕ). length new.kept.past ≤ limit) (sym stood.limit_is)
                  (short (subst (λ (limit : ℕ). length old.kept.past ≤ limit) stood.limit_is was)
                  (subst (λ (limit : ℕ). found_room limit new.kept.past ≡ true) stood.limit_is found_now)),
            );
      }

    -- a call on it
    module _ (call : TraceCall) (own : HasOwnData worker.shape.bytes call.tag call.verb contents) where
      pub serves_keep : (new : SeenChannel) (reply : Reply) →
          IsServedOn worker (length channels) old new call.tag call.verb reply → KeepsRoom old new
      serves_keep new reply serves =
          let made = serves.replied start contents works stood own in
          keeps_room new made.0
          (λ found.
          replies_find_room start contents (length channels) call.tag reply old.kept.past new.kept.past old.kept.limit call.verb
          made.1 found serves.rooms)
          (λ short found.
          replies_short start contents stood.is_past.is_start call.tag old.kept.past short (length channels) call.verb reply
          new.kept.past made.1 made.0.is_past.is_lawful found)

      pub stops_keep : (new : SeenChannel) (entries : ℕ) →
          IsFullFor worker (length channels) old new call.tag call.verb entries → KeepsRoom old new
      stops_keep new entries full =
          let made = full.stopped start contents works stood own in
          keeps_room new made.0 full.rooms
          (λ short found.
          stops_short start contents stood.is_past.is_start call.tag old.kept.past short (length channels) call.verb
          new.kept.past made.1 made.0.is_past.is_lawful found)

      module _ (on : channel_of (length channels) call.verb ≡ Some k) where
        on_start : channel_of (length starts) call.verb ≡ Some k
        on_start = subst (λ (n : ℕ). channel_of n call.verb ≡ Some k) standing.as_many on

        leads_on : (new : SeenChannel) (reply : Reply) → Stands new start contents →
            IsRepliedBy start contents (length channels) call.tag call.verb reply old.kept.past new.kept.past →
            LeadsOn contents starts (pasts_of channels) call reply k new.kept.past
        leads_on new reply stands replied = record {
          start = start;
          past = old.kept.past;
          is_channel = on_start;
          has_start = there.is_there;
          has_past = has_past;
          is_replied =
              subst (λ (n : ℕ). IsRepliedBy start contents n call.tag call.verb reply old.kept.past new.kept.past)
              standing.as_many replied;
          is_lawful = stands.is_past.is_lawful;
        }

        pub serves_on : (new : SeenChannel) (reply : Reply) →
            IsServedOn worker (length channels) old new call.tag call.verb reply →
            AreStanding worker (slice_set channels k new) starts contents
            × ((hints : List ℕ) →
            IsServedOnOne contents starts call reply (pasts_of channels) hints (pasts_of (slice_set channels k new))
            (hints_after call.verb reply hints))
        serves_on new reply serves =
            let made = serves.replied start contents works stood own in (
              stand_after new made.0,
              λ hints. record {
                channel = k;
                now = new.kept.past;
                leads_on = leads_on new reply made.0 made.1;
                after_is = map-set past_in channels k new;
                left_is = refl;
              },
            )

        pub stops_on : (new : SeenChannel) (entries : ℕ) →
            IsFullFor worker (length channels) old new call.tag call.verb entries →
            AreStanding worker (slice_set channels k new) starts contents
            × ((hints : List ℕ) →
            IsStoppedOnOne contents starts call k entries (pasts_of channels) hints (pasts_of (slice_set channels k new)) hints)
        stops_on new entries full =
            let made = full.stopped start contents works stood own in (
              stand_after new made.0,
              λ hints. record {
                past_now = new.kept.past;
                stops = record {
                  is_channel = on_start;
                  start = start;
                  past = old.kept.past;
                  has_start = there.is_there;
                  has_past = has_past;
                  is_stopped =
                      subst (λ (n : ℕ). IsStoppedBy start contents n call.tag call.verb old.kept.past new.kept.past)
                      standing.as_many made.1;
                  is_lawful = made.0.is_past.is_lawful;
                  has_length = sym full.entries_are;
                };
                now_is = map-set past_in channels k new;
                left_is = refl;
              },
            )

        pub breaks_off_on : (new : SeenChannel) →
            ForEach worker call.tag call.verb old new
            (λ start contents.
            IsBrokenOffBy start contents (length channels) call.tag call.verb old.kept.past new.kept.past) →
            AreStanding worker (slice_set channels k new) starts contents
            × ((hints : List ℕ) →
            IsBrokenOffOnOne contents starts call (pasts_of channels) hints (pasts_of (slice_set channels k new)) hints)
        breaks_off_on new broken =
            let made = broken start contents works stood own in (
              stand_after new made.0,
              λ hints. record {
                channel = k;
                past_now = new.kept.past;
                breaks_off = record {
                  is_channel = on_start;
                  start = start;
                  past = old.kept.past;
                  has_start = there.is_there;
                  has_past = has_past;
                  is_broken_off =
                      subst (λ (n : ℕ). IsBrokenOffBy start contents n call.tag call.verb old.kept.past new.kept.past)
                      standing.as_many made.1;
                  is_lawful = made.0.is_past.is_lawful;
                };
                now_is = map-set past_in channels k new;
                left_is = refl;
              },
            )

    -- a refresh of a page on it
    module _ (tag : Tag) (page : ℕ) where
      pub refreshes_keep : (new : SeenChannel) (reply : RefreshReply) →
          IsRefreshedOn worker old new tag (page / length channels) reply → KeepsRoom old new
      refreshes_keep new reply refreshes =
          let made = refreshes.refreshed start contents works stood in
          let replied : HasRefreshed start contents tag (page / length channels) old.kept.past new.kept.past
          (reply_of_refresh reply) = record { told = reply; was_refreshed = made.1; reply_is = refl } in
          keeps_room new made.0
          (λ found.
          replies_find_room start contents (length channels) tag (reply_of_refresh reply) old.kept.past new.kept.past
          old.kept.limit (Verb.Refresh page) replied found refreshes.has_room)
          (λ short found.
          replies_short start contents stood.is_past.is_start tag old.kept.past short (length channels) (Verb.Refresh page)
          (reply_of_refresh reply) new.kept.past replied made.0.is_past.is_lawful found)

      module _ (on : k ≡ page % length channels) where
        here : k ≡ page % length starts
        here = on ∙ ap (λ (n : ℕ). page % n) standing.as_many

        pub refreshes_on : (new : SeenChannel) (reply : RefreshReply) →
            IsRefreshedOn worker old new tag (page / length channels) reply →
            AreStanding worker (slice_set channels k new) starts contents
            × RefreshesOn contents starts tag page reply (pasts_of channels) (pasts_of (slice_set channels k new))
        refreshes_on new reply refreshes =
            let made = refreshes.refreshed start contents works stood in (
              stand_after new made.0,
              record {
                start = start;
                past = old.kept.past;
                now = new.kept.past;
                has_start = subst (λ (n : ℕ). slice_get starts n ≡ Some start) here there.is_there;
                has_past = subst (λ (n : ℕ). slice_get (pasts_of channels) n ≡ Some old.kept.past) here has_past;
                was_refreshed =
                    subst (λ (n : ℕ). WasRefreshed start contents tag (page / n) old.kept.past new.kept.past reply)
                    standing.as_many made.1;
                is_lawful = made.0.is_past.is_lawful;
                after_is =
                    map-set past_in channels k new
                    ∙ ap {B = List (List Entry)} (λ (n : ℕ). slice_set (pasts_of channels) n new.kept.past) here;
              },
            )

    -- a refresh to whose look memory was refused
    pub refused_on : (new : SeenChannel) → IsRefusedOn worker old new → AreStanding worker (slice_set channels k new) starts contents
    refused_on new refused = stand_after new (refused.stands start contents works stood).0

    -- a refresh that finds no room for its look
    module _ (new : SeenChannel) (entries : ℕ) (left_out : HasNoRoomOn worker old new entries) where
      stands : Stands new start contents
      stands = (left_out.stands start contents works stood).0

      pub left_out_keeps : KeepsRoom old new
      left_out_keeps =
          keeps_room new stands
          (λ found. subst (λ (past : List Entry). found_room old.kept.limit past ≡ true) (sym left_out.past_stays) found)
          (λ short found. subst (λ (past : List Entry). length past ≤ start.limit) (sym left_out.past_stays) short)

      pub left_out_on : AreStanding worker (slice_set channels k new) starts contents
          × HasNoRoomToLook starts (pasts_of channels) k entries
      left_out_on = (
        stand_after new stands,
        record {
          start = start;
          past = old.kept.past;
          has_start = there.is_there;
          has_past = has_past;
          no_room =
              subst (λ (limit : ℕ). has_look_room limit old.kept.past ≡ false) stood.limit_is left_out.no_room;
          has_length = sym left_out.entries_are;
        },
      )
