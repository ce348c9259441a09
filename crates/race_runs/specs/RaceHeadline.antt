-- What holds of a race? It has the parts of a run, and what is printed of it is the text of a run. All that the statement on a
-- run says holds, word for word, but one clause: each channel's past is one of its start, each die counted the faults of which
-- entries tell, a text spells the histories, the calls are in order in them, each reply is that of its call's own entries,
-- and a read whose page and copies were recovered gives the row's latest write. What room the entries found stands by itself
-- (RaceRoom.antt), since others may come between two steps of a call. In which order the locks gave their turns isn't said.
-- Each law is the contract of a function without a body.
use Rattle.std.specs.Prelude.{◌≡◌, ◌≤◌, IsTrue, length, map, All}
use Rattle.std.specs.Option.{ForSome}
use Rattle.ssd_formats.specs.HistoryText.{are_spelled_histories}
use Rattle.ssd_formats.specs.ImageHead.{Head}
use Rattle.ssd_histories.specs.CallsInOrder.{AreCallsInOrder, AreReplies, reply_to}
use Rattle.ssd_histories.specs.History.{history_of}
use Rattle.ssd_histories.specs.HistoryRoom.{found_room}
use Rattle.ssd_histories.specs.LastWrites.{ReadsLastWrite}
use Rattle.ssd_histories.specs.Standing.{IsPastOf}
use Rattle.run_laws.specs.Headline.{AreCounted, Headline}
use Rattle.run_laws.specs.Runs.{Run, channels_of, data_in}
use Rattle.run_laws.specs.SerialRuns.{HasCalls}
use Rattle.run_laws.specs.Serials.{HasSmallSerials}

-- the statement on a race, whose image has this head
pub record RaceHeadline (head : Head) (run : Run) : Type 0 where
  pub as_many_pasts : length run.pasts ≡ length run.starts
  pub as_many_actors : length run.replies ≡ run.calls.actors
  pub are_pasts : All (λ channel. IsPastOf channel.start (data_in head run) channel.past) (channels_of run)
  pub are_counted : AreCounted (channels_of run) run.faults
  pub are_spelled : IsTrue (are_spelled_histories (map history_of run.pasts))
  pub in_order : AreCallsInOrder (data_in head run) run.calls.calls run.replies (channels_of run)
  pub are_replies : AreReplies (data_in head run) run.calls.calls run.replies (channels_of run)
  pub last_writes :
      All (λ call. ForSome (reply_to run.replies call.tag) (ReadsLastWrite (data_in head run) (channels_of run) call.tag call.verb))
      run.calls.calls

-- what the channels of a race have by themselves, which are as few as a text tells of: each a past of its start, no longer than
-- the limit, dies that counted the faults of which the entries tell, and serials of 64 bits with which it began
pub record RaceChannelsHold (head : Head) (run : Run) : Type 0 where
  pub as_many_pasts : length run.pasts ≡ length run.starts
  pub are_pasts : All (λ channel. IsPastOf channel.start (data_in head run) channel.past) (channels_of run)
  pub are_counted : AreCounted (channels_of run) run.faults
  pub few_channels : length run.starts ≤ 256
  pub are_short : All (λ channel. length channel.past ≤ channel.start.limit) (channels_of run)
  pub serials : All (λ start. HasSmallSerials start.base) run.starts

-- the statement holds of calls that are in order, with the replies of their own entries
abbrev pub OrderedRacesHold : Type 0
OrderedRacesHold =
    (head : Head) (run : Run) → HasCalls head run → RaceChannelsHold head run →
    AreCallsInOrder (data_in head run) run.calls.calls run.replies (channels_of run) →
    AreReplies (data_in head run) run.calls.calls run.replies (channels_of run) → RaceHeadline head run

-- where the statement on a run holds, that on a race does
abbrev pub HeadlinesAreOfRaces : Type 0
HeadlinesAreOfRaces = (head : Head) (run : Run) → Headline head run → RaceHeadline head run

-- and where each entry of a race found the room that calls ask which are served one after the other, that on a run does
abbrev pub RacesThatFoundRoomAreRuns : Type 0
RacesThatFoundRoomAreRuns =
    (head : Head) (run : Run) → RaceHeadline head run →
    All (λ channel. IsTrue (found_room channel.start.limit channel.past)) (channels_of run) → Headline head run
