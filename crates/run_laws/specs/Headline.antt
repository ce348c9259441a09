-- What holds of a run? Each channel's past is one of its start: lawful, and following the policy's view where that is told. Each
-- entry of it found room, each die counted the faults of which entries tell, and the histories are ones that
-- a text spells, so that the text of the run tells them. The calls are in order in these
-- pasts; each reply is that of its call's own entries, which for a read is the answer of the ladder over the
-- senses; and where the page that a read looked at, and all copies by which it came to its slot, were recovered, the read gives
-- the data of the row's latest write. The words are those of every run, with any number of channels, actors and
-- calls. Where the calls are served one after the other, it is said in which order, and where a history's limit stopped them.
use Rattle.std.specs.Prelude.{ℕ, ◌≡◌, ◌<◌, IsTrue, is_some, List, [], ◌∷◌, length, map, All, ⊤}
use Rattle.std.specs.List.{list_all}
use Rattle.std.specs.Option.{ForSome}
use Rattle.ssd_histories.specs.CallsInOrder.{AreCallsInOrder, AreReplies, ChannelRun, reply_to}
use Rattle.ssd_histories.specs.History.{history_of}
use Rattle.ssd_histories.specs.HistoryRoom.{found_room}
use Rattle.ssd_formats.specs.HistoryText.{are_spelled_histories}
use Rattle.ssd_formats.specs.ImageHead.{Head}
use Rattle.ssd_histories.specs.LastWrites.{ReadsLastWrite}
use Rattle.ssd_histories.specs.SerialHistory.{AreServed, first_state}
use Rattle.ssd_histories.specs.SerialStop.{IsSerialStop}
use Rattle.ssd_histories.specs.Standing.{CountsFaults, IsPastOf, count_at}
use Rattle.run_laws.specs.Runs.{FaultCounts, Run, channels_of, data_in}

-- the counts of the dies of a channel: neither count of a die fell, and the work count rose by at least as many as the
-- entries of the channel that tell of a failed call of that die
abbrev pub CountsAll : ChannelRun → FaultCounts → Type 0
CountsAll channel counts =
    (die : ℕ) → die < channel.start.base.shape.dies →
    CountsFaults channel.start channel.past die (count_at counts.work die) (count_at counts.load die)

-- so have those of each channel
abbrev pub AreCounted : List ChannelRun → List FaultCounts → Type 0
AreCounted [] [] = ⊤
AreCounted [] (counts ∷ others) = ⊥
AreCounted (channel ∷ more) [] = ⊥
AreCounted (channel ∷ more) (counts ∷ others) = CountsAll channel counts × AreCounted more others

-- the statement on a run, whose image has this head
pub record Headline (head : Head) (run : Run) : Type 0 where
  pub as_many_pasts : length run.pasts ≡ length run.starts
  pub as_many_actors : length run.replies ≡ run.calls.actors
  pub are_pasts : All (λ channel. IsPastOf channel.start (data_in head run) channel.past) (channels_of run)
  pub have_room : All (λ channel. IsTrue (found_room channel.start.limit channel.past)) (channels_of run)
  pub are_counted : AreCounted (channels_of run) run.faults
  pub are_spelled : IsTrue (are_spelled_histories (map history_of run.pasts))
  pub in_order : AreCallsInOrder (data_in head run) run.calls.calls run.replies (channels_of run)
  pub are_replies : AreReplies (data_in head run) run.calls.calls run.replies (channels_of run)
  pub last_writes :
      All (λ call. ForSome (reply_to run.replies call.tag) (ReadsLastWrite (data_in head run) (channels_of run) call.tag call.verb))
      run.calls.calls

-- a run is whole: its calls were served one after the other, in the order of the calls, each with its reply, and led its
-- channels from their starts to their pasts
pub record IsWholeRun (head : Head) (run : Run) : Type 0 where
  pub hints : List ℕ
  pub are_served :
      AreServed (data_in head run) run.replies (length run.starts) run.calls.calls (first_state run.starts)
      (record { channels = channels_of run; hints = hints; dropped = run.dropped })
  pub all_answered : IsTrue (list_all (λ call. is_some (reply_to run.replies call.tag)) run.calls.calls)

-- a run stopped in a call: the calls before it were served so, and the history of this channel, of this length, had no room for
-- the call's next entry
pub record IsStoppedRun (head : Head) (run : Run) (channel entries : ℕ) : Type 0 where
  pub hints : List ℕ
  pub is_stop :
      IsSerialStop (data_in head run) run.starts run.calls.calls run.replies channel entries
      (record { channels = channels_of run; hints = hints; dropped = run.dropped })
