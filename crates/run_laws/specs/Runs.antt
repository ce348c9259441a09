-- What is a run? What its channels began with, the calls that were to be made, and what came of them: each channel's past, each
-- actor's replies, what the channels' dies count at the end, and how many hints were dropped.
use Rattle.std.specs.Prelude.{ℕ, true, List, [], ◌∷◌, length, map}
use Rattle.ssd_histories.specs.CallsInOrder.{ChannelRun}
use Rattle.ssd_histories.specs.History.{history_of}
use Rattle.ssd_histories.specs.Start.{Start}
use Rattle.ssd_formats.specs.ImageHead.{Head}
use Rattle.ssd_formats.specs.Numbers.{Text}
use Rattle.ssd_formats.specs.RunText.{run_text}
use Rattle.ssd_formats.specs.TraceText.{contents_of, kinds_of_trace}
use Rattle.ssd_geo.specs.declared.entry.Entry.{Entry}
use Rattle.ssd_geo.specs.declared.reply.Reply.{Reply}
use Rattle.ssd_geo.specs.declared.tag.Tag.{Tag}
use Rattle.ssd_geo.specs.declared.trace.Trace.{Trace}

-- the two counts of faults of each die of a channel: of runs and ageing, and of the other calls
pub record FaultCounts : Type 0 where
  pub work : List ℕ
  pub load : List ℕ

-- a run: an item of the starts, pasts and counts is that of the channel of its number, and one of the replies that of an actor
pub record Run : Type 0 where
  pub starts : List Start
  pub calls : Trace
  pub pasts : List (List Entry)
  pub replies : List (List Reply)
  pub faults : List FaultCounts
  pub dropped : ℕ

-- the channels with these starts and pasts, and those of a run
abbrev pub runs_with : List Start → List (List Entry) → List ChannelRun
runs_with [] pasts = []
runs_with (start ∷ starts) [] = []
runs_with (start ∷ starts) (past ∷ pasts) = record { start = start; past = past } ∷ runs_with starts pasts

abbrev pub channels_of : Run → List ChannelRun
channels_of run = runs_with run.starts run.pasts

-- the data of the writes of a run, in pages of as many data bytes as the head of the image tells
abbrev pub data_in : Head → Run → List (Tag × List ℕ)
data_in head run = contents_of head.sizes.bytes run.calls.calls

-- the text that is printed of a run, with its histories
abbrev pub text_of_run : Head → Run → Text
text_of_run head run =
    run_text true (length head.read_levels) (map history_of run.pasts) (kinds_of_trace run.calls) run.replies run.dropped
