-- What is printed, what is shown of a run, and when may it be? The histories, the kinds of calls and the replies are lists
-- that fit each other, and the hints that were dropped or taken are among those that came.
use Rattle.std.specs.Prelude.{ℕ, ◌≡◌, ◌≤◌, ◌-◌, Bool, length, map, Option, Some, None}
use Rattle.history_text.specs.Places.{AsLong}
use Rattle.run_laws.specs.Runs.{Run}
use Rattle.run_laws.specs.ServedRuns.{hints_in, taken_in}
use Rattle.ssd_formats.specs.ImageHead.{Head}
use Rattle.ssd_formats.specs.Numbers.{Text}
use Rattle.ssd_formats.specs.RunText.{run_text}
use Rattle.ssd_formats.specs.TraceText.{kinds_of_trace}
use Rattle.ssd_histories.specs.History.{history_of}
use Rattle.ssd_top.specs.declared.printed.Printed.{Printed}
use Rattle.ssd_top.specs.declared.status.Status.{Status}

-- the lists fit each other, the hints that were dropped are among those that came, and those that were taken among the others
pub record IsPrintable (printed : Printed) : Type 0 where
  pub few_levels : length printed.head.read_levels ≤ 16
  pub lists : length printed.kinds.items ≡ length printed.replies.items
  pub long : AsLong printed.kinds.items printed.replies.items
  pub dropped : printed.dropped ≤ hints_in printed.replies.items
  pub taken : taken_in printed.replies.items ≤ hints_in printed.replies.items - printed.dropped

-- the text
abbrev pub text_of : Printed → Text
text_of printed =
    run_text printed.whole (length printed.head.read_levels) printed.histories.items printed.kinds.items
    printed.replies.items printed.dropped

-- what is shown of a run: all, or the summary alone
abbrev pub shown_text : Bool → Head → Run → Text
shown_text whole head run =
    run_text whole (length head.read_levels) (map history_of run.pasts) (kinds_of_trace run.calls) run.replies run.dropped

-- the status of a run that was printed: it was whole, or stopped at the limit of this channel's
-- history, of this length
abbrev pub status_after : Option (ℕ × ℕ) → Status
status_after None = Status.Done
status_after (Some stop) = Status.HistoryLimit stop.0 stop.1
