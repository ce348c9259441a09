use Rattle.std.proofs.Common.{◌≡◌, ◌-◌, [], length}
use Rattle.ssd_formats.specs.HistoryText.{histories_of_lines}
use Rattle.history_text.proofs.read.histories.read_channels.Given as goal

abbrev pub invariant-loop-channel : goal.invariant-loop-channel
invariant-loop-channel l = record {
  count : length l.histories.items ≡ l.channel;
  rest : histories_of_lines l.channels [] l.initial.lines
      ≡ histories_of_lines (l.channels - l.channel) l.histories.items l.lines;
}
