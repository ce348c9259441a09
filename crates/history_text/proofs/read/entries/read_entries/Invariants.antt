use Rattle.std.proofs.Common.{◌≡◌, ◌-◌, [], length}
use Rattle.ssd_formats.specs.HistoryText.{entries_of_lines}
use Rattle.history_text.proofs.read.entries.read_entries.Given as goal

abbrev pub invariant-loop-position : goal.invariant-loop-position
invariant-loop-position l = record {
  count : length l.entries.items ≡ l.position;
  rest : entries_of_lines l.count [] l.initial.lines
      ≡ entries_of_lines (l.count - l.position) l.entries.items l.lines;
}
