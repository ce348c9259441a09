use Rattle.onfi_cmd.proofs.ReadingLemmas.{end_fault-extra}
use Rattle.std.proofs.Common.{sym}
use Rattle.onfi_cmd.proofs.reading.fault_at_end.Goals as goal

pub returns-then-place-cycles : goal.returns-then-place-cycles
returns-then-place-cycles c = sym (end_fault-extra c.args.cycles.now c.args.place c.if-place-cycles.true)
