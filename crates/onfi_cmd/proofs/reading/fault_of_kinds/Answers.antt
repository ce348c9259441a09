use Rattle.std.proofs.Common.{◌+◌, ◌∙◌}
use Rattle.onfi_cmd.proofs.ReadingLemmas.{first_fault-short}
use Rattle.onfi_cmd.proofs.reading.fault_of_kinds.Goals as goal

pub returns-then-i-cycles-clause-failed : goal.returns-then-i-cycles-clause-failed
returns-then-i-cycles-clause-failed c =
    λ rest. c.loop-i.invariant.1 rest
    ∙ first_fault-short rest c.args.expected.now c.loop-i.i c.args.cycles.now (c.loop-i.i + 1) c.loop-i-test.true c.if-i-cycles.true
