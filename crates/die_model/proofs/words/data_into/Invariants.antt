use Rattle.std.proofs.Common.{◌≡◌, ℕ, ◌+◌, ◌<◌, get_or}
use Rattle.onfi_cmd.specs.Cycles.{value_of}
use Rattle.onfi_cmd.specs.declared.cycle.Cycle.TheVariants.{Byte}
use Rattle.die_model.proofs.words.data_into.Given as goal

abbrev pub invariant-loop-i : goal.invariant-loop-i
invariant-loop-i l = (k : ℕ) → k < l.i → get_or l.word k 0 ≡ value_of (get_or l.cycles (k + 6) (Byte 0))
