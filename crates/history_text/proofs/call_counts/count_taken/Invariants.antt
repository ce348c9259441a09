use Rattle.std.proofs.Common.{◌≡◌, take}
use Rattle.std.specs.Prelude.{sum_by}
use Rattle.ssd_formats.specs.RunText.{taken_by}
use Rattle.history_text.proofs.call_counts.count_taken.Given as goal

abbrev pub invariant-loop-given : goal.invariant-loop-given
invariant-loop-given l = l.count ≡ sum_by (sum_by taken_by) (take l.given-index l.replies)
