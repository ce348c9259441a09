use Rattle.std.proofs.Common.{◌≡◌, take}
use Rattle.std.specs.Prelude.{sum_by}
use Rattle.ssd_formats.specs.RunText.{taken_by}
use Rattle.history_text.proofs.call_counts.taken_of.Given as goal

abbrev pub invariant-loop-reply : goal.invariant-loop-reply
invariant-loop-reply l = l.count ≡ sum_by taken_by (take l.reply-index l.replies)
