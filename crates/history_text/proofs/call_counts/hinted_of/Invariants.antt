use Rattle.std.proofs.Common.{◌≤◌, ◌≡◌, take}
use Rattle.std.specs.Prelude.{count_by}
use Rattle.ssd_formats.specs.RunText.{is_hinted}
use Rattle.history_text.proofs.call_counts.hinted_of.Given as goal

abbrev pub invariant-loop-reply : goal.invariant-loop-reply
invariant-loop-reply l = record {
  counted : l.count ≡ count_by is_hinted (take l.reply-index l.replies);
  bound : l.count ≤ l.reply-index;
}
