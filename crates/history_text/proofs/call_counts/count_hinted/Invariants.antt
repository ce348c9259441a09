use Rattle.std.proofs.Common.{◌*◌, ◌^◌, ◌≤◌, ◌≡◌, take}
use Rattle.std.specs.Prelude.{sum_by, count_by}
use Rattle.ssd_formats.specs.RunText.{is_hinted}
use Rattle.history_text.proofs.call_counts.count_hinted.Given as goal

abbrev pub invariant-loop-given : goal.invariant-loop-given
invariant-loop-given l = record {
  counted : l.count ≡ sum_by (count_by is_hinted) (take l.given-index l.replies);
  bound : l.count ≤ l.given-index * 2 ^ 64;
}
