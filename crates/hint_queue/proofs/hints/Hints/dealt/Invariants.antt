use Rattle.std.proofs.Common.{◌≡◌, ◌-◌, []}
use Rattle.crossbeam_queue.specs.Passes.{view}
use Rattle.hint_queue.specs.Orders.{new_passes}
use Rattle.hint_queue.specs.declared.view.View.TheVariants.{Deals}
use Rattle.hint_queue.proofs.Telling.{idle}
use Rattle.hint_queue.proofs.hints.Hints.dealt.Given as goal

abbrev pub invariant-loop-number : goal.invariant-loop-number
invariant-loop-number l = record {
  table : l.place.table_id ≡ l.self.queue;
  slots : l.place.me.1 ≡ [];
  deals : view l.place ≡ Deals (record { passes = l.self.passes; pages = l.self.pages; from = l.number });
  counts : l.teller.table_id ≡ l.self.counts;
  shares : l.teller.me ≡ (idle l.self.passes (l.self.passes - l.number), []);
  dealt : l.dealt.items ≡ new_passes l.self 0 l.number;
}
