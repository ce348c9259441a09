use Rattle.std.proofs.Common.{◌≡◌, ◌≢◌, ℕ}
use Rattle.hint_queue.specs.Counts.{seen_in}
use Rattle.hint_queue.proofs.steps.wait.Given as goal

abbrev pub invariant-loop : goal.invariant-loop
invariant-loop g l = record {
  table : l.teller.table_id ≡ l.initial.teller.table_id;
  total : l.teller.me.0.total ≡ l.initial.teller.me.0.total;
  share : l.teller.me.0.share ≡ l.initial.teller.me.0.share;
  told : l.teller.me.0.told ≡ l.initial.teller.me.0.told;
  slots : l.teller.me.1 ≡ l.initial.teller.me.1;
  others : (other : ℕ) → other ≢ l.word → seen_in other l.teller.me.0.seen ≡ seen_in other l.initial.teller.me.0.seen;
}
