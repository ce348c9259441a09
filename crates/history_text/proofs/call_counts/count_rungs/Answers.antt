use Rattle.std.proofs.Common.{ℕ, arith}
use Rattle.std.proofs.lemmas.List.{length-replicate}
use Rattle.history_text.proofs.Counting.{zero_at}
use Rattle.history_text.proofs.call_counts.count_rungs.Goals as goal

pub loop-given-init : goal.loop-given-init
loop-given-init c = record { counted = λ k within. zero_at 257 k within; bound = λ k within. omega (arith, zero_at 257 k within); len = length-replicate {A = ℕ} 257 0 }
