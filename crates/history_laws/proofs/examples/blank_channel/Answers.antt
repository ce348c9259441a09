use Rattle.std.proofs.Common.{arith, refl}
use Rattle.history_laws.proofs.examples.blank_channel.Goals as goal

pub returns : goal.returns
returns c = λ within. record { free_or_bad = refl; rows_fit = omega arith; none_weak = refl }
