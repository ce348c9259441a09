use Rattle.round_bounds.proofs.GarbageRounds.{garbage_is_lawful, garbage_is_sound, garbage_takes_four_rounds}
use Rattle.std.proofs.Common.{refl}
use Rattle.round_bounds.proofs.examples.four_rounds.Goals as goal

pub returns : goal.returns
returns c = record {
  sound = garbage_is_sound;
  lawful = garbage_is_lawful;
  rounds = garbage_takes_four_rounds;
  bad = λ within. (refl, refl);
}
