use Rattle.history_laws.proofs.Emptying.{emptied_victims_may_be_erased, picked_victims_can_be_emptied, victims_can_be_emptied}
use Rattle.history_laws.proofs.reserve.victims_can_be_emptied.Goals as goal

pub returns : goal.returns
returns c = record {
  emptied = victims_can_be_emptied;
  picked = picked_victims_can_be_emptied;
  erased = emptied_victims_may_be_erased;
}
