use Rattle.history_laws.proofs.EmptiedVictims.{copies_find_slots, none_stay_in_victim, victims_have_slots}
use Rattle.history_laws.proofs.VictimPages.{copies_take_pages, victims_gain_no_pages}
use Rattle.history_laws.proofs.reserve.copies_empty_victims.Goals as goal

pub returns : goal.returns
returns c = record {
  gain = victims_gain_no_pages;
  copies = copies_take_pages;
  slots = victims_have_slots;
  finds = copies_find_slots;
  stays = none_stay_in_victim;
}
