use Rattle.ssd_geo.proofs.SenseValues.{five_senses_are_back, senses_stand_in_order, values_are_taken}
use Rattle.ssd_geo.proofs.page_laws.values_are_taken.Goals as goal

pub returns : goal.returns
returns c = record { values = values_are_taken; places = senses_stand_in_order; five = five_senses_are_back }
