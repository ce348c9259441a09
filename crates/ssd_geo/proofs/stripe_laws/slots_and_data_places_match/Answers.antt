use Rattle.ssd_geo.proofs.Stripes.{places_differ, places_have_slots, slots_have_places}
use Rattle.ssd_geo.proofs.stripe_laws.slots_and_data_places_match.Goals as goal

pub returns : goal.returns
returns c = record { slots = slots_have_places; places = places_have_slots; differ = places_differ }
