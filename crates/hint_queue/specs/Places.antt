-- Where does a pass stand, at the queue and at the counts?
use Rattle.std.specs.Prelude.{◌≡◌, ◌+◌, ◌++◌, ◌≤◌, ℕ, zero, suc, nat_le, List, [], ◌∷◌, length}
use Rattle.atomic_table.specs.declared.shared.Seat.{Seat}
use Rattle.crossbeam_queue.specs.Passes.{Pass, view}
use Rattle.hint_queue.specs.Counts.{seen_in, times}
use Rattle.hint_queue.specs.Orders.{HintPassState, pages_by, pages_of}
use Rattle.hint_queue.specs.Steps.{new_part}
use Rattle.hint_queue.specs.declared.counts.Tally.{Tally}
use Rattle.hint_queue.specs.declared.view.Noted.{Noted}
use Rattle.hint_queue.specs.declared.view.Part.{Part}
use Rattle.hint_queue.specs.declared.view.View.{View}
use Rattle.hint_queue.specs.declared.view.View.TheVariants.{New, Deals, Has}

-- the one pass of a seat
abbrev pub part_in : View → Part
part_in New = new_part 0 0 0
part_in (Deals dealing) = new_part 0 0 0
part_in (Has []) = new_part 0 0 0
part_in (Has (part ∷ parts)) = part

abbrev pub Place : Type 0
Place = Pass Noted View

abbrev pub TellerSeat : Type 0
TellerSeat = Seat ℕ Tally

-- how often a pass added one to each word
abbrev pub events : ℕ → Part → ℕ
events zero part = length part.pushed
events (suc number) part = length (pages_by number part.taken)

-- the pass of a part, of these sights
abbrev pub pass_of : Place → TellerSeat → Part → HintPassState
pass_of place teller part = record {
  queue = record { queue = place.table_id; counts = teller.table_id; passes = part.passes; pages = part.pages };
  number = part.number;
  pushed = part.pushed;
  taken = pages_of part.taken;
  known = seen_in (part.number + 1) teller.me.0.seen;
  met_full = nat_le 256 (seen_in 0 teller.me.0.seen);
}

abbrev pub pass_at : Place → TellerSeat → HintPassState
pass_at place teller = pass_of place teller (part_in (view place))

-- the seats of a pass with this number and so many pages pushed
pub record IsSeated (number pushes : ℕ) (place : Place) (teller : TellerSeat) : Type 0 where
  pub at_queue : view place ≡ Has (part_in (view place) ∷ [])
  pub no_slot : place.me.1 ≡ []
  pub numbered : (part_in (view place)).number ≡ number
  pub below : number + 1 ≤ (part_in (view place)).passes
  pub few : (part_in (view place)).passes ≤ 32
  pub count : length (part_in (view place)).pushed ≡ pushes
  pub at_counts : teller.me.1 ≡ []
  pub total : teller.me.0.total ≡ (part_in (view place)).passes
  pub share : teller.me.0.share ≡ 1
  pub told : (word : ℕ) → times word teller.me.0.told ≡ events word (part_in (view place))
