-- A step or a look has room in a history just where the test of that room says so.
use Rattle.std.proofs.Common.{ℕ, ◌≡◌, ◌+◌, ◌*◌, ◌<◌, ◌≤◌, nat_le, true, false, List, length, arith}
use Rattle.std.proofs.lemmas.Bool.Decides.{nat_tests}
use Rattle.chan_calls.specs.Caller.{HasLookRoom, HasStepRoom}
use Rattle.ssd_geo.specs.declared.entry.Entry.{Entry}
use Rattle.ssd_histories.specs.History.{open_looks}
use Rattle.ssd_histories.specs.HistoryRoom.{has_look_room, has_step_room}
use Rattle.std.proofs.lemmas.Bool.{le-leb}

le_isnt : (a b : ℕ) → ¬ (a ≤ b) → nat_le a b ≡ false
le_isnt a b high = let low : b < a = omega (arith, high) in grind (arith, nat_tests)

pub step_room : (limit : ℕ) (past : List Entry) → HasStepRoom limit past → has_step_room limit past ≡ true
step_room limit past room =
    let has : length past + (256 * length (open_looks past) + 1) ≤ limit = room in
    le-leb (length past + 256 * length (open_looks past) + 1) limit (omega (arith, has))

pub look_room : (limit : ℕ) (past : List Entry) → HasLookRoom limit past → has_look_room limit past ≡ true
look_room limit past room = le-leb (length past + 256 * (length (open_looks past) + 1)) limit room

pub none_for_step : (limit : ℕ) (past : List Entry) → ¬ HasStepRoom limit past → has_step_room limit past ≡ false
none_for_step limit past none =
    le_isnt (length past + 256 * length (open_looks past) + 1) limit (λ low. none (omega (arith, low)))

pub none_for_look : (limit : ℕ) (past : List Entry) → ¬ HasLookRoom limit past → has_look_room limit past ≡ false
none_for_look limit past none = le_isnt (length past + 256 * (length (open_looks past) + 1)) limit none
