-- Where calls are served one after the other an erase asks for more room than in its turn.
use Rattle.std.proofs.Common.{ℕ, ◌≡◌, ◌+◌, ◌*◌, ◌≤◌, ◌==◌, Bool, true, false, List, [], ◌∷◌, length, refl, arith}
use Rattle.std.specs.Prelude.{◌||◌, not}
use Rattle.std.proofs.lemmas.Bool.{and_from, and_parts, leb-true}
use Rattle.std.proofs.lemmas.Bool.Decides.{nat_tests}
use Rattle.shared_lemmas.proofs.Tests.{same_number}
use Rattle.ssd_geo.specs.declared.entry.Entry.{Entry}
use Rattle.ssd_geo.specs.declared.kind.Kind.{Kind}
use Rattle.ssd_histories.specs.History.{open_looks}
use Rattle.ssd_histories.specs.HistoryRoom.{found_room, has_look_room, has_room_for, has_step_room}
use Rattle.race_runs.specs.RaceRoom.{RoomsAreFoundInTurns, TurnsOfAllFindRoom, actor_found_room, found_room_in_turns, has_room_in_turn}

step_in_look : (limit : ℕ) (past : List Entry) → has_look_room limit past ≡ true → has_step_room limit past ≡ true
step_in_look limit past room =
    let many : ℕ = length (open_looks past) in
    let all = leb-true (length past + 256 * (many + 1)) limit room in
    let fits : length past + 256 * many + 1 ≤ limit = omega (arith, all) in
    grind (arith, nat_tests)

room_in_turn : (limit : ℕ) (past : List Entry) (kind : Kind) → has_room_for limit past kind ≡ true →
    has_room_in_turn limit past kind ≡ true
room_in_turn limit past (Kind.Erase sb) room = step_in_look limit past room
room_in_turn limit past (Kind.BadErase sb die fault) room = step_in_look limit past room
room_in_turn limit past kind room = room

pub rooms_in_turns : RoomsAreFoundInTurns
rooms_in_turns limit [] found = refl
rooms_in_turns limit (entry ∷ past) found =
    let parts = and_parts (found_room limit past) (has_room_for limit past entry.kind) found in
    and_from (found_room_in_turns limit past) (has_room_in_turn limit past entry.kind) (rooms_in_turns limit past parts.0)
    (room_in_turn limit past entry.kind parts.1)

-- the entry's own actor found room for it
own_room : (own room : Bool) → own ≡ true → (not own || room) ≡ true → room ≡ true
own_room true room is found = found
own_room false room is found = absurd (grind arith)

pub turns_of_all : TurnsOfAllFindRoom
turns_of_all limit [] each = refl
turns_of_all limit (entry ∷ past) each =
    let actor : ℕ = entry.tag.actor in
    let room : Bool = has_room_in_turn limit past entry.kind in
    let parts : (other : ℕ) →
    (actor_found_room limit other past ≡ true) × ((not (actor == other) || room) ≡ true) =
    λ other. and_parts (actor_found_room limit other past) (not (actor == other) || room) (each other) in
    and_from (found_room_in_turns limit past) room (turns_of_all limit past (λ other. (parts other).0))
    (own_room (actor == actor) room (same_number actor) (parts actor).1)
