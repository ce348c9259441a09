-- Did each entry of a race find the room that its step asks of its channel's history? Each step asks in its own turn. An erase
-- asks what each step outside a look asks, and no more: between the look for a live page, which asks for a look's room, and
-- the erase others may have come. All else is as where calls are served one after the other. Each law is the contract of a
-- function without a body.
use Rattle.std.specs.Prelude.{ℕ, ◌≡◌, ◌==◌, Bool, true, ◌&&◌, ◌||◌, not, IsTrue, List, [], ◌∷◌, All}
use Rattle.run_laws.specs.Runs.{Run, channels_of}
use Rattle.ssd_geo.specs.declared.entry.Entry.{Entry}
use Rattle.ssd_geo.specs.declared.kind.Kind.{Kind}
use Rattle.ssd_histories.specs.HistoryRoom.{found_room, has_room_for, has_step_room}

-- whether a history with this limit has room after a past for an entry of a kind, in its step's turn
abbrev pub has_room_in_turn : ℕ → List Entry → Kind → Bool
has_room_in_turn limit past (Kind.Erase sb) = has_step_room limit past
has_room_in_turn limit past (Kind.BadErase sb die fault) = has_step_room limit past
has_room_in_turn limit past kind = has_room_for limit past kind

-- whether each entry of a past found room at its position
abbrev pub found_room_in_turns : ℕ → List Entry → Bool
found_room_in_turns limit [] = true
found_room_in_turns limit (entry ∷ past) = found_room_in_turns limit past && has_room_in_turn limit past entry.kind

-- each entry of a race did
abbrev pub HaveRoomInTurns : Run → Type 0
HaveRoomInTurns run = All (λ channel. IsTrue (found_room_in_turns channel.start.limit channel.past)) (channels_of run)

-- whether each entry of one actor did
abbrev pub actor_found_room : ℕ → ℕ → List Entry → Bool
actor_found_room limit actor [] = true
actor_found_room limit actor (entry ∷ past) =
    actor_found_room limit actor past && (not (entry.tag.actor == actor) || has_room_in_turn limit past entry.kind)

-- who found the room that calls ask which are served one after the other found it in its turn
abbrev pub RoomsAreFoundInTurns : Type 0
RoomsAreFoundInTurns =
    (limit : ℕ) (past : List Entry) → found_room limit past ≡ true → found_room_in_turns limit past ≡ true

-- where each entry of each actor found room, each entry did
abbrev pub TurnsOfAllFindRoom : Type 0
TurnsOfAllFindRoom =
    (limit : ℕ) (past : List Entry) → ((actor : ℕ) → actor_found_room limit actor past ≡ true) →
    found_room_in_turns limit past ≡ true
