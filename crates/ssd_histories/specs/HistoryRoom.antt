-- Has a channel's history room for one more entry, and did each entry of a past find the room that it asks for? Each open look
-- has 256 entries set aside, so what stands inside a look asks for nothing. The room is that of calls that are served one
-- after the other: there the look for a live page, which asks for a look's room and adds nothing where it finds none, comes
-- right before an erase.
use Rattle.std.specs.Prelude.{ℕ, ◌+◌, ◌*◌, nat_le, Bool, true, ◌&&◌, List, [], ◌∷◌, length}
use Rattle.ssd_histories.specs.History.{open_looks}
use Rattle.ssd_geo.specs.declared.entry.Entry.{Entry}
use Rattle.ssd_geo.specs.declared.kind.Kind.{Kind}

-- whether a history with this limit has room after a past for a look, and for one entry outside a look
abbrev pub has_look_room : ℕ → List Entry → Bool
has_look_room limit past = nat_le (length past + 256 * (length (open_looks past) + 1)) limit

abbrev pub has_step_room : ℕ → List Entry → Bool
has_step_room limit past = nat_le (length past + 256 * length (open_looks past) + 1) limit

-- whether it has room for an entry of a kind
abbrev pub has_room_for : ℕ → List Entry → Kind → Bool
has_room_for limit past (Kind.Look row found closed) = has_look_room limit past
has_room_for limit past (Kind.Sense at place level) = true
has_room_for limit past (Kind.Leave at) = true
has_room_for limit past (Kind.Write row slot) = has_step_room limit past
has_room_for limit past (Kind.Trim row) = has_step_room limit past
has_room_for limit past (Kind.Move at slot) = true
has_room_for limit past (Kind.Changed at found) = true
has_room_for limit past (Kind.Condemn at) = true
has_room_for limit past (Kind.Stay at worn) = true
has_room_for limit past (Kind.Pick sb) = has_step_room limit past
has_room_for limit past (Kind.Erase sb) = has_look_room limit past
has_room_for limit past (Kind.BadWrite row slot die fault) = has_step_room limit past
has_room_for limit past (Kind.BadCopy at slot die fault) = true
has_room_for limit past (Kind.BadErase sb die fault) = has_look_room limit past
has_room_for limit past (Kind.Age die sb amount) = has_step_room limit past
has_room_for limit past (Kind.Refused row worn) = has_step_room limit past
has_room_for limit past (Kind.FaultSense at place level) = true
has_room_for limit past (Kind.FaultAge die sb amount) = has_step_room limit past
has_room_for limit past (Kind.Note free victim live pins garbage) = has_step_room limit past

-- whether each entry of a past found room at its position
abbrev pub found_room : ℕ → List Entry → Bool
found_room limit [] = true
found_room limit (entry ∷ past) = found_room limit past && has_room_for limit past entry.kind
