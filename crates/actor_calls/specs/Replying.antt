-- When has a read room for its reply? Where it has data, as much memory as they take was set aside.
use Rattle.std.specs.Prelude.{ℕ, ◌≤◌, List, length, ⊤}
use Rattle.chan_calls.specs.declared.read_reply.ReadReply.{ReadReply}
use Rattle.chan_calls.specs.declared.read_reply.ReadReply.TheVariants.{Bytes}

abbrev pub HasRoomFor : ReadReply → List ℕ → ℕ → Type 0
HasRoomFor (Bytes rung) data_bytes room = length data_bytes ≤ room
HasRoomFor answer data_bytes room = ⊤
