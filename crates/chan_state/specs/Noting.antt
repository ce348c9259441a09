-- What does a note tell of a channel?
use Rattle.std.specs.Prelude.{◌≡◌}
use Rattle.chan_tables.specs.Noting.{kind_of_note, note_of}
use Rattle.ssd_geo.specs.Superblock.{slots_of}
use Rattle.ssd_geo.specs.declared.tag.Tag.{Tag}
use Rattle.chan_state.specs.ChannelState.{ChannelState}
use Rattle.chan_state.specs.Steps.{AddsEntry}
use Rattle.chan_tables.specs.declared.answers.Note.{Note}

-- a note tells how the channel is, and adds its entry
abbrev pub Notes : ChannelState → ChannelState → Tag → Note → Type 0
Notes old new tag note =
    (note ≡ note_of (slots_of old.shape.pages old.shape.dies) old.blocks old.rows old.looks)
    × AddsEntry old new tag (kind_of_note note)
