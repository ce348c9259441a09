-- Which serials fit their field in a text? Those of 64 bits, as the serials of writes are; an image may have such ones too.
use Rattle.std.specs.Prelude.{ℕ, ◌^◌, ◌<◌, [], ⊤}
use Rattle.ssd_geo.specs.declared.base.ChannelBase.{ChannelBase}
use Rattle.ssd_geo.specs.declared.row.Row.{Row}
use Rattle.ssd_histories.specs.PastRows.{row_of}

-- a row that names a page has such a serial
abbrev pub HasSmallSerial : Row → Type 0
HasSmallSerial (Row.Page slot serial) = serial < 2 ^ 64
HasSmallSerial Row.Empty = ⊤
HasSmallSerial Row.Lost = ⊤

-- so have the rows with which a channel begins
abbrev pub HasSmallSerials : ChannelBase → Type 0
HasSmallSerials base = (row : ℕ) → HasSmallSerial (row_of base [] row)
