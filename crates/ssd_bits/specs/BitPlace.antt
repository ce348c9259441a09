-- Which bit does a place name? A place is a byte and a bit from there on.
use Rattle.std.specs.Prelude.{ℕ, ◌+◌, ◌*◌}
use Rattle.ssd_bits.specs.declared.place.BitPlace.{BitPlace}

-- the number of the bit, counted from the first byte
abbrev pub bit_number : BitPlace → ℕ
bit_number p = 8 * p.byte + p.bit
