-- Which noise does a cell get when its page is programmed? Each program makes one SplitMix64 from a number that
-- the image's seed, the place of the page and the erases of its block give, and four cells share each of its words.
-- Rule and numbers are this project's own; SplitMix64 is that of Steele, Lea and Flood.
use Rattle.std.specs.Prelude.{ℕ, zero, suc, ◌+◌, ◌*◌, ◌/◌, ◌%◌, ◌^◌, ℤ, pos, ◌-ℤ◌}
use Rattle.rand_xoshiro.specs.SplitMix64.{next_state, mix_u64}

-- the number of a page in the whole drive: its place, with K dies a channel, N blocks a die and P pages a block
abbrev pub number_of_page : ℕ → ℕ → ℕ → ℕ → ℕ → ℕ → ℕ → ℕ
number_of_page dies blocks pages channel die block page = ((channel * dies + die) * blocks + block) * pages + page

-- the number from which a program of a page makes its generator
abbrev pub start_of_program : ℕ → ℕ → ℕ → ℕ
start_of_program seed place erases = (seed + place * 2 ^ 32 + erases) % 2 ^ 64

-- the generator's state after n words
abbrev pub state_after : ℕ → ℕ → ℕ
state_after start zero = start
state_after start (suc n) = next_state (state_after start n)

-- word n of the generator, counted from 0
unfoldable pub noise_word : ℕ → ℕ → ℕ
noise_word start n = (mix_u64 (state_after start n)).0

-- a cell's own 16 bits: part l of word w for cell 4w + l
abbrev pub bits_of_cell : ℕ → ℕ → ℕ
bits_of_cell start cell = noise_word start (cell / 4) / 2 ^ (16 * (cell % 4)) % 2 ^ 16

-- noise from -spread to spread, of 16 bits
abbrev pub noise_of_bits : ℕ → ℕ → ℤ
noise_of_bits spread drawn = pos (drawn % (2 * spread + 1)) -ℤ pos spread

-- the noise of a cell
abbrev pub noise_of_cell : ℕ → ℕ → ℕ → ℤ
noise_of_cell spread start cell = noise_of_bits spread (bits_of_cell start cell)
