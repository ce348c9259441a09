-- What levels do the cells of a page have, and what does a sense give? A single-level cell that is erased reads 1
-- and one that is programmed reads 0 (Micheloni, Inside NAND Flash Memories); whole-number levels, noise and ageing
-- are this project's own.
use Rattle.std.specs.Prelude.{ℕ, ◌*◌, Bool, if◌then◌else◌, List, [], ◌∷◌, map, length, ◌≤◌, ℤ, pos, negsuc, ◌+ℤ◌, ◌-ℤ◌, ◌<ℤ◌, ◌≤ℤ◌, int_lt}
use Rattle.std.specs.List.{range_with_len}
use Rattle.std.specs.Int.{int_max}
use Rattle.ssd_geo.specs.Bits.{bit_of, bytes_of}
use Rattle.ssd_geo.specs.Noise.{start_of_program, noise_of_cell}
use Rattle.ssd_geo.specs.declared.cell_law.CellLaw.{CellLaw}

-- the level that a program aims at: the erased one for bit 1, the programmed one for bit 0
abbrev pub aim_of_bit : CellLaw → Bool → ℤ
aim_of_bit law bit = if bit then law.erased else law.programmed

-- the level of a cell as a program leaves it: the aim of its bit and its noise, which the program's start gives
abbrev pub fresh_level : CellLaw → ℕ → List ℕ → ℕ → ℤ
fresh_level law start word cell = aim_of_bit law (bit_of word cell) +ℤ noise_of_cell law.spread start cell

-- the levels of a page as a program leaves it: one cell for each bit of the word. The page's place in the drive and
-- the erases of its block give the noise.
abbrev pub fresh_levels : CellLaw → ℕ → ℕ → List ℕ → List ℤ
fresh_levels law place erases word =
    map (fresh_level law (start_of_program law.seed place erases) word) (range_with_len 0 (8 * length word))

-- a level after its block was aged by an amount: it falls towards the erased level, and never below it
abbrev pub aged_level : ℤ → ℕ → ℤ → ℤ
aged_level erased amount level =
    if int_lt erased level then int_max erased (level -ℤ pos amount) else level

-- what a sense at a level reads in a cell: 1 exactly where the cell's level is less
abbrev pub sensed_bit : ℤ → ℤ → Bool
sensed_bit at level = int_lt level at

-- what a sense of a page at a level gives: the bit of each cell, in bytes
abbrev pub sensed : ℤ → List ℤ → List ℕ
sensed at levels = bytes_of (map (sensed_bit at) levels)

-- an example: the byte 05h in a page without noise, at the levels -100 and 100
abbrev pub levels_of_five : List ℤ
levels_of_five =
    fresh_levels (record { erased = negsuc 99; programmed = pos 100; spread = 0; seed = 0 }) 0 0 (5 ∷ [])

-- a cell law is in its range
pub record IsCellLaw (law : CellLaw) : Type 0 where
  pub erased_low : negsuc 8191 ≤ℤ law.erased
  pub programmed_low : law.erased <ℤ law.programmed
  pub programmed_high : law.programmed ≤ℤ pos 8191
  pub spread_high : law.spread ≤ 4095
