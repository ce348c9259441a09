-- What are the levels of four cells that share a word of noise? They are the fresh levels of four neighbours: bit l
-- of four bits, and part l of the word.
use Rattle.std.specs.Prelude.{ℕ, ◌*◌, ◌/◌, ◌%◌, ◌^◌, ◌==◌, List, map, ℤ, ◌+ℤ◌}
use Rattle.std.specs.List.{range_with_len}
use Rattle.std.specs.Int.{bit_at}
use Rattle.ssd_geo.specs.Cells.{aim_of_bit}
use Rattle.ssd_geo.specs.Noise.{noise_of_bits}
use Rattle.ssd_geo.specs.declared.cell_law.CellLaw.{CellLaw}

-- the level of cell l of the four
abbrev pub quad_level : CellLaw → ℕ → ℕ → ℕ → ℤ
quad_level law bits noise l = aim_of_bit law (bit_at bits l == 1) +ℤ noise_of_bits law.spread (noise / 2 ^ (16 * l) % 2 ^ 16)

-- the levels of the four
abbrev pub quad_levels : CellLaw → ℕ → ℕ → List ℤ
quad_levels law bits noise = map (quad_level law bits noise) (range_with_len 0 4)

-- the four parts of a word of noise, of 16 bits each
abbrev pub parts_of : ℕ → List ℕ
parts_of noise = map (λ l. noise / 2 ^ (16 * l) % 2 ^ 16) (range_with_len 0 4)
