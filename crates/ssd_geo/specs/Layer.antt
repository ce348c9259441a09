-- Which variables does a check row have? One base row of the matrix makes one layer of check rows; a layer is
-- the list of its blocks that aren't zero, each a column and a shift, in rising columns (the usual
-- description of a quasi-cyclic code).
use Rattle.std.specs.Prelude.{ℕ, ◌+◌, ◌*◌, ◌%◌, List, map}

-- the variable that row r of a layer has in a block: the block's column and shift, of lifting size z
abbrev pub variable_of : ℕ → ℕ → ℕ × ℕ → ℕ
variable_of z r block = block.0 * z + (r + block.1) % z

-- the variables of row r of a layer, in rising columns
abbrev pub variables_of : List (ℕ × ℕ) → ℕ → ℕ → List ℕ
variables_of layer z r = map (variable_of z r) layer
