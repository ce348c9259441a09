-- Which base matrices are worked out by hand, to see that the definitions of the code say what is meant?
use Rattle.std.specs.Prelude.{ℤ, pos, negsuc, [], ◌∷◌}
use Rattle.ssd_geo.specs.BaseMatrix.{BaseMatrix}

-- a code of eight message bits and twelve parity bits
abbrev pub small_matrix : BaseMatrix
small_matrix = record {
  z = 4;
  mb = 3;
  nb = 5;
  entries =
      pos 0 ∷ negsuc 0 ∷ pos 1 ∷ pos 0 ∷ negsuc 0 ∷
      negsuc 0 ∷ pos 2 ∷ pos 0 ∷ pos 0 ∷ pos 0 ∷
      pos 3 ∷ pos 0 ∷ pos 1 ∷ negsuc 0 ∷ pos 0 ∷ [];
}

-- a code of 192 message bits, with an entry of its choice in the first row of the second parity column
abbrev pub matrix_with : ℤ → BaseMatrix
matrix_with entry = record {
  z = 64;
  mb = 3;
  nb = 6;
  entries =
      pos 0 ∷ pos 1 ∷ negsuc 0 ∷ pos 1 ∷ entry ∷ negsuc 0 ∷
      pos 5 ∷ negsuc 0 ∷ pos 7 ∷ pos 0 ∷ pos 0 ∷ pos 0 ∷
      negsuc 0 ∷ pos 11 ∷ pos 3 ∷ pos 1 ∷ negsuc 0 ∷ pos 0 ∷ [];
}
