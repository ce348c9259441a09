-- In which parts is the head of the generated image written? What stands before the base matrix, the matrix, and what
-- stands behind it.
use Rattle.std.specs.Prelude.{ℕ, List, [], ◌∷◌, ◌++◌, flat_map}
use Rattle.std.specs.Int.{to_le_bytes, w64}
use Rattle.ssd_formats.specs.Fields.{bytes_of_signed}
use Rattle.ssd_formats.specs.GeneratedWork.{drawn_before_row, generated_entries}

-- the bytes before the base matrix: up to the seed, the seed, and those behind it
unfoldable pub head_start : ℕ → List ℕ
head_start number =
    (83 ∷ 83 ∷ 68 ∷ 73 ∷ 77 ∷ 71 ∷ 48 ∷ 49 ∷ 2 ∷ 4 ∷ 16 ∷ 0 ∷ 16 ∷ 0 ∷ 0 ∷ 2 ∷ 8 ∷ 73 ∷ 4 ∷ 20 ∷ 0 ∷ 16 ∷ 0 ∷ 0 ∷ 160 ∷ 2 ∷ 0 ∷ 0 ∷ []) ++
    to_le_bytes w64 number ++
    (0 ∷ 0 ∷ 0 ∷ 0 ∷ 196 ∷ 255 ∷ 60 ∷ 0 ∷ 44 ∷ 0 ∷ 4 ∷ 0 ∷ 0 ∷ 0 ∷ 248 ∷ 255 ∷ 240 ∷ 255 ∷ 232 ∷ 255 ∷ [])

-- the bytes of the base matrix, with the generator's state at its beginning
unfoldable pub matrix_bytes : ℕ → List ℕ
matrix_bytes start = flat_map bytes_of_signed (generated_entries start)

-- how many words it takes
unfoldable pub words_of_matrix : ℕ
words_of_matrix = drawn_before_row 8

-- the bytes behind the base matrix: no weak block, no factory bad superblock, no contents
abbrev pub head_end : List ℕ
head_end = 0 ∷ 0 ∷ 0 ∷ 0 ∷ 0 ∷ []
