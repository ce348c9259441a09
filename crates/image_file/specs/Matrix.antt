-- What does an image's base matrix give that is read whole and then tested, and where does it stop? The test is that of
-- a base matrix; its faults are named by their places in the image.
use Rattle.std.specs.Prelude.{ℕ, ℤ, ◌+◌, ◌-◌, ◌*◌, List, Ok}
use Rattle.qc_matrix.specs.declared.fault.CodeFault.{CodeFault}
use Rattle.qc_matrix.specs.declared.fault.CodeFault.TheVariants.{EntryRange, ParityColumn, Diagonal as WrongDiagonal, Memory as NoMemory}
use Rattle.ssd_geo.specs.BaseMatrix.{BaseMatrix}
use Rattle.ssd_formats.specs.Fields.{Rest, Reading, ◌>>=◌, bytes_field}
use Rattle.ssd_formats.specs.ImageHead.{signed_numbers}
use Rattle.ssd_geo.specs.declared.shape.Shape.{Shape}
use Rattle.image_file.specs.declared.stop.ImageFault.{ImageFault}
use Rattle.image_file.specs.declared.stop.ImageFault.TheVariants.{Entry, Parity, Diagonal}
use Rattle.image_file.specs.declared.stop.ReadStop.{ReadStop}
use Rattle.image_file.specs.declared.stop.ReadStop.TheVariants.{Fault as FaultAt, Memory}

-- the base matrix with these entries in a drive of a shape
abbrev pub matrix_of_shape : Shape → List ℤ → BaseMatrix
matrix_of_shape shape entries = record { z = shape.z; mb = shape.mb; nb = shape.nb; entries = entries }

-- the entries that so many bytes spell, without a test
abbrev pub entries_field : ℕ → Rest → Reading (List ℤ)
entries_field n rest = bytes_field n rest >>= (λ bytes. Ok (signed_numbers bytes.0, bytes.1))

-- the stop that a fault of a base matrix makes, which begins at a place and has so many rows and columns
abbrev pub matrix_stop : ℕ → ℕ → ℕ → CodeFault → ReadStop ImageFault
matrix_stop place mb nb (EntryRange row col) = FaultAt (place + 2 * (row * nb + col)) Entry
matrix_stop place mb nb (ParityColumn row) = FaultAt (place + 2 * (row * nb + (nb - mb))) Parity
matrix_stop place mb nb (WrongDiagonal row col) = FaultAt (place + 2 * (row * nb + col)) Diagonal
matrix_stop place mb nb NoMemory = Memory
