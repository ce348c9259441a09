-- Which fault of a base matrix does an answer name? Want of memory names none: it may stand with any matrix.
use Rattle.std.specs.Prelude.{◌≡◌, Option, Some}
use Rattle.qc_matrix.specs.declared.fault.CodeFault.{CodeFault}
use Rattle.qc_matrix.specs.declared.fault.CodeFault.TheVariants.{EntryRange, ParityColumn, Diagonal, Memory}
use Rattle.ssd_geo.specs.BaseMatrix.{MatrixFault, entry_range, parity_column, diagonal}

-- the answer is the first fault of a matrix, or want of memory
abbrev pub IsFirstFault : Option MatrixFault → CodeFault → Type 0
IsFirstFault first (EntryRange row col) = first ≡ Some (entry_range row col)
IsFirstFault first (ParityColumn row) = first ≡ Some (parity_column row)
IsFirstFault first (Diagonal row col) = first ≡ Some (diagonal row col)
IsFirstFault first Memory = Unit {0}
