-- What does a list of cycles say: an operation, or which fault first? The cycles are gone through in order. What may
-- stand at each place after the first command is a table, one line for each operation.
use Rattle.std.specs.Prelude.{ℕ, ◌+◌, ◌*◌, ◌==◌, nat_le, Bool, true, false, if◌then◌else◌, Option, Some, None, Result, Ok, Err, List, [], ◌∷◌}
use Rattle.onfi_cmd.specs.declared.cycle.Cycle.{Cycle}
use Rattle.onfi_cmd.specs.declared.cycle.Cycle.TheVariants.{Command, Address, Byte}
use Rattle.onfi_cmd.specs.declared.op.Op.{Op}
use Rattle.onfi_cmd.specs.declared.op.Op.TheVariants.{Read, Program, Erase, Status, Reset, SetFeatures, GetFeatures}
use Rattle.onfi_cmd.specs.declared.cycle_fault.CycleFault.{CycleFault}
use Rattle.onfi_cmd.specs.declared.cycle_fault.CycleFault.TheVariants.{Short, Unknown, Wrong, Extra}
use Rattle.onfi_cmd.specs.declared.reading.Expected.{Expected}
use Rattle.onfi_cmd.specs.declared.reading.Expected.TheVariants.{AnyAddress, Feature, AnyByte, Closing}
use Rattle.onfi_cmd.specs.Cycles.{value_at}

-- whether a cycle is of the expected kind
abbrev pub is_as_expected : Expected → Cycle → Bool
is_as_expected AnyAddress (Address byte) = true
is_as_expected Feature (Address byte) = nat_le 0x80 byte
is_as_expected AnyByte (Byte byte) = true
is_as_expected (Closing command) (Command byte) = byte == command
is_as_expected expected cycle = false

-- the fault of cycles after a whole operation
abbrev pub end_fault : ℕ → List Cycle → Option CycleFault
end_fault place [] = None
end_fault place (cycle ∷ cycles) = Some (Extra place)

-- the first fault of a program's further data: bytes, then 10h and the end
abbrev pub data_fault : ℕ → List Cycle → Option CycleFault
data_fault place [] = Some (Short place)
data_fault place (Byte byte ∷ cycles) = data_fault (place + 1) cycles
data_fault place (Command byte ∷ cycles) =
    if byte == 0x10 then end_fault (place + 1) cycles else Some (Wrong place)
data_fault place (Address byte ∷ cycles) = Some (Wrong place)

-- the first fault of the cycles from a place on, where these are expected and then what the rest says
abbrev pub first_fault : (ℕ → List Cycle → Option CycleFault) → List Expected → ℕ → List Cycle → Option CycleFault
first_fault rest [] place cycles = rest place cycles
first_fault rest (expected ∷ others) place [] = Some (Short place)
first_fault rest (expected ∷ others) place (cycle ∷ cycles) =
    if is_as_expected expected cycle then first_fault rest others (place + 1) cycles else Some (Wrong place)

-- an operation, unless there is a fault
abbrev pub unless_fault : Option CycleFault → Op → Result Op CycleFault
unless_fault None op = Ok op
unless_fault (Some fault) op = Err fault

-- the column and the row in address cycles from place k on
abbrev pub column_at : List Cycle → ℕ → ℕ
column_at cycles k = value_at cycles k + 256 * value_at cycles (k + 1)

abbrev pub row_at : List Cycle → ℕ → ℕ
row_at cycles k = value_at cycles k + 256 * value_at cycles (k + 1) + 65536 * value_at cycles (k + 2)

-- the four parameters in cycles from place k on
abbrev pub params_at : List Cycle → ℕ → List ℕ
params_at cycles k =
    value_at cycles k ∷ value_at cycles (k + 1) ∷ value_at cycles (k + 2) ∷ value_at cycles (k + 3) ∷ []

-- what is expected after each first command
abbrev pub after_read : List Expected
after_read = AnyAddress ∷ AnyAddress ∷ AnyAddress ∷ AnyAddress ∷ AnyAddress ∷ Closing 0x30 ∷ []

abbrev pub after_program : List Expected
after_program = AnyAddress ∷ AnyAddress ∷ AnyAddress ∷ AnyAddress ∷ AnyAddress ∷ AnyByte ∷ []

abbrev pub after_erase : List Expected
after_erase = AnyAddress ∷ AnyAddress ∷ AnyAddress ∷ Closing 0xD0 ∷ []

abbrev pub after_set_features : List Expected
after_set_features = Feature ∷ AnyByte ∷ AnyByte ∷ AnyByte ∷ AnyByte ∷ []

abbrev pub after_get_features : List Expected
after_get_features = Feature ∷ []

-- what cycles with this first command say
abbrev pub operation_with : ℕ → List Cycle → List Cycle → Result Op CycleFault
operation_with command cycles others =
    if command == 0x00 then
    unless_fault (first_fault end_fault after_read 1 others) (Read (column_at cycles 1) (row_at cycles 3)) else
    if command == 0x80 then
    unless_fault (first_fault data_fault after_program 1 others) (Program (column_at cycles 1) (row_at cycles 3)) else
    if command == 0x60 then
    unless_fault (first_fault end_fault after_erase 1 others) (Erase (row_at cycles 1)) else
    if command == 0x70 then unless_fault (end_fault 1 others) Status else
    if command == 0xFF then unless_fault (end_fault 1 others) Reset else
    if command == 0xEF then
    unless_fault (first_fault end_fault after_set_features 1 others)
    (SetFeatures (value_at cycles 1) (params_at cycles 2)) else
    if command == 0xEE then
    unless_fault (first_fault end_fault after_get_features 1 others) (GetFeatures (value_at cycles 1)) else
    Err (Unknown command)

-- what cycles say
abbrev pub operation_of : List Cycle → Result Op CycleFault
operation_of [] = Err (Short 0)
operation_of (Command byte ∷ cycles) = operation_with byte (Command byte ∷ cycles) cycles
operation_of (Address byte ∷ cycles) = Err (Wrong 0)
operation_of (Byte byte ∷ cycles) = Err (Wrong 0)
