-- Which cycles spell an operation? The operations and their first and last commands are ONFI's; the order of the
-- cycles, the five address cycles and the refusal of feature addresses below 80h are this project's profile.
use Rattle.std.specs.Prelude.{◌≡◌, ℕ, ◌-◌, ◌/◌, ◌%◌, ◌^◌, ◌<◌, ◌≤◌, ⊤, List, [], ◌∷◌, ◌++◌, map, length, take, drop, slice_index_or}
use Rattle.std.specs.List.{AllByRecursion}
use Rattle.onfi_cmd.specs.declared.cycle.Cycle.{Cycle}
use Rattle.onfi_cmd.specs.declared.cycle.Cycle.TheVariants.{Command, Address, Byte}
use Rattle.onfi_cmd.specs.declared.op.Op.{Op}
use Rattle.onfi_cmd.specs.declared.op.Op.TheVariants.{Read, Program, Erase, Status, Reset, SetFeatures, GetFeatures}

-- the address cycles of a column and of a row, low byte first
abbrev pub column_cycles : ℕ → List Cycle
column_cycles column = Address (column % 256) ∷ Address (column / 256) ∷ []

abbrev pub row_cycles : ℕ → List Cycle
row_cycles row = Address (row % 256) ∷ Address (row / 256 % 256) ∷ Address (row / 65536) ∷ []

-- the cycles of an operation; the data bytes are a program's, and no other operation has any
abbrev pub cycles_of : Op → List ℕ → List Cycle
cycles_of (Read column row) bytes = Command 0x00 ∷ column_cycles column ++ row_cycles row ++ Command 0x30 ∷ []
cycles_of (Program column row) bytes =
    Command 0x80 ∷ column_cycles column ++ row_cycles row ++ map Byte bytes ++ Command 0x10 ∷ []
cycles_of (Erase row) bytes = Command 0x60 ∷ row_cycles row ++ Command 0xD0 ∷ []
cycles_of Status bytes = Command 0x70 ∷ []
cycles_of Reset bytes = Command 0xFF ∷ []
cycles_of (SetFeatures address params) bytes = Command 0xEF ∷ Address address ∷ map Byte params
cycles_of (GetFeatures address) bytes = Command 0xEE ∷ Address address ∷ []

-- the operation's row, if it has one, fits its three address cycles
abbrev pub HasRowInRange : Op → Type 0
HasRowInRange (Read column row) = row < 2 ^ 24
HasRowInRange (Program column row) = row < 2 ^ 24
HasRowInRange (Erase row) = row < 2 ^ 24
HasRowInRange Status = ⊤
HasRowInRange Reset = ⊤
HasRowInRange (SetFeatures address params) = ⊤
HasRowInRange (GetFeatures address) = ⊤

-- the operation's feature address, if it has one, isn't below 80h, and its parameters, if it has any, are four
abbrev pub HasItsFeature : Op → Type 0
HasItsFeature (Read column row) = ⊤
HasItsFeature (Program column row) = ⊤
HasItsFeature (Erase row) = ⊤
HasItsFeature Status = ⊤
HasItsFeature Reset = ⊤
HasItsFeature (SetFeatures address params) = (0x80 ≤ address) × (length params ≡ 4)
HasItsFeature (GetFeatures address) = 0x80 ≤ address

-- a program has data bytes, and no other operation has any
abbrev pub HasItsBytes : Op → List ℕ → Type 0
HasItsBytes (Read column row) bytes = bytes ≡ []
HasItsBytes (Program column row) bytes = 1 ≤ length bytes
HasItsBytes (Erase row) bytes = bytes ≡ []
HasItsBytes Status bytes = bytes ≡ []
HasItsBytes Reset bytes = bytes ≡ []
HasItsBytes (SetFeatures address params) bytes = bytes ≡ []
HasItsBytes (GetFeatures address) bytes = bytes ≡ []

-- bytes stand beside a program alone
abbrev pub HasNoOtherBytes : Op → List ℕ → Type 0
HasNoOtherBytes (Read column row) bytes = bytes ≡ []
HasNoOtherBytes (Program column row) bytes = ⊤
HasNoOtherBytes (Erase row) bytes = bytes ≡ []
HasNoOtherBytes Status bytes = bytes ≡ []
HasNoOtherBytes Reset bytes = bytes ≡ []
HasNoOtherBytes (SetFeatures address params) bytes = bytes ≡ []
HasNoOtherBytes (GetFeatures address) bytes = bytes ≡ []

-- cycles that the profile allows: they are those of an operation within its conditions
pub record Spells (cycles : List Cycle) (op : Op) (bytes : List ℕ) : Type 0 where
  pub cycles_are : cycles ≡ cycles_of op bytes
  pub row : HasRowInRange op
  pub feature : HasItsFeature op
  pub data_bytes : HasItsBytes op bytes

-- the number in a cycle
abbrev pub value_of : Cycle → ℕ
value_of (Command byte) = byte
value_of (Address byte) = byte
value_of (Byte byte) = byte

-- the number in each cycle is a byte
abbrev pub IsOfBytes : List Cycle → Type 0
IsOfBytes cycles = AllByRecursion (λ cycle. value_of cycle < 256) cycles

-- the number in cycle k
abbrev pub value_at : List Cycle → ℕ → ℕ
value_at cycles k = value_of (slice_index_or cycles k (Byte 0))

-- the data bytes of an operation's cycles: a program's stand between its address and its last command
abbrev pub bytes_of_op : Op → List Cycle → List ℕ
bytes_of_op (Read column row) cycles = []
bytes_of_op (Program column row) cycles = map value_of (take (length cycles - 7) (drop 6 cycles))
bytes_of_op (Erase row) cycles = []
bytes_of_op Status cycles = []
bytes_of_op Reset cycles = []
bytes_of_op (SetFeatures address params) cycles = []
bytes_of_op (GetFeatures address) cycles = []
