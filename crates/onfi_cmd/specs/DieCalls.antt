-- When may a call of a die be made, and what may it leave? A die tells its blocks or it doesn't. One that tells obeys
-- the rules on cells and weak blocks; of one that doesn't, only its faults, its counts and its plan are known.
use Rattle.std.specs.Prelude.{◌≡◌, ℕ, ◌-◌, ◌*◌, ◌^◌, ◌<◌, Option, Some, IfSome, OnSome, IsSomeAnd, is_some, Result, IfOk, IsOkAnd, OnOk, OnErr, IsErrOf, List, length, ℤ, pos}
use Rattle.std.specs.Int.{w16}
use Rattle.std.specs.Int.RustNames.{FitsSigned}
use Rattle.ssd_geo.specs.BlockCells.{BlockCells, cells_at}
use Rattle.ssd_geo.specs.Cells.{IsCellLaw}
use Rattle.ssd_geo.specs.Faults.{NeverFell, Rose, HasCause}
use Rattle.onfi_cmd.specs.Addresses.{block_of_row, page_of_row, params_of_level, read_level_address}
use Rattle.onfi_cmd.specs.Cycles.{bytes_of_op}
use Rattle.onfi_cmd.specs.DieState.{DieState, blank_blocks, programmed_in, cells_of_page, status_passed, Outcome, outcome_of}
use Rattle.onfi_cmd.specs.Reading.{operation_of}
use Rattle.onfi_cmd.specs.declared.cycle.Cycle.{Cycle}
use Rattle.onfi_cmd.specs.declared.op.Op.{Op}
use Rattle.onfi_cmd.specs.declared.op.Op.TheVariants.{Read, Program, Erase, Status, Reset, SetFeatures, GetFeatures}
use Rattle.onfi_cmd.specs.declared.plan.DiePlan.{DiePlan}
use Rattle.onfi_cmd.specs.declared.stop.DieStop.{DieStop}
use Rattle.onfi_cmd.specs.declared.stop.DieStop.TheVariants.{Failed, Memory}

-- a plan names a die of its shape, and its law is in range
pub record IsPlan (plan : DiePlan) : Type 0 where
  pub channel : plan.channel < plan.shape.channels
  pub die : plan.die < plan.shape.dies
  pub law : IsCellLaw plan.law

-- the die is mounted, and this holds of its plan
abbrev pub IsMountedAnd : DieState → (DiePlan → Type 0) → Type 0
IsMountedAnd state P = IsSomeAnd state.plan P

-- where a mounted die tells its blocks, this holds of its plan and of them
abbrev pub WhereTold : DieState → (DiePlan → List BlockCells → Type 0) → Type 0
WhereTold state P = IfSome state.plan (λ plan. IfSome state.told (P plan))

-- a block is one of the die's
abbrev pub IsBlock : DieState → ℕ → Type 0
IsBlock state sb = IsMountedAnd state (λ plan. sb < plan.shape.superblocks)

-- a page is one of the die's
pub record IsInShape (plan : DiePlan) (sb page : ℕ) : Type 0 where
  pub block : sb < plan.shape.superblocks
  pub page_within : page < plan.shape.pages

abbrev pub IsPage : DieState → ℕ → ℕ → Type 0
IsPage state sb page = IsMountedAnd state (λ plan. IsInShape plan sb page)

-- a row address is that of a page of the die
abbrev pub IsRow : DiePlan → ℕ → Type 0
IsRow plan row = IsInShape plan (block_of_row plan.shape.pages row) (page_of_row plan.shape.pages row)

-- so many numbers are one for each cell of a page
abbrev pub IsWholePage : DieState → ℕ → Type 0
IsWholePage state cells = IsMountedAnd state (λ plan. cells ≡ cells_of_page plan)

-- where told, the page is the first of its block that isn't programmed
abbrev pub IsNextPage : Option (List BlockCells) → ℕ → ℕ → Type 0
IsNextPage told sb page = IfSome told (λ blocks. page ≡ programmed_in blocks sb)

-- where told, the block can be erased once more
abbrev pub CanCountErase : Option (List BlockCells) → ℕ → Type 0
CanCountErase told sb = IfSome told (λ blocks. (cells_at blocks sb).erases < 2 ^ 32 - 1)

-- parameters are those of a read level
abbrev pub SetsLevel : List ℕ → Type 0
SetsLevel params = (level : ℤ) × FitsSigned w16 level × (params ≡ params_of_level level)

-- a die with this plan can do an operation with these data bytes, and has room for its answer
abbrev pub CanDo : DiePlan → Option (List BlockCells) → Op → List ℕ → ℕ → Type 0
CanDo plan told (Read column row) bytes room = (column ≡ 0) × IsRow plan row × (8 * room ≡ cells_of_page plan)
CanDo plan told (Program column row) bytes room =
    (column ≡ 0) × IsRow plan row × (8 * length bytes ≡ cells_of_page plan) × (room ≡ 0)
    × IsNextPage told (block_of_row plan.shape.pages row) (page_of_row plan.shape.pages row)
CanDo plan told (Erase row) bytes room =
    IsRow plan row × (room ≡ 0) × CanCountErase told (block_of_row plan.shape.pages row)
CanDo plan told Status bytes room = room ≡ 1
CanDo plan told Reset bytes room = room ≡ 0
CanDo plan told (SetFeatures address params) bytes room =
    (address ≡ read_level_address) × SetsLevel params × (room ≡ 0)
CanDo plan told (GetFeatures address) bytes room = (address ≡ read_level_address) × (room ≡ 4)

-- these cycles may be run, with so much room for the answer
abbrev pub CanRun : DieState → List Cycle → ℕ → Type 0
CanRun state cycles room =
    IsMountedAnd state (λ plan.
    IsOkAnd (operation_of cycles) (λ op. CanDo plan state.told op (bytes_of_op op cycles) room))

-- levels, programmed pages, erase counts, read level and kept status stay
pub record KeepsCells (old new : DieState) : Type 0 where
  pub told_stay : new.told ≡ old.told
  pub read_level_stays : new.read_level ≡ old.read_level
  pub status_stays : new.last_status ≡ old.last_status

-- a call that counts its faults as work: that count rises where it fails, and only there, and all else of a die that
-- failed stays
pub record IsWorkCall {T E : Type 0} (old new : DieState) (result : Result T E) : Type 0 where
  pub plan_stays : new.plan ≡ old.plan
  pub still_tells : is_some new.told ≡ is_some old.told
  pub loads_stay : new.load_count ≡ old.load_count
  pub cause : HasCause old.work_count new.work_count result
  pub passed : OnOk result (new.work_count ≡ old.work_count)
  pub err : OnErr result (KeepsCells old new)

-- the same of a call that counts its faults as loads
pub record IsLoadCall {T E : Type 0} (old new : DieState) (result : Result T E) : Type 0 where
  pub plan_stays : new.plan ≡ old.plan
  pub still_tells : is_some new.told ≡ is_some old.told
  pub works_stay : new.work_count ≡ old.work_count
  pub cause : HasCause old.load_count new.load_count result
  pub passed : OnOk result (new.load_count ≡ old.load_count)
  pub err : OnErr result (KeepsCells old new)

-- a die is blank, as after a mount with this plan
pub record IsBlank (plan : DiePlan) (state : DieState) : Type 0 where
  pub told_are : state.told ≡ Some (blank_blocks plan)
  pub read_level_is : state.read_level ≡ pos 0
  pub status_is : state.last_status ≡ status_passed

-- the same of a mount, which may also want memory, and which gives the die its plan
pub record IsMountCall {T : Type 0} (old new : DieState) (plan : DiePlan) (result : Result T DieStop) : Type 0 where
  pub still_tells : is_some new.told ≡ is_some old.told
  pub works_stay : new.work_count ≡ old.work_count
  pub never_fell : NeverFell old.load_count new.load_count
  pub failed : IsErrOf result Failed → Rose old.load_count new.load_count
  pub wanting : IsErrOf result Memory → new.load_count ≡ old.load_count
  pub passed : OnOk result (new.load_count ≡ old.load_count)
  pub err : OnErr result ((new.plan ≡ old.plan) × KeepsCells old new)
  pub ok : OnOk result (new.plan ≡ Some plan)
  pub blank : OnOk result (OnSome old.told (IsBlank plan new))

-- a die has these blocks now, and its read level and kept status as before
pub record HasNow (old new : DieState) (blocks : List BlockCells) : Type 0 where
  pub told_are : new.told ≡ Some blocks
  pub read_level_stays : new.read_level ≡ old.read_level
  pub status_stays : new.last_status ≡ old.last_status

-- an operation ended as its outcome says, and its status is kept
pub record HasOutcome (outcome : Outcome) (new : DieState) (status : ℕ) (out : List ℕ) : Type 0 where
  pub told_are : new.told ≡ Some outcome.blocks
  pub read_level_is : new.read_level ≡ outcome.read_level
  pub kept_status_is : new.last_status ≡ outcome.status
  pub status_is : status ≡ outcome.status
  pub answer_is : out ≡ outcome.answer

-- a die that tells ran these cycles
abbrev pub Runs : DieState → DieState → List Cycle → ℕ → List ℕ → Type 0
Runs old new cycles status out =
    WhereTold old (λ plan blocks. IfOk (operation_of cycles) (λ op.
    HasOutcome (outcome_of plan blocks old.read_level old.last_status op (bytes_of_op op cycles)) new status out))
