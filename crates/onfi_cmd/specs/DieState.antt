-- What does a die hold, and what does each call do to it? A block is erased as a whole, and its pages are programmed
-- in rising order (Micheloni, Inside NAND Flash Memories), so its programmed pages are its first ones. That a program
-- or an erase that answers FAIL changes nothing, and that a page is programmed once between erases, are this
-- project's own.
use Rattle.std.specs.Prelude.{ℕ, ◌+◌, Bool, if◌then◌else◌, Option, List, [], ◌∷◌, ◌++◌, map, length, replicate, slice_index_or, slice_set, ℤ, pos}
use Rattle.ssd_geo.specs.BlockCells.{BlockCells, blank_cells, cells_at}
use Rattle.ssd_geo.specs.Cells.{aged_level, fresh_levels, sensed}
use Rattle.ssd_geo.specs.Limits.{page_cells_of}
use Rattle.ssd_geo.specs.Noise.{number_of_page}
use Rattle.ssd_geo.specs.Shape.{sizes_of}
use Rattle.ssd_geo.specs.WeakBlocks.{is_weak_in}
use Rattle.onfi_cmd.specs.Addresses.{block_of_row, page_of_row, params_of_level, level_of_params}
use Rattle.onfi_cmd.specs.declared.op.Op.{Op}
use Rattle.onfi_cmd.specs.declared.op.Op.TheVariants.{Read, Program, Erase, Status, Reset, SetFeatures, GetFeatures}
use Rattle.onfi_cmd.specs.declared.plan.DiePlan.{DiePlan}

-- what contracts see of a die: the plan of its last mount, its blocks where they are told, the read level, the status
-- byte of its last operation other than Read Status, and the two counts of its faults
pub record DieState : Type 0 where
  pub plan : Option DiePlan
  pub told : Option (List BlockCells)
  pub read_level : ℤ
  pub last_status : ℕ
  pub work_count : ℕ
  pub load_count : ℕ

-- the blocks of a blank die
abbrev pub blank_blocks : DiePlan → List BlockCells
blank_blocks plan = replicate plan.shape.superblocks blank_cells

-- how many pages of a block are programmed
abbrev pub programmed_in : List BlockCells → ℕ → ℕ
programmed_in blocks sb = length (cells_at blocks sb).pages

-- how many cells a page has
abbrev pub cells_of_page : DiePlan → ℕ
cells_of_page plan = page_cells_of (sizes_of plan.shape)

-- the levels of a page that isn't programmed
abbrev pub erased_levels : DiePlan → List ℤ
erased_levels plan = replicate (cells_of_page plan) plan.law.erased

-- the levels of a page
abbrev pub levels_of_page : DiePlan → List BlockCells → ℕ → ℕ → List ℤ
levels_of_page plan blocks sb page = slice_index_or (cells_at blocks sb).pages page (erased_levels plan)

-- the blocks with the erases of one set
abbrev pub with_erases : List BlockCells → ℕ → ℕ → List BlockCells
with_erases blocks sb erases = slice_set blocks sb (record { pages = (cells_at blocks sb).pages; erases = erases })

-- the blocks with one more programmed page in one, which has these levels
abbrev pub with_page : List BlockCells → ℕ → List ℤ → List BlockCells
with_page blocks sb levels =
    slice_set blocks sb (record { pages = (cells_at blocks sb).pages ++ levels ∷ []; erases = (cells_at blocks sb).erases })

-- the blocks with one erased once more
abbrev pub with_erased : List BlockCells → ℕ → List BlockCells
with_erased blocks sb = slice_set blocks sb (record { pages = []; erases = (cells_at blocks sb).erases + 1 })

-- the blocks with one aged by an amount
abbrev pub with_aged : ℤ → List BlockCells → ℕ → ℕ → List BlockCells
with_aged erased blocks sb amount =
    slice_set blocks sb
    (record { pages = map (map (aged_level erased amount)) (cells_at blocks sb).pages; erases = (cells_at blocks sb).erases })

-- whether a block answers FAIL to programs and erases at an erase count
abbrev pub is_weak : DiePlan → ℕ → ℕ → Bool
is_weak plan sb erases = is_weak_in plan.weak plan.channel plan.die sb erases

-- the number of a page of this die in the drive
abbrev pub number_in_drive : DiePlan → ℕ → ℕ → ℕ
number_in_drive plan sb page =
    number_of_page plan.shape.dies plan.shape.superblocks plan.shape.pages plan.channel plan.die sb page

-- the levels that a program of a page of this die leaves
abbrev pub programmed_levels : DiePlan → List BlockCells → ℕ → ℕ → List ℕ → List ℤ
programmed_levels plan blocks sb page word =
    fresh_levels plan.law (number_in_drive plan sb page) (cells_at blocks sb).erases word

-- the status byte, without and with FAIL
abbrev pub status_passed : ℕ
status_passed = 0xE0

abbrev pub status_failed : ℕ
status_failed = 0xE1

-- what one operation leaves and answers; its status is also the one that the die keeps
pub record Outcome : Type 0 where
  pub blocks : List BlockCells
  pub read_level : ℤ
  pub status : ℕ
  pub answer : List ℕ

-- nothing changes, and this is the answer
abbrev pub answers : List BlockCells → ℤ → List ℕ → Outcome
answers blocks level answer =
    record { blocks = blocks; read_level = level; status = status_passed; answer = answer }

-- the blocks change, unless this one is weak
abbrev pub changes_unless_weak : DiePlan → List BlockCells → ℤ → ℕ → List BlockCells → Outcome
changes_unless_weak plan blocks level sb after =
    if is_weak plan sb (cells_at blocks sb).erases then
    record { blocks = blocks; read_level = level; status = status_failed; answer = [] } else
    record { blocks = after; read_level = level; status = status_passed; answer = [] }

-- what an operation with these data bytes does to a die with these blocks, read level and kept status, and what it
-- answers
abbrev pub outcome_of : DiePlan → List BlockCells → ℤ → ℕ → Op → List ℕ → Outcome
outcome_of plan blocks level status (Read column row) bytes =
    let sb = block_of_row plan.shape.pages row in
    let page = page_of_row plan.shape.pages row in
    answers blocks level (sensed level (levels_of_page plan blocks sb page))
outcome_of plan blocks level status (Program column row) bytes =
    let sb = block_of_row plan.shape.pages row in
    let page = page_of_row plan.shape.pages row in
    changes_unless_weak plan blocks level sb (with_page blocks sb (programmed_levels plan blocks sb page bytes))
outcome_of plan blocks level status (Erase row) bytes =
    let sb = block_of_row plan.shape.pages row in
    changes_unless_weak plan blocks level sb (with_erased blocks sb)
outcome_of plan blocks level status Status bytes =
    record { blocks = blocks; read_level = level; status = status; answer = status ∷ [] }
outcome_of plan blocks level status Reset bytes = answers blocks (pos 0) []
outcome_of plan blocks level status (SetFeatures address params) bytes = answers blocks (level_of_params params) []
outcome_of plan blocks level status (GetFeatures address) bytes = answers blocks level (params_of_level level)
