-- What do contracts see of a die that fails at listed calls, and what becomes of it in each?
use Rattle.std.specs.Prelude.{◌≡◌}
use Rattle.ssd_geo.specs.Faults.{count_after}
use Rattle.onfi_cmd.specs.DieState.{DieState}
use Rattle.die_model.specs.ListedCalls.{Calls, is_next_listed, calls_after}

-- the die in it, the calls of `run`, and those of `mount`, `load_block`, `load_page` and `levels` together
pub record Listed (D : Type 0) : Type 0 where
  pub inner : D
  pub runs : Calls
  pub loads : Calls

-- what contracts see of the die: what they see of the one in it, with the counts higher by what failed by the lists
abbrev pub listed_state : {D : Type 0} → (D → DieState) → Listed D → DieState
listed_state state die = let inner : DieState = state die.inner in record inner {
  work_count = count_after inner.work_count die.runs.faults;
  load_count = count_after inner.load_count die.loads.faults;
}

-- a call of `run` was counted, as one that fails where its number is listed, and beside the count only the die in it
-- may be another
abbrev pub CountsRun : {D : Type 0} → Listed D → Listed D → Type 0
CountsRun old new =
    new ≡ record old { inner = new.inner; runs = calls_after old.runs (is_next_listed old.runs) }

-- the same of the calls that are counted together
abbrev pub CountsLoad : {D : Type 0} → Listed D → Listed D → Type 0
CountsLoad old new =
    new ≡ record old { inner = new.inner; loads = calls_after old.loads (is_next_listed old.loads) }
