-- What becomes of the dies where a superblock is erased? Its blocks are erased in the order of the dies; an erase that stops
-- at a die has erased the blocks of the dies below it, and leaves the dies above it alone.
use Rattle.std.specs.Prelude.{ℕ, ◌≡◌, ◌+◌, ◌-◌, ◌^◌, ◌<◌, ◌≤◌, List, length}
use Rattle.ssd_geo.specs.BlockCells.{cells_at}
use Rattle.onfi_cmd.specs.DieState.{DieState}
use Rattle.chan_dies.specs.DiesState.{DiesState, blocks_told, die_at}
use Rattle.chan_dies.specs.OneDie.{ErasesBlock, FaultsDie, RefusesBlock}
use Rattle.chan_dies.specs.declared.ends.EraseEnd.{EraseEnd}

-- the blocks of a superblock in so many dies can be erased once more
abbrev pub CanCountErases : ℕ → ℕ → List DieState → Type 0
CanCountErases count sb dies = (die : ℕ) → die < count → (cells_at (blocks_told dies die) sb).erases < 2 ^ 32 - 1

-- the blocks of the dies below a number were erased
abbrev pub ErasesBelow : ℕ → ℕ → List DieState → List DieState → Type 0
ErasesBelow bound sb old new = (die : ℕ) → die < bound → ErasesBlock sb (die_at old die) (die_at new die)

-- the dies from a number on are as they were
abbrev pub StaysFrom : ℕ → List DieState → List DieState → Type 0
StaysFrom bound old new = (die : ℕ) → bound ≤ die → die_at new die ≡ die_at old die

-- the blocks of the first dies were erased, and the other dies stay
pub record ErasesFirst (count sb : ℕ) (old new : List DieState) : Type 0 where
  pub count_stays : length new ≡ length old
  pub below : ErasesBelow count sb old new
  pub rest : StaysFrom count old new

-- the erase stopped at a die, to which this happened
pub record StopsErase (count sb die : ℕ) (P : DieState → DieState → Type 0) (old new : List DieState) : Type 0 where
  pub count_stays : length new ≡ length old
  pub in_range : die < count
  pub below : ErasesBelow die sb old new
  pub stopped : P (die_at old die) (die_at new die)
  pub above : StaysFrom (die + 1) old new

-- what became of the dies, of which there are so many, as the erase ended
abbrev pub EndsErase : ℕ → ℕ → List DieState → List DieState → EraseEnd → Type 0
EndsErase count sb old new EraseEnd.Erased = ErasesFirst count sb old new
EndsErase count sb old new (EraseEnd.Failed die) = StopsErase count sb die (RefusesBlock sb) old new
EndsErase count sb old new (EraseEnd.Fault die) = StopsErase count sb die FaultsDie old new

-- an erase of a superblock, as it ended
pub record ErasesBlocks (old new : DiesState) (sb : ℕ) (end : EraseEnd) : Type 0 where
  pub shape_stays : new.shape ≡ old.shape
  pub sum_stays : new.sum ≡ old.sum
  pub dies : EndsErase old.shape.dies sb old.dies new.dies end
