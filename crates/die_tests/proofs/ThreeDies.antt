-- Three dies that were just mounted are all of a channel's, and tried.
use Rattle.std.proofs.Common.{◌≡◌, ℕ, zero, suc, ◌<◌, List, [], ◌∷◌, sym, subst, ap, arith, replicate}
use Rattle.std.specs.Prelude.{Option, Some}
use Rattle.std.specs.Option.{unwrap_or}
use Rattle.ssd_geo.specs.BlockCells.{BlockCells, blank_cells, cells_at}
use Rattle.ssd_geo.specs.declared.shape.Shape.{Shape}
use Rattle.onfi_cmd.specs.DieState.{DieState, programmed_in}
use Rattle.chan_dies.specs.DiesState.{AreMounted, die_at}
use Rattle.die_tests.specs.SmallDies.{IsSmall, IsStartDie, IsTriedStart, erases_in, pages_in}

each_start : (shape : Shape) (zeroth one two : DieState) → IsStartDie shape 0 zeroth → IsStartDie shape 1 one → IsStartDie shape 2 two →
    (die : ℕ) → die < 3 → IsStartDie shape die (die_at (zeroth ∷ one ∷ two ∷ []) die)
each_start shape zeroth one two h0 h1 h2 zero within = h0
each_start shape zeroth one two h0 h1 h2 (suc zero) within = h1
each_start shape zeroth one two h0 h1 h2 (suc (suc zero)) within = h2
each_start shape zeroth one two h0 h1 h2 (suc (suc (suc die))) within = absurd (omega arith)

pub three_mounted : (shape : Shape) (zeroth one two : DieState) → IsSmall shape → IsStartDie shape 0 zeroth → IsStartDie shape 1 one →
    IsStartDie shape 2 two → AreMounted shape (zeroth ∷ one ∷ two ∷ [])
three_mounted shape zeroth one two small h0 h1 h2 = record {
  count_is = sym small.dies;
  each = λ die within.
      (each_start shape zeroth one two h0 h1 h2 die (subst (λ (dies : ℕ). die < dies) small.dies within)).mounted;
}

erases_blank : (state : DieState) → state.told ≡ Some (replicate 4 blank_cells) → erases_in state ≡ 0
erases_blank state told = ap (λ (t : Option (List BlockCells)). (cells_at (unwrap_or t []) 0).erases) told

pages_blank : (state : DieState) → state.told ≡ Some (replicate 4 blank_cells) → pages_in state ≡ 0
pages_blank state told = ap (λ (t : Option (List BlockCells)). programmed_in (unwrap_or t []) 0) told

pub three_tried : (shape : Shape) (sum : List ℕ) (zeroth one two : DieState) → IsSmall shape → IsStartDie shape 0 zeroth →
    IsStartDie shape 1 one → IsStartDie shape 2 two →
    IsTriedStart (record { shape = shape; dies = zeroth ∷ one ∷ two ∷ []; sum = sum })
three_tried shape sum zeroth one two small h0 h1 h2 = record {
  tried = record {
    small = small;
    unworn = λ die within. erases_blank (die_at (zeroth ∷ one ∷ two ∷ []) die) (each_start shape zeroth one two h0 h1 h2 die within).told;
  };
  unprogrammed = λ die within. pages_blank (die_at (zeroth ∷ one ∷ two ∷ []) die) (each_start shape zeroth one two h0 h1 h2 die within).told;
}
