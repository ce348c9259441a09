-- Dies that are mounted: those that are ready are, those into which pages were loaded are still, and those of a channel are the
-- next so many of the drive's.
use Rattle.std.proofs.Common.{ℕ, ◌≡◌, ◌+◌, ◌*◌, ◌<◌, ◌≤◌, List, drop, length, get_or, slice_get, Option, Some, is_some, sym, ap, subst, ◌∙◌, arith}
use Rattle.std.proofs.Math.Nat.{mul-le-mul}
use Rattle.std.proofs.lemmas.List.{get_or-drop, get_or-take, length-drop, length-take-le}
use Rattle.std.proofs.lemmas.Nat.{div-mul-add, mod-mul-add}
use Rattle.std.proofs.lemmas.Option.{get_or_from_slice_get, slice_get-get_or, slice_get_within}
use Rattle.chan_dies.specs.DiesState.{no_die}
use Rattle.drive_dies.specs.Mounting.{IsBlankDie, die_count, plan_in_drive, plan_of_die}
use Rattle.final_dies.specs.FinalDies.{dies_of_channel}
use Rattle.onfi_cmd.specs.DieState.{DieState}
use Rattle.onfi_cmd.specs.declared.plan.DiePlan.{DiePlan}
use Rattle.ssd_geo.specs.BlockCells.{BlockCells}
use Rattle.ssd_geo.specs.declared.head.ImageHead.{ImageHead}
use Rattle.saved_drive.specs.Contents.{AreMounted, AreMountedOn, DiesStayMounted, IsMountedAs, ReadyDiesAreMounted, StaysMounted}

blank_is_mounted : (plan : DiePlan) (die : DieState) → IsBlankDie plan die → IsMountedAs plan die
blank_is_mounted plan die blank = record {
  plan_is = blank.plan_is;
  tells = ap (λ (told : Option (List BlockCells)). is_some told) blank.blank.told_are;
}

pub ready_dies_are_mounted : ReadyDiesAreMounted
ready_dies_are_mounted head dies ready = record {
  enough = ready.enough;
  each = λ number die below at. blank_is_mounted (plan_in_drive head number) die (ready.each number die below at);
}

still_mounted : (plan : DiePlan) (old new : DieState) → StaysMounted old new → IsMountedAs plan old → IsMountedAs plan new
still_mounted plan old new stays mounted =
    record { plan_is = stays.plan_stays ∙ mounted.plan_is; tells = stays.still_tells ∙ mounted.tells }

pub dies_stay_mounted : DiesStayMounted
dies_stay_mounted head olds news became mounted = record {
  enough = omega (arith, mounted.enough, became.count_stays);
  each = λ number die below at.
      let old : DieState = get_or olds number no_die in
      let was : slice_get olds number ≡ Some old =
      slice_get-get_or olds number no_die (omega (arith, mounted.enough, below)) in
      still_mounted (plan_in_drive head number) old die (became.each number old die was at) (mounted.each number old below was);
}

-- the dies of a channel
pub are_mounted_on : (head : ImageHead) (dies : List DieState) (channel : ℕ) → AreMounted head dies → channel < head.shape.channels
    → (own : List DieState) → own ≡ dies_of_channel head.shape.dies dies channel → AreMountedOn head channel own
are_mounted_on head dies channel mounted within own are =
    let count : ℕ = head.shape.dies in
    let start : ℕ = channel * count in
    let more : (channel + 1) * count ≤ head.shape.channels * count =
    mul-le-mul {n₁ = channel + 1} {m₁ = count} {n₂ = head.shape.channels} {m₂ = count} (omega arith) (omega arith) in
    let room : start + count ≤ die_count head = omega (arith, more) in
    let enough : count ≤ length (drop start dies) = omega (arith, length-drop start dies, mounted.enough, room) in
    let long : length own ≡ count =
    ap (λ (all : List DieState). length all) are ∙ length-take-le count (drop start dies) enough in
    record {
      count_is = long;
      each = λ number die at.
          let below : number < count = omega (arith, slice_get_within own number die at, long) in
          let here : get_or dies (start + number) die ≡ die =
          sym (get_or-take count (drop start dies) number die below ∙ get_or-drop start dies number die)
          ∙ ap (λ (all : List DieState). get_or all number die) (sym are) ∙ get_or_from_slice_get own number die die at in
          let place : slice_get dies (start + number) ≡ Some die =
          slice_get-get_or dies (start + number) die (omega (arith, mounted.enough, room, below))
          ∙ ap (λ (x : DieState). Some x) here in
          let same : plan_in_drive head (start + number) ≡ plan_of_die head channel number = λ i.
          record {
            channel = div-mul-add channel count number below i;
            die = mod-mul-add channel count number below i;
            shape = head.shape;
            law = head.law;
            weak = head.weak;
          } in
          subst (λ (plan : DiePlan). IsMountedAs plan die) same
          (mounted.each (start + number) die (omega (arith, room, below)) place);
    }
