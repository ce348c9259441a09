-- What becomes of the dies of a drive where they are mounted? Each gets its plan from the head of the image; one that tells
-- its blocks is blank then. The first that fails stops the mounts, and those after it are as they were.
use Rattle.std.specs.Prelude.{ℕ, ◌≡◌, ◌≢◌, ◌*◌, ◌/◌, ◌%◌, ◌<◌, ◌≤◌, true, is_some, List, length, slice_get, Option, Some, IfSome, Result, Ok, Err}
use Rattle.ssd_geo.specs.Faults.{Rose}
use Rattle.onfi_cmd.specs.DieCalls.{IsBlank}
use Rattle.onfi_cmd.specs.DieState.{DieState}
use Rattle.onfi_cmd.specs.declared.plan.DiePlan.{DiePlan}
use Rattle.ssd_geo.specs.declared.head.ImageHead.{ImageHead}
use Rattle.drive_dies.specs.declared.mounting.MountStop.{MountStop}
use Rattle.drive_dies.specs.declared.mounting.MountStop.TheVariants.{Failed, Memory}

-- how many dies a drive has
abbrev pub die_count : ImageHead → ℕ
die_count head = head.shape.channels * head.shape.dies

-- a plan for the die with this number in the drive
abbrev pub numbered : DiePlan → ℕ → DiePlan
numbered plan number = record {
  channel = number / plan.shape.dies;
  die = number % plan.shape.dies;
  shape = plan.shape;
  law = plan.law;
  weak = plan.weak;
}

-- the plan of the die with this number in a drive
abbrev pub plan_in_drive : ImageHead → ℕ → DiePlan
plan_in_drive head number = record {
  channel = number / head.shape.dies;
  die = number % head.shape.dies;
  shape = head.shape;
  law = head.law;
  weak = head.weak;
}

-- a die was mounted with a plan: it has that, and where it tells its blocks it is blank. It counted no fault
pub record Mounts (plan : DiePlan) (old new : DieState) : Type 0 where
  pub plan_is : new.plan ≡ Some plan
  pub still_tells : is_some new.told ≡ is_some old.told
  pub blank : IfSome old.told (λ blocks. IsBlank plan new)
  pub works_stay : new.work_count ≡ old.work_count
  pub loads_stay : new.load_count ≡ old.load_count

-- a die failed in its mount: it counted a fault as a load, and all else of it stays
pub record FailsMount (old new : DieState) : Type 0 where
  pub plan_stays : new.plan ≡ old.plan
  pub told_stay : new.told ≡ old.told
  pub read_level_stays : new.read_level ≡ old.read_level
  pub status_stays : new.last_status ≡ old.last_status
  pub works_stay : new.work_count ≡ old.work_count
  pub rose : Rose old.load_count new.load_count

-- what became of the die with a number, as its mount ended
abbrev pub BecomesMounted : {T : Type 0} → DiePlan → ℕ → Result T MountStop → DieState → DieState → Type 0
BecomesMounted plan number (Ok done) old new = Mounts plan old new
BecomesMounted plan number (Err (Failed die)) old new = (die ≡ number) × FailsMount old new
BecomesMounted plan number (Err Memory) old new = new ≡ old

-- this became of each die of a list, by its number
pub record EachBecomes (P : ℕ → DieState → DieState → Type 0) (olds news : List DieState) : Type 0 where
  pub count_stays : length news ≡ length olds
  pub each :
      (number : ℕ) (old new : DieState) → slice_get olds number ≡ Some old → slice_get news number ≡ Some new → P number old new

-- a die below a bound was mounted, and one from there on is as it was
pub record IsMountedBelow (head : ImageHead) (bound number : ℕ) (old new : DieState) : Type 0 where
  pub mounted : number < bound → Mounts (plan_in_drive head number) old new
  pub stays : bound ≤ number → new ≡ old

-- a die below the one that failed was mounted, and one above it is as it was
pub record IsMountedUpTo (head : ImageHead) (failed number : ℕ) (old new : DieState) : Type 0 where
  pub mounted : number < failed → Mounts (plan_in_drive head number) old new
  pub fails : number ≡ failed → FailsMount old new
  pub stays : failed < number → new ≡ old

-- what became of a list of dies, as the mounts of the drive's dies ended
abbrev pub MountsDies : {T : Type 0} → ImageHead → List DieState → List DieState → Result T MountStop → Type 0
MountsDies head olds news (Ok done) = EachBecomes (IsMountedBelow head (die_count head)) olds news
MountsDies head olds news (Err (Failed die)) = (die < die_count head) × EachBecomes (IsMountedUpTo head die) olds news
MountsDies head olds news (Err Memory) =
    (bound : ℕ) × (bound ≤ die_count head) × EachBecomes (IsMountedBelow head bound) olds news

-- a die has a plan and is blank
pub record IsBlankDie (plan : DiePlan) (die : DieState) : Type 0 where
  pub plan_is : die.plan ≡ Some plan
  pub blank : IsBlank plan die

-- the plan of a die of a channel
abbrev pub plan_of_die : ImageHead → ℕ → ℕ → DiePlan
plan_of_die head channel die =
    record { channel = channel; die = die; shape = head.shape; law = head.law; weak = head.weak }

-- dies are those of a channel, mounted and blank
pub record AreDiesOf (head : ImageHead) (channel : ℕ) (dies : List DieState) : Type 0 where
  pub count_is : length dies ≡ head.shape.dies
  pub each : (number : ℕ) (die : DieState) → slice_get dies number ≡ Some die → IsBlankDie (plan_of_die head channel number) die

-- the dies of a drive stand first in a list, each mounted and blank
pub record AreReady (head : ImageHead) (dies : List DieState) : Type 0 where
  pub enough : die_count head ≤ length dies
  pub each :
      (number : ℕ) (die : DieState) → number < die_count head → slice_get dies number ≡ Some die
      → IsBlankDie (plan_in_drive head number) die

-- each die of a list tells its blocks
abbrev pub AllTell : List DieState → Type 0
AllTell dies = (number : ℕ) (die : DieState) → slice_get dies number ≡ Some die → is_some die.told ≡ true

-- the counts of a die after mounts of which none failed
pub record CountsNone (old new : DieState) : Type 0 where
  pub works_stay : new.work_count ≡ old.work_count
  pub loads_stay : new.load_count ≡ old.load_count

-- the counts of a die after mounts that a die of this number ended
pub record CountsLoad (failed number : ℕ) (old new : DieState) : Type 0 where
  pub works_stay : new.work_count ≡ old.work_count
  pub rose : number ≡ failed → Rose old.load_count new.load_count
  pub others : number ≢ failed → new.load_count ≡ old.load_count

-- how the counts of a list of dies are after mounts that the die of this number ended: it is one of the list
pub record CountsFailure (failed : ℕ) (olds news : List DieState) : Type 0 where
  pub in_list : failed < length olds
  pub counts : EachBecomes (CountsLoad failed) olds news

-- how the mounts of dies were counted: as a load by the die that failed, if one did, and by no other
abbrev pub CountsMounts : {T : Type 0} → List DieState → List DieState → Result T MountStop → Type 0
CountsMounts olds news (Ok done) = EachBecomes (λ number old new. CountsNone old new) olds news
CountsMounts olds news (Err (Failed die)) = CountsFailure die olds news
CountsMounts olds news (Err Memory) = EachBecomes (λ number old new. CountsNone old new) olds news
