-- Which bases and dies are those of an image? Each die of the drive is mounted and tells its blocks, and on each channel base
-- and dies are of what the image tells of it. With such ones a channel may begin. Each law is the contract of a function
-- without a body.
use Rattle.std.specs.Prelude.{ℕ, ◌≡◌, ◌^◌, ◌<◌, ◌≤◌, true, is_some, List, length, slice_get, Option, Some}
use Rattle.chan_state.specs.Starting.{MayBegin}
use Rattle.contents_start.specs.ContentsStart.{AreOfContents}
use Rattle.drive_dies.specs.Mounting.{AreReady, EachBecomes, die_count, plan_in_drive, plan_of_die}
use Rattle.final_dies.specs.FinalDies.{dies_of_channel}
use Rattle.onfi_cmd.specs.DieState.{DieState}
use Rattle.onfi_cmd.specs.declared.plan.DiePlan.{DiePlan}
use Rattle.run_laws.specs.Serials.{HasSmallSerials}
use Rattle.ssd_formats.specs.ImageContents.{ChannelImage, IsBaseOf, IsSaved}
use Rattle.ssd_formats.specs.ImageHead.{Head, IsHead, head_of}
use Rattle.ssd_geo.specs.declared.base.ChannelBase.{ChannelBase}
use Rattle.ssd_geo.specs.declared.head.ImageHead.{ImageHead}
use Rattle.ssd_geo.specs.declared.policy_view.PolicyView.{PolicyView}

-- a die has a plan, and tells its blocks
pub record IsMountedAs (plan : DiePlan) (die : DieState) : Type 0 where
  pub plan_is : die.plan ≡ Some plan
  pub tells : is_some die.told ≡ true

-- the dies of a drive stand first in a list, each mounted
pub record AreMounted (head : ImageHead) (dies : List DieState) : Type 0 where
  pub enough : die_count head ≤ length dies
  pub each :
      (number : ℕ) (die : DieState) → number < die_count head → slice_get dies number ≡ Some die
      → IsMountedAs (plan_in_drive head number) die

-- dies are those of a channel, each mounted
pub record AreMountedOn (head : ImageHead) (channel : ℕ) (dies : List DieState) : Type 0 where
  pub count_is : length dies ≡ head.shape.dies
  pub each : (number : ℕ) (die : DieState) → slice_get dies number ≡ Some die → IsMountedAs (plan_of_die head channel number) die

-- bases and the dies of a drive are those of what an image tells of its channels, one after the other
pub record AreOfImage (head : Head) (saved : List ChannelImage) (bases : List ChannelBase) (dies : List DieState) : Type 0 where
  pub as_many_saved : length saved ≡ head.sizes.channels
  pub as_many_bases : length bases ≡ head.sizes.channels
  pub each :
      (channel : ℕ) (contents : ChannelImage) (base : ChannelBase) → slice_get saved channel ≡ Some contents
      → slice_get bases channel ≡ Some base
      → AreOfContents head channel contents base (dies_of_channel head.sizes.dies dies channel)

-- so they are of some image
abbrev pub HaveImage : Head → List ChannelBase → List DieState → Type 0
HaveImage head bases dies = (saved : List ChannelImage) × AreOfImage head saved bases dies

-- with a base and mounted dies that are of contents a channel may begin
abbrev pub ContentsMayBegin : Type 0
ContentsMayBegin =
    (head : ImageHead) (channel : ℕ) (saved : ChannelImage) (base : ChannelBase) (dies : List DieState) (limit : ℕ)
    (view : Option PolicyView) → IsHead (head_of head) → channel < head.shape.channels →
    AreOfContents (head_of head) channel saved base dies → AreMountedOn head channel dies → 256 ≤ limit → limit ≤ 2 ^ 22 →
    MayBegin base limit dies view

-- a die has its plan still, and tells its blocks if it told them
pub record StaysMounted (old new : DieState) : Type 0 where
  pub plan_stays : new.plan ≡ old.plan
  pub still_tells : is_some new.told ≡ is_some old.told

-- blank dies are mounted
abbrev pub ReadyDiesAreMounted : Type 0
ReadyDiesAreMounted = (head : ImageHead) (dies : List DieState) → AreReady head dies → AreMounted head dies

-- and are so after pages were loaded into them
abbrev pub DiesStayMounted : Type 0
DiesStayMounted =
    (head : ImageHead) (olds news : List DieState) → EachBecomes (λ number old new. StaysMounted old new) olds news →
    AreMounted head olds → AreMounted head news

-- the rows with which a channel begins have serials of 64 bits
abbrev pub SavedSerialsAreSmall : Type 0
SavedSerialsAreSmall =
    (head : Head) (channel : ℕ) (saved : ChannelImage) (base : ChannelBase) → IsSaved head channel saved →
    IsBaseOf head channel saved base → HasSmallSerials base
