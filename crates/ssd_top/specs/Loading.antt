-- What has come of a drive whose dies were mounted and loaded with what an image tells of its channels? Bases and dies are of that,
-- and a source that tells its bytes says what it was, or what was wrong with it.
use Rattle.std.specs.Prelude.{ℕ, ◌≡◌, List, [], Option, Ok, Err, ⊤}
use Rattle.drive_contents.specs.LoadedDrive.{AreOfDrive}
use Rattle.image_file.specs.Gives.{named_fault, rest_at}
use Rattle.onfi_cmd.specs.DieState.{DieState}
use Rattle.ssd_formats.specs.Fields.{Rest}
use Rattle.ssd_formats.specs.ImageContents.{ChannelImage, read_channels}
use Rattle.ssd_formats.specs.ImageHead.{Head, head_of}
use Rattle.ssd_geo.specs.declared.base.ChannelBase.{ChannelBase}
use Rattle.ssd_geo.specs.declared.head.ImageHead.{ImageHead}
use Rattle.ssd_io.specs.Told.{IsTold}
use Rattle.ssd_top.specs.declared.status.Status.{Status}
use Rattle.ssd_top.specs.declared.status.Status.TheVariants.{Image, Trace, ReadFault, OutOfMemory, DieFailed}

-- what is told of channels was read from what a head left, up to another place, where that was told
pub record AreReadFrom (head : ImageHead) (place : ℕ) (left after : Option (List ℕ)) (saved : List ChannelImage) : Type 0 where
  pub told : IsTold left → IsTold after
  pub read :
      IsTold left →
      read_channels (head_of head) head.shape.channels [] (rest_at head.place left) ≡ Ok (saved, rest_at place after)

-- bases and dies are of that
pub record HasLoaded (head : ImageHead) (place : ℕ) (left after : Option (List ℕ)) (dies : List DieState) (bases : List ChannelBase)
    : Type 0 where
  pub saved : List ChannelImage
  pub of_drive : AreOfDrive (head_of head) saved bases dies
  pub are_read : AreReadFrom head place left after saved

-- a status before which all was loaded: it names the first fault of what follows the head, or has another cause
abbrev pub StopsContents : Head → Rest → Status → Type 0
StopsContents head rest (Image at fault) = read_channels head head.sizes.channels [] rest ≡ Err (at, named_fault fault)
StopsContents head rest ReadFault = ⊤
StopsContents head rest OutOfMemory = ⊤
StopsContents head rest (DieFailed die) = ⊤
StopsContents head rest other = ⊥

-- a status that names no fault of a trace
abbrev pub StopsNoTrace : Status → Type 0
StopsNoTrace (Trace line fault) = ⊥
StopsNoTrace other = ⊤
