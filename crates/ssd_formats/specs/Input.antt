-- What does a whole input give, an image and then a trace, and what is its first fault? And when has code read such a
-- part? The definitions of formats give plain records; here they meet the types that the code has.
use Rattle.std.specs.Prelude.{◌≡◌, ℕ, List, Result, Ok, Err}
use Rattle.ssd_formats.specs.Fields.{Rest, ◌>>=◌}
use Rattle.ssd_formats.specs.ImageContents.{ChannelImage, read_image}
use Rattle.ssd_formats.specs.ImageHead.{Head, head_of, read_head}
use Rattle.ssd_formats.specs.InputFaults.{ImageFault, TraceFault}
use Rattle.ssd_formats.specs.Statuses.{Status, image, trace}
use Rattle.ssd_formats.specs.TraceText.{read_trace}
use Rattle.ssd_geo.specs.declared.head.ImageHead.{ImageHead}
use Rattle.ssd_geo.specs.declared.trace.Trace.{Trace}

-- what an input gives: the head of its image, what that tells of each channel, and the trace
pub record Input : Type 0 where
  pub head : Head
  pub channels : List ChannelImage
  pub calls : Trace

-- the first fault of an input, as the status that it gives
abbrev pub at_image : {A : Type 0} → Result A (ℕ × ImageFault) → Result A Status
at_image (Ok read) = Ok read
at_image (Err fault) = Err (image fault.0 fault.1)

abbrev pub at_trace : {A : Type 0} → Result A (ℕ × TraceFault) → Result A Status
at_trace (Ok read) = Ok read
at_trace (Err fault) = Err (trace fault.0 fault.1)

-- an input: an image, and the trace to the end
unfoldable pub read_input : List ℕ → Result Input Status
read_input bytes = do
  drive ← at_image (read_image bytes)
  calls ← at_trace (read_trace drive.0.0.sizes drive.1.bytes)
  Ok (record { head = drive.0.0; channels = drive.0.1; calls = calls })

-- the bytes begin with the head that this one shows, its place is the number of bytes that it takes, and these are left
abbrev pub HasHead : List ℕ → ImageHead → List ℕ → Type 0
HasHead bytes head left = read_head bytes ≡ Ok (head_of head, record { place = head.place; bytes = left })

-- the bytes begin with no head: this is their first fault
abbrev pub HasNoHead : List ℕ → ℕ → ImageFault → Type 0
HasNoHead bytes at fault = read_head bytes ≡ Err (at, fault)
