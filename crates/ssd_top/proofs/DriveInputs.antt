-- What is read of an input: the head of its image, what follows of each channel, and then the trace. The first that has a fault is
-- the input's.
use Rattle.std.proofs.Common.{◌≡◌, ap, ◌∙◌, ℕ, List, [], Ok, Err, Result}
use Rattle.ssd_formats.specs.Fields.{Rest, Reading}
use Rattle.ssd_formats.specs.ImageContents.{ChannelImage, read_channels, read_image}
use Rattle.ssd_formats.specs.ImageHead.{Head, read_head}
use Rattle.ssd_formats.specs.Input.{at_image, at_trace, read_input}
use Rattle.ssd_formats.specs.InputFaults.{ImageFault, TraceFault}
use Rattle.ssd_formats.specs.Statuses.{image, trace}
use Rattle.ssd_formats.specs.TraceText.{read_trace}
use Rattle.ssd_geo.specs.declared.trace.Trace.{Trace}
use Rattle.ssd_formats.proofs.FieldLaws.{goes_on}
use Rattle.ssd_formats.proofs.LineLaws.{stays_err}

-- an image is its head and what is read of its channels
pub image_read : (bytes : List ℕ) (head : Head) (rest left : Rest) (channels : List ChannelImage) → read_head bytes ≡ Ok (head, rest)
    → read_channels head head.sizes.channels [] rest ≡ Ok (channels, left) → read_image bytes ≡ Ok ((head, channels), left)
unfolding read_image
image_read bytes head rest left channels read contents = goes_on _ _ _ read ∙ goes_on _ _ _ contents

-- an input is its image and its trace
pub drive_input : (bytes : List ℕ) (head : Head) (rest left : Rest) (channels : List ChannelImage) (calls : Trace)
    → read_head bytes ≡ Ok (head, rest) → read_channels head head.sizes.channels [] rest ≡ Ok (channels, left)
    → read_trace head.sizes left.bytes ≡ Ok calls
    → read_input bytes ≡ Ok (record { head = head; channels = channels; calls = calls })
unfolding read_input
drive_input bytes head rest left channels calls read contents told =
    goes_on _ _ _
    (ap (λ (reading : Reading (Head × List ChannelImage)). at_image reading) (image_read bytes head rest left channels read contents))
    ∙ goes_on _ _ _ (ap (λ (reading : Result Trace (ℕ × TraceFault)). at_trace reading) told)

-- a fault of the trace after an image is the input's
pub trace_fault_input : (bytes : List ℕ) (head : Head) (rest left : Rest) (channels : List ChannelImage) (line : ℕ)
    (fault : TraceFault) → read_head bytes ≡ Ok (head, rest)
    → read_channels head head.sizes.channels [] rest ≡ Ok (channels, left) → read_trace head.sizes left.bytes ≡ Err (line, fault)
    → read_input bytes ≡ Err (trace line fault)
unfolding read_input
trace_fault_input bytes head rest left channels line fault read contents told =
    goes_on _ _ _
    (ap (λ (reading : Reading (Head × List ChannelImage)). at_image reading) (image_read bytes head rest left channels read contents))
    ∙ stays_err _ _ _ (ap (λ (reading : Result Trace (ℕ × TraceFault)). at_trace reading) told)

-- a fault of the contents is the image's
contents_fault_image : (bytes : List ℕ) (head : Head) (rest : Rest) (at : ℕ) (fault : ImageFault)
    → read_head bytes ≡ Ok (head, rest) → read_channels head head.sizes.channels [] rest ≡ Err (at, fault)
    → read_image bytes ≡ Err (at, fault)
unfolding read_image
contents_fault_image bytes head rest at fault read contents = goes_on _ _ _ read ∙ stays_err _ _ _ contents

-- and the input's
pub contents_fault_input : (bytes : List ℕ) (head : Head) (rest : Rest) (at : ℕ) (fault : ImageFault)
    → read_head bytes ≡ Ok (head, rest) → read_channels head head.sizes.channels [] rest ≡ Err (at, fault)
    → read_input bytes ≡ Err (image at fault)
unfolding read_input
contents_fault_input bytes head rest at fault read contents =
    stays_err _ _ _
    (ap (λ (reading : Reading (Head × List ChannelImage)). at_image reading)
    (contents_fault_image bytes head rest at fault read contents))

-- a fault of the head is the image's
pub head_fault_image : (bytes : List ℕ) (at : ℕ) (fault : ImageFault) → read_head bytes ≡ Err (at, fault) →
    read_image bytes ≡ Err (at, fault)
unfolding read_image
head_fault_image bytes at fault read = stays_err _ _ _ read

-- and the input's
pub head_fault_input : (bytes : List ℕ) (at : ℕ) (fault : ImageFault) → read_head bytes ≡ Err (at, fault) →
    read_input bytes ≡ Err (image at fault)
unfolding read_input
head_fault_input bytes at fault read =
    stays_err _ _ _ (ap (λ (reading : Reading (Head × List ChannelImage)). at_image reading) (head_fault_image bytes at fault read))
