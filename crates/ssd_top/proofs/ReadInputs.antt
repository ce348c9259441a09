-- What comes of an input that was read: a stop is the first fault of its bytes, or has another cause, and else it was read to its
-- end.
use Rattle.std.proofs.Common.{ℕ, ◌≡◌, List, [], Option, Some, None, Ok, Err, ap, refl, subst, sym}
use Rattle.std.specs.Prelude.{IfSome}
use Rattle.drive_dies.specs.declared.mounting.MountStop.{MountStop}
use Rattle.drive_dies.specs.declared.mounting.MountStop.TheVariants as MountVariants
use Rattle.image_contents.specs.Loads.{StopHasReadCause, StopsAtOrFails}
use Rattle.image_file.specs.Gives as Image
use Rattle.image_file.specs.HeadGiven.{ReadsHead}
use Rattle.image_file.specs.declared.stop.ImageFault.{ImageFault}
use Rattle.image_file.specs.declared.stop.ReadStop.{ReadStop}
use Rattle.image_file.specs.declared.stop.ReadStop.TheVariants.{Fault, ReadFault, DieFailed, Memory}
use Rattle.ssd_formats.specs.Fields.{Rest}
use Rattle.ssd_formats.specs.ImageContents.{ChannelImage, read_channels}
use Rattle.ssd_formats.specs.ImageHead.{Head, head_of}
use Rattle.ssd_geo.specs.Limits.{Sizes}
use Rattle.ssd_geo.specs.Shape.{sizes_of}
use Rattle.ssd_formats.specs.Input.{read_input}
use Rattle.ssd_formats.specs.TraceText.{read_trace}
use Rattle.ssd_geo.specs.declared.head.ImageHead.{ImageHead}
use Rattle.ssd_geo.specs.declared.trace.Trace.{Trace}
use Rattle.ssd_io.specs.Told.{IsTold}
use Rattle.trace_text.specs.Answers.{named_fault as trace_named_fault}
use Rattle.trace_text.specs.ReadTraces.{ReadsTrace}
use Rattle.trace_text.specs.declared.fault.TraceFault.{TraceFault}
use Rattle.ssd_top.proofs.DriveInputs as Drive
use Rattle.ssd_top.specs.Loading.{AreReadFrom, StopsContents, StopsNoTrace}
use Rattle.ssd_top.specs.Serving.{IsCausedByTold, IsStop, status_of_image, status_of_mount, status_of_trace}
use Rattle.ssd_top.specs.declared.status.Status.{Status}
use Rattle.ssd_top.specs.declared.status.Status.TheVariants.{Done, Words, Image as FaultOfImage, Trace as TraceStatus, ReadFault as ReadFaultStatus, WriteFault, HistoryLimit, OutOfMemory, DieFailed as DieFailedStatus}

-- a stop of the head has its cause in the bytes
pub image_caused : (before left : Option (List ℕ)) (stop : ReadStop ImageFault) → ReadsHead before left (Err stop)
    → IsCausedByTold before (status_of_image stop)
image_caused None left stop reads = tt
image_caused (Some bytes) left (Fault at fault) reads = Drive.head_fault_input bytes at (Image.named_fault fault) reads
image_caused (Some bytes) left ReadFault reads = tt
image_caused (Some bytes) left (DieFailed die) reads = tt
image_caused (Some bytes) left Memory reads = tt

-- so has a status before which the contents were loaded
pub contents_caused : (before left : Option (List ℕ)) (head : ImageHead) (status : Status) → ReadsHead before left (Ok head)
    → (IsTold left → StopsContents (head_of head) (Image.rest_at head.place left) status) → IsCausedByTold before status
contents_caused None left head status reads stops = tt
contents_caused (Some bytes) None head status reads stops = absurd reads
contents_caused (Some bytes) (Some rest) head (FaultOfImage at fault) reads stops =
    Drive.contents_fault_input bytes (head_of head) (record { place = head.place; bytes = rest }) at (Image.named_fault fault) reads
    (stops tt)
contents_caused (Some bytes) (Some rest) head ReadFaultStatus reads stops = tt
contents_caused (Some bytes) (Some rest) head OutOfMemory reads stops = tt
contents_caused (Some bytes) (Some rest) head (DieFailedStatus die) reads stops = tt
contents_caused (Some bytes) (Some rest) head Done reads stops = absurd (stops tt)
contents_caused (Some bytes) (Some rest) head Words reads stops = absurd (stops tt)
contents_caused (Some bytes) (Some rest) head (TraceStatus line fault) reads stops = absurd (stops tt)
contents_caused (Some bytes) (Some rest) head WriteFault reads stops = absurd (stops tt)
contents_caused (Some bytes) (Some rest) head (HistoryLimit channel entries) reads stops = absurd (stops tt)

-- a mount or a load that failed is such a status
pub mount_stops : (head : Head) (rest : Rest) (stop : MountStop) → StopsContents head rest (status_of_mount stop)
mount_stops head rest (MountVariants.Failed die) = tt
mount_stops head rest MountVariants.Memory = tt

pub load_stops : (head : Head) (rest : Rest) (stop : ReadStop ImageFault)
    → StopsAtOrFails stop (read_channels head head.sizes.channels [] rest) → StopsContents head rest (status_of_image stop)
load_stops head rest (Fault at fault) stops = stops
load_stops head rest ReadFault stops = tt
load_stops head rest (DieFailed die) stops = tt
load_stops head rest Memory stops = tt

-- neither names a fault of a trace
pub mount_no_trace : (stop : MountStop) → StopsNoTrace (status_of_mount stop)
mount_no_trace (MountVariants.Failed die) = tt
mount_no_trace MountVariants.Memory = tt

pub load_no_trace : (stop : ReadStop ImageFault) → StopsNoTrace (status_of_image stop)
load_no_trace (Fault at fault) = tt
load_no_trace ReadFault = tt
load_no_trace (DieFailed die) = tt
load_no_trace Memory = tt

-- the source's count rose where a read failed, and else is as it was
pub mount_is_stop : (before : ℕ) (stop : MountStop) → IsStop before before (status_of_mount stop)
mount_is_stop before (MountVariants.Failed die) = refl
mount_is_stop before MountVariants.Memory = refl

pub load_is_stop : (before now : ℕ) (stop : ReadStop ImageFault) → StopHasReadCause before now stop
    → IsStop before now (status_of_image stop)
load_is_stop before now (Fault at fault) cause = cause
load_is_stop before now ReadFault cause = cause
load_is_stop before now (DieFailed die) cause = cause
load_is_stop before now Memory cause = cause

-- the head goes on to another place
module _ (head next : ImageHead) (same : next ≡ record head { place = next.place }) where
  same_head : head_of next ≡ head_of head
  same_head = ap (λ (other : ImageHead). head_of other) same

  same_sizes : sizes_of next.shape ≡ sizes_of head.shape
  same_sizes = ap (λ (other : ImageHead). sizes_of other.shape) same

  -- a stop of the trace has its cause in the bytes
  pub trace_caused : (before left middle after : Option (List ℕ)) (saved : List ChannelImage) (stop : ReadStop TraceFault)
      → ReadsHead before left (Ok head) → AreReadFrom head next.place left middle saved
      → ReadsTrace (Err stop) (sizes_of next.shape) middle after → IsCausedByTold before (status_of_trace stop)
  trace_caused None left middle after saved stop reads contents traced = tt
  trace_caused (Some bytes) None middle after saved stop reads contents traced = absurd reads
  trace_caused (Some bytes) (Some rest) None after saved stop reads contents traced = absurd (contents.told tt)
  trace_caused (Some bytes) (Some rest) (Some more) after saved (Fault at fault) reads contents traced =
      Drive.trace_fault_input bytes (head_of head) (record { place = head.place; bytes = rest })
      (record { place = next.place; bytes = more }) saved at (trace_named_fault fault) reads (contents.read tt)
      (subst (λ (sizes : Sizes). read_trace sizes more ≡ Err (at, trace_named_fault fault)) same_sizes (traced tt))
  trace_caused (Some bytes) (Some rest) (Some more) after saved ReadFault reads contents traced = tt
  trace_caused (Some bytes) (Some rest) (Some more) after saved (DieFailed die) reads contents traced = tt
  trace_caused (Some bytes) (Some rest) (Some more) after saved Memory reads contents traced = tt

  -- an input that was read to its end
  pub record IsReadToEnd (before after : Option (List ℕ)) (saved : List ChannelImage) (trace : Trace) : Type 0 where
    pub is_input :
        IfSome before (λ bytes. read_input bytes ≡ Ok (record { head = head_of next; channels = saved; calls = trace }))
    pub at_end : IfSome before (λ bytes. after ≡ Some [])

  pub read_to_end : (before left middle after : Option (List ℕ)) (saved : List ChannelImage) (trace : Trace)
      → ReadsHead before left (Ok head) → AreReadFrom head next.place left middle saved
      → ReadsTrace (Ok trace) (sizes_of next.shape) middle after → IsReadToEnd before after saved trace
  read_to_end None left middle after saved trace reads contents traced = record { is_input = tt; at_end = tt }
  read_to_end (Some bytes) None middle after saved trace reads contents traced = absurd reads
  read_to_end (Some bytes) (Some rest) None after saved trace reads contents traced = absurd (contents.told tt)
  read_to_end (Some bytes) (Some rest) (Some more) after saved trace reads contents traced =
      let calls : read_trace (sizes_of head.shape) more ≡ Ok trace =
      subst (λ (sizes : Sizes). read_trace sizes more ≡ Ok trace) same_sizes (traced tt).1 in
      record {
        is_input =
            subst (λ (other : Head). read_input bytes ≡ Ok (record { head = other; channels = saved; calls = trace })) (sym same_head)
            (Drive.drive_input bytes (head_of head) (record { place = head.place; bytes = rest })
            (record { place = next.place; bytes = more }) saved trace reads (contents.read tt) calls);
        at_end = (traced tt).0;
      }
