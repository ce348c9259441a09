-- What an image tells of the channels of a drive, as a list and by the number of a channel.
use Rattle.std.proofs.Common.{ℕ, suc, ◌≡◌, ◌+◌, ◌<◌, List, [], ◌∷◌, length, map, replicate, get_or, slice_get, take, Option, Some, refl, sym, ap, subst, ◌∙◌, add-zero, arith}
use Rattle.std.specs.List.{range_with_len}
use Rattle.std.proofs.lemmas.List.FromFn.{get_or-map-range_with_len}
use Rattle.std.proofs.lemmas.Option.{get_or_from_slice_get, slice_get-get_or}
use Rattle.chan_calls.specs.Workers.{WorkerState}
use Rattle.chan_state.specs.ChannelState.{ChannelState}
use Rattle.contents_start.specs.ContentsStart.{AreOfContents}
use Rattle.ctl.specs.Asked.{settings}
use Rattle.ctl.specs.Seen.{seen}
use Rattle.drive_contents.specs.LoadedDrive.{AreOfDrive}
use Rattle.final_dies.specs.FinalDies.{dies_of_channel}
use Rattle.onfi_cmd.specs.DieState.{DieState}
use Rattle.run_laws.specs.Runs.{FaultCounts}
use Rattle.saved_drive.specs.Begun.{StandAtStarts}
use Rattle.saved_drive.specs.Contents.{AreOfImage}
use Rattle.serial_laws.proofs.Lists.{IsItemAt, item_at}
use Rattle.ssd_formats.specs.ImageContents.{ChannelImage, IsSaved, blank_channel}
use Rattle.ssd_formats.specs.ImageHead.{Head, head_of}
use Rattle.ssd_geo.specs.Shape.{sizes_of}
use Rattle.ssd_geo.specs.declared.base.ChannelBase.{ChannelBase}
use Rattle.ssd_geo.specs.declared.head.ImageHead.{ImageHead}
use Rattle.ssd_geo.specs.declared.policy_view.PolicyView.{PolicyView}
use Rattle.ssd_geo.specs.declared.trace.Trace.{Trace}
use Rattle.trace_text.specs.NumberedCalls.{IsNumbered}
use Rattle.ssd_top.proofs.BegunRuns.{run_begins}
use Rattle.ssd_top.proofs.ServedRuns.{IsSavedAs}
use Rattle.ssd_top.specs.Forms.{input_of, saved_channels}
use Rattle.ssd_top.specs.Running.{IsRunning}
use Rattle.ssd_top.specs.Workers.{IsWorkerOf}

-- what is told of the channel with a number
abbrev pub saved_at : Head → List ChannelImage → ℕ → ChannelImage
saved_at head saved number = get_or saved number (blank_channel head number)

-- a list has what a function gives of the numbers of its items
listed : {X : Type 0} (g : ℕ → X) (xs : List X) (from : ℕ)
    → ((number : ℕ) (x : X) → slice_get xs number ≡ Some x → g (from + number) ≡ x)
    → map g (range_with_len from (length xs)) ≡ xs
listed g [] from each = refl
listed {X = X} g (x ∷ xs) from each =
    let later : map g (range_with_len (from + 1) (length xs)) ≡ xs =
    listed g xs (from + 1)
    (λ number y at.
    let further : from + suc number ≡ from + 1 + number = omega arith in
    subst (λ (n : ℕ). g n ≡ y) further (each (suc number) y at)) in
    let here : g from ≡ x = subst (λ (n : ℕ). g n ≡ x) (add-zero from) (each 0 x refl) in
    rw (here, later) refl

module _ (head : Head) (saved : List ChannelImage) (bases : List ChannelBase) (dies : List DieState)
    (of : AreOfImage head saved bases dies) where
  -- all channels have what the list says
  pub are_listed : saved_channels head (saved_at head saved) ≡ saved
  are_listed =
      subst (λ (count : ℕ). map (saved_at head saved) (range_with_len 0 count) ≡ saved) of.as_many_saved
      (listed (saved_at head saved) saved 0
      (λ number x at.
      let here : number ≡ 0 + number = omega arith in
      subst (λ (n : ℕ). saved_at head saved n ≡ x) here
      (get_or_from_slice_get saved number x (blank_channel head number) at)))

  -- it may be saved
  pub are_saved : (number : ℕ) → number < head.sizes.channels → IsSaved head number (saved_at head saved number)
  are_saved number low =
      let base : IsItemAt bases number = item_at bases number (omega (arith, low, of.as_many_bases)) in
      let there : slice_get saved number ≡ Some (saved_at head saved number) =
      slice_get-get_or saved number (blank_channel head number) (omega (arith, low, of.as_many_saved)) in
      let contents :
      AreOfContents head number (saved_at head saved number) base.item (dies_of_channel head.sizes.dies dies number) =
      of.each number (saved_at head saved number) base.item there base.is_there in
      contents.is_saved

-- and is blank where the image has no contents
pub are_saved_as : (head : Head) (saved : List ChannelImage) (bases : List ChannelBase) (dies : List DieState)
    → AreOfDrive head saved bases dies → IsSavedAs head (saved_at head saved)
are_saved_as head saved bases dies of blank number low =
    ap (λ (all : List ChannelImage). get_or all number (blank_channel head number)) (of.blank blank)
    ∙ get_or-map-range_with_len (blank_channel head) 0 head.sizes.channels number number (blank_channel head number) low
    (omega arith)

-- channels that stand at the starts of such a drive are before the first call of a trace
pub saved_run_begins : {A : Type 0} (items lent : List A) (kept : A → ChannelState) (view : A → Option PolicyView) (head : ImageHead)
    (saved : List ChannelImage) (bases : List ChannelBase) (dies : List DieState) → AreOfImage (head_of head) saved bases dies
    → (trace : Trace) (worker : WorkerState) → IsWorkerOf (head_of head) worker → (limit : ℕ) (before : FaultCounts)
    (views : List (Option PolicyView))
    → lent ≡ items → length items ≡ head.shape.channels → StandAtStarts head saved limit before views (map kept items)
    → map view items ≡ take head.shape.channels views → IsNumbered (sizes_of head.shape) trace
    → IsRunning
    (record {
      input = input_of (head_of head) (saved_at (head_of head) saved) trace;
      limit = limit;
      before = before;
      views = views;
    })
    (settings worker) (map (λ item. seen (kept item) (view item)) lent) [] (replicate trace.actors []) [] 0
saved_run_begins items lent kept view head saved bases dies of trace worker is_worker limit before views same count stand =
    run_begins items lent kept view head (saved_at (head_of head) saved) (are_saved (head_of head) saved bases dies of) trace worker
    is_worker limit before views same count
    (subst (λ (channels : List ChannelImage). StandAtStarts head channels limit before views (map kept items))
    (sym (are_listed (head_of head) saved bases dies of)) stand)
