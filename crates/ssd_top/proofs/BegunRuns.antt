-- The channels of a drive that stand at their starts, and its worker, are before the first call of a trace.
use Rattle.std.proofs.Common.{ℕ, zero, suc, ◌≡◌, ◌+◌, ◌<◌, ◌≤◌, true, List, [], ◌∷◌, length, map, replicate, get_or, slice_get, take, All, Option, Some, None, refl, ap, sym, subst, ◌∙◌, arith}
use Rattle.std.specs.List.{range_with_len}
use Rattle.std.specs.Option.{option_map}
use Rattle.std.proofs.lemmas.List.{get_or-take, length-map}
use Rattle.std.proofs.lemmas.List.Elements.{All-nil, All-cons}
use Rattle.std.proofs.lemmas.Option.{get_or_from_slice_get, slice_get-map, slice_get_within}
use Rattle.std.proofs.lemmas.Simd.{map-map}
use Rattle.blank_drive.proofs.SameSizes.{same_shape}
use Rattle.saved_drive.proofs.SavedChannels.{saved_serials_are_small}
use Rattle.saved_drive.specs.Begun.{StandAtStarts}
use Rattle.chan_calls.specs.Workers.{WorkerState, WorksFor}
use Rattle.chan_state.specs.ChannelState.{ChannelState, StandsFor}
use Rattle.ctl.specs.Asked.{FitsDrive, IsPageOf, settings}
use Rattle.ctl.specs.Seen.{SeenChannel, Stands, pasts_of, seen}
use Rattle.ctl.specs.Served.{AreStanding}
use Rattle.run_laws.specs.HandedCounts.{handed_by_channel, handed_to}
use Rattle.run_laws.specs.Runs.{FaultCounts}
use Rattle.run_laws.specs.Serials.{HasSmallSerials}
use Rattle.run_laws.specs.ServedRuns.{AreStartsOf, BeginsAs, HasLedTo, contents_in}
use Rattle.run_laws.specs.Starts.{Handed, start_of, starts_from, starts_of}
use Rattle.run_laws.proofs.ServedCalls.{served_runs_begin}
use Rattle.ssd_formats.specs.ImageContents.{ChannelImage, IsBaseOf, IsSaved}
use Rattle.ssd_formats.specs.ImageHead.{Head, head_of, matrix_of_head}
use Rattle.ssd_geo.specs.Coding.{matrix_of}
use Rattle.ssd_geo.specs.Limits.{Sizes}
use Rattle.ssd_geo.specs.Shape.{sizes_of}
use Rattle.ssd_geo.specs.declared.entry.Entry.{Entry}
use Rattle.ssd_geo.specs.declared.head.ImageHead.{ImageHead}
use Rattle.ssd_geo.specs.declared.policy_view.PolicyView.{PolicyView}
use Rattle.ssd_geo.specs.declared.shape.Shape.{Shape}
use Rattle.ssd_geo.specs.declared.trace.Trace.{Trace}
use Rattle.ssd_histories.specs.HistoryRoom.{found_room}
use Rattle.ssd_histories.specs.Start.{Start}
use Rattle.trace_text.specs.NumberedCalls.{IsNumbered}
use Rattle.ssd_top.proofs.FittingTraces.{are_numbered, fit_drive, have_data}
use Rattle.ssd_top.specs.Forms.{input_of, saved_channels}
use Rattle.ssd_top.specs.Running.{HasFoundRoom, IsRunning, Job}
use Rattle.ssd_top.specs.Workers.{IsWorkerOf}
use Rattle.shared_lemmas.proofs.Lists.{all_at}

-- what holds of the start of each of so many channels, from a number on
module _ (shape : Shape) (head : Head) (limit : ℕ) (saved : ℕ → ChannelImage) (handed : ℕ → Handed) where
  abbrev start_at : ℕ → Start
  start_at number = start_of shape head limit number (saved number) (handed number)

  abbrev starts_at : ℕ → ℕ → List Start
  starts_at count from =
      starts_from shape head limit from (map saved (range_with_len from count)) (map handed (range_with_len from count))

  as_many_starts : (count from : ℕ) → length (starts_at count from) ≡ count
  as_many_starts zero from = refl
  as_many_starts (suc count) from = ap suc (as_many_starts count (from + 1))

  each_start : (P : Start → Type 0) (count from : ℕ) → ((number : ℕ) → number < from + count → P (start_at number))
      → All P (starts_at count from)
  each_start P zero from holds = All-nil P
  each_start P (suc count) from holds =
      All-cons P (start_at from) (starts_at count (from + 1)) (holds from (omega arith))
      (each_start P count (from + 1) (λ number low. holds number (omega (arith, low))))

  are_starts : ((number : ℕ) → BeginsAs head number (saved number) (start_at number)) → (count from : ℕ)
      → AreStartsOf head from (map saved (range_with_len from count)) (starts_at count from)
  are_starts begins zero from = tt
  are_starts begins (suc count) from = (begins from, are_starts begins count (from + 1))

-- channels without an entry have the pasts with which a run begins
no_pasts : (starts : List Start) (channels : List SeenChannel) → length channels ≡ length starts
    → ((number : ℕ) (channel : SeenChannel) → slice_get channels number ≡ Some channel → channel.kept.past ≡ [])
    → (let none : List (List Entry) = map (λ start. []) starts in none) ≡ pasts_of channels
no_pasts [] [] long none = refl
no_pasts [] (channel ∷ channels) long none = absurd (omega arith)
no_pasts (start ∷ starts) [] long none = absurd (omega arith)
no_pasts (start ∷ starts) (channel ∷ channels) long none =
    let later = no_pasts starts channels (omega (arith, long)) (λ number other at. none (suc number) other at) in
    rw (none 0 channel refl, ← later) refl

-- the views of the channels are those of the first policies
view_of : (count number : ℕ) (channel : SeenChannel) (channels : List SeenChannel) (views : List (Option PolicyView))
    → length channels ≡ count → map (λ other. other.view) channels ≡ take count views → slice_get channels number ≡ Some channel
    → get_or views number None ≡ channel.view
view_of count number channel channels views long views_are at =
    let low : number < length channels = slice_get_within channels number channel at in
    let there : slice_get (take count views) number ≡ Some channel.view =
    ap (λ (all : List (Option PolicyView)). slice_get all number) (sym views_are)
    ∙ slice_get-map (λ (other : SeenChannel). other.view) channels number
    ∙ ap (option_map (λ (other : SeenChannel). other.view)) at in
    sym (get_or-take count views number None (omega (arith, low, long)))
    ∙ get_or_from_slice_get (take count views) number channel.view None there

-- a worker of a drive of which an image tells this, and channels that stand at its starts over dies with these counts and policies
-- that tell these views
module _ (head : ImageHead) (saved : ℕ → ChannelImage)
    (are_saved : (number : ℕ) → number < head.shape.channels → IsSaved (head_of head) number (saved number))
    (trace : Trace) (worker : WorkerState) (is_worker : IsWorkerOf (head_of head) worker)
    (limit : ℕ) (before : FaultCounts)
    (views : List (Option PolicyView)) where
  abbrev job : Job
  job = record { input = input_of (head_of head) saved trace; limit = limit; before = before; views = views }

  abbrev handed : ℕ → Handed
  handed number = handed_to head.shape.dies before views number

  abbrev begun : ℕ → Start
  begun number = start_of worker.shape (head_of head) limit number (saved number) (handed number)

  abbrev starts : List Start
  starts = starts_at worker.shape (head_of head) limit saved handed head.shape.channels 0

  is_base : (number : ℕ) → IsBaseOf (head_of head) number (saved number) (begun number).base
  is_base number = record {
    shape = is_worker.sizes_are;
    session = refl;
    blocks = refl;
    rows = refl;
    sum = refl;
    number = refl;
    entries = refl;
    read_levels = refl;
    iterations = refl;
    step = refl;
    law = refl;
    weak = refl;
  }

  begins_as : (number : ℕ) → BeginsAs (head_of head) number (saved number) (begun number)
  begins_as number = record { is_base = is_base number; are_cells = refl }

  -- the worker works for each start
  works : (number : ℕ) → WorksFor (settings worker) (begun number)
  works number =
      let same_code : matrix_of_head (head_of head) ≡ matrix_of (begun number).base = λ i.
      record {
        z = (sym is_worker.sizes_are i).z;
        mb = (sym is_worker.sizes_are i).mb;
        nb = (sym is_worker.sizes_are i).nb;
        entries = head.entries;
      } in
      record {
        shape_is = refl;
        session_is = is_worker.session_is;
        code_is = is_worker.code_is ∙ same_code;
        iterations_are = is_worker.iterations_are;
        levels_are = is_worker.levels_are;
        step_is = is_worker.step_is;
      }

  -- the serials of its rows are small
  small_serials : (number : ℕ) → number < 0 + head.shape.channels → HasSmallSerials (begun number).base
  small_serials number low =
      saved_serials_are_small (head_of head) number (saved number) (begun number).base
      (are_saved number (omega (arith, low))) (is_base number)

  module _ (channels : List SeenChannel) (count : length channels ≡ head.shape.channels)
      (stand : StandAtStarts head (saved_channels (head_of head) saved) limit before views (map (λ channel. channel.kept) channels))
      (views_are : map (λ channel. channel.view) channels ≡ take head.shape.channels views) where
    kept_at : (number : ℕ) (channel : SeenChannel) → slice_get channels number ≡ Some channel
        → slice_get (map (λ other. other.kept) channels) number ≡ Some channel.kept
    kept_at number channel at =
        slice_get-map (λ (other : SeenChannel). other.kept) channels number
        ∙ ap (option_map (λ (other : SeenChannel). other.kept)) at

    no_entry : (number : ℕ) (channel : SeenChannel) → slice_get channels number ≡ Some channel → channel.kept.past ≡ []
    no_entry number channel at = stand.no_entries number channel.kept (kept_at number channel at)

    as_many : length starts ≡ head.shape.channels
    as_many = as_many_starts worker.shape (head_of head) limit saved handed head.shape.channels 0

    -- each channel stands for its start
    stands_at : (number : ℕ) (start : Start) (channel : SeenChannel) → slice_get starts number ≡ Some start
        → slice_get channels number ≡ Some channel → Stands channel start (contents_in job.input)
    stands_at number start channel start_at_number at =
        let there :
        slice_get (starts_of head.shape (head_of head) limit job.input.channels
        (handed_by_channel head.shape.channels head.shape.dies before views)) number
        ≡ Some start =
        subst
        (λ (shape : Shape). slice_get (starts_of shape (head_of head) limit job.input.channels
        (handed_by_channel head.shape.channels head.shape.dies before views)) number ≡ Some start)
        (same_shape worker.shape head.shape is_worker.sizes_are) start_at_number in
        subst (λ (view : Option PolicyView). StandsFor channel.kept view start (contents_in job.input))
        (view_of head.shape.channels number channel channels views count views_are at)
        (stand.each number start channel.kept (contents_in job.input) there (kept_at number channel at))

    standing : AreStanding (settings worker) channels starts (contents_in job.input)
    standing = record {
      as_many = count ∙ sym as_many;
      works = λ number start at.
          all_at (WorksFor (settings worker)) starts number start
          (each_start worker.shape (head_of head) limit saved handed (WorksFor (settings worker)) head.shape.channels 0
          (λ other low. works other))
          at;
      stand = stands_at;
    }

    -- and has no entry yet
    has_found_room : (number : ℕ) (channel : SeenChannel) → slice_get channels number ≡ Some channel → HasFoundRoom channel
    has_found_room number channel at =
        let no_past : channel.kept.past ≡ [] = no_entry number channel at in
        record {
          has_room = subst (λ (past : List Entry). found_room channel.kept.limit past ≡ true) (sym no_past) refl;
          short = subst (λ (past : List Entry). length past ≤ channel.kept.limit) (sym no_past) (omega arith);
        }

    -- they are before the first call of a trace
    pub running_begins : IsNumbered (sizes_of head.shape) trace
        → IsRunning job (settings worker) channels [] (replicate trace.actors []) [] 0
    running_begins numbered =
        record {
          starts = starts;
          starts_are = refl;
          sizes_are = is_worker.sizes_are;
          is_served_from = record {
            some_channel = omega (arith, as_many, head.shape.within.channels_low);
            are_starts = are_starts worker.shape (head_of head) limit saved handed begins_as head.shape.channels 0;
            same_bytes =
                each_start worker.shape (head_of head) limit saved handed
                (λ start. start.base.shape.bytes ≡ head.shape.bytes) head.shape.channels 0
                (λ number low. ap (λ (sizes : Sizes). sizes.bytes) is_worker.sizes_are);
            numbered = are_numbered (sizes_of head.shape) trace.actors [] trace.calls numbered.calls;
            have_data = have_data (sizes_of head.shape) trace.actors [] trace.calls numbered.calls;
          };
          has_led_to =
              subst (λ pasts. HasLedTo (contents_in job.input) starts trace.actors [] (replicate trace.actors []) pasts [] 0)
              (no_pasts starts channels (count ∙ sym as_many) no_entry)
              (served_runs_begin (contents_in job.input) starts trace.actors);
          standing = standing;
          have_room = has_found_room;
          few_channels = omega (arith, count, head.shape.within.channels_high);
          few_actors = numbered.actors_high;
          few_calls = numbered.few;
          fits =
              subst (λ (most : ℕ). All (λ call. FitsDrive worker.shape most call.verb) trace.calls) (sym count)
              (fit_drive (sizes_of head.shape) worker.shape is_worker.sizes_are head.shape.within.channels_low trace.actors []
              trace.calls
              numbered.calls);
          hints_fit = All-nil (IsPageOf worker.shape (length channels));
          serials =
              each_start worker.shape (head_of head) limit saved handed (λ start. HasSmallSerials start.base)
              head.shape.channels 0 small_serials;
        }

-- so are channels whose `Vec` lent them as a slice
pub run_begins : {A : Type 0} (items lent : List A) (kept : A → ChannelState) (view : A → Option PolicyView) (head : ImageHead)
    (saved : ℕ → ChannelImage)
    → ((number : ℕ) → number < head.shape.channels → IsSaved (head_of head) number (saved number))
    → (trace : Trace) (worker : WorkerState) → IsWorkerOf (head_of head) worker → (limit : ℕ) (before : FaultCounts)
    (views : List (Option PolicyView))
    → lent ≡ items → length items ≡ head.shape.channels
    → StandAtStarts head (saved_channels (head_of head) saved) limit before views (map kept items)
    → map view items ≡ take head.shape.channels views → IsNumbered (sizes_of head.shape) trace
    → IsRunning (record { input = input_of (head_of head) saved trace; limit = limit; before = before; views = views }) (settings worker)
    (map (λ item. seen (kept item) (view item)) lent) [] (replicate trace.actors []) [] 0
run_begins {A = A} items lent kept view head saved are_saved trace worker is_worker limit before views same count stand views_are numbered =
    let of_item : A → SeenChannel = λ (item : A). seen (kept item) (view item) in
    let keeps : map (λ channel. channel.kept) (map of_item items) ≡ map kept items =
    map-map (λ (channel : SeenChannel). channel.kept) of_item items in
    let tells : map (λ channel. channel.view) (map of_item items) ≡ map view items =
    map-map (λ (channel : SeenChannel). channel.view) of_item items in
    subst
    (λ (list : List A). IsRunning (record { input = input_of (head_of head) saved trace; limit = limit; before = before; views = views })
    (settings worker)
    (map of_item list) [] (replicate trace.actors []) [] 0)
    (sym same)
    (running_begins head saved are_saved trace worker is_worker limit before views (map of_item items) (length-map items of_item ∙ count)
    (subst (λ (all : List ChannelState). StandAtStarts head (saved_channels (head_of head) saved) limit before views all) (sym keeps)
    stand)
    (tells ∙ views_are) numbered)
