-- What a run that was served left of its drive can be saved: its channels came to the ends of their runs, the parts that they gave
-- back fit the sizes of the drive, and their dies are mounted.
use Rattle.std.proofs.Common.{ℕ, zero, suc, ◌≡◌, List, [], ◌∷◌, length, map, slice_get, Some, refl, sym, ap, subst, ◌∙◌, arith}
use Rattle.std.specs.Prelude.{All, Option}
use Rattle.std.proofs.lemmas.List.{length-map}
use Rattle.std.proofs.lemmas.Simd.{map-map}
use Rattle.blank_drive.proofs.SameSizes.{same_shape}
use Rattle.chan_calls.specs.Workers.{WorkerState}
use Rattle.chan_dies.specs.DiesState.{AreMounted}
use Rattle.chan_state.specs.ChannelState.{ChannelState, EndsWhole, StandsFor, parts_of}
use Rattle.chan_state.specs.declared.parts.BaseParts.{BaseParts}
use Rattle.ctl.specs.Seen.{SeenChannel, pasts_of}
use Rattle.final_dies.specs.FinalDies.{dies_of_channel}
use Rattle.onfi_cmd.specs.DieState.{DieState}
use Rattle.run_laws.specs.Runs.{Run, channels_of, data_in, runs_with}
use Rattle.run_laws.specs.ServedRuns.{contents_in}
use Rattle.serial_laws.proofs.Lists.{IsItemAt, item_at}
use Rattle.shared_lemmas.proofs.Lists.{all_at}
use Rattle.ssd_formats.specs.ImageContents.{ChannelImage}
use Rattle.ssd_formats.specs.ImageHead.{head_of}
use Rattle.ssd_geo.specs.Shape.{sizes_of}
use Rattle.ssd_geo.specs.declared.head.ImageHead.{ImageHead}
use Rattle.ssd_geo.specs.declared.policy_view.PolicyView.{PolicyView}
use Rattle.ssd_geo.specs.declared.shape.Shape.{Shape}
use Rattle.ssd_geo.specs.declared.tag.Tag.{Tag}
use Rattle.ssd_geo.specs.declared.trace.Trace.{Trace}
use Rattle.ssd_histories.specs.CallsInOrder.{ChannelRun}
use Rattle.ssd_histories.specs.Start.{Start}
use Rattle.ssd_top.proofs.ServedChannels.{StandInRun, dies_back, like_at, many_channels}
use Rattle.ssd_top.specs.Forms.{input_of}
use Rattle.ssd_top.specs.LeftDrives.{AreChannelsMounted, IsAtEnd, LeavesDrive, PartsFit}
use Rattle.ssd_top.specs.Serving.{GiveBack}

-- an item of a list through a function is that of an item of the list
pub of_mapped : {X Y : Type 0} (f : X → Y) (xs : List X) (n : ℕ) (y : Y) → slice_get (map f xs) n ≡ Some y
    → (x : X) × (slice_get xs n ≡ Some x) × (y ≡ f x)
of_mapped f [] n y is = absurd (cc)
of_mapped f (x ∷ xs) zero y is = (x, refl, cc)
of_mapped f (x ∷ xs) (suc n) y is = of_mapped f xs n y is

-- the run of a number has the start and the past of that number
record IsRunAt (starts : List Start) (channels : List SeenChannel) (n : ℕ) (own : ChannelRun) : Type 0 where
  start : Start
  channel : SeenChannel
  has_start : slice_get starts n ≡ Some start
  has_channel : slice_get channels n ≡ Some channel
  start_is : own.start ≡ start
  past_is : channel.kept.past ≡ own.past

run_at : (starts : List Start) (channels : List SeenChannel) (n : ℕ) (own : ChannelRun)
    → slice_get (runs_with starts (pasts_of channels)) n ≡ Some own → IsRunAt starts channels n own
run_at [] channels n own is = absurd (cc)
run_at (start ∷ starts) [] n own is = absurd (cc)
run_at (start ∷ starts) (channel ∷ channels) zero own is =
    let same : record { start = start; past = channel.kept.past } ≡ own = cc in
    record {
      start = start;
      channel = channel;
      has_start = refl;
      has_channel = refl;
      start_is = ap (λ (run : ChannelRun). run.start) (sym same);
      past_is = ap (λ (run : ChannelRun). run.past) same;
    }
run_at (start ∷ starts) (channel ∷ channels) (suc n) own is =
    let later : IsRunAt starts channels n own = run_at starts channels n own is in
    record {
      start = later.start;
      channel = later.channel;
      has_start = later.has_start;
      has_channel = later.has_channel;
      start_is = later.start_is;
      past_is = later.past_is;
    }

-- there are as many runs as channels
as_many_runs : (starts : List Start) (channels : List SeenChannel) → length channels ≡ length starts
    → length (runs_with starts (pasts_of channels)) ≡ length channels
as_many_runs [] [] many = refl
as_many_runs [] (channel ∷ channels) many = absurd (omega (arith, many))
as_many_runs (start ∷ starts) [] many = refl
as_many_runs (start ∷ starts) (channel ∷ channels) many =
    ap (λ (n : ℕ). suc n) (as_many_runs starts channels (omega (arith, many)))

module _ (head : ImageHead) (saved : ℕ → ChannelImage) (asked : Trace) (limit : ℕ) (dies : List DieState)
    (views : List (Option PolicyView)) (worker : WorkerState) (channels : List SeenChannel) (starts : List Start)
    (stand : StandInRun (head_of head) saved asked limit dies views worker channels starts) (back : List DieState)
    (give : GiveBack (head_of head) channels dies back) (whole : All (λ channel. EndsWhole channel.kept) channels) where
  abbrev contents : List (Tag × List ℕ)
  contents = contents_in (input_of (head_of head) saved asked)

  -- the sizes of each channel are those of the head
  start_sizes : (n : ℕ) (start : Start) → slice_get starts n ≡ Some start → sizes_of start.base.shape ≡ sizes_of head.shape
  start_sizes n start has_start =
      ap sizes_of (sym (stand.standing.works n start has_start).shape_is) ∙ stand.sizes_are

  channel_shape : (n : ℕ) (channel : SeenChannel) → slice_get channels n ≡ Some channel → channel.kept.shape ≡ head.shape
  channel_shape n channel has_channel =
      let there = like_at channels starts n channel stand.standing.as_many has_channel in
      (stand.standing.stand n there.0 channel there.1 has_channel).shape_is
      ∙ same_shape there.0.base.shape head.shape (start_sizes n there.0 there.1)

  -- the parts of a channel fit the sizes
  fit_at : (n : ℕ) (own : BaseParts)
      → slice_get (map (λ (channel : SeenChannel). parts_of channel.kept) channels) n ≡ Some own → PartsFit head.shape own
  fit_at n own is =
      let channel = of_mapped (λ (channel : SeenChannel). parts_of channel.kept) channels n own is in
      let ends : EndsWhole channel.0.kept = all_at (λ channel. EndsWhole channel.kept) channels n channel.0 whole channel.1 in
      let shape : channel.0.kept.shape ≡ head.shape = channel_shape n channel.0 channel.1 in
      subst (PartsFit head.shape) (sym channel.2)
      (record {
        block_count = ends.tables.blocks_count ∙ ap (λ (shape : Shape). shape.superblocks) shape;
        row_count = ends.tables.rows_count ∙ ap (λ (shape : Shape). shape.rows) shape;
      })

  mounted_at : AreChannelsMounted head.shape back
  mounted_at n below =
      let many : length channels ≡ head.shape.channels =
      many_channels (head_of head) saved asked limit dies views worker channels starts stand in
      let channel : IsItemAt channels n = item_at channels n (omega (arith, many, below)) in
      let ends : EndsWhole channel.item.kept =
      all_at (λ channel. EndsWhole channel.kept) channels n channel.item whole channel.is_there in
      subst (AreMounted head.shape)
      (sym (dies_back (head_of head) saved asked limit dies views worker channels starts stand back give n channel.item channel.is_there))
      (subst (λ (shape : Shape). AreMounted shape channel.item.kept.dies) (channel_shape n channel.item channel.is_there)
      ends.mounted)

  -- a channel is at the end of the run of its number
  at_end : (n : ℕ) (own : ChannelRun) (channel : SeenChannel) → slice_get (runs_with starts (pasts_of channels)) n ≡ Some own
      → slice_get channels n ≡ Some channel
      → IsAtEnd contents own head.shape (dies_of_channel head.shape.dies back n) channel.kept
  at_end n own channel has_own has_channel =
      let there : IsRunAt starts channels n own = run_at starts channels n own has_own in
      let same_some : Some there.channel ≡ Some channel = sym there.has_channel ∙ has_channel in
      let same : there.channel ≡ channel = cc in
      let stands : StandsFor channel.kept channel.view there.start contents =
      stand.standing.stand n there.start channel there.has_start has_channel in
      record {
        view = channel.view;
        past_is = ap (λ (other : SeenChannel). other.kept.past) (sym same) ∙ there.past_is;
        stands = subst (λ (start : Start). StandsFor channel.kept channel.view start contents) (sym there.start_is) stands;
        whole = all_at (λ channel. EndsWhole channel.kept) channels n channel whole has_channel;
        shape_is =
            ap (λ (start : Start). start.base.shape) there.start_is
            ∙ same_shape there.start.base.shape head.shape (start_sizes n there.start there.has_start);
        dies_are =
            sym (dies_back (head_of head) saved asked limit dies views worker channels starts stand back give n channel has_channel);
      }

  -- so a run with these starts and pasts left the drive
  pub leaves : (run : Run) → run.starts ≡ starts → run.pasts ≡ pasts_of channels → data_in (head_of head) run ≡ contents
      → LeavesDrive (head_of head) head.shape run (map (λ (channel : SeenChannel). parts_of channel.kept) channels) back
  leaves run starts_are pasts_are data_is =
      let runs_are : channels_of run ≡ runs_with starts (pasts_of channels) = λ i. runs_with (starts_are i) (pasts_are i) in
      record {
        channels = map (λ (channel : SeenChannel). channel.kept) channels;
        as_many =
            ap (λ (runs : List ChannelRun). length runs) runs_are ∙ as_many_runs starts channels stand.standing.as_many
            ∙ sym (length-map channels (λ (channel : SeenChannel). channel.kept));
        parts_are = sym (map-map parts_of (λ (channel : SeenChannel). channel.kept) channels);
        at_end = λ n own channel has_own has_channel.
            let seen = of_mapped (λ (channel : SeenChannel). channel.kept) channels n channel has_channel in
            subst (λ (listed : List (Tag × List ℕ)). IsAtEnd listed own head.shape (dies_of_channel head.shape.dies back n) channel)
            (sym data_is)
            (subst (λ (kept : ChannelState). IsAtEnd contents own head.shape (dies_of_channel head.shape.dies back n) kept)
            (sym seen.2)
            (at_end n own seen.0 (subst (λ (runs : List ChannelRun). slice_get runs n ≡ Some own) runs_are has_own) seen.1));
        can_be_saved = record {
          as_many =
              length-map channels (λ (channel : SeenChannel). parts_of channel.kept)
              ∙ many_channels (head_of head) saved asked limit dies views worker channels starts stand;
          fit = fit_at;
          mounted = mounted_at;
        };
      }
