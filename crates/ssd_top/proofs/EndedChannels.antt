-- The channels that a run led to gave back their dies, each as many as it has, in front of those that no channel took.
use Rattle.std.proofs.Common.{ℕ, suc, ◌≡◌, ◌*◌, ◌<◌, List, [], ◌∷◌, ◌++◌, All, drop, flat_map, length, map, slice_get, take, Option, Some, None, refl, ap, sym, ◌∙◌, arith}
use Rattle.std.specs.List.{drop-map}
use Rattle.std.proofs.Math.Seq.{take-append_seam}
use Rattle.std.proofs.lemmas.List.Elements.{All-cons, All-head, All-nil, All-tail}
use Rattle.std.proofs.lemmas.List.Folds.{flat_map-map}
use Rattle.std.proofs.lemmas.Option.{slice_get_within}
use Rattle.std.proofs.lemmas.Simd.{map-map}
use Rattle.chan_calls.specs.Workers.{WorkerState}
use Rattle.chan_state.specs.ChannelState.{ChannelState}
use Rattle.ctl.specs.Seen.{SeenChannel, seen}
use Rattle.ctl.specs.Served.{AreStanding}
use Rattle.onfi_cmd.specs.DieState.{DieState}
use Rattle.run_laws.specs.ServedRuns.{contents_in}
use Rattle.serial_laws.proofs.Lists.{IsItemAt, item_at}
use Rattle.ssd_formats.specs.ImageHead.{Head}
use Rattle.ssd_geo.specs.Limits.{Sizes}
use Rattle.ssd_geo.specs.Shape.{sizes_of}
use Rattle.ssd_geo.specs.declared.entry.Entry.{Entry}
use Rattle.ssd_geo.specs.declared.policy_view.PolicyView.{PolicyView}
use Rattle.ssd_geo.specs.declared.reply.Reply.{Reply}
use Rattle.ssd_geo.specs.declared.shape.Shape.{Shape}
use Rattle.ssd_geo.specs.declared.tag.Tag.{Tag}
use Rattle.ssd_histories.specs.History.{history_of}
use Rattle.ssd_histories.specs.Start.{Start}
use Rattle.ssd_top.specs.Running.{Job}
use Rattle.ssd_top.specs.Serving.{GiveBack, LeadsTo}

-- channels that stand for starts have as many dies as the head of the image says
count_of : (job : Job) (worker : WorkerState) (starts : List Start) (contents : List (Tag × List ℕ)) (channels : List SeenChannel)
    → sizes_of worker.shape ≡ job.input.head.sizes → AreStanding worker channels starts contents
    → (number : ℕ) (channel : SeenChannel) → slice_get channels number ≡ Some channel
    → channel.kept.shape.dies ≡ job.input.head.sizes.dies
count_of job worker starts contents channels sizes_are standing number channel at =
    let low : number < length starts = omega (arith, slice_get_within channels number channel at, standing.as_many) in
    let start : IsItemAt starts number = item_at starts number low in
    ap (λ (shape : Shape). shape.dies)
    ((standing.stand number start.item channel start.is_there at).shape_is ∙ sym (standing.works number start.item start.is_there).shape_is)
    ∙ ap (λ (sizes : Sizes). sizes.dies) sizes_are

-- also where a call came only so far
pub count_of_led : (job : Job) (worker : WorkerState) (channels : List SeenChannel) (replies : List (List Reply)) (dropped : ℕ)
    (full : Option (ℕ × ℕ))
    → LeadsTo job worker channels replies dropped full → (number : ℕ) (channel : SeenChannel)
    → slice_get channels number ≡ Some channel → channel.kept.shape.dies ≡ job.input.head.sizes.dies
count_of_led job worker channels replies dropped None leads =
    let running = leads.1 in
    count_of job worker running.starts (contents_in job.input) channels running.sizes_are running.standing
count_of_led job worker channels replies dropped (Some stop) stopped =
    count_of job worker stopped.running.starts (contents_in job.input) channels stopped.running.sizes_are stopped.standing

-- channels in a list of items, and what they gave back
module _ {A X : Type 0} (kept : A → ChannelState) (view : A → Option PolicyView) (state : X → DieState) where
  abbrev of_item : A → SeenChannel
  of_item item = seen (kept item) (view item)

  counts_are : (items : List A) (count : ℕ)
      → ((number : ℕ) (channel : SeenChannel) → slice_get (map of_item items) number ≡ Some channel
      → channel.kept.shape.dies ≡ count)
      → All (λ item. length (kept item).dies ≡ (kept item).shape.dies) items
      → All (λ channel. length channel.kept.dies ≡ count) (map of_item items)
  counts_are [] count each all = All-nil (λ channel. length channel.kept.dies ≡ count)
  counts_are (item ∷ items) count each all =
      All-cons (λ channel. length channel.kept.dies ≡ count) (of_item item) (map of_item items)
      (All-head (λ other. length (kept other).dies ≡ (kept other).shape.dies) item items all ∙ each 0 (of_item item) refl)
      (counts_are items count (λ number channel at. each (suc number) channel at)
      (All-tail (λ other. length (kept other).dies ≡ (kept other).shape.dies) item items all))

  pub gave_back : (head : Head) (items : List A) (dies left back : List X)
      → ((number : ℕ) (channel : SeenChannel) → slice_get (map of_item items) number ≡ Some channel
      → channel.kept.shape.dies ≡ head.sizes.dies)
      → All (λ item. length (kept item).dies ≡ (kept item).shape.dies) items
      → left ≡ drop (head.sizes.channels * head.sizes.dies) dies
      → map state back ≡ flat_map (λ item. (kept item).dies) items ++ map state left
      → GiveBack head (map of_item items) (map state dies) (map state back)
  gave_back head items dies left back each all left_are back_are =
      let count : ℕ = head.sizes.channels * head.sizes.dies in
      record {
        counts = counts_are items head.sizes.dies each all;
        back_are =
            back_are
            ∙ ap (λ (first : List DieState). first ++ map state left)
            (sym (flat_map-map (λ (channel : SeenChannel). channel.kept.dies) of_item items))
            ∙ ap (λ (last : List DieState). flat_map (λ (channel : SeenChannel). channel.kept.dies) (map of_item items) ++ last)
            (ap (λ (all : List X). map state all) left_are ∙ sym (drop-map state count dies));
      }

  -- their histories
  pub histories_of : (items : List A) (histories : List (List Entry))
      → histories ≡ map (λ item. history_of (kept item).past) items
      → histories ≡ map (λ channel. history_of channel.kept.past) (map of_item items)
  histories_of items histories are =
      are ∙ sym (map-map (λ (channel : SeenChannel). history_of channel.kept.past) of_item items)

-- channels that were written whole as a slice of their `Vec`
pub written_whole : {A : Type 0} (written before : List A) (count : ℕ) → length written ≡ count
    → written ≡ take count (written ++ drop (length written) before)
written_whole written before count long =
    sym (ap (λ (n : ℕ). take n (written ++ drop (length written) before)) (sym long)
    ∙ take-append_seam written (drop (length written) before))
