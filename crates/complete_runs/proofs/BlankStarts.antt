-- What holds of each channel of a blank image holds of each start of a run that begins with it.
use Rattle.std.proofs.Common.{ℕ, zero, suc, ◌+◌, List, [], ◌∷◌, map, All, refl, sym, subst}
use Rattle.std.specs.List.{range_with_len}
use Rattle.std.proofs.lemmas.List.Elements.{All-cons, All-head, All-nil, All-tail}
use Rattle.ssd_formats.specs.ImageContents.{IsBaseOf, blank_channel}
use Rattle.ssd_formats.specs.ImageHead.{Head}
use Rattle.ssd_geo.specs.declared.entry.Entry.{Entry}
use Rattle.ssd_geo.specs.declared.shape.Shape.{Shape}
use Rattle.ssd_histories.specs.CallsInOrder.{ChannelRun}
use Rattle.ssd_histories.specs.Start.{Start}
use Rattle.run_laws.specs.Runs.{Run, runs_with}
use Rattle.run_laws.specs.Starts.{Handed, start_of, starts_from}
use Rattle.complete_runs.specs.BlankRuns.{BeginsBlank}

-- a start is that of a channel of a blank image
pub record IsBlankStart (head : Head) (start : Start) : Type 0 where
  pub channel : ℕ
  pub is_base : IsBaseOf head channel (blank_channel head channel) start.base

module _ (shape : Shape) (head : Head) (limit : ℕ) where
  each_start : ((channel : ℕ) (handed : Handed) → IsBlankStart head (start_of shape head limit channel (blank_channel head channel) handed)) →
      (from count : ℕ) (handed : List Handed) →
      All (IsBlankStart head) (starts_from shape head limit from (map (blank_channel head) (range_with_len from count)) handed)
  each_start each from zero handed = All-nil (IsBlankStart head)
  each_start each from (suc count) [] = All-nil (IsBlankStart head)
  each_start each from (suc count) (first ∷ others) =
      All-cons (IsBlankStart head) (start_of shape head limit from (blank_channel head from) first)
      (starts_from shape head limit (from + 1) (map (blank_channel head) (range_with_len (from + 1) count)) others)
      (each from first) (each_start each (from + 1) count others)

pub starts_are_blank : (head : Head) (run : Run) → BeginsBlank head run → All (IsBlankStart head) run.starts
starts_are_blank head run blank =
    subst (All (IsBlankStart head)) (sym blank.begins.starts_are)
    (each_start blank.begins.shape head blank.limit
    (λ channel handed. record {
      channel = channel;
      is_base = record {
        shape = blank.begins.sizes_are;
        session = refl;
        blocks = refl;
        rows = refl;
        sum = refl;
        number = refl;
        entries = refl;
        read_levels = refl;
        iterations = refl;
        step = refl;
        law = refl;
        weak = refl;
      };
    }) 0 head.sizes.channels blank.handed)

-- what holds of each start holds of each channel's
pub starts_of_channels : (P : Start → Type 0) (starts : List Start) (pasts : List (List Entry)) → All P starts →
    All (λ (channel : ChannelRun). P channel.start) (runs_with starts pasts)
starts_of_channels P [] pasts all = All-nil (λ (channel : ChannelRun). P channel.start)
starts_of_channels P (start ∷ starts) [] all = All-nil (λ (channel : ChannelRun). P channel.start)
starts_of_channels P (start ∷ starts) (past ∷ pasts) all =
    All-cons (λ (channel : ChannelRun). P channel.start) (record { start = start; past = past }) (runs_with starts pasts)
    (All-head P start starts all) (starts_of_channels P starts pasts (All-tail P start starts all))
