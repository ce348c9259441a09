-- The status of a run that was printed tells whether it was whole, or where it stopped.
use Rattle.std.proofs.Common.{ℕ, ◌≡◌, List, Option, Some, None, refl, subst}
use Rattle.onfi_cmd.specs.DieState.{DieState}
use Rattle.run_laws.specs.Headline.{IsStoppedRun, IsWholeRun}
use Rattle.run_laws.specs.Runs.{Run}
use Rattle.ssd_formats.specs.ImageHead.{Head}
use Rattle.ssd_formats.specs.Numbers.{Text}
use Rattle.ssd_formats.specs.Words.{Settings}
use Rattle.ssd_geo.specs.declared.policy_view.PolicyView.{PolicyView}
use Rattle.ssd_top.specs.Printed.{status_after, text_of}
use Rattle.ssd_top.specs.Commands.{PrintsRun}
use Rattle.ssd_top.specs.HandedBack.{AllCountRuns, AreHandedBack}
use Rattle.ssd_top.specs.Serving.{EndsAt, Ends, HasServed, IsCausedByTold, IsSilent}
use Rattle.ssd_top.specs.declared.served.Served.{Served}
use Rattle.ssd_top.specs.declared.status.Status.TheVariants.{Done, HistoryLimit, Words, WriteFault}

pub was_whole : (stop : Option (ℕ × ℕ)) → status_after stop ≡ Done → stop ≡ None
was_whole None is = refl
was_whole (Some stop) is = absurd (cc)

pub has_stopped : (stop : Option (ℕ × ℕ)) (channel entries : ℕ) → status_after stop ≡ HistoryLimit channel entries
    → stop ≡ Some (channel, entries)
has_stopped None channel entries is = absurd (cc)
has_stopped (Some stop) channel entries is =
    let same_channel : stop.0 ≡ channel = cc in
    let same_entries : stop.1 ≡ entries = cc in
    λ i. Some (same_channel i, same_entries i)

pub is_no_refusal : (stop : Option (ℕ × ℕ)) → status_after stop ≡ Words → ⊥
is_no_refusal None is = absurd (cc)
is_no_refusal (Some stop) is = absurd (cc)

-- what was printed is no silence
pub run_isnt_silent : (stop : Option (ℕ × ℕ)) → IsSilent (status_after stop) → ⊥
run_isnt_silent None silent = silent
run_isnt_silent (Some stop) silent = silent

-- the dies took part in a run, however it ended
pub run_hands_back : (stop : Option (ℕ × ℕ)) (olds news : List DieState) → AllCountRuns olds news
    → AreHandedBack (status_after stop) olds news
run_hands_back None olds news runs = runs
run_hands_back (Some stop) olds news runs = runs

-- no end of a run names a cause in what was read
pub run_is_caused : (before : Option (List ℕ)) (stop : Option (ℕ × ℕ)) → IsCausedByTold before (status_after stop)
run_is_caused None stop = tt
run_is_caused (Some bytes) None = tt
run_is_caused (Some bytes) (Some stop) = tt

pub write_fault_is_caused : (before : Option (List ℕ)) → IsCausedByTold before WriteFault
write_fault_is_caused None = tt
write_fault_is_caused (Some bytes) = tt

-- what was served and printed is a run of the input: a whole one, one that stopped, or either
module _ (settings : Settings) (before after : Option (List ℕ)) (dies : List DieState) (views : List (Option PolicyView))
    (back : List DieState) (served : Served) (has : HasServed before after settings dies views back served)
    (IsPrinted : Text → Type 0) (is_printed : IsPrinted (text_of served.printed)) where
  abbrev Prints : (Head → Run → Type 0) → Type 0
  Prints Ended = PrintsRun settings before after dies views back Ended IsPrinted

  prints : (Ended : Head → Run → Type 0) → Ended has.asked.head has.of_input.run → Prints Ended
  prints Ended ended = record {
    asked = has.asked;
    run = has.of_input.run;
    text = text_of served.printed;
    was_read = has.was_read;
    is_run = has.of_input.is_run;
    headline = has.of_input.headline;
    complete = has.of_input.complete;
    ended = ended;
    is_text = has.of_input.is_text;
    is_printed = is_printed;
  }

  pub prints_whole : served.printed.full ≡ None → Prints IsWholeRun
  prints_whole full =
      prints IsWholeRun (subst (EndsAt has.asked.head has.of_input.run) full has.of_input.ends)

  pub prints_stopped : (channel entries : ℕ) → served.printed.full ≡ Some (channel, entries)
      → Prints (λ head run. IsStoppedRun head run channel entries)
  prints_stopped channel entries full =
      prints (λ head run. IsStoppedRun head run channel entries)
      (subst (EndsAt has.asked.head has.of_input.run) full has.of_input.ends)

  pub prints_some : Prints Ends
  prints_some = prints Ends (served.printed.full, has.of_input.ends)
