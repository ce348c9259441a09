-- What is said of an input over the dies that were mounted for it, and into which its contents were loaded, is said of it over
-- those that were handed in, whose counts that didn't change. Where a load failed, its die counted it.
use Rattle.std.proofs.Common.{ℕ, ◌≡◌, ◌+◌, ◌*◌, ◌<◌, List, drop, length, slice_get, get_or, Option, Some, None, Result, Ok, Err, IfOk, IfErr, sym, subst, ◌∙◌, arith}
use Rattle.std.proofs.lemmas.Option.{slice_get-get_or, slice_get_within}
use Rattle.drive_dies.specs.Mounting.{CountsMounts, CountsNone, EachBecomes, die_count}
use Rattle.drive_dies.specs.declared.mounting.MountStop.{MountStop}
use Rattle.drive_dies.specs.declared.mounting.MountStop.TheVariants as MountVariants
use Rattle.final_dies.specs.FinalDies.{counts_of}
use Rattle.image_contents.specs.DiesLoaded.{BecomeLoaded, BecomesLoaded, CountsLoadAmong}
use Rattle.image_file.specs.StopCauses.{StopHasCause}
use Rattle.image_file.specs.declared.stop.ImageFault.{ImageFault}
use Rattle.image_file.specs.declared.stop.ReadStop.{ReadStop}
use Rattle.image_file.specs.declared.stop.ReadStop.TheVariants.{Fault as FaultAt, ReadFault as SourceFailed, DieFailed as LoadFailed, Memory as NoMemory}
use Rattle.onfi_cmd.specs.DieState.{DieState}
use Rattle.run_laws.specs.HandedCounts.{IsRunOver}
use Rattle.run_laws.specs.Runs.{FaultCounts}
use Rattle.saved_drive.specs.Contents.{AreMounted}
use Rattle.ssd_formats.specs.Input.{Input}
use Rattle.ssd_formats.specs.Words.{Settings}
use Rattle.ssd_geo.specs.Faults.{RoseBy}
use Rattle.ssd_geo.specs.declared.head.ImageHead.{ImageHead}
use Rattle.ssd_geo.specs.declared.policy_view.PolicyView.{PolicyView}
use Rattle.trace_text.specs.declared.fault.TraceFault.{TraceFault}
use Rattle.ssd_top.specs.HandedBack.{AllCountNone, AllCountRuns, AreHandedBack, CountsRun}
use Rattle.ssd_top.specs.Serving.{AreGivenBack, HasServed, IsCausedByTold, IsOfInput, IsStop, ServesInput, WasRead, status_of_image, status_of_mount, status_of_trace}
use Rattle.ssd_top.specs.declared.served.Served.{Served}
use Rattle.ssd_top.specs.declared.status.Status.{Status}
use Rattle.ssd_top.specs.declared.status.Status.TheVariants.{Done, Words, Image, Trace, ReadFault, WriteFault, HistoryLimit, OutOfMemory, DieFailed}

-- what became of a die in loads after its mount
record IsLoadedAfter {X F : Type 0} (result : Result X (ReadStop F)) (number : ℕ) (old new : DieState) : Type 0 where
  works_stay : new.work_count ≡ old.work_count
  counts : CountsLoadAmong (0 + number) old.load_count new.load_count result

loaded_after : {X F : Type 0} (olds mounted loaded : List DieState) (result : Result X (ReadStop F))
    → AllCountNone olds mounted → BecomeLoaded 0 mounted loaded result → EachBecomes (IsLoadedAfter result) olds loaded
loaded_after olds mounted loaded result none become = record {
  count_stays = become.each.count_stays ∙ none.count_stays;
  each = λ number old new was is.
      let low : number < length mounted = omega (arith, slice_get_within olds number old was, none.count_stays) in
      let between : DieState = get_or mounted number old in
      let there : slice_get mounted number ≡ Some between = slice_get-get_or mounted number old low in
      let first : CountsNone old between = none.each number old between was there in
      let then : BecomesLoaded result (0 + number) between new = become.each.each number between new there is in
      record {
        works_stay = then.keeps.works_stay ∙ first.works_stay;
        counts =
            subst (λ (count : ℕ). CountsLoadAmong (0 + number) count new.load_count result) first.loads_stay then.counts;
      };
}

-- where all was loaded no die counted a fault
pub loaded_none : {X F : Type 0} (olds mounted loaded : List DieState) (value : X) → AllCountNone olds mounted
    → BecomeLoaded {X = X} {F = F} 0 mounted loaded (Ok value) → AllCountNone olds loaded
loaded_none olds mounted loaded value none become =
    let after = loaded_after olds mounted loaded (Ok value) none become in
    record {
      count_stays = after.count_stays;
      each = λ number old new was is.
          let die : IsLoadedAfter (Ok value) number old new = after.each number old new was is in
          record { works_stay = die.works_stay; loads_stay = die.counts };
    }

-- a die that failed as it was mounted is named
pub mount_hands_back : (olds mounted : List DieState) (stop : MountStop) → CountsMounts {T = Unit {0}} olds mounted (Err stop)
    → AreHandedBack (status_of_mount stop) olds mounted
mount_hands_back olds mounted (MountVariants.Failed die) counts = counts
mount_hands_back olds mounted MountVariants.Memory counts = tt

-- nor where the source ended it; and the die that failed is named
pub stop_hands_back : {X : Type 0} (olds mounted loaded : List DieState) (stop : ReadStop ImageFault) → AllCountNone olds mounted
    → BecomeLoaded {X = X} {F = ImageFault} 0 mounted loaded (Err stop) → AreHandedBack (status_of_image stop) olds loaded
stop_hands_back {X = X} olds mounted loaded (FaultAt at fault) none become =
    let after = loaded_after {X = X} {F = ImageFault} olds mounted loaded (Err (FaultAt at fault)) none become in
    record {
      count_stays = after.count_stays;
      each = λ number old new was is.
          let die = after.each number old new was is in record { works_stay = die.works_stay; loads_stay = die.counts };
    }
stop_hands_back {X = X} olds mounted loaded SourceFailed none become =
    let after = loaded_after {X = X} {F = ImageFault} olds mounted loaded (Err SourceFailed) none become in
    record {
      count_stays = after.count_stays;
      each = λ number old new was is.
          let die = after.each number old new was is in record { works_stay = die.works_stay; loads_stay = die.counts };
    }
stop_hands_back {X = X} olds mounted loaded (LoadFailed failed) none become =
    let after = loaded_after {X = X} {F = ImageFault} olds mounted loaded (Err (LoadFailed failed)) none become in
    record {
      in_list = omega (arith, become.names_one.1, none.count_stays);
      counts = record {
        count_stays = after.count_stays;
        each = λ number old new was is.
            let die = after.each number old new was is in
            let here : 0 + number ≡ number = omega arith in
            record {
              works_stay = die.works_stay;
              rose = λ same. die.counts.0 (sym (here ∙ same));
              others = λ differs. die.counts.1 (λ same. differs (sym (same ∙ here)));
            };
      };
    }
stop_hands_back olds mounted loaded NoMemory none become = tt

-- where the trace wasn't read no die had a part in it
pub trace_hands_back : (olds loaded : List DieState) (stop : ReadStop TraceFault) (before now : ℕ) → StopHasCause before now stop
    → AllCountNone olds loaded → AreHandedBack (status_of_trace stop) olds loaded
trace_hands_back olds loaded (FaultAt at fault) before now cause none = none
trace_hands_back olds loaded SourceFailed before now cause none = none
trace_hands_back olds loaded (LoadFailed failed) before now cause none = absurd cause
trace_hands_back olds loaded NoMemory before now cause none = tt

-- dies that are mounted for a head are so for one that was read further
pub mounted_on : (head next : ImageHead) (dies : List DieState) → next ≡ record head { place = next.place }
    → AreMounted head dies → AreMounted next dies
mounted_on head next dies same mounted =
    subst (λ (other : ImageHead). AreMounted other dies) (sym same) (record { enough = mounted.enough; each = mounted.each })

-- the dies behind those of the drive stayed
pub behind_stays : (head next : ImageHead) (olds loaded : List DieState) → next ≡ record head { place = next.place }
    → drop (die_count head) loaded ≡ drop (die_count head) olds → drop (die_count next) loaded ≡ drop (die_count next) olds
behind_stays head next olds loaded same stay =
    subst (λ (other : ImageHead). drop (die_count other) loaded ≡ drop (die_count other) olds) (sym same) stay

-- a run after mounts
pub runs_after_mounts : (olds mounted news : List DieState) → AllCountNone olds mounted → AllCountRuns mounted news
    → AllCountRuns olds news
runs_after_mounts olds mounted news none runs = record {
  count_stays = runs.count_stays ∙ none.count_stays;
  each = λ number old new was is.
      let low : number < length mounted = omega (arith, slice_get_within olds number old was, none.count_stays) in
      let between : DieState = get_or mounted number old in
      let there : slice_get mounted number ≡ Some between = slice_get-get_or mounted number old low in
      let first : CountsNone old between = none.each number old between was there in
      let then : CountsRun between new = runs.each number between new there is in
      record {
        loads_stay = then.loads_stay ∙ first.loads_stay;
        works_rose = subst (λ (count : ℕ). RoseBy 0 count new.work_count) first.works_stay then.works_rose;
      };
}

-- the dies behind those of the drive
abbrev behind : Input → List DieState → List DieState
behind input dies = drop (input.head.sizes.channels * input.head.sizes.dies) dies

-- a run over mounted dies is one over those that were handed in
of_handed : (input : Input) (settings : Settings) (olds mounted : List DieState) (views : List (Option PolicyView))
    (back : List DieState) (served : Served)
    → counts_of mounted ≡ counts_of olds
    → behind input mounted ≡ behind input olds
    → IsOfInput input settings mounted views back served → IsOfInput input settings olds views back served
of_handed input settings olds mounted views back served counts others is = record {
  printable = is.printable;
  run = is.run;
  is_run = record {
    is_over =
        subst
        (λ (before : FaultCounts). IsRunOver input settings.history before (counts_of back) views is.run)
        counts is.is_run.is_over;
    hold = is.is_run.hold;
    others_stay = is.is_run.others_stay ∙ others;
  };
  headline = is.headline;
  complete = is.complete;
  ends = is.ends;
  is_text = is.is_text;
  is_head = is.is_head;
  head_is = is.head_is;
  leaves = is.leaves;
  is_read_once_ended = is.is_read_once_ended;
}

module _ (input : Input) (settings : Settings) (olds mounted : List DieState) (views : List (Option PolicyView))
    (back : List DieState) where
  -- what is printed of it is of it
  pub has_served : (before after : Option (List ℕ)) (outcome : Result Served Status) → WasRead before after input
      → counts_of mounted ≡ counts_of olds
      → behind input mounted ≡ behind input olds
      → ServesInput input settings mounted views back outcome → IfOk outcome (HasServed before after settings olds views back)
  has_served before after (Ok printed) was_read counts others served = record {
    asked = input;
    was_read = was_read;
    of_input = of_handed input settings olds mounted views back printed counts others served.0;
  }
  has_served before after (Err status) was_read counts others served = tt

  -- where it stopped, the source had failed in no read
  pub is_stop : (before now : ℕ) (outcome : Result Served Status) → now ≡ before
      → ServesInput input settings mounted views back outcome
      → IfErr outcome (IsStop before now)
  is_stop before now (Ok printed) same served = tt
  is_stop before now (Err OutOfMemory) same served = same
  is_stop before now (Err Done) same served = absurd served
  is_stop before now (Err Words) same served = absurd served
  is_stop before now (Err (Image at fault)) same served = absurd served
  is_stop before now (Err (Trace line fault)) same served = absurd served
  is_stop before now (Err ReadFault) same served = absurd served
  is_stop before now (Err WriteFault) same served = absurd served
  is_stop before now (Err (HistoryLimit channel length)) same served = absurd served
  is_stop before now (Err (DieFailed die)) same served = absurd served

  -- and it is no stop that has its cause in the source's bytes
  pub is_caused : (before : Option (List ℕ)) (outcome : Result Served Status)
      → ServesInput input settings mounted views back outcome
      → IfErr outcome (IsCausedByTold before)
  is_caused before (Ok printed) served = tt
  is_caused None (Err OutOfMemory) served = tt
  is_caused (Some bytes) (Err OutOfMemory) served = tt
  is_caused before (Err Done) served = absurd served
  is_caused before (Err Words) served = absurd served
  is_caused before (Err (Image at fault)) served = absurd served
  is_caused before (Err (Trace line fault)) served = absurd served
  is_caused before (Err ReadFault) served = absurd served
  is_caused before (Err WriteFault) served = absurd served
  is_caused before (Err (HistoryLimit channel length)) served = absurd served
  is_caused before (Err (DieFailed die)) served = absurd served

  -- the dies took part in a run, or memory was refused
  pub are_given_back : (outcome : Result Served Status) → AllCountNone olds mounted
      → ServesInput input settings mounted views back outcome
      → AreGivenBack outcome olds back
  are_given_back (Ok printed) none served = runs_after_mounts olds mounted back none served.1
  are_given_back (Err OutOfMemory) none served = tt
  are_given_back (Err Done) none served = absurd served
  are_given_back (Err Words) none served = absurd served
  are_given_back (Err (Image at fault)) none served = absurd served
  are_given_back (Err (Trace line fault)) none served = absurd served
  are_given_back (Err ReadFault) none served = absurd served
  are_given_back (Err WriteFault) none served = absurd served
  are_given_back (Err (HistoryLimit channel length)) none served = absurd served
  are_given_back (Err (DieFailed die)) none served = absurd served
