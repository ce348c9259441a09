-- How a drive that was to be saved came to its end: it was served, and stopped, or was written; what its dies count then, and of
-- which run its image is.
use Rattle.std.proofs.Common.{ℕ, ◌≡◌, ◌*◌, ◌<◌, inl, inr, List, length, slice_get, get_or, Some, None, Option, sym, ap, subst, ◌∙◌, arith}
use Rattle.std.specs.Prelude.{⊤}
use Rattle.std.specs.Io.KnownBytes.{Appends}
use Rattle.std.proofs.lemmas.Bool.{cases_eq}
use Rattle.std.proofs.lemmas.Option.{get_or_from_slice_get, slice_get-get_or, slice_get_within}
use Rattle.chan_dies.specs.DiesState.{die_at, no_die}
use Rattle.chan_state.specs.declared.parts.BaseParts.{BaseParts}
use Rattle.contents_file.specs.DiesCopied.{FailsAt, FaultsLoad}
use Rattle.drive_dies.specs.Mounting.{CountsLoad}
use Rattle.onfi_cmd.specs.DieState.{DieState}
use Rattle.run_laws.specs.Headline.{IsStoppedRun, IsWholeRun}
use Rattle.run_laws.specs.Runs.{Run}
use Rattle.ssd_formats.specs.ImageHead.{Head, head_of}
use Rattle.ssd_formats.specs.Words.{Settings}
use Rattle.ssd_geo.specs.Faults.{Rose, RoseBy, greatest_count}
use Rattle.ssd_geo.specs.Limits.{Sizes}
use Rattle.ssd_geo.specs.Shape.{sizes_of}
use Rattle.ssd_geo.specs.declared.policy_view.PolicyView.{PolicyView}
use Rattle.ssd_geo.specs.declared.shape.Shape.{Shape}
use Rattle.ssd_io.specs.Pieces.{AppendsFront}
use Rattle.ssd_top.proofs.SavedParts.{of_run, read_again_as_left}
use Rattle.ssd_top.proofs.ServedChannels.{stays_at}
use Rattle.ssd_top.specs.Commands.{AreSavedBack, FailsSaving, SavesRun, WritesImage}
use Rattle.ssd_top.specs.HandedBack.{AllCountRuns, AreHandedBack, CountsRun, CountsRunOrLoad}
use Rattle.ssd_top.specs.LeftDrives.{AreLeft, FailsBelow, HaveChannelsFewPages, IsLeftWritten, OfImageLeft}
use Rattle.ssd_top.specs.Serving.{EndsAt, HasServed, IsStop}
use Rattle.ssd_top.specs.declared.served.Served.{Served}
use Rattle.ssd_top.specs.declared.status.Status.{Status}
use Rattle.ssd_top.specs.declared.status.Status.TheVariants.{Done, Words, Image, Trace, ReadFault, WriteFault, HistoryLimit, OutOfMemory, DieFailed}

-- ---- the dies

-- dies of which one failed before a run took part in none
load_is_run : (failed number : ℕ) (old new : DieState) → CountsLoad failed number old new → CountsRunOrLoad failed number old new
load_is_run failed number old new counts = record {
  works_rose =
      subst (λ (count : ℕ). RoseBy 0 old.work_count count) (sym counts.works_stay) (stays_at old.work_count greatest_count);
  rose = counts.rose;
  others = counts.others;
}

-- what became of the dies where nothing was written
pub stop_hands_saved : (status : Status) (olds news : List DieState) → AreHandedBack status olds news → AreSavedBack status olds news
stop_hands_saved (DieFailed die) olds news is = record {
  in_list = is.in_list;
  counts = record {
    count_stays = is.counts.count_stays;
    each = λ number old new was now. load_is_run die number old new (is.counts.each number old new was now);
  };
}
stop_hands_saved Done olds news is = is
stop_hands_saved Words olds news is = is
stop_hands_saved (Image at fault) olds news is = is
stop_hands_saved (Trace line fault) olds news is = is
stop_hands_saved ReadFault olds news is = is
stop_hands_saved WriteFault olds news is = is
stop_hands_saved (HistoryLimit channel entries) olds news is = is
stop_hands_saved OutOfMemory olds news is = is

-- a die of a list that took part in a run, and of which then one failed
run_or_load : (count die : ℕ) (olds left back : List DieState) → AllCountRuns olds left → (fails : FailsBelow count die left back)
    → (number : ℕ) (old new : DieState) → slice_get olds number ≡ Some old → slice_get back number ≡ Some new
    → CountsRunOrLoad die number old new
run_or_load count die olds left back runs below number old new was is =
    let fails : FailsAt 0 die left back = below.fails in
    let in_left : number < length left = omega (arith, slice_get_within olds number old was, runs.count_stays) in
    let between : DieState = get_or left number no_die in
    let there : slice_get left number ≡ Some between = slice_get-get_or left number no_die in_left in
    let ran : CountsRun old between = runs.each number old between was there in
    let now : die_at back number ≡ new = get_or_from_slice_get back number new no_die is in
    let place_is : die ≡ fails.place = omega (arith, fails.number_is) in
    elim (cases_eq number die) [
      | inl same ↦
          let here : number ≡ fails.place = same ∙ place_is in
          let became : FaultsLoad (die_at left number) (die_at back number) =
          subst (λ (n : ℕ). FaultsLoad (die_at left n) (die_at back n)) (sym here) fails.fails.changed in
          let faulted : FaultsLoad between new =
          subst (λ (other : DieState). FaultsLoad between other) now became in
          record {
            works_rose = subst (λ (works : ℕ). RoseBy 0 old.work_count works) (sym faulted.works_stay) ran.works_rose;
            rose = λ is. subst (λ (loads : ℕ). Rose loads new.load_count) ran.loads_stay faulted.rose;
            others = λ differs. absurd (differs same);
          }
      | inr differs ↦
          let stays : new ≡ between = sym now ∙ fails.fails.others number (λ same. differs (same ∙ sym place_is)) in
          record {
            works_rose =
                subst (λ (other : DieState). RoseBy 0 old.work_count other.work_count) (sym stays) ran.works_rose;
            rose = λ same. absurd (differs same);
            others = λ other. ap (λ (die : DieState). die.load_count) stays ∙ ran.loads_stay;
          }
    ]

pub left_hands_saved : (count : ℕ) (status : Status) (head : Head) (shape : Shape) (parts : List BaseParts)
    (olds left back : List DieState) (old new : Option (List ℕ)) → IsLeftWritten status head shape parts left old new
    → AllCountRuns olds left → AreLeft count status left back → AreSavedBack status olds back
left_hands_saved count (DieFailed die) head shape parts olds left back old new written runs is = record {
  in_list = omega (arith, is.fails.in_list, is.fails.number_is, runs.count_stays);
  counts = record {
    count_stays = is.fails.fails.count_stays ∙ runs.count_stays;
    each = run_or_load count die olds left back runs is;
  };
}
left_hands_saved count Done head shape parts olds left back old new written runs is =
    subst (λ (dies : List DieState). AllCountRuns olds dies) (sym is) runs
left_hands_saved count WriteFault head shape parts olds left back old new written runs is =
    subst (λ (dies : List DieState). AllCountRuns olds dies) (sym is) runs
left_hands_saved count OutOfMemory head shape parts olds left back old new written runs is = tt
left_hands_saved count (HistoryLimit channel entries) head shape parts olds left back old new written runs is = absurd written
left_hands_saved count Words head shape parts olds left back old new written runs is = absurd written
left_hands_saved count (Image at fault) head shape parts olds left back old new written runs is = absurd written
left_hands_saved count (Trace line fault) head shape parts olds left back old new written runs is = absurd written
left_hands_saved count ReadFault head shape parts olds left back old new written runs is = absurd written

-- ---- the run

-- what is said of statuses that end a call before it was served
module _ (before now : ℕ) where
  pub stop_isnt_done : (status : Status) → IsStop before now status → status ≡ Done → ⊥
  stop_isnt_done status stops is = subst (λ (other : Status). IsStop before now other) is stops

  pub stop_isnt_words : (status : Status) → IsStop before now status → status ≡ Words → ⊥
  stop_isnt_words status stops is = subst (λ (other : Status). IsStop before now other) is stops

  pub stop_isnt_write_fault : (status : Status) → IsStop before now status → status ≡ WriteFault → ⊥
  stop_isnt_write_fault status stops is = subst (λ (other : Status). IsStop before now other) is stops

  pub stop_isnt_limit : (status : Status) → IsStop before now status → (channel entries : ℕ) → status ≡ HistoryLimit channel entries → ⊥
  stop_isnt_limit status stops channel entries is = subst (λ (other : Status). IsStop before now other) is stops

-- of what was served a run is saved
module _ (settings : Settings) (before after : Option (List ℕ)) (dies : List DieState) (views : List (Option PolicyView))
    (left : List DieState) (served : Served) (has : HasServed before after settings dies views left served) where
  abbrev head : Head
  head = has.asked.head

  abbrev saves : (Ended Became : Head → Run → Type 0) → Ended head has.of_input.run → Became head has.of_input.run
      → SavesRun settings before after dies views left Ended Became
  saves Ended Became ended became = record {
    asked = has.asked;
    run = has.of_input.run;
    was_read = has.was_read;
    is_run = has.of_input.is_run;
    headline = has.of_input.headline;
    complete = has.of_input.complete;
    ended = ended;
    became = became;
  }

  abbrev sizes_are : sizes_of served.printed.head.shape ≡ head.sizes
  sizes_are = ap (λ (other : Head). other.sizes) has.of_input.head_is

  -- one that stopped at the limit of a history, of which nothing was written
  pub saves_stopped : (stop : ℕ × ℕ) → served.printed.full ≡ Some stop → (channel entries : ℕ)
      → HistoryLimit stop.0 stop.1 ≡ HistoryLimit channel entries
      → SavesRun settings before after dies views left (λ head run. IsStoppedRun head run channel entries) (λ head run. ⊤)
  saves_stopped stop full channel entries is =
      let same_channel : stop.0 ≡ channel = cc in
      let same_entries : stop.1 ≡ entries = cc in
      saves (λ head run. IsStoppedRun head run channel entries) (λ head run. ⊤)
      (subst (λ (at : ℕ). IsStoppedRun head has.of_input.run at entries) same_channel
      (subst (λ (length : ℕ). IsStoppedRun head has.of_input.run stop.0 length) same_entries
      (subst (EndsAt head has.of_input.run) full has.of_input.ends)))
      tt

  -- a whole one, of whose image this holds
  abbrev pub saves_whole : (IsWritten : List ℕ → Type 0) → served.printed.full ≡ None
      → HaveChannelsFewPages served.printed.head.shape left
      → OfImageLeft (head_of served.printed.head) served.printed.head.shape served.parts.items left IsWritten
      → SavesRun settings before after dies views left IsWholeRun (WritesImage IsWritten)
  saves_whole IsWritten full few image =
      saves IsWholeRun (WritesImage IsWritten) (subst (EndsAt head has.of_input.run) full has.of_input.ends)
      (record {
        is_written =
            of_run head served.printed.head.shape has.of_input.run served.parts.items left IsWritten has.of_input.leaves few
            (subst (λ (other : Head). OfImageLeft other served.printed.head.shape served.parts.items left IsWritten)
            has.of_input.head_is image);
        is_read_again =
            read_again_as_left head served.printed.head.shape has.of_input.run served.parts.items left has.of_input.leaves few
            has.of_input.is_read_once_ended;
      })

  -- how the drive of a whole run was written
  module _ (status : Status) (back : List DieState) (old new : Option (List ℕ)) (full : served.printed.full ≡ None)
      (few : HaveChannelsFewPages served.printed.head.shape left)
      (written : IsLeftWritten status (head_of served.printed.head) served.printed.head.shape served.parts.items left old new)
      (left_dies : AreLeft (served.printed.head.shape.channels * served.printed.head.shape.dies) status left back) where
    abbrev count : ℕ
    count = served.printed.head.shape.channels * served.printed.head.shape.dies

    abbrev Written : Status → Type 0
    Written other = IsLeftWritten other (head_of served.printed.head) served.printed.head.shape served.parts.items left old new

    pub saved_done : status ≡ Done
        → SavesRun settings before after dies views back IsWholeRun (WritesImage (Appends old new))
    saved_done is =
        let same : back ≡ left = subst (λ (other : Status). AreLeft count other left back) is left_dies in
        subst
        (λ (all : List DieState). SavesRun settings before after dies views all IsWholeRun (WritesImage (Appends old new))) (sym same)
        (saves_whole (Appends old new) full few (subst Written is written))

    pub saved_front : status ≡ WriteFault
        → SavesRun settings before after dies views back IsWholeRun (WritesImage (AppendsFront old new))
    saved_front is =
        let same : back ≡ left = subst (λ (other : Status). AreLeft count other left back) is left_dies in
        subst
        (λ (all : List DieState). SavesRun settings before after dies views all IsWholeRun (WritesImage (AppendsFront old new))) (sym same)
        (saves_whole (AppendsFront old new) full few (subst Written is written))

    -- a die failed as it was saved
    pub saved_failed : (die : ℕ) → status ≡ DieFailed die → FailsSaving settings before after dies views back die (AppendsFront old new)
    saved_failed die is = record {
      left = left;
      saves = saves_whole (AppendsFront old new) full few (subst Written is written);
      fails =
          subst (λ (sizes : Sizes). FailsBelow (sizes.channels * sizes.dies) die left back) sizes_are
          (subst (λ (other : Status). AreLeft count other left back) is left_dies);
    }
