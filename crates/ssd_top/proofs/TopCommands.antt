-- What the words say of a command that was read from them, and what a command that serves no trace leaves of dies.
use Rattle.std.proofs.Common.{ℕ, ◌≡◌, ◌+◌, ◌%◌, ◌^◌, ◌<◌, Bool, true, false, nat_lt, List, [], slice_get, Option, Some, None, Ok, refl, sym, ap, subst, ◌∙◌, arith}
use Rattle.std.proofs.lemmas.Grind.{common_steps}
use Rattle.drive_contents.proofs.BlankDrives.{blank_channels, blank_channels_read}
use Rattle.drive_dies.specs.Mounting.{CountsNone}
use Rattle.image_file.specs.HeadGiven.{ReadsHead}
use Rattle.image_file.specs.StopCauses.{StopHasCause}
use Rattle.image_file.specs.declared.stop.ImageFault.{ImageFault}
use Rattle.image_file.specs.declared.stop.ReadStop.{ReadStop}
use Rattle.image_file.specs.declared.stop.ReadStop.TheVariants as stops
use Rattle.onfi_cmd.specs.DieState.{DieState}
use Rattle.ssd_formats.specs.Fields.{Rest}
use Rattle.ssd_formats.specs.ImageContents.{ChannelImage, read_image}
use Rattle.ssd_formats.specs.ImageHead.{Head, IsHead, head_bytes, head_of, with_next_session}
use Rattle.ssd_formats.specs.Numbers.{Text}
use Rattle.ssd_formats.specs.Words.{Command, Settings, command_of, gen, run, save}
use Rattle.ssd_geo.specs.declared.head.ImageHead.{ImageHead}
use Rattle.ssd_geo.specs.Faults.{Rose, RoseBy, greatest_count}
use Rattle.ssd_top.proofs.DriveInputs.{image_read}
use Rattle.ssd_top.proofs.ServedChannels.{same_counts_run, stays_at}
use Rattle.ssd_top.specs.Commands.{AreLoadedBack, IsFormatted, IsImageOf, IsWritten, are_loading, are_save, are_serving, loads_drive, saves_drive, serves_trace}
use Rattle.ssd_top.specs.Commands.{takes_command, takes_words}
use Rattle.ssd_top.specs.Loading.{AreReadFrom, StopsNoTrace}
use Rattle.ssd_top.specs.HandedBack.{AllCountNone, AllCountRuns, AreHandedBack}
use Rattle.ssd_top.specs.Serving.{IsCausedByTold, IsSilent, IsStop, status_of_image}
use Rattle.trace_text.specs.declared.fault.TraceFault.{TraceFault}
use Rattle.ssd_top.specs.declared.status.Status.{Status}
use Rattle.ssd_top.specs.declared.status.Status.TheVariants.{Done, Words, Image, Trace, ReadFault, WriteFault, HistoryLimit, OutOfMemory, DieFailed}

-- ---- the words of a command

-- what words that give a command are
pub words_take : (command : Command) (words : List Text) → Some command ≡ command_of words → takes_words words ≡ takes_command command
words_take command words is = rw (← is) refl

pub words_run : (command : Command) (words : List Text) → Some command ≡ command_of words → are_serving words ≡ serves_trace command
words_run command words is = rw (← is) refl

pub words_load : (command : Command) (words : List Text) → Some command ≡ command_of words → are_loading words ≡ loads_drive command
words_load command words is = rw (← is) refl

pub words_save : (command : Command) (words : List Text) → Some command ≡ command_of words → are_save words ≡ saves_drive command
words_save command words is = rw (← is) refl

pub no_words_take : (words : List Text) → None ≡ command_of words → takes_words words ≡ false
no_words_take words is = rw (← is) refl

pub no_words_save : (words : List Text) → None ≡ command_of words → are_save words ≡ false
no_words_save words is = rw (← is) refl

-- words give one command
pub one_command : (given command : Command) (words : List Text) → Some given ≡ command_of words → command_of words ≡ Some command → given ≡ command
one_command given command words is other = let same : Some given ≡ Some command = is ∙ other in cc

-- so none is another's
pub no_words : {A : Type 0} (command : Command) (words : List Text) → None ≡ command_of words → command_of words ≡ Some command → A
no_words command words is other = let same : None ≡ Some command = is ∙ other in absurd (cc)

-- what is said of the settings of a run, or of a drive to save, is said of those that the words give
pub of_settings : (P : Settings → Type 0) (settings : Settings) (words : List Text) → Some (run settings) ≡ command_of words
    → P settings → (other : Settings) → command_of words ≡ Some (run other) → P other
of_settings P settings words is has other other_is =
    let same_command : run settings ≡ run other = one_command (run settings) (run other) words is other_is in
    let same : settings ≡ other = cc in
    subst P same has

pub of_save_settings : (P : Settings → Type 0) (settings : Settings) (words : List Text) → Some (save settings) ≡ command_of words
    → P settings → (other : Settings) → command_of words ≡ Some (save other) → P other
of_save_settings P settings words is has other other_is =
    let same_command : save settings ≡ save other = one_command (save settings) (save other) words is other_is in
    let same : settings ≡ other = cc in
    subst P same has

pub of_number : (P : ℕ → Type 0) (number : ℕ) (words : List Text) → Some (gen number) ≡ command_of words
    → P number → (other : ℕ) → command_of words ≡ Some (gen other) → P other
of_number P number words is has other other_is =
    let same_command : gen number ≡ gen other = one_command (gen number) (gen other) words is other_is in
    let same : number ≡ other = cc in
    subst P same has

-- ---- the statuses of commands that serve no trace

same_die : (dies : List DieState) (number : ℕ) (old new : DieState) → slice_get dies number ≡ Some old
    → slice_get dies number ≡ Some new → new ≡ old
same_die dies number old new was is = let same : Some new ≡ Some old = sym is ∙ was in cc

runs_same : (dies : List DieState) → AllCountRuns dies dies
runs_same dies = record {
  count_stays = refl;
  each = λ number old new was is. same_counts_run old new (same_die dies number old new was is);
}

none_same : (dies : List DieState) → AllCountNone dies dies
none_same dies = record {
  count_stays = refl;
  each = λ number old new was is.
      let same : new ≡ old = same_die dies number old new was is in
      record {
        works_stay = ap (λ (die : DieState). die.work_count) same;
        loads_stay = ap (λ (die : DieState). die.load_count) same;
      };
}

-- what is written is whole, or the sink failed
written_is : (status : Status) (old new : Option (List ℕ)) (text : Text) → IsWritten status old new text → (P : Status → Type 0)
    → P Done → P WriteFault → P status
written_is Done old new text is P done fault = done
written_is WriteFault old new text is P done fault = fault
written_is (Image at of) old new text is P done fault = absurd is
written_is ReadFault old new text is P done fault = absurd is
written_is OutOfMemory old new text is P done fault = absurd is
written_is Words old new text is P done fault = absurd is
written_is (Trace line of) old new text is P done fault = absurd is
written_is (HistoryLimit channel entries) old new text is P done fault = absurd is
written_is (DieFailed die) old new text is P done fault = absurd is

pub written_back : (status : Status) (old new : Option (List ℕ)) (text : Text) (dies : List DieState)
    → IsWritten status old new text → AreHandedBack status dies dies
written_back status old new text dies is =
    written_is status old new text is (λ s. AreHandedBack s dies dies) (runs_same dies) (runs_same dies)

pub written_takes : (status : Status) (old new : Option (List ℕ)) (text : Text) → IsWritten status old new text
    → status ≡ Words → ⊥
written_takes status old new text is =
    written_is status old new text is (λ s. s ≡ Words → ⊥) (λ same. absurd (cc)) (λ same. absurd (cc))

pub written_reads : (status : Status) (old new : Option (List ℕ)) (text : Text) → IsWritten status old new text
    → status ≡ ReadFault → ⊥
written_reads status old new text is =
    written_is status old new text is (λ s. s ≡ ReadFault → ⊥) (λ same. absurd (cc)) (λ same. absurd (cc))

pub written_aloud : (status : Status) (old new : Option (List ℕ)) (text : Text) → IsWritten status old new text → IsSilent status → ⊥
written_aloud status old new text is = written_is status old new text is (λ s. IsSilent s → ⊥) (λ silent. silent) (λ silent. silent)

-- it names no cause
pub written_caused : (status : Status) (old new : Option (List ℕ)) (text : Text) (before : Option (List ℕ))
    → IsWritten status old new text → IsCausedByTold before status
written_caused status old new text None is = written_is status old new text is (λ s. IsCausedByTold None s) tt tt
written_caused status old new text (Some bytes) is = written_is status old new text is (λ s. IsCausedByTold (Some bytes) s) tt tt

-- nor do words that are refused
pub words_caused : (before : Option (List ℕ)) → IsCausedByTold before Words
words_caused None = tt
words_caused (Some bytes) = tt

-- ---- an image that was read

-- a blank image ends with its head, and was read so far
pub blank_image : (before left : Option (List ℕ)) (head : ImageHead) → ReadsHead before left (Ok head) → head.full ≡ false
    → IsImageOf before left (head_of head)
blank_image None left head reads blank = record {
  channels = [];
  rest = record { place = 0; bytes = [] };
  is_image = tt;
  read_no_further = tt;
}
blank_image (Some bytes) None head reads blank = absurd reads
blank_image (Some bytes) (Some rest) head reads blank =
    let behind : Rest = record { place = head.place; bytes = rest } in
    record {
      channels = blank_channels (head_of head);
      rest = behind;
      is_image =
          image_read bytes (head_of head) behind behind (blank_channels (head_of head)) reads
          (blank_channels_read (head_of head) behind blank);
      read_no_further = refl;
    }

-- a full one ends behind its contents
pub full_image : (before left after : Option (List ℕ)) (head next : ImageHead) → next ≡ record head { place = next.place }
    → ReadsHead before left (Ok head) → (saved : List ChannelImage) → AreReadFrom head next.place left after saved
    → IsImageOf before after (head_of next)
full_image None left after head next same reads saved read = record {
  channels = [];
  rest = record { place = 0; bytes = [] };
  is_image = tt;
  read_no_further = tt;
}
full_image (Some bytes) None after head next same reads saved read = absurd reads
full_image (Some bytes) (Some rest) None head next same reads saved read = absurd (read.told tt)
full_image (Some bytes) (Some rest) (Some more) head next same reads saved read =
    let behind : Rest = record { place = next.place; bytes = more } in
    record {
      channels = saved;
      rest = behind;
      is_image =
          subst (λ (other : Head). read_image bytes ≡ Ok ((other, saved), behind))
          (sym (ap (λ (other : ImageHead). head_of other) same))
          (image_read bytes (head_of head) (record { place = head.place; bytes = rest }) behind saved reads (read.read tt));
      read_no_further = refl;
    }

-- and was written again
pub is_formatted : (status : Status) (before left old new : Option (List ℕ)) (head : Head) → IsImageOf before left head
    → IsWritten status old new (head_bytes (with_next_session head false)) → IsFormatted status before left old new
is_formatted status before left old new head image is =
    let text : Text = head_bytes (with_next_session head false) in
    written_is status old new text is (λ s. IsWritten s old new text → IsFormatted s before left old new) (λ w. (head, image, w))
    (λ w. (head, image, w)) is

is_next_session : (n : ℕ) → nat_lt ((n + 1) % 2 ^ 24) (2 ^ 24) ≡ true
is_next_session n = let low : (n + 1) % 2 ^ 24 < 2 ^ 24 = omega arith in grind (arith, common_steps)

-- with the next session a head still has a spelling
pub next_head : (head : Head) (full : Bool) → IsHead head → IsHead (with_next_session head full)
next_head head full is = record {
  words = is.words;
  channels = is.channels;
  dies = is.dies;
  superblocks = is.superblocks;
  pages = is.pages;
  lifting = is.lifting;
  base_rows = is.base_rows;
  base_columns = is.base_columns;
  level_count = is.level_count;
  iterations = is.iterations;
  bytes = is.bytes;
  rows = is.rows;
  seed = is.seed;
  session = is_next_session head.session;
  erased = is.erased;
  programmed = is.programmed;
  spread = is.spread;
  step = is.step;
  levels = is.levels;
  entries = is.entries;
  entry_count = is.entry_count;
  faultless = is.faultless;
  weak_count = is.weak_count;
  weak_from = is.weak_from;
  weak = is.weak;
  bad_count = is.bad_count;
  bad = is.bad;
}

-- how formatting a drive may end
formatted_is : (status : Status) (before after old new : Option (List ℕ)) → IsFormatted status before after old new
    → (P : Status → Type 0) → P Done → P WriteFault → ((at : ℕ) (of : ImageFault) → P (Image at of)) → P ReadFault → P OutOfMemory
    → ((die : ℕ) → P (DieFailed die)) → P status
formatted_is Done before after old new is P done write image read memory failed = done
formatted_is WriteFault before after old new is P done write image read memory failed = write
formatted_is (Image at of) before after old new is P done write image read memory failed = image at of
formatted_is ReadFault before after old new is P done write image read memory failed = read
formatted_is OutOfMemory before after old new is P done write image read memory failed = memory
formatted_is (DieFailed die) before after old new is P done write image read memory failed = failed die
formatted_is Words before after old new is P done write image read memory failed = absurd is
formatted_is (Trace line of) before after old new is P done write image read memory failed = absurd is
formatted_is (HistoryLimit channel entries) before after old new is P done write image read memory failed = absurd is

-- dies of which none counted a fault count as those of a run
none_runs : (olds news : List DieState) → AllCountNone olds news → AllCountRuns olds news
none_runs olds news none = record {
  count_stays = none.count_stays;
  each = λ number old new was is.
      let die : CountsNone old new = none.each number old new was is in
      record {
        loads_stay = die.loads_stay;
        works_rose =
            subst (λ (count : ℕ). RoseBy 0 old.work_count count) (sym die.works_stay)
            (stays_at old.work_count greatest_count);
      };
}

pub formatted_back : (status : Status) (before after old new : Option (List ℕ)) (olds news : List DieState)
    → IsFormatted status before after old new → AreLoadedBack status olds news → AreHandedBack status olds news
formatted_back status before after old new olds news is =
    formatted_is status before after old new is (λ s. AreLoadedBack s olds news → AreHandedBack s olds news) (none_runs olds news)
    (none_runs olds news) (λ at of back. back) (λ back. back) (λ back. back) (λ die back. back)

pub formatted_takes : (status : Status) (before after old new : Option (List ℕ)) → IsFormatted status before after old new
    → status ≡ Words → ⊥
formatted_takes status before after old new is =
    formatted_is status before after old new is (λ s. s ≡ Words → ⊥) (λ same. absurd (cc)) (λ same. absurd (cc))
    (λ at of same. absurd (cc)) (λ same. absurd (cc)) (λ same. absurd (cc)) (λ die same. absurd (cc))

-- a die's dies are as they were where it has none of an image
pub written_loaded : (status : Status) (old new : Option (List ℕ)) (text : Text) (dies : List DieState)
    → IsWritten status old new text → AreLoadedBack status dies dies
written_loaded status old new text dies is =
    written_is status old new text is (λ s. AreLoadedBack s dies dies) (none_same dies) (none_same dies)

pub written_uncounted : (status : Status) (old new : Option (List ℕ)) (text : Text) (olds news : List DieState)
    → IsWritten status old new text → AllCountNone olds news → AreLoadedBack status olds news
written_uncounted status old new text olds news is none =
    written_is status old new text is (λ s. AreLoadedBack s olds news) none none

-- ---- a drive that wasn't loaded

-- a status before which a drive was loaded
stop_is : (status : Status) (before now : ℕ) → IsStop before now status → (P : Status → Type 0)
    → ((at : ℕ) (of : ImageFault) → P (Image at of)) → ((line : ℕ) (of : TraceFault) → P (Trace line of)) → P ReadFault
    → P OutOfMemory → ((die : ℕ) → P (DieFailed die)) → P status
stop_is (Image at of) before now is P image trace read memory failed = image at of
stop_is (Trace line of) before now is P image trace read memory failed = trace line of
stop_is ReadFault before now is P image trace read memory failed = read
stop_is OutOfMemory before now is P image trace read memory failed = memory
stop_is (DieFailed die) before now is P image trace read memory failed = failed die
stop_is Done before now is P image trace read memory failed = absurd is
stop_is Words before now is P image trace read memory failed = absurd is
stop_is WriteFault before now is P image trace read memory failed = absurd is
stop_is (HistoryLimit channel entries) before now is P image trace read memory failed = absurd is

pub stop_read_fault : (status : Status) (before now : ℕ) → IsStop before now status → status ≡ ReadFault → Rose before now
stop_read_fault status before now is same = subst (λ (s : Status). IsStop before now s) same is

pub stop_reads_stay : (status : Status) (before now : ℕ) → IsStop before now status → (status ≡ ReadFault → ⊥) → now ≡ before
stop_reads_stay (Image at of) before now is not = is
stop_reads_stay (Trace line of) before now is not = is
stop_reads_stay ReadFault before now is not = absurd (not refl)
stop_reads_stay OutOfMemory before now is not = is
stop_reads_stay (DieFailed die) before now is not = is
stop_reads_stay Done before now is not = absurd is
stop_reads_stay Words before now is not = absurd is
stop_reads_stay WriteFault before now is not = absurd is
stop_reads_stay (HistoryLimit channel entries) before now is not = absurd is

pub stop_writes_nothing : (status : Status) (before now : ℕ) → IsStop before now status → status ≡ WriteFault → ⊥
stop_writes_nothing status before now is =
    stop_is status before now is (λ s. s ≡ WriteFault → ⊥) (λ at of same. absurd (cc)) (λ line of same. absurd (cc))
    (λ same. absurd (cc)) (λ same. absurd (cc)) (λ die same. absurd (cc))

pub stop_loaded : (status : Status) (before now : ℕ) (olds news : List DieState) → IsStop before now status
    → AreHandedBack status olds news → AreLoadedBack status olds news
stop_loaded status before now olds news is =
    stop_is status before now is (λ s. AreHandedBack s olds news → AreLoadedBack s olds news) (λ at of back. back)
    (λ line of back. back) (λ back. back) (λ back. back) (λ die back. back)

-- what follows the head has no trace, so no fault of one
pub stop_formatted : (status : Status) (faults_before faults_now : ℕ)
    → IsStop faults_before faults_now status → StopsNoTrace status → (before after old new : Option (List ℕ))
    → IsFormatted status before after old new
stop_formatted status faults_before faults_now is no_trace before after old new =
    stop_is status faults_before faults_now is (λ s. StopsNoTrace s → IsFormatted s before after old new) (λ at of none. tt)
    (λ line of none. absurd none) (λ none. tt) (λ none. tt) (λ die none. tt) no_trace

-- ---- an image that wasn't read

pub image_read_fault : (before now : ℕ) (stop : ReadStop ImageFault) → StopHasCause before now stop → status_of_image stop ≡ ReadFault → Rose before now
image_read_fault before now (stops.Fault at fault) cause is = absurd (cc)
image_read_fault before now stops.ReadFault cause is = cause
image_read_fault before now (stops.DieFailed die) cause is = absurd cause
image_read_fault before now stops.Memory cause is = absurd (cc)

pub image_reads_stay : (before now : ℕ) (stop : ReadStop ImageFault) → StopHasCause before now stop → (status_of_image stop ≡ ReadFault → ⊥) → now ≡ before
image_reads_stay before now (stops.Fault at fault) cause not = cause
image_reads_stay before now stops.ReadFault cause not = absurd (not refl)
image_reads_stay before now (stops.DieFailed die) cause not = absurd cause
image_reads_stay before now stops.Memory cause not = cause

pub image_formatted : (before now : ℕ) (stop : ReadStop ImageFault) → StopHasCause before now stop → (was is old new : Option (List ℕ)) → IsFormatted (status_of_image stop) was is old new
image_formatted before now (stops.Fault at fault) cause was is old new = tt
image_formatted before now stops.ReadFault cause was is old new = tt
image_formatted before now (stops.DieFailed die) cause was is old new = absurd cause
image_formatted before now stops.Memory cause was is old new = tt

pub image_writes_nothing : (stop : ReadStop ImageFault) → status_of_image stop ≡ WriteFault → ⊥
image_writes_nothing (stops.Fault at fault) is = absurd (cc)
image_writes_nothing stops.ReadFault is = absurd (cc)
image_writes_nothing (stops.DieFailed die) is = absurd (cc)
image_writes_nothing stops.Memory is = absurd (cc)

pub image_loaded : (before now : ℕ) (stop : ReadStop ImageFault) → StopHasCause before now stop → (dies : List DieState)
    → AreLoadedBack (status_of_image stop) dies dies
image_loaded before now (stops.Fault at fault) cause dies = none_same dies
image_loaded before now stops.ReadFault cause dies = none_same dies
image_loaded before now (stops.DieFailed die) cause dies = absurd cause
image_loaded before now stops.Memory cause dies = tt
