-- What does the top call do for each command? `run` serves an input and prints what came of it, `save` serves one and writes the
-- image of the drive that it leaves, `format` writes the drive of an image again, blank, and `gen` writes the work of a number.
use Rattle.std.specs.Prelude.{ℕ, ◌≡◌, ◌*◌, Bool, true, false, List, Option, Some, IfSome, Ok, ⊤}
use Rattle.std.specs.Io.KnownBytes.{Appends}
use Rattle.std.specs.Option.{option_map_or}
use Rattle.channel_ends.specs.SavedImage.{IsReadAgain, saved_image}
use Rattle.complete_runs.specs.CompleteRuns.{IsComplete}
use Rattle.onfi_cmd.specs.DieState.{DieState}
use Rattle.run_laws.specs.Headline.{Headline, IsWholeRun}
use Rattle.run_laws.specs.Runs.{Run}
use Rattle.ssd_formats.specs.Fields.{Rest}
use Rattle.ssd_formats.specs.ImageContents.{ChannelImage, read_image}
use Rattle.ssd_formats.specs.ImageHead.{Head, head_bytes, with_next_session}
use Rattle.ssd_formats.specs.Input.{Input}
use Rattle.ssd_formats.specs.Numbers.{Text}
use Rattle.ssd_formats.specs.Words as words
use Rattle.ssd_formats.specs.Words.{Command, Settings, command_of}
use Rattle.ssd_geo.specs.declared.policy_view.PolicyView.{PolicyView}
use Rattle.ssd_io.specs.Pieces.{AppendsFront}
use Rattle.ssd_top.specs.Handed.{IsRunOf}
use Rattle.ssd_top.specs.HandedBack.{AllCountNone, AreHandedBack, CountsRunAndFailure}
use Rattle.ssd_top.specs.LeftDrives.{FailsBelow}
use Rattle.ssd_top.specs.Printed.{shown_text}
use Rattle.ssd_top.specs.Serving.{WasRead}
use Rattle.ssd_top.specs.declared.status.Status.{Status}
use Rattle.ssd_top.specs.declared.status.Status.TheVariants.{Done, Image, ReadFault, WriteFault, OutOfMemory, DieFailed}

-- whether the top call takes a command: a `race` isn't its own
abbrev pub takes_command : Command → Bool
takes_command (words.race settings) = false
takes_command other = true

-- whether it takes words
abbrev pub takes_words : List Text → Bool
takes_words list = option_map_or takes_command (command_of list) false

-- whether a command serves a trace, and whether words do
abbrev pub serves_trace : Command → Bool
serves_trace (words.run settings) = true
serves_trace (words.save settings) = true
serves_trace other = false

abbrev pub are_serving : List Text → Bool
are_serving list = option_map_or serves_trace (command_of list) false

-- whether a command loads a drive, and whether words are such a one
abbrev pub loads_drive : Command → Bool
loads_drive (words.run settings) = true
loads_drive (words.save settings) = true
loads_drive words.format = true
loads_drive other = false

abbrev pub are_loading : List Text → Bool
are_loading list = option_map_or loads_drive (command_of list) false

-- whether a command saves a drive, and whether words are such a one
abbrev pub saves_drive : Command → Bool
saves_drive (words.save settings) = true
saves_drive other = false

abbrev pub are_save : List Text → Bool
are_save list = option_map_or saves_drive (command_of list) false

-- a source had an input, which was read to its end. There is a run of that input, with the settings' limit of the histories:
-- its histories are lawful, each entry found room, each die counted its faults, and their text tells them; the calls are in
-- order in them, each reply is that of its entries, and each page that was recovered is the last write's. It is complete:
-- where no die counted a fault no reply tells of one, and then, as image and trace are, each write is done and each read
-- answers what its row holds. It ended so; the dies hold what the histories say; and what the settings show of it was printed
pub record PrintsRun (settings : Settings) (before after : Option (List ℕ)) (dies : List DieState)
    (views : List (Option PolicyView)) (back : List DieState) (Ended : Head → Run → Type 0) (IsPrinted : Text → Type 0)
    : Type 0 where
  pub asked : Input
  pub run : Run
  pub text : Text
  pub was_read : WasRead before after asked
  pub is_run : IsRunOf asked settings.history dies views back run
  pub headline : Headline asked.head run
  pub complete : IsComplete asked.head run
  pub ended : Ended asked.head run
  pub is_text : text ≡ shown_text settings.whole asked.head run
  pub is_printed : IsPrinted text

-- so it had, and there is a run of it, of which nothing was printed. It ended so and left these dies; and this became of the drive
-- that it left
pub record SavesRun (settings : Settings) (before after : Option (List ℕ)) (dies : List DieState)
    (views : List (Option PolicyView)) (left : List DieState) (Ended Became : Head → Run → Type 0) : Type 0 where
  pub asked : Input
  pub run : Run
  pub was_read : WasRead before after asked
  pub is_run : IsRunOf asked settings.history dies views left run
  pub headline : Headline asked.head run
  pub complete : IsComplete asked.head run
  pub ended : Ended asked.head run
  pub became : Became asked.head run

-- of the image that the drive of a run is saved as this was written; and that image is read again as what it was made of, where no
-- superblock was erased too often for an image
pub record WritesImage (IsWritten : List ℕ → Type 0) (head : Head) (run : Run) : Type 0 where
  pub is_written : IsWritten (saved_image head run)
  pub is_read_again : IsReadAgain head run

-- a source had an image with this head, and nothing was read behind it
pub record IsImageOf (before after : Option (List ℕ)) (head : Head) : Type 0 where
  pub channels : List ChannelImage
  pub rest : Rest
  pub is_image : IfSome before (λ bytes. read_image bytes ≡ Ok ((head, channels), rest))
  pub read_no_further : IfSome before (λ bytes. after ≡ Some rest.bytes)

-- the drive of an image was written again, blank and with the next session: all of it, or a front where the sink failed
abbrev pub IsFormatted : Status → Option (List ℕ) → Option (List ℕ) → Option (List ℕ) → Option (List ℕ) → Type 0
IsFormatted Done before after old new =
    (head : Head) × IsImageOf before after head × Appends old new (head_bytes (with_next_session head false))
IsFormatted WriteFault before after old new =
    (head : Head) × IsImageOf before after head × AppendsFront old new (head_bytes (with_next_session head false))
IsFormatted (Image at fault) before after old new = ⊤
IsFormatted ReadFault before after old new = ⊤
IsFormatted OutOfMemory before after old new = ⊤
IsFormatted (DieFailed die) before after old new = ⊤
IsFormatted other before after old new = ⊥

-- what became of the dies then: none counted a fault, but the one that failed as it was mounted or loaded
abbrev pub AreLoadedBack : Status → List DieState → List DieState → Type 0
AreLoadedBack Done olds news = AllCountNone olds news
AreLoadedBack WriteFault olds news = AllCountNone olds news
AreLoadedBack other olds news = AreHandedBack other olds news

-- a text was written: all of it, or a front where the sink failed
abbrev pub IsWritten : Status → Option (List ℕ) → Option (List ℕ) → Text → Type 0
IsWritten Done old new text = Appends old new text
IsWritten WriteFault old new text = AppendsFront old new text
IsWritten other old new text = ⊥

-- a status of a drive that was to be saved, after which nothing was written
abbrev pub IsUnsaved : Status → Type 0
IsUnsaved Done = ⊥
IsUnsaved WriteFault = ⊥
IsUnsaved (DieFailed die) = ⊥
IsUnsaved other = ⊤

-- a drive was to be saved that a run left with some dies, and one of them failed as it was saved
pub record FailsSaving (settings : Settings) (before after : Option (List ℕ)) (dies : List DieState)
    (views : List (Option PolicyView)) (back : List DieState) (die : ℕ) (IsWritten : List ℕ → Type 0) : Type 0 where
  pub left : List DieState
  pub saves : SavesRun settings before after dies views left IsWholeRun (WritesImage IsWritten)
  pub fails : FailsBelow (saves.asked.head.sizes.channels * saves.asked.head.sizes.dies) die left back

-- what became of the dies where a drive was to be saved: they took part in a run, and then one may have failed
abbrev pub AreSavedBack : Status → List DieState → List DieState → Type 0
AreSavedBack (DieFailed die) olds news = CountsRunAndFailure die olds news
AreSavedBack other olds news = AreHandedBack other olds news
